-- The number of bytes, one more byte at a time.
use Rattle.std.proofs.Common.{◌≡◌, ℕ, zero, suc, ◌+◌, ◌*◌, ◌/◌, ◌%◌, ◌^◌, ◌<◌, ◌≤◌, ◌⊎◌, ⊎_elim, refl, ◌∙◌, arith, add-one, bit_or}
use Rattle.std.proofs.lemmas.Nat.{or_shifted, or_comm, pow-add}
use Rattle.std.proofs.Math.Nat.{mod-eq_of_lt, mul-le-mul_right}
use Rattle.bit_laws.specs.Numbers.{little}

-- a byte at one of four places
fits : (x k : ℕ) → x < 2 ^ 8 → k < 4 → x * 2 ^ (8 * k) < 2 ^ 32
fits x zero byte within = omega arith
fits x (suc zero) byte within = omega arith
fits x (suc (suc zero)) byte within = omega arith
fits x (suc (suc (suc zero))) byte within = omega arith
fits x (suc (suc (suc (suc k)))) byte within = absurd (omega arith)

-- a byte above k bytes is added
pub byte-above : (number x k : ℕ) → number < 2 ^ (8 * k) → x < 2 ^ 8 → k < 4 → bit_or number (x * 2 ^ (8 * k) % 2 ^ 32) ≡ number + x * 2 ^ (8 * k)
byte-above number x k below byte within =
    rw (mod-eq_of_lt (fits x k byte within), or_comm number (x * 2 ^ (8 * k)), or_shifted x (8 * k) number below) (omega arith)

pub byte-above-lt : (number x k : ℕ) → number < 2 ^ (8 * k) → x < 2 ^ 8 → number + x * 2 ^ (8 * k) < 2 ^ (8 * (k + 1))
byte-above-lt number x k below byte =
    let e : 8 * (k + 1) ≡ 8 * k + 8 = omega arith in
    let p : 2 ^ (8 * k + 8) ≡ 2 ^ (8 * k) * 2 ^ 8 = pow-add 2 (8 * k) 8 in
    let m : (x + 1) * 2 ^ (8 * k) ≤ 2 ^ 8 * 2 ^ (8 * k) = mul-le-mul_right (2 ^ (8 * k)) (omega arith) in
    rw (e, p) (omega arith)

-- how many bytes an element has
pub few_bytes : (w : ℕ) → (w ≡ 8) ⊎ ((w ≡ 16) ⊎ (w ≡ 32)) → w / 8 ≤ 4
few_bytes w is =
    ⊎_elim (λ e. rw e (omega arith)) (λ other. ⊎_elim (λ e. rw e (omega arith)) (λ e. rw e (omega arith)) other) is

-- the number of k bytes and of one more
pub more-bytes : (f : ℕ → ℕ) (number k x shift : ℕ) → number ≡ little k f → number < 2 ^ (8 * k) → x ≡ f k → x < 2 ^ 8 → shift ≡ 8 → k < 4
    → (bit_or number (x * 2 ^ (shift * k) % 2 ^ 32) ≡ little (k + 1) f) × (bit_or number (x * 2 ^ (shift * k) % 2 ^ 32) < 2 ^ (8 * (k + 1)))
more-bytes f number k x shift so_far below here byte is within =
    let e : bit_or number (x * 2 ^ (shift * k) % 2 ^ 32) ≡ number + x * 2 ^ (8 * k) = rw is (byte-above number x k below byte within) in
    let more : number + x * 2 ^ (8 * k) ≡ little (k + 1) f = rw (add-one, so_far, here) refl in
    (e ∙ more, rw e (byte-above-lt number x k below byte))
