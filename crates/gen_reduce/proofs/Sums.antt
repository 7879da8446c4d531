-- Counts that add: each tag adds what its bit is worth, and the number follows the sum of the elements.
use Rattle.std.proofs.Common.{◌≡◌, ◌≢◌, ℕ, zero, suc, ◌+◌, ◌-◌, ◌*◌, ◌/◌, ◌^◌, ◌<◌, ◌≤◌, Bool, true, false, cond, ◌&&◌, not, eqb, ltb, List, [], ◌∷◌, refl, sym, ◌∙◌, ap, arith}
use mathlib.Core.Bool.{beq}
use Rattle.std.proofs.lemmas.Bool.{false≢true, lt-ltb, le-ltb, eq-eqb, ne_eqb}
use Rattle.std.proofs.Math.Nat.{add-mod, mod-mod, add-mul-mod_self_right, mul-le-mul, div-le_self, pow-suc}
use Rattle.std.proofs.Math.Pow.{pow_mono, mod-mod-pow}
use Rattle.std.proofs.lemmas.Nat.{pow-add, pow_pos}
use Rattle.bit_laws.specs.Numbers.{number, low}
use Rattle.bit_laws.specs.Signed.{extended}
use Rattle.bit_laws.proofs.Numbers.{number-lt}
use Rattle.bit_rows.specs.Slices.{Slices}
use Rattle.cam_chain.specs.Slices.{searched}
use Rattle.fold_laws.specs.Folds.{total}
use Rattle.row_counts.proofs.Chosen.{fold-map}
use Rattle.fold_laws.proofs.Totals.{total-same}
use Rattle.reduce_tree.specs.Tags.{tags_in}
use Rattle.reduce_tree.specs.Weights.{num_after}
use Rattle.reduce_tree.specs.declared.weights.How.{How}
use Rattle.reduce_tree.specs.declared.weights.How.TheVariants.{Sum, Less}
use Rattle.steer_net.specs.Moves.{per_row}
use Rattle.micro_ir.specs.Replay.{replay}
use Rattle.micro_ir.specs.WorkRows.{active_row}
use Rattle.micro_ir.proofs.Lift.{replay-columns}
use Rattle.micro_ir.proofs.Lists.{replay-append}
use Rattle.row_views.specs.Lists.{lane, count_bit}
use Rattle.row_views.specs.Views.{view}
use Rattle.row_views.proofs.Tags.{lane-count}
use Rattle.row_counts.specs.declared.counts.Counting.{Counting}
use Rattle.row_counts.specs.Lists.{how_at, count_bits}
use Rattle.row_counts.proofs.Folding.{Follows}
use Rattle.row_counts.proofs.Groups.{Takes}
use Rattle.row_counts.proofs.Rows.{bits-stay, same-view}
use Rattle.row_counts.proofs.Sums.{worth_of, total-worth, worth-number, worth-same, worth-last, fold-total}
use Rattle.gen_reduce.specs.Kinds.{counting}
use Rattle.gen_reduce.proofs.MaskLaws.{count-few}

-- ---- numbers at so many bits

low-add : (n a b : ℕ) → low n (low n a + b) ≡ low n (a + b)
low-add n a b = add-mod (low n a) b (2 ^ n) ∙ rw (mod-mod a (2 ^ n)) (sym (add-mod a b (2 ^ n)))

low-sum : (n a b c : ℕ) → low n a ≡ low n b → low n (a + c) ≡ low n (b + c)
low-sum n a b c same = add-mod a c (2 ^ n) ∙ rw same (sym (add-mod b c (2 ^ n)))

-- 2^64 is a multiple of 2 to fewer bits
multiple : (n : ℕ) → n ≤ 64 → 2 ^ (64 - n) * 2 ^ n ≡ 2 ^ 64
multiple n most = let e : 64 - n + n ≡ 64 = omega arith in sym (pow-add 2 (64 - n) n) ∙ ap (λ (k : ℕ). 2 ^ k) e

low-more : (n a c : ℕ) → n ≤ 64 → low n (a + c * 2 ^ 64) ≡ low n a
low-more n a c most =
    let e : a + c * 2 ^ 64 ≡ a + c * 2 ^ (64 - n) * 2 ^ n = omega (arith, ap (λ (x : ℕ). c * x) (multiple n most)) in
    ap (low n) e ∙ add-mul-mod_self_right a (c * 2 ^ (64 - n)) (2 ^ n)

-- ---- what a tag is worth

-- modulo 2^64
abbrev worth : How → (j : ℕ) → ℕ
worth Less j = 2 ^ 64 - 2 ^ j
worth _ j = 2 ^ j

abbrev Adds : How → Type 0
Adds Sum = Unit {0}
Adds Less = Unit {0}
Adds _ = true ≡ false

num-worth : (n : ℕ) (how : How) (num c j : ℕ) → Adds how → n ≤ 64 → j ≤ 64 → c * 2 ^ j ≤ 2 ^ 64 → low n (num_after how num c j) ≡ low n (num + c * worth how j)
num-worth n Sum num c j adds most bit few = let e : 64 - n + n ≡ 64 = omega arith in rw e at (mod-mod-pow (num + c * 2 ^ j) (64 - n) n)
num-worth n Less num c j adds most bit few =
    let a = num + (2 ^ 64 - c * 2 ^ j) in
    let e : 64 - n + n ≡ 64 = omega arith in
    let p : 2 ^ j ≤ 2 ^ 64 = pow_mono bit in
    let x : c * (2 ^ 64 - 2 ^ j) + c * 2 ^ j ≡ c * 2 ^ 64 = apart c (2 ^ 64 - 2 ^ j) (2 ^ j) (2 ^ 64) (omega arith) in
    let same : a + c * 2 ^ 64 ≡ num + c * (2 ^ 64 - 2 ^ j) + 1 * 2 ^ 64 = omega (arith, x, few) in
    (rw e at (mod-mod-pow a (64 - n) n))
    ∙ sym (low-more n a c most) ∙ ap (low n) same ∙ low-more n (num + c * (2 ^ 64 - 2 ^ j)) 1 most
  where
    apart : (c x r p : ℕ) → x + r ≡ p → c * x + c * r ≡ c * p
    apart c x r p e = rw (← e) (omega arith)
num-worth n _ num c j adds most bit few = absurd (false≢true (sym adds))

-- ---- a row

-- what a tag of each bit is worth
abbrev worth_at : (how top : How) (w j : ℕ) → ℕ
worth_at how top w j = worth (how_at (counting true how top) w j) j

adds_at : (how top : How) (b : Bool) → Adds how → Adds top → Adds (cond b top how)
adds_at how top true adds adds_top = adds_top
adds_at how top false adds adds_top = adds

-- how many active elements have a 1 at bit j
abbrev ones_at : (w row : ℕ) → Slices → (j : ℕ) → ℕ
ones_at w row s j = total (per_row w s) (λ p. cond (view w s p active_row j && view w s p row j) 1 0)

beq_true : (b : Bool) → beq b true ≡ b
beq_true true = refl
beq_true false = refl

-- no count comes near 2^64
count-bound : (columns w c j : ℕ) → columns ≤ 8192 → c ≤ columns * (32 / w) → j ≤ 32 → c * 2 ^ j ≤ 2 ^ 64
count-bound columns w c j few most bit =
    let lanes : 32 / w ≤ 32 = div-le_self 32 w in
    let p : 2 ^ j ≤ 2 ^ 32 = pow_mono bit in
    let a : columns * (32 / w) ≤ 8192 * 32 = mul-le-mul few lanes in
    let b : c ≤ 2 ^ 18 = omega (arith, most, a) in
    let d : c * 2 ^ j ≤ 2 ^ 18 * 2 ^ 32 = mul-le-mul b p in
    omega (arith, d)

-- the control number after the first n bits
bits-num : (m w row : ℕ) (how top : How) (s : Slices) → Adds how → Adds top → m ≤ 64 → 0 < w → w ≤ 32 → 32 / w * w ≡ 32 → s.columns ≤ 8192 → (n : ℕ) → n ≤ w
    → low m (replay (count_bits w row (counting true how top) n) s).num ≡ low m (s.num + total n (λ j. ones_at w row s j * worth_at how top w j))
unfolding count_bits replay total
bits-num m w row how top s adds adds_top most pos small lanes few zero le = let e : s.num + 0 ≡ s.num = omega arith in rw e refl
bits-num m w row how top s adds adds_top most pos small lanes few (suc n) le =
    let c : Counting = counting true how top in
    let before = count_bits w row c n in
    let t : Slices = replay before s in
    let cols : t.columns ≡ s.columns = replay-columns before s in
    let keys : List (ℕ × Bool) = (active_row, true) ∷ (row, true) ∷ [] in
    let sum : ℕ = total n (λ j. ones_at w row s j * worth_at how top w j) in
    let ones : ℕ = ones_at w row s n in
    let tags : tags_in (lane w n) (searched (lane w n) keys false t) ≡ ones =
    lane-count w n active_row row true t pos lanes le
    ∙ ap (λ (x : ℕ). total (x * (32 / w)) (λ p. cond (view w t p active_row n && beq (view w t p row n) true) 1 0)) cols
    ∙ total-same (per_row w s) _ _ (λ p l. rw (same-view w s t p (bits-stay w row c n s), beq_true (view w s p row n)) refl) in
    let bound : ones * 2 ^ n ≤ 2 ^ 64 = count-bound s.columns w ones n few (count-few (per_row w s) (λ p. view w s p active_row n && view w s p row n)) (omega arith) in
    ap (λ (z : Slices). low m z.num) (replay-append before (count_bit w active_row row true (how_at c w n) n) s)
    ∙ ap (λ (x : ℕ). low m (num_after (how_at c w n) t.num x n)) tags
    ∙ num-worth m (how_at c w n) t.num ones n (adds_at how top (eqb n (w - 1)) adds adds_top) most (omega arith) bound
    ∙ low-sum m t.num (s.num + sum) (ones * worth_at how top w n) (bits-num m w row how top s adds adds_top most pos small lanes few n (omega arith))
    ∙ ap (low m) (parts s.num sum (ones * worth_at how top w n))
  where
    parts : (a b c : ℕ) → a + b + c ≡ a + (b + c)
    parts a b c = omega arith

-- Counting a row adds its active elements, where what the bits of one are worth is the element as it is extended.
sum-takes : (w wide : ℕ) (how top : How) (extend : ℕ → ℕ) → Adds how → Adds top → 0 < w → w ≤ 32 → 32 / w * w ≡ 32 → wide ≤ 64
    → ((bits : ℕ → Bool) → low wide (worth_of w (worth_at how top w) bits) ≡ low wide (extend (number w bits)))
    → Takes w (counting true how top) (low wide) (λ a e. low wide (a + e)) extend
unfolding Takes
sum-takes w wide how top extend adds adds_top pos small lanes most worths row active s few gate =
    let per = per_row w s in
    let el : ℕ → ℕ → Bool = λ p. view w s p row in
    let f : ℕ → ℕ = λ p. worth_of w (worth_at how top w) (el p) in
    let g : ℕ → ℕ = λ p. extend (number w (el p)) in
    bits-num wide w row how top s adds adds_top most pos small lanes few w (omega arith)
    ∙ ap (λ (x : ℕ). low wide (s.num + x))
    (total-same w _ _ (λ j l. ap (λ (x : ℕ). x * worth_at how top w j) (total-same per _ _ (λ p a. rw (gate p j a l) refl)))
    ∙ total-worth w per (worth_at how top w) active el)
    ∙ ap (low wide) (turned s.num (total per (λ p. cond (active p) (f p) 0)) ∙ sym (fold-total s.num active f per))
    ∙ fold-map (low wide) (λ a e. a + e) (λ a e. low wide (a + e)) s.num active f g per (λ a k l.
    add-mod a (f k) (2 ^ wide) ∙ rw (worths (el k)) (sym (add-mod a (g k) (2 ^ wide))) ∙ sym (low-add wide a (g k)))
  where
    turned : (a b : ℕ) → a + b ≡ b + a
    turned a b = omega arith

-- ---- what the bits of an element are worth

plain-worth : (w : ℕ) (bits : ℕ → Bool) → worth_of w (worth_at Sum Sum w) bits ≡ number w bits
plain-worth w bits = worth-same w (worth_at Sum Sum w) (λ j. 2 ^ j) bits (λ j l. each (eqb j (w - 1)) j) ∙ worth-number w bits
  where
    each : (b : Bool) (j : ℕ) → worth (cond b Sum Sum) j ≡ 2 ^ j
    each true j = refl
    each false j = refl

-- where the highest bit counts the other way, the number with its sign
signed-worth : (w wide : ℕ) (bits : ℕ → Bool) → 0 < w → w ≤ wide → wide ≤ 64 → low wide (worth_of w (worth_at Sum Less w) bits) ≡ low wide (extended true w wide (number w bits))
signed-worth zero wide bits pos le most = absurd (omega arith)
signed-worth (suc m) wide bits pos le most =
    let last : suc m - 1 ≡ m = omega arith in
    let rest = number m bits in
    let below : rest < 2 ^ m = number-lt m bits in
    let high : worth_at Sum Less (suc m) m ≡ 2 ^ 64 - 2 ^ m = rw (last, eq-eqb m m refl) refl in
    let others : worth_of m (worth_at Sum Less (suc m)) bits ≡ rest =
    worth-same m (worth_at Sum Less (suc m)) (λ j. 2 ^ j) bits (λ j l. let n : j ≢ m = omega arith in rw (last, ne_eqb j m n) refl) ∙ worth-number m bits in
    ap (low wide) (worth-last m (worth_at Sum Less (suc m)) bits)
    ∙ rw (others, high, last) (by_sign (bits m) rest below)
  where
    one_less : (k p : ℕ) → 0 < k → (k - 1) * p + p ≡ k * p
    one_less zero p some = absurd (omega arith)
    one_less (suc k) p some = let e : suc k - 1 ≡ k = omega arith in rw e (omega arith)

    by_sign : (b : Bool) (rest : ℕ) → rest < 2 ^ m
        → low wide (rest + cond b (2 ^ 64 - 2 ^ m) 0)
        ≡ low wide (cond (not (ltb (rest + cond b (2 ^ m) 0) (2 ^ m))) (rest + cond b (2 ^ m) 0 + (2 ^ wide - 2 ^ suc m)) (rest + cond b (2 ^ m) 0))
    by_sign false rest below = let z : rest + 0 ≡ rest = omega arith in rw (z, lt-ltb rest (2 ^ m) below) refl
    by_sign true rest below =
        let p : 2 ^ suc m ≤ 2 ^ wide = pow_mono le in
        let q : 2 ^ wide ≤ 2 ^ 64 = pow_mono most in
        let d : 2 ^ suc m ≡ 2 ^ m * 2 = pow-suc 2 m in
        let k : ℕ = 2 ^ (64 - wide) in
        let whole : k * 2 ^ wide ≡ 2 ^ 64 = multiple wide most in
        let some : 0 < k = pow_pos (64 - wide) in
        let less : (k - 1) * 2 ^ wide + 2 ^ wide ≡ k * 2 ^ wide = one_less k (2 ^ wide) some in
        let e : rest + (2 ^ 64 - 2 ^ m) ≡ rest + 2 ^ m + (2 ^ wide - 2 ^ suc m) + (k - 1) * 2 ^ wide = omega (arith, p, q, d, whole, less) in
        rw (le-ltb (rest + 2 ^ m) (2 ^ m) (omega arith)) (ap (low wide) e ∙ add-mul-mod_self_right (rest + 2 ^ m + (2 ^ wide - 2 ^ suc m)) (k - 1) (2 ^ wide))

-- ---- sums

-- The low bits of the control number follow the sum of the elements, each as it is extended.
sum-follows : (w wide : ℕ) (top : How) (extend : ℕ → ℕ) → Adds top → 0 < w → w ≤ 32 → 32 / w * w ≡ 32 → 0 < wide → wide ≤ 32 → 32 / wide * wide ≡ 32
    → ((bits : ℕ → Bool) → low wide (worth_of w (worth_at Sum top w) bits) ≡ low wide (extend (number w bits)))
    → Follows (λ a e. a + e) extend w wide 0 (counting true Sum top) (counting true Sum Sum) (low wide)
sum-follows w wide top extend adds pos small lanes wide_pos wide_small wide_lanes worths = record {
  take = λ a e. low wide (a + e);
  value = extend;
  first_value = λ x. x;
  group = sum-takes w wide Sum top extend tt adds pos small lanes (omega arith) worths;
  first = sum-takes wide wide Sum Sum (λ x. x) tt tt wide_pos wide_small wide_lanes (omega arith) (λ bits. ap (low wide) (plain-worth wide bits));
  turn = λ a e f. low-add wide (a + e) f ∙ ap (low wide) (turned a e f) ∙ sym (low-add wide (a + f) e);
  begins = λ x. low-add wide 0 x ∙ ap (low wide) (zero_plus x);
  steps = λ a e. sym (low-add wide a (extend e));
}
  where
    turned : (a e f : ℕ) → a + e + f ≡ a + f + e
    turned a e f = omega arith

    zero_plus : (x : ℕ) → 0 + x ≡ x
    zero_plus x = omega arith

pub plain-follows : (w wide : ℕ) → 0 < w → w ≤ 32 → 32 / w * w ≡ 32 → 0 < wide → wide ≤ 32 → 32 / wide * wide ≡ 32
    → Follows (λ a e. a + e) (λ e. e) w wide 0 (counting true Sum Sum) (counting true Sum Sum) (low wide)
plain-follows w wide pos small lanes wide_pos wide_small wide_lanes =
    sum-follows w wide Sum (λ e. e) tt pos small lanes wide_pos wide_small wide_lanes (λ bits. ap (low wide) (plain-worth w bits))

pub signed-follows : (w wide : ℕ) → 0 < w → w ≤ 32 → 32 / w * w ≡ 32 → w ≤ wide → wide ≤ 32 → 32 / wide * wide ≡ 32
    → Follows (λ a e. a + e) (extended true w wide) w wide 0 (counting true Sum Less) (counting true Sum Sum) (low wide)
signed-follows w wide pos small lanes le wide_small wide_lanes =
    sum-follows w wide Less (extended true w wide) tt pos small lanes (omega arith) wide_small wide_lanes (λ bits. signed-worth w wide bits pos le (omega arith))
