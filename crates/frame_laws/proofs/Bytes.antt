-- Registers as lists of bytes and as bits of the slices.
use Rattle.std.proofs.Common.{◌≡◌, ◌≢◌, ℕ, zero, suc, ◌+◌, ◌-◌, ◌*◌, ◌/◌, ◌%◌, ◌^◌, ◌<◌, ◌≤◌, Bool, true, false, cond, ◌&&◌, eqb, List, [], length, get_or, leb, ltb, refl, sym, ◌∙◌, ap, arith, subst, ⊎_elim}
use Rattle.std.proofs.lemmas.Bool.{cases_lt, cases_eq, eq-eqb, ne_eqb, lt-ltb, le-leb}
use Rattle.std.proofs.lemmas.Bool.Decides.{nat_tests}
use Rattle.std.specs.Int.{from_bool}
use Rattle.std.proofs.lemmas.List.{get_or_past, get_or_default}
use Rattle.std.proofs.lemmas.Nat.{div-mul-add}
use Rattle.std.proofs.Math.Nat.{mod-lt, mod-eq_of_lt}
use Rattle.bit_laws.specs.Numbers.{number, bit_of, byte_of}
use Rattle.bit_laws.proofs.Numbers.{number-lt, number-same, bit-number, number-bits}
use Rattle.bit_laws.proofs.Lists.{length-tabulate, get-tabulate, same-lists}
use Rattle.bit_rows.specs.Slices.{Slices}
use Rattle.cam_chain.specs.Views.{register_byte, register_of, registers_of}
use Rattle.steer_net.specs.Network.{bit_in}
use Rattle.element_ops.specs.Elements.{AreRegisters, byte_at, element_of, element_in, mask_bit_of, bits_of, with_elements, with_elements_in, with_mask, Registers}
use Rattle.element_ops.specs.Places.{Place, prestart, active, masked_off, tail}
use Rattle.element_ops.proofs.Bytes.{byte-place, bit-place}
use Rattle.element_ops.proofs.Reading.{element-bits}
use Rattle.element_ops.proofs.Writing.{bits-with_elements, bits-with_mask, keeps-registers}
use Rattle.micro_ir.specs.Replay.{replay}
use Rattle.micro_ir.proofs.Lift.{replay-columns}
use Rattle.frame_laws.specs.Shapes.{Shape}
use Rattle.frame_laws.specs.Programs.{program}
use Rattle.frame_laws.specs.Meaning.{outcome, place_in, element_after, written, after}
use Rattle.frame_laws.specs.Bytes.{size_of, element_of_after, registers_after, BytesLaw, HeldLaw, bit_of_after, mask_after, BitsLaw}
use Rattle.frame_laws.specs.Laws.{Holds}
use Rattle.frame_laws.proofs.Registers.{computed, frame_law}

-- ---- lists of bytes with the same bits

same_bytes : (x y : ℕ) → x < 2 ^ 8 → y < 2 ^ 8 → ((b : ℕ) → b < 8 → bit_of x b ≡ bit_of y b) → x ≡ y
same_bytes x y p q same =
    sym (mod-eq_of_lt p) ∙ sym (number-bits 8 x) ∙ number-same 8 (bit_of x) (bit_of y) same ∙ number-bits 8 y ∙ mod-eq_of_lt q

pub same_registers : (size : ℕ) (u v : List (List ℕ)) → AreRegisters size u → AreRegisters size v
    → ((r i : ℕ) → r < 32 → i < 8 * size → bits_of u r i ≡ bits_of v r i) → u ≡ v
unfolding bits_of
same_registers size u v are_u are_v same =
    let count_u : length u ≡ 32 = are_u.count in
    let count_v : length v ≡ 32 = are_v.count in
    same-lists u v (count_u ∙ sym count_v) (λ r d inside.
    let register : r < 32 = omega arith in
    let long_u : length (get_or u r []) ≡ size = are_u.sizes r register in
    let long_v : length (get_or v r []) ≡ size = are_v.sizes r register in
    get_or_default u r d [] inside
    ∙ same-lists (get_or u r []) (get_or v r []) (long_u ∙ sym long_v) (λ j x within.
    get_or_default (get_or u r []) j x 0 within
    ∙ same_bytes (byte_at u r j) (byte_at v r j) (are_u.bytes r j) (are_v.bytes r j) (λ b below.
    let z : (8 * j + b) / 8 ≡ j = byte-place j b below in
    let y : (8 * j + b) % 8 ≡ b = bit-place j b below in
    rw (z, y) at (same r (8 * j + b) register (omega arith)))
    ∙ get_or_default (get_or v r []) j 0 x (omega arith))
    ∙ get_or_default v r [] d (omega arith))

-- ---- the registers that slices hold

pub length-registers_of : (s : Slices) → length (registers_of s) ≡ 32
unfolding registers_of
length-registers_of s = length-tabulate 32 (register_of s)

pub register-here : (s : Slices) (r : ℕ) → r < 32 → get_or (registers_of s) r [] ≡ register_of s r
unfolding registers_of
register-here s r inside = get-tabulate 32 (register_of s) r [] inside

pub byte-here : (s : Slices) (r j : ℕ) → r < 32 → j < 4 * s.columns → byte_at (registers_of s) r j ≡ register_byte s r j
byte-here s r j register inside =
    ap (λ (bytes : List ℕ). get_or bytes j 0) (register-here s r register)
    ∙ get-tabulate (4 * s.columns) (register_byte s r) j 0 inside

pub are-registers_of : (s : Slices) → AreRegisters (4 * s.columns) (registers_of s)
are-registers_of s = record {
  count = length-registers_of s;
  sizes = λ r inside. ap (λ (bytes : List ℕ). length bytes) (register-here s r inside) ∙ length-tabulate (4 * s.columns) (register_byte s r);
  bytes = λ r j.
      ⊎_elim
      (λ (register : r < 32).
      ⊎_elim
      (λ (within : j < 4 * s.columns). rw (byte-here s r j register within) (number-lt 8 (λ b. s.bit (8 * (j % 4) + b) r (j / 4))))
      (λ (past : 4 * s.columns ≤ j).
      let short : length (register_of s r) ≤ j = omega (arith, length-tabulate (4 * s.columns) (register_byte s r)) in
      rw (register-here s r register, get_or_past (register_of s r) j 0 short) (omega arith))
      (cases_lt j (4 * s.columns)))
      (λ (past : 32 ≤ r).
      let short : length (registers_of s) ≤ r = omega (arith, length-registers_of s) in
      rw (get_or_past (registers_of s) r [] short) (omega arith))
      (cases_lt r 32);
}

-- their bits
pub bits-registers_of : (s : Slices) (r i : ℕ) → r < 32 → i < 32 * s.columns → bits_of (registers_of s) r i ≡ bit_in s r i
unfolding bits_of
bits-registers_of s r i register inside =
    let within : i / 8 < 4 * s.columns = omega arith in
    let low : i % 8 < 8 = mod-lt i (omega arith) in
    let column : i / 8 / 4 ≡ i / 32 = omega arith in
    let sub : 8 * (i / 8 % 4) + i % 8 ≡ i % 32 = omega arith in
    rw (byte-here s r (i / 8) register within)
    (bit-number 8 (λ b. s.bit (8 * (i / 8 % 4) + b) r (i / 8 / 4)) (i % 8) low ∙ rw (column, sub, bit_in) refl)

-- ---- the frame's law

bytes_small : (i : Shape) (value : ℕ → ℕ) (v : List (List ℕ)) → AreRegisters (size_of i) v → AreRegisters (size_of i) (registers_after i value v)
unfolding with_elements
bytes_small i value v are =
    keeps-registers (size_of i) v _ are (λ q j. chosen (leb i.vd q && ltb q (i.vd + i.registers)) _ _ (byte_at v q j) (are.bytes q j))
  where
    chosen : (t : Bool) (z k x : ℕ) → x < 2 ^ 8 → cond t (byte_of z k) x < 2 ^ 8
    chosen true z k x small = mod-lt (z / 2 ^ (8 * k)) (omega arith)
    chosen false z k x small = small

-- the elements after the instruction are the same, read as bits and read as bytes
same_elements : (i : Shape) (value : ℕ → ℕ) (v : List (List ℕ)) (size : ℕ) → i.vlen ≡ 8 * size → i.vlen / 8 ≡ size → 0 < size → 8 * (i.width / 8) ≡ i.width → ((q j : ℕ) → byte_at v q j < 2 ^ 8)
    → ((e : ℕ) → e < i.len → i.result (bits_of v) e (mask_bit_of v 0 e) ≡ value e) → element_after i (bits_of v) ≡ element_of_after i value v
unfolding element_after element_of_after bits_of
same_elements i value v size long by pos whole bytes results = λ x e. each e x
  where
    each : (e : ℕ) → element_after i (bits_of v) e ≡ element_of_after i value v e
    each e =
        let place = place_in i (mask_bit_of v 0) e in
        let old : element_in i.vlen (bits_of v) i.vd i.width e ≡ element_of (size_of i) v i.vd i.width e =
        ap (λ (n : ℕ). element_in n (bits_of v) i.vd i.width e) long ∙ sym (element-bits size v i.vd i.width e pos bytes whole)
        ∙ ap (λ (n : ℕ). element_of n v i.vd i.width e) (sym by) in
        computed i (mask_bit_of v 0) e (i.result (bits_of v) e (mask_bit_of v 0 e)) (value e) (element_in i.vlen (bits_of v) i.vd i.width e) (results e)
        ∙ ap (λ (z : ℕ). outcome i (value e) z place) old

resized : (a b : ℕ) (v : List (List ℕ)) → a ≡ b → AreRegisters a v → AreRegisters b v
resized a b v e are = subst (λ n. AreRegisters n v) e are

pub held_law : HeldLaw
unfolding written
held_law i value s t cols vlen pos some whole results holds =
    let v = registers_of s in
    let size = 4 * s.columns in
    let elements = element_of_after i value v in
    let long : i.vlen ≡ 8 * size = omega arith in
    let by : size_of i ≡ size = omega arith in
    let are : AreRegisters size v = are-registers_of s in
    let are_i : AreRegisters (size_of i) v = resized size (size_of i) v (sym by) are in
    let are_after : AreRegisters size (registers_after i value v) = resized (size_of i) size (registers_after i value v) by (bytes_small i value v are_i) in
    let are_t : AreRegisters size (registers_of t) = resized (4 * t.columns) size (registers_of t) (ap (λ (n : ℕ). 4 * n) cols) (are-registers_of t) in
    let same : element_after i (bits_of v) ≡ elements = same_elements i value v size long by (omega arith) whole are.bytes results in
    same_registers size (registers_of t) (registers_after i value v) are_t are_after (λ r k register inside.
    let in_t : k < 32 * t.columns = rw cols (omega arith) in
    let in_v : k < i.vlen = omega arith in
    bits-registers_of t r k register in_t
    ∙ holds r k register in_v
    ∙ ap (λ (f : ℕ → ℕ). with_elements_in i.vlen (bits_of v) i.vd i.registers i.width f r k) same
    ∙ ap (λ (n : ℕ). with_elements_in n (bits_of v) i.vd i.registers i.width elements r k) long
    ∙ sym (bits-with_elements size v i.vd i.registers i.width elements r k are whole pos register inside)
    ∙ ap (λ (n : ℕ). bits_of (with_elements n v i.vd i.registers i.width elements) r k) (sym by))

-- slices hold their own registers
pub holds-own : (s : Slices) (vlen : ℕ) → vlen ≡ 32 * s.columns → Holds vlen s (bits_of (registers_of s))
holds-own s vlen long r at x h = sym (bits-registers_of s r at x (rw long at h))

pub bytes_law : BytesLaw
bytes_law i b source body value s legal bounded real some whole results =
    held_law i value s (replay (program i b body) s) (replay-columns (program i b body) s) legal.framed.vlen legal.framed.width some whole results
    (frame_law i b source body (bits_of (registers_of s)) s legal bounded real (holds-own s i.vlen legal.framed.vlen))

-- ---- elements of one bit

-- bit 0 of a number below 2
lowest-bit : (z : ℕ) → z < 2 → bit_of z 0 ≡ eqb z 1
lowest-bit zero small = refl
lowest-bit (suc zero) small = refl
lowest-bit (suc (suc z)) small = absurd (omega arith)

from_bool-small : (b : Bool) → from_bool b < 2
from_bool-small true = omega arith
from_bool-small false = omega arith

-- what becomes of an element of one bit is below 2
outcome-small : (i : Shape) (z old : ℕ) (at : Place) → i.width ≡ 1 → old < 2 → outcome i z old at < 2
outcome-small i z old prestart one small = small
outcome-small i z old active one small = rw one (mod-lt z (omega arith))
outcome-small i z old masked_off one small = rw one (chosen (i.ones && i.vma) old small)
  where
    chosen : (t : Bool) (x : ℕ) → x < 2 → cond t 1 x < 2
    chosen true x below = omega arith
    chosen false x below = below
outcome-small i z old tail one small = rw one (chosen (i.ones && i.tail) old small)
  where
    chosen : (t : Bool) (x : ℕ) → x < 2 → cond t 1 x < 2
    chosen true x below = omega arith
    chosen false x below = below

-- an element of one bit
pub one-bit : (vlen : ℕ) (v : Registers) (r e : ℕ) → e < vlen → element_in vlen v r 1 e ≡ from_bool (v r e)
unfolding element_in
one-bit vlen v r e below =
    let place : e * 1 + 0 ≡ e = omega arith in
    let first : e / vlen ≡ 0 = div_small e vlen below in
    let here : e % vlen ≡ e = mod-eq_of_lt below in
    let register : r + 0 ≡ r = omega arith in
    rw (place, first, here, register) (bit (v r e))
  where
    bit : (b : Bool) → 0 + cond b (2 ^ 0) 0 ≡ from_bool b
    bit true = refl
    bit false = refl

    div_small : (a b : ℕ) → a < b → a / b ≡ 0
    div_small a b l = let z : 0 * b + a ≡ a = omega arith in rw (← z) (div-mul-add 0 b a l)

mask_bytes : (size : ℕ) (v : List (List ℕ)) (r : ℕ) (bit : ℕ → Bool) → AreRegisters size v → AreRegisters size (with_mask v r bit)
unfolding with_mask
mask_bytes size v r bit are =
    keeps-registers size v _ are (λ q j. chosen (eqb q r) (λ b. bit (8 * j + b)) (byte_at v q j) (are.bytes q j))
  where
    chosen : (t : Bool) (f : ℕ → Bool) (x : ℕ) → x < 2 ^ 8 → cond t (number 8 f) x < 2 ^ 8
    chosen true f x small = number-lt 8 f
    chosen false f x small = small

-- an element of one bit after the instruction, read as bits and read as bytes
same_bit : (i : Shape) (value : ℕ → ℕ) (v : List (List ℕ)) (e : ℕ) → i.width ≡ 1 → e < i.vlen → (e < i.len → i.result (bits_of v) e (mask_bit_of v 0 e) ≡ value e)
    → element_after i (bits_of v) e ≡ bit_of_after i value v e
unfolding element_after bit_of_after bits_of
same_bit i value v e one inside result =
    let at = place_in i (mask_bit_of v 0) e in
    let old : element_in i.vlen (bits_of v) i.vd i.width e ≡ from_bool (mask_bit_of v i.vd e) =
    ap (λ (n : ℕ). element_in i.vlen (bits_of v) i.vd n e) one ∙ one-bit i.vlen (bits_of v) i.vd e inside in
    computed i (mask_bit_of v 0) e (i.result (bits_of v) e (mask_bit_of v 0 e)) (value e) (element_in i.vlen (bits_of v) i.vd i.width e) result
    ∙ ap (λ (z : ℕ). outcome i (value e) z at) old

-- and it is a bit
bit-small : (i : Shape) (value : ℕ → ℕ) (v : List (List ℕ)) (e : ℕ) → i.width ≡ 1 → bit_of_after i value v e < 2
unfolding bit_of_after
bit-small i value v e one = outcome-small i (value e) (from_bool (mask_bit_of v i.vd e)) (place_in i (mask_bit_of v 0) e) one (from_bool-small (mask_bit_of v i.vd e))

-- registers other than the one of a group of one
pub not_in_one : (d n r : ℕ) → n ≡ 1 → r ≢ d → (leb d r && ltb r (d + n)) ≡ false
not_in_one d n r one other = grind (arith, nat_tests)

-- a bit of the registers after an instruction whose elements are bits of vd
pub after-mask : (i : Shape) (value : ℕ → ℕ) (v : List (List ℕ)) (r k : ℕ) → i.width ≡ 1 → i.registers ≡ 1 → k < i.vlen → (k < i.len → i.result (bits_of v) k (mask_bit_of v 0 k) ≡ value k)
    → after i (bits_of v) r k ≡ cond (eqb r i.vd) (eqb (bit_of_after i value v k) 1) (bits_of v r k)
unfolding written with_elements_in
after-mask i value v r k one single inside result =
    ⊎_elim
    (λ (here : r ≡ i.vd).
    let z : i.vd - i.vd ≡ 0 = omega arith in
    let p : 0 * i.vlen + k ≡ k = omega arith in
    let d1 : k / 1 ≡ k = omega arith in
    let m1 : k % 1 ≡ 0 = omega arith in
    let d : k / i.width ≡ k = ap (λ (n : ℕ). k / n) one ∙ d1 in
    let m : k % i.width ≡ 0 = ap (λ (n : ℕ). k % n) one ∙ m1 in
    rw (here, eq-eqb i.vd i.vd refl, le-leb i.vd i.vd (omega arith), lt-ltb i.vd (i.vd + i.registers) (omega arith), z, p, d, m, same_bit i value v k one inside result)
    (lowest-bit (bit_of_after i value v k) (bit-small i value v k one)))
    (λ (other : r ≢ i.vd). rw (ne_eqb r i.vd other, not_in_one i.vd i.registers r single other) refl)
    (cases_eq r i.vd)

pub bits_law : BitsLaw
bits_law i b source body value s legal bounded real some one single results =
    let v = registers_of s in
    let t = replay (program i b body) s in
    let size = 4 * s.columns in
    let elements = bit_of_after i value v in
    let cols : t.columns ≡ s.columns = replay-columns (program i b body) s in
    let vlen : i.vlen ≡ 32 * s.columns = legal.framed.vlen in
    let long : i.vlen ≡ 8 * size = omega arith in
    let are : AreRegisters size v = are-registers_of s in
    let are_t : AreRegisters size (registers_of t) = resized (4 * t.columns) size (registers_of t) (ap (λ (n : ℕ). 4 * n) cols) (are-registers_of t) in
    same_registers size (registers_of t) (mask_after i value v) are_t (mask_bytes size v i.vd _ are) (λ r k register inside.
    let in_t : k < 32 * t.columns = rw cols (omega arith) in
    let in_v : k < i.vlen = omega arith in
    bits-registers_of t r k register in_t
    ∙ frame_law i b source body (bits_of v) s legal bounded real (λ r at x h. sym (bits-registers_of s r at x (rw vlen at h))) r k register in_v
    ∙ after-mask i value v r k one single in_v (results k)
    ∙ sym (bits-with_mask size v i.vd (λ e. eqb (bit_of_after i value v e) 1) r k are register inside))
