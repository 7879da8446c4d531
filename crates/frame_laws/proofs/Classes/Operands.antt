-- Operands in the slices and in the registers.
use Rattle.std.proofs.Common.{◌≡◌, ℕ, ◌+◌, ◌*◌, ◌/◌, ◌%◌, ◌^◌, ◌<◌, ◌≤◌, suc, true, List, refl, sym, ◌∙◌, ap, arith}
use Rattle.std.proofs.lemmas.Bool.{eq-eqb}
use Rattle.std.proofs.lemmas.Nat.{div-mul-add, mod-mul-add, div-add-mod'}
use Rattle.std.proofs.Math.Nat.{mul-le-mul_right, mod-lt}
use Rattle.bit_laws.specs.Numbers.{number, bit_of}
use Rattle.bit_laws.specs.Signed.{extended}
use Rattle.bit_laws.proofs.Numbers.{number-same, number-bits}
use Rattle.bit_rows.specs.Slices.{Slices}
use Rattle.cam_chain.specs.Views.{registers_of}
use Rattle.steer_net.specs.Network.{bit_in}
use Rattle.element_ops.specs.Elements.{Registers, element_in, bits_of, byte_at}
use Rattle.element_ops.proofs.Reading.{element-bits}
use Rattle.micro_ir.specs.Steps.{element}
use Rattle.micro_ir.specs.WorkRows.{scalar_row}
use Rattle.micro_ir.proofs.Lift.{element-inside}
use Rattle.frame_laws.specs.Shapes.{Shape, first_of, element_number}
use Rattle.frame_laws.specs.Realising.{Splatted}
use Rattle.frame_laws.specs.Laws.{SameAt}
use Rattle.frame_laws.specs.Bytes.{size_of}
use Rattle.frame_laws.proofs.Elements.{bit_place, element-placed}
use Rattle.frame_laws.proofs.Bytes.{are-registers_of}
use Rattle.frame_laws.specs.Classes.Operands.{Operand, group, scalar, narrow, operand_number, operand_of, row_of, is_read}

-- the operand stands in its row for register g as it is: a register, or the scalar that is put into its row
abbrev pub IsThere : Shape → Operand → (g : ℕ) → Type 0
IsThere i (group r) g = r + g < 32
IsThere i scalar g = (i.splat ≡ true) × (i.scalar_width ≡ i.width)
IsThere i (narrow signed by n r row) g = ⊥

-- the slices hold these registers
abbrev pub Agrees : Shape → Slices → Registers → Type 0
Agrees i s v = (q at : ℕ) → q < 32 → at < i.vlen → bit_in s q at ≡ v q at

-- what stands in an operand's row at an element is the operand there
pub operand-here : (op : Operand) (i : Shape) (g k col : ℕ) (s : Slices) (v : Registers) → 0 < i.width → 32 / i.width * i.width ≡ 32 → i.vlen ≡ 32 * s.columns → k * i.width + i.width ≤ 32 → col < s.columns
    → IsThere i op g → Agrees i s v → Splatted i s
    → number i.width (element i.width k col s (row_of op g)) ≡ operand_number op i.vlen i.width i.scalar v (element_number i g k col)
operand-here (group r) i g k col s v pos lanes long fits inside there agrees splatted =
    number-same i.width _ _ (λ j below.
    let lt : k * i.width + j < 32 = omega arith in
    let place : col * 32 + (k * i.width + j) < i.vlen = omega arith in
    element-inside i.width k col s (r + g) j below ∙ sym (bit_place s (r + g) col (k * i.width + j) lt) ∙ agrees (r + g) (col * 32 + (k * i.width + j)) there place)
    ∙ sym (element-placed i.width (32 / i.width) i.vlen s.columns k col v r g pos lanes long fits inside)
operand-here scalar i g k col s v pos lanes long fits inside there agrees splatted =
    number-same i.width (element i.width k col s scalar_row) (bit_of i.scalar) (λ j below.
    let lt : k * i.width + j < 32 = omega arith in
    let place : col * 32 + (k * i.width + j) < 32 * s.columns = omega arith in
    element-inside i.width k col s scalar_row j below ∙ sym (bit_place s scalar_row col (k * i.width + j) lt)
    ∙ splatted there.0 (col * 32 + (k * i.width + j)) place
    ∙ rw (there.1, mod-mul-add col 32 (k * i.width + j) lt, mod-mul-add k i.width j below) refl)
    ∙ number-bits i.width i.scalar
operand-here (narrow signed by n r row) i g k col s v pos lanes long fits inside there agrees splatted = absurd there

-- a register holds whole elements
pub whole-register : (w vlen columns : ℕ) → 0 < w → 32 / w * w ≡ 32 → vlen ≡ 32 * columns → vlen / w * w ≡ vlen
whole-register w vlen columns pos lanes long =
    let n = 32 / w in
    let z : vlen ≡ columns * n * w + 0 = long ∙ omega (arith, ap (λ x. columns * x) lanes) in
    let q : vlen / w ≡ columns * n = rw z (div-mul-add (columns * n) w 0 pos) in
    rw q (omega arith)

-- where bit j of element p of register g of a group lies
group-place : (w per vlen g p j : ℕ) → per * w ≡ vlen → p < per → j < w → ((g * per + p) * w + j ≡ g * vlen + (p * w + j)) × (p * w + j < vlen)
group-place w per vlen g p j long inside below =
    let m : suc p * w ≤ per * w = mul-le-mul_right w inside in
    (rw (← long) (omega arith), omega arith)

-- where bit j of element p lies in a group whose elements have n bits, `by` times less
pub narrow-place : (by n w per vlen g p j : ℕ) → 0 < by → by * n ≡ w → per * w ≡ vlen → p < per → j < n
    → ((g * per + p) * n + j ≡ g / by * vlen + ((g % by * per + p) * n + j)) × ((g % by * per + p) * n + j < vlen)
narrow-place by n w per vlen g p j some wide long inside below =
    let q : g / by * by + g % by ≡ g = div-add-mod' g by in
    let r : g % by < by = mod-lt g some in
    let v2 : vlen ≡ per * by * n = sym long ∙ ap (λ x. per * x) (sym wide) ∙ omega arith in
    let m1 : suc (g % by) * per ≤ by * per = mul-le-mul_right per r in
    let m2 : suc (g % by * per + p) * n ≤ by * per * n = mul-le-mul_right n (omega arith) in
    let e : g * per * n ≡ (g / by * by + g % by) * per * n = ap (λ x. x * per * n) (sym q) in
    (rw v2 (omega arith), rw v2 (omega arith))

-- what lays an operand out has the widths of its shape
abbrev pub IsShaped : Shape → Operand → Type 0
IsShaped i (group r) = Unit {0}
IsShaped i scalar = Unit {0}
IsShaped i (narrow signed by n r row) = (0 < by) × (by * n ≡ i.width) × (8 * (n / 8) ≡ n)

-- an operand depends on the registers alone that are read
pub same-operand : (i : Shape) (op : Operand) (g p : ℕ) (u v : Registers) → IsShaped i op → i.vlen / i.width * i.width ≡ i.vlen → p < i.vlen / i.width → SameAt (is_read op g) i.vlen u v
    → operand_number op i.vlen i.width i.scalar u (first_of i g + p) ≡ operand_number op i.vlen i.width i.scalar v (first_of i g + p)
unfolding element_in
same-operand i (group r) g p u v shaped per inside same =
    number-same i.width _ _ (λ j below.
    let at = group-place i.width (i.vlen / i.width) i.vlen g p j per inside below in
    rw (at.0, div-mul-add g i.vlen (p * i.width + j) at.1, mod-mul-add g i.vlen (p * i.width + j) at.1) (same (r + g) (p * i.width + j) (eq-eqb (r + g) (r + g) refl) at.1))
same-operand i scalar g p u v shaped per inside same = refl
same-operand i (narrow signed by n r row) g p u v shaped per inside same =
    ap (extended signed n i.width) (number-same n _ _ (λ j below.
    let at = narrow-place by n i.width (i.vlen / i.width) i.vlen g p j shaped.0 shaped.1 per inside below in
    let bit = (g % by * (i.vlen / i.width) + p) * n + j in
    rw (at.0, div-mul-add (g / by) i.vlen bit at.1, mod-mul-add (g / by) i.vlen bit at.1) (same (r + g / by) bit (eq-eqb (r + g / by) (r + g / by) refl) at.1)))

-- an operand is the same in registers that are bits and in those that are bytes
same-value : (i : Shape) (op : Operand) (size w x : ℕ) (v : List (List ℕ)) (e : ℕ) → IsShaped i op → 0 < size → 8 * (w / 8) ≡ w → ((q j : ℕ) → byte_at v q j < 2 ^ 8) → operand_number op (8 * size) w x (bits_of v) e ≡ operand_of op size w x v e
same-value i (group r) size w x v e shaped pos whole bytes = sym (element-bits size v r w e pos bytes whole)
same-value i scalar size w x v e shaped pos whole bytes = refl
same-value i (narrow signed by n r row) size w x v e shaped pos whole bytes = ap (extended signed n w) (sym (element-bits size v r n e pos bytes shaped.2))

-- in the registers that the slices hold
pub same-here : (i : Shape) (op : Operand) (s : Slices) (e : ℕ) → IsShaped i op → i.vlen ≡ 32 * s.columns → 0 < s.columns → 8 * (i.width / 8) ≡ i.width
    → operand_number op i.vlen i.width i.scalar (bits_of (registers_of s)) e ≡ operand_of op (size_of i) i.width i.scalar (registers_of s) e
same-here i op s e shaped vlen some whole =
    let v = registers_of s in
    let long : 8 * size_of i ≡ i.vlen = omega arith in
    ap (λ (n : ℕ). operand_number op n i.width i.scalar (bits_of v) e) (sym long) ∙ same-value i op (size_of i) i.width i.scalar v e shaped (omega arith) whole (are-registers_of s).bytes
