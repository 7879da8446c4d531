-- An instruction that makes a mask from two operands is one that the frame of masks takes.
use Rattle.std.proofs.Common.{◌≡◌, ℕ, ◌+◌, ◌*◌, ◌/◌, ◌<◌, ◌≤◌, Bool, true, false, ◌||◌, List, refl, sym, ◌∙◌, ap, arith, ◌⊎◌, ⊎_elim}
use Rattle.std.specs.Int.{from_bool}
use Rattle.std.proofs.lemmas.Bool.{eqb-true, or_cases, or_left, or_right, false≢true}
use Rattle.bit_laws.specs.Numbers.{low}
use Rattle.cam_chain.specs.Views.{registers_of}
use Rattle.steer_net.specs.Network.{bit_in}
use Rattle.element_ops.specs.Elements.{bits_of, mask_bit_of}
use Rattle.micro_ir.specs.declared.op.MicroOp.{MicroOp}
use Rattle.frame_laws.specs.Shapes.{Shape, Bounds, first_of, element_number}
use Rattle.micro_ir.specs.Kinds.{Tells}
use Rattle.frame_laws.specs.Bytes.{size_of}
use Rattle.frame_laws.specs.Masks.Telling.{Told}
use Rattle.frame_laws.specs.Masks.Laws.{MaskLegal}
use Rattle.frame_laws.proofs.Masks.Bytes.{mask_law}
use Rattle.frame_laws.specs.Classes.Operands.{Operand, group, scalar, narrow, operand_number, operand_of, row_of, is_read}
use Rattle.frame_laws.specs.Classes.Compared.{Pair, Truth, mask_value, IsMaskReadable, IsCompared, ComparedBytesLaw}
use Rattle.frame_laws.proofs.Classes.Operands.{IsThere, IsShaped, operand-here, whole-register, same-operand, same-here}

-- an operand that can be read stands in its rows
there : (i : Shape) (op : Operand) (g : ℕ) → IsMaskReadable i op → g < i.registers → IsThere i op g
there i (group r) g readable below = let room : r + i.registers ≤ 32 = readable.0 in omega arith
there i scalar g readable below = readable
there i (narrow signed by n r row) g readable below = readable

shaped : (i : Shape) (op : Operand) → IsMaskReadable i op → IsShaped i op
shaped i (group r) readable = tt
shaped i scalar readable = tt
shaped i (narrow signed by n r row) readable = absurd readable

-- a truth is a bit
low-truth : (t : Bool) → from_bool t ≡ low 1 (from_bool t)
low-truth true = refl
low-truth false = refl

-- a kind's list tells the truths of a register where it tells its truth
told : (i : Shape) (b : Bounds) (with : Pair) (truth : Truth) (columns g : ℕ) (body : List MicroOp) → IsCompared i with truth columns → g < i.registers
    → Tells i.width i.reads (λ n m. truth (n (row_of with.a g)) (n (row_of with.b g)) m) body
    → Told i b g body
unfolding Tells Told
told i b with truth columns g body compared below tells s long splatted stand k col fits inside =
    let x = tells s k col fits inside in
    let pos = compared.framed.width in
    let lanes = compared.framed.lanes in
    record {
      told = λ m mask.
          ap from_bool (x.told m mask)
          ∙ rw (
            operand-here with.a i g k col s (bit_in s) pos lanes long fits inside (there i with.a g compared.a below) (λ q at x h. refl) splatted,
            operand-here with.b i g k col s (bit_in s) pos lanes long fits inside (there i with.b g compared.b below) (λ q at x h. refl) splatted,
            compared.result (bit_in s) (element_number i g k col) m,
          ) (low-truth _);
      kept = x.kept;
    }

-- the destination is read for register 0 alone
read-first : (i : Shape) (op : Operand) (g r : ℕ) → IsMaskReadable i op → g < i.registers → is_read op g r ≡ true → (r < 32) × (r ≡ i.vd → g ≡ 0)
read-first i (group x) g r h l t =
    let e : r ≡ x + g = eqb-true r (x + g) t in
    let fits : x + i.registers ≤ 32 = h.0 in (
      omega arith,
      λ at.
          ⊎_elim (λ (y : i.vd ≡ x). omega arith)
          (λ (y : (i.vd < x) ⊎ (x + i.registers ≤ i.vd)). ⊎_elim (λ (z : i.vd < x). omega arith) (λ (z : x + i.registers ≤ i.vd). omega arith) y) h.1,
    )
read-first i scalar g r h l t = absurd (false≢true t)
read-first i (narrow signed by n x row) g r h l t = absurd h

-- a register is read for one of the operands
reads : Pair → (g r : ℕ) → Bool
reads with g r = is_read with.a g r || is_read with.b g r

compared-legal : (i : Shape) (with : Pair) (truth : Truth) (columns : ℕ) → IsCompared i with truth columns → MaskLegal i (reads with) columns
unfolding reads
compared-legal i with truth columns compared =
    let f = compared.framed in
    let per : i.vlen / i.width * i.width ≡ i.vlen = whole-register i.width i.vlen columns f.width f.lanes f.vlen in
    record {
      framed = f;
      sources = λ g r l t.
          ⊎_elim
          (λ (x : is_read with.a g r ≡ true). read-first i with.a g r compared.a l x)
          (λ (x : is_read with.b g r ≡ true). read-first i with.b g r compared.b l x)
          (or_cases (is_read with.a g r) (is_read with.b g r) t);
      reads_only = λ g u v p c l below less same.
          compared.result u (first_of i g + p) c
          ∙ rw (
            same-operand i with.a g p u v (shaped i with.a compared.a) per below (λ r at x h. same r at (or_left (is_read with.a g r) _ x) h),
            same-operand i with.b g p u v (shaped i with.b compared.b) per below (λ r at x h. same r at (or_right (is_read with.a g r) _ x) h),
          ) (sym (compared.result v (first_of i g + p) c));
    }

pub compared_bytes_law : ComparedBytesLaw
compared_bytes_law i b with truth body s compared bounded tells some whole =
    let v = registers_of s in
    let same : (op : Operand) (e : ℕ) → IsShaped i op → operand_number op i.vlen i.width i.scalar (bits_of v) e ≡ operand_of op (size_of i) i.width i.scalar v e =
    λ op e has. same-here i op s e has compared.framed.vlen some whole in
    mask_law i b (reads with) body (mask_value i with truth v) s (compared-legal i with truth s.columns compared) bounded
    (λ g l. told i b with truth s.columns g (body g) compared l (tells g l))
    some (λ e less. compared.result (bits_of v) e (mask_bit_of v 0 e) ∙ rw (same with.a e (shaped i with.a compared.a), same with.b e (shaped i with.b compared.b)) refl)
