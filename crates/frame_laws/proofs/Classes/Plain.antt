-- An instruction of operands that are as wide, or laid out, is one that the frame takes.
use Rattle.std.proofs.Common.{◌≡◌, ℕ, ◌+◌, ◌*◌, ◌/◌, ◌<◌, ◌≤◌, Bool, true, false, ◌||◌, List, ◌++◌, refl, sym, ◌∙◌, arith, ◌⊎◌, ⊎_elim}
use Rattle.std.proofs.lemmas.Bool.{eqb-true, ne_eqb, or_cases, or_left, or_right, false≢true}
use Rattle.bit_laws.specs.Numbers.{number}
use Rattle.bit_laws.proofs.Numbers.{number-same}
use Rattle.bit_rows.specs.Slices.{Slices}
use Rattle.cam_chain.specs.Views.{registers_of}
use Rattle.steer_net.specs.Network.{bit_in}
use Rattle.element_ops.specs.Elements.{Registers, element_in, bits_of, mask_bit_of}
use Rattle.micro_ir.specs.declared.op.MicroOp.{MicroOp}
use Rattle.micro_ir.specs.Replay.{replay}
use Rattle.micro_ir.specs.Steps.{element}
use Rattle.micro_ir.specs.WorkRows.{scalar_row}
use Rattle.micro_ir.specs.Kinds.{Realises}
use Rattle.micro_ir.proofs.Lists.{replay-append}
use Rattle.micro_ir.proofs.Lift.{replay-columns}
use Rattle.frame_laws.specs.Shapes.{Shape, Bounds, first_of, element_number}
use Rattle.frame_laws.specs.Realising.{Splatted, Realised}
use Rattle.frame_laws.specs.Laws.{SameAt, Legal}
use Rattle.frame_laws.specs.Bytes.{size_of}
use Rattle.frame_laws.proofs.Registers.{frame_law}
use Rattle.frame_laws.proofs.Bytes.{bytes_law}
use Rattle.frame_laws.specs.Classes.Operands.{Operand, group, scalar, narrow, operand_number, operand_of, row_of, laid_out, is_laid_out_in, is_read, IsReadable}
use Rattle.frame_laws.proofs.Classes.Operands.{IsShaped, Agrees, whole-register, same-operand, same-here, operand-here}
use Rattle.frame_laws.proofs.Classes.Spreading.{IsPresent, Laid, laid, laid-bits}
use Rattle.frame_laws.specs.Classes.Plain.{Operands, Value, with_operands, plain_value, IsPlain, PlainLaw, PlainBytesLaw}

-- ---- what lays the operands out

-- what an operand that can be read is shaped like
pub shaped : (i : Shape) (op : Operand) → IsReadable i op → IsShaped i op
shaped i (group r) readable = tt
shaped i scalar readable = tt
shaped i (narrow signed by n r row) readable =
    let more : 1 < by = readable.0.times in
    (omega arith, readable.0.wide, readable.0.whole)

-- no operand is laid out in a register, nor in the rows of active elements, of the mask bits or of the scalar
low-free : (i : Shape) (op : Operand) (r : ℕ) → IsReadable i op → r ≤ scalar_row → is_laid_out_in r op ≡ false
low-free i (group x) r readable small = refl
low-free i scalar r readable small = refl
low-free i (narrow signed by n x row) r readable small =
    let above : 34 < row = readable.0.above in
    ne_eqb r row (omega arith)

-- an operand that can be read can be laid out
present : (i : Shape) (op : Operand) (g : ℕ) → g < i.registers → IsReadable i op → IsPresent i op g
present i (group r) g below readable = (readable g below).0
present i scalar g below readable = readable
present i (narrow signed by n r row) g below readable = (readable.0, (readable.1 g below).0)

-- The operands stand in their rows after what lays them out; the rows up to that of the scalar stay.
pub record Ready (i : Shape) (with : Operands) (g k col : ℕ) (v : Registers) (e now : ℕ → ℕ → Bool) : Type 0 where
  pub a : number i.width (now (row_of with.a g)) ≡ operand_number with.a i.vlen i.width i.scalar v (element_number i g k col)
  pub b : number i.width (now (row_of with.b g)) ≡ operand_number with.b i.vlen i.width i.scalar v (element_number i g k col)
  pub addend : number i.width (now (with.addend + g)) ≡ element_in i.vlen v with.addend i.width (element_number i g k col)
  pub kept : (r j : ℕ) → r ≤ scalar_row → j < i.width → now r j ≡ e r j

-- the slices once the operands are laid out
abbrev pub ready_slices : Shape → Operands → (g : ℕ) → Slices → Slices
ready_slices i with g s = replay (laid_out with.b i.width g) (replay (laid_out with.a i.width g) s)

pub ready : (i : Shape) (with : Operands) (value : Value) (columns g k col : ℕ) (s : Slices) → IsPlain i with value columns → g < i.registers
    → i.vlen ≡ 32 * s.columns → Splatted i s → k * i.width + i.width ≤ 32 → col < s.columns
    → Ready i with g k col (bit_in s) (element i.width k col s) (element i.width k col (ready_slices i with g s))
ready i with value columns g k col s plain below long splatted fits inside =
    let w = i.width in
    let pos = plain.framed.width in
    let lanes = plain.framed.lanes in
    let v = bit_in s in
    let s1 = replay (laid_out with.a w g) s in
    let cols1 : s1.columns ≡ s.columns = replay-columns (laid_out with.a w g) s in
    let inside1 : col < s1.columns = rw cols1 inside in
    let long1 : i.vlen ≡ 32 * s1.columns = rw cols1 long in
    let agrees1 : Agrees i s1 v = λ q at small place. let p : at < 32 * s.columns = rw (sym long) place in laid-bits i with.a g s q at pos lanes p (present i with.a g below plain.a) (low-free i with.a q plain.a (omega arith)) in
    let splatted1 : Splatted i s1 = λ is at place.
    let p : at < 32 * s.columns = rw (sym cols1) place in
    laid-bits i with.a g s scalar_row at pos lanes p (present i with.a g below plain.a) (low-free i with.a scalar_row plain.a (omega arith)) ∙ splatted is at p in
    let one : Laid i with.a g k col v (element w k col s) (element w k col s1) = laid i with.a g k col s v pos lanes long fits inside (λ q at x h. refl) splatted (present i with.a g below plain.a) in
    let two = laid i with.b g k col s1 v pos lanes long1 fits inside1 agrees1 splatted1 (present i with.b g below plain.b) in
    let kept : (r j : ℕ) → r ≤ scalar_row → j < w → element w k col (ready_slices i with g s) r j ≡ element w k col s r j =
    λ r j small inner. two.kept r j (low-free i with.b r plain.b small) inner ∙ one.kept r j (low-free i with.a r plain.a small) inner in
    let register : with.addend + g < 32 = (plain.addend g below).0 in
    record {
      a = number-same w _ _ (λ j inner. two.kept (row_of with.a g) j (plain.apart g below) inner) ∙ one.made;
      b = two.made;
      addend = number-same w _ _ (λ j inner. kept (with.addend + g) j (omega arith) inner) ∙ operand-here (group with.addend) i g k col s v pos lanes long fits inside register (λ q at x h. refl) splatted;
      kept = kept;
    }

-- a kind's list, after what lays its operands out, realises a register where it realises its value
pub plain-realised : (i : Shape) (b : Bounds) (with : Operands) (value : Value) (columns g : ℕ) (body : ℕ → List MicroOp) → IsPlain i with value columns → g < i.registers
    → Realises i.width (i.vd + g) i.reads (λ n m. value (n (row_of with.a g)) (n (row_of with.b g)) (n (with.addend + g)) m) (body g)
    → Realised i b g (with_operands i.width with body g)
unfolding Realises Realised
plain-realised i b with value columns g body plain below real s long splatted stand k col fits inside =
    let w = i.width in
    let s2 = ready_slices i with g s in
    let all : replay (with_operands w with body g) s ≡ replay (body g) s2 =
    replay-append (laid_out with.a w g) (laid_out with.b w g ++ body g) s ∙ replay-append (laid_out with.b w g) (body g) (replay (laid_out with.a w g) s) in
    let cols2 : s2.columns ≡ s.columns = replay-columns (laid_out with.b w g) (replay (laid_out with.a w g) s) ∙ replay-columns (laid_out with.a w g) s in
    let inside2 : col < s2.columns = rw cols2 inside in
    let room = plain.framed.room in
    let to : i.vd + g ≤ 34 = omega arith in
    let x = real s2 k col fits inside2 in
    let y = ready i with value columns g k col s plain below long splatted fits inside in
    rw all (record {
      active = λ h m mask.
          x.active (λ j u. y.kept 32 j (omega arith) u ∙ h j u) m (λ t j u. y.kept 33 j (omega arith) u ∙ mask t j u)
          ∙ rw (y.a, y.b, y.addend, plain.result (bit_in s) (element_number i g k col) m) refl;
      idle = λ h j u. x.idle (λ j u. y.kept 32 j (omega arith) u ∙ h j u) j u ∙ y.kept (i.vd + g) j to u;
      kept = λ r j small other u. x.kept r j small other u ∙ y.kept r j small u;
    })

-- ---- legality

-- a register is read before it is written
read-safe : (i : Shape) (op : Operand) (g r : ℕ) → IsReadable i op → g < i.registers → is_read op g r ≡ true → (r < 32) × ((r < i.vd) ⊎ (i.vd + g ≤ r))
read-safe i (group x) g r readable below t = let e : r ≡ x + g = eqb-true r (x + g) t in rw e (readable g below)
read-safe i scalar g r readable below t = absurd (false≢true t)
read-safe i (narrow signed by n x row) g r readable below t = let e : r ≡ x + g / by = eqb-true r (x + g / by) t in rw e (readable.1 g below)

-- a register is read for one of the operands
pub reads : Operands → (g r : ℕ) → Bool
reads with g r = is_read with.a g r || (is_read with.b g r || is_read (group with.addend) g r)

-- the operands of an element depend on the registers alone that are read for it
pub same-operands : (i : Shape) (with : Operands) (value : Value) (columns g p : ℕ) (u v : Registers) → IsPlain i with value columns → p < i.vlen / i.width → SameAt (reads with g) i.vlen u v
    → (operand_number with.a i.vlen i.width i.scalar u (first_of i g + p) ≡ operand_number with.a i.vlen i.width i.scalar v (first_of i g + p))
    × (operand_number with.b i.vlen i.width i.scalar u (first_of i g + p) ≡ operand_number with.b i.vlen i.width i.scalar v (first_of i g + p))
    × (element_in i.vlen u with.addend i.width (first_of i g + p) ≡ element_in i.vlen v with.addend i.width (first_of i g + p))
unfolding reads
same-operands i with value columns g p u v plain below same =
    let f = plain.framed in
    let per : i.vlen / i.width * i.width ≡ i.vlen = whole-register i.width i.vlen columns f.width f.lanes f.vlen in (
      same-operand i with.a g p u v (shaped i with.a plain.a) per below (λ r at x h. same r at (or_left (is_read with.a g r) _ x) h),
      same-operand i with.b g p u v (shaped i with.b plain.b) per below (λ r at x h. same r at (or_right (is_read with.a g r) _ (or_left (is_read with.b g r) _ x)) h),
      same-operand i (group with.addend) g p u v tt per below (λ r at x h. same r at (or_right (is_read with.a g r) _ (or_right (is_read with.b g r) _ x)) h),
    )

pub plain-legal : (i : Shape) (with : Operands) (value : Value) (columns : ℕ) → IsPlain i with value columns → Legal i (reads with) columns
unfolding reads
plain-legal i with value columns plain =
    let f = plain.framed in
    let third = group with.addend in
    record {
      framed = f;
      sources = λ g r l t.
          ⊎_elim
          (λ (x : is_read with.a g r ≡ true). read-safe i with.a g r plain.a l x)
          (λ (x : (is_read with.b g r || is_read third g r) ≡ true).
          ⊎_elim
          (λ (y : is_read with.b g r ≡ true). read-safe i with.b g r plain.b l y)
          (λ (y : is_read third g r ≡ true). read-safe i third g r plain.addend l y)
          (or_cases (is_read with.b g r) (is_read third g r) x))
          (or_cases (is_read with.a g r) (is_read with.b g r || is_read third g r) t);
      reads_only = λ g u v p c l below less same.
          let x = same-operands i with value columns g p u v plain below same in
          plain.result u (first_of i g + p) c ∙ rw (x.0, x.1, x.2) (sym (plain.result v (first_of i g + p) c));
    }

-- ---- the laws

pub plain_law : PlainLaw
plain_law i b with value body v s plain bounded real holds =
    frame_law i b (reads with) (with_operands i.width with body) v s (plain-legal i with value s.columns plain) bounded
    (λ g l. plain-realised i b with value s.columns g body plain l (real g l)) holds

pub plain_bytes_law : PlainBytesLaw
plain_bytes_law i b with value body s plain bounded real some whole =
    let v = registers_of s in
    let same : (op : Operand) (e : ℕ) → IsShaped i op → operand_number op i.vlen i.width i.scalar (bits_of v) e ≡ operand_of op (size_of i) i.width i.scalar v e =
    λ op e has. same-here i op s e has plain.framed.vlen some whole in
    bytes_law i b (reads with) (with_operands i.width with body) (plain_value i with value v) s (plain-legal i with value s.columns plain) bounded
    (λ g l. plain-realised i b with value s.columns g body plain l (real g l)) some whole
    (λ e less. plain.result (bits_of v) e (mask_bit_of v 0 e) ∙ rw (same with.a e (shaped i with.a plain.a), same with.b e (shaped i with.b plain.b), same (group with.addend) e tt) refl)
