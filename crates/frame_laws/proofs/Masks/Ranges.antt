-- That a chain can run the program of an instruction that makes a mask.
use Rattle.std.proofs.Common.{◌≡◌, ℕ, zero, suc, ◌*◌, ◌/◌, ◌<◌, ◌≤◌, true, false, cond, ◌&&◌, List, [], ◌∷◌, ◌++◌, refl, ap, arith}
use Rattle.std.proofs.Math.Nat.{mul-le-mul_right}
use Rattle.steer_net.specs.Network.{is_width, MaskReaches, PackReaches}
use Rattle.micro_ir.specs.declared.op.MicroOp.{MicroOp}
use Rattle.micro_ir.specs.declared.op.MicroOp.TheVariants.{Window, Free}
use Rattle.micro_ir.specs.Replay.{IsInRange, AllInRange}
use Rattle.micro_ir.specs.Steps.{micros}
use Rattle.micro_ir.specs.WorkRows.{mask_row, free_row}
use Rattle.micro_ir.proofs.Lists.{AllInRange-append, AllInRange-none, AllInRange-one}
use Rattle.micro_ir.proofs.StepLists.{AllInRange-micros}
use Rattle.micro_ir.specs.Pieces.{splat, fill_step}
use Rattle.frame_laws.specs.Shapes.{Shape, Bounds, first_of}
use Rattle.frame_laws.specs.Programs.{mask_window, splat_program}
use Rattle.frame_laws.specs.Masks.Programs.{free_of_mask, pack_of, mask_register, mask_registers, mask_fill, mask_program}
use Rattle.frame_laws.specs.Masks.Laws.{MaskFramed}
use Rattle.frame_laws.specs.Masks.Costs.{MaskRangeLaw}
use Rattle.frame_laws.proofs.Masks.Parts.{per-row}

-- the numbers of a register's elements are below the bits of a register
pack-reaches : (i : Shape) (columns g : ℕ) → MaskFramed i columns → g < i.registers → PackReaches columns i.width (first_of i g)
pack-reaches i columns g framed below =
    let n = 32 / i.width in
    let per : i.vlen / i.width ≡ columns * n = per-row i.width i.vlen columns framed.width framed.lanes framed.vlen in
    let first : first_of i g ≡ g * (columns * n) = ap (λ x. g * x) per in
    let most : suc g ≤ i.width = omega (arith, framed.numbers) in
    let m : suc g * (columns * n) ≤ i.width * (columns * n) = mul-le-mul_right (columns * n) most in
    let t : i.width * (columns * n) ≡ 32 * columns = omega (arith, ap (λ x. columns * x) framed.lanes) in
    omega arith

-- and so are those that a window names
reaches : (i : Shape) (columns g from to : ℕ) → MaskFramed i columns → g < i.registers → MaskReaches columns i.width (first_of i g) from to
reaches i columns g from to framed below e above inside lower upper = omega (arith, pack-reaches i columns g framed below)

-- the agnostic bits
range-free : (i : Shape) (b : Bounds) (columns g : ℕ) → AllInRange columns (free_of_mask i b g)
unfolding AllInRange
range-free i b columns zero =
    elim i.ones as (λ x. AllInRange columns (cond x (Free free_row 1 0 b.from b.until i.masked i.tail (i.masked && i.vma) ∷ []) [])) [
      | true ↦ ((omega arith, refl, λ t u e above inside lower upper. omega arith), tt)
      | false ↦ tt
    ]
range-free i b columns (suc g) = tt

-- the packing of the mask
range-pack : (i : Shape) (columns g : ℕ) → MaskFramed i columns → is_width i.width ≡ true → g < i.registers → IsInRange columns (pack_of i g)
range-pack i columns g framed built below =
    let room = framed.room in
    (omega arith, omega arith, omega arith, built, pack-reaches i columns g framed below)

-- the operations on one register
range-register : (i : Shape) (b : Bounds) (columns g : ℕ) (body : List MicroOp) → MaskFramed i columns → is_width i.width ≡ true → g < i.registers → AllInRange columns body
    → AllInRange columns (mask_register i b g body)
unfolding mask_register AllInRange
range-register i b columns g body framed built below ranged =
    let last = free_of_mask i b g ++ pack_of i g ∷ [] in
    let masks : AllInRange columns (mask_window i b g) =
    elim i.reads as (λ x. AllInRange columns (cond x (Window mask_row i.width (first_of i g) b.from i.len true ∷ []) [])) [
      | true ↦ ((omega arith, built, λ t. reaches i columns g b.from i.len framed below), tt)
      | false ↦ tt
    ] in
    let lasts : AllInRange columns last = AllInRange-append columns (free_of_mask i b g) (pack_of i g ∷ []) (range-free i b columns g) (AllInRange-one columns (pack_of i g) (range-pack i columns g framed built below)) in (
      (omega arith, built, λ t. reaches i columns g b.from i.len framed below),
      AllInRange-append columns (mask_window i b g) (body ++ last) masks (AllInRange-append columns body last ranged lasts),
    )

-- on the first registers
range-registers : (i : Shape) (b : Bounds) (body : ℕ → List MicroOp) (columns g : ℕ) → MaskFramed i columns → is_width i.width ≡ true → g ≤ i.registers
    → ((h : ℕ) → h < i.registers → AllInRange columns (body h)) → AllInRange columns (mask_registers i b body g)
unfolding mask_registers
range-registers i b body columns zero framed built le ranged = AllInRange-none columns
range-registers i b body columns (suc g) framed built le ranged =
    AllInRange-append columns (mask_registers i b body g) (mask_register i b g (body g))
    (range-registers i b body columns g framed built (omega arith) ranged)
    (range-register i b columns g (body g) framed built le (ranged g le))

-- the fill
range-fill : (i : Shape) (columns : ℕ) → i.vd < 32 → AllInRange columns (mask_fill i)
range-fill i columns room =
    elim i.ones as (λ x. AllInRange columns (cond x (micros i.width (fill_step i.width i.vd ∷ [])) [])) [
      | true ↦ AllInRange-micros columns i.width (fill_step i.width i.vd ∷ []) (omega arith, omega arith, tt)
      | false ↦ AllInRange-none columns
    ]

-- the scalar's steps
range-splat : (i : Shape) (columns : ℕ) → AllInRange columns (splat_program i)
unfolding splat
range-splat i columns =
    elim i.splat as (λ x. AllInRange columns (cond x (micros i.scalar_width (splat i.scalar_width i.scalar)) [])) [
      | true ↦ AllInRange-micros columns i.scalar_width (splat i.scalar_width i.scalar) (omega arith, omega arith, (omega arith, omega arith, tt))
      | false ↦ AllInRange-none columns
    ]

pub mask_range_law : MaskRangeLaw
unfolding mask_program
mask_range_law i b body columns framed built ranged =
    AllInRange-append columns (splat_program i) (mask_registers i b body i.registers ++ mask_fill i) (range-splat i columns)
    (AllInRange-append columns (mask_registers i b body i.registers) (mask_fill i)
    (range-registers i b body columns i.registers framed built (omega arith) ranged) (range-fill i columns framed.room))
