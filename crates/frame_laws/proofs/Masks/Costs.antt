-- What the program of an instruction that makes a mask costs, and how long it is.
use Rattle.std.proofs.Common.{◌≡◌, ℕ, zero, suc, ◌+◌, ◌*◌, ◌<◌, true, false, cond, ◌&&◌, List, [], ◌∷◌, ◌++◌, length, refl, ◌∙◌, arith, length-append}
use Rattle.cam_chain.specs.declared.counts.Counts.{Counts}
use Rattle.cam_chain.specs.ChainValue.{no_counts}
use Rattle.micro_ir.specs.declared.op.MicroOp.{MicroOp}
use Rattle.micro_ir.specs.declared.op.MicroOp.TheVariants.{Window, Free}
use Rattle.micro_ir.specs.Replay.{tally}
use Rattle.micro_ir.specs.Steps.{micros}
use Rattle.micro_ir.specs.WorkRows.{mask_row, free_row}
use Rattle.micro_ir.proofs.Lists.{tally-append, no_counts-and, counts_and-none}
use Rattle.micro_ir.proofs.StepLists.{tally-micros, length-micros}
use Rattle.micro_ir.specs.Pieces.{fill_step}
use Rattle.frame_laws.specs.Shapes.{Shape, Bounds, first_of}
use Rattle.frame_laws.specs.Programs.{mask_window, splat_program}
use Rattle.frame_laws.specs.Costs.{counts_times, fill_counts}
use Rattle.frame_laws.proofs.Costs.{tally-splat, tally-mask_window, times-suc, times-zero, length-splat}
use Rattle.frame_laws.specs.Masks.Programs.{free_of_mask, pack_of, mask_register, mask_registers, mask_fill, mask_program}
use Rattle.frame_laws.specs.Masks.Costs.{MaskTallyLaw, mask_length, MaskLengthLaw}

-- ---- counts

-- the agnostic bits and the packing of the mask count nothing
tally-free : (i : Shape) (b : Bounds) (g : ℕ) → tally (free_of_mask i b g ++ pack_of i g ∷ []) ≡ no_counts
unfolding tally
tally-free i b zero =
    elim i.ones as (λ x. tally (cond x (Free free_row 1 0 b.from b.until i.masked i.tail (i.masked && i.vma) ∷ []) [] ++ pack_of i 0 ∷ []) ≡ no_counts) [
      | true ↦ refl
      | false ↦ refl
    ]
tally-free i b (suc g) = refl

-- a register counts as its list does
tally-register : (i : Shape) (b : Bounds) (g : ℕ) (body : List MicroOp) → tally (mask_register i b g body) ≡ tally body
unfolding mask_register tally
tally-register i b g body =
    no_counts-and (tally (mask_window i b g ++ (body ++ (free_of_mask i b g ++ pack_of i g ∷ []))))
    ∙ tally-append (mask_window i b g) (body ++ (free_of_mask i b g ++ pack_of i g ∷ []))
    ∙ rw (tally-mask_window i b g) (no_counts-and (tally (body ++ (free_of_mask i b g ++ pack_of i g ∷ []))))
    ∙ tally-append body (free_of_mask i b g ++ pack_of i g ∷ [])
    ∙ rw (tally-free i b g) (counts_and-none (tally body))

tally-registers : (i : Shape) (b : Bounds) (body : ℕ → List MicroOp) (c : Counts) (g : ℕ) → ((h : ℕ) → h < g → tally (body h) ≡ c) → tally (mask_registers i b body g) ≡ counts_times g c
unfolding mask_registers tally
tally-registers i b body c zero same = times-zero c
tally-registers i b body c (suc g) same =
    tally-append (mask_registers i b body g) (mask_register i b g (body g))
    ∙ rw (tally-registers i b body c g (λ h below. same h (omega arith)), tally-register i b g (body g), same g (omega arith)) (times-suc g c)

-- the fill
tally-fill : (i : Shape) → tally (mask_fill i) ≡ fill_counts i
unfolding tally
tally-fill i =
    elim i.ones as (λ x. tally (cond x (micros i.width (fill_step i.width i.vd ∷ [])) []) ≡ cond x (record { searches = 1; updates = 1; passes = 0 }) no_counts) [
      | true ↦ tally-micros i.width (fill_step i.width i.vd ∷ [])
      | false ↦ refl
    ]

pub mask_tally_law : MaskTallyLaw
unfolding mask_program
mask_tally_law i b body c same =
    tally-append (splat_program i) (mask_registers i b body i.registers ++ mask_fill i)
    ∙ rw (tally-splat i, tally-append (mask_registers i b body i.registers) (mask_fill i), tally-registers i b body c i.registers same, tally-fill i) refl

-- ---- lengths

-- the length of a register's operations
length-register : (i : Shape) (b : Bounds) (g : ℕ) (body : List MicroOp) → length (mask_register i b g body) ≡ mask_length i + length body + length (free_of_mask i b g)
unfolding mask_register
length-register i b g body =
    let m : length (mask_window i b g) ≡ cond i.reads 1 0 =
    elim i.reads as (λ x. length (cond x (Window mask_row i.width (first_of i g) b.from i.len true ∷ []) []) ≡ cond x 1 0) [ true ↦ refl | false ↦ refl ] in
    let free = free_of_mask i b g in
    omega (arith, length-append (mask_window i b g) (body ++ (free ++ pack_of i g ∷ [])), length-append body (free ++ pack_of i g ∷ []), length-append free (pack_of i g ∷ []))

-- the agnostic bits are marked once, with the first register
length-registers : (i : Shape) (b : Bounds) (body : ℕ → List MicroOp) (n g : ℕ) → ((h : ℕ) → h < suc g → length (body h) ≡ n)
    → length (mask_registers i b body (suc g)) ≡ suc g * (mask_length i + n) + length (free_of_mask i b 0)
unfolding mask_registers
length-registers i b body n zero same =
    let here : length (body 0) ≡ n = same 0 (omega arith) in
    omega (arith, length-register i b 0 (body 0))
length-registers i b body n (suc g) same =
    let before : length (mask_registers i b body (suc g)) ≡ suc g * (mask_length i + n) + length (free_of_mask i b 0) = length-registers i b body n g (λ h below. same h (omega arith)) in
    let here : length (body (suc g)) ≡ n = same (suc g) (omega arith) in
    omega (arith, length-append (mask_registers i b body (suc g)) (mask_register i b (suc g) (body (suc g))), length-register i b (suc g) (body (suc g)))

-- the agnostic bits are marked and filled
length-free : (i : Shape) (b : Bounds) → length (free_of_mask i b 0) + length (mask_fill i) ≡ cond i.ones 3 0
length-free i b =
    let fill : length (micros i.width (fill_step i.width i.vd ∷ [])) ≡ 2 = length-micros i.width (fill_step i.width i.vd ∷ []) in
    elim i.ones as (λ x. length (cond x (Free free_row 1 0 b.from b.until i.masked i.tail (i.masked && i.vma) ∷ []) []) + length (cond x (micros i.width (fill_step i.width i.vd ∷ [])) []) ≡ cond x 3 0) [
      | true ↦ omega arith
      | false ↦ refl
    ]

-- the length of the registers' operations
length-some : (i : Shape) (b : Bounds) (body : ℕ → List MicroOp) (n g : ℕ) → 0 < g → ((h : ℕ) → h < g → length (body h) ≡ n)
    → length (mask_registers i b body g) ≡ g * (mask_length i + n) + length (free_of_mask i b 0)
length-some i b body n zero some same = absurd (omega arith)
length-some i b body n (suc g) some same = length-registers i b body n g same

pub mask_length_law : MaskLengthLaw
unfolding mask_program
mask_length_law i b body n some same =
    let registers = mask_registers i b body i.registers in
    omega (
      arith,
      length-append (splat_program i) (registers ++ mask_fill i),
      length-append registers (mask_fill i),
      length-splat i,
      length-some i b body n i.registers some same,
      length-free i b,
    )
