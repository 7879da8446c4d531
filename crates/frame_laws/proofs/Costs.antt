-- What the program of an instruction costs, how long it is, and that a chain can run it.
use Rattle.std.proofs.Common.{◌≡◌, ℕ, zero, suc, ◌+◌, ◌*◌, ◌/◌, ◌<◌, ◌≤◌, true, false, cond, ◌&&◌, List, [], ◌∷◌, ◌++◌, length, refl, ◌∙◌, ap, arith, length-append}
use Rattle.std.proofs.Math.Nat.{mul-le-mul_right}
use Rattle.std.proofs.lemmas.Nat.{div-mul-add}
use Rattle.cam_chain.specs.declared.counts.Counts.{Counts}
use Rattle.cam_chain.specs.ChainValue.{no_counts}
use Rattle.steer_net.specs.Network.{is_width, MaskReaches}
use Rattle.micro_ir.specs.declared.op.MicroOp.{MicroOp}
use Rattle.micro_ir.specs.declared.op.MicroOp.TheVariants.{Window, Free}
use Rattle.micro_ir.specs.Replay.{AllInRange, counts_and, tally}
use Rattle.micro_ir.specs.Steps.{micros}
use Rattle.micro_ir.proofs.Lists.{tally-append, no_counts-and, AllInRange-append, AllInRange-none}
use Rattle.micro_ir.proofs.StepLists.{tally-micros, length-micros, AllInRange-micros}
use Rattle.micro_ir.specs.WorkRows.{mask_row, free_row}
use Rattle.micro_ir.specs.Pieces.{splat, fill_step}
use Rattle.frame_laws.specs.Shapes.{Shape, Bounds, first_of}
use Rattle.frame_laws.specs.Programs.{mask_window, fill, one_register, first_registers, splat_program, program}
use Rattle.frame_laws.specs.Laws.{Framed}
use Rattle.frame_laws.specs.Costs.{counts_times, splat_counts, fill_counts, registers_counts, frame_length, TallyLaw, EvenTallyLaw, LengthLaw, RangeLaw}

-- ---- counts

-- the counts of the scalar's steps
pub tally-splat : (i : Shape) → tally (splat_program i) ≡ splat_counts i
unfolding tally splat
tally-splat i =
    elim i.splat as (λ x. tally (cond x (micros i.scalar_width (splat i.scalar_width i.scalar)) []) ≡ cond x (record { searches = 2; updates = 2; passes = 0 }) no_counts) [
      | true ↦ tally-micros i.scalar_width (splat i.scalar_width i.scalar)
      | false ↦ refl
    ]

tally-fill : (i : Shape) (b : Bounds) (g : ℕ) → tally (fill i b g) ≡ fill_counts i
unfolding tally
tally-fill i b g =
    elim i.ones as (λ x. tally (cond x (Free free_row i.width (first_of i g) b.from b.until i.masked i.tail (i.masked && i.vma) ∷ micros i.width (fill_step i.width (i.vd + g) ∷ [])) [])
    ≡ cond x (record { searches = 1; updates = 1; passes = 0 }) no_counts) [
      | true ↦ no_counts-and (tally (micros i.width (fill_step i.width (i.vd + g) ∷ []))) ∙ tally-micros i.width (fill_step i.width (i.vd + g) ∷ [])
      | false ↦ refl
    ]

-- a window counts nothing
pub tally-mask_window : (i : Shape) (b : Bounds) (g : ℕ) → tally (mask_window i b g) ≡ no_counts
unfolding tally
tally-mask_window i b g =
    elim i.reads as (λ x. tally (cond x (Window mask_row i.width (first_of i g) b.from i.len true ∷ []) []) ≡ no_counts) [
      | true ↦ refl
      | false ↦ refl
    ]

tally-one_register : (i : Shape) (b : Bounds) (g : ℕ) (body : List MicroOp) → tally (one_register i b g body) ≡ counts_and (tally body) (fill_counts i)
unfolding one_register tally
tally-one_register i b g body =
    no_counts-and (tally (mask_window i b g ++ (body ++ fill i b g)))
    ∙ tally-append (mask_window i b g) (body ++ fill i b g)
    ∙ rw (tally-mask_window i b g) (no_counts-and (tally (body ++ fill i b g)))
    ∙ tally-append body (fill i b g)
    ∙ ap (counts_and (tally body)) (tally-fill i b g)

tally-first : (i : Shape) (b : Bounds) (body : ℕ → List MicroOp) (g : ℕ) → tally (first_registers i b body g) ≡ registers_counts i (λ g. tally (body g)) g
unfolding first_registers registers_counts tally
tally-first i b body zero = refl
tally-first i b body (suc g) =
    tally-append (first_registers i b body g) (one_register i b g (body g))
    ∙ rw (tally-first i b body g, tally-one_register i b g (body g)) refl

pub tally_law : TallyLaw
unfolding program
tally_law i b body =
    tally-append (splat_program i) (first_registers i b body i.registers)
    ∙ rw (tally-splat i, tally-first i b body i.registers) refl

-- the counts of one more, and of none
pub times-suc : (n : ℕ) (c : Counts) → counts_and (counts_times n c) c ≡ counts_times (suc n) c
times-suc n c =
    let s : n * c.searches + c.searches ≡ suc n * c.searches = omega arith in
    let u : n * c.updates + c.updates ≡ suc n * c.updates = omega arith in
    let p : n * c.passes + c.passes ≡ suc n * c.passes = omega arith in
    λ i. record { searches = s i; updates = u i; passes = p i }

pub times-zero : (c : Counts) → no_counts ≡ counts_times 0 c
times-zero c =
    let s : 0 ≡ 0 * c.searches = omega arith in
    let u : 0 ≡ 0 * c.updates = omega arith in
    let p : 0 ≡ 0 * c.passes = omega arith in
    λ i. record { searches = s i; updates = u i; passes = p i }

even_counts : (i : Shape) (each : ℕ → Counts) (c : Counts) (g : ℕ) → ((h : ℕ) → h < g → each h ≡ c) → registers_counts i each g ≡ counts_times g (counts_and c (fill_counts i))
unfolding registers_counts
even_counts i each c zero same = times-zero (counts_and c (fill_counts i))
even_counts i each c (suc g) same =
    rw (even_counts i each c g (λ h below. same h (omega arith)), same g (omega arith)) (times-suc g (counts_and c (fill_counts i)))

pub even_tally_law : EvenTallyLaw
even_tally_law i b body c same = tally_law i b body ∙ ap (counts_and (splat_counts i)) (even_counts i (λ g. tally (body g)) c i.registers same)

-- ---- lengths

-- the length of the scalar's steps
pub length-splat : (i : Shape) → length (splat_program i) ≡ cond i.splat 4 0
unfolding splat
length-splat i =
    elim i.splat as (λ x. length (cond x (micros i.scalar_width (splat i.scalar_width i.scalar)) []) ≡ cond x 4 0) [
      | true ↦ length-micros i.scalar_width (splat i.scalar_width i.scalar)
      | false ↦ refl
    ]

length-one_register : (i : Shape) (b : Bounds) (g : ℕ) (body : List MicroOp) → length (one_register i b g body) ≡ frame_length i + length body
unfolding one_register
length-one_register i b g body =
    let m : length (mask_window i b g) ≡ cond i.reads 1 0 =
    elim i.reads as (λ x. length (cond x (Window mask_row i.width (first_of i g) b.from i.len true ∷ []) []) ≡ cond x 1 0) [ true ↦ refl | false ↦ refl ] in
    let f : length (fill i b g) ≡ cond i.ones 3 0 =
    elim i.ones as (λ x. length (cond x (Free free_row i.width (first_of i g) b.from b.until i.masked i.tail (i.masked && i.vma) ∷ micros i.width (fill_step i.width (i.vd + g) ∷ [])) []) ≡ cond x 3 0) [
      | true ↦ ap suc (length-micros i.width (fill_step i.width (i.vd + g) ∷ []))
      | false ↦ refl
    ] in
    omega (arith, length-append (mask_window i b g) (body ++ fill i b g), length-append body (fill i b g))

length-first : (i : Shape) (b : Bounds) (body : ℕ → List MicroOp) (n g : ℕ) → ((h : ℕ) → h < g → length (body h) ≡ n) → length (first_registers i b body g) ≡ g * (frame_length i + n)
unfolding first_registers
length-first i b body n zero same = omega arith
length-first i b body n (suc g) same =
    let before : length (first_registers i b body g) ≡ g * (frame_length i + n) = length-first i b body n g (λ h below. same h (omega arith)) in
    let here : length (body g) ≡ n = same g (omega arith) in
    omega (arith, length-append (first_registers i b body g) (one_register i b g (body g)), length-one_register i b g (body g))

pub length_law : LengthLaw
unfolding program
length_law i b body n same =
    omega (arith, length-append (splat_program i) (first_registers i b body i.registers), length-splat i, length-first i b body n i.registers same)

-- ---- in a chain's range

-- the numbers of the elements of the group are below the bits of a register
pub reaches : (i : Shape) (columns g from to : ℕ) → Framed i columns → g < i.registers → MaskReaches columns i.width (first_of i g) from to
reaches i columns g from to framed below e above inside lower upper =
    let n = 32 / i.width in
    let v : i.vlen ≡ columns * n * i.width + 0 = framed.vlen ∙ omega (arith, ap (λ x. columns * x) framed.lanes) in
    let per : i.vlen / i.width ≡ columns * n = rw v (div-mul-add (columns * n) i.width 0 framed.width) in
    let most : suc g ≤ i.width = omega (arith, framed.numbers) in
    let m : suc g * (columns * n) ≤ i.width * (columns * n) = mul-le-mul_right (columns * n) most in
    let t : i.width * (columns * n) ≡ 32 * columns = omega (arith, ap (λ x. columns * x) framed.lanes) in
    let first : first_of i g ≡ g * (columns * n) = ap (λ x. g * x) per in
    omega arith

range-one_register : (i : Shape) (b : Bounds) (columns g : ℕ) (body : List MicroOp) → Framed i columns → is_width i.width ≡ true → g < i.registers → AllInRange columns body
    → AllInRange columns (one_register i b g body)
unfolding one_register AllInRange
range-one_register i b columns g body framed built below ranged =
    let room = framed.room in
    let masks : AllInRange columns (mask_window i b g) =
    elim i.reads as (λ x. AllInRange columns (cond x (Window mask_row i.width (first_of i g) b.from i.len true ∷ []) [])) [
      | true ↦ ((omega arith, built, λ t. reaches i columns g b.from i.len framed below), tt)
      | false ↦ tt
    ] in
    let fills : AllInRange columns (fill i b g) =
    elim i.ones as (λ x. AllInRange columns (cond x (Free free_row i.width (first_of i g) b.from b.until i.masked i.tail (i.masked && i.vma) ∷ micros i.width (fill_step i.width (i.vd + g) ∷ [])) [])) [
      | true ↦ ((omega arith, built, λ t u. reaches i columns g b.from b.until framed below), AllInRange-micros columns i.width (fill_step i.width (i.vd + g) ∷ []) (omega arith, omega arith, tt))
      | false ↦ tt
    ] in (
      (omega arith, built, λ t. reaches i columns g b.from i.len framed below),
      AllInRange-append columns (mask_window i b g) (body ++ fill i b g) masks (AllInRange-append columns body (fill i b g) ranged fills),
    )

range-first : (i : Shape) (b : Bounds) (body : ℕ → List MicroOp) (columns g : ℕ) → Framed i columns → is_width i.width ≡ true → g ≤ i.registers
    → ((h : ℕ) → h < i.registers → AllInRange columns (body h)) → AllInRange columns (first_registers i b body g)
unfolding first_registers
range-first i b body columns zero framed built le ranged = AllInRange-none columns
range-first i b body columns (suc g) framed built le ranged =
    AllInRange-append columns (first_registers i b body g) (one_register i b g (body g))
    (range-first i b body columns g framed built (omega arith) ranged)
    (range-one_register i b columns g (body g) framed built le (ranged g le))

pub range_law : RangeLaw
unfolding program splat
range_law i b body columns framed built ranged =
    AllInRange-append columns (splat_program i) (first_registers i b body i.registers)
    (elim i.splat as (λ x. AllInRange columns (cond x (micros i.scalar_width (splat i.scalar_width i.scalar)) [])) [
      | true ↦ AllInRange-micros columns i.scalar_width (splat i.scalar_width i.scalar) (omega arith, omega arith, (omega arith, omega arith, tt))
      | false ↦ AllInRange-none columns
    ])
    (range-first i b body columns i.registers framed built (omega arith) ranged)
