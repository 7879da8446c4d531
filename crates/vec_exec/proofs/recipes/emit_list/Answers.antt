use Rattle.std.proofs.Common.{◌≡◌, ◌<◌, Bool, true, false, ◌||◌, refl, sym, arith}
use Rattle.vec_exec.specs.Recipes.{FitsRows, list_of, counts_of, length_of, Computes, TellsClips}
use Rattle.vec_exec.proofs.Copied.{copied, copied-measured}
use Rattle.vec_exec.proofs.Widths.{log2-is}
use Rattle.vec_exec.proofs.recipes.emit_list.Goals as goal

alone : (b : Bool) → b || false ≡ b
alone true = refl
alone false = refl

pub returns-in-Bits-clause-computes : goal.returns-in-Bits-clause-computes
unfolding Computes list_of
returns-in-Bits-clause-computes g c = rw c.in-Bits.is (rw alone at (c.emit_logic.ensures.realises false))

pub returns-in-Sums-clause-computes : goal.returns-in-Sums-clause-computes
unfolding Computes list_of
returns-in-Sums-clause-computes g c = rw c.in-Sums.is (rw alone at (c.emit_sum.ensures.realises false))

pub returns-in-Truths-clause-computes : goal.returns-in-Truths-clause-computes
unfolding Computes list_of
returns-in-Truths-clause-computes g c = rw c.in-Truths.is (rw alone at (c.emit_truth.ensures.tells false))

pub returns-in-Choices-clause-computes : goal.returns-in-Choices-clause-computes
unfolding Computes list_of
returns-in-Choices-clause-computes g c = rw c.in-Choices.is (c.emit_choice.ensures.realises false)

pub emit_shift-requires-clause-room : goal.emit_shift-requires-clause-room
unfolding length_of
emit_shift-requires-clause-room g c =
    let log = log2-is g.W.Width.BITS g.W.Width.LOG g.met.W.Width.power g.met.W.Width.divides g.met.W.Width.least in
    rw log at (rw c.in-Shifts.is at c.requires.room)

pub returns-in-Shifts-clause-ops : goal.returns-in-Shifts-clause-ops
unfolding list_of
returns-in-Shifts-clause-ops g c =
    let log = log2-is g.W.Width.BITS g.W.Width.LOG g.met.W.Width.power g.met.W.Width.divides g.met.W.Width.least in
    rw (c.in-Shifts.is, log) c.emit_shift.ensures.ops

pub returns-in-Shifts-clause-spare : goal.returns-in-Shifts-clause-spare
unfolding length_of
returns-in-Shifts-clause-spare g c =
    let log = log2-is g.W.Width.BITS g.W.Width.LOG g.met.W.Width.power g.met.W.Width.divides g.met.W.Width.least in
    rw (c.in-Shifts.is, log) c.emit_shift.ensures.spare

pub returns-in-Shifts-clause-computes : goal.returns-in-Shifts-clause-computes
unfolding Computes list_of
returns-in-Shifts-clause-computes g c =
    let log = log2-is g.W.Width.BITS g.W.Width.LOG g.met.W.Width.power g.met.W.Width.divides g.met.W.Width.least in
    rw (c.in-Shifts.is, log) (c.emit_shift.ensures.realises false)

pub returns-in-Shifts-clause-cost : goal.returns-in-Shifts-clause-cost
unfolding list_of counts_of length_of
returns-in-Shifts-clause-cost g c =
    let log = log2-is g.W.Width.BITS g.W.Width.LOG g.met.W.Width.power g.met.W.Width.divides g.met.W.Width.least in
    rw (c.in-Shifts.is, log) c.emit_shift.ensures.cost

pub emit_rounded-requires-clause-room : goal.emit_rounded-requires-clause-room
unfolding length_of
emit_rounded-requires-clause-room g c =
    let log = log2-is g.W.Width.BITS g.W.Width.LOG g.met.W.Width.power g.met.W.Width.divides g.met.W.Width.least in
    rw (c.shift_of.ensures.value, sym log) (rw c.in-Roundings.is at c.requires.room)

pub returns-in-Roundings-clause-ops : goal.returns-in-Roundings-clause-ops
unfolding list_of
returns-in-Roundings-clause-ops g c =
    let log = log2-is g.W.Width.BITS g.W.Width.LOG g.met.W.Width.power g.met.W.Width.divides g.met.W.Width.least in
    rw (c.in-Roundings.is, log, sym c.shift_of.ensures.value) c.emit_rounded.ensures.ops

pub returns-in-Roundings-clause-spare : goal.returns-in-Roundings-clause-spare
unfolding length_of
returns-in-Roundings-clause-spare g c =
    let log = log2-is g.W.Width.BITS g.W.Width.LOG g.met.W.Width.power g.met.W.Width.divides g.met.W.Width.least in
    rw (c.in-Roundings.is, log, sym c.shift_of.ensures.value) c.emit_rounded.ensures.spare

pub returns-in-Roundings-clause-computes : goal.returns-in-Roundings-clause-computes
unfolding Computes list_of
returns-in-Roundings-clause-computes g c =
    let log = log2-is g.W.Width.BITS g.W.Width.LOG g.met.W.Width.power g.met.W.Width.divides g.met.W.Width.least in
    rw (c.in-Roundings.is, log, sym c.shift_of.ensures.value) (c.emit_rounded.ensures.realises false)

pub returns-in-Roundings-clause-cost : goal.returns-in-Roundings-clause-cost
unfolding list_of counts_of length_of
returns-in-Roundings-clause-cost g c =
    let log = log2-is g.W.Width.BITS g.W.Width.LOG g.met.W.Width.power g.met.W.Width.divides g.met.W.Width.least in
    rw (c.in-Roundings.is, log, sym c.shift_of.ensures.value) c.emit_rounded.ensures.cost

pub emit_logic-requires-clause-a : goal.emit_logic-requires-clause-a
emit_logic-requires-clause-a g c = let rows : FitsRows c.args.list c.args.at.now.a c.args.at.now.b = c.requires.rows in (rw c.in-Bits.is at rows).0

pub emit_logic-requires-clause-b : goal.emit_logic-requires-clause-b
emit_logic-requires-clause-b g c = let rows : FitsRows c.args.list c.args.at.now.a c.args.at.now.b = c.requires.rows in (rw c.in-Bits.is at rows).1

pub emit_sum-requires-clause-a : goal.emit_sum-requires-clause-a
emit_sum-requires-clause-a g c = let rows : FitsRows c.args.list c.args.at.now.a c.args.at.now.b = c.requires.rows in (rw c.in-Sums.is at rows).0

pub emit_sum-requires-clause-b : goal.emit_sum-requires-clause-b
emit_sum-requires-clause-b g c = let rows : FitsRows c.args.list c.args.at.now.a c.args.at.now.b = c.requires.rows in (rw c.in-Sums.is at rows).1

pub emit_truth-requires-clause-a : goal.emit_truth-requires-clause-a
emit_truth-requires-clause-a g c = let rows : FitsRows c.args.list c.args.at.now.a c.args.at.now.b = c.requires.rows in (rw c.in-Truths.is at rows).0

pub emit_truth-requires-clause-b : goal.emit_truth-requires-clause-b
emit_truth-requires-clause-b g c = let rows : FitsRows c.args.list c.args.at.now.a c.args.at.now.b = c.requires.rows in (rw c.in-Truths.is at rows).1

pub emit_choice-requires-clause-a : goal.emit_choice-requires-clause-a
emit_choice-requires-clause-a g c = let rows : FitsRows c.args.list c.args.at.now.a c.args.at.now.b = c.requires.rows in (rw c.in-Choices.is at rows).0

pub emit_choice-requires-clause-b : goal.emit_choice-requires-clause-b
emit_choice-requires-clause-b g c = let rows : FitsRows c.args.list c.args.at.now.a c.args.at.now.b = c.requires.rows in (rw c.in-Choices.is at rows).1

pub emit_shift-requires-clause-a : goal.emit_shift-requires-clause-a
emit_shift-requires-clause-a g c = let rows : FitsRows c.args.list c.args.at.now.a c.args.at.now.b = c.requires.rows in (rw c.in-Shifts.is at rows).0

pub emit_shift-requires-clause-b : goal.emit_shift-requires-clause-b
emit_shift-requires-clause-b g c = let rows : FitsRows c.args.list c.args.at.now.a c.args.at.now.b = c.requires.rows in (rw c.in-Shifts.is at rows).1

pub emit_rounded-requires-clause-a : goal.emit_rounded-requires-clause-a
emit_rounded-requires-clause-a g c = let rows : FitsRows c.args.list c.args.at.now.a c.args.at.now.b = c.requires.rows in (rw c.in-Roundings.is at rows).0

pub emit_rounded-requires-clause-b : goal.emit_rounded-requires-clause-b
emit_rounded-requires-clause-b g c = let rows : FitsRows c.args.list c.args.at.now.a c.args.at.now.b = c.requires.rows in (rw c.in-Roundings.is at rows).1

pub emit_saturating-requires-clause-a : goal.emit_saturating-requires-clause-a
emit_saturating-requires-clause-a g c = let rows : FitsRows c.args.list c.args.at.now.a c.args.at.now.b = c.requires.rows in (rw c.in-Saturations.is at rows).0

pub emit_saturating-requires-clause-b : goal.emit_saturating-requires-clause-b
emit_saturating-requires-clause-b g c = let rows : FitsRows c.args.list c.args.at.now.a c.args.at.now.b = c.requires.rows in (rw c.in-Saturations.is at rows).1

pub returns-in-Saturations-clause-computes : goal.returns-in-Saturations-clause-computes
unfolding Computes list_of
returns-in-Saturations-clause-computes g c = rw c.in-Saturations.is (c.emit_saturating.ensures.realises false)

pub returns-in-Saturations-clause-tells : goal.returns-in-Saturations-clause-tells
unfolding TellsClips list_of
returns-in-Saturations-clause-tells g c = rw c.in-Saturations.is c.emit_saturating.ensures.clips

pub emit_average-requires-clause-a : goal.emit_average-requires-clause-a
emit_average-requires-clause-a g c = let rows : FitsRows c.args.list c.args.at.now.a c.args.at.now.b = c.requires.rows in rw c.with_difference-with.ensures (rw c.in-Averages.is at rows).0

pub emit_average-requires-clause-b : goal.emit_average-requires-clause-b
emit_average-requires-clause-b g c = let rows : FitsRows c.args.list c.args.at.now.a c.args.at.now.b = c.requires.rows in rw c.with_difference-with.ensures (rw c.in-Averages.is at rows).1

pub returns-in-Averages-clause-computes : goal.returns-in-Averages-clause-computes
unfolding Computes list_of
returns-in-Averages-clause-computes g c = rw c.in-Averages.is (rw c.with_difference-with.ensures at (c.emit_average.ensures.realises false))

pub emit_smul-requires-clause-a : goal.emit_smul-requires-clause-a
emit_smul-requires-clause-a g c = let rows : FitsRows c.args.list c.args.at.now.a c.args.at.now.b = c.requires.rows in (rw c.in-Fractions.is at rows).0

pub emit_smul-requires-clause-b : goal.emit_smul-requires-clause-b
emit_smul-requires-clause-b g c = let rows : FitsRows c.args.list c.args.at.now.a c.args.at.now.b = c.requires.rows in (rw c.in-Fractions.is at rows).1

pub returns-in-Fractions-clause-computes : goal.returns-in-Fractions-clause-computes
unfolding Computes list_of
returns-in-Fractions-clause-computes g c = rw c.in-Fractions.is (c.emit_smul.ensures.realises false)

pub returns-in-Fractions-clause-tells : goal.returns-in-Fractions-clause-tells
unfolding TellsClips list_of
returns-in-Fractions-clause-tells g c = rw c.in-Fractions.is c.emit_smul.ensures.clips

pub emit_commit-requires-clause-row : goal.emit_commit-requires-clause-row
emit_commit-requires-clause-row g c = let rows : FitsRows c.args.list c.args.at.now.a c.args.at.now.b = c.requires.rows in
    let is = (rw c.in-Copies.is at rows).0 in rw is (omega arith)

pub emit_commit-requires-clause-apart : goal.emit_commit-requires-clause-apart
emit_commit-requires-clause-apart g c = let rows : FitsRows c.args.list c.args.at.now.a c.args.at.now.b = c.requires.rows in
    let is = (rw c.in-Copies.is at rows).0 in rw is (omega arith)

pub returns-in-Copies-clause-ops : goal.returns-in-Copies-clause-ops
unfolding list_of
returns-in-Copies-clause-ops g c =
    let some : 0 < g.W.Width.BITS = omega (arith, g.met.W.Width.least) in
    rw c.in-Copies.is (c.emit_commit.ensures.ops g.W.Width.BITS some)

pub returns-in-Copies-clause-spare : goal.returns-in-Copies-clause-spare
unfolding length_of
returns-in-Copies-clause-spare g c = rw c.in-Copies.is c.emit_commit.ensures.spare

pub returns-in-Copies-clause-computes : goal.returns-in-Copies-clause-computes
unfolding Computes list_of
returns-in-Copies-clause-computes g c =
    let rows : FitsRows c.args.list c.args.at.now.a c.args.at.now.b = c.requires.rows in
    let is = (rw c.in-Copies.is at rows).0 in
    let to = c.requires.to in
    rw (c.in-Copies.is, is) (copied g.W.Width.BITS 36 c.args.at.now.to (omega arith) (omega arith) to)

pub returns-in-Copies-clause-cost : goal.returns-in-Copies-clause-cost
unfolding list_of counts_of length_of
returns-in-Copies-clause-cost g c = rw c.in-Copies.is (copied-measured g.W.Width.BITS c.args.at.now.a c.args.at.now.to c.requires.to)

pub emit_product-requires-clause-a : goal.emit_product-requires-clause-a
emit_product-requires-clause-a g c = let rows : FitsRows c.args.list c.args.at.now.a c.args.at.now.b = c.requires.rows in (rw c.in-Products.is at rows).0

pub emit_product-requires-clause-b : goal.emit_product-requires-clause-b
emit_product-requires-clause-b g c = let rows : FitsRows c.args.list c.args.at.now.a c.args.at.now.b = c.requires.rows in (rw c.in-Products.is at rows).1

pub returns-in-Products-clause-computes : goal.returns-in-Products-clause-computes
unfolding Computes list_of
returns-in-Products-clause-computes g c = rw c.in-Products.is (c.emit_product.ensures.realises false)

pub emit_division-requires-clause-a : goal.emit_division-requires-clause-a
emit_division-requires-clause-a g c = let rows : FitsRows c.args.list c.args.at.now.a c.args.at.now.b = c.requires.rows in (rw c.in-Divisions.is at rows).0

pub emit_division-requires-clause-b : goal.emit_division-requires-clause-b
emit_division-requires-clause-b g c = let rows : FitsRows c.args.list c.args.at.now.a c.args.at.now.b = c.requires.rows in (rw c.in-Divisions.is at rows).1

pub returns-in-Divisions-clause-computes : goal.returns-in-Divisions-clause-computes
unfolding Computes list_of
returns-in-Divisions-clause-computes g c = rw c.in-Divisions.is (c.emit_division.ensures.realises false)
