use Rattle.std.proofs.Common.{refl, arith}
use Rattle.micro_ir.proofs.Folds.{keys-next, keys-none, keys-all}
use Rattle.micro_ir.proofs.folding.keys_once.Goals as goal

pub loop-row-init : goal.loop-row-init
loop-row-init c = record { few = omega arith; small = omega arith; four = refl; apart = refl; keys = refl }

pub loop-row-preserved : goal.loop-row-preserved
loop-row-preserved c =
    let l = c.loop-row in
    keys-next c.args.rows.now c.args.value l.row-index l.count c.in-Some.more l.rest l.pairs c.add_row.new.pairs c.requires c.loop-row-test.true l.invariant c.add_row.auto.pairs c.in-Some.ensures.few c.in-Some.ensures.some

pub returns-in-None : goal.returns-in-None
returns-in-None c =
    let l = c.loop-row in
    keys-none c.args.rows.now c.args.value l.row-index l.count l.rest l.pairs c.loop-row-test.true l.invariant c.in-None.ensures.none

pub returns : goal.returns
returns c =
    let l = c.loop-row in
    rw c.as_keys.ensures (keys-all c.args.rows.now c.args.value l.row-index l.count l.rest l.pairs c.loop-row-test.false l.invariant)
