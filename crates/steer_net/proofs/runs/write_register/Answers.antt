use Rattle.std.proofs.Common.{◌+◌, ◌-◌, ◌<◌, ◌≤◌, ◌∙◌, arith}
use Rattle.bit_rows.specs.Words.{word_bit}
use Rattle.steer_net.proofs.RunBits.{chosen_same, none_chosen}
use Rattle.steer_net.proofs.runs.write_register.Goals as goal

pub returns-then-from-to : goal.returns-then-from-to
returns-then-from-to g c k =
    let s = g.P.Planes.slices c.args.p.now in
    let inside = c.requires.inside in
    c.copy_columns.ensures k
    ∙ chosen_same c.args.from c.args.to k (word_bit c.words-source.result.now (c.args.at + (k - c.args.from))) (s.bit c.args.sub c.args.row (c.args.at + (k - c.args.from))) (word_bit c.args.words.now k)
    (λ l m. let n : c.args.at + (k - c.args.from) < s.columns = omega arith in c.words-source.ensures.bits (c.args.at + (k - c.args.from)) n)

pub returns-else-from-to : goal.returns-else-from-to
returns-else-from-to g c k =
    let s = g.P.Planes.slices c.args.p.now in
    let h : c.args.to ≤ c.args.from = let l = c.if-from-to.false in omega arith in
    none_chosen c.args.from c.args.to k (s.bit c.args.sub c.args.row (c.args.at + (k - c.args.from))) (word_bit c.args.words.now k) h
