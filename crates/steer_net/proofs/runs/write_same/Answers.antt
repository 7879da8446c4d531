use Rattle.std.proofs.Common.{◌≡◌, ◌+◌, ◌-◌, ◌*◌, ◌<◌, replicate, sym, ap, ◌∙◌, arith}
use Rattle.bit_rows.specs.Words.{word_bit}
use Rattle.steer_net.specs.Moves.{bit_in_group}
use Rattle.steer_net.specs.Runs.{run_number}
use Rattle.steer_net.proofs.RunBits.{number_small, run_start, chosen_same, alike_words}
use Rattle.steer_net.proofs.runs.write_same.Goals as goal

pub overflow_cast-run : goal.overflow_cast-run
overflow_cast-run g c =
    let s = g.P.Planes.slices c.args.p.now in
    let h = run_start s c.args.run c.requires.rows c.requires.some in
    let m : c.args.run.start < 4194304 = number_small c.args.run.base s.columns c.args.run.start c.requires.few h in
    omega arith

pub group_bit-bit-requires : goal.group_bit-bit-requires
group_bit-bit-requires g c = run_start (g.P.Planes.slices c.args.p.now) c.args.run c.requires.rows c.requires.some

pub returns : goal.returns
returns g c k =
    let s = g.P.Planes.slices c.args.p.now in
    let run = c.args.run in
    let number : c.args.run.start + (k - c.args.run.from) * c.args.run.step ≡ c.args.run.start = rw c.requires.step (omega arith) in
    c.copy_columns.ensures k
    ∙ chosen_same run.from run.to k (word_bit (replicate 32 c.all_bits.result) (0 + (k - run.from))) (bit_in_group s run.base (run_number run k)) (word_bit c.args.words.now k)
    (λ l m. let e = c.requires.end in let f = c.requires.few in
    alike_words 32 c.all_bits.result (0 + (k - run.from)) c.group_bit-bit.result (omega arith) c.all_bits.ensures ∙ c.group_bit-bit.ensures ∙ ap (bit_in_group s run.base) (sym number))
