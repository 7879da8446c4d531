use Rattle.std.proofs.Common.{◌≡◌, ℕ, ◌+◌, ◌-◌, ◌*◌, ◌<◌, ◌≤◌, Bool, ap, ◌∙◌, arith}
use Rattle.std.proofs.lemmas.List.{length-set}
use Rattle.bit_rows.specs.Words.{word_bit}
use Rattle.steer_net.proofs.Copied.{copy_none, copy_more, copy_all}
use Rattle.steer_net.proofs.copies.copy_columns.Goals as goal

pub loop-i-init : goal.loop-i-init
loop-i-init c = record {
  len = c.told-words;
  done = λ k. copy_none c.args.from c.args.to k (λ i. word_bit c.args.row.now (c.args.at + (i - c.args.from))) (word_bit c.args.words.now);
}

pub loop-i-preserved : goal.loop-i-preserved
loop-i-preserved c =
    let inv = c.loop-i.invariant in
    let i = c.loop-i.i in
    let first = c.loop-i.auto.i in
    let few = c.requires.few in
    let inside : i < 32 = omega (arith, c.loop-i-test.true, c.div_ceil-i-end.ensures) in
    let bits : ℕ → Bool = λ k. word_bit c.args.row.now (c.args.at + (k - c.args.from)) in
    record {
      len = length-set c.loop-i.words i _ ∙ inv.len;
      done = λ k. copy_more c.args.from c.args.to i k c.range_word-range.result c.moved_word-moved.result bits (word_bit c.args.words.now) c.loop-i.words
          (rw inv.len inside) (inv.done k) c.range_word-range.ensures
          (λ j l h. let e : c.args.at + 64 * i + j - c.args.from ≡ c.args.at + (64 * i + j - c.args.from) = omega arith in
          let near : c.args.from ≤ c.args.at + 64 * i + j = omega arith in
          c.moved_word-moved.ensures j l near ∙ ap (word_bit c.args.row.now) e);
    }

pub returns : goal.returns
returns c k = c.loop-i.invariant.done k ∙ copy_all c.args.from c.args.to c.loop-i.i k (λ i. word_bit c.args.row.now (c.args.at + (i - c.args.from))) (word_bit c.args.words.now) (omega (arith, c.loop-i-test.false, c.div_ceil-i-end.ensures))
