use Rattle.std.proofs.Common.{◌≡◌, ℕ, ◌+◌, ◌*◌, ◌≤◌, Bool, false, eqb, refl, ◌∙◌, arith, ap}
use Rattle.std.specs.Int.{bit_at}
use Rattle.bit_rows.proofs.Packed.{zero_words}
use Rattle.steer_net.proofs.RunBits.{running, running_none, running_more, running_whole}
use Rattle.steer_net.proofs.sources.number_words.Goals as goal

pub loop-col-init : goal.loop-col-init
loop-col-init c k =
    let bits : ℕ → Bool = λ i. eqb (bit_at (c.args.number + i * c.args.step) c.args.place) 1 in
    zero_words 32 0 k refl ∙ running_none 0 bits (λ i. false) k

pub loop-col-preserved : goal.loop-col-preserved
loop-col-preserved c k =
    let bits : ℕ → Bool = λ i. eqb (bit_at (c.args.number + i * c.args.step) c.args.place) 1 in
    let least : 0 ≤ c.loop-col.col = omega arith in
    c.put_column.ensures k ∙ rw (c.loop-col.invariant k)
    (running_more 0 c.loop-col.col k bits (λ i. false) c.has_bit.result least (rw (← c.from.ensures) c.has_bit.ensures))

pub returns : goal.returns
returns c k =
    let bits : ℕ → Bool = λ i. eqb (bit_at (c.args.number + i * c.args.step) c.args.place) 1 in
    let end : c.loop-col.col ≡ c.args.columns = let l = c.loop-col-test.false in let m = c.loop-col.auto.col-end in omega arith in
    c.loop-col.invariant k ∙ ap (λ n. running 0 n bits (λ i. false) k) end ∙ running_whole c.args.columns k bits (λ i. false) refl
