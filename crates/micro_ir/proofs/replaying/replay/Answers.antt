use Rattle.std.proofs.Common.{◌≡◌, ◌||◌, ◌<◌, length, arith, refl, ◌∙◌, sym, ap}
use Rattle.bit_rows.specs.Slices.{Slices}
use Rattle.micro_ir.specs.Replay.{replay, clips, tally, state_of}
use Rattle.micro_ir.proofs.Lists.{replay_more, clips_more, or_assoc, or_false, tally_more, IsInRange-at, few-one, counts_and-assoc, counts_and-none}
use Rattle.micro_ir.proofs.replaying.replay.Goals as goal

pub loop-i-init : goal.loop-i-init
unfolding replay tally clips
loop-i-init c = record {
  slices = refl;
  clip = sym (or_false c.args.ctl.now.clip);
  counted = sym (counts_and-none _);
  columns = refl;
  searches = c.requires.searches;
  updates = c.requires.updates;
  passes = c.requires.passes;
}

pub apply-requires-clause-in_range : goal.apply-requires-clause-in_range
apply-requires-clause-in_range c =
    rw c.loop-i.invariant.columns (IsInRange-at c.args.chain.now.columns c.args.first _ c.loop-i.i _ c.requires.in_range c.loop-i-test.true (let w = c.requires.within in omega arith) (rw c.ops-ops.ensures.value at c.index-ops-i.is))

pub loop-i-preserved : goal.loop-i-preserved
loop-i-preserved c =
    let p = c.loop-i.invariant in
    let at = rw c.ops-ops.ensures.value at c.index-ops-i.is in
    let inside : c.loop-i.i < length c.args.buf.now.ops = let w = c.requires.within in omega arith in
    let few = few-one c.args.chain.now.columns c.index-ops-i.result (IsInRange-at c.args.chain.now.columns c.args.first _ c.loop-i.i _ c.requires.in_range c.loop-i-test.true inside at) in
    record {
      slices = c.apply.ensures.slices ∙ rw p.slices (sym (replay_more _ c.loop-i.i c.index-ops-i.result _ inside at));
      clip = c.apply.ensures.clip ∙ rw (p.slices, p.clip) (or_assoc c.args.ctl.now.clip _ _
          ∙ ap (λ b. c.args.ctl.now.clip || b) (sym (clips_more _ c.loop-i.i c.index-ops-i.result (state_of c.args.chain.now c.args.ctl.now.num) inside at)));
      counted = c.apply.ensures.counted ∙ rw p.counted (rw (tally_more _ c.loop-i.i c.index-ops-i.result inside at) (sym (counts_and-assoc _ _ _)));
      columns = c.apply.ensures.columns ∙ p.columns;
      searches = rw c.apply.ensures.counted (omega (arith, few.searches, p.searches));
      updates = rw c.apply.ensures.counted (omega (arith, few.updates, p.updates));
      passes = rw c.apply.ensures.counted (omega (arith, few.passes, p.passes));
    }

pub returns-clause-control : goal.returns-clause-control
returns-clause-control c =
    let p = c.loop-i.invariant in
    let e : c.loop-i.i ≡ c.args.first = let a = c.loop-i-test.false in let b = c.loop-i.auto.i-end in omega arith in
    let n = ap (λ (s : Slices). s.num) (rw e at p.slices) in
    let b = rw e at p.clip in
    λ i. record { num = n i; clip = b i }
