use Rattle.std.proofs.Common.{◌≡◌, ℕ, suc, ◌+◌, ◌*◌, ◌%◌, ◌^◌, ◌<◌, ◌≤◌, eqb, ◌++◌, sym, append-nil, arith}
use Rattle.std.proofs.lemmas.Nat.{one_shl, pow_pos}
use Rattle.std.proofs.Math.Nat.{pow-suc}
use Rattle.std.proofs.Math.Pow.{pow_mono}
use Rattle.micro_ir.specs.Steps.{micros}
use Rattle.gen_shift.specs.Lists.{stage}
use Rattle.gen_shift.proofs.Barrel.{below-power, few-stages}
use Rattle.gen_shift.proofs.Costs.{lengths-none, lengths-next, lengths-most}
use Rattle.gen_shift.proofs.Families.{width-most}
use Rattle.gen_shift.proofs.Written.{one-more, stages-none, stages-more}
use Rattle.gen_shift.proofs.stages.emit_stages.Goals as goal

-- a bit of the amount: its number, and the places that its stage moves by
record Bit (w l bit : ℕ) : Type 0 where
  below : bit < w
  few : bit < 8
  some : 0 < 1 * 2 ^ bit % 2 ^ 8
  room : 1 * 2 ^ bit % 2 ^ 8 < w

bit-of : (w l bit : ℕ) → w ≡ 2 ^ l → 32 % w ≡ 0 → bit < l → Bit w l bit
bit-of w l bit is divides inside =
    let most : l ≤ 5 = few-stages w l is (width-most w divides) in
    let small : bit < 8 = omega arith in
    let all : l < 2 ^ l = below-power l in
    let by : 1 * 2 ^ bit % 2 ^ 8 ≡ 2 ^ bit = one_shl bit 8 small in
    let less : 2 ^ suc bit ≤ 2 ^ l = pow_mono {i = suc bit} {j = l} inside in
    let twice : 2 ^ suc bit ≡ 2 ^ bit * 2 = pow-suc 2 bit in
    let some : 0 < 2 ^ bit = pow_pos bit in
    record { below = omega arith; few = small; some = rw by some; room = rw by (omega (arith, is, less, twice, some)) }

pub overflow_cast-bit-end : goal.overflow_cast-bit-end
overflow_cast-bit-end g c =
    let most = few-stages g.W.Width.BITS g.W.Width.LOG g.met.W.Width.power (width-most g.W.Width.BITS g.met.W.Width.divides) in
    omega (arith, c.LOG-bit-end.ensures, most)

pub overflow_shl-bit : goal.overflow_shl-bit
overflow_shl-bit g c = (bit-of g.W.Width.BITS g.W.Width.LOG c.loop-bit.bit g.met.W.Width.power g.met.W.Width.divides (omega (arith, c.loop-bit-test.true, c.LOG-bit-end.ensures))).few

pub loop-bit-init : goal.loop-bit-init
loop-bit-init g c = record {
  ops = rw (stages-none c.args.kind c.args.keeps g.W.Width.BITS c.args.b) (sym (append-nil _));
  spare = rw (lengths-none c.args.kind c.args.keeps g.W.Width.BITS) (omega arith);
}

pub emit_stage-requires-clause-bit : goal.emit_stage-requires-clause-bit
emit_stage-requires-clause-bit g c = (bit-of g.W.Width.BITS g.W.Width.LOG c.loop-bit.bit g.met.W.Width.power g.met.W.Width.divides (omega (arith, c.loop-bit-test.true, c.LOG-bit-end.ensures))).below

pub emit_stage-requires-clause-some : goal.emit_stage-requires-clause-some
emit_stage-requires-clause-some g c = (bit-of g.W.Width.BITS g.W.Width.LOG c.loop-bit.bit g.met.W.Width.power g.met.W.Width.divides (omega (arith, c.loop-bit-test.true, c.LOG-bit-end.ensures))).some

pub emit_stage-requires-clause-by : goal.emit_stage-requires-clause-by
emit_stage-requires-clause-by g c = (bit-of g.W.Width.BITS g.W.Width.LOG c.loop-bit.bit g.met.W.Width.power g.met.W.Width.divides (omega (arith, c.loop-bit-test.true, c.LOG-bit-end.ensures))).room

pub emit_stage-requires-clause-room : goal.emit_stage-requires-clause-room
emit_stage-requires-clause-room g c =
    let w : ℕ = g.W.Width.BITS in
    let bit : ℕ = c.loop-bit.bit in
    let b = bit-of w g.W.Width.LOG bit g.met.W.Width.power g.met.W.Width.divides (omega (arith, c.loop-bit-test.true, c.LOG-bit-end.ensures)) in
    let by : 1 * 2 ^ bit % 2 ^ 8 ≡ 2 ^ bit = one_shl bit 8 b.few in
    let before : suc bit ≤ g.W.Width.LOG = omega (arith, c.loop-bit-test.true, c.LOG-bit-end.ensures) in
    let most = lengths-most c.args.kind c.args.keeps w (suc bit) g.W.Width.LOG before in
    rw by (omega (arith, most, lengths-next c.args.kind c.args.keeps w bit, c.loop-bit.invariant.spare, c.requires.room))

pub loop-bit-preserved : goal.loop-bit-preserved
loop-bit-preserved g c =
    let w = g.W.Width.BITS in
    let bit : ℕ = c.loop-bit.bit in
    let b = bit-of w g.W.Width.LOG bit g.met.W.Width.power g.met.W.Width.divides (omega (arith, c.loop-bit-test.true, c.LOG-bit-end.ensures)) in
    let by : 1 * 2 ^ bit % 2 ^ 8 ≡ 2 ^ bit = one_shl bit 8 b.few in
    let made : c.emit_stage.new.buf.ops ≡ c.loop-bit.buf.ops ++ micros w (stage c.args.kind c.args.keeps w c.args.b (eqb (bit % 2) 1) bit (2 ^ bit)) = rw by at c.emit_stage.ensures.ops in
    let next : bit + 1 ≡ suc bit = omega arith in
    let used = rw by at c.emit_stage.ensures.spare in
    record {
      ops = one-more _ _ _ made c.loop-bit.invariant.ops (stages-more c.args.kind c.args.keeps w c.args.b bit);
      spare = rw next (omega (arith, used, lengths-next c.args.kind c.args.keeps w bit, c.loop-bit.invariant.spare));
    }

pub returns-clause-ops : goal.returns-clause-ops
returns-clause-ops g c = let all : c.loop-bit.bit ≡ g.W.Width.LOG = omega (arith, c.LOG-bit-end.ensures) in rw all at c.loop-bit.invariant.ops

pub returns-clause-spare : goal.returns-clause-spare
returns-clause-spare g c = let all : c.loop-bit.bit ≡ g.W.Width.LOG = omega (arith, c.LOG-bit-end.ensures) in rw all at c.loop-bit.invariant.spare
