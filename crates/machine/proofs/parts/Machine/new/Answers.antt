use Rattle.std.proofs.Common.{◌≡◌, ◌≤◌, ◌*◌, ◌/◌, arith, refl}
use Rattle.rvv_meaning.specs.Images.{start_core}
use Rattle.vtype_cfg.proofs.Lengths.{vlen_from, vlen_words}
use Rattle.vtype_cfg.proofs.Supported.{vlen_bounded}
use Rattle.machine.proofs.Starts.{blank-registers}
use Rattle.machine.proofs.parts.Machine.new.Goals as goal

pub new-requires-2-clause-some : goal.new-requires-2-clause-some
new-requires-2-clause-some c = let least : 32 ≤ c.args.vlen = vlen_from c.args.vlen c.requires.vlen in omega arith

pub new-requires-2-clause-few : goal.new-requires-2-clause-few
new-requires-2-clause-few c = let most : c.args.vlen ≤ 65536 = vlen_bounded c.args.vlen c.requires.vlen in omega arith

pub invariant_of-result : goal.invariant_of-result
invariant_of-result c =
    let least : 32 ≤ c.args.vlen = vlen_from c.args.vlen c.requires.vlen in
    record {
      legal = c.requires.vlen;
      rounding = omega arith;
      most = omega arith;
      starts = omega arith;
      vlen = rw (c.in_ok-chain.ensures.columns, vlen_words c.args.vlen c.requires.vlen) refl;
      room = rw (c.in_ok-buf.ensures.ops, c.in_ok-buf.ensures.spare) refl;
      retired = omega arith;
      searches = rw c.in_ok-chain.ensures.counted (omega arith);
      updates = rw c.in_ok-chain.ensures.counted (omega arith);
      passes = rw c.in_ok-chain.ensures.counted (omega arith);
    }

pub returns-clause-core : goal.returns-clause-core
unfolding start_core
returns-clause-core c =
    let size : c.args.vlen / 8 ≡ 4 * (c.args.vlen / 32) = omega (arith, vlen_words c.args.vlen c.requires.vlen) in
    rw (c.in_ok-mem.ensures, c.as_slice.ensures, c.in_ok-chain.ensures.slices, blank-registers (c.args.vlen / 32) (c.args.vlen / 8) size, c.set.ensures, c.new-regs.ensures) refl
