use Rattle.std.proofs.Common.{[], refl}
use Rattle.guest_env.proofs.Taking.{stored-none, takes-none}
use Rattle.guest_env.proofs.reads.read.Goals as goal

pub returns-then-not-is_input-clause-answered : goal.returns-then-not-is_input-clause-answered
returns-then-not-is_input-clause-answered g c = record {
  taken = [];
  took = rw (← c.if-not-is_input.ensures) (takes-none _);
  answers = rw (← c.if-not-is_input.ensures) refl;
  stored = stored-none c.args.mem.now c.args.address;
}

pub returns-then-not-is_allowed-clause-answered : goal.returns-then-not-is_allowed-clause-answered
returns-then-not-is_allowed-clause-answered g c = record {
  taken = [];
  took = rw (← c.if-not-is_input.ensures, ← c.if-not-is_allowed.ensures) (takes-none _);
  answers = rw (← c.if-not-is_input.ensures, ← c.if-not-is_allowed.ensures) refl;
  stored = stored-none c.args.mem.now c.args.address;
}
