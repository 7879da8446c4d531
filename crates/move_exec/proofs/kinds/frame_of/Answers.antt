use Rattle.std.proofs.Common.{◌≡◌, Some, true}
use Rattle.move_exec.specs.declared.kinds.Kind.TheVariants.{Numbers, Moves}
use Rattle.move_exec.specs.Kinds.{kind_for, has_program}
use Rattle.move_exec.proofs.Realised.{group-sits, move-sits}
use Rattle.move_exec.proofs.Valid.{length-bounded}
use Rattle.move_exec.proofs.kinds.frame_of.Goals as goal

pub group_frame-requires : goal.group_frame-requires
group_frame-requires c =
    let is : kind_for c.args.i.now.op ≡ Some Numbers = rw c.in-Numbers.is at c.requires.kind in
    record { sits = group-sits c.args.i.now c.args.cfg.now is c.requires.valid c.requires.legal }

pub frame_of_move-requires-clause-sits : goal.frame_of_move-requires-clause-sits
frame_of_move-requires-clause-sits c =
    let how = c.in-Moves.how in
    let is : kind_for c.args.i.now.op ≡ Some (Moves how) = rw c.in-Moves.is at c.requires.kind in
    let form : has_program (Moves how) c.args.i.now.form ≡ true = rw c.in-Moves.is at c.requires.form in
    move-sits how c.args.i.now c.args.cfg.now c.args.scalar is form c.requires.valid c.requires.legal

pub frame_of_move-requires-clause-length : goal.frame_of_move-requires-clause-length
frame_of_move-requires-clause-length c = length-bounded c.args.cfg.now c.requires.valid
