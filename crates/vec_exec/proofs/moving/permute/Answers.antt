use Rattle.cam_chain.specs.ChainValue.{slices_of}
use Rattle.cam_chain.specs.Views.{registers_of}
use Rattle.vec_exec.proofs.Permuted.{permuted}
use Rattle.vec_exec.proofs.moving.permute.Goals as goal

pub permute-requires-clause-kind : goal.permute-requires-clause-kind
permute-requires-clause-kind c = (permuted c.args.i.now c.requires.computes c.requires.apart c.requires.registers).some

pub returns-clause-vectors : goal.returns-clause-vectors
returns-clause-vectors c = λ x.
    let facts = permuted c.args.i.now c.requires.computes c.requires.apart c.requires.registers in
    rw (facts.same c.args.i.now c.args.cfg.now x (registers_of (slices_of c.args.chain.now))) (c.permute.ensures.vectors x)
