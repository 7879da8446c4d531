use Rattle.vec_mem.specs.Views.{vectors_of}
use Rattle.vec_mem.proofs.Legal.{access-fits, load-fits}
use Rattle.vec_mem.proofs.Outcomes.{table-for, reads, outcome-of-load, valid-after-load, trims-by-length}
use Rattle.vec_mem.proofs.load.Goals as goal

pub access_for-access-requires-clause-sew : goal.access_for-access-requires-clause-sew
access_for-access-requires-clause-sew c = (table-for c.args.i.now c.args.cfg.now c.in-Memory.op c.requires.valid c.requires.legal c.in-Memory.is).sew

pub access_for-access-requires-clause-most : goal.access_for-access-requires-clause-most
access_for-access-requires-clause-most c = (table-for c.args.i.now c.args.cfg.now c.in-Memory.op c.requires.valid c.requires.legal c.in-Memory.is).most

pub access_for-access-requires-clause-lmul : goal.access_for-access-requires-clause-lmul
access_for-access-requires-clause-lmul c = (table-for c.args.i.now c.args.cfg.now c.in-Memory.op c.requires.valid c.requires.legal c.in-Memory.is).lmul

pub access_for-access-requires-clause-vlen : goal.access_for-access-requires-clause-vlen
access_for-access-requires-clause-vlen c = (table-for c.args.i.now c.args.cfg.now c.in-Memory.op c.requires.valid c.requires.legal c.in-Memory.is).vlen

pub access_for-access-requires-clause-length : goal.access_for-access-requires-clause-length
access_for-access-requires-clause-length c = (table-for c.args.i.now c.args.cfg.now c.in-Memory.op c.requires.valid c.requires.legal c.in-Memory.is).length

pub load_access-requires-clause-fits : goal.load_access-requires-clause-fits
load_access-requires-clause-fits c = rw c.access_for-access.ensures (access-fits c.args.i.now c.args.cfg.now c.args.chain.now.columns c.args.stride c.requires.valid c.requires.columns c.requires.fields c.requires.legal c.in-Memory.op c.in-Memory.is)

pub load_access-requires-clause-load : goal.load_access-requires-clause-load
load_access-requires-clause-load c =
    rw c.access_for-access.ensures (load-fits c.args.i.now c.args.cfg.now c.args.chain.now.columns c.args.stride c.requires.valid c.requires.columns c.requires.fields c.requires.legal c.in-Memory.op c.in-Memory.is (reads c.args.i.now.op c.in-Memory.op c.in-Memory.is c.requires.load))

pub returns-in-Memory-clause-cfg : goal.returns-in-Memory-clause-cfg
returns-in-Memory-clause-cfg c = rw (outcome-of-load c.args.i.now c.args.cfg.now c.args.base c.args.stride (vectors_of c.args.chain.now) c.args.mem.now.pages c.in-Memory.op c.in-Memory.is c.access_for-access.result c.access_for-access.ensures c.requires.load) c.load_access.ensures.cfg

pub returns-in-Memory-clause-vectors : goal.returns-in-Memory-clause-vectors
returns-in-Memory-clause-vectors c = rw (outcome-of-load c.args.i.now c.args.cfg.now c.args.base c.args.stride (vectors_of c.args.chain.now) c.args.mem.now.pages c.in-Memory.op c.in-Memory.is c.access_for-access.result c.access_for-access.ensures c.requires.load) c.load_access.ensures.vectors

pub returns-in-Memory-clause-ok : goal.returns-in-Memory-clause-ok
returns-in-Memory-clause-ok c = rw (outcome-of-load c.args.i.now c.args.cfg.now c.args.base c.args.stride (vectors_of c.args.chain.now) c.args.mem.now.pages c.in-Memory.op c.in-Memory.is c.access_for-access.result c.access_for-access.ensures c.requires.load) c.load_access.ensures.ok

pub returns-in-Memory-clause-fault : goal.returns-in-Memory-clause-fault
returns-in-Memory-clause-fault c = rw (outcome-of-load c.args.i.now c.args.cfg.now c.args.base c.args.stride (vectors_of c.args.chain.now) c.args.mem.now.pages c.in-Memory.op c.in-Memory.is c.access_for-access.result c.access_for-access.ensures c.requires.load) c.load_access.ensures.fault

pub returns-in-Memory-clause-valid : goal.returns-in-Memory-clause-valid
returns-in-Memory-clause-valid c =
    let t = c.access_for-access.result in
    rw c.load_access.ensures.cfg
    (valid-after-load c.args.cfg.now t c.args.chain.now.columns c.requires.columns (rw c.access_for-access.ensures (access-fits c.args.i.now c.args.cfg.now c.args.chain.now.columns c.args.stride c.requires.valid c.requires.columns c.requires.fields c.requires.legal c.in-Memory.op c.in-Memory.is))
    (trims-by-length c.in-Memory.op c.args.i.now c.args.cfg.now c.args.stride t c.access_for-access.ensures) c.requires.valid c.args.base (vectors_of c.args.chain.now) c.args.mem.now.pages)
