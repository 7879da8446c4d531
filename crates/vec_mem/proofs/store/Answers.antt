use Rattle.vec_mem.specs.Views.{vectors_of}
use Rattle.vec_mem.proofs.Legal.{access-fits}
use Rattle.vec_mem.proofs.Outcomes.{table-for, outcome-of-store, valid-after-store, trims-by-length}
use Rattle.vec_mem.proofs.store.Goals as goal

pub access_for-access-requires-clause-sew : goal.access_for-access-requires-clause-sew
access_for-access-requires-clause-sew c = (table-for c.args.i.now c.args.cfg.now c.in-Memory.op c.requires.valid c.requires.legal c.in-Memory.is).sew

pub access_for-access-requires-clause-most : goal.access_for-access-requires-clause-most
access_for-access-requires-clause-most c = (table-for c.args.i.now c.args.cfg.now c.in-Memory.op c.requires.valid c.requires.legal c.in-Memory.is).most

pub access_for-access-requires-clause-lmul : goal.access_for-access-requires-clause-lmul
access_for-access-requires-clause-lmul c = (table-for c.args.i.now c.args.cfg.now c.in-Memory.op c.requires.valid c.requires.legal c.in-Memory.is).lmul

pub access_for-access-requires-clause-vlen : goal.access_for-access-requires-clause-vlen
access_for-access-requires-clause-vlen c = (table-for c.args.i.now c.args.cfg.now c.in-Memory.op c.requires.valid c.requires.legal c.in-Memory.is).vlen

pub access_for-access-requires-clause-length : goal.access_for-access-requires-clause-length
access_for-access-requires-clause-length c = (table-for c.args.i.now c.args.cfg.now c.in-Memory.op c.requires.valid c.requires.legal c.in-Memory.is).length

pub store_access-requires-clause-fits : goal.store_access-requires-clause-fits
store_access-requires-clause-fits c = rw c.access_for-access.ensures (access-fits c.args.i.now c.args.cfg.now c.args.chain.now.columns c.args.stride c.requires.valid c.requires.columns c.requires.fields c.requires.legal c.in-Memory.op c.in-Memory.is)

pub returns-in-Memory-clause-cfg : goal.returns-in-Memory-clause-cfg
returns-in-Memory-clause-cfg c = rw (outcome-of-store c.args.i.now c.args.cfg.now c.args.base c.args.stride (vectors_of c.args.chain.now) c.args.mem.now.pages c.in-Memory.op c.in-Memory.is c.access_for-access.result c.access_for-access.ensures c.requires.store) c.store_access.ensures.cfg

pub returns-in-Memory-clause-pages : goal.returns-in-Memory-clause-pages
returns-in-Memory-clause-pages c = rw (outcome-of-store c.args.i.now c.args.cfg.now c.args.base c.args.stride (vectors_of c.args.chain.now) c.args.mem.now.pages c.in-Memory.op c.in-Memory.is c.access_for-access.result c.access_for-access.ensures c.requires.store) c.store_access.ensures.pages

pub returns-in-Memory-clause-ok : goal.returns-in-Memory-clause-ok
returns-in-Memory-clause-ok c = rw (outcome-of-store c.args.i.now c.args.cfg.now c.args.base c.args.stride (vectors_of c.args.chain.now) c.args.mem.now.pages c.in-Memory.op c.in-Memory.is c.access_for-access.result c.access_for-access.ensures c.requires.store) c.store_access.ensures.ok

pub returns-in-Memory-clause-fault : goal.returns-in-Memory-clause-fault
returns-in-Memory-clause-fault c = rw (outcome-of-store c.args.i.now c.args.cfg.now c.args.base c.args.stride (vectors_of c.args.chain.now) c.args.mem.now.pages c.in-Memory.op c.in-Memory.is c.access_for-access.result c.access_for-access.ensures c.requires.store) c.store_access.ensures.fault

pub returns-in-Memory-clause-valid : goal.returns-in-Memory-clause-valid
returns-in-Memory-clause-valid c =
    let t = c.access_for-access.result in
    rw c.store_access.ensures.cfg
    (valid-after-store c.args.cfg.now t c.args.chain.now.columns c.requires.columns (rw c.access_for-access.ensures (access-fits c.args.i.now c.args.cfg.now c.args.chain.now.columns c.args.stride c.requires.valid c.requires.columns c.requires.fields c.requires.legal c.in-Memory.op c.in-Memory.is))
    (trims-by-length c.in-Memory.op c.args.i.now c.args.cfg.now c.args.stride t c.access_for-access.ensures) c.requires.valid c.args.base (vectors_of c.args.chain.now) c.args.mem.now.pages)
