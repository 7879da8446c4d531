use Rattle.std.proofs.Common.{arith}
use Rattle.cam_chain.specs.ChainValue.{slices_of}
use Rattle.vec_mem.specs.Views.{vectors_of}
use Rattle.vec_mem.proofs.Storing.{byte-fits, byte-told, byte-small}
use Rattle.vec_mem.proofs.stores.byte_at.Goals as goal

pub overflow_mul-place : goal.overflow_mul-place
overflow_mul-place c = let h = byte-fits c.args.cfg.now c.args.access.now c.args.chain.now.columns c.field_size-size.result c.per_field-per.result c.args.k c.args.e c.requires.columns c.requires.fits c.field_size-size.ensures c.per_field-per.ensures c.requires.place c.requires.element in omega (arith, h.1, h.2)

pub overflow_add-place : goal.overflow_add-place
overflow_add-place c = let h = byte-fits c.args.cfg.now c.args.access.now c.args.chain.now.columns c.field_size-size.result c.per_field-per.result c.args.k c.args.e c.requires.columns c.requires.fits c.field_size-size.ensures c.per_field-per.ensures c.requires.place c.requires.element in omega (arith, h.1, h.2)

pub overflow_mul-place-2 : goal.overflow_mul-place-2
overflow_mul-place-2 c = let h = byte-fits c.args.cfg.now c.args.access.now c.args.chain.now.columns c.field_size-size.result c.per_field-per.result c.args.k c.args.e c.requires.columns c.requires.fits c.field_size-size.ensures c.per_field-per.ensures c.requires.place c.requires.element in omega (arith, h.1, h.2)

pub overflow_add-place-2 : goal.overflow_add-place-2
overflow_add-place-2 c = let h = byte-fits c.args.cfg.now c.args.access.now c.args.chain.now.columns c.field_size-size.result c.per_field-per.result c.args.k c.args.e c.requires.columns c.requires.fits c.field_size-size.ensures c.per_field-per.ensures c.requires.place c.requires.element in omega (arith, h.1, h.2)

pub element-requires-clause-place : goal.element-requires-clause-place
element-requires-clause-place c = (byte-fits c.args.cfg.now c.args.access.now c.args.chain.now.columns c.field_size-size.result c.per_field-per.result c.args.k c.args.e c.requires.columns c.requires.fits c.field_size-size.ensures c.per_field-per.ensures c.requires.place c.requires.element).0

pub overflow_cast-result : goal.overflow_cast-result
unfolding slices_of
overflow_cast-result c = let h = byte-small (slices_of c.args.chain.now) c.args.access.now.register _ c.element.result c.element.ensures in omega (arith, h)

pub returns : goal.returns
returns c = byte-told c.args.cfg.now c.args.access.now c.args.chain.now.columns c.field_size-size.result c.per_field-per.result c.args.k c.args.e c.element.result (vectors_of c.args.chain.now) c.requires.columns c.field_size-size.ensures c.per_field-per.ensures c.element.ensures
