use Rattle.std.proofs.Common.{◌*◌, None, Some, refl, sym, ◌∙◌}
use Rattle.vec_mem.specs.Steps.{values_at, ones_of}
use Rattle.vec_mem.specs.Views.{vectors_of}
use Rattle.vec_mem.proofs.Loading.{fields-room, as-all-written, loaded-moved, loaded-agnostic, loaded-kept, bad-found, none-masked}
use Rattle.vec_mem.proofs.fields.load_element.Goals as goal

pub per_field-per-requires-clause-short : goal.per_field-per-requires-clause-short
per_field-per-requires-clause-short c = c.requires.fits.vlen

pub returns-in-Err-clause-bad : goal.returns-in-Err-clause-bad
returns-in-Err-clause-bad c =
    bad-found c.args.cfg.now c.args.access.now c.args.base (vectors_of c.args.chain.now) 4 c.args.mem.now.pages c.args.e c.address-address.result _ (Some c.in-Err.fault.address)
    (sym (c.is_unmasked.ensures c.args.cfg.now c.args.base) ∙ c.if-is_unmasked.true) c.address-address.ensures (rw (c.from.ensures, c.field_size-size.ensures) refl) c.in-Err.ensures.fault

pub load_fields-requires-clause-small : goal.load_fields-requires-clause-small
load_fields-requires-clause-small c =
    (fields-room c.args.cfg.now c.args.access.now c.args.chain.now.columns c.field_size-size.result c.per_field-per.result c.requires.columns c.requires.fits c.field_size-size.ensures c.per_field-per.ensures).1

pub load_fields-requires-clause-room : goal.load_fields-requires-clause-room
load_fields-requires-clause-room c =
    (fields-room c.args.cfg.now c.args.access.now c.args.chain.now.columns c.field_size-size.result c.per_field-per.result c.requires.columns c.requires.fits c.field_size-size.ensures c.per_field-per.ensures).0

pub fill_fields-requires-clause-small : goal.fill_fields-requires-clause-small
fill_fields-requires-clause-small c =
    (fields-room c.args.cfg.now c.args.access.now c.args.chain.now.columns c.field_size-size.result c.per_field-per.result c.requires.columns c.requires.fits c.field_size-size.ensures c.per_field-per.ensures).1

pub fill_fields-requires-clause-room : goal.fill_fields-requires-clause-room
fill_fields-requires-clause-room c =
    (fields-room c.args.cfg.now c.args.access.now c.args.chain.now.columns c.field_size-size.result c.per_field-per.result c.requires.columns c.requires.fits c.field_size-size.ensures c.per_field-per.ensures).0

pub returns-then-is_unmasked-clause-bad : goal.returns-then-is_unmasked-clause-bad
returns-then-is_unmasked-clause-bad c =
    bad-found c.args.cfg.now c.args.access.now c.args.base (vectors_of c.args.chain.now) 4 c.args.mem.now.pages c.args.e c.address-address.result _ None
    (sym (c.is_unmasked.ensures c.args.cfg.now c.args.base) ∙ c.if-is_unmasked.true) c.address-address.ensures (rw (c.from.ensures, c.field_size-size.ensures) refl) c.in_default.ensures.ok

pub returns-then-is_unmasked-clause-moved : goal.returns-then-is_unmasked-clause-moved
returns-then-is_unmasked-clause-moved c = λ none.
    let u = vectors_of c.args.chain.now in
    c.load_fields.ensures.vectors
    ∙ as-all-written c.args.cfg.now c.args.access.now c.args.chain.now.columns c.field_size-size.result c.per_field-per.result c.args.e u (values_at c.args.mem.now.pages c.field_size-size.result c.address-address.result) c.requires.columns c.requires.fits c.field_size-size.ensures c.per_field-per.ensures
    ∙ rw (c.field_size-size.ensures, c.address-address.ensures)
    (loaded-moved c.args.cfg.now c.args.access.now c.args.base c.args.mem.now.pages u c.args.e (sym (c.is_unmasked.ensures c.args.cfg.now c.args.base) ∙ c.if-is_unmasked.true))

pub returns-then-fills_masked-clause-bad : goal.returns-then-fills_masked-clause-bad
returns-then-fills_masked-clause-bad c =
    none-masked c.args.cfg.now c.args.access.now c.args.base (vectors_of c.args.chain.now) 4 c.args.mem.now.pages c.args.e (sym (c.is_unmasked.ensures c.args.cfg.now c.args.base) ∙ c.if-is_unmasked.false)

pub returns-then-fills_masked-clause-moved : goal.returns-then-fills_masked-clause-moved
returns-then-fills_masked-clause-moved c = λ none.
    let u = vectors_of c.args.chain.now in
    c.fill_fields.ensures.vectors
    ∙ as-all-written c.args.cfg.now c.args.access.now c.args.chain.now.columns c.field_size-size.result c.per_field-per.result c.args.e u (ones_of (8 * c.field_size-size.result)) c.requires.columns c.requires.fits c.field_size-size.ensures c.per_field-per.ensures
    ∙ rw (c.field_size-size.ensures, c.requires.fits.whole)
    (loaded-agnostic c.args.cfg.now c.args.access.now c.args.base c.args.mem.now.pages u c.args.e (sym (c.is_unmasked.ensures c.args.cfg.now c.args.base) ∙ c.if-is_unmasked.false) (sym c.fills_masked.ensures ∙ c.if-fills_masked.true))

pub returns-clause-bad : goal.returns-clause-bad
returns-clause-bad c =
    none-masked c.args.cfg.now c.args.access.now c.args.base (vectors_of c.args.chain.now) 4 c.args.mem.now.pages c.args.e (sym (c.is_unmasked.ensures c.args.cfg.now c.args.base) ∙ c.if-is_unmasked.false)

pub returns-clause-moved : goal.returns-clause-moved
returns-clause-moved c = λ none.
    loaded-kept c.args.cfg.now c.args.access.now c.args.base c.args.mem.now.pages (vectors_of c.args.chain.now) c.args.e (sym (c.is_unmasked.ensures c.args.cfg.now c.args.base) ∙ c.if-is_unmasked.false) (sym c.fills_masked.ensures ∙ c.if-fills_masked.false)
