use Rattle.std.proofs.Common.{Some, None, refl, sym, ◌∙◌, ap}
use Rattle.guest_mem.specs.Pages.{Pages}
use Rattle.vec_mem.specs.Views.{vectors_of}
use Rattle.vec_mem.proofs.Loading.{bad-found, none-masked}
use Rattle.vec_mem.proofs.Storing.{stored-moved, stored-kept}
use Rattle.vec_mem.proofs.stores.store_element.Goals as goal

pub returns-in-Err-clause-bad : goal.returns-in-Err-clause-bad
returns-in-Err-clause-bad c =
    bad-found c.args.cfg.now c.args.access.now c.args.base (vectors_of c.args.chain.now) 2 c.args.mem.now.pages c.args.e c.address-address.result _ (Some c.in-Err.fault.address) (sym (c.is_unmasked.ensures c.args.cfg.now c.args.base) ∙ c.if-is_unmasked.true) c.address-address.ensures (rw (c.from.ensures, c.field_size.ensures) refl) c.in-Err.ensures.fault

pub returns-then-is_unmasked-clause-bad : goal.returns-then-is_unmasked-clause-bad
returns-then-is_unmasked-clause-bad c =
    bad-found c.args.cfg.now c.args.access.now c.args.base (vectors_of c.args.chain.now) 2 c.args.mem.now.pages c.args.e c.address-address.result _ None (sym (c.is_unmasked.ensures c.args.cfg.now c.args.base) ∙ c.if-is_unmasked.true) c.address-address.ensures (rw (c.from.ensures, c.field_size.ensures) refl) c.in_default.ensures.ok

pub returns-then-is_unmasked-clause-moved : goal.returns-then-is_unmasked-clause-moved
returns-then-is_unmasked-clause-moved c = λ none.
    c.store_bytes.ensures ∙ ap (λ (p : Pages). record c.args.mem.now { pages = p }) (stored-moved c.args.cfg.now c.args.access.now c.args.base (vectors_of c.args.chain.now) c.args.mem.now.pages c.args.e (sym (c.is_unmasked.ensures c.args.cfg.now c.args.base) ∙ c.if-is_unmasked.true) c.address-address.result c.address-address.ensures)

pub returns-clause-bad : goal.returns-clause-bad
returns-clause-bad c = none-masked c.args.cfg.now c.args.access.now c.args.base (vectors_of c.args.chain.now) 2 c.args.mem.now.pages c.args.e (sym (c.is_unmasked.ensures c.args.cfg.now c.args.base) ∙ c.if-is_unmasked.false)

pub returns-clause-moved : goal.returns-clause-moved
returns-clause-moved c = λ none.
    ap (λ (p : Pages). record c.args.mem.now { pages = p }) (stored-kept c.args.cfg.now c.args.access.now c.args.base (vectors_of c.args.chain.now) c.args.mem.now.pages c.args.e (sym (c.is_unmasked.ensures c.args.cfg.now c.args.base) ∙ c.if-is_unmasked.false))
