use Rattle.std.proofs.Common.{◌+◌, ◌-◌, ◌*◌, refl, ◌∙◌, ap, arith}
use Rattle.bit_laws.specs.Numbers.{low}
use Rattle.element_ops.specs.Elements.{group_byte}
use Rattle.guest_mem.specs.Pages.{Memory}
use Rattle.vec_mem.specs.Views.{vectors_of}
use Rattle.vec_mem.proofs.Storing.{same-memory}
use Rattle.vec_mem.proofs.RunStores.{none-stored, store-step, all-stored}
use Rattle.vec_mem.proofs.runs.store_span.Goals as goal

pub loop-at-init : goal.loop-at-init
loop-at-init c = record {
  from = omega arith;
  within = c.requires.order;
  pages = none-stored c.args.mem.now.pages (low 32 (c.args.base + c.args.from)) (c.args.from - c.args.from) (λ k. group_byte (4 * c.args.chain.now.columns) (vectors_of c.args.chain.now) c.args.first (c.args.from + k)) (omega arith);
  heap = refl;
  heap_end = refl;
  brk = refl;
}

pub loop-at-preserved : goal.loop-at-preserved
loop-at-preserved c =
    let p = c.loop-at.invariant in
    let made = c.store_part.ensures in
    record {
      from = omega arith;
      within = omega arith;
      pages = store-step c.columns-size.result c.args.chain.now.columns (vectors_of c.args.chain.now) c.args.first c.args.from c.loop-at.at c.min-count.result c.args.base c.args.mem.now.pages c.loop-at.mem.pages c.store_part.new.mem.pages c.columns-size.ensures.value (omega arith) (omega arith) p.from p.pages (ap (λ (m : Memory). m.pages) made);
      heap = ap (λ (m : Memory). m.heap) made ∙ p.heap;
      heap_end = ap (λ (m : Memory). m.heap_end) made ∙ p.heap_end;
      brk = ap (λ (m : Memory). m.brk) made ∙ p.brk;
    }

pub returns : goal.returns
returns c =
    let p = c.loop-at.invariant in
    same-memory c.loop-at.mem c.args.mem.now _
    (all-stored c.args.mem.now.pages c.loop-at.mem.pages (low 32 (c.args.base + c.args.from)) c.loop-at.at c.args.to c.args.from (λ k. group_byte (4 * c.args.chain.now.columns) (vectors_of c.args.chain.now) c.args.first (c.args.from + k)) (omega arith) p.pages)
    p.heap p.heap_end p.brk
