use Rattle.std.proofs.Common.{◌≡◌, ◌*◌, refl, ◌∙◌, ap, arith}
use Rattle.guest_mem.specs.Pages.{Memory}
use Rattle.rvv_meaning.specs.LoadsAndStores.{element_size}
use Rattle.vec_mem.specs.Views.{vectors_of}
use Rattle.vec_mem.proofs.Storing.{written-none', written-more', written-bytes, same-memory}
use Rattle.vec_mem.proofs.stores.store_bytes.Goals as goal

pub loop-k-init : goal.loop-k-init
loop-k-init c = record {
  pages = written-none' c.args.cfg.now c.args.access.now (vectors_of c.args.chain.now) c.args.e c.args.address c.args.mem.now.pages;
  heap = refl;
  heap_end = refl;
  brk = refl;
}

pub loop-k-preserved : goal.loop-k-preserved
loop-k-preserved c =
    let p = c.loop-k.invariant in
    let put_it = c.copy_in.ensures in
    record {
      pages = written-more' c.args.cfg.now c.args.access.now (vectors_of c.args.chain.now) c.args.e c.loop-k.k c.args.address c.byte_at-byte.result c.args.mem.now.pages c.loop-k.mem.pages c.copy_in.new.self.pages (omega arith) p.pages c.byte_at-byte.ensures (ap (λ (m : Memory). m.pages) put_it);
      heap = ap (λ (m : Memory). m.heap) put_it ∙ p.heap;
      heap_end = ap (λ (m : Memory). m.heap_end) put_it ∙ p.heap_end;
      brk = ap (λ (m : Memory). m.brk) put_it ∙ p.brk;
    }

pub returns : goal.returns
returns c =
    let p = c.loop-k.invariant in
    let long : c.from.result * c.field_size.result ≡ element_size c.args.access.now = rw (c.from.ensures, c.field_size.ensures) refl in
    let all : c.loop-k.k ≡ element_size c.args.access.now = omega (arith, long) in
    same-memory c.loop-k.mem c.args.mem.now _ (p.pages ∙ written-bytes c.args.cfg.now c.args.access.now (vectors_of c.args.chain.now) c.args.e c.loop-k.k c.args.address c.args.mem.now.pages all) p.heap p.heap_end p.brk
