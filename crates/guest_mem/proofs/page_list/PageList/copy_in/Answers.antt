use Rattle.std.proofs.Common.{◌∙◌, sym, refl, arith}
use Rattle.std.proofs.lemmas.Bool.Decides.{nat_tests}
use Rattle.std.proofs.lemmas.List.{nil_from_length}
use Rattle.guest_mem.proofs.Writing.{written-none, written-append}
use Rattle.guest_mem.proofs.page_list.PageList.copy_in.Goals as goal

pub loop-rest-preserved : goal.loop-rest-preserved
loop-rest-preserved c =
    let here = c.split_at.result.0.now in
    let later = c.split_at.result.1.now in
    let parts = written-append c.loop-rest.self c.loop-rest.at here later c.loop-rest.invariant.fits in
    record {
      more = c.loop-rest.invariant.more ∙ rw (c.split_at.ensures.by_index.0, parts, c.split_at.ensures.front_len, c.copy_in_page.ensures) refl;
      fits = omega arith;
    }

pub returns : goal.returns
returns c =
    let done = nil_from_length c.loop-rest.rest.now (grind (arith, nat_tests)) in
    sym (c.loop-rest.invariant.more ∙ rw done (written-none c.loop-rest.self c.loop-rest.at))
