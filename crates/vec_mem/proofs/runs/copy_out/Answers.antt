use Rattle.std.proofs.Common.{◌+◌, ◌%◌, ◌^◌, length, sym, ◌∙◌, ap, arith}
use Rattle.guest_mem.proofs.Ranges.{range_bytes-none, first_bad-mapped, length-range_bytes}
use Rattle.vec_mem.proofs.RunSteps.{copied-more, cut-long, cut-form, form-long}
use Rattle.vec_mem.proofs.runs.copy_out.Goals as goal

pub loop-done-init : goal.loop-done-init
loop-done-init c = record { within = omega arith; small = λ k. (c.type_inv.into k).fits; bytes = sym (range_bytes-none c.args.mem.now.pages c.args.address) }

pub bytes_in_page-requires-clause-mapped : goal.bytes_in_page-requires-clause-mapped
bytes_in_page-requires-clause-mapped c =
    first_bad-mapped c.args.mem.now.pages 4 c.args.address (length c.args.into.now) c.loop-done.done c.ranges.address.fits (omega arith) c.requires.may (omega arith)

pub copy_from_slice-requires : goal.copy_from_slice-requires
copy_from_slice-requires c =
    cut-long c.loop-done.done c.min-count.result c.loop-done.into (omega arith)
    ∙ sym (ap length c.bytes_in_page.ensures ∙ length-range_bytes c.args.mem.now.pages ((c.args.address + c.loop-done.done) % 2 ^ 32) c.min-count.result)

pub loop-done-preserved : goal.loop-done-preserved
loop-done-preserved c =
    let form = cut-form c.loop-done.done c.min-count.result c.loop-done.into c.bytes_in_page.result.now c.copy_from_slice.new.self c.copy_from_slice.ensures.after in
    let few = ap length c.bytes_in_page.ensures ∙ length-range_bytes c.args.mem.now.pages ((c.args.address + c.loop-done.done) % 2 ^ 32) c.min-count.result in
    record {
      within = rw (form, form-long c.loop-done.done c.min-count.result c.loop-done.into c.bytes_in_page.result.now (omega arith) few) (omega arith);
      small = λ k. (c.type_inv.into k).fits;
      bytes = copied-more c.args.mem.now.pages c.args.address c.loop-done.done c.min-count.result c.loop-done.into c.bytes_in_page.result.now _ c.ranges.address.fits (omega arith) c.loop-done.invariant.bytes c.bytes_in_page.ensures form;
    }

pub returns-clause-small : goal.returns-clause-small
returns-clause-small c = c.loop-done.invariant.small
