use Rattle.std.proofs.Common.{◌≡◌, ◌+◌, ◌-◌, length, refl, arith}
use Rattle.std.proofs.lemmas.List.{drop-drop}
use Rattle.guest_mem.proofs.Writing.{splice-form}
use Rattle.guest_mem.proofs.stored_page.StoredPage.overwrite.Goals as goal

pub returns : goal.returns
returns c =
    let from = c.args.from in
    let bytes = c.self.inside.bytes in
    let form = splice-form bytes from c.args.bytes.now (omega arith) in
    let end : from + length c.args.bytes.now - from ≡ length c.args.bytes.now = omega arith in
    rw (← c.self.view_is, end, c.copy_from_slice.ensures.after, form, drop-drop (length c.args.bytes.now) from bytes) refl
