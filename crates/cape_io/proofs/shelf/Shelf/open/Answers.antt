use Rattle.std.proofs.Common.{refl, sym}
use Rattle.cape_io.proofs.ShelfLemmas.{found, not_found}
use Rattle.cape_io.proofs.shelf.Shelf.open.Goals as goal
use Rattle.cape_io.proofs.shelf.Shelf.open.Goals.{in-Some, in-None}

pub returns : goal.returns
returns c =
    let files = c.self.inside.files.items in
    let name = c.args.name.now in
    let slice_is = c.deref.ensures.value in
    rw (← c.self.view_is)
    (elim c.match-place_of.branch [
      | in-Some w ↦ rw (w.self-is, ← found files name w.in-Some.place (rw slice_is at (sym w.in-Some.ensures.place))) refl
      | in-None w ↦ rw (w.self-is, not_found files name (rw slice_is at (sym w.in-None.ensures.place))) refl
    ])
