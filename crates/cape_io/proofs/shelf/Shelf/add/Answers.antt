-- The list of files after the push is the one before with the new file at its end.
use Rattle.std.proofs.Common.{refl, ◌≡◌, ap, sym, map, ◌∷◌, [], ◌++◌}
use Rattle.std.proofs.lemmas.List.{map-append}
use Rattle.cape_io.specs.States.{ShelfState}
use Rattle.cape_io.specs.Shelves.{file_of}
use Rattle.cape_io.specs.declared.shelf.Stored.{Stored}
use Rattle.cape_io.proofs.ShelfLemmas.{bytes_of-push_same, bytes_of-push_other, left_push}
use Rattle.cape_io.proofs.shelf.Shelf.add.Goals as goal

pub files_after : (c : goal.In_ok-push) → map file_of c.push.new.self.items ≡ map file_of c.self.inside.files.items ++ (c.args.name.now, c.args.bytes.now) ∷ []
files_after c =
    let stored : Stored = record { name = c.in_ok-from_str.field-0; bytes = c.in_ok-from_slice.field-0 } in
    let added = map-append file_of c.self.inside.files.items (stored ∷ []) in
    rw (c.in_ok-push.ensures.items, added, c.in_ok-from_str.ensures.ok, c.in_ok-from_slice.ensures.items) refl

files_before : (c : goal.In_ok-push) → c.args.self.now.files ≡ map file_of c.self.inside.files.items
files_before c = sym (ap (λ (v : ShelfState). v.files) c.self.view_is)

pub returns-clause-added : goal.returns-clause-added
returns-clause-added c =
    let absent = rw (files_before c) at c.requires in
    rw (files_after c) (bytes_of-push_same (map file_of c.self.inside.files.items) c.args.name.now c.args.bytes.now absent)

pub returns-clause-others : goal.returns-clause-others
returns-clause-others c =
    rw (files_after c, files_before c) (λ other differs. bytes_of-push_other (map file_of c.self.inside.files.items) c.args.name.now c.args.bytes.now other differs)

pub returns-clause-ok : goal.returns-clause-ok
returns-clause-ok c =
    let files = c.self.inside.files.items in
    let stored : Stored = record { name = c.in_ok-from_str.field-0; bytes = c.in_ok-from_slice.field-0 } in
    let kept = left_push files stored c.self.inside.opened c.self.invariant in
    rw (← c.self.view_is, c.in_ok-push.ensures.items, kept) refl
