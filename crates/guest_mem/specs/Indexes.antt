-- The index of the pages: their numbers, in rising order, with a page beside each.
use Rattle.std.specs.Prelude.{◌≡◌, ℕ, List, length}
use Rattle.std.specs.List.Sorted.{IsStrictlyIncreasing}
use Rattle.guest_mem.specs.Pages.{Page}

pub record IsIndex (numbers : List ℕ) (pages : List Page) : Type 0 where
  pub same : length numbers ≡ length pages
  pub rising : IsStrictlyIncreasing numbers
