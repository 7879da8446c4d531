-- Pages beside others: those with the same permissions, and those that more pages were added to.
use Rattle.std.specs.Prelude.{◌≡◌, ℕ, Some}
use Rattle.std.specs.FinMap as map
use Rattle.guest_mem.specs.Pages.{Page, Pages, perms_at}

-- each address has the same permissions
abbrev pub SamePerms : Pages → Pages → Type 0
SamePerms p q = (x : ℕ) → perms_at p x ≡ perms_at q x

-- each page that is mapped stays as it is
abbrev pub Extends : Pages → Pages → Type 0
Extends pages more = (k : ℕ) (p : Page) → map.get pages k ≡ Some p → map.get more k ≡ Some p
