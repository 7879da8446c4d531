-- What a read takes of the input, and what it stores.
use Rattle.std.specs.Prelude.{◌≡◌, ◌≤◌, ℕ, List, length, take, Option, Some}
use Rattle.std.specs.Io.KnownBytes.{Consumes}
use Rattle.cape_io.specs.declared.devices.Source.{Ghosts}
use Rattle.guest_mem.specs.Pages.{Memory, written}
use Rattle.rvv_meaning.specs.Calls.{read_count, read_answer}

-- These bytes were taken of an input, no more than so many. Where its bytes are known they are the first so many of
-- these, or all that there are.
pub record Takes (most : ℕ) (left left' : Option (List ℕ)) (taken : List ℕ) : Type 0 where
  pub bound : length taken ≤ most
  pub consumed : Consumes left left' taken
  pub known : (bytes : List ℕ) → left ≡ Some bytes → taken ≡ take most bytes

-- the memory after bytes are stored from an address on
abbrev pub stored_in : Memory → ℕ → List ℕ → Memory
stored_in mem a bytes = record mem { pages = written mem.pages a bytes }

-- read(descriptor, address, count) answered: these bytes were taken of the input and stored.
pub record IsRead {S : Type 0} (s : Ghosts S) (descriptor address count : ℕ) (mem mem' : Memory) (input input' : S) (answer : ℕ) : Type 0 where
  pub taken : List ℕ
  pub took : Takes (read_count mem.pages descriptor address count) (s.left input) (s.left input') taken
  pub answers : answer ≡ read_answer mem.pages descriptor address count taken
  pub stored : mem' ≡ stored_in mem address taken
