-- The pieces that a write gives a sink: one for each page that its bytes meet, in the order of their addresses.
use Rattle.std.specs.Prelude.{◌==◌, ℕ, List, [], ◌∷◌, if◌then◌else◌}
use Rattle.guest_mem.specs.Pages.{next, place_of}

-- a byte, and then the first of the pieces
abbrev pub with_first : ℕ → List (List ℕ) → List (List ℕ)
with_first byte [] = (byte ∷ []) ∷ []
with_first byte (piece ∷ pieces) = (byte ∷ piece) ∷ pieces

-- the bytes from an address on, cut after the last byte of each page
unfoldable pub pieces_of : ℕ → List ℕ → List (List ℕ)
pieces_of a [] = []
pieces_of a (byte ∷ bytes) =
    if place_of (next a) == 0 then (byte ∷ []) ∷ pieces_of (next a) bytes else with_first byte (pieces_of (next a) bytes)
