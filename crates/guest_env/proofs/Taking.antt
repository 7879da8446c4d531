-- Bytes that are taken and stored piece by piece.
use Rattle.std.proofs.Common.{◌≡◌, ℕ, ◌+◌, ◌%◌, ◌^◌, ◌<◌, ◌≤◌, List, [], ◌++◌, length, take, Option, Some, None, refl, sym, ◌∙◌, ap, arith, append-nil, take_all}
use Rattle.std.specs.Io.KnownBytes.{Consumes, IsAtEnd}
use Rattle.std.proofs.KnownBytes.{Consumes-nil}
use Rattle.std.proofs.Math.Seq.{take-append_seam}
use Rattle.guest_mem.specs.Pages.{Memory, written}
use Rattle.guest_mem.proofs.Writing.{written-append, written-none}
use Rattle.guest_env.specs.Inputs.{stored_in, Takes}

pub stored-none : (mem : Memory) (a : ℕ) → mem ≡ stored_in mem a []
stored-none mem a = rw (written-none mem.pages a) refl

-- a piece after others
pub stored-more : (mem mid new : Memory) (a at : ℕ) (xs ys : List ℕ) → a < 2 ^ 32 → at ≡ (a + length xs) % 2 ^ 32
    → mid ≡ stored_in mem a xs → new ≡ stored_in mid at ys → new ≡ stored_in mem a (xs ++ ys)
stored-more mem mid new a at xs ys fits there before later =
    let all : stored_in mid at ys ≡ stored_in mem a (xs ++ ys) = rw (before, there, written-append mem.pages a xs ys fits) refl in
    later ∙ all

full-known : (left left' : Option (List ℕ)) (taken bytes : List ℕ) → Consumes left left' taken → left ≡ Some bytes → taken ≡ take (length taken) bytes
full-known None left' taken bytes consumed is = cc
full-known (Some xs) None taken bytes consumed is = absurd consumed
full-known (Some xs) (Some ys) taken bytes consumed is =
    let whole : bytes ≡ taken ++ ys = cc in
    rw whole (sym (take-append_seam taken ys))

ended-known : (left left' : Option (List ℕ)) (taken bytes : List ℕ) (most : ℕ) → length taken ≤ most → Consumes left left' taken → IsAtEnd left' → left ≡ Some bytes → taken ≡ take most bytes
ended-known None left' taken bytes most bound consumed ended is = cc
ended-known (Some xs) None taken bytes most bound consumed ended is = absurd consumed
ended-known (Some xs) (Some ys) taken bytes most bound consumed ended is =
    let nothing : taken ++ ys ≡ taken = ap (λ (zs : List ℕ). taken ++ zs) ended ∙ append-nil taken in
    let whole : bytes ≡ taken = cc in
    rw whole (sym (take_all most taken bound))

-- as many as were wanted
pub takes-full : (left left' : Option (List ℕ)) (taken : List ℕ) (most : ℕ) → length taken ≡ most → Consumes left left' taken → Takes most left left' taken
takes-full left left' taken most all consumed =
    record { bound = omega arith; consumed = consumed; known = λ bytes is. rw (← all) (full-known left left' taken bytes consumed is) }

-- all that there were
pub takes-ended : (left left' : Option (List ℕ)) (taken : List ℕ) (most : ℕ) → length taken ≤ most → Consumes left left' taken → IsAtEnd left' → Takes most left left' taken
takes-ended left left' taken most bound consumed ended =
    record { bound = bound; consumed = consumed; known = λ bytes is. ended-known left left' taken bytes most bound consumed ended is }

-- nothing of an input that stays
pub takes-none : (left : Option (List ℕ)) → Takes 0 left left []
takes-none left = record { bound = omega arith; consumed = Consumes-nil left; known = λ bytes is. refl }
