-- The pieces of a line.
use Rattle.std.proofs.Common.{◌≡◌, ℕ, zero, suc, ◌<◌, ◌≤◌, ◌-◌, true, false, List, [], ◌∷◌, length, take, drop, get_or, length-drop, Some, None, refl, ◌∙◌, sym, ap, arith}
use Rattle.std.specs.Prelude.{◌==◌, if◌then◌else◌, not, ◌&&◌, option_and_then}
use Rattle.std.proofs.lemmas.Bool.{ne_eqb}
use Rattle.std.proofs.lemmas.List.{take_all}
use Rattle.debug_words.specs.declared.numbers.Numbers.{Numbers}
use Rattle.debug_words.specs.Grammar.{is_empty, pieces, pieces_after, onto_first, is_gap, numbers_after, number, with_number}

-- the first piece stands before the first space
pub first_piece : (bs : List ℕ) (n : ℕ) → n ≤ length bs → ((k : ℕ) → k < n → get_or bs k 0 ≡ 32 → ⊥) → (n < length bs → get_or bs n 0 ≡ 32) → pieces bs ≡ take n bs ∷ pieces_after (drop n bs)
unfolding pieces
first_piece [] zero within before at = refl
first_piece [] (suc n) within before at = absurd (omega arith)
first_piece (c ∷ bs) zero within before at =
    let is : c ≡ 32 = at (omega arith) in
    rw is refl
first_piece (c ∷ bs) (suc n) within before at =
    let rest : pieces bs ≡ take n bs ∷ pieces_after (drop n bs) = first_piece bs n (omega arith) (λ k less. before (suc k) (omega arith)) (λ less. at (omega arith)) in
    rw (ne_eqb c 32 (before 0 (omega arith)), rest) refl

-- there is always a piece
some_pieces : (bs : List ℕ) → is_empty (pieces bs) ≡ false
unfolding pieces
some_pieces [] = refl
some_pieces (c ∷ bs) = elim (c == 32) as (λ b. is_empty (if b then [] ∷ pieces bs else onto_first c (pieces bs)) ≡ false) [ true ↦ refl | false ↦ onto (pieces bs) (some_pieces bs) ]
  where
    onto : (ps : List (List ℕ)) → is_empty ps ≡ false → is_empty (onto_first c ps) ≡ false
    onto [] e = e
    onto (p ∷ ps) e = refl

pub no_zero : (n : ℕ) → (suc n == 0) ≡ false
no_zero n = ne_eqb (suc n) 0 (λ e. omega arith)

-- whether a piece is a gap, by the lengths
pub gap_by_lengths : (piece after : List ℕ) → is_gap piece (pieces_after after) ≡ ((length piece == 0) && not (length after == 0))
gap_by_lengths [] [] = refl
gap_by_lengths [] (c ∷ after) = rw (some_pieces after, no_zero (length after)) refl
gap_by_lengths (c ∷ piece) after = rw (no_zero (length piece)) refl

pub some_bytes : (bs : List ℕ) → false ≡ (length bs == 0) → 0 < length bs
some_bytes [] some = cc
some_bytes (c ∷ bs) some = omega arith

-- the rest of a list from a place on, as a slice from there to its end is seen
abbrev pub from : ℕ → List ℕ → List ℕ
from n bs = take (length bs - n) (drop n bs)

pub from_is : (n : ℕ) (bs : List ℕ) → from n bs ≡ drop n bs
from_is n bs = take_all (length bs - n) (drop n bs) (omega (arith, length-drop n bs))

-- the bytes after the space
after_space : (bs : List ℕ) → 1 ≤ length bs → pieces_after bs ≡ pieces (from 1 bs)
after_space [] some = absurd (omega arith)
after_space (c ∷ bs) some = ap pieces (sym (from_is 1 (c ∷ bs)))

-- no piece is left
pub none_after : (given : Numbers) (bs : List ℕ) → length bs < 1 → numbers_after given (pieces_after bs) ≡ Some given
unfolding numbers_after
none_after given [] none = refl
none_after given (c ∷ bs) none = absurd (omega arith)

-- the next piece, after a space
module _ (given : Numbers) (bs : List ℕ) (n : ℕ) (some : 1 ≤ length bs) (first : pieces (from 1 bs) ≡ take n (from 1 bs) ∷ pieces_after (drop n (from 1 bs))) where
  next_pieces : pieces_after bs ≡ take n (from 1 bs) ∷ pieces_after (from n (from 1 bs))
  next_pieces = after_space bs some ∙ first ∙ ap (λ rest. take n (from 1 bs) ∷ pieces_after rest) (sym (from_is n (from 1 bs)))

  gap_skipped : (piece : List ℕ) (rest : List (List ℕ)) → is_gap piece rest ≡ true → numbers_after given (piece ∷ rest) ≡ numbers_after given rest
  unfolding numbers_after
  gap_skipped piece rest is = rw is refl

  word_read : (piece : List ℕ) (rest : List (List ℕ)) → is_gap piece rest ≡ false → numbers_after given (piece ∷ rest) ≡ option_and_then (λ k. option_and_then (λ more. numbers_after more rest) (with_number k given)) (number piece)
  unfolding numbers_after
  word_read piece rest is = rw is refl

  -- it is a gap
  pub skipped : is_gap (take n (from 1 bs)) (pieces_after (from n (from 1 bs))) ≡ true → numbers_after given (pieces_after (from n (from 1 bs))) ≡ numbers_after given (pieces_after bs)
  skipped is = sym (ap (numbers_after given) next_pieces ∙ gap_skipped _ _ is)

  -- it is no number
  pub refused : is_gap (take n (from 1 bs)) (pieces_after (from n (from 1 bs))) ≡ false → None ≡ number (take n (from 1 bs)) → None ≡ numbers_after given (pieces_after bs)
  refused is none = rw (next_pieces, word_read _ _ is, ← none) refl

  -- it is one number too many
  pub too_many : (k : ℕ) → is_gap (take n (from 1 bs)) (pieces_after (from n (from 1 bs))) ≡ false → Some k ≡ number (take n (from 1 bs)) → None ≡ with_number k given → None ≡ numbers_after given (pieces_after bs)
  too_many k is has none = rw (next_pieces, word_read _ _ is, ← has, ← none) refl

  -- it is a number
  pub added : (k : ℕ) (more : Numbers) → is_gap (take n (from 1 bs)) (pieces_after (from n (from 1 bs))) ≡ false → Some k ≡ number (take n (from 1 bs)) → Some more ≡ with_number k given
      → numbers_after more (pieces_after (from n (from 1 bs))) ≡ numbers_after given (pieces_after bs)
  added k more is has room = rw (next_pieces, word_read _ _ is, ← has, ← room) refl
