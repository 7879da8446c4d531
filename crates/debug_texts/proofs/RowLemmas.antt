-- The bytes of rows.
use Rattle.std.proofs.Common.{◌≡◌, ℕ, ◌+◌, ◌*◌, ◌^◌, ◌/◌, ◌%◌, ◌<◌, ◌≤◌, Bool, false, List, [], ◌∷◌, length, refl, ap, sym, ◌∙◌, arith, bit_and, slice_index, ◌⊎◌, inl, inr}
use Rattle.std.specs.List.{flat_map, range_with_len}
use Rattle.std.proofs.lemmas.Bool.{cases_lt, lt-ltb, le-ltb}
use Rattle.std.proofs.lemmas.List.{get_or_past}
use Rattle.std.proofs.lemmas.Nat.{and_mask}
use Rattle.bit_laws.specs.Digits.{hex_digits}
use Rattle.bit_laws.specs.Numbers.{bit_of}
use Rattle.bit_laws.proofs.Numbers.{number-part, number-same}
use Rattle.bit_rows.specs.Words.{word_bit}
use Rattle.cam_chain.specs.ChainValue.{ChainValue, slices_of}
use Rattle.debug_texts.specs.ShownTexts.{bits_of, row_byte, row_piece, row_text, bytes_for}

-- a byte of a packed row
pub byte_of_words : (words : List ℕ) (f : ℕ → Bool) (j : ℕ) → ((k : ℕ) → word_bit words k ≡ f k) → bit_and (slice_index words (j / 8) / 2 ^ (8 * (j % 8))) 255 ≡ row_byte f j
byte_of_words words f j bits =
    and_mask (slice_index words (j / 8) / 2 ^ (8 * (j % 8))) 8
    ∙ sym (number-part (slice_index words (j / 8)) (8 * (j % 8)) 8)
    ∙ number-same 8 (λ b. bit_of (slice_index words (j / 8)) (8 * (j % 8) + b)) (λ b. f (8 * j + b)) here
  where
    here : (b : ℕ) → b < 8 → bit_of (slice_index words (j / 8)) (8 * (j % 8) + b) ≡ f (8 * j + b)
    here b below =
        let word : (8 * j + b) / 64 ≡ j / 8 = omega arith in
        let place : (8 * j + b) % 64 ≡ 8 * (j % 8) + b = omega arith in
        rw (word, place) at (bits (8 * j + b))

-- the same bits have the same text
flat_map_same : (f g : ℕ → List ℕ) → ((j : ℕ) → f j ≡ g j) → (js : List ℕ) → flat_map f js ≡ flat_map g js
flat_map_same f g same [] = refl
flat_map_same f g same (j ∷ js) = rw (same j, flat_map_same f g same js) refl

row_text_same : (columns : ℕ) (f g : ℕ → Bool) → ((k : ℕ) → f k ≡ g k) → row_text columns f ≡ row_text columns g
unfolding row_text
row_text_same columns f g same =
    flat_map_same (row_piece f) (row_piece g) (λ j. ap (hex_digits 2) (number-same 8 (λ b. f (8 * j + b)) (λ b. g (8 * j + b)) (λ b below. same (8 * j + b)))) (range_with_len 0 (bytes_for columns))

-- a row of a chain, and the tags of a subarray
module _ (v : ChainValue) (sub : ℕ) (row : List Bool) (inside : sub < 32) (len : length row ≡ v.columns) where
  past_row : (at : ℕ) (col : ℕ) → v.columns ≤ col → (slices_of v).bit sub at col ≡ false
  unfolding slices_of
  past_row at col past = rw (lt-ltb sub 32 inside, le-ltb col v.columns past) refl

  past_tags : (col : ℕ) → v.columns ≤ col → (slices_of v).tag sub col ≡ false
  unfolding slices_of
  past_tags col past = rw (lt-ltb sub 32 inside, le-ltb col v.columns past) refl

  everywhere : (f : ℕ → Bool) → ((col : ℕ) → col < v.columns → bits_of row col ≡ f col) → ((col : ℕ) → v.columns ≤ col → f col ≡ false) → (col : ℕ) → bits_of row col ≡ f col
  everywhere f bits none col = by (cases_lt col v.columns)
    where
      by : (col < v.columns) ⊎ (v.columns ≤ col) → bits_of row col ≡ f col
      by (inl within) = bits col within
      by (inr past) = get_or_past row col false (omega arith) ∙ sym (none col past)

  pub row_shown : (at : ℕ) → ((col : ℕ) → col < v.columns → bits_of row col ≡ (slices_of v).bit sub at col) → row_text (length row) (bits_of row) ≡ row_text v.columns ((slices_of v).bit sub at)
  row_shown at bits = rw len (row_text_same v.columns (bits_of row) ((slices_of v).bit sub at) (everywhere ((slices_of v).bit sub at) bits (past_row at)))

  pub tags_shown : ((col : ℕ) → col < v.columns → bits_of row col ≡ (slices_of v).tag sub col) → row_text (length row) (bits_of row) ≡ row_text v.columns ((slices_of v).tag sub)
  tags_shown bits = rw len (row_text_same v.columns (bits_of row) ((slices_of v).tag sub) (everywhere ((slices_of v).tag sub) bits past_tags))

-- the columns of a chain are those of its slices
pub columns_of_slices : (v : ChainValue) → (slices_of v).columns ≡ v.columns
unfolding slices_of
columns_of_slices v = refl
