-- The bits of a row as a number, and the rows of the slices.
use Rattle.std.proofs.Common.{◌≡◌, ℕ, zero, suc, ◌+◌, ◌-◌, ◌*◌, ◌^◌, ◌<◌, ◌≤◌, Bool, true, false, List, [], length, refl, sym, ap, ◌∙◌, ◌⊎◌, inl, inr, arith}
use Rattle.std.specs.Prelude.{slice_index_or, cond}
use Rattle.std.proofs.lemmas.Bool.{cases_lt, le-ltb, and_right}
use Rattle.std.proofs.lemmas.List.{get_or_past}
use Rattle.std.proofs.Math.Pow.{pow_mono}
use lib.Dec.{ltb}
use Rattle.bit_rows.specs.Slices.{placed}
use Rattle.cam_chain.specs.ChainValue.{ChainValue, slices_of}
use Rattle.run_texts.specs.WorkTexts.{flag, bits_number, bits_text}

-- one bit more, below the others
pub bits_more : (bit : ℕ → Bool) (b first : ℕ) → 0 < b → b ≤ 8
    → bits_number (8 - (b - 1)) bit (first + (b - 1)) ≡ 2 * bits_number (8 - b) bit (first + b) + flag (bit (first + (b - 1)))
unfolding bits_number
bits_more bit b first some low =
    let e : 8 - (b - 1) ≡ suc (8 - b) = omega arith in
    let e' : first + (b - 1) + 1 ≡ first + b = omega arith in
    rw (e, e') (omega arith)

pub bits_none : (bit : ℕ → Bool) (first : ℕ) → bits_number 0 bit first ≡ 0
unfolding bits_number
bits_none bit first = refl

flag_small : (b : Bool) → flag b < 2
flag_small true = omega arith
flag_small false = omega arith

-- n bits are a number below 2 ^ n
pub bits_below : (n : ℕ) (bit : ℕ → Bool) (place : ℕ) → bits_number n bit place < 2 ^ n
unfolding bits_number
bits_below zero bit place = omega arith
bits_below (suc n) bit place = omega (arith, flag_small (bit place), bits_below n bit (place + 1))

-- eight bits or fewer are a byte
pub bits_small : (n : ℕ) (bit : ℕ → Bool) (place : ℕ) → n ≤ 8 → bits_number n bit place < 256
bits_small n bit place few = let most : 2 ^ n ≤ 2 ^ 8 = pow_mono few in omega (arith, bits_below n bit place)

-- a row of the slices is the row's bits, and past its end both are 0
past_row : (columns sub col : ℕ) → columns ≤ col → placed columns sub col ≡ false
past_row columns sub col past = and_right (ltb sub 32) (ltb col columns) (le-ltb col columns past)

module _ (v : ChainValue) (row : List Bool) (long : length row ≡ v.columns)
  where
    same_at : (bit : ℕ → Bool) → ((c : ℕ) → c < v.columns → slice_index_or row c false ≡ bit c) → ((c : ℕ) → v.columns ≤ c → bit c ≡ false)
        → (c : ℕ) → slice_index_or row c false ≡ bit c
    same_at bit within past c =
        elim (cases_lt c v.columns) as (λ _. slice_index_or row c false ≡ bit c) [
          | inl low ↦ within c low
          | inr high ↦ get_or_past row c false (omega arith) ∙ sym (past c high)
        ]

    text_same : (bit : ℕ → Bool) → ((c : ℕ) → slice_index_or row c false ≡ bit c) → bits_text (length row) (λ col. slice_index_or row col false) ≡ bits_text v.columns bit
    text_same bit same = rw long (ap (bits_text v.columns) (λ i c. same c i))

    pub slice_text : (sub r : ℕ) → ((c : ℕ) → c < v.columns → slice_index_or row c false ≡ (slices_of v).bit sub r c)
        → bits_text (length row) (λ col. slice_index_or row col false) ≡ bits_text (slices_of v).columns ((slices_of v).bit sub r)
    unfolding slices_of
    slice_text sub r within = text_same ((slices_of v).bit sub r) (same_at ((slices_of v).bit sub r) within (λ c past. rw (past_row v.columns sub c past) refl))

    pub tags_text : (sub : ℕ) → ((c : ℕ) → c < v.columns → slice_index_or row c false ≡ (slices_of v).tag sub c)
        → bits_text (length row) (λ col. slice_index_or row col false) ≡ bits_text (slices_of v).columns ((slices_of v).tag sub)
    unfolding slices_of
    tags_text sub within = text_same ((slices_of v).tag sub) (same_at ((slices_of v).tag sub) within (λ c past. rw (past_row v.columns sub c past) refl))
