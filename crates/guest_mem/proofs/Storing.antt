-- A number that is stored is its low bytes written.
use Rattle.std.proofs.Common.{◌≡◌, ℕ, zero, suc, ◌/◌, ◌^◌, ◌≤◌, take, refl, arith}
use Rattle.std.specs.Int.{to_le_bytes, w32}
use Rattle.guest_mem.specs.Pages.{Pages, stored, written}

-- up to four bytes of a word
pub stored_word : (pages : Pages) (a value n : ℕ) → n ≤ 4 → stored pages a value n ≡ written pages a (take n (to_le_bytes w32 value))
unfolding stored written
stored_word pages a value zero few = refl
stored_word pages a value (suc zero) few = refl
stored_word pages a value (suc (suc zero)) few = refl
stored_word pages a value (suc (suc (suc zero))) few =
    let two : value / 2 ^ 8 / 2 ^ 8 ≡ value / 256 ^ 2 = omega arith in
    rw two refl
stored_word pages a value (suc (suc (suc (suc zero)))) few =
    let three : value / 2 ^ 8 / 2 ^ 8 / 2 ^ 8 ≡ value / 256 ^ 3 = omega arith in
    let two : value / 2 ^ 8 / 2 ^ 8 ≡ value / 256 ^ 2 = omega arith in
    rw (three, two) refl
stored_word pages a value (suc (suc (suc (suc (suc n))))) few = absurd (omega arith)
