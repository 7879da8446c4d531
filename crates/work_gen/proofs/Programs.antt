-- The words of a program: one more filling, one more block, and how many there are.
use Rattle.std.proofs.Common.{◌≡◌, ℕ, zero, suc, ◌+◌, ◌-◌, ◌*◌, ◌^◌, ◌<◌, ◌≤◌, true, List, [], ◌∷◌, ◌++◌, length, refl, arith, lit<, append_assoc, append-nil, length-append}
use Rattle.std.specs.Prelude.{nat_lt, slice_index}
use Rattle.std.specs.List.{list_all}
use Rattle.std.proofs.lemmas.Bool.{and_parts, ltb-true}
use Rattle.work_gen.specs.Draws.{advanced, drawn, state_after}
use Rattle.work_gen.specs.Words.{block, blocks, draws_of_block, ending, filled_registers, filling, fillings, operations, program}

pub fillings-more : (words : List ℕ) (r state : ℕ) → r < 32
    → (words ++ filling (drawn (advanced state)) r) ++ fillings (32 - (r + 1)) (r + 1) (advanced state) ≡ words ++ fillings (32 - r) r state
unfolding fillings
fillings-more words r state low =
    let e : 32 - r ≡ suc (32 - (r + 1)) = omega arith in
    rw e (append_assoc words (filling (drawn (advanced state)) r) (fillings (32 - (r + 1)) (r + 1) (advanced state)))

pub state_after-more : (r state : ℕ) → r < 32 → state_after (32 - (r + 1)) (advanced state) ≡ state_after (32 - r) state
unfolding state_after
state_after-more r state low =
    let e : 32 - r ≡ suc (32 - (r + 1)) = omega arith in
    rw e refl

pub blocks-more : (words : List ℕ) (k size state : ℕ) → k < size
    → (words ++ block state) ++ blocks (size - (k + 1)) (state_after draws_of_block state) ≡ words ++ blocks (size - k) state
unfolding blocks
blocks-more words k size state low =
    let e : size - k ≡ suc (size - (k + 1)) = omega arith in
    rw e (append_assoc words (block state) (blocks (size - (k + 1)) (state_after draws_of_block state)))

-- none is left
pub fillings-done : (words : List ℕ) (r state : ℕ) → 32 ≤ r → words ++ fillings (32 - r) r state ≡ words
unfolding fillings
fillings-done words r state done = let e : 32 - r ≡ 0 = omega arith in rw e (append-nil words)

pub state_after-done : (r state : ℕ) → 32 ≤ r → state_after (32 - r) state ≡ state
unfolding state_after
state_after-done r state done = let e : 32 - r ≡ 0 = omega arith in rw e refl

pub blocks-done : (words : List ℕ) (k size state : ℕ) → size ≤ k → words ++ blocks (size - k) state ≡ words
unfolding blocks
blocks-done words k size state done = let e : size - k ≡ 0 = omega arith in rw e (append-nil words)

-- the steps of the two loops
pub ruleset filling_steps = (fillings-more, state_after-more, fillings-done, state_after-done)

pub ruleset block_steps = (blocks-more, blocks-done)

-- each number of a list that a bound is above
below_at : (most : ℕ) (xs : List ℕ) (k : ℕ) → 0 < most → list_all (λ x. nat_lt x most) xs ≡ true → slice_index xs k < most
below_at most [] k some all = some
below_at most (x ∷ xs) zero some all = ltb-true x most (and_parts (nat_lt x most) (list_all (λ y. nat_lt y most) xs) all).0
below_at most (x ∷ xs) (suc k) some all = below_at most xs k some (and_parts (nat_lt x most) (list_all (λ y. nat_lt y most) xs) all).1

-- the word of an operation has room for its registers
pub operations-room : (k : ℕ) → slice_index operations k < 2 ^ 32 - 2 ^ 26
operations-room k = below_at (2 ^ 32 - 2 ^ 26) operations k (lit< tt) refl

-- How many words a program has.
length-fillings : (n r state : ℕ) → length (fillings n r state) ≡ 3 * n
unfolding fillings
length-fillings zero r state = refl
length-fillings (suc n) r state =
    omega (arith, length-append (filling (drawn (advanced state)) r) (fillings n (r + 1) (advanced state)), length-fillings n (r + 1) (advanced state))

length-blocks : (n state : ℕ) → length (blocks n state) ≡ 2 * n
unfolding blocks block
length-blocks zero state = refl
length-blocks (suc n) state =
    omega (arith, length-append (block state) (blocks n (state_after draws_of_block state)), length-blocks n (state_after draws_of_block state))

pub length-program : (seed size : ℕ) → length (program seed size) ≡ 99 + 2 * size
unfolding program
length-program seed size =
    let state = state_after filled_registers seed in
    omega (
      arith,
      length-append (fillings filled_registers 1 seed) (blocks size state ++ ending),
      length-append (blocks size state) ending,
      length-fillings filled_registers 1 seed,
      length-blocks size state,
    )
