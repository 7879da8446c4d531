-- The words of a workload follow one another: each goes on to the next one, up to the call that exits, and each has 32 bits.
use Rattle.std.proofs.Common.{◌≡◌, ℕ, zero, suc, ◌+◌, ◌*◌, ◌/◌, ◌%◌, ◌^◌, ◌<◌, ◌≤◌, List, [], ◌∷◌, ◌++◌, refl, sym, ◌∙◌, ap, subst, arith, lit<, append_assoc}
use Rattle.work_gen.proofs.Programs.{operations-room}
use Rattle.work_gen.specs.Draws.{advanced, multiplier, increment, drawn, state_after, draw}
use Rattle.work_gen.specs.Words.{block, blocks, draws_of_block, ending, filled_registers, filling, fillings, operation_word, program, setting_of_words}
use Rattle.work_runs.specs.Stages.{Stage, opening, set, leaving, Width, bytes, halves, words}
use Rattle.work_runs.proofs.Ready.{Goes}
use Rattle.work_runs.proofs.Words.{addi-goes, lui-goes, moved-goes, operation-goes, reduced-goes, setting-for, setting-goes, setting_for, vadd-goes, vid-goes}

-- a word of 32 bits that is carried out, from one stage to another
pub record Follows (before : Stage) (w : ℕ) (after : Stage) : Type 0 where
  pub small : w < 2 ^ 32
  pub goes : Goes before w after

-- words that are carried out one after another
unfoldable pub Flows : Stage → List ℕ → Stage → Type 0
Flows before [] after = before ≡ after
Flows before (w ∷ ws) after = (next : Stage) × Follows before w next × Flows next ws after

flows-through : (before middle after : Stage) (ws more : List ℕ) → Flows before ws middle → Flows middle more after → Flows before (ws ++ more) after
unfolding Flows
flows-through before middle after [] more here there = subst (λ stage. Flows stage more after) (sym here) there
flows-through before middle after (w ∷ ws) more (next, goes, rest) there = (next, goes, flows-through next middle after ws more rest there)

-- what gives the registers their content
filling-flows : (number r : ℕ) → number < 2 ^ 32 → r < 32 → Flows (set words) (filling number r) (set words)
unfolding Flows
filling-flows number r small low = (
  set words,
  record { small = omega arith; goes = lui-goes words number },
  (
    set words,
    record { small = omega arith; goes = vid-goes words r low },
    (set words, record { small = omega arith; goes = vadd-goes words r low }, refl),
  ),
)

-- a number that is drawn has 32 bits
high-half : (n : ℕ) → n % 2 ^ 64 / 2 ^ 32 < 2 ^ 32
high-half n = omega arith

drawn-small : (state : ℕ) → drawn (advanced state) < 2 ^ 32
unfolding advanced
drawn-small state = high-half (state * multiplier + increment)

fillings-flow : (n r state : ℕ) → n + r ≤ 32 → Flows (set words) (fillings n r state) (set words)
unfolding fillings Flows
fillings-flow zero r state few = refl
fillings-flow (suc n) r state few =
    flows-through (set words) (set words) (set words) (filling (drawn (advanced state)) r) (fillings n (r + 1) (advanced state))
    (filling-flows (drawn (advanced state)) r (drawn-small state) (omega arith)) (fillings-flow n (r + 1) (advanced state) (omega arith))

setting-follows : (before : Stage) (w : Width) → Follows before (setting_for w) (set w)
setting-follows before bytes = record { small = lit< tt; goes = setting-goes before bytes }
setting-follows before halves = record { small = lit< tt; goes = setting-goes before halves }
setting-follows before words = record { small = lit< tt; goes = setting-goes before words }

operation-follows : (w : Width) (kind vd vs1 vs2 : ℕ) → Follows (set w) (operation_word kind vd vs1 vs2) (set w)
operation-follows w kind vd vs1 vs2 = record { small = omega (arith, operations-room (kind % 16)); goes = operation-goes w kind vd vs1 vs2 }

-- a setting and an operation, after which some width is set
block-flows : (w : Width) (state : ℕ) → (v : Width) × Flows (set w) (block state) (set v)
unfolding Flows block
block-flows w state =
    let v = setting-for (draw 0 state) in (
      v.0,
      (
        set v.0,
        subst (λ word. Follows (set w) word (set v.0)) (sym v.1) (setting-follows (set w) v.0),
        (set v.0, operation-follows v.0 (draw 1 state) (draw 2 state) (draw 3 state) (draw 4 state), refl),
      ),
    )

blocks-flow : (n state : ℕ) (w : Width) → (v : Width) × Flows (set w) (blocks n state) (set v)
unfolding Flows blocks
blocks-flow zero state w = (w, refl)
blocks-flow (suc n) state w =
    let first = block-flows w state in
    let rest = blocks-flow n (state_after draws_of_block state) first.0 in
    (rest.0, flows-through (set w) (set first.0) (set rest.0) (block state) (blocks n (state_after draws_of_block state)) first.1 rest.1)

-- the words before the call that exits
abbrev pub last_words : List ℕ
last_words = setting_of_words ∷ 0x0fff20d7 ∷ 0x42102557 ∷ 0x05d00893 ∷ []

abbrev pub exit_word : ℕ
exit_word = 0x00000073

last-flow : (w : Width) → Flows (set w) last_words leaving
unfolding Flows
last-flow w = (
  set words,
  setting-follows (set w) words,
  (
    set words,
    record { small = lit< tt; goes = reduced-goes },
    (set words, record { small = lit< tt; goes = moved-goes }, (leaving, record { small = lit< tt; goes = addi-goes words }, refl)),
  ),
)

unfoldable pub before_exit : ℕ → ℕ → List ℕ
before_exit seed size =
    setting_of_words ∷ fillings filled_registers 1 seed ++ (blocks size (state_after filled_registers seed) ++ last_words)

pub program-is : (seed size : ℕ) → program seed size ≡ before_exit seed size ++ exit_word ∷ []
unfolding program before_exit
program-is seed size =
    let state = state_after filled_registers seed in
    let more : blocks size state ++ ending ≡ (blocks size state ++ last_words) ++ exit_word ∷ [] = sym (append_assoc (blocks size state) last_words (exit_word ∷ [])) in
    ap (λ ws. setting_of_words ∷ fillings filled_registers 1 seed ++ ws) more
    ∙ ap (λ ws. setting_of_words ∷ ws) (sym (append_assoc (fillings filled_registers 1 seed) (blocks size state ++ last_words) (exit_word ∷ [])))

pub program-flows : (seed size : ℕ) → Flows opening (before_exit seed size) leaving
unfolding before_exit Flows
program-flows seed size =
    let state = state_after filled_registers seed in
    let middle = blocks-flow size state words in (
      set words,
      setting-follows opening words,
      flows-through (set words) (set words) leaving (fillings filled_registers 1 seed) (blocks size state ++ last_words)
          (fillings-flow filled_registers 1 seed (omega arith))
          (flows-through (set words) (set middle.0) leaving (blocks size state) last_words middle.1 (last-flow middle.0)),
    )
