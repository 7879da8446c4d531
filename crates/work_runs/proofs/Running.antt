-- The run of the words of an image: step by step, each word is carried out, and the last one exits.
use Rattle.std.proofs.Common.{◌≡◌, ℕ, zero, suc, ◌+◌, ◌-◌, ◌*◌, ◌^◌, ◌<◌, ◌≤◌, Bool, true, false, cond, List, [], ◌∷◌, ◌++◌, length, take, drop, Some, None, refl, sym, ◌∙◌, ap, subst, arith, lit<, append-nil, length-append, ⊎_elim}
use Rattle.std.specs.Prelude.{slice_index}
use Rattle.std.proofs.lemmas.Bool.{cases_Bool}
use Rattle.std.proofs.lemmas.List.{set-get_or, get_or_append_left, get_or-append_right}
use Rattle.guest_mem.specs.Opening.{opened}
use Rattle.elf_load.specs.Layout.{regions}
use Rattle.rvv_meaning.specs.declared.Mode.TheVariants.{Exited}
use Rattle.rvv_meaning.specs.declared.Call.TheVariants.{Exit}
use Rattle.rvv_meaning.specs.declared.Meaning.TheVariants.{Scalar}
use Rattle.rvv_meaning.specs.declared.Next.TheVariants.{Perform}
use Rattle.rv32_decode.specs.declared.instruction.Instr.{Instr}
use Rattle.rv32_decode.specs.declared.operations.Op.TheVariants.{Ecall}
use Rattle.rvv_meaning.specs.States.{Core, State, asked, asks, call_at, call_of, called, called_as, carried_out, core_after, is_running, next, next_for, puts, puts_by, run, step}
use Rattle.work_gen.specs.Images.{first_word, image_of}
use Rattle.work_runs.specs.Runs.{ExitsAt, Quiet}
use Rattle.work_runs.specs.Stages.{Stage, opening, leaving}
use Rattle.work_runs.proofs.Ready.{Ready, GoesTo}
use Rattle.work_runs.proofs.Fetching.{word-executable, word-loaded}
use Rattle.work_runs.proofs.Flows.{Flows, Follows, exit_word}
use Rattle.work_runs.proofs.Words.{ecall-meant}
use Rattle.rvv_meaning.specs.Calls.{call_of as call_named, named_call, exit_code, answer_of, asked_by, put_by}
use Rattle.rvv_meaning.specs.Scalar.{effect, effect_of, executed}

-- ---- a step that neither takes nor puts a byte

pub record Steps (s t : State) : Type 0 where
  pub core : t.core ≡ core_after s.core []
  pub input : t.input ≡ s.input
  pub output : t.output ≡ s.output
  pub errors : t.errors ≡ s.errors
  pub joint : t.joint ≡ s.joint

nothing-more : (b : Bool) (xs put : List ℕ) → put ≡ [] → xs ++ cond b put [] ≡ xs
nothing-more true xs put none = rw none (append-nil xs)
nothing-more false xs put none = append-nil xs

pub quiet-step : (s : State) → asked s.core ≡ 0 → puts s.core ≡ [] → Steps s (step s)
unfolding step
quiet-step s asks_none puts_none = record {
  core = ap (λ n. core_after s.core (take n s.input)) asks_none;
  input = ap (λ n. drop n s.input) asks_none;
  output = nothing-more _ s.output (puts s.core) puts_none;
  errors = nothing-more _ s.errors (puts s.core) puts_none;
  joint = ap (λ xs. s.joint ++ xs) puts_none ∙ append-nil s.joint;
}

-- where no call comes
asked-none : (c : Core) → call_of (next c) c ≡ None → asked c ≡ 0
unfolding asked call_at
asked-none c none = ap (λ call. asks call c) none

puts-none : (c : Core) → call_of (next c) c ≡ None → puts c ≡ []
unfolding puts call_at
puts-none c none = rw none refl

-- ---- runs

run-none : (s : State) → run s 0 ≡ s
unfolding run
run-none s = refl

run-more : (s : State) (n : ℕ) → is_running s.core.mode ≡ true → run s (suc n) ≡ run (step s) n
unfolding run
run-more s n runs = rw runs refl

run-stopped : (s : State) (n : ℕ) → is_running s.core.mode ≡ false → run s n ≡ s
unfolding run
run-stopped s zero stopped = refl
run-stopped s (suc n) stopped = rw stopped refl

-- some steps, and then some more
run-add : (m n : ℕ) (s : State) → run s (m + n) ≡ run (run s m) n
run-add zero n s =
    let all : 0 + n ≡ n = omega arith in
    rw (all, run-none s) refl
run-add (suc m) n s =
    let more : suc m + n ≡ suc (m + n) = omega arith in
    ⊎_elim
    (λ (runs : is_running s.core.mode ≡ true). rw (more, run-more s (m + n) runs, run-more s m runs) (run-add m n (step s)))
    (λ (stopped : is_running s.core.mode ≡ false). rw (run-stopped s (suc m + n) stopped, run-stopped s (suc m) stopped, run-stopped s n stopped) refl)
    (cases_Bool (is_running s.core.mode))

-- ---- the words of an image, one after another

-- A state stands before a word: so many words were carried out since the first state.
pub record Stands (words : List ℕ) (first : State) (k : ℕ) (stage : Stage) (s : State) : Type 0 where
  pub ready : Ready stage s.core
  pub pc : s.core.pc ≡ first_word + 4 * k
  pub pages : s.core.mem.pages ≡ opened (regions (image_of words))
  pub quiet : Quiet k first s

module _ (words : List ℕ) (some : 1 ≤ length words) (few : length words ≤ 2 ^ 22) (first : State) where
  -- the word at its place comes next
  fetched : (k : ℕ) (stage : Stage) (s : State) → k < length words → slice_index words k < 2 ^ 32 → Stands words first k stage s → next s.core ≡ next_for s.core (slice_index words k)
  unfolding next
  fetched k stage s inside small here =
      rw (here.pages, here.pc, word-executable words some few k inside, word-loaded words some few k inside small) refl

  -- it leaves the state that stands before the next one
  goes-on : (k : ℕ) (before after : Stage) (s : State) → k < length words → Follows before (slice_index words k) after → Stands words first k before s → Stands words first (k + 1) after (step s)
  unfolding core_after
  goes-on k before after s inside follows here =
      let w = slice_index words k in
      let comes = fetched k before s inside follows.small here in
      let by = follows.goes s.core here.ready in
      let none : call_of (next s.core) s.core ≡ None = ap (λ n. call_of n s.core) comes ∙ by.calls in
      let t = quiet-step s (asked-none s.core none) (puts-none s.core none) in
      let left : (step s).core ≡ carried_out (next_for s.core w) s.core [] = t.core ∙ ap (λ n. carried_out n s.core []) comes in
      let to = subst (GoesTo after s.core) (sym left) by.goes in
      record {
        ready = to.ready;
        pc = omega (arith, to.pc, here.pc);
        pages = ap (λ m. m.pages) to.mem ∙ here.pages;
        quiet = record {
          retired = omega (arith, to.retired, here.quiet.retired);
          input = t.input ∙ here.quiet.input;
          output = t.output ∙ here.quiet.output;
          errors = t.errors ∙ here.quiet.errors;
          joint = t.joint ∙ here.quiet.joint;
        };
      }

  -- where some steps lead
  record Reached (k : ℕ) (after : Stage) (s : State) (ws : List ℕ) (j : ℕ) : Type 0 where
    stage : Stage
    stands : Stands words first (k + j) stage (run s j)
    last : j ≡ length ws → stage ≡ after

  -- no step
  starts : (ws : List ℕ) (k : ℕ) (before after : Stage) (s : State) → Stands words first k before s → (0 ≡ length ws → before ≡ after) → Reached k after s ws 0
  starts ws k before after s here last =
      let at : k + 0 ≡ k = omega arith in
      record { stage = before; stands = rw (at, run-none s) here; last = last }

  -- the words from a place on lead to the stage after them
  through :
      (ws : List ℕ) (k : ℕ) (before after : Stage) (s : State)
      → Flows before ws after
      → k + length ws ≤ length words
      → ((j : ℕ) → j < length ws → slice_index words (k + j) ≡ slice_index ws j)
      → Stands words first k before s
      → (j : ℕ) → j ≤ length ws → Reached k after s ws j
  unfolding Flows
  through [] k before after s flows room same here zero within = starts [] k before after s here (λ none. flows)
  through [] k before after s flows room same here (suc j) within = absurd (omega arith)
  through (w ∷ ws) k before after s (stage, follows, flows) room same here zero within = starts (w ∷ ws) k before after s here (λ none. absurd (omega arith))
  through (w ∷ ws) k before after s (stage, follows, flows) room same here (suc j) within =
      let at : k + 0 ≡ k = omega arith in
      let first_is : slice_index words k ≡ w = ap (slice_index words) (sym at) ∙ same 0 (omega arith) in
      let there = goes-on k before stage s (omega arith) (subst (λ word. Follows before word stage) (sym first_is) follows) here in
      let shifted : (i : ℕ) → i < length ws → slice_index words (k + 1 + i) ≡ slice_index ws i = λ i inside.
      let e : k + 1 + i ≡ k + suc i = omega arith in
      ap (slice_index words) e ∙ same (suc i) (omega arith) in
      let rest = through ws (k + 1) stage after (step s) flows (omega arith) shifted there j (omega arith) in
      let e : k + 1 + j ≡ k + suc j = omega arith in
      record {
        stage = rest.stage;
        stands = rw (run-more s j (ap is_running here.ready.running), ← e) rest.stands;
        last = λ is. rest.last (omega arith);
      }

-- ---- the call that exits

-- ecall, which the last word means
ecall : Instr
ecall = record { op = Ecall; rd = 0; rs1 = 0; rs2 = 0; imm = 0 }

module _ (c : Core) (ready : Ready leaving c) (comes : next c ≡ next_for c exit_word) where
  ecall-comes : next c ≡ Perform (Scalar ecall)
  unfolding ecall
  ecall-comes = comes ∙ rw ecall-meant refl

  exit-named : named_call c.regs ≡ Exit
  unfolding call_named
  exit-named = rw ready.stands refl

  exit-called : call_of (next c) c ≡ Some Exit
  unfolding ecall executed effect_of effect
  exit-called = ap (λ n. call_of n c) ecall-comes ∙ ap Some exit-named

  exit-asks : asked c ≡ 0
  unfolding asked call_at asked_by
  exit-asks = ap (λ call. asks call c) exit-called

  exit-silent : puts c ≡ []
  unfolding puts call_at put_by
  exit-silent = ap (λ call. puts_by call c) exit-called

  exit-left : core_after c [] ≡ called_as Exit c []
  unfolding core_after ecall executed effect_of effect called
  exit-left = ap (λ n. carried_out n c []) ecall-comes ∙ ap (λ call. called_as call c []) exit-named

  exit-mode : (core_after c []).mode ≡ Exited (exit_code (core_after c []).regs)
  unfolding answer_of
  exit-mode = subst (λ (d : Core). d.mode ≡ Exited (exit_code d.regs)) (sym exit-left) (ap (λ regs. Exited (exit_code regs)) (sym (set-get_or c.regs 10 0)))

  exit-retired : (core_after c []).csrs.retired ≡ c.csrs.retired + 1
  exit-retired = ap (λ (d : Core). d.csrs.retired) exit-left

-- A state has exited: so many words were carried out since the first state.
pub record HasExited (n : ℕ) (first s : State) : Type 0 where
  pub mode : s.core.mode ≡ Exited (exit_code s.core.regs)
  pub quiet : Quiet n first s

-- ---- words that end with a call that exits

-- The words before the exit flow from the opening to it.
module _ (ws : List ℕ) (first : State) (few : length ws < 2 ^ 22) (flows : Flows opening ws leaving) (here : Stands (ws ++ exit_word ∷ []) first 0 opening first) where
  abbrev words : List ℕ
  words = ws ++ exit_word ∷ []

  abbrev most : ℕ
  most = length ws

  all : length words ≡ most + 1
  all = length-append ws (exit_word ∷ [])

  some_words : 1 ≤ length words
  some_words = omega (arith, all)

  few_words : length words ≤ 2 ^ 22
  few_words = omega (arith, all)

  reached : (j : ℕ) → j ≤ most → Reached words some_words few_words first 0 leaving first ws j
  reached j within = through words some_words few_words first ws 0 opening leaving first flows (omega (arith, all)) same here j within
    where
      same : (i : ℕ) → i < length ws → slice_index words (0 + i) ≡ slice_index ws i
      same i inside =
          let e : 0 + i ≡ i = omega arith in
          ap (slice_index words) e ∙ get_or_append_left ws (exit_word ∷ []) 0 i inside

  -- the state before the exit
  before : Stands words first most leaving (run first most)
  before =
      let r = reached most (omega arith) in
      let e : 0 + most ≡ most = omega arith in
      subst (λ k. Stands words first k leaving (run first most)) e (subst (λ stage. Stands words first (0 + most) stage (run first most)) (r.last refl) r.stands)

  exit-fetched : next (run first most).core ≡ next_for (run first most).core exit_word
  exit-fetched =
      let e : most - most ≡ 0 = omega arith in
      let last : slice_index words most ≡ exit_word = get_or-append_right ws (exit_word ∷ []) most most 0 refl (omega arith) ∙ rw e refl in
      fetched words some_words few_words first most leaving (run first most) (omega (arith, all)) (rw last (lit< tt)) before ∙ ap (next_for (run first most).core) last

  exited : HasExited (most + 1) first (step (run first most))
  exited =
      let last = run first most in
      let t = quiet-step last (exit-asks last.core before.ready exit-fetched) (exit-silent last.core before.ready exit-fetched) in
      record {
        mode = subst (λ (d : Core). d.mode ≡ Exited (exit_code d.regs)) (sym t.core) (exit-mode last.core before.ready exit-fetched);
        quiet = record {
          retired = omega (arith, ap (λ (d : Core). d.csrs.retired) t.core, exit-retired last.core before.ready exit-fetched, before.quiet.retired);
          input = t.input ∙ before.quiet.input;
          output = t.output ∙ before.quiet.output;
          errors = t.errors ∙ before.quiet.errors;
          joint = t.joint ∙ before.quiet.joint;
        };
      }

  -- no further step changes it
  stays : (k : ℕ) → most + 1 ≤ k → run first k ≡ step (run first most)
  stays k past =
      let e : k ≡ most + suc (k - (most + 1)) = omega arith in
      let stopped : is_running (step (run first most)).core.mode ≡ false = ap is_running exited.mode in
      ap (run first) e ∙ run-add most (suc (k - (most + 1))) first ∙ run-more (run first most) (k - (most + 1)) (ap is_running before.ready.running) ∙ run-stopped (step (run first most)) (k - (most + 1)) stopped

  pub exits-at : ExitsAt (most + 1) first
  exits-at = record {
    goes_on = λ k within. (reached k (omega arith)).stands.ready.running;
    exits = λ k past. subst (λ (s : State). s.core.mode ≡ Exited (exit_code s.core.regs)) (sym (stays k past)) exited.mode;
    quiet = λ k past. subst (Quiet (most + 1) first) (sym (stays k past)) exited.quiet;
  }
