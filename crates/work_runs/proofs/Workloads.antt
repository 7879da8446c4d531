-- The run of a workload exits with its last word.
use Rattle.std.proofs.Common.{◌≡◌, ℕ, ◌+◌, List, [], ◌∷◌, ◌++◌, length, refl, sym, ◌∙◌, ap, arith, length-append}
use Rattle.elf_load.specs.Fields.{entry, number_at}
use Rattle.elf_load.specs.Layout.{regions}
use Rattle.guest_mem.specs.Opening.{opened}
use Rattle.guest_mem.specs.Pages.{Memory}
use Rattle.vtype_cfg.specs.declared.configuration.Policy.{Policy}
use Rattle.rvv_meaning.specs.Images.{start_core, start_state}
use Rattle.work_gen.specs.Images.{first_word, image_of}
use Rattle.work_gen.proofs.Programs.{length-program}
use Rattle.work_runs.specs.Runs.{WorkloadLaw, instructions}
use Rattle.work_runs.specs.Stages.{opening}
use Rattle.work_runs.proofs.Flows.{before_exit, exit_word, program-is, program-flows}
use Rattle.work_runs.proofs.Running.{Stands, exits-at}

-- the entry of an image is its first word
entry-is : (words : List ℕ) → entry (image_of words) ≡ first_word
unfolding number_at image_of
entry-is words = refl

-- the opening state stands before the first word
opens : (words : List ℕ) (vlen : ℕ) (policy : Policy) (mem : Memory) (input : List ℕ) → mem.pages ≡ opened (regions (image_of words))
    → let s = start_state vlen policy (entry (image_of words)) mem input in Stands words s 0 opening s
unfolding start_state start_core
opens words vlen policy mem input pages = record {
  ready = record { running = refl; start = refl; stands = tt; registers = record { all = refl; zero = refl } };
  pc = entry-is words;
  pages = pages;
  quiet = record { retired = refl; input = refl; output = refl; errors = refl; joint = refl };
}

before-exit-words : (seed size : ℕ) → length (before_exit seed size) + 1 ≡ instructions size
before-exit-words seed size =
    sym (length-append (before_exit seed size) (exit_word ∷ [])) ∙ ap length (sym (program-is seed size)) ∙ length-program seed size

pub workload-exits : WorkloadLaw
workload-exits seed size vlen policy mem input few pages =
    let ws = before_exit seed size in
    let words = ws ++ exit_word ∷ [] in
    let is = program-is seed size in
    let here : let s = start_state vlen policy (entry (image_of words)) mem input in Stands words s 0 opening s = opens words vlen policy mem input (rw is at pages) in
    let n = before-exit-words seed size in
    rw (is, ← n) (exits-at ws (start_state vlen policy (entry (image_of words)) mem input) (omega arith) (program-flows seed size) here)
