-- A load or a store that trapped goes on.
use Rattle.std.specs.Prelude.{◌≡◌, ℕ, ◌||◌, Bool, true, List, IsTrue, is_some}
use Rattle.element_ops.specs.Elements.{AreRegisters}
use Rattle.guest_mem.specs.Pages.{Pages, with_page}
use Rattle.rvv_decode.specs.Ranges.{IsInRange}
use Rattle.rvv_decode.specs.declared.instruction.VInstr.{VInstr}
use Rattle.vtype_cfg.specs.declared.configuration.Cfg.{Cfg}
use Rattle.vtype_cfg.specs.Legality.{is_legal}
use Rattle.vtype_cfg.specs.Settings.{is_valid}
use Rattle.rvv_meaning.specs.Elementwise.{size_of, is_ones}
use Rattle.rvv_meaning.specs.LoadsAndStores.{Outcome, outcome}
use Rattle.rvv_meaning.specs.VectorAccesses.{reads_memory, writes_memory}

-- two outcomes are the same, where `ones` says which of the agnostic elements become all ones
pub record AsOnce (ones : ℕ → Bool) (a b : Outcome) : Type 0 where
  pub cfg : a.cfg ≡ b.cfg
  pub vectors : a.vectors ones ≡ b.vectors ones
  pub pages : a.pages ≡ b.pages
  pub fault : a.fault ≡ b.fault

-- the policy of a configuration, for every agnostic element
abbrev pub policy_ones : Cfg → ℕ → Bool
policy_ones c element = is_ones c.policy

-- what an instruction leaves that goes on where an outcome ended, with the page of one more address mapped
abbrev pub going_on : VInstr → Cfg → (base stride : ℕ) → Outcome → (address : ℕ) → Outcome
going_on i c base stride o address = outcome i o.cfg base stride (o.vectors (policy_ones c)) (with_page o.pages address)

-- It is legal there, and leaves what it leaves that has the page mapped before.
pub record GoesOn (i : VInstr) (c : Cfg) (base stride : ℕ) (v : List (List ℕ)) (p : Pages) (address : ℕ) : Type 0 where
  pub legal : is_legal i (outcome i c base stride v p).cfg.vtype (outcome i c base stride v p).cfg.vstart ≡ true
  pub once : AsOnce (policy_ones c) (going_on i c base stride (outcome i c base stride v p) address) (outcome i c base stride v (with_page p address))

-- a load or a store that traps
abbrev pub ResumeLaw : Type 0
ResumeLaw =
    (i : VInstr) (c : Cfg) (base stride : ℕ) (v : List (List ℕ)) (p : Pages) (address : ℕ)
    → (reads_memory i.op || writes_memory i.op) ≡ true → IsInRange i → is_legal i c.vtype c.vstart ≡ true → IsTrue (is_valid c) → AreRegisters (size_of c) v
    → is_some (outcome i c base stride v p).fault ≡ true
    → GoesOn i c base stride v p address
