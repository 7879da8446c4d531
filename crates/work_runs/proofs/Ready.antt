-- What a word leaves that goes on to the next one: of a scalar instruction that writes a register, of a configuration, and of
-- a vector instruction that computes.
use Rattle.std.proofs.Common.{◌≡◌, ℕ, ◌+◌, ◌%◌, ◌^◌, true, List, [], length, Option, Some, None, refl, sym, ◌∙◌, ap, subst}
use Rattle.std.specs.Prelude.{slice_index, slice_set, ◌==◌}
use Rattle.std.specs.Option.{option_map_or}
use Rattle.std.proofs.lemmas.Bool.{cond_both, eqb-false}
use Rattle.std.proofs.lemmas.List.{length-set, get_or-set_other}
use Rattle.rvv_decode.specs.declared.instruction.VInstr.{VInstr}
use Rattle.rvv_decode.specs.declared.instruction.VOp.{VOp}
use Rattle.rvv_decode.specs.declared.instruction.VOp.TheVariants.{Opi, Opm, Config, Memory as Moves}
use Rattle.vtype_cfg.specs.Settings.{vtype_of, settings, setting_of_codes}
use Rattle.vtype_cfg.specs.Legality.{is_legal}
use Rattle.rv32_decode.specs.Rows.{means as means_scalar}
use Rattle.rvv_decode.specs.Rows.{means}
use Rattle.rvv_meaning.specs.declared.Flow.TheVariants.{Next as GoesOn}
use Rattle.rvv_meaning.specs.declared.Meaning.TheVariants.{Vector}
use Rattle.rvv_meaning.specs.declared.Mode.TheVariants.{Running}
use Rattle.rvv_meaning.specs.declared.Next.TheVariants.{Perform}
use Rattle.rvv_meaning.specs.Scalar.Registers.{written}
use Rattle.rvv_meaning.specs.States.{Core, advanced, after_flow, call_of, carried_out, cfg_at, executed_vector, next_for, vector_effect_at, with_vector_effect}
use Rattle.rvv_meaning.specs.Vectors.{VectorEffect, effect_by, elements_effect, is_computed, left_by, left_effect, no_effect, number_effect, scalar_operand, vector_effect}
use Rattle.rvv_meaning.specs.Whole.{Left, elements, number}
use Rattle.work_runs.specs.Stages.{Stage, set, IsAt, Width, bytes, halves, words, name_of, type_of}

-- there are 32 registers, and the first is zero
pub record Registers (regs : List ℕ) : Type 0 where
  pub all : length regs ≡ 32
  pub zero : slice_index regs 0 ≡ 0

-- a write leaves both
pub registers-written : (regs : List ℕ) (r value : ℕ) → Registers regs → Registers (written regs r value)
registers-written regs r value h =
    cond_both (r == 0) regs (slice_set regs r value) Registers (λ _. h)
    (λ other. record {
      all = length-set regs r value ∙ h.all;
      zero = get_or-set_other regs r 0 value 0 (λ same. eqb-false r 0 other (sym same)) ∙ h.zero;
    })

-- The machine runs, and the next word may be carried out at its stage.
pub record Ready (stage : Stage) (c : Core) : Type 0 where
  pub running : c.mode ≡ Running
  pub start : c.csrs.vstart ≡ 0
  pub stands : IsAt stage c
  pub registers : Registers c.regs

-- what a word leaves that goes on to the next one
pub record GoesTo (after : Stage) (c next : Core) : Type 0 where
  pub ready : Ready after next
  pub pc : next.pc ≡ (c.pc + 4) % 2 ^ 32
  pub mem : next.mem ≡ c.mem
  pub retired : next.csrs.retired ≡ c.csrs.retired + 1

-- A word is carried out without a call, and goes on to the next one.
pub record Continues (word : ℕ) (after : Stage) (c : Core) : Type 0 where
  pub calls : call_of (next_for c word) c ≡ None
  pub goes : GoesTo after c (carried_out (next_for c word) c [])

abbrev pub Goes : (before : Stage) → (word : ℕ) → (after : Stage) → Type 0
Goes before word after = (c : Core) → Ready before c → Continues word after c

-- ---- what is kept by a vector instruction that computes

record Calm (c : Core) (e : VectorEffect) : Type 0 where
  flow : e.flow ≡ GoesOn
  vtype : e.csrs.vtype ≡ c.csrs.vtype
  start : e.csrs.vstart ≡ 0
  retired : e.csrs.retired ≡ c.csrs.retired
  mem : e.mem ≡ c.mem
  registers : Registers e.regs

module _ (i : VInstr) (c : Core) (start : c.csrs.vstart ≡ 0) (registers : Registers c.regs) where
  calm-left : (l : Left) → Calm c (left_effect i c.pc c.regs c.csrs c.mem c.vectors c.policy l)
  unfolding elements_effect number_effect
  calm-left (elements e) = record { flow = refl; vtype = refl; start = refl; retired = refl; mem = refl; registers = registers }
  calm-left (number n) = record { flow = refl; vtype = refl; start = refl; retired = refl; mem = refl; registers = registers-written c.regs i.vd n registers }

  calm-if : (l : Option Left) → Calm c (option_map_or (left_effect i c.pc c.regs c.csrs c.mem c.vectors c.policy) l (no_effect i c.pc c.regs c.csrs c.mem c.vectors c.policy))
  calm-if None = record { flow = refl; vtype = refl; start = start; retired = refl; mem = refl; registers = registers }
  calm-if (Some l) = calm-left l

  calm-by : (op : VOp) → is_computed op ≡ true → Calm c (effect_by i c.pc c.regs c.csrs c.mem c.vectors c.policy op)
  calm-by (Opi op) computed = calm-if (left_by (Opi op) i (cfg_at c) (scalar_operand i c.regs) c.vectors)
  calm-by (Opm op) computed = calm-if (left_by (Opm op) i (cfg_at c) (scalar_operand i c.regs) c.vectors)
  calm-by (Config op) computed = cc
  calm-by (Moves op) computed = cc

  calm : is_computed i.op ≡ true → Calm c (vector_effect_at i c)
  unfolding vector_effect
  calm computed = calm-by i.op computed

-- ---- a vector word that computes goes on under the setting

-- a word means a vector instruction that computes, and is legal under a setting
pub record Works (w : Width) (word : ℕ) : Type 0 where
  pub i : VInstr
  pub scalar : means_scalar word ≡ None
  pub vector : means word ≡ Some i
  pub computed : is_computed i.op ≡ true
  pub legal : is_legal i (type_of w) 0 ≡ true

named : (w : Width) → vtype_of (name_of w) ≡ type_of w
unfolding vtype_of setting_of_codes settings
named bytes = refl
named halves = refl
named words = refl

-- a vector word that is legal comes next
module _ (c : Core) (word : ℕ) (i : VInstr) (scalar : means_scalar word ≡ None) (vector : means word ≡ Some i) (legal : is_legal i (vtype_of c.csrs.vtype) c.csrs.vstart ≡ true) where
  next-vector : next_for c word ≡ Perform (Vector i)
  next-vector = rw (scalar, vector, legal) refl

  -- it makes no call, and goes on by its effect
  pub vector-continues : (after : Stage) → GoesTo after c (executed_vector i c) → Continues word after c
  vector-continues after goes = record { calls = ap (λ n. call_of n c) next-vector; goes = subst (λ n. GoesTo after c (carried_out n c [])) (sym next-vector) goes }

-- what a vector instruction leaves that does not trap
executed-vector : (i : VInstr) (c : Core) → (vector_effect_at i c).flow ≡ GoesOn → executed_vector i c ≡ advanced (with_vector_effect (vector_effect_at i c) c)
executed-vector i c flow = ap (λ f. after_flow f (with_vector_effect (vector_effect_at i c) c) []) flow

pub works : (w : Width) (word : ℕ) → Works w word → Goes (set w) word (set w)
works w word v c ready =
    let legal : is_legal v.i (vtype_of c.csrs.vtype) c.csrs.vstart ≡ true = rw (ready.stands, ready.start, named w) v.legal in
    let e = calm v.i c ready.start ready.registers v.computed in
    vector-continues c word v.i v.scalar v.vector legal (set w) (
    subst (GoesTo (set w) c) (sym (executed-vector v.i c e.flow)) record {
      ready = record { running = ready.running; start = e.start; stands = e.vtype ∙ ready.stands; registers = e.registers };
      pc = refl;
      mem = e.mem;
      retired = ap (λ n. n + 1) e.retired;
    })
