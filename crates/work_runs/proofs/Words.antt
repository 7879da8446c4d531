-- The words of a workload, kind by kind: each is carried out, and goes on to the next one.
use Rattle.std.proofs.Common.{◌≡◌, ℕ, zero, suc, ◌+◌, ◌*◌, ◌%◌, ◌^◌, ◌<◌, true, false, [], Some, None, refl, sym, ◌∙◌, ap, subst, arith}
use Rattle.std.specs.Prelude.{bit_and, slice_index}
use Rattle.std.proofs.lemmas.List.{get_or-set_same}
use Rattle.word_rows.specs.Field.{field}
use Rattle.rv32_decode.specs.Formats.{instruction}
use Rattle.rv32_decode.specs.Rows.{rows as scalar_rows, means as means_scalar, operations as scalar_operations, encoding_of}
use Rattle.rv32_decode.specs.declared.formats.Format.TheVariants.{U}
use Rattle.rv32_decode.specs.declared.instruction.Instr.{Instr}
use Rattle.rv32_decode.specs.declared.operations.Op.TheVariants.{Lui, Addi, Ecall}
use Rattle.rvv_decode.specs.Rows.{rows, means}
use Rattle.rvv_decode.specs.OpiRows.{opi_rows}
use Rattle.rvv_decode.specs.OpmRows.{opm_rows}
use Rattle.rvv_decode.specs.ConfigRows.{config_rows}
use Rattle.rvv_decode.specs.MemoryRows.{load_rows, store_rows}
use Rattle.rvv_decode.specs.declared.instruction.VInstr.{VInstr}
use Rattle.rvv_decode.specs.declared.instruction.VOp.TheVariants.{Opm, Config}
use Rattle.rvv_decode.specs.declared.instruction.ConfigOp.TheVariants.{Vsetvli}
use Rattle.rvv_decode.specs.declared.instruction.Form.TheVariants.{V}
use Rattle.rvv_decode.specs.declared.instruction.OpmOp.{OpmOp}
use Rattle.rvv_decode.specs.declared.instruction.OpmOp.TheVariants.{Vredxor, VmvXS}
use Rattle.vtype_cfg.specs.Groups.{registers}
use Rattle.vtype_cfg.specs.Classes.{plain, index, opm_class, row_of, destination_of, sources_of, overlap_of, starts_at_zero}
use Rattle.vtype_cfg.specs.Legality.{has_setting, has_legal_eew, has_legal_emul, is_aligned, fits_registers, is_placed, overlaps_legally, spares_mask, may_start_at, are_placed, writes_legally, obeys_rules, is_legal}
use Rattle.vtype_cfg.specs.Settings.{vtype_of, bits_of, settings, setting_of_codes, setting_of_sizes, configured}
use Rattle.rvv_meaning.specs.Scalar.{effect, value_effect, effect_of, executed}
use Rattle.rvv_meaning.specs.States.{Core, call_of, carried_out, executed_scalar, executed_vector, next_for}
use Rattle.rvv_meaning.specs.declared.Meaning.TheVariants.{Scalar}
use Rattle.rvv_meaning.specs.declared.Next.TheVariants.{Perform}
use Rattle.rvv_meaning.specs.Vectors.{configuration_effect, vector_effect}
use Rattle.work_gen.specs.Words.{setting_word, lui_word, vid_word, vadd_word, operation_word}
use Rattle.work_runs.specs.Stages.{Stage, set, leaving, Width, bytes, halves, words, name_of}
use Rattle.work_runs.proofs.Legal.{legal-plain, legal-index, legal-configuration}
use Rattle.work_runs.proofs.Ready.{registers-written, Ready, GoesTo, Continues, Goes, Works, works, vector-continues}
use Rattle.work_runs.proofs.Meanings.{Computes, field-mask, not-scalar, operation-computes, vadd-computes, vid-computes}

-- ---- configurations

-- the word that sets a width
abbrev pub setting_for : Width → ℕ
setting_for bytes = 0x0c0072d7
setting_for halves = 0x0c8072d7
setting_for words = 0x0d0072d7

configuration : Width → VInstr
configuration w = record { op = Config Vsetvli; form = V; vd = 5; vs1 = 0; vs2 = 0; vm = false; nf = 0; eew = 0; zimm = name_of w }

configuration-meant : (w : Width) → means (setting_for w) ≡ Some (configuration w)
unfolding configuration means rows opi_rows opm_rows config_rows load_rows store_rows
configuration-meant bytes = refl
configuration-meant halves = refl
configuration-meant words = refl

configuration-no_scalar : (w : Width) → means_scalar (setting_for w) ≡ None
configuration-no_scalar bytes = not-scalar 0x0c0072d7 refl
configuration-no_scalar halves = not-scalar 0x0c8072d7 refl
configuration-no_scalar words = not-scalar 0x0d0072d7 refl

configured-to : (before : Stage) (w : Width) (c : Core) → Ready before c → GoesTo (set w) c (executed_vector (configuration w) c)
unfolding configuration vector_effect configuration_effect configured vtype_of bits_of settings setting_of_codes setting_of_sizes
configured-to before bytes c ready = record { ready = record { running = ready.running; start = refl; stands = refl; registers = registers-written c.regs 5 _ ready.registers }; pc = refl; mem = refl; retired = refl }
configured-to before halves c ready = record { ready = record { running = ready.running; start = refl; stands = refl; registers = registers-written c.regs 5 _ ready.registers }; pc = refl; mem = refl; retired = refl }
configured-to before words c ready = record { ready = record { running = ready.running; start = refl; stands = refl; registers = registers-written c.regs 5 _ ready.registers }; pc = refl; mem = refl; retired = refl }

pub setting-goes : (before : Stage) (w : Width) → Goes before (setting_for w) (set w)
unfolding configuration
setting-goes before w c ready =
    let legal = legal-configuration (configuration w) (vtype_of c.csrs.vtype) c.csrs.vstart refl in
    vector-continues c (setting_for w) (configuration w) (configuration-no_scalar w) (configuration-meant w) legal (set w) (configured-to before w c ready)

-- ---- scalar words

-- a scalar word that makes no call goes on by its effect
scalar-continues : (c : Core) (word : ℕ) (i : Instr) (after : Stage) → means_scalar word ≡ Some i → call_of (Perform (Scalar i)) c ≡ None → GoesTo after c (executed_scalar i c []) → Continues word after c
scalar-continues c word i after meant calls goes =
    let next : next_for c word ≡ Perform (Scalar i) = rw meant refl in
    record { calls = ap (λ n. call_of n c) next ∙ calls; goes = subst (λ n. GoesTo after c (carried_out n c [])) (sym next) goes }

lui-meant : (number : ℕ) → means_scalar (lui_word number) ≡ Some (instruction U Lui (lui_word number))
unfolding means_scalar scalar_rows scalar_operations encoding_of
lui-meant number =
    let code : field 0 7 (lui_word number) ≡ 0x37 = omega arith in
    let fit : bit_and (lui_word number) 0x7f ≡ 0x37 = field-mask 0 7 (lui_word number) 0x37 code in
    rw fit refl

pub lui-goes : (w : Width) (number : ℕ) → Goes (set w) (lui_word number) (set w)
unfolding executed effect_of value_effect effect
lui-goes w number c ready =
    scalar-continues c (lui_word number) (instruction U Lui (lui_word number)) (set w) (lui-meant number) refl record {
      ready = record { running = ready.running; start = ready.start; stands = ready.stands; registers = registers-written c.regs _ _ ready.registers };
      pc = refl;
      mem = refl;
      retired = refl;
    }

-- addi x17, x0, 93
addi_exit : Instr
addi_exit = record { op = Addi; rd = 17; rs1 = 0; rs2 = 0; imm = 93 }

addi-meant : means_scalar 0x05d00893 ≡ Some addi_exit
unfolding addi_exit means_scalar scalar_rows scalar_operations encoding_of
addi-meant = refl

pub addi-goes : (w : Width) → Goes (set w) 0x05d00893 leaving
unfolding addi_exit executed effect_of value_effect effect
addi-goes w c ready =
    let sum : (slice_index c.regs 0 + 93) % 2 ^ 32 ≡ 93 = rw ready.registers.zero refl in
    scalar-continues c 0x05d00893 addi_exit leaving addi-meant refl record {
      ready = record {
        running = ready.running;
        start = ready.start;
        stands = get_or-set_same c.regs 17 ((slice_index c.regs 0 + 93) % 2 ^ 32) 0 (omega (arith, ready.registers.all)) ∙ sum;
        registers = registers-written c.regs 17 _ ready.registers;
      };
      pc = refl;
      mem = refl;
      retired = refl;
    }

pub ecall-meant : means_scalar 0x00000073 ≡ Some record { op = Ecall; rd = 0; rs1 = 0; rs2 = 0; imm = 0 }
unfolding means_scalar scalar_rows scalar_operations encoding_of
ecall-meant = refl

-- ---- vector words that compute

works-plain : (w : Width) (word : ℕ) → Computes plain word → Works w word
works-plain w word h = record { i = h.i; scalar = h.scalar; vector = h.vector; computed = h.computed; legal = legal-plain h.i h.vd h.vs1 h.vs2 h.unmasked w h.of_class }

works-index : (w : Width) (word : ℕ) → Computes index word → Works w word
works-index w word h = record { i = h.i; scalar = h.scalar; vector = h.vector; computed = h.computed; legal = legal-index h.i h.vd h.vs1 h.vs2 h.unmasked w h.of_class }

pub vid-goes : (w : Width) (r : ℕ) → r < 32 → Goes (set w) (vid_word r) (set w)
vid-goes w r low = works w (vid_word r) (works-index w (vid_word r) (vid-computes r low))

pub vadd-goes : (w : Width) (r : ℕ) → r < 32 → Goes (set w) (vadd_word r) (set w)
vadd-goes w r low = works w (vadd_word r) (works-plain w (vadd_word r) (vadd-computes r low))

pub operation-goes : (w : Width) (kind vd vs1 vs2 : ℕ) → Goes (set w) (operation_word kind vd vs1 vs2) (set w)
operation-goes w kind vd vs1 vs2 = works w (operation_word kind vd vs1 vs2) (works-plain w (operation_word kind vd vs1 vs2) (operation-computes kind vd vs1 vs2))

-- vredxor.vs v1, v31, v30, and vmv.x.s x10, v1
computed : OpmOp → (d a b : ℕ) → VInstr
computed op d a b = record { op = Opm op; form = V; vd = d; vs1 = a; vs2 = b; vm = true; nf = 0; eew = 0; zimm = 0 }

reduced-works : Works words 0x0fff20d7
unfolding computed means rows opi_rows opm_rows config_rows load_rows store_rows is_legal obeys_rules has_setting may_start_at starts_at_zero are_placed is_placed has_legal_eew has_legal_emul is_aligned fits_registers registers writes_legally overlaps_legally spares_mask destination_of sources_of row_of overlap_of opm_class
reduced-works = record { i = computed Vredxor 1 30 31; scalar = not-scalar 0x0fff20d7 refl; vector = refl; computed = refl; legal = refl }

moved-works : Works words 0x42102557
unfolding computed means rows opi_rows opm_rows config_rows load_rows store_rows is_legal obeys_rules has_setting may_start_at starts_at_zero are_placed is_placed has_legal_eew has_legal_emul is_aligned fits_registers registers writes_legally overlaps_legally spares_mask destination_of sources_of row_of overlap_of opm_class
moved-works = record { i = computed VmvXS 10 0 1; scalar = not-scalar 0x42102557 refl; vector = refl; computed = refl; legal = refl }

pub reduced-goes : Goes (set words) 0x0fff20d7 (set words)
reduced-goes = works words 0x0fff20d7 reduced-works

pub moved-goes : Goes (set words) 0x42102557 (set words)
moved-goes = works words 0x42102557 moved-works

-- the setting of a number is that of some width
pub setting-for : (number : ℕ) → (w : Width) × (setting_word number ≡ setting_for w)
setting-for number = by (number % 3) (omega arith)
  where
    by : (k : ℕ) → k < 3 → (w : Width) × (0x0c0072d7 + 2 ^ 23 * k ≡ setting_for w)
    by zero low = (bytes, refl)
    by (suc zero) low = (halves, refl)
    by (suc (suc zero)) low = (words, refl)
    by (suc (suc (suc k))) low = absurd (omega arith)
