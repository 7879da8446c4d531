-- The programs of reductions realise their instructions, and what they cost.
use Rattle.std.proofs.Common.{◌≡◌, ℕ, ◌/◌, ◌<◌, ◌≤◌, min, suc, true, false, cond, List, [], ◌∷◌, ◌++◌, Option, Some, length, append_assoc, length-append, refl, sym, ◌∙◌, ap, subst, arith}
use Rattle.std.specs.Prelude.{IsTrue}
use Rattle.std.proofs.lemmas.Bool.{false≢true}
use Rattle.cam_chain.specs.ChainValue.{no_counts}
use Rattle.cam_chain.specs.Views.{registers_of}
use Rattle.frame_meaning.specs.Realising.{LeavesMeaning, RealisesInstruction}
use Rattle.frame_meaning.proofs.OperandWidths.{width-of}
use Rattle.frame_meaning.proofs.Quiet.{IsQuiet, quiet-keep, quiet-steps, quiet-append, quiet-cond}
use Rattle.frame_meaning.proofs.Wholes.{valid-parts, left-is, clips-no-element}
use Rattle.gen_reduce.specs.declared.kinds.Reduction.TheVariants.{Redsum, Redand, Redor, Redxor, Wredsumu, Wredsum}
use Rattle.micro_ir.specs.declared.op.MicroOp.{MicroOp}
use Rattle.micro_ir.specs.declared.op.MicroOp.TheVariants.{Free}
use Rattle.micro_ir.specs.declared.place.Place.{Place}
use Rattle.micro_ir.specs.Measures.{counts}
use Rattle.micro_ir.specs.Pieces.{fill_step}
use Rattle.micro_ir.specs.Replay.{replay, clips, AllInRange, tally}
use Rattle.micro_ir.specs.Steps.{micros}
use Rattle.micro_ir.specs.WorkRows.{free_row}
use Rattle.micro_ir.proofs.Lists.{tally-append, no_counts-and, AllInRange-append}
use Rattle.micro_ir.proofs.StepLists.{tally-micros, length-micros, AllInRange-micros}
use Rattle.mask_window.specs.Operations.{has_agnostic_tail}
use Rattle.row_counts.specs.Lists.{commit_first}
use Rattle.row_orders.specs.declared.orders.Order.TheVariants.{Minu, Min, Maxu, Max}
use Rattle.rvv_decode.specs.Ranges.{IsInRange}
use Rattle.rvv_decode.specs.declared.instruction.VInstr.{VInstr}
use Rattle.rvv_meaning.specs.Elementwise.{is_ones, registers_after}
use Rattle.rvv_meaning.specs.Vectors.{left_of}
use Rattle.rvv_meaning.specs.Whole.{Left, elements}
use Rattle.steer_net.specs.Network.{is_width}
use Rattle.vtype_cfg.specs.declared.configuration.Cfg.{Cfg}
use Rattle.vtype_cfg.specs.declared.configuration.Policy.TheVariants.{Keep}
use Rattle.vtype_cfg.specs.Legality.{is_legal}
use Rattle.vtype_cfg.specs.Settings.{is_valid}
use Rattle.vtype_cfg.proofs.Lengths.{vlen_from}
use Rattle.fold_exec.specs.declared.kinds.Folding.{Folding}
use Rattle.fold_exec.specs.declared.kinds.Folding.TheVariants.{Counted, Ordered}
use Rattle.fold_exec.specs.declared.kinds.Kind.TheVariants.{Fold}
use Rattle.fold_exec.specs.Kinds.{kind_for, leaving_of, result_bits}
use Rattle.fold_exec.specs.Laws.{Fine}
use Rattle.fold_exec.specs.Programs.{rows_at, span_of, folding_ops, folding_list, folding_step, folding_extend, FoldsTo, SpendsFolding, rest_list, rest_counts, rest_length, fold_program, fold_cost, fold_length}
use Rattle.fold_exec.proofs.Folded.{first_elements, meant, folds-left}
use Rattle.fold_exec.proofs.Quiet.{quiet-commit, quiet-folding}
use Rattle.fold_exec.proofs.Reduces.{reduces, result-width, vlen-is, length-short, span-fits}
use Rattle.fold_exec.proofs.Table.{of-kind}

-- ---- the table

-- what an instruction of each kind leaves is the fold by its step, of its elements as it extends them
abbrev Leaves : Folding → VInstr → Cfg → List (List ℕ) → Left
Leaves folding i c v =
    let sew = c.vtype.sew in
    elements (first_elements i c (result_bits folding sew) (meant (folding_step folding (result_bits folding sew)) (folding_extend folding sew) i c (result_bits folding sew) v))

folding-left : (folding : Folding) (i : VInstr) (c : Cfg) (x : ℕ) (v : List (List ℕ)) → leaving_of (Fold folding) i c x v ≡ Leaves folding i c v
folding-left (Counted Redsum) i c x v = refl
folding-left (Counted Redand) i c x v = refl
folding-left (Counted Redor) i c x v = refl
folding-left (Counted Redxor) i c x v = refl
folding-left (Counted Wredsumu) i c x v = refl
folding-left (Counted Wredsum) i c x v = refl
folding-left (Ordered Minu) i c x v = refl
folding-left (Ordered Min) i c x v = refl
folding-left (Ordered Maxu) i c x v = refl
folding-left (Ordered Max) i c x v = refl

-- the list of each kind ends with the commit
folding-split : (folding : Folding) (i : VInstr) (c : Cfg) (w : ℕ)
    → folding_ops folding w (rows_at i.vs2 i.vs1 i.vd) (span_of i c) ≡ folding_list folding w i.vs1 (span_of i c) ++ commit_first (result_bits folding w) (span_of i c) i.vd
folding-split (Counted kind) i c w = simp append_assoc
folding-split (Ordered kind) i c w = simp append_assoc

-- ---- the rest of the register

abbrev free_rest : Cfg → (bits : ℕ) → MicroOp
free_rest c bits = Free free_row bits 0 c.vstart (min 1 c.vl) false (has_agnostic_tail c c.vtype.vta) false

abbrev fill_rest : (bits to : ℕ) → List MicroOp
fill_rest bits to = micros bits (fill_step bits to ∷ [])

rest-quiet : (c : Cfg) (bits to : ℕ) → IsQuiet (rest_list c bits to)
rest-quiet c bits to =
    let free : List MicroOp = free_rest c bits ∷ [] in
    quiet-cond (is_ones c.policy) (free ++ fill_rest bits to) (quiet-append free (fill_rest bits to) (quiet-keep free refl) (quiet-steps bits (fill_step bits to ∷ [])))

rest-cost : (c : Cfg) (bits to : ℕ) → tally (rest_list c bits to) ≡ rest_counts c
unfolding tally
rest-cost c bits to =
    elim (is_ones c.policy) as (λ b. tally (cond b (free_rest c bits ∷ fill_rest bits to) []) ≡ cond b (counts 1 1 0) no_counts) [
      | true ↦ no_counts-and (tally (fill_rest bits to)) ∙ tally-micros bits (fill_step bits to ∷ [])
      | false ↦ refl
    ]

rest-count : (c : Cfg) (bits to : ℕ) → length (rest_list c bits to) ≡ rest_length c
rest-count c bits to =
    elim (is_ones c.policy) as (λ b. length (cond b (free_rest c bits ∷ fill_rest bits to) []) ≡ cond b 3 0) [
      | true ↦ ap suc (length-micros bits (fill_step bits to ∷ []))
      | false ↦ refl
    ]

pub rest-few : (c : Cfg) → rest_length c ≤ 3
rest-few c = elim (is_ones c.policy) as (λ b. cond b 3 0 ≤ 3) [ true ↦ omega arith | false ↦ omega arith ]

rest-range : (c : Cfg) (bits to columns : ℕ) → is_width bits ≡ true → to < 32 → AllInRange columns (rest_list c bits to)
unfolding AllInRange
rest-range c bits to columns width register =
    elim (is_ones c.policy) as (λ b. AllInRange columns (cond b (free_rest c bits ∷ fill_rest bits to) [])) [
      | true ↦ ((omega arith, width, λ masked. absurd (false≢true masked)), AllInRange-micros columns bits (fill_step bits to ∷ []) (omega arith, omega arith, tt))
      | false ↦ tt
    ]

-- ---- the program

module _ (folding : Folding) (i : VInstr) (c : Cfg) (x : ℕ) (is : kind_for i.op ≡ Some (Fold folding)) (fields : IsInRange i) (valid : IsTrue (is_valid c)) (legal : is_legal i c.vtype c.vstart ≡ true) where
  abbrev sew : ℕ
  sew = c.vtype.sew

  abbrev bits : ℕ
  bits = result_bits folding sew

  abbrev at : Place
  at = rows_at i.vs2 i.vs1 i.vd

  -- what the instruction leaves
  abbrev fold : List (List ℕ) → ℕ
  fold v = meant (folding_step folding bits) (folding_extend folding sew) i c bits v

  left : (v : List (List ℕ)) → left_of i c x v ≡ Some (elements (first_elements i c bits (fold v)))
  left v =
      let f = of-kind i.op (Fold folding) is in
      left-is i c x (leaving_of (Fold folding)) f.none f.whole v ∙ ap Some (folding-left folding i (record c { policy = Keep }) x v)

  -- the list as what stands before the commit, and the rest
  split : folding_ops folding sew at (span_of i c) ++ rest_list c bits i.vd ≡ folding_list folding sew i.vs1 (span_of i c) ++ (commit_first bits (span_of i c) i.vd ++ rest_list c bits i.vd)
  split =
      ap (λ (ops : List MicroOp). ops ++ rest_list c bits i.vd) (folding-split folding i c sew)
      ∙ append_assoc (folding_list folding sew i.vs1 (span_of i c)) (commit_first bits (span_of i c) i.vd) (rest_list c bits i.vd)

  program-quiet : IsQuiet (folding_list folding sew i.vs1 (span_of i c) ++ (commit_first bits (span_of i c) i.vd ++ rest_list c bits i.vd))
  program-quiet =
      quiet-append (folding_list folding sew i.vs1 (span_of i c)) (commit_first bits (span_of i c) i.vd ++ rest_list c bits i.vd) (quiet-folding folding sew i.vs1 (span_of i c))
      (quiet-append (commit_first bits (span_of i c) i.vd) (rest_list c bits i.vd) (quiet-commit bits (span_of i c) i.vd) (rest-quiet c bits i.vd))

  fold-realises : FoldsTo folding sew i.vs1 (span_of i c) → RealisesInstruction i c x (fold_program (Fold folding) i c)
  unfolding RealisesInstruction fold_program
  fold-realises folds s empty long =
      let v = registers_of s in
      let r = reduces folding i c is valid legal in
      let ops = folding_list folding sew i.vs1 (span_of i c) ++ (commit_first bits (span_of i c) i.vd ++ rest_list c bits i.vd) in
      let lowest = vlen_from c.vlen (valid-parts c valid).length in
      let some : 0 < s.columns = omega (arith, lowest) in
      let leaves : registers_of (replay ops s) ≡ registers_after c (first_elements i c bits (fold v)) v =
      folds-left (folding_step folding bits) (folding_extend folding sew) i c bits r.sew (result-width folding i c is valid legal) fields.vs1 fields.vd r.start (folding_list folding sew i.vs1 (span_of i c)) s folds some long
      (span-fits folding i c is valid legal s.columns long) (length-short folding i c is valid legal) in
      let both : LeavesMeaning c v (Some (elements (first_elements i c bits (fold v)))) (replay ops s) (clips ops s) =
      (leaves, program-quiet s ∙ sym (clips-no-element c (first_elements i c bits (fold v)) v (λ k. refl) (min 1 c.vl))) in
      rw split (subst (λ (l : Option Left). LeavesMeaning c v l (replay ops s) (clips ops s)) (sym (left v)) both)

  pub fold-fine : FoldsTo folding sew i.vs1 (span_of i c) → SpendsFolding folding sew at (span_of i c) → Fine (Fold folding) i c x
  unfolding fold_program fold_cost fold_length
  fold-fine folds spends =
      let columns = c.vlen / 32 in
      let ops = folding_ops folding sew at (span_of i c) in
      let rest = rest_list c bits i.vd in
      let w = width-of bits (result-width folding i c is valid legal) in
      let fits = span-fits folding i c is valid legal columns (vlen-is folding i c is valid legal) in
      record {
        realises = fold-realises folds;
        cost = tally-append ops rest ∙ rw (spends.cost, rest-cost c bits i.vd) refl;
        count = length-append ops rest ∙ rw (spends.count, rest-count c bits i.vd) refl;
        range = AllInRange-append columns ops rest (spends.range columns fits) (rest-range c bits i.vd columns w.built fields.vd);
      }
