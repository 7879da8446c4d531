-- The programs of the instructions of a kind realise them.
use Rattle.std.proofs.Common.{◌≡◌, ℕ, ◌<◌, true, false, not, List, Some, refl, sym, ◌∙◌, ap, arith}
use Rattle.std.specs.Prelude.{IsTrue}
use Rattle.std.proofs.lemmas.Bool.{false≢true}
use Rattle.legal_groups.specs.Facts.{GroupWritten}
use Rattle.legal_groups.proofs.Laws.{legal_group_law}
use Rattle.legal_groups.proofs.Rules.{legal_law}
use Rattle.rvv_decode.specs.Ranges.{IsInRange}
use Rattle.rvv_decode.specs.declared.instruction.VInstr.{VInstr}
use Rattle.steer_net.specs.declared.reach.Reach.{Reach}
use Rattle.vtype_cfg.specs.declared.configuration.Cfg.{Cfg}
use Rattle.vtype_cfg.specs.declared.configuration.Policy.TheVariants.{Keep}
use Rattle.vtype_cfg.specs.Classes.{index, mask_first, row_of, starts_at_zero, may_write_mask}
use Rattle.vtype_cfg.specs.Legality.{is_legal}
use Rattle.vtype_cfg.specs.Settings.{is_valid}
use Rattle.rvv_meaning.specs.Vectors.{left_of}
use Rattle.rvv_meaning.specs.Whole.{elements}
use Rattle.move_exec.specs.declared.kinds.Kind.{Kind}
use Rattle.move_exec.specs.declared.kinds.Kind.TheVariants.{Masks, Marks, Numbers, Moves}
use Rattle.move_exec.specs.declared.bodies.Body.{Body}
use Rattle.move_exec.specs.declared.frames.Frame.{Frame}
use Rattle.move_exec.specs.declared.moves.Move.{Move}
use Rattle.move_exec.specs.Bodies.{Ready, emitted_at}
use Rattle.move_exec.specs.Kinds.{kind_for, leaving_of, has_program, frame_for, body_for, takes_scalar, HasLastList}
use Rattle.move_exec.specs.Laws.{Fine}
use Rattle.move_exec.specs.Programs.{Emittable, move_program, move_cost, program_length}
use Rattle.move_exec.specs.Moves.{frame_of_move}
use Rattle.move_exec.specs.Written.{Sits, group_frame}
use Rattle.move_exec.proofs.Groups.{numbers-sound, emitted-width, group-few, group-room}
use Rattle.move_exec.proofs.MoveTable.{planned-move, nothing-after}
use Rattle.move_exec.proofs.Prefixes.{marks-sound, marks-leave, marks_elements}
use Rattle.move_exec.proofs.Masks.{masks-sound}
use Rattle.move_exec.proofs.Meant.{left-is}
use Rattle.move_exec.proofs.Sound.{sound-fine}
use Rattle.move_exec.proofs.Standing.{masked-off}
use Rattle.move_exec.proofs.Table.{of-kind}
use Rattle.move_exec.proofs.Valid.{valid-setting, length-bounded}

-- an instruction that writes the group of SEW bits
pub group-written : (i : VInstr) (c : Cfg) → kind_for i.op ≡ Some Numbers → IsTrue (is_valid c) → is_legal i c.vtype c.vstart ≡ true → GroupWritten index i c.vtype c.vtype.sew
unfolding row_of
group-written i c is valid legal = legal_group_law index i c.vtype c.vstart (valid-setting c valid) legal (of-kind i.op Numbers is).class c.vtype.sew refl

pub group-sits : (i : VInstr) (c : Cfg) → kind_for i.op ≡ Some Numbers → IsTrue (is_valid c) → is_legal i c.vtype c.vstart ≡ true → Sits (group_frame i c)
group-sits i c is valid legal =
    let written = group-written i c is valid legal in
    record { wide = written.sew; few = group-few index i c written; room = group-room index i c written; spares = λ t. written.spares_mask (masked-off i.vm t) }

-- what legality says of one that marks places of a mask
record Marking (i : VInstr) (c : Cfg) : Type 0 where
  start : c.vstart ≡ 0
  spares : not i.vm ≡ true → 0 < i.vd

marking : (how : Reach) (i : VInstr) (c : Cfg) → kind_for i.op ≡ Some (Marks how) → IsTrue (is_valid c) → is_legal i c.vtype c.vstart ≡ true → Marking i c
unfolding row_of starts_at_zero may_write_mask
marking how i c is valid legal =
    let o = legal_law mask_first i c.vtype c.vstart (valid-setting c valid) legal (of-kind i.op (Marks how) is).class in
    record { start = o.start refl; spares = λ t. o.spares_mask refl (masked-off i.vm t) (omega arith) }

-- the program of an instruction of a kind: it realises it, costs so much, has so many operations, and can be emitted
pub record Planned (kind : Kind) (i : VInstr) (c : Cfg) (x : ℕ) : Type 0 where
  pub emittable : Emittable kind (frame_for kind i c x) (body_for kind i c x) i c
  pub fine : Fine i c x (move_cost kind i c) (program_length kind (frame_for kind i c x) (body_for kind i c x)) (move_program kind i c x)

-- one that takes no scalar, and after whose registers nothing stands
plain-emittable : (f : Frame) (body : Body) (i : VInstr) (c : Cfg) (kind : Kind) → takes_scalar kind ≡ false → HasLastList kind (emitted_at f.width) i c → Ready f body → Emittable kind f body i c
plain-emittable f body i c kind none last ready = record { ready = ready; scalar = λ t. absurd (false≢true (sym none ∙ t)); last = last }

pub move-sits : (how : Move) (i : VInstr) (c : Cfg) (x : ℕ) → kind_for i.op ≡ Some (Moves how) → has_program (Moves how) i.form ≡ true → IsTrue (is_valid c) → is_legal i c.vtype c.vstart ≡ true
    → Sits (frame_of_move how i c x)
move-sits how i c x is form valid legal = let k = of-kind i.op (Moves how) is in (planned-move how i c x k.class k.whole k.none form valid legal).sits

pub planned : (kind : Kind) (i : VInstr) (c : Cfg) (x : ℕ) → kind_for i.op ≡ Some kind → has_program kind i.form ≡ true → IsInRange i → IsTrue (is_valid c)
    → is_legal i c.vtype c.vstart ≡ true → Planned kind i c x
unfolding move_program move_cost
planned (Masks kind) i c x is form fields valid legal =
    let k = of-kind i.op (Masks kind) is in
    let sound = masks-sound kind k.plain i c fields.vd fields.vs2 fields.vs1 in
    record {
      emittable = plain-emittable _ _ i c (Masks kind) refl tt sound.ready;
      fine = nothing-after i c x _ _ _ (sound-fine i c x _ _ false 8 0 _ sound valid (λ v. left-is i c x (leaving_of (Masks kind)) k.none k.whole v));
    }
planned (Marks how) i c x is form fields valid legal =
    let k = of-kind i.op (Marks how) is in
    let m = marking how i c is valid legal in
    let long = length-bounded c valid in
    let sound = marks-sound how i c m.start long fields.vd fields.vs2 m.spares in
    let left : (v : List (List ℕ)) → left_of i c x v ≡ Some (elements (marks_elements how i c m.start long fields.vd fields.vs2 m.spares v)) = λ v.
    left-is i c x (leaving_of (Marks how)) k.none k.whole v ∙ ap Some (marks-leave how i (record c { policy = Keep }) x m.start long fields.vd fields.vs2 m.spares v) in
    record {
      emittable = plain-emittable _ _ i c (Marks how) refl tt sound.ready;
      fine = nothing-after i c x _ _ _ (sound-fine i c x _ _ false 8 0 _ sound valid left);
    }
planned Numbers i c x is form fields valid legal =
    let k = of-kind i.op Numbers is in
    let sound = numbers-sound index i c (group-written i c is valid legal) in
    record {
      emittable = plain-emittable _ _ i c Numbers refl tt sound.ready;
      fine = nothing-after i c x _ _ _ (sound-fine i c x _ _ false 8 0 _ sound valid (λ v. left-is i c x (leaving_of Numbers) k.none k.whole v));
    }
planned (Moves how) i c x is form fields valid legal =
    let k = of-kind i.op (Moves how) is in
    let m = planned-move how i c x k.class k.whole k.none form valid legal in
    record {
      emittable = record { ready = m.ready; scalar = λ t. emitted-width (frame_of_move how i c x).width m.sits.wide; last = m.last };
      fine = m.fine;
    }
