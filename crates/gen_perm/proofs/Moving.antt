-- The lists of moves and of a scalar into a window: what they make of each element, that they compute registers, what they cost.
use Rattle.std.proofs.Common.{◌≡◌, ◌≢◌, ℕ, ◌+◌, ◌*◌, ◌/◌, ◌%◌, ◌<◌, ◌≤◌, Bool, cond, eqb, List, [], ◌∷◌, refl, sym, ◌∙◌, ap, subst, arith}
use Rattle.std.proofs.lemmas.Bool.{ne_eqb}
use Rattle.std.proofs.lemmas.Nat.{div-add-mod'}
use Rattle.bit_laws.specs.Numbers.{low}
use Rattle.bit_laws.proofs.Numbers.{number-same}
use Rattle.bit_rows.specs.Slices.{Slices}
use Rattle.steer_net.specs.Network.{bit_in}
use Rattle.micro_ir.specs.declared.op.MicroOp.{MicroOp}
use Rattle.micro_ir.specs.declared.op.MicroOp.TheVariants.{Window, Slide, Pick, Index}
use Rattle.micro_ir.specs.Replay.{replay, tally, counts_in, AllInRange}
use Rattle.cam_chain.specs.ChainValue.{no_counts}
use Rattle.micro_ir.specs.Steps.{element, micros, steps_on}
use Rattle.micro_ir.specs.Pieces.{commit}
use Rattle.micro_ir.specs.WorkRows.{active_row, scalar_row, result_row}
use Rattle.micro_ir.proofs.Lists.{replay-append}
use Rattle.micro_ir.proofs.Lift.{replay-columns, micros-element}
use Rattle.micro_ir.proofs.OneElement.{commit-here, commit-row, commit-fits}
use Rattle.micro_ir.proofs.PieceLists.{commit-list}
use Rattle.micro_ir.proofs.Effects.{commit-cost}
use Rattle.frame_laws.specs.Shapes.{element_number}
use Rattle.frame_laws.specs.Realising.{Realised}
use Rattle.frame_laws.specs.Preparing.{Prepared}
use Rattle.frame_laws.specs.Classes.Operands.{scalar}
use Rattle.frame_laws.proofs.Classes.Operands.{operand-here}
use Rattle.frame_laws.proofs.Preparing.{prepared_law}
use Rattle.gen_perm.specs.Moves.{IsMove, IsWindow, moved_bit, moved_number}
use Rattle.gen_perm.specs.Lists.{committed_ops, move_ops, single_ops}
use Rattle.gen_perm.specs.Laws.{window_bit, MovesAll, PutsAll, RealisesMove, RealisesScalar, MeasuredWith}
use Rattle.gen_perm.proofs.Rewriting.{rewritten-element, move-effect, window-effect, move-number}

-- a width has bits, and elements of it fill a column
pub width-some : (w : ℕ) → 8 ≤ w → 0 < w
width-some w least = omega arith

pub width-lanes : (w : ℕ) → 32 % w ≡ 0 → 32 / w * w ≡ 32
width-lanes w divides = let d : 32 / w * w + 32 % w ≡ 32 = div-add-mod' 32 w in omega (arith, d, divides)

-- a list with a commit after its operation, on one element
committed-element : (w k col row to : ℕ) (op : MicroOp) (s : Slices) → row ≢ active_row → k * w + w ≤ 32 → col < s.columns
    → element w k col (replay (committed_ops w op row to) s) ≡ steps_on (commit w row to) (element w k col (replay (op ∷ []) s))
committed-element w k col row to op s work fits inside =
    let l : col < (replay (op ∷ []) s).columns = rw (replay-columns (op ∷ []) s) inside in
    ap (element w k col) (replay-append (op ∷ []) (micros w (commit w row to)) s)
    ∙ micros-element w k col (commit w row to) (replay (op ∷ []) s) (commit-fits w row to work) fits l

pub moves-all : (op : MicroOp) (w to : ℕ) → 0 < w → 32 / w * w ≡ 32 → to < 32 → IsMove w op → MovesAll op w to (move_ops w op to)
unfolding MovesAll
moves-all op w to pos lanes register is s k col fits inside =
    let p = col * (32 / w) + k in
    let t = replay (op ∷ []) s in
    let work : result_row ≢ active_row = omega arith in
    let passive : to ≢ 32 = omega arith in
    let apart : result_row ≢ to = omega arith in
    let now = committed-element w k col result_row to op s work fits inside in
    let row : (r j : ℕ) → j < w → element w k col t r j ≡ cond (eqb r result_row) (moved_bit op s p j) (element w k col s r j) =
    λ r j h. ap (λ (u : Slices). element w k col u r j) (move-effect w op s is) ∙ rewritten-element w k col result_row (moved_bit op s) s pos lanes fits inside r j h in
    let other : (r j : ℕ) → r < 36 → j < w → element w k col t r j ≡ element w k col s r j =
    λ r j small h. let n : r ≢ 36 = omega arith in row r j h ∙ rw (ne_eqb r 36 n) refl in
    let here : (j : ℕ) → j < w → element w k col (replay (move_ops w op to) s) to j ≡ cond (element w k col s active_row j) (moved_bit op s p j) (element w k col s to j) =
    λ j h. ap (λ (f : ℕ → ℕ → Bool). f to j) now ∙ commit-here w result_row to (element w k col t) j apart passive h
    ∙ rw (other 32 j (omega arith) h, other to j (omega arith) h, row 36 j h) refl in
    record {
      active = λ on. number-same w _ (moved_bit op s p) (λ j h. here j h ∙ rw (on j h) refl) ∙ move-number w op s p is;
      idle = λ off j h. here j h ∙ rw (off j h) refl;
      kept = λ r j small n h. ap (λ (f : ℕ → ℕ → Bool). f r j) now ∙ commit-row w result_row to (element w k col t) r j n ∙ other r j (omega arith) h;
    }

pub puts-all : (op : MicroOp) (w to : ℕ) → 0 < w → 32 / w * w ≡ 32 → to < 32 → IsWindow w op → PutsAll op w to (single_ops w op to)
unfolding PutsAll
puts-all op w to pos lanes register is s k col fits inside =
    let t = replay (op ∷ []) s in
    let work : scalar_row ≢ active_row = omega arith in
    let passive : to ≢ 32 = omega arith in
    let apart : scalar_row ≢ to = omega arith in
    let now = committed-element w k col scalar_row to op s work fits inside in
    let row : (r j : ℕ) → j < w → element w k col t r j ≡ cond (eqb r active_row) (window_bit op (bit_in s 0) (col * (32 / w) + k)) (element w k col s r j) =
    λ r j h. window-effect w op s k col r j pos lanes fits inside h is in
    let other : (r j : ℕ) → r ≢ 32 → j < w → element w k col t r j ≡ element w k col s r j = λ r j n h. row r j h ∙ rw (ne_eqb r 32 n) refl in
    record {
      here = λ j h.
          ap (λ (f : ℕ → ℕ → Bool). f to j) now ∙ commit-here w scalar_row to (element w k col t) j apart passive h
          ∙ rw (row 32 j h, other 34 j work h, other to j passive h) refl;
      kept = λ r j small n m h. ap (λ (f : ℕ → ℕ → Bool). f r j) now ∙ commit-row w scalar_row to (element w k col t) r j n ∙ other r j m h;
    }

-- ---- registers of instructions

pub realises-move : (op : MicroOp) (w to : ℕ) (ops : List MicroOp) → 0 < w → MovesAll op w to ops → RealisesMove op w to ops
unfolding Realised MovesAll
realises-move op w to ops pos all i b g width register result =
    let some : 0 < i.width = rw width pos in
    let here : MovesAll op i.width (i.vd + g) ops = subst (λ x. MovesAll op i.width x ops) (sym register) (subst (λ x. MovesAll op x to ops) (sym width) all) in
    λ s vl splatted windowed k col fits inside.
    let x = here s k col fits inside in
    let p = col * (32 / i.width) + k in
    record {
      active = λ on c mask.
          x.active on ∙ ap (λ (n : ℕ). low i.width (moved_number op n (bit_in s) p)) (sym vl)
          ∙ ap (low i.width) (sym (result (bit_in s) p c (sym (windowed.active k col 0 fits inside some) ∙ on 0 some)));
      idle = x.idle;
      kept = x.kept;
    }

pub realises-scalar : (w to : ℕ) → 0 < w → 32 / w * w ≡ 32 → to < 32 → RealisesScalar w to (micros w (commit w scalar_row to))
unfolding replay Prepared
realises-scalar w to pos lanes small i b g width register splat scalar_width result =
    let some : 0 < i.width = rw width pos in
    let whole : 32 / i.width * i.width ≡ 32 = rw width lanes in
    let room : i.vd + g < 32 = rw register small in
    let prepared : Prepared i b g scalar_row [] = λ s vl splatted windowed k col fits inside.
    record {
      value = λ active c.
          operand-here scalar i g k col s (bit_in s) some whole vl fits inside (splat, scalar_width) (λ q at x h. refl) splatted
          ∙ ap (low i.width) (sym (result (bit_in s) (element_number i g k col) c));
      kept = λ r j low h. refl;
    } in
    let law : Realised i b g (micros i.width (commit i.width scalar_row (i.vd + g))) = prepared_law i b g scalar_row [] some room (omega arith) prepared in
    subst (λ x. Realised i b g (micros x (commit x scalar_row to))) width (subst (λ x. Realised i b g (micros i.width (commit i.width scalar_row x))) register law)

-- ---- what they cost

-- no operation that moves or marks elements is a search, an update or a pass
free-move : (w : ℕ) (op : MicroOp) → IsMove w op → counts_in op ≡ no_counts
free-move w (Slide to base width first up by limit) is = refl
free-move w (Pick to base width index limit) is = refl
free-move w (Index to width first) is = refl
free-move w _ is = absurd is

free-window : (w : ℕ) (op : MicroOp) → IsWindow w op → counts_in op ≡ no_counts
free-window w (Window row width first from to masked) is = refl
free-window w _ is = absurd is

measured-with : (op : MicroOp) (w row to : ℕ) → 0 < w → row ≢ active_row → row < 64 → to < 32 → counts_in op ≡ no_counts → MeasuredWith op (committed_ops w op row to)
unfolding tally AllInRange
measured-with op w row to pos work small register free = record {
  cost = rw (free, commit-cost w row to) refl;
  count = rw (commit-list w row to pos work) refl;
  range = λ columns in_range. let m : to < 64 = omega arith in (in_range, rw (commit-list w row to pos work) (tt, (m, (tt, (m, tt)))));
}

pub move-measured : (op : MicroOp) (w to : ℕ) → 0 < w → to < 32 → IsMove w op → MeasuredWith op (move_ops w op to)
move-measured op w to pos register is = measured-with op w result_row to pos (let n : result_row ≢ active_row = omega arith in n) (omega arith) register (free-move w op is)

pub single-measured : (op : MicroOp) (w to : ℕ) → 0 < w → to < 32 → IsWindow w op → MeasuredWith op (single_ops w op to)
single-measured op w to pos register is = measured-with op w scalar_row to pos (let n : scalar_row ≢ active_row = omega arith in n) (omega arith) register (free-window w op is)
