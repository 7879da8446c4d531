-- The control number in every element of a row.
use Rattle.std.proofs.Common.{◌≡◌, ◌≢◌, ℕ, ◌+◌, ◌*◌, ◌/◌, ◌%◌, ◌<◌, Bool, true, false, cond, ◌&&◌, eqb, ltb, [], ◌∷◌, refl, sym, ◌∙◌, ap, arith, ⊎_elim}
use Rattle.std.proofs.lemmas.Bool.{cases_eq, lt-ltb, eq-eqb, ne_eqb}
use Rattle.bit_laws.specs.Numbers.{bit_of}
use Rattle.bit_rows.specs.Slices.{Slices, placed}
use Rattle.cam_chain.specs.Slices.{selected, searched}
use Rattle.steer_net.specs.Moves.{per_row}
use Rattle.steer_net.specs.Network.{bit_in}
use Rattle.micro_ir.specs.declared.op.MicroOp.TheVariants.{Search, UpdateBy}
use Rattle.micro_ir.specs.ControlNumbers.{updated_by}
use Rattle.micro_ir.specs.Replay.{replay}
use Rattle.micro_ir.specs.Subs.{subs_of}
use Rattle.micro_ir.proofs.Subs.{selected-of}
use Rattle.micro_ir.specs.Steps.{micros, steps_on}
use Rattle.micro_ir.specs.Pieces.{clear}
use Rattle.micro_ir.proofs.Keeping.{micros-keep}
use Rattle.micro_ir.proofs.Lists.{replay-append, replay-num}
use Rattle.micro_ir.proofs.Lift.{replay-columns}
use Rattle.micro_ir.proofs.OneElement.{clear-here, step-row, clear-fits}
use Rattle.row_views.specs.Views.{view}
use Rattle.row_views.specs.Lists.{spread_num}
use Rattle.row_views.proofs.Views.{spot, view-in, view-micros}
use Rattle.row_views.proofs.Tags.{selected-spot}

pub spread-num : (w row : ℕ) (s : Slices) → (replay (spread_num w row) s).num ≡ s.num
unfolding spread_num replay
spread-num w row s =
    ap (λ (z : Slices). z.num) (replay-append (micros w (clear w row ∷ [])) (Search (subs_of w (λ j. ltb j w)) [] false ∷ UpdateBy row w ∷ []) s)
    ∙ replay-num (micros w (clear w row ∷ [])) s (micros-keep w (clear w row ∷ []))

-- the row of a view after a search that finds all and an update by the number
updated-view : (w row : ℕ) (s : Slices) (p r b : ℕ) → 0 < w → 32 / w * w ≡ 32 → p < per_row w s → b < w
    → view w (updated_by row w (searched (subs_of w (λ j. ltb j w)) [] false s)) p r b ≡ cond (eqb r row) (cond (bit_of s.num b) true (view w s p r b)) (view w s p r b)
updated-view w row s p r b pos lanes below inside =
    let s1 = searched (subs_of w (λ j. ltb j w)) [] false s in
    let a = spot w (32 / w) s.columns p pos lanes below in
    let k = p % (32 / w) in
    let q : k * w + b < 32 = omega (arith, a.fits) in
    let t : placed s.columns (k * w + b) (p / (32 / w)) ≡ true = rw (lt-ltb (k * w + b) 32 q, lt-ltb (p / (32 / w)) s.columns a.inside) refl in
    let n : selected (subs_of w (bit_of s.num)) (k * w + b) ≡ bit_of s.num b = selected-of w (bit_of s.num) k b inside a.fits in
    let c0 = selected-spot w (λ j. ltb j w) s.columns p b pos lanes below inside in
    let c : selected (subs_of w (λ j. ltb j w)) (k * w + b) ≡ true = ap (λ (x : ℕ). selected (subs_of w (λ j. ltb j w)) x) (sym (a.sub b inside)) ∙ c0 ∙ lt-ltb b w inside in
    view-in w (updated_by row w s1) p r b inside
    ∙ rw (view-in w s p r b inside, bit_in, a.sub b inside, a.col b inside, t, n, c) (chosen (bit_of s.num b) (eqb r row) (s.bit (k * w + b) r (p / (32 / w))))
  where
    chosen : (x e o : Bool) → cond ((x && e) && true) true o ≡ cond e (cond x true o) o
    chosen true true o = refl
    chosen true false o = refl
    chosen false true o = refl
    chosen false false o = refl

pub spread-view : (w row : ℕ) (s : Slices) (p r b : ℕ) → 0 < w → 32 / w * w ≡ 32 → p < per_row w s → b < w
    → view w (replay (spread_num w row) s) p r b ≡ cond (eqb r row) (bit_of s.num b) (view w s p r b)
unfolding spread_num replay steps_on
spread-view w row s p r b pos lanes below inside =
    let steps = clear w row ∷ [] in
    let s1 = replay (micros w steps) s in
    let cols : s1.columns ≡ s.columns = replay-columns (micros w steps) s in
    let number : s1.num ≡ s.num = replay-num (micros w steps) s (micros-keep w steps) in
    let e : view w s1 p ≡ steps_on steps (view w s p) = view-micros w steps s p (clear-fits w row, tt) pos lanes below in
    ap (λ (z : Slices). view w z p r b) (replay-append (micros w steps) (Search (subs_of w (λ j. ltb j w)) [] false ∷ UpdateBy row w ∷ []) s)
    ∙ updated-view w row s1 p r b pos lanes (rw cols below) inside
    ∙ ap (λ (z : ℕ → ℕ → Bool). cond (eqb r row) (cond (bit_of s1.num b) true (z r b)) (z r b)) e
    ∙ ap (λ (m : ℕ). cond (eqb r row) (cond (bit_of m b) true (steps_on steps (view w s p) r b)) (steps_on steps (view w s p) r b)) number
    ∙ ⊎_elim
    (λ (x : r ≡ row). rw (x, eq-eqb row row refl, clear-here w row (view w s p) b inside) (only (bit_of s.num b)))
    (λ (x : r ≢ row). rw (ne_eqb r row x) (step-row (clear w row) (view w s p) r b x))
    (cases_eq r row)
  where
    only : (x : Bool) → cond x true false ≡ x
    only true = refl
    only false = refl
