-- A list of steps acts on each element by itself.
use Rattle.std.proofs.Common.{◌≡◌, ℕ, ◌+◌, ◌-◌, ◌*◌, ◌<◌, ◌≤◌, Bool, true, false, cond, ◌&&◌, ◌||◌, eqb, ltb, leb, List, [], ◌∷◌, ◌++◌, length, zero, suc, refl, sym, ◌∙◌, ap, arith, ⊎_elim}
use Rattle.std.proofs.lemmas.Bool.{cases_lt, cases_Bool, lt-ltb, le-ltb, leb-true, le-leb, and_parts}
use Rattle.micro_ir.proofs.Lists.{replay-append}
use Rattle.micro_ir.proofs.Subs.{selected-of}
use Rattle.bit_rows.specs.Slices.{Slices, placed}
use Rattle.cam_chain.specs.Slices.{selected, matches, searched, updated, passed}
use Rattle.micro_ir.specs.declared.op.MicroOp.{MicroOp}
use Rattle.micro_ir.specs.declared.op.MicroOp.TheVariants.{Search, Update, Pass, Window, Free, PackMask, UpdateBy, Spread, Narrow, Slide, Pick, Index, SetNum, Count, First, Below}
use Rattle.micro_ir.specs.Replay.{effect, replay}
use Rattle.steer_net.specs.Network.{windowed, freed, packed}
use Rattle.steer_net.specs.Moves.{widened, narrowed, slid, picked, indexed, marked_below}
use Rattle.micro_ir.specs.ControlNumbers.{with_num, counted, first_found, updated_by}
use Rattle.micro_ir.specs.Subs.{subs_of}
use Rattle.micro_ir.specs.Folding.{has_whole, table_keys, searches_for, any_match}
use Rattle.micro_ir.proofs.Folds.{table-count, table-writes}
use Rattle.micro_ir.specs.Steps.{Step, fires, moved, source, pass_of, micro_from, micro, micros, Fits, AllFit, element, step_on, steps_on}

-- searches leave the bits
pub searches-bit : (subs : ℕ) (join : Bool) (keys : List (List (ℕ × Bool))) (s : Slices) → (replay (searches_for subs join keys) s).bit ≡ s.bit
unfolding replay
searches-bit subs join [] s = refl
searches-bit subs join (k ∷ ks) s = searches-bit subs true ks (searched subs k join s)

-- searches leave the columns
pub searches-columns : (subs : ℕ) (join : Bool) (keys : List (List (ℕ × Bool))) (s : Slices) → (replay (searches_for subs join keys) s).columns ≡ s.columns
unfolding replay
searches-columns subs join [] s = refl
searches-columns subs join (k ∷ ks) s = searches-columns subs true ks (searched subs k join s)

or_swap : (f m t : Bool) → f || (m || t) ≡ (m || f) || t
or_swap true true t = refl
or_swap true false t = refl
or_swap false true t = refl
or_swap false false t = refl

-- a tag after searches that join
pub joined-tag : (subs : ℕ) (keys : List (List (ℕ × Bool))) (s : Slices) (sub col : ℕ) → placed s.columns sub col ≡ true → selected subs sub ≡ true
    → (replay (searches_for subs true keys) s).tag sub col ≡ any_match keys (λ row. s.bit sub row col) || s.tag sub col
unfolding replay
joined-tag subs [] s sub col p q = refl
joined-tag subs (k ∷ ks) s sub col p q =
    joined-tag subs ks (searched subs k true s) sub col p q
    ∙ rw (p, q) (or_swap (any_match ks (λ row. s.bit sub row col)) (matches (λ row. s.bit sub row col) k) (s.tag sub col))

or_turn : (f m : Bool) → f || (m || false) ≡ m || f
or_turn true true = refl
or_turn true false = refl
or_turn false true = refl
or_turn false false = refl

-- a tag after searches of which the first does not join
pub fresh-tag : (subs : ℕ) (keys : List (List (ℕ × Bool))) (s : Slices) (sub col : ℕ) → 0 < length keys → placed s.columns sub col ≡ true → selected subs sub ≡ true
    → (replay (searches_for subs false keys) s).tag sub col ≡ any_match keys (λ row. s.bit sub row col)
unfolding replay
fresh-tag subs [] s sub col some p q = absurd (omega arith)
fresh-tag subs (k ∷ ks) s sub col some p q =
    joined-tag subs ks (searched subs k false s) sub col p q
    ∙ rw (p, q) (or_turn (any_match ks (λ row. s.bit sub row col)) (matches (λ row. s.bit sub row col) k))

-- a place of the chain
pub place_true : (n sub col : ℕ) → sub < 32 → col < n → placed n sub col ≡ true
place_true n sub col h q = rw (lt-ltb sub 32 h, lt-ltb col n q) refl

-- the tags after the pass, where the output lies
pub passed-tag : (up : Bool) (times k w j col : ℕ) (s : Slices) → k * w + w ≤ 32 → j < w → col < s.columns
    → cond up (j - times) (j + times) < w → cond up times 0 ≤ j
    → (replay (pass_of up times) s).tag (k * w + j) col ≡ s.tag (k * w + cond up (j - times) (j + times)) col
unfolding replay
passed-tag true zero k w j col s q h c a b = let e : j - 0 ≡ j = omega arith in rw e refl
passed-tag false zero k w j col s q h c a b = let e : j + 0 ≡ j = omega arith in rw e refl
passed-tag true (suc n) k w j col s q h c a b =
    let p : placed s.columns (k * w + j) col ≡ true = place_true s.columns (k * w + j) col (omega arith) c in
    let l : leb (suc n) (k * w + j) ≡ true = le-leb (suc n) (k * w + j) (omega arith) in
    let e : k * w + j - suc n ≡ k * w + (j - suc n) = omega arith in
    rw (p, l, e) refl
passed-tag false (suc n) k w j col s q h c a b =
    let p : placed s.columns (k * w + j) col ≡ true = place_true s.columns (k * w + j) col (omega arith) c in
    let l : ltb (k * w + j + suc n) 32 ≡ true = lt-ltb (k * w + j + suc n) 32 (omega arith) in
    let e : k * w + j + suc n ≡ k * w + (j + suc n) = omega arith in
    rw (p, l, e) refl

-- passes leave the bits
pub passed-bit : (up : Bool) (times : ℕ) (s : Slices) → (replay (pass_of up times) s).bit ≡ s.bit
unfolding replay
passed-bit up zero s = refl
passed-bit up (suc n) s = refl

-- passes leave the columns
pub passed-columns : (up : Bool) (times : ℕ) (s : Slices) → (replay (pass_of up times) s).columns ≡ s.columns
unfolding replay
passed-columns up zero s = refl
passed-columns up (suc n) s = refl

source_in_by : (up : Bool) (times : ℕ) (at : ℕ → Bool) (j : ℕ) → cond up (leb times j && at (j - times)) (at (j + times)) ≡ true → at (cond up (j - times) (j + times)) ≡ true
source_in_by true times at j h = (and_parts (leb times j) (at (j - times)) h).1
source_in_by false times at j h = h

moved_fits_by : (w : ℕ) (up : Bool) (times : ℕ) (at : ℕ → Bool) (j : ℕ) →
    ((i : ℕ) → at i ≡ true → (i < w) × (cond up (i + times) i < w) × (cond up 0 times ≤ i)) →
    cond up (leb times j && at (j - times)) (at (j + times)) ≡ true →
    (cond up (j - times) (j + times) < w) × (j < w) × (cond up times 0 ≤ j)
moved_fits_by w true times at j f h =
    let p = and_parts (leb times j) (at (j - times)) h in
    let le : times ≤ j = leb-true times j p.0 in
    let q = f (j - times) p.1 in
    (q.0, omega (arith, q.1), le)
moved_fits_by w false times at j f h =
    let q = f (j + times) h in
    (q.0, omega (arith, q.2), omega arith)

-- the place of the inputs is one of the step's, where the output's is
source_in : (w : ℕ) (step : Step) (j : ℕ) → moved step j ≡ true → step.at (source step j) ≡ true
source_in w step j h = source_in_by step.up step.times step.at j h

-- what Fits says at the place of the inputs, told at the place of the output
moved_fits : (w : ℕ) (step : Step) (j : ℕ) → Fits w step → moved step j ≡ true →
    (source step j < w) × (j < w) × (cond step.up step.times 0 ≤ j)
moved_fits w step j f h = moved_fits_by w step.up step.times step.at j f.inside h

-- a guarded write, as the step tells it
shape : (p sel m e t f b o : Bool) → p ≡ true → sel ≡ m → (m ≡ true → t ≡ f) → cond (p && sel && e && t) b o ≡ cond (e && m && f) b o
shape p sel true true t f b o hp hs h = rw (hp, hs, h refl) refl
shape p sel true false t f b o hp hs h = rw (hp, hs) refl
shape p sel false true t f b o hp hs h = rw (hp, hs) refl
shape p sel false false t f b o hp hs h = rw (hp, hs) refl

-- an element at a place of its own
pub element-inside : (w k col : ℕ) (s : Slices) (row j : ℕ) → j < w → element w k col s row j ≡ s.bit (k * w + j) row col
unfolding element
element-inside w k col s row j h = rw (lt-ltb j w h) refl

-- an element at a place past its last
pub element-outside : (w k col : ℕ) (s : Slices) (row j : ℕ) → w ≤ j → element w k col s row j ≡ false
unfolding element
element-outside w k col s row j h = rw (le-ltb j w h) refl

-- one bit of an element after a step, by its keys
keys-bit : (w k col : ℕ) (step : Step) (t : ℕ) (ts : List ℕ) (s : Slices) → Fits w step → k * w + w ≤ 32 → col < s.columns → (row j : ℕ) → j < w
    → (replay (micro_from w step (t ∷ ts)) s).bit (k * w + j) row col
    ≡ cond (eqb row step.out && moved step j && any_match (table_keys step.inputs (t ∷ ts) step.out) (λ r. element w k col s r (source step j))) step.bit (s.bit (k * w + j) row col)
unfolding replay
keys-bit w k col step t ts s f q c row j h =
    let keys = table_keys step.inputs (t ∷ ts) step.out in
    let found = searches_for (subs_of w step.at) false keys in
    let shift = pass_of step.up step.times in
    let last = Update (subs_of w (moved step)) step.out step.bit in
    let s1 = replay found s in
    let s2 = replay shift s1 in
    let cols : s2.columns ≡ s.columns = passed-columns step.up step.times s1 ∙ searches-columns (subs_of w step.at) false keys s in
    let bits : s2.bit ≡ s.bit = passed-bit step.up step.times s1 ∙ searches-bit (subs_of w step.at) false keys s in
    let cols1 : s1.columns ≡ s.columns = searches-columns (subs_of w step.at) false keys s in
    let e : replay (found ++ (shift ++ last ∷ [])) s ≡ effect last s2 = replay-append found (shift ++ last ∷ []) s ∙ replay-append shift (last ∷ []) s1 in
    let old : s2.bit (k * w + j) row col ≡ s.bit (k * w + j) row col = ap (λ (g : ℕ → ℕ → ℕ → Bool). g (k * w + j) row col) bits in
    ap (λ (z : Slices). z.bit (k * w + j) row col) e
    ∙ rw old (shape (placed s2.columns (k * w + j) col) (selected (subs_of w (moved step)) (k * w + j)) (moved step j) (eqb row step.out) (s2.tag (k * w + j) col)
    (any_match keys (λ r. element w k col s r (source step j))) step.bit (s.bit (k * w + j) row col)
    (rw cols (place_true s.columns (k * w + j) col (omega arith) c))
    (selected-of w (moved step) k j h q)
    (λ m.
    let fit = moved_fits w step j f m in
    let c1 : col < s1.columns = rw cols1 c in
    let src : k * w + source step j < 32 = omega (arith, fit.0) in
    let same : (λ (r : ℕ). s.bit (k * w + source step j) r col) ≡ (λ (r : ℕ). element w k col s r (source step j)) =
    λ i r. sym (element-inside w k col s r (source step j) fit.0) i in
    passed-tag step.up step.times k w j col s1 q h c1 fit.0 fit.2
    ∙ (fresh-tag (subs_of w step.at) keys s (k * w + source step j) col (table-count step.inputs t ts step.out)
    (place_true s.columns (k * w + source step j) col src c)
    (selected-of w step.at k (source step j) fit.0 q ∙ source_in w step j m)
    ∙ ap (λ (g : ℕ → Bool). any_match keys g) same)))

none_whole : (x : Bool) → x ≡ true → x ≡ false → ⊥
none_whole true p q = cc
none_whole false p q = cc

-- a step that does not move reads where it writes
still_source : (step : Step) (j : ℕ) → step.times ≡ 0 → source step j ≡ j
still_source step j none = rw none (by step.up)
  where
    by : (up : Bool) → cond up (j - 0) (j + 0) ≡ j
    by true = omega arith
    by false = omega arith

-- the same, by its values
pub micro-bit : (w k col : ℕ) (step : Step) (t : ℕ) (ts : List ℕ) (s : Slices) → step.on ≡ t ∷ ts → Fits w step → k * w + w ≤ 32 → col < s.columns → (row j : ℕ) → j < w
    → (replay (micro_from w step (t ∷ ts)) s).bit (k * w + j) row col
    ≡ cond (eqb row step.out && moved step j && fires step.inputs (t ∷ ts) (λ r. element w k col s r (source step j))) step.bit (s.bit (k * w + j) row col)
micro-bit w k col step t ts s on f q c row j h =
    keys-bit w k col step t ts s f q c row j h
    ∙ table-writes step.inputs (t ∷ ts) step.out row (moved step j) step.bit (s.bit (k * w + j) row col) (λ r. element w k col s r (source step j))
    (λ torn. ⊎_elim
    (λ (whole : has_whole step.inputs step.on ≡ true). absurd (none_whole (has_whole step.inputs (t ∷ ts)) (rw on at whole) torn))
    (λ (still : (step.bit ≡ true) × (step.times ≡ 0)).
    (still.0, λ same. rw (← same) (ap (element w k col s row) (still_source step j still.1) ∙ element-inside w k col s row j h)))
    f.folds)

none_fires : (a : Bool) (b o : Bool) → cond (a && false) b o ≡ o
none_fires true b o = refl
none_fires false b o = refl

-- no output lies past the element
moved-outside : (w : ℕ) (step : Step) (j : ℕ) → Fits w step → w ≤ j → moved step j ≡ false
moved-outside w step j f h =
    ⊎_elim (λ (m : moved step j ≡ true). absurd (omega (arith, (moved_fits w step j f m).1))) (λ (m : moved step j ≡ false). m) (cases_Bool (moved step j))

stays : (a m b o f : Bool) → m ≡ false → cond (a && m && f) b o ≡ o
stays true m b o f h = rw h refl
stays false m b o f h = refl

-- one step, at one place of an element
micro-place : (w k col : ℕ) (step : Step) (on : List ℕ) (s : Slices) → step.on ≡ on → Fits w step → k * w + w ≤ 32 → col < s.columns → (row j : ℕ)
    → element w k col (replay (micro_from w step on) s) row j
    ≡ cond (eqb row step.out && moved step j && fires step.inputs on (λ r. element w k col s r (source step j))) step.bit (element w k col s row j)
unfolding replay
micro-place w k col step [] s is f q c row j = sym (none_fires (eqb row step.out && moved step j) step.bit (element w k col s row j))
micro-place w k col step (t ∷ ts) s is f q c row j =
    ⊎_elim
    (λ (h : j < w).
    element-inside w k col (replay (micro_from w step (t ∷ ts)) s) row j h
    ∙ micro-bit w k col step t ts s is f q c row j h
    ∙ rw (element-inside w k col s row j h) refl)
    (λ (h : w ≤ j).
    element-outside w k col (replay (micro_from w step (t ∷ ts)) s) row j h
    ∙ sym (stays (eqb row step.out) (moved step j) step.bit (element w k col s row j) (fires step.inputs (t ∷ ts) (λ r. element w k col s r (source step j))) (moved-outside w step j f h)
    ∙ element-outside w k col s row j h))
    (cases_lt j w)

-- a step acts on each element by itself
pub micro-element : (w k col : ℕ) (step : Step) (s : Slices) → Fits w step → k * w + w ≤ 32 → col < s.columns
    → element w k col (replay (micro w step) s) ≡ step_on step (element w k col s)
unfolding micro step_on
micro-element w k col step s f q c = λ i row j. micro-place w k col step step.on s refl f q c row j i

-- a replay leaves the columns
pub replay-columns : (ops : List MicroOp) (s : Slices) → (replay ops s).columns ≡ s.columns
unfolding replay
replay-columns [] s = refl
replay-columns (Search subs keys join ∷ ops) s = replay-columns ops (searched subs keys join s)
replay-columns (Update subs row bit ∷ ops) s = replay-columns ops (updated subs row bit s)
replay-columns (Pass up times ∷ ops) s = replay-columns ops (passed up times s)
replay-columns (Window row width first from to masked ∷ ops) s = replay-columns ops (windowed row width first from to masked s)
replay-columns (Free row width first from to masked tail off ∷ ops) s = replay-columns ops (freed row width first from to masked tail off s)
replay-columns (PackMask from under to width first ∷ ops) s = replay-columns ops (packed from under to width first s)
replay-columns (UpdateBy row width ∷ ops) s = replay-columns ops (updated_by row width s)
replay-columns (Spread from to narrow wide part ∷ ops) s = replay-columns ops (widened from to narrow wide part s)
replay-columns (Narrow from to wide part ∷ ops) s = replay-columns ops (narrowed from to wide part s)
replay-columns (Slide to base width first up by limit ∷ ops) s = replay-columns ops (slid to base width first up by limit s)
replay-columns (Pick to base width index limit ∷ ops) s = replay-columns ops (picked to base width index limit s)
replay-columns (Index to width first ∷ ops) s = replay-columns ops (indexed to width first s)
replay-columns (SetNum num ∷ ops) s = replay-columns ops (with_num num s)
replay-columns (Count subs bit how ∷ ops) s = replay-columns ops (counted subs bit how s)
replay-columns (First ∷ ops) s = replay-columns ops (first_found s)
replay-columns (Below to how ∷ ops) s = replay-columns ops (marked_below to how s)

cond_same : (b x : Bool) → cond b x x ≡ x
cond_same true x = refl
cond_same false x = refl

-- a replay leaves what lies outside the chain
pub replay-outside : (ops : List MicroOp) (s : Slices) (sub row col : ℕ) → placed s.columns sub col ≡ false → (replay ops s).bit sub row col ≡ s.bit sub row col
unfolding replay
replay-outside [] s sub row col out = refl
replay-outside (Search subs keys join ∷ ops) s sub row col out = replay-outside ops (searched subs keys join s) sub row col out
replay-outside (Update subs to bit ∷ ops) s sub row col out = replay-outside ops (updated subs to bit s) sub row col out ∙ rw out refl
replay-outside (Pass up times ∷ ops) s sub row col out = replay-outside ops (passed up times s) sub row col out
replay-outside (Window to width first from below masked ∷ ops) s sub row col out =
    replay-outside ops (windowed to width first from below masked s) sub row col out ∙ rw out (cond_same (eqb row to) (s.bit sub row col))
replay-outside (Free to width first from below masked tail off ∷ ops) s sub row col out =
    replay-outside ops (freed to width first from below masked tail off s) sub row col out ∙ rw out (cond_same (eqb row to) (s.bit sub row col))
replay-outside (PackMask from under to width first ∷ ops) s sub row col out =
    replay-outside ops (packed from under to width first s) sub row col out ∙ rw out (cond_same (eqb row to) (s.bit sub row col))
replay-outside (UpdateBy to width ∷ ops) s sub row col out = replay-outside ops (updated_by to width s) sub row col out ∙ rw out refl
replay-outside (Spread from to narrow wide part ∷ ops) s sub row col out =
    replay-outside ops (widened from to narrow wide part s) sub row col out ∙ rw out (cond_same (eqb row to) (s.bit sub row col))
replay-outside (Narrow from to wide part ∷ ops) s sub row col out =
    replay-outside ops (narrowed from to wide part s) sub row col out ∙ rw out (cond_same (eqb row to) (s.bit sub row col))
replay-outside (Slide to base width first up by limit ∷ ops) s sub row col out =
    replay-outside ops (slid to base width first up by limit s) sub row col out ∙ rw out (cond_same (eqb row to) (s.bit sub row col))
replay-outside (Pick to base width index limit ∷ ops) s sub row col out =
    replay-outside ops (picked to base width index limit s) sub row col out ∙ rw out (cond_same (eqb row to) (s.bit sub row col))
replay-outside (Index to width first ∷ ops) s sub row col out =
    replay-outside ops (indexed to width first s) sub row col out ∙ rw out (cond_same (eqb row to) (s.bit sub row col))
replay-outside (SetNum num ∷ ops) s sub row col out = replay-outside ops (with_num num s) sub row col out
replay-outside (Count subs bit how ∷ ops) s sub row col out = replay-outside ops (counted subs bit how s) sub row col out
replay-outside (First ∷ ops) s sub row col out = replay-outside ops (first_found s) sub row col out
replay-outside (Below to how ∷ ops) s sub row col out =
    replay-outside ops (marked_below to how s) sub row col out ∙ rw out (cond_same (eqb row to) (s.bit sub row col))

-- a list of steps acts on each element by itself
pub micros-element : (w k col : ℕ) (steps : List Step) (s : Slices) → AllFit w steps → k * w + w ≤ 32 → col < s.columns
    → element w k col (replay (micros w steps) s) ≡ steps_on steps (element w k col s)
unfolding micros steps_on replay
micros-element w k col [] s f q c = refl
micros-element w k col (step ∷ steps) s f q c =
    let c1 : col < (replay (micro w step) s).columns = rw (replay-columns (micro w step) s) c in
    ap (element w k col) (replay-append (micro w step) (micros w steps) s)
    ∙ micros-element w k col steps (replay (micro w step) s) f.1 q c1
    ∙ ap (steps_on steps) (micro-element w k col step s f.0 q c)
