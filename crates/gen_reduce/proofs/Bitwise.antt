-- Counts that set, clear or flip bits: each bit of the number follows that bit of the elements.
use Rattle.std.proofs.Common.{◌≡◌, ◌≢◌, ℕ, zero, suc, ◌+◌, ◌-◌, ◌*◌, ◌/◌, ◌%◌, ◌^◌, ◌<◌, ◌≤◌, Bool, true, false, cond, ◌&&◌, ◌||◌, eqb, ltb, min, max, List, [], ◌∷◌, refl, sym, ◌∙◌, ap, arith, ⊎_elim}
use mathlib.Core.Bool.{beq}
use Rattle.std.specs.Int.{bit_at, from_bool}
use Rattle.std.proofs.lemmas.Bool.{cases_eq, cases_lt, lt-ltb, le-ltb, eq-eqb, ne_eqb, false≢true}
use Rattle.std.proofs.lemmas.Nat.Bits.{bit_at-lt, bit_at-zero, bit_at_ones, bit_at_or, bit_at_and, bit_at_xor}
use Rattle.std.specs.Prelude.{bit_and, bit_or, bit_xor}
use Rattle.bit_laws.specs.Numbers.{number}
use Rattle.bit_laws.proofs.Numbers.{bit-number}
use Rattle.bit_rows.specs.Slices.{Slices}
use Rattle.cam_chain.specs.Slices.{searched}
use Rattle.fold_laws.specs.Folds.{any, total, fold_chosen}
use Rattle.fold_laws.proofs.Anys.{any-total}
use Rattle.row_counts.proofs.Chosen.{fold-same}
use Rattle.fold_laws.proofs.Totals.{total-same}
use Rattle.reduce_tree.specs.Tags.{tags_in}
use Rattle.reduce_tree.specs.Weights.{bit_put, num_after}
use Rattle.reduce_tree.specs.declared.weights.How.{How}
use Rattle.reduce_tree.specs.declared.weights.How.TheVariants.{Or, Clear, Xor}
use Rattle.steer_net.specs.Moves.{per_row}
use Rattle.micro_ir.specs.Replay.{replay}
use Rattle.micro_ir.specs.WorkRows.{active_row}
use Rattle.micro_ir.proofs.Lift.{replay-columns}
use Rattle.micro_ir.proofs.Lists.{replay-append}
use Rattle.row_views.specs.Lists.{lane, count_bit}
use Rattle.row_views.specs.Views.{view}
use Rattle.row_views.proofs.Tags.{lane-count}
use Rattle.row_counts.specs.declared.counts.Counting.{Counting}
use Rattle.row_counts.specs.Lists.{how_at, count_bits}
use Rattle.row_counts.proofs.Folding.{Follows}
use Rattle.row_counts.proofs.Groups.{Takes}
use Rattle.row_counts.proofs.Rows.{bits-stay, same-view}
use Rattle.row_counts.proofs.Taken.{put-bit}
use Rattle.gen_reduce.specs.Kinds.{counting}

abbrev Bitwise : How → Type 0
Bitwise Or = Unit {0}
Bitwise Clear = Unit {0}
Bitwise Xor = Unit {0}
Bitwise _ = true ≡ false

-- what a bit of an element makes of a bit of the number
abbrev taken : How → (a e : ℕ) → ℕ
taken Or = λ a e. max a e
taken Clear = λ a e. min a e
taken Xor = λ a e. (a + e) % 2
taken _ = λ a e. a

-- which bits of elements are counted
abbrev wanted_of : How → Bool
wanted_of Clear = false
wanted_of _ = true

abbrev bitwise : How → Counting
bitwise how = counting (wanted_of how) how how

-- ---- a count takes bits in turn

put-some : (some : Bool) (m j x b : ℕ) → x < 2 → bit_at (cond some (bit_put m j x) m) b ≡ cond (eqb b j) (cond some x (bit_at m j)) (bit_at m b)
put-some true m j x b small = put-bit m j x b small
put-some false m j x b small = ⊎_elim (λ (e : b ≡ j). rw (e, eq-eqb j j refl) refl) (λ (o : b ≢ j). rw (ne_eqb b j o) refl) (cases_eq b j)

or-fold : (x : ℕ) (active bits : ℕ → Bool) (n : ℕ) → x < 2
    → cond (any n (λ p. active p && beq (bits p) true)) 1 x ≡ fold_chosen (λ a e. max a e) x active (λ p. from_bool (bits p)) n
unfolding any fold_chosen
or-fold x active bits zero small = refl
or-fold x active bits (suc n) small = rw (← or-fold x active bits n small) (each (any n (λ p. active p && beq (bits p) true)) (active n) (bits n) x small)
  where
    each : (some a b : Bool) (x : ℕ) → x < 2 → cond (some || (a && beq b true)) 1 x ≡ cond a (max (cond some 1 x) (from_bool b)) (cond some 1 x)
    each true true true x small = refl
    each true true false x small = refl
    each true false b x small = refl
    each false false b x small = refl
    each false true true zero small = refl
    each false true true (suc zero) small = refl
    each false true true (suc (suc x)) small = absurd (omega arith)
    each false true false zero small = refl
    each false true false (suc zero) small = refl
    each false true false (suc (suc x)) small = absurd (omega arith)

clear-fold : (x : ℕ) (active bits : ℕ → Bool) (n : ℕ) → x < 2
    → cond (any n (λ p. active p && beq (bits p) false)) 0 x ≡ fold_chosen (λ a e. min a e) x active (λ p. from_bool (bits p)) n
unfolding any fold_chosen
clear-fold x active bits zero small = refl
clear-fold x active bits (suc n) small = rw (← clear-fold x active bits n small) (each (any n (λ p. active p && beq (bits p) false)) (active n) (bits n) x small)
  where
    each : (some a b : Bool) (x : ℕ) → x < 2 → cond (some || (a && beq b false)) 0 x ≡ cond a (min (cond some 0 x) (from_bool b)) (cond some 0 x)
    each true true true x small = refl
    each true true false x small = refl
    each true false b x small = refl
    each false false b x small = refl
    each false true true zero small = refl
    each false true true (suc zero) small = refl
    each false true true (suc (suc x)) small = absurd (omega arith)
    each false true false zero small = refl
    each false true false (suc zero) small = refl
    each false true false (suc (suc x)) small = absurd (omega arith)

xor-fold : (x : ℕ) (active bits : ℕ → Bool) (n : ℕ) → x < 2
    → (x + total n (λ p. cond (active p && beq (bits p) true) 1 0)) % 2 ≡ fold_chosen (λ a e. (a + e) % 2) x active (λ p. from_bool (bits p)) n
unfolding total fold_chosen
xor-fold x active bits zero small = omega arith
xor-fold x active bits (suc n) small = rw (← xor-fold x active bits n small) (each (active n) (bits n) x (total n (λ p. cond (active p && beq (bits p) true) 1 0)))
  where
    each : (a b : Bool) (x c : ℕ) → (x + (c + cond (a && beq b true) 1 0)) % 2 ≡ cond a (((x + c) % 2 + from_bool b) % 2) ((x + c) % 2)
    each true true x c = omega arith
    each true false x c = omega arith
    each false b x c = omega arith

count-taken : (how : How) (m j : ℕ) (active bits : ℕ → Bool) (n b : ℕ) → Bitwise how
    → bit_at (num_after how m (total n (λ p. cond (active p && beq (bits p) (wanted_of how)) 1 0)) j) b
    ≡ cond (eqb b j) (fold_chosen (taken how) (bit_at m j) active (λ p. from_bool (bits p)) n) (bit_at m b)
count-taken Or m j active bits n b k =
    let t : ℕ → Bool = λ p. active p && beq (bits p) true in
    put-some (ltb 0 (total n (λ p. cond (t p) 1 0))) m j 1 b (omega arith)
    ∙ ap (λ (x : ℕ). cond (eqb b j) x (bit_at m b)) (ap (λ (some : Bool). cond some 1 (bit_at m j)) (any-total n t) ∙ or-fold (bit_at m j) active bits n (bit_at-lt m j))
count-taken Clear m j active bits n b k =
    let t : ℕ → Bool = λ p. active p && beq (bits p) false in
    put-some (ltb 0 (total n (λ p. cond (t p) 1 0))) m j 0 b (omega arith)
    ∙ ap (λ (x : ℕ). cond (eqb b j) x (bit_at m b)) (ap (λ (some : Bool). cond some 0 (bit_at m j)) (any-total n t) ∙ clear-fold (bit_at m j) active bits n (bit_at-lt m j))
count-taken Xor m j active bits n b k =
    let t : ℕ → Bool = λ p. active p && beq (bits p) true in
    put-bit m j ((bit_at m j + total n (λ p. cond (t p) 1 0)) % 2) b (omega arith)
    ∙ ap (λ (x : ℕ). cond (eqb b j) x (bit_at m b)) (xor-fold (bit_at m j) active bits n (bit_at-lt m j))
count-taken _ m j active bits n b k = absurd (false≢true (sym k))

-- ---- a row

bits-taken : (w row : ℕ) (how : How) (active : ℕ → Bool) (s : Slices) → Bitwise how → 0 < w → 32 / w * w ≡ 32
    → ((p j : ℕ) → p < per_row w s → j < w → view w s p active_row j ≡ active p) → (n b : ℕ) → n ≤ w
    → bit_at (replay (count_bits w row (bitwise how) n) s).num b
    ≡ cond (ltb b n) (fold_chosen (taken how) (bit_at s.num b) active (λ p. from_bool (view w s p row b)) (per_row w s)) (bit_at s.num b)
unfolding count_bits replay
bits-taken w row how active s k pos lanes gate zero b le = rw (le-ltb b 0 (omega arith)) refl
bits-taken w row how active s k pos lanes gate (suc n) b le =
    let want = wanted_of how in
    let before = count_bits w row (bitwise how) n in
    let t : Slices = replay before s in
    let cols : t.columns ≡ s.columns = replay-columns before s in
    let keys : List (ℕ × Bool) = (active_row, true) ∷ (row, want) ∷ [] in
    let ones : ℕ = total (per_row w s) (λ p. cond (active p && beq (view w s p row n) want) 1 0) in
    let folded : ℕ → ℕ = λ b. fold_chosen (taken how) (bit_at s.num b) active (λ p. from_bool (view w s p row b)) (per_row w s) in
    let tags : tags_in (lane w n) (searched (lane w n) keys false t) ≡ ones =
    lane-count w n active_row row want t pos lanes le
    ∙ ap (λ (m : ℕ). total (m * (32 / w)) (λ p. cond (view w t p active_row n && beq (view w t p row n) want) 1 0)) cols
    ∙ total-same (per_row w s) _ (λ p. cond (active p && beq (view w s p row n) want) 1 0) (λ p l.
    rw (same-view w s t p (bits-stay w row (bitwise how) n s), gate p n l (omega arith)) refl) in
    let earlier : (b : ℕ) → bit_at t.num b ≡ cond (ltb b n) (folded b) (bit_at s.num b) = λ b. bits-taken w row how active s k pos lanes gate n b (omega arith) in
    let fresh : bit_at t.num n ≡ bit_at s.num n = earlier n ∙ rw (le-ltb n n (omega arith)) refl in
    ap (λ (z : Slices). bit_at z.num b) (replay-append before (count_bit w active_row row want (how_at (bitwise how) w n) n) s)
    ∙ ap (λ (x : ℕ). bit_at (num_after (how_at (bitwise how) w n) t.num x n) b) tags
    ∙ ap (λ (h : How). bit_at (num_after h t.num ones n) b) (same_how (eqb n (w - 1)) how)
    ∙ count-taken how t.num n active (λ p. view w s p row n) (per_row w s) b k
    ∙ ap (λ (x : ℕ). cond (eqb b n) (fold_chosen (taken how) x active (λ p. from_bool (view w s p row n)) (per_row w s)) (bit_at t.num b)) fresh
    ∙ ap (λ (x : ℕ). cond (eqb b n) (folded n) x) (earlier b)
    ∙ one_more n b folded (bit_at s.num b)
  where
    same_how : (b : Bool) (how : How) → cond b how how ≡ how
    same_how true how = refl
    same_how false how = refl

    one_more : (n b : ℕ) (f : ℕ → ℕ) (x : ℕ) → cond (eqb b n) (f n) (cond (ltb b n) (f b) x) ≡ cond (ltb b (suc n)) (f b) x
    one_more n b f x = ⊎_elim
        (λ (e : b ≡ n). rw (e, eq-eqb n n refl, lt-ltb n (suc n) (omega arith)) refl)
        (λ (o : b ≢ n). rw (ne_eqb b n o) (⊎_elim
        (λ (l : b < n). rw (lt-ltb b n l, lt-ltb b (suc n) (omega arith)) refl)
        (λ (l : n ≤ b). rw (le-ltb b n l, le-ltb b (suc n) (omega arith)) refl)
        (cases_lt b n)))
        (cases_eq b n)

-- a bit as a truth
bit_told : (x : ℕ) → x < 2 → from_bool (eqb x 1) ≡ x
bit_told zero small = refl
bit_told (suc zero) small = refl
bit_told (suc (suc x)) small = absurd (omega arith)

bits-take : (w b : ℕ) (how : How) → Bitwise how → 0 < w → 32 / w * w ≡ 32 → b < w → Takes w (bitwise how) (λ n. bit_at n b) (taken how) (λ e. bit_at e b)
unfolding Takes
bits-take w b how k pos lanes inside row active s few gate =
    let start : ℕ = bit_at s.num b in
    bits-taken w row how active s k pos lanes gate w b (omega arith)
    ∙ rw (lt-ltb b w inside) (fold-same (taken how) start active active (λ p. from_bool (view w s p row b)) (λ p. bit_at (number w (view w s p row)) b) (per_row w s) (λ p a.
    (refl, ap from_bool (sym (bit-number w (view w s p row) b inside)) ∙ bit_told (bit_at (number w (view w s p row)) b) (bit_at-lt (number w (view w s p row)) b))))

-- ---- the three kinds

taken-turn : (how : How) (a e f : ℕ) → taken how (taken how a e) f ≡ taken how (taken how a f) e
taken-turn Or a e f = omega arith
taken-turn Clear a e f = omega arith
taken-turn Xor a e f = omega arith
taken-turn _ a e f = refl

-- Bit b of the control number follows a step whose value has at bit b what the bits there make.
bit-follows : (how : How) (step : (a e : ℕ) → ℕ) (w start b : ℕ) → Bitwise how → 0 < w → 32 / w * w ≡ 32 → b < w
    → ((x : ℕ) → taken how (bit_at start b) (bit_at x b) ≡ bit_at x b) → ((a e : ℕ) → bit_at (step a e) b ≡ taken how (bit_at a b) (bit_at e b))
    → Follows step (λ e. e) w w start (bitwise how) (bitwise how) (λ n. bit_at n b)
bit-follows how step w start b k pos lanes inside begins steps = record {
  take = taken how;
  value = λ e. bit_at e b;
  first_value = λ e. bit_at e b;
  group = bits-take w b how k pos lanes inside;
  first = bits-take w b how k pos lanes inside;
  turn = taken-turn how;
  begins = begins;
  steps = steps;
}

pub or-follows : (w b : ℕ) → 0 < w → 32 / w * w ≡ 32 → b < w → Follows bit_or (λ e. e) w w 0 (counting true Or Or) (counting true Or Or) (λ n. bit_at n b)
or-follows w b pos lanes inside = bit-follows Or bit_or w 0 b tt pos lanes inside (λ x. rw (bit_at-zero b) (omega arith)) (λ a e. bit_at_or a e b)

pub and-follows : (w b : ℕ) → 0 < w → 32 / w * w ≡ 32 → b < w
    → Follows bit_and (λ e. e) w w (2 ^ w - 1) (counting false Clear Clear) (counting false Clear Clear) (λ n. bit_at n b)
and-follows w b pos lanes inside =
    bit-follows Clear bit_and w (2 ^ w - 1) b tt pos lanes inside (λ x. rw (bit_at_ones w b inside) (let l : bit_at x b < 2 = bit_at-lt x b in omega arith)) (λ a e. bit_at_and a e b)

pub xor-follows : (w b : ℕ) → 0 < w → 32 / w * w ≡ 32 → b < w → Follows bit_xor (λ e. e) w w 0 (counting true Xor Xor) (counting true Xor Xor) (λ n. bit_at n b)
xor-follows w b pos lanes inside = bit-follows Xor bit_xor w 0 b tt pos lanes inside (λ x. rw (bit_at-zero b) (let l : bit_at x b < 2 = bit_at-lt x b in omega arith)) (λ a e. bit_at_xor a e b)
