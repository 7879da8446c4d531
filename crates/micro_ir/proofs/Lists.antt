-- Lists of operations, joined or one operation longer.
use Rattle.std.proofs.Common.{◌≡◌, ℕ, ◌+◌, ◌*◌, ◌<◌, ◌≤◌, Bool, true, false, ◌||◌, List, [], ◌∷◌, ◌++◌, zero, suc, length, get_or, take, refl, sym, ◌∙◌, ap, arith, add_assoc, zero-add, add-zero}
use Rattle.std.proofs.lemmas.Bool.{and_parts}
use Rattle.std.proofs.lemmas.List.{take_more}
use Rattle.bit_rows.specs.Slices.{Slices}
use Rattle.cam_chain.specs.ChainValue.{no_counts}
use Rattle.cam_chain.specs.declared.counts.Counts.{Counts}
use Rattle.micro_ir.specs.declared.op.MicroOp.{MicroOp}
use Rattle.micro_ir.specs.declared.op.MicroOp.TheVariants.{Search, Update, Pass, Window, Free, PackMask, UpdateBy, Spread, Narrow, Slide, Pick, Index, SetNum, Count, First, Below}
use Rattle.micro_ir.specs.Replay.{effect, replay, finds_clipped, clips, keeps_control, all_keep_control, IsInRange, AllInRange, counts_in, counts_and, tally}

-- the replay of two lists, one after the other
pub replay-append : (xs ys : List MicroOp) (s : Slices) → replay (xs ++ ys) s ≡ replay ys (replay xs s)
unfolding replay
replay-append [] ys s = refl
replay-append (x ∷ xs) ys s = replay-append xs ys (effect x s)

pub replay-one : (op : MicroOp) (s : Slices) → replay (op ∷ []) s ≡ effect op s
unfolding replay
replay-one op s = refl

-- the replay of one operation more
pub replay_more : (ops : List MicroOp) (i : ℕ) (op : MicroOp) (s : Slices) → i < length ops → op ≡ get_or ops i op → replay (take (i + 1) ops) s ≡ effect op (replay (take i ops) s)
replay_more ops i op s h e = rw (take_more ops i op h, ← e) (replay-append (take i ops) (op ∷ []) s ∙ replay-one op (replay (take i ops) s))

pub or_assoc : (a b c : Bool) → ((a || b) || c) ≡ (a || (b || c))
or_assoc true b c = refl
or_assoc false b c = refl

-- whether two lists find a clipped element, one after the other
pub clips-append : (xs ys : List MicroOp) (s : Slices) → clips (xs ++ ys) s ≡ clips xs s || clips ys (replay xs s)
unfolding clips replay
clips-append [] ys s = refl
clips-append (x ∷ xs) ys s = ap (λ (b : Bool). finds_clipped x s || b) (clips-append xs ys (effect x s)) ∙ sym (or_assoc (finds_clipped x s) (clips xs (effect x s)) (clips ys (replay xs (effect x s))))

pub or_false : (b : Bool) → (b || false) ≡ b
or_false true = refl
or_false false = refl

pub clips-one : (op : MicroOp) (s : Slices) → clips (op ∷ []) s ≡ finds_clipped op s
unfolding clips
clips-one op s = or_false (finds_clipped op s)

-- one operation more
pub clips_more : (ops : List MicroOp) (i : ℕ) (op : MicroOp) (s : Slices) → i < length ops → op ≡ get_or ops i op
    → clips (take (i + 1) ops) s ≡ clips (take i ops) s || finds_clipped op (replay (take i ops) s)
clips_more ops i op s h e = rw (take_more ops i op h, ← e) (clips-append (take i ops) (op ∷ []) s ∙ rw (clips-one op (replay (take i ops) s)) refl)

-- ---- lists that leave the control numbers

-- two lists, one after the other
pub keep-append : (xs ys : List MicroOp) → all_keep_control xs ≡ true → all_keep_control ys ≡ true → all_keep_control (xs ++ ys) ≡ true
keep-append [] ys p q = q
keep-append (x ∷ xs) ys p q =
    let k = and_parts (keeps_control x) (all_keep_control xs) p in
    rw (k.0, keep-append xs ys k.1 q) refl

-- such an operation finds no clipped element, and leaves the control number
finds-none : (op : MicroOp) (s : Slices) → keeps_control op ≡ true → finds_clipped op s ≡ false
finds-none (Search subs keys join) s keeps = refl
finds-none (Update subs row bit) s keeps = refl
finds-none (Pass up times) s keeps = refl
finds-none (Window row width first from to masked) s keeps = refl
finds-none (Free row width first from to masked tail off) s keeps = refl
finds-none (PackMask from under to width first) s keeps = refl
finds-none (UpdateBy row width) s keeps = refl
finds-none (Spread from to narrow wide part) s keeps = refl
finds-none (Narrow from to wide part) s keeps = refl
finds-none (Slide to base width first up by limit) s keeps = refl
finds-none (Pick to base width index limit) s keeps = refl
finds-none (Index to width first) s keeps = refl
finds-none (SetNum num) s keeps = refl
finds-none (Count subs bit how) s keeps = cc
finds-none First s keeps = refl
finds-none (Below to how) s keeps = refl

effect-num : (op : MicroOp) (s : Slices) → keeps_control op ≡ true → (effect op s).num ≡ s.num
effect-num (Search subs keys join) s keeps = refl
effect-num (Update subs row bit) s keeps = refl
effect-num (Pass up times) s keeps = refl
effect-num (Window row width first from to masked) s keeps = refl
effect-num (Free row width first from to masked tail off) s keeps = refl
effect-num (PackMask from under to width first) s keeps = refl
effect-num (UpdateBy row width) s keeps = refl
effect-num (Spread from to narrow wide part) s keeps = refl
effect-num (Narrow from to wide part) s keeps = refl
effect-num (Slide to base width first up by limit) s keeps = refl
effect-num (Pick to base width index limit) s keeps = refl
effect-num (Index to width first) s keeps = refl
effect-num (SetNum num) s keeps = cc
effect-num (Count subs bit how) s keeps = cc
effect-num First s keeps = cc
effect-num (Below to how) s keeps = refl

-- so does such a list
pub clips-none : (ops : List MicroOp) (s : Slices) → all_keep_control ops ≡ true → clips ops s ≡ false
unfolding clips
clips-none [] s keep = refl
clips-none (op ∷ ops) s keep =
    let k = and_parts (keeps_control op) (all_keep_control ops) keep in
    rw (finds-none op s k.0) (clips-none ops (effect op s) k.1)

pub replay-num : (ops : List MicroOp) (s : Slices) → all_keep_control ops ≡ true → (replay ops s).num ≡ s.num
unfolding replay
replay-num [] s keep = refl
replay-num (op ∷ ops) s keep =
    let k = and_parts (keeps_control op) (all_keep_control ops) keep in
    replay-num ops (effect op s) k.1 ∙ effect-num op s k.0

-- counts are added in any grouping
pub counts_and-assoc : (a b c : Counts) → counts_and a (counts_and b c) ≡ counts_and (counts_and a b) c
counts_and-assoc a b c = λ i. record {
  searches = sym (add_assoc a.searches b.searches c.searches) i;
  updates = sym (add_assoc a.updates b.updates c.updates) i;
  passes = sym (add_assoc a.passes b.passes c.passes) i;
}

pub no_counts-and : (a : Counts) → counts_and no_counts a ≡ a
no_counts-and a = λ i. record { searches = zero-add a.searches i; updates = zero-add a.updates i; passes = zero-add a.passes i }

pub counts_and-none : (a : Counts) → counts_and a no_counts ≡ a
counts_and-none a = λ i. record { searches = add-zero a.searches i; updates = add-zero a.updates i; passes = add-zero a.passes i }

pub tally-none : tally [] ≡ no_counts
unfolding tally
tally-none = refl

pub tally-one : (op : MicroOp) → tally (op ∷ []) ≡ counts_in op
unfolding tally
tally-one op = counts_and-none (counts_in op)

-- the tally of two lists, one after the other
pub tally-append : (xs ys : List MicroOp) → tally (xs ++ ys) ≡ counts_and (tally xs) (tally ys)
unfolding tally
tally-append [] ys = sym (no_counts-and (tally ys))
tally-append (x ∷ xs) ys = ap (counts_and (counts_in x)) (tally-append xs ys) ∙ counts_and-assoc (counts_in x) (tally xs) (tally ys)

-- the tally of one operation more
pub tally_more : (ops : List MicroOp) (i : ℕ) (op : MicroOp) → i < length ops → op ≡ get_or ops i op → tally (take (i + 1) ops) ≡ counts_and (tally (take i ops)) (counts_in op)
tally_more ops i op h e = rw (take_more ops i op h, ← e) (tally-append (take i ops) (op ∷ []) ∙ rw (tally-one op) refl)

pub AllInRange-none : (columns : ℕ) → AllInRange columns []
unfolding AllInRange
AllInRange-none columns = tt

pub AllInRange-one : (columns : ℕ) (op : MicroOp) → IsInRange columns op → AllInRange columns (op ∷ [])
unfolding AllInRange
AllInRange-one columns op h = (h, tt)

-- a chain can run two lists, one after the other
pub AllInRange-append : (columns : ℕ) (xs ys : List MicroOp) → AllInRange columns xs → AllInRange columns ys → AllInRange columns (xs ++ ys)
unfolding AllInRange
AllInRange-append columns [] ys p q = q
AllInRange-append columns (x ∷ xs) ys p q = (p.0, AllInRange-append columns xs ys p.1 q)

-- an operation of a front that a chain can run
pub IsInRange-at : (columns n : ℕ) (ops : List MicroOp) (i : ℕ) (op : MicroOp) → AllInRange columns (take n ops) → i < n → i < length ops → op ≡ get_or ops i op → IsInRange columns op
unfolding AllInRange
IsInRange-at columns zero ops i op p h l e = absurd (omega arith)
IsInRange-at columns (suc n) [] i op p h l e = absurd (omega arith)
IsInRange-at columns (suc n) (x ∷ xs) zero op p h l e = rw e p.0
IsInRange-at columns (suc n) (x ∷ xs) (suc i) op p h l e = IsInRange-at columns n xs i op p.1 (omega arith) (omega arith) e

-- Counts of so many operations: each makes one search or one update at most, and 31 passes at most.
pub record Few (n : ℕ) (k : Counts) : Type 0 where
  pub searches : k.searches ≤ n
  pub updates : k.updates ≤ n
  pub passes : k.passes ≤ 31 * n

-- an operation that a chain can run counts little
pub few-one : (columns : ℕ) (op : MicroOp) → IsInRange columns op → Few 1 (counts_in op)
few-one columns (Search subs keys join) range = record { searches = omega arith; updates = omega arith; passes = omega arith }
few-one columns (Update subs row bit) range = record { searches = omega arith; updates = omega arith; passes = omega arith }
few-one columns (Pass up times) range = record { searches = omega arith; updates = omega arith; passes = range.1 }
few-one columns (Window row width first from to masked) range = record { searches = omega arith; updates = omega arith; passes = omega arith }
few-one columns (Free row width first from to masked tail off) range = record { searches = omega arith; updates = omega arith; passes = omega arith }
few-one columns (PackMask from under to width first) range = record { searches = omega arith; updates = omega arith; passes = omega arith }
few-one columns (UpdateBy row width) range = record { searches = omega arith; updates = omega arith; passes = omega arith }
few-one columns (Spread from to narrow wide part) range = record { searches = omega arith; updates = omega arith; passes = omega arith }
few-one columns (Narrow from to wide part) range = record { searches = omega arith; updates = omega arith; passes = omega arith }
few-one columns (Slide to base width first up by limit) range = record { searches = omega arith; updates = omega arith; passes = omega arith }
few-one columns (Pick to base width index limit) range = record { searches = omega arith; updates = omega arith; passes = omega arith }
few-one columns (Index to width first) range = record { searches = omega arith; updates = omega arith; passes = omega arith }
few-one columns (SetNum num) range = record { searches = omega arith; updates = omega arith; passes = omega arith }
few-one columns (Count subs bit how) range = record { searches = omega arith; updates = omega arith; passes = omega arith }
few-one columns First range = record { searches = omega arith; updates = omega arith; passes = omega arith }
few-one columns (Below to how) range = record { searches = omega arith; updates = omega arith; passes = omega arith }

-- a list of such operations
pub tally-few : (columns : ℕ) (ops : List MicroOp) → AllInRange columns ops → Few (length ops) (tally ops)
unfolding tally AllInRange
tally-few columns [] range = record { searches = omega arith; updates = omega arith; passes = omega arith }
tally-few columns (op ∷ ops) range =
    let one = few-one columns op range.0 in
    let rest = tally-few columns ops range.1 in
    record { searches = omega (arith, one.searches, rest.searches); updates = omega (arith, one.updates, rest.updates); passes = omega (arith, one.passes, rest.passes) }
