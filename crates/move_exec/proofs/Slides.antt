-- Slides and gathers of one element: that their lists compute the registers of a group.
use Rattle.std.proofs.Common.{◌≡◌, ℕ, ◌+◌, ◌-◌, ◌*◌, ◌/◌, ◌<◌, ◌≤◌, max, Bool, true, false, cond, not, ◌&&◌, ◌||◌, ltb, leb, refl, ◌∙◌, ap, arith, ◌⊎◌}
use Rattle.std.proofs.lemmas.Bool.{and_parts, ltb-true, leb-true, lt-ltb, le-leb}
use Rattle.std.proofs.lemmas.Nat.{div-mul-add}
use Rattle.std.proofs.Math.Nat.{mul-le-mul_right}
use Rattle.bit_rows.specs.Slices.{Slices}
use Rattle.cam_chain.specs.Views.{registers_of}
use Rattle.element_ops.specs.Elements.{Registers, element_in, element_of, bits_of}
use Rattle.frame_laws.specs.Shapes.{Bounded}
use Rattle.frame_laws.specs.Laws.{SameAt, Legal, AllRealised}
use Rattle.frame_laws.specs.Classes.Operands.{group}
use Rattle.frame_laws.proofs.Classes.Operands.{same-here}
use Rattle.frame_laws.proofs.Spans.{bounds_law}
use Rattle.frame_meaning.proofs.OperandWidths.{width-of}
use Rattle.gen_perm.specs.Lists.{move_ops}
use Rattle.gen_perm.specs.Laws.{MovesAll}
use Rattle.gen_perm.specs.Moves.{IsMove, moved_number, slide_result, pick_result}
use Rattle.gen_perm.proofs.Moving.{moves-all, realises-move, move-measured}
use Rattle.micro_ir.specs.declared.op.MicroOp.{MicroOp}
use Rattle.micro_ir.specs.declared.op.MicroOp.TheVariants.{Slide, Pick}
use Rattle.micro_ir.specs.Replay.{IsInRange, AllInRange}
use Rattle.micro_ir.specs.WorkRows.{result_row}
use Rattle.steer_net.specs.Network.{is_within}
use Rattle.steer_net.specs.Moves.{GroupReaches}
use Rattle.rvv_decode.specs.declared.instruction.VInstr.{VInstr}
use Rattle.vtype_cfg.specs.declared.configuration.Cfg.{Cfg}
use Rattle.vtype_cfg.specs.Settings.{vlmax}
use Rattle.move_exec.specs.declared.bodies.Body.TheVariants.{Slid, Picked}
use Rattle.move_exec.specs.declared.frames.Frame.{Frame}
use Rattle.move_exec.specs.Bodies.{body_list}
use Rattle.move_exec.specs.Frames.{frame_bounds}
use Rattle.move_exec.specs.Written.{Sits, group_registers, group_frame, offset_frame}
use Rattle.move_exec.proofs.Sized.{sized_shape, sized-framed}
use Rattle.move_exec.proofs.Sources.{IsApart, group_source, apart-unwritten, ahead-unwritten, element-agrees, up-agrees, down-agrees, pick-agrees}
use Rattle.move_exec.proofs.Standing.{Grouped}

-- ---- lists of moves

-- the lists of a frame's registers realise these, where each operation leaves the results of its active elements
pub all-moved : (f : Frame) (c : Cfg) (takes : Bool) (x : ℕ) (result : Registers → ℕ → Bool → ℕ) (op : ℕ → MicroOp) → Sits f → ((q : ℕ) → IsMove f.width (op q))
    → ((q : ℕ) (v : Registers) (p : ℕ) (m : Bool) → is_within f.from f.len f.masked (v 0) (q * (c.vlen / f.width) + p) ≡ true → result v (q * (c.vlen / f.width) + p) m ≡ moved_number (op q) c.vlen v p)
    → AllRealised (sized_shape f c takes x result) (frame_bounds f) (λ q. move_ops f.width (op q) (f.vd + q))
all-moved f c takes x result op sits is results q below =
    let w = f.width in
    let a = width-of w sits.wide in
    let least = a.least in
    let room = sits.room in
    let pos : 0 < w = omega arith in
    let to : f.vd + q < 32 = omega arith in
    let all : MovesAll (op q) w (f.vd + q) (move_ops w (op q) (f.vd + q)) = moves-all (op q) w (f.vd + q) pos a.lanes to (is q) in
    realises-move (op q) w (f.vd + q) (move_ops w (op q) (f.vd + q)) pos all (sized_shape f c takes x result) (frame_bounds f) q refl refl (results q)

-- a chain can run them where it can run the operations
pub all-ranged : (f : Frame) (columns : ℕ) (op : ℕ → MicroOp) → Sits f → ((q : ℕ) → IsMove f.width (op q)) → ((q : ℕ) → IsInRange columns (op q))
    → (q : ℕ) → q < f.registers → AllInRange columns (move_ops f.width (op q) (f.vd + q))
all-ranged f columns op sits is ranged q below =
    let a = width-of f.width sits.wide in
    let least = a.least in
    let room = sits.room in
    (move-measured (op q) f.width (f.vd + q) (omega arith) (omega arith) (is q)).range columns (ranged q)

-- the registers of a group that a limit reaches
group-reaches : (vlen columns w base n limit : ℕ) → 0 < w → 32 / w * w ≡ 32 → vlen ≡ 32 * columns → base + n ≤ 32 → limit ≤ n * (vlen / w) → GroupReaches columns base w limit
group-reaches vlen columns w base n limit pos lanes long room most =
    let k = 32 / w in
    let z : vlen ≡ columns * k * w + 0 = long ∙ omega (arith, ap (λ y. columns * y) lanes) in
    let per : vlen / w ≡ columns * k = rw z (div-mul-add (columns * k) w 0 pos) in
    let m : n * (columns * k) ≤ (32 - base) * (columns * k) = mul-le-mul_right (columns * k) (omega arith) in
    let l : limit ≤ n * (columns * k) = rw per at most in
    omega (arith, l, m)

-- ---- bounds

-- where a tail is agnostic, vstart is below the length
tail-after : (vstart vl : ℕ) (vta : Bool) → (ltb vstart vl && vta) ≡ true → vl ≡ max vstart vl
tail-after vstart vl vta tail = let l : vstart < vl = ltb-true vstart vl (and_parts (ltb vstart vl) vta tail).0 in omega arith

pub offset-bounded : (i : VInstr) (c : Cfg) (amount : ℕ) (takes : Bool) (x : ℕ) (result : Registers → ℕ → Bool → ℕ)
    → Bounded (sized_shape (offset_frame i c amount) c takes x result) (frame_bounds (offset_frame i c amount))
offset-bounded i c amount takes x result =
    bounds_law (sized_shape (offset_frame i c amount) c takes x result) (frame_bounds (offset_frame i c amount)) (λ l. omega arith) (λ t. tail-after c.vstart c.vl c.vtype.vta t) (λ m. refl)

pub plain-bounded : (i : VInstr) (c : Cfg) (takes : Bool) (x : ℕ) (result : Registers → ℕ → Bool → ℕ) → Bounded (sized_shape (group_frame i c) c takes x result) (frame_bounds (group_frame i c))
plain-bounded i c takes x result =
    bounds_law (sized_shape (group_frame i c) c takes x result) (frame_bounds (group_frame i c)) (λ l. omega arith) (λ t. tail-after c.vstart c.vl c.vtype.vta t) (λ m. refl)

-- an element of a window
record Within (from to e : ℕ) : Type 0 where
  above : from ≤ e
  below : e < to

within-parts : (from to : ℕ) (masked : Bool) (mask : ℕ → Bool) (e : ℕ) → is_within from to masked mask e ≡ true → Within from to e
within-parts from to masked mask e is =
    let p = and_parts (leb from e && ltb e to) (not masked || mask e) is in
    let q = and_parts (leb from e) (ltb e to) p.0 in
    record { above = leb-true from e q.0; below = ltb-true e to q.1 }

-- ---- a group and its source

module _ (i : VInstr) (c : Cfg) (x : ℕ) (g : Grouped i c) where
  abbrev n : ℕ
  n = group_registers c

  abbrev w : ℕ
  w = c.vtype.sew

  abbrev most : ℕ
  most = vlmax c.vtype c.vlen

  -- an element of vs2, in registers that are bits and in those that are bytes
  pub element-here : (s : Slices) (e : ℕ) → c.vlen ≡ 32 * s.columns → element_in c.vlen (bits_of (registers_of s)) i.vs2 w e ≡ element_of (c.vlen / 8) (registers_of s) i.vs2 w e
  element-here s e long =
      let some : 0 < s.columns = (let l = g.some in omega arith) in
      same-here (sized_shape (group_frame i c) c false x (λ v e m. 0)) (group i.vs2) s e tt long some (width-of w g.sits.wide).whole

  -- ---- slides

  -- what the operation leaves, and the registers that it reads
  abbrev pub slid_result : (up : Bool) (by : ℕ) → Registers → ℕ → Bool → ℕ
  slid_result up by v e m = slide_result c.vlen w i.vs2 up by most v e

  abbrev pub slid_source : (up : Bool) → (q r : ℕ) → Bool
  slid_source up q r = group_source i.vs2 n (cond up 0 q) r

  -- up it reads a group that is apart
  abbrev pub FitsDirection : Bool → Type 0
  FitsDirection true = IsApart i.vd i.vs2 n
  FitsDirection false = (i.vs2 ≡ i.vd) ⊎ IsApart i.vd i.vs2 n

  slid-unwritten : (up : Bool) → FitsDirection up → (q r : ℕ) → q < n → slid_source up q r ≡ true → (r < 32) × ((r < i.vd) ⊎ (i.vd + q ≤ r))
  slid-unwritten true fits q r below read = apart-unwritten i.vd i.vs2 n q r g.vs2 fits below read
  slid-unwritten false fits q r below read = ahead-unwritten i.vd i.vs2 n q r g.vs2 fits below read

  slid-reads : (up : Bool) (by : ℕ) → (q : ℕ) (u v : Registers) (p : ℕ) → SameAt (slid_source up q) c.vlen u v
      → slide_result c.vlen w i.vs2 up by most u (q * (c.vlen / w) + p) ≡ slide_result c.vlen w i.vs2 up by most v (q * (c.vlen / w) + p)
  slid-reads true by q u v p same = up-agrees c.vlen w i.vs2 n most g.some g.whole g.most by (q * (c.vlen / w) + p) u v same
  slid-reads false by q u v p same = down-agrees c.vlen w i.vs2 n most g.some g.whole g.most q by p u v same

  pub slid-legal : (takes up : Bool) (by columns : ℕ) → FitsDirection up → c.vlen ≡ 32 * columns → Legal (sized_shape (group_frame i c) c takes x (slid_result up by)) (slid_source up) columns
  slid-legal takes up by columns fits long = record {
    framed = sized-framed (group_frame i c) c takes x columns (slid_result up by) g.sits long;
    sources = λ q r below read. slid-unwritten up fits q r below read;
    reads_only = λ q u v p m below inside less same. slid-reads up by q u v p same;
  }

  pub slid-realised : (takes up : Bool) (by : ℕ) → AllRealised (sized_shape (group_frame i c) c takes x (slid_result up by)) (frame_bounds (group_frame i c)) (body_list (group_frame i c) (Slid i.vs2 up by most) c)
  slid-realised takes up by =
      all-moved (group_frame i c) c takes x (slid_result up by) (λ q. Slide result_row i.vs2 w (q * (c.vlen / w)) up by most) g.sits (λ q. (refl, refl)) (λ q v p m active. refl)

  pub slid-ranged : (f : Frame) (up : Bool) (by columns : ℕ) → Sits f → f.width ≡ w → f.vd ≡ i.vd → c.vlen ≡ 32 * columns → (q : ℕ) → q < f.registers → AllInRange columns (body_list f (Slid i.vs2 up by most) c q)
  slid-ranged f up by columns sits wide vd long =
      let a = width-of w g.sits.wide in
      let least = a.least in
      let reaches : GroupReaches columns i.vs2 w most = group-reaches c.vlen columns w i.vs2 n most (omega arith) a.lanes long g.vs2 g.most in
      all-ranged f columns (λ q. Slide result_row i.vs2 f.width (q * (c.vlen / f.width)) up by most) sits (λ q. (refl, refl)) (λ q. rw wide (omega arith, a.built, reaches))

  -- ---- a slide up, from the offset on

  abbrev pub up_result : (by : ℕ) → Registers → ℕ → Bool → ℕ
  up_result by v e m = element_in c.vlen v i.vs2 w (e - by)

  pub offset-sits : (by : ℕ) → Sits (offset_frame i c by)
  offset-sits by = record { wide = g.sits.wide; few = g.sits.few; room = g.sits.room; spares = g.sits.spares }

  pub up-legal : (by columns : ℕ) → IsApart i.vd i.vs2 n → c.vlen ≡ 32 * columns → Legal (sized_shape (offset_frame i c by) c false x (up_result by)) (slid_source true) columns
  up-legal by columns apart long = record {
    framed = sized-framed (offset_frame i c by) c false x columns (up_result by) (offset-sits by) long;
    sources = λ q r below read. slid-unwritten true apart q r below read;
    reads_only = λ q u v p m below inside less same.
        let vl : c.vl ≤ most = g.vl in
        let e : ℕ = q * (c.vlen / w) + p in
        let l : e < c.vl = less in
        element-agrees c.vlen w i.vs2 n most g.some g.whole g.most 0 (e - by) u v (omega arith) (omega arith) same;
  }

  -- where an element is active, it has one so many places below
  up-active : (by : ℕ) (v : Registers) (e : ℕ) (m : Bool) → is_within (max c.vstart by) c.vl (not i.vm) (v 0) e ≡ true → up_result by v e m ≡ slide_result c.vlen w i.vs2 true by most v e
  up-active by v e m is =
      let x = within-parts (max c.vstart by) c.vl (not i.vm) (v 0) e is in
      let above : max c.vstart by ≤ e = x.above in
      let below : e < c.vl = x.below in
      let vl : c.vl ≤ most = g.vl in
      rw (le-leb by e (omega arith), lt-ltb (e - by) most (omega arith)) refl

  pub up-realised : (by : ℕ) → AllRealised (sized_shape (offset_frame i c by) c false x (up_result by)) (frame_bounds (offset_frame i c by)) (body_list (offset_frame i c by) (Slid i.vs2 true by most) c)
  up-realised by =
      all-moved (offset_frame i c by) c false x (up_result by) (λ q. Slide result_row i.vs2 w (q * (c.vlen / w)) true by most) (offset-sits by) (λ q. (refl, refl))
      (λ q v p m active. up-active by v (q * (c.vlen / w) + p) m active)

  -- ---- a gather of one element

  abbrev pub picked_result : (index : ℕ) → Registers → ℕ → Bool → ℕ
  picked_result index v e m = pick_result c.vlen w i.vs2 index most v

  pub picked-legal : (index columns : ℕ) → IsApart i.vd i.vs2 n → c.vlen ≡ 32 * columns → Legal (sized_shape (group_frame i c) c false x (picked_result index)) (slid_source true) columns
  picked-legal index columns apart long = record {
    framed = sized-framed (group_frame i c) c false x columns (picked_result index) g.sits long;
    sources = λ q r below read. slid-unwritten true apart q r below read;
    reads_only = λ q u v p m below inside less same. pick-agrees c.vlen w i.vs2 n most g.some g.whole g.most index u v same;
  }

  pub picked-realised : (index : ℕ) → AllRealised (sized_shape (group_frame i c) c false x (picked_result index)) (frame_bounds (group_frame i c)) (body_list (group_frame i c) (Picked i.vs2 index most) c)
  picked-realised index = all-moved (group_frame i c) c false x (picked_result index) (λ q. Pick result_row i.vs2 w index most) g.sits (λ q. (refl, refl)) (λ q v p m active. refl)

  pub picked-ranged : (index columns : ℕ) → c.vlen ≡ 32 * columns → (q : ℕ) → q < n → AllInRange columns (body_list (group_frame i c) (Picked i.vs2 index most) c q)
  picked-ranged index columns long =
      let a = width-of w g.sits.wide in
      let least = a.least in
      let reaches : GroupReaches columns i.vs2 w most = group-reaches c.vlen columns w i.vs2 n most (omega arith) a.lanes long g.vs2 g.most in
      all-ranged (group_frame i c) columns (λ q. Pick result_row i.vs2 w index most) g.sits (λ q. (refl, refl)) (λ q. (omega arith, a.built, reaches))
