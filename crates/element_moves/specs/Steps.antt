-- What the code does to one element of a destination, or to its tail, and what it needs of legality for it.
use Rattle.std.specs.Prelude.{◌≡◌, ℕ, ◌+◌, ◌-◌, ◌*◌, ◌/◌, ◌^◌, ◌<◌, ◌≤◌, Bool, false, cond, ◌&&◌, ◌||◌, ◌⊎◌, List}
use lib.Dec.{ltb}
use Rattle.element_ops.specs.Elements.{IsSize, element_of, mask_bit_of, with_element, with_elements}
use Rattle.rvv_decode.specs.declared.instruction.OpiOp.{OpiOp}
use Rattle.rvv_decode.specs.declared.instruction.OpiOp.TheVariants.{Vrgatherei16}
use Rattle.rvv_decode.specs.declared.instruction.VInstr.{VInstr}
use Rattle.vtype_cfg.specs.declared.configuration.Cfg.{Cfg}
use Rattle.vtype_cfg.specs.Classes.{group, count_at}
use Rattle.rvv_meaning.specs.Elementwise.{size_of, is_ones}

-- how many registers the destination takes, how many bytes an element has, and how many elements these registers hold
abbrev pub registers : Cfg → ℕ
registers c = count_at c.vtype (group c.vtype.sew)

abbrev pub element_size : Cfg → ℕ
element_size c = c.vtype.sew / 8

abbrev pub group_elements : Cfg → ℕ
group_elements c = registers c * (c.vlen / c.vtype.sew)

-- how many bytes an index of a gather has
abbrev pub index_size : OpiOp → Cfg → ℕ
index_size Vrgatherei16 c = 2
index_size op c = element_size c

-- ---- writing

-- whether the mask leaves an element in
abbrev pub is_left_in : VInstr → List (List ℕ) → ℕ → Bool
is_left_in i u e = i.vm || mask_bit_of u 0 e

-- whether the elements of the tail become all ones
abbrev pub fills_tail : Cfg → Bool
fills_tail c = is_ones c.policy && (ltb c.vstart c.vl && c.vtype.vta)

module _ (i : VInstr) (c : Cfg) (u : List (List ℕ)) where
  -- the registers with an element of the destination written
  abbrev pub put : (e z : ℕ) → List (List ℕ)
  put e z = with_element (size_of c) u i.vd c.vtype.sew e z

  -- all ones
  abbrev pub ones : ℕ
  ones = 2 ^ c.vtype.sew - 1

  -- the registers after an element was computed, or was masked off
  unfoldable pub element_written : (e z : ℕ) → List (List ℕ)
  element_written e z = cond (is_left_in i u e) (put e z) (cond (is_ones c.policy && c.vtype.vma) (put e ones) u)

  -- the registers whose elements of the destination are all ones from one on
  unfoldable pub ones_from : (from : ℕ) → List (List ℕ)
  ones_from from =
      with_elements (size_of c) u i.vd (registers c) c.vtype.sew (λ e. cond (ltb e from) (element_of (size_of c) u i.vd c.vtype.sew e) ones)

  -- the registers after the tail from an element on was filled, or stayed
  unfoldable pub tail_written : (from : ℕ) → List (List ℕ)
  tail_written from = cond (fills_tail c) (ones_from from) u

  -- the registers after element e of vs2 came to a place, where its bit of vs1 is 1
  unfoldable pub taken : (e to : ℕ) → List (List ℕ)
  taken e to = cond (mask_bit_of u i.vs1 e) (put to (element_of (size_of c) u i.vs2 c.vtype.sew e)) u

-- ---- what legality says

-- the destination lies within the registers, and apart from v0 where the mask is read
pub record Fits (i : VInstr) (c : Cfg) : Type 0 where
  pub size : IsSize (element_size c)
  pub whole : 8 * element_size c ≡ c.vtype.sew
  pub room : i.vd + registers c ≤ 32
  pub some : 0 < registers c
  pub length : c.vl ≤ group_elements c
  pub short : c.vl ≤ 8 * size_of c
  pub fills : registers c * size_of c ≡ group_elements c * element_size c
  pub wide : 32 ≤ c.vlen
  pub vlen : c.vlen ≤ 2 ^ 16
  pub spares_mask : i.vm ≡ false → 0 < i.vd

-- The m registers from `first` on end with v31 at the latest, and none of the n registers from vd on is among them.
pub record IsApart (n vd m first : ℕ) : Type 0 where
  pub room : first + m ≤ 32
  pub apart : (first + m ≤ vd) ⊎ (vd + n ≤ first)

-- so many elements of w bits lie in the registers from `first` on, and apart from the destination
pub record Reads (i : VInstr) (c : Cfg) (w first count : ℕ) : Type 0 where
  pub register : first < 32
  pub taken : ℕ
  pub apart : IsApart (registers c) i.vd taken first
  pub size : IsSize (w / 8)
  pub whole : 8 * (w / 8) ≡ w
  pub inside : count * (w / 8) ≤ taken * size_of c

-- the bits of a register lie apart from the destination
abbrev pub ReadsBits : VInstr → Cfg → (first : ℕ) → Type 0
ReadsBits i c first = IsApart (registers c) i.vd 1 first
