-- One field after the other.
use Rattle.std.proofs.Common.{◌≡◌, ℕ, suc, ◌+◌, ◌-◌, ◌*◌, ◌%◌, ◌^◌, ◌<◌, ◌≤◌, List, None, refl, ◌∙◌, arith}
use Rattle.std.proofs.Math.Nat.{mul-le-mul_right}
use Rattle.element_ops.specs.Elements.{with_element}
use Rattle.bit_rows.specs.Slices.{Slices}
use Rattle.guest_mem.specs.Pages.{Pages, first_bad}
use Rattle.guest_mem.proofs.Ranges.{first_bad-append_none}
use Rattle.vec_mem.specs.Steps.{fields_written}
use Rattle.cam_chain.specs.Views.{KeepsRest}

-- what is kept twice is kept
pub keeps-twice : (s t u : Slices) → KeepsRest s t → KeepsRest t u → KeepsRest s u
keeps-twice s t u a b = record {
  columns = b.columns ∙ a.columns;
  tags = λ sub col. b.tags sub col ∙ a.tags sub col;
  num = b.num ∙ a.num;
  rows = λ sub row col above. b.rows sub row col above ∙ a.rows sub row col above;
}

pub keeps-all : (s : Slices) → KeepsRest s s
keeps-all s = record { columns = refl; tags = λ sub col. refl; num = refl; rows = λ sub row col above. refl }

pub none-written : (size : ℕ) (v : List (List ℕ)) (r w per e : ℕ) (value : ℕ → ℕ) → fields_written size v r w per e value 0 ≡ v
unfolding fields_written
none-written size v r w per e value = refl

pub more-written : (m n : ℕ) (v u t : List (List ℕ)) (r w per e f z : ℕ) (value : ℕ → ℕ) → m ≡ n → u ≡ fields_written (4 * n) v r w per e value f → z ≡ value f
    → t ≡ with_element (4 * m) u r w (f * per + e) z → t ≡ fields_written (4 * n) v r w per e value (f + 1)
unfolding fields_written
more-written m n v u t r w per e f z value same before number now =
    let more : f + 1 ≡ suc f = omega arith in
    rw more (now ∙ rw (before, number, same) refl)

-- the slot of a field lies among those of all fields
pub slot-room : (fields per size room f e : ℕ) → fields * per * size ≤ room → f < fields → e < per → (f * per + e + 1) * size ≤ room
slot-room fields per size room f e all inside within =
    let more : suc f * per ≤ fields * per = mul-le-mul_right per inside in
    let less : f * per + e + 1 ≤ fields * per = omega arith in
    let scaled : (f * per + e + 1) * size ≤ fields * per * size = mul-le-mul_right size less in
    omega arith

-- a part of a range that may be read
pub part-none : (pages : Pages) (need a size fields f : ℕ) → a < 2 ^ 32 → first_bad pages need a (fields * size) ≡ None → f < fields
    → first_bad pages need ((a + f * size) % 2 ^ 32) size ≡ None
part-none pages need a size fields f fits none inside =
    let more : suc f * size ≤ fields * size = mul-le-mul_right size inside in
    let rest = fields * size - f * size - size in
    let whole : fields * size ≡ f * size + (size + rest) = omega arith in
    let after = ((first_bad-append_none pages need a (f * size) (size + rest) fits).0 (rw whole at none)).1 in
    let start : (a + f * size) % 2 ^ 32 < 2 ^ 32 = omega arith in
    ((first_bad-append_none pages need ((a + f * size) % 2 ^ 32) size rest start).0 after).0

pub slot-small : (fields per f e : ℕ) → fields * per < 2 ^ 20 → f < fields → e < per → f * per + e < 2 ^ 20
slot-small fields per f e small inside within =
    let more : suc f * per ≤ fields * per = mul-le-mul_right per inside in
    omega arith
