-- Lists that make values in a work row realise a register with a commit of the row; and what an element of a group depends on.
use Rattle.std.proofs.Common.{◌≡◌, ◌≢◌, ℕ, ◌+◌, ◌*◌, ◌/◌, ◌%◌, ◌<◌, ◌≤◌, Bool, cond, ◌++◌, refl, sym, ◌∙◌, ap, arith, ⊎_elim}
use Rattle.std.proofs.lemmas.Bool.{cases_lt}
use Rattle.std.proofs.lemmas.Nat.{le-div}
use Rattle.std.proofs.Math.Nat.{mod-lt, mul-le-mul_right, div-mul-le_self}
use Rattle.bit_laws.proofs.Numbers.{number-same}
use Rattle.element_ops.specs.Elements.{element_in}
use Rattle.micro_ir.specs.Replay.{replay}
use Rattle.micro_ir.specs.Steps.{micros, element, steps_on}
use Rattle.micro_ir.specs.Pieces.{commit}
use Rattle.micro_ir.specs.WorkRows.{active_row}
use Rattle.micro_ir.proofs.Lists.{replay-append}
use Rattle.micro_ir.proofs.Lift.{replay-columns, micros-element}
use Rattle.micro_ir.proofs.OneElement.{commit-here, commit-row, commit-fits}
use Rattle.frame_laws.specs.Realising.{Realised}
use Rattle.frame_laws.specs.Preparing.{Prepared, PreparedLaw, AgreeingLaw}

pub prepared_law : PreparedLaw
unfolding Realised Prepared
prepared_law i b g row body pos to_row high prepared s vl splatted windowed k col fits inside =
    let w = i.width in
    let to = i.vd + g in
    let t = replay body s in
    let p = prepared s vl splatted windowed k col fits inside in
    let apart : row ≢ to = omega arith in
    let passive : to ≢ 32 = omega arith in
    let high_row : row ≢ 32 = omega arith in
    let l : col < t.columns = rw (replay-columns body s) inside in
    let now : element w k col (replay (body ++ micros w (commit w row to)) s) ≡ steps_on (commit w row to) (element w k col t) =
    ap (element w k col) (replay-append body (micros w (commit w row to)) s)
    ∙ micros-element w k col (commit w row to) t (commit-fits w row to high_row) fits l in
    let here : (j : ℕ) → j < w → element w k col (replay (body ++ micros w (commit w row to)) s) to j ≡ cond (element w k col s active_row j) (element w k col t row j) (element w k col s to j) =
    λ j h. ap (λ (f : ℕ → ℕ → Bool). f to j) now ∙ commit-here w row to (element w k col t) j apart passive h
    ∙ rw (p.kept 32 j (omega arith) h, p.kept to j (omega arith) h) refl in
    record {
      active = λ on c mask.
          number-same w _ (element w k col t row) (λ j h. here j h ∙ rw (on j h) refl)
          ∙ p.value (sym (windowed.active k col 0 fits inside pos) ∙ on 0 pos) c;
      idle = λ off j h. here j h ∙ rw (off j h) refl;
      kept = λ r j small other h.
          ap (λ (f : ℕ → ℕ → Bool). f r j) now ∙ commit-row w row to (element w k col t) r j other ∙ p.kept r j small h;
    }

pub agreeing_law : AgreeingLaw
unfolding element_in
agreeing_law vlen w base e low high u v some from to same =
    number-same w _ _ (λ j l.
    let x = e * w + j in
    let d : low ≤ x / vlen = le-div low x vlen some (omega arith) in
    let t : x / vlen < high = ⊎_elim (λ (a : x / vlen < high). a) (λ (a : high ≤ x / vlen). let m : high * vlen ≤ x / vlen * vlen = mul-le-mul_right vlen a in absurd (omega (arith, div-mul-le_self x vlen))) (cases_lt (x / vlen) high) in
    same (base + x / vlen) (x % vlen) (omega arith) (omega arith) (mod-lt x some))
