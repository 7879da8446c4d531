-- What lays an operand out: elements of a narrower group in a row of work, extended by their sign or by zeros.
use Rattle.std.proofs.Common.{◌≡◌, ◌≢◌, ℕ, zero, suc, ◌+◌, ◌*◌, ◌/◌, ◌%◌, ◌^◌, ◌<◌, ◌≤◌, Bool, true, false, cond, ◌&&◌, eqb, ltb, [], refl, sym, ◌∙◌, ap, arith, ◌⊎◌, inl, inr, ⊎_elim}
use Rattle.std.proofs.lemmas.Bool.{cases_lt, eq-eqb, lt-ltb, le-ltb, false≢true}
use Rattle.std.proofs.lemmas.Nat.{div-mul-add, mod-mul-add}
use Rattle.std.proofs.Math.Nat.{mul-le-mul_right}
use Rattle.bit_laws.specs.Numbers.{number}
use Rattle.bit_laws.specs.Signed.{extended}
use Rattle.bit_laws.proofs.Numbers.{number-same, number-lt}
use Rattle.bit_rows.specs.Slices.{Slices}
use Rattle.steer_net.specs.Moves.{widened, per_row}
use Rattle.steer_net.specs.Network.{bit_in}
use Rattle.element_ops.specs.Elements.{Registers, element_in}
use Rattle.gen_shift.specs.Kinds.{extension_ops}
use Rattle.gen_shift.proofs.Extension.{extends-sign}
use Rattle.gen_shift.specs.Laws.{ExtendsSign}
use Rattle.micro_ir.specs.Replay.{replay, all_keep_control}
use Rattle.micro_ir.specs.Steps.{element}
use Rattle.micro_ir.proofs.Keeping.{micros-keep}
use Rattle.micro_ir.proofs.Lift.{replay-columns}
use Rattle.frame_laws.specs.Shapes.{Shape, element_number}
use Rattle.frame_laws.specs.Realising.{Splatted}
use Rattle.frame_laws.specs.Classes.Operands.{Operand, group, scalar, narrow, operand_number, row_of, laid_out, is_laid_out_in, IsNarrower}
use Rattle.frame_laws.proofs.Elements.{rewritten-element, in_element, placed_at}
use Rattle.frame_laws.proofs.Classes.Operands.{Agrees, operand-here, narrow-place}

-- a number whose bits from n on are 0
number-short : (w n : ℕ) (f : ℕ → Bool) → n ≤ w → number w (λ j. ltb j n && f j) ≡ number n f
number-short zero n f most = let z : n ≡ 0 = omega arith in rw z refl
number-short (suc w) n f most =
    ⊎_elim
    (λ (l : n ≤ w). rw (le-ltb w n l, number-short w n f l) (omega arith))
    (λ (l : w < n). let z : n ≡ suc w = omega arith in rw z (number-same (suc w) _ _ (λ j q. rw (lt-ltb j (suc w) q) refl)))
    (split (cases_lt w n))
  where
    split : (w < n) ⊎ (n ≤ w) → (n ≤ w) ⊎ (w < n)
    split (inl l) = inr l
    split (inr l) = inl l

-- ---- one element

-- what a spread makes of an element
spread-element : (w k col n part from row : ℕ) (s : Slices) → k * w + w ≤ 32 → col < s.columns → (r j : ℕ) → j < w
    → element w k col (widened from row n w part s) r j
    ≡ cond (eqb r row) (ltb j n && bit_in s from ((part * per_row w s + (col * (32 / w) + k)) * n + j)) (element w k col s r j)
spread-element w k col n part from row s fits inside r j below =
    rewritten-element w k col row (λ p j. ltb j n && bit_in s from ((part * per_row w s + p) * n + j)) s fits inside r j below

-- the row gets the elements of the group
spread-made : (i : Shape) (by n r row g k col : ℕ) (s : Slices) (v : Registers) → 0 < i.width → 32 / i.width * i.width ≡ 32 → i.vlen ≡ 32 * s.columns → k * i.width + i.width ≤ 32 → col < s.columns
    → IsNarrower i by n row → r + g / by < 32 → Agrees i s v
    → number i.width (element i.width k col (widened (r + g / by) row n i.width (g % by) s) row) ≡ element_in i.vlen v r n (element_number i g k col)
unfolding element_in
spread-made i by n r row g k col s v pos lanes long fits inside narrower register agrees =
    let w = i.width in
    let p = col * (32 / w) + k in
    let place = placed_at w (32 / w) i.vlen s.columns k col 0 pos lanes long fits inside pos in
    let per = i.vlen / w in
    let more : 1 < by = narrower.times in
    let some : 0 < by = omega arith in
    let per_w : per * w ≡ i.vlen = rw place.per (omega (arith, long, ap (λ x. s.columns * x) lanes)) in
    let within : p < per = rw place.per place.inside in
    let short : n ≤ w = omega (arith, narrower.wide, mul-le-mul_right n some) in
    let same : per_row w s ≡ per = sym place.per in
    number-same w _ _ (λ j h. spread-element w k col n (g % by) (r + g / by) row s fits inside row j h ∙ rw (eq-eqb row row refl, same) refl)
    ∙ number-short w n (λ j. bit_in s (r + g / by) ((g % by * per + p) * n + j)) short
    ∙ number-same n _ _ (λ j h.
    let x = narrow-place by n w per i.vlen g p j some narrower.wide per_w within h in
    let bit = (g % by * per + p) * n + j in
    agrees (r + g / by) bit register x.1
    ∙ sym (rw (x.0, div-mul-add (g / by) i.vlen bit x.1, mod-mul-add (g / by) i.vlen bit x.1) refl))

-- an extension by zeros changes nothing; and one by a sign does nothing to other rows
extension-kept : (signed : Bool) (n w row k col : ℕ) (s : Slices) → 0 < n → n < w → k * w + w ≤ 32 → col < s.columns → (r j : ℕ) → r ≢ row → j < w
    → element w k col (replay (cond signed (extension_ops n w row) []) s) r j ≡ element w k col s r j
unfolding replay ExtendsSign
extension-kept true n w row k col s some less fits inside r j other below = (extends-sign n w row some less s k col fits inside).kept r j other below
extension-kept false n w row k col s some less fits inside r j other below = refl

extension-made : (signed : Bool) (n w row k col z : ℕ) (s : Slices) → 0 < n → n < w → k * w + w ≤ 32 → col < s.columns → z < 2 ^ n → number w (element w k col s row) ≡ z
    → number w (element w k col (replay (cond signed (extension_ops n w row) []) s) row) ≡ extended signed n w z
unfolding replay ExtendsSign
extension-made true n w row k col z s some less fits inside small is =
    let few : number w (element w k col s row) < 2 ^ n = rw is small in
    (extends-sign n w row some less s k col fits inside).made few ∙ ap (extended true n w) is
extension-made false n w row k col z s some less fits inside small is = is

-- ---- an operand

-- the operand can be laid out for register g of the destination
abbrev pub IsPresent : Shape → Operand → (g : ℕ) → Type 0
IsPresent i (group r) g = r + g < 32
IsPresent i scalar g = (i.splat ≡ true) × (i.scalar_width ≡ i.width)
IsPresent i (narrow signed by n r row) g = IsNarrower i by n row × (r + g / by < 32)

-- The operand stands in its row; every row in which it is not laid out stays.
pub record Laid (i : Shape) (op : Operand) (g k col : ℕ) (v : Registers) (e now : ℕ → ℕ → Bool) : Type 0 where
  pub made : number i.width (now (row_of op g)) ≡ operand_number op i.vlen i.width i.scalar v (element_number i g k col)
  pub kept : (r j : ℕ) → is_laid_out_in r op ≡ false → j < i.width → now r j ≡ e r j

apart : (r row : ℕ) → eqb r row ≡ false → r ≢ row
apart r row f same = false≢true (sym f ∙ eq-eqb r row same)

kept-element : (i : Shape) (op : Operand) (g k col : ℕ) (s : Slices) → k * i.width + i.width ≤ 32 → col < s.columns → IsPresent i op g
    → (r j : ℕ) → is_laid_out_in r op ≡ false → j < i.width → element i.width k col (replay (laid_out op i.width g) s) r j ≡ element i.width k col s r j
unfolding replay
kept-element i (group x) g k col s fits inside present r j free below = refl
kept-element i scalar g k col s fits inside present r j free below = refl
kept-element i (narrow signed by n x row) g k col s fits inside present r j free below =
    let narrower = present.0 in
    let other : r ≢ row = apart r row free in
    let more : 2 * n ≤ by * n = mul-le-mul_right n narrower.times in
    let some : 0 < n = narrower.some in
    let less : n < i.width = omega (arith, narrower.wide, more) in
    extension-kept signed n i.width row k col (widened (x + g / by) row n i.width (g % by) s) some less fits inside r j other below
    ∙ spread-element i.width k col n (g % by) (x + g / by) row s fits inside r j below ∙ rw free refl

pub laid : (i : Shape) (op : Operand) (g k col : ℕ) (s : Slices) (v : Registers) → 0 < i.width → 32 / i.width * i.width ≡ 32 → i.vlen ≡ 32 * s.columns → k * i.width + i.width ≤ 32 → col < s.columns
    → Agrees i s v → Splatted i s → IsPresent i op g
    → Laid i op g k col v (element i.width k col s) (element i.width k col (replay (laid_out op i.width g) s))
unfolding replay element_in
laid i op g k col s v pos lanes long fits inside agrees splatted present = record {
  made = made op present;
  kept = kept-element i op g k col s fits inside present;
}
  where
    made : (op : Operand) → IsPresent i op g → number i.width (element i.width k col (replay (laid_out op i.width g) s) (row_of op g)) ≡ operand_number op i.vlen i.width i.scalar v (element_number i g k col)
    made (group x) present = operand-here (group x) i g k col s v pos lanes long fits inside present agrees splatted
    made scalar present = operand-here scalar i g k col s v pos lanes long fits inside present agrees splatted
    made (narrow signed by n x row) present =
        let narrower = present.0 in
        let more : 2 * n ≤ by * n = mul-le-mul_right n narrower.times in
        let some : 0 < n = narrower.some in
        let less : n < i.width = omega (arith, narrower.wide, more) in
        let s1 = widened (x + g / by) row n i.width (g % by) s in
        extension-made signed n i.width row k col _ s1 some less fits inside (number-lt n _)
        (spread-made i by n x row g k col s v pos lanes long fits inside narrower present.1 agrees)

-- the bits of a row in which the operand is not laid out stay
pub laid-bits : (i : Shape) (op : Operand) (g : ℕ) (s : Slices) (r at : ℕ) → 0 < i.width → 32 / i.width * i.width ≡ 32 → at < 32 * s.columns → IsPresent i op g → is_laid_out_in r op ≡ false
    → bit_in (replay (laid_out op i.width g) s) r at ≡ bit_in s r at
laid-bits i op g s r at pos lanes inside present free =
    let s1 = replay (laid_out op i.width g) s in
    let cols1 : s1.columns ≡ s.columns = replay-columns (laid_out op i.width g) s in
    let inside1 : at < 32 * s1.columns = rw cols1 inside in
    let before = in_element i.width (32 / i.width) s r at pos lanes inside in
    let now = in_element i.width (32 / i.width) s1 r at pos lanes inside1 in
    now.bit ∙ kept-element i op g (at % 32 / i.width) (at / 32) s before.fits before.inside present r (at % 32 % i.width) free before.below ∙ sym before.bit

-- what lays an operand out leaves the control numbers
pub laid-keep : (op : Operand) (w g : ℕ) → all_keep_control (laid_out op w g) ≡ true
laid-keep (group r) w g = refl
laid-keep scalar w g = refl
laid-keep (narrow signed by n r row) w g = extended-keep signed n w row
  where
    extended-keep : (signed : Bool) (n w row : ℕ) → all_keep_control (cond signed (extension_ops n w row) []) ≡ true
    extended-keep true n w row = micros-keep w _
    extended-keep false n w row = refl
