-- Bytes of a register that are read lane by lane.
use Rattle.std.proofs.Common.{◌≡◌, ℕ, ◌+◌, ◌*◌, ◌/◌, ◌%◌, ◌<◌, List, length, get_or, refl, ap, sym, ◌∙◌, arith, ⊎_elim}
use Rattle.std.proofs.lemmas.Bool.{cases_eq}
use Rattle.std.proofs.lemmas.List.{ext_get_or}
use Rattle.bit_laws.specs.Numbers.{number}
use Rattle.bit_laws.proofs.Lists.{length-tabulate, get-tabulate}
use Rattle.bit_rows.specs.Slices.{Slices}
use Rattle.cam_chain.specs.Views.{register_byte, register_of}

pub read-more : (s : Slices) (r place n : ℕ) (lane old new : List ℕ)
    → ((c : ℕ) → c < n → get_or lane c 0 ≡ number 8 (λ b. s.bit (8 * place + b) r c))
    → ((c : ℕ) → c < n → get_or new (4 * c + place) 0 ≡ get_or lane c 0)
    → ((j : ℕ) → (j % 4 ≡ place → ⊥) → get_or new j 0 ≡ get_or old j 0)
    → ((j : ℕ) → j % 4 < place → j < 4 * n → get_or old j 0 ≡ register_byte s r j)
    → (j : ℕ) → j % 4 < place + 1 → j < 4 * n → get_or new j 0 ≡ register_byte s r j
read-more s r place n lane old new lanes copied stays before j below inside = ⊎_elim
    (λ (e : j % 4 ≡ place).
    let at : 4 * (j / 4) + place ≡ j = omega arith in
    let column : j / 4 < n = omega arith in
    ap (λ (x : ℕ). get_or new x 0) (sym at) ∙ copied (j / 4) column ∙ lanes (j / 4) column ∙ rw e refl)
    (λ (e : j % 4 ≡ place → ⊥). stays j e ∙ before j (omega arith) inside) (cases_eq (j % 4) place)

pub read-all : (s : Slices) (r n : ℕ) (bytes : List ℕ) → n ≡ s.columns → length bytes ≡ 4 * n → ((j : ℕ) → j < 4 * n → get_or bytes j 0 ≡ register_byte s r j) → bytes ≡ register_of s r
read-all s r n bytes same long each =
    ext_get_or 0 bytes (register_of s r) (rw same at long ∙ sym (length-tabulate (4 * s.columns) (register_byte s r))) (λ j inside.
    let below : j < 4 * n = omega arith in
    each j below ∙ sym (get-tabulate (4 * s.columns) (register_byte s r) j 0 (rw same at below)))
