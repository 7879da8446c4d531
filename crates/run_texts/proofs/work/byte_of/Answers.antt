use Rattle.std.proofs.Common.{◌≡◌, ℕ, ◌+◌, ◌-◌, ◌*◌, ◌<◌, false, arith, sym, refl}
use Rattle.std.specs.Prelude.{slice_index_or}
use Rattle.run_texts.proofs.WorkLemmas.{bits_more, bits_none, bits_small}
use Rattle.run_texts.proofs.work.byte_of.Goals as goal

pub loop-b-init : goal.loop-b-init
loop-b-init c = sym (bits_none (λ col. slice_index_or c.args.row.now col false) (8 * c.args.j + 8))

pub overflow_mul-byte : goal.overflow_mul-byte
overflow_mul-byte c =
    let bit = λ (col : ℕ). slice_index_or c.args.row.now col false in
    let small : c.loop-b.byte < 256 = rw c.loop-b.invariant (bits_small (8 - c.loop-b.b) bit (8 * c.args.j + c.loop-b.b) (omega arith)) in
    omega arith

pub overflow_add-byte : goal.overflow_add-byte
overflow_add-byte c =
    let bit = λ (col : ℕ). slice_index_or c.args.row.now col false in
    let small : c.loop-b.byte < 256 = rw c.loop-b.invariant (bits_small (8 - c.loop-b.b) bit (8 * c.args.j + c.loop-b.b) (omega arith)) in
    omega (arith, c.bit_of.ensures.small)

pub loop-b-preserved : goal.loop-b-preserved
loop-b-preserved c =
    let bit = λ (col : ℕ). slice_index_or c.args.row.now col false in
    rw (bits_more bit c.loop-b.b (8 * c.args.j) (omega arith) (omega arith), c.bit_of.ensures.value, c.loop-b.invariant) refl

pub overflow_cast-result : goal.overflow_cast-result
overflow_cast-result c =
    let bit = λ (col : ℕ). slice_index_or c.args.row.now col false in
    let small : c.loop-b.byte < 256 = rw c.loop-b.invariant (bits_small (8 - c.loop-b.b) bit (8 * c.args.j + c.loop-b.b) (omega arith)) in
    omega arith
