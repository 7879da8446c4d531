use Rattle.std.proofs.Common.{◌≡◌, ℕ, true, ◌-◌, ◌*◌, ◌<◌, [], ◌∷◌, ◌++◌, ◌∙◌, append_assoc, arith}
use Rattle.micro_ir.specs.Pieces.{everywhere, clear, downs}
use Rattle.micro_ir.specs.Steps.{micro, micros}
use Rattle.gen_fixed.specs.Lists.{overflow_row, clipped_row, high_bits}
use Rattle.gen_fixed.proofs.WideCosts.{unsigned-list}
use Rattle.gen_fixed.proofs.narrow.emit_clip_unsigned.Goals as goal

pub returns-clause-ops : goal.returns-clause-ops
returns-clause-ops g c =
    let w : ℕ = c.args.bits in
    let x = c.args.row in
    let some : 0 < 2 * w = let h = g.met.L.Width.least in omega (arith, c.requires.wide) in
    let one : c.emit_clear.new.buf.ops ≡ c.args.buf.now.ops ++ micro (2 * w) (clear (2 * w) overflow_row) = c.emit_clear.ensures.ops (2 * w) some in
    let found : c.emit_high.new.buf.ops ≡ c.emit_clear.new.buf.ops ++ micros (2 * w) (high_bits x w w) = rw c.requires.wide at c.emit_high.ensures.ops in
    let spread : c.emit_downs.new.buf.ops ≡ c.emit_high.new.buf.ops ++ micros (2 * w) (downs overflow_row (w - 1)) = rw c.requires.wide at c.emit_downs.ensures.ops in
    let two : c.emit_clear-2.new.buf.ops ≡ c.emit_downs.new.buf.ops ++ micro (2 * w) (clear (2 * w) clipped_row) = c.emit_clear-2.ensures.ops (2 * w) some in
    let last : c.emit_everywhere.new.buf.ops ≡ c.emit_clear-2.new.buf.ops ++ micro (2 * w) (everywhere (2 * w) (x ∷ overflow_row ∷ []) (1 ∷ 2 ∷ 3 ∷ []) clipped_row true) = c.emit_everywhere.ensures.ops (2 * w) some in
    last ∙ rw (two, spread, found, one, unsigned-list w x) (simp append_assoc)
