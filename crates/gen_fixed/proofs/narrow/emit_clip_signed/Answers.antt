use Rattle.std.proofs.Common.{◌≡◌, ℕ, ◌-◌, ◌*◌, ◌<◌, ◌++◌, ◌∙◌, append_assoc, arith}
use Rattle.micro_ir.specs.Pieces.{clear, downs, broadcast}
use Rattle.micro_ir.specs.Steps.{micro, micros}
use Rattle.gen_fixed.specs.Lists.{overflow_row, clipped_row, bounded, differing}
use Rattle.gen_fixed.proofs.WideCosts.{signed-list}
use Rattle.gen_fixed.proofs.narrow.emit_clip_signed.Goals as goal

pub returns-clause-ops : goal.returns-clause-ops
returns-clause-ops g c =
    let w : ℕ = c.args.bits in
    let x = c.args.row in
    let some : 0 < 2 * w = let h = g.met.L.Width.least in omega (arith, c.requires.wide) in
    let cast : c.emit_broadcast.new.buf.ops ≡ c.args.buf.now.ops ++ micros (2 * w) (broadcast (2 * w) x (2 * w - 1)) = rw (c.BITS.ensures, c.requires.wide) at c.emit_broadcast.ensures.ops in
    let one : c.emit_clear.new.buf.ops ≡ c.emit_broadcast.new.buf.ops ++ micro (2 * w) (clear (2 * w) overflow_row) = c.emit_clear.ensures.ops (2 * w) some in
    let found : c.emit_differing.new.buf.ops ≡ c.emit_clear.new.buf.ops ++ micros (2 * w) (differing x (w - 1) w) = rw c.requires.wide at c.emit_differing.ensures.ops in
    let spread : c.emit_downs.new.buf.ops ≡ c.emit_differing.new.buf.ops ++ micros (2 * w) (downs overflow_row (w - 1)) = rw c.requires.wide at c.emit_downs.ensures.ops in
    let last : c.emit_bounded.new.buf.ops ≡ c.emit_downs.new.buf.ops ++ micros (2 * w) (bounded (2 * w) w x clipped_row) = rw c.requires.wide at c.emit_bounded.ensures.ops in
    last ∙ rw (spread, found, one, cast, signed-list w x) (simp append_assoc)
