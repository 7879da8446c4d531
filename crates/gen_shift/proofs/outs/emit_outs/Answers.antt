use Rattle.std.proofs.Common.{◌≡◌, ℕ, zero, suc, ◌+◌, ◌-◌, ◌*◌, ◌<◌, length, not, false, refl, [], ◌∷◌, ◌++◌, ◌∙◌, append_assoc, arith}
use Rattle.micro_ir.specs.Steps.{pass_of, micro, micros}
use Rattle.micro_ir.specs.WorkRows.{broadcast_row}
use Rattle.micro_ir.specs.Pieces.{above, below, clear}
use Rattle.gen_shift.specs.Rows.{shift_role, last_role, more_row}
use Rattle.gen_shift.specs.Lists.{strays}
use Rattle.gen_shift.proofs.Stays.{two-rows}
use Rattle.gen_shift.proofs.Written.{outs-list}
use Rattle.gen_shift.proofs.outs.emit_outs.Goals as goal

-- the parts of the length, where h - 1 places are moved by
parts : (h : ℕ) → 0 < h → 2 + ((3 * (h - 1) - 1) + (2 + (1 + (length (pass_of false (h - 1)) + 1) + 2))) ≡ 3 * h + 5
parts zero some = absurd (omega arith)
parts (suc zero) some = refl
parts (suc (suc n)) some =
    let z : suc (suc n) - 1 ≡ suc n = omega arith in
    rw z (omega arith)

pub emit_above-requires-clause-rows : goal.emit_above-requires-clause-rows
emit_above-requires-clause-rows g c = two-rows c.last_row-last.result c.last_row-last.ensures.row

pub emit_strays-requires-clause-room : goal.emit_strays-requires-clause-room
emit_strays-requires-clause-room g c = omega (arith, parts c.args.by c.requires.some, c.requires.room, c.emit_above.ensures.spare)

pub emit_clear-requires-clause-room : goal.emit_clear-requires-clause-room
emit_clear-requires-clause-room g c = omega (arith, parts c.args.by c.requires.some, c.requires.room, c.emit_above.ensures.spare, c.emit_strays.ensures.spare)

pub emit_below-requires-clause-rows : goal.emit_below-requires-clause-rows
emit_below-requires-clause-rows g c = two-rows c.shift_row-former.result c.shift_row-former.ensures.row

pub emit_below-requires-clause-room : goal.emit_below-requires-clause-room
emit_below-requires-clause-room g c =
    omega (arith, parts c.args.by c.requires.some, c.requires.room, c.emit_above.ensures.spare, c.emit_strays.ensures.spare, c.emit_clear.ensures.spare)

pub emit_above-requires-2-clause-rows : goal.emit_above-requires-2-clause-rows
emit_above-requires-2-clause-rows g c = two-rows c.last_row-last.result c.last_row-last.ensures.row

pub emit_above-requires-2-clause-room : goal.emit_above-requires-2-clause-room
emit_above-requires-2-clause-room g c =
    omega (arith, parts c.args.by c.requires.some, c.requires.room, c.emit_above.ensures.spare, c.emit_strays.ensures.spare, c.emit_clear.ensures.spare, c.emit_below.ensures.spare)

pub returns-clause-ops : goal.returns-clause-ops
returns-clause-ops g c =
    let w = g.W.Width.BITS in
    let some : 0 < w = let h = g.met.W.Width.least in omega arith in
    let former = shift_role c.args.odd in
    let last = last_role c.args.odd in
    let next = last_role (not c.args.odd) in
    let top : ℕ = c.args.by - 1 in
    let first : c.emit_above.new.buf.ops ≡ c.args.buf.now.ops ++ micro w (above (broadcast_row ∷ last ∷ []) (3 ∷ []) more_row 0 0) = rw c.last_row-last.ensures.role at c.emit_above.ensures.ops in
    let more : c.emit_strays.new.buf.ops ≡ c.emit_above.new.buf.ops ++ micros w (strays former top) = rw c.shift_row-former.ensures.role at c.emit_strays.ensures.ops in
    let cleared : c.emit_clear.new.buf.ops ≡ c.emit_strays.new.buf.ops ++ micro w (clear w next) = rw c.last_row-next.ensures.role at (c.emit_clear.ensures.ops w some) in
    let out : c.emit_below.new.buf.ops ≡ c.emit_clear.new.buf.ops ++ micro w (below (broadcast_row ∷ former ∷ []) (3 ∷ []) next top top) =
    rw (c.shift_row-former.ensures.role, c.last_row-next.ensures.role) at c.emit_below.ensures.ops in
    let stays : c.emit_above-2.new.buf.ops ≡ c.emit_below.new.buf.ops ++ micro w (above (broadcast_row ∷ last ∷ []) (2 ∷ []) next 0 0) =
    rw (c.last_row-last.ensures.role, c.last_row-next.ensures.role) at c.emit_above-2.ensures.ops in
    stays ∙ rw (out, cleared, more, first, outs-list w c.args.odd c.args.by) (simp append_assoc)

pub returns-clause-spare : goal.returns-clause-spare
returns-clause-spare g c =
    omega (arith, parts c.args.by c.requires.some, c.emit_above.ensures.spare, c.emit_strays.ensures.spare, c.emit_clear.ensures.spare, c.emit_below.ensures.spare, c.emit_above-2.ensures.spare)
