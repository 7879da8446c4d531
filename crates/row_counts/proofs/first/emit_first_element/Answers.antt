use Rattle.std.proofs.Common.{◌≡◌, [], ◌∷◌, ◌++◌, ◌∙◌, append_assoc}
use Rattle.micro_ir.specs.Steps.{micros}
use Rattle.micro_ir.specs.Pieces.{commit}
use Rattle.micro_ir.specs.WorkRows.{scalar_row}
use Rattle.row_views.specs.Lists.{spread_num}
use Rattle.row_counts.specs.Lists.{first_window}
use Rattle.row_counts.proofs.first.emit_first_element.Goals as goal

pub returns-clause-ops : goal.returns-clause-ops
returns-clause-ops c =
    let w = c.args.width in
    let span = c.args.span.now in
    let one : c.emit_spread.new.buf.ops ≡ c.args.buf.now.ops ++ spread_num w scalar_row = c.emit_spread.ensures.ops in
    let two : c.push_first_window.new.buf.ops ≡ c.emit_spread.new.buf.ops ++ first_window w span ∷ [] = c.push_first_window.ensures.ops in
    let last : c.emit_commit.new.buf.ops ≡ c.push_first_window.new.buf.ops ++ micros w (commit w scalar_row c.args.to) = c.emit_commit.ensures.ops w c.requires.width in
    last ∙ rw (two, one) (simp append_assoc)
