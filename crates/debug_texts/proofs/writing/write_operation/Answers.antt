use Rattle.debug_texts.specs.ShownTexts.{operation_line}
use Rattle.debug_texts.proofs.writing.write_operation.Goals as goal

pub returns : goal.returns
unfolding operation_line
returns g c = rw (c.operation_head.ensures, c.listing.ensures) at c.write_parts.ensures
