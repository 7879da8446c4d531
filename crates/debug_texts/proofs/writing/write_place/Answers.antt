use Rattle.debug_texts.specs.ShownTexts.{place_line}
use Rattle.debug_texts.proofs.writing.write_place.Goals as goal

pub returns : goal.returns
unfolding place_line
returns g c = rw (c.place_head.ensures, c.word_listing.ensures) at c.write_parts.ensures
