use Rattle.std.proofs.Common.{rules, ◌∙◌, sym, tests}
use Rattle.std.proofs.lemmas.Iterator.{YieldsList-from_slice}
use Rattle.std.proofs.lemmas.Iterator.Search.{any_from_yields_List}
use Rattle.guest_mem.specs.declared.regions.Region.{Region}
use Rattle.guest_mem.specs.Spans.{span_of, meets}
use Rattle.report_texts.proofs.LayoutLemmas.{list_any-map}
use Rattle.report_texts.proofs.layout.is_mapped.Goals as goal

pub returns : goal.returns
returns c =
    any_from_yields_List (λ (r : Region). meets c.args.page (span_of r)) _ _ _ c.any.ensures.ran (YieldsList-from_slice c.args.regions.now cc) (λ x b q k. search (rules, tests))
    ∙ sym (list_any-map (meets c.args.page) span_of c.args.regions.now)
