use Rattle.std.proofs.Common.{Some, ap, inl, inr, sym, ◌∙◌}
use Rattle.command_words.specs.Help.{help_text}
use Rattle.command_words.specs.declared.words.Command.TheVariants.{OnImage, Debug, Gen, Bench, Help}
use Rattle.rvv_meaning.specs.Texts.{usage_line}
use Rattle.work_gen.specs.Images.{workload}
use Rattle.cape_top.specs.declared.ending.Status.TheVariants.{Done, Usage}
use Rattle.cape_top.specs.Calls.{call}
use Rattle.cape_top.specs.Promises.{words_of}
use Rattle.cape_top.proofs.CallLemmas.{ends_for, ends_in_usage, ends_of_debug}
use Rattle.cape_top.proofs.BenchLemmas.{bench_ends}
use Rattle.cape_top.proofs.CauseLemmas.{cause_apart, cause_of_debug, cause_on_image, cause_usage, made_apart, made_runs, text_apart, text_memory, text_runs}
use Rattle.cape_top.proofs.TopLemmas.{makes_out, writes_err, writes_out}
use Rattle.cape_top.proofs.top.cape.Goals as goal

pub returns-in-Some-OnImage-clause-ends : goal.returns-in-Some-OnImage-clause-ends
returns-in-Some-OnImage-clause-ends g c =
    let words = words_of c.args.words.now in
    let d = call g.F.Files g.S.Source g.O.Sink g.E.Sink c.args.files.now c.do_on_image.new.files c.args.input.now c.do_on_image.new.input c.args.out.now c.do_on_image.new.out c.args.err.now c.do_on_image.new.err in
    let found = sym c.command_of.ensures.command ∙ c.in-Some-OnImage.is ∙ ap Some c.in-Some-OnImage.field-0-is in
    ends_for words d c.do_on_image.result c.do_on_image.new.kept (OnImage c.in-Some-OnImage.command) found c.requires.words c.do_on_image.ensures.ends c.do_on_image.ensures.keeps

pub returns-in-Some-OnImage-clause-cause : goal.returns-in-Some-OnImage-clause-cause
returns-in-Some-OnImage-clause-cause g c =
    let words = words_of c.args.words.now in
    let d = call g.F.Files g.S.Source g.O.Sink g.E.Sink c.args.files.now c.do_on_image.new.files c.args.input.now c.do_on_image.new.input c.args.out.now c.do_on_image.new.out c.args.err.now c.do_on_image.new.err in
    let found = sym c.command_of.ensures.command ∙ c.in-Some-OnImage.is ∙ ap Some c.in-Some-OnImage.field-0-is in
    cause_on_image words d c.in-Some-OnImage.command c.do_on_image.result found c.requires.words c.do_on_image.ensures.of_run c.do_on_image.ensures.of_done c.do_on_image.ensures.no_usage
    c.do_on_image.ensures.refused c.do_on_image.ensures.absent c.do_on_image.ensures.read c.do_on_image.ensures.write

pub returns-in-Some-Debug-clause-ends : goal.returns-in-Some-Debug-clause-ends
returns-in-Some-Debug-clause-ends g c =
    let words = words_of c.args.words.now in
    let d = call g.F.Files g.S.Source g.O.Sink g.E.Sink c.args.files.now c.debug.new.files c.args.input.now c.debug.new.input c.args.out.now c.debug.new.out c.args.err.now c.debug.new.err in
    let found = sym c.command_of.ensures.command ∙ c.in-Some-Debug.is ∙ ap Some c.in-Some-Debug.field-0-is in
    ends_of_debug words d c.debug.result c.args.kept.now c.in-Some-Debug.options found c.requires.words c.debug.ensures.ends c.requires.none

pub returns-in-Some-Debug-clause-cause : goal.returns-in-Some-Debug-clause-cause
returns-in-Some-Debug-clause-cause g c =
    let words = words_of c.args.words.now in
    let d = call g.F.Files g.S.Source g.O.Sink g.E.Sink c.args.files.now c.debug.new.files c.args.input.now c.debug.new.input c.args.out.now c.debug.new.out c.args.err.now c.debug.new.err in
    let found = sym c.command_of.ensures.command ∙ c.in-Some-Debug.is ∙ ap Some c.in-Some-Debug.field-0-is in
    cause_of_debug words d c.in-Some-Debug.options c.debug.result found c.requires.words c.debug.ensures.only c.debug.ensures.refused c.debug.ensures.absent c.debug.ensures.read c.debug.ensures.write

pub returns-in-Some-Gen-clause-ends : goal.returns-in-Some-Gen-clause-ends
returns-in-Some-Gen-clause-ends g c =
    let words = words_of c.args.words.now in
    let d = call g.F.Files g.S.Source g.O.Sink g.E.Sink c.args.files.now c.args.files.now c.args.input.now c.args.input.now c.args.out.now c.write_workload.new.out c.args.err.now c.args.err.now in
    let found = sym c.command_of.ensures.command ∙ c.in-Some-Gen.is ∙ ap Some c.in-Some-Gen.field-0-is in
    let w = c.in-Some-Gen.workload in
    let ensured = c.write_workload.ensures in
    ends_for words d c.write_workload.result c.args.kept.now (Gen w) found c.requires.words
    (makes_out g.S.Source g.O.Sink g.E.Sink _ c.write_workload.result Done c.args.kept.now tt c.requires.none c.args.input.now (workload w.seed w.size) c.args.out.now c.write_workload.new.out c.args.err.now
    (λ P holds. holds) ensured.only ensured.said ensured.fails ensured.lacks)
    (inr c.requires.none)

pub returns-in-Some-Gen-clause-cause : goal.returns-in-Some-Gen-clause-cause
returns-in-Some-Gen-clause-cause g c =
    let words = words_of c.args.words.now in
    let d = call g.F.Files g.S.Source g.O.Sink g.E.Sink c.args.files.now c.args.files.now c.args.input.now c.args.input.now c.args.out.now c.write_workload.new.out c.args.err.now c.args.err.now in
    let found = sym c.command_of.ensures.command ∙ c.in-Some-Gen.is ∙ ap Some c.in-Some-Gen.field-0-is in
    let ensured = c.write_workload.ensures in
    cause_apart words d (Gen c.in-Some-Gen.workload) c.write_workload.result found (λ on. on) tt (made_runs _ ensured.only) (made_apart _ ensured.only) (λ lacks. tt)
    (λ is. inl ((ensured.fails is).counts))

pub returns-in-Some-Bench-clause-ends : goal.returns-in-Some-Bench-clause-ends
returns-in-Some-Bench-clause-ends g c =
    let words = words_of c.args.words.now in
    let d = call g.F.Files g.S.Source g.O.Sink g.E.Sink c.args.files.now c.args.files.now c.args.input.now c.args.input.now c.args.out.now c.bench.new.out c.args.err.now c.args.err.now in
    let found = sym c.command_of.ensures.command ∙ c.in-Some-Bench.is ∙ ap Some c.in-Some-Bench.field-0-is in
    ends_for words d c.bench.result c.bench.new.kept (Bench c.in-Some-Bench.workload) found c.requires.words
    (bench_ends g.S.Source g.O.Sink g.E.Sink c.in-Some-Bench.workload c.bench.result c.bench.new.kept c.args.input.now c.args.out.now c.bench.new.out c.args.err.now
    c.bench.ensures.only c.bench.ensures.said c.bench.ensures.fails c.bench.ensures.lacks c.bench.ensures.holds)
    c.bench.ensures.keeps

pub returns-in-Some-Bench-clause-cause : goal.returns-in-Some-Bench-clause-cause
returns-in-Some-Bench-clause-cause g c =
    let words = words_of c.args.words.now in
    let d = call g.F.Files g.S.Source g.O.Sink g.E.Sink c.args.files.now c.args.files.now c.args.input.now c.args.input.now c.args.out.now c.bench.new.out c.args.err.now c.args.err.now in
    let found = sym c.command_of.ensures.command ∙ c.in-Some-Bench.is ∙ ap Some c.in-Some-Bench.field-0-is in
    let ensured = c.bench.ensures in
    cause_apart words d (Bench c.in-Some-Bench.workload) c.bench.result found (λ on. on) tt (made_runs _ ensured.only) (made_apart _ ensured.only) (λ lacks. tt)
    (λ is. inl ((ensured.fails is).counts))

pub returns-in-Some-Help-clause-ends : goal.returns-in-Some-Help-clause-ends
returns-in-Some-Help-clause-ends g c =
    let words = words_of c.args.words.now in
    let d = call g.F.Files g.S.Source g.O.Sink g.E.Sink c.args.files.now c.args.files.now c.args.input.now c.args.input.now c.args.out.now c.write_help.new.out c.args.err.now c.args.err.now in
    let found = sym c.command_of.ensures.command ∙ c.in-Some-Help.is ∙ ap Some c.in-Some-Help.field-0-is in
    let ensured = c.write_help.ensures in
    ends_for words d c.write_help.result c.args.kept.now Help found c.requires.words
    (writes_out g.S.Source g.O.Sink g.E.Sink _ c.write_help.result Done c.args.kept.now tt c.requires.none c.args.input.now help_text c.args.out.now c.write_help.new.out c.args.err.now
    (λ P holds. holds) ensured.only ensured.said ensured.fails)
    (inr c.requires.none)

pub returns-in-Some-Help-clause-cause : goal.returns-in-Some-Help-clause-cause
returns-in-Some-Help-clause-cause g c =
    let words = words_of c.args.words.now in
    let d = call g.F.Files g.S.Source g.O.Sink g.E.Sink c.args.files.now c.args.files.now c.args.input.now c.args.input.now c.args.out.now c.write_help.new.out c.args.err.now c.args.err.now in
    let found = sym c.command_of.ensures.command ∙ c.in-Some-Help.is ∙ ap Some c.in-Some-Help.field-0-is in
    let ensured = c.write_help.ensures in
    cause_apart words d Help c.write_help.result found (λ on. on) tt (text_runs _ ensured.only) (text_apart _ ensured.only) (text_memory _ ensured.only)
    (λ is. inl ((ensured.fails is).counts))

pub returns-in-None-clause-ends : goal.returns-in-None-clause-ends
returns-in-None-clause-ends g c =
    let words = words_of c.args.words.now in
    let d = call g.F.Files g.S.Source g.O.Sink g.E.Sink c.args.files.now c.args.files.now c.args.input.now c.args.input.now c.args.out.now c.args.out.now c.args.err.now c.write_usage.new.err in
    let none = sym c.command_of.ensures.command ∙ c.in-None.is in
    let ensured = c.write_usage.ensures in
    ends_in_usage words d c.write_usage.result c.args.kept.now none
    (writes_err g.S.Source g.O.Sink g.E.Sink _ c.write_usage.result Usage c.args.kept.now tt c.requires.none c.args.input.now usage_line c.args.out.now c.args.err.now c.write_usage.new.err
    (λ P holds. holds) ensured.only ensured.said ensured.fails)
    c.requires.none

pub returns-in-None-clause-cause : goal.returns-in-None-clause-cause
returns-in-None-clause-cause g c =
    let words = words_of c.args.words.now in
    let d = call g.F.Files g.S.Source g.O.Sink g.E.Sink c.args.files.now c.args.files.now c.args.input.now c.args.input.now c.args.out.now c.args.out.now c.args.err.now c.write_usage.new.err in
    let none = sym c.command_of.ensures.command ∙ c.in-None.is in
    let ensured = c.write_usage.ensures in
    cause_usage words d c.write_usage.result none ensured.only (λ is. inr ((ensured.fails is).counts))
