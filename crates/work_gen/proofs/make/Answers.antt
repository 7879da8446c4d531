use Rattle.std.proofs.Common.{◌≡◌, ◌+◌, ◌*◌, length, arith, ap, ◌∙◌, refl}
use Rattle.work_gen.specs.Words.{program}
use Rattle.work_gen.proofs.Programs.{length-program}
use Rattle.work_gen.proofs.Loading.{fault-image_of, length-image_of}
use Rattle.work_gen.proofs.make.Goals as goal

pub image_of-requires : goal.image_of-requires
image_of-requires c =
    let words : c.deref.result.now ≡ program c.args.seed c.args.size = c.deref.ensures.value ∙ c.in_ok-program.ensures in
    let count : length c.deref.result.now ≡ 99 + 2 * c.args.size = ap length words ∙ length-program c.args.seed c.args.size in
    omega arith

pub returns-clause-size : goal.returns-clause-size
returns-clause-size c =
    let words = program c.args.seed c.args.size in
    let are : c.deref.result.now ≡ words = c.deref.ensures.value ∙ c.in_ok-program.ensures in
    rw (c.new.ensures, c.in_ok-image_of.ensures, are, length-image_of words, length-program c.args.seed c.args.size) refl

pub returns-clause-loads : goal.returns-clause-loads
returns-clause-loads c =
    let words = program c.args.seed c.args.size in
    let count = length-program c.args.seed c.args.size in
    let no_fault = fault-image_of words (omega arith) (omega arith) in
    let are : c.deref.result.now ≡ words = c.deref.ensures.value ∙ c.in_ok-program.ensures in
    rw (c.new.ensures, c.in_ok-image_of.ensures, are) no_fault
