use Rattle.std.proofs.Common.{◌≡◌, refl, ◌∙◌, ap}
use Rattle.cam_chain.specs.ChainValue.{slices_of}
use Rattle.cam_chain.specs.Views.{registers_of}
use Rattle.rvv_decode.specs.declared.instruction.VOp.TheVariants.{Opm}
use Rattle.rvv_decode.specs.declared.instruction.OpmOp.TheVariants.{Vcompress, Viota}
use Rattle.element_moves.specs.Permutations.{counted, packed}
use Rattle.legal_groups.proofs.Valid.{held}
use Rattle.element_moves.proofs.Operations.{leaves, gathers, counts, compresses}
use Rattle.element_moves.proofs.permute.Goals as goal

pub gather-requires : goal.gather-requires
gather-requires c =
    let all = held c.args.cfg.now c.requires.valid in
    let facts = gathers c.args.i.now c.args.cfg.now c.args.chain.now.columns c.requires.fields c.requires.legal c.requires.valid c.requires.long c.in-Opi.op c.in-Opi.is c.requires.kind in
    record { fits = facts.fits; setting = all.setting; length = all.vlen; indices = rw c.index_size.ensures facts.indices; source = facts.source; columns = c.requires.long }

pub count_set-requires : goal.count_set-requires
count_set-requires c =
    let is : c.args.i.now.op ≡ Opm Viota = c.in-Opm-Viota.is ∙ ap Opm (rw c.in-Opm-Viota.is at c.in-Opm-Viota.field-0-is) in
    let facts = counts c.args.i.now c.args.cfg.now c.args.chain.now.columns c.requires.fields c.requires.legal c.requires.valid c.requires.long is in
    record { fits = facts.fits; start = facts.start; source = facts.source; columns = c.requires.long }

pub compress-requires : goal.compress-requires
compress-requires c =
    let is : c.args.i.now.op ≡ Opm Vcompress = c.in-Opm-Vcompress.is ∙ ap Opm (rw c.in-Opm-Vcompress.is at c.in-Opm-Vcompress.field-0-is) in
    let facts = compresses c.args.i.now c.args.cfg.now c.args.chain.now.columns c.requires.fields c.requires.legal c.requires.valid c.requires.long is in
    record { fits = facts.fits; start = facts.start; source = facts.source; mask = facts.mask; columns = c.requires.long }

pub returns-in-Opi-clause-vectors : goal.returns-in-Opi-clause-vectors
returns-in-Opi-clause-vectors c = λ x.
    let v = registers_of (slices_of c.args.chain.now) in
    let facts = gathers c.args.i.now c.args.cfg.now c.args.chain.now.columns c.requires.fields c.requires.legal c.requires.valid c.requires.long c.in-Opi.op c.in-Opi.is c.requires.kind in
    leaves c.args.cfg.now v (registers_of (slices_of c.gather.new.chain)) _ _ (facts.left x v) (rw c.index_size.ensures at c.gather.ensures.vectors) (λ s. refl)

pub returns-in-Opm-Viota-clause-vectors : goal.returns-in-Opm-Viota-clause-vectors
returns-in-Opm-Viota-clause-vectors c = λ x.
    let v = registers_of (slices_of c.args.chain.now) in
    let is : c.args.i.now.op ≡ Opm Viota = c.in-Opm-Viota.is ∙ ap Opm (rw c.in-Opm-Viota.is at c.in-Opm-Viota.field-0-is) in
    let facts = counts c.args.i.now c.args.cfg.now c.args.chain.now.columns c.requires.fields c.requires.legal c.requires.valid c.requires.long is in
    leaves c.args.cfg.now v (registers_of (slices_of c.count_set.new.chain)) _ (counted c.args.i.now c.args.cfg.now v) (facts.left x v) c.count_set.ensures.vectors (λ s. refl)

pub returns-in-Opm-Vcompress-clause-vectors : goal.returns-in-Opm-Vcompress-clause-vectors
returns-in-Opm-Vcompress-clause-vectors c = λ x.
    let v = registers_of (slices_of c.args.chain.now) in
    let is : c.args.i.now.op ≡ Opm Vcompress = c.in-Opm-Vcompress.is ∙ ap Opm (rw c.in-Opm-Vcompress.is at c.in-Opm-Vcompress.field-0-is) in
    let facts = compresses c.args.i.now c.args.cfg.now c.args.chain.now.columns c.requires.fields c.requires.legal c.requires.valid c.requires.long is in
    leaves c.args.cfg.now v (registers_of (slices_of c.compress.new.chain)) _ (packed c.args.i.now c.args.cfg.now v) (facts.left x v) c.compress.ensures.vectors (λ s. refl)
