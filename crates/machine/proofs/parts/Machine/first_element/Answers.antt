use Rattle.std.proofs.Common.{◌≡◌, ◌*◌, ◌/◌, ◌+◌, ◌-◌, ◌<◌, ◌≤◌, ◌^◌, ℕ, true, refl, sym, ◌∙◌, ap, arith}
use Rattle.std.proofs.Math.Nat.{mul-le-mul_right}
use Rattle.bit_laws.specs.Signed.{extended}
use Rattle.cam_chain.specs.ChainValue.{slices_of}
use Rattle.cam_chain.specs.Views.{registers_of}
use Rattle.element_ops.specs.Elements.{element_of}
use Rattle.rvv_meaning.specs.States.{Core, cfg_at, vtype_at}
use Rattle.machine.specs.Moments.{Held}
use Rattle.machine.proofs.Moving.{Sized, out-sized, element-small}
use Rattle.machine.proofs.parts.Machine.first_element.Goals as goal

pub element-requires-clause-size : goal.element-requires-clause-size
element-requires-clause-size c =
    let w = out-sized c.args.i.now c.args.self.now.core c.cfg-sew.result c.cfg-sew.ensures.is c.cfg-sew.ensures.valid c.requires.fits c.requires.out in
    rw c.from-size.ensures w.size

pub element-requires-clause-place : goal.element-requires-clause-place
element-requires-clause-place c =
    let w = out-sized c.args.i.now c.args.self.now.core c.cfg-sew.result c.cfg-sew.ensures.is c.cfg-sew.ensures.valid c.requires.fits c.requires.out in
    let long = c.self.invariant.vlen in
    let some : 1 ≤ c.self.inside.chain.columns = omega (arith, long, c.self.invariant.legal) in
    let low = c.requires.fits.fields.vs2 in
    let least : 1 * (4 * c.self.inside.chain.columns) ≤ (32 - c.args.i.now.vs2) * (4 * c.self.inside.chain.columns) = mul-le-mul_right (4 * c.self.inside.chain.columns) (omega arith) in
    omega (arith, w.in_word, c.from-size.ensures, least)

pub sign_extended-requires-clause-some : goal.sign_extended-requires-clause-some
sign_extended-requires-clause-some c =
    (out-sized c.args.i.now c.args.self.now.core c.cfg-sew.result c.cfg-sew.ensures.is c.cfg-sew.ensures.valid c.requires.fits c.requires.out).some

pub sign_extended-requires-clause-few : goal.sign_extended-requires-clause-few
sign_extended-requires-clause-few c =
    (out-sized c.args.i.now c.args.self.now.core c.cfg-sew.result c.cfg-sew.ensures.is c.cfg-sew.ensures.valid c.requires.fits c.requires.out).few

pub sign_extended-requires-clause-small : goal.sign_extended-requires-clause-small
unfolding slices_of
sign_extended-requires-clause-small c =
    let w = out-sized c.args.i.now c.args.self.now.core c.cfg-sew.result c.cfg-sew.ensures.is c.cfg-sew.ensures.valid c.requires.fits c.requires.out in
    let sew = c.cfg-sew.result.vtype.sew in
    let whole : 8 * c.from-size.result ≡ sew = rw c.from-size.ensures w.whole in
    rw c.element.ensures (rw whole (element-small (slices_of c.self.inside.chain) c.args.i.now.vs2 sew 0 w.whole))

pub returns : goal.returns
unfolding slices_of
returns c =
    let w = out-sized c.args.i.now c.args.self.now.core c.cfg-sew.result c.cfg-sew.ensures.is c.cfg-sew.ensures.valid c.requires.fits c.requires.out in
    let sew = c.cfg-sew.result.vtype.sew in
    let whole : 8 * c.from-size.result ≡ sew = rw c.from-size.ensures w.whole in
    let words : 4 * c.self.inside.chain.columns ≡ c.self.inside.csrs.vlen / 8 = omega (arith, c.self.invariant.vlen) in
    let cfg = c.cfg-sew.ensures.is in
    let v = registers_of (slices_of c.self.inside.chain) in
    let read : c.element.result ≡ element_of (c.self.inside.csrs.vlen / 8) v c.args.i.now.vs2 sew 0 =
    c.element.ensures ∙ ap (λ (n : ℕ). element_of (4 * c.self.inside.chain.columns) v c.args.i.now.vs2 n 0) whole ∙ ap (λ (n : ℕ). element_of n v c.args.i.now.vs2 sew 0) words in
    c.sign_extended.ensures
    ∙ ap (λ (n : ℕ). extended true sew 32 n) read
    ∙ rw (cfg, ← c.self.view_is) refl
