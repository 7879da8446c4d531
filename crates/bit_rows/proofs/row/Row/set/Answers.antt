use Rattle.std.proofs.Common.{◌≡◌, ◌/◌, ◌<◌, length, ap, sym, ◌∙◌, arith}
use Rattle.bit_rows.proofs.Packed.{length-bits_of, put_set, put_clear, put_row, put_trimmed}
use Rattle.bit_rows.proofs.row.Row.set.Goals.{then-bit, else-bit}
use Rattle.bit_rows.proofs.row.Row.set.Goals as goal

pub bounds-self-inside-i : goal.bounds-self-inside-i
bounds-self-inside-i c = let e : c.self.inside.len ≡ length c.args.self.now = sym (length-bits_of c.self.inside.len c.self.inside.words) ∙ ap length c.self.view_is in
    let f = c.self.invariant.few in omega (arith, c.requires)

pub bounds-self-inside-i-2 : goal.bounds-self-inside-i-2
bounds-self-inside-i-2 c = let e : c.self.inside.len ≡ length c.args.self.now = sym (length-bits_of c.self.inside.len c.self.inside.words) ∙ ap length c.self.view_is in
    let f = c.self.invariant.few in omega (arith, c.requires)

pub invariant_of-self : goal.invariant_of-self
invariant_of-self c =
    let e : c.self.inside.len ≡ length c.args.self.now = sym (length-bits_of c.self.inside.len c.self.inside.words) ∙ ap length c.self.view_is in
    let f = c.self.invariant.few in
    let h : c.args.i < c.self.inside.len = omega (arith, c.requires) in
    let inside : c.args.i / 64 < length c.self.inside.words = omega (arith, c.self.told) in
    let t = put_trimmed c.self.inside.len c.args.i c.args.bit c.self.inside.words in
    record {
      few = f;
      trimmed = elim c.if-bit.branch [
        | then-bit w ↦ t _ c.self.invariant.trimmed h (λ k. rw (w.self-is, w.if-bit.true) (put_set c.self.inside.words c.args.i k inside))
        | else-bit w ↦ t _ c.self.invariant.trimmed h (λ k. rw (w.self-is, w.if-bit.false) (put_clear c.self.inside.words c.args.i k inside))
      ];
    }

pub returns : goal.returns
returns c =
    let e : c.self.inside.len ≡ length c.args.self.now = sym (length-bits_of c.self.inside.len c.self.inside.words) ∙ ap length c.self.view_is in
    let f = c.self.invariant.few in
    let h : c.args.i < c.self.inside.len = omega (arith, c.requires) in
    let inside : c.args.i / 64 < length c.self.inside.words = omega (arith, c.self.told) in
    let t = put_row c.self.inside.len c.args.i c.args.bit c.self.inside.words in
    rw (← c.self.view_is) (elim c.if-bit.branch [
      | then-bit w ↦ t _ h (λ k. rw (w.self-is, w.if-bit.true) (put_set c.self.inside.words c.args.i k inside))
      | else-bit w ↦ t _ h (λ k. rw (w.self-is, w.if-bit.false) (put_clear c.self.inside.words c.args.i k inside))
    ])
