use Rattle.std.proofs.Common.{◌≡◌, ℕ, ◌-◌, ◌<◌, ◌≤◌, true, false, ltb, sym, ◌∙◌, append-nil, arith, inl, inr, ⊎_elim}
use Rattle.std.proofs.lemmas.Bool.{cases_lt, lt-ltb, ltb-true}
use Rattle.micro_ir.proofs.PieceLists.{ups-none}
use Rattle.micro_ir.specs.WorkRows.{IsOperandRow}
use Rattle.library_probe.specs.Lists.{source_bits}
use Rattle.library_probe.proofs.lists.emit_extended.Goals as goal

operand-row : (r : ℕ) → IsOperandRow r → r < 64
operand-row r (inl is) = omega arith
operand-row r (inr (inl is)) = omega arith
operand-row r (inr (inr (inl is))) = omega arith
operand-row r (inr (inr (inr (inl is)))) = omega arith
operand-row r (inr (inr (inr (inr is)))) = omega arith

-- elements that are not wider have no bits above those of the numbers
none-above : (v w : ℕ) → ltb v w ≡ false → w - v ≡ 0
none-above v w narrow =
    ⊎_elim
    (λ (l : v < w). let x : true ≡ false = sym (lt-ltb v w l) ∙ narrow in absurd (cc))
    (λ (l : w ≤ v). omega arith)
    (cases_lt v w)

pub emit_sext-requires-clause-a : goal.emit_sext-requires-clause-a
emit_sext-requires-clause-a g c = operand-row c.args.at.now.a c.requires.a

pub emit_sext-requires-clause-source : goal.emit_sext-requires-clause-source
emit_sext-requires-clause-source g c =
    let inside : source_bits c.args.source < g.W.Width.BITS = ltb-true (source_bits c.args.source) g.W.Width.BITS (sym c.is_wider.ensures ∙ c.if-is_wider.true) in
    rw c.bits_of.ensures.value inside

pub returns-then-is_wider : goal.returns-then-is_wider
returns-then-is_wider g c = rw c.bits_of.ensures.value at c.emit_sext.ensures.ops

pub returns-else-is_wider : goal.returns-else-is_wider
returns-else-is_wider g c =
    let w = g.W.Width.BITS in
    let v = source_bits c.args.source in
    let none : w - v ≡ 0 = none-above v w (sym c.is_wider.ensures ∙ c.if-is_wider.false) in
    rw (none, ups-none w c.args.at.now.a (v - 1)) (sym (append-nil _))
