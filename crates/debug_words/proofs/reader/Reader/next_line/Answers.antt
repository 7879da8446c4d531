use Rattle.std.proofs.Common.{◌≡◌, ◌<◌, ◌≤◌, length, ℕ, List, [], ◌∷◌, refl, sym, ◌∙◌, arith}
use Rattle.debug_words.proofs.Reading.{line_given, line_last, none_at_limit, none_read, reads_full, reads_short}
use Rattle.debug_words.proofs.reader.Reader.next_line.Goals as goal

no_items : (xs : List ℕ) → length xs ≡ 0 → xs ≡ []
no_items [] e = refl
no_items (x ∷ xs) e = absurd (omega arith)

pub returns-then-is_at_limit-clause-none : goal.returns-then-is_at_limit-clause-none
returns-then-is_at_limit-clause-none g c = λ _. none_at_limit c.bytes.invariant.on (c.in_ok-next_byte.ensures.none c.in-None.is) (c.is_at_limit.ensures.full c.if-is_at_limit.true)

pub returns-then-len-eq0-clause-none : goal.returns-then-len-eq0-clause-none
returns-then-len-eq0-clause-none g c = λ _. none_read c.bytes.invariant.on (c.in_ok-next_byte.ensures.none c.in-None.is) (no_items c.bytes.line.items (omega arith))

pub returns-in-None-clause-line : goal.returns-in-None-clause-line
returns-in-None-clause-line g c = λ _. line_last c.bytes.invariant.on (c.in_ok-next_byte.ensures.none c.in-None.is) (c.is_at_limit.ensures.less c.if-is_at_limit.false) (omega arith)

pub returns-then-b-eq-NEWLINE-clause-line : goal.returns-then-b-eq-NEWLINE-clause-line
returns-then-b-eq-NEWLINE-clause-line g c = λ _. line_given c.bytes.invariant.on (rw c.if-b-eq-NEWLINE.true at (rw c.in-Some.is at c.in_ok-next_byte.ensures.byte))

pub bytes-preserved-then-len-lt-KEPT : goal.bytes-preserved-then-len-lt-KEPT
bytes-preserved-then-len-lt-KEPT g c =
    let byte = rw c.in-Some.is at c.in_ok-next_byte.ensures.byte in
    let fewer = rw c.in-Some.is at c.in_ok-next_byte.ensures.budget in
    record {
      on = rw c.push.ensures.items (reads_short c.bytes.invariant.on byte c.if-b-eq-NEWLINE.false (omega arith));
      less = omega (arith, fewer);
      some = λ _. omega (arith, fewer);
      quiet = c.in_ok-next_byte.ensures.quiet ∙ c.bytes.invariant.quiet;
    }

pub bytes-preserved : goal.bytes-preserved
bytes-preserved g c =
    let byte = rw c.in-Some.is at c.in_ok-next_byte.ensures.byte in
    let fewer = rw c.in-Some.is at c.in_ok-next_byte.ensures.budget in
    record {
      on = reads_full c.bytes.invariant.on byte c.if-b-eq-NEWLINE.false (omega arith);
      less = omega (arith, fewer);
      some = λ _. omega (arith, fewer);
      quiet = c.in_ok-next_byte.ensures.quiet ∙ c.bytes.invariant.quiet;
    }
