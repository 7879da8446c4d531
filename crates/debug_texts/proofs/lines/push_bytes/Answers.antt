use Rattle.std.proofs.Common.{◌≡◌, ℕ, ◌+◌, ◌%◌, ◌^◌, ◌++◌, arith, refl, sym, append-nil, append_assoc}
use Rattle.guest_mem.specs.Pages.{Pages, byte_at}
use Rattle.debug_texts.specs.ShownTexts.{memory_bytes, byte_text}
use Rattle.debug_texts.proofs.Pieces.{pieces_next}
use Rattle.debug_texts.proofs.lines.push_bytes.Goals as goal

memory_next : (pages : Pages) (address i : ℕ) → memory_bytes pages address (i + 1) ≡ memory_bytes pages address i ++ byte_text (byte_at pages ((address + i) % 2 ^ 32))
unfolding memory_bytes
memory_next pages address i = pieces_next (λ k. byte_text (byte_at pages ((address + k) % 2 ^ 32))) i

pub loop-i-init : goal.loop-i-init
unfolding memory_bytes
loop-i-init c = record { text = sym (append-nil _); room = omega arith }

pub loop-i-preserved : goal.loop-i-preserved
loop-i-preserved c = record {
  text = rw (c.push_byte.ensures.text, c.peek.ensures, c.loop-i.invariant.text, memory_next c.args.mem.now.pages c.args.address c.loop-i.i, append_assoc) refl;
  room = omega arith;
}
