use Rattle.std.proofs.Common.{◌≡◌, ◌∙◌, sym, refl, arith}
use Rattle.std.proofs.lemmas.List.{length-set, take_more_set}
use Rattle.guest_mem.proofs.Loads.{from_le_bytes-range_bytes}
use Rattle.guest_mem.proofs.Ranges.{range_bytes-none, range_bytes-more}
use Rattle.guest_mem.proofs.pages.Mem.gathered.Goals as goal

pub loop-k-init : goal.loop-k-init
loop-k-init c = record { whole = refl; front = sym (range_bytes-none c.args.self.now.pages c.args.address) }

pub loop-k-preserved : goal.loop-k-preserved
loop-k-preserved c =
    let k = c.loop-k.k in
    let word = c.loop-k.word in
    let more = range_bytes-more c.args.self.now.pages c.args.address k c.ranges.address.fits in
    record {
      whole = length-set word k c.unwrap_or.result ∙ c.loop-k.invariant.whole;
      front = take_more_set word k c.unwrap_or.result (omega arith) ∙ rw (more, c.loop-k.invariant.front, c.unwrap_or.ensures, c.peek.ensures) refl;
    }

pub returns : goal.returns
returns c =
    let done : c.loop-k.k ≡ c.args.len = omega arith in
    let bytes = rw done at c.loop-k.invariant.front in
    c.little_endian.ensures ∙ rw bytes (from_le_bytes-range_bytes c.args.self.now.pages c.args.address c.args.len c.requires)
