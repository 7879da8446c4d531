use Rattle.std.proofs.Common.{◌∙◌, ap, length, arith}
use Rattle.guest_mem.proofs.Loads.{from_le_bytes-range_bytes}
use Rattle.guest_mem.proofs.Ranges.{length-range_bytes}
use Rattle.guest_mem.proofs.pages.Mem.read_in_page.Goals as goal

pub little_endian-requires : goal.little_endian-requires
little_endian-requires c =
    let count = ap length c.in_ok-bytes.ensures.bytes ∙ length-range_bytes c.args.self.now.pages c.args.address c.args.len in
    omega (arith, count)

pub returns-clause-value : goal.returns-clause-value
returns-clause-value c =
    c.little_endian.ensures ∙ rw c.in_ok-bytes.ensures.bytes (from_le_bytes-range_bytes c.args.self.now.pages c.args.address c.args.len c.requires.few)
