use Rattle.std.proofs.Common.{◌≡◌, ◌+◌, ◌-◌, ◌*◌, ◌<◌, true, sym, ◌∙◌, arith}
use Rattle.bit_rows.specs.Words.{word_bit}
use Rattle.steer_net.specs.Network.{is_packed, top_bit}
use Rattle.steer_net.proofs.SubarrayRows.{named_bit, unnamed_bit, named_below, top_below}
use Rattle.steer_net.proofs.packing.pack_column.Goals as goal

pub overflow_mul-number : goal.overflow_mul-number
overflow_mul-number g c = let h = c.requires.few in rw c.from.ensures (omega (arith, c.requires.column))

pub overflow_add-number : goal.overflow_add-number
overflow_add-number g c = let h = c.requires.few in rw (c.from.ensures, c.from-2.ensures) (omega (arith, c.requires.column, c.requires.sub))

pub overflow_mul-top : goal.overflow_mul-top
overflow_mul-top g c =
    let s = g.P.Planes.slices c.args.p.now in
    let n = c.args.col * 32 + c.args.sub in
    let named : is_packed c.args.under c.args.width c.args.first s n ≡ true = rw (c.from.ensures, c.from-2.ensures) at (sym c.is_named.ensures ∙ c.if-is_named.true) in
    let below : (n - c.args.first) * c.args.width + (c.args.width - 1) < 32 * s.columns = top_below c.args.width s.columns (n - c.args.first) c.requires.width (named_below c.args.under c.args.width c.args.first n s named) in
    let h = c.requires.few in
    rw (c.from.ensures, c.from-2.ensures, c.from-then-is_named.ensures) (omega arith)

pub overflow_add-top : goal.overflow_add-top
overflow_add-top g c =
    let s = g.P.Planes.slices c.args.p.now in
    let n = c.args.col * 32 + c.args.sub in
    let named : is_packed c.args.under c.args.width c.args.first s n ≡ true = rw (c.from.ensures, c.from-2.ensures) at (sym c.is_named.ensures ∙ c.if-is_named.true) in
    let below : (n - c.args.first) * c.args.width + (c.args.width - 1) < 32 * s.columns = top_below c.args.width s.columns (n - c.args.first) c.requires.width (named_below c.args.under c.args.width c.args.first n s named) in
    let h = c.requires.few in
    rw (c.from.ensures, c.from-2.ensures, c.from-then-is_named.ensures, c.from-then-is_named-2.ensures) (omega arith)

pub row_bit-requires : goal.row_bit-requires
row_bit-requires g c =
    let s = g.P.Planes.slices c.args.p.now in
    let n = c.args.col * 32 + c.args.sub in
    let named : is_packed c.args.under c.args.width c.args.first s n ≡ true = rw (c.from.ensures, c.from-2.ensures) at (sym c.is_named.ensures ∙ c.if-is_named.true) in
    let below : (n - c.args.first) * c.args.width + (c.args.width - 1) < 32 * s.columns = top_below c.args.width s.columns (n - c.args.first) c.requires.width (named_below c.args.under c.args.width c.args.first n s named) in
    record { row = c.requires.from; number = rw (c.from.ensures, c.from-2.ensures, c.from-then-is_named.ensures, c.from-then-is_named-2.ensures) below }

pub put_column-requires : goal.put_column-requires
put_column-requires g c = let h = c.requires.few in omega (arith, c.requires.column)

pub returns-then-is_named : goal.returns-then-is_named
returns-then-is_named g c k =
    let s = g.P.Planes.slices c.args.p.now in
    let n = c.args.col * 32 + c.args.sub in
    let named : is_packed c.args.under c.args.width c.args.first s n ≡ true = rw (c.from.ensures, c.from-2.ensures) at (sym c.is_named.ensures ∙ c.if-is_named.true) in
    let below : (n - c.args.first) * c.args.width + (c.args.width - 1) < 32 * s.columns = top_below c.args.width s.columns (n - c.args.first) c.requires.width (named_below c.args.under c.args.width c.args.first n s named) in
    named_bit k c.args.col (is_packed c.args.under c.args.width c.args.first s n) (top_bit c.args.width s c.args.from (n - c.args.first)) c.row_bit.result (word_bit c.args.words.now k) (word_bit c.put_column.new.words k)
    (c.put_column.ensures k) named (rw (c.from.ensures, c.from-2.ensures, c.from-then-is_named.ensures, c.from-then-is_named-2.ensures) at c.row_bit.ensures)

pub returns-else-is_named : goal.returns-else-is_named
returns-else-is_named g c k =
    let s = g.P.Planes.slices c.args.p.now in
    let n = c.args.col * 32 + c.args.sub in
    unnamed_bit k c.args.col (is_packed c.args.under c.args.width c.args.first s n) (top_bit c.args.width s c.args.from (n - c.args.first)) (word_bit c.args.words.now k)
    (rw (c.from.ensures, c.from-2.ensures) at (sym c.is_named.ensures ∙ c.if-is_named.false))
