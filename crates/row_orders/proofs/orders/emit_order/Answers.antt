use Rattle.std.proofs.Common.{◌≡◌, ◌+◌, ◌*◌, ◌/◌, ◌%◌, ◌<◌, [], ◌∷◌, ◌++◌, ◌∙◌, append_assoc, arith}
use Rattle.std.proofs.lemmas.Nat.{div-add-mod'}
use Rattle.micro_ir.specs.declared.op.MicroOp.TheVariants.{SetNum}
use Rattle.row_counts.specs.Lists.{first_element}
use Rattle.row_orders.specs.Kinds.{start_of, order_list}
use Rattle.row_orders.specs.Lists.{sources, begin_rows, order_bits}
use Rattle.row_orders.proofs.Costs.{order-spends}
use Rattle.row_orders.proofs.Spanned.{order-folds}
use Rattle.row_orders.proofs.Written.{length-of}
use Rattle.row_counts.proofs.Widths.{width-is, width-most}
use Rattle.row_orders.proofs.orders.emit_order.Goals as goal

pub emit_order_bits-requires-clause-room : goal.emit_order_bits-requires-clause-room
emit_order_bits-requires-clause-room g c =
    let e = length-of c.args.span.now g.W.Width.BITS (let h = g.met.W.Width.least in omega arith) in
    omega (arith, e, c.requires.room, c.push.ensures.spare, c.emit_beginnings.ensures.spare)

pub emit_first_element-requires-clause-room : goal.emit_first_element-requires-clause-room
emit_first_element-requires-clause-room g c =
    let e = length-of c.args.span.now g.W.Width.BITS (let h = g.met.W.Width.least in omega arith) in
    omega (arith, e, c.requires.room, c.push.ensures.spare, c.emit_beginnings.ensures.spare, c.emit_order_bits.ensures.spare)

pub returns-clause-ops : goal.returns-clause-ops
unfolding order_list
returns-clause-ops g c =
    let w = g.W.Width.BITS in
    let span = c.args.span.now in
    let n = span.regs + 1 in
    let src = sources span c.args.at.now.b in
    let start = start_of c.args.kind w in
    let one : c.push.new.self.ops ≡ c.args.buf.now.ops ++ SetNum start ∷ [] = rw c.start_of-start.ensures at c.push.ensures.ops in
    let two : c.emit_beginnings.new.buf.ops ≡ c.push.new.self.ops ++ begin_rows w src n = c.emit_beginnings.ensures.ops in
    let three : c.emit_order_bits.new.buf.ops ≡ c.emit_beginnings.new.buf.ops ++ order_bits w n src start w = rw c.start_of-start.ensures at c.emit_order_bits.ensures.ops in
    let last : c.emit_first_element.new.buf.ops ≡ c.emit_order_bits.new.buf.ops ++ first_element w span c.args.at.now.to = rw c.BITS.ensures at c.emit_first_element.ensures.ops in
    last ∙ rw (three, two, one) (simp append_assoc)

pub returns-clause-spare : goal.returns-clause-spare
returns-clause-spare g c =
    let e = length-of c.args.span.now g.W.Width.BITS (let h = g.met.W.Width.least in omega arith) in
    omega (arith, e, c.push.ensures.spare, c.emit_beginnings.ensures.spare, c.emit_order_bits.ensures.spare, c.emit_first_element.ensures.spare)

pub returns-clause-cost : goal.returns-clause-cost
returns-clause-cost g c =
    let w = g.W.Width.BITS in
    let met = g.met.W.Width in
    let some : 0 < w = let h = met.least in omega arith in
    order-spends c.args.kind w c.args.at.now c.args.span.now (width-is w g.W.Width.LOG met.power met.divides met.least) some (width-most w met.divides) c.requires.span.few c.requires.to

pub returns-clause-folds : goal.returns-clause-folds
returns-clause-folds g c =
    let w = g.W.Width.BITS in
    let met = g.met.W.Width in
    let some : 0 < w = let h = met.least in omega arith in
    let rest : 32 / w * w + 32 % w ≡ 32 = div-add-mod' 32 w in
    let lanes : 32 / w * w ≡ 32 = omega (arith, rest, met.divides) in
    order-folds c.args.kind w c.args.at.now.b c.args.span.now some lanes c.requires.b
