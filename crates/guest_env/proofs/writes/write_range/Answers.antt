use Rattle.std.proofs.Common.{◌≡◌, ◌+◌, ◌-◌, ◌%◌, ◌^◌, ◌<◌, ◌≤◌, true, false, None, refl, ◌∙◌, arith}
use Rattle.std.proofs.lemmas.Result.{err_from_is_err_and}
use Rattle.guest_mem.proofs.Ranges.{first_bad-mapped_start, first_bad_rest, range_bytes-none}
use Rattle.guest_env.proofs.Writing.{is-none, written-none, range-more, range-failed}
use Rattle.guest_env.proofs.writes.write_range.Goals as goal

pub loop-left-init : goal.loop-left-init
loop-left-init g c = record {
  continues = λ went end written. written;
  readable = c.requires;
  some = λ some. some;
  quiet = refl;
}

pub bytes_in_page-requires-clause-mapped : goal.bytes_in_page-requires-clause-mapped
bytes_in_page-requires-clause-mapped g c =
    first_bad-mapped_start c.args.mem.now.pages 4 c.loop-left.at c.loop-left.left (omega arith) (is-none _ c.loop-left.invariant.readable) (omega arith)

pub loop-left-preserved : goal.loop-left-preserved
loop-left-preserved g c =
    let pages = c.args.mem.now.pages in
    let len = c.min-len.result in
    record {
      continues = λ went end written. c.loop-left.invariant.continues went end
          (range-more g.K.Sink pages c.loop-left.at c.loop-left.left len (omega arith) (omega arith) (omega arith) (omega arith) (λ less. omega (arith, less)) went c.loop-left.sink c.put.new.self end
          (rw (← c.bytes_in_page.ensures) c.in_ok-put.ensures.gives) (rw (← c.bytes_in_page.ensures) c.in_ok-put.ensures.whole) c.in_ok-put.ensures.quiet written);
      readable = rw (first_bad_rest pages 4 c.loop-left.at len c.loop-left.left (omega arith) (omega arith) (is-none _ c.loop-left.invariant.readable)) refl;
      some = λ more. c.loop-left.invariant.some (omega arith);
      quiet = c.in_ok-put.ensures.quiet ∙ c.loop-left.invariant.quiet;
    }

pub returns-in_err-put-clause-written : goal.returns-in_err-put-clause-written
returns-in_err-put-clause-written g c =
    let p = err_from_is_err_and c.from_residual.result c.from_residual.ensures.1 in
    rw p.1 (c.loop-left.invariant.continues false c.put.new.self
    (range-failed g.K.Sink c.args.mem.now.pages c.loop-left.at c.loop-left.left c.min-len.result (omega arith) (omega arith) (omega arith) (omega arith) (λ less. omega (arith, less)) c.loop-left.sink c.put.new.self
    (rw (← c.bytes_in_page.ensures) c.in_err-put.ensures.gives) (rw (← c.bytes_in_page.ensures) c.in_err-put.ensures.prefix)))

pub returns-clause-written : goal.returns-clause-written
returns-clause-written g c =
    let none : c.loop-left.left ≡ 0 = omega arith in
    c.loop-left.invariant.continues true c.loop-left.sink (rw (none, range_bytes-none c.args.mem.now.pages c.loop-left.at) (written-none g.K.Sink c.loop-left.at true c.loop-left.sink))
