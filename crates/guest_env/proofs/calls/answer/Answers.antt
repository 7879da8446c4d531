use Rattle.std.proofs.Common.{◌<◌, [], refl, sym, ◌∙◌, eqb-true, arith}
use Rattle.rvv_meaning.specs.Calls.{asked_by, put_by, answer_of, memory_after}
use Rattle.guest_env.proofs.Taking.{takes-none}
use Rattle.guest_env.proofs.Answering.{asked_by-other, unwritten-out, unwritten-err, read-number, write-number}
use Rattle.guest_env.proofs.calls.answer.Goals as goal

pub returns-in-Ok-clause-answered : goal.returns-in-Ok-clause-answered
unfolding asked_by answer_of memory_after
returns-in-Ok-clause-answered g c =
    let read = c.in-Ok.ensures.answered in
    record {
      taken = read.taken;
      took = rw (c.in-Read.is, ← c.get-first.ensures.value, ← c.get-second.ensures.value, ← c.get-third.ensures.value) read.took;
      quiet = c.in-Ok.ensures.quiet;
      answers = rw (c.in-Read.is, ← c.get-first.ensures.value, ← c.get-second.ensures.value, ← c.get-third.ensures.value) read.answers;
      memory = rw (c.in-Read.is, ← c.get-second.ensures.value) read.stored;
    }

pub returns-in-Ok-clause-input_stays : goal.returns-in-Ok-clause-input_stays
unfolding asked_by
returns-in-Ok-clause-input_stays g c = rw (c.in-Read.is, ← c.get-first.ensures.value, ← c.get-second.ensures.value, ← c.get-third.ensures.value) c.read.ensures.stays

pub returns-in-Err-clause-input_stays : goal.returns-in-Err-clause-input_stays
unfolding asked_by
returns-in-Err-clause-input_stays g c = rw (c.in-Read.is, ← c.get-first.ensures.value, ← c.get-second.ensures.value, ← c.get-third.ensures.value) c.read.ensures.stays

pub returns-in-Err-clause-read_fault : goal.returns-in-Err-clause-read_fault
unfolding memory_after
returns-in-Err-clause-read_fault g c = λ is.
    let stands = c.in-Err.ensures.stands in
    let some : 0 < c.get-third.result = omega (arith, stands.1) in
    record {
      asked = record {
        is_read = read-number _ (sym c.requires ∙ c.in-Read.is);
        descriptor = rw (← c.get-first.ensures.value) (eqb-true _ _ c.in-Err.ensures.allowed);
        some = rw (← c.get-third.ensures.value) some;
        inside = rw (← c.get-second.ensures.value, ← c.get-third.ensures.value) c.in-Err.ensures.inside;
      };
      rose = c.in-Err.ensures.rose;
      stands = rw (← c.get-second.ensures.value, ← c.get-third.ensures.value) stands;
    }

pub returns-in-Ok-write-clause-answered : goal.returns-in-Ok-write-clause-answered
unfolding asked_by answer_of memory_after
returns-in-Ok-write-clause-answered g c = record {
  taken = [];
  took = rw c.in-Write.is (takes-none _);
  quiet = refl;
  answers = rw (c.in-Write.is, ← c.get-first.ensures.value, ← c.get-second.ensures.value, ← c.get-third.ensures.value) c.in-Ok-write.ensures.answer;
  memory = rw c.in-Write.is refl;
}

pub returns-in-Ok-write-clause-to_out : goal.returns-in-Ok-write-clause-to_out
unfolding put_by
returns-in-Ok-write-clause-to_out g c = rw (c.in-Write.is, ← c.get-first.ensures.value, ← c.get-second.ensures.value, ← c.get-third.ensures.value) c.in-Ok-write.ensures.to_out

pub returns-in-Ok-write-clause-to_err : goal.returns-in-Ok-write-clause-to_err
unfolding put_by
returns-in-Ok-write-clause-to_err g c = rw (c.in-Write.is, ← c.get-first.ensures.value, ← c.get-second.ensures.value, ← c.get-third.ensures.value) c.in-Ok-write.ensures.to_err

pub returns-in-Err-write-clause-to_out : goal.returns-in-Err-write-clause-to_out
unfolding put_by
returns-in-Err-write-clause-to_out g c = rw (c.in-Write.is, ← c.get-first.ensures.value, ← c.get-second.ensures.value, ← c.get-third.ensures.value) c.in-Err-write.ensures.to_out

pub returns-in-Err-write-clause-to_err : goal.returns-in-Err-write-clause-to_err
unfolding put_by
returns-in-Err-write-clause-to_err g c = rw (c.in-Write.is, ← c.get-first.ensures.value, ← c.get-second.ensures.value, ← c.get-third.ensures.value) c.in-Err-write.ensures.to_err

pub returns-in-Err-write-clause-write_fault : goal.returns-in-Err-write-clause-write_fault
returns-in-Err-write-clause-write_fault g c = λ is.
    record {
      asked = record {
        is_write = write-number _ (sym c.requires ∙ c.in-Write.is);
        descriptor = rw (← c.get-first.ensures.value) c.in-Err-write.ensures.allowed;
        some = rw (← c.get-third.ensures.value) c.in-Err-write.ensures.some;
        inside = rw (← c.get-second.ensures.value, ← c.get-third.ensures.value) c.in-Err-write.ensures.inside;
      };
      rose = rw (← c.get-first.ensures.value) c.in-Err-write.ensures.rose;
      stays = refl;
    }

pub returns-in-Ok-clause-to_out : goal.returns-in-Ok-clause-to_out
returns-in-Ok-clause-to_out g c = let here = c.in-Read.is in unwritten-out c.args.call c.args.regs.now c.args.mem.now c.args.merged (λ write. cc) _ _ _ _

pub returns-in-Ok-clause-to_err : goal.returns-in-Ok-clause-to_err
returns-in-Ok-clause-to_err g c = let here = c.in-Read.is in unwritten-err c.args.call c.args.regs.now c.args.mem.now c.args.merged (λ write. cc) _ _ _ _

pub returns-in-Err-clause-to_out : goal.returns-in-Err-clause-to_out
returns-in-Err-clause-to_out g c = let here = c.in-Read.is in unwritten-out c.args.call c.args.regs.now c.args.mem.now c.args.merged (λ write. cc) _ _ _ _

pub returns-in-Err-clause-to_err : goal.returns-in-Err-clause-to_err
returns-in-Err-clause-to_err g c = let here = c.in-Read.is in unwritten-err c.args.call c.args.regs.now c.args.mem.now c.args.merged (λ write. cc) _ _ _ _

pub returns-in_default-clause-answered : goal.returns-in_default-clause-answered
returns-in_default-clause-answered g c = record {
  taken = [];
  took = rw (asked_by-other c.args.call c.args.regs.now c.args.mem.now c.in_default.not-Read) (takes-none _);
  quiet = refl;
  answers = c.answer_alone.ensures.answer;
  memory = c.answer_alone.ensures.memory;
}

pub returns-in_default-clause-to_out : goal.returns-in_default-clause-to_out
returns-in_default-clause-to_out g c = unwritten-out c.args.call c.args.regs.now c.args.mem.now c.args.merged c.in_default.not-Write _ _ _ _

pub returns-in_default-clause-to_err : goal.returns-in_default-clause-to_err
returns-in_default-clause-to_err g c = unwritten-err c.args.call c.args.regs.now c.args.mem.now c.args.merged c.in_default.not-Write _ _ _ _
