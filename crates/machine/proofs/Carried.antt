-- Each kind of instruction, carried out by its method, is a step.
use Rattle.std.proofs.Common.{◌≡◌, ℕ, Bool, true, false, not, ◌&&◌, List, [], Option, Some, None, ◌⊎◌, inl, inr, ⊎_elim, refl, sym, ap, ◌∙◌, append-nil, arith}
use Rattle.std.specs.Prelude.{if◌then◌else◌, nat_eq}
use Rattle.std.specs.Io.KnownBytes.{Appends, Consumes}
use Rattle.std.proofs.lemmas.Bool.{false≢true}
use Rattle.cape_io.specs.Views.{DeviceViews, Devices}
use Rattle.cam_chain.specs.ChainValue.{slices_of}
use Rattle.micro_ir.specs.declared.op.MicroOp.{MicroOp}
use Rattle.rv32_decode.specs.declared.instruction.Instr.{Instr}
use Rattle.rvv_decode.specs.declared.instruction.ConfigOp.{ConfigOp}
use Rattle.rvv_decode.specs.declared.instruction.Form.{Form}
use Rattle.rvv_decode.specs.declared.instruction.VInstr.{VInstr}
use Rattle.rvv_decode.specs.declared.instruction.VOp.{VOp}
use Rattle.rvv_decode.specs.declared.instruction.VOp.TheVariants.{Opi, Opm, Config, Memory}
use Rattle.rvv_meaning.specs.declared.Meaning.TheVariants.{Scalar, Vector}
use Rattle.rvv_meaning.specs.declared.Mode.{Mode}
use Rattle.rvv_meaning.specs.declared.Flow.{Flow}
use Rattle.rvv_meaning.specs.declared.Flow.TheVariants.{Call as Calls}
use Rattle.rvv_meaning.specs.declared.Next.TheVariants.{Stop, Perform}
use Rattle.rvv_meaning.specs.Elementwise.{is_ones}
use Rattle.rvv_meaning.specs.Calls.{first, named_call, asked_by, put_by}
use Rattle.rvv_meaning.specs.States.{Core, next, core_after, call_at, call_by, asked, puts, effect_at, with_effect, after_flow, executed_vector, called, reg, vector_effect_at}
use Rattle.rvv_meaning.specs.Operations.{operation_for}
use Rattle.rvv_meaning.specs.VectorAccesses.{reads_memory, writes_memory}
use Rattle.rvv_meaning.specs.Vectors.{is_computed}
use Rattle.rvv_meaning.specs.Whole.{whole_for, makes_number}
use Rattle.rvv_meaning.proofs.Calling.{Rests, executed-rests}
use Rattle.guest_env.specs.Inputs.{Takes}
use Rattle.guest_env.specs.Outputs.{bytes_out, bytes_err, IsWritten}
use Rattle.guest_env.proofs.Writing.{written-none}
use Rattle.cape_io.specs.declared.devices.Sink.{Ghosts}
use Rattle.vec_exec.specs.Programs.{is_engine, is_engine_op}
use Rattle.machine.specs.Moments.{Held, program_for, program_at, moves_by, moves_elements, loaded_at, with_registers, slices_by, counts_by, control_by}
use Rattle.machine.specs.Views.{CallsAt, gains_out, gains_err}
use Rattle.machine.specs.Carrying.{CarriesTaking, CallsTaking, call_out, call_err}

pub appends_none : (held : Option (List ℕ)) → Appends held held []
appends_none None = tt
appends_none (Some bytes) = sym (append-nil bytes)

consumes_none : (left : Option (List ℕ)) → Consumes left left []
consumes_none None = tt
consumes_none (Some bytes) = refl

-- nothing is taken where nothing is asked for
takes_none : (left : Option (List ℕ)) → Takes 0 left left []
takes_none left = record { bound = omega arith; consumed = consumes_none left; known = λ bytes is. refl }

either_way : (b : Bool) (xs : List ℕ) → (if b then xs else xs) ≡ xs
either_way true xs = refl
either_way false xs = refl

gains_out-none : (merged : Bool) (c : Core) → puts c ≡ [] → gains_out merged c ≡ []
gains_out-none true c none = refl
gains_out-none false c none = rw none (either_way (nat_eq (reg c 10) 1) [])

gains_err-none : (merged : Bool) (c : Core) → puts c ≡ [] → gains_err merged c ≡ []
gains_err-none true c none = none
gains_err-none false c none = rw none (either_way (nat_eq (reg c 10) 2) [])

-- merged, the first sink gains nothing
pub none_merged : (merged : Bool) (c : Core) → merged ≡ true → gains_out merged c ≡ []
none_merged merged c is = rw is refl

-- a step without a call asks for nothing and puts nothing
no_asking : (c : Core) → call_at c ≡ None → asked c ≡ 0
unfolding asked
no_asking c none = rw none refl

no_puts : (c : Core) → call_at c ≡ None → puts c ≡ []
unfolding puts
no_puts c none = rw none refl

quiet_takes : (c : Core) (left : Option (List ℕ)) → call_at c ≡ None → Takes (asked c) left left []
quiet_takes c left none = rw (no_asking c none) (takes_none left)

-- and its sinks take no byte
pub quiet-out : {K : Type 0} (k : Ghosts K) (a : ℕ) (merged : Bool) (c : Core) (sink : K) → call_at c ≡ None → IsWritten k a (gains_out merged c) true sink sink
quiet-out k a merged c sink none = rw (gains_out-none merged c (no_puts c none)) (written-none k a true sink)

pub quiet-err : {K : Type 0} (k : Ghosts K) (a : ℕ) (merged : Bool) (c : Core) (sink : K) → call_at c ≡ None → IsWritten k a (gains_err merged c) true sink sink
quiet-err k a merged c sink none = rw (gains_err-none merged c (no_puts c none)) (written-none k a true sink)

-- an ecall changes nothing by itself
pub still : (i : Instr) (c : Core) → (effect_at i c).flow ≡ Calls → with_effect (effect_at i c) c ≡ c
still i c is =
    let rests = executed-rests i c.pc c.regs c.csrs c.mem in
    rw (Rests.regs_rest rests is, Rests.csrs_rest rests is, Rests.mem_rests rests is) refl

-- what it asks for, and what it puts
pub call_asks : (i : Instr) (c : Core) → next c ≡ Perform (Scalar i) → (effect_at i c).flow ≡ Calls → asked c ≡ asked_by (named_call c.regs) c.regs c.mem
unfolding asked call_at
call_asks i c there is = rw (there, is) refl

call_puts : (i : Instr) (c : Core) → next c ≡ Perform (Scalar i) → (effect_at i c).flow ≡ Calls → puts c ≡ put_by (named_call c.regs) c.regs c.mem
unfolding puts call_at
call_puts i c there is = rw (there, is) refl

-- a method that leaves the program of the last step leaves none where there was none
pub emptied : (old new : Held) (core : Core) → old.last ≡ [] → new ≡ record old { core = core } → new ≡ record old { core = core; last = [] }
emptied old new core none is = is ∙ ap (λ (ops : List MicroOp). record old { core = core; last = ops }) none

-- a load or a store has no program, and a store loads nothing
abbrev is_memory : VOp → Bool
is_memory (Memory op) = true
is_memory op = false

moves-memory : (op : VOp) → (reads_memory op ≡ true) ⊎ (writes_memory op ≡ true) → is_memory op ≡ true
moves-memory (Memory op) which = refl
moves-memory (Opi op) which = ⊎_elim (λ (never : false ≡ true). never) (λ (never : false ≡ true). never) which
moves-memory (Opm op) which = ⊎_elim (λ (never : false ≡ true). never) (λ (never : false ≡ true). never) which
moves-memory (Config op) which = ⊎_elim (λ (never : false ≡ true). never) (λ (never : false ≡ true). never) which

no-program : (op : VOp) (form : Form) → is_memory op ≡ true → is_engine_op op form ≡ false
no-program (Memory op) form memory = refl
no-program (Opi op) form memory = absurd (false≢true memory)
no-program (Opm op) form memory = absurd (false≢true memory)
no-program (Config op) form memory = refl

-- ---- what writes registers without a program

-- an instruction with a program does not
program-moves : (op : VOp) → is_computed op ≡ true → moves_by op true ≡ false
unfolding operation_for whole_for
program-moves (Opi op) computed = refl
program-moves (Opm op) computed = refl
program-moves (Config op) computed = refl
program-moves (Memory op) computed = absurd (false≢true computed)

-- a load does, and a store does not
load-moves : (op : VOp) (engine : Bool) → reads_memory op ≡ true → moves_by op engine ≡ true
load-moves (Memory op) engine reads = reads
load-moves (Opi op) engine reads = absurd (false≢true reads)
load-moves (Opm op) engine reads = absurd (false≢true reads)
load-moves (Config op) engine reads = absurd (false≢true reads)

store-moves : (op : VOp) (engine : Bool) → writes_memory op ≡ true → moves_by op engine ≡ false
store-moves (Memory op) engine writes = rw writes refl
store-moves (Opi op) engine writes = absurd (false≢true writes)
store-moves (Opm op) engine writes = absurd (false≢true writes)
store-moves (Config op) engine writes = refl

-- nor does an instruction that makes a number; what else is computed does
number-moves : (op : VOp) (engine : Bool) → is_computed op ≡ true → makes_number op ≡ true → moves_by op engine ≡ false
unfolding operation_for whole_for
number-moves (Opi op) engine computed makes = absurd (false≢true makes)
number-moves (Opm op) engine computed makes = rw makes (either engine)
  where
    either : (b : Bool) → (not b && false) ≡ false
    either true = refl
    either false = refl
number-moves (Config op) engine computed makes = refl
number-moves (Memory op) engine computed makes = absurd (false≢true computed)

else-moves : (op : VOp) → is_computed op ≡ true → makes_number op ≡ false → moves_by op false ≡ true
unfolding operation_for whole_for
else-moves (Opi op) computed makes = refl
else-moves (Opm op) computed makes = rw makes refl
else-moves (Config op) computed makes = absurd (false≢true computed)
else-moves (Memory op) computed makes = absurd (false≢true computed)

-- an instruction that is no call, by what comes at pc
pub stop-quiet : (mode : Mode) (c : Core) → next c ≡ Stop mode → call_at c ≡ None
unfolding call_at
stop-quiet mode c there = rw there refl

pub vector-quiet : (i : VInstr) (c : Core) → next c ≡ Perform (Vector i) → call_at c ≡ None
unfolding call_at
vector-quiet i c there = rw there refl

pub scalar-quiet : (i : Instr) (flow : Flow) (c : Core) → next c ≡ Perform (Scalar i) → (effect_at i c).flow ≡ flow → call_by flow c.regs ≡ None → call_at c ≡ None
unfolding call_at
scalar-quiet i flow c there goes plain = rw (there, goes) plain

module _ (old new : Held) (v : DeviceViews) where
  -- devices that stay as they were
  abbrev same : Devices
  same = record { old = v; new = v }

  -- the machine stopped
  pub carries-stop : (mode : Mode) → next old.core ≡ Stop mode → new ≡ record old { core = record old.core { mode = mode }; last = [] } → CarriesTaking old new [] same
  unfolding core_after program_at loaded_at
  carries-stop mode there is =
      rw is record {
        core = rw there refl;
        slices = rw there refl;
        last = rw there refl;
        counts = rw there refl;
        control = rw there refl;
        live = refl;
        took = quiet_takes old.core v.input.left (stop-quiet mode old.core there);
        quiet = refl;
      }

  -- a scalar instruction that is no call
  pub carries-scalar : (i : Instr) (flow : Flow) → next old.core ≡ Perform (Scalar i) → (effect_at i old.core).flow ≡ flow → call_by flow old.core.regs ≡ None
      → new ≡ record old { core = after_flow flow (with_effect (effect_at i old.core) old.core) []; last = [] } → CarriesTaking old new [] same
  unfolding core_after program_at loaded_at
  carries-scalar i flow there goes plain is =
      rw is record {
        core = rw (there, goes) refl;
        slices = rw there refl;
        last = rw there refl;
        counts = rw there refl;
        control = rw there refl;
        live = refl;
        took = quiet_takes old.core v.input.left (scalar-quiet i flow old.core there goes plain);
        quiet = refl;
      }

  -- a configuration
  pub carries-configuration : (op : ConfigOp) (i : VInstr) → next old.core ≡ Perform (Vector i) → i.op ≡ Config op → new ≡ record old { core = executed_vector i old.core; last = [] }
      → CarriesTaking old new [] same
  unfolding core_after program_at loaded_at is_engine
  carries-configuration op i there named is =
      rw is record {
        core = rw (there, named) refl;
        slices = rw (there, named) refl;
        last = rw (there, named) refl;
        counts = rw (there, named) refl;
        control = rw (there, named) refl;
        live = refl;
        took = quiet_takes old.core v.input.left (vector-quiet i old.core there);
        quiet = refl;
      }

  -- an instruction with a program
  pub carries-program : (i : VInstr) → next old.core ≡ Perform (Vector i) → is_computed i.op ≡ true → is_engine i ≡ true
      → new.core ≡ executed_vector i old.core
      → slices_of new.chain ≡ slices_by (Some (program_for i old.core)) (slices_of old.chain)
      → new.last ≡ program_for i old.core
      → new.chain.counts ≡ counts_by (Some (program_for i old.core)) old.chain.counts
      → new.control ≡ control_by (Some (program_for i old.core)) (slices_of old.chain) old.control
      → new.live ≡ old.live
      → CarriesTaking old new [] same
  unfolding core_after program_at loaded_at
  carries-program i there computed runs core slices last counts control live =
      record {
        core = core ∙ rw there refl;
        slices = slices ∙ rw (there, runs, program-moves i.op computed) refl;
        last = last ∙ rw (there, runs) refl;
        counts = counts ∙ rw (there, runs) refl;
        control = control ∙ rw (there, runs) refl;
        live = live;
        took = quiet_takes old.core v.input.left (vector-quiet i old.core there);
        quiet = refl;
      }

  -- an instruction that writes vector registers without a program
  pub carries-moved : (i : VInstr) → next old.core ≡ Perform (Vector i) → is_engine i ≡ false → moves_elements i ≡ true
      → new.core ≡ executed_vector i old.core
      → slices_of new.chain ≡ with_registers ((vector_effect_at i old.core).vectors (λ element. is_ones old.core.policy)) (slices_of old.chain)
      → new ≡ record old { core = new.core; chain = new.chain; last = [] }
      → new.chain.counts ≡ old.chain.counts
      → CarriesTaking old new [] same
  unfolding core_after program_at loaded_at
  carries-moved i there quiet moves core slices rest counts =
      record {
        core = core ∙ rw there refl;
        slices = slices ∙ rw (there, moves, quiet) refl;
        last = ap (λ (h : Held). h.last) rest ∙ rw (there, quiet) refl;
        counts = counts ∙ rw (there, quiet) refl;
        control = ap (λ (h : Held). h.control) rest ∙ rw (there, quiet) refl;
        live = ap (λ (h : Held). h.live) rest;
        took = quiet_takes old.core v.input.left (vector-quiet i old.core there);
        quiet = refl;
      }

  -- and one that writes none, and has none
  pub carries-else : (i : VInstr) → next old.core ≡ Perform (Vector i) → is_engine i ≡ false → moves_elements i ≡ false
      → new ≡ record old { core = executed_vector i old.core; last = [] }
      → CarriesTaking old new [] same
  unfolding core_after program_at loaded_at
  carries-else i there quiet stays is =
      rw is record {
        core = rw there refl;
        slices = rw (there, stays, quiet) refl;
        last = rw (there, quiet) refl;
        counts = rw (there, quiet) refl;
        control = rw (there, quiet) refl;
        live = refl;
        took = quiet_takes old.core v.input.left (vector-quiet i old.core there);
        quiet = refl;
      }

  -- a load, and a store
  pub carries-load : (i : VInstr) → next old.core ≡ Perform (Vector i) → reads_memory i.op ≡ true
      → new.core ≡ executed_vector i old.core
      → slices_of new.chain ≡ with_registers ((vector_effect_at i old.core).vectors (λ element. is_ones old.core.policy)) (slices_of old.chain)
      → new ≡ record old { core = new.core; chain = new.chain; last = [] }
      → new.chain.counts ≡ old.chain.counts
      → CarriesTaking old new [] same
  unfolding is_engine
  carries-load i there loads = carries-moved i there (no-program i.op i.form (moves-memory i.op (inl loads))) (load-moves i.op _ loads)

  pub carries-store : (i : VInstr) → next old.core ≡ Perform (Vector i) → writes_memory i.op ≡ true
      → new ≡ record old { core = executed_vector i old.core; last = [] }
      → CarriesTaking old new [] same
  unfolding is_engine
  carries-store i there stores = carries-else i there (no-program i.op i.form (moves-memory i.op (inr stores))) (store-moves i.op _ stores)

  -- the number of an element into a scalar register
  pub carries-number : (i : VInstr) → next old.core ≡ Perform (Vector i) → is_computed i.op ≡ true → is_engine i ≡ false → makes_number i.op ≡ true
      → new ≡ record old { core = executed_vector i old.core; last = [] }
      → CarriesTaking old new [] same
  carries-number i there computed quiet makes = carries-else i there quiet (number-moves i.op _ computed makes)

  -- elements that are moved without a program
  pub carries-permuted : (i : VInstr) → next old.core ≡ Perform (Vector i) → is_computed i.op ≡ true → is_engine i ≡ false → makes_number i.op ≡ false
      → new.core ≡ executed_vector i old.core
      → slices_of new.chain ≡ with_registers ((vector_effect_at i old.core).vectors (λ element. is_ones old.core.policy)) (slices_of old.chain)
      → new ≡ record old { core = new.core; chain = new.chain; last = [] }
      → new.chain.counts ≡ old.chain.counts
      → CarriesTaking old new [] same
  carries-permuted i there computed quiet makes = carries-moved i there quiet (ap (moves_by i.op) quiet ∙ else-moves i.op computed makes)

module _ (i : Instr) (c : Core) (there : next c ≡ Perform (Scalar i)) (is : (effect_at i c).flow ≡ Calls) where
  -- the bytes that the sinks gain of a call
  pub call_gains_out : (merged : Bool) → gains_out merged c ≡ call_out merged c
  call_gains_out merged = ap (λ (bytes : List ℕ). bytes_out merged (first c.regs) bytes) (call_puts i c there is)

  pub call_gains_err : (merged : Bool) → gains_err merged c ≡ call_err merged c
  call_gains_err merged = ap (λ (bytes : List ℕ). bytes_err merged (first c.regs) bytes) (call_puts i c there is)

  -- the instruction at pc makes it
  pub calls-at : CallsAt c
  unfolding call_at
  calls-at = rw (there, is) refl

-- a call that went
pub carries-call : (old new : Held) (d : Devices) (i : Instr) → next old.core ≡ Perform (Scalar i) → (effect_at i old.core).flow ≡ Calls
    → old.last ≡ [] → (taken : List ℕ) → CallsTaking old new taken d → CarriesTaking old new taken d
unfolding core_after program_at loaded_at
carries-call old new d i there is none taken w =
    rw (emptied old new (called old.core taken) none w.leaves) record {
      core = rw (there, is, still i old.core is) refl;
      slices = rw there refl;
      last = rw there refl;
      counts = rw there refl;
      control = rw there refl;
      live = refl;
      took = rw (call_asks i old.core there is) w.took;
      quiet = w.quiet;
    }
