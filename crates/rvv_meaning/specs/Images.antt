-- The state that a machine starts in.
use Rattle.std.specs.Prelude.{ℕ, ◌/◌, ◌^◌, false, List, [], replicate, slice_set}
use Rattle.guest_mem.specs.Pages.{Memory}
use Rattle.vtype_cfg.specs.declared.configuration.Policy.{Policy}
use Rattle.rvv_meaning.specs.declared.Mode.TheVariants.{Running}
use Rattle.rvv_meaning.specs.declared.Csrs.{Csrs}
use Rattle.rvv_meaning.specs.States.{State, Core}

-- the top of the stack
abbrev pub stack_pointer : ℕ
stack_pointer = 0x7fffffc0

-- the control registers at the start: no setting is in force
abbrev pub start_csrs : ℕ → Csrs
start_csrs vlen = record { vstart = 0; vxrm = 0; vxsat = false; vl = 0; vtype = 2 ^ 31; vlen = vlen; retired = 0 }

-- What a machine holds at the start: all registers zero but x2, and its memory as it was loaded.
unfoldable pub start_core : (vlen : ℕ) → Policy → (pc : ℕ) → Memory → Core
start_core vlen policy pc mem = record {
  regs = slice_set (replicate 32 0) 2 stack_pointer;
  pc = pc;
  csrs = start_csrs vlen;
  mem = mem;
  vectors = replicate 32 (replicate (vlen / 8) 0);
  mode = Running;
  policy = policy;
}

-- the opening state: nothing is put out yet, and the whole input is left
unfoldable pub start_state : (vlen : ℕ) → Policy → (pc : ℕ) → Memory → List ℕ → State
start_state vlen policy pc mem input = record { core = start_core vlen policy pc mem; input = input; output = []; errors = []; joint = [] }
