-- The premises on an access can be met.
use Rattle.std.proofs.Common.{ℕ, false, refl, arith, inl, inr}
use Rattle.vtype_cfg.specs.declared.configuration.Cfg.{Cfg}
use Rattle.vtype_cfg.specs.declared.configuration.Policy.TheVariants.{Keep}
use Rattle.rvv_meaning.specs.declared.accesses.Offset.TheVariants.{Step, Index}
use Rattle.rvv_meaning.specs.declared.accesses.Access.{Access}
use Rattle.vec_mem.specs.Steps.{Fits, FitsLoad}
use Rattle.vec_mem.proofs.Overlaps.{spared}

setting : (sew vlen vstart vl : ℕ) → Cfg
setting sew vlen vstart vl = record { vtype = record { vill = false; vta = false; vma = false; sew = sew; lmul8 = 8 }; vl = vl; vstart = vstart; vxrm = 0; vlen = vlen; policy = Keep }

-- a segment of three fields
abbrev segments : Access
segments = record { register = 2; registers = 1; fields = 3; width = 8; len = 8; masked = false; agnostic_tail = false; trims = false; offset = Step 3 }

can_load : Fits (setting 8 1024 0 8) segments × FitsLoad (setting 8 1024 0 8) segments
unfolding setting
can_load = (
  record {
    size = inl refl;
    whole = refl;
    few = omega arith;
    some = omega arith;
    room = omega arith;
    register = omega arith;
    len = omega arith;
    short = omega arith;
    vlen = omega arith;
    wide = omega arith;
    offset = tt;
  },
  record { mask = λ e. cc; index = tt },
)

-- vluxei8.v v2, (x10), v3 at e16, m2 would have its index in the last register of the destination
indexed : Access
indexed = record { register = 2; registers = 2; fields = 1; width = 16; len = 128; masked = false; agnostic_tail = false; trims = false; offset = Index 3 8 }

wide_setting : Cfg
wide_setting = record { vtype = record { vill = false; vta = false; vma = false; sew = 16; lmul8 = 16 }; vl = 128; vstart = 0; vxrm = 0; vlen = 1024; policy = Keep }

can_index : FitsLoad wide_setting indexed
unfolding indexed wide_setting
can_index = record {
  mask = λ e. cc;
  index = λ e k inside within. spared 128 3 1 1 128 indexed e k (inr (inr (inr (refl, refl, omega arith, refl, refl)))) (omega arith) inside within;
}
