-- How large the fields of an instruction are, and what its form may be.
use Rattle.std.specs.Prelude.{◌≡◌, ◌^◌, ◌<◌, ◌≤◌, ◌⊎◌, Bool, true, false}
use Rattle.rvv_decode.specs.declared.instruction.Form.TheVariants.{V}
use Rattle.rvv_decode.specs.declared.instruction.MemoryOp.{MemoryOp}
use Rattle.rvv_decode.specs.declared.instruction.OpiOp.TheVariants.{Vrgatherei16}
use Rattle.rvv_decode.specs.declared.instruction.OpmOp.TheVariants.{Vcompress}
use Rattle.rvv_decode.specs.declared.instruction.VInstr.{VInstr}
use Rattle.rvv_decode.specs.declared.instruction.VOp.{VOp}
use Rattle.rvv_decode.specs.declared.instruction.VOp.TheVariants.{Opi, Opm, Memory}

-- a load or a store has a field at least, and encodes a width
pub record IsAccess (i : VInstr) : Type 0 where
  pub some : 0 < i.nf
  pub eew : (i.eew ≡ 8) ⊎ ((i.eew ≡ 16) ⊎ (i.eew ≡ 32))

-- the operations that move elements by what a whole group or a whole mask in vs1 says: they have no other form
abbrev pub has_vectors_alone : VOp → Bool
has_vectors_alone (Opi Vrgatherei16) = true
has_vectors_alone (Opm Vcompress) = true
has_vectors_alone op = false

-- each field is as large as its place in a word lets it be
pub record IsInRange (i : VInstr) : Type 0 where
  pub vd : i.vd < 32
  pub vs1 : i.vs1 < 32
  pub vs2 : i.vs2 < 32
  pub nf : i.nf ≤ 8
  pub eew : (i.eew ≡ 0) ⊎ ((i.eew ≡ 8) ⊎ ((i.eew ≡ 16) ⊎ (i.eew ≡ 32)))
  pub zimm : i.zimm < 2 ^ 11
  pub form : has_vectors_alone i.op ≡ true → i.form ≡ V
  pub memory : (op : MemoryOp) → i.op ≡ Memory op → IsAccess i
