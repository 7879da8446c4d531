-- The listing of a word: the mnemonic and the operands of the row that it fits.
use Rattle.std.specs.Prelude.{ℕ, ◌+◌, ◌-◌, ◌/◌, ◌^◌, ◌==◌, nat_lt, if◌then◌else◌, Bool, true, false, List, [], ◌∷◌, ◌++◌, codes, Option, Some, None}
use Rattle.std.specs.Fmt.{decimal}
use Rattle.word_rows.specs.Field.{sign_extended}
use Rattle.rv32_decode.specs.declared.instruction.Instr.{Instr}
use Rattle.rv32_decode.specs.Rows.{means}
use Rattle.rvv_decode.specs.Rows.{means as means_vector}
use Rattle.rvv_decode.specs.declared.instruction.VInstr.{VInstr}
use Rattle.rvv_decode.specs.declared.instruction.VOp.{VOp}
use Rattle.rvv_decode.specs.declared.instruction.VOp.TheVariants.{Opi, Opm, Config, Memory}
use Rattle.rvv_decode.specs.declared.instruction.Form.{Form}
use Rattle.rvv_decode.specs.declared.instruction.Form.TheVariants.{V as FromVector, X as FromScalarReg, I as FromImmediate}
use Rattle.rvv_decode.specs.declared.instruction.ConfigOp.{ConfigOp}
use Rattle.rvv_decode.specs.declared.instruction.ConfigOp.TheVariants.{Vsetvli, Vsetivli, Vsetvl}
use Rattle.rvv_decode.specs.declared.instruction.MemoryOp.{MemoryOp}
use Rattle.rvv_decode.specs.declared.instruction.MemoryOp.TheVariants.{LoadUnitStride, LoadWholeRegister, LoadMask, LoadFaultOnlyFirst, LoadIndexedUnordered, LoadStrided, LoadIndexedOrdered, StoreUnitStride, StoreWholeRegister, StoreMask, StoreIndexedUnordered, StoreStrided, StoreIndexedOrdered}
use Rattle.code_list.specs.declared.forms.ScalarForm.{ScalarForm}
use Rattle.code_list.specs.declared.forms.ScalarForm.TheVariants.{Registers, Immediate, Load, Store, Branch, Upper, Jump, Csr, CsrImmediate, NoOperands}
use Rattle.code_list.specs.declared.forms.VectorForm.{VectorForm}
use Rattle.code_list.specs.declared.forms.VectorForm.TheVariants.{SignedSource, UnsignedSource, WideSource, CarryIn, CarryOut, Move, WholeMove, ThreeVectors, TwoVectors, Destination, ToScalar, FromScalar, MultiplyAdd}
use Rattle.code_list.specs.declared.operand.Operand.{Operand}
use Rattle.code_list.specs.declared.operand.Operand.TheVariants.{X, V, Number, Integer, Hex, Offset, Address, Carry, Mask}
use Rattle.code_list.specs.Operands.{operands_text}
use Rattle.code_list.specs.ScalarNames.{scalar_name, scalar_form}
use Rattle.code_list.specs.VectorNames.{opi_stem, opi_form, opm_stem, opm_form}

-- the operands of a scalar instruction
abbrev pub scalar_operands : ScalarForm → Instr → List Operand
scalar_operands Registers i = X i.rd ∷ X i.rs1 ∷ X i.rs2 ∷ []
scalar_operands Immediate i = X i.rd ∷ X i.rs1 ∷ Integer i.imm ∷ []
scalar_operands Load i = X i.rd ∷ Offset i.imm i.rs1 ∷ []
scalar_operands Store i = X i.rs2 ∷ Offset i.imm i.rs1 ∷ []
scalar_operands Branch i = X i.rs1 ∷ X i.rs2 ∷ Integer i.imm ∷ []
scalar_operands Upper i = X i.rd ∷ Hex 5 (i.imm / 2 ^ 12) ∷ []
scalar_operands Jump i = X i.rd ∷ Integer i.imm ∷ []
scalar_operands Csr i = X i.rd ∷ Hex 3 i.imm ∷ X i.rs1 ∷ []
scalar_operands CsrImmediate i = X i.rd ∷ Hex 3 i.imm ∷ Number i.rs1 ∷ []
scalar_operands NoOperands i = []

-- an immediate of five bits with its sign
abbrev pub signed_immediate : ℕ → Operand
signed_immediate n = Integer (sign_extended 5 n)

-- the second source of a form, whose immediate is this
abbrev pub source_operand : Form → Operand → ℕ → Operand
source_operand FromVector immediate n = V n
source_operand FromScalarReg immediate n = X n
source_operand FromImmediate immediate n = immediate

-- the mask of an instruction, which it has where bit 25 is 0
abbrev pub mask_operands : Operand → Bool → List Operand
mask_operands m true = []
mask_operands m false = m ∷ []

-- the operands of an instruction on vectors
abbrev pub vector_operands : VectorForm → VInstr → List Operand
vector_operands SignedSource i = V i.vd ∷ V i.vs2 ∷ source_operand i.form (signed_immediate i.vs1) i.vs1 ∷ mask_operands Mask i.vm
vector_operands UnsignedSource i = V i.vd ∷ V i.vs2 ∷ source_operand i.form (Number i.vs1) i.vs1 ∷ mask_operands Mask i.vm
vector_operands WideSource i = V i.vd ∷ V i.vs2 ∷ source_operand i.form (Number i.vs1) i.vs1 ∷ mask_operands Mask i.vm
vector_operands CarryIn i = V i.vd ∷ V i.vs2 ∷ source_operand i.form (signed_immediate i.vs1) i.vs1 ∷ mask_operands Carry i.vm
vector_operands CarryOut i = V i.vd ∷ V i.vs2 ∷ source_operand i.form (signed_immediate i.vs1) i.vs1 ∷ mask_operands Carry i.vm
vector_operands Move i = V i.vd ∷ source_operand i.form (signed_immediate i.vs1) i.vs1 ∷ []
vector_operands WholeMove i = V i.vd ∷ V i.vs2 ∷ []
vector_operands ThreeVectors i = V i.vd ∷ V i.vs2 ∷ V i.vs1 ∷ mask_operands Mask i.vm
vector_operands TwoVectors i = V i.vd ∷ V i.vs2 ∷ mask_operands Mask i.vm
vector_operands Destination i = V i.vd ∷ mask_operands Mask i.vm
vector_operands ToScalar i = X i.vd ∷ V i.vs2 ∷ mask_operands Mask i.vm
vector_operands FromScalar i = V i.vd ∷ X i.vs1 ∷ mask_operands Mask i.vm
vector_operands MultiplyAdd i = V i.vd ∷ source_operand i.form (Number i.vs1) i.vs1 ∷ V i.vs2 ∷ mask_operands Mask i.vm

-- the letter of a form
abbrev pub form_letter : Form → List ℕ
form_letter FromVector = codes "v"
form_letter FromScalarReg = codes "x"
form_letter FromImmediate = codes "i"

-- the suffix of an instruction on vectors
abbrev pub suffix : VectorForm → VInstr → List ℕ
suffix SignedSource i = codes ".v" ++ form_letter i.form
suffix UnsignedSource i = codes ".v" ++ form_letter i.form
suffix WideSource i = codes ".w" ++ form_letter i.form
suffix CarryIn i = codes ".v" ++ form_letter i.form ++ codes "m"
suffix CarryOut i = codes ".v" ++ form_letter i.form ++ (if i.vm then [] else codes "m")
suffix Move i = codes "." ++ form_letter i.form
suffix WholeMove i = decimal (i.vs1 + 1) ++ codes "r.v"
suffix ThreeVectors i = []
suffix TwoVectors i = []
suffix Destination i = []
suffix ToScalar i = []
suffix FromScalar i = []
suffix MultiplyAdd i = codes ".v" ++ form_letter i.form

-- the fields of a segment, in a mnemonic
abbrev pub segment_text : VInstr → List ℕ
segment_text i = if i.nf == 1 then [] else codes "seg" ++ decimal i.nf

-- the mnemonic of a load or store of elements, without its end: how they are addressed, their segment, their width
abbrev pub elements_name : List ℕ → VInstr → List ℕ → List ℕ
elements_name name i rest = name ++ segment_text i ++ rest ++ decimal i.eew

-- the mnemonic of a load or store
abbrev pub memory_name : MemoryOp → VInstr → List ℕ
memory_name LoadUnitStride i = elements_name (codes "vl") i (codes "e") ++ codes ".v"
memory_name LoadFaultOnlyFirst i = elements_name (codes "vl") i (codes "e") ++ codes "ff.v"
memory_name LoadStrided i = elements_name (codes "vls") i (codes "e") ++ codes ".v"
memory_name LoadIndexedUnordered i = elements_name (codes "vlux") i (codes "ei") ++ codes ".v"
memory_name LoadIndexedOrdered i = elements_name (codes "vlox") i (codes "ei") ++ codes ".v"
memory_name LoadWholeRegister i = codes "vl" ++ decimal i.nf ++ codes "re" ++ decimal i.eew ++ codes ".v"
memory_name LoadMask i = codes "vlm.v"
memory_name StoreUnitStride i = elements_name (codes "vs") i (codes "e") ++ codes ".v"
memory_name StoreStrided i = elements_name (codes "vss") i (codes "e") ++ codes ".v"
memory_name StoreIndexedUnordered i = elements_name (codes "vsux") i (codes "ei") ++ codes ".v"
memory_name StoreIndexedOrdered i = elements_name (codes "vsox") i (codes "ei") ++ codes ".v"
memory_name StoreWholeRegister i = codes "vs" ++ decimal i.nf ++ codes "r.v"
memory_name StoreMask i = codes "vsm.v"

-- what stands after the address of a load or store: a stride or an index
abbrev pub offset_operands : MemoryOp → VInstr → List Operand
offset_operands LoadStrided i = X i.vs2 ∷ []
offset_operands StoreStrided i = X i.vs2 ∷ []
offset_operands LoadIndexedUnordered i = V i.vs2 ∷ []
offset_operands LoadIndexedOrdered i = V i.vs2 ∷ []
offset_operands StoreIndexedUnordered i = V i.vs2 ∷ []
offset_operands StoreIndexedOrdered i = V i.vs2 ∷ []
offset_operands LoadUnitStride i = []
offset_operands LoadFaultOnlyFirst i = []
offset_operands LoadWholeRegister i = []
offset_operands LoadMask i = []
offset_operands StoreUnitStride i = []
offset_operands StoreWholeRegister i = []
offset_operands StoreMask i = []

-- the mnemonic of a configuration
abbrev pub config_name : ConfigOp → List ℕ
config_name Vsetvli = codes "vsetvli"
config_name Vsetivli = codes "vsetivli"
config_name Vsetvl = codes "vsetvl"

-- the operands of a configuration
abbrev pub config_operands : ConfigOp → VInstr → List Operand
config_operands Vsetvli i = X i.vd ∷ X i.vs1 ∷ Hex 3 i.zimm ∷ []
config_operands Vsetivli i = X i.vd ∷ Number i.vs1 ∷ Hex 3 i.zimm ∷ []
config_operands Vsetvl i = X i.vd ∷ X i.vs1 ∷ X i.vs2 ∷ []

-- the mnemonic of a vector instruction, and its operands
abbrev pub vector_name : VOp → VInstr → List ℕ
vector_name (Opi op) i = opi_stem op ++ suffix (opi_form op) i
vector_name (Opm op) i = opm_stem op ++ suffix (opm_form op) i
vector_name (Config op) i = config_name op
vector_name (Memory op) i = memory_name op i

abbrev pub vector_operands_of : VOp → VInstr → List Operand
vector_operands_of (Opi op) i = vector_operands (opi_form op) i
vector_operands_of (Opm op) i = vector_operands (opm_form op) i
vector_operands_of (Config op) i = config_operands op i
vector_operands_of (Memory op) i = V i.vd ∷ Address i.vs1 ∷ (offset_operands op i ++ mask_operands Mask i.vm)

-- a mnemonic and its operands
pub record Spelling : Type 0 where
  pub name : List ℕ
  pub operands : List Operand

-- what is written of an instruction
unfoldable pub scalar_spelling : Instr → Spelling
scalar_spelling i = record { name = scalar_name i.op; operands = scalar_operands (scalar_form i.op) i }

unfoldable pub vector_spelling : VInstr → Spelling
vector_spelling i = record { name = vector_name i.op i; operands = vector_operands_of i.op i }

-- a word that has no row
unfoldable pub other_spelling : ℕ → Spelling
other_spelling word = record { name = codes ".word"; operands = Hex 8 word ∷ [] }

abbrev pub vector_spelling_or : Option VInstr → ℕ → Spelling
vector_spelling_or None word = other_spelling word
vector_spelling_or (Some i) word = vector_spelling i

abbrev pub scalar_spelling_or : Option Instr → ℕ → Spelling
scalar_spelling_or None word = vector_spelling_or (means_vector word) word
scalar_spelling_or (Some i) word = scalar_spelling i

-- The mnemonic and the operands of a word, by which row it fits. An assembler goes back from here to the word.
unfoldable pub spelling : ℕ → Spelling
spelling word = scalar_spelling_or (means word) word

-- the text of a mnemonic and its operands
abbrev pub text_of : Spelling → List ℕ
text_of s = s.name ++ operands_text s.operands

-- the listing of a word
unfoldable pub listing : ℕ → List ℕ
listing word = text_of (spelling word)
