-- What is told of a kind, a width and a place.
use Rattle.std.specs.Prelude.{ℕ, Bool, ◌&&◌, ◌||◌, eqb, List, [], ◌∷◌, ◌++◌, Option, Some, None, codes, decimal, length, if◌then◌else◌}
use lib.Dec.{ltb}
use Rattle.micro_ir.specs.declared.op.MicroOp.{MicroOp}
use Rattle.micro_ir.specs.declared.place.Place.{Place}
use Rattle.micro_ir.specs.Listing.{listing_text}
use Rattle.micro_ir.specs.WorkRows.{scalar_row}
use Rattle.library_probe.specs.declared.kinds.Size.{Size}
use Rattle.library_probe.specs.declared.kinds.Kind.{Kind}
use Rattle.library_probe.specs.Names.{size_in, kind_in}
use Rattle.library_probe.specs.Lists.{kind_ops}

-- the row may hold an operand of any kind: a register, or the scalar
abbrev pub is_operand : ℕ → Bool
is_operand row = ltb row 32 || eqb row scalar_row

-- the operands are such rows, and the result goes to a register
abbrev pub is_place : Place → Bool
is_place at = is_operand at.a && (is_operand at.b && (is_operand at.addend && ltb at.to 32))

-- a line for each operation
abbrev pub ops_text : List MicroOp → List ℕ
ops_text [] = []
ops_text (op ∷ ops) = (listing_text op ++ codes "\n") ++ ops_text ops

-- a line of the kind, the width and the number of operations, and the operations
abbrev pub list_text : (name width : List ℕ) → List MicroOp → List ℕ
list_text name width ops =
    codes "kind " ++ name ++ codes " width " ++ width ++ codes " operations " ++ decimal (length ops) ++ codes "\n" ++ ops_text ops

-- no such kind, width or place
abbrev pub no_form : List ℕ
no_form = codes "form\n"

-- the list of a kind and a width that are named, if they are
abbrev pub named_text : (name width : List ℕ) → Option Kind → Option Size → Place → List ℕ
named_text name width (Some kind) (Some size) at = if is_place at then list_text name width (kind_ops kind size at) else no_form
named_text name width None size at = no_form
named_text name width (Some kind) None at = no_form

-- what is told of a name, a width and a place
abbrev pub told_text : (name width : List ℕ) → Place → List ℕ
told_text name width at = named_text name width (kind_in name) (size_in width) at
