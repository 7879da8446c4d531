-- What the operations do that set the control number of the slices, or go by it.
use Rattle.std.specs.Prelude.{ℕ, Bool, true}
use Rattle.bit_laws.specs.Numbers.{bit_of}
use Rattle.bit_rows.specs.Slices.{Slices}
use Rattle.cam_chain.specs.Slices.{updated}
use Rattle.reduce_tree.specs.Tags.{tags_in, first_place}
use Rattle.reduce_tree.specs.Weights.{num_after}
use Rattle.reduce_tree.specs.declared.weights.How.{How}
use Rattle.micro_ir.specs.Subs.{subs_of}

-- SetNum: the slices with this control number
abbrev pub with_num : (num : ℕ) → Slices → Slices
with_num num s = record {
  columns = s.columns;
  bit = s.bit;
  tag = s.tag;
  num = num;
}

-- Count: the number of tags in the selected subarrays is taken into the control number, where each stands for bit `bit`.
abbrev pub counted : (subs bit : ℕ) → How → Slices → Slices
counted subs bit how s = with_num (num_after how s.num (tags_in subs s) bit) s

-- First: the control number becomes the first place whose tag is set.
abbrev pub first_found : Slices → Slices
first_found s = with_num (first_place s) s

-- UpdateBy: an update with 1 of the subarrays whose bit in their element is 1 in the control number.
abbrev pub updated_by : (row width : ℕ) → Slices → Slices
updated_by row width s = updated (subs_of width (bit_of s.num)) row true s
