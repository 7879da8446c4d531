-- The text of a micro-operation.
use Rattle.std.specs.Prelude.{ℕ, Bool, true, false, List, [], ◌∷◌, ◌++◌, codes}
use Rattle.std.specs.Fmt.{decimal}
use Rattle.bit_laws.specs.Digits.{hex_word}
use Rattle.reduce_tree.specs.declared.weights.How.{How}
use Rattle.reduce_tree.specs.declared.weights.How.TheVariants.{Sum, Less, Or, Clear, Xor, Clip}
use Rattle.steer_net.specs.declared.reach.Reach.{Reach}
use Rattle.steer_net.specs.declared.reach.Reach.TheVariants.{Before, Upto, At}
use Rattle.micro_ir.specs.declared.op.MicroOp.{MicroOp}
use Rattle.micro_ir.specs.declared.op.MicroOp.TheVariants.{Search, Update, Pass, Window, Free, PackMask, UpdateBy, Spread, Narrow, Slide, Pick, Index, SetNum, Count, First, Below}

-- a flag is 0 or 1
abbrev pub flag : Bool → List ℕ
flag true = codes "1"
flag false = codes "0"

-- each field follows a space
abbrev pub numbers : List ℕ → List ℕ
numbers [] = []
numbers (n ∷ ns) = (codes " " ++ decimal n) ++ numbers ns

abbrev pub flags : List Bool → List ℕ
flags [] = []
flags (b ∷ bs) = (codes " " ++ flag b) ++ flags bs

-- a key is its row and its wanted bit
abbrev pub keys_text : List (ℕ × Bool) → List ℕ
keys_text [] = []
keys_text (k ∷ ks) = (codes " " ++ decimal k.0 ++ codes "=" ++ flag k.1) ++ keys_text ks

-- the name of what a count does, and of how places stand to a number, after a space
abbrev pub how_text : How → List ℕ
how_text Sum = codes " sum"
how_text Less = codes " less"
how_text Or = codes " or"
how_text Clear = codes " clear"
how_text Xor = codes " xor"
how_text Clip = codes " clip"

abbrev pub reach_text : Reach → List ℕ
reach_text Before = codes " before"
reach_text Upto = codes " upto"
reach_text At = codes " at"

-- The name of the operation in lower case, and its fields in their order. Subarrays are eight hexadecimal digits.
abbrev pub listing_text : MicroOp → List ℕ
listing_text (Search subs keys join) = codes "search " ++ hex_word subs ++ keys_text keys ++ flags (join ∷ [])
listing_text (Update subs row bit) = codes "update " ++ hex_word subs ++ numbers (row ∷ []) ++ flags (bit ∷ [])
listing_text (Pass up times) = codes "pass" ++ flags (up ∷ []) ++ numbers (times ∷ [])
listing_text (Window row width first from to masked) = codes "window" ++ numbers (row ∷ width ∷ first ∷ from ∷ to ∷ []) ++ flags (masked ∷ [])
listing_text (Free row width first from to masked tail off) = codes "free" ++ numbers (row ∷ width ∷ first ∷ from ∷ to ∷ []) ++ flags (masked ∷ tail ∷ off ∷ [])
listing_text (PackMask from under to width first) = codes "packmask" ++ numbers (from ∷ under ∷ to ∷ width ∷ first ∷ [])
listing_text (UpdateBy row width) = codes "updateby" ++ numbers (row ∷ width ∷ [])
listing_text (Spread from to narrow wide part) = codes "spread" ++ numbers (from ∷ to ∷ narrow ∷ wide ∷ part ∷ [])
listing_text (Narrow from to wide part) = codes "narrow" ++ numbers (from ∷ to ∷ wide ∷ part ∷ [])
listing_text (Slide to base width first up by limit) = codes "slide" ++ numbers (to ∷ base ∷ width ∷ first ∷ []) ++ flags (up ∷ []) ++ numbers (by ∷ limit ∷ [])
listing_text (Pick to base width index limit) = codes "pick" ++ numbers (to ∷ base ∷ width ∷ index ∷ limit ∷ [])
listing_text (Index to width first) = codes "index" ++ numbers (to ∷ width ∷ first ∷ [])
listing_text (SetNum num) = codes "setnum" ++ numbers (num ∷ [])
listing_text (Count subs bit how) = codes "count " ++ hex_word subs ++ numbers (bit ∷ []) ++ how_text how
listing_text First = codes "first"
listing_text (Below to how) = codes "below" ++ numbers (to ∷ []) ++ reach_text how
