-- What the words of a line ask.
use Rattle.std.specs.Prelude.{ℕ, List, [], ◌∷◌, Option, Some, None, false, map, option_map, codes, if◌then◌else◌}
use Rattle.std.specs.Str.{bytes_eq}
use Rattle.library_probe.specs.declared.lines.Asked.{Asked}
use Rattle.library_probe.specs.declared.lines.Asked.TheVariants.{Kind, Word}
use Rattle.std.specs.Borrow.{Bor}
use Rattle.micro_ir.specs.declared.place.Place.{Place}
use Rattle.library_probe.specs.declared.words.Question.{Question}
use Rattle.library_probe.specs.Numbers.{byte_in, decimal_in, hexadecimal_in}

-- the texts of words
abbrev pub texts_of : List (Bor (List ℕ)) → List (List ℕ)
texts_of words = map (λ word. word.now) words

-- two rows of operands and one of a result
abbrev pub place_from : Option ℕ → Option ℕ → Option ℕ → Option Place
place_from (Some a) (Some b) (Some to) = Some record { a = a; b = b; addend = to; to = to; sub = false; mode = 0 }
place_from _ _ _ = None

abbrev pub place_by : List (List ℕ) → Option Place
place_by (a ∷ b ∷ to ∷ []) = place_from (byte_in a) (byte_in b) (byte_in to)
place_by _ = None

-- a word and the bits of a vector type, and a first element and the bits of a register
abbrev pub question_from : Option ℕ → Option ℕ → Option ℕ → Option ℕ → Option Question
question_from (Some word) (Some vtype) (Some vstart) (Some vlen) = Some record { word = word; vtype = vtype; vstart = vstart; vlen = vlen }
question_from _ _ _ _ = None

abbrev pub question_by : List (List ℕ) → Option Question
question_by (word ∷ vtype ∷ vstart ∷ vlen ∷ []) = question_from (hexadecimal_in word) (hexadecimal_in vtype) (decimal_in vstart) (decimal_in vlen)
question_by _ = None

-- What a line asks: the list of a kind, by the texts of its name and of its width, or a question on a vector word.
pub data AskedText : Type 0 where
  OfKind : (name width : List ℕ) → Place → AskedText
  OfWord : Question → AskedText

abbrev pub view_of : Asked → AskedText
view_of (Kind name width at) = OfKind name.now width.now at
view_of (Word question) = OfWord question

-- the words after the first of a line about a kind
abbrev pub kind_by : List (List ℕ) → Option AskedText
kind_by (name ∷ width ∷ rows) = option_map (OfKind name width) (place_by rows)
kind_by _ = None

-- what the words of a line ask, of which the first says which of the two it is
abbrev pub asked_by : List (List ℕ) → Option AskedText
asked_by [] = None
asked_by (first ∷ rest) =
    if bytes_eq first (codes "kind") then kind_by rest
    else if bytes_eq first (codes "word") then option_map OfWord (question_by rest)
    else None

-- the word whose listing the words of a line ask
abbrev pub listed_by : List (List ℕ) → Option ℕ
listed_by (first ∷ word ∷ []) = if bytes_eq first (codes "text") then hexadecimal_in word else None
listed_by _ = None
