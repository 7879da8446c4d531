-- What a reader gives.
use Rattle.std.proofs.Common.{◌≡◌, ℕ, zero, suc, ◌+◌, ◌-◌, ◌<◌, ◌≤◌, Bool, true, false, List, [], ◌∷◌, ◌++◌, take, drop, length, Option, Some, None, refl, sym, ap, ◌∙◌, append_assoc, append-nil, arith, length-append, ◌⊎◌, inl, inr}
use Rattle.std.specs.Io.KnownBytes.{Consumes, IsAtEnd}
use Rattle.std.proofs.Math.Seq.{take-append-add}
use Rattle.std.proofs.lemmas.Bool.{le-leb, lt-leb, cases_lt, ne_eqb}
use Rattle.std.proofs.lemmas.List.{take-append-le, take_all, length-take}
use Rattle.debug_words.specs.Lines.{lines, lines_after, most_bytes, Gives, GivesByte, GivesEnd, GivesLine, GivesNone, ReaderValue, coming, is_cut, budget}

-- a byte that is pending
pub gives_pending : {b : ℕ} {r r' : ReaderValue} {left : Option (List ℕ)} → r.pending ≡ b ∷ r'.pending → r'.taken ≡ r.taken → GivesByte b r r' left left
gives_pending {b} {r} {r'} {left} p q = record {
  gives = λ cut bytes g.
      let e : coming r g.rest ≡ b ∷ coming r' g.rest = rw (p, q) refl in
      (coming r' g.rest, g.bytes_are ∙ e, record { rest = g.rest; told = g.told; bytes_are = refl; cut_is = rw q g.cut_is });
}

-- bytes that were taken
taken_on : (cut : Bool) (bytes : List ℕ) (r r1 : ReaderValue) (left left1 : Option (List ℕ)) → r.pending ≡ [] → Consumes left left1 r1.pending → r1.taken ≡ r.taken + length r1.pending → r1.taken ≤ most_bytes
    → Gives cut bytes r left → Gives cut bytes r1 left1
taken_on cut bytes r r1 None left1 none took taken few g = cc g.told
taken_on cut bytes r r1 (Some xs) None none took taken few g = absurd took
taken_on cut bytes r r1 (Some xs) (Some ys) none took taken few g =
    let same : g.rest ≡ xs = cc g.told in
    let count : most_bytes - r.taken ≡ length r1.pending + (most_bytes - r1.taken) = omega arith in
    let prefix : take (most_bytes - r.taken) xs ≡ r1.pending ++ take (most_bytes - r1.taken) ys = rw (took, count) (take-append-add r1.pending ys (most_bytes - r1.taken)) in
    let sum : r.taken + length xs ≡ r1.taken + length ys = rw took (omega (arith, length-append r1.pending ys)) in
    record {
      rest = ys;
      told = refl;
      bytes_are = g.bytes_are ∙ rw (none, same) prefix;
      cut_is = g.cut_is ∙ rw (same, sum) refl;
    }

pub gives_refilled : {b : ℕ} {r r1 r' : ReaderValue} {left left1 : Option (List ℕ)} → r.pending ≡ [] → Consumes left left1 r1.pending → r1.taken ≡ r.taken + length r1.pending → r1.taken ≤ most_bytes
    → r1.pending ≡ b ∷ r'.pending → r'.taken ≡ r1.taken → GivesByte b r r' left left1
gives_refilled {b} {r} {r1} {r'} {left} {left1} none took taken few p q = record { gives = λ cut bytes g. (gives_pending p q).gives cut bytes (taken_on cut bytes r r1 left left1 none took taken few g) }

nothing_left : (r : ReaderValue) (left : Option (List ℕ)) (cut : Bool) (bytes : List ℕ) → r.pending ≡ [] → IsAtEnd left → Gives cut bytes r left → bytes ≡ []
nothing_left r None cut bytes none end g = cc g.told
nothing_left r (Some xs) cut bytes none end g =
    let told : g.rest ≡ xs = cc g.told in
    let same : g.rest ≡ [] = told ∙ end in
    g.bytes_are ∙ rw none (take_nil (most_bytes - r.taken) g.rest same)
  where
    take_nil : (n : ℕ) (xs : List ℕ) → xs ≡ [] → take n xs ≡ []
    take_nil zero xs e = refl
    take_nil (suc n) [] e = refl
    take_nil (suc n) (x ∷ xs) e = cc

at_most : (r : ReaderValue) (left : Option (List ℕ)) (cut : Bool) (bytes : List ℕ) → r.pending ≡ [] → most_bytes ≤ r.taken → Gives cut bytes r left → bytes ≡ []
at_most r left cut bytes none full g =
    let zero_left : most_bytes - r.taken ≡ 0 = omega arith in
    g.bytes_are ∙ rw (none, zero_left) refl

pub gives_end : {r r1 : ReaderValue} {left left1 : Option (List ℕ)} → r.pending ≡ [] → Consumes left left1 r1.pending → r1.taken ≡ r.taken + length r1.pending → r1.taken ≤ most_bytes → r1.pending ≡ []
    → (r.taken < most_bytes → IsAtEnd left1) → GivesEnd r r1 left left1
gives_end {r} {r1} {left} {left1} none took taken few over end = record {
  ends = λ cut bytes g.
      let on : Gives cut bytes r1 left1 = taken_on cut bytes r r1 left left1 none took taken few g in
      let is : bytes ≡ [] = by cut bytes on (cases_lt r1.taken most_bytes) in
      (is, rw is at on);
}
  where
    by : (cut : Bool) (bytes : List ℕ) → Gives cut bytes r1 left1 → (r1.taken < most_bytes) ⊎ (most_bytes ≤ r1.taken) → bytes ≡ []
    by cut bytes on (inr full) = at_most r1 left1 cut bytes over full on
    by cut bytes on (inl less) = nothing_left r1 left1 cut bytes over (end (omega (arith, ap length over))) on

-- whether the commands were cut off, where none is to come
pub at_limit : {cut : Bool} {r : ReaderValue} {left : Option (List ℕ)} → Gives cut [] r left → r.taken ≡ most_bytes → cut ≡ true
at_limit {cut} {r} {left} g full = g.cut_is ∙ le-leb most_bytes (r.taken + length g.rest) (omega arith)

pub below_limit : {cut : Bool} {r : ReaderValue} {left : Option (List ℕ)} → Gives cut [] r left → r.taken < most_bytes → cut ≡ false
below_limit {cut} {r} {left} g less =
    let none : g.rest ≡ [] = no_prefix (most_bytes - r.taken) g.rest (omega arith) (no_rest r.pending (take (most_bytes - r.taken) g.rest) (sym g.bytes_are)) in
    g.cut_is ∙ lt-leb most_bytes (r.taken + length g.rest) (rw none (omega arith))
  where
    no_rest : (xs ys : List ℕ) → xs ++ ys ≡ [] → ys ≡ []
    no_rest [] ys e = e
    no_rest (x ∷ xs) ys e = cc

    no_prefix : (n : ℕ) (xs : List ℕ) → 0 < n → take n xs ≡ [] → xs ≡ []
    no_prefix n [] some e = refl
    no_prefix zero (x ∷ xs) some e = absurd (omega arith)
    no_prefix (suc n) (x ∷ xs) some e = cc

-- the bytes of a line that were read, and what is to come
pub record ReadsOn (r r' : ReaderValue) (left left' : Option (List ℕ)) (line : List ℕ) : Type 0 where
  pub reads :
      (cut : Bool) (bytes : List ℕ) → Gives cut bytes r left
      → (seen : List ℕ) × (rest : List ℕ) × (lines cut bytes ≡ lines_after cut seen rest) × (line ≡ take 256 seen) × Gives cut rest r' left'

pub reads_first : (r : ReaderValue) (left : Option (List ℕ)) → ReadsOn r r left left []
reads_first r left = record { reads = λ cut bytes g. ([], bytes, refl, refl, g) }

after_newline : (cut : Bool) (seen bs : List ℕ) → lines_after cut seen (10 ∷ bs) ≡ seen ∷ lines cut bs
unfolding lines_after
after_newline cut seen bs = refl

-- a line and its newline
pub line_given : {r r1 r2 : ReaderValue} {left left1 left2 : Option (List ℕ)} {line : List ℕ} → ReadsOn r r1 left left1 line → GivesByte 10 r1 r2 left1 left2 → GivesLine r r2 left left2 line
line_given {r} {r1} {r2} {left} {left1} {left2} {line} on byte = record {
  gives = λ cut bytes g.
      let w = on.reads cut bytes g in
      let n = byte.gives cut w.1 w.4 in
      (w.0, n.0, w.2 ∙ ap (lines_after cut w.0) n.1 ∙ after_newline cut w.0 n.0, w.3, n.2);
}

is_after : (cut : Bool) (b : ℕ) (seen bs : List ℕ) → (b ≡ 10 → ⊥) → lines_after cut seen (b ∷ bs) ≡ lines_after cut (seen ++ b ∷ []) bs
unfolding lines_after
is_after cut b seen bs other = rw (ne_eqb b 10 other) refl

-- a byte of a line, of which no more than 256 are kept
pub reads_full : {r r1 r2 : ReaderValue} {left left1 left2 : Option (List ℕ)} {line : List ℕ} {b : ℕ} → ReadsOn r r1 left left1 line → GivesByte b r1 r2 left1 left2 → (b ≡ 10 → ⊥) → 256 ≤ length line → ReadsOn r r2 left left2 line
reads_full {r} {r1} {r2} {left} {left1} {left2} {line} {b} on byte other full = record {
  reads = λ cut bytes g.
      let w = on.reads cut bytes g in
      let n = byte.gives cut w.1 w.4 in
      let whole : 256 ≤ length w.0 = long w.0 (rw w.3 at full) in
      (w.0 ++ b ∷ [], n.0, w.2 ∙ ap (lines_after cut w.0) n.1 ∙ is_after cut b w.0 n.0 other, w.3 ∙ sym (take-append-le 256 w.0 (b ∷ []) whole), n.2);
}
  where
    long : (seen : List ℕ) → 256 ≤ length (take 256 seen) → 256 ≤ length seen
    long seen h = omega (arith, length-take 256 seen)

pub reads_short : {r r1 r2 : ReaderValue} {left left1 left2 : Option (List ℕ)} {line : List ℕ} {b : ℕ} → ReadsOn r r1 left left1 line → GivesByte b r1 r2 left1 left2 → (b ≡ 10 → ⊥) → length line < 256 → ReadsOn r r2 left left2 (line ++ b ∷ [])
reads_short {r} {r1} {r2} {left} {left1} {left2} {line} {b} on byte other short = record {
  reads = λ cut bytes g.
      let w = on.reads cut bytes g in
      let n = byte.gives cut w.1 w.4 in
      let few : length w.0 < 256 = less w.0 (rw w.3 at short) in
      let same : line ≡ w.0 = w.3 ∙ take_all 256 w.0 (omega arith) in
      let fits : length (w.0 ++ b ∷ []) ≤ 256 = omega (arith, length-append w.0 (b ∷ [])) in
      (w.0 ++ b ∷ [], n.0, w.2 ∙ ap (lines_after cut w.0) n.1 ∙ is_after cut b w.0 n.0 other, ap (λ l. l ++ b ∷ []) same ∙ sym (take_all 256 (w.0 ++ b ∷ []) fits), n.2);
}
  where
    less : (seen : List ℕ) → length (take 256 seen) < 256 → length seen < 256
    less seen h = omega (arith, length-take 256 seen)

over_cut : (cut : Bool) (seen : List ℕ) → cut ≡ true → lines_after cut seen [] ≡ []
unfolding lines_after
over_cut true seen e = refl
over_cut false seen e = cc

over_empty : (cut : Bool) → lines_after cut [] [] ≡ []
unfolding lines_after
over_empty true = refl
over_empty false = refl

over_last : (b : ℕ) (seen : List ℕ) → lines_after false (b ∷ seen) [] ≡ (b ∷ seen) ∷ []
unfolding lines_after
over_last b seen = refl

-- no line: the commands were cut off, or nothing was read
pub none_at_limit : {r r1 r2 : ReaderValue} {left left1 left2 : Option (List ℕ)} {line : List ℕ} → ReadsOn r r1 left left1 line → GivesEnd r1 r2 left1 left2 → r2.taken ≡ most_bytes → GivesNone r r2 left left2
none_at_limit {r} {r1} {r2} {left} {left1} {left2} {line} on end full = record {
  ends = λ cut bytes g.
      let w = on.reads cut bytes g in
      let n = end.ends cut w.1 w.4 in
      let is : cut ≡ true = at_limit n.1 full in
      (w.2 ∙ ap (lines_after cut w.0) n.0 ∙ over_cut cut w.0 is, n.1);
}

empty_prefix : (seen : List ℕ) → [] ≡ take 256 seen → seen ≡ []
empty_prefix [] e = refl
empty_prefix (x ∷ xs) e = cc

pub none_read : {r r1 r2 : ReaderValue} {left left1 left2 : Option (List ℕ)} {line : List ℕ} → ReadsOn r r1 left left1 line → GivesEnd r1 r2 left1 left2 → line ≡ [] → GivesNone r r2 left left2
none_read {r} {r1} {r2} {left} {left1} {left2} {line} on end empty = record {
  ends = λ cut bytes g.
      let w = on.reads cut bytes g in
      let n = end.ends cut w.1 w.4 in
      let is : w.0 ≡ [] = empty_prefix w.0 (sym empty ∙ w.3) in
      (w.2 ∙ ap (lines_after cut w.0) n.0 ∙ rw is (over_empty cut), n.1);
}

last_of : (cut : Bool) (seen : List ℕ) → cut ≡ false → 0 < length seen → lines_after cut seen [] ≡ seen ∷ lines cut []
last_of cut [] e some = absurd (omega arith)
last_of cut (b ∷ seen) e some = rw e (over_last b seen ∙ ap (λ ls. (b ∷ seen) ∷ ls) (sym (over_empty false)))

-- the last line, without its newline
pub line_last : {r r1 r2 : ReaderValue} {left left1 left2 : Option (List ℕ)} {line : List ℕ} → ReadsOn r r1 left left1 line → GivesEnd r1 r2 left1 left2 → r2.taken < most_bytes → 0 < length line → GivesLine r r2 left left2 line
line_last {r} {r1} {r2} {left} {left1} {left2} {line} on end less some = record {
  gives = λ cut bytes g.
      let w = on.reads cut bytes g in
      let n = end.ends cut w.1 w.4 in
      let is : cut ≡ false = below_limit n.1 less in
      let more : 0 < length w.0 = some_seen w.0 (rw w.3 at some) in
      (w.0, [], w.2 ∙ ap (lines_after cut w.0) n.0 ∙ last_of cut w.0 is more, w.3, n.1);
}
  where
    some_seen : (seen : List ℕ) → 0 < length (take 256 seen) → 0 < length seen
    some_seen seen h = omega (arith, length-take 256 seen)
