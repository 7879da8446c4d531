-- The keys of a table find what its values do, whichever of its rows are one.
use Rattle.std.proofs.Common.{◌≡◌, ◌≢◌, ℕ, ◌+◌, ◌<◌, ◌≤◌, ◌/◌, ◌%◌, Bool, true, false, cond, not, ◌&&◌, ◌||◌, eqb, ltb, leb, List, [], ◌∷◌, ◌++◌, map, length, Option, Some, None, refl, sym, ◌∙◌, ap, arith, ◌⊎◌, inl, inr, ⊎_elim, length-append, append_assoc, append-nil, zero, suc, take, drop, get_or, drop-cons, drop_of_length-le, length-take-le}
use Rattle.std.specs.Prelude.{is_some}
use mathlib.Core.Bool.{beq}
use Rattle.std.proofs.lemmas.Bool.{cases_Bool, cases_eq, eqb-true, eq-eqb, ne_eqb, leb-true, le-leb, and_parts, ltb-true, lt-ltb}
use Rattle.std.proofs.lemmas.List.{length-map}
use Rattle.cam_chain.specs.Slices.{matches}
use Rattle.cam_chain.specs.KeyPairs.{keys_of, is_new_row, are_apart, are_keys}
use Rattle.cam_chain.proofs.KeysOf.{length-keys_of}
use Rattle.micro_ir.specs.Folding.{all_rows, are_rows, wanted, with_row, then_keys, keys_with, keys_once, or_first, or_keys, first_whole, has_whole, stand_in, search_keys, table_keys, any_match}
use Rattle.micro_ir.specs.Steps.{fires}

-- ---- one value

-- whether keys, where there are some, match the bits
abbrev pub found_in : Option (List (ℕ × Bool)) → (ℕ → Bool) → Bool
found_in None bits = false
found_in (Some keys) bits = matches bits keys

and_assoc : (a b c : Bool) → (a && b) && c ≡ a && (b && c)
and_assoc true b c = refl
and_assoc false b c = refl

and_true : (a : Bool) → a && true ≡ a
and_true true = refl
and_true false = refl

matches-append : (g : ℕ → Bool) (xs ys : List (ℕ × Bool)) → matches g (xs ++ ys) ≡ matches g xs && matches g ys
matches-append g [] ys = refl
matches-append g (x ∷ xs) ys = rw (matches-append g xs ys) (sym (and_assoc (beq (g x.0) x.1) (matches g xs) (matches g ys)))

same_some : (a b : Bool) → Some a ≡ Some b → a ≡ b
same_some a b h = cc

again : (x m : Bool) → x && m ≡ (x && m) && x
again true true = refl
again true false = refl
again false m = refl

longer : (x m y : Bool) → m ≡ m && y → x && m ≡ (x && m) && y
longer true m y h = h
longer false m y h = refl

-- keys that want a bit of a row match only where the row has it
wanted-holds : (keys : List (ℕ × Bool)) (row : ℕ) (g : ℕ → Bool) (b : Bool) → wanted keys row ≡ Some b → matches g keys ≡ matches g keys && beq (g row) b
wanted-holds [] row g b is = absurd (cc)
wanted-holds (key ∷ keys) row g b is =
    ⊎_elim
    (λ (same : eqb key.0 row ≡ true).
    let r : key.0 ≡ row = eqb-true key.0 row same in
    let e : key.1 ≡ b = same_some key.1 b (rw same at is) in
    rw (r, e) (again (beq (g row) b) (matches g keys)))
    (λ (other : eqb key.0 row ≡ false). longer (beq (g key.0) key.1) (matches g keys) (beq (g row) b) (wanted-holds keys row g b (rw other at is)))
    (cases_Bool (eqb key.0 row))

keep : (m x other b r : Bool) → m ≡ m && beq x other → beq other b ≡ true → m && r ≡ m && (beq x b && r)
keep false x other b r h s = refl
keep true true true true r h s = refl
keep true false false false r h s = refl
keep true true false b r h s = absurd (cc)
keep true false true b r h s = absurd (cc)
keep true x true false r h s = absurd (cc)
keep true x false true r h s = absurd (cc)

lose : (m x other b r : Bool) → m ≡ m && beq x other → beq other b ≡ false → false ≡ m && (beq x b && r)
lose false x other b r h s = refl
lose true true true false r h s = refl
lose true false false true r h s = refl
lose true true false b r h s = absurd (cc)
lose true false true b r h s = absurd (cc)
lose true x true true r h s = absurd (cc)
lose true x false false r h s = absurd (cc)

-- one row more
row-found : (o : Option Bool) (keys : List (ℕ × Bool)) (row : ℕ) (b : Bool) (g : ℕ → Bool) (next : List (ℕ × Bool) → Option (List (ℕ × Bool))) (rest : Bool)
    → wanted keys row ≡ o → ((more : List (ℕ × Bool)) → found_in (next more) g ≡ matches g more && rest)
    → found_in (then_keys (with_row o keys row b) next) g ≡ matches g keys && (beq (g row) b && rest)
row-found None keys row b g next rest is all =
    all (keys ++ (row, b) ∷ [])
    ∙ rw (matches-append g keys ((row, b) ∷ []), and_true (beq (g row) b)) (and_assoc (matches g keys) (beq (g row) b) rest)
row-found (Some other) keys row b g next rest is all =
    let holds = wanted-holds keys row g other is in
    ⊎_elim
    (λ (same : beq other b ≡ true). rw same (all keys ∙ keep (matches g keys) (g row) other b rest holds same))
    (λ (torn : beq other b ≡ false). rw torn (lose (matches g keys) (g row) other b rest holds torn))
    (cases_Bool (beq other b))

-- the keys of a value find what the value does
pub keys-found : (keys : List (ℕ × Bool)) (rows : List ℕ) (t : ℕ) (g : ℕ → Bool) → found_in (keys_with keys rows t) g ≡ matches g keys && matches g (keys_of rows t)
unfolding keys_with
keys-found keys [] t g = sym (and_true (matches g keys))
keys-found keys (row ∷ rows) t g =
    row-found (wanted keys row) keys row (eqb (t % 2) 1) g (λ more. keys_with more rows (t / 2)) (matches g (keys_of rows (t / 2))) refl (λ more. keys-found more rows (t / 2) g)

-- ---- the values of a table

-- one of the values wants both bits of a row
abbrev is_none : Option (List (ℕ × Bool)) → Bool
is_none None = true
is_none (Some keys) = false

abbrev any_torn : (rows on : List ℕ) → Bool
any_torn rows [] = false
any_torn rows (t ∷ ts) = is_none (keys_once rows t) || any_torn rows ts

torn_more : (p a h : Bool) → p || ((a && p) || h) ≡ p || h
torn_more true a h = refl
torn_more false true h = refl
torn_more false false h = refl

whole_more : (g b h : Bool) → g || (b || h) ≡ b || (g || h)
whole_more true true h = refl
whole_more true false h = refl
whole_more false b h = refl

value-found : (o : Option (List (ℕ × Bool))) (s : List (ℕ × Bool)) (g : ℕ → Bool) (m a h : Bool) → found_in o g ≡ m
    → matches g (or_keys o s) || ((a && matches g s) || h) ≡ ((is_none o || a) && matches g s) || (m || h)
value-found None s g m a h is = rw (sym is) (torn_more (matches g s) a h)
value-found (Some k) s g m a h is = rw is (whole_more m (a && matches g s) h)

values-found : (rows on : List ℕ) (s : List (ℕ × Bool)) (g : ℕ → Bool) → any_match (map (λ t. or_keys (keys_once rows t) s) on) g ≡ (any_torn rows on && matches g s) || fires rows on g
values-found rows [] s g = refl
values-found rows (t ∷ ts) s g =
    rw (values-found rows ts s g) (value-found (keys_once rows t) s g (matches g (keys_of rows t)) (any_torn rows ts) (fires rows ts g) (keys-found [] rows t g))

or_true : (a : Bool) → a || true ≡ true
or_true true = refl
or_true false = refl

first-found : (o rest : Option (List (ℕ × Bool))) (g : ℕ → Bool) (m f : Bool) → found_in o g ≡ m → (found_in rest g ≡ true → f ≡ true) → found_in (or_first o rest) g ≡ true → m || f ≡ true
first-found None rest g m f is more h = rw (more h) (or_true m)
first-found (Some k) rest g m f is more h = rw (sym is ∙ h) refl

-- where the first value that wants no two bits of a row is found, the table finds
whole-fires : (rows on : List ℕ) (g : ℕ → Bool) → found_in (first_whole rows on) g ≡ true → fires rows on g ≡ true
unfolding first_whole
whole-fires rows [] g h = absurd (cc)
whole-fires rows (t ∷ ts) g h =
    first-found (keys_once rows t) (first_whole rows ts) g (matches g (keys_of rows t)) (fires rows ts g) (keys-found [] rows t g) (whole-fires rows ts g) h

none-found : (o rest : Option (List (ℕ × Bool))) (g : ℕ → Bool) (m f : Bool) → found_in o g ≡ m → (is_some rest ≡ false → f ≡ false) → is_some (or_first o rest) ≡ false → m || f ≡ false
none-found None rest g m f is more h = rw (sym is) (more h)
none-found (Some k) rest g m f is more h = absurd (cc)

-- where there is none the table finds nothing
torn-fires : (rows on : List ℕ) (g : ℕ → Bool) → has_whole rows on ≡ false → fires rows on g ≡ false
unfolding first_whole
torn-fires rows [] g h = refl
torn-fires rows (t ∷ ts) g h =
    none-found (keys_once rows t) (first_whole rows ts) g (matches g (keys_of rows t)) (fires rows ts g) (keys-found [] rows t g) (torn-fires rows ts g) h

no_more : (a p h : Bool) → (p ≡ true → h ≡ true) → (a && p) || h ≡ h
no_more true true h up = rw (up refl) refl
no_more true false h up = refl
no_more false p h up = refl

-- The keys of a table with a value that wants no two bits of a row find what the table does.
pub table-found : (rows on : List ℕ) (out : ℕ) (g : ℕ → Bool) → has_whole rows on ≡ true → any_match (table_keys rows on out) g ≡ fires rows on g
unfolding table_keys
table-found rows on out g some = from (first_whole rows on) refl some
  where
    from : (o : Option (List (ℕ × Bool))) → first_whole rows on ≡ o → is_some o ≡ true → any_match (map (search_keys rows on out) on) g ≡ fires rows on g
    from None is h = absurd (cc)
    from (Some k) is h =
        values-found rows on (stand_in rows on out) g
        ∙ no_more (any_torn rows on) (matches g (stand_in rows on out)) (fires rows on g) (λ hit. whole-fires rows on g (rw is (rw is at hit)))

both : (a p : Bool) → (a && p) || false ≡ true → p ≡ true
both true true h = refl
both true false h = absurd (cc)
both false p h = absurd (cc)

is_true : (x : Bool) → beq x true && true ≡ true → x ≡ true
is_true true h = refl
is_true false h = absurd (cc)

-- Those of a table with none find only what is written already.
pub table-torn : (rows on : List ℕ) (out : ℕ) (g : ℕ → Bool) → has_whole rows on ≡ false → any_match (table_keys rows on out) g ≡ true → g out ≡ true
unfolding table_keys
table-torn rows on out g none hit = from (first_whole rows on) refl none
  where
    from : (o : Option (List (ℕ × Bool))) → first_whole rows on ≡ o → is_some o ≡ false → g out ≡ true
    from (Some k) is h = absurd (cc)
    from None is h =
        let p = values-found rows on (stand_in rows on out) g in
        is_true (g out) (rw is at (both (any_torn rows on) (matches g (stand_in rows on out)) (rw (torn-fires rows on g none) at (sym p ∙ hit))))

-- a guarded write
settled : (row out : ℕ) (m a f bit o : Bool) → bit ≡ true → f ≡ false → (row ≡ out → a ≡ true → o ≡ true) → cond (eqb row out && m && a) bit o ≡ cond (eqb row out && m && f) bit o
settled row out m a f bit o one none held =
    rw (one, none) (⊎_elim
    (λ (same : row ≡ out). rw (eq-eqb row out same) (at m a (held same)))
    (λ (other : row ≢ out). rw (ne_eqb row out other) refl)
    (cases_eq row out))
  where
    at : (m a : Bool) → (a ≡ true → o ≡ true) → cond (m && a) true o ≡ cond (m && false) true o
    at true true held = sym (held refl)
    at true false held = refl
    at false a held = refl

-- Such a step writes the same by its keys as by its table: a step with a value that wants no two bits of a row, or one that
-- writes ones and does not move.
pub table-writes : (rows on : List ℕ) (out row : ℕ) (m bit o : Bool) (g : ℕ → Bool)
    → (has_whole rows on ≡ false → (bit ≡ true) × (row ≡ out → g out ≡ o))
    → cond (eqb row out && m && any_match (table_keys rows on out) g) bit o ≡ cond (eqb row out && m && fires rows on g) bit o
table-writes rows on out row m bit o g held =
    ⊎_elim
    (λ (some : has_whole rows on ≡ true). rw (table-found rows on out g some) refl)
    (λ (none : has_whole rows on ≡ false).
    let h = held none in
    settled row out m (any_match (table_keys rows on out) g) (fires rows on g) bit o h.0 (torn-fires rows on g none) (λ same hit. sym (h.1 same) ∙ table-torn rows on out g none hit))
    (cases_Bool (has_whole rows on))

-- a table has a set of keys for each value
pub table-count : (rows : List ℕ) (t : ℕ) (ts : List ℕ) (out : ℕ) → 0 < length (table_keys rows (t ∷ ts) out)
unfolding table_keys
table-count rows t ts out = omega arith

pub table-length : (rows on : List ℕ) (out : ℕ) → length (table_keys rows on out) ≡ length on
unfolding table_keys
table-length rows on out = length-map on (search_keys rows on out)

-- ---- tables that have such a value

-- each bit of the value is b
abbrev pub is_uniform : (rows : List ℕ) (t : ℕ) (b : Bool) → Bool
is_uniform [] t b = true
is_uniform (row ∷ rows) t b = beq (eqb (t % 2) 1) b && is_uniform rows (t / 2) b

-- the bits of one of the values are all alike
abbrev pub is_level : (rows on : List ℕ) → Bool
is_level rows [] = false
is_level rows (t ∷ ts) = (is_uniform rows t true || is_uniform rows t false) || is_level rows ts

-- keys that want the bit b of each row
abbrev want_alike : List (ℕ × Bool) → Bool → Bool
want_alike [] b = true
want_alike (key ∷ keys) b = beq key.1 b && want_alike keys b

beq_same : (x b : Bool) → beq x b ≡ true → x ≡ b
beq_same true true h = refl
beq_same false false h = refl
beq_same true false h = absurd (cc)
beq_same false true h = absurd (cc)

wanted-alike : (keys : List (ℕ × Bool)) (row : ℕ) (b other : Bool) → want_alike keys b ≡ true → wanted keys row ≡ Some other → other ≡ b
wanted-alike [] row b other h is = absurd (cc)
wanted-alike (key ∷ keys) row b other h is =
    let p = and_parts (beq key.1 b) (want_alike keys b) h in
    ⊎_elim
    (λ (same : eqb key.0 row ≡ true). sym (same_some key.1 other (rw same at is)) ∙ beq_same key.1 b p.0)
    (λ (apart : eqb key.0 row ≡ false). wanted-alike keys row b other p.1 (rw apart at is))
    (cases_Bool (eqb key.0 row))

alike-append : (xs ys : List (ℕ × Bool)) (b : Bool) → want_alike xs b ≡ true → want_alike ys b ≡ true → want_alike (xs ++ ys) b ≡ true
alike-append [] ys b p q = q
alike-append (x ∷ xs) ys b p q = let h = and_parts (beq x.1 b) (want_alike xs b) p in rw (h.0, alike-append xs ys b h.1 q) refl

same_bit : (b : Bool) → beq b b ≡ true
same_bit true = refl
same_bit false = refl

row-whole : (o : Option Bool) (keys : List (ℕ × Bool)) (row : ℕ) (b bit : Bool) (next : List (ℕ × Bool) → Option (List (ℕ × Bool)))
    → wanted keys row ≡ o → bit ≡ b → want_alike keys b ≡ true → ((more : List (ℕ × Bool)) → want_alike more b ≡ true → is_some (next more) ≡ true)
    → is_some (then_keys (with_row o keys row bit) next) ≡ true
row-whole None keys row b bit next is same all more =
    more (keys ++ (row, bit) ∷ []) (alike-append keys ((row, bit) ∷ []) b all (rw (same, same_bit b) refl))
row-whole (Some other) keys row b bit next is same all more = rw (wanted-alike keys row b other all is, same, same_bit b) (more keys all)

uniform-whole : (keys : List (ℕ × Bool)) (rows : List ℕ) (t : ℕ) (b : Bool) → want_alike keys b ≡ true → is_uniform rows t b ≡ true → is_some (keys_with keys rows t) ≡ true
unfolding keys_with
uniform-whole keys [] t b all h = refl
uniform-whole keys (row ∷ rows) t b all h =
    let p = and_parts (beq (eqb (t % 2) 1) b) (is_uniform rows (t / 2) b) h in
    row-whole (wanted keys row) keys row b (eqb (t % 2) 1) (λ more. keys_with more rows (t / 2)) refl (beq_same (eqb (t % 2) 1) b p.0) all (λ more alike. uniform-whole more rows (t / 2) b alike p.1)

either : (a b : Bool) → a || b ≡ true → (a ≡ true) ⊎ (b ≡ true)
either true b h = inl refl
either false b h = inr h

first-some : (o rest : Option (List (ℕ × Bool))) → (is_some o ≡ true) ⊎ (is_some rest ≡ true) → is_some (or_first o rest) ≡ true
first-some None rest h = ⊎_elim (λ (x : is_some {T = List (ℕ × Bool)} None ≡ true). absurd (cc)) (λ (x : is_some rest ≡ true). x) h
first-some (Some k) rest h = refl

pub level-whole : (rows on : List ℕ) → is_level rows on ≡ true → has_whole rows on ≡ true
unfolding first_whole
level-whole rows [] h = absurd (cc)
level-whole rows (t ∷ ts) h =
    first-some (keys_once rows t) (first_whole rows ts)
    (⊎_elim
    (λ (x : (is_uniform rows t true || is_uniform rows t false) ≡ true). inl (⊎_elim (uniform-whole [] rows t true refl) (uniform-whole [] rows t false refl) (either (is_uniform rows t true) (is_uniform rows t false) x)))
    (λ (x : is_level rows ts ≡ true). inr (level-whole rows ts x))
    (either (is_uniform rows t true || is_uniform rows t false) (is_level rows ts) h))

-- one row that is copied
pub copy-whole : (row : ℕ) → has_whole (row ∷ []) (1 ∷ []) ≡ true
copy-whole row = level-whole (row ∷ []) (1 ∷ []) refl

-- ---- rows that are apart

-- none of the keys names one of the rows
abbrev are_new : List (ℕ × Bool) → List ℕ → Bool
are_new [] rows = true
are_new (key ∷ keys) rows = is_new_row key.0 (keys_of rows 0) && are_new keys rows

unwanted : (keys : List (ℕ × Bool)) (row : ℕ) (rows : List ℕ) → are_new keys (row ∷ rows) ≡ true → wanted keys row ≡ None
unwanted [] row rows h = refl
unwanted (key ∷ keys) row rows h =
    let p = and_parts (not (eqb key.0 row) && is_new_row key.0 (keys_of rows 0)) (are_new keys (row ∷ rows)) h in
    let q = and_parts (not (eqb key.0 row)) (is_new_row key.0 (keys_of rows 0)) p.0 in
    rw (not_true (eqb key.0 row) q.0) (unwanted keys row rows p.1)
  where
    not_true : (b : Bool) → not b ≡ true → b ≡ false
    not_true false h = refl
    not_true true h = absurd (cc)

new-more : (keys : List (ℕ × Bool)) (row : ℕ) (bit : Bool) (rows : List ℕ) → are_new keys (row ∷ rows) ≡ true → is_new_row row (keys_of rows 0) ≡ true → are_new (keys ++ (row, bit) ∷ []) rows ≡ true
new-more [] row bit rows h new = rw new refl
new-more (key ∷ keys) row bit rows h new =
    let p = and_parts (not (eqb key.0 row) && is_new_row key.0 (keys_of rows 0)) (are_new keys (row ∷ rows)) h in
    let q = and_parts (not (eqb key.0 row)) (is_new_row key.0 (keys_of rows 0)) p.0 in
    rw (q.1, new-more keys row bit rows p.1 new) refl

-- each is named as it stands
keys-apart : (keys : List (ℕ × Bool)) (rows : List ℕ) (t : ℕ) → are_new keys rows ≡ true → are_apart (keys_of rows 0) ≡ true → keys_with keys rows t ≡ Some (keys ++ keys_of rows t)
unfolding keys_with
keys-apart keys [] t new apart = ap (λ (l : List (ℕ × Bool)). let z : Option (List (ℕ × Bool)) = Some l in z) (sym (append-nil keys))
keys-apart keys (row ∷ rows) t new apart =
    let p = and_parts (ltb row 64 && is_new_row row (keys_of rows 0)) (are_apart (keys_of rows 0)) apart in
    let q = and_parts (ltb row 64) (is_new_row row (keys_of rows 0)) p.0 in
    let key : ℕ × Bool = (row, eqb (t % 2) 1) in
    rw (unwanted keys row rows new)
    (keys-apart (keys ++ key ∷ []) rows (t / 2) (new-more keys row (eqb (t % 2) 1) rows new q.1) p.1
    ∙ ap (λ (l : List (ℕ × Bool)). let z : Option (List (ℕ × Bool)) = Some l in z) (append_assoc keys (key ∷ []) (keys_of rows (t / 2))))

pub once-apart : (rows : List ℕ) (t : ℕ) → are_keys (keys_of rows 0) ≡ true → keys_once rows t ≡ Some (keys_of rows t)
once-apart rows t keys = keys-apart [] rows t refl (and_parts (leb (length (keys_of rows 0)) 4) (are_apart (keys_of rows 0)) keys).1

-- so the keys of a table are those of its values
pub table-apart : (rows on : List ℕ) (out : ℕ) → are_keys (keys_of rows 0) ≡ true → table_keys rows on out ≡ map (keys_of rows) on
unfolding table_keys
table-apart rows on out keys = each on
  where
    each : (ts : List ℕ) → map (search_keys rows on out) ts ≡ map (keys_of rows) ts
    each [] = refl
    each (t ∷ ts) = rw (once-apart rows t keys, each ts) refl

pub any-of-keys : (rows on : List ℕ) (g : ℕ → Bool) → any_match (map (keys_of rows) on) g ≡ fires rows on g
any-of-keys rows [] g = refl
any-of-keys rows (t ∷ ts) g = ap (λ b. matches g (keys_of rows t) || b) (any-of-keys rows ts g)

pub apart-whole : (rows : List ℕ) (t : ℕ) (ts : List ℕ) → are_keys (keys_of rows 0) ≡ true → has_whole rows (t ∷ ts) ≡ true
unfolding first_whole
apart-whole rows t ts keys = rw (once-apart rows t keys) refl

-- two rows that are apart
pub pair-whole : (x y t : ℕ) (ts : List ℕ) → x ≢ y → has_whole (x ∷ y ∷ []) (t ∷ ts) ≡ true
unfolding first_whole keys_with
pair-whole x y t ts other = rw (ne_eqb x y other) refl

-- ---- keys as they are written

-- one row more that the pairs do not name
pub apart-more : (pairs : List (ℕ × Bool)) (row : ℕ) (bit : Bool) → are_apart pairs ≡ true → wanted pairs row ≡ None → row < 64 → are_apart (pairs ++ (row, bit) ∷ []) ≡ true
apart-more [] row bit apart new low = rw (lt-ltb row 64 low) refl
apart-more (pair ∷ pairs) row bit apart new low =
    let p = and_parts (ltb pair.0 64 && is_new_row pair.0 pairs) (are_apart pairs) apart in
    let q = and_parts (ltb pair.0 64) (is_new_row pair.0 pairs) p.0 in
    ⊎_elim
    (λ (same : eqb pair.0 row ≡ true). absurd (some_none pair.1 (rw same at new)))
    (λ (other : eqb pair.0 row ≡ false). rw (q.0, still_new pair.0 pairs q.1 other, apart-more pairs row bit p.1 (rw other at new) low) refl)
    (cases_Bool (eqb pair.0 row))
  where
    some_none : (b : Bool) → Some b ≡ None → ⊥
    some_none b h = cc

    still_new : (r : ℕ) (ps : List (ℕ × Bool)) → is_new_row r ps ≡ true → eqb r row ≡ false → is_new_row r (ps ++ (row, bit) ∷ []) ≡ true
    still_new r [] h other = rw other refl
    still_new r (p ∷ ps) h other =
        let x = and_parts (not (eqb r p.0)) (is_new_row r ps) h in
        rw (x.0, still_new r ps x.1 other) refl

-- rows that are apart are rows
pub keys-rows : (rows : List ℕ) → are_keys (keys_of rows 0) ≡ true → are_rows rows ≡ true
keys-rows rows keys =
    let p = and_parts (leb (length (keys_of rows 0)) 4) (are_apart (keys_of rows 0)) keys in
    rw (← length-keys_of rows 0) (rw (p.0, all rows p.1) refl)
  where
    all : (rs : List ℕ) → are_apart (keys_of rs 0) ≡ true → all_rows rs ≡ true
    all [] h = refl
    all (r ∷ rs) h =
        let p = and_parts (ltb r 64 && is_new_row r (keys_of rs 0)) (are_apart (keys_of rs 0)) h in
        let q = and_parts (ltb r 64) (is_new_row r (keys_of rs 0)) p.0 in
        rw (q.0, all rs p.1) refl

-- the rows of a table are few, and each is one of a subarray's
pub rows-few : (rows : List ℕ) → are_rows rows ≡ true → length rows ≤ 4
rows-few rows h = leb-true (length rows) 4 (and_parts (leb (length rows) 4) (all_rows rows) h).0

pub row-low : (rows : List ℕ) (i : ℕ) → all_rows rows ≡ true → i < length rows → get_or rows i 0 < 64
row-low [] i h inside = absurd (omega arith)
row-low (r ∷ rs) zero h inside = ltb-true r 64 (and_parts (ltb r 64) (all_rows rs) h).0
row-low (r ∷ rs) (suc i) h inside = row-low rs i (and_parts (ltb r 64) (all_rows rs) h).1 (omega arith)

-- The first pairs are the keys of the rows so far; the rows that are left take the rest of the value.
pub record KeysSoFar (rows : List ℕ) (value i count : ℕ) (pairs : List (ℕ × Bool)) (rest : ℕ) : Type 0 where
  pub few : count ≤ i
  pub small : count ≤ 4
  pub four : length pairs ≡ 4
  pub apart : are_apart (take count pairs) ≡ true
  pub keys : keys_with (take count pairs) (drop i rows) rest ≡ keys_once rows value

with_row-apart : (o : Option Bool) (keys more : List (ℕ × Bool)) (row : ℕ) (bit : Bool) → wanted keys row ≡ o → are_apart keys ≡ true → row < 64
    → with_row o keys row bit ≡ Some more → are_apart more ≡ true
with_row-apart None keys more row bit is apart low so =
    let e : keys ++ (row, bit) ∷ [] ≡ more = cc in rw (← e) (apart-more keys row bit apart is low)
with_row-apart (Some other) keys more row bit is apart low so =
    ⊎_elim
    (λ (same : beq other bit ≡ true). let q = rw same at so in let e : keys ≡ more = cc in rw (← e) apart)
    (λ (torn : beq other bit ≡ false). let q = rw torn at so in absurd (none_some more q))
    (cases_Bool (beq other bit))
  where
    none_some : (k : List (ℕ × Bool)) → None ≡ Some k → ⊥
    none_some k h = cc

-- one row more
pub keys-next : (rows : List ℕ) (value i count n rest : ℕ) (pairs now : List (ℕ × Bool)) → are_rows rows ≡ true → i < length rows → KeysSoFar rows value i count pairs rest
    → length now ≡ length pairs → n ≤ count + 1
    → with_row (wanted (take count pairs) (get_or rows i 0)) (take count pairs) (get_or rows i 0) (eqb (rest % 2) 1) ≡ Some (take n now)
    → KeysSoFar rows value (i + 1) n now (rest / 2)
unfolding keys_with
keys-next rows value i count n rest pairs now all inside s same more step =
    let few = rows-few rows all in
    let so : count ≤ i = s.few in
    let low = row-low rows i (and_parts (leb (length rows) 4) (all_rows rows) all).1 inside in
    let e : i + 1 ≡ suc i = omega arith in
    record {
      few = omega arith;
      small = omega arith;
      four = same ∙ s.four;
      apart = with_row-apart (wanted (take count pairs) (get_or rows i 0)) (take count pairs) (take n now) (get_or rows i 0) (eqb (rest % 2) 1) refl s.apart low step;
      keys = rw e (rw step at (rw (drop-cons rows i 0 inside) at s.keys));
    }

-- a row of which the pairs want the other bit
pub keys-none : (rows : List ℕ) (value i count rest : ℕ) (pairs : List (ℕ × Bool)) → i < length rows → KeysSoFar rows value i count pairs rest
    → with_row (wanted (take count pairs) (get_or rows i 0)) (take count pairs) (get_or rows i 0) (eqb (rest % 2) 1) ≡ None
    → None ≡ keys_once rows value
unfolding keys_with
keys-none rows value i count rest pairs inside s step = rw step at (rw (drop-cons rows i 0 inside) at s.keys)

-- all rows
pub keys-all : (rows : List ℕ) (value i count rest : ℕ) (pairs : List (ℕ × Bool)) → length rows ≤ i → KeysSoFar rows value i count pairs rest
    → Some (take count pairs) ≡ keys_once rows value
unfolding keys_with
keys-all rows value i count rest pairs done s = rw (drop_of_length-le rows done) at s.keys

pub keys-good : (rows : List ℕ) (value i count rest : ℕ) (pairs : List (ℕ × Bool)) → KeysSoFar rows value i count pairs rest → are_keys (take count pairs) ≡ true
keys-good rows value i count rest pairs s =
    let small : count ≤ 4 = s.small in
    let four : length pairs ≡ 4 = s.four in
    let l : length (take count pairs) ≡ count = length-take-le count pairs (omega arith) in
    rw (l, le-leb count 4 small, s.apart) refl

-- ---- the first value that wants no two bits of a row

pub whole-here : (rows on : List ℕ) (i : ℕ) (keys : List (ℕ × Bool)) → i < length on → keys_once rows (get_or on i 0) ≡ Some keys → first_whole rows (drop i on) ≡ first_whole rows on
    → Some keys ≡ first_whole rows on
unfolding first_whole
whole-here rows on i keys inside is so = rw is at (rw (drop-cons on i 0 inside) at so)

pub whole-next : (rows on : List ℕ) (i : ℕ) → i < length on → keys_once rows (get_or on i 0) ≡ None → first_whole rows (drop i on) ≡ first_whole rows on
    → first_whole rows (drop (i + 1) on) ≡ first_whole rows on
unfolding first_whole
whole-next rows on i inside is so =
    let e : i + 1 ≡ suc i = omega arith in
    rw e (rw is at (rw (drop-cons on i 0 inside) at so))

pub whole-none : (rows on : List ℕ) (i : ℕ) → length on ≤ i → first_whole rows (drop i on) ≡ first_whole rows on → None ≡ first_whole rows on
unfolding first_whole
whole-none rows on i done so = rw (drop_of_length-le on done) at so
