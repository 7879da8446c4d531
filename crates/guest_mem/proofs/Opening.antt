-- The memory of a list of regions is that of its first regions, with the last one laid over it.
use Rattle.std.proofs.Common.{◌≡◌, ℕ, zero, suc, ◌+◌, ◌-◌, ◌*◌, ◌^◌, ◌<◌, ◌≤◌, min, Bool, true, false, cond, bit_or, ◌||◌, List, [], ◌∷◌, ◌++◌, map, fold, take, length, get_or, Option, Some, None, refl, sym, ap, ◌∙◌, arith, ⊎_elim}
use Rattle.std.specs.Prelude.{nat_lt, slice_get, unwrap_or}
use Rattle.std.specs.Int.Bits.{or_zero_l}
use Rattle.std.specs.FinMap as fin
use Rattle.std.proofs.lemmas.Cmp.{nat_cmp_total}
use Rattle.std.proofs.lemmas.Bool.{cases_Bool, cases_eq, cases_lt, or_parts, both_ways, eq-eqb, ne_eqb, ltb-false}
use Rattle.std.proofs.lemmas.List.{length-take, length-replicate, get_or-replicate, map-append, take_more, take_all}
use Rattle.std.proofs.lemmas.List.FromFn.{fill_by_all, length-map-range_with_len, get_or-map-range_with_len}
use Rattle.std.proofs.lemmas.List.Sums.{fold_push}
use Rattle.std.proofs.lemmas.Option.{slice_get_past}
use Rattle.guest_mem.specs.Pages.{Page, Pages, joined}
use Rattle.guest_mem.specs.Spans.{first_page, last_page, page_count_of, meets, is_mapped, page_perms, page_numbers, span_of}
use Rattle.guest_mem.specs.Opening.{bytes_of, byte_from, byte_of, listed, page_held, page_opened, pages_given, with_given, opened}
use Rattle.guest_mem.specs.Laying.{granted, laid}
use Rattle.guest_mem.specs.declared.spans.Span.{Span}
use Rattle.guest_mem.specs.declared.regions.Region.{Region}
use Rattle.guest_mem.proofs.Meeting.{IsMet, IsMet-from_meets, meets-from_IsMet, is_mapped-push, page_perms-push, page_perms-unmapped}
use Rattle.guest_mem.proofs.Writing.{get-here}
use Rattle.guest_mem.proofs.Laying.{insert-other, granted-before, granted-past, granted-within, Holds, byte_after, written-unmapped, written-holds}

-- ---- the pages that a function gives

with_given-here : (pages : Pages) (n : ℕ) (o : Option Page) → fin.get pages n ≡ None → fin.get (with_given pages n o) n ≡ o
with_given-here pages n None none = none
with_given-here pages n (Some p) none = get-here pages n p

with_given-other : (pages : Pages) (n : ℕ) (o : Option Page) (x : ℕ) → (n ≡ x → ⊥) → fin.get (with_given pages n o) x ≡ fin.get pages x
with_given-other pages n None x apart = refl
with_given-other pages n (Some p) x apart = insert-other pages n p x apart

given-past : (f : ℕ → Option Page) (n x : ℕ) → n ≤ x → fin.get (pages_given f n) x ≡ None
unfolding pages_given
given-past f zero x past = fin.get-from_entries nat_cmp_total [] x
given-past f (suc n) x past = with_given-other (pages_given f n) n (f n) x (λ same. omega arith) ∙ given-past f n x (omega arith)

given-within : (f : ℕ → Option Page) (n x : ℕ) → x < n → fin.get (pages_given f n) x ≡ f x
unfolding pages_given
given-within f zero x within = absurd (omega arith)
given-within f (suc n) x within =
    ⊎_elim
    (λ (here : n ≡ x). rw (← here) (with_given-here (pages_given f n) n (f n) (given-past f n n (omega arith))))
    (λ (other : n ≡ x → ⊥). with_given-other (pages_given f n) n (f n) x other ∙ given-within f n x (omega arith))
    (cases_eq n x)

pub opened-past : (rs : List Region) (x : ℕ) → page_numbers ≤ x → fin.get (opened rs) x ≡ None
unfolding opened
opened-past rs x past = given-past (page_opened rs) page_numbers x past

pub opened-within : (rs : List Region) (x : ℕ) → x < page_numbers → fin.get (opened rs) x ≡ page_opened rs x
unfolding opened
opened-within rs x within = given-within (page_opened rs) page_numbers x within

-- ---- what a page holds

listed-is : (f : ℕ → ℕ) (first n : ℕ) (q : List ℕ) → length q ≡ n → ((k : ℕ) → k < n → get_or q k 0 ≡ f (first + k)) → q ≡ listed f first n
unfolding listed
listed-is f first n q whole each = fill_by_all (λ k. f (first + k)) q n 0 whole each

length-listed : (f : ℕ → ℕ) (first n : ℕ) → length (listed f first n) ≡ n
unfolding listed
length-listed f first n = length-map-range_with_len (λ k. f (first + k)) 0 n

get_or-listed : (f : ℕ → ℕ) (first n k : ℕ) → k < n → get_or (listed f first n) k 0 ≡ f (first + k)
unfolding listed
get_or-listed f first n k within = get_or-map-range_with_len (λ i. f (first + i)) 0 n k k 0 within (omega arith)

page-same : (p : Page) (perms : ℕ) (bytes : List ℕ) → p.perms ≡ perms → p.bytes ≡ bytes → p ≡ record { perms = perms; bytes = bytes }
page-same p perms bytes e f = λ i. record { perms = e i; bytes = f i }

-- a page is what it holds
held-is : (found : Option Page) (rs : List Region) (x : ℕ) → Holds found (page_perms (map span_of rs) x) (λ k. byte_of rs (x * 4096 + k)) → found ≡ Some (page_held rs x)
held-is found rs x h = h.is ∙ ap Some (page-same h.page (page_perms (map span_of rs) x) (listed (byte_of rs) (x * 4096) 4096) h.perms_are (listed-is (byte_of rs) (x * 4096) 4096 h.page.bytes h.whole h.each))

-- ---- one region more

holds-at : (found other : Option Page) (perms : ℕ) (f : ℕ → ℕ) → found ≡ other → Holds other perms f → Holds found perms f
holds-at found other perms f e h = record { page = h.page; is = e ∙ h.is; perms_are = h.perms_are; whole = h.whole; each = h.each }

or-true : (b : Bool) → (b || true) ≡ true
or-true true = refl
or-true false = refl

not-zero : (n : ℕ) → (n ≡ 0 → ⊥) → 0 < n
not-zero zero none = absurd (none refl)
not-zero (suc n) none = omega arith

byte_of-push : (rs : List Region) (r : Region) (a : ℕ) → byte_of (rs ++ r ∷ []) a ≡ byte_after r.start (bytes_of r) a (byte_of rs a)
unfolding byte_of
byte_of-push rs r a = fold_push (λ before (s : Region). unwrap_or (byte_from s.start (bytes_of s) a) before) 0 rs r

inside-is_met : (r : Region) (x k : ℕ) → k < 4096 → r.start ≤ x * 4096 + k → x * 4096 + k - r.start < r.len → IsMet x (span_of r)
inside-is_met r x k within from to = record { has_bytes = omega arith; from = omega arith; to = omega arith }

-- a region has no byte in a page that it does not meet
byte_from-missed : (r : Region) (x k : ℕ) → k < 4096 → meets x (span_of r) ≡ false → (below : Bool) → nat_lt (x * 4096 + k) r.start ≡ below → byte_from r.start (bytes_of r) (x * 4096 + k) ≡ None
byte_from-missed r x k within missed true e = ap (λ b. cond b None (slice_get (bytes_of r) (x * 4096 + k - r.start))) e
byte_from-missed r x k within missed false e =
    let from : r.start ≤ x * 4096 + k = ltb-false (x * 4096 + k) r.start e in
    let few = length-take (min r.len (2 ^ 32 - r.start)) r.bytes in
    let past : length (bytes_of r) ≤ x * 4096 + k - r.start =
    ⊎_elim
    (λ (inside : x * 4096 + k - r.start < length (bytes_of r)).
    let some : x * 4096 + k - r.start < r.len = omega (arith, few) in
    absurd (both_ways (meets x (span_of r)) missed (meets-from_IsMet x (span_of r) (inside-is_met r x k within from some))))
    (λ (past : length (bytes_of r) ≤ x * 4096 + k - r.start). past)
    (cases_lt (x * 4096 + k - r.start) (length (bytes_of r))) in
    ap (λ b. cond b None (slice_get (bytes_of r) (x * 4096 + k - r.start))) e ∙ slice_get_past (bytes_of r) (x * 4096 + k - r.start) past

byte_of-unmapped : (rs : List Region) (x k : ℕ) → k < 4096 → is_mapped (map span_of rs) x ≡ false → byte_of rs (x * 4096 + k) ≡ 0
unfolding byte_of
byte_of-unmapped [] x k within unmapped = refl
byte_of-unmapped (r ∷ rs) x k within unmapped =
    let both = or_parts (meets x (span_of r)) (is_mapped (map span_of rs) x) unmapped in
    let step = λ (before : ℕ) (s : Region). unwrap_or (byte_from s.start (bytes_of s) (x * 4096 + k)) before in
    ap (λ (o : Option ℕ). fold step (unwrap_or o 0) rs) (byte_from-missed r x k within both.0 (nat_lt (x * 4096 + k) r.start) refl) ∙ byte_of-unmapped rs x k within both.1

spans-push : (rs : List Region) (r : Region) → map span_of (rs ++ r ∷ []) ≡ map span_of rs ++ span_of r ∷ []
spans-push rs r = map-append span_of rs (r ∷ [])

-- the pages that get permissions are those that the range meets
count-outside : (s : Span) (x : ℕ) → first_page s ≤ x → (x < page_numbers → meets x s ≡ false) → first_page s + page_count_of s ≤ x
count-outside s x from missed =
    ⊎_elim
    (λ (none : s.len ≡ 0).
    let e : page_count_of s ≡ 0 = ap (λ b. cond b 0 (min (last_page s) (page_numbers - 1) + 1 - first_page s)) (eq-eqb s.len 0 none) in
    omega (arith, e))
    (λ (some : s.len ≡ 0 → ⊥).
    let e : page_count_of s ≡ min (last_page s) (page_numbers - 1) + 1 - first_page s = ap (λ b. cond b 0 (min (last_page s) (page_numbers - 1) + 1 - first_page s)) (ne_eqb s.len 0 some) in
    ⊎_elim
    (λ (inside : x < first_page s + page_count_of s).
    let to : x ≤ last_page s = omega (arith, e) in
    let here : x < page_numbers = omega (arith, e) in
    absurd (both_ways (meets x s) (missed here) (meets-from_IsMet x s (record { has_bytes = not-zero s.len some; from = from; to = to }))))
    (λ (past : first_page s + page_count_of s ≤ x). past)
    (cases_lt x (first_page s + page_count_of s)))
    (cases_eq s.len 0)

count-within : (s : Span) (x : ℕ) → x < page_numbers → IsMet x s → x < first_page s + page_count_of s
count-within s x within m =
    let some : 0 < s.len = m.has_bytes in
    let from : first_page s ≤ x = m.from in
    let to : x ≤ last_page s = m.to in
    let e : page_count_of s ≡ min (last_page s) (page_numbers - 1) + 1 - first_page s = ap (λ b. cond b 0 (min (last_page s) (page_numbers - 1) + 1 - first_page s)) (ne_eqb s.len 0 (λ none. omega arith)) in
    omega (arith, e)

granted-missed : (pages : Pages) (s : Span) (perms x : ℕ) → (x < page_numbers → meets x s ≡ false) → fin.get (granted pages perms (first_page s) (page_count_of s)) x ≡ fin.get pages x
granted-missed pages s perms x missed =
    ⊎_elim
    (λ (before : x < first_page s). granted-before pages perms (first_page s) (page_count_of s) x before)
    (λ (from : first_page s ≤ x). granted-past pages perms (first_page s) (page_count_of s) x (count-outside s x from missed))
    (cases_lt x (first_page s))

granted-met : (pages : Pages) (s : Span) (perms x : ℕ) → x < page_numbers → IsMet x s → fin.get (granted pages perms (first_page s) (page_count_of s)) x ≡ Some (joined (fin.get pages x) perms)
granted-met pages s perms x within m = granted-within pages perms (first_page s) (page_count_of s) x m.from (count-within s x within m)

-- what a page holds, as a look-up finds it
page_held-holds : (rs : List Region) (x : ℕ) → Holds (Some (page_held rs x)) (page_perms (map span_of rs) x) (λ k. byte_of rs (x * 4096 + k))
page_held-holds rs x = record { page = page_held rs x; is = refl; perms_are = refl; whole = length-listed (byte_of rs) (x * 4096) 4096; each = λ k within. get_or-listed (byte_of rs) (x * 4096) 4096 k within }

-- and with the permissions of one region more
joined-holds : (rs : List Region) (x perms : ℕ) → Holds (Some (joined (page_opened rs x) perms)) (bit_or (page_perms (map span_of rs) x) perms) (λ k. byte_of rs (x * 4096 + k))
joined-holds rs x perms =
    ⊎_elim
    (λ (mapped : is_mapped (map span_of rs) x ≡ true).
    let held = page_held rs x in
    record {
      page = record held { perms = bit_or held.perms perms };
      is = ap (λ b. Some (joined (cond b (Some held) None) perms)) mapped;
      perms_are = refl;
      whole = length-listed (byte_of rs) (x * 4096) 4096;
      each = λ k within. get_or-listed (byte_of rs) (x * 4096) 4096 k within;
    })
    (λ (unmapped : is_mapped (map span_of rs) x ≡ false). record {
      page = joined None perms;
      is = ap (λ b. Some (joined (cond b (Some (page_held rs x)) None) perms)) unmapped;
      perms_are = sym (ap (λ p. bit_or p perms) (page_perms-unmapped (map span_of rs) x unmapped) ∙ or_zero_l perms);
      whole = length-replicate {A = ℕ} 4096 0;
      each = λ k within. get_or-replicate 4096 k 0 0 within ∙ sym (byte_of-unmapped rs x k within unmapped);
    })
    (cases_Bool (is_mapped (map span_of rs) x))

-- the pages with the permissions of a region, and with its bytes
abbrev with_perms : List Region → Region → Pages
with_perms rs r = granted (opened rs) r.perms.0 (first_page (span_of r)) (page_count_of (span_of r))

laid-holds :
    (rs : List Region) (r : Region) (x perms : ℕ)
    → page_perms (map span_of (rs ++ r ∷ [])) x ≡ perms
    → Holds (fin.get (with_perms rs r) x) perms (λ k. byte_of rs (x * 4096 + k))
    → fin.get (laid (opened rs) r) x ≡ Some (page_held (rs ++ r ∷ []) x)
laid-holds rs r x perms e h =
    let few = length-take (min r.len (2 ^ 32 - r.start)) r.bytes in
    let w = written-holds (with_perms rs r) r.start (bytes_of r) x perms (λ k. byte_of rs (x * 4096 + k)) (omega (arith, few)) h in
    held-is (fin.get (laid (opened rs) r) x) (rs ++ r ∷ []) x (record {
      page = w.page;
      is = w.is;
      perms_are = w.perms_are ∙ sym e;
      whole = w.whole;
      each = λ k within. w.each k within ∙ sym (byte_of-push rs r (x * 4096 + k));
    })

mapped-either : (rs : List Region) (r : Region) (x : ℕ) (first last : Bool) → is_mapped (map span_of rs) x ≡ first → meets x (span_of r) ≡ last → is_mapped (map span_of (rs ++ r ∷ [])) x ≡ (first || last)
mapped-either rs r x first last e f = ap (λ ss. is_mapped ss x) (spans-push rs r) ∙ is_mapped-push (map span_of rs) (span_of r) x ∙ ap (λ b. b || meets x (span_of r)) e ∙ ap (λ b. first || b) f

perms-either : (rs : List Region) (r : Region) (x : ℕ) (last : Bool) → meets x (span_of r) ≡ last → page_perms (map span_of (rs ++ r ∷ [])) x ≡ cond last (bit_or (page_perms (map span_of rs) x) r.perms.0) (page_perms (map span_of rs) x)
perms-either rs r x last e = ap (λ ss. page_perms ss x) (spans-push rs r) ∙ page_perms-push (map span_of rs) (span_of r) x ∙ ap (λ b. cond b (bit_or (page_perms (map span_of rs) x) r.perms.0) (page_perms (map span_of rs) x)) e

opened-mapped : (rs : List Region) (x : ℕ) → is_mapped (map span_of rs) x ≡ true → page_opened rs x ≡ Some (page_held rs x)
opened-mapped rs x e = ap (λ b. cond b (Some (page_held rs x)) None) e

opened-unmapped : (rs : List Region) (x : ℕ) → is_mapped (map span_of rs) x ≡ false → page_opened rs x ≡ None
opened-unmapped rs x e = ap (λ b. cond b (Some (page_held rs x)) None) e

laid-met : (rs : List Region) (r : Region) (x : ℕ) → x < page_numbers → meets x (span_of r) ≡ true → fin.get (laid (opened rs) r) x ≡ page_opened (rs ++ r ∷ []) x
laid-met rs r x within met =
    let found = granted-met (opened rs) (span_of r) r.perms.0 x within (IsMet-from_meets x (span_of r) met) ∙ ap (λ (o : Option Page). Some (joined o r.perms.0)) (opened-within rs x within) in
    let perms = bit_or (page_perms (map span_of rs) x) r.perms.0 in
    let h = holds-at (fin.get (with_perms rs r) x) (Some (joined (page_opened rs x) r.perms.0)) perms (λ k. byte_of rs (x * 4096 + k)) found (joined-holds rs x r.perms.0) in
    let whole = mapped-either rs r x (is_mapped (map span_of rs) x) true refl met ∙ or-true (is_mapped (map span_of rs) x) in
    laid-holds rs r x perms (perms-either rs r x true met) h ∙ sym (opened-mapped (rs ++ r ∷ []) x whole)

laid-missed : (rs : List Region) (r : Region) (x : ℕ) → x < page_numbers → meets x (span_of r) ≡ false → fin.get (laid (opened rs) r) x ≡ page_opened (rs ++ r ∷ []) x
laid-missed rs r x within missed =
    let found = granted-missed (opened rs) (span_of r) r.perms.0 x (λ here. missed) ∙ opened-within rs x within in
    ⊎_elim
    (λ (mapped : is_mapped (map span_of rs) x ≡ true).
    let perms = page_perms (map span_of rs) x in
    let h = holds-at (fin.get (with_perms rs r) x) (Some (page_held rs x)) perms (λ k. byte_of rs (x * 4096 + k)) (found ∙ opened-mapped rs x mapped) (page_held-holds rs x) in
    laid-holds rs r x perms (perms-either rs r x false missed) h ∙ sym (opened-mapped (rs ++ r ∷ []) x (mapped-either rs r x true false mapped missed)))
    (λ (unmapped : is_mapped (map span_of rs) x ≡ false).
    written-unmapped (with_perms rs r) r.start (bytes_of r) x (found ∙ opened-unmapped rs x unmapped) ∙ sym (opened-unmapped (rs ++ r ∷ []) x (mapped-either rs r x false false unmapped missed)))
    (cases_Bool (is_mapped (map span_of rs) x))

laid-at : (rs : List Region) (r : Region) (x : ℕ) → fin.get (opened (rs ++ r ∷ [])) x ≡ fin.get (laid (opened rs) r) x
laid-at rs r x =
    ⊎_elim
    (λ (within : x < page_numbers).
    opened-within (rs ++ r ∷ []) x within ∙ sym (
    ⊎_elim
    (λ (met : meets x (span_of r) ≡ true). laid-met rs r x within met)
    (λ (missed : meets x (span_of r) ≡ false). laid-missed rs r x within missed)
    (cases_Bool (meets x (span_of r)))))
    (λ (past : page_numbers ≤ x).
    opened-past (rs ++ r ∷ []) x past ∙ sym (
    written-unmapped (with_perms rs r) r.start (bytes_of r) x (granted-missed (opened rs) (span_of r) r.perms.0 x (λ here. absurd (omega arith)) ∙ opened-past rs x past)))
    (cases_lt x page_numbers)

pub opened-push : (rs : List Region) (r : Region) → opened (rs ++ r ∷ []) ≡ laid (opened rs) r
opened-push rs r = fin.same_map nat_cmp_total fin.nat_cmp-IsAntisymmetric (opened (rs ++ r ∷ [])) (laid (opened rs) r) (laid-at rs r)

-- ---- the regions of a list, one after the other

pub opened-none : opened [] ≡ fin.empty
opened-none =
    fin.same_map nat_cmp_total fin.nat_cmp-IsAntisymmetric (opened []) fin.empty (λ x.
    ⊎_elim
    (λ (within : x < page_numbers). opened-within [] x within ∙ sym (fin.get-from_entries nat_cmp_total [] x))
    (λ (past : page_numbers ≤ x). opened-past [] x past ∙ sym (fin.get-from_entries nat_cmp_total [] x))
    (cases_lt x page_numbers))

pub opened-more : (regions : List Region) (i : ℕ) (r : Region) → i < length regions → r ≡ get_or regions i r → opened (take (i + 1) regions) ≡ laid (opened (take i regions)) r
opened-more regions i r inside is = rw (take_more regions i r inside, ← is) (opened-push (take i regions) r)

pub opened-all : (regions : List Region) (i : ℕ) → length regions ≤ i → opened (take i regions) ≡ opened regions
opened-all regions i past = ap opened (take_all i regions past)
