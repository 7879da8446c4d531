-- The first fault of an image: by parts of the list of faults, and what it says of an image that it has none.
use Rattle.std.proofs.Common.{◌≡◌, ◌≢◌, ℕ, ◌≤◌, List, [], ◌∷◌, ◌++◌, length, Bool, true, false, cond, Option, Some, None, refl, sym, ◌∙◌, ap, subst, inl, inr}
use Rattle.std.specs.Prelude.{map, not, ◌==◌, ◌/◌, ◌%◌}
use Rattle.std.proofs.lemmas.Bool.{cases_Bool, false≢true, not-false, or_parts, eqb-true, ltb-false}
use Rattle.elf_load.specs.declared.faults.LoadFault.{LoadFault}
use Rattle.elf_load.specs.declared.faults.LoadFault.TheVariants.{NoMemory}
use Rattle.elf_load.specs.Fields.{entry}
use Rattle.elf_load.specs.Headers.{headers, segments}
use Rattle.guest_mem.specs.Pages.{page_of, page_size}
use Rattle.guest_mem.specs.Spans.{span_of}
use Rattle.elf_load.specs.Layout.{top, spans, heap_start, heap_limit, heap_end, all_apart, none_wraps, regions, bytes_fit}
use Rattle.elf_load.specs.Faults.{holds, first_of, faults, header_faults, segment_faults, layout_faults, fault, any_above_memsz, any_past_file, any_wraps, image_header_size, is_executable}
use Rattle.elf_load.proofs.LayoutLemmas.{AreSound, map-span_of-regions, bytes_fit-regions, start_after-le, start_after-mod, heap_limit-ge, heap_limit-le, heap_limit-mod, all_apart-mapped_spans, none_wraps-mapped_spans}

-- the first option that is there
abbrev pub or_else : Option LoadFault → Option LoadFault → Option LoadFault
or_else None other = other
or_else (Some f) other = Some f

or_else-cond : (b : Bool) (f : LoadFault) (x y : Option LoadFault) → or_else (cond b (Some f) x) y ≡ cond b (Some f) (or_else x y)
or_else-cond true f x y = refl
or_else-cond false f x y = refl

pub first_of-append : (fs gs : List LoadFault) (image : List ℕ) → first_of (fs ++ gs) image ≡ or_else (first_of fs image) (first_of gs image)
first_of-append [] gs image = refl
first_of-append (f ∷ fs) gs image =
    ap (λ o. cond (holds f image) (Some f) o) (first_of-append fs gs image) ∙ sym (or_else-cond (holds f image) f (first_of fs image) (first_of gs image))

-- the fault, part by part
pub fault-parts : (image : List ℕ) → fault image ≡ or_else (or_else (first_of header_faults image) (first_of segment_faults image)) (first_of layout_faults image)
unfolding fault
fault-parts image =
    first_of-append (header_faults ++ segment_faults) layout_faults image
    ∙ ap (λ o. or_else o (first_of layout_faults image)) (first_of-append header_faults segment_faults image)

pub fault-in_header : (image : List ℕ) (f : LoadFault) → Some f ≡ first_of header_faults image → fault image ≡ Some f
fault-in_header image f e =
    fault-parts image ∙ ap (λ o. or_else (or_else o (first_of segment_faults image)) (first_of layout_faults image)) (sym e)

pub fault-in_segments : (image : List ℕ) (f : LoadFault) → None ≡ first_of header_faults image → Some f ≡ first_of segment_faults image → fault image ≡ Some f
fault-in_segments image f none e =
    fault-parts image
    ∙ ap (λ o. or_else (or_else o (first_of segment_faults image)) (first_of layout_faults image)) (sym none)
    ∙ ap (λ o. or_else o (first_of layout_faults image)) (sym e)

pub fault-in_layout : (image : List ℕ) (o : Option LoadFault) → None ≡ first_of header_faults image → None ≡ first_of segment_faults image → o ≡ first_of layout_faults image → fault image ≡ o
fault-in_layout image o none none_there e =
    fault-parts image
    ∙ ap (λ p. or_else (or_else p (first_of segment_faults image)) (first_of layout_faults image)) (sym none)
    ∙ ap (λ p. or_else p (first_of layout_faults image)) (sym none_there)
    ∙ sym e

-- the fault that is found holds, so it is never want of memory
pub first_of-holds : (fs : List LoadFault) (image : List ℕ) (f : LoadFault) → first_of fs image ≡ Some f → holds f image ≡ true
first_of-holds [] image f e = cc
first_of-holds (g ∷ fs) image f e =
    elim (cases_Bool (holds g image)) as (λ _. holds f image ≡ true) [
      | inl here ↦
          let found = rw here at e in
          let same : g ≡ f = cc in
          subst (λ h. holds h image ≡ true) same here
      | inr later ↦ first_of-holds fs image f (rw later at e)
    ]

pub fault-memory : (image : List ℕ) → fault image ≢ Some NoMemory
unfolding fault
fault-memory image e = false≢true (first_of-holds faults image NoMemory e)

-- where none is found, no sentence holds
abbrev pub NoneHolds : List LoadFault → List ℕ → Type 0
NoneHolds [] image = Unit {0}
NoneHolds (f ∷ fs) image = (holds f image ≡ false) × NoneHolds fs image

pub NoneHolds-from_none : (fs : List LoadFault) (image : List ℕ) → first_of fs image ≡ None → NoneHolds fs image
NoneHolds-from_none [] image e = tt
NoneHolds-from_none (f ∷ fs) image e =
    elim (cases_Bool (holds f image)) as (λ _. (holds f image ≡ false) × NoneHolds fs image) [
      | inl here ↦ let found = rw here at e in (cc)
      | inr later ↦ (later, NoneHolds-from_none fs image (rw later at e))
    ]

-- What the absence of the faults of the segments says.

pub record HasSoundSegments (image : List ℕ) : Type 0 where
  pub bytes_fit : any_above_memsz (headers image) ≡ false
  pub in_file : any_past_file (length image) (segments image) ≡ false
  pub sound : AreSound (segments image)

pub HasSoundSegments-from_none : (image : List ℕ) → first_of segment_faults image ≡ None → HasSoundSegments image
HasSoundSegments-from_none image e =
    let after_dynamic = (NoneHolds-from_none segment_faults image e).1 in
    let after_bytes = after_dynamic.1 in
    let after_file = after_bytes.1 in
    record {
      bytes_fit = after_dynamic.0;
      in_file = after_bytes.0;
      sound = record { below = after_file.0; disjoint = after_file.1.0; beside = after_file.1.1.0 };
    }

pub all_apart-spans : (image : List ℕ) → first_of segment_faults image ≡ None → all_apart (spans image) ≡ true
unfolding spans
all_apart-spans image e = all_apart-mapped_spans (segments image) (HasSoundSegments-from_none image e).sound

pub none_wraps-spans : (image : List ℕ) → first_of segment_faults image ≡ None → none_wraps (spans image) ≡ true
unfolding spans
none_wraps-spans image e = none_wraps-mapped_spans (segments image) (HasSoundSegments-from_none image e).sound

pub ruleset span_facts = (all_apart-spans, none_wraps-spans)

pub any_wraps-none : (image : List ℕ) → first_of segment_faults image ≡ None → any_wraps (segments image) ≡ false
any_wraps-none image e = (HasSoundSegments-from_none image e).sound.below

pub ruleset fault_cases = (fault-in_header, fault-in_segments, fault-in_layout, any_wraps-none)

-- What the absence of all faults says of what is laid out.

or_else-none : (x y : Option LoadFault) → or_else x y ≡ None → (x ≡ None) × (y ≡ None)
or_else-none None y e = (refl, e)
or_else-none (Some f) y e = (cc)

-- an image without a fault has none of any part
pub record HasNoFault (image : List ℕ) : Type 0 where
  pub header : first_of header_faults image ≡ None
  pub segments : first_of segment_faults image ≡ None
  pub layout : first_of layout_faults image ≡ None

pub HasNoFault-from_none : (image : List ℕ) → fault image ≡ None → HasNoFault image
HasNoFault-from_none image e =
    let outer = or_else-none (or_else (first_of header_faults image) (first_of segment_faults image)) (first_of layout_faults image) (sym (fault-parts image) ∙ e) in
    let inner = or_else-none (first_of header_faults image) (first_of segment_faults image) outer.0 in
    record { header = inner.0; segments = inner.1; layout = outer.1 }

pub length-no_fault : (image : List ℕ) → fault image ≡ None → image_header_size ≤ length image
length-no_fault image e =
    let after_size = (NoneHolds-from_none header_faults image (HasNoFault-from_none image e).header).1 in
    ltb-false (length image) image_header_size after_size.0

pub any_past_file-no_fault : (image : List ℕ) → fault image ≡ None → any_past_file (length image) (segments image) ≡ false
any_past_file-no_fault image e = (HasSoundSegments-from_none image (HasNoFault-from_none image e).segments).in_file

pub entry-no_fault : (image : List ℕ) → fault image ≡ None → entry image % 4 ≡ 0
entry-no_fault image e =
    let after_pages = (NoneHolds-from_none layout_faults image (HasNoFault-from_none image e).layout).1 in
    let both = or_parts (not (entry image % 4 == 0)) (not (is_executable image (page_of (entry image)))) after_pages.1.0 in
    eqb-true (entry image % 4) 0 (not-false (entry image % 4 == 0) both.0)

pub all_apart-no_fault : (image : List ℕ) → fault image ≡ None → all_apart (map span_of (regions image)) ≡ true
all_apart-no_fault image e = rw (map-span_of-regions image) (all_apart-spans image (HasNoFault-from_none image e).segments)

pub none_wraps-no_fault : (image : List ℕ) → fault image ≡ None → none_wraps (map span_of (regions image)) ≡ true
none_wraps-no_fault image e = rw (map-span_of-regions image) (none_wraps-spans image (HasNoFault-from_none image e).segments)

pub bytes_fit-no_fault : (image : List ℕ) → fault image ≡ None → bytes_fit (regions image) ≡ true
bytes_fit-no_fault image e = bytes_fit-regions image (HasSoundSegments-from_none image (HasNoFault-from_none image e).segments).bytes_fit

pub heap_start-no_fault : (image : List ℕ) → fault image ≡ None → (heap_start image ≤ top) × (heap_start image % page_size ≡ 0)
unfolding heap_start
heap_start-no_fault image e =
    (start_after-le (segments image) (HasSoundSegments-from_none image (HasNoFault-from_none image e).segments).sound, start_after-mod (segments image))

pub heap_end-no_fault : (image : List ℕ) → fault image ≡ None → (heap_start image ≤ heap_end image) × (heap_end image ≤ top) × (heap_end image % page_size ≡ 0)
unfolding heap_end
heap_end-no_fault image e =
    let start = heap_start-no_fault image e in
    (heap_limit-ge (heap_start image) start.0, heap_limit-le (heap_start image) start.0, heap_limit-mod (heap_start image) start.0 start.1)

pub heap_end-is : (image : List ℕ) → heap_end image ≡ heap_limit (heap_start image)
unfolding heap_end
heap_end-is image = refl
