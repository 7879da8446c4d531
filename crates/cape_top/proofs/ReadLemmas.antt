-- What was read is the file's bytes up to the limit, and it has the fault of the file.
use Rattle.std.proofs.Common.{◌≡◌, ℕ, ◌<◌, ◌≤◌, ◌⊎◌, inl, inr, List, [], ◌++◌, length, take, Option, Some, None, refl, sym, ap, ◌∙◌, append-nil, subst, arith, true, false, true≢false, Result, is_err, IsErr}
use Rattle.std.specs.Prelude.{nat_lt}
use Rattle.std.proofs.lemmas.List.{take_at, take_all, length-take-le}
use Rattle.std.proofs.lemmas.Bool.{cases_lt}
use Rattle.std.proofs.lemmas.Bool.Decides.{nat_tests}
use Rattle.std.specs.Io.KnownBytes.{IsAtEnd}
use Rattle.elf_load.specs.Faults.{fault, image_limit}
use Rattle.elf_load.specs.declared.faults.LoadFault.TheVariants.{TooBig}
use Rattle.elf_load.specs.declared.loaded.Loaded.{Loaded}
use Rattle.elf_load.specs.declared.faults.LoadFault.{LoadFault}
use Rattle.cape_io.specs.Devices.{KnownFile, Unknown, Absent, Present}
use Rattle.cape_top.specs.declared.loading.Stop.{Stop}
use Rattle.cape_top.specs.declared.loading.Stop.TheVariants.{ReadFault, NoMemory, Refused}
use Rattle.cape_top.specs.Reading.{read_limit, IsFaultOf, IsLoadedFrom, IsLoadedOf, IsReadOf, IsStopOf}

pub read_full : (limit : ℕ) (bytes held rest : List ℕ) → bytes ≡ held ++ rest → length held ≡ limit → held ≡ take limit bytes
read_full limit bytes held rest is long = rw is (sym (take_at held rest limit long))

pub read_all : (limit : ℕ) (bytes held rest : List ℕ) (left : Option (List ℕ)) → bytes ≡ held ++ rest → left ≡ Some rest → IsAtEnd left → length held ≤ limit → held ≡ take limit bytes
read_all limit bytes held rest left is told end short =
    let none : rest ≡ [] = rw told at end in
    let whole : bytes ≡ held = rw (is, none) (append-nil held) in
    rw whole (sym (take_all limit held short))

is_long : (n : ℕ) → image_limit < n → nat_lt image_limit n ≡ true
is_long n long = grind (arith, nat_tests)

-- an image past the limit is too big
too_big : (image : List ℕ) → image_limit < length image → fault image ≡ Some TooBig
unfolding fault
too_big image long = rw (is_long (length image) long) refl

long_front : (image : List ℕ) → read_limit < length image → (image_limit < length image) × (image_limit < length (take read_limit image))
long_front image long =
    let fits : read_limit ≤ length image = omega arith in
    let read : length (take read_limit image) ≡ read_limit = length-take-le read_limit image fits in
    (omega arith, omega arith)

fault_by : (image : List ℕ) → (read_limit < length image) ⊎ (length image ≤ read_limit) → fault (take read_limit image) ≡ fault image
fault_by image (inr short) = ap fault (take_all read_limit image short)
fault_by image (inl long) = let both = long_front image long in too_big (take read_limit image) both.1 ∙ sym (too_big image both.0)

-- the front that is read has the fault of the whole image
pub fault_read : (image held : List ℕ) → held ≡ take read_limit image → fault held ≡ fault image
fault_read image held is = rw is (fault_by image (cases_lt read_limit (length image)))

whole_by : (image : List ℕ) → fault (take read_limit image) ≡ None → (read_limit < length image) ⊎ (length image ≤ read_limit) → take read_limit image ≡ image
whole_by image sound (inr short) = take_all read_limit image short
whole_by image sound (inl long) = let both = long_front image long in let big = too_big (take read_limit image) both.1 in cc

-- where it has none, it is the whole image
pub loaded_read : (image held : List ℕ) (loaded : Loaded) → held ≡ take read_limit image → IsLoadedFrom held loaded → IsLoadedFrom image loaded
loaded_read image held loaded is from =
    let whole : held ≡ image = is ∙ whole_by image (rw is at from.sound) (cases_lt read_limit (length image)) in
    subst (λ (i : List ℕ). IsLoadedFrom i loaded) whole from

-- a result that is no error is none
pub no_error : {A E : Type 0} (r : Result A E) → false ≡ is_err r → IsErr r → ⊥
no_error r is error = true≢false (sym error ∙ sym is)

-- what was read, as far as the file is known
pub read_of : (limit : ℕ) (known : KnownFile) (items : List ℕ) → (known ≡ Absent → ⊥) → ((bytes : List ℕ) → known ≡ Present bytes → items ≡ take limit bytes)
    → IsReadOf limit known items
read_of limit Unknown items there read = tt
read_of limit Absent items there read = there refl
read_of limit (Present bytes) items there read = read bytes refl

pub loaded_of : (known : KnownFile) (items : List ℕ) (loaded : Loaded) → IsReadOf read_limit known items → IsLoadedFrom items loaded → IsLoadedOf known loaded
loaded_of Unknown items loaded read from = tt
loaded_of Absent items loaded read from = read
loaded_of (Present image) items loaded read from = loaded_read image items loaded read from

pub fault_of : (known : KnownFile) (items : List ℕ) (f : LoadFault) → IsReadOf read_limit known items → fault items ≡ Some f → IsFaultOf known f
fault_of Unknown items f read is = tt
fault_of Absent items f read is = read
fault_of (Present image) items f read is = sym (fault_read image items read) ∙ is

-- an image without a fault, or one that memory does not suffice for
pub stop_of : (known : KnownFile) (s : Stop) → ((f : LoadFault) → s ≡ Refused f → IsFaultOf known f) → IsStopOf known s
stop_of known (Refused f) faults = faults f refl
stop_of known ReadFault faults = tt
stop_of known NoMemory faults = tt
