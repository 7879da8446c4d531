-- What a session holds beside its machine, and when objects show it.
use Rattle.std.specs.Prelude.{◌≡◌, ℕ, Bool, List, Option, Some, MatchBool}
use Rattle.std.specs.Io.KnownBytes.{Appends}
use Rattle.cam_chain.specs.ChainValue.{slices_of}
use Rattle.cape_io.specs.Views.{DeviceViews}
use Rattle.machine.specs.Moments.{Held, Moment}
use Rattle.machine.specs.Views.{GainsPrefix}

-- a moment, the breaks, and how many pages the session mapped
pub record Sitting : Type 0 where
  pub moment : Moment
  pub breaks : List ℕ
  pub pages : ℕ

-- what contracts see of a desk: the breaks, how many pages were mapped, and how many columns its second chain has
pub record DeskValue : Type 0 where
  pub breaks : List ℕ
  pub pages : ℕ
  pub columns : ℕ

-- What the objects of a session show: the machine, the desk, what the input has left, and what the two sinks hold.
pub record Scene : Type 0 where
  pub machine : Held
  pub desk : DeskValue
  pub left : Option (List ℕ)
  pub out : Option (List ℕ)
  pub err : Option (List ℕ)

abbrev pub scene : Held → DeskValue → Option (List ℕ) → Option (List ℕ) → Option (List ℕ) → Scene
scene machine desk left out err = record { machine = machine; desk = desk; left = left; out = out; err = err }

-- what they show where the devices of a call show this
abbrev pub scene_of : Held → DeskValue → DeviceViews → Scene
scene_of machine desk io = scene machine desk io.input.left io.out.held io.err.held

-- The objects show the sitting: the input is known, and the error output, where its bytes are known, holds what it held first
-- and then all that the guest wrote.
pub record IsAt (s : Sitting) (first_err : Option (List ℕ)) (a : Scene) : Type 0 where
  pub holds : s.moment.state.core ≡ a.machine.core
  pub slices : s.moment.slices ≡ slices_of a.machine.chain
  pub last : s.moment.last ≡ a.machine.last
  pub counts : s.moment.counts ≡ a.machine.chain.counts
  pub control : s.moment.control ≡ a.machine.control
  pub known : a.left ≡ Some s.moment.state.input
  pub gained : Appends first_err a.err s.moment.state.joint
  pub breaks : a.desk.breaks ≡ s.breaks
  pub pages : a.desk.pages ≡ s.pages

-- Whatever sitting the objects show before, they show f of it after, and the output gained the text of it.
pub record GoesBy (f : Sitting → Sitting) (text : Sitting → List ℕ) (a b : Scene) : Type 0 where
  pub leads : (s : Sitting) (first_err : Option (List ℕ)) → IsAt s first_err a → IsAt (f s) first_err b × Appends a.out b.out (text s)

-- Whatever sitting they show before, each sink gained a prefix of what f and the text say of it.
pub record FaultsIn (f : Sitting → Sitting) (text : Sitting → List ℕ) (a b : Scene) : Type 0 where
  pub leaves :
      (s : Sitting) (first_err : Option (List ℕ)) → IsAt s first_err a
      → GainsPrefix a.out b.out (text s) × GainsPrefix first_err b.err (f s).moment.state.joint

-- the one where it went, and the other where it did not
abbrev pub Moves : (Sitting → Sitting) → (Sitting → List ℕ) → Bool → Scene → Scene → Type 0
Moves f text went a b = MatchBool went (GoesBy f text a b) (FaultsIn f text a b)

-- Whatever sitting the objects show, this holds of it.
pub record Holds (P : Sitting → Type 0) (a : Scene) : Type 0 where
  pub so : (s : Sitting) (first_err : Option (List ℕ)) → IsAt s first_err a → P s
