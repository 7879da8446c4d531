-- What the end of a transfer tells.
use Rattle.std.proofs.Common.{◌≡◌, ℕ, Bool, true, false, cond, Option, Some, None, Result, Ok, Err, refl, ap}
use Rattle.std.specs.Prelude.{IfSome, OnOk, IfErr, option_map}
use Rattle.vec_mem.specs.declared.loads.Stop.{Stop}
use Rattle.vec_mem.specs.declared.loads.VecFault.{VecFault}
use Rattle.rvv_meaning.specs.declared.accesses.Access.{Access}
use Rattle.rvv_meaning.specs.LoadsAndStores.{with_address, trapped, traps_at}

abbrev element_of_stop : Option Stop → Option ℕ
element_of_stop o = option_map (λ s. s.element) o

abbrev address_of_stop : Option Stop → Option ℕ
address_of_stop o = option_map (λ s. s.address) o

pub not-trapped : {T : Type 0} (t : Access) (r : Result T VecFault) (o : Option Stop) (stop : Option ℕ) (f : ℕ → ℕ × ℕ) → element_of_stop o ≡ stop
    → OnOk r (trapped t (element_of_stop o) ≡ None) → OnOk r (option_map f (trapped t stop) ≡ None)
not-trapped t (Ok u) o stop f same none = rw (← same) (ap (option_map f) none)
not-trapped t (Err e) o stop f same none = tt

told : (t : Access) (o : Option Stop) (e a : ℕ) (bad : ℕ → Option ℕ) → trapped t (element_of_stop o) ≡ Some e → address_of_stop o ≡ Some a → IfSome o (λ s. bad s.element ≡ Some s.address)
    → option_map (with_address bad) (trapped t (element_of_stop o)) ≡ Some (e, a)
told t None e a bad at where_it_is is = cc
told t (Some s) e a bad at where_it_is is = by (traps_at t s.element) at
  where
    by : (m : Bool) → cond m (Some s.element) None ≡ Some e → option_map (with_address bad) (cond m (Some s.element) None) ≡ Some (e, a)
    by false at = cc
    by true at =
        let x : s.element ≡ e = cc in
        let y : s.address ≡ a = cc in
        rw (is, x, y) refl

pub fault-told : {T : Type 0} (t : Access) (r : Result T VecFault) (o : Option Stop) (stop : Option ℕ) (bad : ℕ → Option ℕ) → element_of_stop o ≡ stop
    → IfErr r (λ f. trapped t (element_of_stop o) ≡ Some f.element) → IfErr r (λ f. address_of_stop o ≡ Some f.address) → IfSome o (λ s. bad s.element ≡ Some s.address)
    → IfErr r (λ f. option_map (with_address bad) (trapped t stop) ≡ Some (f.element, f.address))
fault-told t (Ok u) o stop bad same at where_it_is is = tt
fault-told t (Err f) o stop bad same at where_it_is is = rw (← same) (told t o f.element f.address bad at where_it_is is)
