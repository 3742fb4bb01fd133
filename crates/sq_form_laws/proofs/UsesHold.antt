-- Uses are counted exactly.
use Rattle.std.proofs.Common.{◌≡◌, ℕ, zero, suc, ◌+◌, List, [], ◌∷◌, Option, Some, None, Ok, Err, refl, ap, arith}
use Rattle.sq_text.specs.declared.place.Place.{Place}
use Rattle.sq_text.specs.declared.fault.Fault.{Fault}
use Rattle.sq_text.specs.declared.code.Code.TheVariants as code
use Rattle.sq_forms.specs.Faults.{fault_at, and_then}
use Rattle.sq_forms.specs.Steps.{Step, State, Called, Opens, Counts, Tests, Calls, run, after_count, after_test, after_entry, number_of, most_uses}
use Rattle.sq_form_laws.specs.Laws.{counts, InOneMap, LimitIsExact}

Falls : List Step → Type 0
Falls front = (s t : State) → run s front ≡ Ok t → t.left + counts front ≡ s.left

counted_falls : (s t : State) (place : Place) (rest : List Step) → ((u v : State) → run u rest ≡ Ok v → v.left + counts rest ≡ u.left) → (n : ℕ) → and_then (after_count s place n) (λ u. run u rest) ≡ Ok t → t.left + (1 + counts rest) ≡ n
counted_falls s t place rest more zero h = absurd (cc h)
counted_falls s t place rest more (suc n) h =
    let e = more (record { left = n; forms = s.forms; uses = s.uses }) t h in
    omega (arith, e)

tested_falls : (s t : State) (rest : List Step) → ((u v : State) → run u rest ≡ Ok v → v.left + counts rest ≡ u.left) → (o : Option Fault) → and_then (after_test s o) (λ u. run u rest) ≡ Ok t → t.left + counts rest ≡ s.left
tested_falls s t rest more None h = more s t h
tested_falls s t rest more (Some f) h = absurd (cc h)

entered_falls : (s t : State) (c : Called) (rest : List Step) → ((u v : State) → run u rest ≡ Ok v → v.left + counts rest ≡ u.left) → (o : Option ℕ) → and_then (after_entry s c o) (λ u. run u rest) ≡ Ok t → t.left + counts rest ≡ s.left
entered_falls s t c rest more None h = absurd (cc h)
entered_falls s t c rest more (Some n) h = more _ t h

falls : (front : List Step) → InOneMap front → (s t : State) → run s front ≡ Ok t → t.left + counts front ≡ s.left
falls [] p s t h = let e : s ≡ t = cc h in omega (arith, ap (λ (u : State). u.left) e)
falls (Opens ∷ rest) p s t h = absurd p
falls (Counts place ∷ rest) p s t h = counted_falls s t place rest (falls rest p) s.left h
falls (Tests o ∷ rest) p s t h = tested_falls s t rest (falls rest p) o h
falls (Calls c ∷ rest) p s t h = entered_falls s t c rest (falls rest p) (number_of s.forms c.key) h

at_none : (t : State) (place : Place) (n : ℕ) → n ≡ 0 → after_count t place n ≡ Err (fault_at code.LimitAccess place)
at_none t place zero e = refl
at_none t place (suc n) e = absurd (omega (arith, e))

none_at : (t : State) (place : Place) (n : ℕ) → after_count t place n ≡ Err (fault_at code.LimitAccess place) → n ≡ 0
none_at t place zero e = refl
none_at t place (suc n) e = absurd (cc e)

pub limit_is_exact : LimitIsExact
limit_is_exact s t front place p h =
    let e : t.left + counts front ≡ most_uses = falls front p (record { left = most_uses; forms = s.forms; uses = s.uses }) t h in
    (λ q. at_none t place t.left (omega (arith, e, q)), λ q. let z = none_at t place t.left q in omega (arith, e, z))
