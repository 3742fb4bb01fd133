-- The ends of forms beside the forms.
use Rattle.std.proofs.Common.{◌≡◌, ℕ, zero, suc, Bool, List, [], ◌∷◌, ◌++◌, length, slice_get, Option}
use Rattle.std.proofs.Common.{Some, None, ◌+◌, ◌<◌, drop, ◌&&◌, true, false, get_or, nat_le, refl, sym, ap, ap₂, subst}
use Rattle.std.proofs.Common.{◌∙◌, arith}
use Rattle.std.proofs.lemmas.List.{length-append}
use Rattle.sq_forms.specs.declared.form.Form.{Form}
use Rattle.sq_hoist.specs.SpecLaws.Needs.{Ended, callers_end}
use Rattle.sq_pipe.specs.declared.room.Room.{Room}
use Rattle.sq_pipe.specs.Greedy.{have_room, bytes_of}
use Rattle.sq_pipe.specs.Sums.{ended_by}

-- a form with its end, where both are there
abbrev both : Option Form → Option ℕ → Option Ended
both None e = None
both (Some f) None = None
both (Some f) (Some e) = Some (f, e)

none_both : (o : Option Form) → None ≡ both o None
none_both None = refl
none_both (Some f) = refl

ended_is : (fs : List Form) (es : List ℕ) (k : ℕ)
    → slice_get (ended_by fs es) k ≡ both (slice_get fs k) (slice_get es k)
ended_is fs [] k = none_both (slice_get fs k)
ended_is [] (e ∷ es) k = refl
ended_is (f ∷ fs) (e ∷ es) zero = refl
ended_is (f ∷ fs) (e ∷ es) (suc k) = ended_is fs es k

pub no_form : (fs : List Form) (es : List ℕ) (k : ℕ) → slice_get fs k ≡ None → slice_get (ended_by fs es) k ≡ None
no_form fs es k h = ended_is fs es k ∙ ap (λ o. both o (slice_get es k)) h

pub no_end : (fs : List Form) (es : List ℕ) (k : ℕ) (f : Form) → slice_get fs k ≡ Some f → slice_get es k ≡ None
    → slice_get (ended_by fs es) k ≡ None
no_end fs es k f h n = ended_is fs es k ∙ ap₂ both h n

pub there : (fs : List Form) (es : List ℕ) (k : ℕ) (f : Form) (e : ℕ) → slice_get fs k ≡ Some f
    → slice_get es k ≡ Some e → slice_get (ended_by fs es) k ≡ Some (f, e)
there fs es k f e h n = ended_is fs es k ∙ ap₂ both h n

pub ruleset ended_at = (no_form, no_end, there)

-- the next form's end behind those of the forms before it
ended_next : (fs : List Form) (es : List ℕ) (e : ℕ) (f : Form) → slice_get fs (length es) ≡ Some f
    → ended_by fs (es ++ e ∷ []) ≡ ended_by fs es ++ (f, e) ∷ []
ended_next [] es e f h = absurd cc
ended_next (g ∷ fs) [] e f h = let is : g ≡ f = cc in ap (λ (x : Form). (x, e) ∷ []) is
ended_next (g ∷ fs) (d ∷ es) e f h = ap (λ xs. (g, d) ∷ xs) (ended_next fs es e f h)

pub ended_more : (fs : List Form) (es : List ℕ) (e : ℕ) (f : Form) (k : ℕ) → length es ≡ k → slice_get fs k ≡ Some f
    → ended_by fs (es ++ e ∷ []) ≡ ended_by fs es ++ (f, e) ∷ []
ended_more fs es e f k long h = ended_next fs es e f (ap (slice_get fs) long ∙ h)

pub long_next : (es : List ℕ) (e k : ℕ) → length es ≡ k → length (es ++ e ∷ []) ≡ k + 1
long_next es e k h = let l = length-append es (e ∷ []) in omega (arith, l, h)

-- a form in turn
pub form_there : (fs : List Form) (i : ℕ) (f : Form) → i < length fs → f ≡ get_or fs i f → slice_get fs i ≡ Some f
form_there [] i f h is = absurd (omega (arith, h))
form_there (g ∷ fs) zero f h is = ap Some (sym is)
form_there (g ∷ fs) (suc i) f h is = form_there fs i f (omega (arith, h)) is

pub form_first : (fs : List Form) (i : ℕ) (f : Form) → i < length fs → f ≡ get_or fs i f
    → drop i fs ≡ f ∷ drop (i + 1) fs
form_first [] i f h is = absurd (omega (arith, h))
form_first (g ∷ fs) zero f h is = ap (λ (x : Form). x ∷ fs) (sym is)
form_first (g ∷ fs) (suc i) f h is =
    let z : suc (i + 1) ≡ suc i + 1 = omega arith in
    form_first fs i f (omega (arith, h)) is ∙ ap (λ n. f ∷ drop n (g ∷ fs)) z

-- a form whose end is known, and that has room there
pub room_step : (taken : List Bool) (k : ℕ) (f : Form) (fs : List Form) (x : Room) (rooms : List Room)
    (ended : List Ended) (end : ℕ)
    → end ≡ callers_end ended f.level f.caller + bytes_of x (get_or taken k false) → nat_le end x.room ≡ true
    → have_room taken (k + 1) fs rooms (ended ++ (f, end) ∷ []) ≡ have_room taken k (f ∷ fs) (x ∷ rooms) ended
room_step taken k f fs x rooms ended end is fits =
    subst (λ n. have_room taken (k + 1) fs rooms (ended ++ (f, end) ∷ [])
    ≡ (nat_le n x.room && have_room taken (k + 1) fs rooms (ended ++ (f, n) ∷ []))) is
    (sym (ap (λ t. t && have_room taken (k + 1) fs rooms (ended ++ (f, end) ∷ [])) fits))
