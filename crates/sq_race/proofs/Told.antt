-- The first race of all forms.
use Rattle.std.proofs.Common.{◌≡◌, ℕ, ◌+◌, ◌<◌, ◌≤◌, zero, suc, arith, refl, sym, ◌∙◌, ap, subst, List, [], ◌∷◌, length, Option, Some, None, slice_get, inl, inr}
use Rattle.std.proofs.lemmas.Bool.{cases_eq, cases_lt}
use Rattle.std.proofs.lemmas.Option.{slice_get_within}
use Rattle.sq_ast.specs.declared.program.Variant.{Variant}
use Rattle.sq_mapping.specs.declared.mapping.Instance.{Instance}
use Rattle.sq_forms.specs.Tables.{at_index}
use Rattle.sq_forms.specs.declared.form.Form.{Form}
use Rattle.sq_forms.specs.declared.form.Use.{Use}
use Rattle.sq_spec.specs.declared.resolved.Resolved.{Resolved}
use Rattle.sq_race.specs.Race.{HoldsIn, HoldsAt, IsFirstIn, IsFirstOf, IsFirstRace, IsFirstOfForm, NoneOfForms, IsTold, maps_of_form, variant_in, variant_by, number_by, number_in, maps_by, all_maps, listed}
use Rattle.sq_race.specs.declared.map.Map.{Map}
use Rattle.sq_race.specs.declared.race.Race.{Race}
use Rattle.sq_race.specs.declared.forms.Found.{Found}
use Rattle.sq_race.proofs.Steps.{one_there}

-- ---- a form's variant, by its number

by_number : (variants : List Variant) (x : Option Instance) → variant_by variants x ≡ at_index variants (number_by variants x)
by_number variants None = refl
by_number variants (Some x) = refl

maps_there : (variants : List Variant) (n : ℕ) → listed (slice_get (all_maps variants) n) ≡ maps_by (slice_get variants n)
maps_there [] n = refl
maps_there (v ∷ variants) zero = refl
maps_there (v ∷ variants) (suc n) = maps_there variants n

maps_by_number : (variants : List Variant) (n : Option ℕ) → listed (at_index (all_maps variants) n) ≡ maps_by (at_index variants n)
maps_by_number variants None = refl
maps_by_number variants (Some n) = maps_there variants n

pub its_variant : (r : Resolved) (f : Form) (n : Option ℕ) (v : Option Variant) → n ≡ number_in r f → v ≡ at_index r.typed.now.tasks n → v ≡ variant_in r f
its_variant r f n v number is =
    is ∙ ap (at_index r.typed.now.tasks) number ∙ sym (by_number r.typed.now.tasks (slice_get r.mapping.now.instances f.instance))

pub its_maps : (r : Resolved) (f : Form) (n : Option ℕ) (all : List (List Map)) (maps : List Map) → all ≡ all_maps r.typed.now.tasks → n ≡ number_in r f → maps ≡ listed (at_index all n) → maps ≡ maps_of_form r f
its_maps r f n all maps are number is =
    is ∙ ap (λ (list : List (List Map)). listed (at_index list n)) are ∙ maps_by_number r.typed.now.tasks n ∙ ap maps_by (its_variant r f n (at_index r.typed.now.tasks n) number refl)

-- ---- races of one form, and of all

-- a race of the form is one over its maps and accesses
in_form : (r : Resolved) (n : ℕ) (f : Form) (uses : List Use) (s : List ℕ) (y : Found) → slice_get r.forms n ≡ Some f → slice_get r.uses n ≡ Some uses → HoldsAt r n s y → HoldsIn (maps_of_form r f) uses s y
in_form r n f uses s y at_f at_u h =
    subst (λ (us : List Use). HoldsIn (maps_of_form r f) us s y) (one_there r.uses n n h.uses uses refl h.uses_are at_u)
    (subst (λ (g : Form). HoldsIn (maps_of_form r g) h.uses s y) (one_there r.forms n n h.of f refl h.form_is at_f) h.holds)

pub none_here : (r : Resolved) (n : ℕ) (f : Form) (uses : List Use) (maps : List Map) → slice_get r.forms n ≡ Some f → slice_get r.uses n ≡ Some uses → maps ≡ maps_of_form r f → IsFirstOf maps uses None → IsFirstOfForm r n None
none_here r n f uses maps at_f at_u same none = λ s y h. none s y (subst (λ (ms : List Map). HoldsIn ms uses s y) (sym same) (in_form r n f uses s y at_f at_u h))

pub first_here : (r : Resolved) (n : ℕ) (f : Form) (uses : List Use) (maps : List Map) (v : Option Variant) (x : Found) (race : Race) → slice_get r.forms n ≡ Some f → slice_get r.uses n ≡ Some uses → maps ≡ maps_of_form r f → v ≡ variant_in r f → IsFirstOf maps uses (Some x) → IsTold n v maps uses x race → IsFirstOfForm r n (Some race)
first_here r n f uses maps v x race at_f at_u same q first it =
    let here : IsFirstIn (maps_of_form r f) uses x = subst (λ (ms : List Map). IsFirstIn ms uses x) same first in
    let is : IsTold n (variant_in r f) (maps_of_form r f) uses x race = subst (λ (ms : List Map). IsTold n (variant_in r f) ms uses x race) same (subst (λ (w : Option Variant). IsTold n w maps uses x race) q it) in
    record {
      round = here.round;
      found = x;
      holds = record { of = f; uses = uses; form_is = at_f; uses_are = at_u; holds = here.holds };
      is = is.at here.holds.map here.holds.a here.holds.b here.holds.map_is here.holds.earlier_is here.holds.later_is;
      least = λ s y h. here.least s y (in_form r n f uses s y at_f at_u h);
    }

-- the numbers of a race are those of a map and of accesses
pub within : (maps : List Map) (uses : List Use) (x : Found) → IsFirstOf maps uses (Some x) → (x.map < length maps) × (x.earlier < length uses) × (x.later < length uses)
within maps uses x first = (slice_get_within maps x.map first.holds.map first.holds.map_is, slice_get_within uses x.earlier first.holds.a first.holds.earlier_is, slice_get_within uses x.later first.holds.b first.holds.later_is)

pub none_of_forms : (r : Resolved) (n : ℕ) → NoneOfForms r n → IsFirstOfForm r n None → NoneOfForms r (n + 1)
none_of_forms r n none here = record {
  at = λ k s y h below. elim (cases_eq k n) [
    | inl same ↦ here s y (subst (λ (i : ℕ). HoldsAt r i s y) same h)
    | inr other ↦ none.at k s y h (omega arith)
  ];
}

pub none_at_all : (r : Resolved) (n : ℕ) → NoneOfForms r n → length r.forms ≤ n → IsFirstRace r None
none_at_all r n none long = λ k s y h. none.at k s y h (omega (arith, slice_get_within r.forms k h.of h.form_is))

pub first_of_all : (r : Resolved) (n : ℕ) (race : Race) → NoneOfForms r n → IsFirstOfForm r n (Some race) → IsFirstRace r (Some race)
first_of_all r n race none first = record {
  form = n;
  round = first.round;
  found = first.found;
  holds = first.holds;
  is = first.is;
  least = λ k s y h. elim (cases_lt k n) [
    | inl less ↦ absurd (none.at k s y h less)
    | inr more ↦ elim (cases_eq k n) [
      | inr other ↦ inl (omega arith)
      | inl same ↦ inr (sym same, first.least s y (subst (λ (i : ℕ). HoldsAt r i s y) same h))
    ]
  ];
}
