-- The first race by the numbers of the maps is the first by where they stand in the text.
use Rattle.std.proofs.Common.{◌≡◌, ℕ, ◌<◌, ◌⊎◌, List, slice_get, Option, Some, None, inl, inr, refl, sym, ap, subst}
use Rattle.sq_ast.specs.declared.program.Program.{Program}
use Rattle.sq_ast.specs.declared.program.Variant.{Variant}
use Rattle.sq_ast.specs.Given.{IsGiven}
use Rattle.sq_mapping.specs.declared.mapping.Instance.{Instance}
use Rattle.sq_forms.specs.Tables.{at_index, first_of_kind}
use Rattle.sq_forms.specs.declared.form.Form.{Form}
use Rattle.sq_spec.specs.declared.resolved.Resolved.{Resolved}
use Rattle.sq_race.specs.Race.{maps_by, variant_by, maps_of_form, HoldsAt, AtOrBefore}
use Rattle.sq_race.specs.TextOrder.{AreMaps, StandsAtOrBefore, FirstInText}
use Rattle.sq_race.specs.declared.forms.Found.{Found}
use Rattle.sq_race.specs.declared.map.Map.{Map}
use Rattle.sq_race.proofs.TextOrder.{in_text_order}

maps_at : (p : Program) (chosen : Option ℕ) (i j : ℕ) (one other : Map)
    → slice_get (maps_by (at_index p.tasks chosen)) i ≡ Some one → slice_get (maps_by (at_index p.tasks chosen)) j ≡ Some other
    → AreMaps p i j one other
maps_at p None i j one other a b = absurd (cc)
maps_at p (Some k) i j one other a b = by (slice_get p.tasks k) refl a b
  where
    by : (found : Option Variant) → slice_get p.tasks k ≡ found
        → slice_get (maps_by found) i ≡ Some one → slice_get (maps_by found) j ≡ Some other → AreMaps p i j one other
    by None is a b = absurd (cc)
    by (Some v) is a b = record { number = k; variant = v; variant_is = is; one_is = a; other_is = b }

-- maps of the variant of an instance
maps_by_instance : (p : Program) (x : Option Instance) (i j : ℕ) (one other : Map)
    → slice_get (maps_by (variant_by p.tasks x)) i ≡ Some one → slice_get (maps_by (variant_by p.tasks x)) j ≡ Some other → AreMaps p i j one other
maps_by_instance p None i j one other a b = absurd (cc)
maps_by_instance p (Some x) i j one other a b = maps_at p (first_of_kind x.kind 0 p.tasks x.task) i j one other a b

one_form : (r : Resolved) (form n : ℕ) (f g : Form) → slice_get r.forms form ≡ Some f → slice_get r.forms n ≡ Some g → form ≡ n → f ≡ g
one_form r form n f g one other same = let is : f ≡ g = cc in is

-- the places of two maps of a form are in the order of their numbers
in_order : (r : Resolved) → IsGiven r.typed.now → (f : Form) (m o : Map) (a b : List ℕ) (x y : Found)
    → slice_get (maps_of_form r f) x.map ≡ Some m → slice_get (maps_of_form r f) y.map ≡ Some o → AtOrBefore a x b y → StandsAtOrBefore m a x o b y
in_order r given f m o a b x y one other (inl less) =
    let instance = slice_get r.mapping.now.instances f.instance in
    inl (in_text_order r.typed.now given x.map y.map m o (maps_by_instance r.typed.now instance x.map y.map m o one other) less)
in_order r given f m o a b x y one other (inr (same, more)) = let is : m ≡ o = cc in inr (ap (λ (map : Map). map.place) is, more)

pub first_in_text : FirstInText
first_in_text r given race first = record {
  form = first.form;
  round = first.round;
  found = first.found;
  holds = first.holds;
  is = first.is;
  least = λ n s y other. by n s y other (first.least n s y other);
}
  where
    by : (n : ℕ) (s : List ℕ) (y : Found) (other : HoldsAt r n s y) → (first.form < n) ⊎ ((first.form ≡ n) × AtOrBefore first.round first.found s y)
        → (first.form < n) ⊎ ((first.form ≡ n) × StandsAtOrBefore first.holds.holds.map first.round first.found other.holds.map s y)
    by n s y other (inl less) = inl less
    by n s y other (inr (same, order)) =
        let is : other.of ≡ first.holds.of = one_form r n first.form other.of first.holds.of other.form_is first.holds.form_is (sym same) in
        let there = subst (λ f. slice_get (maps_of_form r f) y.map ≡ Some other.holds.map) is other.holds.map_is in
        inr (same, in_order r given first.holds.of first.holds.holds.map other.holds.map first.round s first.found y first.holds.holds.map_is there order)
