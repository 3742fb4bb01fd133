-- How many loops parameters leave, and which forms overlap their transfers.
use Rattle.std.proofs.Common.{◌≡◌, ℕ, zero, suc, ◌+◌, ◌==◌, ◌<◌, ◌≤◌, Bool, true, false, List, [], ◌∷◌, length, map}
use Rattle.std.proofs.Common.{get_or, slice_get, Option, Some, None, refl, sym, ap, ◌∙◌, subst, arith, if◌then◌else◌}
use Rattle.std.specs.List.{range_with_len}
use Rattle.std.proofs.lemmas.List.FromFn.{length-range_with_len}
use Rattle.std.proofs.lemmas.Option.{get_or_from_slice_get}
use Rattle.sq_spec.specs.declared.body.FormBody.{FormBody}
use Rattle.sq_spec.specs.declared.resolved.Resolved.{Resolved}
use Rattle.sq_spec.specs.Bodies.{body_of}
use Rattle.sq_placed.specs.declared.home.Home.{Home}
use Rattle.sq_placed.specs.declared.home.Home.TheVariants.{InPlace, Own, Held, Twin}
use Rattle.sq_placed.specs.declared.home.Homes.{Homes}
use Rattle.sq_program_laws.specs.TermLaws.Orders.{EachOf}
use Rattle.sq_program_laws.specs.TermLaws.Overlapping.{IsSuited}
use Rattle.sq_term.specs.Terms.{no_homes, homes_in}
use Rattle.sq_program_laws.specs.TermLaws.Leaves.{loops_left}
use Rattle.sq_homes.specs.Chosen.declared.choice.Choice.{Choice}
use Rattle.sq_homes.specs.Chosen.Arrays.{left_by, hoisted, others}
use Rattle.sq_homes.specs.Numbering.{home_of, position, form_homes}
use Rattle.sq_homes.specs.Chosen.Forms.{bodies_of, choice_in, instance_at, rule_by}
use Rattle.sq_homes.specs.Drafts.{homes_of, homes_from}
use Rattle.sq_draft_laws.specs.Choosing.{left_in, ChosenStand, NonePipes}
use Rattle.sq_draft_laws.proofs.Standing.{map_length, forms_stand}

-- ---- by the choice

home_left : (base : ℕ) (c : Choice) (i : ℕ) → loops_left (home_of base c i) ≤ left_by c i
home_left base c i = by (get_or c.in_place i false) (left_by c i == 0) c.overlaps
  where
    first : ℕ
    first = base + length (hoisted c) + position i (others c)

    by : (in_place none twice : Bool) → loops_left (if in_place then InPlace
        else (if none then (if twice then Twin first (first + length (others c)) else Own first)
        else Held (base + position i (hoisted c)) (left_by c i)))
        ≤ left_by c i
    by true none twice = omega arith
    by false true true = omega arith
    by false true false = omega arith
    by false false twice = omega arith

homes_left : (f : ℕ → Home) (g : ℕ → ℕ) → ((i : ℕ) → loops_left (f i) ≤ g i) → (a n i : ℕ)
    → loops_left (get_or (map f (range_with_len a n)) i InPlace) ≤ g (a + i)
homes_left f g h a zero i = omega arith
homes_left f g h a (suc n) zero = let z : a ≡ a + 0 = omega arith in subst (λ m. loops_left (f a) ≤ g m) z (h a)
homes_left f g h a (suc n) (suc i) =
    let z : a + 1 + i ≡ a + suc i = omega arith in
    subst (λ m. loops_left (get_or (map f (range_with_len (a + 1) n)) i InPlace) ≤ g m) z (homes_left f g h (a + 1) n i)

none_behind : (r : Resolved) (choices : List Choice) (k base code : ℕ) (bs : List FormBody) (f : ℕ) → slice_get bs f
    ≡ None
    → slice_get (homes_from r choices k base code bs) f ≡ None
none_behind r choices k base code [] f h = refl
none_behind r choices k base code (x ∷ bs) zero h = cc
none_behind r choices k base code (x ∷ bs) (suc f) h = none_behind r choices (suc k) _ _ bs f h

pub no_item : {A : Type 0} (xs : List A) (i : ℕ) (d : A) → slice_get xs i ≡ None → get_or xs i d ≡ d
no_item [] i d h = refl
no_item (x ∷ xs) zero d h = cc
no_item (x ∷ xs) (suc i) d h = no_item xs i d h

pub at_index : {A : Type 0} (xs : List A) (k : ℕ) → k < length xs → (x : A) × (slice_get xs k ≡ Some x)
at_index [] k h = absurd (omega (arith, h))
at_index (x ∷ xs) zero h = (x, refl)
at_index (x ∷ xs) (suc k) h = at_index xs k (omega (arith, h))

module _ (r : Resolved) (choices : List Choice) where
  -- a form that isn't there has no parameters
  pub no_homes_at : (k : ℕ) → slice_get (bodies_of r) k ≡ None → homes_in (homes_of r choices) k ≡ no_homes
  no_homes_at k h = no_item (homes_of r choices) k no_homes (none_behind r choices 0 0 0 (bodies_of r) k h)

  nothing_left : (k i : ℕ) → slice_get (bodies_of r) k ≡ None → left_in r choices k i ≡ 0
  nothing_left k i h = ap (λ (x : Homes). loops_left (get_or x.params i InPlace)) (no_homes_at k h)

  -- a parameter leaves no more than was chosen
  pub left_within : (k i : ℕ) (b : FormBody) → slice_get (bodies_of r) k ≡ Some b
      → left_in r choices k i ≤ left_by (choice_in choices k) i
  left_within k i b h =
      let at = forms_stand r choices k b h in
      let c = choice_in choices k in
      let own = get_or_from_slice_get (homes_of r choices) k
      (form_homes at.first (rule_by (instance_at r k)) at.code b c) no_homes at.homes in
      let z : 0 + i ≡ i = omega arith in
      subst (λ (x : Homes). loops_left (get_or x.params i InPlace) ≤ left_by c i) (sym own)
      (subst (λ m. loops_left (get_or (map (home_of at.first c) (range_with_len 0 (length c.in_place))) i InPlace)
      ≤ left_by c m) z
      (homes_left (home_of at.first c) (left_by c) (home_left at.first c) 0 (length c.in_place) i))

  pub bodies_many : length (bodies_of r) ≡ length r.forms
  bodies_many = map_length (body_of r.typed.now.tasks r.mapping.now.instances r.found.entries)
      (range_with_len 0 (length r.forms)) ∙ length-range_with_len 0 (length r.forms)

  -- a form overlaps as was chosen; one that isn't there doesn't
  pub overlaps_are : (k : ℕ) (b : FormBody) → slice_get (bodies_of r) k ≡ Some b
      → (homes_in (homes_of r choices) k).overlaps ≡ (choice_in choices k).overlaps
  overlaps_are k b h =
      let at = forms_stand r choices k b h in
      ap (λ (x : Homes). x.overlaps) (get_or_from_slice_get (homes_of r choices) k
      (form_homes at.first (rule_by (instance_at r k)) at.code b (choice_in choices k)) no_homes at.homes)

  as_chosen : (k : ℕ) → (choice_in choices k).overlaps ≡ false
      → (homes_in (homes_of r choices) k).overlaps ≡ false
  as_chosen k e = by (slice_get (bodies_of r) k) refl
    where
      by : (o : Option FormBody) → slice_get (bodies_of r) k ≡ o → (homes_in (homes_of r choices) k).overlaps ≡ false
      by None h = ap (λ (x : Homes). x.overlaps) (no_homes_at k h)
      by (Some b) h = overlaps_are k b h ∙ e

  -- ---- a form's homes are those of one set or of two

  suited_home : (base : ℕ) (c : Choice) (i : ℕ) → IsSuited c.overlaps (home_of base c i)
  suited_home base c i = by (get_or c.in_place i false) (left_by c i == 0) c.overlaps
    where
      first : ℕ
      first = base + length (hoisted c) + position i (others c)

      by : (in_place none twice : Bool) → IsSuited twice (if in_place then InPlace
          else (if none then (if twice then Twin first (first + length (others c)) else Own first)
          else Held (base + position i (hoisted c)) (left_by c i)))
      by true none twice = tt
      by false true true = refl
      by false true false = refl
      by false false twice = tt

  each_suited : (base : ℕ) (c : Choice) (is : List ℕ) → EachOf (IsSuited c.overlaps) (map (home_of base c) is)
  each_suited base c [] = tt
  each_suited base c (i ∷ is) = (suited_home base c i, each_suited base c is)

  params_suited : (k : ℕ) → EachOf (IsSuited (homes_in (homes_of r choices) k).overlaps)
      (homes_in (homes_of r choices) k).params
  params_suited k = by (slice_get (bodies_of r) k) refl
    where
      Suited : Homes → Type 0
      Suited h = EachOf (IsSuited h.overlaps) h.params

      by : (o : Option FormBody) → slice_get (bodies_of r) k ≡ o → Suited (homes_in (homes_of r choices) k)
      by None h = subst Suited (sym (no_homes_at k h)) tt
      by (Some b) h =
          let at = forms_stand r choices k b h in
          let c = choice_in choices k in
          subst Suited (sym (get_or_from_slice_get (homes_of r choices) k
          (form_homes at.first (rule_by (instance_at r k)) at.code b c) no_homes at.homes))
          (each_suited at.first c (range_with_len 0 (length c.in_place)))

pub chosen_stand : ChosenStand
chosen_stand r choices may = record {
  entry = as_chosen r choices 0 may.first;
  params = params_suited r choices;
  calls = may.calls;
}

pub none_pipes : NonePipes
none_pipes r choices none k = as_chosen r choices k (none k)
