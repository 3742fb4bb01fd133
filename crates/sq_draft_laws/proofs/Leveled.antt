-- The buffers of each form have its level.
use Rattle.std.proofs.Common.{◌≡◌, ℕ, zero, suc, ◌+◌, ◌-◌, ◌<◌, ◌≤◌, List, [], ◌∷◌, length, map, slice_get, get_or}
use Rattle.std.proofs.Common.{Option, Some, None, refl, sym, ap, subst, ◌∙◌, arith}
use Rattle.std.specs.List.{range_with_len}
use Rattle.std.specs.Option.{option_map_or}
use Rattle.sq_ir.specs.Written.{Setting}
use Rattle.sq_ir.specs.Plans.{of_buffer}
use Rattle.sq_ir.specs.declared.plan.Buffer.{Buffer}
use Rattle.sq_spec.specs.declared.body.FormBody.{FormBody}
use Rattle.sq_spec.specs.declared.resolved.Resolved.{Resolved}
use Rattle.sq_placed.specs.declared.home.Home.{Home}
use Rattle.sq_placed.specs.declared.home.Home.TheVariants.{InPlace, Own, Held, Twin}
use Rattle.sq_placed.specs.declared.home.Homes.{Homes}
use Rattle.sq_term.specs.Terms.{no_homes, homes_in}
use Rattle.sq_term.specs.Stands.{IsOf, AreOf, LocalsOf}
use Rattle.sq_homes.specs.Chosen.declared.choice.Choice.{Choice}
use Rattle.sq_homes.specs.Chosen.Arrays.{standing, locals_count}
use Rattle.sq_homes.specs.Numbering.{form_homes, home_of, local_base, IsNumberIn, IsHomeIn}
use Rattle.sq_homes.specs.Chosen.Forms.{bodies_of, choice_in, instance_at, rule_by}
use Rattle.sq_homes.specs.Drafts.{homes_from, homes_of, buffers_of}
use Rattle.sq_homes.specs.Drafts.{buffer_at}
use Rattle.sq_homes.proofs.Numbered.{homes_are_own, locals_are_own}
use Rattle.sq_draft_laws.specs.Given.{FormStands, level_at, ProgramsDescend, HomesAreLeveled}
use Rattle.sq_draft_laws.proofs.Standing.{forms_stand}

get_map : {A B : Type 0} (f : A → B) (g : B → ℕ) (d n : ℕ) (xs : List A) (i : ℕ) → i < length xs
    → ((x : A) → g (f x) ≡ n)
    → option_map_or g (slice_get (map f xs) i) d ≡ n
get_map f g d n [] i h same = absurd (omega (arith, h))
get_map f g d n (x ∷ xs) zero h same = same x
get_map f g d n (x ∷ xs) (suc i) h same = get_map f g d n xs i (omega (arith, h)) same

an_item : {A : Type 0} (xs : List A) (i : ℕ) (d x : A) → slice_get xs i ≡ Some x → get_or xs i d ≡ x
an_item [] i d x h = cc
an_item (y ∷ xs) zero d x h = cc
an_item (y ∷ xs) (suc i) d x h = an_item xs i d x h

no_item : {A : Type 0} (xs : List A) (i : ℕ) (d : A) → slice_get xs i ≡ None → get_or xs i d ≡ d
no_item [] i d h = refl
no_item (y ∷ xs) zero d h = cc
no_item (y ∷ xs) (suc i) d h = no_item xs i d h

none_behind : (r : Resolved) (choices : List Choice) (k base code : ℕ) (bs : List FormBody) (f : ℕ) → slice_get bs f
    ≡ None
    → slice_get (homes_from r choices k base code bs) f ≡ None
none_behind r choices k base code [] f h = refl
none_behind r choices k base code (x ∷ bs) zero h = cc
none_behind r choices k base code (x ∷ bs) (suc f) h = none_behind r choices (suc k) _ _ bs f h

module _ (r : Resolved) (choices : List Choice) (s : Setting)
    (levels : (b : ℕ) → s.level b ≡ of_buffer (buffers_of r choices) (λ x. x.level) b) where
  module _ (k : ℕ) (b : FormBody) (at : FormStands r choices k b) where
    abbrev its : Choice
    its = choice_in choices k

    abbrev many : ℕ
    many = length (standing b its)

    number_level : (n : ℕ) → IsNumberIn at.first many n → s.level n ≡ level_at r k
    number_level n h =
        let i = n - at.first in
        let here : at.first + i ≡ n = omega (arith, h.0) in
        let below : i < many = omega (arith, h.0, h.1) in
        levels n ∙ ap (of_buffer (buffers_of r choices) (λ (x : Buffer). x.level)) (sym here)
        ∙ ap (λ (o : Option Buffer). option_map_or (λ (x : Buffer). x.level) o 0) (at.buffers i below)
        ∙ get_map (buffer_at r k b) (λ (x : Buffer). x.level) 0 (level_at r k) (standing b its) i below (λ j. refl)

    home_level : (h : Home) → IsHomeIn at.first many h → IsOf s (level_at r k) h
    home_level InPlace i = tt
    home_level (Own n) i = number_level n i
    home_level (Held n loops) i = number_level n i
    home_level (Twin n m) i = (number_level n i.0, number_level m i.1)

    params_level : (a n : ℕ) → a + n ≤ length its.in_place
        → AreOf s (level_at r k) (map (home_of at.first its) (range_with_len a n))
    params_level a zero h = tt
    params_level a (suc n) h = (
      home_level (home_of at.first its a) (homes_are_own at.first b its a (omega (arith, h))),
      params_level (a + 1) n
          (omega (arith, h)),
    )

    locals_level : (a n : ℕ) → a + n ≤ locals_count b.arrays its
        → LocalsOf s (level_at r k) (range_with_len (local_base at.first its + a) n)
    locals_level a zero h = tt
    locals_level a (suc n) h =
        let next : local_base at.first its + (a + 1) ≡ local_base at.first its + a + 1 = omega arith in (
          number_level (local_base at.first its + a) (locals_are_own at.first b its a (omega (arith, h))),
          subst (λ (m : ℕ). LocalsOf s (level_at r k) (range_with_len m n)) next
              (locals_level (a + 1) n (omega (arith, h))),
        )

    own_homes : homes_in (homes_of r choices) k ≡ form_homes at.first (rule_by (instance_at r k)) at.code b its
    own_homes = an_item (homes_of r choices) k no_homes (form_homes at.first (rule_by (instance_at r k)) at.code b its)
        at.homes

    params_are : AreOf s (level_at r k) (homes_in (homes_of r choices) k).params
    params_are = subst (λ (h : Homes). AreOf s (level_at r k) h.params) (sym own_homes)
        (params_level 0 (length its.in_place) (omega arith))

    locals_are : LocalsOf s (level_at r k) (homes_in (homes_of r choices) k).locals
    locals_are =
        let zero_on : local_base at.first its + 0 ≡ local_base at.first its = omega arith in
        subst (λ (h : Homes). LocalsOf s (level_at r k) h.locals) (sym own_homes)
        (subst (λ (m : ℕ). LocalsOf s (level_at r k) (range_with_len m (locals_count b.arrays its))) zero_on
        (locals_level 0 (locals_count b.arrays its) (omega arith)))

  no_form : (k : ℕ) → slice_get (bodies_of r) k ≡ None → homes_in (homes_of r choices) k ≡ no_homes
  no_form k h = no_item (homes_of r choices) k no_homes (none_behind r choices 0 0 0 (bodies_of r) k h)

  params_of : (k : ℕ) (o : Option FormBody) → slice_get (bodies_of r) k ≡ o
      → AreOf s (level_at r k) (homes_in (homes_of r choices) k).params
  params_of k None h = subst (λ (x : Homes). AreOf s (level_at r k) x.params) (sym (no_form k h)) tt
  params_of k (Some b) h = params_are k b (forms_stand r choices k b h)

  locals_of : (k : ℕ) (o : Option FormBody) → slice_get (bodies_of r) k ≡ o
      → LocalsOf s (level_at r k) (homes_in (homes_of r choices) k).locals
  locals_of k None h = subst (λ (x : Homes). LocalsOf s (level_at r k) x.locals) (sym (no_form k h)) tt
  locals_of k (Some b) h = locals_are k b (forms_stand r choices k b h)

pub homes_are_leveled : ProgramsDescend → HomesAreLeveled
homes_are_leveled descend r choices s levels = record {
  params = λ k. params_of r choices s levels k (slice_get (bodies_of r) k) refl;
  locals = λ k. locals_of r choices s levels k (slice_get (bodies_of r) k) refl;
  calls = (descend r).each;
}
