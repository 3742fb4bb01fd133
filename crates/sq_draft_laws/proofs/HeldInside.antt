-- The parameters that leave loops are those of calls that are all that stands in these loops.
use Rattle.std.proofs.Common.{◌≡◌, ℕ, suc, ◌<◌, false, List, get_or, slice_get, Option, Some, None, refl, sym, ap, ◌∙◌}
use Rattle.std.proofs.Common.{arith}
use Rattle.std.proofs.lemmas.Option.{get_or_from_slice_get}
use Rattle.sq_spec.specs.declared.statement.CallInstance.{CallInstance}
use Rattle.sq_spec.specs.declared.body.FormBody.{FormBody}
use Rattle.sq_spec.specs.declared.resolved.Resolved.{Resolved}
use Rattle.sq_placed.specs.declared.home.Home.{Home}
use Rattle.sq_placed.specs.declared.home.Home.TheVariants.{InPlace, Own, Held, Twin}
use Rattle.sq_placed.specs.declared.home.Homes.{Homes}
use Rattle.sq_term.specs.Terms.{body_in, homes_in}
use Rattle.sq_program_laws.specs.TermLaws.Leaves.{loops_left}
use Rattle.sq_program_laws.specs.TermLaws.Orders.{Round, rounds_of}
use Rattle.sq_program_laws.specs.TermLaws.Held.{IsHeldRow, AreHeldRows}
use Rattle.sq_homes.specs.Chosen.declared.choice.Choice.{Choice}
use Rattle.sq_homes.specs.Chosen.Arrays.{left_by}
use Rattle.sq_homes.specs.Chosen.Forms.{bodies_of, choice_in}
use Rattle.sq_homes.specs.Drafts.{homes_of}
use Rattle.sq_draft_laws.specs.Choosing.{left_in, MayBeChosen}
use Rattle.sq_draft_laws.proofs.Hoisting.{no_homes_at}
use Rattle.sq_draft_laws.specs.HomesFit.{HomesAreHeldInside}
use Rattle.sq_draft_laws.proofs.Forms.{past_or}
use Rattle.sq_draft_laws.proofs.Numbers.{first_of}
use Rattle.sq_draft_laws.proofs.Rounds.{each_as}
use Rattle.sq_draft_laws.proofs.ArrayPlaces.{HomeIs, stays, owns, owns_two, leaves, home_by}
use Rattle.sq_draft_laws.proofs.Leaving.{RowIsIn, RoundIsIn, rounds_are_in}
use Rattle.sq_draft_laws.proofs.Hoisted.{is_form, param_is}

module _ (r : Resolved) (choices : List Choice) (are : MayBeChosen r choices) where
  abbrev homes : ℕ → Homes
  homes = homes_in (homes_of r choices)

  -- what leaves loops leaves one at least
  some_left : (f i b n : ℕ) → get_or (homes f).params i InPlace ≡ Held b n → 0 < n
  some_left f i b n e = by (slice_get (bodies_of r) f) refl
    where
      here : (a : FormBody) → slice_get (bodies_of r) f ≡ Some a → (o : Option Home) → slice_get (homes f).params i ≡ o
          → 0 < n
      here a h None g = let z : InPlace ≡ Held b n = sym (past_or (homes f).params i InPlace g) ∙ e in absurd (cc z)
      here a h (Some x) g =
          let its = is_form r choices are f a h in
          let p = param_is r choices are f a its i x g in
          of p.is (get_or_from_slice_get (homes f).params i x InPlace g)
          (home_by (choice_in choices f) its.chosen.moved (first_of r choices f) i)
        where
          of : {y : Home} → {moved : (j : ℕ) → 0 < left_by (choice_in choices f) j
              → get_or (choice_in choices f).in_place j false ≡ false} → y ≡ x
              → get_or (homes f).params i InPlace ≡ x
              → HomeIs (choice_in choices f) moved (first_of r choices f) i y → 0 < n
          of is at (stays c l) = let z : InPlace ≡ Held b n = is ∙ (sym at ∙ e) in absurd (cc z)
          of is at (owns c l o) = let z : Own _ ≡ Held b n = is ∙ (sym at ∙ e) in absurd (cc z)
          of is at (owns_two c l o) = let z : Twin _ _ ≡ Held b n = is ∙ (sym at ∙ e) in absurd (cc z)
          of is at (leaves m c l) =
              let z : suc m ≡ n = ap loops_left (is ∙ (sym at ∙ e)) in
              omega (arith, z)

      by : (o : Option FormBody) → slice_get (bodies_of r) f ≡ o → 0 < n
      by None h =
          let z : InPlace ≡ Held b n = ap (λ (x : Homes). get_or x.params i InPlace) (sym (no_homes_at r choices f h)) ∙ e
          in absurd (cc z)
      by (Some a) h = here a h (slice_get (homes f).params i) refl

  row_held : (q : Round) (x : CallInstance) → RowIsIn (left_in r choices) q x → IsHeldRow homes q x
  row_held q x h = record {
    some = λ i b n e. some_left x.form i b n e;
    round = λ i b n e. let m = ap loops_left e in let l = h.round i in omega (arith, m, l);
    one = λ i b n e. h.one i
        (let m = ap loops_left e in let l = some_left x.form i b n e in omega (arith, m, l));
  }

pub homes_are_held_inside : HomesAreHeldInside
homes_are_held_inside r choices are f =
    each_as (RoundIsIn (left_in r choices)) (AreHeldRows (homes_in (homes_of r choices)))
    (rounds_of (body_in (bodies_of r) f).body)
    (λ q h. each_as (RowIsIn (left_in r choices) q) (IsHeldRow (homes_in (homes_of r choices)) q) q.rows
    (row_held r choices are q) h)
    (rounds_are_in (left_in r choices) (body_in (bodies_of r) f).body (are.loops f))
