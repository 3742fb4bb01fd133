-- The tables, homes and buffers of a draft are as a built term asks.
use Rattle.std.proofs.Common.{◌≡◌, ℕ, zero, suc, ◌+◌, ◌-◌, ◌<◌, ◌≤◌, List, length, map}
use Rattle.std.proofs.Common.{Option, Some, None, refl, sym, ap, ◌∙◌, subst, arith}
use Rattle.std.specs.Prelude.{slice_get}
use Rattle.std.specs.List.{range_with_len}
use Rattle.std.proofs.lemmas.Option.{slice_get_within}
use Rattle.sq_ir.specs.Written.{Setting}
use Rattle.sq_ir.specs.declared.plan.PlanNode.{PlanNode}
use Rattle.sq_spec.specs.declared.body.FormBody.{FormBody}
use Rattle.sq_spec.specs.declared.resolved.Resolved.{Resolved}
use Rattle.sq_placed.specs.declared.home.Home.{Home}
use Rattle.sq_placed.specs.declared.home.Home.TheVariants.{InPlace, Own, Held, Twin}
use Rattle.sq_placed.specs.declared.home.Homes.{Homes}
use Rattle.sq_term.specs.Terms.{homes_in}
use Rattle.sq_program_laws.specs.TermLaws.Fits.{TabledBody, IsThere, AreThere, LocalsThere, HaveRows}
use Rattle.sq_program_laws.proofs.TermLaws.Programs.{programs_are_tabled}
use Rattle.sq_homes.specs.Chosen.declared.choice.Choice.{Choice}
use Rattle.sq_homes.specs.Chosen.Forms.{bodies_of, choice_in}
use Rattle.sq_homes.specs.Drafts.{homes_of, buffers_of, buffer_at}
use Rattle.sq_homes.specs.Chosen.Arrays.{standing, locals_count}
use Rattle.sq_homes.specs.Numbering.{home_of, local_base, IsHomeIn, IsNumberIn}
use Rattle.sq_homes.proofs.Numbered.{homes_are_own, locals_are_own}
use Rattle.sq_draft_laws.specs.Given.{level_at}
use Rattle.sq_draft_laws.specs.Choosing.{Walked, MayBeChosen, setting_of}
use Rattle.sq_draft_laws.proofs.Standing.{map_length}
use Rattle.sq_draft_laws.proofs.Hoisting.{at_index, no_homes_at}
use Rattle.sq_draft_laws.specs.Drafts.{limits, DraftsAreTabled}
use Rattle.sq_draft_laws.proofs.Forms.{resolving, body_at, bodies_are, sized}
use Rattle.sq_draft_laws.proofs.Numbers.{first_of}
use Rattle.sq_draft_laws.proofs.Hoisted.{IsForm, is_form}
use Rattle.sq_draft_laws.proofs.Levels.{have_levels}
use Rattle.sq_draft_laws.proofs.Sizes.{have_rows}

-- ---- buffers that are there

module _ (r : Resolved) (choices : List Choice) (are : MayBeChosen r choices) (nodes : List PlanNode)
    (offset : ℕ → ℕ) where
  abbrev s : Setting
  s = setting_of r choices nodes offset

  module _ (k : ℕ) (b : FormBody) (f : IsForm r choices are k b) where
    abbrev c : Choice
    c = choice_in choices k

    abbrev first : ℕ
    first = first_of r choices k

    abbrev arrays : List ℕ
    arrays = standing b c

    number_there : (n : ℕ) → IsNumberIn first (length arrays) n → n < s.buffers
    number_there n h =
        let i = n - first in
        let here : first + i ≡ n = omega (arith, h.0) in
        let less : i < length arrays = omega (arith, h.0, h.1) in
        let many = map_length (buffer_at r k b) arrays in
        let x = at_index (map (buffer_at r k b) arrays) i (omega (arith, less, many)) in
        slice_get_within (buffers_of r choices) n x.0
        (ap (slice_get (buffers_of r choices)) (sym here) ∙ (f.at.buffers i less ∙ x.1))

    home_there : (h : Home) → IsHomeIn first (length arrays) h → IsThere s h
    home_there InPlace i = tt
    home_there (Own n) i = number_there n i
    home_there (Held n loops) i = number_there n i
    home_there (Twin n m) i = (number_there n i.0, number_there m i.1)

    params_there : (a n : ℕ) → a + n ≤ length c.in_place → AreThere s (map (home_of first c) (range_with_len a n))
    params_there a zero h = tt
    params_there a (suc n) h = (
      home_there (home_of first c a) (homes_are_own first b c a (omega (arith, h))),
      params_there (a + 1) n (omega (arith, h)),
    )

    locals_there : (a n : ℕ) → a + n ≤ locals_count b.arrays c
        → LocalsThere s (range_with_len (local_base first c + a) n)
    locals_there a zero h = tt
    locals_there a (suc n) h =
        let next : local_base first c + (a + 1) ≡ local_base first c + a + 1 = omega arith in (
          number_there (local_base first c + a) (locals_are_own first b c a (omega (arith, h))),
          subst (λ (m : ℕ). LocalsThere s (range_with_len m n)) next (locals_there (a + 1) n (omega (arith, h))),
        )

    all_params_there : AreThere s (homes_in (homes_of r choices) k).params
    all_params_there = subst (AreThere s) (sym f.params) (params_there 0 (length c.in_place) (omega arith))

    all_locals_there : LocalsThere s (homes_in (homes_of r choices) k).locals
    all_locals_there =
        let none : local_base first c + 0 ≡ local_base first c = omega arith in
        subst (LocalsThere s) (sym f.locals)
        (subst (λ (m : ℕ). LocalsThere s (range_with_len m (locals_count b.arrays c))) none
        (locals_there 0 (locals_count b.arrays c) (omega arith)))

  params_at : (k : ℕ) (o : Option FormBody) → slice_get (bodies_of r) k ≡ o
      → AreThere s (homes_in (homes_of r choices) k).params
  params_at k None e = subst (λ (h : Homes). AreThere s h.params) (sym (no_homes_at r choices k e)) tt
  params_at k (Some b) e = all_params_there k b (is_form r choices are k b e)

  locals_at : (k : ℕ) (o : Option FormBody) → slice_get (bodies_of r) k ≡ o
      → LocalsThere s (homes_in (homes_of r choices) k).locals
  locals_at k None e = subst (λ (h : Homes). LocalsThere s h.locals) (sym (no_homes_at r choices k e)) tt
  locals_at k (Some b) e = all_locals_there k b (is_form r choices are k b e)

body_tabled : (r : Resolved) (w : Walked r) (last : ℕ) → length r.machine.now.levels ≡ suc last → (k : ℕ)
    → TabledBody limits last (level_at r k) (body_at r k).body
body_tabled r w last long k =
    programs_are_tabled r.typed.now r.machine.now.levels r.mapping.now w.faultless w.read (resolving r) w.through limits
    (omega arith) last long (level_at r) (have_levels r w) k

pub drafts_are_tabled : DraftsAreTabled
drafts_are_tabled r w choices are last long nodes offset = record {
  body = λ k. subst (λ (b : FormBody). TabledBody limits last (level_at r k) b.body) (sym (bodies_are r w k))
      (body_tabled r w last long k);
  rows = λ k. subst (λ (b : FormBody). HaveRows b.arrays) (sym (bodies_are r w k))
      (have_rows (body_at r k).arrays (sized r w k));
  params = λ k. params_at r choices are nodes offset k (slice_get (bodies_of r) k) refl;
  locals = λ k. locals_at r choices are nodes offset k (slice_get (bodies_of r) k) refl;
}
