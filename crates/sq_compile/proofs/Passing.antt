-- What each pass chooses may be chosen, so a plan of its draft is good.
use Rattle.std.proofs.Common.{◌≡◌, ℕ, zero, suc, Bool, true, false, List, [], ◌∷◌, map, length, get_or, slice_get, Some}
use Rattle.std.proofs.Common.{refl, sym, ap, ◌∙◌}
use Rattle.sq_forms.specs.declared.form.Form.{Form}
use Rattle.sq_spec.specs.declared.resolved.Resolved.{Resolved}
use Rattle.sq_plan_good.specs.ProgramLaws.Held.{UnheldFits}
use Rattle.sq_plan_good.specs.ProgramLaws.Piped.{UnpipedFits}
use Rattle.sq_plan_good.specs.Homes.Chosen.declared.choice.Choice.{Choice}
use Rattle.sq_plan_good.specs.Homes.Chosen.Arrays.{left_by}
use Rattle.sq_plan_good.specs.Homes.Chosen.Forms.{choice_in, no_choice}
use Rattle.sq_plan_good.specs.Homes.Drafts.{homes_of}
use Rattle.sq_plan_good.specs.DraftLaws.Choosing.{Walked, MayBeChosen}
use Rattle.sq_plan_good.proofs.DraftLaws.Hoisting.{none_pipes}
use Rattle.sq_plan_good.specs.DraftLaws.Opened.{WalkedIsThere}
use Rattle.sq_passes.specs.Choices.{in_buffer, in_buffers, all_in_buffers, in_place, all_in_place}
use Rattle.sq_pass_laws.specs.Hoist.Choices.{hoisted}
use Rattle.sq_pass_laws.specs.HoistLaws.{ChoicesAreHoisted, HoistedOverlapNothing, ChoicesHold}
use Rattle.sq_pass_laws.proofs.Kept.{AreStaying, may_be_chosen, may_leave, may_overlap}
use Rattle.sq_pass_laws.proofs.HoistPrograms.{flag_there}
use Rattle.sq_pass_laws.specs.PipeLaws.{OverlapsMayBeChosen, OverlapsHold, OverlapsFit}
use Rattle.sq_spec.specs.Bodies.{body_of}
use Rattle.sq_pass_laws.specs.Term.Terms.{homes_in}
use Rattle.sq_plan_good.specs.Good.{MayLeave, MayOverlap, WithRoomAreGood}
use Rattle.sq_compile.specs.Passes.{IsOfPass, Lowered, Dropped, Hoisted, Overlapped, EachPassIsGood}

-- ---- those of the first two passes

module _ (choose : Form → Choice) (stay : (f : Form) (i : ℕ) → left_by (choose f) i ≡ 0)
    (none : (f : Form) → (choose f).overlaps ≡ false) where
  chosen_at : (fs : List Form) (k : ℕ) (f : Form) → slice_get fs k ≡ Some f → choice_in (map choose fs) k ≡ choose f
  chosen_at [] k f e = absurd (cc e)
  chosen_at (x ∷ fs) zero f e = let is : x ≡ f = cc e in ap choose is
  chosen_at (x ∷ fs) (suc k) f e = chosen_at fs k f e

  empty_stays : (i : ℕ) → left_by no_choice i ≡ 0
  empty_stays zero = refl
  empty_stays (suc i) = refl

  all_stay_so : (fs : List Form) (k i : ℕ) → left_by (choice_in (map choose fs) k) i ≡ 0
  all_stay_so [] zero i = empty_stays i
  all_stay_so [] (suc k) i = empty_stays i
  all_stay_so (x ∷ fs) zero i = stay x i
  all_stay_so (x ∷ fs) (suc k) i = all_stay_so fs k i

  none_so : (fs : List Form) (k : ℕ) → (choice_in (map choose fs) k).overlaps ≡ false
  none_so [] zero = refl
  none_so [] (suc k) = refl
  none_so (x ∷ fs) zero = none x
  none_so (x ∷ fs) (suc k) = none_so fs k

  chosen_stay : (r : Resolved) → ((f : Form) → length (choose f).in_place ≡ length f.in_place)
      → ((f : Form) (i : ℕ) → get_or (choose f).in_place i false ≡ true → slice_get f.in_place i ≡ Some true)
      → AreStaying r (map choose r.forms)
  chosen_stay r long has = record {
    stay = all_stay_so r.forms;
    none = none_so r.forms;
    flags = λ k f e. ap (λ (c : Choice). length c.in_place) (chosen_at r.forms k f e) ∙ long f;
    in_place_ = λ k f e i h. has f i (sym (ap (λ (c : Choice). get_or c.in_place i false) (chosen_at r.forms k f e)) ∙ h);
  }

abbrev no_leaves : List ℕ
no_leaves = []

nothing_at : (i : ℕ) → get_or no_leaves i 0 ≡ 0
nothing_at zero = refl
nothing_at (suc i) = refl

as_many : (xs : List Bool) → length (map in_buffer xs) ≡ length xs
as_many [] = refl
as_many (x ∷ xs) = ap suc (as_many xs)

never : (xs : List Bool) (i : ℕ) → get_or (map in_buffer xs) i false ≡ false
never [] zero = refl
never [] (suc i) = refl
never (x ∷ xs) zero = refl
never (x ∷ xs) (suc i) = never xs i

lowered_stay : (r : Resolved) → AreStaying r (all_in_buffers r)
lowered_stay r = chosen_stay in_buffers (λ f i. nothing_at i) (λ f. refl) r (λ f. as_many f.in_place)
    (λ f i h. let n = never f.in_place i in absurd (cc (sym n ∙ h)))

dropped_stay : (r : Resolved) → AreStaying r (all_in_place r)
dropped_stay r = chosen_stay in_place (λ f i. nothing_at i) (λ f. refl) r (λ f. refl) (λ f i h. flag_there f.in_place i h)

-- ---- all passes

-- the laws by which they may be
pub record Chosen : Type 0 where
  pub walked : WalkedIsThere
  pub unheld : UnheldFits
  pub unpiped : UnpipedFits
  pub hoisted : ChoicesAreHoisted
  pub hold : ChoicesHold
  pub nothing : HoistedOverlapNothing
  pub overlapped : OverlapsMayBeChosen
  pub overlaps_hold : OverlapsHold
  pub overlaps_fit : OverlapsFit

record Fits (r : Resolved) (choices : List Choice) : Type 0 where
  may : MayBeChosen r choices
  leave : MayLeave r choices
  overlap : MayOverlap r choices

fits : Chosen → (r : Resolved) → Walked r → (choices : List Choice) → IsOfPass r choices → Fits r choices
fits laws r w _ Lowered = record {
  may = may_be_chosen r _ (lowered_stay r);
  leave = may_leave r _ (lowered_stay r) laws.unheld;
  overlap = may_overlap r _ (lowered_stay r) laws.unpiped;
}
fits laws r w _ Dropped = record {
  may = may_be_chosen r _ (dropped_stay r);
  leave = may_leave r _ (dropped_stay r) laws.unheld;
  overlap = may_overlap r _ (dropped_stay r) laws.unpiped;
}
fits laws r w _ Hoisted = record {
  may = laws.hoisted r w;
  leave = laws.hold r w;
  overlap = laws.unpiped (body_of r.typed.now.tasks r.mapping.now.instances r.found.entries)
      (homes_in (homes_of r (hoisted r))) (none_pipes r (hoisted r) (laws.nothing r));
}
fits laws r w _ Overlapped = record {
  may = laws.overlapped r w;
  leave = laws.overlaps_hold r w;
  overlap = laws.overlaps_fit r w;
}

pub each_pass_is_good : Chosen → WithRoomAreGood → EachPassIsGood
each_pass_is_good laws good r race_free choices of d is nodes memories p room =
    let f = fits laws r (laws.walked r) choices of in
    good r race_free choices f.may f.leave f.overlap d is nodes memories p room
