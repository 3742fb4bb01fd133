-- Choices by which nothing leaves a loop and no loop overlaps its transfers may be chosen.
use Rattle.std.proofs.Common.{◌≡◌, ℕ, zero, suc, true, false, List, [], ◌∷◌, map, length, get_or, slice_get}
use Rattle.std.proofs.Common.{Option, Some, None, refl, sym, ap, subst, ◌∙◌, arith, if◌then◌else◌}
use Rattle.sq_forms.specs.declared.form.Form.{Form}
use Rattle.sq_spec.specs.declared.statement.CallInstance.{CallInstance}
use Rattle.sq_spec.specs.declared.statement.Statement.{Statement, roll-Statement}
use Rattle.sq_spec.specs.declared.statement.Statement.TheVariants as b
use Rattle.sq_spec.specs.declared.statement.Statement.TheOpen.{Statement-F}
use Rattle.sq_spec.specs.declared.statement.Statement.TheFolds.{ind-Statement, map-Statement}
use Rattle.sq_spec.specs.declared.body.Body.{Body}
use Rattle.sq_spec.specs.declared.body.Body.TheVariants as body
use Rattle.sq_spec.specs.declared.body.FormBody.{FormBody}
use Rattle.sq_spec.specs.declared.resolved.Resolved.{Resolved}
use Rattle.sq_spec.specs.Bodies.{body_of}
use Rattle.sq_placed.specs.declared.home.Home.TheVariants.{InPlace, Held}
use Rattle.sq_placed.specs.declared.home.Homes.{Homes}
use Rattle.sq_placed.specs.Pipes.{NonePiped}
use Rattle.sq_placed.proofs.Pipes.{none_stand}
use Rattle.sq_draft_laws.specs.Term.Terms.{body_in, homes_in}
use Rattle.sq_draft_laws.specs.TermLaws.Leaves.{Left, loops_left, RowLeaves, AskedInLoops, each_in, Leaves, BodyLeaves}
use Rattle.sq_draft_laws.proofs.TermLaws.Chains.{leaves_call, leaves_map}
use Rattle.sq_draft_laws.specs.TermLaws.Overlapping.{OverlapsStand}
use Rattle.sq_draft_laws.proofs.TermLaws.Overlaps.{none_overlap}
use Rattle.sq_draft_laws.specs.ProgramLaws.Held.{HoldsFit, UnheldFits}
use Rattle.sq_draft_laws.specs.ProgramLaws.Piped.{PipesFit, UnpipedFits}
use Rattle.sq_draft_laws.specs.Homes.Chosen.declared.choice.Choice.{Choice}
use Rattle.sq_draft_laws.specs.Homes.Chosen.Arrays.{left_by}
use Rattle.sq_draft_laws.specs.Homes.Chosen.Forms.{bodies_of, choice_in}
use Rattle.sq_draft_laws.specs.Homes.Drafts.{homes_of}
use Rattle.sq_draft_laws.specs.Choosing.{left_in, MayBeChosen, NoneOverlaps}
use Rattle.sq_draft_laws.proofs.Hoisting.{no_homes_at, left_within, none_pipes}
use Rattle.sq_pass_laws.proofs.HoistPrograms.{held_chosen, params_suited}

-- ---- statements in which nothing leaves a loop

module _ (left : Left) (none : (f i : ℕ) → left f i ≡ 0) where
  row_stays : (outer : List (List ℕ)) (times : List CallInstance) (r : CallInstance) → RowLeaves left outer times r
  row_stays outer times r = record {
    turns = λ i j lt. let z = none r.form i in absurd (omega (arith, lt, z));
    one = λ i lt. let z = none r.form i in absurd (omega (arith, lt, z));
  }

  abbrev Stays : Statement → Type 0
  Stays x = (outer : List (List ℕ)) → Leaves left x outer

  abbrev Known : Type 0
  Known = (x : Statement) × Stays x

  abbrev these : List Known → List Statement
  these = map (λ (q : Known). q.0)

  all_stay : (xs : List Known) (outer : List (List ℕ)) → each_in (Leaves left) (these xs) outer
  all_stay [] outer = tt
  all_stay (x ∷ xs) outer = (x.1 outer, all_stay xs outer)

  stays_step : (y : Statement-F Known) → Stays (roll-Statement (map-Statement Known Statement (λ q. q.0) y))
  stays_step (Statement-F.Call lower times) = subst Stays (sym (b.rolls-Call lower times)) (λ outer.
      subst (λ (f : AskedInLoops). f outer) (sym (leaves_call left lower times))
      (λ k r e. row_stays (if lower then outer else []) times r))
  stays_step (Statement-F.Map place m counts starts xs) =
      subst Stays (sym (b.rolls-Map place m counts starts (these xs))) (λ outer.
      subst (λ (f : AskedInLoops). f outer) (sym (leaves_map left place m counts starts (these xs)))
      (all_stay xs _))

  stays : (x : Statement) → Stays x
  stays = ind-Statement Stays (λ x y is. subst (λ z. Stays (roll-Statement z)) is (stays_step y))

  list_stays : (xs : List Statement) (outer : List (List ℕ)) → each_in (Leaves left) xs outer
  list_stays [] outer = tt
  list_stays (x ∷ xs) outer = (stays x outer, list_stays xs outer)

  body_stays : (x : Body) → BodyLeaves left x
  body_stays (body.Leaf code) = tt
  body_stays (body.Inner list) = list_stays list []

-- ---- choices

-- What is chosen for each form keeps its arguments inside loops, overlaps nothing, and has in place what the form has.
pub record AreStaying (r : Resolved) (choices : List Choice) : Type 0 where
  pub stay : (k i : ℕ) → left_by (choice_in choices k) i ≡ 0
  pub none : NoneOverlaps choices
  pub flags : (k : ℕ) (f : Form) → slice_get r.forms k ≡ Some f → length (choice_in choices k).in_place ≡ length f.in_place
  pub in_place_ : (k : ℕ) (f : Form) → slice_get r.forms k ≡ Some f → (i : ℕ)
      → get_or (choice_in choices k).in_place i false ≡ true → slice_get f.in_place i ≡ Some true

module _ (r : Resolved) (choices : List Choice) (are : AreStaying r choices) where
  abbrev homes : ℕ → Homes
  homes = homes_in (homes_of r choices)

  piped : NonePiped homes
  piped = none_pipes r choices are.none

  nothing_left : (k i : ℕ) → left_in r choices k i ≡ 0
  nothing_left k i = by (slice_get (bodies_of r) k) refl
    where
      empty : (i : ℕ) → loops_left (get_or [] i InPlace) ≡ 0
      empty zero = refl
      empty (suc i) = refl

      by : (o : Option FormBody) → slice_get (bodies_of r) k ≡ o → left_in r choices k i ≡ 0
      by None e = ap (λ (x : Homes). loops_left (get_or x.params i InPlace)) (no_homes_at r choices k e) ∙ empty i
      by (Some b) e =
          let l = left_within r choices k i b e in
          let z = are.stay k i in
          omega (arith, l, z)

  suited : OverlapsStand (body_in (bodies_of r)) homes
  suited = none_overlap (body_in (bodies_of r)) homes piped (params_suited r choices are.none)

  pub may_be_chosen : MayBeChosen r choices
  may_be_chosen = record {
    each = λ k f e. record {
      flags = are.flags k f e;
      in_place = are.in_place_ k f e;
      moved = λ i lt. let z = are.stay k i in absurd (omega (arith, lt, z));
    };
    entry = λ i. nothing_left 0 i;
    first = are.none 0;
    loops = λ k. body_stays (left_in r choices) nothing_left (body_in (bodies_of r) k).body;
    calls = suited.calls;
    stand = none_stand (body_in (bodies_of r)) homes piped;
    doubled = λ k e i. let f = are.none k in absurd (cc (sym f ∙ e));
  }

  unheld : (f i b n : ℕ) → get_or (homes f).params i InPlace ≡ Held b n → ⊥
  unheld f i b n e =
      let h = held_chosen r choices f i b n e in
      let some = h.0 in
      let is = h.1 in
      let z = are.stay f i in
      omega (arith, some, is, z)

  pub may_leave : UnheldFits → HoldsFit (body_of r.typed.now.tasks r.mapping.now.instances r.found.entries) homes
  may_leave fits = fits (body_of r.typed.now.tasks r.mapping.now.instances r.found.entries) homes unheld

  pub may_overlap : UnpipedFits → PipesFit (body_of r.typed.now.tasks r.mapping.now.instances r.found.entries) homes
  may_overlap fits = fits (body_of r.typed.now.tasks r.mapping.now.instances r.found.entries) homes piped
