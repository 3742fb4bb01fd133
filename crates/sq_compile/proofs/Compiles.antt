-- What placing the program's draft answers, in words of the program.
use Rattle.std.proofs.Common.{◌≡◌, ◌⊎◌, inl, inr, List, [], refl, ap, ◌∙◌, subst, sym}
use Rattle.std.specs.Prelude.{Result, Ok, Err, IfOk, IfErr}
use Rattle.sq_ir.specs.declared.plan.Draft.{Draft}
use Rattle.sq_ir.specs.declared.plan.Plan.{Plan}
use Rattle.sq_ir.specs.declared.plan.PlanNode.{PlanNode}
use Rattle.sq_machfile.specs.Machines.{WithinLimits}
use Rattle.sq_nests.specs.Drafts.{IsPlaceable, HasSpace}
use Rattle.sq_store.specs.declared.fitting.StoreFault.{StoreFault}
use Rattle.sq_store.specs.declared.fitting.StoreFault.TheVariants.{Capacity, NoMemory}
use Rattle.sq_store.specs.Place.{IsPlaced, IsRefusal, IsOver}
use Rattle.sq_spec.specs.declared.resolved.Resolved.{Resolved}
use Rattle.sq_plan_good.specs.Homes.Chosen.declared.choice.Choice.{Choice}
use Rattle.sq_plan_good.specs.Homes.Drafts.{IsDraftOf, program_term, buffers_of, leaves_of, entry_of}
use Rattle.sq_plan_good.specs.DraftLaws.Choosing.{AreMemories, Walked}
use Rattle.sq_pass_laws.specs.Hoist.Choices.{hoisted}
use Rattle.sq_pass_laws.specs.HoistLaws.{ChoicesAreHoisted, HoistedOverlapNothing}
use Rattle.sq_pass_laws.specs.Pipe.Greedy.{overlapped}
use Rattle.sq_pass_laws.specs.Pipe.Notes.{notes_of}
use Rattle.sq_pass_laws.specs.PipeLaws.{OverlapsMayBeChosen, OverlapsHold, OverlapsFit}
use Rattle.sq_plan_good.specs.Needed.{KeepInPlace, NeedsAreSums, SumsAreNeeds, NeedsAreSmall}
use Rattle.sq_plan_good.specs.Good.{HasNoRace, DraftsCanBePlaced, PlacedAreGood, PlacedStandByForms}
use Rattle.sq_plan_good.specs.Good.{IsGoodFor}
use Rattle.sq_plan_good.specs.Planned.{memories_of, IsPlacedFor}
use Rattle.sq_compile.specs.Capacity.{NoneLacks}
use Rattle.sq_compile.specs.Room.{HaveSpace, OverlapsHaveRoom}
use Rattle.sq_compile.specs.Compiled.{IsPlanOf, IsRefusedFor}
use Rattle.sq_compile.proofs.Keeping.{hoisted_keep}
use Rattle.sq_compile.proofs.Lacking.{none_lacks, first_lack, none_short}

-- under any choices there is a draft
drafted : (r : Resolved) (choices : List Choice) → (d : Draft) × IsDraftOf r choices d
drafted r choices = (
  record {
    term = program_term r choices;
    buffers = buffers_of r choices;
    leaves = leaves_of r;
    entry = entry_of r choices;
    notes = [];
  },
  record { term = refl; buffers = refl; leaves = refl; entry = refl },
)

module _ (can : DraftsCanBePlaced) (may_be : OverlapsMayBeChosen)
    (r : Resolved) (walked : Walked r) (d : Draft) (its : IsDraftOf r (overlapped r) d)
    (nodes : List PlanNode) (are : nodes ≡ memories_of r) (memories : AreMemories r.machine.now.levels nodes) where
  placeable : IsPlaceable d nodes
  placeable = can r (overlapped r) (may_be r walked) d its nodes memories

  -- a placed plan, by its own draft
  of_plan : d.notes ≡ notes_of r → (p : Plan) → IsPlaced d nodes p → IsPlacedFor r p
  of_plan noted p h =
      let own : p.draft ≡ d = ap (λ (q : Plan). q.draft) h.is in
      record {
        may = may_be r walked;
        its = subst (IsDraftOf r (overlapped r)) (sym own) its;
        notes = ap (λ (x : Draft). x.notes) own ∙ noted;
        placed = subst (λ (x : Draft). IsPlaced x (memories_of r) p) (sym own)
            (subst (λ (ns : List PlanNode). IsPlaced d ns p) are h);
      }

  pub good : PlacedAreGood → PlacedStandByForms → OverlapsHold → OverlapsFit → d.notes ≡ notes_of r
      → (result : Result Plan StoreFault)
      → IfOk result (λ plan. IsPlaceable d nodes → IsPlaced d nodes plan)
      → IfOk result (λ p. HasNoRace r → IsPlanOf r p)
  good law by_forms hold fit noted (Ok p) h = λ race_free. record {
    placed = of_plan noted p (h placeable);
    stands = by_forms r (overlapped r) (may_be r walked) d its nodes memories p (h placeable);
    good = subst (λ (ns : List PlanNode). IsGoodFor r (overlapped r) ns p) are
        (law r race_free (overlapped r) (may_be r walked) (hold r walked) (fit r walked) d its nodes memories p
        (h placeable));
  }
  good law by_forms hold fit noted (Err fault) h = tt

  pub placed : d.notes ≡ notes_of r → (result : Result Plan StoreFault)
      → IfOk result (λ plan. IsPlaceable d nodes → IsPlaced d nodes plan) → IfOk result (λ p. IsPlacedFor r p)
  placed noted (Ok p) h = of_plan noted p (h placeable)
  placed noted (Err fault) h = tt

  -- what nodes need by the forms that run at them
  module _ (are_hoisted : ChoicesAreHoisted) (nothing : HoistedOverlapNothing) (have_room : OverlapsHaveRoom)
      (agree : NeedsAreSums) (sums : SumsAreNeeds) (small : NeedsAreSmall) (limits : WithinLimits r.machine.now) where
    keep : KeepInPlace r (hoisted r)
    keep = hoisted_keep r (are_hoisted r walked) (nothing r)

    -- where no loop overlaps its transfers
    alike : overlapped r ≡ hoisted r → KeepInPlace r (overlapped r)
    alike same = subst (KeepInPlace r) (sym same) keep

    -- where all nodes have room
    no_lack : HaveSpace r (hoisted r) → NoneLacks r
    no_lack space =
        let made = drafted r (hoisted r) in
        none_lacks agree sums small r walked limits (hoisted r) keep made.0 made.1 (space made.0 made.1)

    by_room : (overlapped r ≡ hoisted r) ⊎ (HaveSpace r (overlapped r) × HaveSpace r (hoisted r))
        → (p : Plan) → IsPlaced d nodes p → NoneLacks r
    by_room (inl same) p h =
        none_lacks agree sums small r walked limits (overlapped r) (alike same) d its (subst (HasSpace d) are h.space)
    by_room (inr space) p h = no_lack space.1

    pub fits : (result : Result Plan StoreFault) → IfOk result (λ plan. IsPlaceable d nodes → IsPlaced d nodes plan)
        → IfOk result (λ p. NoneLacks r)
    fits (Ok p) h = by_room (have_room r walked limits) p (h placeable)
    fits (Err fault) h = tt

    over_by_room : (overlapped r ≡ hoisted r) ⊎ (HaveSpace r (overlapped r) × HaveSpace r (hoisted r))
        → (fault : StoreFault) → IsRefusal d nodes fault → IsRefusedFor r fault
    over_by_room (inl same) (Capacity node need capacity) h =
        first_lack agree sums small r walked limits (overlapped r) (alike same) d its node need capacity
        (subst (λ (ns : List PlanNode). IsOver d ns node need capacity) are h)
    over_by_room (inr space) (Capacity node need capacity) h =
        absurd (none_short d nodes (subst (HasSpace d) (sym are) (space.0 d its)) node h.over)
    over_by_room room NoMemory h = tt

    pub over : (result : Result Plan StoreFault)
        → IfErr result (λ fault. IsPlaceable d nodes → IsRefusal d nodes fault)
        → IfErr result (λ fault. IsRefusedFor r fault)
    over (Ok p) h = tt
    over (Err fault) h = over_by_room (have_room r walked limits) fault (h placeable)
