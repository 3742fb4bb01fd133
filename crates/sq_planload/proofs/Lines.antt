-- The first fault of lines, from those of what stands before their events and those of the events.
use Rattle.std.proofs.Common.{◌≡◌, List, Some, None, Result, refl, sym, subst, arith, inl, inr}
use Rattle.sq_text.specs.declared.place.Place.{Place}
use Rattle.sq_text.specs.declared.code.Code.TheVariants as code
use Rattle.sq_text.specs.declared.fault.Stop.{Stop}
use Rattle.sq_text.specs.First.{AtOrBefore}
use Rattle.sq_text.specs.Faults.{fault_place, fault_number, IsFirst}
use Rattle.sq_ir.specs.declared.plan.Leaf.{Leaf}
use Rattle.sq_plantext.specs.declared.text.NodeLine.{NodeLine}
use Rattle.sq_plantext.specs.declared.text.BufferLine.{BufferLine}
use Rattle.sq_plantext.specs.declared.text.ArrayLine.{ArrayLine}
use Rattle.sq_plantext.specs.declared.text.TermText.{TermText}
use Rattle.sq_plantext.specs.declared.text.PlanText.{PlanText}
use Rattle.sq_plantext.specs.Grammar.{plan_text}
use Rattle.sq_planfile.specs.Sound.{IsSound}
use Rattle.sq_planfile.specs.Faults.{at, EventFault, LineFault}
use Rattle.sq_planheads.specs.Heads.{AreHeads, Compiles}
use Rattle.sq_planheads.proofs.HeadsTell.{first_of_events}
use Rattle.sq_planevents.specs.First.{IsAtOrBefore, IsFirstBad}

module _ (x : PlanText) where
  by_places : (p q : Place) → IsAtOrBefore p q → AtOrBefore fault_place fault_number (at code.BadEvent p) (at code.BadEvent q)
  by_places p q (inl b) = inl b
  by_places p q (inr same) = inr (same, omega arith)

  first_event : (p : Place) → IsFirstBad x (Some p) → IsFirst (EventFault x) (Some (at code.BadEvent p))
  first_event p h = (
    record { place = p; bad = h.0; is = refl },
    λ g b. subst (AtOrBefore fault_place fault_number (at code.BadEvent p)) (sym b.is) (by_places p b.place (h.1 b.place b.bad)),
  )

  -- where what stands before the events is sound, the first bad event is the first fault of all
  pub first_bad : (p : Place) → AreHeads x → IsFirstBad x (Some p) → IsFirst (LineFault x) (Some (at code.BadEvent p))
  first_bad p heads h = first_of_events x heads (Some (at code.BadEvent p)) (first_event p h)

  -- and where none is bad, the lines are sound
  pub sound_by : AreHeads x → IsFirstBad x None → IsSound x
  sound_by h events = record { nodes = h.nodes; leaves = h.leaves; buffers = h.buffers; arrays = h.arrays; events = events }

-- what is answered for the lists of a file is answered for the file
pub of_lists : (x : PlanText) (ns : List NodeLine) (bs : List BufferLine) (arrays : List ArrayLine) → ns ≡ x.nodes → bs ≡ x.buffers → arrays ≡ x.arrays → (r : Result (List Leaf) Stop)
    → ((t : TermText) → Compiles (plan_text ns bs x.leaves arrays t) r) → Compiles x r
of_lists x ns bs arrays p q s r answers =
    let same : plan_text ns bs x.leaves arrays x.term ≡ x = λ i. record { nodes = p i; buffers = q i; leaves = x.leaves; arrays = s i; term = x.term } in
    subst (λ y. Compiles y r) same (answers x.term)
