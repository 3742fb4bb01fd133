-- What the costs of a command are, and what `span` writes.
use Rattle.std.specs.Prelude.{◌≡◌, ◌⊎◌, ℕ, List, Some}
use Rattle.sq_text.specs.declared.fault.Fault.{Fault}
use Rattle.sq_text.specs.Faults.{IsFirst}
use Rattle.sq_machfile.specs.declared.level.Level.{Level}
use Rattle.sq_machfile.specs.Machines.{Hierarchy}
use Rattle.sq_costs.specs.declared.cost.Cost.{Cost}
use Rattle.sq_costs.specs.Files.{CostFault, StandsFor as AreCostsOf}
use Rattle.sq_ir.specs.Plans.{tree_of}
use Rattle.sq_ir.specs.declared.plan.Plan.{Plan}
use Rattle.sq_spec.specs.declared.resolved.Resolved.{Resolved}
use Rattle.sq_compile.specs.Compiled.{IsPlanOf}
use Rattle.sq_span.specs.Chains.{IsHeaviest}
use Rattle.sq_span.specs.Spans.{events_of, IsSpan, EventsFault}
use Rattle.sq_span.specs.Weights.{event_weight}
use Rattle.sq_span.specs.declared.spans.Span.{Span}
use Rattle.sq_span_text.specs.Text.{span_text}
use Rattle.sq_words.specs.Words.{machine, cost}
use Rattle.sq_driver.specs.Phases.{Inputs}
use Rattle.sq_driver.specs.Holding.{Holds}
use Rattle.sq_driver.specs.Sources.{IsMachineText}
use Rattle.sq_driver.specs.Capacity.{AreFormsOf}

-- the text gives these costs for the levels of a machine
abbrev pub AreCostsText : List Level → List ℕ → List Cost → Type 0
AreCostsText levels text costs = AreCostsOf text levels costs

-- the text gives no costs for these levels, or is too long, and has this fault before all others
abbrev pub IsFirstCostFault : List Level → List ℕ → Fault → Type 0
IsFirstCostFault levels text its = IsFirst (CostFault text levels) (Some its)

-- the costs' text has this fault before all others, for the machine that another file holds
pub record IsFirstOfCosts (inputs : Inputs) (its : Fault) : Type 0 where
  pub hierarchy : Hierarchy
  pub machine_is : Holds IsMachineText (inputs machine) hierarchy
  pub first : Holds (IsFirstCostFault hierarchy.levels) (inputs cost) its

-- the costs of the levels of the machine, and the plan that is good for the program
pub record Costed (inputs : Inputs) : Type 0 where
  pub forms : Resolved
  pub its : AreFormsOf inputs forms
  pub plan : Plan
  pub plan_is : IsPlanOf forms plan
  pub costs : List Cost
  pub costs_are : Holds (AreCostsText forms.machine.now.levels) (inputs cost) costs

-- the plan has too many events
pub record IsOfEvents (inputs : Inputs) (its : Fault) : Type 0 where
  pub costed : Costed inputs
  pub many : EventsFault costed.plan its

-- the phase cost has this fault before all others
abbrev pub IsFirstOfCost : Inputs → Fault → Type 0
IsFirstOfCost inputs its = IsFirstOfCosts inputs its ⊎ IsOfEvents inputs its

-- the text of a chain of the plan's events, none of which weighs more, with what it weighs
pub record GivesSpan (inputs : Inputs) (out : List ℕ) : Type 0 where
  pub costed : Costed inputs
  pub span : Span
  pub is : IsSpan costed.plan costed.costs span
  pub heaviest : IsHeaviest (event_weight costed.plan.nodes costed.costs) (tree_of costed.plan) (events_of span.chain)
      span.total
  pub text : out ≡ span_text costed.plan span
