-- What the phases of `tune`, `span`, `compile` and `exec` beside the shared ones leave behind.
use Rattle.std.specs.Prelude.{◌≡◌, ℕ, List, false, Option, Some, None, Result, Ok, Err}
use Rattle.sq_port.specs.Ports.{Content}
use Rattle.sq_text.specs.declared.code.Phase.TheVariants as phase
use Rattle.sq_text.specs.declared.fault.Fault.{Fault}
use Rattle.sq_ast.specs.declared.program.Program.{Program as Tree}
use Rattle.sq_machfile.specs.declared.level.Level.{Level}
use Rattle.sq_mapfile.specs.declared.choices.Choices.{Choices}
use Rattle.sq_costs.specs.declared.cost.Cost.{Cost}
use Rattle.sq_ir.specs.Plans.{tree_of}
use Rattle.sq_ir.specs.declared.plan.Plan.{Plan}
use Rattle.sq_span.specs.Chains.{IsHeaviest}
use Rattle.sq_span.specs.Spans.{events_of, IsSpan, EventsFault}
use Rattle.sq_span.specs.Weights.{event_weight}
use Rattle.sq_span.specs.declared.spans.Span.{Span}
use Rattle.sq_span_text.specs.Text.{span_text}
use Rattle.sq_plantext.specs.Layout.{laid_out}
use Rattle.sq_planfile.specs.File.{PlanFile}
use Rattle.sq_planfile.specs.Limits.{TextFault}
use Rattle.sq_planfile.specs.Written.{written}
use Rattle.sq_text.specs.Faults.{IsFirst}
use Rattle.sq_planfile.specs.Faults.{Means}
use Rattle.sq_driver.specs.Executing.{IsFirstFileFault}
use Rattle.sq_driver.specs.declared.outside.end.End.{End}
use Rattle.sq_driver.specs.declared.outside.end.End.TheVariants.{Refused, NoMemory}
use Rattle.sq_driver.specs.Holding.{Holds}
use Rattle.sq_driver.specs.Choosing.{AreChoicesText, IsFirstChoicesFault}
use Rattle.sq_driver.specs.Costing.{AreCostsText, IsFirstCostFault}
use Rattle.sq_driver.specs.Steps.{ReadsRight, Stops, WroteOut}

-- ---- choices

-- the text stands for the choices, and has no fault
pub record HoldsChoices (tree : Tree) (levels : List Level) (given : Option (List ℕ)) (choices : Choices) : Type 0
  where
    pub are : Holds (AreChoicesText tree levels) given choices
    pub no_fault : (its : Fault) → Holds (IsFirstChoicesFault tree levels) given its → ⊥

-- the choices that a file holds, and else how the phase ends
abbrev pub ReadsChoices : Tree → List Level → Option Content → List ℕ → Result Choices End → Type 0
ReadsChoices tree levels told name (Ok choices) = (c : Content) → told ≡ Some c
    → HoldsChoices tree levels (c name) choices
ReadsChoices tree levels told name (Err end) = Stops false phase.Mapping told (Some name)
    (λ c its. Holds (IsFirstChoicesFault tree levels) (c name) its) end

-- ---- costs

-- the costs that a file holds, and else how the phase ends
abbrev pub ReadsCosts : List Level → Option Content → List ℕ → Result (List Cost) End → Type 0
ReadsCosts levels = ReadsRight (AreCostsText levels) (IsFirstCostFault levels) phase.Cost

-- a chain of the plan's events, none of which weighs more, was written, and the plan hasn't too many events
pub record WroteChain (plan : Plan) (costs : List Cost) (out now_out : Option (List ℕ)) (faults now_faults : ℕ)
    (result : Result (Unit {0}) End) : Type 0 where
  pub few : (its : Fault) → EventsFault plan its → ⊥
  pub span : Span
  pub is : IsSpan plan costs span
  pub heaviest : IsHeaviest (event_weight plan.nodes costs) (tree_of plan) (events_of span.chain) span.total
  pub wrote : WroteOut out now_out faults now_faults (span_text plan span) result

-- or it has too many, or memory ran out
abbrev pub SpansTo : Plan → List Cost → Option (List ℕ) → Option (List ℕ) → ℕ → ℕ → Result (Unit {0}) End → Type 0
SpansTo plan costs out now_out faults now_faults (Err (Refused its)) = EventsFault plan its × (now_out ≡ out)
    × (now_faults ≡ faults)
SpansTo plan costs out now_out faults now_faults (Err NoMemory) = (now_out ≡ out) × (now_faults ≡ faults)
SpansTo plan costs out now_out faults now_faults result = WroteChain plan costs out now_out faults now_faults result

-- ---- plan files

-- the plan file that a text stands for, and else how the phase ends
abbrev pub ReadsFile : Option Content → List ℕ → Result PlanFile End → Type 0
ReadsFile = ReadsRight Means IsFirstFileFault phase.Plan

-- the text was written, and the file isn't too large
pub record WroteFile (file : PlanFile) (out now_out : Option (List ℕ)) (faults now_faults : ℕ)
    (result : Result (Unit {0}) End) : Type 0 where
  pub fits : IsFirst (TextFault file) None
  pub wrote : WroteOut out now_out faults now_faults (laid_out (written file)) result

-- or it is, or memory ran out
abbrev pub FilesTo : PlanFile → Option (List ℕ) → Option (List ℕ) → ℕ → ℕ → Result (Unit {0}) End → Type 0
FilesTo file out now_out faults now_faults (Err (Refused its)) = IsFirst (TextFault file) (Some its)
    × (now_out ≡ out) × (now_faults ≡ faults)
FilesTo file out now_out faults now_faults (Err NoMemory) = (now_out ≡ out) × (now_faults ≡ faults)
FilesTo file out now_out faults now_faults result = WroteFile file out now_out faults now_faults result
