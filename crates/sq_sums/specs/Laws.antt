-- What saves the walk over each iteration, and what sums over events ask of a plan.
use Rattle.std.specs.Prelude.{◌≡◌, ℕ, true, List}
use Rattle.sq_ir.specs.Events.{Leaves}
use Rattle.sq_ir.specs.Plans.{IsWellFormed}
use Rattle.sq_ir.specs.declared.term.Term.{Term}
use Rattle.sq_ir.specs.declared.plan.Plan.{Plan}
use Rattle.sq_ir.specs.declared.plan.PlanNode.{PlanNode}
use Rattle.sq_sums.specs.Tops.{tops}
use Rattle.sq_sums.specs.Regions.{names_no_loop_outside}
use Rattle.sq_sums.specs.Tolls.{IsTolled}

-- Where a part's counts, picks and children name no loop outside it, its scopes are the same under any iterations.
abbrev pub ClosedPartsStandAlone : Type 0
ClosedPartsStandAlone = (nodes : List PlanNode) (weigh : List ℕ → ℕ) (x : Term) (ts us : List ℕ) (node held : ℕ)
    → names_no_loop_outside x ≡ true
    → tops nodes weigh x (record { turns = ts; node = node; held = held })
    ≡ tops nodes weigh x (record { turns = us; node = node; held = held })

-- Of a well formed plan the sums over its events are told.
abbrev pub WellFormedIsTolled : (C : Type 0) → Type 0
WellFormedIsTolled C = (leaves : Leaves C) (p : Plan) → IsWellFormed leaves p → IsTolled p
