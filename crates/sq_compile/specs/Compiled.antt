-- What compiling answers.
use Rattle.std.specs.Prelude.{◌≡◌}
use Rattle.sq_ir.specs.declared.plan.Plan.{Plan}
use Rattle.sq_spec.specs.declared.resolved.Resolved.{Resolved}
use Rattle.sq_plan_good.specs.Good.{StandsByForms}
use Rattle.sq_plan_good.specs.Planned.{IsPlacedFor, IsGoodPlan}
use Rattle.sq_pass_laws.specs.Pipe.Greedy.{overlapped}
use Rattle.sq_store.specs.declared.fitting.StoreFault.{StoreFault}
use Rattle.sq_store.specs.declared.fitting.StoreFault.TheVariants.{Capacity, NoMemory}
use Rattle.sq_compile.specs.Capacity.{IsFirstLack}

-- the plan of the program: placed in its machine's memories, each buffer behind those of the forms round its own, and
-- good for it
pub record IsPlanOf (r : Resolved) (p : Plan) : Type 0 where
  pub placed : IsPlacedFor r p
  pub stands : StandsByForms r (overlapped r) p
  pub good : IsGoodPlan r p

-- the node that is told needs more for the program than it has
abbrev pub IsRefusedFor : Resolved → StoreFault → Type 0
IsRefusedFor r (Capacity node need capacity) = IsFirstLack r node need capacity
IsRefusedFor r NoMemory = Unit {0}

-- ---- what follows

-- only the program, the mapping, the machine and the forms matter, and of them the plan is one
abbrev pub PlansAreOne : Type 0
PlansAreOne = (r s : Resolved) → r.typed.now ≡ s.typed.now → r.mapping.now ≡ s.mapping.now
    → r.machine.now ≡ s.machine.now → r.forms ≡ s.forms → r.found.entries ≡ s.found.entries
    → (p q : Plan) → IsPlanOf r p → IsPlanOf s q → p ≡ q
