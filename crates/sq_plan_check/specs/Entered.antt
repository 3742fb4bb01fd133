-- The events of a whole plan.
use Rattle.std.specs.Prelude.{◌≡◌, Option, Some, None, List}
use Rattle.sq_ir.specs.declared.plan.Plan.{Plan}
use Rattle.sq_check_laws.specs.Whole.{whole_of}
use Rattle.sq_check_laws.specs.Flaws.{HasTooMany}
use Rattle.sq_check_laws.specs.First.{AreFew}
use Rattle.sq_check_laws.specs.Orders.{items}
use Rattle.sq_plan_check.specs.Walked.{seen_entries}
use Rattle.sq_plan_check.specs.declared.entry.Entry.{Entry}

-- the events of the plan in both orders, or none where they are too many
abbrev pub AreOfPlan : Plan → Option (List Entry) → Type 0
AreOfPlan p None = HasTooMany (whole_of p)
AreOfPlan p (Some es) = AreFew p × (seen_entries es ≡ items (whole_of p))
