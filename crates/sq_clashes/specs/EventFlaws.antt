-- Which flaw of a plan's events is the first.
use Rattle.std.specs.Prelude.{◌<◌, Option, Some, None}
use Rattle.sq_ir.specs.Events.{Leaves}
use Rattle.sq_ir.specs.declared.plan.Plan.{Plan}
use Rattle.sq_check_laws.specs.Whole.{whole_of}
use Rattle.sq_check_laws.specs.Flaws.{HasTooMany, IsFirstClash}
use Rattle.sq_check_laws.specs.First.{AreFew, NoneClash}
use Rattle.sq_check_laws.specs.declared.flaw.Flaw.{Flaw}
use Rattle.sq_check_laws.specs.declared.flaw.Flaw.TheVariants.{TooManyEvents, Clash, NoRoom}
use Rattle.sq_plan_check.specs.declared.pairs.Pair.{Pair}

-- Too many events come before two that clash. What room buffers have isn't asked.
abbrev pub IsFirstEventFlaw : {C : Type 0} → Leaves C → Plan → Option Flaw → Type 0
IsFirstEventFlaw leaves p None = AreFew p × NoneClash leaves p
IsFirstEventFlaw leaves p (Some TooManyEvents) = HasTooMany (whole_of p)
IsFirstEventFlaw leaves p (Some (Clash earlier later)) = AreFew p × IsFirstClash leaves (whole_of p) earlier later
IsFirstEventFlaw leaves p (Some (NoRoom node earlier later)) = ⊥

-- both numbers are below that of the events that a plan may have
abbrev pub AreSmall : Option Pair → Type 0
AreSmall None = Unit {0}
AreSmall (Some p) = (p.earlier < 65536) × (p.later < 65536)

abbrev pub flaw_of : Option Pair → Option Flaw
flaw_of None = None
flaw_of (Some p) = Some (Clash p.earlier p.later)
