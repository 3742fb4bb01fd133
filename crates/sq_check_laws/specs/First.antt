-- Which flaw of a plan is the first.
use Rattle.std.specs.Prelude.{ℕ, Option, Some, None}
use Rattle.sq_ir.specs.Events.{Leaves}
use Rattle.sq_ir.specs.Plans.{setting_of}
use Rattle.sq_ir.specs.declared.plan.Plan.{Plan}
use Rattle.sq_check_laws.specs.Whole.{whole_of}
use Rattle.sq_check_laws.specs.Flaws.{HasTooMany, Clashes, IsFirstClash, LackRoom, IsFirstLack}
use Rattle.sq_check_laws.specs.declared.flaw.Flaw.{Flaw}
use Rattle.sq_check_laws.specs.declared.flaw.Flaw.TheVariants.{TooManyEvents, Clash, NoRoom}

abbrev pub AreFew : Plan → Type 0
AreFew p = ¬ HasTooMany (whole_of p)

abbrev pub NoneClash : {C : Type 0} → Leaves C → Plan → Type 0
NoneClash leaves p = (i j : ℕ) → ¬ Clashes leaves (whole_of p) i j

abbrev pub AllHaveRoom : Plan → Type 0
AllHaveRoom p = (node b c : ℕ) → ¬ LackRoom (setting_of p) (whole_of p) node b c

-- Too many events come before two that clash, and these before buffers without room.
abbrev pub IsFirstFlaw : {C : Type 0} → Leaves C → Plan → Option Flaw → Type 0
IsFirstFlaw leaves p None = AreFew p × NoneClash leaves p × AllHaveRoom p
IsFirstFlaw leaves p (Some TooManyEvents) = HasTooMany (whole_of p)
IsFirstFlaw leaves p (Some (Clash earlier later)) = AreFew p × IsFirstClash leaves (whole_of p) earlier later
IsFirstFlaw leaves p (Some (NoRoom node earlier later)) = AreFew p × NoneClash leaves p × IsFirstLack (setting_of p) (whole_of p) node earlier later
