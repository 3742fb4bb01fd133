-- The faults of a plan file whose lines are sound: of its events, and of its buffers.
use Rattle.std.specs.Prelude.{◌≡◌, ℕ, List, [], ◌∷◌, map, Option, Some, None}
use Rattle.sq_text.specs.declared.code.Code.{Code}
use Rattle.sq_text.specs.declared.code.Code.TheVariants as code
use Rattle.sq_text.specs.declared.code.Phase.TheVariants.{Plan as PlanPhase}
use Rattle.sq_text.specs.declared.fault.Arg.TheVariants.{Number}
use Rattle.sq_text.specs.declared.fault.Fault.{Fault}
use Rattle.sq_text.specs.declared.fault.Stop.{Stop}
use Rattle.sq_text.specs.declared.fault.Stop.TheVariants.{Refused, NoMemory}
use Rattle.sq_rooms.specs.declared.lack.Lack.{Lack}
use Rattle.sq_ir.specs.DraftLeaves.{leaves_of}
use Rattle.sq_ir.specs.declared.plan.Plan.{Plan}
use Rattle.sq_check_laws.specs.First.{IsFirstFlaw}
use Rattle.sq_check_laws.specs.declared.flaw.Flaw.{Flaw}
use Rattle.sq_check_laws.specs.declared.flaw.Flaw.TheVariants.{TooManyEvents, Clash, NoRoom}

-- a fault without a place, with these numbers
abbrev pub numbered : Code → List ℕ → Fault
numbered c ns = record { phase = PlanPhase; code = c; place = None; args = map (λ n. Number n) ns }

-- two events have their numbers; two buffers have theirs, behind the node's
abbrev pub flaw_fault : Flaw → Fault
flaw_fault TooManyEvents = numbered code.LimitEvents []
flaw_fault (Clash earlier later) = numbered code.Clash (earlier ∷ later ∷ [])
flaw_fault (NoRoom node earlier later) = numbered code.Space (node ∷ earlier ∷ later ∷ [])

-- this is the first flaw of the plan
pub record FlawFault (p : Plan) (its : Fault) : Type 0 where
  pub flaw : Flaw
  pub first : IsFirstFlaw (leaves_of p.draft) p (Some flaw)
  pub is : its ≡ flaw_fault flaw

-- buffers that lack room as a flaw
abbrev pub flaw_of : Option Lack → Option Flaw
flaw_of None = None
flaw_of (Some l) = Some (NoRoom l.node l.earlier l.later)

-- refused for this flaw, or memory ran out
abbrev pub IsRefusedFor : Flaw → Stop → Type 0
IsRefusedFor flaw (Refused its) = its ≡ flaw_fault flaw
IsRefusedFor flaw NoMemory = Unit {0}
