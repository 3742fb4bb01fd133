-- What holds of plans without flaws.
use Rattle.std.specs.Prelude.{◌≡◌, Option}
use Rattle.sq_ir.specs.Unordered.{IsFresh}
use Rattle.sq_ir.specs.Events.{Event, Leaves, AreIndependent}
use Rattle.sq_ir.specs.Plans.{tree_of, IsWellFormed, IsGood}
use Rattle.sq_ir.specs.declared.plan.Plan.{Plan}
use Rattle.sq_check_laws.specs.Whole.{whole_of, trimmed}
use Rattle.sq_check_laws.specs.First.{NoneClash, AllHaveRoom, IsFirstFlaw}
use Rattle.sq_check_laws.specs.Touches.{are_independent}
use Rattle.sq_check_laws.specs.declared.flaw.Flaw.{Flaw}
use Rattle.std.specs.Prelude.{true}

-- A plan's tree is its whole tree without the empty parts, and none of its events has trapped.
abbrev pub TreesAreTrimmed : Type 0
TreesAreTrimmed = (p : Plan) → trimmed (whole_of p) ≡ tree_of p

abbrev pub TreesAreFresh : Type 0
TreesAreFresh = (p : Plan) → IsFresh (whole_of p)

-- A well formed plan in which no events clash and all buffers have room is good.
abbrev pub FlawlessAreGood : (C : Type 0) → Type 0
FlawlessAreGood C = (leaves : Leaves C) (p : Plan) → IsWellFormed leaves p → NoneClash leaves p → AllHaveRoom p → IsGood leaves p

-- A plan has one first flaw, or none.
abbrev pub FirstFlawsAreOne : (C : Type 0) → Type 0
FirstFlawsAreOne C = (leaves : Leaves C) (p : Plan) (x y : Option Flaw) → IsFirstFlaw leaves p x → IsFirstFlaw leaves p y → x ≡ y

-- Events are independent exactly where they get along at each byte and no two leaf calls have one path.
abbrev pub IndependentByTouches : (C : Type 0) → Type 0
IndependentByTouches C =
    (leaves : Leaves C) (e f : Event) → (are_independent leaves e f ≡ true → AreIndependent leaves e f) × (AreIndependent leaves e f → are_independent leaves e f ≡ true)
