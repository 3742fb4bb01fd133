-- What one event does to a plan, and one event more at the end of a run.
use Rattle.std.specs.Prelude.{◌≡◌, ℕ, ◌+◌, ◌%◌, ◌<◌, Bool, true, false, Some, None, List, [], ◌∷◌, ◌++◌}
use Rattle.std.specs.List.Sorted.{IsPermutation}
use Rattle.sq_ir.specs.Tree.{Tree, Skip, Act, Stuck, Seq, Par, Within, ready, event_at, rest_at, waiting, waiting_events, IsNormal}
use Rattle.sq_ir.specs.Unordered.{IsFresh}
use Rattle.sq_ir.specs.Runs.{Meaning, State}
use Rattle.sq_ir.specs.Footprints.{Footprint, CanPerform, CanRun}
use Rattle.sq_ir.specs.Ready.{place_at}
use Rattle.sq_ir.specs.Closed.{without}
use Rattle.sq_ir.specs.Orders.{IsWhole}

-- ---- one event

-- this place and no other
abbrev pub is_place : (this place : List Bool) → Bool
is_place [] [] = true
is_place (false ∷ p) (false ∷ q) = is_place p q
is_place (true ∷ p) (true ∷ q) = is_place p q
is_place p q = false

-- a tree whose event at a place has trapped
abbrev pub stuck_at : {E S : Type 0} → Tree E S → (place : List Bool) → Tree E S
stuck_at Skip p = Skip
stuck_at (Act e) p = Stuck e
stuck_at (Stuck e) p = Stuck e
stuck_at (Seq a b) [] = Seq a b
stuck_at (Seq a b) (false ∷ p) = Seq (stuck_at a p) b
stuck_at (Seq a b) (true ∷ p) = Seq a (stuck_at b p)
stuck_at (Par a b) [] = Par a b
stuck_at (Par a b) (false ∷ p) = Par (stuck_at a p) b
stuck_at (Par a b) (true ∷ p) = Par a (stuck_at b p)
stuck_at (Within s a) p = Within s (stuck_at a p)

-- After a ready event is finished, all is left but this event.
abbrev pub FinishOne : (E S : Type 0) → Type 0
FinishOne E S =
    (t : Tree E S) → IsNormal t → (k : ℕ) → k < ready t → rest_at t k false ≡ without t (is_place (place_at t k))

-- After a ready event has trapped, all is left, and this event is stuck.
abbrev pub TrapOne : (E S : Type 0) → Type 0
TrapOne E S = (t : Tree E S) → IsNormal t → (k : ℕ) → k < ready t → rest_at t k true ≡ stuck_at t (place_at t k)

-- After an event one less waits.
abbrev pub WaitLess : (E S : Type 0) → Type 0
WaitLess E S =
    (t : Tree E S) (k : ℕ) (trapped : Bool) (e : E) → event_at t k ≡ Some e
    → waiting (rest_at t k trapped) + 1 ≡ waiting t

-- ---- runs

-- A run may go on by a ready event of its last state.
abbrev pub GrowAtTheEnd : (E S A C : Type 0) → Type 0
GrowAtTheEnd E S A C =
    (w : Meaning E (A → ℕ) C) (f : Footprint E A) (s t u : State E S (A → ℕ) C)
    → (picks : List ℕ) (events : List E) (pick : ℕ) (e : E)
    → CanRun w f s picks events t → CanPerform w f t (pick % ready t.rest) e u
    → CanRun w f s (picks ++ pick ∷ []) (events ++ e ∷ []) u

-- A run that is over without a trap has performed all events of the plan, each once, and nothing is left.
abbrev pub PerformAll : (E S A C : Type 0) → Type 0
PerformAll E S A C =
    (w : Meaning E (A → ℕ) C) (f : Footprint E A) (plan : Tree E S) (m : A → ℕ) → IsNormal plan → IsFresh plan
    → (picks : List ℕ) (events : List E) (last : State E S (A → ℕ) C) → IsWhole w f plan m picks events last
    → last.ended ≡ None → (last.rest ≡ Skip) × IsPermutation events (waiting_events plan)
