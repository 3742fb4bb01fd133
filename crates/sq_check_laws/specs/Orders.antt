-- The events of a plan in two orders: from left to right, and with the parts of each `Par` from right to left. Two events
-- are unordered exactly where the one order has them the other way round than the other.
use Rattle.std.specs.Prelude.{◌≡◌, ℕ, ◌+◌, ◌<◌, Bool, true, false, Some, List, [], ◌∷◌, ◌++◌, map, slice_get}
use Rattle.sq_ir.specs.Tree.{Tree, Skip, Act, Stuck, Seq, Par, Within, waiting}
use Rattle.sq_ir.specs.Unordered.{event_in, IsUnordered, IsFresh}
use Rattle.sq_ir.specs.Events.{Event, Leaves, AreIndependent}
use Rattle.sq_ir.specs.Written.{PlanTree}
use Rattle.sq_check_laws.specs.Flaws.{number_at, Clashes}

-- the number of the event at a place in the second order
-- in `Seq (Par (Act a) (Act b)) (Act c)` a has 1, b has 0, and c has 2
abbrev pub second_at : {E S : Type 0} → Tree E S → (place : List Bool) → ℕ
second_at (Seq a b) (false ∷ p) = second_at a p
second_at (Seq a b) (true ∷ p) = waiting a + second_at b p
second_at (Par a b) (false ∷ p) = waiting b + second_at a p
second_at (Par a b) (true ∷ p) = second_at b p
second_at (Within s a) p = second_at a p
second_at t p = 0

-- an event with its number in the second order
pub record Item (E : Type 0) : Type 0 where
  pub event : E
  pub second : ℕ

abbrev pub behind : {E : Type 0} → ℕ → Item E → Item E
behind n x = record { event = x.event; second = n + x.second }

-- the events from left to right
abbrev pub items : {E S : Type 0} → Tree E S → List (Item E)
items Skip = []
items (Act e) = record { event = e; second = 0 } ∷ []
items (Stuck e) = []
items (Seq a b) = items a ++ map (behind (waiting a)) (items b)
items (Par a b) = map (behind (waiting b)) (items a) ++ items b
items (Within s a) = items a

-- Unordered events are inverted, and inverted events are unordered.
abbrev pub UnorderedAreInverted : (E S : Type 0) → Type 0
UnorderedAreInverted E S =
    (t : Tree E S) → IsFresh t → (p q : List Bool) (e f : E) → event_in t p ≡ Some e → event_in t q ≡ Some f
    → number_at t p < number_at t q
    → (IsUnordered t p q → second_at t q < second_at t p) × (second_at t q < second_at t p → IsUnordered t p q)

-- two events of a list clash
pub record ClashIn {C : Type 0} (leaves : Leaves C) (xs : List (Item Event)) (earlier later : ℕ) : Type 0 where
  pub x : Item Event
  pub y : Item Event
  pub x_is : slice_get xs earlier ≡ Some x
  pub y_is : slice_get xs later ≡ Some y
  pub before : earlier < later
  pub inverted : y.second < x.second
  pub dependent : ¬ AreIndependent leaves x.event y.event

-- Events of a plan clash exactly where they do in its list.
abbrev pub ClashesAreListed : (C : Type 0) → Type 0
ClashesAreListed C =
    (leaves : Leaves C) (t : PlanTree) → IsFresh t → (i j : ℕ)
    → (Clashes leaves t i j → ClashIn leaves (items t) i j) × (ClashIn leaves (items t) i j → Clashes leaves t i j)
