-- What a program's plan does on a bank.
use Rattle.std.specs.Prelude.{◌≡◌, ℕ, List, Result, length, map}
use Rattle.sq_leaf.specs.Source.{Arrays}
use Rattle.sq_spec.specs.declared.resolved.Resolved.{Resolved}
use Rattle.sq_spec.specs.Works.{flat}
use Rattle.sq_flat.specs.Held.{Holds}
use Rattle.sq_ir.specs.Plans.{node_at}
use Rattle.sq_ir.specs.declared.plan.Plan.{Plan}
use Rattle.sq_tree.specs.declared.runs.RunEnd.{RunEnd}
use Rattle.sq_tree.specs.Bank.{BankSeen, bytes_at, bytes_in, size_in, IsPrepared}
use Rattle.sq_tree.specs.Runs.{TellsFirst}
use Rattle.sq_root.specs.Places.{parts, Fits}
use Rattle.sq_plan_good.specs.Good.{IsInput}
use Rattle.sq_plan_good.specs.Planned.{IsPlacedFor, IsGoodPlan}
use Rattle.sq_meant.specs.Places.{shapes_of, places_of}
use Rattle.sq_meant.specs.Ends.{stored_in, EndsOnBank}

-- ---- places

-- each of the entry's arrays has a place in the root, and no two share a byte
pub record HasPlaces (r : Resolved) (p : Plan) : Type 0 where
  pub buffers : length p.draft.entry ≡ length (shapes_of r)
  pub many : length (places_of p (shapes_of r)) ≡ length (shapes_of r)
  pub fit : Fits (places_of p (shapes_of r)) (node_at p.nodes 0).capacity

-- The plan of a program has places for its arrays.
abbrev pub PlacesFit : Type 0
PlacesFit = (r : Resolved) (p : Plan) → IsPlacedFor r p → HasPlaces r p

-- So has the root of each bank that is open with it.
abbrev pub BanksHavePlaces : Type 0
BanksHavePlaces =
    (r : Resolved) (p : Plan) (seen : BankSeen) → IsPlacedFor r p → IsPrepared p seen
    → Fits (places_of p (shapes_of r)) (size_in seen.nodes 0)

-- ---- runs

-- Arrays that the root holds at these places are what a run begins with.
abbrev pub InputsAreHeld : Type 0
InputsAreHeld =
    (r : Resolved) (p : Plan) (a : Arrays) (nodes : List (List ℕ)) → length p.draft.entry ≡ length (shapes_of r)
    → Fits (places_of p (shapes_of r)) (length (bytes_at nodes 0))
    → Holds (shapes_of r) (parts (places_of p (shapes_of r)) (bytes_at nodes 0)) a
    → IsInput r p a (bytes_in nodes)

-- A run of a good plan ends as the program means on the arrays that it began with.
abbrev pub RunsEndAsMeant : Type 0
RunsEndAsMeant =
    (r : Resolved) (p : Plan) → IsGoodPlan r p
    → (a : Arrays) (old now : BankSeen) → IsPrepared p old → map length now.nodes ≡ map length old.nodes
    → IsInput r p a (bytes_in old.nodes)
    → (result : Result (Unit {0}) RunEnd) → TellsFirst p (bytes_in old.nodes) (bytes_in now.nodes) result
    → EndsOnBank (shapes_of r) (stored_in p (shapes_of r) now) result (flat r.typed.now r.mapping.now a)
