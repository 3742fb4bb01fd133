-- How a run of a plan on a bank ends, in words of the program.
use Rattle.std.specs.Prelude.{◌≡◌, List, Result, Ok, Err}
use Rattle.sq_leaf.specs.declared.shape.Shape.{Shape}
use Rattle.sq_spec.specs.Work.Meaning.{Outcome}
use Rattle.sq_flat.specs.Held.{Stored}
use Rattle.sq_flat.specs.Ends.{HoldsEnd}
use Rattle.sq_ir.specs.declared.plan.Plan.{Plan}
use Rattle.sq_tree.specs.declared.runs.RunEnd.{RunEnd}
use Rattle.sq_tree.specs.declared.runs.RunEnd.TheVariants.{Trapped, SinkFault}
use Rattle.sq_tree.specs.Bank.{BankSeen, bytes_at}
use Rattle.sq_root.specs.Places.{parts}
use Rattle.sq_meant.specs.Places.{places_of}

-- the entry's arrays, as they stand in a bank's root
abbrev pub stored_in : Plan → List Shape → BankSeen → Stored
stored_in p shapes seen = record { shapes = shapes; bytes = parts (places_of p shapes) (bytes_at seen.nodes 0) }

-- A run that is done has left arrays that hold what is meant; one that trapped has the trap that is meant. A run whose
-- trace failed tells nothing.
abbrev pub EndsOnBank : List Shape → Stored → Result (Unit {0}) RunEnd → Outcome → Type 0
EndsOnBank shapes stored (Ok x) (Ok after) = HoldsEnd shapes stored (Ok after)
EndsOnBank shapes stored (Ok x) (Err y) = ⊥
EndsOnBank shapes stored (Err (Trapped trap path)) (Ok after) = ⊥
EndsOnBank shapes stored (Err (Trapped trap path)) (Err y) = (trap ≡ y.trap) × (path ≡ y.path)
EndsOnBank shapes stored (Err SinkFault) outcome = Unit {0}
