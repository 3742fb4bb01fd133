-- What is true of places, and of banks of which only places have changed.
use Rattle.std.specs.Prelude.{◌≡◌, ℕ, Bool, not, List, length, map}
use Rattle.std.specs.List.{All}
use Rattle.sq_ir.specs.declared.plan.Plan.{Plan}
use Rattle.sq_tree.specs.Bank.{BankSeen, IsPrepared, bytes_at, size_in}
use Rattle.sq_root.specs.declared.place.Place.{Place}
use Rattle.sq_root.specs.Flagged.{flagged}
use Rattle.sq_root.specs.Places.{part, parts, IsWithin, IsClear, Fits, KeepsOutside}

-- An array stays as it was if its place shares no byte with those that were read into.
abbrev pub ClearPartsStay : Type 0
ClearPartsStay =
    (reads : List Place) (old now : BankSeen) (q : Place) → KeepsOutside reads old now
    → All (IsClear q) reads → IsWithin (size_in old.nodes 0) q
    → part q (bytes_at now.nodes 0) ≡ part q (bytes_at old.nodes 0)

-- Reading changes the size of no node.
abbrev pub SizesStay : Type 0
SizesStay =
    (places : List Place) (old now : BankSeen) → KeepsOutside places old now
    → (n : ℕ) → size_in now.nodes n ≡ size_in old.nodes n

-- A bank that is open with a plan stays so.
abbrev pub PreparedStays : Type 0
PreparedStays =
    (p : Plan) (places : List Place) (old now : BankSeen) → IsPrepared p old
    → KeepsOutside places old now → IsPrepared p now

-- ---- places that are picked

-- The arrays that are picked are those of the places that are picked.
abbrev pub FlaggedParts : Type 0
FlaggedParts =
    (flags : List Bool) (places : List Place) (root : List ℕ)
    → flagged flags (parts places root) ≡ parts (flagged flags places) root

-- They fit where all do.
abbrev pub FlaggedFit : Type 0
FlaggedFit =
    (flags : List Bool) (places : List Place) (n : ℕ) → Fits places n → Fits (flagged flags places) n

-- The others share no byte with them.
abbrev pub OthersAreClear : Type 0
OthersAreClear =
    (flags : List Bool) (places : List Place) (n : ℕ) → Fits places n
    → All (λ q. All (IsClear q) (flagged flags places)) (flagged (map not flags) places)
