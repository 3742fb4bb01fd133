-- The least of numbers, where one is known before them.
use Rattle.std.proofs.Common.{ℕ, min, List, Option, Some, None}
use Rattle.std.specs.List.{fold}
use Rattle.sq_machfile.specs.Machines.{least}

abbrev pub least_with : Option ℕ → List ℕ → ℕ
least_with None ns = least ns
least_with (Some n) ns = fold min n ns
