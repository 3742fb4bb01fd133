-- Lists of names, the last one first.
use Rattle.std.specs.Prelude.{List, [], ◌∷◌, ◌++◌}
use Rattle.sq_rooms.specs.declared.named.Named.{Named}

abbrev pub joined : List (List Named) → List Named
joined [] = []
joined (l ∷ ls) = joined ls ++ l
