-- What flags pick from a list.
use Rattle.std.specs.Prelude.{Bool, if◌then◌else◌, List, [], ◌∷◌}

-- those beside which a flag is true, in order
abbrev pub flagged : {A : Type 0} → List Bool → List A → List A
flagged [] xs = []
flagged (flag ∷ flags) [] = []
flagged (flag ∷ flags) (x ∷ xs) = if flag then x ∷ flagged flags xs else flagged flags xs
