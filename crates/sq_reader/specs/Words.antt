-- Keywords by their spelling.
use Rattle.std.specs.Prelude.{ℕ, if◌then◌else◌, List, [], ◌∷◌, Option, Some, None}
use Rattle.std.specs.Str.{bytes_eq}
use Rattle.sq_ast.specs.declared.keyword.Keyword.{Keyword}

unfoldable pub look_up : List ℕ → List (List ℕ × Keyword) → Option Keyword
look_up word [] = None
look_up word (k ∷ ks) = if bytes_eq word k.0 then Some k.1 else look_up word ks
