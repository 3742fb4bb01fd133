-- Scopes of a plan file's term.
use Rattle.std.specs.Prelude.{ℕ, ◌+◌, ◌-◌, ◌==◌, Bool, true, ◌&&◌, ◌||◌, nat_le, nat_lt, if◌then◌else◌, List, [], ◌∷◌, ◌++◌, length}
use Rattle.sq_ir.specs.Plans.{node_at}
use Rattle.sq_plantext.specs.declared.text.PlanText.{PlanText}
use Rattle.sq_planfile.specs.Files.{nodes_of}
use Rattle.sq_planevents.specs.Lines.{is_at}
use Rattle.sq_planevents.specs.Standing.{node_here}

abbrev pub is_child : PlanText → (here node : ℕ) → Bool
is_child x here node =
    nat_le (node_at (nodes_of x) here).first_child node && nat_lt (node - (node_at (nodes_of x) here).first_child) (node_at (nodes_of x) here).children

-- the level of a scope's node
abbrev pub level_within : (nodes : List ℕ) → (node : ℕ) → ℕ
level_within nodes node = if node == node_here nodes then length nodes else length nodes + 1

abbrev pub are_at : PlanText → (level : ℕ) → List ℕ → Bool
are_at x level [] = true
are_at x level (b ∷ bs) = is_at x level b && are_at x level bs

abbrev pub is_scope : PlanText → (nodes : List ℕ) → (node : ℕ) → (buffers : List ℕ) → Bool
is_scope x nodes node buffers =
    (node == node_here nodes || is_child x (node_here nodes) node) && are_at x (level_within nodes node) buffers

abbrev pub first_or : (first node : ℕ) → ℕ
first_or first node = if nat_lt node first then first else node

-- the nodes in force within a scope at this node
abbrev pub inside_nodes : PlanText → (nodes : List ℕ) → (node : ℕ) → List ℕ
inside_nodes x nodes node =
    if node == node_here nodes then nodes else nodes ++ first_or (node_at (nodes_of x) (node_here nodes)).first_child node ∷ []
