-- Which limits a machine file may break: for each rule its code, place and argument, where it is broken.
use Rattle.std.specs.Prelude.{ℕ, ◌+◌, ◌-◌, ◌*◌, Bool, ◌||◌, ◌&&◌, ◌==◌, nat_lt, nat_le, List, [], ◌∷◌, ◌++◌, length, map, Option}
use Rattle.std.specs.List.{list_any}
use Rattle.sq_text.specs.declared.code.Phase.TheVariants as phase
use Rattle.sq_text.specs.declared.code.Code.TheVariants as code
use Rattle.sq_text.specs.declared.fault.Fault.{Fault}
use Rattle.sq_text.specs.declared.word.Word.{Word}
use Rattle.sq_text.specs.declared.word.Numeral.{Numeral}
use Rattle.sq_text.specs.Found.{Breach, at_word, at_numeral, BreaksIn}
use Rattle.sq_text.specs.Names.{Bytes, same_name}
use Rattle.sq_machfile.specs.declared.text.LevelText.{LevelText}
use Rattle.sq_machfile.specs.declared.text.Below.{Below}
use Rattle.sq_machfile.specs.declared.text.LevelsText.{LevelsText}
use Rattle.sq_machfile.specs.declared.text.NodesText.{NodesText}
use Rattle.sq_machfile.specs.declared.text.MachineText.{MachineText}
use Rattle.sq_machfile.specs.declared.text.MachineText.TheVariants.{Levels, Nodes}
use Rattle.sq_machfile.specs.declared.nested.Nested.{Nested}
use Rattle.sq_text.specs.Limits.{most_levels, most_nodes, most_children, most_capacity, most_bytes}
use Rattle.sq_machfile.specs.Nesting.{nested}
use Rattle.sq_machfile.specs.Nodes.{total}

-- the breach of a rule, where it is broken
abbrev pub Rule : Type 0
Rule = Option Breach

-- the rules of each, by those that stand before it
abbrev pub of_each : {X : Type 0} → (List X → X → List Rule) → List X → List X → List Rule
of_each rules before [] = []
of_each rules before (x ∷ later) = rules before x ++ of_each rules (before ++ x ∷ []) later

abbrev pub is_among : List Bytes → Bytes → Bool
is_among names name = list_any (same_name name) names

-- ---- limits

-- a sum passes a limit where it grows from within it to beyond it
abbrev pub passes : ℕ → ℕ → ℕ → Bool
passes limit before after = nat_le before limit && nat_lt limit after

abbrev pub is_bad_fan : ℕ → Bool
is_bad_fan children = nat_lt children 1 || nat_lt most_children children

-- a capacity, where the bytes of all memories grow by it
abbrev pub is_over_capacity : ℕ → ℕ → ℕ → Bool
is_over_capacity capacity before after = nat_lt most_capacity capacity || passes most_bytes before after

-- ---- either version

-- a level's name, where these are above it
abbrev pub level_name : List Bytes → Word → List Rule
level_name above word = at_word code.DupLevel word (is_among above word.name) ∷ at_word code.LimitLevels word (length above == most_levels) ∷ []

-- ---- version 1

-- the nodes of a machine with these levels below its root
abbrev pub nodes_to : List Below → ℕ
nodes_to [] = 1
nodes_to (b ∷ below) = 1 + b.children.value * nodes_to below

-- the bytes of a node of this level and of all nodes in it, where these are the levels below
abbrev pub bytes_to : LevelText → List Below → ℕ
bytes_to level [] = level.capacity.value
bytes_to level (b ∷ below) = level.capacity.value + b.children.value * bytes_to b.level below

abbrev pub names_to : LevelText → List Below → List Bytes
names_to root below = root.name.name ∷ map (λ b. b.level.name.name) below

abbrev pub root_rules : LevelText → List Rule
root_rules root = level_name [] root.name ++ at_numeral code.LimitCapacity root.capacity (is_over_capacity root.capacity.value 0 root.capacity.value) ∷ []

-- a number of children and their level, where these are between the root and them
abbrev pub below_rules : LevelText → List Below → Below → List Rule
below_rules root above b =
    at_numeral code.LimitFan b.children (is_bad_fan b.children.value)
    ∷ at_numeral code.LimitNodes b.children (passes most_nodes (nodes_to above) (nodes_to (above ++ b ∷ [])))
    ∷ level_name (names_to root above) b.level.name
    ++ at_numeral code.LimitCapacity b.level.capacity (is_over_capacity b.level.capacity.value (bytes_to root above) (bytes_to root (above ++ b ∷ [])))
    ∷ []

abbrev pub levels_rules : LevelsText → List Rule
levels_rules text = root_rules text.root ++ of_each (below_rules text.root) [] text.below

-- ---- version 2

-- the number of a node's children, at its name
abbrev pub fan_of : Nested → Numeral
fan_of node = record { place = node.name.place; value = node.children }

-- the bytes of these nodes' memories
abbrev pub bytes_in : List Nested → ℕ
bytes_in = total (λ n. n.capacity.value)

-- a node, where there are so many levels and these nodes stand before it in the text
abbrev pub node_rules : ℕ → List Nested → Nested → List Rule
node_rules levels before node =
    at_word code.DupNode node.name (is_among (map (λ n. n.name.name) before) node.name.name)
    ∷ at_word code.NodeDepth node.name (nat_le levels node.depth)
    ∷ at_word code.LimitNodes node.name (length before == most_nodes)
    -- at the last level the children are too deep
    ∷ at_numeral code.LimitFan (fan_of node) (nat_lt node.depth (levels - 1) && is_bad_fan node.children)
    ∷ at_numeral code.LimitCapacity node.capacity (is_over_capacity node.capacity.value (bytes_in before) (bytes_in before + node.capacity.value))
    ∷ []

abbrev pub nodes_rules : NodesText → List Rule
nodes_rules text =
    of_each (λ above word. level_name (map (λ w. w.name) above) word) [] text.names ++ of_each (node_rules (length text.names)) [] (nested text.nodes)

abbrev pub rules_of : MachineText → List Rule
rules_of (Levels text) = levels_rules text
rules_of (Nodes text) = nodes_rules text

-- the rule's breach is judged by itself
abbrev pub judge : Rule → Option Breach
judge rule = rule

-- this fault holds of the machine that the text writes
abbrev pub LimitFault : MachineText → Fault → Type 0
LimitFault machine f = BreaksIn judge phase.Machine (rules_of machine) f
