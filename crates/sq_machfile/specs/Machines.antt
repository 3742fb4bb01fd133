-- Machines, the limits that they keep, which machine a text stands for, and every fault of a machine file.
use Rattle.std.specs.Prelude.{◌≡◌, ℕ, zero, suc, ◌*◌, ◌<◌, ◌≤◌, min, max, List, [], ◌∷◌, ◌++◌, length, map, replicate, Some, None, Result, Ok, Err, ◌==◌, if◌then◌else◌}
use Rattle.std.specs.List.{slice_get, fold}
use Rattle.std.specs.Option.{option_map_or}
use Rattle.sq_text.specs.Names.{Bytes, same_name}
use Rattle.sq_text.specs.declared.code.Phase.TheVariants as phase
use Rattle.sq_text.specs.declared.fault.Fault.{Fault}
use Rattle.sq_text.specs.declared.word.Word.{Word}
use Rattle.sq_text.specs.declared.fault.Stop.{Stop}
use Rattle.sq_text.specs.declared.fault.Stop.TheVariants.{Refused, NoMemory}
use Rattle.sq_text.specs.First.{InTurn}
use Rattle.sq_text.specs.Faults.{IsFirst}
use Rattle.sq_lexer.specs.declared.token.Token.{Token}
use Rattle.sq_lexer.specs.Tokens.{AreTokens}
use Rattle.sq_lexer.specs.Faults.{FitsFile, HasFault}
use Rattle.sq_patterns.specs.Texts as texts
use Rattle.sq_machfile.specs.declared.text.LevelText.{LevelText}
use Rattle.sq_machfile.specs.declared.text.Below.{Below}
use Rattle.sq_machfile.specs.declared.text.LevelsText.{LevelsText}
use Rattle.sq_machfile.specs.declared.text.NodesText.{NodesText}
use Rattle.sq_machfile.specs.declared.text.MachineText.{MachineText}
use Rattle.sq_machfile.specs.declared.text.MachineText.TheVariants.{Levels, Nodes}
use Rattle.sq_machfile.specs.declared.nested.Nested.{Nested}
use Rattle.sq_machfile.specs.declared.level.Level.{Level}
use Rattle.sq_machfile.specs.declared.node.Node.{Node}
use Rattle.sq_text.specs.Limits.{most_levels, most_nodes, most_children, most_capacity, most_bytes}
use Rattle.sq_machfile.specs.Nodes.{at_level, total, capacity_of, children_of, AreArranged, linked}
use Rattle.sq_machfile.specs.Nesting.{nested}
use Rattle.sq_machfile.specs.Grammar.{IsText}
use Rattle.sq_machfile.specs.Faults.{LimitFault}

-- What contracts see of a machine: its levels, root first, and its nodes, level by level from the left.
pub record Hierarchy : Type 0 where
  pub levels : List Level
  pub nodes : List Node

-- the nodes of a level
abbrev pub nodes_at : Hierarchy → ℕ → ℕ
nodes_at machine level = length (at_level machine.nodes level)

abbrev pub least : List ℕ → ℕ
least [] = 0
least (n ∷ ns) = fold min n ns

abbrev pub greatest : List ℕ → ℕ
greatest ns = fold max 0 ns

-- 1 where the node has this name, and else 0
abbrev pub has_name : Bytes → Node → ℕ
has_name name n = option_map_or (λ own. if same_name name own then 1 else 0) n.name 0

-- ---- the limits

-- a node of a machine of so many levels
pub record NodeFits (levels : ℕ) (n : Node) : Type 0 where
  pub level : n.level < levels
  pub capacity : n.capacity ≤ most_capacity
  pub some : suc n.level < levels → 1 ≤ n.children
  pub few : n.children ≤ most_children
  pub leaf : suc n.level ≡ levels → n.children ≡ 0

-- a level is of the least capacity and of the greatest number of children of its nodes
pub record Sums (nodes : List Node) (k : ℕ) (level : Level) : Type 0 where
  pub capacity : level.capacity ≡ least (map capacity_of (at_level nodes k))
  pub children : level.children ≡ greatest (map children_of (at_level nodes k))

pub record WithinLimits (machine : Hierarchy) : Type 0 where
  -- ---- levels
  pub some : 1 ≤ length machine.levels
  pub few : length machine.levels ≤ most_levels
  pub names : (i j : ℕ) (a b : Level) → i < j → slice_get machine.levels i ≡ Some a → slice_get machine.levels j ≡ Some b → a.name ≡ b.name → ⊥
  pub sums : (k : ℕ) (level : Level) → slice_get machine.levels k ≡ Some level → Sums machine.nodes k level
  -- ---- nodes
  pub arranged : AreArranged machine.nodes
  pub nodes : length machine.nodes ≤ most_nodes
  pub fits : (i : ℕ) (n : Node) → slice_get machine.nodes i ≡ Some n → NodeFits (length machine.levels) n
  pub bytes : total capacity_of machine.nodes ≤ most_bytes
  -- at most one node has a given name
  pub node_names : (name : Bytes) → total (has_name name) machine.nodes ≤ 1
  -- all nodes have names or none has; and a node without one is as every other of its level
  pub alike : (i j : ℕ) (a b : Node) → slice_get machine.nodes i ≡ Some a → slice_get machine.nodes j ≡ Some b → a.name ≡ None → b.name ≡ None
  pub even : (i : ℕ) (n : Node) (level : Level) → slice_get machine.nodes i ≡ Some n → n.name ≡ None → slice_get machine.levels n.level ≡ Some level
      → (n.capacity ≡ level.capacity) × (n.children ≡ level.children)

-- ---- version 1: levels, in each of which all nodes are alike

abbrev pub level_with : LevelText → ℕ → Level
level_with text children = record { name = text.name.name; capacity = text.capacity.value; children = children }

-- a level and those below it; the last level has no children
abbrev pub levels_from : LevelText → List Below → List Level
levels_from level [] = level_with level 0 ∷ []
levels_from level (below ∷ rest) = level_with level below.children.value ∷ levels_from below.level rest

abbrev pub levels_of : LevelsText → List Level
levels_of text = levels_from text.root text.below

abbrev pub even_node : ℕ → Level → Node
even_node k level = record { name = None; level = k; capacity = level.capacity; first_child = 0; children = level.children }

-- the nodes of these levels, of which the first is the k-th from the root and has so many nodes
abbrev pub even_nodes : ℕ → ℕ → List Level → List Node
even_nodes k width [] = []
even_nodes k width (level ∷ levels) = replicate width (even_node k level) ++ even_nodes (suc k) (width * level.children) levels

abbrev pub even_machine : LevelsText → Hierarchy
even_machine text = record { levels = levels_of text; nodes = linked 1 (even_nodes 0 1 (levels_of text)) }

-- ---- version 2: every node by itself

abbrev pub node_of : Nested → Node
node_of n = record { name = Some n.name.name; level = n.depth; capacity = n.capacity.value; first_child = 0; children = n.children }

-- the nodes of one depth, in the order of the text
abbrev pub nodes_of_depth : ℕ → List Nested → List Node
nodes_of_depth depth [] = []
nodes_of_depth depth (n ∷ nodes) = if n.depth == depth then node_of n ∷ nodes_of_depth depth nodes else nodes_of_depth depth nodes

-- the nodes of so many levels, from the k-th on
abbrev pub by_level : ℕ → ℕ → List Nested → List Node
by_level k zero nodes = []
by_level k (suc levels) nodes = nodes_of_depth k nodes ++ by_level (suc k) levels nodes

-- the levels of these names, from the k-th on
abbrev pub named_levels : ℕ → List Node → List Word → List Level
named_levels k nodes [] = []
named_levels k nodes (name ∷ names) =
    record { name = name.name; capacity = least (map capacity_of (at_level nodes k)); children = greatest (map children_of (at_level nodes k)) }
    ∷ named_levels (suc k) nodes names

abbrev pub uneven_nodes : NodesText → List Node
uneven_nodes text = linked 1 (by_level 0 (length text.names) (nested text.nodes))

abbrev pub uneven_machine : NodesText → Hierarchy
uneven_machine text = record { levels = named_levels 0 (uneven_nodes text) text.names; nodes = uneven_nodes text }

abbrev pub machine_of : MachineText → Hierarchy
machine_of (Levels text) = even_machine text
machine_of (Nodes text) = uneven_machine text

-- every node stands at a level that has a name
abbrev pub HasLevels : MachineText → Type 0
HasLevels (Levels text) = Unit {0}
HasLevels (Nodes text) = (i : ℕ) (n : Nested) → slice_get (nested text.nodes) i ≡ Some n → n.depth < length text.names

-- what is answered where a file is written as this machine: it, where no limit is broken; else the first fault; or
-- memory ran out
abbrev pub AnswersLimits : MachineText → Result Hierarchy Stop → Type 0
AnswersLimits written (Ok machine) = IsFirst (LimitFault written) None × (machine ≡ machine_of written) × HasLevels written
AnswersLimits written (Err (Refused f)) = IsFirst (LimitFault written) (Some f)
AnswersLimits written (Err NoMemory) = Unit {0}

-- ---- texts

-- the text, which is no longer than a machine file may be, is written by the grammar as this machine
pub record Writes (text : List ℕ) (machine : MachineText) : Type 0 where
  pub tokens : List Token
  pub tokens_of : AreTokens text tokens
  pub fits : FitsFile phase.Machine text
  pub grammar : IsText tokens machine

-- the first token with which no text of the grammar begins
abbrev pub IsSyntaxFault : List Token → Fault → Type 0
IsSyntaxFault = texts.IsSyntaxFault IsText phase.Machine

pub record SyntaxFault (text : List ℕ) (f : Fault) : Type 0 where
  pub tokens : List Token
  pub tokens_of : AreTokens text tokens
  pub faulty : IsSyntaxFault tokens f

-- a limit is broken
pub record BrokenLimit (text : List ℕ) (f : Fault) : Type 0 where
  pub machine : MachineText
  pub writes : Writes text machine
  pub broken : LimitFault machine f

-- Every fault of a machine file: of the file and its tokens; where there is none, of the grammar; and where there is
-- none, of the limits.
abbrev pub MachineFault : List ℕ → Fault → Type 0
MachineFault text = InTurn (HasFault phase.Machine text) (InTurn (SyntaxFault text) (BrokenLimit text))

-- the text stands for this machine
pub record StandsFor (text : List ℕ) (machine : Hierarchy) : Type 0 where
  pub written : MachineText
  pub writes : Writes text written
  pub deep : HasLevels written
  pub is : machine ≡ machine_of written
