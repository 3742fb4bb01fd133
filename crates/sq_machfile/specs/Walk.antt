-- What the reader counts while it goes over a text, and what it notes. No public clause speaks of it.
use Rattle.std.specs.Prelude.{ℕ, suc, ◌+◌, ◌-◌, ◌*◌, Bool, false, ◌||◌, ◌&&◌, ◌==◌, nat_lt, nat_le, List, [], ◌∷◌, length}
use Rattle.sq_text.specs.declared.code.Code.TheVariants as code
use Rattle.sq_text.specs.declared.word.Word.{Word}
use Rattle.sq_text.specs.declared.word.Numeral.{Numeral}
use Rattle.sq_text.specs.Found.{at_word, at_numeral}
use Rattle.sq_text.specs.Names.{Bytes, same_name}
use Rattle.sq_machfile.specs.declared.text.LevelText.{LevelText}
use Rattle.sq_machfile.specs.declared.text.Below.{Below}
use Rattle.sq_machfile.specs.declared.text.LevelsText.{LevelsText}
use Rattle.sq_machfile.specs.declared.text.MachineText.{MachineText}
use Rattle.sq_machfile.specs.declared.text.MachineText.TheVariants.{Levels, Nodes}
use Rattle.sq_machfile.specs.declared.nested.Nested.{Nested}
use Rattle.sq_machfile.specs.Faults.{Rule, passes, is_bad_fan, is_over_capacity, fan_of}
use Rattle.sq_text.specs.Limits.{most_levels, most_nodes}
use Rattle.sq_machfile.specs.Nesting.{nested}

-- ---- names that stand before a place

abbrev pub NameSet : Type 0
NameSet = Bytes → Bool

abbrev pub no_names : NameSet
no_names name = false

abbrev pub with_name : Bytes → NameSet → NameSet
with_name name names = λ n. names n || same_name n name

-- ---- names of levels

-- the name of a level, the index-th from the root, and then other rules
abbrev pub level_name : ℕ → NameSet → Word → List Rule → List Rule
level_name index names word later =
    at_word code.DupLevel word (names word.name)
    ∷ at_word code.LimitLevels word (index == most_levels)
    ∷ later

-- the names of levels, from the index-th on, and then other rules
abbrev pub names_rules : ℕ → NameSet → List Word → List Rule → List Rule
names_rules index names [] later = later
names_rules index names (word ∷ words) later = level_name index names word (names_rules (suc index) (with_name word.name names) words later)

-- what is counted down to a level, in version 1
pub record Count : Type 0 where
  -- the names of the levels above
  pub names : NameSet
  -- the nodes of the level
  pub width : ℕ
  -- the nodes of the level and of those above
  pub nodes : ℕ
  -- the bytes of all memories above the level
  pub bytes : ℕ

abbrev pub at_root : Count
at_root = record { names = no_names; width = 1; nodes = 1; bytes = 0 }

-- what is counted up to a node in the order of the text, in version 2
pub record NodeCount : Type 0 where
  -- the names of the nodes before
  pub names : NameSet
  -- the bytes of the memories before
  pub bytes : ℕ

abbrev pub before_nodes : NodeCount
before_nodes = record { names = no_names; bytes = 0 }

-- `cut` is what a sum is cut to, since the reader's numbers have an end. Uncut, what is counted is what stands before.
module _ (cut : ℕ → ℕ) where
  -- ---- version 1

  abbrev pub bytes_with : Count → LevelText → ℕ
  bytes_with c level = cut (c.bytes + cut (c.width * level.capacity.value))

  abbrev pub width_below : Count → Numeral → ℕ
  width_below c children = cut (c.width * children.value)

  abbrev pub nodes_with : Count → Numeral → ℕ
  nodes_with c children = cut (c.nodes + width_below c children)

  abbrev pub after_level : Count → LevelText → Count
  after_level c level = record c { names = with_name level.name.name c.names; bytes = bytes_with c level }

  abbrev pub after_children : Count → Numeral → Count
  after_children c children = record c { width = width_below c children; nodes = nodes_with c children }

  -- a level, which is the index-th from the root, and then other rules
  abbrev pub level_rules : ℕ → Count → LevelText → List Rule → List Rule
  level_rules index c level later =
      level_name index c.names level.name
      (at_numeral code.LimitCapacity level.capacity (is_over_capacity level.capacity.value c.bytes (bytes_with c level)) ∷ later)

  -- a number of children, and then other rules
  abbrev pub children_rules : Count → Numeral → List Rule → List Rule
  children_rules c children later =
      at_numeral code.LimitFan children (is_bad_fan children.value)
      ∷ at_numeral code.LimitNodes children (passes most_nodes c.nodes (nodes_with c children))
      ∷ later

  abbrev pub one_below : ℕ → Count → Below → List Rule → List Rule
  one_below index c below later = children_rules c below.children (level_rules index (after_children c below.children) below.level later)

  abbrev pub after_below : Count → Below → Count
  after_below c below = after_level (after_children c below.children) below.level

  abbrev pub below_rules : ℕ → Count → List Below → List Rule
  below_rules index c [] = []
  below_rules index c (below ∷ rest) = one_below index c below (below_rules (suc index) (after_below c below) rest)

  abbrev pub levels_rules : LevelsText → List Rule
  levels_rules text = level_rules 0 at_root text.root (below_rules 1 (after_level at_root text.root) text.below)

  -- ---- version 2

  abbrev pub with_node : NodeCount → Nested → ℕ
  with_node c node = cut (c.bytes + node.capacity.value)

  -- the index-th node in the order of the text, where there are so many levels, and then other rules
  abbrev pub node_rules : ℕ → ℕ → NodeCount → Nested → List Rule → List Rule
  node_rules levels index c node later =
      at_word code.DupNode node.name (c.names node.name.name)
      ∷ at_word code.NodeDepth node.name (nat_le levels node.depth)
      ∷ at_word code.LimitNodes node.name (index == most_nodes)
      ∷ at_numeral code.LimitFan (fan_of node) (nat_lt node.depth (levels - 1) && is_bad_fan node.children)
      ∷ at_numeral code.LimitCapacity node.capacity (is_over_capacity node.capacity.value c.bytes (with_node c node))
      ∷ later

  abbrev pub after_node : NodeCount → Nested → NodeCount
  after_node c node = record { names = with_name node.name.name c.names; bytes = with_node c node }

  abbrev pub all_node_rules : ℕ → ℕ → NodeCount → List Nested → List Rule
  all_node_rules levels index c [] = []
  all_node_rules levels index c (node ∷ nodes) = node_rules levels index c node (all_node_rules levels (suc index) (after_node c node) nodes)

  abbrev pub nodes_rules : List Word → List Nested → List Rule
  nodes_rules names nodes = names_rules 0 no_names names (all_node_rules (length names) 0 before_nodes nodes)

  abbrev pub rules_by : MachineText → List Rule
  rules_by (Levels text) = levels_rules text
  rules_by (Nodes text) = nodes_rules text.names (nested text.nodes)

abbrev pub uncut : ℕ → ℕ
uncut n = n
