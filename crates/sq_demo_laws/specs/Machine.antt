-- The machine and the mapping of the demo, as their texts write them and as what they stand for.
use Rattle.std.specs.Prelude.{ℕ, pos, List, [], ◌∷◌, None, codes}
use Rattle.sq_text.specs.declared.spread.SpreadRule.TheVariants.{Cyclic}
use Rattle.sq_ast.specs.declared.program.VariantKind.TheVariants.{Inner, Leaf}
use Rattle.sq_machfile.specs.declared.level.Level.{Level}
use Rattle.sq_machfile.specs.declared.node.Node.{Node}
use Rattle.sq_machfile.specs.declared.text.MachineText.{MachineText}
use Rattle.sq_machfile.specs.declared.text.MachineText.TheVariants.{Levels}
use Rattle.sq_machfile.specs.Grammar.{word, numeral, level_text, below_text, levels_text}
use Rattle.sq_machfile.specs.Machines.{Hierarchy}
use Rattle.sq_mapping.specs.declared.mapping.Instance.{Instance}
use Rattle.sq_mapping.specs.declared.mapping.Mapping.{Mapping}
use Rattle.sq_mapping.specs.declared.mapping.Tuning.{Tuning}
use Rattle.sq_mapping.specs.declared.mapping.Setting.TheVariants.{One}
use Rattle.sq_mapfile.specs.declared.text.InstanceText.{InstanceText}
use Rattle.sq_mapfile.specs.declared.text.ItemText.{ItemText}
use Rattle.sq_mapfile.specs.declared.text.ItemText.TheVariants.{Tunable, Call}
use Rattle.sq_mapfile.specs.declared.text.MappingText.{MappingText}
use Rattle.sq_mapfile.specs.Grammar.{size, values, instance, mapping}
use Rattle.sq_demo_laws.specs.Texts.{at}

-- ---- the machine

-- as it is written
abbrev pub machine_text : MachineText
machine_text =
    Levels (levels_text
    (level_text (word (at 1 18) (codes "host")) (numeral (at 1 34) 196608))
    (below_text (numeral (at 1 53) 2) (level_text (word (at 1 62) (codes "chip")) (numeral (at 1 78) 20480))
    ∷ below_text (numeral (at 1 96) 4) (level_text (word (at 1 105) (codes "core")) (numeral (at 1 121) 1280))
    ∷ []))

abbrev pub host : Level
host = record { name = codes "host"; capacity = 196608; children = 2 }

abbrev pub chip : Level
chip = record { name = codes "chip"; capacity = 20480; children = 4 }

abbrev pub core : Level
core = record { name = codes "core"; capacity = 1280; children = 0 }

abbrev pub node_at : (level capacity first_child children : ℕ) → Node
node_at level capacity first_child children =
    record { name = None; level = level; capacity = capacity; first_child = first_child; children = children }

abbrev pub core_node : Node
core_node = node_at 2 1280 0 0

abbrev pub demo_hierarchy : Hierarchy
demo_hierarchy = record {
  levels = host ∷ chip ∷ core ∷ [];
  nodes =
      node_at 0 196608 1 2 ∷ node_at 1 20480 3 4 ∷ node_at 1 20480 7 4 ∷ core_node ∷ core_node ∷ core_node
      ∷ core_node ∷ core_node ∷ core_node ∷ core_node ∷ core_node ∷ [];
}

-- ---- the mapping

abbrev pub tunings_by : ℕ → List Tuning
tunings_by n =
    record { name = codes "U"; setting = One (pos n) } ∷ record { name = codes "X"; setting = One (pos n) }
    ∷ record { name = codes "V"; setting = One (pos n) } ∷ []

abbrev pub top_instance : Instance
top_instance = record {
  name = codes "top";
  task = codes "matmul";
  kind = Inner;
  level = 0;
  tunings = tunings_by 32;
  routes = record { task = codes "matmul"; instance = 1 } ∷ [];
  spread = Cyclic;
}

abbrev pub mid_instance : Instance
mid_instance = record {
  name = codes "mid";
  task = codes "matmul";
  kind = Inner;
  level = 1;
  tunings = tunings_by 8;
  routes = record { task = codes "matmul"; instance = 2 } ∷ [];
  spread = Cyclic;
}

abbrev pub low_instance : Instance
low_instance = record {
  name = codes "low";
  task = codes "matmul";
  kind = Leaf;
  level = 2;
  tunings = [];
  routes = [];
  spread = Cyclic;
}

abbrev pub demo_mapped : Mapping
demo_mapped = record {
  entry = 0;
  sizes =
      record { name = codes "M"; value = pos 128 } ∷ record { name = codes "N"; value = pos 128 }
      ∷ record { name = codes "P"; value = pos 128 } ∷ [];
  instances = top_instance ∷ mid_instance ∷ low_instance ∷ [];
}

-- as it is written
abbrev pub tunable_at : (line col : ℕ) → List ℕ → ℕ → ItemText
tunable_at line col name n = Tunable (word (at line col) name) (values (One (pos n)) [])

abbrev pub top_text : InstanceText
top_text =
    instance (word (at 3 10) (codes "top")) (word (at 3 16) (codes "matmul")) Inner (word (at 3 32) (codes "host"))
    (tunable_at 3 47 (codes "U") 32 ∷ tunable_at 3 63 (codes "X") 32 ∷ tunable_at 3 79 (codes "V") 32
    ∷ Call (word (at 3 92) (codes "matmul")) (word (at 3 102) (codes "mid"))
    ∷ [])

abbrev pub mid_text : InstanceText
mid_text =
    instance (word (at 4 10) (codes "mid")) (word (at 4 16) (codes "matmul")) Inner (word (at 4 32) (codes "chip"))
    (tunable_at 4 47 (codes "U") 8 ∷ tunable_at 4 62 (codes "X") 8 ∷ tunable_at 4 77 (codes "V") 8
    ∷ Call (word (at 4 89) (codes "matmul")) (word (at 4 99) (codes "low"))
    ∷ [])

abbrev pub low_text : InstanceText
low_text =
    instance (word (at 5 10) (codes "low")) (word (at 5 16) (codes "matmul")) Leaf (word (at 5 31) (codes "core")) []

abbrev pub mapping_text : MappingText
mapping_text =
    mapping (word (at 2 7) (codes "top"))
    (size (word (at 2 11) (codes "M")) 128 ∷ size (word (at 2 20) (codes "N")) 128
    ∷ size (word (at 2 29) (codes "P")) 128
    ∷ [])
    (top_text ∷ mid_text ∷ low_text ∷ [])
