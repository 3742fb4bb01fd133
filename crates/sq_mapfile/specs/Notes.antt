-- The rules as the reader notes them: those of a part, and then others. No public clause speaks of it.
use Rattle.std.specs.Prelude.{ℕ, suc, List, [], ◌∷◌, Option}
use Rattle.sq_text.specs.declared.word.Word.{Word}
use Rattle.sq_ast.specs.declared.program.Program.{Program}
use Rattle.sq_machfile.specs.declared.level.Level.{Level}
use Rattle.sq_mapfile.specs.declared.text.SizeText.{SizeText}
use Rattle.sq_mapfile.specs.declared.text.ItemText.{ItemText}
use Rattle.sq_mapfile.specs.declared.text.ItemText.TheVariants.{Tunable, Call, Spread}
use Rattle.sq_mapfile.specs.declared.text.InstanceText.{InstanceText}
use Rattle.sq_mapfile.specs.declared.text.MappingText.{MappingText}
use Rattle.sq_mapfile.specs.Names.{instance_of, tunable_index, call_index, spread_index, size_index}
use Rattle.sq_mapping.specs.Required.{Required}
use Rattle.sq_mapfile.specs.Faults.{Rule, Scope, scope, Inside, inside, required_of, required_at, level_at, dup_instance, dup_item, no_instance, no_task, no_variant, no_level, call_missing, call_unknown, call_task, level_skip, entry_skip, tunable_missing, tunable_unknown, tunable_kind, size_missing, size_unknown, spread_leaf}

abbrev pub Rules : Type 0
Rules = List Rule → List Rule

-- the i-th item
abbrev pub item_rules : Inside → ℕ → ItemText → Rules
item_rules n i (Tunable name values) later =
    dup_item (tunable_index n.items name.name) i name ∷ tunable_unknown n.required name ∷ tunable_kind n.required name values.first ∷ later
item_rules n i (Call task name) later =
    dup_item (call_index n.items task.name) i task ∷ call_unknown n.required task ∷ no_instance n.scope.instances name
    ∷ call_task (instance_of n.scope.instances name.name) task.name name ∷ level_skip n.level (level_at n.scope (instance_of n.scope.instances name.name)) name ∷ later
item_rules n i (Spread word rule) later = dup_item (spread_index n.items) i word ∷ spread_leaf n.kind word ∷ later

-- the items from the i-th on
abbrev pub items_rules : Inside → ℕ → List ItemText → Rules
items_rules n i [] later = later
items_rules n i (x ∷ rest) later = item_rules n i x (items_rules n (suc i) rest later)

-- the words before the items of the i-th instance
abbrev pub head_rules : Scope → Option Required → ℕ → InstanceText → Rules
head_rules s required i x later =
    dup_instance s.instances i x.name ∷ call_missing required x.name x.items ∷ tunable_missing required x.name x.items
    ∷ no_task s.variants x.task ∷ no_variant s.variants x.task x.kind ∷ no_level s.levels x.level ∷ later

abbrev pub instance_rules : Scope → ℕ → InstanceText → Rules
instance_rules s i x later = head_rules s (required_of s x) i x (items_rules (inside s x) 0 x.items later)

-- the instances from the i-th on
abbrev pub instances_rules : Scope → ℕ → List InstanceText → List Rule
instances_rules s i [] = []
instances_rules s i (x ∷ rest) = instance_rules s i x (instances_rules s (suc i) rest)

-- the i-th size of these
abbrev pub size_rules : Option Required → List SizeText → ℕ → SizeText → Rules
size_rules required sizes i size later = dup_item (size_index sizes size.name.name) i size.name ∷ size_unknown required size.name ∷ later

-- those from the i-th on
abbrev pub sizes_rules : Option Required → List SizeText → ℕ → List SizeText → Rules
sizes_rules required sizes i [] later = later
sizes_rules required sizes i (size ∷ rest) later = size_rules required sizes i size (sizes_rules required sizes (suc i) rest later)

-- the name of the entry, which is this instance where the file has it
abbrev pub entered_rules : Scope → Option InstanceText → Word → List SizeText → Rules
entered_rules s entry name sizes later =
    no_instance s.instances name ∷ entry_skip (level_at s entry) name ∷ size_missing (required_at s entry) name sizes ∷ later

abbrev pub entry_rules : Scope → Option InstanceText → Word → List SizeText → Rules
entry_rules s entry name sizes later = entered_rules s entry name sizes (sizes_rules (required_at s entry) sizes 0 sizes later)

abbrev pub name_rules : Program → List Level → MappingText → List Rule
name_rules program levels m =
    let s = scope program levels m in
    entry_rules s (instance_of m.instances m.entry.name) m.entry m.sizes (instances_rules s 0 m.instances)
