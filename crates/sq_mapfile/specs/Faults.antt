-- The table of the rules of a mapping: for each rule its code, place and argument, where it is broken.
-- A rule that speaks of a name is broken only where the names that it needs are known.
use Rattle.std.specs.Prelude.{ℕ, suc, ◌==◌, Bool, true, false, not, ◌&&◌, ◌||◌, is_some, is_none, if◌then◌else◌, List, [], ◌∷◌, ◌++◌, map, Option, Some, None}
use Rattle.std.proofs.Math.Bool.{beq}
use Rattle.std.specs.Option.{option_map}
use Rattle.std.specs.Map.{lookup}
use Rattle.sq_text.specs.declared.code.Phase.TheVariants as phase
use Rattle.sq_text.specs.declared.code.Code.TheVariants as code
use Rattle.sq_text.specs.declared.fault.Fault.{Fault}
use Rattle.sq_text.specs.declared.word.Word.{Word}
use Rattle.sq_text.specs.Found.{Breach, at_word, at_lack, at_place, BreaksIn}
use Rattle.sq_text.specs.Names.{Bytes, same_name}
use Rattle.sq_ast.specs.declared.program.VariantKind.{VariantKind}
use Rattle.sq_ast.specs.declared.program.VariantKind.TheVariants.{Inner, Leaf}
use Rattle.sq_ast.specs.declared.program.Variant.{Variant}
use Rattle.sq_ast.specs.declared.program.Program.{Program}
use Rattle.sq_machfile.specs.declared.level.Level.{Level}
use Rattle.sq_mapping.specs.declared.mapping.Setting.{Setting}
use Rattle.sq_mapping.specs.declared.mapping.Setting.TheVariants.{One, Many}
use Rattle.sq_mapping.specs.Sound.{is_list}
use Rattle.sq_mapfile.specs.declared.text.SizeText.{SizeText}
use Rattle.sq_mapfile.specs.declared.text.ItemText.{ItemText}
use Rattle.sq_mapfile.specs.declared.text.ItemText.TheVariants.{Tunable, Call, Spread}
use Rattle.sq_mapfile.specs.declared.text.InstanceText.{InstanceText}
use Rattle.sq_mapfile.specs.declared.text.MappingText.{MappingText}
use Rattle.sq_mapping.specs.Names.{is_among, variant_of}
use Rattle.sq_mapfile.specs.Names.{of_each, stands_before, index_of, instance_of, tunable_index, call_index, spread_index, size_index, has_task, level_of}
use Rattle.sq_mapping.specs.Required.{Required, required_by}

-- the breach of a rule, where it is broken
abbrev pub Rule : Type 0
Rule = Option Breach

-- ---- names

-- the i-th instance has the name of one before it
abbrev pub dup_instance : List InstanceText → ℕ → Word → Rule
dup_instance instances i name = at_word code.DupInstance name (stands_before (index_of instances name.name) i)

-- the i-th of a list has the name of one before it, of which the first has this index
abbrev pub dup_item : Option ℕ → ℕ → Word → Rule
dup_item first i word = at_word code.DupItem word (stands_before first i)

-- the entry or a call names no instance
abbrev pub no_instance : List InstanceText → Word → Rule
no_instance instances name = at_word code.NoInstance name (is_none (index_of instances name.name))

-- the task of an instance isn't in the program
abbrev pub no_task : List Variant → Word → Rule
no_task variants task = at_word code.NoTask task (not (has_task variants task.name))

-- the task of an instance hasn't that variant
abbrev pub no_variant : List Variant → Word → VariantKind → Rule
no_variant variants task kind = at_word code.NoVariant task (has_task variants task.name && is_none (variant_of variants task.name kind))

-- the machine hasn't that level
abbrev pub no_level : List Level → Word → Rule
no_level levels level = at_word code.NoLevel level (is_none (level_of levels level.name))

-- the first of the required names that isn't given
abbrev pub first_missing : (Bytes → Bool) → List Bytes → Option Bytes
first_missing given [] = None
first_missing given (name ∷ rest) = if given name then first_missing given rest else Some name

-- ---- calls

abbrev pub has_call : List ItemText → Bytes → Bool
has_call items task = is_some (call_index items task)

abbrev pub missing_call : Option Required → List ItemText → Option Bytes
missing_call None items = None
missing_call (Some required) items = first_missing (has_call items) required.calls

abbrev pub is_uncalled : Option Required → Bytes → Bool
is_uncalled None task = false
is_uncalled (Some required) task = not (is_among required.calls task)

abbrev pub is_of_other_task : Option InstanceText → Bytes → Bool
is_of_other_task None task = false
is_of_other_task (Some instance) task = not (same_name task instance.task.name)

-- neither the caller's level nor the next
abbrev pub is_skip : Option ℕ → Option ℕ → Bool
is_skip (Some caller) (Some callee) = not (callee == caller || callee == suc caller)
is_skip _ _ = false

abbrev pub is_below_root : Option ℕ → Bool
is_below_root None = false
is_below_root (Some level) = not (level == 0)

-- the variant calls a task for which the instance has no item
abbrev pub call_missing : Option Required → Word → List ItemText → Rule
call_missing required name items = at_lack code.CallMissing name (missing_call required items)

-- an item for a task that the variant doesn't call
abbrev pub call_unknown : Option Required → Word → Rule
call_unknown required task = at_word code.CallUnknown task (is_uncalled required task.name)

-- the instance that is named for a task is one of another task
abbrev pub call_task : Option InstanceText → Bytes → Word → Rule
call_task callee task name = at_word code.CallTask name (is_of_other_task callee task)

-- the callee's level is neither the caller's nor the next
abbrev pub level_skip : Option ℕ → Option ℕ → Word → Rule
level_skip caller callee name = at_word code.LevelSkip name (is_skip caller callee)

-- the entry isn't at the root
abbrev pub entry_skip : Option ℕ → Word → Rule
entry_skip level name = at_word code.LevelSkip name (is_below_root level)

-- ---- tunables

abbrev pub has_tunable : List ItemText → Bytes → Bool
has_tunable items name = is_some (tunable_index items name)

abbrev pub missing_tunable : Option Required → List ItemText → Option Bytes
missing_tunable None items = None
missing_tunable (Some required) items = first_missing (has_tunable items) (map (λ t. t.0) required.tunables)

abbrev pub is_no_tunable : Option Required → Bytes → Bool
is_no_tunable None name = false
is_no_tunable (Some required) name = is_none (lookup (same_name name) required.tunables)

abbrev pub is_other : Option Bool → Setting → Bool
is_other None setting = false
is_other (Some wants_list) setting = not (beq wants_list (is_list setting))

abbrev pub is_other_kind : Option Required → Bytes → Setting → Bool
is_other_kind None name setting = false
is_other_kind (Some required) name setting = is_other (lookup (same_name name) required.tunables) setting

-- a tunable of the variant has no item
abbrev pub tunable_missing : Option Required → Word → List ItemText → Rule
tunable_missing required name items = at_lack code.TunableMissing name (missing_tunable required items)

-- the variant has no such tunable
abbrev pub tunable_unknown : Option Required → Word → Rule
tunable_unknown required name = at_word code.TunableUnknown name (is_no_tunable required name.name)

-- a list for a number, or a number for a list
abbrev pub tunable_kind : Option Required → Word → Setting → Rule
tunable_kind required name setting = at_word code.TunableKind name (is_other_kind required name.name setting)

-- ---- sizes

abbrev pub has_size : List SizeText → Bytes → Bool
has_size sizes name = is_some (size_index sizes name)

abbrev pub missing_size : Option Required → List SizeText → Option Bytes
missing_size None sizes = None
missing_size (Some required) sizes = first_missing (has_size sizes) required.sizes

abbrev pub is_no_size : Option Required → Bytes → Bool
is_no_size None name = false
is_no_size (Some required) name = not (is_among required.sizes name)

-- a size name of the entry has no value
abbrev pub size_missing : Option Required → Word → List SizeText → Rule
size_missing required name sizes = at_lack code.SizeMissing name (missing_size required sizes)

-- the entry has no such size name
abbrev pub size_unknown : Option Required → Word → Rule
size_unknown required name = at_word code.SizeUnknown name (is_no_size required name.name)

-- ---- spreads

abbrev pub is_leaf : VariantKind → Bool
is_leaf Inner = false
is_leaf Leaf = true

-- a leaf has no maps to spread
abbrev pub spread_leaf : VariantKind → Word → Rule
spread_leaf kind word = at_place code.SpreadLeaf word.place (is_leaf kind)

-- ---- the whole file

-- the program, the levels of the machine and the instances of the file, in which names are looked up
pub record Scope : Type 0 where
  pub variants : List Variant
  pub levels : List Level
  pub instances : List InstanceText

abbrev pub scope : Program → List Level → MappingText → Scope
scope program levels m = record { variants = program.tasks; levels = levels; instances = m.instances }

-- what the variant of an instance requires, where it is in the program
abbrev pub required_of : Scope → InstanceText → Option Required
required_of s x = option_map required_by (variant_of s.variants x.task.name x.kind)

-- the same of a named instance, where it is known
abbrev pub required_at : Scope → Option InstanceText → Option Required
required_at s None = None
required_at s (Some x) = required_of s x

-- the level of a named instance, where both are known
abbrev pub level_in : List Level → Option InstanceText → Option ℕ
level_in levels None = None
level_in levels (Some x) = level_of levels x.level.name

abbrev pub level_at : Scope → Option InstanceText → Option ℕ
level_at s x = level_in s.levels x

-- what is known where the items of an instance stand
pub record Inside : Type 0 where
  pub scope : Scope
  pub required : Option Required
  pub level : Option ℕ
  pub kind : VariantKind
  pub items : List ItemText

abbrev pub inside : Scope → InstanceText → Inside
inside s x = record { scope = s; required = required_of s x; level = level_of s.levels x.level.name; kind = x.kind; items = x.items }

-- the i-th item
abbrev pub item_rules : Inside → ℕ → ItemText → List Rule
item_rules n i (Tunable name values) =
    dup_item (tunable_index n.items name.name) i name ∷ tunable_unknown n.required name ∷ tunable_kind n.required name values.first ∷ []
item_rules n i (Call task name) =
    dup_item (call_index n.items task.name) i task ∷ call_unknown n.required task ∷ no_instance n.scope.instances name
    ∷ call_task (instance_of n.scope.instances name.name) task.name name ∷ level_skip n.level (level_at n.scope (instance_of n.scope.instances name.name)) name ∷ []
item_rules n i (Spread word rule) = dup_item (spread_index n.items) i word ∷ spread_leaf n.kind word ∷ []

-- the words before the items of the i-th instance
abbrev pub head_rules : Scope → Option Required → ℕ → InstanceText → List Rule
head_rules s required i x =
    dup_instance s.instances i x.name ∷ call_missing required x.name x.items ∷ tunable_missing required x.name x.items
    ∷ no_task s.variants x.task ∷ no_variant s.variants x.task x.kind ∷ no_level s.levels x.level ∷ []

abbrev pub instance_rules : Scope → ℕ → InstanceText → List Rule
instance_rules s i x = head_rules s (required_of s x) i x ++ of_each (item_rules (inside s x)) 0 x.items

-- the i-th size of these
abbrev pub size_rules : Option Required → List SizeText → ℕ → SizeText → List Rule
size_rules required sizes i size = dup_item (size_index sizes size.name.name) i size.name ∷ size_unknown required size.name ∷ []

-- the name of the entry, which is this instance where the file has it, and its sizes
abbrev pub entry_rules : Scope → Option InstanceText → Word → List SizeText → List Rule
entry_rules s entry name sizes =
    no_instance s.instances name ∷ entry_skip (level_at s entry) name ∷ size_missing (required_at s entry) name sizes
    ∷ of_each (size_rules (required_at s entry) sizes) 0 sizes

abbrev pub name_rules : Program → List Level → MappingText → List Rule
name_rules program levels m =
    let s = scope program levels m in
    entry_rules s (instance_of m.instances m.entry.name) m.entry m.sizes ++ of_each (instance_rules s) 0 m.instances

-- the breach of each rule is its own
abbrev pub breach_of : Rule → Option Breach
breach_of rule = rule

-- this fault of a name holds of the mapping that the text writes
abbrev pub NameFault : Program → List Level → MappingText → Fault → Type 0
NameFault program levels m f = BreaksIn breach_of phase.Mapping (name_rules program levels m) f
