-- Parts of the list of the rules, each for a function of the walk.
use Rattle.std.specs.Prelude.{◌≡◌, ℕ, ◌∷◌, Option}
use Rattle.std.specs.Option.{option_copied}
use Rattle.sq_text.specs.declared.fault.Fault.{Fault}
use Rattle.sq_text.specs.declared.word.Word.{Word}
use Rattle.sq_text.specs.Faults.{IsFirst, least}
use Rattle.sq_text.specs.Found.{Found}
use Rattle.sq_mapping.specs.declared.mapping.Setting.{Setting}
use Rattle.sq_mapfile.specs.declared.items.Inside as walk
use Rattle.sq_mapfile.specs.Names.{tunable_index, call_index, spread_index, instance_of}
use Rattle.sq_mapfile.specs.Faults.{Inside, dup_item, tunable_unknown, tunable_kind, call_unknown, no_instance, call_task, level_skip, level_at, spread_leaf, Scope, dup_instance, call_missing, tunable_missing, no_task, no_variant, no_level}
use Rattle.sq_mapfile.specs.Notes.{Rules}
use Rattle.sq_mapfile.specs.Scopes.{scope_of}
use Rattle.sq_mapping.specs.Required.{Required}
use Rattle.sq_mapfile.specs.declared.text.InstanceText.{InstanceText}

-- what the walk knows of an instance
abbrev pub inside_of : walk.Inside → Inside
inside_of n = record { scope = scope_of n.scope.now; required = option_copied n.required; level = n.level; kind = n.kind; items = n.items.now.items.now }

abbrev pub tunable_rules : Inside → ℕ → Word → Setting → Rules
tunable_rules n i name setting later =
    dup_item (tunable_index n.items name.name) i name ∷ tunable_unknown n.required name ∷ tunable_kind n.required name setting ∷ later

abbrev pub called_rules : Inside → ℕ → Word → Rules
called_rules n i task later = dup_item (call_index n.items task.name) i task ∷ call_unknown n.required task ∷ later

abbrev pub callee_rules : Inside → Word → Word → Rules
callee_rules n task name later =
    no_instance n.scope.instances name ∷ call_task (instance_of n.scope.instances name.name) task.name name
    ∷ level_skip n.level (level_at n.scope (instance_of n.scope.instances name.name)) name ∷ later

abbrev pub spread_rules : Inside → ℕ → Word → Rules
spread_rules n i word later = dup_item (spread_index n.items) i word ∷ spread_leaf n.kind word ∷ later

-- at the name of the i-th instance
abbrev pub name_of_rules : Scope → Option Required → ℕ → InstanceText → Rules
name_of_rules s required i x later =
    dup_instance s.instances i x.name ∷ call_missing required x.name x.items ∷ tunable_missing required x.name x.items ∷ later

-- at its task and its level
abbrev pub place_of_rules : Scope → InstanceText → Rules
place_of_rules s x later = no_task s.variants x.task ∷ no_variant s.variants x.task x.kind ∷ no_level s.levels x.level ∷ later

abbrev pub joined : Found → Option Fault → Found
joined old fault = record { phase = old.phase; fault = least old.fault fault }

-- to what was found comes the first of these faults
pub record Joins (Holds : Fault → Type 0) (old new : Found) : Type 0 where
  pub first : Option Fault
  pub is_first : IsFirst Holds first
  pub is : new ≡ joined old first
