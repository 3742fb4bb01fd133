-- What breaks a rule of a mapping is told by its place and its code.
use Rattle.std.proofs.Common.{◌≡◌, ℕ, suc, ◌-◌, Bool, true, false, not, ◌&&◌, if◌then◌else◌, List, [], ◌∷◌, ◌++◌, Option, Some, None, inl, inr, refl, sym, ◌∙◌, ap, subst}
use Rattle.std.specs.List.{AllByRecursion}
use Rattle.std.specs.Prelude.{get_or, is_none}
use Rattle.sq_text.specs.declared.place.Place.{Place}
use Rattle.sq_text.specs.declared.code.Phase.TheVariants.{Mapping}
use Rattle.sq_text.specs.declared.code.Code.{Code}
use Rattle.sq_text.specs.declared.code.Code.TheVariants as code
use Rattle.sq_text.specs.declared.fault.Arg.{Arg}
use Rattle.sq_text.specs.declared.fault.Arg.TheVariants.{Word as AWord}
use Rattle.sq_text.specs.declared.fault.Fault.{Fault}
use Rattle.sq_text.specs.declared.word.Word.{Word}
use Rattle.sq_text.specs.Codes.{number}
use Rattle.sq_text.specs.First.{HoldsIn}
use Rattle.sq_text.specs.Found.{Breach, breach, at_word}
use Rattle.sq_ast.specs.declared.program.Program.{Program}
use Rattle.sq_lexer.specs.declared.token.Token.{Token}
use Rattle.sq_machfile.specs.declared.level.Level.{Level}
use Rattle.sq_mapping.specs.Names.{variant_of}
use Rattle.sq_mapping.specs.Required.{Required}
use Rattle.sq_mapfile.specs.declared.text.SizeText.{SizeText}
use Rattle.sq_mapfile.specs.declared.text.ItemText.{ItemText}
use Rattle.sq_mapfile.specs.declared.text.ItemText.TheVariants.{Tunable, Call, Spread}
use Rattle.sq_mapfile.specs.declared.text.InstanceText.{InstanceText}
use Rattle.sq_mapfile.specs.declared.text.MappingText.{MappingText}
use Rattle.sq_mapfile.specs.Names.{of_each, stands_before, index_of, instance_of, tunable_index, call_index, spread_index, size_index, has_task, level_of}
use Rattle.sq_mapfile.specs.Faults.{Scope, scope, Inside, inside, required_of, required_at, level_at, missing_call, missing_tunable, missing_size, is_uncalled, is_of_other_task, is_skip, is_below_root, is_no_tunable, is_other_kind, is_no_size, is_leaf, item_rules, head_rules, instance_rules, size_rules, entry_rules, name_rules}
use Rattle.sq_mapfile.specs.Cycles.{CallText, call_to, item_calls, instance_calls, calls_of, cycle_at, IsOnCycle, CycleFault}
use Rattle.sq_mapfile.specs.Mappings.{BreaksRule}
use Rattle.sq_source_laws.proofs.Rising.{Rises, some_rise, Among, each_among, standing, IsFound, each_append, each_found}
use Rattle.sq_source_laws.proofs.TokenPlaces.{token_place, word_token, args_at, IsThere, word_args}
use Rattle.sq_source_laws.proofs.MappingWords.{size_tokens, items_tokens, instance_tokens, instances_tokens, mapping_tokens, past_sizes, past_items, instance_place, named_rise}
use Rattle.sq_source_laws.proofs.Determined.{lacking, Fits, fits_word, fits_lack, fits_place, IsTold, told, breach_told, told_in}

-- the codes of the numbers from 7 on
abbrev pub mapping_code : ℕ → Code
mapping_code n = get_or (code.DupInstance ∷ code.DupItem ∷ code.NoInstance ∷ code.NoTask ∷ code.NoVariant ∷ code.NoLevel ∷ code.CallMissing ∷ code.CallUnknown
    ∷ code.CallTask ∷ code.LevelSkip ∷ code.Cycle ∷ code.TunableMissing ∷ code.TunableUnknown ∷ code.TunableKind ∷ code.SizeMissing ∷ code.SizeUnknown
    ∷ code.SpreadLeaf ∷ []) (n - 7) code.LimitFile

-- ---- what each code names at a place

-- what the instance lacks that stands there
abbrev lacking_call : Scope → Option InstanceText → List Arg
lacking_call s None = []
lacking_call s (Some x) = lacking (missing_call (required_of s x) x.items)

abbrev lacking_tunable : Scope → Option InstanceText → List Arg
lacking_tunable s None = []
lacking_tunable s (Some x) = lacking (missing_tunable (required_of s x) x.items)

abbrev lacking_size : Scope → MappingText → List Arg
lacking_size s m = lacking (missing_size (required_at s (instance_of m.instances m.entry.name)) m.sizes)

abbrev pub mapping_args : Scope → MappingText → List Token → Code → Place → List Arg
mapping_args s m ts code.CallMissing p = lacking_call s (standing instance_place m.instances p)
mapping_args s m ts code.TunableMissing p = lacking_tunable s (standing instance_place m.instances p)
mapping_args s m ts code.SizeMissing p = lacking_size s m
mapping_args s m ts code.SpreadLeaf p = []
mapping_args s m ts _ p = args_at ts p

module _ (s : Scope) (m : MappingText) (ts : List Token) where
  abbrev FitsMapping : Option Breach → Type 0
  FitsMapping = Fits Mapping mapping_code (mapping_args s m ts)

  word_fits : (c : Code) (word : Word) (broken : Bool) → mapping_code (number Mapping c) ≡ c → mapping_args s m ts c word.place ≡ args_at ts word.place
      → IsThere ts (word_token word) → FitsMapping (at_word c word broken)
  word_fits c word broken is named h = fits_word Mapping mapping_code (mapping_args s m ts) c word broken is (named ∙ word_args ts word h)

  -- ---- items

  items_fit : (n : Inside) (i : ℕ) (items : List ItemText) (l : List Token) → AllByRecursion (IsThere ts) (items_tokens items l)
      → AllByRecursion FitsMapping (of_each (item_rules n) i items)
  unfolding number
  items_fit n i [] l h = tt
  items_fit n i (Tunable name values ∷ items) l h = (
    word_fits code.DupItem name (stands_before (tunable_index n.items name.name) i) refl refl h.0,
    (
      word_fits code.TunableUnknown name (is_no_tunable n.required name.name) refl refl h.0,
      (
        word_fits code.TunableKind name (is_other_kind n.required name.name values.first) refl refl h.0,
        items_fit n (suc i) items l h.1,
      ),
    ),
  )
  items_fit n i (Call task name ∷ items) l h =
      let callee = instance_of n.scope.instances name.name in (
        word_fits code.DupItem task (stands_before (call_index n.items task.name) i) refl refl h.0,
        (
          word_fits code.CallUnknown task (is_uncalled n.required task.name) refl refl h.0,
          (
            word_fits code.NoInstance name (is_none (index_of n.scope.instances name.name)) refl refl h.1.0,
            (
              word_fits code.CallTask name (is_of_other_task callee task.name) refl refl h.1.0,
              (
                word_fits code.LevelSkip name (is_skip n.level (level_at n.scope callee)) refl refl h.1.0,
                items_fit n (suc i) items l h.1.1,
              ),
            ),
          ),
        ),
      )
  items_fit n i (Spread word rule ∷ items) l h = (
    word_fits code.DupItem word (stands_before (spread_index n.items) i) refl refl h.0,
    (
      fits_place Mapping mapping_code (mapping_args s m ts) code.SpreadLeaf word.place (is_leaf n.kind) refl refl,
      items_fit n (suc i) items l h.1,
    ),
  )

  -- ---- instances

  head_fits : (i : ℕ) (x : InstanceText) (l : List Token) → AllByRecursion (IsThere ts) (instance_tokens x l) → IsFound instance_place m.instances x
      → AllByRecursion FitsMapping (head_rules s (required_of s x) i x)
  unfolding number
  head_fits i x l h found = (
    word_fits code.DupInstance x.name (stands_before (index_of s.instances x.name.name) i) refl refl h.0,
    (
      fits_lack Mapping mapping_code (mapping_args s m ts) code.CallMissing x.name (missing_call (required_of s x) x.items) refl (ap (lacking_call s) found),
      (
        fits_lack Mapping mapping_code (mapping_args s m ts) code.TunableMissing x.name (missing_tunable (required_of s x) x.items) refl (ap (lacking_tunable s) found),
        (
          word_fits code.NoTask x.task (not (has_task s.variants x.task.name)) refl refl h.1.0,
          (
            word_fits code.NoVariant x.task (has_task s.variants x.task.name && is_none (variant_of s.variants x.task.name x.kind)) refl refl h.1.0,
            (word_fits code.NoLevel x.level (is_none (level_of s.levels x.level.name)) refl refl h.1.1.0, tt),
          ),
        ),
      ),
    ),
  )

  instances_fit : (i : ℕ) (instances : List InstanceText) → AllByRecursion (IsThere ts) (instances_tokens instances [])
      → AllByRecursion (IsFound instance_place m.instances) instances → AllByRecursion FitsMapping (of_each (instance_rules s) i instances)
  instances_fit i [] h found = tt
  instances_fit i (x ∷ instances) h found =
      let behind = instances_tokens instances [] in
      each_append FitsMapping (instance_rules s i x) (of_each (instance_rules s) (suc i) instances)
      (each_append FitsMapping (head_rules s (required_of s x) i x) (of_each (item_rules (inside s x)) 0 x.items) (head_fits i x behind h found.0)
      (items_fit (inside s x) 0 x.items behind h.1.1.1))
      (instances_fit (suc i) instances (past_items (IsThere ts) x.items behind h.1.1.1) found.1)

  -- ---- the entry

  sizes_fit : (required : Option Required) (all : List SizeText) (i : ℕ) (sizes : List SizeText) (l : List Token) → AllByRecursion (IsThere ts) (size_tokens sizes l)
      → AllByRecursion FitsMapping (of_each (size_rules required all) i sizes)
  unfolding number
  sizes_fit required all i [] l h = tt
  sizes_fit required all i (size ∷ sizes) l h = (
    word_fits code.DupItem size.name (stands_before (size_index all size.name.name) i) refl refl h.0,
    (
      word_fits code.SizeUnknown size.name (is_no_size required size.name.name) refl refl h.0,
      sizes_fit required all (suc i) sizes l h.1,
    ),
  )

  entry_fits : AllByRecursion (IsThere ts) (mapping_tokens m []) → AllByRecursion FitsMapping (entry_rules s (instance_of m.instances m.entry.name) m.entry m.sizes)
  unfolding number
  entry_fits h =
      let entry = instance_of m.instances m.entry.name in (
        word_fits code.NoInstance m.entry (is_none (index_of s.instances m.entry.name)) refl refl h.0,
        (
          word_fits code.LevelSkip m.entry (is_below_root (level_at s entry)) refl refl h.0,
          (
            fits_lack Mapping mapping_code (mapping_args s m ts) code.SizeMissing m.entry (missing_size (required_at s entry) m.sizes) refl refl,
            sizes_fit (required_at s entry) m.sizes 0 m.sizes (instances_tokens m.instances []) h.1,
          ),
        ),
      )

  pub names_fit : AllByRecursion (IsThere ts) (mapping_tokens m []) → AllByRecursion (IsFound instance_place m.instances) m.instances
      → AllByRecursion FitsMapping (entry_rules s (instance_of m.instances m.entry.name) m.entry m.sizes ++ of_each (instance_rules s) 0 m.instances)
  names_fit h found =
      each_append FitsMapping (entry_rules s (instance_of m.instances m.entry.name) m.entry m.sizes) (of_each (instance_rules s) 0 m.instances)
      (entry_fits h) (instances_fit 0 m.instances (past_sizes (IsThere ts) m.sizes (instances_tokens m.instances []) h.1) found)

  -- ---- calls

  abbrev CallIsThere : CallText → Type 0
  CallIsThere call = IsThere ts (word_token call.name)

  call_there : (caller : ℕ) (callee : Option ℕ) (name : Word) → IsThere ts (word_token name) → AllByRecursion CallIsThere (call_to caller callee name)
  call_there caller None name h = tt
  call_there caller (Some i) name h = (h, tt)

  unless : (before : Bool) (calls : List CallText) → AllByRecursion CallIsThere calls → AllByRecursion CallIsThere (if before then [] else calls)
  unless true calls h = tt
  unless false calls h = h

  items_call : (instances : List InstanceText) (caller : ℕ) (all : List ItemText) (i : ℕ) (items : List ItemText) (l : List Token)
      → AllByRecursion (IsThere ts) (items_tokens items l) → AllByRecursion CallIsThere (of_each (item_calls instances caller all) i items)
  items_call instances caller all i [] l h = tt
  items_call instances caller all i (Tunable name values ∷ items) l h = items_call instances caller all (suc i) items l h.1
  items_call instances caller all i (Call task name ∷ items) l h =
      let callee = index_of instances name.name in
      each_append CallIsThere (item_calls instances caller all i (Call task name)) (of_each (item_calls instances caller all) (suc i) items)
      (unless (stands_before (call_index all task.name) i) (call_to caller callee name) (call_there caller callee name h.1.0))
      (items_call instances caller all (suc i) items l h.1.1)
  items_call instances caller all i (Spread word rule ∷ items) l h = items_call instances caller all (suc i) items l h.1

  instances_call : (all : List InstanceText) (i : ℕ) (instances : List InstanceText) → AllByRecursion (IsThere ts) (instances_tokens instances [])
      → AllByRecursion CallIsThere (of_each (instance_calls all) i instances)
  instances_call all i [] h = tt
  instances_call all i (x ∷ instances) h =
      let behind = instances_tokens instances [] in
      each_append CallIsThere (instance_calls all i x) (of_each (instance_calls all) (suc i) instances)
      (unless (stands_before (index_of all x.name.name) i) (of_each (item_calls all i x.items) 0 x.items) (items_call all i x.items 0 x.items behind h.1.1.1))
      (instances_call all (suc i) instances (past_items (IsThere ts) x.items behind h.1.1.1))

  abbrev pub mapping_table : Place → ℕ → Fault
  mapping_table = told Mapping mapping_code (mapping_args s m ts)

  call_told : (call : CallText) → CallIsThere call → IsTold mapping_table (cycle_at call)
  unfolding number
  call_told call h = breach_told Mapping mapping_code (mapping_args s m ts) (breach code.Cycle call.name.place (AWord call.name.name ∷ [])) (refl, word_args ts call.name h)

  on_cycle_told : (all calls : List CallText) → AllByRecursion CallIsThere calls → (f : Fault) → HoldsIn (IsOnCycle all) calls f → IsTold mapping_table f
  on_cycle_told all [] there f h = absurd h
  on_cycle_told all (call ∷ calls) there f (inl h) = subst (IsTold mapping_table) (sym h.is) (call_told call there.0)
  on_cycle_told all (call ∷ calls) there f (inr h) = on_cycle_told all calls there.1 f h

  pub cycles_told : AllByRecursion (IsThere ts) (mapping_tokens m []) → (f : Fault) → CycleFault m f → IsTold mapping_table f
  cycles_told h f broken =
      on_cycle_told (calls_of m) (calls_of m)
      (instances_call m.instances 0 m.instances (past_sizes (IsThere ts) m.sizes (instances_tokens m.instances []) h.1)) f broken

-- ---- every rule

module _ (program : Program) (levels : List Level) (ts : List Token) (m : MappingText) where
  abbrev pub rule_table : Place → ℕ → Fault
  rule_table = mapping_table (scope program levels m) m ts

  pub rules_told : Rises token_place ts → Among (mapping_tokens m []) ts → (f : Fault) → BreaksRule program levels m f → IsTold rule_table f
  rules_told rise among f broken = by broken
    where
      there : AllByRecursion (IsThere ts) (mapping_tokens m [])
      there = each_among (IsThere ts) among (each_found token_place ts rise)

      found : AllByRecursion (IsFound instance_place m.instances) m.instances
      found = each_found instance_place m.instances (named_rise m (some_rise token_place among rise))

      by : BreaksRule program levels m f → IsTold rule_table f
      by (inl h) = told_in Mapping mapping_code (mapping_args (scope program levels m) m ts) (name_rules program levels m)
          (names_fit (scope program levels m) m ts there found) f h
      by (inr h) = cycles_told (scope program levels m) m ts there f h
