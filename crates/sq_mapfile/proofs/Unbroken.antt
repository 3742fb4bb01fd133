-- A text whose mapping is sound breaks no rule.
use Rattle.std.proofs.Common.{◌≡◌, ℕ, suc, ◌+◌, Bool, true, false, not, ◌&&◌, ◌||◌, eqb, ◌⊎◌, inl, inr, List, [], ◌∷◌, map, Option, Some, None, is_none, option_map, refl, sym, ◌∙◌, ap, subst, arith}
use Rattle.std.specs.List.{slice_get}
use Rattle.std.specs.Map.{lookup}
use Rattle.std.proofs.Math.Bool.{beq}
use Rattle.std.proofs.lemmas.Bool.Decides.{Decides-eqb}
use Rattle.sq_text.specs.Names.{Bytes, same_name}
use Rattle.sq_text.specs.declared.code.Phase.TheVariants as phase
use Rattle.sq_text.specs.declared.code.Code.{Code}
use Rattle.sq_text.specs.declared.code.Code.TheVariants as code
use Rattle.sq_text.specs.declared.fault.Fault.{Fault}
use Rattle.sq_text.specs.declared.place.Place.{Place}
use Rattle.sq_text.specs.declared.word.Word.{Word}
use Rattle.sq_text.specs.Found.{at_word, at_lack, at_place, BreaksIn}
use Rattle.sq_ast.specs.declared.program.Program.{Program}
use Rattle.sq_machfile.specs.declared.level.Level.{Level}
use Rattle.sq_mapfile.specs.declared.text.Alternatives.{Alternatives}
use Rattle.sq_mapping.specs.declared.mapping.Instance.{Instance}
use Rattle.sq_mapping.specs.declared.mapping.Mapping.{Mapping}
use Rattle.sq_mapfile.specs.declared.text.SizeText.{SizeText}
use Rattle.sq_mapfile.specs.declared.text.ItemText.{ItemText}
use Rattle.sq_mapfile.specs.declared.text.ItemText.TheVariants.{Tunable, Call, Spread}
use Rattle.sq_mapfile.specs.declared.text.InstanceText.{InstanceText}
use Rattle.sq_mapfile.specs.declared.text.MappingText.{MappingText}
use Rattle.sq_mapping.specs.Names.{is_among, at_index, variant_of}
use Rattle.sq_mapfile.specs.Names.{stands_before, instance_of, has_task}
use Rattle.sq_mapping.specs.Required.{Required, required_by}
use Rattle.sq_mapfile.specs.Faults as f
use Rattle.sq_mapfile.specs.Notes as notes
use Rattle.sq_mapfile.proofs.Listed.{listed}
use Rattle.sq_mapping.specs.Sound.{is_list}
use Rattle.sq_mapfile.specs.Faults.{Rule, breach_of, Scope, scope, Inside, inside, required_of, required_at, level_at, level_in, is_skip, is_other, is_other_kind, is_no_tunable, is_no_size, is_uncalled, is_of_other_task, is_below_root, missing_call, missing_tunable, missing_size, is_leaf, has_call, has_tunable, has_size, NameFault}
use Rattle.sq_mapping.specs.declared.mapping.Tuning.{Tuning}
use Rattle.sq_mapping.specs.declared.mapping.Route.{Route}
use Rattle.sq_mapping.specs.declared.mapping.SizeSet.{SizeSet}
use Rattle.sq_ast.specs.declared.program.Variant.{Variant}
use Rattle.sq_mapfile.specs.Mappings.{Resolves, SpreadsOnce, IsInstance, AreInstances, none_left, one_more}
use Rattle.sq_mapping.specs.Sound.{EachOnce, InstanceFits, Sound}
use Rattle.sq_mapping.proofs.Same.{itself}
use Rattle.sq_mapfile.proofs.Once.{names}
use Rattle.sq_mapfile.proofs.Facts.{call_name, tunable_name, size_name, instance_name, call_first, tunable_first, has_call_among, has_tunable_among, has_size_among, tuning_names, set_names}
use Rattle.sq_mapfile.proofs.Kept.{AllNone}
use Rattle.sq_mapfile.proofs.Converse.{not_itself, none_named_before, among_at, all_given, task_there, made_at, Text, text_at, tasks_of, route_at, tuning_at}

-- ---- no breach

no_word : (c : Code) (w : Word) (b : Bool) → b ≡ false → at_word c w b ≡ None
no_word c w b e = rw e refl

no_lack : (c : Code) (w : Word) (o : Option Bytes) → o ≡ None → at_lack c w o ≡ None
no_lack c w o e = rw e refl

no_place : (c : Code) (p : Place) (b : Bool) → b ≡ false → at_place c p b ≡ None
no_place c p b e = rw e refl

pub no_faults : (rules : List Rule) → AllNone rules → (g : Fault) → BreaksIn breach_of phase.Mapping rules g → ⊥
no_faults [] h g b = b
no_faults (rule ∷ rules) h g (inl e) = let none : None ≡ Some g = sym (ap (option_map _) h.0) ∙ e in absurd (cc)
no_faults (rule ∷ rules) h g (inr b) = no_faults rules h.1 g b

not_true : (b : Bool) → b ≡ true → not b ≡ false
not_true b e = ap not e

is_some_not_none : {A : Type 0} (o : Option A) (x : A) → o ≡ Some x → is_none o ≡ false
is_some_not_none o x e = ap is_none e

same_setting : (b : Bool) → not (beq b b) ≡ false
same_setting true = refl
same_setting false = refl

no_skip : (a b : ℕ) → (b ≡ a) ⊎ (b ≡ suc a) → is_skip (Some a) (Some b) ≡ false
no_skip a b (inl e) = let t : eqb b a ≡ true = (Decides-eqb b a).1 e in ap (λ x. not (x || eqb b (suc a))) t
no_skip a b (inr e) = let t : eqb b (suc a) ≡ true = (Decides-eqb b (suc a)).1 e in ap (λ x. not (eqb b a || x)) t ∙ either (eqb b a)
  where
    either : (x : Bool) → not (x || true) ≡ false
    either true = refl
    either false = refl

and_false : (b : Bool) → (b && false) ≡ false
and_false true = refl
and_false false = refl

names_made : {levels : List Level} {instances xs : List InstanceText} {found : List Instance} → AreInstances levels instances xs found → map (λ (a : Instance). a.name) found ≡ names instance_name xs
names_made none_left = refl
names_made (one_more {x = x} {rest = rest} h more) = ap (λ n. n ∷ map (λ (a : Instance). a.name) rest) h.name ∙ ap (λ ns. x.name.name ∷ ns) (names_made more)

module _ (program : Program) (levels : List Level) (m : MappingText) (mapping : Mapping) (resolves : Resolves levels m mapping) (sound : Sound program levels mapping) (spreads : SpreadsOnce m) where
  abbrev s : Scope
  s = scope program levels m

  variant_is : (x : InstanceText) (a : Instance) (v : Variant) → IsInstance levels m.instances x a → variant_of program.tasks a.task a.kind ≡ Some v
      → variant_of program.tasks x.task.name x.kind ≡ Some v
  variant_is x a v d runs = subst (λ t. variant_of program.tasks t x.kind ≡ Some v) d.task (subst (λ k. variant_of program.tasks a.task k ≡ Some v) d.kind runs)

  -- ---- an instance

  module _ (i : ℕ) (x : InstanceText) (at : slice_get m.instances i ≡ Some x) (a : Instance) (d : IsInstance levels m.instances x a) (fits : InstanceFits program levels mapping a) where
    abbrev r : Required
    r = required_by fits.variant

    variant : variant_of program.tasks x.task.name x.kind ≡ Some fits.variant
    variant = variant_is x a fits.variant d fits.runs

    required : required_of s x ≡ Some r
    required = ap (option_map required_by) variant

    tasks : map (λ (route : Route). route.task) a.routes ≡ names call_name x.items
    tasks = tasks_of d.routes

    tunings : map (λ (t : Tuning). t.name) a.tunings ≡ names tunable_name x.items
    tunings = ap (map (λ (t : Tuning). t.name)) d.tunings ∙ tuning_names x.items

    call_given : (n : Bytes) → is_among r.calls n ≡ true → has_call x.items n ≡ true
    call_given n w = has_call_among x.items n ∙ subst (λ ns. is_among ns n ≡ true) tasks (fits.calls.all n w)

    tunable_given : (n : Bytes) → is_among (map (λ t. t.0) r.tunables) n ≡ true → has_tunable x.items n ≡ true
    tunable_given n w = has_tunable_among x.items n ∙ subst (λ ns. is_among ns n ≡ true) tunings (fits.tunables.all n w)

    kind_there : (k : ℕ) (name : Word) (values : Alternatives) → slice_get x.items k ≡ Some (Tunable name values) → lookup (same_name name.name) r.tunables ≡ Some (is_list values.first)
    kind_there k name values there =
        let t = tuning_at x.items k name values there in
        fits.kinds t.index (record { name = name.name; setting = values.first }) (ap (λ ts. slice_get ts t.index) d.tunings ∙ t.there)

    item_none : (k : ℕ) (y : ItemText) → slice_get x.items k ≡ Some y → (later : List Rule) → AllNone later → AllNone (notes.item_rules (inside s x) k y later)
    item_none k (Tunable name values) there later h =
        let again = ap (λ o. stands_before o k) (tunable_first x.items name.name)
        ∙ none_named_before tunable_name x.items (subst EachOnce tunings fits.tunables.once) k (Tunable name values) name.name there refl in
        let kind = kind_there k name values there in
        let known = ap (λ o. is_no_tunable o name.name) required ∙ ap is_none kind in
        let same_kind = ap (λ o. is_other_kind o name.name values.first) required ∙ (ap (λ o. is_other o values.first) kind ∙ same_setting (is_list values.first)) in
        (no_word code.DupItem name _ again, (no_word code.TunableUnknown name _ known, (no_word code.TunableKind name _ same_kind, h)))
    item_none k (Spread word rule) there later h =
        let again = ap (λ o. stands_before o k) (spreads.once i k x word rule at there) ∙ not_itself k in
        (no_word code.DupItem word _ again, (no_place code.SpreadLeaf word.place _ (ap is_leaf (spreads.inner i k x word rule at there)), h))
    item_none k (Call task name) there later h =
        let again = ap (λ o. stands_before o k) (call_first x.items task.name)
        ∙ none_named_before call_name x.items (subst EachOnce tasks fits.calls.once) k (Call task name) task.name there refl in
        let among = subst (λ ns. is_among ns task.name ≡ true) (sym tasks) (among_at call_name x.items k (Call task name) task.name there refl) in
        let known = ap (λ o. is_uncalled o task.name) required ∙ not_true (is_among r.calls task.name) (fits.calls.only task.name among) in
        let to = route_at d.routes k task name there in
        let leads = fits.routes to.index to.route to.there in
        let t = text_at resolves.instances to.route.instance leads.callee leads.there in
        let found : instance_of m.instances name.name ≡ Some t.text = ap (at_index m.instances) to.to ∙ t.there in
        let same_task : task.name ≡ t.text.task.name = sym to.task_is ∙ (sym leads.task ∙ t.is.task) in
        let kind = ap (λ o. is_of_other_task o task.name) found
        ∙ not_true (same_name task.name t.text.task.name) (subst (λ n. same_name task.name n ≡ true) same_task (itself task.name)) in
        let skip = ap (λ l. is_skip l (level_at s (instance_of m.instances name.name))) d.level
        ∙ (ap (λ o. is_skip (Some a.level) (level_at s o)) found ∙ (ap (λ l. is_skip (Some a.level) l) t.is.level ∙ no_skip a.level leads.callee.level leads.level)) in (
          no_word code.DupItem task _ again,
          (
            no_word code.CallUnknown task _ known,
            (
              no_word code.NoInstance name _ (ap is_none to.to),
              (no_word code.CallTask name _ kind, (no_word code.LevelSkip name _ skip, h)),
            ),
          ),
        )

    items_none : (k : ℕ) (rest : List ItemText) → ((j : ℕ) (y : ItemText) → slice_get rest j ≡ Some y → slice_get x.items (k + j) ≡ Some y)
        → (later : List Rule) → AllNone later → AllNone (notes.items_rules (inside s x) k rest later)
    items_none k [] within later h = h
    items_none k (y ∷ rest) within later h =
        let zero_at : k + 0 ≡ k = omega arith in
        item_none k y (ap (slice_get x.items) (sym zero_at) ∙ within 0 y refl) (notes.items_rules (inside s x) (suc k) rest later)
        (items_none (suc k) rest (λ j z there. let next : suc k + j ≡ k + suc j = omega arith in ap (slice_get x.items) next ∙ within (suc j) z there) later h)

    instance_none : (later : List Rule) → AllNone later → AllNone (notes.instance_rules s i x later)
    instance_none later h =
        let again = none_named_before instance_name m.instances (subst EachOnce (names_made resolves.instances) sound.names) i x x.name.name at refl in
        let calls = ap (λ o. missing_call o x.items) required ∙ all_given (has_call x.items) r.calls call_given in
        let tunables = ap (λ o. missing_tunable o x.items) required ∙ all_given (has_tunable x.items) (map (λ t. t.0) r.tunables) tunable_given in
        let task = not_true (has_task program.tasks x.task.name) (task_there program.tasks x.task.name x.kind fits.variant variant) in
        let kind = ap (λ o. has_task program.tasks x.task.name && is_none o) variant ∙ and_false (has_task program.tasks x.task.name) in (
          no_word code.DupInstance x.name _ again,
          (
            no_lack code.CallMissing x.name _ calls,
            (
              no_lack code.TunableMissing x.name _ tunables,
              (
                no_word code.NoTask x.task _ task,
                (
                  no_word code.NoVariant x.task _ kind,
                  (
                    no_word code.NoLevel x.level _ (ap is_none d.level),
                    items_none 0 x.items (λ j y there. let e : j ≡ 0 + j = omega arith in ap (slice_get x.items) (sym e) ∙ there) later h,
                  ),
                ),
              ),
            ),
          ),
        )

  -- ---- all instances

  instances_none : (k : ℕ) (rest : List InstanceText) → ((j : ℕ) (y : InstanceText) → slice_get rest j ≡ Some y → slice_get m.instances (k + j) ≡ Some y) → AllNone (notes.instances_rules s k rest)
  instances_none k [] within = tt
  instances_none k (x ∷ rest) within =
      let zero_at : k + 0 ≡ k = omega arith in
      let at : slice_get m.instances k ≡ Some x = ap (slice_get m.instances) (sym zero_at) ∙ within 0 x refl in
      let made = made_at resolves.instances k x at in
      instance_none k x at made.instance made.is (sound.instances k made.instance made.there) (notes.instances_rules s (suc k) rest)
      (instances_none (suc k) rest (λ j z there. let next : suc k + j ≡ k + suc j = omega arith in ap (slice_get m.instances) next ∙ within (suc j) z there))

  -- ---- the entry

  sizes_are : map (λ (size : SizeSet). size.name) mapping.sizes ≡ names size_name m.sizes
  sizes_are = ap (map (λ (size : SizeSet). size.name)) resolves.sizes ∙ set_names m.sizes

  abbrev wanted : Required
  wanted = required_by sound.entry.variant

  abbrev entry_text : Text levels m.instances m.instances mapping.entry sound.entry.entry
  entry_text = text_at resolves.instances mapping.entry sound.entry.entry sound.entry.there

  found : instance_of m.instances m.entry.name ≡ Some entry_text.text
  found = ap (at_index m.instances) resolves.entry ∙ entry_text.there

  entry_required : required_at s (instance_of m.instances m.entry.name) ≡ Some wanted
  entry_required = ap (required_at s) found ∙ ap (option_map required_by) (variant_is entry_text.text sound.entry.entry sound.entry.variant entry_text.is sound.entry.runs)

  sizes_none : (k : ℕ) (rest : List SizeText) → ((j : ℕ) (y : SizeText) → slice_get rest j ≡ Some y → slice_get m.sizes (k + j) ≡ Some y)
      → (later : List Rule) → AllNone later → AllNone (notes.sizes_rules (required_at s (instance_of m.instances m.entry.name)) m.sizes k rest later)
  sizes_none k [] within later h = h
  sizes_none k (y ∷ rest) within later h =
      let zero_at : k + 0 ≡ k = omega arith in
      let at : slice_get m.sizes k ≡ Some y = ap (slice_get m.sizes) (sym zero_at) ∙ within 0 y refl in
      let again = none_named_before size_name m.sizes (subst EachOnce sizes_are sound.entry.sizes.once) k y y.name.name at refl in
      let among = subst (λ ns. is_among ns y.name.name ≡ true) (sym sizes_are) (among_at size_name m.sizes k y y.name.name at refl) in
      let known = ap (λ o. is_no_size o y.name.name) entry_required ∙ not_true (is_among wanted.sizes y.name.name) (sound.entry.sizes.only y.name.name among) in (
        no_word code.DupItem y.name _ again,
        (
          no_word code.SizeUnknown y.name _ known,
          sizes_none (suc k) rest (λ j z there. let next : suc k + j ≡ k + suc j = omega arith in ap (slice_get m.sizes) next ∙ within (suc j) z there) later h,
        ),
      )

  size_given : (n : Bytes) → is_among wanted.sizes n ≡ true → has_size m.sizes n ≡ true
  size_given n w = has_size_among m.sizes n ∙ subst (λ ns. is_among ns n ≡ true) sizes_are (sound.entry.sizes.all n w)

  names_none : AllNone (notes.name_rules program levels m)
  names_none =
      let root = ap (λ o. is_below_root (level_at s o)) found ∙ (ap is_below_root entry_text.is.level ∙ ap (λ l. not (eqb l 0)) sound.entry.root) in
      let missing = ap (λ o. missing_size o m.sizes) entry_required ∙ all_given (has_size m.sizes) wanted.sizes size_given in (
        no_word code.NoInstance m.entry _ (ap is_none resolves.entry),
        (
          no_word code.LevelSkip m.entry _ root,
          (
            no_lack code.SizeMissing m.entry _ missing,
            sizes_none 0 m.sizes (λ j y there. let e : j ≡ 0 + j = omega arith in ap (slice_get m.sizes) (sym e) ∙ there) (notes.instances_rules s 0 m.instances)
                (instances_none 0 m.instances (λ j y there. let e : j ≡ 0 + j = omega arith in ap (slice_get m.instances) (sym e) ∙ there)),
          ),
        ),
      )

  pub no_name_fault : (g : Fault) → NameFault program levels m g → ⊥
  no_name_fault g h = no_faults (f.name_rules program levels m) (subst AllNone (listed program levels m) names_none) g h
