-- Where the choices of a text break no rule, no choice of them does.
use Rattle.std.proofs.Common.{◌≡◌, inl, inr, ℕ, zero, suc, ◌==◌, Bool, true, false, if◌then◌else◌, List, [], ◌∷◌, Option, None, is_none, slice_get, sym, ◌∙◌, ap, subst}
use Rattle.sq_text.specs.declared.code.Code.TheVariants as code
use Rattle.sq_text.specs.declared.fault.Fault.{Fault}
use Rattle.sq_text.specs.declared.word.Word.{Word}
use Rattle.sq_text.specs.First.{HoldsIn}
use Rattle.sq_text.specs.Found.{at_word, at_lack}
use Rattle.sq_ast.specs.declared.program.Program.{Program}
use Rattle.sq_machfile.specs.declared.level.Level.{Level}
use Rattle.sq_mapping.specs.declared.mapping.Setting.{Setting}
use Rattle.sq_mapfile.specs.declared.text.Alternatives.{Alternatives}
use Rattle.sq_mapfile.specs.declared.text.SizeText.{SizeText}
use Rattle.sq_mapfile.specs.declared.text.ItemText.{ItemText}
use Rattle.sq_mapfile.specs.declared.text.ItemText.TheVariants.{Tunable, Call, Spread}
use Rattle.sq_mapfile.specs.declared.text.InstanceText.{InstanceText}
use Rattle.sq_mapfile.specs.declared.text.MappingText.{MappingText}
use Rattle.sq_mapfile.specs.declared.digits.Digits.{Digits}
use Rattle.sq_mapfile.specs.Names.{stands_before, instance_of}
use Rattle.sq_mapping.specs.Required.{Required}
use Rattle.sq_mapfile.specs.Faults as f
use Rattle.sq_mapfile.specs.Faults.{Rule, Scope, scope, inside, required_of, required_at, NameFault}
use Rattle.sq_mapfile.specs.Notes as notes
use Rattle.sq_mapfile.specs.Cycles.{CycleFault, IsOnCycle}
use Rattle.sq_mapfile.specs.Mappings.{BreaksRule}
use Rattle.sq_mapfile.specs.Digits.{setting_or, alternative, pick, past}
use Rattle.sq_mapfile.specs.Choices as rules
use Rattle.sq_mapfile.specs.Choices.{BreaksChoices, choice_rules, item_count, items_count}
use Rattle.sq_mapfile.proofs.Listed.{listed}
use Rattle.sq_mapfile.proofs.Kept.{AllNone, all_none, ItemsKeep, InstancesKeep, SizesKeep, Keeps, keeps}
use Rattle.sq_mapfile.proofs.Unbroken.{no_faults}
use Rattle.sq_mapfile.proofs.Picks.{items_at, instance_at, instance_past, instances_at, text_at}
use Rattle.sq_mapfile.proofs.Alone.{index_same}
use Rattle.sq_mapfile.proofs.Unchanged.{tunable_same, call_same, spread_index_same, missing_call_same, missing_tunable_same, level_same, task_same, required_same, calls_same}

-- ---- kinds of alternatives

abbrev AreOfKind : Option Required → Word → List Setting → Type 0
AreOfKind required name [] = Unit {0}
AreOfKind required name (setting ∷ rest) = (f.tunable_kind required name setting ≡ None) × AreOfKind required name rest

abbrev ItemsOfKind : Option Required → List ItemText → Type 0
ItemsOfKind required [] = Unit {0}
ItemsOfKind required (Tunable name its ∷ rest) = AreOfKind required name its.others × ItemsOfKind required rest
ItemsOfKind required (_ ∷ rest) = ItemsOfKind required rest

abbrev InstancesOfKind : Scope → List InstanceText → Type 0
InstancesOfKind s [] = Unit {0}
InstancesOfKind s (x ∷ rest) = ItemsOfKind (required_of s x) x.items × InstancesOfKind s rest

others_of_kind : (required : Option Required) (name : Word) (others : List Setting) (later : List Rule) → AllNone (rules.kind_rules required name others later)
    → AreOfKind required name others × AllNone later
others_of_kind required name [] later h = (tt, h)
others_of_kind required name (setting ∷ rest) later h = let more = others_of_kind required name rest later h.1 in ((h.0, more.0), more.1)

items_of_kind : (required : Option Required) (count : ℕ) (items : List ItemText) (later : List Rule) → AllNone (rules.items_rules required count items later)
    → ItemsOfKind required items × AllNone later
items_of_kind required count [] later h = (tt, h)
items_of_kind required count (Tunable name its ∷ rest) later h =
    let one = others_of_kind required name its.others (rules.items_rules required (item_count count (Tunable name its)) rest later) h.1 in
    let more = items_of_kind required (item_count count (Tunable name its)) rest later one.1 in ((one.0, more.0), more.1)
items_of_kind required count (Call task name ∷ rest) later h = items_of_kind required count rest later h
items_of_kind required count (Spread word rule ∷ rest) later h = items_of_kind required count rest later h

instances_of_kind : (s : Scope) (count : ℕ) (xs : List InstanceText) (later : List Rule) → AllNone (rules.instances_rules s count xs later) → InstancesOfKind s xs
instances_of_kind s count [] later h = tt
instances_of_kind s count (x ∷ rest) later h =
    let one = items_of_kind (required_of s x) count x.items (rules.instances_rules s (items_count count x.items) rest later) h in
    (one.0, instances_of_kind s (items_count count x.items) rest later one.1)

-- the alternative that is picked is of its kind
one_of_kind : (required : Option Required) (name : Word) (first : Setting) (others : List Setting) (k : ℕ) → f.tunable_kind required name first ≡ None
    → AreOfKind required name others → f.tunable_kind required name (setting_or first (slice_get others k)) ≡ None
one_of_kind required name first [] k h all = h
one_of_kind required name first (setting ∷ rest) zero h all = all.0
one_of_kind required name first (setting ∷ rest) (suc k) h all = one_of_kind required name first rest k h all.1

either_of_kind : (required : Option Required) (name : Word) (a b : Setting) (test : Bool) → f.tunable_kind required name a ≡ None → f.tunable_kind required name b ≡ None
    → f.tunable_kind required name (if test then a else b) ≡ None
either_of_kind required name a b true h g = h
either_of_kind required name a b false h g = g

picked_of_kind : (required : Option Required) (name : Word) (its : Alternatives) (d : Digits) → f.tunable_kind required name its.first ≡ None → AreOfKind required name its.others
    → f.tunable_kind required name (pick d its) ≡ None
picked_of_kind required name its d h all = alternative_of_kind _
  where
    alternative_of_kind : (k : ℕ) → f.tunable_kind required name (alternative its k) ≡ None
    alternative_of_kind k = either_of_kind required name its.first _ (k == 0) h (one_of_kind required name its.first its.others _ h all)

-- ---- the rules of a choice

module _ (program : Program) (levels : List Level) (m : MappingText) (d : Digits) where
  abbrev chosen : MappingText
  chosen = text_at m d

  abbrev old : Scope
  old = scope program levels m

  abbrev new : Scope
  new = scope program levels chosen

  module _ (x : InstanceText) (e : Digits) where
    items_none : (k : ℕ) (t : Digits) (rest : List ItemText) → ItemsKeep (inside old x) k rest → ItemsOfKind (required_of old x) rest → (later : List Rule) → AllNone later
        → AllNone (notes.items_rules (inside new (instance_at e x)) k (items_at t rest) later)
    items_none k t [] keep kinds later h = h
    items_none k t (Tunable name its ∷ rest) keep kinds later h = (
      ap (λ o. f.dup_item o k name) (tunable_same e x.items name.name) ∙ keep.0.again,
      (keep.0.unknown, (picked_of_kind (required_of old x) name its t keep.0.kind kinds.0, items_none (suc k) (past t its) rest keep.1 kinds.1 later h)),
    )
    items_none k t (Call task name ∷ rest) keep kinds later h = (
      ap (λ o. f.dup_item o k task) (call_same e x.items task.name) ∙ keep.0.again,
      (
        keep.0.unknown,
        (
          ap (λ o. at_word code.NoInstance name (is_none o)) (index_same d m.instances name.name) ∙ keep.0.there,
          (
            ap (λ b. at_word code.CallTask name b) (task_same task.name d m.instances name.name) ∙ keep.0.kind,
            (
              ap (λ o. f.level_skip (inside old x).level o name) (level_same levels d m.instances name.name) ∙ keep.0.skip,
              items_none (suc k) t rest keep.1 kinds later h,
            ),
          ),
        ),
      ),
    )
    items_none k t (Spread word rule ∷ rest) keep kinds later h = (
      ap (λ o. f.dup_item o k word) (spread_index_same e x.items) ∙ keep.0.again,
      (keep.0.kind, items_none (suc k) t rest keep.1 kinds later h),
    )

  instances_none : (k : ℕ) (e : Digits) (rest : List InstanceText) → InstancesKeep old k rest → InstancesOfKind old rest → AllNone (notes.instances_rules new k (instances_at e rest))
  instances_none k e [] keep kinds = tt
  instances_none k e (x ∷ rest) keep kinds = (
    ap (λ o. at_word code.DupInstance x.name (stands_before o k)) (index_same d m.instances x.name.name) ∙ keep.0.again,
    (
      ap (λ o. at_lack code.CallMissing x.name o) (missing_call_same (required_of old x) e x.items) ∙ keep.0.calls,
      (
        ap (λ o. at_lack code.TunableMissing x.name o) (missing_tunable_same (required_of old x) e x.items) ∙ keep.0.tunables,
        (
          keep.0.task,
          (
            keep.0.kind,
            (
              keep.0.level,
              items_none x e 0 e x.items keep.0.items kinds.0 (notes.instances_rules new (suc k) (instances_at (instance_past e x) rest))
                  (instances_none (suc k) (instance_past e x) rest keep.1 kinds.1),
            ),
          ),
        ),
      ),
    ),
  )

  sizes_none : (required : Option Required) (i : ℕ) (rest : List SizeText) → SizesKeep required m.sizes i rest → (later : List Rule) → AllNone later
      → AllNone (notes.sizes_rules required m.sizes i rest later)
  sizes_none required i [] keep later h = h
  sizes_none required i (size ∷ rest) keep later h = (keep.0.again, (keep.0.unknown, sizes_none required (suc i) rest keep.1 later h))

  names_none : Keeps old m → InstancesOfKind old m.instances → AllNone (notes.name_rules program levels chosen)
  names_none keep kinds =
      let required = required_same new d m.instances m.entry.name in (
        ap (λ o. at_word code.NoInstance m.entry (is_none o)) (index_same d m.instances m.entry.name) ∙ keep.entry,
        (
          ap (λ o. f.entry_skip o m.entry) (level_same levels d m.instances m.entry.name) ∙ keep.skip,
          (
            ap (λ o. f.size_missing o m.entry m.sizes) required ∙ keep.missing,
            sizes_none (required_at new (instance_of chosen.instances m.entry.name)) 0 m.sizes
                (subst (λ o. SizesKeep o m.sizes 0 m.sizes) (sym required) keep.sizes)
                (notes.instances_rules new 0 chosen.instances) (instances_none 0 d m.instances keep.instances kinds),
          ),
        ),
      )

  -- no rule of names is broken
  pub no_name : ((g : Fault) → BreaksChoices program levels m g → ⊥) → (g : Fault) → NameFault program levels chosen g → ⊥
  no_name none =
      let keep = keeps program levels m (λ g h. none g (inl (inl h))) in
      let kinds = instances_of_kind old 1 m.instances [] (all_none (choice_rules program levels m) (λ g h. none g (inr h))) in
      no_faults (f.name_rules program levels chosen) (subst AllNone (listed program levels chosen) (names_none keep kinds))

  -- and no call lies on a cycle
  pub no_cycle : ((g : Fault) → BreaksChoices program levels m g → ⊥) → (g : Fault) → CycleFault chosen g → ⊥
  no_cycle none g h = none g (inl (inr (subst (λ calls. HoldsIn (IsOnCycle calls) calls g) (calls_same d m.instances) h)))

  pub no_rule : ((g : Fault) → BreaksChoices program levels m g → ⊥) → (g : Fault) → BreaksRule program levels chosen g → ⊥
  no_rule none g (inl h) = no_name none g h
  no_rule none g (inr h) = no_cycle none g h
