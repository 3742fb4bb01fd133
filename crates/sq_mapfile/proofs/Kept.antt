-- What a mapping keeps where no fault of a name holds: no rule is broken.
use Rattle.std.proofs.Common.{◌≡◌, ℕ, zero, suc, ◌+◌, Bool, true, false, List, [], ◌∷◌, Option, Some, None, option_map, refl, inl, inr, subst, arith, sym}
use Rattle.std.specs.List.{slice_get}
use Rattle.sq_text.specs.Names.{Bytes}
use Rattle.sq_text.specs.declared.place.Place.{Place}
use Rattle.sq_text.specs.declared.code.Phase.TheVariants as phase
use Rattle.sq_text.specs.declared.code.Code.{Code}
use Rattle.sq_text.specs.declared.fault.Fault.{Fault}
use Rattle.sq_text.specs.Found.{fault_by, at_word, at_lack, at_place, BreaksIn}
use Rattle.sq_text.specs.declared.word.Word.{Word}
use Rattle.sq_ast.specs.declared.program.Program.{Program}
use Rattle.sq_machfile.specs.declared.level.Level.{Level}
use Rattle.sq_mapping.specs.declared.mapping.Setting.{Setting}
use Rattle.sq_mapfile.specs.declared.text.SizeText.{SizeText}
use Rattle.sq_mapfile.specs.declared.text.ItemText.{ItemText}
use Rattle.sq_mapfile.specs.declared.text.ItemText.TheVariants.{Tunable, Call, Spread}
use Rattle.sq_mapfile.specs.declared.text.InstanceText.{InstanceText}
use Rattle.sq_mapfile.specs.declared.text.MappingText.{MappingText}
use Rattle.sq_mapfile.specs.Names.{instance_of, tunable_index, call_index, spread_index, size_index}
use Rattle.sq_mapping.specs.Required.{Required}
use Rattle.sq_mapfile.specs.Faults as f
use Rattle.sq_mapfile.specs.Notes as notes
use Rattle.sq_mapfile.proofs.Listed.{listed}
use Rattle.sq_mapfile.specs.Faults.{Rule, Inside, inside, breach_of, NameFault, Scope, scope, required_of, required_at, level_at}

abbrev pub AllNone : List Rule → Type 0
AllNone [] = Unit {0}
AllNone (o ∷ os) = (o ≡ None) × AllNone os

no_fault : (o : Rule) → ((g : Fault) → option_map (fault_by phase.Mapping) o ≡ Some g → ⊥) → o ≡ None
no_fault None h = refl
no_fault (Some b) h = absurd (h (fault_by phase.Mapping b) refl)

pub all_none : (os : List Rule) → ((g : Fault) → BreaksIn breach_of phase.Mapping os g → ⊥) → AllNone os
all_none [] h = tt
all_none (o ∷ os) h = (no_fault o (λ g e. h g (inl e)), all_none os (λ g e. h g (inr e)))

pub unbroken : (c : Code) (w : Word) (b : Bool) → at_word c w b ≡ None → b ≡ false
unbroken c w true e = absurd (cc)
unbroken c w false e = refl

pub none_lacks : (c : Code) (w : Word) (o : Option Bytes) → at_lack c w o ≡ None → o ≡ None
none_lacks c w None h = refl
none_lacks c w (Some name) h = absurd (cc)

pub not_there : (c : Code) (p : Place) (b : Bool) → at_place c p b ≡ None → b ≡ false
not_there c p true e = absurd (cc)
not_there c p false e = refl

-- ---- items

pub record TunableKeeps (n : Inside) (i : ℕ) (name : Word) (setting : Setting) : Type 0 where
  pub again : f.dup_item (tunable_index n.items name.name) i name ≡ None
  pub unknown : f.tunable_unknown n.required name ≡ None
  pub kind : f.tunable_kind n.required name setting ≡ None

pub record CallKeeps (n : Inside) (i : ℕ) (task name : Word) : Type 0 where
  pub again : f.dup_item (call_index n.items task.name) i task ≡ None
  pub unknown : f.call_unknown n.required task ≡ None
  pub there : f.no_instance n.scope.instances name ≡ None
  pub kind : f.call_task (instance_of n.scope.instances name.name) task.name name ≡ None
  pub skip : f.level_skip n.level (level_at n.scope (instance_of n.scope.instances name.name)) name ≡ None

pub record SpreadKeeps (n : Inside) (i : ℕ) (word : Word) : Type 0 where
  pub again : f.dup_item (spread_index n.items) i word ≡ None
  pub kind : f.spread_leaf n.kind word ≡ None

abbrev pub ItemKeeps : Inside → ℕ → ItemText → Type 0
ItemKeeps n i (Tunable name values) = TunableKeeps n i name values.first
ItemKeeps n i (Call task name) = CallKeeps n i task name
ItemKeeps n i (Spread word rule) = SpreadKeeps n i word

abbrev pub ItemsKeep : Inside → ℕ → List ItemText → Type 0
ItemsKeep n i [] = Unit {0}
ItemsKeep n i (x ∷ rest) = ItemKeeps n i x × ItemsKeep n (suc i) rest

items_keep : (n : Inside) (i : ℕ) (items : List ItemText) (later : List Rule) → AllNone (notes.items_rules n i items later) → ItemsKeep n i items × AllNone later
items_keep n i [] later h = (tt, h)
items_keep n i (Tunable name values ∷ rest) later h =
    let more = items_keep n (suc i) rest later h.1.1.1 in ((record { again = h.0; unknown = h.1.0; kind = h.1.1.0 }, more.0), more.1)
items_keep n i (Call task name ∷ rest) later h =
    let more = items_keep n (suc i) rest later h.1.1.1.1.1 in
    ((record { again = h.0; unknown = h.1.0; there = h.1.1.0; kind = h.1.1.1.0; skip = h.1.1.1.1.0 }, more.0), more.1)
items_keep n i (Spread word rule ∷ rest) later h =
    let more = items_keep n (suc i) rest later h.1.1 in ((record { again = h.0; kind = h.1.0 }, more.0), more.1)

pub item_at : (n : Inside) (i : ℕ) (items : List ItemText) → ItemsKeep n i items → (k : ℕ) (x : ItemText) → slice_get items k ≡ Some x → ItemKeeps n (i + k) x
item_at n i [] h k x at = absurd (cc)
item_at n i (y ∷ rest) h zero x at =
    let is : y ≡ x = cc in let e : i ≡ i + 0 = omega arith in subst (λ k. ItemKeeps n k x) e (subst (ItemKeeps n i) is h.0)
item_at n i (y ∷ rest) h (suc k) x at =
    let e : suc i + k ≡ i + suc k = omega arith in subst (λ k. ItemKeeps n k x) e (item_at n (suc i) rest h.1 k x at)

-- ---- instances

pub record InstanceKeeps (s : Scope) (i : ℕ) (x : InstanceText) : Type 0 where
  pub again : f.dup_instance s.instances i x.name ≡ None
  pub calls : f.call_missing (required_of s x) x.name x.items ≡ None
  pub tunables : f.tunable_missing (required_of s x) x.name x.items ≡ None
  pub task : f.no_task s.variants x.task ≡ None
  pub kind : f.no_variant s.variants x.task x.kind ≡ None
  pub level : f.no_level s.levels x.level ≡ None
  pub items : ItemsKeep (inside s x) 0 x.items

abbrev pub InstancesKeep : Scope → ℕ → List InstanceText → Type 0
InstancesKeep s i [] = Unit {0}
InstancesKeep s i (x ∷ rest) = InstanceKeeps s i x × InstancesKeep s (suc i) rest

instances_keep : (s : Scope) (i : ℕ) (xs : List InstanceText) → AllNone (notes.instances_rules s i xs) → InstancesKeep s i xs
instances_keep s i [] h = tt
instances_keep s i (x ∷ rest) h =
    let items = items_keep (inside s x) 0 x.items (notes.instances_rules s (suc i) rest) h.1.1.1.1.1.1 in (
      record { again = h.0; calls = h.1.0; tunables = h.1.1.0; task = h.1.1.1.0; kind = h.1.1.1.1.0; level = h.1.1.1.1.1.0; items = items.0 },
      instances_keep s (suc i) rest items.1,
    )

pub instance_at : (s : Scope) (i : ℕ) (xs : List InstanceText) → InstancesKeep s i xs → (k : ℕ) (x : InstanceText) → slice_get xs k ≡ Some x → InstanceKeeps s (i + k) x
instance_at s i [] h k x at = absurd (cc)
instance_at s i (y ∷ rest) h zero x at =
    let is : y ≡ x = cc in let e : i ≡ i + 0 = omega arith in subst (λ k. InstanceKeeps s k x) e (subst (InstanceKeeps s i) is h.0)
instance_at s i (y ∷ rest) h (suc k) x at =
    let e : suc i + k ≡ i + suc k = omega arith in subst (λ k. InstanceKeeps s k x) e (instance_at s (suc i) rest h.1 k x at)

-- ---- the entry

pub record SizeKeeps (required : Option Required) (sizes : List SizeText) (i : ℕ) (size : SizeText) : Type 0 where
  pub again : f.dup_item (size_index sizes size.name.name) i size.name ≡ None
  pub unknown : f.size_unknown required size.name ≡ None

abbrev pub SizesKeep : Option Required → List SizeText → ℕ → List SizeText → Type 0
SizesKeep required sizes i [] = Unit {0}
SizesKeep required sizes i (size ∷ rest) = SizeKeeps required sizes i size × SizesKeep required sizes (suc i) rest

sizes_keep : (required : Option Required) (sizes : List SizeText) (i : ℕ) (rest : List SizeText) (later : List Rule)
    → AllNone (notes.sizes_rules required sizes i rest later) → SizesKeep required sizes i rest × AllNone later
sizes_keep required sizes i [] later h = (tt, h)
sizes_keep required sizes i (size ∷ rest) later h =
    let more = sizes_keep required sizes (suc i) rest later h.1.1 in ((record { again = h.0; unknown = h.1.0 }, more.0), more.1)

pub size_at : (required : Option Required) (sizes : List SizeText) (i : ℕ) (xs : List SizeText) → SizesKeep required sizes i xs → (k : ℕ) (x : SizeText) → slice_get xs k ≡ Some x
    → SizeKeeps required sizes (i + k) x
size_at required sizes i [] h k x at = absurd (cc)
size_at required sizes i (y ∷ rest) h zero x at =
    let is : y ≡ x = cc in let e : i ≡ i + 0 = omega arith in subst (λ k. SizeKeeps required sizes k x) e (subst (SizeKeeps required sizes i) is h.0)
size_at required sizes i (y ∷ rest) h (suc k) x at =
    let e : suc i + k ≡ i + suc k = omega arith in subst (λ k. SizeKeeps required sizes k x) e (size_at required sizes (suc i) rest h.1 k x at)

-- the rules of names
pub record Keeps (s : Scope) (m : MappingText) : Type 0 where
  pub entry : f.no_instance s.instances m.entry ≡ None
  pub skip : f.entry_skip (level_at s (instance_of m.instances m.entry.name)) m.entry ≡ None
  pub missing : f.size_missing (required_at s (instance_of m.instances m.entry.name)) m.entry m.sizes ≡ None
  pub sizes : SizesKeep (required_at s (instance_of m.instances m.entry.name)) m.sizes 0 m.sizes
  pub instances : InstancesKeep s 0 m.instances

pub keeps : (program : Program) (levels : List Level) (m : MappingText) → ((g : Fault) → NameFault program levels m g → ⊥) → Keeps (scope program levels m) m
keeps program levels m none =
    let s = scope program levels m in
    let h = subst AllNone (sym (listed program levels m)) (all_none (f.name_rules program levels m) none) in
    let sizes = sizes_keep (required_at s (instance_of m.instances m.entry.name)) m.sizes 0 m.sizes (notes.instances_rules s 0 m.instances) h.1.1.1 in
    record { entry = h.0; skip = h.1.0; missing = h.1.1.0; sizes = sizes.0; instances = instances_keep s 0 m.instances sizes.1 }
