-- The walk over the rules, joined from its parts.
use Rattle.std.proofs.Common.{◌≡◌, ◌⊎◌, inl, inr, ℕ, suc, ◌+◌, ◌<◌, List, [], ◌∷◌, ◌++◌, length, drop, get_or, Option, refl, sym, ◌∙◌, ap, subst, add-one}
use Rattle.std.proofs.Math.Seq.{drop-cons}
use Rattle.sq_text.specs.declared.code.Phase.TheVariants.{Mapping}
use Rattle.sq_text.specs.Faults.{fault_place, fault_number, IsFirst, least}
use Rattle.sq_text.specs.Found.{Found, nothing_found, noted, firsts, Finds}
use Rattle.sq_text.specs.declared.fault.Fault.{Fault}
use Rattle.sq_text.specs.First.{HoldsIn}
use Rattle.sq_text.specs.Found.{BreaksIn}
use Rattle.sq_text.proofs.Firsts.{first_either, first_same}
use Rattle.sq_text.proofs.Breaches.{first_breach}
use Rattle.sq_ast.specs.declared.program.Program.{Program}
use Rattle.sq_machfile.specs.declared.level.Level.{Level}
use Rattle.sq_mapfile.specs.declared.text.ItemText.{ItemText}
use Rattle.sq_mapfile.specs.declared.text.InstanceText.{InstanceText}
use Rattle.sq_mapfile.specs.declared.text.MappingText.{MappingText}
use Rattle.sq_mapfile.specs.Names.{level_of}
use Rattle.sq_mapping.specs.Required.{Required}
use Rattle.sq_mapfile.specs.Faults.{Rule, Scope, Inside, breach_of, required_of, NameFault}
use Rattle.sq_mapfile.specs.Faults as faults
use Rattle.sq_mapfile.proofs.Listed.{listed}
use Rattle.sq_mapfile.specs.Notes.{item_rules, items_rules, instance_rules, name_rules}
use Rattle.sq_mapfile.specs.Cycles.{CycleFault}
use Rattle.sq_mapfile.specs.Choices.{choice_rules, BreaksChoices}
use Rattle.sq_mapfile.specs.Mappings.{BreaksRule}
use Rattle.sq_mapfile.specs.Walk.{name_of_rules, place_of_rules, Joins}

-- one item more
pub next_item : (n : Inside) (old found new : Found) (i : ℕ) (xs : List ItemText) (x : ItemText) → i < length xs → x ≡ get_or xs i x → Finds breach_of found new (item_rules n i x)
    → ((later : List Rule) → firsts breach_of found (items_rules n i (drop i xs) later) ≡ firsts breach_of old (items_rules n 0 xs later))
    → (later : List Rule) → firsts breach_of new (items_rules n (i + 1) (drop (i + 1) xs) later) ≡ firsts breach_of old (items_rules n 0 xs later)
next_item n old found new i xs x lt is finds so_far later =
    let front : drop i xs ≡ x ∷ drop (suc i) xs = drop-cons xs i x lt ∙ ap (λ y. y ∷ drop (suc i) xs) (sym is) in
    ap (λ k. firsts breach_of new (items_rules n k (drop k xs) later)) (add-one i)
    ∙ (finds (items_rules n (suc i) (drop (suc i) xs) later)
    ∙ (ap (λ ys. firsts breach_of found (items_rules n i ys later)) (sym front) ∙ so_far later))

abbrev inside_with : Scope → InstanceText → Option Required → Option ℕ → List ItemText → Inside
inside_with s x required level items = record { scope = s; required = required; level = level; kind = x.kind; items = items }

abbrev rules_with : Scope → ℕ → InstanceText → List Rule → Option Required → Option ℕ → List ItemText → List Rule
rules_with s i x later required level items =
    name_of_rules s required i x (place_of_rules s x (items_rules (inside_with s x required level items) 0 items later))

-- one instance
pub one_instance : (s : Scope) (i : ℕ) (x : InstanceText) (old a b new : Found) (required : Option Required) (level : Option ℕ) (items : List ItemText)
    → required ≡ required_of s x → level ≡ level_of s.levels x.level.name → items ≡ x.items
    → Finds breach_of old a (name_of_rules s required i x) → Finds breach_of a b (place_of_rules s x)
    → Finds breach_of b new (items_rules (inside_with s x required level items) 0 items) → Finds breach_of old new (instance_rules s i x)
one_instance s i x old a b new required level items e f g p q r = λ later.
    let rules = items_rules (inside_with s x required level items) 0 items later in
    r later ∙ (q rules ∙ (p (place_of_rules s x rules)
    ∙ (ap (λ o. firsts breach_of old (rules_with s i x later o level items)) e
    ∙ (ap (λ l. firsts breach_of old (rules_with s i x later (required_of s x) l items)) f
    ∙ ap (λ xs. firsts breach_of old (rules_with s i x later (required_of s x) (level_of s.levels x.level.name) xs)) g))))

-- the phase stays
pub same_phase : (rules : List Rule) (found : Found) → (firsts breach_of found rules).phase ≡ found.phase
same_phase [] found = refl
same_phase (rule ∷ rules) found = same_phase rules (noted found (breach_of rule))

-- the first fault of names and of cycles
pub first_rule : (program : Program) (levels : List Level) (m : MappingText) (a b : Found)
    → a ≡ firsts breach_of (nothing_found Mapping) (name_rules program levels m) → Joins (CycleFault m) a b → IsFirst (BreaksRule program levels m) b.fault
first_rule program levels m a b is joins =
    let names : IsFirst (NameFault program levels m) a.fault =
    subst (λ (f : Found). IsFirst (NameFault program levels m) f.fault) (sym (is ∙ ap (firsts breach_of (nothing_found Mapping)) (listed program levels m))) (first_breach breach_of Mapping (faults.name_rules program levels m)) in
    subst (λ (f : Found). IsFirst (BreaksRule program levels m) f.fault) (sym joins.is)
    (first_either fault_place fault_number (NameFault program levels m) (CycleFault m) a.fault joins.first names joins.is_first)

-- ---- with the rules of alternatives

one_after_another : (rules more : List Rule) (found : Found) → firsts breach_of found (rules ++ more) ≡ firsts breach_of (firsts breach_of found rules) more
one_after_another [] more found = refl
one_after_another (rule ∷ rules) more found = one_after_another rules more (noted found (breach_of rule))

in_either : {A : Type 0} (At : A → Fault → Type 0) (xs ys : List A) (f : Fault) → HoldsIn At (xs ++ ys) f → HoldsIn At xs f ⊎ HoldsIn At ys f
in_either At [] ys f h = inr h
in_either At (x ∷ xs) ys f (inl h) = inl (inl h)
in_either At (x ∷ xs) ys f (inr h) = elim (in_either At xs ys f h) [ inl p ↦ inl (inr p) | inr q ↦ inr q ]

in_first : {A : Type 0} (At : A → Fault → Type 0) (xs ys : List A) (f : Fault) → HoldsIn At xs f → HoldsIn At (xs ++ ys) f
in_first At [] ys f h = absurd h
in_first At (x ∷ xs) ys f (inl h) = inl h
in_first At (x ∷ xs) ys f (inr h) = inr (in_first At xs ys f h)

in_second : {A : Type 0} (At : A → Fault → Type 0) (xs ys : List A) (f : Fault) → HoldsIn At ys f → HoldsIn At (xs ++ ys) f
in_second At [] ys f h = h
in_second At (x ∷ xs) ys f h = inr (in_second At xs ys f h)

-- the first fault of names, of alternatives and of cycles
module _ (program : Program) (levels : List Level) (m : MappingText) where
  abbrev Named : Fault → Type 0
  Named f = BreaksIn breach_of Mapping (faults.name_rules program levels m ++ choice_rules program levels m) f

  to_choices : (f : Fault) → (Named f ⊎ CycleFault m f) → BreaksChoices program levels m f
  to_choices f (inl h) = elim (in_either _ (faults.name_rules program levels m) (choice_rules program levels m) f h) [ inl p ↦ inl (inl p) | inr q ↦ inr q ]
  to_choices f (inr h) = inl (inr h)

  from_choices : (f : Fault) → BreaksChoices program levels m f → Named f ⊎ CycleFault m f
  from_choices f (inl (inl h)) = inl (in_first _ (faults.name_rules program levels m) (choice_rules program levels m) f h)
  from_choices f (inl (inr h)) = inr h
  from_choices f (inr h) = inl (in_second _ (faults.name_rules program levels m) (choice_rules program levels m) f h)

  pub first_of_choices : (a b e : Found) → a ≡ firsts breach_of (nothing_found Mapping) (name_rules program levels m) → b ≡ firsts breach_of a (choice_rules program levels m)
      → Joins (CycleFault m) b e → IsFirst (BreaksChoices program levels m) e.fault
  first_of_choices a b e is also joins =
      let all : b ≡ firsts breach_of (nothing_found Mapping) (faults.name_rules program levels m ++ choice_rules program levels m) =
      also ∙ ap (λ (f : Found). firsts breach_of f (choice_rules program levels m)) (is ∙ ap (firsts breach_of (nothing_found Mapping)) (listed program levels m))
      ∙ sym (one_after_another (faults.name_rules program levels m) (choice_rules program levels m) (nothing_found Mapping)) in
      let names : IsFirst Named b.fault =
      subst (λ (f : Found). IsFirst Named f.fault) (sym all) (first_breach breach_of Mapping (faults.name_rules program levels m ++ choice_rules program levels m)) in
      subst (λ (f : Found). IsFirst (BreaksChoices program levels m) f.fault) (sym joins.is)
      (first_same fault_place fault_number {P = λ f. Named f ⊎ CycleFault m f} {Q = BreaksChoices program levels m} (least b.fault joins.first) to_choices from_choices
      (first_either fault_place fault_number Named (CycleFault m) b.fault joins.first names joins.is_first))
