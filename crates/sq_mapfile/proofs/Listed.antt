-- What the reader notes and gathers, part by part, is what stands in the lists.
use Rattle.std.proofs.Common.{◌≡◌, ℕ, suc, Bool, true, false, if◌then◌else◌, List, [], ◌∷◌, ◌++◌, Option, Some, None, refl, ◌∙◌, ap}
use Rattle.sq_text.specs.declared.word.Word.{Word}
use Rattle.sq_ast.specs.declared.program.Program.{Program}
use Rattle.sq_machfile.specs.declared.level.Level.{Level}
use Rattle.sq_mapfile.specs.declared.text.SizeText.{SizeText}
use Rattle.sq_mapfile.specs.declared.text.ItemText.{ItemText}
use Rattle.sq_mapfile.specs.declared.text.ItemText.TheVariants.{Tunable, Call, Spread}
use Rattle.sq_mapfile.specs.declared.text.InstanceText.{InstanceText}
use Rattle.sq_mapfile.specs.declared.text.MappingText.{MappingText}
use Rattle.sq_mapfile.specs.Names.{of_each, stands_before, index_of, instance_of, call_index}
use Rattle.sq_mapping.specs.Required.{Required}
use Rattle.sq_mapfile.specs.Faults.{Rule, Scope, scope, Inside, inside, required_of, required_at, item_rules, instance_rules, size_rules, name_rules}
use Rattle.sq_mapfile.specs.Notes as notes
use Rattle.sq_mapfile.specs.Cycles.{CallText, call_to, item_calls, instance_calls, calls_among}
use Rattle.sq_mapfile.specs.Graph as walk
use Rattle.sq_mapfile.specs.Graph.{calls_from, gathered}

-- ---- rules

items_listed : (n : Inside) (i : ℕ) (items : List ItemText) (later : List Rule) → notes.items_rules n i items later ≡ of_each (item_rules n) i items ++ later
items_listed n i [] later = refl
items_listed n i (Tunable name values ∷ rest) later = ap (notes.item_rules n i (Tunable name values)) (items_listed n (suc i) rest later)
items_listed n i (Call task name ∷ rest) later = ap (notes.item_rules n i (Call task name)) (items_listed n (suc i) rest later)
items_listed n i (Spread word rule ∷ rest) later = ap (notes.item_rules n i (Spread word rule)) (items_listed n (suc i) rest later)

instances_listed : (s : Scope) (i : ℕ) (xs : List InstanceText) → notes.instances_rules s i xs ≡ of_each (instance_rules s) i xs
instances_listed s i [] = refl
instances_listed s i (x ∷ rest) =
    ap (notes.head_rules s (required_of s x) i x)
    (items_listed (inside s x) 0 x.items (notes.instances_rules s (suc i) rest) ∙ ap (λ later. of_each (item_rules (inside s x)) 0 x.items ++ later) (instances_listed s (suc i) rest))

sizes_listed : (required : Option Required) (sizes : List SizeText) (i : ℕ) (rest : List SizeText) (later : List Rule)
    → notes.sizes_rules required sizes i rest later ≡ of_each (size_rules required sizes) i rest ++ later
sizes_listed required sizes i [] later = refl
sizes_listed required sizes i (size ∷ rest) later = ap (notes.size_rules required sizes i size) (sizes_listed required sizes (suc i) rest later)

pub listed : (program : Program) (levels : List Level) (m : MappingText) → notes.name_rules program levels m ≡ name_rules program levels m
listed program levels m =
    let s = scope program levels m in
    let entry = instance_of m.instances m.entry.name in
    ap (notes.entry_rules s entry m.entry m.sizes) (instances_listed s 0 m.instances)
    ∙ ap (notes.entered_rules s entry m.entry m.sizes) (sizes_listed (required_at s entry) m.sizes 0 m.sizes (of_each (instance_rules s) 0 m.instances))

-- ---- calls

one_listed : (again : Bool) (caller : ℕ) (callee : Option ℕ) (name : Word) (later : List CallText)
    → (if again then later else walk.call_to caller callee name later) ≡ (if again then [] else call_to caller callee name) ++ later
one_listed true caller callee name later = refl
one_listed false caller None name later = refl
one_listed false caller (Some callee) name later = refl

calls_listed : (instances : List InstanceText) (caller : ℕ) (items : List ItemText) (k : ℕ) (rest : List ItemText) (later : List CallText)
    → walk.items_calls instances caller items k rest later ≡ of_each (item_calls instances caller items) k rest ++ later
calls_listed instances caller items k [] later = refl
calls_listed instances caller items k (Tunable name values ∷ rest) later = calls_listed instances caller items (suc k) rest later
calls_listed instances caller items k (Spread word rule ∷ rest) later = calls_listed instances caller items (suc k) rest later
calls_listed instances caller items k (Call task name ∷ rest) later =
    let one = item_calls instances caller items k (Call task name) in
    one_listed (stands_before (call_index items task.name) k) caller (index_of instances name.name) name (walk.items_calls instances caller items (suc k) rest later)
    ∙ ap (λ l. one ++ l) (calls_listed instances caller items (suc k) rest later)
    ∙ append_back one (of_each (item_calls instances caller items) (suc k) rest) later
  where
    append_back : (xs ys zs : List CallText) → xs ++ (ys ++ zs) ≡ (xs ++ ys) ++ zs
    append_back [] ys zs = refl
    append_back (x ∷ xs) ys zs = ap (λ l. x ∷ l) (append_back xs ys zs)

all_listed : (instances : List InstanceText) (i : ℕ) (xs : List InstanceText) → calls_from instances i xs ≡ of_each (instance_calls instances) i xs
all_listed instances i [] = refl
all_listed instances i (x ∷ rest) =
    by_case (stands_before (index_of instances x.name.name) i) (all_listed instances (suc i) rest)
  where
    by_case : (again : Bool) → calls_from instances (suc i) rest ≡ of_each (instance_calls instances) (suc i) rest
        → (if again then calls_from instances (suc i) rest else walk.items_calls instances i x.items 0 x.items (calls_from instances (suc i) rest))
        ≡ (if again then [] else of_each (item_calls instances i x.items) 0 x.items) ++ of_each (instance_calls instances) (suc i) rest
    by_case true e = e
    by_case false e = calls_listed instances i x.items 0 x.items (calls_from instances (suc i) rest) ∙ ap (λ l. of_each (item_calls instances i x.items) 0 x.items ++ l) e

pub gathered_listed : (instances : List InstanceText) → gathered instances ≡ calls_among instances
gathered_listed instances = all_listed instances 0 instances
