-- What the names of a mapping stand for: instances and items of the file, variants of the program, levels of the
-- machine.
use Rattle.std.specs.Prelude.{ℕ, suc, Bool, true, false, ◌&&◌, nat_lt, List, [], ◌∷◌, ◌++◌, Option, Some, None, if◌then◌else◌, slice_get}
use Rattle.std.specs.Option.{option_and_then}
use Rattle.std.specs.List.{list_any}
use Rattle.sq_text.specs.Names.{Bytes, same_name}
use Rattle.sq_ast.specs.declared.program.VariantKind.{VariantKind}
use Rattle.sq_ast.specs.declared.program.VariantKind.TheVariants.{Inner, Leaf}
use Rattle.sq_ast.specs.declared.program.Variant.{Variant}
use Rattle.sq_machfile.specs.declared.level.Level.{Level}
use Rattle.sq_mapping.specs.Names.{first_from, at_index}
use Rattle.sq_mapfile.specs.declared.text.SizeText.{SizeText}
use Rattle.sq_mapfile.specs.declared.text.ItemText.{ItemText}
use Rattle.sq_mapfile.specs.declared.text.ItemText.TheVariants.{Tunable, Call, Spread}
use Rattle.sq_mapfile.specs.declared.text.InstanceText.{InstanceText}

-- what is made of each by its index, where the first has index i
abbrev pub of_each : {A B : Type 0} → (ℕ → A → List B) → ℕ → List A → List B
of_each made i [] = []
of_each made i (x ∷ later) = made i x ++ of_each made (suc i) later

-- the first of a name stands before this index
abbrev pub stands_before : Option ℕ → ℕ → Bool
stands_before None i = false
stands_before (Some first) i = nat_lt first i

-- ---- instances

-- of two instances of a name the first counts
abbrev pub index_of : List InstanceText → Bytes → Option ℕ
index_of instances name = first_from (λ x. same_name name x.name.name) 0 instances

abbrev pub instance_of : List InstanceText → Bytes → Option InstanceText
instance_of instances name = at_index instances (index_of instances name)

-- ---- items and sizes

abbrev pub is_tunable : Bytes → ItemText → Bool
is_tunable name (Tunable word values) = same_name name word.name
is_tunable name _ = false

abbrev pub is_call : Bytes → ItemText → Bool
is_call name (Call task instance) = same_name name task.name
is_call name _ = false

abbrev pub is_spread : ItemText → Bool
is_spread (Spread word rule) = true
is_spread _ = false

abbrev pub tunable_index : List ItemText → Bytes → Option ℕ
tunable_index items name = first_from (is_tunable name) 0 items

abbrev pub call_index : List ItemText → Bytes → Option ℕ
call_index items task = first_from (is_call task) 0 items

abbrev pub spread_index : List ItemText → Option ℕ
spread_index items = first_from is_spread 0 items

abbrev pub size_index : List SizeText → Bytes → Option ℕ
size_index sizes name = first_from (λ size. same_name name size.name.name) 0 sizes

-- ---- variants

abbrev pub has_task : List Variant → Bytes → Bool
has_task variants task = list_any (λ v. same_name task v.task) variants

-- ---- levels

abbrev pub level_of : List Level → Bytes → Option ℕ
level_of levels name = first_from (λ level. same_name name level.name) 0 levels
