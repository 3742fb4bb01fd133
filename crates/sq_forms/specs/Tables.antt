-- What stands under a name in a program and a mapping: the first of its kind.
use Rattle.std.specs.Prelude.{ℕ, suc, Bool, true, false, List, [], ◌∷◌, map, Option, Some, None, option_map, if◌then◌else◌, slice_get}
use Rattle.sq_text.specs.Names.{Bytes, same_name, first_from}
use Rattle.sq_ast.specs.declared.program.VariantKind.{VariantKind}
use Rattle.sq_ast.specs.declared.program.VariantKind.TheVariants.{Inner, Leaf}
use Rattle.sq_ast.specs.declared.program.Variant.{Variant}
use Rattle.sq_mapping.specs.declared.mapping.Route.{Route}
use Rattle.sq_mapping.specs.declared.mapping.Setting.{Setting}
use Rattle.sq_mapping.specs.declared.mapping.Tuning.{Tuning}

abbrev pub same_kind : VariantKind → VariantKind → Bool
same_kind Inner Inner = true
same_kind Leaf Leaf = true
same_kind Inner Leaf = false
same_kind Leaf Inner = false

abbrev pub at_index : {A : Type 0} → List A → Option ℕ → Option A
at_index xs None = None
at_index xs (Some i) = slice_get xs i

-- the first route of the task
abbrev pub route_of : List Route → Bytes → Option ℕ
route_of routes task = option_map (λ r. r.instance) (at_index routes (first_from 0 (map (λ r. r.task) routes) task))

-- the first value of a tunable of this name
abbrev pub setting_of : List Tuning → Bytes → Option Setting
setting_of tunings name = option_map (λ t. t.setting) (at_index tunings (first_from 0 (map (λ t. t.name) tunings) name))

-- the number of the first variant of the task and kind, where variants are numbered from i on
abbrev pub first_of_kind : VariantKind → ℕ → List Variant → Bytes → Option ℕ
first_of_kind kind i [] task = None
first_of_kind kind i (v ∷ rest) task =
    if same_kind v.kind kind then (if same_name task v.task then Some i else first_of_kind kind (suc i) rest task) else
    first_of_kind kind (suc i) rest task

abbrev pub variant_of : List Variant → Bytes → VariantKind → Option Variant
variant_of variants task kind = at_index variants (first_of_kind kind 0 variants task)
