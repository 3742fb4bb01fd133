-- Names among names, and which variant of a program an instance's task and kind name.
use Rattle.std.specs.Prelude.{ℕ, suc, Bool, true, false, ◌&&◌, List, [], ◌∷◌, Option, Some, None, if◌then◌else◌, slice_get}
use Rattle.std.specs.Option.{option_and_then}
use Rattle.std.specs.List.{list_any}
use Rattle.sq_text.specs.Names.{Bytes, same_name}
use Rattle.sq_ast.specs.declared.program.VariantKind.{VariantKind}
use Rattle.sq_ast.specs.declared.program.VariantKind.TheVariants.{Inner, Leaf}
use Rattle.sq_ast.specs.declared.program.Variant.{Variant}

abbrev pub is_among : List Bytes → Bytes → Bool
is_among names name = list_any (same_name name) names

-- the index of the first item that passes the test; the first item of the list has index i
abbrev pub first_from : {A : Type 0} → (A → Bool) → ℕ → List A → Option ℕ
first_from test i [] = None
first_from test i (x ∷ rest) = if test x then Some i else first_from test (suc i) rest

-- the item at an index, where there is one
abbrev pub at_index : {A : Type 0} → List A → Option ℕ → Option A
at_index xs i = option_and_then (slice_get xs) i

abbrev pub same_kind : VariantKind → VariantKind → Bool
same_kind Inner Inner = true
same_kind Leaf Leaf = true
same_kind _ _ = false

abbrev pub is_variant : Bytes → VariantKind → Variant → Bool
is_variant task kind v = same_name task v.task && same_kind kind v.kind

abbrev pub variant_index : List Variant → Bytes → VariantKind → Option ℕ
variant_index variants task kind = first_from (is_variant task kind) 0 variants

abbrev pub variant_of : List Variant → Bytes → VariantKind → Option Variant
variant_of variants task kind = at_index variants (variant_index variants task kind)
