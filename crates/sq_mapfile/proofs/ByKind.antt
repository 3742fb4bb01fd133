-- A task is there where a variant of either kind is; and what a variant wants is found at its index.
use Rattle.std.proofs.Common.{◌≡◌, ℕ, suc, Bool, true, false, ◌||◌, List, [], ◌∷◌, is_some, refl, ◌∙◌, ap}
use Rattle.sq_ast.specs.declared.program.VariantKind.{VariantKind}
use Rattle.sq_ast.specs.declared.program.VariantKind.TheVariants.{Inner, Leaf}
use Rattle.sq_ast.specs.declared.program.Variant.{Variant}
use Rattle.sq_text.specs.Names.{Bytes, same_name}
use Rattle.sq_mapping.specs.Names.{first_from, is_variant, variant_index}
use Rattle.sq_mapfile.specs.Names.{has_task}

or_true : (b : Bool) → (b || true) ≡ true
or_true true = refl
or_true false = refl

-- whether a variant of either kind is there
abbrev either : ℕ → List Variant → Bytes → Bool
either i vs n = is_some (first_from (is_variant n Inner) i vs) || is_some (first_from (is_variant n Leaf) i vs)

either_first : (v : Variant) (rest : List Variant) (i : ℕ) (n : Bytes) (b : Bool) (k : VariantKind) → same_name n v.task ≡ b → v.kind ≡ k
    → either (suc i) rest n ≡ has_task rest n → either i (v ∷ rest) n ≡ has_task (v ∷ rest) n
either_first v rest i n false k same kind more = rw same more
either_first v rest i n true Inner same kind more = rw same (rw kind refl)
either_first v rest i n true Leaf same kind more = rw same (rw kind (or_true (is_some (first_from (is_variant n Inner) (suc i) rest))))

either_kind : (vs : List Variant) (i : ℕ) (n : Bytes) → either i vs n ≡ has_task vs n
either_kind [] i n = refl
either_kind (v ∷ rest) i n = either_first v rest i n (same_name n v.task) v.kind refl refl (either_kind rest (suc i) n)

pub any_kind : (vs : List Variant) (n : Bytes) (inner leaf : Bool) → inner ≡ is_some (variant_index vs n Inner) → leaf ≡ is_some (variant_index vs n Leaf) → (inner || leaf) ≡ has_task vs n
any_kind vs n inner leaf a b = ap (λ x. x || leaf) a ∙ (ap (λ x. is_some (variant_index vs n Inner) || x) b ∙ either_kind vs 0 n)
