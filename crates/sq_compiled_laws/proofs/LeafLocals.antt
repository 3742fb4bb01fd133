-- The extents of a leaf's locals have values by its numbers, and are within the limits.
use Rattle.std.proofs.Common.{◌≡◌, ℕ, Bool, true, false, ℤ, List, [], ◌∷◌, ◌++◌, map, Option, Some, None}
use Rattle.std.proofs.Common.{is_some, Ok, Err, refl, sym, ap, ap₂, ◌∙◌, subst}
use Rattle.std.specs.Prelude.{nat_lt, if◌then◌else◌}
use Rattle.std.specs.List.{All}
use Rattle.std.specs.Map.{lookup}
use Rattle.sq_num.specs.declared.Elem.{Elem}
use Rattle.sq_text.specs.Names.{Bytes, same_name}
use Rattle.sq_text.specs.declared.place.Place.{Place}
use Rattle.sq_ast.specs.Forms.{is_formed_decl, all}
use Rattle.sq_ast.specs.declared.expr.Expr.{Expr}
use Rattle.sq_ast.specs.declared.program.Decl.{Decl}
use Rattle.sq_ast.specs.declared.program.Decl.TheVariants as decl
use Rattle.sq_ast.specs.declared.program.VariantKind.TheVariants.{Leaf as LeafKind}
use Rattle.sq_mapping.specs.declared.mapping.Tuning.{Tuning}
use Rattle.sq_types.specs.declared.kind.Kind.{Kind}
use Rattle.sq_types.specs.declared.kind.Kind.TheVariants as kind
use Rattle.sq_types.specs.Known.{Known, kind_of, with_name}
use Rattle.sq_types.specs.Table.{is_number, is_list, most_arrays}
use Rattle.sq_types.specs.Sites.{local_known, decl_known, arrays_after}
use Rattle.sq_types.specs.Sound.{is_new, is_sound_decl, are_sound_decls, are_sound_exprs, is_sound_expr}
use Rattle.sq_blocks.specs.Names.{Numbers, with_number}
use Rattle.sq_blocks.specs.Constants.{worth}
use Rattle.sq_forms.specs.Faults.{Value, and_then}
use Rattle.sq_forms.specs.Args.{worths, worth_of, at_fault, before}
use Rattle.sq_forms.specs.Tables.{setting_of}
use Rattle.sq_forms.specs.Decls.{Scope, number_in, dims_of, local_at, all_declared}
use Rattle.sq_form_laws.proofs.InsideHold.{first_stood}
use Rattle.sq_form_laws.proofs.Shapes.{Stood, old, new, KeptIn, there_kept, new_there}
use Rattle.sq_spec_laws.proofs.Sorted.{both, three}
use Rattle.sq_meant.proofs.PlanGood.ProgramLaws.Sized.{dims_sized}
use Rattle.sq_meant.proofs.PlanGood.DraftLaws.Dimensions.{local_type}
use Rattle.sq_meant.proofs.PlanGood.DraftLaws.Worth.{Tells, worth_same}
use Rattle.sq_planfile.specs.Sound.{AreExtentsOf, IsLocal}
use Rattle.sq_compiled_laws.proofs.LeafNames.{all_none, all_more}
use Rattle.sq_compiled_laws.proofs.LeafSmall.{dims_small, dims_same}
use Rattle.sq_compiled_laws.proofs.LeafParams.{extents_within}

-- ---- numbers

with_kept : (numbers : Numbers) (own : Bytes) (n : ℤ) (b : Bool)
    → KeptIn numbers (if b then numbers else numbers ++ (own, n) ∷ [])
with_kept numbers own n true name m h = h
with_kept numbers own n false name m h = there_kept name numbers ((own, n) ∷ []) m h

number_kept : (numbers : Numbers) (own : Bytes) (n : ℤ) → KeptIn numbers (with_number numbers own n)
number_kept numbers own n = with_kept numbers own n (is_some (lookup (same_name own) numbers))

number_there : (numbers : Numbers) (own : Bytes) (n : ℤ) → (m : ℤ)
    × (lookup (same_name own) (with_number numbers own n) ≡ Some m)
number_there numbers own n = by (lookup (same_name own) numbers) refl
  where
    by : (o : Option ℤ) → lookup (same_name own) numbers ≡ o
        → (m : ℤ) × (lookup (same_name own) (if is_some o then numbers else numbers ++ (own, n) ∷ []) ≡ Some m)
    by None h = (n, new_there own numbers n h)
    by (Some m) h = (m, h)

tells_kept : (known : Known) (numbers more : Numbers) → KeptIn numbers more → Tells known numbers → Tells known more
tells_kept known numbers more kept t = record {
  number = λ name k is h. let m = t.number name k is h in (m.0, kept name m.0 m.1);
  no_list = t.no_list;
}

-- one name more, which stands for a number where it is known as one
module _ (known : Known) (numbers : Numbers) (own : Bytes) (k : Kind) (t : Tells known numbers)
    (there : is_number k ≡ true → (m : ℤ) × (lookup (same_name own) numbers ≡ Some m)) (other : is_list k ≡ false) where
  number_stood : (name : Bytes) (x : Kind) (o : Option Kind)
      → (o ≡ Some x → is_number x ≡ true → (m : ℤ) × (lookup (same_name name) numbers ≡ Some m))
      → Stood name own k x o → is_number x ≡ true → (m : ℤ) × (lookup (same_name name) numbers ≡ Some m)
  number_stood name x o f (old e) h = f e h
  number_stood name x o f (new e is) h =
      let m = there (ap is_number is ∙ h) in (m.0, ap (λ (n : Bytes). lookup (same_name n) numbers) e ∙ m.1)

  list_stood : (name : Bytes) (x : Kind) (o : Option Kind) → (o ≡ Some x → is_list x ≡ false) → Stood name own k x o
      → is_list x ≡ false
  list_stood name x o f (old e) = f e
  list_stood name x o f (new e is) = ap is_list (sym is) ∙ other

  tells_more : Tells (with_name known own k) numbers
  tells_more = record {
    number = λ name x is. number_stood name x (kind_of known name) (t.number name x)
        (first_stood name own known k x (is_some (kind_of known own)) is);
    no_list = λ name x is. list_stood name x (kind_of known name) (t.no_list name x)
        (first_stood name own known k x (is_some (kind_of known own)) is);
  }

-- ---- constants

module _ (known : Known) (numbers last : Numbers) (tells : Tells known numbers) (kept : KeptIn numbers last)
    (s : Scope) where
  worth_is : (e : Expr) (z : ℤ) → is_sound_expr e known ≡ true → worth_of e numbers s.names.lists ≡ Ok z
      → worth e last [] ≡ Ok z
  worth_is e z sound h = by (worth e numbers s.names.lists) refl h
    where
      by : (v : _) → worth e numbers s.names.lists ≡ v → at_fault v ≡ Ok z → worth e last [] ≡ Ok z
      by (Err bad) is g = absurd (cc g)
      by (Ok n) is g =
          let same : n ≡ z = cc g in
          sym (worth_same known numbers last s.names.lists tells kept e sound) ∙ (is ∙ ap (λ m. Ok m) same)

  worths_then : (e : Expr) (es : List Expr) (v : Value ℤ) (next : Value (List ℤ)) (zs : List ℤ)
      → ((z : ℤ) → v ≡ Ok z → worth e last [] ≡ Ok z)
      → ((ys : List ℤ) → next ≡ Ok ys → map (λ d. worth d last []) es ≡ map (λ y. Ok y) ys)
      → and_then v (λ n. before n next) ≡ Ok zs → map (λ d. worth d last []) (e ∷ es) ≡ map (λ y. Ok y) zs
  worths_then e es (Err x) next zs f g h = absurd (cc h)
  worths_then e es (Ok z) (Err x) zs f g h = absurd (cc h)
  worths_then e es (Ok z) (Ok ys) zs f g h =
      let is : z ∷ ys ≡ zs = cc h in
      ap₂ (λ v l. v ∷ l) (f z refl) (g ys refl) ∙ ap (map (λ y. Ok y)) is

  worths_are : (es : List Expr) (zs : List ℤ) → are_sound_exprs es known ≡ true
      → worths es numbers s.names.lists ≡ Ok zs → map (λ d. worth d last []) es ≡ map (λ y. Ok y) zs
  worths_are [] zs sound h = let is : [] ≡ zs = cc h in ap (map (λ y. Ok y)) is
  worths_are (e ∷ es) zs sound h =
      let b = both (is_sound_expr e known) (are_sound_exprs es known) sound in
      worths_then e es (worth_of e numbers s.names.lists) (worths es numbers s.names.lists) zs
      (λ z g. worth_is e z b.0 g) (λ ys g. worths_are es ys b.1 g) h

-- ---- declarations

-- no other declaration is a local
local_alone : (last : Numbers) (place : Place) (elem : Elem) (name : Bytes) (es : List Expr) (values : List ℤ)
    → map (λ e. worth e last []) es ≡ map (λ y. Ok y) values → AreExtentsOf values
    → IsLocal last (decl.Local place elem name es)
local_alone last place elem name es values are fit = record {
  of_local = λ p m w xs is.
      let same : es ≡ xs = ap extents_in is in
      (values, ap (map (λ e. worth e last [])) (sym same) ∙ are, fit);
}
  where
    extents_in : Decl → List Expr
    extents_in (decl.Local p m w xs) = xs
    extents_in _ = []

no_local : (last : Numbers) (place : Place) (name : Bytes) → IsLocal last (decl.Tunable place name)
no_local last place name = record { of_local = λ p m w xs is. absurd (cc is) }

-- the numbers that declarations make, and what is shown of these
record DeclsBound (s t : Scope) (ds : List Decl) : Type 0 where
  kept : KeptIn s.numbers t.numbers
  fit : (last : Numbers) → KeptIn t.numbers last → All (IsLocal last) ds

abbrev DeclsRest : List Decl → Known → Scope → List Tuning → Type 0
DeclsRest ds known t tunings = (u : Scope) → Tells known u.numbers → all_declared tunings u ds ≡ Ok t
    → DeclsBound u t ds

module _ (tunings : List Tuning) (t : Scope) where
  local_made : (known : Known) (s : Scope) (place : Place) (elem : Elem) (name : Bytes) (es : List Expr)
      (ds : List Decl) → DeclsRest ds (local_known elem name es known) t tunings → Tells known s.numbers
      → are_sound_exprs es (local_known elem name es known) ≡ true → (zs : List ℤ)
      → worths es s.numbers s.names.lists ≡ Ok zs → (o : Option (List ℕ)) → dims_of zs ≡ o
      → and_then (local_at s place elem name o) (λ u. all_declared tunings u ds) ≡ Ok t
      → DeclsBound s t (decl.Local place elem name es ∷ ds)
  local_made known s place elem name es ds rest tells sound zs h None d g = absurd (cc g)
  local_made known s place elem name es ds rest tells sound zs h (Some dims) d g =
      let more = tells_more known s.numbers name (kind.Array (local_type elem es)) tells (λ k. absurd (cc k)) refl in
      let next = rest _ more g in
      record {
        kept = next.kept;
        fit = λ last kept. all_more (IsLocal last) (decl.Local place elem name es) ds
            (local_alone last place elem name es zs
            (worths_are (local_known elem name es known) s.numbers last more
            (λ n m k. kept n m (next.kept n m k)) s es zs sound h)
            (record {
              extents = dims;
              are = sym (dims_same zs dims d);
              within = extents_within dims (dims_sized zs dims d) (dims_small zs dims d);
            })) (next.fit last kept);
      }

  local_by : (known : Known) (s : Scope) (place : Place) (elem : Elem) (name : Bytes) (es : List Expr)
      (ds : List Decl) → DeclsRest ds (local_known elem name es known) t tunings → Tells known s.numbers
      → are_sound_exprs es (local_known elem name es known) ≡ true → (v : Value (List ℤ))
      → worths es s.numbers s.names.lists ≡ v
      → and_then (and_then v (λ ns. local_at s place elem name (dims_of ns))) (λ u. all_declared tunings u ds) ≡ Ok t
      → DeclsBound s t (decl.Local place elem name es ∷ ds)
  local_by known s place elem name es ds rest tells sound (Err x) h g = absurd (cc g)
  local_by known s place elem name es ds rest tells sound (Ok zs) h g =
      local_made known s place elem name es ds rest tells sound zs h (dims_of zs) refl g

  decls_bound : (ds : List Decl) (before_ : ℕ) (known : Known) (s : Scope) → are_sound_decls before_ ds known ≡ true
      → all (map (is_formed_decl LeafKind) ds) ≡ true → Tells known s.numbers → all_declared tunings s ds ≡ Ok t
      → DeclsBound s t ds
  decls_bound [] before_ known s sound formed tells g =
      let is : s ≡ t = cc g in
      subst (λ (u : Scope). DeclsBound s u []) is
      (record { kept = λ name m h. h; fit = λ last kept. all_none (IsLocal last) })
  decls_bound (decl.Tunable place name ∷ ds) before_ known s sound formed tells g =
      let d : Decl = decl.Tunable place name in
      let q = both (is_sound_decl before_ d known) (are_sound_decls (arrays_after before_ d) ds (decl_known d known))
      sound in
      let n = number_in (setting_of tunings name) in
      let own = number_there s.numbers name n in
      let next = decls_bound ds (arrays_after before_ d) (with_name known name kind.Scalar) _ q.1 formed
      (tells_more known (with_number s.numbers name n) name kind.Scalar
      (tells_kept known s.numbers (with_number s.numbers name n) (number_kept s.numbers name n) tells) (λ h. own) refl)
      g in
      record {
        kept = λ other m h. next.kept other m (number_kept s.numbers name n other m h);
        fit = λ last kept. all_more (IsLocal last) d ds (no_local last place name) (next.fit last kept);
      }
  decls_bound (decl.List place name ∷ ds) before_ known s sound formed tells g = absurd (cc formed)
  decls_bound (decl.Local place elem name es ∷ ds) before_ known s sound formed tells g =
      let d : Decl = decl.Local place elem name es in
      let q = both (is_sound_decl before_ d known) (are_sound_decls (arrays_after before_ d) ds (decl_known d known))
      sound in
      let r = three (is_new name known) (nat_lt before_ most_arrays)
      (are_sound_exprs es (local_known elem name es known)) q.0 in
      let f = both (is_formed_decl LeafKind d) (all (map (is_formed_decl LeafKind) ds)) formed in
      local_by known s place elem name es ds
      (λ u more h. decls_bound ds (arrays_after before_ d) (decl_known d known) u q.1 f.1 more h) tells r.2
      (worths es s.numbers s.names.lists) refl g
  decls_bound (decl.Rchop place name array sizes ∷ ds) before_ known s sound formed tells g = absurd (cc formed)
  decls_bound (decl.Ichop place name array starts ends ∷ ds) before_ known s sound formed tells g = absurd (cc formed)

  pub locals_fit : (ds : List Decl) (before_ : ℕ) (known : Known) (s : Scope) → are_sound_decls before_ ds known ≡ true
      → all (map (is_formed_decl LeafKind) ds) ≡ true → Tells known s.numbers → all_declared tunings s ds ≡ Ok t
      → KeptIn s.numbers t.numbers × All (IsLocal t.numbers) ds
  locals_fit ds before_ known s sound formed tells g =
      let b = decls_bound ds before_ known s sound formed tells g in
      (b.kept, b.fit t.numbers (λ name m h. h))
