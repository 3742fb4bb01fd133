-- A leaf's own shapes, by its text and its numbers, are those of its form's arrays.
use Rattle.std.proofs.Common.{◌≡◌, ℕ, suc, ◌+◌, Bool, true, false, ℤ, pos, List, [], ◌∷◌, ◌++◌, length, map, Option}
use Rattle.std.proofs.Common.{Some, None, option_map, is_some, Ok, Err, refl, sym, ap, ap₂, ◌∙◌, subst, arith}
use Rattle.std.specs.Prelude.{slice_get, nat_lt, if◌then◌else◌}
use Rattle.std.specs.Map.{lookup}
use Rattle.std.specs.Option.{option_and_then}
use Rattle.sq_num.specs.declared.Elem.{Elem}
use Rattle.sq_text.specs.Names.{Bytes, same_name}
use Rattle.sq_text.specs.declared.place.Place.{Place}
use Rattle.sq_ast.specs.Forms.{is_formed_decl, all}
use Rattle.sq_ast.specs.declared.expr.Expr.{Expr}
use Rattle.sq_ast.specs.declared.program.Decl.{Decl}
use Rattle.sq_ast.specs.declared.program.Decl.TheVariants as decl
use Rattle.sq_ast.specs.declared.program.Extent.{Extent}
use Rattle.sq_ast.specs.declared.program.Extent.TheVariants as extent
use Rattle.sq_ast.specs.declared.program.Param.{Param}
use Rattle.sq_ast.specs.declared.program.VariantKind.TheVariants.{Leaf as LeafKind}
use Rattle.sq_mapping.specs.declared.mapping.Tuning.{Tuning}
use Rattle.sq_types.specs.declared.kind.Kind.{Kind}
use Rattle.sq_types.specs.declared.kind.Kind.TheVariants as kind
use Rattle.sq_types.specs.Known.{Known, kind_of, with_name}
use Rattle.sq_types.specs.Table.{is_number, is_list, most_arrays}
use Rattle.sq_types.specs.Sites.{extents_known, with_param, param_known, params_known, local_known, decl_known}
use Rattle.sq_types.specs.Sites.{arrays_after}
use Rattle.sq_types.specs.Sound.{is_new, is_sound_decl, are_sound_decls, are_sound_exprs, is_sound_expr}
use Rattle.sq_blocks.specs.Names.{Numbers, or_zero, with_number}
use Rattle.sq_blocks.specs.Constants.{worth}
use Rattle.sq_ir.specs.Events as events
use Rattle.sq_ir.specs.DraftLeaves as leaves
use Rattle.sq_ir.specs.DraftLeaves.{nat_of, nat_worth, extent_of}
use Rattle.sq_forms.specs.declared.form.LocalArray.{LocalArray}
use Rattle.sq_forms.specs.Faults.{Value, and_then}
use Rattle.sq_forms.specs.Args.{worths, worth_of, at_fault, before}
use Rattle.sq_forms.specs.Calls.{bind_from}
use Rattle.sq_forms.specs.Tables.{setting_of}
use Rattle.sq_forms.specs.Decls.{Scope, with_array, param_at, params_from, number_in, dims_of, local_at, all_declared}
use Rattle.sq_form_laws.proofs.InsideHold.{first_stood}
use Rattle.sq_form_laws.proofs.Shapes.{Stood, old, new, KeptIn, IsBound, took_from, there_kept, new_there}
use Rattle.sq_spec.specs.Works.{extents_at, param_shapes, local_shapes}
use Rattle.sq_homes.proofs.SpecLaws.Sorted.{both, three}
use Rattle.sq_program_laws.specs.PlanLaws.LeafLaws.{event_shape}
use Rattle.sq_draft_laws.proofs.Dimensions.{ParamDims, param_type, local_type, dims_are}
use Rattle.sq_draft_laws.proofs.Worth.{Tells, worth_same}

-- ---- numbers

kept_all : (numbers : Numbers) → KeptIn numbers numbers
kept_all numbers name m h = h

with_kept : (numbers : Numbers) (own : Bytes) (n : ℤ) (b : Bool)
    → KeptIn numbers (if b then numbers else numbers ++ (own, n) ∷ [])
with_kept numbers own n true name m h = h
with_kept numbers own n false name m h = there_kept name numbers ((own, n) ∷ []) m h

number_kept : (numbers : Numbers) (own : Bytes) (n : ℤ) → KeptIn numbers (with_number numbers own n)
number_kept numbers own n = with_kept numbers own n (is_some (lookup (same_name own) numbers))

number_there : (numbers : Numbers) (own : Bytes) (n : ℤ) → (m : ℤ) × (lookup (same_name own) (with_number numbers own n)
    ≡ Some m)
number_there numbers own n = by (lookup (same_name own) numbers) refl
  where
    by : (o : Option ℤ) → lookup (same_name own) numbers ≡ o
        → (m : ℤ) × (lookup (same_name own) (if is_some o then numbers else numbers ++ (own, n) ∷ []) ≡ Some m)
    by None h = (n, new_there own numbers n h)
    by (Some m) h = (m, h)

tells_kept : (known : Known) (numbers more : Numbers) → KeptIn numbers more → Tells known numbers → Tells known more
tells_kept known numbers more kept t = record {
  number = λ name k is h. let m = t.number name k is h in (m.0, kept name m.0 m.1);
  no_list = t.no_list;
}

-- one name more, which stands for a number where it is known as one
module _ (known : Known) (numbers : Numbers) (own : Bytes) (k : Kind) (t : Tells known numbers)
    (there : is_number k ≡ true → (m : ℤ) × (lookup (same_name own) numbers ≡ Some m)) (other : is_list k ≡ false) where
  number_stood : (name : Bytes) (x : Kind) (o : Option Kind)
      → (o ≡ Some x → is_number x ≡ true → (m : ℤ) × (lookup (same_name name) numbers ≡ Some m))
      → Stood name own k x o → is_number x ≡ true → (m : ℤ) × (lookup (same_name name) numbers ≡ Some m)
  number_stood name x o f (old e) h = f e h
  number_stood name x o f (new e is) h =
      let m = there (ap is_number is ∙ h) in (m.0, ap (λ (n : Bytes). lookup (same_name n) numbers) e ∙ m.1)

  list_stood : (name : Bytes) (x : Kind) (o : Option Kind) → (o ≡ Some x → is_list x ≡ false) → Stood name own k x o
      → is_list x ≡ false
  list_stood name x o f (old e) = f e
  list_stood name x o f (new e is) = ap is_list (sym is) ∙ other

  tells_more : Tells (with_name known own k) numbers
  tells_more = record {
    number = λ name x is. number_stood name x (kind_of known name) (t.number name x)
        (first_stood name own known k x (is_some (kind_of known own)) is);
    no_list = λ name x is. list_stood name x (kind_of known name) (t.no_list name x)
        (first_stood name own known k x (is_some (kind_of known own)) is);
  }

-- ---- parameters

extent_is : (e : Extent) (n : ℕ) (numbers last : Numbers) → KeptIn numbers last → IsBound numbers e n → n
    ≡ extent_of last e
extent_is (extent.Size place name) n numbers last kept h = ap (λ (o : Option ℤ). nat_of (or_zero o))
    (sym (kept name (pos n) h))
extent_is (extent.Fixed place m) n numbers last kept h = ap nat_of (sym h)

abbrev Binds : Numbers → List Extent → List ℕ → Type 0
Binds numbers es ns = (j : ℕ) (e : Extent) → slice_get es j ≡ Some e → (n : ℕ) × (slice_get ns j ≡ Some n)
    × IsBound numbers e n

extents_are : (es : List Extent) (ns : List ℕ) (numbers last : Numbers) → KeptIn numbers last → length ns ≡ length es
    → Binds numbers es ns → ns ≡ map (extent_of last) es
extents_are [] [] numbers last kept many f = refl
extents_are [] (n ∷ ns) numbers last kept many f = absurd (omega (arith, many))
extents_are (e ∷ es) [] numbers last kept many f = absurd (omega (arith, many))
extents_are (e ∷ es) (n ∷ ns) numbers last kept many f =
    let one = f 0 e refl in
    let same : n ≡ one.0 = cc one.1 in
    ap₂ (λ (m : ℕ) l. m ∷ l) (same ∙ extent_is e one.0 numbers last kept one.2)
    (extents_are es ns numbers last kept (omega (arith, many)) (λ j d g. f (suc j) d g))

-- each stands for a number
abbrev AllBound : Numbers → List Extent → Type 0
AllBound numbers es = (j : ℕ) (e : Extent) → slice_get es j ≡ Some e → (n : ℕ) × IsBound numbers e n

extents_tell : (es : List Extent) (known : Known) (numbers : Numbers) → AllBound numbers es → Tells known numbers
    → Tells (extents_known es known) numbers
extents_tell [] known numbers f t = t
extents_tell (extent.Size place name ∷ es) known numbers f t =
    let one = f 0 (extent.Size place name) refl in
    extents_tell es (with_name known name kind.Size) numbers (λ j d g. f (suc j) d g)
    (tells_more known numbers name kind.Size t (λ h. (pos one.0, one.1)) refl)
extents_tell (extent.Fixed place n ∷ es) known numbers f t = extents_tell es known numbers (λ j d g. f (suc j) d g) t

-- what parameters from the i-th on make known, and their shapes
pub record ParamsDone (known : Known) (s t : Scope) (ps : List Param) (i : ℕ) (extents : List (List ℕ)) :
    Type 0 where
  pub kept : KeptIn s.numbers t.numbers
  pub tells : Tells known s.numbers → Tells (params_known ps known) t.numbers
  pub locals : t.locals ≡ s.locals
  pub shapes : (last : Numbers) → KeptIn t.numbers last → map event_shape (param_shapes ps i extents)
      ≡ map (leaves.param_shape last) ps

module _ (extents : List (List ℕ)) where
  abbrev ParamsRest : List Param → ℕ → Scope → Type 0
  ParamsRest ps i t = (known : Known) (u : Scope) → params_from u ps i extents ≡ Some t
      → ParamsDone known u t ps i extents

  abbrev param_scope : Scope → Param → List ℕ → Numbers → Scope
  param_scope s p dims numbers = record {
    names = with_array s.names p.name (record { number = s.arrays; extents = dims });
    numbers = numbers;
    arrays = s.arrays + 1;
    locals = s.locals;
  }

  param_bound : (known : Known) (s t : Scope) (p : Param) (ps : List Param) (i : ℕ) (dims : List ℕ)
      → ParamsRest ps (i + 1) t → slice_get extents i ≡ Some dims → length dims ≡ length p.extents
      → (o : Option Numbers) → bind_from s.numbers p.extents 0 dims ≡ o
      → option_and_then (λ u. params_from u ps (i + 1) extents)
      (option_map (λ numbers. param_scope s p dims numbers) o) ≡ Some t → ParamsDone known s t (p ∷ ps) i extents
  param_bound known s t p ps i dims rest there many None e g = absurd (cc g)
  param_bound known s t p ps i dims rest there many (Some mid) e g =
      let took = took_from dims p.extents s.numbers mid 0 e in
      let next = rest (param_known p known) (param_scope s p dims mid) g in
      let binds : Binds mid p.extents dims = λ j d at.
      let b = took.each j d at in
      let z : 0 + j ≡ j = omega arith in
      (b.0, ap (slice_get dims) (sym z) ∙ b.1, b.2) in
      record {
        kept = λ name m h. next.kept name m (took.kept name m h);
        tells = λ tells.
            next.tells (extents_tell p.extents (with_param known p) mid (λ j d at. let b = binds j d at in (b.0, b.2))
            (tells_more known mid p.name (kind.Array (param_type p)) (tells_kept known s.numbers mid took.kept tells)
            (λ h. absurd (cc h)) refl));
        locals = next.locals;
        shapes = λ last kept.
            let same : dims ≡ map (extent_of last) p.extents =
            extents_are p.extents dims mid last (λ name m h. kept name m (next.kept name m h)) many binds in
            ap₂ (λ (d : List ℕ) l. record { elem = p.elem; extents = d } ∷ l)
            (ap extents_at there ∙ same) (next.shapes last kept);
      }

  param_there : (known : Known) (s t : Scope) (p : Param) (ps : List Param) (i : ℕ) → ParamsRest ps (i + 1) t
      → (o : Option (List ℕ)) → slice_get extents i ≡ o
      → ((dims : List ℕ) → o ≡ Some dims → length dims ≡ length p.extents)
      → option_and_then (λ u. params_from u ps (i + 1) extents) (param_at s p o) ≡ Some t
      → ParamsDone known s t (p ∷ ps) i extents
  param_there known s t p ps i rest None there f g = absurd (cc g)
  param_there known s t p ps i rest (Some dims) there f g =
      param_bound known s t p ps i dims rest there (f dims refl) (bind_from s.numbers p.extents 0 dims) refl g

  pub params_done : (known : Known) (ps : List Param) (i : ℕ) (s t : Scope) → ParamDims ps i extents
      → params_from s ps i extents ≡ Some t → ParamsDone known s t ps i extents
  params_done known [] i s t dims g =
      let is : s ≡ t = cc g in
      subst (λ (u : Scope). ParamsDone known s u [] i extents) is
      (record { kept = kept_all s.numbers; tells = λ h. h; locals = refl; shapes = λ last kept. refl })
  params_done known (p ∷ ps) i s t dims g =
      let here : i + 0 ≡ i = omega arith in
      param_there known s t p ps i
      (λ more u h. params_done more ps (i + 1) u t
      (λ j q ds a b. let later : i + suc j ≡ i + 1 + j = omega arith in
      dims (suc j) q ds a (ap (slice_get extents) later ∙ b)) h)
      (slice_get extents i) refl (λ ds h. dims 0 p ds refl (ap (slice_get extents) here ∙ h)) g

-- ---- locals

-- the values of constants
module _ (known : Known) (numbers last : Numbers) (tells : Tells known numbers) (kept : KeptIn numbers last)
    (s : Scope) where
  abbrev value_of : Expr → ℕ
  value_of e = nat_worth (worth e last [])

  value_is : (e : Expr) (z : ℤ) → is_sound_expr e known ≡ true → worth_of e numbers s.names.lists ≡ Ok z
      → nat_of z ≡ value_of e
  value_is e z sound h = by (worth e numbers s.names.lists) refl h
    where
      by : (v : _) → worth e numbers s.names.lists ≡ v → at_fault v ≡ Ok z → nat_of z ≡ value_of e
      by (Err bad) is g = absurd (cc g)
      by (Ok n) is g =
          let same : n ≡ z = cc g in
          ap nat_of (sym same) ∙ ap nat_worth (sym is ∙ worth_same known numbers last s.names.lists tells kept e sound)

  values_then : (e : Expr) (es : List Expr) (v : Value ℤ) (next : Value (List ℤ)) (zs : List ℤ)
      → ((z : ℤ) → v ≡ Ok z → nat_of z ≡ value_of e)
      → ((ys : List ℤ) → next ≡ Ok ys → map nat_of ys ≡ map value_of es)
      → and_then v (λ n. before n next) ≡ Ok zs → map nat_of zs ≡ map value_of (e ∷ es)
  values_then e es (Err x) next zs f g h = absurd (cc h)
  values_then e es (Ok z) (Err x) zs f g h = absurd (cc h)
  values_then e es (Ok z) (Ok ys) zs f g h =
      let is : z ∷ ys ≡ zs = cc h in
      ap (map nat_of) (sym is) ∙ ap₂ (λ (n : ℕ) l. n ∷ l) (f z refl) (g ys refl)

  values_are : (es : List Expr) (zs : List ℤ) → are_sound_exprs es known ≡ true
      → worths es numbers s.names.lists ≡ Ok zs → map nat_of zs ≡ map value_of es
  values_are [] zs sound h = let is : [] ≡ zs = cc h in ap (map nat_of) (sym is)
  values_are (e ∷ es) zs sound h =
      let b = both (is_sound_expr e known) (are_sound_exprs es known) sound in
      values_then e es (worth_of e numbers s.names.lists) (worths es numbers s.names.lists) zs
      (λ z g. value_is e z b.0 g) (λ ys g. values_are es ys b.1 g) h

-- what declarations make known, and the shapes of the locals among them
pub record DeclsDone (s t : Scope) (ds : List Decl) : Type 0 where
  pub kept : KeptIn s.numbers t.numbers
  pub shapes : (last : Numbers) → KeptIn t.numbers last → map event_shape (local_shapes t.locals)
      ≡ map event_shape (local_shapes s.locals) ++ leaves.local_shapes last ds

local_last : (ls : List LocalArray) (l : LocalArray) (more : List events.Shape)
    → map event_shape (local_shapes (ls ++ l ∷ [])) ++ more
    ≡ map event_shape (local_shapes ls) ++ (record { elem = l.elem; extents = l.extents } ∷ more)
local_last [] l more = refl
local_last (k ∷ ls) l more = ap (λ r. record { elem = k.elem; extents = k.extents } ∷ r) (local_last ls l more)

none_behind : {A : Type 0} (xs : List A) → xs ≡ xs ++ []
none_behind [] = refl
none_behind (x ∷ xs) = ap (λ l. x ∷ l) (none_behind xs)

abbrev DeclsRest : List Decl → Known → Scope → List Tuning → Type 0
DeclsRest ds known t tunings = (u : Scope) → Tells known u.numbers → all_declared tunings u ds ≡ Ok t → DeclsDone u t ds

module _ (tunings : List Tuning) (t : Scope) where
  local_made : (known : Known) (s : Scope) (place : Place) (elem : Elem) (name : Bytes) (es : List Expr)
      (ds : List Decl) → DeclsRest ds (local_known elem name es known) t tunings → Tells known s.numbers
      → are_sound_exprs es (local_known elem name es known) ≡ true → (zs : List ℤ)
      → worths es s.numbers s.names.lists ≡ Ok zs → (o : Option (List ℕ)) → dims_of zs ≡ o
      → and_then (local_at s place elem name o) (λ u. all_declared tunings u ds) ≡ Ok t
      → DeclsDone s t (decl.Local place elem name es ∷ ds)
  local_made known s place elem name es ds rest tells sound zs h None d g = absurd (cc g)
  local_made known s place elem name es ds rest tells sound zs h (Some dims) d g =
      let more = tells_more known s.numbers name (kind.Array (local_type elem es)) tells (λ k. absurd (cc k)) refl in
      let l : LocalArray = record { elem = elem; extents = dims } in
      let next = rest _ more g in
      record {
        kept = next.kept;
        shapes = λ last kept.
            next.shapes last kept
            ∙ (local_last s.locals l (leaves.local_shapes last ds)
            ∙ ap (λ (d : List ℕ). map event_shape (local_shapes s.locals)
            ++ (record { elem = elem; extents = d } ∷ leaves.local_shapes last ds))
            (dims_are zs dims d
            ∙ values_are (local_known elem name es known) s.numbers last more
            (λ n m k. kept n m (next.kept n m k)) s es zs sound h));
      }

  local_by : (known : Known) (s : Scope) (place : Place) (elem : Elem) (name : Bytes) (es : List Expr)
      (ds : List Decl) → DeclsRest ds (local_known elem name es known) t tunings → Tells known s.numbers
      → are_sound_exprs es (local_known elem name es known) ≡ true → (v : Value (List ℤ))
      → worths es s.numbers s.names.lists ≡ v
      → and_then (and_then v (λ ns. local_at s place elem name (dims_of ns))) (λ u. all_declared tunings u ds) ≡ Ok t
      → DeclsDone s t (decl.Local place elem name es ∷ ds)
  local_by known s place elem name es ds rest tells sound (Err x) h g = absurd (cc g)
  local_by known s place elem name es ds rest tells sound (Ok zs) h g =
      local_made known s place elem name es ds rest tells sound zs h (dims_of zs) refl g

  pub decls_done : (ds : List Decl) (before_ : ℕ) (known : Known) (s : Scope) → are_sound_decls before_ ds known ≡ true
      → all (map (is_formed_decl LeafKind) ds) ≡ true → Tells known s.numbers → all_declared tunings s ds ≡ Ok t
      → DeclsDone s t ds
  decls_done [] before_ known s sound formed tells g =
      let is : s ≡ t = cc g in
      subst (λ (u : Scope). DeclsDone s u []) is (record {
        kept = kept_all s.numbers;
        shapes = λ last kept. none_behind (map event_shape (local_shapes s.locals));
      })
  decls_done (decl.Tunable place name ∷ ds) before_ known s sound formed tells g =
      let q = both (is_sound_decl before_ (decl.Tunable place name) known)
      (are_sound_decls (arrays_after before_ (decl.Tunable place name)) ds
      (decl_known (decl.Tunable place name) known)) sound in
      let n = number_in (setting_of tunings name) in
      let own = number_there s.numbers name n in
      let next = decls_done ds (arrays_after before_ (decl.Tunable place name)) (with_name known name kind.Scalar) _ q.1
      formed (tells_more known (with_number s.numbers name n) name kind.Scalar
      (tells_kept known s.numbers (with_number s.numbers name n) (number_kept s.numbers name n) tells) (λ h. own) refl)
      g in
      record {
        kept = λ other m h. next.kept other m (number_kept s.numbers name n other m h);
        shapes = next.shapes;
      }
  decls_done (decl.List place name ∷ ds) before_ known s sound formed tells g = absurd (cc formed)
  decls_done (decl.Local place elem name es ∷ ds) before_ known s sound formed tells g =
      let d : Decl = decl.Local place elem name es in
      let q = both (is_sound_decl before_ d known) (are_sound_decls (arrays_after before_ d) ds (decl_known d known))
      sound in
      let r = three (is_new name known) (nat_lt before_ most_arrays)
      (are_sound_exprs es (local_known elem name es known)) q.0 in
      let f = both (is_formed_decl LeafKind d) (all (map (is_formed_decl LeafKind) ds)) formed in
      local_by known s place elem name es ds
      (λ u more h. decls_done ds (arrays_after before_ d) (decl_known d known) u q.1 f.1 more h) tells r.2
      (worths es s.numbers s.names.lists) refl g
  decls_done (decl.Rchop place name array sizes ∷ ds) before_ known s sound formed tells g = absurd (cc formed)
  decls_done (decl.Ichop place name array starts ends ∷ ds) before_ known s sound formed tells g = absurd (cc formed)
