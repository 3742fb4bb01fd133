-- The arrays of a form have as many dimensions as their names are known to have.
use Rattle.std.proofs.Common.{◌≡◌, ℕ, suc, ◌+◌, ◌*◌, Bool, true, false, ℤ, pos, negsuc, List, [], ◌∷◌, length, map}
use Rattle.std.proofs.Common.{Option, Some, None, option_map, is_some, Result, Ok, Err, refl, sym, ap, ◌∙◌, subst}
use Rattle.std.proofs.Common.{arith}
use Rattle.std.specs.Prelude.{slice_get, is_err, nat_lt, nat_le, ◌&&◌, if◌then◌else◌}
use Rattle.std.specs.Map.{lookup}
use Rattle.std.specs.Option.{option_and_then}
use Rattle.sq_num.specs.declared.Elem.{Elem}
use Rattle.sq_text.specs.Names.{Bytes, same_name}
use Rattle.sq_text.specs.declared.place.Place.{Place}
use Rattle.sq_text.specs.declared.place.Span.{Span}
use Rattle.sq_text.specs.declared.code.Code.TheVariants as code
use Rattle.sq_ast.specs.Modes.{is_written}
use Rattle.sq_ast.specs.declared.expr.ArgUse.{ArgUse, out-ArgUse}
use Rattle.sq_ast.specs.declared.expr.Expr.{Expr}
use Rattle.sq_ast.specs.declared.program.Decl.{Decl}
use Rattle.sq_ast.specs.declared.program.Decl.TheVariants as decl
use Rattle.sq_ast.specs.declared.program.Extent.{Extent}
use Rattle.sq_ast.specs.declared.program.Extent.TheVariants as extent
use Rattle.sq_ast.specs.declared.program.Param.{Param}
use Rattle.sq_ast.specs.declared.stmt.Range.{Range}
use Rattle.sq_mapping.specs.declared.mapping.Tuning.{Tuning}
use Rattle.sq_types.specs.declared.kind.ArrayType.{ArrayType}
use Rattle.sq_types.specs.declared.kind.Kind.{Kind}
use Rattle.sq_types.specs.declared.kind.Kind.TheVariants as kind
use Rattle.sq_types.specs.Known.{Known, kind_of, with_name}
use Rattle.sq_types.specs.Table.{most_arrays, array_of as array_known, array_type, dims_of as dims_of_type}
use Rattle.sq_types.specs.Sites.{extents_known, with_param, param_known, params_known, param_at as first_at}
use Rattle.sq_types.specs.Sites.{local_known, rchop_known, ichop_known, decl_known, decls_known, arrays_after}
use Rattle.sq_types.specs.Sites.{ranges_known, with_variable}
use Rattle.sq_types.specs.Sound as typed
use Rattle.sq_blocks.specs.Names.{Numbers, list_of}
use Rattle.sq_blocks.specs.Blocks.{extents_of}
use Rattle.sq_blocks.specs.Spans.{judged, block, block_at, or_index_fault, pieces, piece, wholes, span_of, with_front}
use Rattle.sq_blocks.specs.Spans.{listed, range_of, get_at}
use Rattle.sq_blocks.specs.declared.chop.Chop.{Chop}
use Rattle.sq_blocks.specs.declared.chop.Chop.TheVariants.{Regular, Irregular}
use Rattle.sq_blocks.specs.declared.fault.ConstFault.{ConstFault}
use Rattle.sq_ir.specs.DraftLeaves.{nat_of}
use Rattle.sq_forms.specs.declared.args.Block.{Block}
use Rattle.sq_forms.specs.declared.known.Array.{Array}
use Rattle.sq_forms.specs.declared.known.Blocks.{Blocks}
use Rattle.sq_forms.specs.Faults.{Value, and_then, fault_named}
use Rattle.sq_forms.specs.Args.{Names, worths, before, worth_of, of_array, of_block, all_of_array, whole_array}
use Rattle.sq_forms.specs.Args.{block_of, block_in, block_or_fault, block_by, block as block_named}
use Rattle.sq_forms.specs.Calls.{bind_from}
use Rattle.sq_forms.specs.Decls.{Scope, with_first, with_array, with_chop, array_of, local_at, after_decl, all_declared}
use Rattle.sq_forms.specs.Decls.{param_at, params_from, dims_of, dims_from, most_extent, most_elements}
use Rattle.sq_form_laws.proofs.InsideHold.{first_stood, chosen_ok}
use Rattle.sq_form_laws.proofs.Shapes.{Stood, old, new}
use Rattle.sq_homes.proofs.SpecLaws.Sorted.{known_kept, known_own, is_fresh, both, three, four}

-- ---- names that are known

-- what is known stays known
abbrev pub Extends : Known → Known → Type 0
Extends known more = (name : Bytes) (k : Kind) → kind_of known name ≡ Some k → kind_of more name ≡ Some k

extents_extend : (es : List Extent) (known : Known) → Extends known (extents_known es known)
extents_extend [] known name k h = h
extents_extend (extent.Size place own ∷ es) known name k h =
    extents_extend es (with_name known own kind.Size) name k (known_kept known own kind.Size name k h)
extents_extend (extent.Fixed place n ∷ es) known name k h = extents_extend es known name k h

abbrev pub param_type : Param → ArrayType
param_type p = record { dims = length p.extents; is_writable = is_written p.mode; elem = p.elem }

param_extends : (p : Param) (known : Known) → Extends known (param_known p known)
param_extends p known name k h =
    extents_extend p.extents (with_param known p) name k
    (known_kept known p.name (kind.Array (param_type p)) name k h)

pub params_extend : (ps : List Param) (known : Known) → Extends known (params_known ps known)
params_extend [] known name k h = h
params_extend (p ∷ ps) known name k h = params_extend ps (param_known p known) name k (param_extends p known name k h)

abbrev pub local_type : Elem → List Expr → ArrayType
local_type elem extents = record { dims = length extents; is_writable = true; elem = elem }

decl_extends : (d : Decl) (known : Known) → Extends known (decl_known d known)
decl_extends (decl.Tunable place own) known name k h = known_kept known own kind.Scalar name k h
decl_extends (decl.List place own) known name k h = known_kept known own kind.List name k h
decl_extends (decl.Local place elem own es) known name k h = known_kept known own (kind.Array (local_type elem es)) name
    k h
decl_extends (decl.Rchop place own array sizes) known name k h = known_kept known own (kind.Rchop array.name) name k h
decl_extends (decl.Ichop place own array starts ends) known name k h = known_kept known own (kind.Ichop array.name) name
    k h

pub decls_extend : (ds : List Decl) (known : Known) → Extends known (decls_known ds known)
decls_extend [] known name k h = h
decls_extend (d ∷ ds) known name k h = decls_extend ds (decl_known d known) name k (decl_extends d known name k h)

pub ranges_extend : (rs : List Range) (known : Known) → Extends known (ranges_known rs known)
ranges_extend [] known name k h = h
ranges_extend (r ∷ rs) known name k h =
    ranges_extend rs (with_variable known r) name k (known_kept known r.name kind.Variable name k h)

-- ---- what the declarations of a form make known

module _ (all : Known) where
  abbrev pub ParamsKnown : List Param → Type 0
  ParamsKnown [] = Unit {0}
  ParamsKnown (p ∷ ps) = (kind_of all p.name ≡ Some (kind.Array (param_type p))) × ParamsKnown ps

  pub params_are_known : (first : Option (List Param)) (ps : List Param) (i : ℕ) (known : Known)
      → typed.are_sound_params first i ps known ≡ true → Extends (params_known ps known) all → ParamsKnown ps
  params_are_known first [] i known sound more = tt
  params_are_known first (p ∷ ps) i known sound more =
      let q = both (typed.is_sound_param (first_at first i) i p known)
      (typed.are_sound_params first (i + 1) ps (param_known p known)) sound in
      let r = four (typed.is_new p.name known) (typed.is_as_first (first_at first i) p) (nat_lt i most_arrays)
      (typed.are_sound_extents p.extents (with_param known p)) q.0 in
      let own = extents_extend p.extents (with_param known p) p.name (kind.Array (param_type p))
      (known_own known p.name (kind.Array (param_type p)) (is_fresh p.name known r.0)) in (
        more p.name (kind.Array (param_type p)) (params_extend ps (param_known p known) p.name _ own),
        params_are_known first ps (i + 1) (param_known p known) q.1 more,
      )

  abbrev pub DeclKnown : Decl → Type 0
  DeclKnown (decl.Tunable place name) = Unit {0}
  DeclKnown (decl.List place name) = Unit {0}
  DeclKnown (decl.Local place elem name extents) = kind_of all name ≡ Some (kind.Array (local_type elem extents))
  DeclKnown (decl.Rchop place name array sizes) = kind_of all name ≡ Some (kind.Rchop array.name)
  DeclKnown (decl.Ichop place name array starts ends) = kind_of all name ≡ Some (kind.Ichop array.name)

  abbrev pub DeclsKnown : List Decl → Type 0
  DeclsKnown [] = Unit {0}
  DeclsKnown (d ∷ ds) = DeclKnown d × DeclsKnown ds

  decl_is_known : (before : ℕ) (d : Decl) (known : Known) → typed.is_sound_decl before d known ≡ true
      → Extends (decl_known d known) all → DeclKnown d
  decl_is_known before (decl.Tunable place name) known sound more = tt
  decl_is_known before (decl.List place name) known sound more = tt
  decl_is_known before (decl.Local place elem name es) known sound more =
      let f = three (typed.is_new name known) (nat_lt before most_arrays)
      (typed.are_sound_exprs es (local_known elem name es known)) sound in
      more name _ (known_own known name (kind.Array (local_type elem es)) (is_fresh name known f.0))
  decl_is_known before (decl.Rchop place name array sizes) known sound more =
      let known2 = rchop_known name array known in
      let f = three (typed.is_new name known)
      (typed.agrees (dims_of_type (array_type (kind_of known array.name))) (length sizes))
      (typed.names_array array.name known2 && typed.are_sound_exprs sizes known2) sound in
      more name _ (known_own known name (kind.Rchop array.name) (is_fresh name known f.0))
  decl_is_known before (decl.Ichop place name array starts ends) known sound more =
      let known2 = ichop_known name array known in
      let f = both (typed.is_new name known)
      (typed.names_array array.name known2
      && (typed.names_list starts.name known2 && typed.names_list ends.name known2)) sound in
      more name _ (known_own known name (kind.Ichop array.name) (is_fresh name known f.0))

  pub decls_are_known : (before : ℕ) (ds : List Decl) (known : Known) → typed.are_sound_decls before ds known ≡ true
      → Extends (decls_known ds known) all → DeclsKnown ds
  decls_are_known before [] known sound more = tt
  decls_are_known before (d ∷ ds) known sound more =
      let q = both (typed.is_sound_decl before d known)
      (typed.are_sound_decls (arrays_after before d) ds (decl_known d known)) sound in (
        decl_is_known before d known q.0 (λ name k h. more name k (decls_extend ds (decl_known d known) name k h)),
        decls_are_known (arrays_after before d) ds (decl_known d known) q.1 more,
      )

-- ---- extents that were examined

pub chosen : {A : Type 0} (b : Bool) (o : Option A) (x : A) → (if b then o else None) ≡ Some x → o ≡ Some x
chosen true o x h = h
chosen false o x h = absurd (cc h)

front_dims : (e : ℕ) (zs : List ℤ) (o : Option (List ℕ)) (ds : List ℕ)
    → ((es : List ℕ) → o ≡ Some es → es ≡ map nat_of zs)
    → option_map (λ es. e ∷ es) o ≡ Some ds → ds ≡ map nat_of (pos e ∷ zs)
front_dims e zs None ds f h = absurd (cc h)
front_dims e zs (Some es) ds f h = let is : e ∷ es ≡ ds = cc h in sym is ∙ ap (λ l. e ∷ l) (f es refl)

dims_from_are : (n : ℕ) (zs : List ℤ) (ds : List ℕ) → dims_from n zs ≡ Some ds → ds ≡ map nat_of zs
dims_from_are n [] ds h = let is : [] ≡ ds = cc h in sym is
dims_from_are n (negsuc e ∷ zs) ds h = absurd (cc h)
dims_from_are n (pos e ∷ zs) ds h =
    front_dims e zs (dims_from (n * e) zs) ds (λ es g. dims_from_are (n * e) zs es g)
    (chosen ((nat_lt 0 e && nat_le e most_extent) && nat_le (n * e) most_elements)
    (option_map (λ es. e ∷ es) (dims_from (n * e) zs)) ds h)

pub dims_are : (zs : List ℤ) (ds : List ℕ) → dims_of zs ≡ Some ds → ds ≡ map nat_of zs
dims_are [] ds h = absurd (cc h)
dims_are (z ∷ zs) ds h = dims_from_are 1 (z ∷ zs) ds (chosen (nat_le (length zs) 2) (dims_from 1 (z ∷ zs)) ds h)

pub map_many : {A B : Type 0} (f : A → B) (xs : List A) → length (map f xs) ≡ length xs
map_many f [] = refl
map_many f (x ∷ xs) = ap suc (map_many f xs)

worths_by : (o : Value ℤ) (next : Value (List ℤ)) (zs : List ℤ) (n : ℕ) → ((ys : List ℤ) → next ≡ Ok ys → length ys ≡ n)
    → and_then o (λ z. before z next) ≡ Ok zs → length zs ≡ suc n
worths_by (Err x) next zs n f h = absurd (cc h)
worths_by (Ok z) (Err x) zs n f h = absurd (cc h)
worths_by (Ok z) (Ok ys) zs n f h = let is : z ∷ ys ≡ zs = cc h in ap length (sym is) ∙ ap suc (f ys refl)

pub worths_many : (es : List Expr) (numbers : Numbers) (names : Names) (zs : List ℤ) → worths es numbers names.lists
    ≡ Ok zs → length zs ≡ length es
worths_many [] numbers names zs h = let is : [] ≡ zs = cc h in ap length (sym is)
worths_many (e ∷ es) numbers names zs h =
    worths_by (worth_of e numbers names.lists) (worths es numbers names.lists) zs (length es)
    (λ ys g. worths_many es numbers names ys g) h

-- as many extents as the text says, of the parameters from the i-th on
abbrev pub ParamDims : List Param → (i : ℕ) → List (List ℕ) → Type 0
ParamDims ps i extents = (j : ℕ) (p : Param) (dims : List ℕ) → slice_get ps j ≡ Some p → slice_get extents (i + j)
    ≡ Some dims → length dims ≡ length p.extents

-- ---- what the names of a form stand for

module _ (all : Known) where
  -- a name that is known as an array of so many dimensions
  pub record IsArray (name : Bytes) (extents : List ℕ) : Type 0 where
    pub type : ArrayType
    pub is : kind_of all name ≡ Some (kind.Array type)
    pub many : length extents ≡ type.dims

  -- a block set of such an array
  pub record AreBlocks (name : Bytes) (chop : Chop) : Type 0 where
    pub kind_ : Kind
    pub is : kind_of all name ≡ Some kind_
    pub array : Bytes
    pub type : ArrayType
    pub there : kind_of all array ≡ Some (kind.Array type)
    pub of : (more : Known) → kind_of more array ≡ Some (kind.Array type) → array_known more (Some kind_) ≡ Some type
    pub many : length (extents_of chop) ≡ type.dims

  pub record AsKnown (names : Names) : Type 0 where
    pub arrays : (name : Bytes) (a : Array) → lookup (same_name name) names.arrays ≡ Some a → IsArray name a.extents
    pub blocks : (name : Bytes) (b : Blocks) → lookup (same_name name) names.blocks ≡ Some b → AreBlocks name b.chop

  array_stood : (name own : Bytes) (a x : Array) (o : Option Array) → IsArray own a.extents
      → (o ≡ Some x → IsArray name x.extents) → Stood name own a x o → IsArray name x.extents
  array_stood name own a x o h f (old e) = f e
  array_stood name own a x o h f (new e is) =
      subst (λ (n : Bytes). IsArray n x.extents) (sym e) (subst (λ (y : Array). IsArray own y.extents) is h)

  array_added : (names : Names) (own : Bytes) (a : Array) → IsArray own a.extents → AsKnown names
      → AsKnown (with_array names own a)
  array_added names own a h all_known = record {
    arrays = λ name x e. array_stood name own a x (lookup (same_name name) names.arrays) h (all_known.arrays name x)
        (first_stood name own names.arrays a x (is_some (lookup (same_name own) names.arrays)) e);
    blocks = all_known.blocks;
  }

  blocks_stood : (name own : Bytes) (b x : Blocks) (o : Option Blocks) → AreBlocks own b.chop
      → (o ≡ Some x → AreBlocks name x.chop) → Stood name own b x o → AreBlocks name x.chop
  blocks_stood name own b x o h f (old e) = f e
  blocks_stood name own b x o h f (new e is) =
      subst (λ (n : Bytes). AreBlocks n x.chop) (sym e) (subst (λ (y : Blocks). AreBlocks own y.chop) is h)

  -- ---- parameters

  module _ (extents : List (List ℕ)) where
    abbrev ParamsRest : List Param → ℕ → Scope → Type 0
    ParamsRest ps i t = (u : Scope) → AsKnown u.names → params_from u ps i extents ≡ Some t → AsKnown t.names

    param_bound : (s t : Scope) (p : Param) (ps : List Param) (i : ℕ) (dims : List ℕ) → ParamsRest ps (i + 1) t
        → AsKnown (with_array s.names p.name (record { number = s.arrays; extents = dims })) → (o : Option Numbers)
        → option_and_then (λ u. params_from u ps (i + 1) extents) (option_map (λ numbers. record {
          names = with_array s.names p.name (record { number = s.arrays; extents = dims });
          numbers = numbers;
          arrays = s.arrays + 1;
          locals = s.locals;
        }) o) ≡ Some t → AsKnown t.names
    param_bound s t p ps i dims rest h None e = absurd (cc e)
    param_bound s t p ps i dims rest h (Some numbers) e = rest _ h e

    param_there : (s t : Scope) (p : Param) (ps : List Param) (i : ℕ) → ParamsRest ps (i + 1) t
        → kind_of all p.name ≡ Some (kind.Array (param_type p)) → AsKnown s.names → (o : Option (List ℕ))
        → ((dims : List ℕ) → o ≡ Some dims → length dims ≡ length p.extents)
        → option_and_then (λ u. params_from u ps (i + 1) extents) (param_at s p o) ≡ Some t → AsKnown t.names
    param_there s t p ps i rest own h None f e = absurd (cc e)
    param_there s t p ps i rest own h (Some dims) f e =
        param_bound s t p ps i dims rest
        (array_added s.names p.name (record { number = s.arrays; extents = dims })
        (record { type = param_type p; is = own; many = f dims refl }) h)
        (bind_from s.numbers p.extents 0 dims) e

    pub params_as_known : (ps : List Param) (i : ℕ) (s t : Scope) → ParamsKnown all ps → ParamDims ps i extents
        → AsKnown s.names → params_from s ps i extents ≡ Some t → AsKnown t.names
    params_as_known [] i s t own dims h e = let is : s ≡ t = cc e in subst (λ (u : Scope). AsKnown u.names) is h
    params_as_known (p ∷ ps) i s t own dims h e =
        let here : i ≡ i + 0 = omega arith in
        param_there s t p ps i
        (λ u k g. params_as_known ps (i + 1) u t own.1
        (λ j q ds a b. let later : i + suc j ≡ i + 1 + j = omega arith in dims (suc j) q ds a
        (ap (slice_get extents) later ∙ b)) k g) own.0 h (slice_get extents i)
        (λ ds g. dims 0 p ds refl (ap (slice_get extents) (sym here) ∙ g)) e

  -- ---- declarations

  abbrev made : Scope → Value Scope
  made s = Ok s

  same_names : (s t : Scope) → made s ≡ Ok t → s.names ≡ t.names
  same_names s t h = let is : s ≡ t = cc h in ap (λ (u : Scope). u.names) is

  local_known_so : (s t : Scope) (place : Place) (elem : Elem) (name : Bytes) (es : List Expr) (ns : List ℤ)
      → length ns ≡ length es → kind_of all name ≡ Some (kind.Array (local_type elem es)) → AsKnown s.names
      → (o : Option (List ℕ)) → dims_of ns ≡ o → local_at s place elem name o ≡ Ok t → AsKnown t.names
  local_known_so s t place elem name es ns many own h None g e = absurd (cc e)
  local_known_so s t place elem name es ns many own h (Some dims) g e =
      subst AsKnown (same_names _ t e)
      (array_added s.names name (record { number = s.arrays; extents = dims }) (record {
        type = local_type elem es;
        is = own;
        many = ap length (dims_are ns dims g) ∙ (map_many nat_of ns ∙ many);
      }) h)

  local_by : (s t : Scope) (place : Place) (elem : Elem) (name : Bytes) (es : List Expr)
      → kind_of all name ≡ Some (kind.Array (local_type elem es)) → AsKnown s.names
      → (v : Value (List ℤ)) → worths es s.numbers s.names.lists ≡ v
      → and_then v (λ ns. local_at s place elem name (dims_of ns)) ≡ Ok t → AsKnown t.names
  local_by s t place elem name es own h (Err x) g e = absurd (cc e)
  local_by s t place elem name es own h (Ok ns) g e =
      local_known_so s t place elem name es ns (worths_many es s.numbers s.names ns g) own h (dims_of ns) refl e

  chop_by : (s t : Scope) (place : Place) (name array : Bytes) (k : Kind) (chop : List ℕ → Chop)
      → ((extents : List ℕ) → extents_of (chop extents) ≡ extents)
      → ((type : ArrayType) (more : Known) → kind_of more array ≡ Some (kind.Array type)
      → array_known more (Some k) ≡ Some type)
      → kind_of all name ≡ Some k → AsKnown s.names → (o : Option Array) → array_of s array ≡ o
      → with_chop s place name chop o ≡ Ok t → AsKnown t.names
  chop_by s t place name array k chop its of own h None g e = absurd (cc e)
  chop_by s t place name array k chop its of own h (Some a) g e =
      let is = h.arrays array a g in
      let b : Blocks = record { array = a.number; chop = chop a.extents } in
      let more : Names = record {
        lists = s.names.lists;
        arrays = s.names.arrays;
        blocks = with_first s.names.blocks name b;
      } in
      let next : Scope = record { names = more; numbers = s.numbers; arrays = s.arrays; locals = s.locals } in
      let same : next ≡ t =
      chosen_ok (is_err (judged (chop a.extents))) (fault_named code.BadChop place name) next t e in
      subst (λ (u : Scope). AsKnown u.names) same (record {
        arrays = h.arrays;
        blocks = λ other x f.
            blocks_stood other name b x (lookup (same_name other) s.names.blocks) (record {
              kind_ = k;
              is = own;
              array = array;
              type = is.type;
              there = is.is;
              of = of is.type;
              many = ap length (its a.extents) ∙ is.many;
            }) (h.blocks other x)
            (first_stood other name s.names.blocks b x (is_some (lookup (same_name name) s.names.blocks)) f);
      })

  chop_then : (s t : Scope) (next : List ℤ → Value Scope) (v : Value (List ℤ))
      → ((ns : List ℤ) → next ns ≡ Ok t → AsKnown t.names)
      → and_then v next ≡ Ok t → AsKnown t.names
  chop_then s t next (Err x) f e = absurd (cc e)
  chop_then s t next (Ok ns) f e = f ns e

  decl_as_known : (tunings : List Tuning) (d : Decl) (s t : Scope) → DeclKnown all d → AsKnown s.names
      → after_decl tunings s d ≡ Ok t → AsKnown t.names
  decl_as_known tunings (decl.Tunable place name) s t own h e = subst AsKnown (same_names _ t e) h
  decl_as_known tunings (decl.List place name) s t own h e =
      subst AsKnown (same_names _ t e) (record { arrays = h.arrays; blocks = h.blocks })
  decl_as_known tunings (decl.Local place elem name es) s t own h e =
      local_by s t place elem name es own h (worths es s.numbers s.names.lists) refl e
  decl_as_known tunings (decl.Rchop place name array sizes) s t own h e =
      chop_then s t (λ ns. with_chop s place name (λ es. Regular es ns) (array_of s array.name))
      (worths sizes s.numbers s.names.lists)
      (λ ns g. chop_by s t place name array.name (kind.Rchop array.name) (λ es. Regular es ns) (λ es. refl)
      (λ type more k. ap array_type k) own h (array_of s array.name) refl g) e
  decl_as_known tunings (decl.Ichop place name array starts ends) s t own h e =
      chop_by s t place name array.name (kind.Ichop array.name)
      (λ es. Irregular es (list_of s.names.lists starts.name) (list_of s.names.lists ends.name)) (λ es. refl)
      (λ type more k. ap array_type k) own h (array_of s array.name) refl e

  one_as_known : (tunings : List Tuning) (d : Decl) (s t : Scope) (next : Scope → Value Scope)
      → ((u : Scope) → AsKnown u.names → next u ≡ Ok t → AsKnown t.names) → DeclKnown all d → AsKnown s.names
      → (v : Value Scope) → after_decl tunings s d ≡ v → and_then v next ≡ Ok t → AsKnown t.names
  one_as_known tunings d s t next rest own h (Err x) g e = absurd (cc e)
  one_as_known tunings d s t next rest own h (Ok u) g e = rest u (decl_as_known tunings d s u own h g) e

  pub decls_as_known : (tunings : List Tuning) (ds : List Decl) (s t : Scope) → DeclsKnown all ds → AsKnown s.names
      → all_declared tunings s ds ≡ Ok t → AsKnown t.names
  decls_as_known tunings [] s t own h e = let is : s ≡ t = cc e in subst (λ (u : Scope). AsKnown u.names) is h
  decls_as_known tunings (d ∷ ds) s t own h e =
      one_as_known tunings d s t (λ u. all_declared tunings u ds) (λ u k g. decls_as_known tunings ds u t own.1 k g)
      own.0 h (after_decl tunings s d) refl e

  -- ---- arguments

  -- an argument whose name is known so further in: its block has as many spans
  pub record HasSpans (more : Known) (name : Bytes) (rect : List Span) : Type 0 where
    pub type : ArrayType
    pub is : array_known more (kind_of more name) ≡ Some type
    pub many : length rect ≡ type.dims

  front_many : (o : Option Span) (next : Option (List Span)) (n : ℕ) (rect : List Span)
      → ((spans : List Span) → next ≡ Some spans → length spans ≡ n) → with_front o next ≡ Some rect → length rect
      ≡ suc n
  front_many None next n rect f h = absurd (cc h)
  front_many (Some s) None n rect f h = absurd (cc h)
  front_many (Some s) (Some spans) n rect f h = let is : s ∷ spans ≡ rect = cc h in ap length (sym is)
      ∙ ap suc (f spans refl)

  wholes_many : (ns : List ℕ) (rect : List Span) → wholes ns ≡ Some rect → length rect ≡ length ns
  wholes_many [] rect h = let is : [] ≡ rect = cc h in ap length (sym is)
  wholes_many (n ∷ ns) rect h = front_many (span_of 0 n) (wholes ns) (length ns) rect
      (λ spans g. wholes_many ns spans g) h

  pieces_many : (ns : List ℕ) (bs is : List ℤ) (rect : List Span) → pieces ns bs is ≡ Some rect → length rect
      ≡ length ns
  pieces_many [] bs is rect h = let e : [] ≡ rect = cc h in ap length (sym e)
  pieces_many (n ∷ ns) [] is rect h = absurd (cc h)
  pieces_many (n ∷ ns) (b ∷ bs) [] rect h = absurd (cc h)
  pieces_many (n ∷ ns) (b ∷ bs) (i ∷ is) rect h = front_many (piece n b i) (pieces ns bs is) (length ns) rect
      (λ spans g. pieces_many ns bs is spans g) h

  listed_many : (ns : List ℕ) (s e : Option ℤ) (rect : List Span) → listed ns s e ≡ Some rect → length rect ≡ length ns
  listed_many [] s e rect h = absurd (cc h)
  listed_many (n ∷ ns) None e rect h = absurd (cc h)
  listed_many (n ∷ ns) (Some s) None rect h = absurd (cc h)
  listed_many (n ∷ ns) (Some s) (Some e) rect h = front_many (range_of n s e) (wholes ns) (length ns) rect
      (λ spans g. wholes_many ns spans g) h

  block_at_many : (chop : Chop) (is : List ℤ) (rect : List Span) → block_at chop is ≡ Some rect → length rect
      ≡ length (extents_of chop)
  block_at_many (Regular extents sizes) is rect h = pieces_many extents sizes is rect h
  block_at_many (Irregular extents starts ends) is rect h = listed_many extents (get_at starts is) (get_at ends is) rect
      h

  block_many : (chop : Chop) (is : List ℤ) (rect : List Span) → block chop is ≡ Ok rect → length rect
      ≡ length (extents_of chop)
  block_many chop is rect h = by (block_at chop is) refl h
    where
      by : (o : Option (List Span)) → block_at chop is ≡ o → or_index_fault o ≡ Ok rect → length rect
          ≡ length (extents_of chop)
      by None e g = absurd (cc g)
      by (Some spans) e g = let same : spans ≡ rect = cc g in block_at_many chop is rect (e ∙ ap Some same)

  module _ (more : Known) (extends : Extends all more) (names : Names) (h : AsKnown names) where
    whole_spans : (name : Bytes) (b : Block) (a : Array) → lookup (same_name name) names.arrays ≡ Some a
        → (o : Option (List Span)) → wholes a.extents ≡ o → of_array a.number o ≡ Some b → HasSpans more name b.rect
    whole_spans name b a e None g k = absurd (cc k)
    whole_spans name b a e (Some rect) g k =
        let is = h.arrays name a e in
        let same : rect ≡ b.rect = ap rect_or k in
        record {
          type = is.type;
          is = ap (array_known more) (extends name (kind.Array is.type) is.is);
          many = ap length (sym same) ∙ (wholes_many a.extents rect g ∙ is.many);
        }
      where
        rect_or : Option Block → List Span
        rect_or None = []
        rect_or (Some c) = c.rect

    array_spans : (name : Bytes) (b : Block) (o : Option Array) → lookup (same_name name) names.arrays ≡ o
        → all_of_array o ≡ Some b → HasSpans more name b.rect
    array_spans name b None e k = absurd (cc k)
    array_spans name b (Some a) e k = whole_spans name b a e (wholes a.extents) refl k

    block_spans : (name : Bytes) (b : Block) (bs : Blocks) (index : List ℤ)
        → lookup (same_name name) names.blocks ≡ Some bs → (v : Result (List Span) ConstFault) → block bs.chop index ≡ v
        → of_block bs.array v ≡ Some b → HasSpans more name b.rect
    block_spans name b bs index e (Err x) g k = absurd (cc k)
    block_spans name b bs index e (Ok rect) g k =
        let are = h.blocks name bs e in
        let same : rect ≡ b.rect = ap rect_or k in
        record {
          type = are.type;
          is = ap (array_known more) (extends name are.kind_ are.is)
              ∙ are.of more (extends are.array (kind.Array are.type) are.there);
          many = ap length (sym same) ∙ (block_many bs.chop index rect g ∙ are.many);
        }
      where
        rect_or : Option Block → List Span
        rect_or None = []
        rect_or (Some c) = c.rect

    set_spans : (name : Bytes) (b : Block) (index : List ℤ) (o : Option Blocks)
        → lookup (same_name name) names.blocks ≡ o → block_of index o ≡ Some b → HasSpans more name b.rect
    set_spans name b index None e k = absurd (cc k)
    set_spans name b index (Some bs) e k = block_spans name b bs index e (block bs.chop index) refl k

    there_some : (a : ArgUse) (b : Block) (o : Option Block) → block_or_fault a o ≡ Ok b → o ≡ Some b
    there_some a b None k = absurd (cc k)
    there_some a b (Some c) k = let is : c ≡ b = cc k in ap Some is

    index_spans : (a : ArgUse) (b : Block) (v : Value (List ℤ))
        → and_then v (λ index. block_or_fault a (block_in names (out-ArgUse a).name index)) ≡ Ok b
        → HasSpans more (out-ArgUse a).name b.rect
    index_spans a b (Err x) k = absurd (cc k)
    index_spans a b (Ok index) k =
        set_spans (out-ArgUse a).name b index (lookup (same_name (out-ArgUse a).name) names.blocks) refl
        (there_some a b (block_in names (out-ArgUse a).name index) k)

    by_spans : (numbers : Numbers) (a : ArgUse) (b : Block) (index : List Expr) → block_by names numbers a index ≡ Ok b
        → HasSpans more (out-ArgUse a).name b.rect
    by_spans numbers a b [] k =
        array_spans (out-ArgUse a).name b (lookup (same_name (out-ArgUse a).name) names.arrays) refl
        (there_some a b (whole_array names (out-ArgUse a).name) k)
    by_spans numbers a b (e ∷ es) k = index_spans a b (worths (e ∷ es) numbers names.lists) k

    pub argument_spans : (numbers : Numbers) (a : ArgUse) (b : Block) → block_named names numbers a ≡ Ok b
        → HasSpans more (out-ArgUse a).name b.rect
    argument_spans numbers a b k = by_spans numbers a b (out-ArgUse a).index k
