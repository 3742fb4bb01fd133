-- What each name of a form is known to be agrees with the array that it stands for.
use Rattle.std.proofs.Common.{◌≡◌, ℕ, zero, suc, ◌+◌, Bool, true, false, ℤ, List, [], ◌∷◌, ◌++◌, map, length, Option, Some, None, option_map, is_some, Ok, Err, refl, sym, ◌∙◌, ap, subst, arith, append_assoc, length-append}
use Rattle.std.specs.Prelude.{slice_get, is_err, not, ◌&&◌, nat_lt, if◌then◌else◌}
use Rattle.std.specs.Map.{lookup}
use Rattle.std.specs.Option.{option_and_then}
use Rattle.std.proofs.lemmas.List.{map-append, append-nil}
use Rattle.sq_text.specs.declared.place.Place.{Place}
use Rattle.sq_text.specs.declared.code.Code.TheVariants as code
use Rattle.sq_text.specs.Names.{Bytes, same_name}
use Rattle.sq_num.specs.declared.Elem.{Elem}
use Rattle.sq_ast.specs.declared.expr.Expr.{Expr}
use Rattle.sq_ast.specs.declared.program.Decl.{Decl}
use Rattle.sq_ast.specs.declared.program.Decl.TheVariants as decl
use Rattle.sq_ast.specs.declared.program.Extent.{Extent}
use Rattle.sq_ast.specs.declared.program.Extent.TheVariants as extent
use Rattle.sq_ast.specs.declared.program.Param.{Param}
use Rattle.sq_forms.specs.Mappings.declared.mapping.Tuning.{Tuning}
use Rattle.sq_types.specs.declared.kind.ArrayType.{ArrayType}
use Rattle.sq_types.specs.declared.kind.Kind.{Kind}
use Rattle.sq_types.specs.declared.kind.Kind.TheVariants as kind
use Rattle.sq_types.specs.Known.{Known, kind_of, with_name}
use Rattle.sq_ast.specs.Modes.{is_written}
use Rattle.sq_types.specs.Table.{is_array, most_arrays, array_type, dims_of as dims_of_type}
use Rattle.sq_types.specs.Sites.{extents_known, with_param, param_known, params_known, param_at as first_at, local_known, rchop_known, ichop_known, decl_known, decls_known, arrays_after, ranges_known, with_variable}
use Rattle.sq_types.specs.Sound as typed
use Rattle.sq_ast.specs.declared.stmt.Range.{Range}
use Rattle.sq_blocks.specs.Names.{Numbers, Lists, list_of, with_number, with_list}
use Rattle.sq_blocks.specs.Spans.{judged}
use Rattle.sq_blocks.specs.declared.chop.Chop.{Chop}
use Rattle.sq_blocks.specs.declared.chop.Chop.TheVariants.{Regular, Irregular}
use Rattle.sq_forms.specs.declared.form.LocalArray.{LocalArray}
use Rattle.sq_forms.specs.declared.known.Array.{Array}
use Rattle.sq_forms.specs.declared.known.Blocks.{Blocks}
use Rattle.sq_forms.specs.Faults.{Value, and_then, fault_named}
use Rattle.sq_forms.specs.Args.{Names, worths}
use Rattle.sq_forms.specs.Calls.{bind_from}
use Rattle.sq_forms.specs.Tables.{setting_of}
use Rattle.sq_forms.specs.Decls.{Scope, with_first, with_array, number_in, list_in, dims_of, local_at, with_blocks, with_chop, array_of, after_decl, all_declared, param_at, params_from, empty_scope}
use Rattle.sq_spec.proofs.FormLaws.InsideHold.{first_stood, chosen_ok}
use Rattle.sq_spec.proofs.FormLaws.Shapes.{Stood, old, new, there_kept, new_there}

-- ---- an array's element type, and whether it may be written

abbrev pub Sort : Type 0
Sort = Elem × Bool

abbrev pub sort_of : ArrayType → Sort
sort_of t = (t.elem, t.is_writable)

abbrev pub param_sort : Param → Sort
param_sort p = (p.elem, is_written p.mode)

abbrev pub local_sort : LocalArray → Sort
local_sort l = (l.elem, true)

-- a name that is known as an array, which is the n-th
pub record IsArray (sorts : List Sort) (known : Known) (name : Bytes) (n : ℕ) : Type 0 where
  pub type : ArrayType
  pub is : kind_of known name ≡ Some (kind.Array type)
  pub there : slice_get sorts n ≡ Some (sort_of type)

-- a name that stands for the n-th array: where it is known as an array, that is its type
pub record OfArray (sorts : List Sort) (known : Known) (name : Bytes) (n : ℕ) : Type 0 where
  pub kind_ : Kind
  pub is : kind_of known name ≡ Some kind_
  pub sorted : (t : ArrayType) → kind_ ≡ kind.Array t → slice_get sorts n ≡ Some (sort_of t)

-- a name that stands for blocks of the n-th array
pub record OfBlocks (sorts : List Sort) (known : Known) (name : Bytes) (n : ℕ) : Type 0 where
  pub kind_ : Kind
  pub is : kind_of known name ≡ Some kind_
  pub regular : (array : Bytes) → kind_ ≡ kind.Rchop array → IsArray sorts known array n
  pub irregular : (array : Bytes) → kind_ ≡ kind.Ichop array → IsArray sorts known array n

pub record Sorted (sorts : List Sort) (known : Known) (names : Names) (count : ℕ) : Type 0 where
  pub many : count ≡ length sorts
  pub array : (name : Bytes) (a : Array) → lookup (same_name name) names.arrays ≡ Some a → OfArray sorts known name a.number
  pub block : (name : Bytes) (b : Blocks) → lookup (same_name name) names.blocks ≡ Some b → OfBlocks sorts known name b.array

-- ---- more names

get_kept : {A : Type 0} (xs rest : List A) (i : ℕ) (x : A) → slice_get xs i ≡ Some x → slice_get (xs ++ rest) i ≡ Some x
get_kept [] rest i x h = absurd (cc h)
get_kept (y ∷ xs) rest zero x h = h
get_kept (y ∷ xs) rest (suc i) x h = get_kept xs rest i x h

get_last : {A : Type 0} (xs : List A) (x : A) → slice_get (xs ++ x ∷ []) (length xs) ≡ Some x
get_last [] x = refl
get_last (y ∷ xs) x = get_last xs x

known_by : (known : Known) (own : Bytes) (k : Kind) (name : Bytes) (x : Kind) (b : Bool) → kind_of known name ≡ Some x
    → lookup (same_name name) (if b then known else known ++ (own, k) ∷ []) ≡ Some x
known_by known own k name x true h = h
known_by known own k name x false h = there_kept name known ((own, k) ∷ []) x h

pub known_kept : (known : Known) (own : Bytes) (k : Kind) (name : Bytes) (x : Kind) → kind_of known name ≡ Some x → kind_of (with_name known own k) name ≡ Some x
known_kept known own k name x h = known_by known own k name x (is_some (kind_of known own)) h

pub known_own : (known : Known) (own : Bytes) (k : Kind) → kind_of known own ≡ None → kind_of (with_name known own k) own ≡ Some k
known_own known own k h =
    ap (λ (o : Option Kind). lookup (same_name own) (if is_some o then known else known ++ (own, k) ∷ [])) h ∙ new_there own known k h

module _ (sorts more : List Sort) (known : Known) (own : Bytes) (k : Kind) where
  is_grown : (name : Bytes) (n : ℕ) → IsArray sorts known name n → IsArray (sorts ++ more) (with_name known own k) name n
  is_grown name n h = record { type = h.type; is = known_kept known own k name (kind.Array h.type) h.is; there = get_kept sorts more n (sort_of h.type) h.there }

  array_grown : (name : Bytes) (n : ℕ) → OfArray sorts known name n → OfArray (sorts ++ more) (with_name known own k) name n
  array_grown name n h = record { kind_ = h.kind_; is = known_kept known own k name h.kind_ h.is; sorted = λ t e. get_kept sorts more n (sort_of t) (h.sorted t e) }

  blocks_grown : (name : Bytes) (n : ℕ) → OfBlocks sorts known name n → OfBlocks (sorts ++ more) (with_name known own k) name n
  blocks_grown name n h = record {
    kind_ = h.kind_;
    is = known_kept known own k name h.kind_ h.is;
    regular = λ array e. is_grown array n (h.regular array e);
    irregular = λ array e. is_grown array n (h.irregular array e);
  }

module _ (sorts : List Sort) (known : Known) (own : Bytes) (k : Kind) where
  same_array : (name : Bytes) (n : ℕ) → OfArray sorts known name n → OfArray sorts (with_name known own k) name n
  same_array name n h = subst (λ l. OfArray l (with_name known own k) name n) (append-nil sorts) (array_grown sorts [] known own k name n h)

  same_blocks : (name : Bytes) (n : ℕ) → OfBlocks sorts known name n → OfBlocks sorts (with_name known own k) name n
  same_blocks name n h = subst (λ l. OfBlocks l (with_name known own k) name n) (append-nil sorts) (blocks_grown sorts [] known own k name n h)

  pub sorted_known : (names : Names) (count : ℕ) → Sorted sorts known names count → Sorted sorts (with_name known own k) names count
  sorted_known names count h = record {
    many = h.many;
    array = λ name a e. same_array name a.number (h.array name a e);
    block = λ name b e. same_blocks name b.array (h.block name b e);
  }

-- ---- one more array

array_type_same : (t u : ArrayType) → kind.Array t ≡ kind.Array u → t ≡ u
array_type_same t u h = cc h

own_array : (sorts : List Sort) (known : Known) (own : Bytes) (t : ArrayType) (count : ℕ) → count ≡ length sorts → kind_of known own ≡ None
    → OfArray (sorts ++ sort_of t ∷ []) (with_name known own (kind.Array t)) own count
own_array sorts known own t count many fresh = record {
  kind_ = kind.Array t;
  is = known_own known own (kind.Array t) fresh;
  sorted = λ u e. ap (slice_get (sorts ++ sort_of t ∷ [])) many ∙ (get_last sorts (sort_of t) ∙ ap (λ (w : ArrayType). Some (sort_of w)) (array_type_same t u e));
}

array_stood : (sorts : List Sort) (known : Known) (own : Bytes) (t : ArrayType) (count : ℕ) (dims : List ℕ) → count ≡ length sorts → kind_of known own ≡ None
    → (name : Bytes) (a : Array) (o : Option Array) → (o ≡ Some a → OfArray sorts known name a.number)
    → Stood name own (record { number = count; extents = dims }) a o → OfArray (sorts ++ sort_of t ∷ []) (with_name known own (kind.Array t)) name a.number
array_stood sorts known own t count dims many fresh name a o f (old e) = array_grown sorts (sort_of t ∷ []) known own (kind.Array t) name a.number (f e)
array_stood sorts known own t count dims many fresh name a o f (new e is) =
    subst (λ (b : Array). OfArray (sorts ++ sort_of t ∷ []) (with_name known own (kind.Array t)) name b.number) is
    (subst (λ m. OfArray (sorts ++ sort_of t ∷ []) (with_name known own (kind.Array t)) m count) (sym e) (own_array sorts known own t count many fresh))

one_count : (xs : List Sort) (x : Sort) (n : ℕ) → n ≡ length xs → n + 1 ≡ length (xs ++ x ∷ [])
one_count xs x n h = omega (arith, h, length-append xs (x ∷ []))

pub sorted_array : (sorts : List Sort) (known : Known) (names : Names) (count : ℕ) (own : Bytes) (t : ArrayType) (dims : List ℕ) → kind_of known own ≡ None
    → Sorted sorts known names count
    → Sorted (sorts ++ sort_of t ∷ []) (with_name known own (kind.Array t)) (with_array names own (record { number = count; extents = dims })) (count + 1)
sorted_array sorts known names count own t dims fresh h = record {
  many = one_count sorts (sort_of t) count h.many;
  array = λ name a e.
      array_stood sorts known own t count dims h.many fresh name a (lookup (same_name name) names.arrays) (h.array name a)
      (first_stood name own names.arrays (record { number = count; extents = dims }) a (is_some (lookup (same_name own) names.arrays)) e);
  block = λ name b e. blocks_grown sorts (sort_of t ∷ []) known own (kind.Array t) name b.array (h.block name b e);
}

-- ---- blocks of an array

bytes_same_r : (a b : Bytes) → kind.Rchop a ≡ kind.Rchop b → a ≡ b
bytes_same_r a b h = cc h

bytes_same_i : (a b : Bytes) → kind.Ichop a ≡ kind.Ichop b → a ≡ b
bytes_same_i a b h = cc h

regular_own : (sorts : List Sort) (known : Known) (own array : Bytes) (n : ℕ) → kind_of known own ≡ None
    → IsArray sorts (with_name known own (kind.Rchop array)) array n → OfBlocks sorts (with_name known own (kind.Rchop array)) own n
regular_own sorts known own array n fresh h = record {
  kind_ = kind.Rchop array;
  is = known_own known own (kind.Rchop array) fresh;
  regular = λ other e. subst (λ m. IsArray sorts (with_name known own (kind.Rchop array)) m n) (bytes_same_r array other e) h;
  irregular = λ other e. absurd (cc e);
}

irregular_own : (sorts : List Sort) (known : Known) (own array : Bytes) (n : ℕ) → kind_of known own ≡ None
    → IsArray sorts (with_name known own (kind.Ichop array)) array n → OfBlocks sorts (with_name known own (kind.Ichop array)) own n
irregular_own sorts known own array n fresh h = record {
  kind_ = kind.Ichop array;
  is = known_own known own (kind.Ichop array) fresh;
  regular = λ other e. absurd (cc e);
  irregular = λ other e. subst (λ m. IsArray sorts (with_name known own (kind.Ichop array)) m n) (bytes_same_i array other e) h;
}

blocks_stood : (sorts : List Sort) (known : Known) (own : Bytes) (k : Kind) (array : ℕ) (chop : Chop) → OfBlocks sorts (with_name known own k) own array
    → (name : Bytes) (b : Blocks) (o : Option Blocks) → (o ≡ Some b → OfBlocks sorts known name b.array)
    → Stood name own (record { array = array; chop = chop }) b o → OfBlocks sorts (with_name known own k) name b.array
blocks_stood sorts known own k array chop here name b o f (old e) = same_blocks sorts known own k name b.array (f e)
blocks_stood sorts known own k array chop here name b o f (new e is) =
    subst (λ (c : Blocks). OfBlocks sorts (with_name known own k) name c.array) is
    (subst (λ m. OfBlocks sorts (with_name known own k) m array) (sym e) here)

pub sorted_blocks : (sorts : List Sort) (known : Known) (names : Names) (count : ℕ) (own : Bytes) (k : Kind) (array : ℕ) (chop : Chop)
    → OfBlocks sorts (with_name known own k) own array → Sorted sorts known names count
    → Sorted sorts (with_name known own k) (record { lists = names.lists; arrays = names.arrays; blocks = with_first names.blocks own (record { array = array; chop = chop }) }) count
sorted_blocks sorts known names count own k array chop here h = record {
  many = h.many;
  array = λ name a e. same_array sorts known own k name a.number (h.array name a e);
  block = λ name b e.
      blocks_stood sorts known own k array chop here name b (lookup (same_name name) names.blocks) (h.block name b)
      (first_stood name own names.blocks (record { array = array; chop = chop }) b (is_some (lookup (same_name own) names.blocks)) e);
}

-- ---- tests

pub both : (a b : Bool) → (a && b) ≡ true → (a ≡ true) × (b ≡ true)
both true b h = (refl, h)
both false b h = absurd (cc h)

pub three : (a b c : Bool) → (a && b && c) ≡ true → (a ≡ true) × (b ≡ true) × (c ≡ true)
three true b c h = (refl, (both b c h).0, (both b c h).1)
three false b c h = absurd (cc h)

-- a name that is new, the first parameter's type, and what else is tested of a parameter
pub four : (a b c d : Bool) → (a && b && c && d) ≡ true → (a ≡ true) × (b ≡ true) × (c ≡ true) × (d ≡ true)
four true b c d h = let t = three b c d h in (refl, t.0, t.1, t.2)
four false b c d h = absurd (cc h)

fresh_by : (o : Option Kind) → not (is_some o) ≡ true → o ≡ None
fresh_by None h = refl
fresh_by (Some k) h = absurd (cc h)

pub is_fresh : (name : Bytes) (known : Known) → typed.is_new name known ≡ true → kind_of known name ≡ None
is_fresh name known h = fresh_by (kind_of known name) h

-- ---- parameters

extents_sorted : (sorts : List Sort) (names : Names) (count : ℕ) (es : List Extent) (known : Known) → Sorted sorts known names count
    → Sorted sorts (extents_known es known) names count
extents_sorted sorts names count [] known h = h
extents_sorted sorts names count (extent.Size place name ∷ es) known h =
    extents_sorted sorts names count es (with_name known name kind.Size) (sorted_known sorts known name kind.Size names count h)
extents_sorted sorts names count (extent.Fixed place n ∷ es) known h = extents_sorted sorts names count es known h

-- the parameters so far, and no locals
record Begun (sorts : List Sort) (known : Known) (s : Scope) : Type 0 where
  sorted : Sorted sorts known s.names s.arrays
  alone : s.locals ≡ []

abbrev param_scope : Scope → Param → List ℕ → Numbers → Scope
param_scope s p dims numbers = record { names = with_array s.names p.name (record { number = s.arrays; extents = dims }); numbers = numbers; arrays = s.arrays + 1; locals = s.locals }

param_made : (sorts : List Sort) (known : Known) (s t : Scope) (p : Param) (dims : List ℕ) (o : Option Numbers) → kind_of known p.name ≡ None
    → Begun sorts known s → option_map (λ numbers. param_scope s p dims numbers) o ≡ Some t → Begun (sorts ++ param_sort p ∷ []) (param_known p known) t
param_made sorts known s t p dims None fresh h g = absurd (cc g)
param_made sorts known s t p dims (Some numbers) fresh h g =
    let is : param_scope s p dims numbers ≡ t = cc g in
    let names2 = with_array s.names p.name (record { number = s.arrays; extents = dims }) in
    let more = sorted_array sorts known s.names s.arrays p.name (record { dims = length p.extents; is_writable = is_written p.mode; elem = p.elem }) dims fresh h.sorted in
    subst (Begun (sorts ++ param_sort p ∷ []) (param_known p known)) is
    (record { sorted = extents_sorted (sorts ++ param_sort p ∷ []) names2 (s.arrays + 1) p.extents (with_param known p) more; alone = h.alone })

module _ (all : List (List ℕ)) (first : Option (List Param)) where
  abbrev Rest : List Param → ℕ → ℕ → Scope → Type 0
  Rest ps i j t = (sorts : List Sort) (known : Known) (u : Scope) → typed.are_sound_params first (j + 1) ps known ≡ true → Begun sorts known u
      → params_from u ps (i + 1) all ≡ Some t → Begun (sorts ++ map param_sort ps) (params_known ps known) t

  param_next : (sorts : List Sort) (known : Known) (s t : Scope) (p : Param) (ps : List Param) (i j : ℕ) (dims : List ℕ) → kind_of known p.name ≡ None
      → typed.are_sound_params first (j + 1) ps (param_known p known) ≡ true → Begun sorts known s → Rest ps i j t
      → (o : Option Scope) → param_at s p (Some dims) ≡ o → option_and_then (λ u. params_from u ps (i + 1) all) o ≡ Some t
      → Begun (sorts ++ map param_sort (p ∷ ps)) (params_known ps (param_known p known)) t
  param_next sorts known s t p ps i j dims fresh sound h rest None e g = absurd (cc g)
  param_next sorts known s t p ps i j dims fresh sound h rest (Some u) e g =
      subst (λ l. Begun l (params_known ps (param_known p known)) t) (append_assoc sorts (param_sort p ∷ []) (map param_sort ps))
      (rest (sorts ++ param_sort p ∷ []) (param_known p known) u sound (param_made sorts known s u p dims (bind_from s.numbers p.extents 0 dims) fresh h e) g)

  param_there : (sorts : List Sort) (known : Known) (s t : Scope) (p : Param) (ps : List Param) (i j : ℕ) → kind_of known p.name ≡ None
      → typed.are_sound_params first (j + 1) ps (param_known p known) ≡ true → Begun sorts known s → Rest ps i j t
      → (o : Option (List ℕ)) → option_and_then (λ u. params_from u ps (i + 1) all) (param_at s p o) ≡ Some t
      → Begun (sorts ++ map param_sort (p ∷ ps)) (params_known ps (param_known p known)) t
  param_there sorts known s t p ps i j fresh sound h rest None g = absurd (cc g)
  param_there sorts known s t p ps i j fresh sound h rest (Some dims) g =
      param_next sorts known s t p ps i j dims fresh sound h rest (param_at s p (Some dims)) refl g

  params_sorted : (ps : List Param) (i j : ℕ) (sorts : List Sort) (known : Known) (s t : Scope) → typed.are_sound_params first j ps known ≡ true
      → Begun sorts known s → params_from s ps i all ≡ Some t → Begun (sorts ++ map param_sort ps) (params_known ps known) t
  params_sorted [] i j sorts known s t sound h g =
      let is : s ≡ t = cc g in subst (λ l. Begun l known t) (sym (append-nil sorts)) (subst (Begun sorts known) is h)
  params_sorted (p ∷ ps) i j sorts known s t sound h g =
      let one = typed.is_sound_param (first_at first j) j p known in
      let q = both one (typed.are_sound_params first (j + 1) ps (param_known p known)) sound in
      let as_ = typed.is_as_first (first_at first j) p in
      let few = nat_lt j most_arrays in
      let extents_ = typed.are_sound_extents p.extents (with_param known p) in
      let r = four (typed.is_new p.name known) as_ few extents_ q.0 in
      param_there sorts known s t p ps i j (is_fresh p.name known r.0) q.1 h
      (λ l k u c d e. params_sorted ps (i + 1) (j + 1) l k u t c d e) (slice_get all i) g

none_sorted : Begun [] [] empty_scope
none_sorted = record { sorted = record { many = refl; array = λ name a h. absurd (cc h); block = λ name b h. absurd (cc h) }; alone = refl }

-- ---- declarations

abbrev scope_okay : Scope → Value Scope
scope_okay s = Ok s

-- the parameters' sorts, and those of the locals so far
abbrev pub all_sorts : List Sort → List LocalArray → List Sort
all_sorts base locals = base ++ map local_sort locals

abbrev pub GoodIn : List Sort → Known → Scope → Type 0
GoodIn base known s = Sorted (all_sorts base s.locals) known s.names s.arrays

one_local : (base : List Sort) (locals : List LocalArray) (l : LocalArray) → all_sorts base locals ++ local_sort l ∷ [] ≡ all_sorts base (locals ++ l ∷ [])
one_local base locals l = append_assoc base (map local_sort locals) (local_sort l ∷ []) ∙ ap (λ xs. base ++ xs) (sym (map-append local_sort locals (l ∷ [])))

array_kind : (k : Kind) → is_array k ≡ true → (t : ArrayType) × (k ≡ kind.Array t)
array_kind kind.Size h = absurd (cc h)
array_kind kind.Scalar h = absurd (cc h)
array_kind kind.Variable h = absurd (cc h)
array_kind kind.List h = absurd (cc h)
array_kind (kind.Array t) h = (t, refl)
array_kind (kind.Rchop array) h = absurd (cc h)
array_kind (kind.Ichop array) h = absurd (cc h)

-- what stands for an array, and is known as one
array_there : (sorts : List Sort) (known : Known) (name : Bytes) (n : ℕ) → OfArray sorts known name n → typed.names_array name known ≡ true
    → IsArray sorts known name n
array_there sorts known name n h test =
    let own : is_array h.kind_ ≡ true = sym (ap (typed.is_kind is_array) h.is) ∙ test in
    let k = array_kind h.kind_ own in
    record { type = k.0; is = h.is ∙ ap Some k.1; there = h.sorted k.0 k.1 }

module _ (base : List Sort) where
  number_good : (known : Known) (s t : Scope) (own : Bytes) (k : Kind) (numbers : Numbers) → GoodIn base known s
      → scope_okay (record { names = s.names; numbers = numbers; arrays = s.arrays; locals = s.locals }) ≡ Ok t → GoodIn base (with_name known own k) t
  number_good known s t own k numbers h g =
      let made : Scope = record { names = s.names; numbers = numbers; arrays = s.arrays; locals = s.locals } in
      let is : made ≡ t = cc g in
      subst (GoodIn base (with_name known own k)) is (sorted_known (all_sorts base s.locals) known own k s.names s.arrays h)

  list_good : (known : Known) (s t : Scope) (own : Bytes) (k : Kind) (lists : Lists) → GoodIn base known s
      → scope_okay (record { names = record { lists = lists; arrays = s.names.arrays; blocks = s.names.blocks }; numbers = s.numbers; arrays = s.arrays; locals = s.locals }) ≡ Ok t
      → GoodIn base (with_name known own k) t
  list_good known s t own k lists h g =
      let names2 : Names = record { lists = lists; arrays = s.names.arrays; blocks = s.names.blocks } in
      let made : Scope = record { names = names2; numbers = s.numbers; arrays = s.arrays; locals = s.locals } in
      let is : made ≡ t = cc g in
      let moved : Sorted (all_sorts base s.locals) known names2 s.arrays = record { many = h.many; array = h.array; block = h.block } in
      subst (GoodIn base (with_name known own k)) is (sorted_known (all_sorts base s.locals) known own k names2 s.arrays moved)

  local_good : (known : Known) (s t : Scope) (place : Place) (elem : Elem) (own : Bytes) (es : List Expr) → kind_of known own ≡ None → GoodIn base known s
      → (o : Option (List ℕ)) → local_at s place elem own o ≡ Ok t → GoodIn base (local_known elem own es known) t
  local_good known s t place elem own es fresh h None g = absurd (cc g)
  local_good known s t place elem own es fresh h (Some dims) g =
      let made : Scope = record {
        names = with_array s.names own (record { number = s.arrays; extents = dims });
        numbers = s.numbers;
        arrays = s.arrays + 1;
        locals = s.locals ++ record { elem = elem; extents = dims } ∷ [];
      } in
      let is : made ≡ t = cc g in
      subst (GoodIn base (local_known elem own es known)) is
      (subst (λ xs. Sorted xs (local_known elem own es known) (with_array s.names own (record { number = s.arrays; extents = dims })) (s.arrays + 1)) (one_local base s.locals (record { elem = elem; extents = dims }))
      (sorted_array (all_sorts base s.locals) known s.names s.arrays own (record { dims = length es; is_writable = true; elem = elem }) dims fresh h))

  blocks_good : (known : Known) (s t : Scope) (place : Place) (own : Bytes) (k : Kind) (array : ℕ) (chop : Chop)
      → OfBlocks (all_sorts base s.locals) (with_name known own k) own array → GoodIn base known s → with_blocks s place own array chop ≡ Ok t
      → GoodIn base (with_name known own k) t
  blocks_good known s t place own k array chop here h g =
      let made : Scope = record {
        names = record { lists = s.names.lists; arrays = s.names.arrays; blocks = with_first s.names.blocks own (record { array = array; chop = chop }) };
        numbers = s.numbers;
        arrays = s.arrays;
        locals = s.locals;
      } in
      let is : made ≡ t = chosen_ok (is_err (judged chop)) (fault_named code.BadChop place own) made t g in
      subst (GoodIn base (with_name known own k)) is (sorted_blocks (all_sorts base s.locals) known s.names s.arrays own k array chop here h)

  chopped_good : (known : Known) (s t : Scope) (place : Place) (own array : Bytes) (k : Kind) (chop : List ℕ → Chop)
      → ((n : ℕ) → IsArray (all_sorts base s.locals) (with_name known own k) array n → OfBlocks (all_sorts base s.locals) (with_name known own k) own n)
      → typed.names_array array (with_name known own k) ≡ true → GoodIn base known s
      → (o : Option Array) → array_of s array ≡ o → with_chop s place own chop o ≡ Ok t → GoodIn base (with_name known own k) t
  chopped_good known s t place own array k chop here test h None e g = absurd (cc g)
  chopped_good known s t place own array k chop here test h (Some a) e g =
      let sorts = all_sorts base s.locals in
      let is = array_there sorts (with_name known own k) array a.number (same_array sorts known own k array a.number (h.array array a e)) test in
      blocks_good known s t place own k a.number (chop a.extents) (here a.number is) h g

  worths_then : (known : Known) (t : Scope) (v : Value (List ℤ)) (next : List ℤ → Value Scope) → ((ns : List ℤ) → next ns ≡ Ok t → GoodIn base known t)
      → and_then v next ≡ Ok t → GoodIn base known t
  worths_then known t (Ok ns) next f h = f ns h
  worths_then known t (Err e) next f h = absurd (cc h)

  decl_good : (tunings : List Tuning) (before : ℕ) (known : Known) (s t : Scope) (d : Decl) → typed.is_sound_decl before d known ≡ true → GoodIn base known s
      → after_decl tunings s d ≡ Ok t → GoodIn base (decl_known d known) t
  decl_good tunings before known s t (decl.Tunable place name) sound h g = number_good known s t name kind.Scalar (with_number s.numbers name (number_in (setting_of tunings name))) h g
  decl_good tunings before known s t (decl.List place name) sound h g = list_good known s t name kind.List (with_list s.names.lists name (list_in (setting_of tunings name))) h g
  decl_good tunings before known s t (decl.Local place elem name es) sound h g =
      let fresh = three (typed.is_new name known) (nat_lt before most_arrays) (typed.are_sound_exprs es (local_known elem name es known)) sound in
      worths_then (local_known elem name es known) t (worths es s.numbers s.names.lists) (λ ns. local_at s place elem name (dims_of ns))
      (λ ns e. local_good known s t place elem name es (is_fresh name known fresh.0) h (dims_of ns) e) g
  decl_good tunings before known s t (decl.Rchop place name array sizes) sound h g =
      let known2 = rchop_known name array known in
      let dims_ = typed.agrees (dims_of_type (array_type (kind_of known array.name))) (length sizes) in
      let array_ = typed.names_array array.name known2 in
      let a = three (typed.is_new name known) dims_ (array_ && typed.are_sound_exprs sizes known2) sound in
      let c = both array_ (typed.are_sound_exprs sizes known2) a.2 in
      worths_then known2 t (worths sizes s.numbers s.names.lists) (λ ns. with_chop s place name (λ es. Regular es ns) (array_of s array.name))
      (λ ns e. chopped_good known s t place name array.name (kind.Rchop array.name) (λ es. Regular es ns)
      (λ n is. regular_own (all_sorts base s.locals) known name array.name n (is_fresh name known a.0) is) c.0 h (array_of s array.name) refl e) g
  decl_good tunings before known s t (decl.Ichop place name array starts ends) sound h g =
      let known2 = ichop_known name array known in
      let array_ = typed.names_array array.name known2 in
      let lists_ = typed.names_list starts.name known2 && typed.names_list ends.name known2 in
      let a = both (typed.is_new name known) (array_ && lists_) sound in
      let b = both array_ lists_ a.1 in
      chopped_good known s t place name array.name (kind.Ichop array.name) (λ es. Irregular es (list_of s.names.lists starts.name) (list_of s.names.lists ends.name))
      (λ n is. irregular_own (all_sorts base s.locals) known name array.name n (is_fresh name known a.0) is) b.0 h (array_of s array.name) refl g

  one_declared : (tunings : List Tuning) (known : Known) (t : Scope) (ds : List Decl) (v : Value Scope)
      → ((u : Scope) → v ≡ Ok u → all_declared tunings u ds ≡ Ok t → GoodIn base (decls_known ds known) t)
      → and_then v (λ u. all_declared tunings u ds) ≡ Ok t → GoodIn base (decls_known ds known) t
  one_declared tunings known t ds (Ok u) f g = f u refl g
  one_declared tunings known t ds (Err e) f g = absurd (cc g)

  decls_good : (tunings : List Tuning) (ds : List Decl) (before : ℕ) (known : Known) (s t : Scope) → typed.are_sound_decls before ds known ≡ true
      → GoodIn base known s → all_declared tunings s ds ≡ Ok t → GoodIn base (decls_known ds known) t
  decls_good tunings [] before known s t sound h g = let is : s ≡ t = cc g in subst (GoodIn base known) is h
  decls_good tunings (d ∷ ds) before known s t sound h g =
      let q = both (typed.is_sound_decl before d known) (typed.are_sound_decls (arrays_after before d) ds (decl_known d known)) sound in
      one_declared tunings (decl_known d known) t ds (after_decl tunings s d)
      (λ u e k. decls_good tunings ds (arrays_after before d) (decl_known d known) u t q.1 (decl_good tunings before known s u d q.0 h e) k) g

-- behind parameters and declarations
pub scope_sorted : (first : Option (List Param)) (params : List Param) (extents : List (List ℕ)) (begun scope : Scope) (tunings : List Tuning) (ds : List Decl) (before : ℕ)
    → typed.are_sound_params first 0 params [] ≡ true → typed.are_sound_decls before ds (params_known params []) ≡ true
    → params_from empty_scope params 0 extents ≡ Some begun → all_declared tunings begun ds ≡ Ok scope
    → Sorted (all_sorts (map param_sort params) scope.locals) (decls_known ds (params_known params [])) scope.names scope.arrays
scope_sorted first params extents begun scope tunings ds before sp sd binds decls =
    let b = params_sorted extents first params 0 0 [] [] empty_scope begun sp none_sorted binds in
    let base = map param_sort params in
    let all : base ≡ all_sorts base begun.locals = sym (append-nil base) ∙ ap (all_sorts base) (sym b.alone) in
    let good : GoodIn base (params_known params []) begun = subst (λ l. Sorted l (params_known params []) begun.names begun.arrays) all b.sorted in
    decls_good base tunings ds before (params_known params []) begun scope sd good decls

-- ---- the variables of maps

pub ranges_sorted : (sorts : List Sort) (names : Names) (count : ℕ) (rs : List Range) (known : Known) → Sorted sorts known names count
    → Sorted sorts (ranges_known rs known) names count
ranges_sorted sorts names count [] known h = h
ranges_sorted sorts names count (r ∷ rs) known h =
    ranges_sorted sorts names count rs (with_variable known r) (sorted_known sorts known r.name kind.Variable names count h)
