-- In a form each array's number is of one name, and the blocks of a name are of the array that its kind names.
use Rattle.std.proofs.Common.{◌≡◌, ℕ, ◌+◌, ◌<◌, Bool, true, false, ℤ, List, [], ◌∷◌, ◌++◌, length, Option, Some, None, option_map, is_some, Ok, Err, refl, sym, ◌∙◌, ap, subst, arith}
use Rattle.std.specs.Prelude.{slice_get, is_err, ◌&&◌, if◌then◌else◌}
use Rattle.std.specs.Map.{lookup}
use Rattle.std.specs.Option.{option_and_then}
use Rattle.sq_text.specs.declared.place.Place.{Place}
use Rattle.sq_text.specs.declared.code.Code.TheVariants as code
use Rattle.sq_text.specs.Names.{Bytes, same_name}
use Rattle.sq_num.specs.declared.Elem.{Elem}
use Rattle.sq_ast.specs.declared.expr.Expr.{Expr}
use Rattle.sq_ast.specs.declared.program.Decl.{Decl}
use Rattle.sq_ast.specs.declared.program.Decl.TheVariants as decl
use Rattle.sq_ast.specs.declared.program.Extent.{Extent}
use Rattle.sq_ast.specs.declared.program.Extent.TheVariants as extent
use Rattle.sq_ast.specs.declared.program.Param.{Param}
use Rattle.sq_forms.specs.Mappings.declared.mapping.Tuning.{Tuning}
use Rattle.sq_forms.proofs.Mappings.Same.{itself}
use Rattle.sq_types.specs.declared.kind.Kind.{Kind}
use Rattle.sq_types.specs.declared.kind.Kind.TheVariants as kind
use Rattle.sq_types.specs.Known.{Known, kind_of, with_name}
use Rattle.sq_ast.specs.Modes.{is_written}
use Rattle.sq_types.specs.Table.{is_block_of, array_type, dims_of as dims_of_type}
use Rattle.sq_types.specs.Sites.{extents_known, with_param, param_known, params_known, local_known, rchop_known, ichop_known, decl_known, decls_known, arrays_after}
use Rattle.sq_types.specs.Sound as typed
use Rattle.sq_blocks.specs.Names.{Numbers, Lists, list_of, with_number, with_list}
use Rattle.sq_blocks.specs.Spans.{judged}
use Rattle.sq_blocks.specs.declared.chop.Chop.{Chop}
use Rattle.sq_blocks.specs.declared.chop.Chop.TheVariants.{Regular, Irregular}
use Rattle.sq_forms.specs.declared.known.Array.{Array}
use Rattle.sq_forms.specs.declared.known.Blocks.{Blocks}
use Rattle.sq_forms.specs.Faults.{Value, and_then, fault_named}
use Rattle.sq_forms.specs.Args.{Names, worths}
use Rattle.sq_forms.specs.Calls.{bind_from}
use Rattle.sq_forms.specs.Tables.{setting_of}
use Rattle.sq_forms.specs.Decls.{Scope, with_first, with_array, number_in, list_in, dims_of, local_at, with_blocks, with_chop, array_of, after_decl, all_declared, param_at, params_from, empty_scope}
use Rattle.sq_spec.proofs.FormLaws.InsideHold.{first_stood, chosen_ok}
use Rattle.sq_spec.proofs.FormLaws.Shapes.{Stood, old, new, there_kept}
use Rattle.sq_spec_laws.proofs.Sorted.{known_kept, known_own, three, both, is_fresh}

-- a name's blocks are of the n-th array, whose name the name's kind tells
pub record BlocksOf (known : Known) (names : Names) (name : Bytes) (n : ℕ) : Type 0 where
  pub kind_ : Kind
  pub is : kind_of known name ≡ Some kind_
  pub array : Bytes
  pub of : is_block_of array (Some kind_) ≡ true
  pub entry : Array
  pub there : lookup (same_name array) names.arrays ≡ Some entry
  pub number : entry.number ≡ n

pub record OneName (known : Known) (names : Names) (count : ℕ) : Type 0 where
  pub below : (name : Bytes) (a : Array) → lookup (same_name name) names.arrays ≡ Some a → a.number < count
  pub one : (name other : Bytes) (a b : Array) → lookup (same_name name) names.arrays ≡ Some a → lookup (same_name other) names.arrays ≡ Some b
      → a.number ≡ b.number → name ≡ other
  pub blocks : (name : Bytes) (b : Blocks) → lookup (same_name name) names.blocks ≡ Some b → BlocksOf known names name b.array

-- ---- more is known

known_blocks : (known : Known) (own : Bytes) (k : Kind) (names : Names) (name : Bytes) (n : ℕ) → BlocksOf known names name n
    → BlocksOf (with_name known own k) names name n
known_blocks known own k names name n h = record {
  kind_ = h.kind_;
  is = known_kept known own k name h.kind_ h.is;
  array = h.array;
  of = h.of;
  entry = h.entry;
  there = h.there;
  number = h.number;
}

one_known : (known : Known) (own : Bytes) (k : Kind) (names : Names) (count : ℕ) → OneName known names count → OneName (with_name known own k) names count
one_known known own k names count h = record {
  below = h.below;
  one = h.one;
  blocks = λ name b e. known_blocks known own k names name b.array (h.blocks name b e);
}

extents_one : (names : Names) (count : ℕ) (es : List Extent) (known : Known) → OneName known names count → OneName (extents_known es known) names count
extents_one names count [] known h = h
extents_one names count (extent.Size place name ∷ es) known h = extents_one names count es (with_name known name kind.Size) (one_known known name kind.Size names count h)
extents_one names count (extent.Fixed place n ∷ es) known h = extents_one names count es known h

-- ---- one more array

first_kept : {X : Type 0} (name own : Bytes) (es : List (Bytes × X)) (a x : X) (b : Bool) → lookup (same_name name) es ≡ Some x
    → lookup (same_name name) (if b then es else es ++ (own, a) ∷ []) ≡ Some x
first_kept name own es a x true h = h
first_kept name own es a x false h = there_kept name es ((own, a) ∷ []) x h

module _ (known : Known) (names : Names) (count : ℕ) (own : Bytes) (dims : List ℕ) (h : OneName known names count) where
  abbrev fresh_array : Array
  fresh_array = record { number = count; extents = dims }

  abbrev more_names : Names
  more_names = with_array names own fresh_array

  stood_array : (name : Bytes) (a : Array) → lookup (same_name name) more_names.arrays ≡ Some a
      → Stood name own fresh_array a (lookup (same_name name) names.arrays)
  stood_array name a e = first_stood name own names.arrays fresh_array a (is_some (lookup (same_name own) names.arrays)) e

  below_by : (name : Bytes) (a : Array) → Stood name own fresh_array a (lookup (same_name name) names.arrays) → a.number < count + 1
  below_by name a (old e) = let less = h.below name a e in omega (arith, less)
  below_by name a (new e is) = let same : count ≡ a.number = ap (λ (b : Array). b.number) is in omega (arith, same)

  one_by : (name other : Bytes) (a b : Array) → Stood name own fresh_array a (lookup (same_name name) names.arrays)
      → Stood other own fresh_array b (lookup (same_name other) names.arrays) → a.number ≡ b.number → name ≡ other
  one_by name other a b (old e) (old f) same = h.one name other a b e f same
  one_by name other a b (old e) (new f is) same =
      let less = h.below name a e in
      let last : count ≡ b.number = ap (λ (c : Array). c.number) is in
      absurd (omega (arith, less, last, same))
  one_by name other a b (new e is) (old f) same =
      let less = h.below other b f in
      let last : count ≡ a.number = ap (λ (c : Array). c.number) is in
      absurd (omega (arith, less, last, same))
  one_by name other a b (new e is) (new f its) same = e ∙ sym f

  array_blocks : (name : Bytes) (n : ℕ) → BlocksOf known names name n → BlocksOf known more_names name n
  array_blocks name n g = record {
    kind_ = g.kind_;
    is = g.is;
    array = g.array;
    of = g.of;
    entry = g.entry;
    there = first_kept g.array own names.arrays fresh_array g.entry (is_some (lookup (same_name own) names.arrays)) g.there;
    number = g.number;
  }

  one_array : OneName known more_names (count + 1)
  one_array = record {
    below = λ name a e. below_by name a (stood_array name a e);
    one = λ name other a b e f. one_by name other a b (stood_array name a e) (stood_array other b f);
    blocks = λ name b e. array_blocks name b.array (h.blocks name b e);
  }

-- ---- one more block set

module _ (known : Known) (names : Names) (count : ℕ) (own : Bytes) (k : Kind) (array : ℕ) (chop : Chop) (h : OneName known names count) where
  abbrev fresh_blocks : Blocks
  fresh_blocks = record { array = array; chop = chop }

  abbrev block_names : Names
  block_names = record { lists = names.lists; arrays = names.arrays; blocks = with_first names.blocks own fresh_blocks }

  same_blocks : (name : Bytes) (n : ℕ) → BlocksOf (with_name known own k) names name n → BlocksOf (with_name known own k) block_names name n
  same_blocks name n g = record { kind_ = g.kind_; is = g.is; array = g.array; of = g.of; entry = g.entry; there = g.there; number = g.number }

  blocks_by : (name : Bytes) (b : Blocks) → BlocksOf (with_name known own k) names own array
      → Stood name own fresh_blocks b (lookup (same_name name) names.blocks) → BlocksOf (with_name known own k) block_names name b.array
  blocks_by name b here (old e) = same_blocks name b.array (known_blocks known own k names name b.array (h.blocks name b e))
  blocks_by name b here (new e is) =
      subst (λ (c : Blocks). BlocksOf (with_name known own k) block_names name c.array) is
      (subst (λ m. BlocksOf (with_name known own k) block_names m array) (sym e) (same_blocks own array here))

  one_blocks : BlocksOf (with_name known own k) names own array → OneName (with_name known own k) block_names count
  one_blocks here = record {
    below = h.below;
    one = h.one;
    blocks = λ name b e. blocks_by name b here (first_stood name own names.blocks fresh_blocks b (is_some (lookup (same_name own) names.blocks)) e);
  }

-- ---- parameters

abbrev param_scope : Scope → Param → List ℕ → Numbers → Scope
param_scope s p dims numbers = record { names = with_array s.names p.name (record { number = s.arrays; extents = dims }); numbers = numbers; arrays = s.arrays + 1; locals = s.locals }

abbrev Good : Known → Scope → Type 0
Good known s = OneName known s.names s.arrays

param_made : (known : Known) (s t : Scope) (p : Param) (dims : List ℕ) (o : Option Numbers) → Good known s
    → option_map (λ numbers. param_scope s p dims numbers) o ≡ Some t → Good (param_known p known) t
param_made known s t p dims None h g = absurd (cc g)
param_made known s t p dims (Some numbers) h g =
    let is : param_scope s p dims numbers ≡ t = cc g in
    let names2 = with_array s.names p.name (record { number = s.arrays; extents = dims }) in
    let more : OneName known names2 (s.arrays + 1) = one_array known s.names s.arrays p.name dims h in
    let named : OneName (with_param known p) names2 (s.arrays + 1) =
    one_known known p.name (kind.Array (record { dims = length p.extents; is_writable = is_written p.mode; elem = p.elem })) names2 (s.arrays + 1) more in
    subst (Good (param_known p known)) is (extents_one names2 (s.arrays + 1) p.extents (with_param known p) named)

module _ (all : List (List ℕ)) where
  abbrev Rest : List Param → ℕ → Scope → Type 0
  Rest ps i t = (known : Known) (u : Scope) → Good known u → params_from u ps (i + 1) all ≡ Some t → Good (params_known ps known) t

  param_next : (known : Known) (s t : Scope) (p : Param) (ps : List Param) (i : ℕ) (dims : List ℕ) → Good known s → Rest ps i t
      → (o : Option Scope) → param_at s p (Some dims) ≡ o → option_and_then (λ u. params_from u ps (i + 1) all) o ≡ Some t
      → Good (params_known ps (param_known p known)) t
  param_next known s t p ps i dims h rest None e g = absurd (cc g)
  param_next known s t p ps i dims h rest (Some u) e g = rest (param_known p known) u (param_made known s u p dims (bind_from s.numbers p.extents 0 dims) h e) g

  param_there : (known : Known) (s t : Scope) (p : Param) (ps : List Param) (i : ℕ) → Good known s → Rest ps i t
      → (o : Option (List ℕ)) → option_and_then (λ u. params_from u ps (i + 1) all) (param_at s p o) ≡ Some t
      → Good (params_known ps (param_known p known)) t
  param_there known s t p ps i h rest None g = absurd (cc g)
  param_there known s t p ps i h rest (Some dims) g = param_next known s t p ps i dims h rest (param_at s p (Some dims)) refl g

  params_good : (ps : List Param) (i : ℕ) (known : Known) (s t : Scope) → Good known s → params_from s ps i all ≡ Some t → Good (params_known ps known) t
  params_good [] i known s t h g = let is : s ≡ t = cc g in subst (Good known) is h
  params_good (p ∷ ps) i known s t h g = param_there known s t p ps i h (λ k u b e. params_good ps (i + 1) k u t b e) (slice_get all i) g

none_good : Good [] empty_scope
none_good = record { below = λ name a e. absurd (cc e); one = λ name other a b e f same. absurd (cc e); blocks = λ name b e. absurd (cc e) }

-- ---- declarations

abbrev scope_okay : Scope → Value Scope
scope_okay s = Ok s

number_good : (known : Known) (s t : Scope) (own : Bytes) (k : Kind) (numbers : Numbers) → Good known s
    → scope_okay (record { names = s.names; numbers = numbers; arrays = s.arrays; locals = s.locals }) ≡ Ok t → Good (with_name known own k) t
number_good known s t own k numbers h g =
    let made : Scope = record { names = s.names; numbers = numbers; arrays = s.arrays; locals = s.locals } in
    let is : made ≡ t = cc g in
    subst (Good (with_name known own k)) is (one_known known own k s.names s.arrays h)

list_blocks : (known : Known) (names : Names) (lists : Lists) (name : Bytes) (n : ℕ) → BlocksOf known names name n
    → BlocksOf known (record { lists = lists; arrays = names.arrays; blocks = names.blocks }) name n
list_blocks known names lists name n h = record { kind_ = h.kind_; is = h.is; array = h.array; of = h.of; entry = h.entry; there = h.there; number = h.number }

list_good : (known : Known) (s t : Scope) (own : Bytes) (k : Kind) (lists : Lists) → Good known s
    → scope_okay (record { names = record { lists = lists; arrays = s.names.arrays; blocks = s.names.blocks }; numbers = s.numbers; arrays = s.arrays; locals = s.locals }) ≡ Ok t
    → Good (with_name known own k) t
list_good known s t own k lists h g =
    let names2 : Names = record { lists = lists; arrays = s.names.arrays; blocks = s.names.blocks } in
    let made : Scope = record { names = names2; numbers = s.numbers; arrays = s.arrays; locals = s.locals } in
    let is : made ≡ t = cc g in
    let moved : OneName known names2 s.arrays = record { below = h.below; one = h.one; blocks = λ name b e. list_blocks known s.names lists name b.array (h.blocks name b e) } in
    subst (Good (with_name known own k)) is (one_known known own k names2 s.arrays moved)

local_good : (known : Known) (s t : Scope) (place : Place) (elem : Elem) (own : Bytes) (es : List Expr) → Good known s
    → (o : Option (List ℕ)) → local_at s place elem own o ≡ Ok t → Good (local_known elem own es known) t
local_good known s t place elem own es h None g = absurd (cc g)
local_good known s t place elem own es h (Some dims) g =
    let names2 = with_array s.names own (record { number = s.arrays; extents = dims }) in
    let made : Scope = record { names = names2; numbers = s.numbers; arrays = s.arrays + 1; locals = s.locals ++ record { elem = elem; extents = dims } ∷ [] } in
    let is : made ≡ t = cc g in
    let more : OneName known names2 (s.arrays + 1) = one_array known s.names s.arrays own dims h in
    subst (Good (local_known elem own es known)) is
    (one_known known own (kind.Array (record { dims = length es; is_writable = true; elem = elem })) names2 (s.arrays + 1) more)

blocks_good : (known : Known) (s t : Scope) (place : Place) (own : Bytes) (k : Kind) (array : ℕ) (chop : Chop)
    → BlocksOf (with_name known own k) s.names own array → Good known s → with_blocks s place own array chop ≡ Ok t → Good (with_name known own k) t
blocks_good known s t place own k array chop here h g =
    let made : Scope = record {
      names = record { lists = s.names.lists; arrays = s.names.arrays; blocks = with_first s.names.blocks own (record { array = array; chop = chop }) };
      numbers = s.numbers;
      arrays = s.arrays;
      locals = s.locals;
    } in
    let is : made ≡ t = chosen_ok (is_err (judged chop)) (fault_named code.BadChop place own) made t g in
    subst (Good (with_name known own k)) is (one_blocks known s.names s.arrays own k array chop h here)

-- blocks of the array of this name, by a kind that tells it
chop_good : (known : Known) (s t : Scope) (place : Place) (own array : Bytes) (k : Kind) (chop : List ℕ → Chop) → kind_of known own ≡ None
    → is_block_of array (Some k) ≡ true → Good known s → (o : Option Array) → array_of s array ≡ o → with_chop s place own chop o ≡ Ok t
    → Good (with_name known own k) t
chop_good known s t place own array k chop fresh of h None e g = absurd (cc g)
chop_good known s t place own array k chop fresh of h (Some a) e g =
    blocks_good known s t place own k a.number (chop a.extents)
    (record { kind_ = k; is = known_own known own k fresh; array = array; of = of; entry = a; there = e; number = refl }) h g

worths_then : (known : Known) (t : Scope) (v : Value (List ℤ)) (next : List ℤ → Value Scope) → ((ns : List ℤ) → next ns ≡ Ok t → Good known t)
    → and_then v next ≡ Ok t → Good known t
worths_then known t (Ok ns) next f h = f ns h
worths_then known t (Err e) next f h = absurd (cc h)

decl_good : (tunings : List Tuning) (before : ℕ) (known : Known) (s t : Scope) (d : Decl) → typed.is_sound_decl before d known ≡ true → Good known s
    → after_decl tunings s d ≡ Ok t → Good (decl_known d known) t
decl_good tunings before known s t (decl.Tunable place name) sound h g = number_good known s t name kind.Scalar (with_number s.numbers name (number_in (setting_of tunings name))) h g
decl_good tunings before known s t (decl.List place name) sound h g = list_good known s t name kind.List (with_list s.names.lists name (list_in (setting_of tunings name))) h g
decl_good tunings before known s t (decl.Local place elem name es) sound h g =
    worths_then (local_known elem name es known) t (worths es s.numbers s.names.lists) (λ ns. local_at s place elem name (dims_of ns))
    (λ ns e. local_good known s t place elem name es h (dims_of ns) e) g
decl_good tunings before known s t (decl.Rchop place name array sizes) sound h g =
    let known2 = rchop_known name array known in
    let dims_ = typed.agrees (dims_of_type (array_type (kind_of known array.name))) (length sizes) in
    let a = three (typed.is_new name known) dims_ (typed.names_array array.name known2 && typed.are_sound_exprs sizes known2) sound in
    worths_then known2 t (worths sizes s.numbers s.names.lists) (λ ns. with_chop s place name (λ es. Regular es ns) (array_of s array.name))
    (λ ns e. chop_good known s t place name array.name (kind.Rchop array.name) (λ es. Regular es ns) (is_fresh name known a.0) (itself array.name) h
    (array_of s array.name) refl e) g
decl_good tunings before known s t (decl.Ichop place name array starts ends) sound h g =
    let known2 = ichop_known name array known in
    let a = both (typed.is_new name known) (typed.names_array array.name known2 && (typed.names_list starts.name known2 && typed.names_list ends.name known2)) sound in
    chop_good known s t place name array.name (kind.Ichop array.name) (λ es. Irregular es (list_of s.names.lists starts.name) (list_of s.names.lists ends.name))
    (is_fresh name known a.0) (itself array.name) h (array_of s array.name) refl g

one_declared : (tunings : List Tuning) (known : Known) (t : Scope) (ds : List Decl) (v : Value Scope)
    → ((u : Scope) → v ≡ Ok u → all_declared tunings u ds ≡ Ok t → Good (decls_known ds known) t)
    → and_then v (λ u. all_declared tunings u ds) ≡ Ok t → Good (decls_known ds known) t
one_declared tunings known t ds (Ok u) f g = f u refl g
one_declared tunings known t ds (Err e) f g = absurd (cc g)

decls_good : (tunings : List Tuning) (ds : List Decl) (before : ℕ) (known : Known) (s t : Scope) → typed.are_sound_decls before ds known ≡ true
    → Good known s → all_declared tunings s ds ≡ Ok t → Good (decls_known ds known) t
decls_good tunings [] before known s t sound h g = let is : s ≡ t = cc g in subst (Good known) is h
decls_good tunings (d ∷ ds) before known s t sound h g =
    let q = both (typed.is_sound_decl before d known) (typed.are_sound_decls (arrays_after before d) ds (decl_known d known)) sound in
    one_declared tunings (decl_known d known) t ds (after_decl tunings s d)
    (λ u e k. decls_good tunings ds (arrays_after before d) (decl_known d known) u t q.1 (decl_good tunings before known s u d q.0 h e) k) g

-- behind parameters and declarations
pub scope_names : (params : List Param) (extents : List (List ℕ)) (begun scope : Scope) (tunings : List Tuning) (ds : List Decl) (before : ℕ)
    → typed.are_sound_decls before ds (params_known params []) ≡ true → params_from empty_scope params 0 extents ≡ Some begun
    → all_declared tunings begun ds ≡ Ok scope → OneName (decls_known ds (params_known params [])) scope.names scope.arrays
scope_names params extents begun scope tunings ds before sound binds decls =
    decls_good tunings ds before (params_known params []) begun scope sound (params_good extents params 0 [] empty_scope begun none_good binds) decls
