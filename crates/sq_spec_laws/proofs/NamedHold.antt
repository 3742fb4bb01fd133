-- Each known name stands for something.
use Rattle.std.proofs.Common.{◌≡◌, ℕ, zero, suc, ◌+◌, ◌*◌, ◌<◌, Bool, true, false, ℤ, List, [], ◌∷◌, ◌++◌, length, Option, Some, None, option_map, is_some, Ok, Err, refl, sym, ◌∙◌, ap, subst, arith}
use Rattle.std.specs.Prelude.{slice_get, is_err, IsSome, ◌==◌, ◌&&◌, if◌then◌else◌}
use Rattle.std.proofs.lemmas.Bool.Decides.{nat_tests}
use Rattle.std.specs.Map.{lookup}
use Rattle.std.specs.Option.{option_and_then}
use Rattle.sq_text.specs.declared.place.Place.{Place}
use Rattle.sq_text.specs.Names.{Bytes, same_name}
use Rattle.sq_num.specs.declared.Elem.{Elem}
use Rattle.sq_ast.specs.declared.program.Decl.{Decl}
use Rattle.sq_ast.specs.declared.program.Decl.TheVariants as decl
use Rattle.sq_ast.specs.declared.program.Extent.{Extent}
use Rattle.sq_ast.specs.declared.program.Extent.TheVariants as extent
use Rattle.sq_ast.specs.declared.program.Param.{Param}
use Rattle.sq_ast.specs.declared.stmt.Range.{Range}
use Rattle.sq_forms.specs.Mappings.declared.mapping.Tuning.{Tuning}
use Rattle.sq_types.specs.declared.kind.Kind.{Kind}
use Rattle.sq_types.specs.declared.kind.Kind.TheVariants as kind
use Rattle.sq_types.specs.Known.{Known, kind_of, with_name}
use Rattle.sq_types.specs.Table.{is_number, is_list, is_array, is_argument, indices_of, array_of as array_of_kind}
use Rattle.sq_types.specs.Sites.{extents_known, with_param, param_known, params_known, decl_known, decls_known, with_variable, ranges_known}
use Rattle.sq_types.specs.Sound.{is_kind, agrees, both_suit, fits_param}
use Rattle.sq_blocks.specs.Names.{Numbers, Lists, list_of, with_number, with_list}
use Rattle.sq_blocks.specs.Spans.{judged}
use Rattle.sq_blocks.specs.declared.chop.Chop.{Chop}
use Rattle.sq_blocks.specs.declared.chop.Chop.TheVariants.{Regular, Irregular}
use Rattle.sq_forms.specs.declared.known.Array.{Array}
use Rattle.sq_forms.specs.declared.known.Blocks.{Blocks}
use Rattle.sq_forms.specs.Faults.{Value, and_then, fault_named}
use Rattle.sq_text.specs.declared.code.Code.TheVariants as code
use Rattle.sq_forms.specs.Args.{Names, worths, worth_of, before}
use Rattle.sq_forms.specs.Calls.{bind_from}
use Rattle.sq_forms.specs.Tables.{setting_of}
use Rattle.sq_forms.specs.Stmts.{bounds, count_of, times, count_or_none, Turned, bind_variable, turned_from, in_iteration}
use Rattle.sq_forms.specs.Decls.{Scope, with_first, with_array, number_in, list_in, dims_of, local_at, with_blocks, with_chop, array_of, after_decl, all_declared, param_at, params_from, empty_scope}
use Rattle.sq_spec_laws.specs.Named.{IsThere, Stand, DeclaredNamesStand, VariablesStand, StandingNamesServe}
use Rattle.sq_spec.proofs.FormLaws.InsideHold.{first_stood, chosen_ok}
use Rattle.sq_spec.proofs.FormLaws.Shapes.{Stood, old, new, there_kept, new_there, KeptIn, IsBound, took_from}

-- ---- tables of names

some_kept : {X : Type 0} (name : Bytes) (es fs : List (Bytes × X)) (o : Option X) → lookup (same_name name) es ≡ o → IsSome o
    → IsSome (lookup (same_name name) (es ++ fs))
some_kept name es fs (Some x) e h = ap is_some (there_kept name es fs x e)
some_kept name es fs None e h = absurd (cc h)

-- of two entries of a name the first counts
put_kept : {X : Type 0} (name own : Bytes) (es : List (Bytes × X)) (a : X) (b : Bool) → IsSome (lookup (same_name name) es)
    → IsSome (lookup (same_name name) (if b then es else es ++ (own, a) ∷ []))
put_kept name own es a true h = h
put_kept name own es a false h = some_kept name es ((own, a) ∷ []) (lookup (same_name name) es) refl h

put_own : {X : Type 0} (own : Bytes) (es : List (Bytes × X)) (a : X) (o : Option X) → lookup (same_name own) es ≡ o
    → IsSome (lookup (same_name own) (if is_some o then es else es ++ (own, a) ∷ []))
put_own own es a (Some x) e = ap is_some e
put_own own es a None e = ap is_some (new_there own es a e)

-- ---- more names

-- what stood for something still does
record Grown (names names2 : Names) (numbers numbers2 : Numbers) : Type 0 where
  number : (name : Bytes) → IsSome (lookup (same_name name) numbers) → IsSome (lookup (same_name name) numbers2)
  list : (name : Bytes) → IsSome (lookup (same_name name) names.lists) → IsSome (lookup (same_name name) names2.lists)
  array : (name : Bytes) → IsSome (lookup (same_name name) names.arrays) → IsSome (lookup (same_name name) names2.arrays)
  block : (name : Bytes) → IsSome (lookup (same_name name) names.blocks) → IsSome (lookup (same_name name) names2.blocks)

module _ (names names2 : Names) (numbers numbers2 : Numbers) (g : Grown names names2 numbers numbers2) where
  there_grown : (name : Bytes) (k : Kind) → IsThere names numbers name k → IsThere names2 numbers2 name k
  there_grown name kind.Size h = g.number name h
  there_grown name kind.Scalar h = g.number name h
  there_grown name kind.Variable h = g.number name h
  there_grown name kind.List h = g.list name h
  there_grown name (kind.Array array) h = g.array name h
  there_grown name (kind.Rchop array) h = g.block name h
  there_grown name (kind.Ichop array) h = g.block name h

  stand_grown : (known : Known) → Stand known names numbers → Stand known names2 numbers2
  stand_grown known h = record { all = λ name k e. there_grown name k (h.all name k e) }

stood_there : (known : Known) (names : Names) (numbers : Numbers) (own : Bytes) (k : Kind) → Stand known names numbers → IsThere names numbers own k
    → (name : Bytes) (j : Kind) → Stood name own k j (kind_of known name) → IsThere names numbers name j
stood_there known names numbers own k h here name j (old e) = h.all name j e
stood_there known names numbers own k h here name j (new e is) = subst (λ n. IsThere names numbers n j) (sym e) (subst (λ i. IsThere names numbers own i) is here)

stand_more : (known : Known) (names : Names) (numbers : Numbers) (own : Bytes) (k : Kind) → Stand known names numbers → IsThere names numbers own k
    → Stand (with_name known own k) names numbers
stand_more known names numbers own k h here = record {
  all = λ name j e. stood_there known names numbers own k h here name j (first_stood name own known k j (is_some (kind_of known own)) e);
}

-- ---- parameters

size_there : (numbers : Numbers) (e : Extent) → Type 0
size_there numbers (extent.Size place name) = IsSome (lookup (same_name name) numbers)
size_there numbers (extent.Fixed place n) = Unit {0}

bound_there : (numbers : Numbers) (e : Extent) (n : ℕ) → IsBound numbers e n → size_there numbers e
unfolding size_there
bound_there numbers (extent.Size place name) n h = ap is_some h
bound_there numbers (extent.Fixed place m) n h = tt

extents_stand : (names : Names) (numbers : Numbers) (es : List Extent) (known : Known) → Stand known names numbers
    → ((j : ℕ) (e : Extent) → slice_get es j ≡ Some e → size_there numbers e) → Stand (extents_known es known) names numbers
unfolding size_there
extents_stand names numbers [] known h f = h
extents_stand names numbers (extent.Size place name ∷ es) known h f =
    extents_stand names numbers es (with_name known name kind.Size) (stand_more known names numbers name kind.Size h (f 0 (extent.Size place name) refl)) (λ j e g. f (suc j) e g)
extents_stand names numbers (extent.Fixed place n ∷ es) known h f = extents_stand names numbers es known h (λ j e g. f (suc j) e g)

abbrev StandIn : Known → Scope → Type 0
StandIn known s = Stand known s.names s.numbers

abbrev param_scope : Scope → Param → List ℕ → Numbers → Scope
param_scope s p dims numbers = record { names = with_array s.names p.name (record { number = s.arrays; extents = dims }); numbers = numbers; arrays = s.arrays + 1; locals = s.locals }

kept_some : (numbers more : Numbers) → KeptIn numbers more → (name : Bytes) (o : Option ℤ) → lookup (same_name name) numbers ≡ o → IsSome o
    → IsSome (lookup (same_name name) more)
kept_some numbers more k name (Some m) e h = ap is_some (k name m e)
kept_some numbers more k name None e h = absurd (cc h)

param_stands : (known : Known) (s t : Scope) (p : Param) (dims : List ℕ) (o : Option Numbers) → bind_from s.numbers p.extents 0 dims ≡ o → StandIn known s
    → option_map (λ numbers. param_scope s p dims numbers) o ≡ Some t → StandIn (param_known p known) t
param_stands known s t p dims None e h g = absurd (cc g)
param_stands known s t p dims (Some numbers) e h g =
    let is : param_scope s p dims numbers ≡ t = cc g in
    let took = took_from dims p.extents s.numbers numbers 0 e in
    let a : Array = record { number = s.arrays; extents = dims } in
    let names2 = with_array s.names p.name a in
    let grown : Grown s.names names2 s.numbers numbers = record {
      number = λ name i. kept_some s.numbers numbers took.kept name (lookup (same_name name) s.numbers) refl i;
      list = λ name i. i;
      array = λ name i. put_kept name p.name s.names.arrays a (is_some (lookup (same_name p.name) s.names.arrays)) i;
      block = λ name i. i;
    } in
    let more = stand_more known names2 numbers p.name (kind.Array _) (stand_grown s.names names2 s.numbers numbers grown known h)
    (put_own p.name s.names.arrays a (lookup (same_name p.name) s.names.arrays) refl) in
    subst (StandIn (param_known p known)) is
    (extents_stand names2 numbers p.extents (with_param known p) more (λ j d i. let r = took.each j d i in bound_there numbers d r.0 r.2))

module _ (all : List (List ℕ)) where
  abbrev Rest : List Param → ℕ → Scope → Type 0
  Rest ps i t = (known : Known) (u : Scope) → StandIn known u → params_from u ps (i + 1) all ≡ Some t → StandIn (params_known ps known) t

  param_next : (known : Known) (s t : Scope) (p : Param) (ps : List Param) (i : ℕ) (dims : List ℕ) → StandIn known s → Rest ps i t
      → (o : Option Scope) → param_at s p (Some dims) ≡ o → option_and_then (λ u. params_from u ps (i + 1) all) o ≡ Some t
      → StandIn (params_known ps (param_known p known)) t
  param_next known s t p ps i dims h rest None e g = absurd (cc g)
  param_next known s t p ps i dims h rest (Some u) e g =
      rest (param_known p known) u (param_stands known s u p dims (bind_from s.numbers p.extents 0 dims) refl h e) g

  param_there : (known : Known) (s t : Scope) (p : Param) (ps : List Param) (i : ℕ) → StandIn known s → Rest ps i t
      → (o : Option (List ℕ)) → option_and_then (λ u. params_from u ps (i + 1) all) (param_at s p o) ≡ Some t
      → StandIn (params_known ps (param_known p known)) t
  param_there known s t p ps i h rest None g = absurd (cc g)
  param_there known s t p ps i h rest (Some dims) g = param_next known s t p ps i dims h rest (param_at s p (Some dims)) refl g

  params_stand : (ps : List Param) (i : ℕ) (known : Known) (s t : Scope) → StandIn known s → params_from s ps i all ≡ Some t → StandIn (params_known ps known) t
  params_stand [] i known s t h g = let is : s ≡ t = cc g in subst (StandIn known) is h
  params_stand (p ∷ ps) i known s t h g = param_there known s t p ps i h (λ k u q e. params_stand ps (i + 1) k u t q e) (slice_get all i) g

none_stand : StandIn [] empty_scope
none_stand = record { all = λ name k h. absurd (cc h) }

-- ---- declarations

abbrev scope_okay : Scope → Value Scope
scope_okay s = Ok s

number_scope : (known : Known) (s t : Scope) (own : Bytes) (n : ℤ) → StandIn known s
    → scope_okay (record { names = s.names; numbers = with_number s.numbers own n; arrays = s.arrays; locals = s.locals }) ≡ Ok t
    → StandIn (with_name known own kind.Scalar) t
number_scope known s t own n h g =
    let numbers2 = with_number s.numbers own n in
    let made : Scope = record { names = s.names; numbers = numbers2; arrays = s.arrays; locals = s.locals } in
    let is : made ≡ t = cc g in
    let grown : Grown s.names s.names s.numbers numbers2 = record {
      number = λ name i. put_kept name own s.numbers n (is_some (lookup (same_name own) s.numbers)) i;
      list = λ name i. i;
      array = λ name i. i;
      block = λ name i. i;
    } in
    subst (StandIn (with_name known own kind.Scalar)) is
    (stand_more known s.names numbers2 own kind.Scalar (stand_grown s.names s.names s.numbers numbers2 grown known h) (put_own own s.numbers n (lookup (same_name own) s.numbers) refl))

list_scope : (known : Known) (s t : Scope) (own : Bytes) (ns : List ℤ) → StandIn known s
    → scope_okay (record { names = record { lists = with_list s.names.lists own ns; arrays = s.names.arrays; blocks = s.names.blocks }; numbers = s.numbers; arrays = s.arrays; locals = s.locals }) ≡ Ok t
    → StandIn (with_name known own kind.List) t
list_scope known s t own ns h g =
    let names2 : Names = record { lists = with_list s.names.lists own ns; arrays = s.names.arrays; blocks = s.names.blocks } in
    let made : Scope = record { names = names2; numbers = s.numbers; arrays = s.arrays; locals = s.locals } in
    let is : made ≡ t = cc g in
    let grown : Grown s.names names2 s.numbers s.numbers = record {
      number = λ name i. i;
      list = λ name i. put_kept name own s.names.lists ns (is_some (lookup (same_name own) s.names.lists)) i;
      array = λ name i. i;
      block = λ name i. i;
    } in
    subst (StandIn (with_name known own kind.List)) is
    (stand_more known names2 s.numbers own kind.List (stand_grown s.names names2 s.numbers s.numbers grown known h) (put_own own s.names.lists ns (lookup (same_name own) s.names.lists) refl))

local_scope : (known : Known) (s t : Scope) (place : Place) (elem : Elem) (own : Bytes) (k : Kind) → ((names : Names) (numbers : Numbers)
    → IsSome (lookup (same_name own) names.arrays) → IsThere names numbers own k)
    → StandIn known s → (o : Option (List ℕ)) → local_at s place elem own o ≡ Ok t → StandIn (with_name known own k) t
local_scope known s t place elem own k is_array_ h None g = absurd (cc g)
local_scope known s t place elem own k is_array_ h (Some dims) g =
    let a : Array = record { number = s.arrays; extents = dims } in
    let names2 = with_array s.names own a in
    let made : Scope = record { names = names2; numbers = s.numbers; arrays = s.arrays + 1; locals = s.locals ++ record { elem = elem; extents = dims } ∷ [] } in
    let is : made ≡ t = cc g in
    let grown : Grown s.names names2 s.numbers s.numbers = record {
      number = λ name i. i;
      list = λ name i. i;
      array = λ name i. put_kept name own s.names.arrays a (is_some (lookup (same_name own) s.names.arrays)) i;
      block = λ name i. i;
    } in
    subst (StandIn (with_name known own k)) is
    (stand_more known names2 s.numbers own k (stand_grown s.names names2 s.numbers s.numbers grown known h) (is_array_ names2 s.numbers (put_own own s.names.arrays a (lookup (same_name own) s.names.arrays) refl)))

abbrev IsBlocks : Bytes → Kind → Type 0
IsBlocks own k = (names : Names) (numbers : Numbers) → IsSome (lookup (same_name own) names.blocks) → IsThere names numbers own k

blocks_scope : (known : Known) (s t : Scope) (place : Place) (own : Bytes) (array : ℕ) (chop : Chop) (k : Kind) → IsBlocks own k → StandIn known s
    → with_blocks s place own array chop ≡ Ok t
    → StandIn (with_name known own k) t
blocks_scope known s t place own array chop k are h g =
    let b : Blocks = record { array = array; chop = chop } in
    let names2 : Names = record { lists = s.names.lists; arrays = s.names.arrays; blocks = with_first s.names.blocks own b } in
    let made : Scope = record { names = names2; numbers = s.numbers; arrays = s.arrays; locals = s.locals } in
    let is : made ≡ t = chosen_ok (is_err (judged chop)) (fault_named code.BadChop place own) made t g in
    let grown : Grown s.names names2 s.numbers s.numbers = record {
      number = λ name i. i;
      list = λ name i. i;
      array = λ name i. i;
      block = λ name i. put_kept name own s.names.blocks b (is_some (lookup (same_name own) s.names.blocks)) i;
    } in
    subst (StandIn (with_name known own k)) is
    (stand_more known names2 s.numbers own k (stand_grown s.names names2 s.numbers s.numbers grown known h) (are names2 s.numbers (put_own own s.names.blocks b (lookup (same_name own) s.names.blocks) refl)))

chopped_scope : (known : Known) (s t : Scope) (place : Place) (own : Bytes) (chop : List ℕ → Chop) (k : Kind) → IsBlocks own k → StandIn known s
    → (o : Option Array) → with_chop s place own chop o ≡ Ok t
    → StandIn (with_name known own k) t
chopped_scope known s t place own chop k are h None g = absurd (cc g)
chopped_scope known s t place own chop k are h (Some a) g = blocks_scope known s t place own a.number (chop a.extents) k are h g

worths_then : (known : Known) (t : Scope) (v : Value (List ℤ)) (next : List ℤ → Value Scope) → ((ns : List ℤ) → next ns ≡ Ok t → StandIn known t)
    → and_then v next ≡ Ok t → StandIn known t
worths_then known t (Ok ns) next f h = f ns h
worths_then known t (Err e) next f h = absurd (cc h)

decl_stands : (tunings : List Tuning) (known : Known) (s t : Scope) (d : Decl) → StandIn known s → after_decl tunings s d ≡ Ok t → StandIn (decl_known d known) t
decl_stands tunings known s t (decl.Tunable place name) h g = number_scope known s t name (number_in (setting_of tunings name)) h g
decl_stands tunings known s t (decl.List place name) h g = list_scope known s t name (list_in (setting_of tunings name)) h g
decl_stands tunings known s t (decl.Local place elem name es) h g =
    worths_then (decl_known (decl.Local place elem name es) known) t (worths es s.numbers s.names.lists) (λ ns. local_at s place elem name (dims_of ns))
    (λ ns e. local_scope known s t place elem name (kind.Array _) (λ names numbers i. i) h (dims_of ns) e) g
decl_stands tunings known s t (decl.Rchop place name array sizes) h g =
    worths_then (decl_known (decl.Rchop place name array sizes) known) t (worths sizes s.numbers s.names.lists) (λ ns. with_chop s place name (λ es. Regular es ns) (array_of s array.name))
    (λ ns e. chopped_scope known s t place name (λ es. Regular es ns) (kind.Rchop array.name) (λ names numbers i. i) h (array_of s array.name) e) g
decl_stands tunings known s t (decl.Ichop place name array starts ends) h g =
    chopped_scope known s t place name (λ es. Irregular es (list_of s.names.lists starts.name) (list_of s.names.lists ends.name)) (kind.Ichop array.name) (λ names numbers i. i) h (array_of s array.name) g

one_declared : (tunings : List Tuning) (known : Known) (t : Scope) (ds : List Decl) (v : Value Scope) → ((u : Scope) → v ≡ Ok u
    → all_declared tunings u ds ≡ Ok t → StandIn (decls_known ds known) t)
    → and_then v (λ u. all_declared tunings u ds) ≡ Ok t → StandIn (decls_known ds known) t
one_declared tunings known t ds (Ok u) f g = f u refl g
one_declared tunings known t ds (Err e) f g = absurd (cc g)

decls_stand : (tunings : List Tuning) (ds : List Decl) (known : Known) (s t : Scope) → StandIn known s → all_declared tunings s ds ≡ Ok t
    → StandIn (decls_known ds known) t
decls_stand tunings [] known s t h g = let is : s ≡ t = cc g in subst (StandIn known) is h
decls_stand tunings (d ∷ ds) known s t h g =
    one_declared tunings (decl_known d known) t ds (after_decl tunings s d) (λ u e k. decls_stand tunings ds (decl_known d known) u t (decl_stands tunings known s u d h e) k) g

pub declared_names_stand : DeclaredNamesStand
declared_names_stand v tunings extents begun scope binds decls =
    decls_stand tunings v.decls (params_known v.params []) begun scope (params_stand extents v.params 0 [] empty_scope begun none_stand binds) decls

-- ---- the variables of a map

turned_kept : (own : Bytes) (n : ℕ) (u : Turned) (name : Bytes) → IsSome (lookup (same_name name) u.numbers)
    → IsSome (lookup (same_name name) (bind_variable own n u).numbers)
turned_kept own zero u name h = h
turned_kept own (suc n) u name h = put_kept name own u.numbers _ (is_some (lookup (same_name own) u.numbers)) h

turned_own : (own : Bytes) (n : ℕ) (u : Turned) → 0 < n → IsSome (lookup (same_name own) (bind_variable own n u).numbers)
turned_own own zero u h = absurd (omega (arith, h))
turned_own own (suc n) u h = put_own own u.numbers _ (lookup (same_name own) u.numbers) refl

all_kept : (rs : List Range) (i : ℕ) (ns : List ℤ) (t : ℕ) (numbers : Numbers) (name : Bytes) → IsSome (lookup (same_name name) numbers)
    → IsSome (lookup (same_name name) (turned_from rs i ns t numbers).numbers)
all_kept [] i ns t numbers name h = h
all_kept (r ∷ rs) i ns t numbers name h =
    turned_kept r.name (count_or_none (slice_get ns i)) (turned_from rs (i + 1) ns t numbers) name (all_kept rs (i + 1) ns t numbers name h)

-- each of them is bound
each_bound : (rs : List Range) (i : ℕ) (ns : List ℤ) (t : ℕ) (numbers : Numbers) → ((j : ℕ) → j < length rs → 0 < count_or_none (slice_get ns (i + j)))
    → (j : ℕ) (r : Range) → slice_get rs j ≡ Some r → IsSome (lookup (same_name r.name) (turned_from rs i ns t numbers).numbers)
each_bound [] i ns t numbers f j r g = absurd (cc g)
each_bound (q ∷ rs) i ns t numbers f zero r g =
    let is : q ≡ r = cc g in
    let z : i + 0 ≡ i = omega arith in
    let some : 0 < count_or_none (slice_get ns i) = subst (λ k. 0 < count_or_none (slice_get ns k)) z (f 0 (omega arith)) in
    subst (λ (x : Range). IsSome (lookup (same_name x.name) (turned_from (q ∷ rs) i ns t numbers).numbers)) is
    (turned_own q.name (count_or_none (slice_get ns i)) (turned_from rs (i + 1) ns t numbers) some)
each_bound (q ∷ rs) i ns t numbers f (suc j) r g =
    let rest = each_bound rs (i + 1) ns t numbers (λ k less. let z : i + suc k ≡ i + 1 + k = omega arith in subst (λ m. 0 < count_or_none (slice_get ns m)) z (f (suc k) (omega (arith, less)))) j r g in
    turned_kept q.name (count_or_none (slice_get ns i)) (turned_from rs (i + 1) ns t numbers) r.name rest

ranges_stand : (names : Names) (numbers : Numbers) (rs : List Range) (known : Known) → Stand known names numbers → ((j : ℕ) (r : Range)
    → slice_get rs j ≡ Some r → IsSome (lookup (same_name r.name) numbers))
    → Stand (ranges_known rs known) names numbers
ranges_stand names numbers [] known h f = h
ranges_stand names numbers (r ∷ rs) known h f =
    ranges_stand names numbers rs (with_variable known r) (stand_more known names numbers r.name kind.Variable h (f 0 r refl)) (λ j q g. f (suc j) q g)

both_some : (a b : ℕ) → 0 < a * b → (0 < a) × (0 < b)
both_some zero b h = absurd (omega (arith, h))
both_some (suc a) zero h = absurd (omega (arith, h))
both_some (suc a) (suc b) h = (omega arith, omega arith)

positive : (ns : List ℤ) → 0 < times ns → (j : ℕ) → j < length ns → 0 < count_or_none (slice_get ns j)
positive [] h j less = absurd (omega (arith, less))
positive (n ∷ ns) h zero less = (both_some (count_of n) (times ns) h).0
positive (n ∷ ns) h (suc j) less = positive ns (both_some (count_of n) (times ns) h).1 j (omega (arith, less))

many_before : (n : ℤ) (m : ℕ) (ns : List ℤ) (v : Value (List ℤ)) → ((ms : List ℤ) → v ≡ Ok ms → length ms ≡ m) → before n v ≡ Ok ns → length ns ≡ suc m
many_before n m ns (Ok ms) f h = let is : n ∷ ms ≡ ns = cc h in ap length (sym is) ∙ ap suc (f ms refl)
many_before n m ns (Err e) f h = absurd (cc h)

many_by : (m : ℕ) (ns : List ℤ) (v : Value ℤ) (rest : Value (List ℤ)) → ((ms : List ℤ) → rest ≡ Ok ms → length ms ≡ m)
    → and_then v (λ n. before n rest) ≡ Ok ns → length ns ≡ suc m
many_by m ns (Ok n) rest f h = many_before n m ns rest f h
many_by m ns (Err e) rest f h = absurd (cc h)

many_bounds : (rs : List Range) (numbers : Numbers) (lists : Lists) (ns : List ℤ) → bounds rs numbers lists ≡ Ok ns → length ns ≡ length rs
many_bounds [] numbers lists ns h = let is : [] ≡ ns = cc h in ap length (sym is)
many_bounds (r ∷ rs) numbers lists ns h = many_by (length rs) ns (worth_of r.bound numbers lists) (bounds rs numbers lists) (λ ms e. many_bounds rs numbers lists ms e) h

pub variables_stand : VariablesStand
variables_stand known names numbers ranges ns t h b less =
    let numbers2 = in_iteration ranges ns t numbers in
    let some : 0 < times ns = omega (arith, less) in
    let many = many_bounds ranges numbers names.lists ns b in
    let grown : Grown names names numbers numbers2 = record { number = λ name i. all_kept ranges 0 ns t numbers name i; list = λ name i. i; array = λ name i. i; block = λ name i. i } in
    ranges_stand names numbers2 ranges known (stand_grown names names numbers numbers2 grown known h)
    (each_bound ranges 0 ns t numbers (λ j l. let z : j ≡ 0 + j = omega arith in subst (λ m. 0 < count_or_none (slice_get ns m)) z (positive ns some j (omega (arith, l, many)))))

-- ---- what they serve for

kind_there : (test : Kind → Bool) (o : Option Kind) → is_kind test o ≡ true → (k : Kind) × (o ≡ Some k) × (test k ≡ true)
kind_there test None h = absurd (cc h)
kind_there test (Some k) h = (k, refl, h)

number_there : (names : Names) (numbers : Numbers) (name : Bytes) (k : Kind) → is_number k ≡ true → IsThere names numbers name k
    → IsSome (lookup (same_name name) numbers)
number_there names numbers name kind.Size e h = h
number_there names numbers name kind.Scalar e h = h
number_there names numbers name kind.Variable e h = h
number_there names numbers name kind.List e h = absurd (cc e)
number_there names numbers name (kind.Array array) e h = absurd (cc e)
number_there names numbers name (kind.Rchop array) e h = absurd (cc e)
number_there names numbers name (kind.Ichop array) e h = absurd (cc e)

list_there : (names : Names) (numbers : Numbers) (name : Bytes) (k : Kind) → is_list k ≡ true → IsThere names numbers name k
    → IsSome (lookup (same_name name) names.lists)
list_there names numbers name kind.Size e h = absurd (cc e)
list_there names numbers name kind.Scalar e h = absurd (cc e)
list_there names numbers name kind.Variable e h = absurd (cc e)
list_there names numbers name kind.List e h = h
list_there names numbers name (kind.Array array) e h = absurd (cc e)
list_there names numbers name (kind.Rchop array) e h = absurd (cc e)
list_there names numbers name (kind.Ichop array) e h = absurd (cc e)

array_there : (names : Names) (numbers : Numbers) (name : Bytes) (k : Kind) → is_array k ≡ true → IsThere names numbers name k
    → IsSome (lookup (same_name name) names.arrays)
array_there names numbers name kind.Size e h = absurd (cc e)
array_there names numbers name kind.Scalar e h = absurd (cc e)
array_there names numbers name kind.Variable e h = absurd (cc e)
array_there names numbers name kind.List e h = absurd (cc e)
array_there names numbers name (kind.Array array) e h = h
array_there names numbers name (kind.Rchop array) e h = absurd (cc e)
array_there names numbers name (kind.Ichop array) e h = absurd (cc e)

whole_there : (names : Names) (numbers : Numbers) (name : Bytes) (k : Kind) → is_argument 0 k ≡ true → IsThere names numbers name k
    → IsSome (lookup (same_name name) names.arrays)
whole_there names numbers name kind.Size e h = absurd (cc e)
whole_there names numbers name kind.Scalar e h = absurd (cc e)
whole_there names numbers name kind.Variable e h = absurd (cc e)
whole_there names numbers name kind.List e h = absurd (cc e)
whole_there names numbers name (kind.Array array) e h = h
whole_there names numbers name (kind.Rchop array) e h = absurd (cc e)
whole_there names numbers name (kind.Ichop array) e h = absurd (cc e)

not_zero : (n : ℕ) → (suc n == 0) ≡ true → ⊥
not_zero n e = absurd (grind (arith, nat_tests))

block_there : (n : ℕ) (names : Names) (numbers : Numbers) (name : Bytes) (k : Kind) → is_argument (suc n) k ≡ true → IsThere names numbers name k
    → IsSome (lookup (same_name name) names.blocks)
block_there n names numbers name kind.Size e h = absurd (cc e)
block_there n names numbers name kind.Scalar e h = absurd (cc e)
block_there n names numbers name kind.Variable e h = absurd (cc e)
block_there n names numbers name kind.List e h = absurd (cc e)
block_there n names numbers name (kind.Array array) e h = absurd (not_zero n e)
block_there n names numbers name (kind.Rchop array) e h = h
block_there n names numbers name (kind.Ichop array) e h = h

first_of : (a b : Bool) → (a && b) ≡ true → a ≡ true
first_of true b h = refl
first_of false b h = absurd (cc h)

argument_kind : (n : ℕ) (param : Option Param) (name : Bytes) (known : Known) → fits_param n param name known ≡ true
    → (k : Kind) × (kind_of known name ≡ Some k) × (is_argument n k ≡ true)
argument_kind n param name known h =
    kind_there (is_argument n) (kind_of known name)
    (first_of (is_kind (is_argument n) (kind_of known name)) (agrees (indices_of known (kind_of known name)) n && both_suit param (array_of_kind known (kind_of known name))) h)

pub standing_names_serve : StandingNamesServe
standing_names_serve known names numbers h = record {
  number = λ name e. let k = kind_there is_number (kind_of known name) e in number_there names numbers name k.0 k.2 (h.all name k.0 k.1);
  list = λ name e. let k = kind_there is_list (kind_of known name) e in list_there names numbers name k.0 k.2 (h.all name k.0 k.1);
  array = λ name e. let k = kind_there is_array (kind_of known name) e in array_there names numbers name k.0 k.2 (h.all name k.0 k.1);
  whole = λ param name e. let k = argument_kind 0 param name known e in whole_there names numbers name k.0 k.2 (h.all name k.0 k.1);
  block = λ n param name e. let k = argument_kind (suc n) param name known e in block_there n names numbers name k.0 k.2 (h.all name k.0 k.1);
}
