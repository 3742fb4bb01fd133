-- A form has as many locals as its variant declares.
use Rattle.std.proofs.Common.{◌≡◌, ℕ, suc, ◌+◌, ℤ, Bool, true, false, List, [], ◌∷◌, ◌++◌, length, Option, Some, None, Ok, Err, refl, sym, ap, ◌∙◌, arith, length-append}
use Rattle.std.specs.Prelude.{is_err, if◌then◌else◌, slice_get}
use Rattle.std.specs.Option.{option_map, option_and_then}
use Rattle.sq_num.specs.declared.Elem.{Elem}
use Rattle.sq_text.specs.Names.{Bytes}
use Rattle.sq_text.specs.declared.fault.Fault.{Fault}
use Rattle.sq_text.specs.declared.place.Place.{Place}
use Rattle.sq_ast.specs.declared.program.Decl.{Decl}
use Rattle.sq_ast.specs.declared.program.Decl.TheVariants as decl
use Rattle.sq_ast.specs.declared.program.Param.{Param}
use Rattle.sq_mapping.specs.declared.mapping.Tuning.{Tuning}
use Rattle.sq_blocks.specs.Names.{Numbers, list_of}
use Rattle.sq_blocks.specs.Spans.{judged}
use Rattle.sq_blocks.specs.declared.chop.Chop.{Chop}
use Rattle.sq_blocks.specs.declared.chop.Chop.TheVariants.{Regular, Irregular}
use Rattle.sq_leaf.specs.Leaf.{local_names}
use Rattle.sq_forms.specs.declared.known.Array.{Array}
use Rattle.sq_forms.specs.declared.form.LocalArray.{LocalArray}
use Rattle.sq_forms.specs.Faults.{Value, and_then}
use Rattle.sq_forms.specs.Args.{worths}
use Rattle.sq_forms.specs.Calls.{bind_from}
use Rattle.sq_forms.specs.Decls.{Scope, with_array, array_of, dims_of, local_at, with_blocks, with_chop, after_decl, all_declared, param_at, params_from}

abbrev many : Scope → ℕ
many s = length s.locals

ok_same : (s t : Scope) → ◌≡◌ {A = Value Scope} (Ok s) (Ok t) → s ≡ t
ok_same s t e = cc e

blocks_add : (s t : Scope) (place : Place) (name : Bytes) (array : ℕ) (chop : Chop)
    → with_blocks s place name array chop ≡ Ok t → many t ≡ many s
blocks_add s t place name array chop e = by (is_err (judged chop)) _ _ refl e
  where
    by : (b : Bool) (x : Fault) (u : Scope) → many u ≡ many s → (if b then Err x else Ok u) ≡ Ok t → many t ≡ many s
    by true x u k g = absurd (cc g)
    by false x u k g = let is : u ≡ t = cc g in sym (ap many is) ∙ k

chop_adds : (s t : Scope) (place : Place) (name : Bytes) (chop : List ℕ → Chop) (o : Option Array)
    → with_chop s place name chop o ≡ Ok t → many t ≡ many s
chop_adds s t place name chop None e = absurd (cc e)
chop_adds s t place name chop (Some a) e = blocks_add s t place name a.number (chop a.extents) e

local_adds : (s t : Scope) (place : Place) (elem : Elem) (name : Bytes) (o : Option (List ℕ))
    → local_at s place elem name o ≡ Ok t → many t ≡ suc (many s)
local_adds s t place elem name None e = absurd (cc e)
local_adds s t place elem name (Some dims) e =
    let l : LocalArray = record { elem = elem; extents = dims } in
    let long = length-append s.locals (l ∷ []) in
    let is : length (s.locals ++ l ∷ []) ≡ many t = ap many_in e in
    omega (arith, long, is)
  where
    many_in : Value Scope → ℕ
    many_in (Ok u) = many u
    many_in (Err x) = 0

worths_then : (P : Scope → Type 0) (v : Value (List ℤ)) (next : List ℤ → Value Scope) (t : Scope)
    → ((ns : List ℤ) → next ns ≡ Ok t → P t) → and_then v next ≡ Ok t → P t
worths_then P (Ok ns) next t f h = f ns h
worths_then P (Err e) next t f h = absurd (cc h)

declared_one : (tunings : List Tuning) (s t : Scope) (d : Decl) → after_decl tunings s d ≡ Ok t
    → many t ≡ length (local_names (d ∷ [])) + many s
declared_one tunings s t (decl.Tunable place name) e = let a = ap many (ok_same _ t e) in omega (arith, a)
declared_one tunings s t (decl.List place name) e = let a = ap many (ok_same _ t e) in omega (arith, a)
declared_one tunings s t (decl.Local place elem name es) e =
    let a = worths_then (λ u. many u ≡ suc (many s)) (worths es s.numbers s.names.lists)
    (λ ns. local_at s place elem name (dims_of ns)) t (λ ns g. local_adds s t place elem name (dims_of ns) g) e in
    omega (arith, a)
declared_one tunings s t (decl.Rchop place name array sizes) e =
    let a = worths_then (λ u. many u ≡ many s) (worths sizes s.numbers s.names.lists)
    (λ ns. with_chop s place name (λ es. Regular es ns) (array_of s array.name)) t
    (λ ns g. chop_adds s t place name (λ es. Regular es ns) (array_of s array.name) g) e in
    omega (arith, a)
declared_one tunings s t (decl.Ichop place name array starts ends) e =
    let a = chop_adds s t place name
    (λ es. Irregular es (list_of s.names.lists starts.name) (list_of s.names.lists ends.name))
    (array_of s array.name) e in
    omega (arith, a)

names_more : (d : Decl) (ds : List Decl) → length (local_names (d ∷ ds)) ≡ length (local_names (d ∷ [])) + length (local_names ds)
names_more (decl.Tunable place name) ds = omega arith
names_more (decl.List place name) ds = omega arith
names_more (decl.Local place elem name es) ds = omega arith
names_more (decl.Rchop place name array sizes) ds = omega arith
names_more (decl.Ichop place name array starts ends) ds = omega arith

one_more : (tunings : List Tuning) (s t : Scope) (d : Decl) (ds : List Decl)
    → ((u : Scope) → all_declared tunings u ds ≡ Ok t → many t ≡ length (local_names ds) + many u)
    → (v : Value Scope) → after_decl tunings s d ≡ v → and_then v (λ u. all_declared tunings u ds) ≡ Ok t
    → many t ≡ length (local_names (d ∷ ds)) + many s
one_more tunings s t d ds rest (Err x) g k = absurd (cc k)
one_more tunings s t d ds rest (Ok u) g k =
    let a = declared_one tunings s u d g in
    let b = rest u k in
    let c = names_more d ds in
    omega (arith, a, b, c)

pub declared_many : (tunings : List Tuning) (ds : List Decl) (s t : Scope) → all_declared tunings s ds ≡ Ok t
    → length t.locals ≡ length (local_names ds) + length s.locals
declared_many tunings [] s t e = let a = ap many (ok_same s t e) in omega (arith, a)
declared_many tunings (d ∷ ds) s t e =
    one_more tunings s t d ds (λ u g. declared_many tunings ds u t g) (after_decl tunings s d) refl e

-- ---- parameters declare none

param_adds : (s u : Scope) (p : Param) (o : Option (List ℕ)) → param_at s p o ≡ Some u → many u ≡ many s
param_adds s u p None e = absurd (cc e)
param_adds s u p (Some dims) e = by (bind_from s.numbers p.extents 0 dims) e
  where
    many_in : Option Scope → ℕ
    many_in None = 0
    many_in (Some w) = many w

    by : (o : Option Numbers)
        → option_map (λ numbers. record {
          names = with_array s.names p.name (record { number = s.arrays; extents = dims });
          numbers = numbers;
          arrays = s.arrays + 1;
          locals = s.locals;
        }) o ≡ Some u → many u ≡ many s
    by None g = absurd (cc g)
    by (Some n) g = sym (ap many_in g)

pub params_add : (ps : List Param) (i : ℕ) (all : List (List ℕ)) (s t : Scope) → params_from s ps i all ≡ Some t
    → length t.locals ≡ length s.locals
params_add [] i all s t e = let is : s ≡ t = cc e in sym (ap many is)
params_add (p ∷ ps) i all s t e =
    by (λ u k. params_add ps (i + 1) all u t k) (param_at s p (slice_get all i)) refl e
  where
    by : ((u : Scope) → params_from u ps (i + 1) all ≡ Some t → many t ≡ many u) → (o : Option Scope)
        → param_at s p (slice_get all i) ≡ o → option_and_then (λ u. params_from u ps (i + 1) all) o ≡ Some t
        → many t ≡ many s
    by rest None g k = absurd (cc k)
    by rest (Some u) g k = rest u k ∙ param_adds s u p (slice_get all i) g
