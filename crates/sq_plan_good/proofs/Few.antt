-- How many arrays a form has: the locals that are declared, and the parameters.
use Rattle.std.proofs.Common.{◌≡◌, ℕ, suc, ◌+◌, ◌<◌, ◌≤◌, ℤ, Bool, true, false, List, [], ◌∷◌, ◌++◌, length, Option}
use Rattle.std.proofs.Common.{Some, None, option_map, Ok, Err, refl, sym, ap, ◌∙◌, arith, length-append}
use Rattle.std.specs.Prelude.{slice_get, nat_lt, is_err, if◌then◌else◌}
use Rattle.std.specs.Option.{option_and_then}
use Rattle.std.proofs.lemmas.Bool.Decides.{nat_tests}
use Rattle.sq_num.specs.declared.Elem.{Elem}
use Rattle.sq_text.specs.Names.{Bytes}
use Rattle.sq_text.specs.declared.fault.Fault.{Fault}
use Rattle.sq_text.specs.declared.place.Place.{Place}
use Rattle.sq_ast.specs.declared.program.Decl.{Decl}
use Rattle.sq_ast.specs.declared.program.Decl.TheVariants as decl
use Rattle.sq_ast.specs.declared.program.Param.{Param}
use Rattle.sq_mapping.specs.declared.mapping.Tuning.{Tuning}
use Rattle.sq_types.specs.Known.{Known}
use Rattle.sq_types.specs.Sites.{param_known, param_at as first_at, with_param, local_known, decl_known, arrays_after}
use Rattle.sq_types.specs.Sound.{is_new, is_as_first, are_sound_extents, is_sound_param, are_sound_params, is_sound_decl}
use Rattle.sq_types.specs.Sound.{are_sound_decls, are_sound_exprs}
use Rattle.sq_types.specs.Table.{most_arrays}
use Rattle.sq_blocks.specs.Names.{Numbers, list_of}
use Rattle.sq_blocks.specs.Spans.{judged}
use Rattle.sq_blocks.specs.declared.chop.Chop.{Chop}
use Rattle.sq_blocks.specs.declared.chop.Chop.TheVariants.{Regular, Irregular}
use Rattle.sq_forms.specs.declared.known.Array.{Array}
use Rattle.sq_forms.specs.declared.form.LocalArray.{LocalArray}
use Rattle.sq_forms.specs.Faults.{Value, and_then}
use Rattle.sq_forms.specs.Args.{worths}
use Rattle.sq_forms.specs.Calls.{bind_from}
use Rattle.sq_forms.specs.Decls.{Scope, with_array, array_of, dims_of, local_at, with_blocks, with_chop, after_decl}
use Rattle.sq_forms.specs.Decls.{all_declared, param_at, params_from}
use Rattle.sq_spec_laws.proofs.Sorted.{both, three, four}

is_below : (m : ℕ) → nat_lt m 32 ≡ true → m < 32
is_below m g = grind (arith, nat_tests)

-- ---- parameters

-- behind i of them
pub few_params : (first : Option (List Param)) (ps : List Param) (i : ℕ) (known : Known)
    → are_sound_params first i ps known ≡ true → i ≤ 32 → i + length ps ≤ 32
few_params first [] i known h less = omega (arith, less)
few_params first (p ∷ ps) i known h less =
    let q = both (is_sound_param (first_at first i) i p known) (are_sound_params first (i + 1) ps (param_known p known)) h in
    let a = four (is_new p.name known) (is_as_first (first_at first i) p) (nat_lt i most_arrays)
    (are_sound_extents p.extents (with_param known p)) q.0 in
    let below : i < 32 = is_below i a.2 in
    let rest = few_params first ps (i + 1) (param_known p known) q.1 (omega (arith, below)) in
    omega (arith, rest)

-- ---- locals

abbrev okay : Scope → Value Scope
okay s = Ok s

ok_same : (s t : Scope) → okay s ≡ Ok t → s ≡ t
ok_same s t e = cc e

abbrev many : Scope → ℕ
many s = length s.locals

blocks_add : (s t : Scope) (place : Place) (name : Bytes) (array : ℕ) (chop : Chop)
    → with_blocks s place name array chop ≡ Ok t → many t ≡ many s
blocks_add s t place name array chop e = by (is_err (judged chop)) _ _ refl e
  where
    by : (b : Bool) (x : Fault) (u : Scope) → many u ≡ many s → (if b then Err x else Ok u) ≡ Ok t → many t ≡ many s
    by true x u k g = absurd (cc g)
    by false x u k g = let is : u ≡ t = cc g in sym (ap many is) ∙ k

chop_adds : (s t : Scope) (place : Place) (name : Bytes) (chop : List ℕ → Chop) (o : Option Array)
    → with_chop s place name chop o ≡ Ok t → many t ≡ many s
chop_adds s t place name chop None e = absurd (cc e)
chop_adds s t place name chop (Some a) e = blocks_add s t place name a.number (chop a.extents) e

local_adds : (s t : Scope) (place : Place) (elem : Elem) (name : Bytes) (o : Option (List ℕ))
    → local_at s place elem name o ≡ Ok t → many t ≡ suc (many s)
local_adds s t place elem name None e = absurd (cc e)
local_adds s t place elem name (Some dims) e =
    let l : LocalArray = record { elem = elem; extents = dims } in
    let long = length-append s.locals (l ∷ []) in
    let is : length (s.locals ++ l ∷ []) ≡ many t = ap many_in e in
    omega (arith, long, is)
  where
    many_in : Value Scope → ℕ
    many_in (Ok u) = many u
    many_in (Err x) = 0

worths_then : (P : Scope → Type 0) (v : Value (List ℤ)) (next : List ℤ → Value Scope) (t : Scope)
    → ((ns : List ℤ) → next ns ≡ Ok t → P t) → and_then v next ≡ Ok t → P t
worths_then P (Ok ns) next t f h = f ns h
worths_then P (Err e) next t f h = absurd (cc h)

-- a declaration behind so many arrays adds to the locals what it adds to these
declared_one : (tunings : List Tuning) (s t : Scope) (d : Decl) (before : ℕ) → after_decl tunings s d ≡ Ok t
    → arrays_after before d + many s ≡ before + many t
declared_one tunings s t (decl.Tunable place name) before e =
    let a = ap many (ok_same _ t e) in omega (arith, a)
declared_one tunings s t (decl.List place name) before e =
    let a = ap many (ok_same _ t e) in omega (arith, a)
declared_one tunings s t (decl.Local place elem name es) before e =
    let a = worths_then (λ u. many u ≡ suc (many s)) (worths es s.numbers s.names.lists)
    (λ ns. local_at s place elem name (dims_of ns)) t (λ ns g. local_adds s t place elem name (dims_of ns) g) e in
    omega (arith, a)
declared_one tunings s t (decl.Rchop place name array sizes) before e =
    let a = worths_then (λ u. many u ≡ many s) (worths sizes s.numbers s.names.lists)
    (λ ns. with_chop s place name (λ es. Regular es ns) (array_of s array.name)) t
    (λ ns g. chop_adds s t place name (λ es. Regular es ns) (array_of s array.name) g) e in
    omega (arith, a)
declared_one tunings s t (decl.Ichop place name array starts ends) before e =
    let a = chop_adds s t place name
    (λ es. Irregular es (list_of s.names.lists starts.name) (list_of s.names.lists ends.name))
    (array_of s array.name) e in
    omega (arith, a)

after_few : (d : Decl) (before : ℕ) (known : Known) → is_sound_decl before d known ≡ true → before ≤ 32
    → arrays_after before d ≤ 32
after_few (decl.Tunable place name) before known h less = less
after_few (decl.List place name) before known h less = less
after_few (decl.Local place elem name es) before known h less =
    let a = three (is_new name known) (nat_lt before most_arrays) (are_sound_exprs es (local_known elem name es known)) h in
    let below : before < 32 = is_below before a.1 in
    omega (arith, below)
after_few (decl.Rchop place name array sizes) before known h less = less
after_few (decl.Ichop place name array starts ends) before known h less = less

one_few : (tunings : List Tuning) (s t : Scope) (d : Decl) (ds : List Decl) (before : ℕ)
    → ((u : Scope) → all_declared tunings u ds ≡ Ok t → arrays_after before d + many t ≤ 32 + many u)
    → (v : Value Scope) → after_decl tunings s d ≡ v → and_then v (λ u. all_declared tunings u ds) ≡ Ok t
    → before + many t ≤ 32 + many s
one_few tunings s t d ds before rest (Err x) g k = absurd (cc k)
one_few tunings s t d ds before rest (Ok u) g k =
    let a = declared_one tunings s u d before g in
    let b = rest u k in
    omega (arith, a, b)

pub few_locals : (tunings : List Tuning) (ds : List Decl) (s t : Scope) (before : ℕ) (known : Known)
    → are_sound_decls before ds known ≡ true → before ≤ 32 → all_declared tunings s ds ≡ Ok t
    → before + length t.locals ≤ 32 + length s.locals
few_locals tunings [] s t before known h less e =
    let a = ap many (ok_same s t e) in omega (arith, a, less)
few_locals tunings (d ∷ ds) s t before known h less e =
    let q = both (is_sound_decl before d known) (are_sound_decls (arrays_after before d) ds (decl_known d known)) h in
    one_few tunings s t d ds before
    (λ u g. few_locals tunings ds u t (arrays_after before d) (decl_known d known) q.1 (after_few d before known q.0 less) g)
    (after_decl tunings s d) refl e

-- ---- parameters declare no local

param_adds : (s u : Scope) (p : Param) (o : Option (List ℕ)) → param_at s p o ≡ Some u → many u ≡ many s
param_adds s u p None e = absurd (cc e)
param_adds s u p (Some dims) e = by (bind_from s.numbers p.extents 0 dims) e
  where
    many_in : Option Scope → ℕ
    many_in None = 0
    many_in (Some w) = many w

    by : (o : Option Numbers)
        → option_map (λ numbers. record {
          names = with_array s.names p.name (record { number = s.arrays; extents = dims });
          numbers = numbers;
          arrays = s.arrays + 1;
          locals = s.locals;
        }) o ≡ Some u → many u ≡ many s
    by None g = absurd (cc g)
    by (Some n) g = sym (ap many_in g)

pub params_add : (ps : List Param) (i : ℕ) (all : List (List ℕ)) (s t : Scope) → params_from s ps i all ≡ Some t
    → length t.locals ≡ length s.locals
params_add [] i all s t e = let is : s ≡ t = cc e in sym (ap many is)
params_add (p ∷ ps) i all s t e =
    by (λ u k. params_add ps (i + 1) all u t k) (param_at s p (slice_get all i)) refl e
  where
    by : ((u : Scope) → params_from u ps (i + 1) all ≡ Some t → many t ≡ many u) → (o : Option Scope)
        → param_at s p (slice_get all i) ≡ o → option_and_then (λ u. params_from u ps (i + 1) all) o ≡ Some t
        → many t ≡ many s
    by rest None g k = absurd (cc k)
    by rest (Some u) g k = rest u k ∙ param_adds s u p (slice_get all i) g
