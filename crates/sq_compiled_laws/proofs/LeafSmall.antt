-- No array of a program's forms has an extent above the limit.
use Rattle.std.proofs.Common.{◌≡◌, ℕ, zero, suc, ◌+◌, ◌-◌, ◌*◌, ◌≤◌, ℤ, pos, negsuc, Bool, true, false, List, []}
use Rattle.std.proofs.Common.{◌∷◌, ◌++◌, length, map, Option, Some, None, option_map, Ok, Err, refl, sym, ap, ◌∙◌}
use Rattle.std.proofs.Common.{subst, arith}
use Rattle.std.specs.Prelude.{slice_get, nat_lt, nat_le, ◌&&◌, if◌then◌else◌}
use Rattle.std.specs.List.{All}
use Rattle.std.proofs.lemmas.Bool.Decides.{nat_tests}
use Rattle.sq_num.specs.declared.Elem.{Elem}
use Rattle.sq_text.specs.Names.{Bytes}
use Rattle.sq_text.specs.declared.place.Place.{Place}
use Rattle.sq_text.specs.declared.place.Span.{Span}
use Rattle.sq_ast.specs.declared.program.Decl.{Decl}
use Rattle.sq_ast.specs.declared.program.Decl.TheVariants as decl
use Rattle.sq_ast.specs.declared.program.Param.{Param}
use Rattle.sq_ast.specs.declared.program.Program.{Program}
use Rattle.sq_ast.specs.declared.program.Variant.{Variant}
use Rattle.sq_machfile.specs.declared.level.Level.{Level}
use Rattle.sq_mapping.specs.declared.mapping.Instance.{Instance}
use Rattle.sq_mapping.specs.declared.mapping.Mapping.{Mapping}
use Rattle.sq_mapping.specs.declared.mapping.SizeSet.{SizeSet}
use Rattle.sq_mapping.specs.declared.mapping.Tuning.{Tuning}
use Rattle.sq_mapping.specs.Sound.{Sound}
use Rattle.sq_types.specs.Sound.{is_sound}
use Rattle.sq_blocks.specs.Insides.{AreSpansIn}
use Rattle.sq_blocks.specs.Arguments.{lengths}
use Rattle.sq_blocks.specs.declared.argument.Argument.{Argument}
use Rattle.sq_forms.specs.declared.form.Found.{Found}
use Rattle.sq_forms.specs.declared.form.LocalArray.{LocalArray}
use Rattle.sq_forms.specs.Faults.{Value, and_then}
use Rattle.sq_forms.specs.Args.{worths}
use Rattle.sq_forms.specs.Calls.{extents_of}
use Rattle.sq_forms.specs.Decls.{Scope, empty_scope, all_declared, after_decl, local_at, dims_of, dims_from}
use Rattle.sq_forms.specs.Decls.{most_extent, most_elements}
use Rattle.sq_forms.specs.Resolving.{Resolving, resolution, entry_extents, entry_params, dims_or_fault, extent_of}
use Rattle.sq_forms.specs.Resolving.{before}
use Rattle.sq_forms.specs.Steps.{Called, Key}
use Rattle.sq_form_laws.specs.Insides.{arrays_of}
use Rattle.sq_form_laws.specs.Reached.{calls_in, steps_of}
use Rattle.sq_form_laws.specs.Served.{FormRuns}
use Rattle.sq_form_laws.proofs.FitHold.{some_same}
use Rattle.sq_spec_laws.proofs.ReachedFactsHold.{reached_lie_inside}
use Rattle.sq_meant.proofs.PlanGood.ProgramLaws.EachForm.{each_good}
use Rattle.sq_meant.proofs.PlanGood.ProgramLaws.Shapes.{mapped_at}
use Rattle.sq_meant.proofs.PlanGood.DraftLaws.FormDims.{forms_have_counts}
use Rattle.sq_meant.proofs.PlanGood.DraftLaws.LeafShapes.{params_done}
use Rattle.sq_compiled_laws.proofs.LeafNames.{all_none, all_more}
use Rattle.sq_compiled_laws.proofs.LeafMade.{same_scope, rchop_keeps, ichop_keeps}

both : (a b : Bool) → (a && b) ≡ true → (a ≡ true) × (b ≡ true)
both true b h = (refl, h)
both false b h = absurd (cc h)

chosen : {A : Type 0} (b : Bool) (o : Option A) (x : A) → (if b then o else None) ≡ Some x → (b ≡ true) × (o ≡ Some x)
chosen true o x h = (refl, h)
chosen false o x h = absurd (cc h)

-- ---- extents that were examined

abbrev pub Small : List ℕ → Type 0
Small ns = All (λ n. n ≤ most_extent) ns

abbrev pub AreSmall : List (List ℕ) → Type 0
AreSmall arrays = (i : ℕ) (extents : List ℕ) → slice_get arrays i ≡ Some extents → Small extents

none_small : Small []
none_small = all_none (λ n. n ≤ most_extent)

more_small : (n : ℕ) (ns : List ℕ) → n ≤ most_extent → Small ns → Small (n ∷ ns)
more_small n ns h f = all_more (λ m. m ≤ most_extent) n ns h f

cons_of : (e : ℕ) (o : Option (List ℕ)) (ds : List ℕ) → option_map (λ es. e ∷ es) o ≡ Some ds → (es : List ℕ)
    × (o ≡ Some es) × (e ∷ es ≡ ds)
cons_of e None ds h = absurd (cc h)
cons_of e (Some es) ds h = (es, refl, cc h)

at_most : (k m : ℕ) → nat_le k m ≡ true → k ≤ m
at_most k m g = grind (arith, nat_tests)

from_small : (n : ℕ) (zs : List ℤ) (ds : List ℕ) → dims_from n zs ≡ Some ds → Small ds
from_small n [] ds h = let e : [] ≡ ds = cc h in subst Small e none_small
from_small n (negsuc e ∷ zs) ds h = absurd (cc h)
from_small n (pos e ∷ zs) ds h =
    let c = chosen ((nat_lt 0 e && nat_le e most_extent) && nat_le (n * e) most_elements)
    (option_map (λ es. e ∷ es) (dims_from (n * e) zs)) ds h in
    let a = both (nat_lt 0 e && nat_le e most_extent) (nat_le (n * e) most_elements) c.0 in
    let p = both (nat_lt 0 e) (nat_le e most_extent) a.0 in
    let o = cons_of e (dims_from (n * e) zs) ds c.1 in
    subst Small o.2 (more_small e o.0 (at_most e most_extent p.1) (from_small (n * e) zs o.0 o.1))

pub dims_small : (zs : List ℤ) (ds : List ℕ) → dims_of zs ≡ Some ds → Small ds
dims_small [] ds h = absurd (cc h)
dims_small (z ∷ zs) ds h = from_small 1 (z ∷ zs) ds (chosen (nat_le (length zs) 2) (dims_from 1 (z ∷ zs)) ds h).1

from_same : (n : ℕ) (zs : List ℤ) (ds : List ℕ) → dims_from n zs ≡ Some ds → map (λ m. pos m) ds ≡ zs
from_same n [] ds h = let e : [] ≡ ds = cc h in ap (map (λ m. pos m)) (sym e)
from_same n (negsuc e ∷ zs) ds h = absurd (cc h)
from_same n (pos e ∷ zs) ds h =
    let c = chosen ((nat_lt 0 e && nat_le e most_extent) && nat_le (n * e) most_elements)
    (option_map (λ es. e ∷ es) (dims_from (n * e) zs)) ds h in
    let o = cons_of e (dims_from (n * e) zs) ds c.1 in
    ap (map (λ m. pos m)) (sym o.2) ∙ ap (λ l. pos e ∷ l) (from_same (n * e) zs o.0 o.1)

-- they are these numbers
pub dims_same : (zs : List ℤ) (ds : List ℕ) → dims_of zs ≡ Some ds → map (λ m. pos m) ds ≡ zs
dims_same [] ds h = absurd (cc h)
dims_same (z ∷ zs) ds h = from_same 1 (z ∷ zs) ds (chosen (nat_le (length zs) 2) (dims_from 1 (z ∷ zs)) ds h).1

block_small : (ns : List ℕ) (spans : List Span) → AreSpansIn ns spans → Small ns → Small (lengths spans)
block_small [] [] h f = none_small
block_small [] (s ∷ spans) h f = absurd h
block_small (n ∷ ns) [] h f = absurd h
block_small (n ∷ ns) (s ∷ spans) h f =
    let few = h.1 in
    let most = f 0 n (omega arith) in
    more_small (s.hi - s.lo) (lengths spans) (omega (arith, few, most))
    (block_small ns spans h.2 (λ k d lt. f (suc k) d (omega (arith, lt))))

-- ---- the arrays of a form

abbrev extents_in : List LocalArray → List (List ℕ)
extents_in ls = map (λ (l : LocalArray). l.extents) ls

one_more : (xs : List (List ℕ)) (x : List ℕ) → AreSmall xs → Small x → AreSmall (xs ++ x ∷ [])
one_more [] x h s zero es e = subst Small (some_same x es e) s
one_more [] x h s (suc i) es e = absurd (cc e)
one_more (y ∷ xs) x h s zero es e = h 0 es e
one_more (y ∷ xs) x h s (suc i) es e = one_more xs x (λ j ds g. h (suc j) ds g) s i es e

joined_small : (xs ys : List (List ℕ)) → AreSmall xs → AreSmall ys → AreSmall (xs ++ ys)
joined_small [] ys h g i es e = g i es e
joined_small (x ∷ xs) ys h g zero es e = h 0 es e
joined_small (x ∷ xs) ys h g (suc i) es e = joined_small xs ys (λ j ds k. h (suc j) ds k) g i es e

last_of : (ls : List LocalArray) (l : LocalArray) → extents_in (ls ++ l ∷ []) ≡ extents_in ls ++ l.extents ∷ []
last_of [] l = refl
last_of (k ∷ ls) l = ap (λ r. k.extents ∷ r) (last_of ls l)

abbrev locals_in : Scope → List LocalArray
locals_in s = s.locals

abbrev HasSmall : Scope → Type 0
HasSmall s = AreSmall (extents_in s.locals)

kept : (s t : Scope) → HasSmall s → s.locals ≡ t.locals → HasSmall t
kept s t h e = subst (λ ls. AreSmall (extents_in ls)) e h

local_small : (s t : Scope) (place : Place) (elem : Elem) (name : Bytes) (o : Option (List ℕ)) → HasSmall s
    → ((ds : List ℕ) → o ≡ Some ds → Small ds) → local_at s place elem name o ≡ Ok t → HasSmall t
local_small s t place elem name None h f e = absurd (cc e)
local_small s t place elem name (Some ds) h f e =
    let l : LocalArray = record { elem = elem; extents = ds } in
    let locals : s.locals ++ l ∷ [] ≡ t.locals = ap locals_in (same_scope _ t e) in
    subst (λ ls. AreSmall (extents_in ls)) locals
    (subst AreSmall (sym (last_of s.locals l)) (one_more (extents_in s.locals) ds h (f ds refl)))

then_small : (v : Value (List ℤ)) (next : List ℤ → Value Scope) (t : Scope)
    → ((zs : List ℤ) → next zs ≡ Ok t → HasSmall t) → and_then v next ≡ Ok t → HasSmall t
then_small (Ok zs) next t f h = f zs h
then_small (Err x) next t f h = absurd (cc h)

decl_small : (tunings : List Tuning) (s t : Scope) (d : Decl) → HasSmall s → after_decl tunings s d ≡ Ok t
    → HasSmall t
decl_small tunings s t (decl.Tunable place name) h e = kept s t h (ap locals_in (same_scope _ t e))
decl_small tunings s t (decl.List place name) h e = kept s t h (ap locals_in (same_scope _ t e))
decl_small tunings s t (decl.Local place elem name es) h e =
    then_small (worths es s.numbers s.names.lists) (λ ns. local_at s place elem name (dims_of ns)) t
    (λ ns g. local_small s t place elem name (dims_of ns) h (λ ds k. dims_small ns ds k) g) e
decl_small tunings s t (decl.Rchop place name array es) h e =
    kept s t h (rchop_keeps locals_in (λ u names. refl) tunings s place name array es t e)
decl_small tunings s t (decl.Ichop place name array starts ends) h e =
    kept s t h (ichop_keeps locals_in (λ u names. refl) tunings s place name array starts ends t e)

module _ (tunings : List Tuning) where
  rest_small : (d : Decl) (s t : Scope) (next : Scope → Value Scope)
      → ((u : Scope) → HasSmall u → next u ≡ Ok t → HasSmall t) → HasSmall s → (v : Value Scope)
      → after_decl tunings s d ≡ v → and_then v next ≡ Ok t → HasSmall t
  rest_small d s t next rest h (Ok u) g k = rest u (decl_small tunings s u d h g) k
  rest_small d s t next rest h (Err x) g k = absurd (cc k)

  decls_small : (ds : List Decl) (t s : Scope) → HasSmall s → all_declared tunings s ds ≡ Ok t → HasSmall t
  decls_small [] t s h e = subst HasSmall (same_scope s t e) h
  decls_small (d ∷ ds) t s h e =
      rest_small d s t (λ u. all_declared tunings u ds) (λ u k g. decls_small ds t u k g) h
      (after_decl tunings s d) refl e

-- ---- the entry

cons_small : (x : List ℕ) (xs : List (List ℕ)) → Small x → AreSmall xs → AreSmall (x ∷ xs)
cons_small x xs a b zero es k = subst Small (some_same x es k) a
cons_small x xs a b (suc i) es k = b i es k

before_small : (d : List ℕ) (extents : List (List ℕ)) (v : Value (List (List ℕ))) → Small d
    → ((ys : List (List ℕ)) → v ≡ Ok ys → AreSmall ys) → before d v ≡ Ok extents → AreSmall extents
before_small d extents (Err x) s f g = absurd (cc g)
before_small d extents (Ok ys) s f g =
    let e : d ∷ ys ≡ extents = cc g in subst AreSmall e (cons_small d ys s (f ys refl))

first_small : (sizes : List SizeSet) (p : Param) (extents : List (List ℕ)) (rest : Value (List (List ℕ)))
    → ((ys : List (List ℕ)) → rest ≡ Ok ys → AreSmall ys) → (o : Option (List ℕ))
    → dims_of (map (extent_of sizes) p.extents) ≡ o
    → and_then (dims_or_fault p o) (λ dims. before dims rest) ≡ Ok extents → AreSmall extents
first_small sizes p extents rest f None e g = absurd (cc g)
first_small sizes p extents rest f (Some d) e g
    = before_small d extents rest (dims_small (map (extent_of sizes) p.extents) d e) f g

entry_small : (sizes : List SizeSet) (ps : List Param) (extents : List (List ℕ)) → entry_extents sizes ps ≡ Ok extents
    → AreSmall extents
entry_small sizes [] extents h = let e : [] ≡ extents = cc h in subst AreSmall e (λ i es g. absurd (cc g))
entry_small sizes (p ∷ ps) extents h =
    first_small sizes p extents (entry_extents sizes ps) (λ ys k. entry_small sizes ps ys k)
    (dims_of (map (extent_of sizes) p.extents)) refl h

-- ---- the forms of a program

module _ (program : Program) (levels : List Level) (mapping : Mapping) (sound : is_sound program ≡ true)
    (read : Sound program levels mapping) (r : Resolving) (through : resolution program.tasks mapping ≡ Ok r) where
  abbrev tasks : List Variant
  tasks = program.tasks

  abbrev instances : List Instance
  instances = mapping.instances

  abbrev FoundSmall : Found → Type 0
  FoundSmall f = AreSmall f.extents

  module _ (k : ℕ) (form : Key × Found) (there : slice_get r.found k ≡ Some form)
      (run : FormRuns program mapping r k form.1) (here : FoundSmall form.1) where
    -- parameters declare no local
    no_locals : run.fits.begun.locals ≡ []
    no_locals =
        let counts = forms_have_counts program levels mapping sound read r through k form there run.fits.instance
        run.fits.variant run.fits.there run.fits.runs in
        (params_done form.1.extents [] run.fits.variant.params 0 empty_scope run.fits.begun
        (λ j p dims a b. let z : j ≡ 0 + j = omega arith in
        counts j p dims a (ap (slice_get form.1.extents) z ∙ b)) run.fits.binds).locals

    arrays_small : AreSmall (arrays_of form.1.extents run.ran.scope.locals)
    arrays_small =
        joined_small form.1.extents (extents_in run.ran.scope.locals) here
        (decls_small run.fits.instance.tunings run.fits.variant.decls run.ran.scope run.fits.begun
        (subst (λ ls. AreSmall (extents_in ls)) (sym no_locals) (λ i es e. absurd (cc e))) run.ran.declared)

    call_small : (i : ℕ) (c : Called)
        → slice_get (calls_in (steps_of tasks instances run.fits.instance run.fits.variant k form.1 run.ran.scope)) i
        ≡ Some c → FoundSmall c.form
    call_small i c g j es e =
        let h = run.ran.reached i c g in
        let at : slice_get (extents_of h.arguments) j ≡ Some es
        = ap (λ (d : Called). slice_get d.form.extents j) (sym h.is) ∙ e in
        let m = mapped_at (λ (a : Argument). lengths a.rect) h.arguments j es at in
        let l = reached_lie_inside tasks mapping r k form.1 run.fits.instance run.fits.variant run.fits.begun
        run.fits.binds run.fits.many run.ran c h j m.of m.there in
        subst Small m.is (block_small l.extents m.of.rect l.inside (arrays_small m.of.array l.extents l.there))

  pub forms_small : (k : ℕ) (form : Key × Found) → slice_get r.found k ≡ Some form → AreSmall form.1.extents
  forms_small = each_good program levels mapping sound read r through FoundSmall
      (λ k form there run here i c g. call_small k form there run here i c g)
      (λ extents e. entry_small mapping.sizes (entry_params tasks (slice_get instances mapping.entry)) extents e)
