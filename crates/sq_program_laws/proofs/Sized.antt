-- Each array of a program's forms has one to three dimensions, none of which is empty, and not too many elements.
use Rattle.std.proofs.Common.{◌≡◌, ℕ, zero, suc, ◌+◌, ◌-◌, ◌*◌, ◌<◌, ◌≤◌, ℤ, pos, negsuc, Bool, true, false, List, []}
use Rattle.std.proofs.Common.{◌∷◌, ◌++◌, length, map, Option, Some, None, option_map, Ok, Err, refl, sym, ap}
use Rattle.std.proofs.Common.{◌∙◌, subst, arith}
use Rattle.std.specs.Prelude.{slice_get, nat_lt, nat_le, ◌&&◌, if◌then◌else◌, is_err}
use Rattle.std.specs.Option.{option_and_then}
use Rattle.std.specs.List.{All}
use Rattle.std.proofs.lemmas.Bool.Decides.{nat_tests}
use Rattle.std.proofs.Math.Nat.{mul-le-mul}
use Rattle.sq_num.specs.declared.Elem.{Elem}
use Rattle.sq_text.specs.Names.{Bytes}
use Rattle.sq_text.specs.declared.place.Place.{Place}
use Rattle.sq_text.specs.declared.place.Span.{Span}
use Rattle.sq_text.specs.declared.fault.Fault.{Fault}
use Rattle.sq_rect.specs.Extents.{product}
use Rattle.sq_ast.specs.declared.program.Decl.{Decl}
use Rattle.sq_ast.specs.declared.program.Decl.TheVariants as decl
use Rattle.sq_ast.specs.declared.program.Param.{Param}
use Rattle.sq_ast.specs.declared.program.Program.{Program}
use Rattle.sq_ast.specs.declared.program.Variant.{Variant}
use Rattle.sq_machfile.specs.declared.level.Level.{Level}
use Rattle.sq_mapping.specs.declared.mapping.Instance.{Instance}
use Rattle.sq_mapping.specs.declared.mapping.Mapping.{Mapping}
use Rattle.sq_mapping.specs.declared.mapping.SizeSet.{SizeSet}
use Rattle.sq_mapping.specs.declared.mapping.Tuning.{Tuning}
use Rattle.sq_mapping.specs.Sound.{Sound}
use Rattle.sq_types.specs.Sound.{is_sound}
use Rattle.sq_leaf.specs.declared.shape.Shape.{Shape}
use Rattle.sq_blocks.specs.Names.{Numbers}
use Rattle.sq_blocks.specs.Insides.{AreSpansIn}
use Rattle.sq_blocks.specs.Arguments.{lengths}
use Rattle.sq_blocks.specs.declared.argument.Argument.{Argument}
use Rattle.sq_blocks.specs.declared.chop.Chop.{Chop}
use Rattle.sq_blocks.specs.declared.chop.Chop.TheVariants.{Regular, Irregular}
use Rattle.sq_blocks.specs.Names.{list_of}
use Rattle.sq_blocks.specs.Spans.{judged}
use Rattle.sq_forms.specs.declared.form.Found.{Found}
use Rattle.sq_forms.specs.declared.form.LocalArray.{LocalArray}
use Rattle.sq_forms.specs.declared.known.Array.{Array}
use Rattle.sq_forms.specs.Faults.{Value, and_then}
use Rattle.sq_forms.specs.Args.{worths}
use Rattle.sq_forms.specs.Calls.{extents_of, bind_from}
use Rattle.sq_forms.specs.Decls.{Scope, empty_scope, param_at, params_from, all_declared, after_decl, local_at}
use Rattle.sq_forms.specs.Decls.{with_chop, with_blocks, with_array, array_of, dims_of, dims_from, most_extent}
use Rattle.sq_forms.specs.Decls.{most_elements}
use Rattle.sq_forms.specs.Resolving.{Resolving, resolution, entry_extents}
use Rattle.sq_forms.specs.Resolving.{entry_params, dims_or_fault, extent_of, before}
use Rattle.sq_forms.specs.Steps.{Called, Key}
use Rattle.sq_form_laws.specs.Insides.{arrays_of}
use Rattle.sq_form_laws.specs.Reached.{calls_in, steps_of}
use Rattle.sq_form_laws.specs.Served.{FormRuns}
use Rattle.sq_form_laws.proofs.FitHold.{some_same}
use Rattle.sq_program_laws.proofs.EachForm.{each_good}
use Rattle.sq_spec.specs.Works.{shapes_of}
use Rattle.sq_spec_laws.proofs.ReachedFactsHold.{reached_lie_inside}
use Rattle.sq_plan_laws.specs.Seated.{HasDims}
use Rattle.sq_program_laws.specs.Sizes.{IsSized, AreSized}
use Rattle.sq_program_laws.proofs.Shapes.{dims_are, mapped_at, at_mapped}

-- ---- extents that were examined

chosen : {A : Type 0} (b : Bool) (o : Option A) (x : A) → (if b then o else None) ≡ Some x → (b ≡ true) × (o ≡ Some x)
chosen true o x h = (refl, h)
chosen false o x h = absurd (cc h)

both : (a b : Bool) → (a && b) ≡ true → (a ≡ true) × (b ≡ true)
both true b h = (refl, h)
both false b h = absurd (cc h)

all_none : All (λ k. 0 < k) []
all_none k d lt = absurd (omega (arith, lt))

all_more : (e : ℕ) (es : List ℕ) → 0 < e → All (λ k. 0 < k) es → All (λ k. 0 < k) (e ∷ es)
all_more e es h f zero d lt = h
all_more e es h f (suc k) d lt = f k d (omega (arith, lt))

-- the rest of the extents, behind extents of n elements
pub record From (n : ℕ) (zs : List ℤ) (ds : List ℕ) : Type 0 where
  pub many : length ds ≡ length zs
  pub some : All (λ k. 0 < k) ds
  pub few : n ≤ most_elements → n * product ds ≤ most_elements

cons_of : (e : ℕ) (o : Option (List ℕ)) (ds : List ℕ) → option_map (λ es. e ∷ es) o ≡ Some ds → (es : List ℕ)
    × (o ≡ Some es) × (e ∷ es ≡ ds)
cons_of e None ds h = absurd (cc h)
cons_of e (Some es) ds h = (es, refl, cc h)

times_behind : (n e p : ℕ) → n * e * p ≡ n * (e * p)
times_behind n e p = omega arith

dims_are_from : (n : ℕ) (zs : List ℤ) (ds : List ℕ) → dims_from n zs ≡ Some ds → From n zs ds
dims_are_from n [] ds h =
    let e : [] ≡ ds = cc h in
    let z : n * 1 ≡ n = omega arith in
    subst (From n []) e (record { many = refl; some = all_none; few = λ l. subst (λ m. m ≤ most_elements) (sym z) l })
dims_are_from n (negsuc e ∷ zs) ds h = absurd (cc h)
dims_are_from n (pos e ∷ zs) ds h =
    let c = chosen ((nat_lt 0 e && nat_le e most_extent) && nat_le (n * e) most_elements)
    (option_map (λ es. e ∷ es) (dims_from (n * e) zs)) ds h in
    let a = both (nat_lt 0 e && nat_le e most_extent) (nat_le (n * e) most_elements) c.0 in
    let p = both (nat_lt 0 e) (nat_le e most_extent) a.0 in
    let o = cons_of e (dims_from (n * e) zs) ds c.1 in
    let r = dims_are_from (n * e) zs o.0 o.1 in
    let less : 0 < e = positive e p.0 in
    subst (From n (pos e ∷ zs)) o.2 (record {
      many = ap suc r.many;
      some = all_more e o.0 less r.some;
      few = λ l. subst (λ m. m ≤ most_elements) (times_behind n e (product o.0))
          (r.few (at_most (n * e) most_elements a.1));
    })
  where
    positive : (k : ℕ) → nat_lt 0 k ≡ true → 0 < k
    positive k g = grind (arith, nat_tests)

    at_most : (k m : ℕ) → nat_le k m ≡ true → k ≤ m
    at_most k m g = grind (arith, nat_tests)

dims_by : (ds : List ℕ) → 0 < length ds → length ds ≤ 3 → HasDims ds
dims_by [] l m = absurd (omega (arith, l))
dims_by (a ∷ []) l m = tt
dims_by (a ∷ b ∷ []) l m = tt
dims_by (a ∷ b ∷ c ∷ []) l m = tt
dims_by (a ∷ b ∷ c ∷ d ∷ ds) l m = absurd (omega (arith, m))

some_elements : most_elements ≡ most_elements → 1 ≤ most_elements
unfolding most_elements
some_elements e = omega arith

pub dims_sized : (zs : List ℤ) (ds : List ℕ) → dims_of zs ≡ Some ds → IsSized ds
dims_sized [] ds h = absurd (cc h)
dims_sized (z ∷ zs) ds h =
    let c = chosen (nat_le (length zs) 2) (dims_from 1 (z ∷ zs)) ds h in
    let f = dims_are_from 1 (z ∷ zs) ds c.1 in
    let two : length zs ≤ 2 = at_most (length zs) 2 c.0 in
    let one : 1 * product ds ≡ product ds = omega arith in
    record {
      dims = dims_by ds (omega (arith, f.many)) (omega (arith, f.many, two));
      some = f.some;
      few = subst (λ m. m ≤ most_elements) one (f.few (some_elements refl));
    }
  where
    at_most : (k m : ℕ) → nat_le k m ≡ true → k ≤ m
    at_most k m g = grind (arith, nat_tests)

-- ---- blocks of sized arrays

all_spans : (ns : List ℕ) (spans : List Span) → AreSpansIn ns spans → All (λ k. 0 < k) (lengths spans)
all_spans [] [] h = all_none
all_spans [] (s ∷ spans) h = absurd h
all_spans (n ∷ ns) [] h = absurd h
all_spans (n ∷ ns) (s ∷ spans) h =
    let a = h.0 in
    all_more (s.hi - s.lo) (lengths spans) (omega (arith, a)) (all_spans ns spans h.2)

less_elements : (ns : List ℕ) (spans : List Span) → AreSpansIn ns spans → product (lengths spans) ≤ product ns
less_elements [] [] h = omega arith
less_elements [] (s ∷ spans) h = absurd h
less_elements (n ∷ ns) [] h = absurd h
less_elements (n ∷ ns) (s ∷ spans) h =
    let a = h.0 in
    let b = h.1 in
    let l : s.hi - s.lo ≤ n = omega (arith, a, b) in
    mul-le-mul l (less_elements ns spans h.2)

same_dims : (ns : List ℕ) (spans : List Span) → AreSpansIn ns spans → length (lengths spans) ≡ length ns
same_dims [] [] h = refl
same_dims [] (s ∷ spans) h = absurd h
same_dims (n ∷ ns) [] h = absurd h
same_dims (n ∷ ns) (s ∷ spans) h = ap suc (same_dims ns spans h.2)

dims_count : (ns : List ℕ) → HasDims ns → (0 < length ns) × (length ns ≤ 3)
dims_count [] h = absurd h
dims_count (a ∷ []) h = (omega arith, omega arith)
dims_count (a ∷ b ∷ []) h = (omega arith, omega arith)
dims_count (a ∷ b ∷ c ∷ []) h = (omega arith, omega arith)
dims_count (a ∷ b ∷ c ∷ d ∷ ns) h = absurd h

block_sized : (ns : List ℕ) (spans : List Span) → IsSized ns → AreSpansIn ns spans → IsSized (lengths spans)
block_sized ns spans s h =
    let d = dims_count ns s.dims in
    let a = d.0 in
    let b = d.1 in
    let same = same_dims ns spans h in
    let less = less_elements ns spans h in
    let few = s.few in
    record {
      dims = dims_by (lengths spans) (omega (arith, a, same)) (omega (arith, b, same));
      some
          = all_spans ns spans h;
      few = omega (arith, less, few);
    }

-- ---- the arrays of a form

abbrev LocalsSized : List LocalArray → Type 0
LocalsSized ls = AreSized (map (λ (l : LocalArray). l.extents) ls)

one_more : (xs : List (List ℕ)) (x : List ℕ) → AreSized xs → IsSized x → AreSized (xs ++ x ∷ [])
one_more [] x h s zero es e = subst IsSized (some_same x es e) s
one_more [] x h s (suc i) es e = absurd (cc e)
one_more (y ∷ xs) x h s zero es e = h 0 es e
one_more (y ∷ xs) x h s (suc i) es e = one_more xs x (λ j ds g. h (suc j) ds g) s i es e

all_joined : (xs ys : List (List ℕ)) → AreSized xs → AreSized ys → AreSized (xs ++ ys)
all_joined [] ys h g i es e = g i es e
all_joined (x ∷ xs) ys h g zero es e = h 0 es e
all_joined (x ∷ xs) ys h g (suc i) es e = all_joined xs ys (λ j ds k. h (suc j) ds k) g i es e

map_last : (ls : List LocalArray) (l : LocalArray) → map (λ (k : LocalArray). k.extents) (ls ++ l ∷ [])
    ≡ map (λ (k : LocalArray). k.extents) ls ++ l.extents ∷ []
map_last [] l = refl
map_last (k ∷ ls) l = ap (λ r. k.extents ∷ r) (map_last ls l)

abbrev okay : Scope → Value Scope
okay s = Ok s

local_sized : (s t : Scope) (place : Place) (elem : Elem) (name : Bytes) (o : Option (List ℕ)) → LocalsSized s.locals
    → ((ds : List ℕ) → o ≡ Some ds → IsSized ds)
    → local_at s place elem name o ≡ Ok t → LocalsSized t.locals
local_sized s t place elem name None h f e = absurd (cc e)
local_sized s t place elem name (Some ds) h f e =
    let locals : s.locals ++ record { elem = elem; extents = ds } ∷ [] ≡ t.locals = ap locals_of e in
    subst LocalsSized locals
    (subst AreSized (sym (map_last s.locals (record { elem = elem; extents = ds })))
    (one_more (map (λ (l : LocalArray). l.extents) s.locals) ds h (f ds refl)))
  where
    locals_of : Value Scope → List LocalArray
    locals_of (Ok u) = u.locals
    locals_of (Err x) = []

ok_locals : {u t : Scope} → okay u ≡ Ok t → u.locals ≡ t.locals
ok_locals e = let is : _ ≡ _ = ok_same e in ap (λ (w : Scope). w.locals) is
  where
    ok_same : {u t : Scope} → okay u ≡ Ok t → u ≡ t
    ok_same e = cc e

blocks_keep : (s t : Scope) (place : Place) (name : Bytes) (array : ℕ) (chop : Chop)
    → with_blocks s place name array chop ≡ Ok t → t.locals ≡ s.locals
blocks_keep s t place name array chop e = go (is_err (judged chop)) _ _ refl e
  where
    go : (b : Bool) (x : Fault) (u : Scope) → u.locals ≡ s.locals → (if b then Err x else Ok u) ≡ Ok t → t.locals
        ≡ s.locals
    go true x u k g = absurd (cc g)
    go false x u k g = let is : u ≡ t = cc g in sym (ap (λ (w : Scope). w.locals) is) ∙ k

chop_keeps : (s t : Scope) (place : Place) (name : Bytes) (chop : List ℕ → Chop) (o : Option Array)
    → with_chop s place name chop o ≡ Ok t → t.locals ≡ s.locals
chop_keeps s t place name chop None e = absurd (cc e)
chop_keeps s t place name chop (Some a) e = blocks_keep s t place name a.number (chop a.extents) e

worths_then : {A : Type 0} (P : A → Type 0) (v : Value (List ℤ)) (next : List ℤ → Value A) (t : A)
    → ((ns : List ℤ) → next ns ≡ Ok t → P t) → and_then v next ≡ Ok t → P t
worths_then P (Ok ns) next t f h = f ns h
worths_then P (Err e) next t f h = absurd (cc h)

abbrev HasLocals : Scope → Type 0
HasLocals s = LocalsSized s.locals

kept : (s t : Scope) → HasLocals s → t.locals ≡ s.locals → HasLocals t
kept s t h e = subst LocalsSized (sym e) h

declared_sized : (tunings : List Tuning) (s t : Scope) (d : Decl) → HasLocals s → after_decl tunings s d ≡ Ok t
    → HasLocals t
declared_sized tunings s t (decl.Tunable place name) h e = kept s t h (sym (ok_locals e))
declared_sized tunings s t (decl.List place name) h e = kept s t h (sym (ok_locals e))
declared_sized tunings s t (decl.Local place elem name es) h e =
    worths_then HasLocals (worths es s.numbers s.names.lists) (λ ns. local_at s place elem name (dims_of ns)) t
    (λ ns g. local_sized s t place elem name (dims_of ns) h (λ ds k. dims_sized ns ds k) g) e
declared_sized tunings s t (decl.Rchop place name array sizes) h e =
    worths_then HasLocals (worths sizes s.numbers s.names.lists)
    (λ ns. with_chop s place name (λ es. Regular es ns) (array_of s array.name)) t
    (λ ns g. kept s t h (chop_keeps s t place name (λ es. Regular es ns) (array_of s array.name) g)) e
declared_sized tunings s t (decl.Ichop place name array starts ends) h e =
    kept s t h (chop_keeps s t place name
    (λ es. Irregular es (list_of s.names.lists starts.name) (list_of s.names.lists ends.name))
    (array_of s array.name) e)

one_sized : (tunings : List Tuning) (d : Decl) (s t : Scope) (next : Scope → Value Scope)
    → ((u : Scope) → HasLocals u → next u ≡ Ok t → HasLocals t) → HasLocals s
    → (v : Value Scope) → after_decl tunings s d ≡ v → and_then v next ≡ Ok t → HasLocals t
one_sized tunings d s t next rest h (Ok u) g k = rest u (declared_sized tunings s u d h g) k
one_sized tunings d s t next rest h (Err x) g k = absurd (cc k)

all_sized : (tunings : List Tuning) (ds : List Decl) (s t : Scope) → HasLocals s → all_declared tunings s ds ≡ Ok t
    → HasLocals t
all_sized tunings [] s t h e = let is : s ≡ t = cc e in subst HasLocals is h
all_sized tunings (d ∷ ds) s t h e =
    one_sized tunings d s t (λ u. all_declared tunings u ds) (λ u k g. all_sized tunings ds u t k g) h
    (after_decl tunings s d) refl e

-- parameters declare no local
param_alone : (s u : Scope) (p : Param) (dims : List ℕ) → s.locals ≡ [] → param_at s p (Some dims) ≡ Some u → u.locals
    ≡ []
param_alone s u p dims h e = made (bind_from s.numbers p.extents 0 dims) e
  where
    made : (o : Option Numbers)
        → option_map (λ numbers. record {
          names = with_array s.names p.name (record { number = s.arrays; extents = dims });
          numbers = numbers;
          arrays
              = s.arrays + 1;
          locals = s.locals;
        }) o ≡ Some u → u.locals ≡ []
    made None g = absurd (cc g)
    made (Some n) g = sym (ap locals_or g) ∙ h
      where
        locals_or : Option Scope → List LocalArray
        locals_or None = []
        locals_or (Some w) = w.locals

alone_then : (t : Scope) (next : Scope → Option Scope) → ((u : Scope) → u.locals ≡ [] → next u ≡ Some t → t.locals ≡ [])
    → (o : Option Scope) → ((u : Scope) → o ≡ Some u → u.locals ≡ [])
    → option_and_then next o ≡ Some t → t.locals ≡ []
alone_then t next rest None f g = absurd (cc g)
alone_then t next rest (Some u) f g = rest u (f u refl) g

alone_at : (s t : Scope) (p : Param) (next : Scope → Option Scope)
    → ((u : Scope) → u.locals ≡ [] → next u ≡ Some t → t.locals ≡ []) → s.locals ≡ []
    → (o : Option (List ℕ)) → option_and_then next (param_at s p o) ≡ Some t → t.locals ≡ []
alone_at s t p next rest h None g = absurd (cc g)
alone_at s t p next rest h (Some dims) g
    = alone_then t next rest (param_at s p (Some dims)) (λ u k. param_alone s u p dims h k) g

params_alone : (ps : List Param) (i : ℕ) (all : List (List ℕ)) (s t : Scope) → s.locals ≡ [] → params_from s ps i all
    ≡ Some t → t.locals ≡ []
params_alone [] i all s t h e = let is : s ≡ t = cc e in sym (ap (λ (u : Scope). u.locals) is) ∙ h
params_alone (p ∷ ps) i all s t h e =
    alone_at s t p (λ u. params_from u ps (i + 1) all) (λ u k g. params_alone ps (i + 1) all u t k g) h
    (slice_get all i) e

-- ---- the forms of a program

module _ (program : Program) (levels : List Level) (mapping : Mapping) (sound : is_sound program ≡ true)
    (read : Sound program levels mapping)
    (r : Resolving) (through : resolution program.tasks mapping ≡ Ok r) where
  abbrev tasks : List Variant
  tasks = program.tasks

  abbrev instances : List Instance
  instances = mapping.instances

  abbrev FoundSized : Found → Type 0
  FoundSized f = AreSized f.extents

  abbrev Reaches : Called → Type 0
  Reaches c = FoundSized c.form

  module _ (k : ℕ) (form : Key × Found) (there : slice_get r.found k ≡ Some form)
      (run : FormRuns program mapping r k form.1) (here : FoundSized form.1) where
    abbrev arrays : List (List ℕ)
    arrays = arrays_of form.1.extents run.ran.scope.locals

    arrays_sized : AreSized arrays
    arrays_sized =
        all_joined form.1.extents (map (λ (l : LocalArray). l.extents) run.ran.scope.locals) here
        (all_sized run.fits.instance.tunings run.fits.variant.decls run.fits.begun run.ran.scope
        (subst LocalsSized (sym (params_alone run.fits.variant.params 0 form.1.extents empty_scope run.fits.begun refl
        run.fits.binds)) (λ i es e. absurd (cc e))) run.ran.declared)

    pub shapes_sized : (n : ℕ) (sh : Shape) → slice_get (shapes_of run.fits.variant form.1 run.ran.scope) n ≡ Some sh
        → IsSized sh.extents
    shapes_sized n sh e =
        arrays_sized n sh.extents
        (ap (λ l. slice_get l n) (sym (dims_are run.fits.variant form.1 run.ran.scope run.fits.many))
        ∙ at_mapped (λ (s : Shape). s.extents) (shapes_of run.fits.variant form.1 run.ran.scope) n sh e)

    call_sized : (i : ℕ) (c : Called)
        → slice_get (calls_in (steps_of tasks instances run.fits.instance run.fits.variant k form.1 run.ran.scope)) i
        ≡ Some c → Reaches c
    call_sized i c g j es e =
        let h = run.ran.reached i c g in
        let at : slice_get (extents_of h.arguments) j ≡ Some es
        = ap (λ (d : Called). slice_get d.form.extents j) (sym h.is) ∙ e in
        let m = mapped_at (λ (a : Argument). lengths a.rect) h.arguments j es at in
        let l = reached_lie_inside tasks mapping r k form.1 run.fits.instance run.fits.variant run.fits.begun
        run.fits.binds run.fits.many run.ran c h j m.of m.there in
        subst IsSized m.is (block_sized l.extents m.of.rect (arrays_sized m.of.array l.extents l.there) l.inside)

  -- ---- the entry

  cons_sized : (x : List ℕ) (xs : List (List ℕ)) → IsSized x → AreSized xs → AreSized (x ∷ xs)
  cons_sized x xs a b zero es k = subst IsSized (some_same x es k) a
  cons_sized x xs a b (suc i) es k = b i es k

  joined_sized : (d : List ℕ) (extents : List (List ℕ)) (v : Value (List (List ℕ))) → IsSized d
      → ((ys : List (List ℕ)) → v ≡ Ok ys → AreSized ys) → before d v ≡ Ok extents → AreSized extents
  joined_sized d extents (Err x) s f g = absurd (cc g)
  joined_sized d extents (Ok ys) s f g = let e : d ∷ ys ≡ extents
      = cc g in subst AreSized e (cons_sized d ys s (f ys refl))

  first_sized : (sizes : List SizeSet) (p : Param) (extents : List (List ℕ)) (rest : Value (List (List ℕ)))
      → ((ys : List (List ℕ)) → rest ≡ Ok ys → AreSized ys) → (o : Option (List ℕ))
      → dims_of (map (extent_of sizes) p.extents) ≡ o
      → and_then (dims_or_fault p o) (λ dims. before dims rest) ≡ Ok extents → AreSized extents
  first_sized sizes p extents rest f None e g = absurd (cc g)
  first_sized sizes p extents rest f (Some d) e g
      = joined_sized d extents rest (dims_sized (map (extent_of sizes) p.extents) d e) f g

  entry_sized : (sizes : List SizeSet) (ps : List Param) (extents : List (List ℕ)) → entry_extents sizes ps ≡ Ok extents
      → AreSized extents
  entry_sized sizes [] extents h = let e : [] ≡ extents = cc h in subst AreSized e (λ i es g. absurd (cc g))
  entry_sized sizes (p ∷ ps) extents h =
      first_sized sizes p extents (entry_extents sizes ps) (λ ys k. entry_sized sizes ps ys k)
      (dims_of (map (extent_of sizes) p.extents)) refl h

  found_sized : (k : ℕ) (form : Key × Found) → slice_get r.found k ≡ Some form → FoundSized form.1
  found_sized = each_good program levels mapping sound read r through FoundSized
      (λ k form there run here i c g. call_sized k form there run here i c g)
      (λ extents e. entry_sized mapping.sizes (entry_params tasks (slice_get instances mapping.entry)) extents e)

  pub form_shapes_sized : (k : ℕ) (form : Key × Found) (there : slice_get r.found k ≡ Some form)
      (run : FormRuns program mapping r k form.1) (n : ℕ) (sh : Shape)
      → slice_get (shapes_of run.fits.variant form.1 run.ran.scope) n ≡ Some sh → IsSized sh.extents
  form_shapes_sized k form there run n sh e = shapes_sized k form there run (found_sized k form there) n sh e
