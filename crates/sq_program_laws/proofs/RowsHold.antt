-- The facts of each row of a form's tables.
use Rattle.std.proofs.Common.{◌≡◌, ℕ, zero, suc, ◌<◌, Bool, true, false, List, [], ◌∷◌, ◌++◌, length, map}
use Rattle.std.proofs.Common.{◌+◌, get_or, Option, Some, None, Ok, refl, sym, ap, ◌∙◌, subst, arith}
use Rattle.std.specs.Prelude.{slice_get, nat_lt, ◌==◌, ◌&&◌, not, if◌then◌else◌, Err, Result, ℤ}
use Rattle.std.specs.Map.{lookup}
use Rattle.std.proofs.lemmas.Bool.Decides.{nat_tests}
use Rattle.sq_text.specs.Names.{Bytes, same_name}
use Rattle.sq_text.specs.declared.place.Span.{Span}
use Rattle.sq_ast.specs.Forms.{is_formed}
use Rattle.sq_ast.specs.Modes.{is_written}
use Rattle.sq_ast.specs.declared.program.Body.TheVariants.{Inner}
use Rattle.sq_ast.specs.declared.program.Param.{Param}
use Rattle.sq_ast.specs.declared.program.Program.{Program}
use Rattle.sq_ast.specs.declared.program.Variant.{Variant}
use Rattle.sq_ast.specs.declared.expr.ArgUse.{ArgUse, out-ArgUse}
use Rattle.sq_ast.specs.declared.expr.Expr.{Expr}
use Rattle.sq_ast.specs.declared.stmt.Call.{Call}
use Rattle.sq_ast.specs.declared.stmt.Stmt.{Stmt}
use Rattle.sq_machfile.specs.declared.level.Level.{Level}
use Rattle.sq_mapping.specs.declared.mapping.Instance.{Instance}
use Rattle.sq_mapping.specs.declared.mapping.Mapping.{Mapping}
use Rattle.sq_mapping.specs.Sound.{Sound}
use Rattle.sq_types.specs.Sound.{is_sound}
use Rattle.sq_leaf.specs.declared.shape.Shape.{Shape}
use Rattle.sq_blocks.specs.Insides.{AreSpansIn}
use Rattle.sq_blocks.specs.Names.{Numbers}
use Rattle.sq_blocks.specs.Spans.{with_front, wholes, block as block_spans}
use Rattle.sq_blocks.specs.declared.fault.ConstFault.{ConstFault}
use Rattle.sq_blocks.specs.Arguments.{lengths}
use Rattle.sq_blocks.specs.declared.argument.Argument.{Argument}
use Rattle.sq_work.specs.declared.reduction.Reduction.{Reduction}
use Rattle.sq_forms.specs.declared.form.Found.{Found}
use Rattle.sq_forms.specs.declared.args.Block.{Block}
use Rattle.sq_forms.specs.declared.known.Array.{Array}
use Rattle.sq_forms.specs.declared.known.Blocks.{Blocks}
use Rattle.sq_forms.specs.Faults.{Value, and_then}
use Rattle.sq_forms.specs.Args.{Names, of_array as array_block, of_block, all_of_array, block_of, block_in, block_or_fault, block_by, block}
use Rattle.sq_forms.specs.Args.{worths, mode_of, is_reduced}
use Rattle.sq_forms.specs.Calls.{flags, extents_of, is_apart}
use Rattle.sq_forms.specs.Decls.{Scope}
use Rattle.sq_forms.specs.Resolving.{Resolving, resolution, frame_in, entry_params}
use Rattle.sq_forms.specs.Steps.{Called, Key}
use Rattle.sq_forms.specs.Tables.{variant_of}
use Rattle.sq_forms.specs.Worlds.{Callee, Frame, callee_of}
use Rattle.sq_form_laws.specs.Insides.{LiesIn, arrays_of}
use Rattle.sq_form_laws.specs.Laws.{NoAlias, Apart}
use Rattle.sq_form_laws.specs.Reached.{AreExamined, IsCallee, calls_in, steps_of, body_calls, form_number}
use Rattle.sq_form_laws.specs.Served.{FormRuns}
use Rattle.sq_form_laws.proofs.CallsHold.{passed_is_unaliased, in_place_is_apart, flag_at, and_both}
use Rattle.sq_form_laws.proofs.FitHold.{some_same, forms_run}
use Rattle.sq_form_laws.proofs.InsideHold.{all_good, begun_good}
use Rattle.sq_form_laws.proofs.ServedHold.{calls_are_served}
use Rattle.sq_spec.specs.declared.statement.CallInstance.{CallInstance}
use Rattle.sq_spec.specs.declared.body.FormBody.{FormBody}
use Rattle.sq_spec.specs.Bodies.{found_body, instance_body, variant_body, scope_body, declared_body, what_runs}
use Rattle.sq_spec.specs.Statements.{elems_of, array_number, elem_or_long}
use Rattle.sq_spec.specs.Works.{shapes_of}
use Rattle.sq_spec_laws.specs.TableRows.{Table, Summed, SumIs, RowIsReached, summed_in}
use Rattle.sq_spec_laws.specs.Typed.{HasType, param_writes, local_writes}
use Rattle.sq_spec_laws.proofs.TypedHold.{arguments_have_types, writes_are_permitted}
use Rattle.sq_spec_laws.proofs.SumsHold.{sums_are_whole, sums_are_alone}
use Rattle.sq_spec_laws.proofs.ReachedFactsHold.{reached_lie_inside, flags_are_of_text}
use Rattle.sq_placed.specs.declared.home.Home.{Home}
use Rattle.sq_placed.specs.declared.home.Home.TheVariants as home
use Rattle.sq_placed.specs.declared.home.Homes.{Homes}
use Rattle.sq_cells.specs.Work.{Buffer}
use Rattle.sq_cells.specs.Lowered.{in_place}
use Rattle.sq_plan_laws.specs.Coordinates.{Fits}
use Rattle.sq_plan_laws.specs.Calling.{place_of}
use Rattle.sq_plan_laws.specs.Fitting.{whole}
use Rattle.sq_plan_laws.specs.Seated.{IsNear}
use Rattle.sq_program_laws.specs.Facts.{ArgFacts, SumFacts, ReducedFacts, RowFacts, home_at}
use Rattle.sq_program_laws.specs.Rows.{without_block}
use Rattle.sq_program_laws.specs.Homes.{params_at, may_write, mays_of, bodies_of, AreHomes, HomesFit}
use Rattle.sq_program_laws.proofs.Sized.{form_shapes_sized}
use Rattle.sq_program_laws.proofs.Shapes.{elems_are, dims_are, mapped_at, at_mapped, param_shape}

-- ---- blocks

spans_fit : (spans : List Span) (ns : List ℕ) → AreSpansIn ns spans → Fits spans ns
spans_fit [] [] h = tt
spans_fit [] (n ∷ ns) h = absurd h
spans_fit (s ∷ spans) [] h = absurd h
spans_fit (s ∷ spans) (n ∷ ns) h = (h.0, h.1, spans_fit spans ns h.2)

-- all of an array, where it has elements
front_whole : (n : ℕ) (ns : List ℕ) (b : Bool) (o : Option (List Span)) (spans : List Span)
    → ((xs : List Span) → o ≡ Some xs → xs ≡ whole ns)
    → with_front (if b then Some (record { lo = 0; hi = n }) else None) o ≡ Some spans → spans ≡ whole (n ∷ ns)
front_whole n ns true (Some xs) spans f h = let e : record { lo = 0; hi = n } ∷ xs ≡ spans = cc h in sym e
    ∙ ap (λ l. record { lo = 0; hi = n } ∷ l) (f xs refl)
front_whole n ns true None spans f h = absurd (cc h)
front_whole n ns false o spans f h = absurd (cc h)

wholes_are : (ns : List ℕ) (spans : List Span) → wholes ns ≡ Some spans → spans ≡ whole ns
wholes_are [] spans h = let e : [] ≡ spans = cc h in sym e
wholes_are (n ∷ ns) spans h = front_whole n ns (nat_lt 0 n) (wholes ns) spans (λ xs e. wholes_are ns xs e) h

-- ---- homes

at_or : {A : Type 0} (xs : List A) (i : ℕ) (d : A) → i < length xs → slice_get xs i ≡ Some (get_or xs i d)
at_or [] i d h = absurd (omega (arith, h))
at_or (x ∷ xs) zero d h = refl
at_or (x ∷ xs) (suc i) d h = at_or xs i d (omega (arith, h))

there_or : {A : Type 0} (xs : List A) (i : ℕ) (x d : A) → slice_get xs i ≡ Some x → get_or xs i d ≡ x
there_or [] i x d h = absurd (cc h)
there_or (y ∷ xs) zero x d h = cc h
there_or (y ∷ xs) (suc i) x d h = there_or xs i x d h

map_long : {A B : Type 0} (f : A → B) (xs : List A) → length (map f xs) ≡ length xs
map_long f [] = refl
map_long f (x ∷ xs) = ap suc (map_long f xs)

past_or : {A : Type 0} (xs : List A) (i : ℕ) (d : A) → slice_get xs i ≡ None → get_or xs i d ≡ d
past_or [] i d h = refl
past_or (x ∷ xs) zero d h = absurd (cc h)
past_or (x ∷ xs) (suc i) d h = past_or xs i d h

below_there : {A : Type 0} (xs : List A) (i : ℕ) (x : A) → slice_get xs i ≡ Some x → i < length xs
below_there [] i x h = absurd (cc h)
below_there (y ∷ xs) zero x h = omega arith
below_there (y ∷ xs) (suc i) x h = let e = below_there xs i x h in omega (arith, e)

there_below : {A : Type 0} (xs : List A) (i : ℕ) → i < length xs → (x : A) × (slice_get xs i ≡ Some x)
there_below [] i h = absurd (omega (arith, h))
there_below (x ∷ xs) zero h = (x, refl)
there_below (x ∷ xs) (suc i) h = there_below xs i (omega (arith, h))

in_place_by : (h : Home) → in_place (place_of h) ≡ true → h ≡ home.InPlace
in_place_by home.InPlace a = refl
in_place_by (home.Own n) a = cc
in_place_by (home.Held n l) a = cc
in_place_by (home.Twin n m) a = cc

-- what isn't in place and leaves no loop has a buffer
buffer_by : (h : Home) → ((n l : ℕ) → h ≡ home.Held n l → ⊥) → (h ≡ home.InPlace → ⊥) → place_of h ≡ Buffer
buffer_by home.InPlace a b = absurd (b refl)
buffer_by (home.Own n) a b = refl
buffer_by (home.Held n l) a b = absurd (a n l refl)
buffer_by (home.Twin n m) a b = refl

near_by : (lower : Bool) (h : Home) → (h ≡ home.InPlace → lower ≡ false) → IsNear lower h
near_by lower home.InPlace f = f refl
near_by lower (home.Own n) f = tt
near_by lower (home.Held n l) f = tt
near_by lower (home.Twin n m) f = tt

-- ---- what may be written

may_front : (ps : List Param) (more : List Bool) (all : (n : ℕ) (b : Bool) → slice_get more n ≡ Some b → b ≡ true)
    (n : ℕ) → slice_get (param_writes ps ++ more) n ≡ Some true → may_write ps n ≡ true
may_front [] more all n h = refl
may_front (p ∷ ps) more all zero h = cc h
may_front (p ∷ ps) more all (suc n) h = may_front ps more all n h

all_locals : {A : Type 0} (ls : List A) (n : ℕ) (b : Bool) → slice_get (map (λ l. true) ls) n ≡ Some b → b ≡ true
all_locals [] n b h = absurd (cc h)
all_locals (l ∷ ls) zero b h = let e : true ≡ b = cc h in sym e
all_locals (l ∷ ls) (suc n) b h = all_locals ls n b h

may_param : (ps : List Param) (i : ℕ) (p : Param) → slice_get ps i ≡ Some p → may_write ps i ≡ is_written p.mode
may_param [] i p h = absurd (cc h)
may_param (q ∷ ps) zero p h = let e : q ≡ p = cc h in ap (λ (x : Param). is_written x.mode) e
may_param (q ∷ ps) (suc i) p h = may_param ps i p h

-- ---- levels

not_lower : (n m : ℕ) → (n == m) ≡ true → (n == suc m) ≡ false
not_lower n m h = grind (arith, nat_tests)

-- ---- arguments, their blocks left aside

abbrev pub blocks_number : Option Blocks → ℕ
blocks_number None = 0
blocks_number (Some x) = x.array

-- the array of an argument with these indices
abbrev pub array_of : Names → ArgUse → List Expr → ℕ
array_of names a [] = array_number (lookup (same_name (out-ArgUse a).name) names.arrays)
array_of names a (e ∷ es) = blocks_number (lookup (same_name (out-ArgUse a).name) names.blocks)

abbrev pub found_block : Block → Value Block
found_block x = Ok x

block_same : (x y : Block) → found_block x ≡ found_block y → x ≡ y
block_same x y e = cc e

whole_array_of : (a : ArgUse) (o : Option Array) (x : Block) → block_or_fault a (all_of_array o) ≡ found_block x
    → x.array ≡ array_number o
whole_array_of a None x e = absurd (cc e)
whole_array_of a (Some y) x e = go (wholes y.extents) e
  where
    go : (r : Option (List Span)) → block_or_fault a (array_block y.number r) ≡ found_block x → x.array ≡ y.number
    go None f = absurd (cc f)
    go (Some rect) f = ap (λ (z : Block). z.array) (sym (block_same (record { array = y.number; rect = rect }) x f))

block_array_of : (a : ArgUse) (index : List ℤ) (o : Option Blocks) (x : Block)
    → block_or_fault a (block_of index o) ≡ found_block x → x.array ≡ blocks_number o
block_array_of a index None x e = absurd (cc e)
block_array_of a index (Some y) x e = go (block_spans y.chop index) e
  where
    go : (r : Result (List Span) ConstFault) → block_or_fault a (of_block y.array r) ≡ found_block x → x.array ≡ y.array
    go (Err f) g = absurd (cc g)
    go (Ok rect) g = ap (λ (z : Block). z.array) (sym (block_same (record { array = y.array; rect = rect }) x g))

pub array_by : (names : Names) (numbers : Numbers) (a : ArgUse) (es : List Expr) (x : Block)
    → block_by names numbers a es ≡ found_block x → x.array ≡ array_of names a es
array_by names numbers a [] x e = whole_array_of a (lookup (same_name (out-ArgUse a).name) names.arrays) x e
array_by names numbers a (i ∷ es) x e = go (worths (i ∷ es) numbers names.lists) e
  where
    go : (v : Value (List ℤ))
        → and_then v (λ index. block_or_fault a (block_in names (out-ArgUse a).name index)) ≡ found_block x
        → x.array ≡ blocks_number (lookup (same_name (out-ArgUse a).name) names.blocks)
    go (Ok index) f = block_array_of a index (lookup (same_name (out-ArgUse a).name) names.blocks) x f
    go (Err f) g = absurd (cc g)

abbrev passed_okay : Argument → Value Argument
passed_okay x = Ok x

-- what is the same of an argument each time that its call is reached
abbrev head_of : Names → Option Bytes → Option Param → ArgUse → Argument
head_of names reduced param a = record {
  mode = mode_of param;
  is_reduced = is_reduced reduced a;
  array = array_of names a (out-ArgUse a).index;
  rect = [];
}

abbrev heads_of : Names → Option Bytes → List Param → ℕ → List ArgUse → List Argument
heads_of names reduced params i [] = []
heads_of names reduced params i (a ∷ list) = head_of names reduced (slice_get params i) a
    ∷ heads_of names reduced params (i + 1) list

head_is : (names : Names) (numbers : Numbers) (reduced : Option Bytes) (param : Option Param) (a : ArgUse) (x : Argument)
    (v : Value Block) → block names numbers a ≡ v
    → and_then v (λ y. passed_okay (record { mode = mode_of param; is_reduced = is_reduced reduced a; array = y.array; rect = y.rect })) ≡ Ok x
    → without_block x ≡ head_of names reduced param a
head_is names numbers reduced param a x (Ok y) e h =
    let made : Argument = record { mode = mode_of param; is_reduced = is_reduced reduced a; array = y.array; rect = y.rect }
    in
    let is : made ≡ x = cc h in
    ap without_block (sym is)
    ∙ ap (λ (n : ℕ). record { mode = mode_of param; is_reduced = is_reduced reduced a; array = n; rect = [] })
    (array_by names numbers a (out-ArgUse a).index y e)
head_is names numbers reduced param a x (Err f) e h = absurd (cc h)

heads_are : (names : Names) (numbers : Numbers) (reduced : Option Bytes) (params : List Param) (i : ℕ)
    (list : List ArgUse) (xs : List Argument) → AreExamined names numbers reduced params i list xs
    → map without_block xs ≡ heads_of names reduced params i list
heads_are names numbers reduced params i [] [] h = refl
heads_are names numbers reduced params i [] (x ∷ xs) h = absurd h
heads_are names numbers reduced params i (a ∷ list) [] h = absurd h
heads_are names numbers reduced params i (a ∷ list) (x ∷ xs) h =
    let first = head_is names numbers reduced (slice_get params i) a x (block names numbers a) refl h.0 in
    let rest = heads_are names numbers reduced params (i + 1) list xs h.1 in
    (λ d. first d ∷ rest d)

abbrev heads_by : Names → Option Bytes → Option Callee → List ArgUse → List Argument
heads_by names reduced None list = []
heads_by names reduced (Some c) list = heads_of names reduced c.params 0 list

-- ---- the forms of a program

module _ (program : Program) (levels : List Level) (mapping : Mapping) (sound : is_sound program ≡ true)
    (read : Sound program levels mapping) (r : Resolving) (through : resolution program.tasks mapping ≡ Ok r) where
  abbrev tasks : List Variant
  tasks = program.tasks

  abbrev instances : List Instance
  instances = mapping.instances

  abbrev bodies : ℕ → FormBody
  bodies = bodies_of program mapping r.found

  abbrev pub Runs : (k : ℕ) → Key × Found → Type 0
  Runs k form = FormRuns program mapping r k form.1

  pub runs : (k : ℕ) (form : Key × Found) → slice_get r.found k ≡ Some form → Runs k form
  runs k form there = forms_run program levels mapping sound read r through k form there

  module _ (k : ℕ) (form : Key × Found) (there : slice_get r.found k ≡ Some form) (run : Runs k form) where
    abbrev pub f : Found
    f = form.1

    abbrev pub x : Instance
    x = run.fits.instance

    abbrev pub v : Variant
    v = run.fits.variant

    abbrev pub scope : Scope
    scope = run.ran.scope

    abbrev pub frame : Frame
    frame = frame_in tasks instances x k f

    pub body_is : bodies k ≡ record { arrays = shapes_of v f scope; body = what_runs r.found frame v v.body scope }
    body_is =
        ap (found_body r.found tasks instances k) there
        ∙ (ap (instance_body r.found tasks instances k f) run.fits.there
        ∙ (ap (variant_body r.found tasks instances x k f) run.fits.runs
        ∙ (ap (scope_body r.found frame x v f) run.fits.binds
        ∙ ap (declared_body r.found frame v f) run.ran.declared)))

    pub arrays_are : (bodies k).arrays ≡ shapes_of v f scope
    arrays_are = ap (λ (b : FormBody). b.arrays) body_is

    pub params_are : params_at tasks instances (slice_get r.found k) ≡ v.params
    params_are =
        ap (params_at tasks instances) there
        ∙ (ap (entry_params tasks) run.fits.there ∙ ap params_or run.fits.runs)
      where
        params_or : Option Variant → List Param
        params_or None = []
        params_or (Some w) = w.params

    pub mays_are : (n : ℕ) → mays_of tasks instances r.found k n ≡ may_write v.params n
    mays_are n = ap (λ ps. may_write ps n) params_are

  -- ---- a row of a form's tables

  module _ (formed : is_formed program ≡ true) (homes : ℕ → Homes) (homes_fit : HomesFit program mapping r.found homes)
      (k : ℕ) (form : Key × Found) (there : slice_get r.found k ≡ Some form) (run : Runs k form) (list : List Stmt)
      (inner : run.fits.variant.body ≡ Inner list)
      (i : ℕ) (t : Table) (pair : Summed) (pair_at : slice_get (summed_in list None) i ≡ Some pair)
      (sum : SumIs (elems_of run.fits.variant run.ran.scope) run.ran.scope.names t.red pair.0)
      (q : CallInstance)
      (h : RowIsReached (frame_in program.tasks mapping.instances run.fits.instance k form.1) run.ran.scope.names
      (body_calls run.fits.variant.body)
      (calls_in (steps_of program.tasks mapping.instances run.fits.instance run.fits.variant k form.1
      run.ran.scope)) r.found pair.0 pair.1 t.lower q) where
    abbrev fk : Found
    fk = form.1

    abbrev vk : Variant
    vk = run.fits.variant

    abbrev sk : Scope
    sk = run.ran.scope

    abbrev xs : List Argument
    xs = h.reached.arguments

    -- the callee
    abbrev n : ℕ
    n = form_number r.found h.call.key

    abbrev callee : Key × Found
    callee = (run.ran.callees h.index h.call h.there).form

    callee_there : slice_get r.found n ≡ Some callee
    callee_there = (run.ran.callees h.index h.call h.there).there

    is_callee : IsCallee h.call callee
    is_callee = (run.ran.callees h.index h.call h.there).is

    callee_runs : Runs n callee
    callee_runs = runs n callee callee_there

    abbrev its : Callee
    its = h.reached.callee

    callee_extents : callee.1.extents ≡ extents_of xs
    callee_extents = is_callee.extents ∙ ap (λ (c : Called). c.form.extents) h.reached.is

    callee_in_place : callee.1.in_place ≡ flags (its.level == run.fits.instance.level) xs
    callee_in_place = is_callee.in_place ∙ ap (λ (c : Called). c.form.in_place) h.reached.is

    callee_instance : callee.1.instance ≡ its.instance
    callee_instance = is_callee.instance ∙ ap (λ (c : Called). c.form.instance) h.reached.is

    -- its parameters are those of its variant
    callee_params : its.params ≡ callee_runs.fits.variant.params
    callee_params =
        let served = calls_are_served program levels mapping read fk.instance run.fits.instance vk run.fits.there
        run.fits.runs h.reached.position h.reached.call h.reached.among k fk in
        let same : served.0 ≡ its = some_same served.0 its (sym served.1 ∙ h.reached.serves) in
        let own = served.2 in
        let at : slice_get instances callee.1.instance ≡ Some own.instance =
        ap (slice_get instances) (callee_instance ∙ sym (ap (λ (d : Callee). d.instance) same)) ∙ own.there in
        let instance : own.instance ≡ callee_runs.fits.instance
        = some_same own.instance callee_runs.fits.instance (sym at ∙ callee_runs.fits.there) in
        let variant : own.variant ≡ callee_runs.fits.variant =
        some_same own.variant callee_runs.fits.variant
        (sym own.runs ∙ (ap (λ (y : Instance). variant_of tasks y.task y.kind) instance ∙ callee_runs.fits.runs)) in
        sym (ap (λ (d : Callee). d.params) same) ∙ (own.params ∙ ap (λ (w : Variant). w.params) variant)

    arg_of : (j : ℕ) (a : Argument) → slice_get q.args j ≡ Some a → slice_get xs j ≡ Some a
    arg_of j a e = ap (λ l. slice_get l j) (sym h.args) ∙ e

    typed : (j : ℕ) (a : Argument) → slice_get xs j ≡ Some a → HasType (elems_of vk sk) its.params j a
    typed j a e = arguments_have_types program levels mapping sound read r k fk run.fits.instance vk run.fits.begun
        run.fits.there run.fits.runs run.fits.binds run.ran h.call h.reached j a e

    lies : (j : ℕ) (a : Argument) → slice_get xs j ≡ Some a → LiesIn (arrays_of fk.extents sk.locals) a.array a.rect
    lies j a e = reached_lie_inside tasks mapping r k fk run.fits.instance vk run.fits.begun run.fits.binds
        run.fits.many run.ran h.call h.reached j a e

    outer_is : (bodies k).arrays ≡ shapes_of vk fk sk
    outer_is = arrays_are k form there run

    inner_is : (bodies q.form).arrays ≡ shapes_of callee_runs.fits.variant callee.1 callee_runs.ran.scope
    inner_is = ap (λ m. (bodies m).arrays) h.form ∙ arrays_are n callee callee_there callee_runs

    -- the array that an argument is of
    record Of (j : ℕ) (a : Argument) : Type 0 where
      of : Shape
      there_ : slice_get (bodies k).arrays a.array ≡ Some of
      extents : slice_get (arrays_of fk.extents sk.locals) a.array ≡ Some of.extents
      elem : slice_get (elems_of vk sk) a.array ≡ Some of.elem

    of_array : (j : ℕ) (a : Argument) → slice_get xs j ≡ Some a → Of j a
    of_array j a e =
        let l = lies j a e in
        let m = mapped_at (λ (s : Shape). s.extents) (shapes_of vk fk sk) a.array l.extents
        (ap (λ z. slice_get z a.array) (dims_are vk fk sk run.fits.many) ∙ l.there) in
        record {
          of = m.of;
          there_ = ap (λ z. slice_get z a.array) outer_is ∙ m.there;
          extents = l.there ∙ ap Some (sym m.is);
          elem = ap (λ z. slice_get z a.array) (sym (elems_are vk fk sk))
              ∙ at_mapped (λ (s : Shape). s.elem) (shapes_of vk fk sk) a.array m.of m.there;
        }

    pub arg_facts : (j : ℕ) (a : Argument) → slice_get q.args j ≡ Some a
        → ArgFacts (bodies k).arrays (bodies q.form).arrays j a
    arg_facts j a e =
        let at = arg_of j a e in
        let o = of_array j a at in
        let l = lies j a at in
        let ty = typed j a at in
        let extents : slice_get callee.1.extents j ≡ Some (lengths a.rect) = ap (λ z. slice_get z j) callee_extents
        ∙ at_mapped (λ (y : Argument). lengths y.rect) xs j a at in
        let to = param_shape callee_runs.fits.variant callee.1 callee_runs.ran.scope j ty.param (lengths a.rect)
        (ap (λ z. slice_get z j) (sym callee_params) ∙ ty.there) extents in
        let inside : l.extents ≡ o.of.extents = some_same l.extents o.of.extents (sym l.there ∙ o.extents) in
        record {
          of = o.of;
          there = o.there_;
          inside = spans_fit a.rect o.of.extents (subst (λ ns. AreSpansIn ns a.rect) inside l.inside);
          to = to.to;
          param = ap (λ z. slice_get z j) inner_is ∙ to.there;
          elem = to.elem ∙ sym (some_same o.of.elem ty.param.elem (sym o.elem ∙ ty.elem));
          extents = to.extents;
        }

    no_alias : NoAlias q.args
    no_alias = subst NoAlias (sym h.args) (passed_is_unaliased xs h.reached.alias)

    -- which arguments are what is reduced into
    pub row_flags : map (λ (a : Argument). a.is_reduced) q.args ≡ map (is_reduced pair.0) pair.1.args
    row_flags =
        ap (λ l. map (λ (a : Argument). a.is_reduced) l) h.args
        ∙ (flags_are_of_text (frame k form there run) sk.names (body_calls vk.body) h.call h.reached
        ∙ (ap (λ o. map (is_reduced o) h.reached.call.args) h.sum
        ∙ ap (λ (c : Call). map (is_reduced pair.0) c.args) h.stmt))

    none_flagged : pair.0 ≡ None → (j : ℕ) (a : Argument) → slice_get q.args j ≡ Some a → a.is_reduced ≡ false
    none_flagged e j a g =
        let m = mapped_at (is_reduced None) pair.1.args j a.is_reduced
        (ap (λ l. slice_get l j) (sym (row_flags ∙ ap (λ o. map (is_reduced o) pair.1.args) e))
        ∙ at_mapped (λ (y : Argument). y.is_reduced) q.args j a g) in
        sym m.is

    serves : callee_of (frame k form there run) pair.1.task ≡ Some its
    serves = ap (λ (c : Call). callee_of (frame k form there run) c.task) (sym h.stmt) ∙ h.reached.serves

    each_examined : AreExamined sk.names h.reached.numbers pair.0 its.params 0 pair.1.args xs
    each_examined =
        subst (λ (o : Option Bytes). AreExamined sk.names h.reached.numbers o its.params 0 pair.1.args xs) h.sum
        (subst (λ (c : Call). AreExamined sk.names h.reached.numbers h.reached.site.reduced its.params 0 c.args xs)
        h.stmt h.reached.examined)

    examined : (name : Bytes) → pair.0 ≡ Some name
        → AreExamined sk.names h.reached.numbers (Some name) its.params 0 pair.1.args xs
    examined name e = subst (λ (o : Option Bytes). AreExamined sk.names h.reached.numbers o its.params 0 pair.1.args xs)
        e each_examined

    -- the arguments of each row are those of the text, their blocks left aside
    pub row_heads : map without_block q.args
        ≡ heads_by sk.names pair.0 (callee_of (frame k form there run) pair.1.task) pair.1.args
    row_heads =
        ap (map without_block) h.args
        ∙ (heads_are sk.names h.reached.numbers pair.0 its.params 0 pair.1.args xs each_examined
        ∙ ap (λ o. heads_by sk.names pair.0 o pair.1.args) (sym serves))

    named_at : (name : Bytes) → pair.0 ≡ Some name → slice_get (summed_in list None) i ≡ Some (Some name, pair.1)
    named_at name e = pair_at ∙ ap (λ o. Some (o, pair.1)) e

    -- the call of a `mapreduce`
    sum_facts : (d : Reduction) (name : Bytes) → pair.0 ≡ Some name
        → (d.array ≡ array_number (lookup (same_name name) sk.names.arrays))
        × (d.elem ≡ elem_or_long (slice_get (elems_of vk sk) d.array))
        → SumFacts (bodies k).arrays d q.args
    sum_facts d name e g =
        let s = sums_are_whole program levels mapping formed sound read fk.instance run.fits.instance vk run.fits.there
        run.fits.runs list inner i name pair.1 (named_at name e) k fk sk.names h.reached.numbers its serves xs
        (examined name e) in
        let o = of_array s.at s.sum s.there in
        let array : s.sum.array ≡ d.array = s.of.number ∙ sym (g.0 ∙ ap array_number s.of.is) in
        let good = all_good fk.extents run.fits.instance.tunings vk.decls run.fits.begun sk
        (begun_good fk.extents vk.params run.fits.begun run.fits.binds run.fits.many) run.ran.declared in
        let extents : s.of.array.extents ≡ o.of.extents =
        some_same s.of.array.extents o.of.extents
        (sym (good.array name s.of.array s.of.is)
        ∙ (ap (slice_get (arrays_of fk.extents sk.locals)) (sym s.of.number) ∙ o.extents)) in
        record {
          at = s.at;
          sum = s.sum;
          there = ap (λ l. slice_get l s.at) h.args ∙ s.there;
          reduced = s.reduced;
          array = array;
          mode = s.mode;
          of = o.of;
          of_is = ap (slice_get (bodies k).arrays) (sym array) ∙ o.there_;
          is_whole = wholes_are s.of.array.extents s.sum.rect s.of.whole ∙ ap whole extents;
          elem = sym (g.1 ∙ ap elem_or_long (ap (slice_get (elems_of vk sk)) (sym array) ∙ o.elem));
          others = λ j a z far.
              let at = arg_of j a z in
              let flag = s.others j a at far in (
                flag,
                λ w. sums_are_alone program levels mapping formed sound read run.fits.instance vk run.fits.runs
                    list inner i name pair.1 (named_at name e) fk.extents run.fits.begun sk run.fits.binds
                    run.ran.declared
                    h.reached.numbers its.params xs (examined name e) j a at flag s.of.array s.of.is
                    (w ∙ (sym array ∙ s.of.number)),
              );
        }

    reduced_facts : (red : Option Reduction) (o : Option Bytes) → pair.0 ≡ o → SumIs (elems_of vk sk) sk.names red o
        → ReducedFacts (bodies k).arrays red q.args
    reduced_facts None None e s = none_flagged e
    reduced_facts None (Some name) e s = absurd s
    reduced_facts (Some d) None e s = absurd s
    reduced_facts (Some d) (Some name) e s = sum_facts d name e s

    -- ---- what may be written

    abbrev mays : ℕ → ℕ → Bool
    mays = mays_of tasks instances r.found

    permitted : (j : ℕ) (a : Argument) → slice_get q.args j ≡ Some a → is_written a.mode ≡ true → mays k a.array ≡ true
    permitted j a e w =
        mays_are k form there run a.array
        ∙ may_front vk.params (local_writes sk.locals) (all_locals sk.locals) a.array
        (writes_are_permitted program levels mapping sound read r k fk run.fits.instance vk run.fits.begun
        run.fits.there run.fits.runs run.fits.binds run.ran h.call h.reached j a (arg_of j a e) w)

    modes : (j : ℕ) (a : Argument) → slice_get q.args j ≡ Some a → mays q.form j ≡ true → is_written a.mode ≡ true
    modes j a e w =
        let ty = typed j a (arg_of j a e) in
        let may : may_write callee_runs.fits.variant.params j ≡ true
        = sym (ap (λ m. mays m j) h.form ∙ mays_are n callee callee_there callee_runs j) ∙ w in
        ap is_written ty.mode ∙ (sym
        (may_param callee_runs.fits.variant.params j ty.param
        (ap (λ z. slice_get z j) (sym callee_params) ∙ ty.there)) ∙ may)

    -- ---- homes

    abbrev params : List Home
    params = (homes q.form).params

    have_homes : AreHomes callee.1 (bodies q.form).arrays (homes q.form)
    have_homes = subst (λ m. AreHomes callee.1 (bodies m).arrays (homes m)) (sym h.form)
        (homes_fit n callee callee_there)

    pub many_args : length q.args ≡ length params
    many_args =
        ap length h.args
        ∙ (sym (map_long (λ (y : Argument). lengths y.rect) xs)
        ∙ (ap length (sym callee_extents) ∙ sym have_homes.params))

    flagged : (j : ℕ) → j < length q.args → home_at (homes q.form) j ≡ home.InPlace
        → slice_get (flags (its.level == run.fits.instance.level) xs) j ≡ Some true
    flagged j lt e =
        ap (λ l. slice_get l j) (sym callee_in_place)
        ∙ have_homes.in_place j (at_or params j home.InPlace (omega (arith, lt, many_args)) ∙ ap Some e)

    apart_in : (j : ℕ) → j < length q.args → home_at (homes q.form) j ≡ home.InPlace → Apart q.args j
    apart_in j lt e = subst (λ l. Apart l j) (sym h.args)
        (in_place_is_apart (its.level == run.fits.instance.level) xs j (flagged j lt e))

    not_reduced : (j : ℕ) (a : Argument) → slice_get q.args j ≡ Some a → a.is_reduced ≡ true → home_at (homes q.form) j
        ≡ home.InPlace → ⊥
    not_reduced j a e red ip =
        let f : a.is_reduced ≡ false = (apart_in j (below_there q.args j a e) ip).whole a e in
        let no : true ≡ false = sym red ∙ f in absurd (cc no)

    not_lower_in : (j : ℕ) → j < length q.args → home_at (homes q.form) j ≡ home.InPlace → t.lower ≡ false
    not_lower_in j lt ip =
        let many : length q.args ≡ length xs = ap length h.args in
        let y = there_below xs j (omega (arith, lt, many)) in
        let same = (and_both (its.level == run.fits.instance.level) (not y.0.is_reduced && is_apart y.0 j 0 xs)
        (flag_at (its.level == run.fits.instance.level) xs 0 xs j j y.0 (omega arith) (flagged j lt ip) y.1)).0 in
        h.level ∙ not_lower its.level run.fits.instance.level same

    -- what is reduced into is so in a `mapreduce`
    reduces : (j : ℕ) (a : Argument) → slice_get q.args j ≡ Some a → a.is_reduced ≡ true → t.red ≡ None → ⊥
    reduces j a e red none =
        let f = subst (λ o. ReducedFacts (bodies k).arrays o q.args) none (reduced_facts t.red pair.0 refl sum) in
        let no : true ≡ false = sym red ∙ f j a e in absurd (cc no)

    -- where no argument of a `mapreduce`'s call leaves a loop
    pub row_facts : ((t.red ≡ None → ⊥) → (j n l : ℕ) → home_at (homes q.form) j ≡ home.Held n l → ⊥)
        → RowFacts bodies homes mays k t q
    row_facts stay = record {
      args = arg_facts;
      alias = no_alias;
      reduced = reduced_facts t.red pair.0 refl sum;
      permitted = permitted;
      modes = modes;
      many = many_args;
      locals = have_homes.locals;
      apart = λ j st lt. apart_in j lt (in_place_by (home_at (homes q.form) j) st);
      sum_home = λ j a e red. buffer_by (home_at (homes q.form) j) (λ n l. stay (reduces j a e red) j n l)
          (not_reduced j a e red);
      near = λ j lt. near_by t.lower (home_at (homes q.form) j) (not_lower_in j lt);
      dims = λ m sh e. (form_shapes_sized program levels mapping sound read r through n callee callee_there callee_runs
          m sh (ap (λ z. slice_get z m) (sym inner_is) ∙ e)).dims;
    }
