-- Each form has of each parameter as many extents as its text says.
use Rattle.std.proofs.Common.{◌≡◌, ℕ, zero, suc, ◌+◌, ◌<◌, true, List, [], ◌∷◌, length, map, Option, Some, None, Ok}
use Rattle.std.proofs.Common.{Err, refl, sym, ap, ◌∙◌, subst, arith}
use Rattle.std.specs.Prelude.{slice_get, ◌&&◌, ◌==◌, ◌||◌, not}
use Rattle.sq_text.specs.Names.{Bytes}
use Rattle.sq_text.specs.declared.place.Place.{Place}
use Rattle.sq_text.specs.declared.place.Span.{Span}
use Rattle.sq_ast.specs.Modes.{is_written}
use Rattle.sq_ast.specs.declared.expr.ArgUse.{ArgUse, out-ArgUse}
use Rattle.sq_ast.specs.declared.program.Body.{Body}
use Rattle.sq_ast.specs.declared.program.Body.TheVariants as body
use Rattle.sq_ast.specs.declared.program.Param.{Param}
use Rattle.sq_ast.specs.declared.program.Program.{Program}
use Rattle.sq_ast.specs.declared.program.Variant.{Variant}
use Rattle.sq_ast.specs.declared.stmt.Call.{Call}
use Rattle.sq_ast.specs.declared.stmt.MapKind.{MapKind}
use Rattle.sq_ast.specs.declared.stmt.Range.{Range}
use Rattle.sq_ast.specs.declared.stmt.Stmt.{Stmt, roll-Stmt}
use Rattle.sq_ast.specs.declared.stmt.Stmt.TheVariants as s
use Rattle.sq_ast.specs.declared.stmt.Stmt.TheOpen.{Stmt-F}
use Rattle.sq_ast.specs.declared.stmt.Stmt.TheFolds.{ind-Stmt, map-Stmt}
use Rattle.sq_machfile.specs.declared.level.Level.{Level}
use Rattle.sq_mapping.specs.declared.mapping.Instance.{Instance}
use Rattle.sq_mapping.specs.declared.mapping.Mapping.{Mapping}
use Rattle.sq_mapping.specs.declared.mapping.SizeSet.{SizeSet}
use Rattle.sq_mapping.specs.Sound.{Sound}
use Rattle.sq_types.specs.Known.{Known, kind_of}
use Rattle.sq_types.specs.Table.{same_elem, same_mode, array_of as array_known, indices_of, is_argument}
use Rattle.sq_types.specs.Sites.{params_of as params_of_task, param_at as first_at, params_known, decls_known}
use Rattle.sq_types.specs.Sites.{ranges_known}
use Rattle.sq_types.specs.Sound as typed
use Rattle.sq_types.proofs.SoundStmts.{tested_call, tested_map}
use Rattle.sq_types.proofs.OpenedStmt.{map_map}
use Rattle.sq_blocks.specs.Names.{Numbers}
use Rattle.sq_blocks.specs.Arguments.{lengths}
use Rattle.sq_blocks.specs.declared.argument.Argument.{Argument}
use Rattle.sq_forms.specs.declared.args.Block.{Block}
use Rattle.sq_forms.specs.declared.form.Found.{Found}
use Rattle.sq_forms.specs.Faults.{Value, and_then}
use Rattle.sq_forms.specs.Args.{Names, mode_of, is_reduced, block}
use Rattle.sq_forms.specs.Decls.{Scope, empty_scope, dims_of}
use Rattle.sq_forms.specs.Resolving.{Resolving, resolution, frame_in, entry_extents, entry_params, entry_form}
use Rattle.sq_forms.specs.Resolving.{extent_of, dims_or_fault, before, params_of}
use Rattle.sq_forms.specs.Steps.{Called, Key}
use Rattle.sq_forms.specs.Tables.{variant_of}
use Rattle.sq_forms.specs.Worlds.{Callee}
use Rattle.sq_form_laws.specs.Reached.{IsReached, AreExamined, concat, text_calls, body_calls}
use Rattle.sq_form_laws.specs.Served.{FormRuns}
use Rattle.sq_form_laws.proofs.EachCall.{AllIn, all_joined, text_call, text_map}
use Rattle.sq_form_laws.proofs.FitHold.{some_same, is_equal, variant_parts}
use Rattle.sq_form_laws.proofs.Passing.{as_many}
use Rattle.sq_form_laws.proofs.ServedHold.{all_at, calls_are_served}
use Rattle.sq_homes.proofs.SpecLaws.Sorted.{both}
use Rattle.sq_homes.proofs.SpecLaws.TypedHold.{as_first, get_there, callee_typed}
use Rattle.sq_program_laws.proofs.Shapes.{mapped_at}
use Rattle.sq_draft_laws.proofs.Dimensions.{Extends, decls_extend, ranges_extend, params_are_known, decls_are_known}
use Rattle.sq_draft_laws.proofs.Dimensions.{dims_are, map_many, AsKnown, params_as_known, decls_as_known, HasSpans}
use Rattle.sq_draft_laws.proofs.Dimensions.{argument_spans}
use Rattle.sq_program_laws.proofs.EachForm.{each_good}

-- ---- each call of a text, with what is known where it stands

-- the call is sound where these names, and more, are known
record SoundCall (tasks : List Variant) (all : Known) (c : Call) : Type 0 where
  known : Known
  extends : Extends all known
  is : typed.is_sound_call tasks c known ≡ true

module _ (tasks : List Variant) (all : Known) where
  abbrev M : Call → Type 0
  M c = SoundCall tasks all c

  abbrev OfStmt : Stmt → Type 0
  OfStmt x = (known : Known) → Extends all known → typed.is_sound_stmt tasks x known ≡ true → AllIn M (text_calls x)

  abbrev S : Type 0
  S = (x : Stmt) × OfStmt x

  sound_parts : (xs : List S) (known : Known) → Extends all known
      → typed.are_sound_stmts tasks (map (λ (q : S). q.0) xs) known ≡ true
      → AllIn M (concat (map text_calls (map (λ (q : S). q.0) xs)))
  sound_parts [] known g h = tt
  sound_parts (x ∷ xs) known g h =
      let p = both (typed.is_sound_stmt tasks x.0 known)
      (typed.are_sound_stmts tasks (map (λ (q : S). q.0) xs) known) h in
      all_joined M (text_calls x.0) (concat (map text_calls (map (λ (q : S). q.0) xs))) (x.1 known g p.0)
      (sound_parts xs known g p.1)

  sound_call : (c : Call) → OfStmt (s.Call c)
  sound_call c known g h =
      let t : typed.is_sound_call tasks c known ≡ true
      = sym (ap (λ (t : typed.StmtTest). t.test known) (tested_call tasks c)) ∙ h in
      subst (AllIn M) (sym (text_call c)) (record { known = known; extends = g; is = t }, tt)

  sound_map : (p : Place) (k : MapKind) (rs : List Range) (xs : List S)
      → OfStmt (s.Map p k rs (map (λ (q : S). q.0) xs))
  sound_map p k rs xs known g h =
      let ys = map (λ (q : S). q.0) xs in
      let bounds_ = typed.are_sound_bounds rs known in
      let kind_ = typed.is_sound_kind tasks k (typed.call_among (map (typed.tested tasks) ys)) known in
      let new_ = typed.are_new_variables rs known in
      let tests_ = typed.all_hold (map (λ (t : typed.StmtTest). t.test) (map (typed.tested tasks) ys))
      (ranges_known rs known) in
      let stmts_ = typed.are_sound_stmts tasks ys (ranges_known rs known) in
      let f : (bounds_ && (kind_ && (new_ && tests_))) ≡ true
      = sym (ap (λ (t : typed.StmtTest). t.test known) (tested_map tasks p k rs ys)) ∙ h in
      let e : tests_ ≡ stmts_ = ap (λ (tests : List typed.Test). typed.all_hold tests (ranges_known rs known))
      (map_map (λ (t : typed.StmtTest). t.test) (typed.tested tasks) ys) in
      let a = both bounds_ (kind_ && (new_ && tests_)) f in
      let b = both kind_ (new_ && tests_) a.1 in
      let c = both new_ tests_ b.1 in
      subst (AllIn M) (sym (text_map p k rs ys))
      (sound_parts xs (ranges_known rs known)
      (λ name l at. ranges_extend rs known name l (g name l at)) (sym e ∙ c.1))

  sound_step : (y : Stmt-F S) → OfStmt (roll-Stmt (map-Stmt S Stmt (λ p. p.0) y))
  sound_step (Stmt-F.Call c) = subst OfStmt (sym (s.rolls-Call c)) (sound_call c)
  sound_step (Stmt-F.Map p k rs xs) = subst OfStmt (sym (s.rolls-Map p k rs (map (λ (q : S). q.0) xs)))
      (sound_map p k rs xs)

  sound_stmt : (x : Stmt) → OfStmt x
  sound_stmt = ind-Stmt OfStmt (λ x y is. subst (λ z. OfStmt (roll-Stmt z)) is (sound_step y))

  sound_stmts : (list : List Stmt) (known : Known) → Extends all known → typed.are_sound_stmts tasks list known ≡ true
      → AllIn M (concat (map text_calls list))
  sound_stmts [] known g h = tt
  sound_stmts (x ∷ list) known g h =
      let p = both (typed.is_sound_stmt tasks x known) (typed.are_sound_stmts tasks list known) h in
      all_joined M (text_calls x) (concat (map text_calls list)) (sound_stmt x known g p.0)
      (sound_stmts list known g p.1)

  sound_body : (b : Body) (known : Known) → Extends all known → typed.is_sound_body tasks b known ≡ true
      → AllIn M (body_calls b)
  sound_body (body.Inner list) known g h = sound_stmts list known g h
  sound_body (body.Leaf list) known g h = tt

-- ---- the arguments of a call

module _ (all known : Known) (extends : Extends all known) (names : Names) (h : AsKnown all names) where
  -- an argument has as many spans as the parameter of the task's first variant
  record Suits (first : Option (List Param)) (j : ℕ) (x : Argument) : Type 0 where
    type_dims : ℕ
    many : length x.rect ≡ type_dims
    suits : (lead : Param) → first_at first j ≡ Some lead → length lead.extents ≡ type_dims

  abbrev argument_okay : Argument → Value Argument
  argument_okay x = Ok x

  argument_rect : (numbers : Numbers) (reduced : Option Bytes) (param : Option Param) (a : ArgUse) (x : Argument)
      → (v : Value Block) → block names numbers a ≡ v → and_then v (λ b. argument_okay (record {
        mode = mode_of param;
        is_reduced = is_reduced reduced a;
        array = b.array;
        rect = b.rect;
      })) ≡ Ok x → HasSpans all known (out-ArgUse a).name x.rect
  argument_rect numbers reduced param a x (Err f) e g = absurd (cc g)
  argument_rect numbers reduced param a x (Ok b) e g =
      let is : b.rect ≡ x.rect = ap rect_or g in
      subst (HasSpans all known (out-ArgUse a).name) is (argument_spans all known extends names h numbers a b e)
    where
      rect_or : Value Argument → List Span
      rect_or (Ok y) = y.rect
      rect_or (Err f) = []

  arguments_suit : (first : Option (List Param)) (numbers : Numbers) (reduced : Option Bytes) (params : List Param)
      (i : ℕ) (list : List ArgUse) (xs : List Argument) → typed.are_sound_args first i list known ≡ true
      → AreExamined names numbers reduced params i list xs → (j : ℕ) (x : Argument) → slice_get xs j ≡ Some x
      → Suits first (i + j) x
  arguments_suit first numbers reduced params i [] [] t examined j x at = absurd (cc at)
  arguments_suit first numbers reduced params i [] (y ∷ xs) t examined j x at = absurd examined
  arguments_suit first numbers reduced params i (a ∷ list) [] t examined j x at = absurd examined
  arguments_suit first numbers reduced params i (a ∷ list) (y ∷ xs) t examined zero x at =
      let is : y ≡ x = cc at in
      let here : i ≡ i + 0 = omega arith in
      let name = (out-ArgUse a).name in
      let n = length (out-ArgUse a).index in
      let e = both (typed.is_sound_arg (first_at first i) a known) (typed.are_sound_args first (i + 1) list known) t in
      let f = both (typed.fits_param n (first_at first i) name known)
      (typed.are_sound_exprs (out-ArgUse a).index known) e.0 in
      let u = both (typed.is_kind (is_argument n) (kind_of known name))
      (typed.agrees (indices_of known (kind_of known name)) n
      && typed.both_suit (first_at first i) (array_known known (kind_of known name))) f.0 in
      let w = both (typed.agrees (indices_of known (kind_of known name)) n)
      (typed.both_suit (first_at first i) (array_known known (kind_of known name))) u.1 in
      let spans = argument_rect numbers reduced (slice_get params i) a y (block names numbers a) refl examined.0 in
      subst (Suits first (i + 0)) is (subst (λ (m : ℕ). Suits first m y) here (record {
        type_dims = spans.type.dims;
        many = spans.many;
        suits = λ lead g.
            let both_is : typed.suits lead spans.type ≡ true
            = sym (λ k. typed.both_suit (g k) (spans.is k)) ∙ w.1 in
            is_equal (length lead.extents) spans.type.dims
            (both (length lead.extents == spans.type.dims)
            (same_elem lead.elem spans.type.elem && (spans.type.is_writable || not (is_written lead.mode))) both_is).0;
      }))
  arguments_suit first numbers reduced params i (a ∷ list) (y ∷ xs) t examined (suc j) x at =
      let later : i + 1 + j ≡ i + suc j = omega arith in
      let e = both (typed.is_sound_arg (first_at first i) a known) (typed.are_sound_args first (i + 1) list known) t in
      subst (λ (m : ℕ). Suits first m x) later
      (arguments_suit first numbers reduced params (i + 1) list xs e.1 examined.1 j x at)

-- the parameter of the task's first variant
first_there : (o : Option (List Param)) (args j : ℕ) → typed.has_count args o ≡ true → j < args → (lead : Param)
    × (first_at o j ≡ Some lead)
first_there None args j h less = absurd (cc h)
first_there (Some ps) args j h less =
    let many = is_equal (length ps) args h in get_there ps j (omega (arith, many, less))

within : {A : Type 0} (xs : List A) (j : ℕ) (x : A) → slice_get xs j ≡ Some x → j < length xs
within [] j x h = absurd (cc h)
within (y ∷ xs) zero x h = omega arith
within (y ∷ xs) (suc j) x h = let e = within xs j x h in omega (arith, e)

long_lengths : (rect : List Span) → length (lengths rect) ≡ length rect
long_lengths [] = refl
long_lengths (s ∷ rect) = ap suc (long_lengths rect)

-- ---- the forms of a program

module _ (program : Program) (levels : List Level) (mapping : Mapping) (sound : typed.is_sound program ≡ true)
    (read : Sound program levels mapping) (r : Resolving) (through : resolution program.tasks mapping ≡ Ok r) where
  -- of each parameter of its variant as many extents
  abbrev pub HasCounts : Found → Type 0
  HasCounts f = (x : Instance) (v : Variant) → slice_get mapping.instances f.instance ≡ Some x
      → variant_of program.tasks x.task x.kind ≡ Some v → (j : ℕ) (p : Param) (dims : List ℕ)
      → slice_get v.params j ≡ Some p → slice_get f.extents j ≡ Some dims → length dims ≡ length p.extents

  module _ (k : ℕ) (form : Key × Found) (run : FormRuns program mapping r k form.1) (here : HasCounts form.1) where
    abbrev v : Variant
    v = run.fits.variant

    abbrev scope : Scope
    scope = run.ran.scope

    abbrev known : Known
    known = decls_known v.decls (params_known v.params [])

    names_known : AsKnown known scope.names
    names_known =
        let parts = variant_parts program levels mapping sound read run.fits.instance.task run.fits.instance.kind v
        run.fits.runs in
        decls_as_known known run.fits.instance.tunings v.decls run.fits.begun scope
        (decls_are_known known (length v.params) v.decls (params_known v.params []) parts.decls_ (λ name l h. h))
        (params_as_known known form.1.extents v.params 0 empty_scope run.fits.begun
        (params_are_known known (params_of_task program.tasks v.task) v.params 0 [] parts.params_
        (decls_extend v.decls (params_known v.params [])))
        (λ j p dims a b. let z : 0 + j ≡ j = omega arith in
        here run.fits.instance v run.fits.there run.fits.runs j p dims a (ap (slice_get form.1.extents) (sym z) ∙ b))
        (record { arrays = λ name a e. absurd (cc e); blocks = λ name b e. absurd (cc e) }) run.fits.binds)
        run.ran.declared

    reached_counts : (c : Called)
        (h : IsReached (frame_in program.tasks mapping.instances run.fits.instance k form.1) scope.names
        (body_calls v.body) c) → (j : ℕ) (p : Param) (a : Argument) → slice_get h.callee.params j ≡ Some p
        → slice_get h.arguments j ≡ Some a → length a.rect ≡ length p.extents
    reached_counts c h j p a at_param at =
        let tasks = program.tasks in
        let first = params_of_task tasks h.call.task in
        let parts = variant_parts program levels mapping sound read run.fits.instance.task run.fits.instance.kind v
        run.fits.runs in
        let ok : SoundCall tasks known h.call = all_at (M tasks known) (body_calls v.body)
        (sound_body tasks known v.body known (λ name l e. e) parts.body_) h.position h.call h.among in
        let q = both (typed.has_count (length h.call.args) first) (typed.are_sound_args first 0 h.call.args ok.known)
        ok.is in
        let callee = callee_typed program levels mapping sound read run.fits.instance v form.1.instance k form.1
        h.position h.call h.callee run.fits.there run.fits.runs h.among h.serves q.0 in
        let suits = arguments_suit known ok.known ok.extends scope.names names_known first h.numbers h.site.reduced
        h.callee.params 0 h.call.args h.arguments q.1 h.examined j a at in
        let args = as_many None scope.names h.numbers h.site.reduced h.callee.params 0 h.call.args h.arguments
        h.examined in
        let less : j < length h.call.args = let z = within h.arguments j a at in omega (arith, z, args) in
        let lead = first_there first (length h.call.args) j q.0 less in
        let z : 0 + j ≡ j = omega arith in
        let like : typed.is_as_first (Some lead.0) p ≡ true
        = sym (ap (λ o. typed.is_as_first o p) (ap (first_at first) z ∙ lead.1))
        ∙ as_first first 0 h.callee.params [] callee.first j p at_param in
        suits.many
        ∙ (sym (suits.suits lead.0 (ap (first_at first) z ∙ lead.1))
        ∙ is_equal (length lead.0.extents) (length p.extents)
        (both (length lead.0.extents == length p.extents)
        (same_mode lead.0.mode p.mode && same_elem lead.0.elem p.elem) like).0)

    reached_good : (c : Called)
        (h : IsReached (frame_in program.tasks mapping.instances run.fits.instance k form.1) scope.names
        (body_calls v.body) c) → HasCounts c.form
    reached_good c h x w there runs j p dims at_param at =
        let served = calls_are_served program levels mapping read form.1.instance run.fits.instance v run.fits.there
        run.fits.runs h.position h.call h.among k form.1 in
        let same : served.0 ≡ h.callee = some_same served.0 h.callee (sym served.1 ∙ h.serves) in
        let own = served.2 in
        let instance_at : slice_get mapping.instances c.form.instance ≡ Some own.instance =
        ap (slice_get mapping.instances)
        (ap (λ (d : Called). d.form.instance) h.is ∙ sym (ap (λ (d : Callee). d.instance) same)) ∙ own.there in
        let instance : own.instance ≡ x = some_same own.instance x (sym instance_at ∙ there) in
        let variant : own.variant ≡ w = some_same own.variant w
        (sym own.runs ∙ (ap (λ (y : Instance). variant_of program.tasks y.task y.kind) instance ∙ runs)) in
        let params : h.callee.params ≡ w.params
        = sym (ap (λ (d : Callee). d.params) same) ∙ (own.params ∙ ap (λ (u : Variant). u.params) variant) in
        let m = mapped_at (λ (a : Argument). lengths a.rect) h.arguments j dims
        (ap (λ (d : Called). slice_get d.form.extents j) (sym h.is) ∙ at) in
        ap length (sym m.is)
        ∙ (long_lengths m.of.rect
        ∙ reached_counts c h j p m.of (ap (λ l. slice_get l j) params ∙ at_param) m.there)

  -- ---- the entry

  first_counts : (sizes : List SizeSet) (p : Param) (ps : List Param) (extents : List (List ℕ))
      (rest : Value (List (List ℕ)))
      → ((ys : List (List ℕ)) → rest ≡ Ok ys → (j : ℕ) (q : Param) (dims : List ℕ) → slice_get ps j ≡ Some q
      → slice_get ys j ≡ Some dims → length dims ≡ length q.extents) → (o : Option (List ℕ))
      → dims_of (map (extent_of sizes) p.extents) ≡ o
      → and_then (dims_or_fault p o) (λ dims. before dims rest) ≡ Ok extents → (j : ℕ) (q : Param) (dims : List ℕ)
      → slice_get (p ∷ ps) j ≡ Some q → slice_get extents j ≡ Some dims → length dims ≡ length q.extents
  first_counts sizes p ps extents rest f None e g j q dims a b = absurd (cc g)
  first_counts sizes p ps extents (Err x) f (Some d) e g j q dims a b = absurd (cc g)
  first_counts sizes p ps extents (Ok ys) f (Some d) e g zero q dims a b =
      let is : d ∷ ys ≡ extents = cc g in
      let same : p ≡ q = cc a in
      let own : d ≡ dims = some_same d dims (ap (λ l. slice_get l 0) is ∙ b) in
      ap length (sym own)
      ∙ (ap length (dims_are (map (extent_of sizes) p.extents) d e)
      ∙ (map_many _ (map (extent_of sizes) p.extents)
      ∙ (map_many (extent_of sizes) p.extents ∙ ap (λ (x : Param). length x.extents) same)))
  first_counts sizes p ps extents (Ok ys) f (Some d) e g (suc j) q dims a b =
      let is : d ∷ ys ≡ extents = cc g in
      f ys refl j q dims a (ap (λ l. slice_get l (suc j)) is ∙ b)

  entry_counts : (sizes : List SizeSet) (ps : List Param) (extents : List (List ℕ)) → entry_extents sizes ps
      ≡ Ok extents → (j : ℕ) (q : Param) (dims : List ℕ) → slice_get ps j ≡ Some q → slice_get extents j ≡ Some dims
      → length dims ≡ length q.extents
  entry_counts sizes [] extents h j q dims a b = absurd (cc a)
  entry_counts sizes (p ∷ ps) extents h j q dims a b =
      first_counts sizes p ps extents (entry_extents sizes ps) (λ ys k. entry_counts sizes ps ys k)
      (dims_of (map (extent_of sizes) p.extents)) refl h j q dims a b

  begun_good : (extents : List (List ℕ))
      → entry_extents mapping.sizes (entry_params program.tasks (slice_get mapping.instances mapping.entry))
      ≡ Ok extents → HasCounts (entry_form mapping.entry extents)
  begun_good extents h x v there runs j p dims a b =
      let params : entry_params program.tasks (slice_get mapping.instances mapping.entry) ≡ v.params
      = ap (entry_params program.tasks) there ∙ ap params_of runs in
      entry_counts mapping.sizes (entry_params program.tasks (slice_get mapping.instances mapping.entry)) extents h j p
      dims (ap (λ l. slice_get l j) params ∙ a) b

  pub forms_have_counts : (k : ℕ) (form : Key × Found) → slice_get r.found k ≡ Some form → HasCounts form.1
  forms_have_counts =
      each_good program levels mapping sound read r through HasCounts
      (λ k form there run here i c g. reached_good k form run here c (run.ran.reached i c g)) begun_good
