-- The calls of a form, for the nodes at which its callees run, are those that its walk reached.
use Rattle.std.proofs.Common.{◌≡◌, ℕ, zero, suc, ◌+◌, List, [], ◌∷◌, ◌++◌, map, Option, Some, None, refl, sym, ◌∙◌, ap, subst, append_assoc, append-nil}
use Rattle.std.specs.Prelude.{slice_get}
use Rattle.std.specs.List.{flat_map, range_with_len}
use Rattle.sq_text.specs.declared.place.Place.{Place}
use Rattle.sq_text.specs.Names.{Bytes}
use Rattle.sq_ast.specs.declared.expr.ArgUse.{ArgUse}
use Rattle.sq_ast.specs.declared.stmt.Call.{Call}
use Rattle.sq_ast.specs.declared.stmt.Range.{Range}
use Rattle.sq_ast.specs.declared.stmt.MapKind.{MapKind}
use Rattle.sq_ast.specs.declared.stmt.Stmt.{Stmt, roll-Stmt}
use Rattle.sq_ast.specs.declared.stmt.Stmt.TheVariants as s
use Rattle.sq_ast.specs.declared.stmt.Stmt.TheOpen.{Stmt-F}
use Rattle.sq_ast.specs.declared.stmt.Stmt.TheFolds.{ind-Stmt, map-Stmt}
use Rattle.sq_ast.specs.declared.program.Param.{Param}
use Rattle.sq_ast.specs.declared.program.Body.{Body}
use Rattle.sq_ast.specs.declared.program.Body.TheVariants as body
use Rattle.sq_ast.specs.declared.program.Variant.{Variant}
use Rattle.sq_forms.specs.Mappings.declared.mapping.Instance.{Instance}
use Rattle.sq_blocks.specs.Names.{Numbers}
use Rattle.sq_forms.specs.declared.form.Found.{Found}
use Rattle.sq_forms.specs.Faults.{value_or}
use Rattle.sq_forms.specs.Steps.{Step, Part}
use Rattle.sq_forms.specs.Args.{Names, use_step, arguments, args_steps}
use Rattle.sq_forms.specs.Worlds.{Frame, Callee, callee_of}
use Rattle.sq_forms.specs.Calls.{CallSite, served_steps, reached_steps}
use Rattle.sq_forms.specs.Stmts.{Portion, portion, all_of, after_calls, calls_of, each, opens, outermost, within, iteration_steps, map_steps, bounds, times_of, in_iteration}
use Rattle.sq_forms.specs.Decls.{Scope, params_from, empty_scope}
use Rattle.sq_forms.specs.Resolving.{frame_in, body_steps, start, with_locals}
use Rattle.sq_spec.specs.FormLaws.Reached.{calls_in, steps_of}
use Rattle.sq_spec_laws.specs.Needs.{Turn, Reached, Reaching, reached_by, total_calls, any_lower, any_same, reached_in, is_spread, turn_in, reaching_step, reaching, reached_by_body, reached_where, reached_with, reached_of, reached_from, frame_at, variant_for, AreSame, CallsAreThoseReached}
use Rattle.sq_forms.proofs.OpenedStmt.{portion_call, portion_map}
use Rattle.sq_spec_laws.proofs.LevelsHold.{reaching_call, reaching_map}

-- ---- the calls among parts of steps

used_calls : (outer : Option Place) (later : List Step) → calls_in (use_step outer later) ≡ calls_in later
used_calls None later = refl
used_calls (Some place) later = refl

opens_calls : (outer : Option Place) (later : List Step) → calls_in (opens outer later) ≡ calls_in later
opens_calls None later = refl
opens_calls (Some outer) later = refl

args_calls : (outer : Option Place) (names : Names) (numbers : Numbers) (reduced : Option Bytes) (params : List Param) (i : ℕ) (list : List ArgUse) (later : List Step)
    → calls_in (args_steps outer names numbers reduced params i list later) ≡ calls_in later
args_calls outer names numbers reduced params i [] later = refl
args_calls outer names numbers reduced params i (a ∷ rest) later = used_calls outer _ ∙ args_calls outer names numbers reduced params (i + 1) rest later

module _ (variants : List Variant) (instances : List Instance) (x : Instance) (k : ℕ) (f : Found) (names : Names) where
  -- the form as it is walked, and as its calls are listed
  abbrev walked_ : Frame
  walked_ = frame_in variants instances x k f

  abbrev listed_ : Frame
  listed_ = frame_at variants instances x k

  -- the calls of steps are these, before those of later steps
  abbrev Agree : Part → List Reached → Type 0
  Agree part rs = (later : List Step) (qs : List Reached) → AreSame k (calls_in later) qs → AreSame k (calls_in (part later)) (rs ++ qs)

  call_agrees : (site : CallSite) (numbers : Numbers) (turn : Option Turn) (c : Call) (o : Option Callee)
      → Agree (served_steps walked_ names site numbers c o) (reached_by listed_ names site numbers turn c o)
  call_agrees site numbers turn c None later qs h = h
  call_agrees site numbers turn c (Some callee) later qs h =
      let xs = arguments names numbers site.reduced callee.params 0 c.args in
      subst (λ cs. AreSame k cs (reached_by listed_ names site numbers turn c (Some callee) ++ qs))
      (sym (args_calls site.outer names numbers site.reduced callee.params 0 c.args (reached_steps walked_ callee site c xs later)))
      (record { caller = refl; extents = refl; in_place = refl }, h)

  -- a portion and what it reaches
  record Pair (p : Portion) (q : Reaching) : Type 0 where
    calls : p.calls ≡ q.calls
    agrees : (site : CallSite) (numbers : Numbers) (turn : Option Turn) → Agree (p.steps walked_ names site numbers) (q.reached listed_ names site numbers turn)

  abbrev Pairs : List Portion → List Reaching → Type 0
  Pairs [] [] = Unit {0}
  Pairs [] (q ∷ qs) = ⊥
  Pairs (p ∷ ps) [] = ⊥
  Pairs (p ∷ ps) (q ∷ qs) = Pair p q × Pairs ps qs

  many_calls : (ps : List Portion) (qs : List Reaching) → Pairs ps qs → calls_of ps ≡ total_calls qs
  many_calls [] [] h = refl
  many_calls [] (q ∷ qs) h = absurd h
  many_calls (p ∷ ps) [] h = absurd h
  many_calls (p ∷ ps) (q ∷ qs) h = (λ i. h.0.calls i + many_calls ps qs h.1 i)

  all_agree : (ps : List Portion) (qs : List Reaching) → Pairs ps qs → (site : CallSite) (numbers : Numbers) (turn : Option Turn)
      → Agree (all_of ps walked_ names site numbers) (reached_in qs listed_ names site numbers turn)
  all_agree [] [] h site numbers turn later rs g = g
  all_agree [] (q ∷ qs) h site numbers turn later rs g = absurd h
  all_agree (p ∷ ps) [] h site numbers turn later rs g = absurd h
  all_agree (p ∷ ps) (q ∷ qs) h site numbers turn later rs g =
      let rest = reached_in qs listed_ names (after_calls site q.calls) numbers turn in
      let behind = all_agree ps qs h.1 (after_calls site q.calls) numbers turn later rs g in
      let moved : AreSame k (calls_in (all_of ps walked_ names (after_calls site p.calls) numbers later)) (rest ++ rs) =
      subst (λ n. AreSame k (calls_in (all_of ps walked_ names (after_calls site n) numbers later)) (rest ++ rs)) (sym h.0.calls) behind in
      subst (AreSame k (calls_in (all_of (p ∷ ps) walked_ names site numbers later))) (sym (append_assoc (q.reached listed_ names site numbers turn) rest rs))
      (h.0.agrees site numbers turn (all_of ps walked_ names (after_calls site p.calls) numbers later) (rest ++ rs) moved)

  each_agrees : (part : ℕ → Part) (g : ℕ → List Reached) → ((t : ℕ) → Agree (part t) (g t)) → (n t : ℕ) → Agree (each t n part) (flat_map g (range_with_len t n))
  each_agrees part g h zero t later rs e = e
  each_agrees part g h (suc n) t later rs e =
      let rest = flat_map g (range_with_len (t + 1) n) in
      subst (AreSame k (calls_in (each t (suc n) part later))) (sym (append_assoc (g t) rest rs))
      (h t (each (t + 1) n part later) (rest ++ rs) (each_agrees part g h n (t + 1) later rs e))

  map_agrees : (place : Place) (kind : MapKind) (ranges : List Range) (ps : List Portion) (qs : List Reaching) → Pairs ps qs → (site : CallSite) (numbers : Numbers) (turn : Option Turn)
      → Agree (map_steps place kind ranges (all_of ps) walked_ names site numbers) ((reaching_step (Stmt-F.Map place kind ranges qs)).reached listed_ names site numbers turn)
  map_agrees place kind ranges ps qs h site numbers turn later rs e =
      let ns = bounds ranges numbers names.lists in
      let spread = is_spread kind turn (any_lower qs listed_) (any_same qs listed_) in
      let outer = outermost site.outer place in
      let part : ℕ → Part = iteration_steps outer (within site place kind) ranges (all_of ps) (value_or [] ns) walked_ names numbers in
      let g : ℕ → List Reached = λ t. reached_in qs listed_ names (within site place kind t) (in_iteration ranges (value_or [] ns) t numbers) (turn_in spread turn (times_of ns) t) in
      subst (λ cs. AreSame k cs (flat_map g (range_with_len 0 (times_of ns)) ++ rs)) (sym (opens_calls site.outer _))
      (each_agrees part g
      (λ t l q a. all_agree ps qs h (within site place kind t) (in_iteration ranges (value_or [] ns) t numbers) (turn_in spread turn (times_of ns) t) l q a)
      (times_of ns) 0 later rs e)

  abbrev OfStmt : Stmt → Type 0
  OfStmt y = Pair (portion y) (reaching y)

  abbrev S : Type 0
  S = (y : Stmt) × OfStmt y

  pairs : (ys : List S) → Pairs (map portion (map (λ (q : S). q.0) ys)) (map reaching (map (λ (q : S). q.0) ys))
  pairs [] = tt
  pairs (y ∷ ys) = (y.1, pairs ys)

  call_pair : (c : Call) → OfStmt (s.Call c)
  call_pair c =
      let made : Pair (record { calls = 1; inside = 0; maps = []; steps = λ frame n site numbers. served_steps frame n site numbers c (callee_of frame c.task) }) (reaching_step (Stmt-F.Call c)) =
      record { calls = refl; agrees = λ site numbers turn. call_agrees site numbers turn c (callee_of walked_ c.task) } in
      subst (λ (p : Portion). Pair p (reaching (s.Call c))) (sym (portion_call c)) (subst (Pair _) (sym (reaching_call c)) made)

  map_pair : (place : Place) (kind : MapKind) (ranges : List Range) (ys : List S) → OfStmt (s.Map place kind ranges (map (λ (q : S). q.0) ys))
  map_pair place kind ranges ys =
      let list = map (λ (q : S). q.0) ys in
      let ps = map portion list in
      let qs = map reaching list in
      let h = pairs ys in
      subst (λ (p : Portion). Pair p (reaching (s.Map place kind ranges list))) (sym (portion_map place kind ranges list))
      (subst (Pair _) (sym (reaching_map place kind ranges list)) (record { calls = many_calls ps qs h; agrees = map_agrees place kind ranges ps qs h }))

  pair_step : (y : Stmt-F S) → OfStmt (roll-Stmt (map-Stmt S Stmt (λ p. p.0) y))
  pair_step (Stmt-F.Call c) = subst OfStmt (sym (s.rolls-Call c)) (call_pair c)
  pair_step (Stmt-F.Map p kind rs ys) = subst OfStmt (sym (s.rolls-Map p kind rs (map (λ (q : S). q.0) ys))) (map_pair p kind rs ys)

  pair_stmt : (y : Stmt) → OfStmt y
  pair_stmt = ind-Stmt OfStmt (λ y z is. subst (λ w. OfStmt (roll-Stmt w)) is (pair_step z))

  pair_stmts : (list : List Stmt) → Pairs (map portion list) (map reaching list)
  pair_stmts [] = tt
  pair_stmts (y ∷ list) = (pair_stmt y, pair_stmts list)

  -- all of a form's statements
  body_agrees : (b : Body) (scope : Scope) → names ≡ scope.names → AreSame k (calls_in (body_steps b walked_ scope)) (reached_by_body b listed_ scope)
  body_agrees (body.Inner list) scope e =
      let rs = reached_in (map reaching list) listed_ names start scope.numbers None in
      let all : AreSame k (calls_in (all_of (map portion list) walked_ names start scope.numbers [])) rs =
      subst (AreSame k (calls_in (all_of (map portion list) walked_ names start scope.numbers []))) (append-nil rs)
      (all_agree (map portion list) (map reaching list) (pair_stmts list) start scope.numbers None [] [] tt) in
      subst (λ (n : Names). AreSame k (calls_in (all_of (map portion list) walked_ n start scope.numbers [])) (reached_in (map reaching list) listed_ n start scope.numbers None)) e all
  body_agrees (body.Leaf list) scope e = tt

pub calls_are_those_reached : CallsAreThoseReached
calls_are_those_reached variants mapping r k f x v begun there runs binds ran =
    let instances = mapping.instances in
    let form = with_locals f ran.scope.locals in
    let frame = frame_at variants instances x k in
    let variant : variant_for variants (slice_get instances f.instance) ≡ Some v = ap (variant_for variants) there ∙ runs in
    let opened : reached_from variants instances k form ≡ reached_with frame x v (params_from empty_scope v.params 0 f.extents) = (λ i. reached_of variants instances k form (there i) (variant i)) in
    let found : reached_from variants instances k form ≡ reached_by_body v.body frame ran.scope =
    opened ∙ (ap (reached_with frame x v) binds ∙ ap (reached_where v.body frame) ran.declared) in
    subst (AreSame k (calls_in (steps_of variants instances x v k f ran.scope))) (sym found) (body_agrees variants instances x k f ran.scope.names v.body ran.scope refl)
