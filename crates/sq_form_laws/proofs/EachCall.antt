-- What the steps of a form keep, one construct at a time.
use Rattle.std.proofs.Common.{◌≡◌, ℕ, zero, suc, ◌+◌, List, [], ◌∷◌, ◌++◌, map, Option, Some, None, refl, sym, ◌∙◌, ap, subst}
use Rattle.std.specs.Prelude.{slice_get}
use Rattle.sq_text.specs.declared.place.Place.{Place}
use Rattle.sq_text.specs.declared.fault.Fault.{Fault}
use Rattle.sq_ast.specs.declared.stmt.Call.{Call}
use Rattle.sq_ast.specs.declared.stmt.Range.{Range}
use Rattle.sq_ast.specs.declared.stmt.MapKind.{MapKind}
use Rattle.sq_ast.specs.declared.stmt.Stmt.{Stmt, roll-Stmt}
use Rattle.sq_ast.specs.declared.stmt.Stmt.TheVariants as s
use Rattle.sq_ast.specs.declared.stmt.Stmt.TheOpen.{Stmt-F}
use Rattle.sq_ast.specs.declared.stmt.Stmt.TheFolds.{ind-Stmt, map-Stmt, fold-roll-Stmt}
use Rattle.sq_ast.specs.declared.program.Body.{Body}
use Rattle.sq_ast.specs.declared.program.Body.TheVariants as body
use Rattle.sq_blocks.specs.Names.{Numbers}
use Rattle.sq_forms.specs.Faults.{value_or}
use Rattle.sq_forms.specs.Steps.{Step, Part, Opens, Counts, Tests}
use Rattle.sq_forms.specs.Args.{Names, use_step, arguments, args_steps}
use Rattle.sq_forms.specs.Worlds.{Frame, Callee, callee_of}
use Rattle.sq_forms.specs.Calls.{CallSite, reached_steps, served_steps}
use Rattle.sq_forms.specs.Stmts.{Walked, Portion, portion, all_of, after_calls, each, opens, outermost, within, iteration_steps, map_steps, bounds, times_of, in_iteration}
use Rattle.sq_forms.specs.Decls.{Scope}
use Rattle.sq_forms.specs.Resolving.{body_steps, start}
use Rattle.sq_form_laws.specs.Reached.{concat, text_step, text_calls, body_calls}
use Rattle.sq_forms.proofs.OpenedStmt.{portion_call, portion_map}

-- ---- the calls of a text

pub text_call : (c : Call) → text_calls (s.Call c) ≡ c ∷ []
text_call c = ap text_calls (sym (s.rolls-Call c)) ∙ fold-roll-Stmt (List Call) text_step (Stmt-F.Call c)

pub text_map : (p : Place) (k : MapKind) (rs : List Range) (xs : List Stmt) → text_calls (s.Map p k rs xs) ≡ concat (map text_calls xs)
text_map p k rs xs = ap text_calls (sym (s.rolls-Map p k rs xs)) ∙ fold-roll-Stmt (List Call) text_step (Stmt-F.Map p k rs xs)

-- each of the calls
abbrev pub AllIn : (Call → Type 0) → List Call → Type 0
AllIn M [] = Unit {0}
AllIn M (c ∷ cs) = M c × AllIn M cs

pub all_front : (M : Call → Type 0) (cs ds : List Call) → AllIn M (cs ++ ds) → AllIn M cs
all_front M [] ds h = tt
all_front M (c ∷ cs) ds h = (h.0, all_front M cs ds h.1)

pub all_back : (M : Call → Type 0) (cs ds : List Call) → AllIn M (cs ++ ds) → AllIn M ds
all_back M [] ds h = h
all_back M (c ∷ cs) ds h = all_back M cs ds h.1

pub all_joined : (M : Call → Type 0) (cs ds : List Call) → AllIn M cs → AllIn M ds → AllIn M (cs ++ ds)
all_joined M [] ds g h = h
all_joined M (c ∷ cs) ds g h = (g.0, all_joined M cs ds g.1 h)

-- each call stands somewhere in the text
pub record InText (text : List Call) (c : Call) : Type 0 where
  pub position : ℕ
  pub among : slice_get text position ≡ Some c

further : (first : Call) (text : List Call) (cs : List Call) → AllIn (InText text) cs → AllIn (InText (first ∷ text)) cs
further first text [] h = tt
further first text (c ∷ cs) h = (record { position = suc h.0.position; among = h.0.among }, further first text cs h.1)

pub each_in_text : (text : List Call) → AllIn (InText text) text
each_in_text [] = tt
each_in_text (c ∷ text) = (record { position = 0; among = refl }, further c text text (each_in_text text))

-- ---- what steps keep

-- what holds of later steps holds of them with one more in front, and with those of a call that is served
pub record Kept (frame : Frame) (names : Names) (M : Call → Type 0) (F : List Step → Type 0) : Type 0 where
  pub opened : (l : List Step) → F l → F (Opens ∷ l)
  pub counted : (place : Place) (l : List Step) → F l → F (Counts place ∷ l)
  pub tested : (o : Option Fault) (l : List Step) → F l → F (Tests o ∷ l)
  pub served : (site : CallSite) (numbers : Numbers) (c : Call) (callee : Callee) (l : List Step) → M c → callee_of frame c.task ≡ Some callee → F l
      → F (args_steps site.outer names numbers site.reduced callee.params 0 c.args (reached_steps frame callee site c (arguments names numbers site.reduced callee.params 0 c.args) l))

module _ (frame : Frame) (names : Names) (M : Call → Type 0) (F : List Step → Type 0) (kept : Kept frame names M F) where
  abbrev Keeping : Part → Type 0
  Keeping part = (later : List Step) → F later → F (part later)

  pub used_keeps : (outer : Option Place) → Keeping (use_step outer)
  used_keeps None later h = h
  used_keeps (Some place) later h = kept.counted place later h

  opens_keep : (outer : Option Place) → Keeping (opens outer)
  opens_keep None later h = kept.opened later h
  opens_keep (Some outer) later h = h

  served_keeps : (site : CallSite) (numbers : Numbers) (c : Call) → M c → (o : Option Callee) → callee_of frame c.task ≡ o
      → Keeping (served_steps frame names site numbers c o)
  served_keeps site numbers c m None e later h = h
  served_keeps site numbers c m (Some callee) e later h = kept.served site numbers c callee later m e h

  each_keeps : (part : ℕ → Part) → ((t : ℕ) → Keeping (part t)) → (t n : ℕ) → Keeping (each t n part)
  each_keeps part p t zero later h = h
  each_keeps part p t (suc n) later h = p t (each (t + 1) n part later) (each_keeps part p (t + 1) n later h)

  abbrev Good : Walked → Type 0
  Good steps = (site : CallSite) (numbers : Numbers) → Keeping (steps frame names site numbers)

  abbrev AllGood : List Portion → Type 0
  AllGood [] = Unit {0}
  AllGood (p ∷ ps) = Good p.steps × AllGood ps

  all_keep : (ps : List Portion) → AllGood ps → Good (all_of ps)
  all_keep [] good site numbers later h = h
  all_keep (p ∷ ps) good site numbers later h =
      good.0 site numbers (all_of ps frame names (after_calls site p.calls) numbers later) (all_keep ps good.1 (after_calls site p.calls) numbers later h)

  map_keeps : (place : Place) (kind : MapKind) (ranges : List Range) (inner : Walked) → Good inner → Good (map_steps place kind ranges inner)
  map_keeps place kind ranges inner good site numbers later h =
      let ns = bounds ranges numbers names.lists in
      opens_keep site.outer _ (kept.tested _ _
      (each_keeps (iteration_steps (outermost site.outer place) (within site place kind) ranges inner (value_or [] ns) frame names numbers)
      (λ t l g. kept.counted (outermost site.outer place) (inner frame names (within site place kind t) (in_iteration ranges (value_or [] ns) t numbers) l) (good (within site place kind t) (in_iteration ranges (value_or [] ns) t numbers) l g)) 0 (times_of ns) later h))

  abbrev OfStmt : Stmt → Type 0
  OfStmt x = AllIn M (text_calls x) → Good (portion x).steps

  abbrev S : Type 0
  S = (x : Stmt) × OfStmt x

  goods : (xs : List S) → AllIn M (concat (map text_calls (map (λ (q : S). q.0) xs))) → AllGood (map portion (map (λ (q : S). q.0) xs))
  goods [] m = tt
  goods (x ∷ xs) m =
      let rest = concat (map text_calls (map (λ (q : S). q.0) xs)) in
      (x.1 (all_front M (text_calls x.0) rest m), goods xs (all_back M (text_calls x.0) rest m))

  abbrev GoodPortion : Portion → Type 0
  GoodPortion p = Good p.steps

  call_keeps : (c : Call) → OfStmt (s.Call c)
  call_keeps c m =
      let mc : AllIn M (c ∷ []) = subst (AllIn M) (text_call c) m in
      subst GoodPortion (sym (portion_call c)) (λ site numbers. served_keeps site numbers c mc.0 (callee_of frame c.task) refl)

  maps_keep : (p : Place) (k : MapKind) (rs : List Range) (xs : List S) → OfStmt (s.Map p k rs (map (λ (q : S). q.0) xs))
  maps_keep p k rs xs m =
      let ys = map (λ (q : S). q.0) xs in
      let ms : AllIn M (concat (map text_calls ys)) = subst (AllIn M) (text_map p k rs ys) m in
      subst GoodPortion (sym (portion_map p k rs ys)) (map_keeps p k rs (all_of (map portion ys)) (all_keep (map portion ys) (goods xs ms)))

  stmt_keeps : (y : Stmt-F S) → OfStmt (roll-Stmt (map-Stmt S Stmt (λ p. p.0) y))
  stmt_keeps (Stmt-F.Call c) = subst OfStmt (sym (s.rolls-Call c)) (call_keeps c)
  stmt_keeps (Stmt-F.Map p k rs xs) = subst OfStmt (sym (s.rolls-Map p k rs (map (λ (q : S). q.0) xs))) (maps_keep p k rs xs)

  of_stmt : (x : Stmt) → OfStmt x
  of_stmt = ind-Stmt OfStmt (λ x y is. subst (λ z. OfStmt (roll-Stmt z)) is (stmt_keeps y))

  all_good : (list : List Stmt) → AllIn M (concat (map text_calls list)) → AllGood (map portion list)
  all_good [] m = tt
  all_good (x ∷ rest) m =
      (of_stmt x (all_front M (text_calls x) (concat (map text_calls rest)) m), all_good rest (all_back M (text_calls x) (concat (map text_calls rest)) m))

  pub body_keeps : (b : Body) (scope : Scope) → names ≡ scope.names → AllIn M (body_calls b) → F [] → F (body_steps b frame scope)
  body_keeps (body.Inner list) scope e m none =
      subst (λ (n : Names). F (all_of (map portion list) frame n start scope.numbers [])) e (all_keep (map portion list) (all_good list m) start scope.numbers [] none)
  body_keeps (body.Leaf list) scope e m none = none
