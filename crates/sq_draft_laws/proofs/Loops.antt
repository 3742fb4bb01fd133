-- Round each call of a form as many maps stand in its walk as in its text.
use Rattle.std.proofs.Common.{◌≡◌, ℕ, zero, suc, ◌+◌, List, [], ◌∷◌, ◌++◌, length, map, Option, Some, None, refl, sym}
use Rattle.std.proofs.Common.{ap, ap₂, ◌∙◌, subst, arith}
use Rattle.std.specs.Prelude.{slice_get}
use Rattle.sq_text.specs.Names.{Bytes}
use Rattle.sq_text.specs.declared.place.Place.{Place}
use Rattle.sq_ast.specs.declared.expr.ArgUse.{ArgUse}
use Rattle.sq_ast.specs.declared.program.Body.{Body}
use Rattle.sq_ast.specs.declared.program.Body.TheVariants as body
use Rattle.sq_ast.specs.declared.program.Param.{Param}
use Rattle.sq_ast.specs.declared.stmt.Call.{Call}
use Rattle.sq_ast.specs.declared.stmt.MapKind.{MapKind}
use Rattle.sq_ast.specs.declared.stmt.Range.{Range}
use Rattle.sq_ast.specs.declared.stmt.Stmt.{Stmt, roll-Stmt}
use Rattle.sq_ast.specs.declared.stmt.Stmt.TheVariants as s
use Rattle.sq_ast.specs.declared.stmt.Stmt.TheOpen.{Stmt-F}
use Rattle.sq_ast.specs.declared.stmt.Stmt.TheFolds.{fold-Stmt, fold-roll-Stmt, ind-Stmt, map-Stmt}
use Rattle.sq_blocks.specs.Names.{Numbers}
use Rattle.sq_blocks.specs.declared.argument.Argument.{Argument}
use Rattle.sq_forms.specs.declared.form.Caller.{Caller}
use Rattle.sq_forms.specs.Faults.{value_or}
use Rattle.sq_forms.specs.Args.{Names, use_step, arguments, args_steps}
use Rattle.sq_forms.specs.Calls.{CallSite, call_of, reached_steps, served_steps}
use Rattle.sq_forms.specs.Decls.{Scope}
use Rattle.sq_forms.specs.Resolving.{body_steps, start}
use Rattle.sq_forms.specs.Steps.{Step, Part, Called}
use Rattle.sq_forms.specs.Stmts.{Walked, Portion, portion, all_of, calls_of, after_calls, each, opens, outermost}
use Rattle.sq_forms.specs.Stmts.{within, iteration_steps, map_steps, bounds, times_of, in_iteration}
use Rattle.sq_forms.specs.Worlds.{Frame, Callee, callee_of}
use Rattle.sq_forms.proofs.OpenedStmt.{portion_call, portion_map}
use Rattle.sq_form_laws.proofs.Passing.{Everywhere}

-- ---- the maps round each call of a text

abbrev pub all_loops : List (ℕ → List ℕ) → ℕ → List ℕ
all_loops [] n = []
all_loops (f ∷ fs) n = f n ++ all_loops fs n

abbrev pub loops_step : Stmt-F (ℕ → List ℕ) → ℕ → List ℕ
loops_step (Stmt-F.Call c) n = n ∷ []
loops_step (Stmt-F.Map place kind ranges parts) n = all_loops parts (suc n)

-- in text order, where so many maps stand round the statement
abbrev pub loops_in : Stmt → ℕ → List ℕ
loops_in = fold-Stmt (ℕ → List ℕ) loops_step

abbrev pub loops_of : Body → List ℕ
loops_of (body.Inner list) = all_loops (map loops_in list) 0
loops_of (body.Leaf list) = []

pub loops_call : (c : Call) → loops_in (s.Call c) ≡ loops_step (Stmt-F.Call c)
loops_call c = ap loops_in (sym (s.rolls-Call c)) ∙ fold-roll-Stmt (ℕ → List ℕ) loops_step (Stmt-F.Call c)

pub loops_map : (p : Place) (k : MapKind) (rs : List Range) (xs : List Stmt) → loops_in (s.Map p k rs xs)
    ≡ loops_step (Stmt-F.Map p k rs (map loops_in xs))
loops_map p k rs xs = ap loops_in (sym (s.rolls-Map p k rs xs))
    ∙ fold-roll-Stmt (ℕ → List ℕ) loops_step (Stmt-F.Map p k rs xs)

-- ---- parts of a list

pub long_joined : {A : Type 0} (xs ys : List A) → length (xs ++ ys) ≡ length xs + length ys
long_joined [] ys = let e : 0 + length ys ≡ length ys = omega arith in sym e
long_joined (x ∷ xs) ys = let e = long_joined xs ys in omega (arith, e)

in_front : {A : Type 0} (xs ys : List A) (i : ℕ) (x : A) → slice_get xs i ≡ Some x → slice_get (xs ++ ys) i ≡ Some x
in_front [] ys i x h = absurd (cc h)
in_front (y ∷ xs) ys zero x h = h
in_front (y ∷ xs) ys (suc i) x h = in_front xs ys i x h

behind : {A : Type 0} (xs ys : List A) (i : ℕ) (x : A) → slice_get ys i ≡ Some x
    → slice_get (xs ++ ys) (length xs + i) ≡ Some x
behind [] ys i x h = let e : 0 + i ≡ i = omega arith in ap (slice_get ys) e ∙ h
behind (y ∷ xs) ys i x h = let e : suc (length xs) + i ≡ suc (length xs + i)
    = omega arith in ap (slice_get (y ∷ (xs ++ ys))) e ∙ behind xs ys i x h

-- ---- the walk

module _ (frame : Frame) (names : Names) (whole : List ℕ) where
  -- so many maps stand round the call of this number, and the form that is reached counts them
  pub record IsCounted (c : Called) (cl : Caller) : Type 0 where
    pub form : cl.form ≡ frame.form
    pub loops : ℕ
    pub there : slice_get whole cl.call ≡ Some loops
    pub maps : c.form.maps ≡ frame.maps + loops

  abbrev pub AreCounted : Called → Type 0
  AreCounted c = (cl : Caller) → c.form.caller ≡ Some cl → IsCounted c cl

  -- the part stands there in the whole
  abbrev Stands : ℕ → List ℕ → Type 0
  Stands at part = (i n : ℕ) → slice_get part i ≡ Some n → slice_get whole (at + i) ≡ Some n

  stands_front : (at : ℕ) (a b : List ℕ) → Stands at (a ++ b) → Stands at a
  stands_front at a b h i n e = h i n (in_front a b i n e)

  stands_behind : (at : ℕ) (a b : List ℕ) (many : ℕ) → length a ≡ many → Stands at (a ++ b) → Stands (at + many) b
  stands_behind at a b many l h i n e =
      let z : at + many + i ≡ at + (length a + i) = omega (arith, l) in
      ap (slice_get whole) z ∙ h (length a + i) n (behind a b i n e)

  abbrev Keeps : Part → Type 0
  Keeps part = (later : List Step) → Everywhere AreCounted later → Everywhere AreCounted (part later)

  abbrev Placed : Walked → (ℕ → List ℕ) → Type 0
  Placed steps part = (site : CallSite) (numbers : Numbers) → Stands site.call (part (length site.iterations))
      → Keeps (steps frame names site numbers)

  record Good (p : Portion) (part : ℕ → List ℕ) : Type 0 where
    many : (n : ℕ) → length (part n) ≡ p.calls
    placed : Placed p.steps part

  -- ---- a call

  use_keeps : (outer : Option Place) → Keeps (use_step outer)
  use_keeps None later h = h
  use_keeps (Some place) later h = h

  args_keep : (outer : Option Place) (numbers : Numbers) (reduced : Option Bytes) (params : List Param) (i : ℕ)
      (list : List ArgUse) → Keeps (args_steps outer names numbers reduced params i list)
  args_keep outer numbers reduced params i [] later h = h
  args_keep outer numbers reduced params i (a ∷ list) later h =
      use_keeps outer _ (args_keep outer numbers reduced params (i + 1) list later h)

  call_counted : (its : Callee) (site : CallSite) (c : Call) (xs : List Argument)
      → slice_get whole site.call ≡ Some (length site.iterations) → AreCounted (call_of frame its site c xs)
  call_counted its site c xs there cl e =
      let is : record { form = frame.form; call = site.call } ≡ cl = cc e in
      subst (λ (l : Caller). IsCounted (call_of frame its site c xs) l) is
      (record { form = refl; loops = length site.iterations; there = there; maps = refl })

  served_placed : (c : Call) (o : Option Callee) (site : CallSite) (numbers : Numbers)
      → slice_get whole site.call ≡ Some (length site.iterations) → Keeps (served_steps frame names site numbers c o)
  served_placed c None site numbers there later h = h
  served_placed c (Some its) site numbers there later h =
      let xs = arguments names numbers site.reduced its.params 0 c.args in
      args_keep site.outer numbers site.reduced its.params 0 c.args (reached_steps frame its site c xs later)
      (call_counted its site c xs there, h)

  call_good : (c : Call) → Good (portion (s.Call c)) (loops_in (s.Call c))
  call_good c = subst (λ (p : Portion). Good p (loops_in (s.Call c))) (sym (portion_call c))
      (subst (Good _) (sym (loops_call c)) (record {
        many = λ n. refl;
        placed = λ site numbers stands.
            let z : site.call ≡ site.call + 0 = omega arith in
            served_placed c (callee_of frame c.task) site numbers
            (ap (slice_get whole) z ∙ stands 0 (length site.iterations) refl);
      }))

  -- ---- statements

  abbrev OfStmt : Stmt → Type 0
  OfStmt x = Good (portion x) (loops_in x)

  abbrev S : Type 0
  S = (x : Stmt) × OfStmt x

  abbrev stmts : List S → List Stmt
  stmts = map (λ (q : S). q.0)

  all_many : (xs : List S) (n : ℕ) → length (all_loops (map loops_in (stmts xs)) n)
      ≡ calls_of (map portion (stmts xs))
  all_many [] n = refl
  all_many (x ∷ xs) n =
      long_joined (loops_in x.0 n) (all_loops (map loops_in (stmts xs)) n)
      ∙ ap₂ (λ (a b : ℕ). a + b) (x.1.many n) (all_many xs n)

  all_placed : (xs : List S) → Placed (all_of (map portion (stmts xs))) (all_loops (map loops_in (stmts xs)))
  all_placed [] site numbers stands later h = h
  all_placed (x ∷ xs) site numbers stands later h =
      let n = length site.iterations in
      let rest = all_loops (map loops_in (stmts xs)) n in
      x.1.placed site numbers (stands_front site.call (loops_in x.0 n) rest stands) _
      (all_placed xs (after_calls site (portion x.0).calls) numbers
      (stands_behind site.call (loops_in x.0 n) rest (portion x.0).calls (x.1.many n) stands) later h)

  -- ---- a map

  each_keeps : (part : ℕ → Part) → ((t : ℕ) → Keeps (part t)) → (t n : ℕ) → Keeps (each t n part)
  each_keeps part p t zero later h = h
  each_keeps part p t (suc n) later h = p t (each (t + 1) n part later) (each_keeps part p (t + 1) n later h)

  opens_keep : (outer : Option Place) → Keeps (opens outer)
  opens_keep None later h = h
  opens_keep (Some outer) later h = h

  one_longer : (xs : List ℕ) (x : ℕ) → length (xs ++ x ∷ []) ≡ suc (length xs)
  one_longer [] x = refl
  one_longer (y ∷ xs) x = ap suc (one_longer xs x)

  map_placed : (place : Place) (kind : MapKind) (ranges : List Range) (steps : Walked) (part : ℕ → List ℕ)
      → Placed steps part → Placed (map_steps place kind ranges steps) (λ n. part (suc n))
  map_placed place kind ranges steps part inside site numbers stands later h =
      let ns = bounds ranges numbers names.lists in
      opens_keep site.outer _
      (each_keeps (iteration_steps (outermost site.outer place) (within site place kind) ranges steps (value_or [] ns)
      frame names numbers)
      (λ t more g. inside (within site place kind t) (in_iteration ranges (value_or [] ns) t numbers)
      (subst (λ (m : ℕ). Stands site.call (part m)) (sym (one_longer site.iterations t)) stands) more g)
      0 (times_of ns) later h)

  map_good : (p : Place) (k : MapKind) (rs : List Range) (xs : List S) → OfStmt (s.Map p k rs (stmts xs))
  map_good p k rs xs =
      let ys = stmts xs in
      subst (λ (q : Portion). Good q (loops_in (s.Map p k rs ys))) (sym (portion_map p k rs ys))
      (subst (Good _) (sym (loops_map p k rs ys)) (record {
        many = λ n. all_many xs (suc n);
        placed = map_placed p k rs (all_of (map portion ys)) (all_loops (map loops_in ys)) (all_placed xs);
      }))

  good_step : (y : Stmt-F S) → OfStmt (roll-Stmt (map-Stmt S Stmt (λ p. p.0) y))
  good_step (Stmt-F.Call c) = subst OfStmt (sym (s.rolls-Call c)) (call_good c)
  good_step (Stmt-F.Map p k rs xs) = subst OfStmt (sym (s.rolls-Map p k rs (stmts xs))) (map_good p k rs xs)

  good_stmt : (x : Stmt) → OfStmt x
  good_stmt = ind-Stmt OfStmt (λ x y is. subst (λ z. OfStmt (roll-Stmt z)) is (good_step y))

  abbrev known : List Stmt → List S
  known [] = []
  known (x ∷ xs) = (x, good_stmt x) ∷ known xs

  known_are : (xs : List Stmt) → stmts (known xs) ≡ xs
  known_are [] = refl
  known_are (x ∷ xs) = ap (λ ys. x ∷ ys) (known_are xs)

  list_placed : (list : List Stmt) → Placed (all_of (map portion list)) (all_loops (map loops_in list))
  list_placed list = subst (λ ys. Placed (all_of (map portion ys)) (all_loops (map loops_in ys))) (known_are list)
      (all_placed (known list))

-- as many loops as calls
pub loops_many : (frame : Frame) (names : Names) (x : Stmt) (n : ℕ) → length (loops_in x n) ≡ (portion x).calls
loops_many frame names x n = (good_stmt frame names [] x).many n

-- each call among the steps of a form
pub calls_are_counted : (b : Body) (frame : Frame) (scope : Scope)
    → Everywhere (AreCounted frame scope.names (loops_of b)) (body_steps b frame scope)
calls_are_counted (body.Inner list) frame scope =
    list_placed frame scope.names (all_loops (map loops_in list) 0) list start scope.numbers
    (λ i n e. let z : 0 + i ≡ i = omega arith in ap (slice_get (all_loops (map loops_in list) 0)) z ∙ e) [] tt
calls_are_counted (body.Leaf list) frame scope = tt
