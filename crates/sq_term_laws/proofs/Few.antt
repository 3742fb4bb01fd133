-- No map's body is begun more often than an outermost map has uses.
use Rattle.std.proofs.Common.{◌≡◌, ℕ, zero, suc, ◌+◌, ◌≤◌, List, [], ◌∷◌, ◌++◌, map, length, slice_get, Option, Some}
use Rattle.std.proofs.Common.{None, Ok}
use Rattle.std.proofs.Common.{refl, sym, ap, subst, arith, ◌⊎◌, inl, inr, ⊎_elim}
use Rattle.sq_text.specs.declared.place.Place.{Place}
use Rattle.sq_text.specs.declared.fault.Fault.{Fault}
use Rattle.sq_text.specs.declared.code.Code.TheVariants as code
use Rattle.sq_text.specs.Names.{Bytes}
use Rattle.sq_ast.specs.declared.program.Param.{Param}
use Rattle.sq_ast.specs.declared.expr.ArgUse.{ArgUse}
use Rattle.sq_ast.specs.declared.stmt.Call.{Call as CallStmt}
use Rattle.sq_ast.specs.declared.stmt.Range.{Range}
use Rattle.sq_ast.specs.declared.stmt.MapKind.{MapKind}
use Rattle.sq_ast.specs.declared.stmt.Stmt.{Stmt, roll-Stmt}
use Rattle.sq_ast.specs.declared.stmt.Stmt.TheVariants as s
use Rattle.sq_ast.specs.declared.stmt.Stmt.TheOpen.{Stmt-F}
use Rattle.sq_ast.specs.declared.stmt.Stmt.TheFolds.{ind-Stmt, map-Stmt}
use Rattle.sq_blocks.specs.Names.{Numbers}
use Rattle.sq_blocks.specs.declared.argument.Argument.{Argument}
use Rattle.sq_forms.specs.Faults.{and_then, fault_in, value_or}
use Rattle.sq_forms.specs.Steps.{Step, State, Part, Called, Counts, Tests, Calls, run, after_count}
use Rattle.sq_forms.specs.Steps.{after_entry, number_of, most_uses}
use Rattle.sq_forms.specs.Args.{Names, use_step, argument, arguments, args_steps}
use Rattle.sq_forms.specs.Worlds.{Frame, Callee, callee_of}
use Rattle.sq_forms.specs.Calls.{CallSite, fault_of_arg, shape_from, alias_from, depth_fault, call_of, reached_steps}
use Rattle.sq_forms.specs.Calls.{served_steps}
use Rattle.sq_forms.specs.Stmts.{Walked, Portion, portion, all_of, after_calls, each, outermost, within}
use Rattle.sq_forms.specs.Stmts.{iteration_steps}
use Rattle.sq_forms.specs.Stmts.{opens, iterations_steps, map_steps, bounds, times_of, in_iteration}
use Rattle.sq_forms.specs.Resolving.{start}
use Rattle.sq_forms.proofs.OpenedStmt.{portion_call, portion_map}
use Rattle.sq_spec.specs.Statements.{over, iteration_points}
use Rattle.sq_term_laws.specs.Begun.{Nest, joined, nests_of, times_begun, AreFew}
use Rattle.sq_term_laws.specs.Few.{RunsAreFew}
use Rattle.sq_term_laws.proofs.Begun.{nests_call, nests_map}

-- ---- what a part of the walk uses up

-- the run comes to what is behind the part, with so many uses less at least
record Reach (s t : State) (later : List Step) (n : ℕ) : Type 0 where
  mid : State
  runs : run mid later ≡ Ok t
  less : mid.left + n ≤ s.left

abbrev Costs : Part → ℕ → Type 0
Costs p n = (s t : State) (later : List Step) → run s (p later) ≡ Ok t → Reach s t later n

nothing_cost : Costs (λ l. l) 0
nothing_cost s t later h = record { mid = s; runs = h; less = omega arith }

counts_cost : (place : Place) → Costs (λ l. Counts place ∷ l) 1
counts_cost place s t later h = go s.left refl h
  where
    go : (n : ℕ) → s.left ≡ n → and_then (after_count s place n) (λ u. run u later) ≡ Ok t → Reach s t later 1
    go zero e g = absurd (cc g)
    go (suc n) e g = record {
      mid = record { left = n; forms = s.forms; uses = s.uses };
      runs = g;
      less = omega
          (arith, e);
    }

tests_cost : (o : Option Fault) → Costs (λ l. Tests o ∷ l) 0
tests_cost None s t later h = record { mid = s; runs = h; less = omega arith }
tests_cost (Some f) s t later h = absurd (cc h)

calls_cost : (c : Called) → Costs (λ l. Calls c ∷ l) 0
calls_cost c s t later h = go (number_of s.forms c.key) h
  where
    go : (o : Option ℕ) → and_then (after_entry s c o) (λ u. run u later) ≡ Ok t → Reach s t later 0
    go None g = absurd (cc g)
    go (Some n) g = record { mid = _; runs = g; less = omega arith }

at_least : (p : Part) (m n : ℕ) → m ≤ n → Costs p n → Costs p m
at_least p m n le c s t later h = let x = c s t later h in let l
    = x.less in record { mid = x.mid; runs = x.runs; less = omega (arith, l, le) }

then_cost : (p q : Part) (m n : ℕ) → Costs p m → Costs q n → Costs (λ l. p (q l)) (m + n)
then_cost p q m n a b s t later h =
    let x = a s t (q later) h in
    let y = b x.mid t later x.runs in
    let l = x.less in
    let k = y.less in
    record { mid = y.mid; runs = y.runs; less = omega (arith, l, k) }

both_free : (p q : Part) → Costs p 0 → Costs q 0 → Costs (λ l. p (q l)) 0
both_free p q a b = at_least (λ l. p (q l)) 0 (0 + 0) (omega arith) (then_cost p q 0 0 a b)

tested : (o : Option Fault) (q : Part) → Costs q 0 → Costs (λ l. Tests o ∷ q l) 0
tested o q c = both_free (λ l. Tests o ∷ l) q (tests_cost o) c

use_cost : (outer : Option Place) → Costs (use_step outer) 0
use_cost None = nothing_cost
use_cost (Some place) = at_least (λ l. Counts place ∷ l) 0 1 (omega arith) (counts_cost place)

args_cost : (outer : Option Place) (names : Names) (numbers : Numbers) (reduced : Option Bytes) (params : List Param)
    (i : ℕ) (args : List ArgUse)
    → Costs (args_steps outer names numbers reduced params i args) 0
args_cost outer names numbers reduced params i [] = nothing_cost
args_cost outer names numbers reduced params i (a ∷ rest) =
    let o = fault_in (argument names numbers reduced (slice_get params i) a) in
    let q = args_steps outer names numbers reduced params (i + 1) rest in
    both_free (use_step outer) (λ l. Tests o ∷ q l) (use_cost outer)
    (tested o q (args_cost outer names numbers reduced params (i + 1) rest))

reached_cost : (frame : Frame) (callee : Callee) (site : CallSite) (c : CallStmt) (xs : List Argument)
    → Costs (reached_steps frame callee site c xs) 0
reached_cost frame callee site c xs =
    let shape = fault_of_arg code.Shape c.args (shape_from 0 [] callee.params xs) in
    let alias = fault_of_arg code.Alias c.args (alias_from 0 [] xs) in
    let depth = depth_fault frame site c in
    let reached = call_of frame callee site c xs in
    tested shape (λ l. Tests alias ∷ Tests depth ∷ Calls reached ∷ l)
    (tested alias (λ l. Tests depth ∷ Calls reached ∷ l) (tested depth (λ l. Calls reached ∷ l) (calls_cost reached)))

served_cost : (frame : Frame) (names : Names) (site : CallSite) (numbers : Numbers) (c : CallStmt) (o : Option Callee)
    → Costs (served_steps frame names site numbers c o) 0
served_cost frame names site numbers c None = nothing_cost
served_cost frame names site numbers c (Some callee) =
    both_free (args_steps site.outer names numbers site.reduced callee.params 0 c.args)
    (reached_steps frame callee site c (arguments names numbers site.reduced callee.params 0 c.args))
    (args_cost site.outer names numbers site.reduced callee.params 0 c.args)
    (reached_cost frame callee site c (arguments names numbers site.reduced callee.params 0 c.args))

length_joined : {A : Type 0} (xs ys : List A) → length (xs ++ ys) ≡ length xs + length ys
length_joined [] ys = omega arith
length_joined (x ∷ xs) ys = let e = length_joined xs ys in omega (arith, e)

each_cost : (part : ℕ → Part) (f : ℕ → List Numbers) → ((i : ℕ) → Costs (part i) (length (f i))) → (t n : ℕ)
    → Costs (each t n part) (length (over t n f))
each_cost part f c t zero = nothing_cost
each_cost part f c t (suc n) =
    subst (Costs (each t (suc n) part)) (sym (length_joined (f t) (over (t + 1) n f)))
    (then_cost (part t) (each (t + 1) n part) (length (f t)) (length (over (t + 1) n f)) (c t)
    (each_cost part f c (t + 1) n))

-- ---- nests among others

abbrev IsOf : Nest → List Nest → Type 0
IsOf n [] = ⊥
IsOf n (x ∷ xs) = (x ≡ n) ⊎ IsOf n xs

of_joined : (n : Nest) (xs ys : List Nest) → IsOf n (xs ++ ys) → IsOf n xs ⊎ IsOf n ys
of_joined n [] ys h = inr h
of_joined n (x ∷ xs) ys (inl e) = inl (inl e)
of_joined n (x ∷ xs) ys (inr h) = ⊎_elim (λ g. inl (inr g)) (λ g. inr g) (of_joined n xs ys h)

of_deeper : (rs : List Range) (n : Nest) (ms : List Nest) → IsOf n (map (λ m. rs ∷ m) ms) → (m : Nest) × IsOf m ms
    × (rs ∷ m ≡ n)
of_deeper rs n [] h = absurd h
of_deeper rs n (m ∷ ms) (inl e) = (m, inl refl, e)
of_deeper rs n (m ∷ ms) (inr h) = let r = of_deeper rs n ms h in (r.0, inr r.1, r.2)

-- ---- in a map

module _ (frame : Frame) (names : Names) where
  abbrev times : Numbers → Nest → ℕ
  times = times_begun names

  abbrev Inner : Walked → List Nest → Type 0
  Inner w ns = (site : CallSite) (o : Place) → site.outer ≡ Some o → (numbers : Numbers)
      → Costs (w frame names site numbers) 0
      × ((n : Nest) → IsOf n ns → Costs (w frame names site numbers) (times numbers n))

  abbrev InMap : Stmt → Type 0
  InMap x = Inner (portion x).steps (nests_of x)

  abbrev S : Type 0
  S = (x : Stmt) × InMap x

  abbrev stmts : List S → List Stmt
  stmts = map (λ (q : S). q.0)

  all_inner : (xs : List S) → Inner (all_of (map portion (stmts xs))) (joined (map nests_of (stmts xs)))
  all_inner [] site o e numbers = (nothing_cost, λ n h. absurd h)
  all_inner (x ∷ xs) site o e numbers =
      let first = x.1 site o e numbers in
      let rest = all_inner xs (after_calls site (portion x.0).calls) o e numbers in
      let p = (portion x.0).steps frame names site numbers in
      let q = all_of (map portion (stmts xs)) frame names (after_calls site (portion x.0).calls) numbers in (
        both_free p q first.0 rest.0,
        λ n h. ⊎_elim
            (λ g. at_least (λ l. p (q l)) (times numbers n) (times numbers n + 0) (omega arith)
            (then_cost p q (times numbers n) 0 (first.1 n g) rest.0))
            (λ g. at_least (λ l. p (q l)) (times numbers n) (0 + times numbers n) (omega arith)
            (then_cost p q 0 (times numbers n) first.0 (rest.1 n g)))
            (of_joined n (nests_of x.0) (joined (map nests_of (stmts xs))) h),
      )

  -- the iterations of a map
  module _ (place : Place) (kind : MapKind) (rs : List Range) (xs : List S) (site : CallSite) (numbers : Numbers) where
    abbrev walked : Walked
    walked = all_of (map portion (stmts xs))

    abbrev nests : List Nest
    nests = joined (map nests_of (stmts xs))

    abbrev inside : ℕ → CallSite
    inside = within site place kind

    abbrev turned : ℕ → Numbers
    turned t = in_iteration rs (value_or [] (bounds rs numbers names.lists)) t numbers

    abbrev body : ℕ → Part
    body t = walked frame names (inside t) (turned t)

    abbrev iteration : ℕ → Part
    iteration = iteration_steps (outermost site.outer place) inside rs walked
        (value_or [] (bounds rs numbers names.lists)) frame names numbers

    abbrev whole : Part
    whole = iterations_steps (outermost site.outer place) inside rs walked (bounds rs numbers names.lists) frame names
        numbers

    one_more : (t : ℕ) (n : ℕ) → Costs (body t) n → Costs (iteration t) (1 + n)
    one_more t n c = then_cost (λ l. Counts (outermost site.outer place) ∷ l) (body t) 1 n
        (counts_cost (outermost site.outer place)) c

    its_inner : (t : ℕ) → Costs (body t) 0 × ((n : Nest) → IsOf n nests → Costs (body t) (times (turned t) n))
    its_inner t = all_inner xs (inside t) (outermost site.outer place) refl (turned t)

    iteration_cost : (m : Nest) → IsOf m ([] ∷ nests) → (t : ℕ) → Costs (iteration t) (times (turned t) m)
    iteration_cost m (inl e) t =
        subst (λ z. Costs (iteration t) (times (turned t) z)) e
        (at_least (iteration t) (times (turned t) []) (1 + 0) (omega arith) (one_more t 0 (its_inner t).0))
    iteration_cost m (inr h) t = at_least (iteration t) (times (turned t) m) (1 + times (turned t) m) (omega arith)
        (one_more t (times (turned t) m) ((its_inner t).1 m h))

    whole_cost : (n : Nest) → IsOf n (map (λ m. rs ∷ m) ([] ∷ nests)) → Costs whole (times numbers n)
    whole_cost n h =
        let d = of_deeper rs n ([] ∷ nests) h in
        let f : ℕ → List Numbers = λ t. iteration_points d.0 names.lists (turned t) in
        let all = each_cost iteration f (iteration_cost d.0 d.1) 0 (times_of (bounds rs numbers names.lists)) in
        subst (λ z. Costs whole (times numbers z)) d.2
        (at_least whole (times numbers (rs ∷ d.0)) (0 + times numbers (rs ∷ d.0)) (omega arith)
        (then_cost (λ l. Tests (fault_in (bounds rs numbers names.lists)) ∷ l)
        (each 0 (times_of (bounds rs numbers names.lists)) iteration) 0 (times numbers (rs ∷ d.0))
        (tests_cost (fault_in (bounds rs numbers names.lists))) all))

    whole_free : Costs whole 0
    whole_free = at_least whole 0 (times numbers (rs ∷ [])) (omega arith) (whole_cost (rs ∷ []) (inl refl))

  inner_call : (c : CallStmt) → InMap (s.Call c)
  inner_call c =
      subst (λ (ns : List Nest). Inner (portion (s.Call c)).steps ns) (sym (nests_call c))
      (subst (λ (p : Portion). Inner p.steps []) (sym (portion_call c))
      (λ site o e numbers. (served_cost frame names site numbers c (callee_of frame c.task), λ n h. absurd h)))

  -- in a map no further one is outermost
  inner_at : (p : Place) (kind : MapKind) (rs : List Range) (xs : List S) (site : CallSite) (o : Place) → site.outer
      ≡ Some o → (numbers : Numbers)
      → Costs (map_steps p kind rs (all_of (map portion (stmts xs))) frame names site numbers) 0
      × ((n : Nest) → IsOf n (map (λ m. rs ∷ m) ([] ∷ joined (map nests_of (stmts xs))))
      → Costs (map_steps p kind rs (all_of (map portion (stmts xs))) frame names site numbers) (times numbers n))
  inner_at p kind rs xs site o e numbers = (
    subst (λ (y : Option Place). Costs (λ l. opens y (whole p kind rs xs site numbers l)) 0) (sym e)
        (whole_free p kind rs xs site numbers),
    λ n h. subst (λ (y : Option Place). Costs (λ l. opens y (whole p kind rs xs site numbers l)) (times numbers n))
        (sym e) (whole_cost p kind rs xs site numbers n h),
  )

  inner_map : (p : Place) (kind : MapKind) (rs : List Range) (xs : List S) → InMap (s.Map p kind rs (stmts xs))
  inner_map p kind rs xs =
      subst (λ (ns : List Nest). Inner (portion (s.Map p kind rs (stmts xs))).steps ns)
      (sym (nests_map p kind rs (stmts xs)))
      (subst (λ (q : Portion). Inner q.steps (map (λ m. rs ∷ m) ([] ∷ joined (map nests_of (stmts xs)))))
      (sym (portion_map p kind rs (stmts xs)))
      (inner_at p kind rs xs))

  inner_step : (y : Stmt-F S) → InMap (roll-Stmt (map-Stmt S Stmt (λ p. p.0) y))
  inner_step (Stmt-F.Call c) = subst InMap (sym (s.rolls-Call c)) (inner_call c)
  inner_step (Stmt-F.Map p kind rs xs) = subst InMap (sym (s.rolls-Map p kind rs (stmts xs))) (inner_map p kind rs xs)

  inner_stmt : (x : Stmt) → InMap x
  inner_stmt = ind-Stmt InMap (λ x y is. subst (λ z. InMap (roll-Stmt z)) is (inner_step y))

  abbrev known : List Stmt → List S
  known [] = []
  known (x ∷ xs) = (x, inner_stmt x) ∷ known xs

  known_are : (xs : List Stmt) → stmts (known xs) ≡ xs
  known_are [] = refl
  known_are (x ∷ xs) = ap (λ ys. x ∷ ys) (known_are xs)

  -- ---- in no map

  abbrev Top : Walked → List Nest → Type 0
  Top w ns = (site : CallSite) → site.outer ≡ None → (numbers : Numbers) (s t : State) (later : List Step)
      → run s (w frame names site numbers later) ≡ Ok t
      → (mid : State) × (run mid later ≡ Ok t) × ((n : Nest) → IsOf n ns → times numbers n ≤ most_uses)

  abbrev OnTop : Stmt → Type 0
  OnTop x = Top (portion x).steps (nests_of x)

  top_call : (c : CallStmt) → OnTop (s.Call c)
  top_call c =
      subst (λ (ns : List Nest). Top (portion (s.Call c)).steps ns) (sym (nests_call c))
      (subst (λ (p : Portion). Top p.steps []) (sym (portion_call c)) (λ site e numbers s t later h.
      let r = served_cost frame names site numbers c (callee_of frame c.task) s t later h in
      (r.mid, r.runs, λ n g. absurd g)))

  abbrev fresh : State → State
  fresh s = record { left = most_uses; forms = s.forms; uses = s.uses }

  top_at : (p : Place) (kind : MapKind) (rs : List Range) (xs : List S)
      → Top (map_steps p kind rs (all_of (map portion (stmts xs))))
      (map (λ m. rs ∷ m) ([] ∷ joined (map nests_of (stmts xs))))
  top_at p kind rs xs site e numbers s t later h =
      let g : run (fresh s) (whole p kind rs xs site numbers later) ≡ Ok t
      = subst (λ (y : Option Place). run s (opens y (whole p kind rs xs site numbers later)) ≡ Ok t) e h in
      let r = whole_free p kind rs xs site numbers (fresh s) t later g in (
        r.mid,
        r.runs,
        λ n i. let x = whole_cost p kind rs xs site numbers n i (fresh s) t later g in let l
            = x.less in omega (arith, l),
      )

  top_map : (p : Place) (kind : MapKind) (rs : List Range) (xs : List Stmt) → OnTop (s.Map p kind rs xs)
  top_map p kind rs xs =
      subst (λ (ns : List Nest). Top (portion (s.Map p kind rs xs)).steps ns) (sym (nests_map p kind rs xs))
      (subst (λ (q : Portion). Top q.steps (map (λ m. rs ∷ m) ([] ∷ joined (map nests_of xs))))
      (sym (portion_map p kind rs xs))
      (subst (λ ys. Top (map_steps p kind rs (all_of (map portion ys)))
      (map (λ m. rs ∷ m) ([] ∷ joined (map nests_of ys)))) (known_are xs) (top_at p kind rs (known xs))))

  abbrev W : Type 0
  W = (x : Stmt) × OnTop x

  top_step : (y : Stmt-F W) → OnTop (roll-Stmt (map-Stmt W Stmt (λ p. p.0) y))
  top_step (Stmt-F.Call c) = subst OnTop (sym (s.rolls-Call c)) (top_call c)
  top_step (Stmt-F.Map p kind rs xs)
      = subst OnTop (sym (s.rolls-Map p kind rs (map (λ (q : W). q.0) xs)))
      (top_map p kind rs (map (λ (q : W). q.0) xs))

  top_stmt : (x : Stmt) → OnTop x
  top_stmt = ind-Stmt OnTop (λ x y is. subst (λ z. OnTop (roll-Stmt z)) is (top_step y))

  top_all : (xs : List Stmt) → Top (all_of (map portion xs)) (joined (map nests_of xs))
  top_all [] site e numbers s t later h = (s, h, λ n g. absurd g)
  top_all (x ∷ xs) site e numbers s t later h =
      let first = top_stmt x site e numbers s t
      (all_of (map portion xs) frame names (after_calls site (portion x).calls) numbers later) h in
      let rest = top_all xs (after_calls site (portion x).calls) e numbers first.0 t later first.1 in
      (rest.0, rest.1, λ n g. ⊎_elim (first.2 n) (rest.2 n) (of_joined n (nests_of x) (joined (map nests_of xs)) g))

few_of : (most : ℕ) (names : Names) (numbers : Numbers) (ns : List Nest)
    → ((n : Nest) → IsOf n ns → times_begun names numbers n ≤ most) → AreFew most names numbers [] ns
few_of most names numbers [] h = tt
few_of most names numbers (n ∷ ns) h = (h n (inl refl), few_of most names numbers ns (λ m g. h m (inr g)))

pub runs_are_few : RunsAreFew
runs_are_few frame scope list s t h =
    few_of most_uses scope.names scope.numbers (joined (map nests_of list))
    (top_all frame scope.names list start refl scope.numbers s t [] h).2
