-- The tables of a form's statements have a row for each time.
use Rattle.std.proofs.Common.{◌≡◌, ℕ, zero, suc, arith, ◌+◌, ◌<◌, ◌==◌, Bool, true, List, [], ◌∷◌, ◌++◌, map, get_or, slice_get, Option, Some, None, is_some, refl, sym, ap, ◌∙◌, subst}
use Rattle.std.specs.Prelude.{◌&&◌, IsSome}
use Rattle.sq_num.specs.declared.Elem.{Elem}
use Rattle.sq_text.specs.declared.place.Place.{Place}
use Rattle.sq_text.specs.Names.{Bytes}
use Rattle.sq_ast.specs.declared.program.Body.{Body}
use Rattle.sq_ast.specs.declared.stmt.Call.{Call as CallStmt}
use Rattle.sq_ast.specs.declared.stmt.Range.{Range}
use Rattle.sq_ast.specs.declared.stmt.MapKind.{MapKind}
use Rattle.sq_ast.specs.declared.stmt.Stmt.{Stmt, roll-Stmt}
use Rattle.sq_ast.specs.declared.stmt.Stmt.TheVariants as s
use Rattle.sq_ast.specs.declared.stmt.Stmt.TheOpen.{Stmt-F}
use Rattle.sq_ast.specs.declared.stmt.Stmt.TheFolds.{ind-Stmt, map-Stmt}
use Rattle.sq_blocks.specs.Names.{Numbers}
use Rattle.sq_spec.specs.declared.statement.LoopKind.{LoopKind}
use Rattle.sq_spec.specs.declared.statement.CallInstance.{CallInstance}
use Rattle.sq_spec.specs.declared.statement.Statement.{Statement}
use Rattle.sq_spec.specs.declared.statement.Statement.TheVariants as b
use Rattle.sq_spec.specs.declared.statement.Statement.TheOpen.{Statement-F}
use Rattle.sq_spec.specs.declared.statement.Statement.TheFolds.{fold-roll-Statement}
use Rattle.sq_forms.specs.Steps.{Forms}
use Rattle.sq_forms.specs.Args.{Names}
use Rattle.sq_forms.specs.Worlds.{Frame, Callee, callee_of}
use Rattle.sq_forms.specs.Stmts.{reduced_by}
use Rattle.sq_spec.specs.Statements.{starts_from, iteration_points, count_at, count_rows, call_instance, loop_kind_of, StatementTable, all_of, call_table, table_of}
use Rattle.sq_spec_laws.specs.Filled.{all_below, all_filled, filled_step, filled, ServedAreFull, TablesAreFull}
use Rattle.sq_spec.specs.FormLaws.Reached.{concat, text_calls, body_calls}
use Rattle.sq_forms.specs.Resolving.{frame_in}
use Rattle.sq_spec.proofs.FormLaws.EachCall.{AllIn, all_front, all_back, text_call, text_map}
use Rattle.sq_spec.proofs.OpenedStatement.{table_of_call, table_of_map}
use Rattle.sq_spec.proofs.Rows.{row_kept, rows_kept, begun_before, slice_get_map, get_or_map, inner_at}
use Rattle.sq_spec.proofs.FormLaws.ServedHold.{calls_are_served}
use Rattle.sq_spec.proofs.TablesMean.{turn, iteration_points_deeper, first_start}

both_true : (a c : Bool) → a ≡ true → c ≡ true → (a && c) ≡ true
both_true a c p q = (λ i. p i && q i)

below_true : (n : ℕ) (f : ℕ → Bool) → ((t : ℕ) → t < n → f t ≡ true) → all_below n f ≡ true
below_true zero f h = refl
below_true (suc n) f h = both_true (f n) (all_below n f) (h n (omega arith)) (below_true n f (λ t lt. h t (omega (arith, lt))))

filled_call : (lower : Bool) (times : List CallInstance) → filled (b.Call lower times) ≡ filled_step (Statement-F.Call lower times)
filled_call lower times = ap filled (sym (b.rolls-Call lower times)) ∙ fold-roll-Statement (ℕ → Bool) filled_step (Statement-F.Call lower times)

filled_map : (place : Place) (m : LoopKind) (counts starts : List ℕ) (body : List Statement) → filled (b.Map place m counts starts body)
    ≡ filled_step (Statement-F.Map place m counts starts (map filled body))
filled_map place m counts starts body = ap filled (sym (b.rolls-Map place m counts starts body))
    ∙ fold-roll-Statement (ℕ → Bool) filled_step (Statement-F.Map place m counts starts body)

module _ (forms : Forms) (frame : Frame) (names : Names) (elems : List Elem) (numbers : Numbers) where
  abbrev table : Stmt → StatementTable
  table = table_of forms frame names elems numbers

  -- an instance serves the call
  abbrev Served : CallStmt → Type 0
  Served c = IsSome (callee_of frame c.task)

  abbrev Full : StatementTable → Type 0
  Full t = (call : ℕ) (reduced : Option Bytes) (nest : List (List Range)) (k : ℕ) (e : Numbers) → slice_get (iteration_points nest names.lists numbers) k ≡ Some e
      → filled (t.table call reduced nest) k ≡ true

  abbrev OfStmt : Stmt → Type 0
  OfStmt x = AllIn Served (text_calls x) → Full (table x)

  abbrev S : Type 0
  S = (x : Stmt) × OfStmt x

  abbrev stmts : List S → List Stmt
  stmts = map (λ (q : S). q.0)

  all_full : (xs : List S) → AllIn Served (concat (map text_calls (stmts xs))) → (call : ℕ) (reduced : Option Bytes) (nest : List (List Range)) (k : ℕ) (e : Numbers)
      → slice_get (iteration_points nest names.lists numbers) k ≡ Some e → all_filled (map filled (all_of (map table (stmts xs)) call reduced nest)) k ≡ true
  all_full [] h call reduced nest k e at = refl
  all_full (x ∷ xs) h call reduced nest k e at =
      let rest = concat (map text_calls (stmts xs)) in
      both_true (filled ((table x.0).table call reduced nest) k) _
      (x.1 (all_front Served (text_calls x.0) rest h) call reduced nest k e at)
      (all_full xs (all_back Served (text_calls x.0) rest h) (call + (table x.0).calls) reduced nest k e at)

  call_by : (c : CallStmt) (o : Option Callee) → IsSome o → (call : ℕ) (reduced : Option Bytes) (nest : List (List Range)) (k : ℕ) (e : Numbers)
      → slice_get (iteration_points nest names.lists numbers) k ≡ Some e → filled (call_table forms frame names elems numbers c o call reduced nest) k ≡ true
  call_by c None h call reduced nest k e at = absurd (cc h)
  call_by c (Some its) h call reduced nest k e at =
      let row : Numbers → CallInstance = call_instance forms frame names call reduced its c.args in
      ap (λ (f : ℕ → Bool). f k) (filled_call (its.level == suc frame.level) (map row (iteration_points nest names.lists numbers)))
      ∙ ap is_some (slice_get_map row (iteration_points nest names.lists numbers) k e at)

  abbrev IsFull : StatementTable → Type 0
  IsFull t = Full t

  call_full : (c : CallStmt) → OfStmt (s.Call c)
  call_full c h =
      let served : AllIn Served (c ∷ []) = subst (AllIn Served) (text_call c) h in
      subst IsFull (sym (table_of_call forms frame names elems numbers c)) (λ call reduced nest k e at. call_by c (callee_of frame c.task) served.0 call reduced nest k e at)

  abbrev rows_of : List Range → List (List Range) → List ℕ
  rows_of rs nest = count_rows (map (count_at rs names.lists) (iteration_points nest names.lists numbers))

  map_by : (p : Place) (kind : MapKind) (rs : List Range) (xs : List S) → AllIn Served (concat (map text_calls (stmts xs)))
      → (call : ℕ) (nest : List (List Range)) (k : ℕ) (e : Numbers) → slice_get (iteration_points nest names.lists numbers) k ≡ Some e
      → filled_step (Statement-F.Map p (loop_kind_of elems names kind) (rows_of rs nest) (starts_from 0 (rows_of rs nest))
      (map filled (all_of (map table (stmts xs)) call (reduced_by kind) (nest ++ rs ∷ [])))) k ≡ true
  map_by p kind rs xs h call nest k e at =
      let times = iteration_points nest names.lists numbers in
      let counts = map (count_at rs names.lists) times in
      let parts = map filled (all_of (map table (stmts xs)) call (reduced_by kind) (nest ++ rs ∷ [])) in
      below_true (get_or (count_rows counts) k 0) (λ t. all_filled parts (get_or (starts_from 0 (count_rows counts)) k 0 + t))
      (λ t lt.
      let counted : t < get_or counts k 0 = subst (λ n. t < n) (row_kept counts k) lt in
      let less : t < count_at rs names.lists e = subst (λ n. t < n) (get_or_map (count_at rs names.lists) times k e 0 at) counted in
      let start : get_or (starts_from 0 (count_rows counts)) k 0 ≡ begun_before k counts =
      ap (λ ns. get_or (starts_from 0 ns) k 0) (rows_kept counts k t counted) ∙ first_start (count_at rs names.lists) times k e at in
      subst (λ n. all_filled parts (n + t) ≡ true) (sym start)
      (all_full xs h call (reduced_by kind) (nest ++ rs ∷ []) (begun_before k counts + t) (turn rs names.lists e t)
      (ap (λ ms. slice_get ms (begun_before k counts + t)) (iteration_points_deeper nest rs names.lists numbers)
      ∙ inner_at (count_at rs names.lists) (turn rs names.lists) times k t e at less)))

  map_full : (p : Place) (kind : MapKind) (rs : List Range) (xs : List S) → OfStmt (s.Map p kind rs (stmts xs))
  map_full p kind rs xs h =
      let served : AllIn Served (concat (map text_calls (stmts xs))) = subst (AllIn Served) (text_map p kind rs (stmts xs)) h in
      subst IsFull (sym (table_of_map forms frame names elems numbers p kind rs (stmts xs)))
      (λ call reduced nest k e at.
      ap (λ (f : ℕ → Bool). f k) (filled_map p (loop_kind_of elems names kind) (rows_of rs nest) (starts_from 0 (rows_of rs nest))
      (all_of (map table (stmts xs)) call (reduced_by kind) (nest ++ rs ∷ [])))
      ∙ map_by p kind rs xs served call nest k e at)

  full_step : (y : Stmt-F S) → OfStmt (roll-Stmt (map-Stmt S Stmt (λ p. p.0) y))
  full_step (Stmt-F.Call c) = subst OfStmt (sym (s.rolls-Call c)) (call_full c)
  full_step (Stmt-F.Map p kind rs xs) = subst OfStmt (sym (s.rolls-Map p kind rs (stmts xs))) (map_full p kind rs xs)

  full_stmt : (x : Stmt) → OfStmt x
  full_stmt = ind-Stmt OfStmt (λ x y is. subst (λ z. OfStmt (roll-Stmt z)) is (full_step y))

  abbrev known : List Stmt → List S
  known [] = []
  known (x ∷ xs) = (x, full_stmt x) ∷ known xs

  known_are : (xs : List Stmt) → stmts (known xs) ≡ xs
  known_are [] = refl
  known_are (x ∷ xs) = ap (λ ys. x ∷ ys) (known_are xs)

  list_full : (list : List Stmt) → AllIn Served (concat (map text_calls list)) → all_filled (map filled (all_of (map table list) 0 None [])) 0 ≡ true
  list_full list h =
      subst (λ xs. all_filled (map filled (all_of (map table xs) 0 None [])) 0 ≡ true) (known_are list)
      (all_full (known list) (subst (λ xs. AllIn Served (concat (map text_calls xs))) (sym (known_are list)) h) 0 None [] 0 numbers refl)

each_in : (M : CallStmt → Type 0) (cs : List CallStmt) → ((i : ℕ) (c : CallStmt) → slice_get cs i ≡ Some c → M c) → AllIn M cs
each_in M [] h = tt
each_in M (c ∷ cs) h = (h 0 c refl, each_in M cs (λ i d e. h (suc i) d e))

pub served_are_full : ServedAreFull
served_are_full forms frame names elems numbers list h =
    list_full forms frame names elems numbers list (each_in (Served forms frame names elems numbers) (concat (map text_calls list)) h)

pub tables_are_full : TablesAreFull
tables_are_full program levels mapping sound number x v there runs list is forms k f names elems numbers =
    let frame = frame_in program.tasks mapping.instances x k f in
    served_are_full forms frame names elems numbers list (λ i c at.
    let found = calls_are_served program levels mapping sound number x v there runs i c (ap (λ (t : Body). slice_get (body_calls t) i) is ∙ at) k f in
    ap is_some found.1)
