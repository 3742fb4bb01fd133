-- The tables of a form's statements have a row for each time.
use Rattle.std.proofs.Common.{◌≡◌, inl, inr, ℕ, zero, suc, arith, ◌+◌, ◌==◌, Bool, true, false, List, [], ◌∷◌}
use Rattle.std.proofs.Common.{◌++◌, map, length, slice_get, Option, Some, None, refl, sym, ap, ◌∙◌, subst, flat_map}
use Rattle.std.specs.Prelude.{IsSome}
use Rattle.sq_num.specs.declared.Elem.{Elem}
use Rattle.sq_text.specs.declared.place.Place.{Place}
use Rattle.sq_text.specs.Names.{Bytes}
use Rattle.sq_ast.specs.declared.stmt.Call.{Call as CallStmt}
use Rattle.sq_ast.specs.declared.stmt.Range.{Range}
use Rattle.sq_ast.specs.declared.stmt.MapKind.{MapKind}
use Rattle.sq_ast.specs.declared.stmt.Stmt.{Stmt, roll-Stmt}
use Rattle.sq_ast.specs.declared.stmt.Stmt.TheVariants as s
use Rattle.sq_ast.specs.declared.stmt.Stmt.TheOpen.{Stmt-F}
use Rattle.sq_ast.specs.declared.stmt.Stmt.TheFolds.{ind-Stmt, map-Stmt}
use Rattle.sq_blocks.specs.Names.{Numbers}
use Rattle.sq_spec.specs.declared.statement.CallInstance.{CallInstance}
use Rattle.sq_forms.specs.Steps.{Forms}
use Rattle.sq_forms.specs.Args.{Names}
use Rattle.sq_forms.specs.Worlds.{Frame, Callee, callee_of}
use Rattle.sq_forms.specs.Stmts.{reduced_by}
use Rattle.sq_spec.specs.Statements.{over, starts_from, iteration_points, count_at, has_iterations, rows_if, count_rows}
use Rattle.sq_spec.specs.Statements.{call_instance, loop_kind_of, StatementTable, all_of, call_table, table_of, tables}
use Rattle.sq_form_laws.specs.Reached.{concat, text_calls}
use Rattle.sq_form_laws.proofs.EachCall.{AllIn, all_front, all_back, text_call, text_map}
use Rattle.sq_spec.proofs.OpenedStatement.{table_of_call, table_of_map}
use Rattle.sq_spec.proofs.Rows.{singles}
use Rattle.sq_spec.proofs.TablesMean.{turn, iteration_points_deeper}
use Rattle.sq_draft_laws.specs.TermLaws.Fits.{AskedOfStatement, all_parts}
use Rattle.sq_draft_laws.proofs.Standing.{map_length}
use Rattle.sq_pipe.specs.Hoist.Counts.{total}
use Rattle.sq_pass_laws.specs.Times.{AreCounts, IsBegun}
use Rattle.sq_pass_laws.proofs.Begins.{times_call, times_map}

-- ---- lists

pub append_length : {A : Type 0} (xs ys : List A) → length (xs ++ ys) ≡ length xs + length ys
append_length [] ys = omega arith
append_length (x ∷ xs) ys = let e = append_length xs ys in omega (arith, e)

singles_length : {A : Type 0} (t n : ℕ) (f : ℕ → A) → length (over t n (λ i. f i ∷ [])) ≡ n
singles_length t zero f = refl
singles_length t (suc n) f = ap suc (singles_length (t + 1) n f)

-- so many parts of each
parts_length : {A B : Type 0} (count : A → ℕ) (turn : A → ℕ → B) (xs : List A)
    → length (flat_map (λ x. singles (count x) (turn x)) xs) ≡ total (map count xs)
parts_length count turn [] = refl
parts_length count turn (x ∷ xs) =
    let own = singles_length 0 (count x) (turn x) in
    let all = append_length (singles (count x) (turn x)) (flat_map (λ y. singles (count y) (turn y)) xs) in
    let rest = parts_length count turn xs in
    omega (arith, own, all, rest)

none_total : (counts : List ℕ) → has_iterations counts ≡ false → total counts ≡ 0
none_total [] h = refl
none_total (zero ∷ counts) h = let e = none_total counts h in omega (arith, e)
none_total (suc n ∷ counts) h = absurd (cc h)

rows_total : (counts : List ℕ) → total (count_rows counts) ≡ total counts
rows_total counts = by (has_iterations counts) refl
  where
    by : (t : Bool) → has_iterations counts ≡ t → total (rows_if t counts) ≡ total counts
    by false h = sym (none_total counts h)
    by true h = refl

are_counts : (counts : List ℕ) (n : ℕ) → length counts ≡ n → AreCounts (count_rows counts) n
are_counts counts n e = by (has_iterations counts)
  where
    by : (t : Bool) → AreCounts (rows_if t counts) n
    by false = inl refl
    by true = inr e

-- ---- statements

module _ (forms : Forms) (frame : Frame) (names : Names) (elems : List Elem) (numbers : Numbers) where
  abbrev table : Stmt → StatementTable
  table = table_of forms frame names elems numbers

  -- an instance serves the call
  abbrev Served : CallStmt → Type 0
  Served c = IsSome (callee_of frame c.task)

  abbrev times : List (List Range) → ℕ
  times nest = length (iteration_points nest names.lists numbers)

  abbrev HasTimes : StatementTable → Type 0
  HasTimes t = (call : ℕ) (reduced : Option Bytes) (nest : List (List Range))
      → IsBegun (t.table call reduced nest) (times nest)

  abbrev OfStmt : Stmt → Type 0
  OfStmt x = AllIn Served (text_calls x) → HasTimes (table x)

  abbrev S : Type 0
  S = (x : Stmt) × OfStmt x

  abbrev stmts : List S → List Stmt
  stmts = map (λ (q : S). q.0)

  all_times : (xs : List S) → AllIn Served (concat (map text_calls (stmts xs))) → (call : ℕ) (reduced : Option Bytes)
      (nest : List (List Range)) → all_parts IsBegun (all_of (map table (stmts xs)) call reduced nest) (times nest)
  all_times [] h call reduced nest = tt
  all_times (x ∷ xs) h call reduced nest =
      let rest = concat (map text_calls (stmts xs)) in (
        x.1 (all_front Served (text_calls x.0) rest h) call reduced nest,
        all_times xs (all_back Served (text_calls x.0) rest h) (call + (table x.0).calls) reduced nest,
      )

  call_by : (c : CallStmt) (o : Option Callee) → IsSome o → (call : ℕ) (reduced : Option Bytes)
      (nest : List (List Range))
      → IsBegun (call_table forms frame names elems numbers c o call reduced nest) (times nest)
  call_by c None h call reduced nest = absurd (cc h)
  call_by c (Some its) h call reduced nest =
      let row : _ → CallInstance = call_instance forms frame names call reduced its c.args in
      let points = iteration_points nest names.lists numbers in
      subst (λ (f : AskedOfStatement). f (times nest))
      (sym (times_call (its.level == suc frame.level) (map row points))) (map_length row points)

  call_times : (c : CallStmt) → OfStmt (s.Call c)
  call_times c h =
      let served : AllIn Served (c ∷ []) = subst (AllIn Served) (text_call c) h in
      subst HasTimes (sym (table_of_call forms frame names elems numbers c))
      (λ call reduced nest. call_by c (callee_of frame c.task) served.0 call reduced nest)

  -- the body of a map is begun once for each iteration
  deeper : (rs : List Range) (nest : List (List Range))
      → times (nest ++ rs ∷ [])
      ≡ total (count_rows (map (count_at rs names.lists) (iteration_points nest names.lists numbers)))
  deeper rs nest =
      let points = iteration_points nest names.lists numbers in
      ap length (iteration_points_deeper nest rs names.lists numbers)
      ∙ parts_length (count_at rs names.lists) (λ e t. turn rs names.lists e t) points
      ∙ sym (rows_total (map (count_at rs names.lists) points))

  map_times : (p : Place) (kind : MapKind) (rs : List Range) (xs : List S) → OfStmt (s.Map p kind rs (stmts xs))
  map_times p kind rs xs h =
      let served : AllIn Served (concat (map text_calls (stmts xs)))
      = subst (AllIn Served) (text_map p kind rs (stmts xs)) h in
      subst HasTimes (sym (table_of_map forms frame names elems numbers p kind rs (stmts xs))) (λ call reduced nest.
      let counts = map (count_at rs names.lists) (iteration_points nest names.lists numbers) in
      let parts = all_of (map table (stmts xs)) call (reduced_by kind) (nest ++ rs ∷ []) in
      subst (λ (f : AskedOfStatement). f (times nest))
      (sym (times_map p (loop_kind_of elems names kind) (count_rows counts) (starts_from 0 (count_rows counts))
      parts)) (
        are_counts counts (times nest)
            (map_length (count_at rs names.lists) (iteration_points nest names.lists numbers)),
        refl,
        subst (all_parts IsBegun parts) (deeper rs nest) (all_times xs served call (reduced_by kind) (nest ++ rs ∷ [])),
      ))

  times_of_step : (y : Stmt-F S) → OfStmt (roll-Stmt (map-Stmt S Stmt (λ p. p.0) y))
  times_of_step (Stmt-F.Call c) = subst OfStmt (sym (s.rolls-Call c)) (call_times c)
  times_of_step (Stmt-F.Map p kind rs xs)
      = subst OfStmt (sym (s.rolls-Map p kind rs (stmts xs))) (map_times p kind rs xs)

  times_of_stmt : (x : Stmt) → OfStmt x
  times_of_stmt = ind-Stmt OfStmt (λ x y is. subst (λ z. OfStmt (roll-Stmt z)) is (times_of_step y))

  list_times : (list : List Stmt) → AllIn Served (concat (map text_calls list)) → (call : ℕ)
      → all_parts IsBegun (all_of (map table list) call None []) 1
  list_times [] h call = tt
  list_times (x ∷ xs) h call =
      let rest = concat (map text_calls xs) in (
        times_of_stmt x (all_front Served (text_calls x) rest h) call None [],
        list_times xs (all_back Served (text_calls x) rest h) (call + (table x).calls),
      )

  each_in : (cs : List CallStmt) → ((i : ℕ) (c : CallStmt) → slice_get cs i ≡ Some c → Served c) → AllIn Served cs
  each_in [] h = tt
  each_in (c ∷ cs) h = (h 0 c refl, each_in cs (λ i d e. h (suc i) d e))

  -- the statements of a form are begun once each
  pub tables_have_times : (list : List Stmt)
      → ((i : ℕ) (c : CallStmt) → slice_get (concat (map text_calls list)) i ≡ Some c → Served c)
      → all_parts IsBegun (tables forms frame names elems numbers list) 1
  tables_have_times list h = list_times list (each_in (concat (map text_calls list)) h) 0
