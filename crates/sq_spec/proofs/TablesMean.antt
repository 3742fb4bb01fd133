-- The tables of a form's statements mean what the statements mean.
use Rattle.std.proofs.Common.{◌≡◌, ℕ, zero, suc, arith, ◌+◌, ◌<◌, ◌==◌, List, [], ◌∷◌, ◌++◌, map, get_or, slice_get, Option, Some, None, refl, sym, ap, ap₂, ◌∙◌, subst, append-nil, flat_map, Bool, false}
use Rattle.sq_ast.specs.Num.declared.Elem.{Elem}
use Rattle.sq_text.specs.declared.place.Place.{Place}
use Rattle.sq_ast.specs.declared.stmt.Call.{Call as CallStmt}
use Rattle.sq_ast.specs.declared.stmt.Range.{Range}
use Rattle.sq_ast.specs.declared.stmt.MapKind.{MapKind}
use Rattle.sq_ast.specs.declared.stmt.Stmt.{Stmt, roll-Stmt}
use Rattle.sq_ast.specs.declared.stmt.Stmt.TheVariants as s
use Rattle.sq_ast.specs.declared.stmt.Stmt.TheOpen.{Stmt-F}
use Rattle.sq_ast.specs.declared.stmt.Stmt.TheFolds.{fold-Stmt, fold-roll-Stmt, ind-Stmt, map-Stmt}
use Rattle.sq_form_laws.specs.Blocks.Names.{Numbers, Lists}
use Rattle.sq_work.specs.Leaf.Source.{Arrays}
use Rattle.sq_form_laws.specs.Forms.declared.form.Found.{Found}
use Rattle.sq_spec.specs.declared.statement.LoopKind.{LoopKind}
use Rattle.sq_spec.specs.declared.statement.LoopKind.TheVariants as loop_kind
use Rattle.sq_spec.specs.declared.statement.CallInstance.{CallInstance}
use Rattle.sq_spec.specs.declared.statement.Statement.{Statement}
use Rattle.sq_spec.specs.declared.statement.Statement.TheVariants as b
use Rattle.sq_spec.specs.declared.statement.Statement.TheOpen.{Statement-F}
use Rattle.sq_spec.specs.declared.statement.Statement.TheFolds.{fold-roll-Statement}
use Rattle.sq_form_laws.specs.Forms.Faults.{value_or}
use Rattle.sq_form_laws.specs.Forms.Steps.{Forms}
use Rattle.sq_form_laws.specs.Forms.Args.{Names}
use Rattle.sq_form_laws.specs.Forms.Worlds.{Frame, Callee, callee_of}
use Rattle.sq_form_laws.specs.Forms.Calls.{CallSite}
use Rattle.sq_form_laws.specs.Forms.Stmts.{bounds, in_iteration, within, after_calls, reduced_by}
use Rattle.sq_form_laws.specs.Forms.Resolving.{start}
use Rattle.sq_spec.specs.Statements.{starts_from, iteration_points, count_at, count_rows, call_instance, loop_kind_of, StatementTable, calls_of, all_of, call_table, table_of}
use Rattle.sq_work.specs.Work.{Work, Nothing}
use Rattle.sq_work.specs.Meaning.{Outcome}
use Rattle.sq_spec.specs.Works as works
use Rattle.sq_spec.specs.Works.{Share, map_work, call_work}
use Rattle.sq_spec.specs.StatementsWork.{row_work, all_work, statement_step, statement_work, TablesMeanStatements}
use Rattle.sq_spec.proofs.OpenedStatement.{table_of_call, table_of_map}
use Rattle.sq_spec.proofs.Rows.{row_kept, rows_kept, begun_before, Alike, alike_itself, alike_then, alike_each, alike_at_once, alike_gathers, slice_get_map, get_or_map, flat_over, over_same, singles, inner_at}

-- ---- one map more

abbrev pub turn : List Range → Lists → Numbers → ℕ → Numbers
turn ranges lists e t = in_iteration ranges (value_or [] (bounds ranges e lists)) t e

abbrev pub turns_of : List Range → Lists → Numbers → List Numbers
turns_of ranges lists e = singles (count_at ranges lists e) (turn ranges lists e)

pub iteration_points_deeper : (nest : List (List Range)) (ranges : List Range) (lists : Lists) (numbers : Numbers)
    → iteration_points (nest ++ ranges ∷ []) lists numbers ≡ flat_map (turns_of ranges lists) (iteration_points nest lists numbers)
iteration_points_deeper [] ranges lists numbers = sym (append-nil (turns_of ranges lists numbers))
iteration_points_deeper (r ∷ nest) ranges lists numbers =
    over_same 0 (count_at r lists numbers) (λ t. iteration_points (nest ++ ranges ∷ []) lists (turn r lists numbers t))
    (λ t. flat_map (turns_of ranges lists) (iteration_points nest lists (turn r lists numbers t))) (λ t. iteration_points_deeper nest ranges lists (turn r lists numbers t))
    ∙ sym (flat_over (turns_of ranges lists) 0 (count_at r lists numbers) (λ t. iteration_points nest lists (turn r lists numbers t)))

alike_map : (m : LoopKind) (place : Place) (n count : ℕ) (w v : ℕ → Work) → n ≡ count → ((t : ℕ) → t < count → Alike (w t) (v t))
    → Alike (map_work m place n w) (map_work m place count v)
alike_map loop_kind.Sequential place n count w v same h = subst (λ k. Alike (map_work loop_kind.Sequential place k w) (map_work loop_kind.Sequential place count v)) (sym same)
    (alike_each count w v h)
alike_map loop_kind.Parallel place n count w v same h = subst (λ k. Alike (map_work loop_kind.Parallel place k w) (map_work loop_kind.Parallel place count v)) (sym same)
    (alike_at_once count w v h place)
alike_map (loop_kind.Reduction r) place n count w v same h = subst (λ k. Alike (map_work (loop_kind.Reduction r) place k w)
    (map_work (loop_kind.Reduction r) place count v)) (sym same) (alike_gathers count w v h r place)

alike_between : (w x v y : Work) → w ≡ x → v ≡ y → Alike x y → Alike w v
alike_between w x v y first second h = subst (λ z. Alike z v) (sym first) (subst (λ z. Alike x z) (sym second) h)

-- a table's starts are the iterations before
start_is : {A : Type 0} (n : ℕ) (f : A → ℕ) (times : List A) (k : ℕ) (e : A) → slice_get times k ≡ Some e → get_or (starts_from n (map f times)) k 0 ≡ n + begun_before k (map f times)
start_is n f [] k e at = cc
start_is n f (x ∷ times) zero e at = omega arith
start_is n f (x ∷ times) (suc k) e at = start_is (n + f x) f times k e at ∙ omega arith

pub first_start : {A : Type 0} (f : A → ℕ) (times : List A) (k : ℕ) (e : A) → slice_get times k ≡ Some e → get_or (starts_from 0 (map f times)) k 0 ≡ begun_before k (map f times)
first_start f times k e at = start_is 0 f times k e at ∙ omega arith

-- ---- the equations of the folds

module _ (callee : ℕ → Work) where
  pub begun_call : (lower : Bool) (times : List CallInstance) → statement_work callee (b.Call lower times) ≡ statement_step callee (Statement-F.Call lower times)
  begun_call lower times = ap (statement_work callee) (sym (b.rolls-Call lower times)) ∙ fold-roll-Statement (ℕ → Work) (statement_step callee) (Statement-F.Call lower times)

  pub begun_map : (place : Place) (m : LoopKind) (counts starts : List ℕ) (body : List Statement) → statement_work callee (b.Map place m counts starts body) ≡ statement_step callee
      (Statement-F.Map place m counts starts (map (statement_work callee) body))
  begun_map place m counts starts body = ap (statement_work callee) (sym (b.rolls-Map place m counts starts body))
      ∙ fold-roll-Statement (ℕ → Work) (statement_step callee) (Statement-F.Map place m counts starts body)

module _ (forms : Forms) (frame : Frame) (names : Names) (elems : List Elem) (numbers : Numbers) (callee : ℕ → Work) where
  abbrev by_number : ℕ → Found → Work
  by_number n form = callee n

  abbrev share : Stmt → Share
  share = fold-Stmt Share (works.stmt_step forms by_number elems)

  abbrev table : Stmt → StatementTable
  table = table_of forms frame names elems numbers

  share_call : (c : CallStmt) → share (s.Call c) ≡ works.stmt_step forms by_number elems (Stmt-F.Call c)
  share_call c = ap share (sym (s.rolls-Call c)) ∙ fold-roll-Stmt Share (works.stmt_step forms by_number elems) (Stmt-F.Call c)

  share_map : (p : Place) (k : MapKind) (rs : List Range) (xs : List Stmt) → share (s.Map p k rs xs) ≡ works.stmt_step forms by_number elems
      (Stmt-F.Map p k rs (map share xs))
  share_map p k rs xs = ap share (sym (s.rolls-Map p k rs xs)) ∙ fold-roll-Stmt Share (works.stmt_step forms by_number elems) (Stmt-F.Map p k rs xs)

  -- ---- statements

  -- at its k-th time a statement does what it does with the numbers of that time
  record Agrees (t : StatementTable) (w : Share) : Type 0 where
    calls : t.calls ≡ w.calls
    works : (nest : List (List Range)) (site : CallSite) (k : ℕ) (e : Numbers) → slice_get (iteration_points nest names.lists numbers) k ≡ Some e
        → Alike (statement_work callee (t.table site.call site.reduced nest) k) (w.work frame names site e)

  abbrev Known : Type 0
  Known = (x : Stmt) × Agrees (table x) (share x)

  abbrev stmts : List Known → List Stmt
  stmts = map (λ q. q.0)

  same_calls : (xs : List Known) → calls_of (map table (stmts xs)) ≡ works.calls_of (map share (stmts xs))
  same_calls [] = refl
  same_calls (x ∷ xs) = ap₂ (λ n m. n + m) x.1.calls (same_calls xs)

  all_agree : (xs : List Known) (nest : List (List Range)) (site : CallSite) (k : ℕ) (e : Numbers) → slice_get (iteration_points nest names.lists numbers) k ≡ Some e
      → Alike (all_work (map (statement_work callee) (all_of (map table (stmts xs)) site.call site.reduced nest)) k)
      (works.all_of (map share (stmts xs)) frame names site e)
  all_agree [] nest site k e at = alike_itself Nothing
  all_agree (x ∷ xs) nest site k e at =
      alike_then _ _ _ _ (x.1.works nest site k e at)
      (subst (λ n. Alike (all_work (map (statement_work callee) (all_of (map table (stmts xs)) (site.call + n) site.reduced nest)) k)
      (works.all_of (map share (stmts xs)) frame names (after_calls site (share x.0).calls) e))
      (sym x.1.calls) (all_agree xs nest (after_calls site (share x.0).calls) k e at))

  call_agrees : (c : CallStmt) (o : Option Callee) (nest : List (List Range)) (site : CallSite) (k : ℕ) (e : Numbers)
      → slice_get (iteration_points nest names.lists numbers) k ≡ Some e
      → statement_work callee (call_table forms frame names elems numbers c o site.call site.reduced nest) k ≡ call_work forms by_number elems frame names site e
      c o
  call_agrees c None nest site k e at = ap (λ (f : ℕ → Work). f k) (begun_call callee false [])
  call_agrees c (Some its) nest site k e at =
      let row : Numbers → CallInstance = call_instance forms frame names site.call site.reduced its c.args in
      let lower = its.level == suc frame.level in
      ap (λ (f : ℕ → Work). f k) (begun_call callee lower (map row (iteration_points nest names.lists numbers)))
      ∙ ap (row_work callee lower) (slice_get_map row (iteration_points nest names.lists numbers) k e at)

  -- the rows of the counts of a map with these ranges
  abbrev rows_of : List Range → List (List Range) → List ℕ
  rows_of rs nest = count_rows (map (count_at rs names.lists) (iteration_points nest names.lists numbers))

  map_agrees : (p : Place) (kind : MapKind) (rs : List Range) (xs : List Known) (nest : List (List Range)) (site : CallSite) (k : ℕ) (e : Numbers)
      → slice_get (iteration_points nest names.lists numbers) k ≡ Some e
      → Alike (statement_step callee (Statement-F.Map p (loop_kind_of elems names kind) (rows_of rs nest) (starts_from 0 (rows_of rs nest))
      (map (statement_work callee) (all_of (map table (stmts xs)) site.call (reduced_by kind) (nest ++ rs ∷ [])))) k)
      ((works.stmt_step forms by_number elems (Stmt-F.Map p kind rs (map share (stmts xs)))).work frame names site e)
  map_agrees p kind rs xs nest site k e at =
      let times = iteration_points nest names.lists numbers in
      let counts = map (count_at rs names.lists) times in
      let count : get_or counts k 0 ≡ count_at rs names.lists e = get_or_map (count_at rs names.lists) times k e 0 at in
      alike_map (loop_kind_of elems names kind) p (get_or (count_rows counts) k 0) (count_at rs names.lists e) _ _ (row_kept counts k ∙ count)
      (λ t lt.
      let rows : count_rows counts ≡ counts = rows_kept counts k t (subst (λ n. t < n) (sym count) lt) in
      let start : get_or (starts_from 0 (count_rows counts)) k 0 ≡ begun_before k counts =
      ap (λ ns. get_or (starts_from 0 ns) k 0) rows ∙ first_start (count_at rs names.lists) times k e at in
      subst (λ n. Alike (all_work (map (statement_work callee) (all_of (map table (stmts xs)) site.call (reduced_by kind) (nest ++ rs ∷ []))) (n + t))
      (works.all_of (map share (stmts xs)) frame names (within site p kind t) (turn rs names.lists e t))) (sym start) (
      all_agree xs (nest ++ rs ∷ []) (within site p kind t) (begun_before k counts + t) (turn rs names.lists e t)
      (ap (λ ms. slice_get ms (begun_before k counts + t)) (iteration_points_deeper nest rs names.lists numbers)
      ∙ inner_at (count_at rs names.lists) (turn rs names.lists) times k t e at lt)))

  abbrev Fits : Stmt → Type 0
  Fits x = Agrees (table x) (share x)

  fits_step : (y : Stmt-F Known) → Fits (roll-Stmt (map-Stmt Known Stmt (λ p. p.0) y))
  fits_step (Stmt-F.Call c) = subst Fits (sym (s.rolls-Call c)) (record {
    calls = ap (λ (t : StatementTable). t.calls) (table_of_call forms frame names elems numbers c) ∙ sym (ap (λ (w : Share). w.calls) (share_call c));
    works = λ nest site k e at.
        let left = ap (λ (t : StatementTable). statement_work callee (t.table site.call site.reduced nest) k) (table_of_call forms frame names elems numbers c) in
        let right = ap (λ (w : Share). w.work frame names site e) (share_call c) in
        subst (λ (w : Work). Alike w ((share (s.Call c)).work frame names site e))
        (sym (left ∙ (call_agrees c (callee_of frame c.task) nest site k e at ∙ sym right))) (alike_itself _);
  })
  fits_step (Stmt-F.Map p kind rs xs) = subst Fits (sym (s.rolls-Map p kind rs (stmts xs))) (record {
    calls = ap (λ (t : StatementTable). t.calls) (table_of_map forms frame names elems numbers p kind rs (stmts xs))
        ∙ (same_calls xs ∙ sym (ap (λ (w : Share). w.calls) (share_map p kind rs (stmts xs))));
    works = λ nest site k e at.
        let left = ap (λ (t : StatementTable). statement_work callee (t.table site.call site.reduced nest) k)
        (table_of_map forms frame names elems numbers p kind rs (stmts xs))
        ∙ ap (λ (f : ℕ → Work). f k) (begun_map callee p (loop_kind_of elems names kind) (rows_of rs nest) (starts_from 0 (rows_of rs nest))
        (all_of (map table (stmts xs)) site.call (reduced_by kind) (nest ++ rs ∷ []))) in
        let right = ap (λ (w : Share). w.work frame names site e) (share_map p kind rs (stmts xs)) in
        alike_between _ _ _ _ left right (map_agrees p kind rs xs nest site k e at);
  })

  fits : (x : Stmt) → Fits x
  fits = ind-Stmt Fits (λ x y is. subst (λ z. Fits (roll-Stmt z)) is (fits_step y))

  abbrev known : List Stmt → List Known
  known [] = []
  known (x ∷ xs) = (x, fits x) ∷ known xs

  known_are : (xs : List Stmt) → stmts (known xs) ≡ xs
  known_are [] = refl
  known_are (x ∷ xs) = ap (λ ys. x ∷ ys) (known_are xs)

  pub list_agrees : (list : List Stmt) → Alike (all_work (map (statement_work callee) (all_of (map table list) 0 None [])) 0)
      (works.all_of (map share list) frame names start numbers)
  list_agrees list =
      subst (λ xs. Alike (all_work (map (statement_work callee) (all_of (map table xs) 0 None [])) 0) (works.all_of (map share xs) frame names start numbers))
      (known_are list)
      (all_agree (known list) [] start 0 numbers refl)

pub tables_mean : TablesMeanStatements
tables_mean forms frame names elems numbers callee list s = ap (λ (f : Arrays → Outcome). f s) (list_agrees forms frame names elems numbers callee list).means
