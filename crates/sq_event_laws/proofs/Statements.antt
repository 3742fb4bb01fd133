-- The leaf calls of a form's statements, by its tables and by the source.
use Rattle.std.proofs.Common.{◌≡◌, ℕ, zero, suc, ◌+◌, ◌<◌, ◌==◌, Bool, false, List, [], ◌∷◌, ◌++◌, map, get_or}
use Rattle.std.proofs.Common.{slice_get, Option, Some, None}
use Rattle.std.proofs.Common.{refl, sym, ap, ap₂, ◌∙◌, subst, arith}
use Rattle.sq_ast.specs.Num.declared.Elem.{Elem}
use Rattle.sq_text.specs.declared.place.Place.{Place}
use Rattle.sq_text.specs.Names.{Bytes}
use Rattle.sq_ast.specs.declared.expr.ArgUse.{ArgUse}
use Rattle.sq_ast.specs.declared.program.Param.{Param}
use Rattle.sq_ast.specs.declared.stmt.Call.{Call as CallStmt}
use Rattle.sq_ast.specs.declared.stmt.Range.{Range}
use Rattle.sq_ast.specs.declared.stmt.MapKind.{MapKind}
use Rattle.sq_ast.specs.declared.stmt.Stmt.{Stmt, roll-Stmt}
use Rattle.sq_ast.specs.declared.stmt.Stmt.TheVariants as s
use Rattle.sq_ast.specs.declared.stmt.Stmt.TheOpen.{Stmt-F}
use Rattle.sq_ast.specs.declared.stmt.Stmt.TheFolds.{fold-Stmt, fold-roll-Stmt, ind-Stmt, map-Stmt}
use Rattle.sq_form_laws.specs.Blocks.Names.{Numbers}
use Rattle.sq_form_laws.specs.Forms.declared.form.Found.{Found}
use Rattle.sq_form_laws.specs.Forms.Faults.{value_or}
use Rattle.sq_form_laws.specs.Forms.Steps.{Step, Part, Called, Forms, Opens, Counts, Tests, Calls, key_number}
use Rattle.sq_form_laws.specs.Forms.Args.{Names, use_step, arguments, args_steps}
use Rattle.sq_form_laws.specs.Forms.Worlds.{Frame, Callee, callee_of}
use Rattle.sq_form_laws.specs.Forms.Calls.{CallSite, call_of, served_steps, reached_steps}
use Rattle.sq_form_laws.specs.Forms.Stmts.{Portion, portion, calls_of as portion_calls, all_of as portions_of}
use Rattle.sq_form_laws.specs.Forms.Stmts.{after_calls, bounds, times_of, in_iteration, within, each, opens, outermost}
use Rattle.sq_form_laws.specs.Forms.Stmts.{iteration_steps, map_steps, stmts_steps, reduced_by}
use Rattle.sq_form_laws.specs.Forms.Resolving.{start}
use Rattle.sq_form_laws.specs.Reached.{calls_in}
use Rattle.sq_form_laws.proofs.Forms.OpenedStmt.{portion_call, portion_map}
use Rattle.sq_spec.specs.declared.statement.LoopKind.{LoopKind}
use Rattle.sq_spec.specs.declared.statement.LoopKind.TheVariants as loop_kind
use Rattle.sq_spec.specs.declared.statement.CallInstance.{CallInstance}
use Rattle.sq_spec.specs.declared.statement.Statement.{Statement}
use Rattle.sq_spec.specs.declared.statement.Statement.TheVariants as b
use Rattle.sq_spec.specs.declared.statement.Statement.TheOpen.{Statement-F}
use Rattle.sq_spec.specs.declared.statement.Statement.TheFolds.{fold-roll-Statement}
use Rattle.sq_spec.specs.Statements.{number_or, starts_from, iteration_points, count_at, count_rows, call_instance}
use Rattle.sq_spec.specs.Statements.{loop_kind_of, StatementTable, calls_of, all_of, call_table, table_of, tables}
use Rattle.sq_spec.specs.Works as works
use Rattle.sq_spec.specs.Works.{Share, map_work, call_work, stmts_work}
use Rattle.sq_spec.proofs.OpenedStatement.{table_of_call, table_of_map}
use Rattle.sq_spec.proofs.Rows.{row_kept, rows_kept, begun_before, slice_get_map, get_or_map, inner_at}
use Rattle.sq_spec.proofs.TablesMean.{turn, iteration_points_deeper, first_start}
use Rattle.sq_work.specs.Work.{Work}
use Rattle.sq_cells.specs.Leaves.{sum_below}
use Rattle.sq_plan_good.specs.ProgramLaws.LeafCalls.{FormWeight, row_calls, all_calls, calls_step, statement_calls}
use Rattle.sq_event_laws.specs.SourceCalls.{work_calls}

-- ---- the equations of the folds

calls_call : (done : FormWeight) (lower : Bool) (instances : List CallInstance)
    → statement_calls done (b.Call lower instances) ≡ calls_step done (Statement-F.Call lower instances)
calls_call done lower instances = ap (statement_calls done) (sym (b.rolls-Call lower instances))
    ∙ fold-roll-Statement (ℕ → List ℕ → ℕ) (calls_step done) (Statement-F.Call lower instances)

calls_map : (done : FormWeight) (p : Place) (m : LoopKind) (counts starts : List ℕ) (xs : List Statement)
    → statement_calls done (b.Map p m counts starts xs)
    ≡ calls_step done (Statement-F.Map p m counts starts (map (statement_calls done) xs))
calls_map done p m counts starts xs = ap (statement_calls done) (sym (b.rolls-Map p m counts starts xs))
    ∙ fold-roll-Statement (ℕ → List ℕ → ℕ) (calls_step done) (Statement-F.Map p m counts starts xs)

-- ---- sums

below_same : (n : ℕ) (f g : ℕ → ℕ) → ((t : ℕ) → t < n → f t ≡ g t) → sum_below n f ≡ sum_below n g
below_same zero f g h = refl
below_same (suc n) f g h = ap₂ (λ x y. x + y) (below_same n f g (λ t lt. h t (omega (arith, lt)))) (h n (omega arith))

pub sums_same : (n m : ℕ) (f g : ℕ → ℕ) → m ≡ n → ((t : ℕ) → t < n → f t ≡ g t) → sum_below n f ≡ sum_below m g
sums_same n m f g e h = below_same n f g h ∙ ap (λ k. sum_below k g) (sym e)

of_map : (weight : FormWeight) (form : ℕ) (m : LoopKind) (place : Place) (n : ℕ) (w : ℕ → Work) (path : List ℕ)
    → work_calls weight form (map_work m place n w) path
    ≡ sum_below n (λ t. work_calls weight form (w t) (path ++ t ∷ []))
of_map weight form loop_kind.Sequential place n w path = refl
of_map weight form loop_kind.Parallel place n w path = refl
of_map weight form (loop_kind.Reduction r) place n w path = refl

-- ---- calls whose forms are counted

-- callee: the work of a form, by its number and by what is known of it; done: its leaf calls, by its number
module _ (weight done : FormWeight) (forms : Forms) (callee : ℕ → Found → Work) where
  -- the form that a call reaches, by what is known of it, has the leaf calls of the form of its number
  abbrev pub Suits : Called → Type 0
  Suits c = (f : Found) → f.instance ≡ c.form.instance → f.extents ≡ c.form.extents → (path : List ℕ)
      → work_calls weight (number_or (key_number forms c.key)) (callee (number_or (key_number forms c.key)) f) path
      ≡ done (number_or (key_number forms c.key)) path

  abbrev pub AllSuit : List Step → Type 0
  AllSuit [] = Unit {0}
  AllSuit (Opens ∷ rest) = AllSuit rest
  AllSuit (Counts place ∷ rest) = AllSuit rest
  AllSuit (Tests o ∷ rest) = AllSuit rest
  AllSuit (Calls c ∷ rest) = Suits c × AllSuit rest

  pub suit_each : (steps : List Step) → ((i : ℕ) (c : Called) → slice_get (calls_in steps) i ≡ Some c → Suits c)
      → AllSuit steps
  suit_each [] h = tt
  suit_each (Opens ∷ rest) h = suit_each rest h
  suit_each (Counts place ∷ rest) h = suit_each rest h
  suit_each (Tests o ∷ rest) h = suit_each rest h
  suit_each (Calls c ∷ rest) h = (h 0 c refl, suit_each rest (λ i d e. h (suc i) d e))

  -- ---- what suits in front of others leaves these

  used_behind : (outer : Option Place) (later : List Step) → AllSuit (use_step outer later) → AllSuit later
  used_behind None later h = h
  used_behind (Some place) later h = h

  opens_behind : (outer : Option Place) (later : List Step) → AllSuit (opens outer later) → AllSuit later
  opens_behind None later h = h
  opens_behind (Some place) later h = h

  args_behind : (outer : Option Place) (names : Names) (numbers : Numbers) (reduced : Option Bytes)
      (params : List Param) (i : ℕ) (args : List ArgUse) (later : List Step)
      → AllSuit (args_steps outer names numbers reduced params i args later) → AllSuit later
  args_behind outer names numbers reduced params i [] later h = h
  args_behind outer names numbers reduced params i (a ∷ rest) later h
      = args_behind outer names numbers reduced params (i + 1) rest later (used_behind outer _ h)

  abbrev Leaves : Part → Type 0
  Leaves part = (later : List Step) → AllSuit (part later) → AllSuit later

  each_behind : (t n : ℕ) (part : ℕ → Part) → ((i : ℕ) → Leaves (part i)) → Leaves (each t n part)
  each_behind t zero part leaves later h = h
  each_behind t (suc n) part leaves later h = each_behind (t + 1) n part leaves later (leaves t _ h)

  each_at : (t n : ℕ) (part : ℕ → Part) → ((i : ℕ) → Leaves (part i)) → (later : List Step)
      → AllSuit (each t n part later) → (i : ℕ) → i < n → (more : List Step) × AllSuit (part (t + i) more)
  each_at t zero part leaves later h i lt = absurd (omega (arith, lt))
  each_at t (suc n) part leaves later h zero lt =
      let e : t ≡ t + 0 = omega arith in
      (each (t + 1) n part later, subst (λ k. AllSuit (part k (each (t + 1) n part later))) e h)
  each_at t (suc n) part leaves later h (suc i) lt =
      let found = each_at (t + 1) n part leaves later (leaves t _ h) i (omega (arith, lt)) in
      let e : (t + 1) + i ≡ t + suc i = omega arith in
      (found.0, subst (λ k. AllSuit (part k found.0)) e found.1)

  -- ---- statements

  -- the same form may be reached with other maps and forms round it
  module _ (elems : List Elem) (frame : Frame) (m d form : ℕ) (names : Names) (numbers : Numbers) where
    abbrev other : Frame
    other = record {
      variants = frame.variants;
      instances = frame.instances;
      routes = frame.routes;
      form = frame.form;
      level = frame.level;
      maps = m;
      depth = d;
    }

    abbrev wide : Stmt → Share
    wide = fold-Stmt Share (works.stmt_step forms callee elems)

    abbrev table : Stmt → StatementTable
    table = table_of forms frame names elems numbers

    wide_call : (c : CallStmt) → wide (s.Call c) ≡ works.stmt_step forms callee elems (Stmt-F.Call c)
    wide_call c = ap wide (sym (s.rolls-Call c))
        ∙ fold-roll-Stmt Share (works.stmt_step forms callee elems) (Stmt-F.Call c)

    wide_map : (p : Place) (k : MapKind) (rs : List Range) (xs : List Stmt)
        → wide (s.Map p k rs xs) ≡ works.stmt_step forms callee elems (Stmt-F.Map p k rs (map wide xs))
    wide_map p k rs xs = ap wide (sym (s.rolls-Map p k rs xs))
        ∙ fold-roll-Stmt Share (works.stmt_step forms callee elems) (Stmt-F.Map p k rs xs)

    -- it is begun for the k-th time with these numbers
    abbrev BegunAt : List (List Range) → ℕ → Numbers → Type 0
    BegunAt nest k e = slice_get (iteration_points nest names.lists numbers) k ≡ Some e

    abbrev steps_of : List Stmt → CallSite → Numbers → Part
    steps_of list site e = portions_of (map portion list) frame names site e

    abbrev source_calls : List Stmt → CallSite → Numbers → List ℕ → ℕ
    source_calls list site e path = work_calls weight form (works.all_of (map wide list) other names site e) path

    abbrev table_calls : List Stmt → (call : ℕ) → Option Bytes → List (List Range) → ℕ → List ℕ → ℕ
    table_calls list call reduced nest k path
        = all_calls (map (statement_calls done) (all_of (map table list) call reduced nest)) k path

    record Serves (p : Portion) (w : Share) (t : StatementTable) : Type 0 where
      calls : p.calls ≡ w.calls
      same : p.calls ≡ t.calls
      behind : (site : CallSite) (e : Numbers) → Leaves (p.steps frame names site e)
      counts : (nest : List (List Range)) (site : CallSite) (k : ℕ) (e : Numbers) → BegunAt nest k e
          → (later : List Step) → AllSuit (p.steps frame names site e later) → (path : List ℕ)
          → work_calls weight form (w.work other names site e) path
          ≡ statement_calls done (t.table site.call site.reduced nest) k path

    abbrev Fits : Stmt → Type 0
    Fits x = Serves (portion x) (wide x) (table x)

    abbrev Known : Type 0
    Known = (x : Stmt) × Fits x

    abbrev stmts : List Known → List Stmt
    stmts = map (λ q. q.0)

    wide_calls : (xs : List Known) → portion_calls (map portion (stmts xs)) ≡ works.calls_of (map wide (stmts xs))
    wide_calls [] = refl
    wide_calls (x ∷ xs) = ap₂ (λ n k. n + k) x.1.calls (wide_calls xs)

    table_has_calls : (xs : List Known) → portion_calls (map portion (stmts xs)) ≡ calls_of (map table (stmts xs))
    table_has_calls [] = refl
    table_has_calls (x ∷ xs) = ap₂ (λ n k. n + k) x.1.same (table_has_calls xs)

    all_behind : (xs : List Known) (site : CallSite) (e : Numbers) → Leaves (steps_of (stmts xs) site e)
    all_behind [] site e later h = h
    all_behind (x ∷ xs) site e later h =
        all_behind xs (after_calls site (portion x.0).calls) e later (x.1.behind site e _ h)

    all_count : (xs : List Known) (nest : List (List Range)) (site : CallSite) (k : ℕ) (e : Numbers)
        → BegunAt nest k e → (later : List Step) → AllSuit (steps_of (stmts xs) site e later) → (path : List ℕ)
        → source_calls (stmts xs) site e path ≡ table_calls (stmts xs) site.call site.reduced nest k path
    all_count [] nest site k e at later h path = refl
    all_count (x ∷ xs) nest site k e at later h path =
        let rest = all_count xs nest (after_calls site (portion x.0).calls) k e at later (x.1.behind site e _ h) path in
        ap₂ (λ a c. a + c) (x.1.counts nest site k e at _ h path)
        (ap (λ n. source_calls (stmts xs) (after_calls site n) e path) (sym x.1.calls)
        ∙ (rest ∙ ap (λ n. table_calls (stmts xs) (site.call + n) site.reduced nest k path) x.1.same))

    call_behind : (site : CallSite) (e : Numbers) (c : CallStmt) (o : Option Callee)
        → Leaves (served_steps frame names site e c o)
    call_behind site e c None later h = h
    call_behind site e c (Some its) later h
        = (args_behind site.outer names e site.reduced its.params 0 c.args _ h).1

    call_counts : (c : CallStmt) (o : Option Callee) (nest : List (List Range)) (site : CallSite) (k : ℕ) (e : Numbers)
        → BegunAt nest k e → (later : List Step) → AllSuit (served_steps frame names site e c o later)
        → (path : List ℕ)
        → work_calls weight form (call_work forms callee elems other names site e c o) path
        ≡ statement_calls done (call_table forms frame names elems numbers c o site.call site.reduced nest) k path
    call_counts c None nest site k e at later h path =
        sym (ap (λ (f : ℕ → List ℕ → ℕ). f k path) (calls_call done false []))
    call_counts c (Some its) nest site k e at later h path =
        let xs = arguments names e site.reduced its.params 0 c.args in
        let reached = args_behind site.outer names e site.reduced its.params 0 c.args
        (reached_steps frame its site c xs later) h in
        let row : Numbers → CallInstance
        = call_instance forms frame names site.call site.reduced its c.args in
        let lower = its.level == suc frame.level in
        reached.0 (call_of other its site c xs).form refl refl path
        ∙ sym (ap (λ (f : ℕ → List ℕ → ℕ). f k path)
        (calls_call done lower (map row (iteration_points nest names.lists numbers)))
        ∙ ap (λ (o : Option CallInstance). row_calls done o path)
        (slice_get_map row (iteration_points nest names.lists numbers) k e at))

    map_behind : (p : Place) (kind : MapKind) (rs : List Range) (xs : List Known) (site : CallSite) (e : Numbers)
        → Leaves (map_steps p kind rs (portions_of (map portion (stmts xs))) frame names site e)
    map_behind p kind rs xs site e later h =
        let ns = bounds rs e names.lists in
        each_behind 0 (times_of ns)
        (iteration_steps (outermost site.outer p) (within site p kind) rs (portions_of (map portion (stmts xs)))
        (value_or [] ns) frame names e)
        (λ t more g. all_behind xs (within site p kind t) (in_iteration rs (value_or [] ns) t e) more g) later
        (opens_behind site.outer _ h)

    -- the rows of the counts of a map with these ranges
    abbrev rows_of : List Range → List (List Range) → List ℕ
    rows_of rs nest = count_rows (map (count_at rs names.lists) (iteration_points nest names.lists numbers))

    map_counts : (p : Place) (kind : MapKind) (rs : List Range) (xs : List Known) (nest : List (List Range))
        (site : CallSite) (k : ℕ) (e : Numbers) → BegunAt nest k e → (later : List Step)
        → AllSuit (map_steps p kind rs (portions_of (map portion (stmts xs))) frame names site e later)
        → (path : List ℕ)
        → work_calls weight form ((works.stmt_step forms callee elems
        (Stmt-F.Map p kind rs (map wide (stmts xs)))).work other names site e) path
        ≡ calls_step done (Statement-F.Map p (loop_kind_of elems names kind) (rows_of rs nest)
        (starts_from 0 (rows_of rs nest)) (map (statement_calls done)
        (all_of (map table (stmts xs)) site.call (reduced_by kind) (nest ++ rs ∷ [])))) k path
    map_counts p kind rs xs nest site k e at later h path =
        let times = iteration_points nest names.lists numbers in
        let counts = map (count_at rs names.lists) times in
        let count : get_or counts k 0 ≡ count_at rs names.lists e
        = get_or_map (count_at rs names.lists) times k e 0 at in
        let ns = bounds rs e names.lists in
        let part = iteration_steps (outermost site.outer p) (within site p kind) rs
        (portions_of (map portion (stmts xs))) (value_or [] ns) frame names e in
        of_map weight form (loop_kind_of elems names kind) p (count_at rs names.lists e) _ path
        ∙ sums_same (count_at rs names.lists e) (get_or (count_rows counts) k 0) _ _ (row_kept counts k ∙ count)
        (λ t lt.
        let rows : count_rows counts ≡ counts
        = rows_kept counts k t (subst (λ n. t < n) (sym count) lt) in
        let start : get_or (starts_from 0 (count_rows counts)) k 0 ≡ begun_before k counts =
        ap (λ ns. get_or (starts_from 0 ns) k 0) rows ∙ first_start (count_at rs names.lists) times k e at in
        let found = each_at 0 (times_of ns) part
        (λ i more g. all_behind xs (within site p kind i) (in_iteration rs (value_or [] ns) i e) more g) later
        (opens_behind site.outer _ h) t lt in
        let z : 0 + t ≡ t = omega arith in
        all_count xs (nest ++ rs ∷ []) (within site p kind t) (begun_before k counts + t) (turn rs names.lists e t)
        (ap (λ ms. slice_get ms (begun_before k counts + t)) (iteration_points_deeper nest rs names.lists numbers)
        ∙ inner_at (count_at rs names.lists) (turn rs names.lists) times k t e at lt)
        found.0 (subst (λ k. AllSuit (part k found.0)) z found.1) (path ++ t ∷ [])
        ∙ ap (λ n. table_calls (stmts xs) site.call (reduced_by kind) (nest ++ rs ∷ []) (n + t) (path ++ t ∷ []))
        (sym start))

    fits_step : (y : Stmt-F Known) → Fits (roll-Stmt (map-Stmt Known Stmt (λ q. q.0) y))
    fits_step (Stmt-F.Call c) = subst Fits (sym (s.rolls-Call c)) (record {
      calls = ap (λ (p : Portion). p.calls) (portion_call c) ∙ sym (ap (λ (w : Share). w.calls) (wide_call c));
      same = ap (λ (p : Portion). p.calls) (portion_call c)
          ∙ sym (ap (λ (t : StatementTable). t.calls) (table_of_call forms frame names elems numbers c));
      behind = λ site e. subst (λ (p : Portion). Leaves (p.steps frame names site e)) (sym (portion_call c))
          (call_behind site e c (callee_of frame c.task));
      counts = λ nest site k e at later h path.
          let its = subst (λ (p : Portion). AllSuit (p.steps frame names site e later)) (portion_call c) h in
          ap (λ (w : Share). work_calls weight form (w.work other names site e) path) (wide_call c)
          ∙ (call_counts c (callee_of frame c.task) nest site k e at later its path
          ∙ sym (ap (λ (t : StatementTable). statement_calls done (t.table site.call site.reduced nest) k path)
          (table_of_call forms frame names elems numbers c)));
    })
    fits_step (Stmt-F.Map p kind rs xs) = subst Fits (sym (s.rolls-Map p kind rs (stmts xs))) (record {
      calls = ap (λ (q : Portion). q.calls) (portion_map p kind rs (stmts xs))
          ∙ (wide_calls xs ∙ sym (ap (λ (w : Share). w.calls) (wide_map p kind rs (stmts xs))));
      same = ap (λ (q : Portion). q.calls) (portion_map p kind rs (stmts xs))
          ∙ (table_has_calls xs
          ∙ sym (ap (λ (t : StatementTable). t.calls)
          (table_of_map forms frame names elems numbers p kind rs (stmts xs))));
      behind = λ site e. subst (λ (q : Portion). Leaves (q.steps frame names site e))
          (sym (portion_map p kind rs (stmts xs))) (map_behind p kind rs xs site e);
      counts = λ nest site k e at later h path.
          let its = subst (λ (q : Portion). AllSuit (q.steps frame names site e later))
          (portion_map p kind rs (stmts xs)) h in
          ap (λ (w : Share). work_calls weight form (w.work other names site e) path) (wide_map p kind rs (stmts xs))
          ∙ (map_counts p kind rs xs nest site k e at later its path
          ∙ sym (ap (λ (t : StatementTable). statement_calls done (t.table site.call site.reduced nest) k path)
          (table_of_map forms frame names elems numbers p kind rs (stmts xs))
          ∙ ap (λ (f : ℕ → List ℕ → ℕ). f k path)
          (calls_map done p (loop_kind_of elems names kind) (rows_of rs nest) (starts_from 0 (rows_of rs nest))
          (all_of (map table (stmts xs)) site.call (reduced_by kind) (nest ++ rs ∷ [])))));
    })

    fits : (x : Stmt) → Fits x
    fits = ind-Stmt Fits (λ x y is. subst (λ z. Fits (roll-Stmt z)) is (fits_step y))

    abbrev known : List Stmt → List Known
    known [] = []
    known (x ∷ xs) = (x, fits x) ∷ known xs

    known_are : (xs : List Stmt) → stmts (known xs) ≡ xs
    known_are [] = refl
    known_are (x ∷ xs) = ap (λ ys. x ∷ ys) (known_are xs)

    -- the statements of a form, with the numbers of its start
    pub list_counts : (list : List Stmt) → AllSuit (stmts_steps list frame names start numbers []) → (path : List ℕ)
        → work_calls weight form (stmts_work forms callee elems list other names start numbers) path
        ≡ all_calls (map (statement_calls done) (tables forms frame names elems numbers list)) 0 path
    list_counts list h path =
        subst (λ xs. source_calls xs start numbers path ≡ table_calls xs 0 None [] 0 path) (known_are list)
        (all_count (known list) [] start 0 numbers refl []
        (subst (λ xs. AllSuit (steps_of xs start numbers [])) (sym (known_are list)) h) path)
