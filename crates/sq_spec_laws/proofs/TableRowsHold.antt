-- The rows of a form's tables are the calls that its walk reached.
use Rattle.std.proofs.Common.{◌≡◌, ℕ, zero, suc, arith, ◌+◌, ◌<◌, ◌==◌, Bool, List, [], ◌∷◌, ◌++◌, map, slice_get, Option, Some, None, Ok, refl, sym, ap, ◌∙◌, subst, flat_map}
use Rattle.sq_num.specs.declared.Elem.{Elem}
use Rattle.sq_text.specs.declared.fault.Fault.{Fault}
use Rattle.sq_text.specs.declared.place.Place.{Place}
use Rattle.sq_text.specs.Names.{Bytes}
use Rattle.sq_ast.specs.declared.expr.ArgUse.{ArgUse}
use Rattle.sq_ast.specs.declared.program.Body.{Body}
use Rattle.sq_ast.specs.declared.program.Body.TheVariants.{Inner}
use Rattle.sq_ast.specs.declared.program.Param.{Param}
use Rattle.sq_ast.specs.declared.stmt.Call.{Call as CallStmt}
use Rattle.sq_ast.specs.declared.stmt.Range.{Range}
use Rattle.sq_ast.specs.declared.stmt.MapKind.{MapKind}
use Rattle.sq_ast.specs.declared.stmt.MapKind.TheVariants.{Par, Seq, Reduce}
use Rattle.sq_ast.specs.declared.stmt.Stmt.{Stmt, roll-Stmt}
use Rattle.sq_ast.specs.declared.stmt.Stmt.TheVariants as s
use Rattle.sq_ast.specs.declared.stmt.Stmt.TheOpen.{Stmt-F}
use Rattle.sq_ast.specs.declared.stmt.Stmt.TheFolds.{ind-Stmt, map-Stmt, fold-roll-Stmt}
use Rattle.sq_blocks.specs.Names.{Numbers}
use Rattle.sq_spec.specs.Work.declared.reduction.Reduction.{Reduction}
use Rattle.sq_spec.specs.declared.statement.LoopKind.{LoopKind}
use Rattle.sq_spec.specs.declared.statement.CallInstance.{CallInstance}
use Rattle.sq_spec.specs.declared.statement.Statement.{Statement}
use Rattle.sq_spec.specs.declared.statement.Statement.TheVariants as b
use Rattle.sq_spec.specs.declared.statement.Statement.TheOpen.{Statement-F}
use Rattle.sq_spec.specs.declared.statement.Statement.TheFolds.{fold-roll-Statement}
use Rattle.sq_forms.specs.Faults.{value_or}
use Rattle.sq_forms.specs.Steps.{Step, Part, State, Called, Forms, Opens, Counts, Tests, Calls, run, key_number}
use Rattle.sq_forms.specs.Args.{Names, use_step, arguments, args_steps}
use Rattle.sq_forms.specs.Worlds.{Frame, Callee, callee_of}
use Rattle.sq_forms.specs.Calls.{CallSite, call_of, served_steps, reached_steps}
use Rattle.sq_forms.specs.Stmts.{Walked, Portion, portion, all_of as portions_of, after_calls, bounds, times_of, in_iteration, within, each, opens, outermost, iteration_steps, map_steps, reduced_by}
use Rattle.sq_forms.specs.Resolving.{start, frame_in, body_steps}
use Rattle.sq_spec.specs.FormLaws.Reached.{calls_in, concat, text_calls, body_calls, or_zero, steps_of}
use Rattle.sq_spec.specs.Statements.{number_or, starts_from, iteration_points, count_at, count_rows, call_instance, loop_kind_of, StatementTable, all_of, call_table, table_of, elems_of}
use Rattle.sq_spec_laws.specs.TableRows.{Table, red_of, all_tables, tables_step, tables_of, Summed, all_summed, summed_step, summed, SumIs, RowIsReached, TableIsReached, OfText, RowsAreReached}
use Rattle.sq_forms.specs.Decls.{Scope}
use Rattle.sq_spec.proofs.FormLaws.AllHold.{within_list}
use Rattle.sq_spec.proofs.FormLaws.EachCall.{AllIn, all_front, all_back, text_call, text_map, InText, each_in_text}
use Rattle.sq_spec.proofs.FormLaws.FormsHold.{each_walked}
use Rattle.sq_spec.proofs.OpenedStatement.{table_of_call, table_of_map, same_calls}
use Rattle.sq_forms.proofs.OpenedStmt.{portion_call, portion_map}
use Rattle.sq_spec.proofs.FormLaws.Passing.{past_count, past_test, past_call, call_reached}
use Rattle.sq_spec.proofs.FormLaws.RanHold.{few_found, begun_state, walk_opened}
use Rattle.sq_spec.proofs.TablesMean.{turn, turns_of, iteration_points_deeper}

-- ---- lists

-- what a mapped list has at a place
of_map : {A B : Type 0} (f : A → B) (xs : List A) (i : ℕ) (y : B) → slice_get (map f xs) i ≡ Some y → (a : A) × (slice_get xs i ≡ Some a) × (f a ≡ y)
of_map f [] i y h = absurd (cc h)
of_map f (x ∷ xs) zero y h = (x, refl, cc h)
of_map f (x ∷ xs) (suc i) y h = of_map f xs i y h

-- where it is in two lists
data Part_ {A : Type 0} (xs ys : List A) (y : A) : Type 0 where
  front : (i : ℕ) → slice_get xs i ≡ Some y → Part_ xs ys y
  back : (i : ℕ) → slice_get ys i ≡ Some y → Part_ xs ys y

further : {A : Type 0} (x : A) (xs ys : List A) (y : A) → Part_ xs ys y → Part_ (x ∷ xs) ys y
further x xs ys y (front i h) = front (suc i) h
further x xs ys y (back i h) = back i h

in_parts : {A : Type 0} (xs ys : List A) (i : ℕ) (y : A) → slice_get (xs ++ ys) i ≡ Some y → Part_ xs ys y
in_parts [] ys i y h = back i h
in_parts (x ∷ xs) ys zero y h = front 0 h
in_parts (x ∷ xs) ys (suc i) y h = further x xs ys y (in_parts xs ys i y h)

-- an item of which it is a part
record OfFlat {A B : Type 0} (f : A → List B) (xs : List A) (y : B) : Type 0 where
  index : ℕ
  item : A
  there : slice_get xs index ≡ Some item
  place : ℕ
  is : slice_get (f item) place ≡ Some y

of_flat : {A B : Type 0} (f : A → List B) (xs : List A) (i : ℕ) (y : B) → slice_get (flat_map f xs) i ≡ Some y → OfFlat f xs y
of_flat f [] i y h = absurd (cc h)
of_flat f (x ∷ xs) i y h = by (in_parts (f x) (flat_map f xs) i y h) (λ k g. of_flat f xs k y g)
  where
    by : Part_ (f x) (flat_map f xs) y → ((k : ℕ) → slice_get (flat_map f xs) k ≡ Some y → OfFlat f xs y) → OfFlat f (x ∷ xs) y
    by (front k g) rest = record { index = 0; item = x; there = refl; place = k; is = g }
    by (back k g) rest = let r = rest k g in record { index = suc r.index; item = r.item; there = r.there; place = r.place; is = r.is }

-- an iteration of which it is
record OfSingles {A : Type 0} (n : ℕ) (f : ℕ → A) (from : ℕ) (y : A) : Type 0 where
  t : ℕ
  less : t < n
  is : f (from + t) ≡ y

of_singles : {A : Type 0} (from n : ℕ) (f : ℕ → A) (i : ℕ) (y : A) → slice_get (Rattle.sq_spec.specs.Statements.over from n (λ t. f t ∷ [])) i ≡ Some y → OfSingles n f from y
of_singles from zero f i y h = absurd (cc h)
of_singles from (suc n) f zero y h =
    let first : f from ≡ y = cc h in
    record { t = 0; less = omega arith; is = ap f (let z : from + 0 ≡ from = omega arith in z) ∙ first }
of_singles from (suc n) f (suc i) y h =
    let r = of_singles (from + 1) n f i y h in
    record { t = suc r.t; less = omega (arith, r.less); is = ap f (let z : from + suc r.t ≡ from + 1 + r.t = omega arith in z) ∙ r.is }

-- ---- equations of the folds

pub summed_call : (c : CallStmt) → summed (s.Call c) ≡ summed_step (Stmt-F.Call c)
summed_call c = ap summed (sym (s.rolls-Call c)) ∙ fold-roll-Stmt (Option Bytes → List Summed) summed_step (Stmt-F.Call c)

pub summed_map : (p : Place) (k : MapKind) (rs : List Range) (xs : List Stmt) → summed (s.Map p k rs xs) ≡ summed_step (Stmt-F.Map p k rs (map summed xs))
summed_map p k rs xs = ap summed (sym (s.rolls-Map p k rs xs)) ∙ fold-roll-Stmt (Option Bytes → List Summed) summed_step (Stmt-F.Map p k rs xs)

pub tables_call : (lower : Bool) (times : List CallInstance) → tables_of (b.Call lower times) ≡ tables_step (Statement-F.Call lower times)
tables_call lower times = ap tables_of (sym (b.rolls-Call lower times)) ∙ fold-roll-Statement (Option Reduction → List Table) tables_step (Statement-F.Call lower times)

pub tables_map : (place : Place) (m : LoopKind) (counts starts : List ℕ) (body : List Statement) → tables_of (b.Map place m counts starts body)
    ≡ tables_step (Statement-F.Map place m counts starts (map tables_of body))
tables_map place m counts starts body = ap tables_of (sym (b.rolls-Map place m counts starts body))
    ∙ fold-roll-Statement (Option Reduction → List Table) tables_step (Statement-F.Map place m counts starts body)

same_number : (o : Option ℕ) → number_or o ≡ or_zero o
same_number None = refl
same_number (Some n) = refl

-- ---- steps that go through, and whose calls are among these

record Among (calls : List Called) (c : Called) : Type 0 where
  index : ℕ
  there : slice_get calls index ≡ Some c

module _ (end : State) (calls : List Called) where
  record Goes (l : List Step) : Type 0 where
    state : State
    ran : run state l ≡ Ok end
    each : (i : ℕ) (c : Called) → slice_get (calls_in l) i ≡ Some c → Among calls c

  past_opens : (l : List Step) → Goes (Opens ∷ l) → Goes l
  past_opens l h = record { state = _; ran = h.ran; each = h.each }

  past_counts : (place : Place) (l : List Step) → Goes (Counts place ∷ l) → Goes l
  past_counts place l h = let p = past_count h.state end place l h.ran in record { state = p.0; ran = p.1; each = h.each }

  past_tests : (o : Option Fault) (l : List Step) → Goes (Tests o ∷ l) → Goes l
  past_tests o l h = record { state = h.state; ran = (past_test h.state end o l h.ran).1; each = h.each }

  past_calls : (c : Called) (l : List Step) → Goes (Calls c ∷ l) → Goes l
  past_calls c l h = let p = past_call h.state end c l h.ran in record { state = p.0; ran = p.1; each = λ i d e. h.each (suc i) d e }

  abbrev Leaves : Part → Type 0
  Leaves part = (later : List Step) → Goes (part later) → Goes later

  used_behind : (outer : Option Place) → Leaves (use_step outer)
  used_behind None later h = h
  used_behind (Some place) later h = past_counts place later h

  opens_behind : (outer : Option Place) → Leaves (opens outer)
  opens_behind None later h = past_opens later h
  opens_behind (Some place) later h = h

  args_behind : (outer : Option Place) (names : Names) (numbers : Numbers) (reduced : Option Bytes) (params : List Param) (i : ℕ) (args : List ArgUse)
      → Leaves (args_steps outer names numbers reduced params i args)
  args_behind outer names numbers reduced params i [] later h = h
  args_behind outer names numbers reduced params i (a ∷ rest) later h =
      args_behind outer names numbers reduced params (i + 1) rest later (past_tests _ _ (used_behind outer _ h))

  each_behind : (t n : ℕ) (part : ℕ → Part) → ((i : ℕ) → Leaves (part i)) → Leaves (each t n part)
  each_behind t zero part leaves later h = h
  each_behind t (suc n) part leaves later h = each_behind (t + 1) n part leaves later (leaves t _ h)

  each_at : (t n : ℕ) (part : ℕ → Part) → ((i : ℕ) → Leaves (part i)) → (later : List Step) → Goes (each t n part later)
      → (i : ℕ) → i < n → (more : List Step) × Goes (part (t + i) more)
  each_at t zero part leaves later h i lt = absurd (omega (arith, lt))
  each_at t (suc n) part leaves later h zero lt =
      let e : t ≡ t + 0 = omega arith in (each (t + 1) n part later, subst (λ k. Goes (part k (each (t + 1) n part later))) e h)
  each_at t (suc n) part leaves later h (suc i) lt =
      let found = each_at (t + 1) n part leaves later (leaves t _ h) i (omega (arith, lt)) in
      let e : t + 1 + i ≡ t + suc i = omega arith in
      (found.0, subst (λ k. Goes (part k found.0)) e found.1)

  module _ (forms : Forms) (frame : Frame) (names : Names) (elems : List Elem) (numbers : Numbers) (text : List CallStmt) where
    abbrev table : Stmt → StatementTable
    table = table_of forms frame names elems numbers

    abbrev ReachedSo : Table → Summed → Type 0
    ReachedSo t p = TableIsReached frame names elems text calls forms t p

    -- tables and calls of the text, one by one
    abbrev Linked : List Table → List Summed → Type 0
    Linked [] [] = Unit {0}
    Linked [] (p ∷ ps) = ⊥
    Linked (t ∷ ts) [] = ⊥
    Linked (t ∷ ts) (p ∷ ps) = ReachedSo t p × Linked ts ps

    linked_both : (ts us : List Table) (ps qs : List Summed) → Linked ts ps → Linked us qs → Linked (ts ++ us) (ps ++ qs)
    linked_both [] us [] qs g h = h
    linked_both [] us (p ∷ ps) qs g h = absurd g
    linked_both (t ∷ ts) us [] qs g h = absurd g
    linked_both (t ∷ ts) us (p ∷ ps) qs g h = (g.0, linked_both ts us ps qs g.1 h)

    linked_at : (ts : List Table) (ps : List Summed) → Linked ts ps → (i : ℕ) (t : Table) → slice_get ts i ≡ Some t
        → OfText frame names elems text calls forms ps i t
    linked_at [] [] g i t h = absurd (cc h)
    linked_at [] (p ∷ ps) g i t h = absurd g
    linked_at (u ∷ ts) [] g i t h = absurd g
    linked_at (u ∷ ts) (p ∷ ps) g zero t h = let is : u ≡ t = cc h in record { pair = p; there = refl; reached = subst (λ w. ReachedSo w p) is g.0 }
    linked_at (u ∷ ts) (p ∷ ps) g (suc i) t h = let r = linked_at ts ps g.1 i t h in record { pair = r.pair; there = r.there; reached = r.reached }

    -- a part of the walk begins with these numbers
    record Starts (call : ℕ) (reduced : Option Bytes) (steps : Walked) (e : Numbers) : Type 0 where
      site : CallSite
      call_is : site.call ≡ call
      reduced_is : site.reduced ≡ reduced
      later : List Step
      goes : Goes (steps frame names site e later)

    -- and it does each time
    abbrev AtEach : ℕ → Option Bytes → List (List Range) → Walked → Type 0
    AtEach call reduced nest steps = (j : ℕ) (e : Numbers) → slice_get (iteration_points nest names.lists numbers) j ≡ Some e → Starts call reduced steps e

    record Good (p : Portion) (q : StatementTable) (ps : Option Bytes → List Summed) : Type 0 where
      same : q.calls ≡ p.calls
      behind : (site : CallSite) (e : Numbers) → Leaves (p.steps frame names site e)
      rows : (call : ℕ) (reduced : Option Bytes) (red : Option Reduction) (nest : List (List Range)) → SumIs elems names red reduced
          → AtEach call reduced nest p.steps → Linked (tables_of (q.table call reduced nest) red) (ps reduced)

    abbrev OfStmt : Stmt → Type 0
    OfStmt x = AllIn (InText text) (text_calls x) → Good (portion x) (table x) (summed x)

    abbrev S : Type 0
    S = (x : Stmt) × OfStmt x

    abbrev stmts : List S → List Stmt
    stmts = map (λ (q : S). q.0)

    all_behind : (xs : List S) → AllIn (InText text) (concat (map text_calls (stmts xs))) → (site : CallSite) (e : Numbers)
        → Leaves (portions_of (map portion (stmts xs)) frame names site e)
    all_behind [] m site e later h = h
    all_behind (x ∷ xs) m site e later h =
        let rest = concat (map text_calls (stmts xs)) in
        all_behind xs (all_back (InText text) (text_calls x.0) rest m) (after_calls site (portion x.0).calls) e later
        ((x.1 (all_front (InText text) (text_calls x.0) rest m)).behind site e _ h)

    all_rows : (xs : List S) → AllIn (InText text) (concat (map text_calls (stmts xs))) → (call : ℕ) (reduced : Option Bytes) (red : Option Reduction)
        (nest : List (List Range)) → SumIs elems names red reduced → AtEach call reduced nest (portions_of (map portion (stmts xs)))
        → Linked (all_tables (map tables_of (all_of (map table (stmts xs)) call reduced nest)) red) (all_summed (map summed (stmts xs)) reduced)
    all_rows [] m call reduced red nest sum at = tt
    all_rows (x ∷ xs) m call reduced red nest sum at =
        let rest = concat (map text_calls (stmts xs)) in
        let own = x.1 (all_front (InText text) (text_calls x.0) rest m) in
        linked_both (tables_of ((table x.0).table call reduced nest) red) _ (summed x.0 reduced) _
        (own.rows call reduced red nest sum (λ j e g. let a = at j e g in record { site = a.site; call_is = a.call_is; reduced_is = a.reduced_is; later = _; goes = a.goes }))
        (all_rows xs (all_back (InText text) (text_calls x.0) rest m) (call + (table x.0).calls) reduced red nest sum
        (λ j e g.
        let a = at j e g in
        let back = sym own.same in
        record {
          site = after_calls a.site (portion x.0).calls;
          call_is = (λ i. a.call_is i + back i);
          reduced_is = a.reduced_is;
          later = a.later;
          goes = own.behind a.site e _ a.goes;
        }))

    -- ---- a call

    call_behind : (site : CallSite) (e : Numbers) (c : CallStmt) (o : Option Callee) → Leaves (served_steps frame names site e c o)
    call_behind site e c None later h = h
    call_behind site e c (Some its) later h =
        let xs = arguments names e site.reduced its.params 0 c.args in
        past_calls _ _ (past_tests _ _ (past_tests _ _ (past_tests _ _ (args_behind site.outer names e site.reduced its.params 0 c.args (reached_steps frame its site c xs later) h))))

    abbrev Served : CallStmt → Option Callee → Walked
    Served c o = λ fr ns site e. served_steps fr ns site e c o

    call_row : (c : CallStmt) (its : Callee) → InText text c → callee_of frame c.task ≡ Some its → (call : ℕ) (reduced_ : Option Bytes) (e : Numbers)
        → Starts call reduced_ (λ fr ns site n. served_steps frame names site n c (Some its)) e → (q : CallInstance)
        → call_instance forms frame names call reduced_ its c.args e ≡ q
        → RowIsReached frame names text calls forms reduced_ c (its.level == suc frame.level) q
    call_row c its m serves call reduced_ e a q is =
        let site = a.site in
        let xs = arguments names e site.reduced its.params 0 c.args in
        let made = call_of frame its site c xs in
        let goes = args_behind site.outer names e site.reduced its.params 0 c.args (reached_steps frame its site c xs a.later) a.goes in
        let b = (call_reached frame names text site e c its a.later m serves a.goes.state end a.goes.ran).reaches in
        let own : call_instance forms frame names site.call site.reduced its c.args e ≡ q = (λ i. call_instance forms frame names (a.call_is i) (a.reduced_is i) its c.args e) ∙ is in
        let among = goes.each 0 made refl in
        record {
          index = among.index;
          call = made;
          there = among.there;
          reached = b.reached;
          stmt = b.stmt;
          sum = ap (λ (x : CallSite). x.reduced) b.spot_ ∙ a.reduced_is;
          args = sym (ap (λ (x : CallInstance). x.args) own) ∙ sym b.args;
          form = sym (ap (λ (x : CallInstance). x.form) own) ∙ same_number (key_number forms made.key);
          level = sym (ap (λ (x : Callee). x.level == suc frame.level) b.callee_);
        }

    call_linked : (c : CallStmt) (o : Option Callee) → InText text c → callee_of frame c.task ≡ o → (call : ℕ) (reduced_ : Option Bytes) (red : Option Reduction)
        (nest : List (List Range)) → SumIs elems names red reduced_ → AtEach call reduced_ nest (λ fr ns site n. served_steps frame names site n c o)
        → Linked (tables_of (call_table forms frame names elems numbers c o call reduced_ nest) red) ((reduced_, c) ∷ [])
    call_linked c None m serves call reduced_ red nest sum at =
        subst (λ (f : Option Reduction → List Table). Linked (f red) ((reduced_, c) ∷ [])) (sym (tables_call _ []))
        (record { sum = sum; rows = λ j q h. absurd (cc h) }, tt)
    call_linked c (Some its) m serves call reduced_ red nest sum at =
        let row : Numbers → CallInstance = call_instance forms frame names call reduced_ its c.args in
        let ms = iteration_points nest names.lists numbers in
        subst (λ (f : Option Reduction → List Table). Linked (f red) ((reduced_, c) ∷ [])) (sym (tables_call (its.level == suc frame.level) (map row ms))) (
          record {
            sum = sum;
            rows = λ j q h. let r = of_map row ms j q h in call_row c its m serves call reduced_ r.0 (at j r.0 r.1) q r.2;
          },
          tt,
        )

    call_good : (c : CallStmt) → OfStmt (s.Call c)
    call_good c m =
        let own : AllIn (InText text) (c ∷ []) = subst (AllIn (InText text)) (text_call c) m in
        let steps : portion (s.Call c) ≡ _ = portion_call c in
        record {
          same = same_calls forms frame names elems numbers (s.Call c);
          behind = λ site e. subst (λ (p : Portion). Leaves (p.steps frame names site e)) (sym steps) (call_behind site e c (callee_of frame c.task));
          rows = λ call reduced_ red nest sum at.
              let to : AtEach call reduced_ nest (λ fr ns site n. served_steps frame names site n c (callee_of frame c.task)) =
              λ j e g. let a = at j e g in record {
                site = a.site;
                call_is = a.call_is;
                reduced_is = a.reduced_is;
                later = a.later;
                goes = subst (λ (p : Portion). Goes (p.steps frame names a.site e a.later)) steps a.goes;
              } in
              subst (λ (t : StatementTable). Linked (tables_of (t.table call reduced_ nest) red) (summed (s.Call c) reduced_)) (sym (table_of_call forms frame names elems numbers c))
              (subst (λ (f : Option Bytes → List Summed). Linked (tables_of (call_table forms frame names elems numbers c (callee_of frame c.task) call reduced_ nest) red) (f reduced_)) (sym (summed_call c))
              (call_linked c (callee_of frame c.task) own.0 refl call reduced_ red nest sum to));
        }

    -- ---- a map

    sum_is : (kind : MapKind) → SumIs elems names (red_of (loop_kind_of elems names kind)) (reduced_by kind)
    sum_is Par = tt
    sum_is Seq = tt
    sum_is (Reduce op array) = (refl, refl)

    map_behind : (p : Place) (kind : MapKind) (rs : List Range) (xs : List S) → AllIn (InText text) (concat (map text_calls (stmts xs))) → (site : CallSite) (e : Numbers)
        → Leaves (map_steps p kind rs (portions_of (map portion (stmts xs))) frame names site e)
    map_behind p kind rs xs m site e later h =
        let ns = bounds rs e names.lists in
        each_behind 0 (times_of ns) (iteration_steps (outermost site.outer p) (within site p kind) rs (portions_of (map portion (stmts xs))) (value_or [] ns) frame names e)
        (λ t more g. all_behind xs m (within site p kind t) (in_iteration rs (value_or [] ns) t e) more (past_counts _ _ g)) later (past_tests _ _ (opens_behind site.outer _ h))

    -- an iteration of the map begins with these numbers
    turn_starts : (p : Place) (kind : MapKind) (rs : List Range) (xs : List S) → AllIn (InText text) (concat (map text_calls (stmts xs))) → (site : CallSite) (e : Numbers) (later : List Step)
        → Goes (map_steps p kind rs (portions_of (map portion (stmts xs))) frame names site e later) → (t : ℕ) → t < count_at rs names.lists e
        → Starts site.call (reduced_by kind) (portions_of (map portion (stmts xs))) (turn rs names.lists e t)
    turn_starts p kind rs xs m site e later h t lt =
        let ns = bounds rs e names.lists in
        let part = iteration_steps (outermost site.outer p) (within site p kind) rs (portions_of (map portion (stmts xs))) (value_or [] ns) frame names e in
        let found = each_at 0 (times_of ns) part (λ i more g. all_behind xs m (within site p kind i) (in_iteration rs (value_or [] ns) i e) more (past_counts _ _ g)) later
        (past_tests _ _ (opens_behind site.outer _ h)) t lt in
        let z : 0 + t ≡ t = omega arith in
        record {
          site = within site p kind t;
          call_is = refl;
          reduced_is = refl;
          later = found.0;
          goes = past_counts _ _ (subst (λ k. Goes (part k found.0)) z found.1);
        }

    deeper_starts : (p : Place) (kind : MapKind) (rs : List Range) (xs : List S) → AllIn (InText text) (concat (map text_calls (stmts xs))) → (call : ℕ) (reduced_ : Option Bytes)
        (nest : List (List Range)) → AtEach call reduced_ nest (map_steps p kind rs (portions_of (map portion (stmts xs))))
        → AtEach call (reduced_by kind) (nest ++ rs ∷ []) (portions_of (map portion (stmts xs)))
    deeper_starts p kind rs xs m call reduced_ nest at j e g =
        let steps = portions_of (map portion (stmts xs)) in
        let f = of_flat (turns_of rs names.lists) (iteration_points nest names.lists numbers) j e (sym (ap (λ ms. slice_get ms j) (iteration_points_deeper nest rs names.lists numbers)) ∙ g) in
        let o = of_singles 0 (count_at rs names.lists f.item) (turn rs names.lists f.item) f.place e f.is in
        let z : 0 + o.t ≡ o.t = omega arith in
        let a = at f.index f.item f.there in
        let b = turn_starts p kind rs xs m a.site f.item a.later a.goes o.t o.less in
        let is : turn rs names.lists f.item o.t ≡ e = sym (ap (turn rs names.lists f.item) z) ∙ o.is in
        subst (Starts call (reduced_by kind) steps) is
        (record { site = b.site; call_is = b.call_is ∙ a.call_is; reduced_is = b.reduced_is; later = b.later; goes = b.goes })

    map_good : (p : Place) (kind : MapKind) (rs : List Range) (xs : List S) → OfStmt (s.Map p kind rs (stmts xs))
    map_good p kind rs xs m =
        let ys = stmts xs in
        let own : AllIn (InText text) (concat (map text_calls ys)) = subst (AllIn (InText text)) (text_map p kind rs ys) m in
        let steps : portion (s.Map p kind rs ys) ≡ _ = portion_map p kind rs ys in
        record {
          same = same_calls forms frame names elems numbers (s.Map p kind rs ys);
          behind = λ site e. subst (λ (q : Portion). Leaves (q.steps frame names site e)) (sym steps) (map_behind p kind rs xs own site e);
          rows = λ call reduced_ red nest sum at.
              let times = iteration_points nest names.lists numbers in
              let counts = count_rows (map (count_at rs names.lists) times) in
              let inside = all_of (map table ys) call (reduced_by kind) (nest ++ rs ∷ []) in
              let to : AtEach call reduced_ nest (map_steps p kind rs (portions_of (map portion ys))) =
              λ j e g. let a = at j e g in record {
                site = a.site;
                call_is = a.call_is;
                reduced_is = a.reduced_is;
                later = a.later;
                goes = subst (λ (q : Portion). Goes (q.steps frame names a.site e a.later)) steps a.goes;
              } in
              subst (λ (t : StatementTable). Linked (tables_of (t.table call reduced_ nest) red) (summed (s.Map p kind rs ys) reduced_)) (sym (table_of_map forms frame names elems numbers p kind rs ys))
              (subst (λ (f : Option Reduction → List Table). Linked (f red) (summed (s.Map p kind rs ys) reduced_)) (sym (tables_map p (loop_kind_of elems names kind) counts (starts_from 0 counts) inside))
              (subst (λ (f : Option Bytes → List Summed). Linked (all_tables (map tables_of inside) (red_of (loop_kind_of elems names kind))) (f reduced_)) (sym (summed_map p kind rs ys))
              (all_rows xs own call (reduced_by kind) (red_of (loop_kind_of elems names kind)) (nest ++ rs ∷ []) (sum_is kind) (deeper_starts p kind rs xs own call reduced_ nest to))));
        }

    good_step : (y : Stmt-F S) → OfStmt (roll-Stmt (map-Stmt S Stmt (λ p. p.0) y))
    good_step (Stmt-F.Call c) = subst OfStmt (sym (s.rolls-Call c)) (call_good c)
    good_step (Stmt-F.Map p kind rs xs) = subst OfStmt (sym (s.rolls-Map p kind rs (stmts xs))) (map_good p kind rs xs)

    good_stmt : (x : Stmt) → OfStmt x
    good_stmt = ind-Stmt OfStmt (λ x y is. subst (λ z. OfStmt (roll-Stmt z)) is (good_step y))

    abbrev known : List Stmt → List S
    known [] = []
    known (x ∷ xs) = (x, good_stmt x) ∷ known xs

    known_are : (xs : List Stmt) → stmts (known xs) ≡ xs
    known_are [] = refl
    known_are (x ∷ xs) = ap (λ ys. x ∷ ys) (known_are xs)

    -- all of a form's statements
    list_linked : (list : List Stmt) → AllIn (InText text) (concat (map text_calls list)) → Goes (portions_of (map portion list) frame names start numbers [])
        → Linked (all_tables (map tables_of (all_of (map table list) 0 None [])) None) (all_summed (map summed list) None)
    list_linked list m h =
        subst (λ xs. Linked (all_tables (map tables_of (all_of (map table xs) 0 None [])) None) (all_summed (map summed xs) None)) (known_are list)
        (all_rows (known list) (subst (λ xs. AllIn (InText text) (concat (map text_calls xs))) (sym (known_are list)) m) 0 None None [] tt
        (λ j e g. first j e g (subst (λ xs. Goes (portions_of (map portion xs) frame names start numbers [])) (sym (known_are list)) h)))
      where
        first : {steps : Walked} (j : ℕ) (e : Numbers) → slice_get (numbers ∷ []) j ≡ Some e → Goes (steps frame names start numbers []) → Starts 0 None steps e
        first {steps} zero e g k = let is : numbers ≡ e = cc g in subst (Starts 0 None steps) is (record { site = start; call_is = refl; reduced_is = refl; later = []; goes = k })
        first (suc j) e g k = absurd (cc g)

pub rows_are_reached : RowsAreReached
rows_are_reached variants mapping r h k form x v start_ at there runs binds ran list body i t g =
    let instances = mapping.instances in
    let f = form.1 in
    let less = within_list r.found k form at in
    let w = each_walked variants mapping r h k form (omega (arith, less, few_found variants mapping r h)) at in
    let o = walk_opened variants instances k f w.before x v start_ w.done there runs binds w.walked in
    let frame = frame_in variants instances x k f in
    let scope = ran.scope in
    let same : o.scope ≡ scope = let z : Ok o.scope ≡ Ok scope = sym o.declared ∙ ran.declared in cc z in
    let calls = calls_in (steps_of variants instances x v k f scope) in
    let went : run (begun_state w.before) (body_steps v.body frame scope) ≡ Ok o.state = subst (λ (z : Scope). run (begun_state w.before) (body_steps v.body frame z) ≡ Ok o.state) same o.ran in
    let text = body_calls v.body in
    let goes : Goes o.state calls (body_steps v.body frame scope) = record { state = begun_state w.before; ran = went; each = λ j c e. record { index = j; there = e } } in
    let goes_list : Goes o.state calls (body_steps (Inner list) frame scope) = subst (λ (z : Body). Goes o.state calls (body_steps z frame scope)) body goes in
    let in_text : AllIn (InText text) (concat (map text_calls list)) = subst (λ (z : Body). AllIn (InText text) (body_calls z)) body (each_in_text text) in
    linked_at o.state calls r.found frame scope.names (elems_of v scope) scope.numbers text _ _
    (list_linked o.state calls r.found frame scope.names (elems_of v scope) scope.numbers text list in_text goes_list) i t g
