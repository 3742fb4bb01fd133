-- The tables of a form's statements, by how often they are begun.
use Rattle.std.proofs.Common.{◌≡◌, ℕ, zero, suc, arith, ◌+◌, ◌<◌, ◌≤◌, ◌==◌, Bool, true, false, List, [], ◌∷◌, ◌++◌}
use Rattle.std.proofs.Common.{map, length, get_or, slice_get, Option, Some, None, refl, sym, ap, ◌∙◌, subst, inl, inr}
use Rattle.sq_num.specs.declared.Elem.{Elem}
use Rattle.sq_text.specs.declared.place.Place.{Place}
use Rattle.sq_text.specs.Names.{Bytes}
use Rattle.sq_ast.specs.declared.stmt.Call.{Call as CallStmt}
use Rattle.sq_ast.specs.declared.stmt.Range.{Range}
use Rattle.sq_ast.specs.declared.stmt.MapKind.{MapKind}
use Rattle.sq_ast.specs.declared.stmt.Stmt.{Stmt, roll-Stmt}
use Rattle.sq_ast.specs.declared.stmt.Stmt.TheVariants as s
use Rattle.sq_ast.specs.declared.stmt.Stmt.TheOpen.{Stmt-F}
use Rattle.sq_ast.specs.declared.stmt.Stmt.TheFolds.{ind-Stmt, map-Stmt, fold-roll-Stmt}
use Rattle.sq_blocks.specs.Names.{Numbers}
use Rattle.sq_spec.specs.declared.statement.CallInstance.{CallInstance}
use Rattle.sq_spec.specs.declared.statement.Statement.{Statement}
use Rattle.sq_forms.specs.Steps.{Forms}
use Rattle.sq_forms.specs.Args.{Names}
use Rattle.sq_forms.specs.Worlds.{Frame, Callee}
use Rattle.sq_forms.specs.Stmts.{reduced_by}
use Rattle.sq_spec.specs.Statements.{starts_from, iteration_points, count_at, has_iterations, rows_if, count_rows}
use Rattle.sq_spec.specs.Statements.{call_instance, loop_kind_of, StatementTable, all_of, call_table, table_of}
use Rattle.sq_spec.specs.FormLaws.Reached.{concat, text_calls}
use Rattle.sq_spec.proofs.FormLaws.EachCall.{AllIn, all_front, all_back, text_call, text_map}
use Rattle.sq_spec.proofs.OpenedStatement.{table_of_call, table_of_map}
use Rattle.sq_spec.proofs.Rows.{row_kept, rows_kept, begun_before, get_or_map, inner_at}
use Rattle.sq_spec.proofs.TablesMean.{turn, iteration_points_deeper, first_start}
use Rattle.sq_term_laws.specs.Fits.{Bounds, AskedOfStatement, HaveCounts, all_parts, Tabled}
use Rattle.sq_term_laws.proofs.Chains.{tabled_call, tabled_map}
use Rattle.sq_term_laws.specs.Begun.{Nest, joined, nests_step, nests_of, times_begun, AreFew, IsServed, TablesAreBegun}

-- ---- lists

append_joins : {A : Type 0} (xs ys zs : List A) → (xs ++ ys) ++ zs ≡ xs ++ (ys ++ zs)
append_joins [] ys zs = refl
append_joins (x ∷ xs) ys zs = ap (λ l. x ∷ l) (append_joins xs ys zs)

length_map : {A B : Type 0} (f : A → B) (xs : List A) → length (map f xs) ≡ length xs
length_map f [] = refl
length_map f (x ∷ xs) = ap suc (length_map f xs)

length_starts : (n : ℕ) (counts : List ℕ) → length (starts_from n counts) ≡ length counts
length_starts n [] = refl
length_starts n (x ∷ counts) = ap suc (length_starts (n + x) counts)

there : {A : Type 0} (xs : List A) (k : ℕ) → k < length xs → (x : A) × (slice_get xs k ≡ Some x)
there [] k lt = absurd (omega (arith, lt))
there (x ∷ xs) zero lt = (x, refl)
there (x ∷ xs) (suc k) lt = there xs k (omega (arith, lt))

inside : {A : Type 0} (xs : List A) (k : ℕ) (x : A) → slice_get xs k ≡ Some x → k < length xs
inside [] k x h = absurd (cc h)
inside (y ∷ xs) zero x h = omega arith
inside (y ∷ xs) (suc k) x h = let l = inside xs k x h in omega (arith, l)

-- a row that counts something is there
counted_there : (counts : List ℕ) (k t : ℕ) → t < get_or counts k 0 → k < length counts
counted_there [] zero t lt = omega (arith, lt)
counted_there [] (suc k) t lt = omega (arith, lt)
counted_there (x ∷ counts) zero t lt = omega arith
counted_there (x ∷ counts) (suc k) t lt = let l = counted_there counts k t lt in omega (arith, l)

-- ---- maps that stand in a statement

pub nests_call : (c : CallStmt) → nests_of (s.Call c) ≡ []
nests_call c = ap nests_of (sym (s.rolls-Call c)) ∙ fold-roll-Stmt (List Nest) nests_step (Stmt-F.Call c)

pub nests_map : (p : Place) (k : MapKind) (rs : List Range) (xs : List Stmt)
    → nests_of (s.Map p k rs xs) ≡ map (λ n. rs ∷ n) ([] ∷ joined (map nests_of xs))
nests_map p k rs xs = ap nests_of (sym (s.rolls-Map p k rs xs))
    ∙ fold-roll-Stmt (List Nest) nests_step (Stmt-F.Map p k rs xs)

module _ (most : ℕ) (names : Names) (numbers : Numbers) where
  abbrev Few : Nest → List Nest → Type 0
  Few = AreFew most names numbers

  few_front : (outer : Nest) (xs ys : List Nest) → Few outer (xs ++ ys) → Few outer xs
  few_front outer [] ys h = tt
  few_front outer (x ∷ xs) ys h = (h.0, few_front outer xs ys h.1)

  few_back : (outer : Nest) (xs ys : List Nest) → Few outer (xs ++ ys) → Few outer ys
  few_back outer [] ys h = h
  few_back outer (x ∷ xs) ys h = few_back outer xs ys h.1

  few_deeper : (outer : Nest) (rs : List Range) (ns : List Nest) → Few outer (map (λ n. rs ∷ n) ns)
      → Few (outer ++ rs ∷ []) ns
  few_deeper outer rs [] h = tt
  few_deeper outer rs (n ∷ ns) h = (
    subst (λ z. times_begun names numbers z ≤ most) (sym (append_joins outer (rs ∷ []) n)) h.0,
    few_deeper outer rs
        ns h.1,
  )

-- ---- tables

module _ (most : Bounds) (last : ℕ) (forms : Forms) (frame : Frame) (names : Names) (elems : List Elem)
    (numbers : Numbers) where
  abbrev table : Stmt → StatementTable
  table = table_of forms frame names elems numbers

  abbrev Served : CallStmt → Type 0
  Served = IsServed frame last

  abbrev few : Nest → List Nest → Type 0
  few = AreFew most.uses names numbers

  abbrev times : Nest → ℕ
  times = times_begun names numbers

  abbrev Asked : Statement → AskedOfStatement
  Asked = Tabled most last frame.level

  abbrev Begun : List Nest → StatementTable → Type 0
  Begun nests t = (call : ℕ) (reduced : Option Bytes) (nest : Nest) → few nest nests → times nest ≤ most.uses
      → Asked (t.table call reduced nest) (times nest)

  abbrev OfStmt : Stmt → Type 0
  OfStmt x = AllIn Served (text_calls x) → Begun (nests_of x) (table x)

  abbrev S : Type 0
  S = (x : Stmt) × OfStmt x

  abbrev stmts : List S → List Stmt
  stmts = map (λ (q : S). q.0)

  all_begun : (xs : List S) → AllIn Served (concat (map text_calls (stmts xs)))
      → (call : ℕ) (reduced : Option Bytes) (nest : Nest)
      → few nest (joined (map nests_of (stmts xs))) → times nest ≤ most.uses
      → all_parts Asked (all_of (map table (stmts xs)) call reduced nest) (times nest)
  all_begun [] h call reduced nest f small = tt
  all_begun (x ∷ xs) h call reduced nest f small =
      let rest = concat (map text_calls (stmts xs)) in
      let more = joined (map nests_of (stmts xs)) in (
        x.1 (all_front Served (text_calls x.0) rest h) call reduced nest
            (few_front most.uses names numbers nest (nests_of x.0) more f) small,
        all_begun xs (all_back Served (text_calls x.0) rest h) (call + (table x.0).calls) reduced nest
            (few_back most.uses names numbers nest (nests_of x.0) more f) small,
      )

  call_by : (c : CallStmt) (its : Callee) → ((its.level == suc frame.level) ≡ true → frame.level < last)
      → (call : ℕ) (reduced : Option Bytes) (nest : Nest)
      → times nest ≤ most.uses → Asked (call_table forms frame names elems numbers c (Some its) call reduced nest)
      (times nest)
  call_by c its deep call reduced nest small =
      let row : Numbers → CallInstance = call_instance forms frame names call reduced its c.args in
      let points = iteration_points nest names.lists numbers in
      let long = length_map row points in
      subst (λ (f : AskedOfStatement). f (times nest))
      (sym (tabled_call most last frame.level (its.level == suc frame.level) (map row points)))
      (omega (arith, long), omega (arith, long, small), deep)

  call_begun : (c : CallStmt) → OfStmt (s.Call c)
  call_begun c h =
      let served : AllIn Served (c ∷ []) = subst (AllIn Served) (text_call c) h in
      let y = served.0 in
      subst (Begun (nests_of (s.Call c))) (sym (table_of_call forms frame names elems numbers c))
      (λ call reduced nest f small.
      subst (λ o. Asked (call_table forms frame names elems numbers c o call reduced nest) (times nest)) (sym y.is)
      (call_by c y.callee y.deep call reduced nest small))

  abbrev rows_of : List Range → Nest → List ℕ
  rows_of rs nest = count_rows (map (count_at rs names.lists) (iteration_points nest names.lists numbers))

  have_counts : (rs : List Range) (nest : Nest) → HaveCounts (rows_of rs nest) (times nest)
  have_counts rs nest = by (has_iterations counts)
    where
      points : List Numbers
      points = iteration_points nest names.lists numbers

      counts : List ℕ
      counts = map (count_at rs names.lists) points

      by : (b : Bool) → HaveCounts (rows_if b counts) (times nest)
      by false = inl refl
      by true = let long = length_map (count_at rs names.lists) points in inr (omega (arith, long))

  starts_there : (rs : List Range) (nest : Nest) (k t : ℕ) → k < times nest → t < get_or (rows_of rs nest) k 0 → k
      < length (starts_from 0 (rows_of rs nest))
  starts_there rs nest k t l lt =
      let c = counted_there (rows_of rs nest) k t lt in
      let e = length_starts 0 (rows_of rs nest) in
      omega (arith, c, e)

  below : (rs : List Range) (nest : Nest) (k t : ℕ) → k < times nest → t < get_or (rows_of rs nest) k 0
      → get_or (starts_from 0 (rows_of rs nest)) k 0 + t < times (nest ++ rs ∷ [])
  below rs nest k t l lt =
      let points = iteration_points nest names.lists numbers in
      let counts = map (count_at rs names.lists) points in
      let at = there points k l in
      let counted : t < get_or counts k 0 = subst (λ n. t < n) (row_kept counts k) lt in
      let less : t < count_at rs names.lists at.0
      = subst (λ n. t < n) (get_or_map (count_at rs names.lists) points k at.0 0 at.1) counted in
      let start : get_or (starts_from 0 (count_rows counts)) k 0 ≡ begun_before k counts =
      ap (λ ns. get_or (starts_from 0 ns) k 0) (rows_kept counts k t counted)
      ∙ first_start (count_at rs names.lists) points k at.0 at.1 in
      let found = ap (λ ms. slice_get ms (begun_before k counts + t))
      (iteration_points_deeper nest rs names.lists numbers)
      ∙ inner_at (count_at rs names.lists) (turn rs names.lists) points k t at.0 at.1 less in
      subst (λ n. n + t < times (nest ++ rs ∷ [])) (sym start)
      (inside (iteration_points (nest ++ rs ∷ []) names.lists numbers) (begun_before k counts + t)
      (turn rs names.lists at.0 t) found)

  map_begun : (p : Place) (kind : MapKind) (rs : List Range) (xs : List S) → OfStmt (s.Map p kind rs (stmts xs))
  map_begun p kind rs xs h =
      let served : AllIn Served (concat (map text_calls (stmts xs)))
      = subst (AllIn Served) (text_map p kind rs (stmts xs)) h in
      subst (Begun (nests_of (s.Map p kind rs (stmts xs))))
      (sym (table_of_map forms frame names elems numbers p kind rs (stmts xs)))
      (λ call reduced nest f small.
      let g = subst (few nest) (nests_map p kind rs (stmts xs)) f in
      let deeper = few_deeper most.uses names numbers nest rs (joined (map nests_of (stmts xs))) g.1 in
      subst (λ (q : AskedOfStatement). q (times nest))
      (sym (tabled_map most last frame.level p (loop_kind_of elems names kind) (rows_of rs nest)
      (starts_from 0 (rows_of rs nest)) (all_of (map table (stmts xs)) call (reduced_by kind) (nest ++ rs ∷ [])))) (
        have_counts rs nest,
        starts_there rs nest,
        times (nest ++ rs ∷ []),
        g.0,
        below rs nest,
        all_begun xs served call (reduced_by kind) (nest ++ rs ∷ []) deeper g.0,
      ))

  begun_step : (y : Stmt-F S) → OfStmt (roll-Stmt (map-Stmt S Stmt (λ p. p.0) y))
  begun_step (Stmt-F.Call c) = subst OfStmt (sym (s.rolls-Call c)) (call_begun c)
  begun_step (Stmt-F.Map p kind rs xs) = subst OfStmt (sym (s.rolls-Map p kind rs (stmts xs))) (map_begun p kind rs xs)

  begun_stmt : (x : Stmt) → OfStmt x
  begun_stmt = ind-Stmt OfStmt (λ x y is. subst (λ z. OfStmt (roll-Stmt z)) is (begun_step y))

  abbrev known : List Stmt → List S
  known [] = []
  known (x ∷ xs) = (x, begun_stmt x) ∷ known xs

  known_are : (xs : List Stmt) → stmts (known xs) ≡ xs
  known_are [] = refl
  known_are (x ∷ xs) = ap (λ ys. x ∷ ys) (known_are xs)

  list_begun : (list : List Stmt) → AllIn Served (concat (map text_calls list)) → few [] (joined (map nests_of list))
      → 1 ≤ most.uses → all_parts Asked (all_of (map table list) 0 None []) 1
  list_begun list h f small =
      subst (λ xs. all_parts Asked (all_of (map table xs) 0 None []) 1) (known_are list)
      (all_begun (known list) (subst (λ xs. AllIn Served (concat (map text_calls xs))) (sym (known_are list)) h) 0 None
      []
      (subst (λ xs. few [] (joined (map nests_of xs))) (sym (known_are list)) f) small)

each_in : (M : CallStmt → Type 0) (cs : List CallStmt) → ((i : ℕ) (c : CallStmt) → slice_get cs i ≡ Some c → M c)
    → AllIn M cs
each_in M [] h = tt
each_in M (c ∷ cs) h = (h 0 c refl, each_in M cs (λ i d e. h (suc i) d e))

pub tables_are_begun : TablesAreBegun
tables_are_begun most last forms frame names elems numbers list h small f =
    list_begun most last forms frame names elems numbers list
    (each_in (IsServed frame last) (concat (map text_calls list)) h) f small
