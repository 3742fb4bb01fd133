-- The calls of a form's tables, the maps round them, and by which number their rows name their forms.
use Rattle.std.proofs.Common.{◌≡◌, ℕ, zero, suc, ◌+◌, ◌==◌, Bool, List, [], ◌∷◌, ◌++◌, length, map, Option, Some, None}
use Rattle.std.proofs.Common.{refl, sym, ap, ◌∙◌, subst, arith}
use Rattle.std.specs.Prelude.{slice_get}
use Rattle.sq_text.specs.Names.{Bytes}
use Rattle.sq_text.specs.declared.place.Place.{Place}
use Rattle.sq_num.specs.declared.Elem.{Elem}
use Rattle.sq_ast.specs.declared.stmt.Call.{Call}
use Rattle.sq_ast.specs.declared.stmt.MapKind.{MapKind}
use Rattle.sq_ast.specs.declared.stmt.Range.{Range}
use Rattle.sq_ast.specs.declared.stmt.Stmt.{Stmt, roll-Stmt}
use Rattle.sq_ast.specs.declared.stmt.Stmt.TheVariants as s
use Rattle.sq_ast.specs.declared.stmt.Stmt.TheOpen.{Stmt-F}
use Rattle.sq_ast.specs.declared.stmt.Stmt.TheFolds.{ind-Stmt, map-Stmt}
use Rattle.sq_blocks.specs.Names.{Numbers}
use Rattle.sq_spec.specs.Work.declared.reduction.Reduction.{Reduction}
use Rattle.sq_forms.specs.Args.{Names, arguments}
use Rattle.sq_forms.specs.Calls.{key_of, flags, extents_of}
use Rattle.sq_forms.specs.Steps.{Forms, key_number}
use Rattle.sq_forms.specs.Stmts.{reduced_by}
use Rattle.sq_forms.specs.Worlds.{Frame, Callee, callee_of}
use Rattle.sq_spec.specs.declared.statement.LoopKind.{LoopKind}
use Rattle.sq_spec.specs.declared.statement.CallInstance.{CallInstance}
use Rattle.sq_spec.specs.declared.statement.Statement.{Statement, roll-Statement}
use Rattle.sq_spec.specs.declared.statement.Statement.TheVariants as b
use Rattle.sq_spec.specs.declared.statement.Statement.TheOpen.{Statement-F}
use Rattle.sq_spec.specs.declared.statement.Statement.TheFolds.{fold-roll-Statement, ind-Statement, map-Statement}
use Rattle.sq_spec.specs.Statements.{number_or, starts_from, iteration_points, count_at, count_rows, call_instance}
use Rattle.sq_spec.specs.Statements.{loop_kind_of, StatementTable, all_of, call_table, table_of, tables}
use Rattle.sq_spec.proofs.OpenedStatement.{table_of_call, table_of_map, same_calls}
use Rattle.sq_homes.specs.SpecLaws.TableRows.{Table, red_of, all_tables, tables_of, tables_in}
use Rattle.sq_homes.proofs.SpecLaws.TableRowsHold.{tables_call, tables_map}
use Rattle.sq_draft_laws.specs.Paths.{Nested, all_nested, nested_step, nested_in}
use Rattle.sq_program_laws.proofs.Shapes.{mapped_at}
use Rattle.sq_draft_laws.proofs.Loops.{all_loops, loops_in, loops_call, loops_map, loops_many}

-- ---- equations of the fold

nested_call : (lower : Bool) (times : List CallInstance) → nested_in (b.Call lower times)
    ≡ nested_step (Statement-F.Call lower times)
nested_call lower times = ap nested_in (sym (b.rolls-Call lower times))
    ∙ fold-roll-Statement (ℕ → List Nested) nested_step (Statement-F.Call lower times)

nested_map : (place : Place) (m : LoopKind) (counts starts : List ℕ) (list : List Statement)
    → nested_in (b.Map place m counts starts list)
    ≡ nested_step (Statement-F.Map place m counts starts (map nested_in list))
nested_map place m counts starts list = ap nested_in (sym (b.rolls-Map place m counts starts list))
    ∙ fold-roll-Statement (ℕ → List Nested) nested_step (Statement-F.Map place m counts starts list)

-- ---- the same calls as those with their reductions

abbrev SameTimes : List Nested → List Table → Type 0
SameTimes [] [] = Unit {0}
SameTimes [] (u ∷ us) = ⊥
SameTimes (t ∷ ts) [] = ⊥
SameTimes (t ∷ ts) (u ∷ us) = (t.times ≡ u.times) × SameTimes ts us

same_joined : (ts : List Nested) (us : List Table) (ps : List Nested) (qs : List Table) → SameTimes ts us
    → SameTimes ps qs → SameTimes (ts ++ ps) (us ++ qs)
same_joined [] [] ps qs g h = h
same_joined [] (u ∷ us) ps qs g h = absurd g
same_joined (t ∷ ts) [] ps qs g h = absurd g
same_joined (t ∷ ts) (u ∷ us) ps qs g h = (g.0, same_joined ts us ps qs g.1 h)

-- the table of a nested one
pub record HasTable (us : List Table) (i : ℕ) (t : Nested) : Type 0 where
  pub table : Table
  pub there : slice_get us i ≡ Some table
  pub times : t.times ≡ table.times

same_at : (ts : List Nested) (us : List Table) → SameTimes ts us → (i : ℕ) (t : Nested) → slice_get ts i ≡ Some t
    → HasTable us i t
same_at [] us g i t h = absurd (cc h)
same_at (x ∷ ts) [] g i t h = absurd g
same_at (x ∷ ts) (u ∷ us) g zero t h =
    let is : x ≡ t = cc h in
    record { table = u; there = refl; times = ap (λ (y : Nested). y.times) (sym is) ∙ g.0 }
same_at (x ∷ ts) (u ∷ us) g (suc i) t h = let r = same_at ts us g.1 i t h in record {
  table = r.table;
  there = r.there;
  times = r.times;
}

abbrev OfTable : Statement → Type 0
OfTable x = (n : ℕ) (red : Option Reduction) → SameTimes (nested_in x n) (tables_of x red)

abbrev T : Type 0
T = (x : Statement) × OfTable x

abbrev statements : List T → List Statement
statements = map (λ (q : T). q.0)

all_same : (xs : List T) (n : ℕ) (red : Option Reduction) → SameTimes (all_nested (map nested_in (statements xs)) n)
    (all_tables (map tables_of (statements xs)) red)
all_same [] n red = tt
all_same (x ∷ xs) n red = same_joined (nested_in x.0 n) (tables_of x.0 red) _ _ (x.1 n red) (all_same xs n red)

call_same : (lower : Bool) (times : List CallInstance) → OfTable (b.Call lower times)
call_same lower times n red =
    subst (λ (f : ℕ → List Nested). SameTimes (f n) (tables_of (b.Call lower times) red))
    (sym (nested_call lower times))
    (subst (λ (f : Option Reduction → List Table). SameTimes (record { loops = n; times = times } ∷ []) (f red))
    (sym (tables_call lower times)) (refl, tt))

map_same : (place : Place) (m : LoopKind) (counts starts : List ℕ) (xs : List T)
    → OfTable (b.Map place m counts starts (statements xs))
map_same place m counts starts xs n red =
    let ys = statements xs in
    subst (λ (f : ℕ → List Nested). SameTimes (f n) (tables_of (b.Map place m counts starts ys) red))
    (sym (nested_map place m counts starts ys))
    (subst (λ (f : Option Reduction → List Table). SameTimes (all_nested (map nested_in ys) (suc n)) (f red))
    (sym (tables_map place m counts starts ys)) (all_same xs (suc n) (red_of m)))

same_step : (y : Statement-F T) → OfTable (roll-Statement (map-Statement T Statement (λ p. p.0) y))
same_step (Statement-F.Call lower times) = subst OfTable (sym (b.rolls-Call lower times)) (call_same lower times)
same_step (Statement-F.Map place m counts starts xs) =
    subst OfTable (sym (b.rolls-Map place m counts starts (statements xs))) (map_same place m counts starts xs)

same_statement : (x : Statement) → OfTable x
same_statement = ind-Statement OfTable (λ x y is. subst (λ z. OfTable (roll-Statement z)) is (same_step y))

list_same : (xs : List Statement) (n : ℕ) (red : Option Reduction) → SameTimes (all_nested (map nested_in xs) n)
    (tables_in xs red)
list_same [] n red = tt
list_same (x ∷ xs) n red = same_joined (nested_in x n) (tables_of x red) _ _ (same_statement x n red)
    (list_same xs n red)

pub has_table : (xs : List Statement) (i : ℕ) (t : Nested) → slice_get (all_nested (map nested_in xs) 0) i ≡ Some t
    → HasTable (tables_in xs None) i t
has_table xs i t h = same_at (all_nested (map nested_in xs) 0) (tables_in xs None) (list_same xs 0 None) i t h

-- ---- the numbers of calls in the keys of rows

module _ (forms : Forms) (frame : Frame) (names : Names) (elems : List Elem) (numbers : Numbers) where
  -- a row names its form by the number of its call
  pub record IsKeyed (call : ℕ) (q : CallInstance) : Type 0 where
    pub instance : ℕ
    pub in_place : List Bool
    pub extents : List (List ℕ)
    pub is : q.form ≡ number_or (key_number forms (key_of frame.form call instance in_place extents))

  pub record IsRow (call : ℕ) (t : Nested) (n : ℕ) : Type 0 where
    pub loops : t.loops ≡ n
    pub keyed : (j : ℕ) (q : CallInstance) → slice_get t.times j ≡ Some q → IsKeyed call q

  -- from the call of this number on
  abbrev AreRows : ℕ → List Nested → List ℕ → Type 0
  AreRows call [] [] = Unit {0}
  AreRows call [] (n ∷ ns) = ⊥
  AreRows call (t ∷ ts) [] = ⊥
  AreRows call (t ∷ ts) (n ∷ ns) = IsRow call t n × AreRows (call + 1) ts ns

  rows_joined : (call : ℕ) (ts : List Nested) (ns : List ℕ) (us : List Nested) (ms : List ℕ) → AreRows call ts ns
      → AreRows (call + length ns) us ms → AreRows call (ts ++ us) (ns ++ ms)
  rows_joined call [] [] us ms g h = let z : call + 0 ≡ call = omega arith in subst (λ (k : ℕ). AreRows k us ms) z h
  rows_joined call [] (n ∷ ns) us ms g h = absurd g
  rows_joined call (t ∷ ts) [] us ms g h = absurd g
  rows_joined call (t ∷ ts) (n ∷ ns) us ms g h =
      let z : call + suc (length ns) ≡ call + 1 + length ns = omega arith in
      (g.0, rows_joined (call + 1) ts ns us ms g.1 (subst (λ (k : ℕ). AreRows k us ms) z h))

  -- the row of a call
  pub record RowAt (call : ℕ) (ns : List ℕ) (i : ℕ) (t : Nested) : Type 0 where
    pub loops : ℕ
    pub there : slice_get ns i ≡ Some loops
    pub row : IsRow (call + i) t loops

  rows_at : (call : ℕ) (ts : List Nested) (ns : List ℕ) → AreRows call ts ns → (i : ℕ) (t : Nested) → slice_get ts i
      ≡ Some t → RowAt call ns i t
  rows_at call [] ns g i t h = absurd (cc h)
  rows_at call (x ∷ ts) [] g i t h = absurd g
  rows_at call (x ∷ ts) (n ∷ ns) g zero t h =
      let is : x ≡ t = cc h in
      let z : call ≡ call + 0 = omega arith in
      record {
        loops = n;
        there = refl;
        row = subst (λ (y : Nested). IsRow (call + 0) y n) is (subst (λ (k : ℕ). IsRow k x n) z g.0);
      }
  rows_at call (x ∷ ts) (n ∷ ns) g (suc i) t h =
      let r = rows_at (call + 1) ts ns g.1 i t h in
      let z : call + 1 + i ≡ call + suc i = omega arith in
      record { loops = r.loops; there = r.there; row = subst (λ (k : ℕ). IsRow k t r.loops) z r.row }

  abbrev table : Stmt → StatementTable
  table = table_of forms frame names elems numbers

  abbrev HasRows : (ℕ → Option Bytes → List (List Range) → List Nested) → (ℕ → List ℕ) → Type 0
  HasRows nested part = (call : ℕ) (reduced : Option Bytes) (nest : List (List Range))
      → AreRows call (nested call reduced nest) (part (length nest))

  abbrev OfStmt : Stmt → Type 0
  OfStmt x = HasRows (λ call reduced nest. nested_in ((table x).table call reduced nest) (length nest)) (loops_in x)

  abbrev S : Type 0
  S = (x : Stmt) × OfStmt x

  abbrev stmts : List S → List Stmt
  stmts = map (λ (q : S). q.0)

  -- ---- a call

  call_rows : (c : Call) (o : Option Callee) → HasRows (λ call reduced nest. nested_in
      (call_table forms frame names elems numbers c o call reduced nest) (length nest)) (λ n. n ∷ [])
  call_rows c None call reduced nest =
      subst (λ (f : ℕ → List Nested). AreRows call (f (length nest)) (length nest ∷ [])) (sym (nested_call _ []))
      (record { loops = refl; keyed = λ j q h. absurd (cc h) }, tt)
  call_rows c (Some its) call reduced nest =
      let row : Numbers → CallInstance = call_instance forms frame names call reduced its c.args in
      let points = iteration_points nest names.lists numbers in
      subst (λ (f : ℕ → List Nested). AreRows call (f (length nest)) (length nest ∷ []))
      (sym (nested_call (its.level == suc frame.level) (map row points))) (
        record {
          loops = refl;
          keyed = λ j q h.
              let m = mapped_at row points j q h in
              record {
                instance = its.instance;
                in_place = flags (its.level == frame.level) (arguments names m.of reduced its.params 0 c.args);
                extents = extents_of (arguments names m.of reduced its.params 0 c.args);
                is = ap (λ (x : CallInstance). x.form) (sym m.is);
              };
        },
        tt,
      )

  call_good : (c : Call) → OfStmt (s.Call c)
  call_good c call reduced nest =
      subst (λ (t : StatementTable). AreRows call (nested_in (t.table call reduced nest) (length nest))
      (loops_in (s.Call c) (length nest))) (sym (table_of_call forms frame names elems numbers c))
      (subst (λ (f : ℕ → List ℕ). AreRows call
      (nested_in (call_table forms frame names elems numbers c (callee_of frame c.task) call reduced nest)
      (length nest)) (f (length nest))) (sym (loops_call c)) (call_rows c (callee_of frame c.task) call reduced nest))

  -- ---- statements

  all_rows : (xs : List S) → HasRows (λ call reduced nest. all_nested
      (map nested_in (all_of (map table (stmts xs)) call reduced nest)) (length nest))
      (all_loops (map loops_in (stmts xs)))
  all_rows [] call reduced nest = tt
  all_rows (x ∷ xs) call reduced nest =
      let many : (table x.0).calls ≡ length (loops_in x.0 (length nest)) =
      same_calls forms frame names elems numbers x.0 ∙ sym (loops_many frame names x.0 (length nest)) in
      rows_joined call (nested_in ((table x.0).table call reduced nest) (length nest)) (loops_in x.0 (length nest)) _ _
      (x.1 call reduced nest)
      (subst (λ (m : ℕ). AreRows (call + m)
      (all_nested (map nested_in (all_of (map table (stmts xs)) (call + (table x.0).calls) reduced nest)) (length nest))
      (all_loops (map loops_in (stmts xs)) (length nest))) many
      (all_rows xs (call + (table x.0).calls) reduced nest))

  -- ---- a map

  one_longer : {A : Type 0} (xs : List A) (x : A) → length (xs ++ x ∷ []) ≡ suc (length xs)
  one_longer [] x = refl
  one_longer (y ∷ xs) x = ap suc (one_longer xs x)

  map_good : (p : Place) (k : MapKind) (rs : List Range) (xs : List S) → OfStmt (s.Map p k rs (stmts xs))
  map_good p k rs xs call reduced nest =
      let ys = stmts xs in
      let n = length nest in
      let counts = count_rows (map (count_at rs names.lists) (iteration_points nest names.lists numbers)) in
      let inside = all_of (map table ys) call (reduced_by k) (nest ++ rs ∷ []) in
      subst (λ (t : StatementTable). AreRows call (nested_in (t.table call reduced nest) n)
      (loops_in (s.Map p k rs ys) n)) (sym (table_of_map forms frame names elems numbers p k rs ys))
      (subst (λ (f : ℕ → List ℕ). AreRows call
      (nested_in (b.Map p (loop_kind_of elems names k) counts (starts_from 0 counts) inside) n) (f n))
      (sym (loops_map p k rs ys))
      (subst (λ (f : ℕ → List Nested). AreRows call (f n) (all_loops (map loops_in ys) (suc n)))
      (sym (nested_map p (loop_kind_of elems names k) counts (starts_from 0 counts) inside))
      (subst (λ (m : ℕ). AreRows call (all_nested (map nested_in inside) m) (all_loops (map loops_in ys) m))
      (one_longer nest rs) (all_rows xs call (reduced_by k) (nest ++ rs ∷ [])))))

  good_step : (y : Stmt-F S) → OfStmt (roll-Stmt (map-Stmt S Stmt (λ p. p.0) y))
  good_step (Stmt-F.Call c) = subst OfStmt (sym (s.rolls-Call c)) (call_good c)
  good_step (Stmt-F.Map p k rs xs) = subst OfStmt (sym (s.rolls-Map p k rs (stmts xs))) (map_good p k rs xs)

  good_stmt : (x : Stmt) → OfStmt x
  good_stmt = ind-Stmt OfStmt (λ x y is. subst (λ z. OfStmt (roll-Stmt z)) is (good_step y))

  abbrev known : List Stmt → List S
  known [] = []
  known (x ∷ xs) = (x, good_stmt x) ∷ known xs

  known_are : (xs : List Stmt) → stmts (known xs) ≡ xs
  known_are [] = refl
  known_are (x ∷ xs) = ap (λ ys. x ∷ ys) (known_are xs)

  list_rows : (list : List Stmt)
      → AreRows 0 (all_nested (map nested_in (tables forms frame names elems numbers list)) 0)
      (all_loops (map loops_in list) 0)
  list_rows list = subst (λ ys. AreRows 0 (all_nested (map nested_in (tables forms frame names elems numbers ys)) 0)
      (all_loops (map loops_in ys) 0)) (known_are list) (all_rows (known list) 0 None [])

  pub row_at : (list : List Stmt) (i : ℕ) (t : Nested)
      → slice_get (all_nested (map nested_in (tables forms frame names elems numbers list)) 0) i ≡ Some t
      → RowAt 0 (all_loops (map loops_in list) 0) i t
  row_at list i t h = rows_at 0 (all_nested (map nested_in (tables forms frame names elems numbers list)) 0)
      (all_loops (map loops_in list) 0) (list_rows list) i t h
