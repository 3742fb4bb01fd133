-- Each `mapreduce` of a form's tables has one call as its body.
use Rattle.std.proofs.Common.{◌≡◌, ℕ, suc, ◌+◌, ◌==◌, Bool, true, false, List, [], ◌∷◌, ◌++◌, map, Option, Some, None, refl, sym, ap, ◌∙◌, subst}
use Rattle.std.specs.Prelude.{◌&&◌}
use Rattle.sq_num.specs.declared.Elem.{Elem}
use Rattle.sq_text.specs.declared.place.Place.{Place}
use Rattle.sq_text.specs.Names.{Bytes}
use Rattle.sq_ast.specs.Forms.{StmtForm, fits_kind, form_of, is_formed_stmt, are_formed_stmts, are_formed_ranges}
use Rattle.sq_ast.proofs.Opened.{form_call, form_map, formed_map}
use Rattle.sq_ast.specs.declared.stmt.Call.{Call as CallStmt}
use Rattle.sq_ast.specs.declared.stmt.Range.{Range}
use Rattle.sq_ast.specs.declared.stmt.MapKind.{MapKind}
use Rattle.sq_ast.specs.declared.stmt.MapKind.TheVariants.{Par, Seq, Reduce}
use Rattle.sq_ast.specs.declared.stmt.Stmt.{Stmt, roll-Stmt}
use Rattle.sq_ast.specs.declared.stmt.Stmt.TheVariants as s
use Rattle.sq_ast.specs.declared.stmt.Stmt.TheOpen.{Stmt-F}
use Rattle.sq_ast.specs.declared.stmt.Stmt.TheFolds.{ind-Stmt, map-Stmt}
use Rattle.sq_blocks.specs.Names.{Numbers}
use Rattle.sq_spec.specs.declared.statement.LoopKind.{LoopKind}
use Rattle.sq_spec.specs.declared.statement.CallInstance.{CallInstance}
use Rattle.sq_spec.specs.declared.statement.Statement.{Statement}
use Rattle.sq_spec.specs.declared.statement.Statement.TheVariants as b
use Rattle.sq_spec.specs.declared.statement.Statement.TheOpen.{Statement-F}
use Rattle.sq_spec.specs.declared.statement.Statement.TheFolds.{fold-roll-Statement}
use Rattle.sq_forms.specs.Steps.{Forms}
use Rattle.sq_forms.specs.Args.{Names}
use Rattle.sq_forms.specs.Worlds.{Frame, Callee, callee_of}
use Rattle.sq_forms.specs.Stmts.{reduced_by}
use Rattle.sq_spec.specs.Statements.{starts_from, iteration_points, count_at, count_rows, call_instance, loop_kind_of, StatementTable, all_of, call_table, table_of}
use Rattle.sq_spec_laws.specs.Ones.{Kind, all_ones, body_ones, kind_step, kind_of, ReductionsAreOfOne}
use Rattle.sq_spec.proofs.FormLaws.FitHold.{both}
use Rattle.sq_spec.proofs.OpenedStatement.{table_of_call, table_of_map}

both_true : (a c : Bool) → a ≡ true → c ≡ true → (a && c) ≡ true
both_true a c p q = (λ i. p i && q i)

kind_call : (lower : Bool) (times : List CallInstance) → kind_of (b.Call lower times) ≡ kind_step (Statement-F.Call lower times)
kind_call lower times = ap kind_of (sym (b.rolls-Call lower times)) ∙ fold-roll-Statement Kind kind_step (Statement-F.Call lower times)

kind_map : (place : Place) (m : LoopKind) (counts starts : List ℕ) (body : List Statement) → kind_of (b.Map place m counts starts body)
    ≡ kind_step (Statement-F.Map place m counts starts (map kind_of body))
kind_map place m counts starts body = ap kind_of (sym (b.rolls-Map place m counts starts body))
    ∙ fold-roll-Statement Kind kind_step (Statement-F.Map place m counts starts body)

module _ (forms : Forms) (frame : Frame) (names : Names) (elems : List Elem) (numbers : Numbers) where
  abbrev table : Stmt → StatementTable
  table = table_of forms frame names elems numbers

  record Fits (f : StmtForm) (k : Kind) : Type 0 where
    same : k.is_call ≡ f.is_call
    ones : k.ones ≡ true

  abbrev OfStmt : Stmt → Type 0
  OfStmt x = is_formed_stmt x ≡ true → (call : ℕ) (reduced : Option Bytes) (nest : List (List Range)) → Fits (form_of x) (kind_of ((table x).table call reduced nest))

  abbrev S : Type 0
  S = (x : Stmt) × OfStmt x

  abbrev stmts : List S → List Stmt
  stmts = map (λ (q : S). q.0)

  all_fit : (xs : List S) → are_formed_stmts (stmts xs) ≡ true → (call : ℕ) (reduced : Option Bytes) (nest : List (List Range))
      → all_ones (map kind_of (all_of (map table (stmts xs)) call reduced nest)) ≡ true
  all_fit [] h call reduced nest = refl
  all_fit (x ∷ xs) h call reduced nest =
      let p = both (is_formed_stmt x.0) (are_formed_stmts (stmts xs)) h in
      both_true (kind_of ((table x.0).table call reduced nest)).ones _ (x.1 p.0 call reduced nest).ones (all_fit xs p.1 (call + (table x.0).calls) reduced nest)

  call_by : (c : CallStmt) (o : Option Callee) (call : ℕ) (reduced_ : Option Bytes) (nest : List (List Range)) → kind_of (call_table forms frame names elems numbers c o call reduced_ nest) ≡ record { is_call = true; ones = true }
  call_by c None call reduced_ nest = kind_call false []
  call_by c (Some its) call reduced_ nest = kind_call (its.level == suc frame.level) (map (call_instance forms frame names call reduced_ its c.args) (iteration_points nest names.lists numbers))

  call_fits : (c : CallStmt) → OfStmt (s.Call c)
  call_fits c h call reduced_ nest =
      let kind : kind_of ((table (s.Call c)).table call reduced_ nest) ≡ record { is_call = true; ones = true } =
      ap (λ (t : StatementTable). kind_of (t.table call reduced_ nest)) (table_of_call forms frame names elems numbers c) ∙ call_by c (callee_of frame c.task) call reduced_ nest in
      let form = form_call c in
      record { same = ap (λ (k : Kind). k.is_call) kind ∙ sym (ap (λ (f : StmtForm). f.is_call) form); ones = ap (λ (k : Kind). k.ones) kind }

  body_fits : (kind : MapKind) (xs : List S) → fits_kind kind (map form_of (stmts xs)) ≡ true → are_formed_stmts (stmts xs) ≡ true → (call : ℕ) (nest : List (List Range))
      → body_ones (loop_kind_of elems names kind) (map kind_of (all_of (map table (stmts xs)) call (reduced_by kind) nest)) ≡ true
  body_fits Par xs f h call nest = all_fit xs h call None nest
  body_fits Seq xs f h call nest = all_fit xs h call None nest
  body_fits (Reduce op array) [] f h call nest = absurd (cc f)
  body_fits (Reduce op array) (x ∷ []) f h call nest = (x.1 (both (is_formed_stmt x.0) true h).0 call (Some array.name) nest).same ∙ f
  body_fits (Reduce op array) (x ∷ y ∷ xs) f h call nest = absurd (cc f)

  map_fits : (p : Place) (kind : MapKind) (rs : List Range) (xs : List S) → OfStmt (s.Map p kind rs (stmts xs))
  map_fits p kind rs xs h call reduced_ nest =
      let ys = stmts xs in
      let counts = count_rows (map (count_at rs names.lists) (iteration_points nest names.lists numbers)) in
      let parts = all_of (map table ys) call (reduced_by kind) (nest ++ rs ∷ []) in
      let formed : (are_formed_ranges rs && (fits_kind kind (map form_of ys) && are_formed_stmts ys)) ≡ true = sym (formed_map p kind rs ys) ∙ h in
      let u = both (are_formed_ranges rs) (fits_kind kind (map form_of ys) && are_formed_stmts ys) formed in
      let w = both (fits_kind kind (map form_of ys)) (are_formed_stmts ys) u.1 in
      let is : kind_of ((table (s.Map p kind rs ys)).table call reduced_ nest) ≡ record { is_call = false; ones = body_ones (loop_kind_of elems names kind) (map kind_of parts) } =
      ap (λ (t : StatementTable). kind_of (t.table call reduced_ nest)) (table_of_map forms frame names elems numbers p kind rs ys) ∙ kind_map p (loop_kind_of elems names kind) counts (starts_from 0 counts) parts in
      record {
        same = ap (λ (k : Kind). k.is_call) is ∙ sym (ap (λ (f : StmtForm). f.is_call) (form_map p kind rs ys));
        ones = ap (λ (k : Kind). k.ones) is ∙ body_fits kind xs w.0 w.1 call (nest ++ rs ∷ []);
      }

  fits_step : (y : Stmt-F S) → OfStmt (roll-Stmt (map-Stmt S Stmt (λ p. p.0) y))
  fits_step (Stmt-F.Call c) = subst OfStmt (sym (s.rolls-Call c)) (call_fits c)
  fits_step (Stmt-F.Map p kind rs xs) = subst OfStmt (sym (s.rolls-Map p kind rs (stmts xs))) (map_fits p kind rs xs)

  fits_stmt : (x : Stmt) → OfStmt x
  fits_stmt = ind-Stmt OfStmt (λ x y is. subst (λ z. OfStmt (roll-Stmt z)) is (fits_step y))

  list_fits : (list : List Stmt) → are_formed_stmts list ≡ true → (call : ℕ) → all_ones (map kind_of (all_of (map table list) call None [])) ≡ true
  list_fits [] h call = refl
  list_fits (x ∷ list) h call =
      let p = both (is_formed_stmt x) (are_formed_stmts list) h in
      both_true (kind_of ((table x).table call None [])).ones _ (fits_stmt x p.0 call None []).ones (list_fits list p.1 (call + (table x).calls))

pub reductions_are_of_one : ReductionsAreOfOne
reductions_are_of_one forms frame names elems numbers list h = list_fits forms frame names elems numbers list h 0
