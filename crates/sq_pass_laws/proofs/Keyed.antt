-- The rows of a form's tables name their forms by the number of their call.
use Rattle.std.proofs.Common.{◌≡◌, ℕ, ◌+◌, ◌==◌, Bool, List, [], ◌∷◌, ◌++◌, map, length, Option, Some}
use Rattle.std.proofs.Common.{None, refl, sym, ap, ap₂, ◌∙◌, subst}
use Rattle.sq_num.specs.declared.Elem.{Elem}
use Rattle.sq_text.specs.Names.{Bytes}
use Rattle.sq_ast.specs.declared.stmt.Call.{Call as CallStmt}
use Rattle.sq_ast.specs.declared.stmt.Range.{Range}
use Rattle.sq_ast.specs.declared.stmt.Stmt.{Stmt, roll-Stmt}
use Rattle.sq_ast.specs.declared.stmt.Stmt.TheVariants as s
use Rattle.sq_ast.specs.declared.stmt.Stmt.TheOpen.{Stmt-F}
use Rattle.sq_ast.specs.declared.stmt.Stmt.TheFolds.{ind-Stmt, map-Stmt}
use Rattle.sq_blocks.specs.Names.{Numbers}
use Rattle.sq_work.specs.declared.reduction.Reduction.{Reduction}
use Rattle.sq_spec.specs.declared.statement.CallInstance.{CallInstance}
use Rattle.sq_forms.specs.Steps.{Forms, key_number}
use Rattle.sq_forms.specs.Args.{Names, arguments}
use Rattle.sq_forms.specs.Worlds.{Frame, Callee, callee_of}
use Rattle.sq_forms.specs.Calls.{key_of, flags, extents_of}
use Rattle.sq_forms.specs.Stmts.{reduced_by}
use Rattle.sq_spec.specs.Statements.{number_or, iteration_points, call_instance}
use Rattle.sq_spec.specs.Statements.{loop_kind_of, StatementTable, calls_of, all_of, call_table, table_of, tables}
use Rattle.sq_spec.proofs.OpenedStatement.{table_of_call, table_of_map}
use Rattle.sq_spec_laws.specs.TableRows.{Table, red_of, all_tables, tables_of, tables_in}
use Rattle.sq_spec_laws.proofs.TableRowsHold.{tables_call, tables_map}
use Rattle.sq_draft_laws.specs.TermLaws.Orders.{EachOf}
use Rattle.sq_pass_laws.proofs.Sites.{From, from_both}
use Rattle.sq_pass_laws.proofs.TimesHold.{append_length}

module _ (forms : Forms) (frame : Frame) (names : Names) (elems : List Elem) (numbers : Numbers) where
  -- by a key with this number
  pub record IsKeyed (call : ℕ) (q : CallInstance) : Type 0 where
    pub instance : ℕ
    pub in_place : List Bool
    pub extents : List (List ℕ)
    pub is : q.form ≡ number_or (key_number forms (key_of frame.form call instance in_place extents))

  abbrev table : Stmt → StatementTable
  table = table_of forms frame names elems numbers

  -- the calls of a statement's tables are numbered from its first call's number on
  pub record HasKeys (t : StatementTable) : Type 0 where
    pub many : (call : ℕ) (reduced : Option Bytes) (nest : List (List Range)) (red : Option Reduction)
        → length (tables_of (t.table call reduced nest) red) ≡ t.calls
    pub keyed : (call : ℕ) (reduced : Option Bytes) (nest : List (List Range)) (red : Option Reduction)
        → From IsKeyed call (tables_of (t.table call reduced nest) red)

  abbrev Known : Type 0
  Known = (x : Stmt) × HasKeys (table x)

  abbrev stmts : List Known → List Stmt
  stmts = map (λ (q : Known). q.0)

  all_many : (xs : List Known) (call : ℕ) (reduced : Option Bytes) (nest : List (List Range)) (red : Option Reduction)
      → length (all_tables (map tables_of (all_of (map table (stmts xs)) call reduced nest)) red)
      ≡ calls_of (map table (stmts xs))
  all_many [] call reduced nest red = refl
  all_many (x ∷ xs) call reduced nest red =
      append_length (tables_of ((table x.0).table call reduced nest) red)
      (all_tables (map tables_of (all_of (map table (stmts xs)) (call + (table x.0).calls) reduced nest)) red)
      ∙ ap₂ (λ m n. m + n) (x.1.many call reduced nest red) (all_many xs (call + (table x.0).calls) reduced nest red)

  all_keyed : (xs : List Known) (call : ℕ) (reduced : Option Bytes) (nest : List (List Range)) (red : Option Reduction)
      → From IsKeyed call (all_tables (map tables_of (all_of (map table (stmts xs)) call reduced nest)) red)
  all_keyed [] call reduced nest red = tt
  all_keyed (x ∷ xs) call reduced nest red =
      let ts = tables_of ((table x.0).table call reduced nest) red in
      let us = all_tables (map tables_of (all_of (map table (stmts xs)) (call + (table x.0).calls) reduced nest)) red in
      from_both IsKeyed call ts us (x.1.keyed call reduced nest red)
      (subst (λ n. From IsKeyed (call + n) us) (sym (x.1.many call reduced nest red))
      (all_keyed xs (call + (table x.0).calls) reduced nest red))

  each_keyed : (call : ℕ) (reduced : Option Bytes) (its : Callee) (c : CallStmt) (points : List Numbers)
      → EachOf (IsKeyed call) (map (call_instance forms frame names call reduced its c.args) points)
  each_keyed call reduced its c [] = tt
  each_keyed call reduced its c (e ∷ points) = (
    record {
      instance = its.instance;
      in_place = flags (its.level == frame.level) (arguments names e reduced its.params 0 c.args);
      extents = extents_of (arguments names e reduced its.params 0 c.args);
      is = refl;
    },
    each_keyed call reduced its c points,
  )

  call_keyed : (c : CallStmt) (o : Option Callee) (call : ℕ) (reduced : Option Bytes) (nest : List (List Range))
      (red : Option Reduction)
      → From IsKeyed call (tables_of (call_table forms frame names elems numbers c o call reduced nest) red)
  call_keyed c None call reduced nest red =
      subst (λ (f : Option Reduction → List Table). From IsKeyed call (f red)) (sym (tables_call _ [])) (tt, tt)
  call_keyed c (Some its) call reduced nest red =
      subst (λ (f : Option Reduction → List Table). From IsKeyed call (f red)) (sym (tables_call _ _))
      (each_keyed call reduced its c (iteration_points nest names.lists numbers), tt)

  call_many : (c : CallStmt) (o : Option Callee) (call : ℕ) (reduced : Option Bytes) (nest : List (List Range))
      (red : Option Reduction)
      → length (tables_of (call_table forms frame names elems numbers c o call reduced nest) red) ≡ 1
  call_many c None call reduced nest red =
      ap (λ (f : Option Reduction → List Table). length (f red)) (tables_call _ [])
  call_many c (Some its) call reduced nest red =
      ap (λ (f : Option Reduction → List Table). length (f red)) (tables_call _ _)

  abbrev OfStmt : Stmt → Type 0
  OfStmt x = HasKeys (table x)

  keyed_step : (y : Stmt-F Known) → OfStmt (roll-Stmt (map-Stmt Known Stmt (λ p. p.0) y))
  keyed_step (Stmt-F.Call c) = subst OfStmt (sym (s.rolls-Call c))
      (subst HasKeys (sym (table_of_call forms frame names elems numbers c)) (record {
        many = call_many c (callee_of frame c.task);
        keyed = call_keyed c (callee_of frame c.task);
      }))
  keyed_step (Stmt-F.Map p kind rs xs) = subst OfStmt (sym (s.rolls-Map p kind rs (stmts xs)))
      (subst HasKeys (sym (table_of_map forms frame names elems numbers p kind rs (stmts xs))) (record {
        many = λ call reduced nest red.
            ap (λ (f : Option Reduction → List Table). length (f red)) (tables_map _ _ _ _ _)
            ∙ all_many xs call (reduced_by kind) (nest ++ rs ∷ []) (red_of (loop_kind_of elems names kind));
        keyed = λ call reduced nest red.
            subst (λ (f : Option Reduction → List Table). From IsKeyed call (f red)) (sym (tables_map _ _ _ _ _))
            (all_keyed xs call (reduced_by kind) (nest ++ rs ∷ []) (red_of (loop_kind_of elems names kind)));
      }))

  keyed_stmt : (x : Stmt) → OfStmt x
  keyed_stmt = ind-Stmt OfStmt (λ x y is. subst (λ z. OfStmt (roll-Stmt z)) is (keyed_step y))

  list_keyed : (list : List Stmt) (call : ℕ)
      → From IsKeyed call (tables_in (all_of (map table list) call None []) None)
  list_keyed [] call = tt
  list_keyed (x ∷ xs) call =
      let t = keyed_stmt x in
      let ts = tables_of ((table x).table call None []) None in
      let us = tables_in (all_of (map table xs) (call + (table x).calls) None []) None in
      from_both IsKeyed call ts us (t.keyed call None [] None)
      (subst (λ n. From IsKeyed (call + n) us) (sym (t.many call None [] None))
      (list_keyed xs (call + (table x).calls)))

  -- the tables of a form's statements
  pub tables_are_keyed : (list : List Stmt)
      → From IsKeyed 0 (tables_in (tables forms frame names elems numbers list) None)
  tables_are_keyed list = list_keyed list 0
