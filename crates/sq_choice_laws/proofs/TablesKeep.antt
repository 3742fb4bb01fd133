-- The tables of a form's statements keep the places of its maps.
use Rattle.std.proofs.Common.{◌≡◌, ℕ, ◌+◌, Bool, false, List, [], ◌∷◌, ◌++◌, map, Option, Some, None, refl, sym, ap}
use Rattle.std.proofs.Common.{ap₂, ◌∙◌, subst}
use Rattle.sq_ast.specs.Num.declared.Elem.{Elem}
use Rattle.sq_text.specs.declared.place.Place.{Place}
use Rattle.sq_text.specs.Names.{Bytes}
use Rattle.sq_ast.specs.declared.stmt.Call.{Call as CallStmt}
use Rattle.sq_ast.specs.declared.stmt.Range.{Range}
use Rattle.sq_ast.specs.declared.stmt.Stmt.{Stmt, roll-Stmt}
use Rattle.sq_ast.specs.declared.stmt.Stmt.TheVariants as s
use Rattle.sq_ast.specs.declared.stmt.Stmt.TheOpen.{Stmt-F}
use Rattle.sq_ast.specs.declared.stmt.Stmt.TheFolds.{ind-Stmt, map-Stmt}
use Rattle.sq_form_laws.specs.Blocks.Names.{Numbers}
use Rattle.sq_form_laws.specs.Forms.Steps.{Forms}
use Rattle.sq_form_laws.specs.Forms.Args.{Names}
use Rattle.sq_form_laws.specs.Forms.Worlds.{Frame, Callee, callee_of}
use Rattle.sq_form_laws.specs.Forms.Stmts.{reduced_by}
use Rattle.sq_spec.specs.declared.statement.LoopKind.{LoopKind}
use Rattle.sq_spec.specs.declared.statement.CallInstance.{CallInstance}
use Rattle.sq_spec.specs.declared.statement.Statement.{Statement}
use Rattle.sq_spec.specs.declared.statement.Statement.TheVariants as b
use Rattle.sq_spec.specs.declared.statement.Statement.TheOpen.{Statement-F}
use Rattle.sq_spec.specs.declared.statement.Statement.TheFolds.{fold-roll-Statement}
use Rattle.sq_spec.specs.Statements.{starts_from, iteration_points, count_at, count_rows, loop_kind_of, StatementTable}
use Rattle.sq_spec.specs.Statements.{all_of, call_table, table_of, tables}
use Rattle.sq_spec.proofs.OpenedStatement.{table_of_call, table_of_map}
use Rattle.sq_rise_laws.specs.Rising as text
use Rattle.sq_rise_laws.proofs.Standing as text_places
use Rattle.sq_choice_laws.specs.Noted.{all_places, places_step, places_in}

places_call : (lower : Bool) (rows : List CallInstance) → places_in (b.Call lower rows) ≡ []
places_call lower rows = ap places_in (sym (b.rolls-Call lower rows))
    ∙ fold-roll-Statement (List Place) places_step (Statement-F.Call lower rows)

places_map : (p : Place) (m : LoopKind) (counts starts : List ℕ) (xs : List Statement)
    → places_in (b.Map p m counts starts xs) ≡ p ∷ all_places (map places_in xs)
places_map p m counts starts xs = ap places_in (sym (b.rolls-Map p m counts starts xs))
    ∙ fold-roll-Statement (List Place) places_step (Statement-F.Map p m counts starts xs)

module _ (forms : Forms) (frame : Frame) (names : Names) (elems : List Elem) (numbers : Numbers) where
  abbrev table : Stmt → StatementTable
  table = table_of forms frame names elems numbers

  abbrev Kept : Stmt → Type 0
  Kept x = (call : ℕ) (reduced : Option Bytes) (nest : List (List Range))
      → places_in ((table x).table call reduced nest) ≡ text.places_in x

  abbrev Known : Type 0
  Known = (x : Stmt) × Kept x

  abbrev stmts : List Known → List Stmt
  stmts = map (λ q. q.0)

  all_kept : (xs : List Known) (call : ℕ) (reduced : Option Bytes) (nest : List (List Range))
      → all_places (map places_in (all_of (map table (stmts xs)) call reduced nest)) ≡ text.stmts_places (stmts xs)
  all_kept [] call reduced nest = refl
  all_kept (x ∷ xs) call reduced nest
      = ap₂ (λ ps qs. ps ++ qs) (x.1 call reduced nest) (all_kept xs (call + (table x.0).calls) reduced nest)

  call_kept : (c : CallStmt) (o : Option Callee) (call : ℕ) (reduced : Option Bytes) (nest : List (List Range))
      → places_in (call_table forms frame names elems numbers c o call reduced nest) ≡ []
  call_kept c None call reduced nest = places_call false []
  call_kept c (Some its) call reduced nest = places_call _ _

  kept_step : (y : Stmt-F Known) → Kept (roll-Stmt (map-Stmt Known Stmt (λ q. q.0) y))
  kept_step (Stmt-F.Call c) = subst Kept (sym (s.rolls-Call c)) (λ call reduced nest.
      ap (λ (t : StatementTable). places_in (t.table call reduced nest))
      (table_of_call forms frame names elems numbers c)
      ∙ (call_kept c (callee_of frame c.task) call reduced nest ∙ sym (text_places.places_call c)))
  kept_step (Stmt-F.Map p kind rs xs) = subst Kept (sym (s.rolls-Map p kind rs (stmts xs))) (λ call reduced nest.
      let counts = count_rows (map (count_at rs names.lists) (iteration_points nest names.lists numbers)) in
      ap (λ (t : StatementTable). places_in (t.table call reduced nest))
      (table_of_map forms frame names elems numbers p kind rs (stmts xs))
      ∙ (places_map p (loop_kind_of elems names kind) counts (starts_from 0 counts)
      (all_of (map table (stmts xs)) call (reduced_by kind) (nest ++ rs ∷ []))
      ∙ (ap (λ ps. p ∷ ps) (all_kept xs call (reduced_by kind) (nest ++ rs ∷ []))
      ∙ sym (text_places.places_map p kind rs (stmts xs)))))

  kept : (x : Stmt) → Kept x
  kept = ind-Stmt Kept (λ x y is. subst (λ z. Kept (roll-Stmt z)) is (kept_step y))

  list_kept : (list : List Stmt) (call : ℕ) (reduced : Option Bytes) (nest : List (List Range))
      → all_places (map places_in (all_of (map table list) call reduced nest)) ≡ text.stmts_places list
  list_kept [] call reduced nest = refl
  list_kept (x ∷ xs) call reduced nest
      = ap₂ (λ ps qs. ps ++ qs) (kept x call reduced nest) (list_kept xs (call + (table x).calls) reduced nest)

  pub tables_kept : (list : List Stmt) → all_places (map places_in (tables forms frame names elems numbers list))
      ≡ text.stmts_places list
  tables_kept list = list_kept list 0 None []
