-- The equations of the fold that gives statements their tables.
use Rattle.std.proofs.Common.{◌≡◌, List, [], ◌∷◌, map, refl, sym, ◌∙◌, ap, ap₂, subst, ◌+◌}
use Rattle.sq_text.specs.declared.place.Place.{Place}
use Rattle.sq_ast.specs.declared.stmt.Call.{Call}
use Rattle.sq_ast.specs.declared.stmt.Range.{Range}
use Rattle.sq_ast.specs.declared.stmt.MapKind.{MapKind}
use Rattle.sq_ast.specs.declared.stmt.Stmt.{Stmt, roll-Stmt}
use Rattle.sq_ast.specs.declared.stmt.Stmt.TheVariants as s
use Rattle.sq_ast.specs.declared.stmt.Stmt.TheOpen.{Stmt-F}
use Rattle.sq_ast.specs.declared.stmt.Stmt.TheFolds.{fold-roll-Stmt, ind-Stmt, map-Stmt}
use Rattle.sq_ast.specs.Num.declared.Elem.{Elem}
use Rattle.sq_form_laws.specs.Blocks.Names.{Numbers}
use Rattle.sq_form_laws.specs.Forms.Steps.{Forms}
use Rattle.sq_form_laws.specs.Forms.Args.{Names}
use Rattle.sq_form_laws.specs.Forms.Worlds.{Frame}
use Rattle.sq_form_laws.specs.Forms.Stmts as portions
use Rattle.sq_form_laws.specs.Forms.Stmts.{portion}
use Rattle.sq_spec.specs.Statements.{StatementTable, calls_of, stmt_step, table_of}
use Rattle.sq_form_laws.proofs.Forms.OpenedStmt.{portion_call, portion_map}

pub table_of_call : (forms : Forms) (frame : Frame) (names : Names) (elems : List Elem) (numbers : Numbers) (c : Call)
    → table_of forms frame names elems numbers (s.Call c) ≡ stmt_step forms frame names elems numbers (Stmt-F.Call c)
table_of_call forms frame names elems numbers c = ap (table_of forms frame names elems numbers) (sym (s.rolls-Call c))
    ∙ fold-roll-Stmt StatementTable (stmt_step forms frame names elems numbers) (Stmt-F.Call c)

pub table_of_map : (forms : Forms) (frame : Frame) (names : Names) (elems : List Elem) (numbers : Numbers) (p : Place) (k : MapKind) (rs : List Range)
    (xs : List Stmt)
    → table_of forms frame names elems numbers (s.Map p k rs xs) ≡ stmt_step forms frame names elems numbers
    (Stmt-F.Map p k rs (map (table_of forms frame names elems numbers) xs))
table_of_map forms frame names elems numbers p k rs xs =
    ap (table_of forms frame names elems numbers) (sym (s.rolls-Map p k rs xs)) ∙ fold-roll-Stmt StatementTable (stmt_step forms frame names elems numbers)
    (Stmt-F.Map p k rs xs)

pub ruleset opened_statement = (table_of_call, table_of_map)

-- ---- calls are counted as in the walk

module _ (forms : Forms) (frame : Frame) (names : Names) (elems : List Elem) (numbers : Numbers) where
  abbrev each : Stmt → StatementTable
  each = table_of forms frame names elems numbers

  abbrev SameCalls : Stmt → Type 0
  SameCalls x = (each x).calls ≡ (portion x).calls

  abbrev Known : Type 0
  Known = (x : Stmt) × SameCalls x

  parts_calls : (xs : List Known) → calls_of (map each (map (λ (q : Known). q.0) xs)) ≡ portions.calls_of (map portion (map (λ (q : Known). q.0) xs))
  parts_calls [] = refl
  parts_calls (x ∷ xs) = ap₂ (λ a b. a + b) x.1 (parts_calls xs)

  calls_step : (y : Stmt-F Known) → SameCalls (roll-Stmt (map-Stmt Known Stmt (λ p. p.0) y))
  calls_step (Stmt-F.Call c) = subst SameCalls (sym (s.rolls-Call c))
      (ap (λ (t : StatementTable). t.calls) (table_of_call forms frame names elems numbers c) ∙ sym (ap (λ (p : portions.Portion). p.calls) (portion_call c)))
  calls_step (Stmt-F.Map p k rs xs) =
      let ys = map (λ (q : Known). q.0) xs in
      subst SameCalls (sym (s.rolls-Map p k rs ys))
      (ap (λ (t : StatementTable). t.calls) (table_of_map forms frame names elems numbers p k rs ys) ∙ parts_calls xs
      ∙ sym (ap (λ (q : portions.Portion). q.calls) (portion_map p k rs ys)))

  pub same_calls : (x : Stmt) → SameCalls x
  same_calls = ind-Stmt SameCalls (λ x y is. subst (λ z. SameCalls (roll-Stmt z)) is (calls_step y))
