-- The equations of the folds over statements.
use Rattle.std.proofs.Common.{◌≡◌, List, map, sym, ◌∙◌, ap}
use Rattle.sq_text.specs.declared.place.Place.{Place}
use Rattle.sq_ast.specs.declared.stmt.Call.{Call}
use Rattle.sq_ast.specs.declared.stmt.Range.{Range}
use Rattle.sq_ast.specs.declared.stmt.MapKind.{MapKind}
use Rattle.sq_ast.specs.declared.stmt.Stmt.{Stmt}
use Rattle.sq_ast.specs.declared.stmt.Stmt.TheVariants as s
use Rattle.sq_ast.specs.declared.stmt.Stmt.TheOpen.{Stmt-F}
use Rattle.sq_ast.specs.declared.stmt.Stmt.TheFolds.{fold-roll-Stmt}
use Rattle.sq_forms.specs.Stmts.{Portion, stmt_step, portion}

pub portion_call : (c : Call) → portion (s.Call c) ≡ stmt_step (Stmt-F.Call c)
portion_call c = ap portion (sym (s.rolls-Call c)) ∙ fold-roll-Stmt Portion stmt_step (Stmt-F.Call c)

pub portion_map : (p : Place) (k : MapKind) (rs : List Range) (xs : List Stmt) → portion (s.Map p k rs xs) ≡ stmt_step (Stmt-F.Map p k rs (map portion xs))
portion_map p k rs xs = ap portion (sym (s.rolls-Map p k rs xs)) ∙ fold-roll-Stmt Portion stmt_step (Stmt-F.Map p k rs xs)

pub ruleset opened_stmt = (portion_call, portion_map)
