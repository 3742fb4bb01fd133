-- The equations of the fold over statements.
use Rattle.std.proofs.Common.{◌≡◌, List, sym, ◌∙◌, ap}
use Rattle.sq_text.specs.declared.place.Place.{Place}
use Rattle.sq_ast.specs.declared.stmt.Call.{Call}
use Rattle.sq_ast.specs.declared.stmt.Range.{Range}
use Rattle.sq_ast.specs.declared.stmt.MapKind.{MapKind}
use Rattle.sq_ast.specs.declared.stmt.Stmt.{Stmt}
use Rattle.sq_ast.specs.declared.stmt.Stmt.TheVariants as s
use Rattle.sq_ast.specs.declared.stmt.Stmt.TheOpen.{Stmt-F}
use Rattle.sq_ast.specs.declared.stmt.Stmt.TheFolds.{fold-roll-Stmt}
use Rattle.sq_mapping.specs.Required.{with_name}
use Rattle.sq_mapfile.specs.Gathering.{Gather, stmt_step, stmt_calls, stmts_calls}

pub calls_call : (c : Call) → stmt_calls (s.Call c) ≡ (λ names. with_name names c.task)
calls_call c = ap stmt_calls (sym (s.rolls-Call c)) ∙ fold-roll-Stmt Gather stmt_step (Stmt-F.Call c)

pub calls_map : (p : Place) (k : MapKind) (rs : List Range) (xs : List Stmt) → stmt_calls (s.Map p k rs xs) ≡ stmts_calls xs
calls_map p k rs xs = ap stmt_calls (sym (s.rolls-Map p k rs xs)) ∙ fold-roll-Stmt Gather stmt_step (Stmt-F.Map p k rs xs)

pub ruleset opened_calls = (calls_call, calls_map)
