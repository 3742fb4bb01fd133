-- How often the maps of a form are begun, where its walk goes through.
use Rattle.std.specs.Prelude.{◌≡◌, List, [], map, Ok}
use Rattle.sq_ast.specs.declared.program.Body.TheVariants.{Inner}
use Rattle.sq_ast.specs.declared.stmt.Stmt.{Stmt}
use Rattle.sq_forms.specs.Decls.{Scope}
use Rattle.sq_forms.specs.Resolving.{body_steps}
use Rattle.sq_forms.specs.Steps.{State, run, most_uses}
use Rattle.sq_forms.specs.Worlds.{Frame}
use Rattle.sq_term_laws.specs.Begun.{joined, nests_of, AreFew}

-- Where what the walk meets in a form has no fault, no map's body is begun more often than an outermost map may have
-- uses.
abbrev pub RunsAreFew : Type 0
RunsAreFew = (frame : Frame) (scope : Scope) (list : List Stmt) (s t : State)
    → run s (body_steps (Inner list) frame scope) ≡ Ok t
    → AreFew most_uses scope.names scope.numbers [] (joined (map nests_of list))
