use Rattle.std.proofs.Common.{◌≡◌, ◌-◌}
use Rattle.sq_ast.specs.Symbols.{symbols}
use Rattle.sq_reader.specs.Reading.{joined_from, begins_decl, decl, decls}
use Rattle.sq_reader.proofs.program.decls.Given as goal

abbrev pub invariant-loop-turn : goal.invariant-loop-turn
invariant-loop-turn l = decls l.is_inner l.depth (symbols l.fn.tokens) ≡ joined_from (begins_decl l.is_inner) (decl l.is_inner l.depth) (l._turn-end - l._turn) l.found (symbols l.tokens)
