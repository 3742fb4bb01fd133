use Rattle.sq_ir.proofs.Elsewhere.{depend_on_loops, keep_in_scopes, ignore_offsets}
use Rattle.sq_ir.proofs.laws.numbers_depend_on_loops.Goals as goal

pub returns-clause-loops : goal.returns-clause-loops
returns-clause-loops c = depend_on_loops

pub returns-clause-scopes : goal.returns-clause-scopes
returns-clause-scopes c = keep_in_scopes

pub returns-clause-offsets : goal.returns-clause-offsets
returns-clause-offsets c = ignore_offsets
