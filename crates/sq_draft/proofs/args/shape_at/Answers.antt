use Rattle.std.proofs.Common.{sym, ◌∙◌}
use Rattle.sq_tables.specs.Placed.Tables.{no_shape}
use Rattle.sq_tables.proofs.Lists.{an_item}
use Rattle.sq_draft.proofs.args.shape_at.Goals as goal

pub returns-clause-its : goal.returns-clause-its
returns-clause-its c = λ shape is. an_item c.args.shapes.now c.args.i no_shape shape (sym c.at.ensures ∙ is)
