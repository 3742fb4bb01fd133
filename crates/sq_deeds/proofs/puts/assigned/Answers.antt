use Rattle.std.proofs.Common.{◌∙◌, ap, sym, w64}
use Rattle.std.proofs.lemmas.Int.{wrapping_add_is, wrapping_sub_is}
use Rattle.sq_ast.specs.declared.leaf.AssignOp.{AssignOp}
use Rattle.sq_leaf.specs.Source as source
use Rattle.sq_deeds.proofs.puts.assigned.Goals as goal

pub returns-in-Add : goal.returns-in-Add
returns-in-Add c = wrapping_add_is w64 c.args.old c.args.x c.ranges.old c.ranges.x ∙ ap (λ (o : AssignOp). source.assigned o c.args.old c.args.x) (sym c.in-Add.is)

pub returns-in-Sub : goal.returns-in-Sub
returns-in-Sub c = wrapping_sub_is w64 c.args.old c.args.x c.ranges.old c.ranges.x ∙ ap (λ (o : AssignOp). source.assigned o c.args.old c.args.x) (sym c.in-Sub.is)
