use Rattle.std.proofs.Common.{Err, ap}
use Rattle.sq_port.specs.declared.whole.ReadEnd.{ReadEnd}
use Rattle.sq_driver.proofs.Trees.{tree_held, tree_refused, tree_too_long}
use Rattle.sq_driver.proofs.phases.tree.read_tree.Goals as goal

pub returns-in-Err-TooLong-clause-told : goal.returns-in-Err-TooLong-clause-told
returns-in-Err-TooLong-clause-told g c = tree_too_long _ c.args.name.now c.too_long.result c.too_long.ensures
    (λ k is. c.in-Err-TooLong.ensures.told.too_long k is (ap (λ (e : ReadEnd). Err e) c.in-Err-TooLong.field-0-is))

pub returns-in-Ok-tree_of-clause-told : goal.returns-in-Ok-tree_of-clause-told
returns-in-Ok-tree_of-clause-told g c =
    tree_held _ c.args.name.now c.in-Ok.text c.in-Ok.ensures.told.ok _ c.as_slice.ensures c.in-Ok-tree_of.program
    c.in-Ok-tree_of.ensures.found c.in-Ok-tree_of.ensures.only c.in-Ok-tree_of.ensures.refuses

pub returns-in-Err-Refused-clause-told : goal.returns-in-Err-Refused-clause-told
returns-in-Err-Refused-clause-told g c = tree_refused _ c.args.name.now c.in-Ok.text c.in-Ok.ensures.told.ok
    _ c.as_slice.ensures c.in-Err-Refused.field-0 c.in-Err-Refused.fault c.in-Err-Refused.field-0-is
    c.in-Err-Refused.ensures.refused
