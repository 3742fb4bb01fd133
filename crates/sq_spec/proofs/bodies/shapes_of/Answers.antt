use Rattle.std.proofs.Common.{◌≡◌, ◌∷◌, ◌++◌, [], rules}
use Rattle.sq_spec.proofs.WhatRuns.{one_local_more}
use Rattle.sq_spec.proofs.bodies.shapes_of.Goals as goal

pub loop-local-preserved : goal.loop-local-preserved
loop-local-preserved c =
    let pushed : c.push_shape.new.shapes ≡ c.loop-local.shapes ++ record { elem = c.local-item.result.elem; extents = c.local-item.result.extents } ∷ [] = search rules in
    one_local_more c.loop-local.shapes c.push_shape.new.shapes c.args.locals.now c.loop-local.local-index c.local-item.result c.loop-local-test.true c.local-item.is pushed
    c.loop-local.invariant
