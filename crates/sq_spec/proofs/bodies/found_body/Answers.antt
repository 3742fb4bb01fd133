use Rattle.std.proofs.Common.{rules}
use Rattle.sq_spec.proofs.WhatRuns.{variant_compiles}
use Rattle.sq_spec.proofs.bodies.found_body.Goals as goal

pub scope_body-requires : goal.scope_body-requires
scope_body-requires c =
    variant_compiles c.args.variants.now.list.now c.in-Some.x.now.task c.in-Some.x.now.kind c.in-Some-get.v.now c.requires (search rules)
