use Rattle.std.proofs.Common.{rules, ap}
use Rattle.sq_work.specs.Leaf.Leaf.{is_leaf_body}
use Rattle.sq_form_laws.specs.Forms.Worlds as worlds
use Rattle.sq_form_laws.specs.Forms.Decls as decls
use Rattle.sq_spec.proofs.WhatRuns.{inner_is}
use Rattle.sq_spec.proofs.bodies.what_runs.Goals as goal

pub returns-in_ok-tables-in-Inner : goal.returns-in_ok-tables-in-Inner
returns-in_ok-tables-in-Inner c =
    inner_is c.args.forms.now.entries (worlds.frame_of c.args.frame.now) c.args.v.now c.args.v.now.body
    (decls.scope_of c.args.scope.now) c.in-Inner.list _ _ c.in_ok-tables-in-Inner.tables
    c.in_ok-tables-in-Inner.ensures (search rules) (search rules) (search rules)

pub compile_leaf-requires : goal.compile_leaf-requires
compile_leaf-requires c = c.requires.leaf (ap is_leaf_body c.in-Leaf.is)
