use Rattle.std.proofs.Common.{◌≡◌, ◌++◌, map, length, drop}
use Rattle.std.specs.List.{range_with_len}
use Rattle.sq_spec.specs.Bodies.{body_of}
use Rattle.sq_hoist.specs.Choices.{sites_from, sites_of}
use Rattle.sq_hoist.proofs.hoisting.sites_of.Given as goal

abbrev pub invariant-loop-form : goal.invariant-loop-form
invariant-loop-form l =
    l.out ++ sites_from l.form (map (body_of l.r.typed.now.tasks l.r.mapping.now.instances l.r.found.entries)
    (range_with_len l.form (length (drop l.form l.r.forms))))
    ≡ sites_of l.r
