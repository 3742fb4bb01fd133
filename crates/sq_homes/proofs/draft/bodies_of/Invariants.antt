use Rattle.std.proofs.Common.{◌≡◌, ◌++◌, map, length, drop}
use Rattle.std.specs.List.{range_with_len}
use Rattle.sq_chosen.specs.SpecLaws.Spec.Bodies.{body_of}
use Rattle.sq_chosen.specs.Forms.{bodies_of}
use Rattle.sq_homes.proofs.draft.bodies_of.Given as goal

abbrev pub invariant-loop-form : goal.invariant-loop-form
invariant-loop-form l =
    l.out.items ++ map (body_of l.r.typed.now.tasks l.r.mapping.now.instances l.r.found.entries)
    (range_with_len l.form (length (drop l.form l.r.forms)))
    ≡ bodies_of l.r
