use Rattle.std.proofs.Common.{rules, ◌≡◌, ◌∙◌, ap, List, map}
use Rattle.sq_leaf.specs.declared.shape.Shape.{Shape}
use Rattle.sq_leaf.specs.Views.{shape_of}
use Rattle.sq_flat.specs.Memory.{lined}
use Rattle.sq_flat.proofs.Holding.{lined_shapes}
use Rattle.sq_flat.proofs.codes.code_of.Goals as goal

pub returns-in-Some : goal.returns-in-Some
returns-in-Some c =
    let at : c.in-Some.views ≡ lined 0 c.args.body.arrays = search rules in
    let same : map shape_of c.in-Some.views ≡ c.args.body.arrays = ap (map shape_of) at ∙ lined_shapes 0 c.args.body.arrays in
    ap (λ (l : List Shape). record { arrays = l; body = c.args.body.body }) same
