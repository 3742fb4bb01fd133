use Rattle.std.proofs.Common.{rules, ◌≡◌, ◌∙◌, sym, ap, subst, map}
use Rattle.sq_leaf.specs.Views.{shape_of}
use Rattle.sq_flat.specs.Memory.{lined}
use Rattle.sq_flat.specs.Held.{Stored, AreWhole, zero_bytes, entry_shapes}
use Rattle.sq_flat.proofs.Holding.{lined_shapes, zeros_whole}
use Rattle.sq_flat.proofs.arrays.Arrays.new.Goals as goal

pub returns-clause-shapes : goal.returns-clause-shapes
returns-clause-shapes c =
    let is : c.in_ok-arrays.arrays ≡ record { shapes = map shape_of c.in-Some.views; bytes = zero_bytes (map shape_of c.in-Some.views) } = search rules in
    let at : c.in-Some.views ≡ lined 0 c.in_ok-shapes.shapes = search rules in
    let entry : c.in_ok-shapes.shapes ≡ entry_shapes c.args.r.now.typed.now.tasks c.args.r.now.mapping.now c.args.r.now.found.entries = search rules in
    ap (λ (a : Stored). a.shapes) is ∙ (ap (map shape_of) at ∙ (lined_shapes 0 c.in_ok-shapes.shapes ∙ entry))

pub returns-clause-whole : goal.returns-clause-whole
returns-clause-whole c =
    let is : c.in_ok-arrays.arrays ≡ record { shapes = map shape_of c.in-Some.views; bytes = zero_bytes (map shape_of c.in-Some.views) } = search rules in
    subst AreWhole (sym is) (zeros_whole (map shape_of c.in-Some.views))
