use Rattle.std.proofs.Common.{rules, ◌≡◌, true, map}
use Rattle.sq_leaf.specs.Views.{shape_of}
use Rattle.sq_flat.specs.Memory.{total, zeros}
use Rattle.sq_flat.specs.Checked.{are_lined}
use Rattle.sq_flat.proofs.Holding.{zeros_stored, zeros_are}
use Rattle.sq_flat.proofs.arrays.zeros_in.Goals as goal

pub invariant_of-result : goal.invariant_of-result
invariant_of-result c =
    let lined : are_lined 0 c.args.views ≡ true = search rules in
    let is : c.push_zeros.new.into.items ≡ zeros (total (map shape_of c.args.views)) = search rules in
    zeros_stored c.args.views c.push_zeros.new.into.items lined is

pub returns : goal.returns
returns c =
    let is : c.push_zeros.new.into.items ≡ zeros (total (map shape_of c.args.views)) = search rules in
    zeros_are c.args.views c.push_zeros.new.into.items is
