use Rattle.std.proofs.Common.{rules, ◌≤◌, ◌∙◌, length, sym}
use Rattle.std.proofs.lemmas.List.{at_drop_all}
use Rattle.sq_planevents.specs.Shapes.{bound}
use Rattle.sq_planevents.proofs.Bound.{bound_once}
use Rattle.sq_planevents.proofs.shapes.numbers_of.Goals as goal

pub returns : goal.returns
returns c =
    let ended : length c.args.bindings.now ≤ c.loop-binding.binding-index = search rules in
    bound_once c.loop-binding.numbers c.args.bindings.now c.requires (sym (at_drop_all (bound c.loop-binding.numbers) c.args.bindings.now c.loop-binding.binding-index ended) ∙ c.loop-binding.invariant)
