use Rattle.std.specs.Option.{option_copied}
use Rattle.sq_mapfile.specs.Scopes.{scope_of}
use Rattle.sq_mapfile.proofs.Walks.{one_instance}
use Rattle.std.proofs.Common.{◌∙◌}
use Rattle.sq_mapfile.proofs.instances.instance.Goals as goal

pub returns : goal.returns
returns c =
    one_instance (scope_of c.args.scope.now) c.args.i c.args.x.now c.args.found.now c.name.new.found c.place.new.found c.items.new.found
    (option_copied c.required_of-required.result) c.level.result c.in_ok-items.items.items.now c.required_of-required.ensures c.level.ensures
    (c.in_ok-items.ensures ∙ c.as_slice.ensures) c.in_ok-name.ensures c.in_ok-place.ensures c.in_ok-items-2.ensures
