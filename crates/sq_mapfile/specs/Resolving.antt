-- The mapping that a file says, by functions. A name that stands for nothing has the index 0; so has one past 32 bits,
-- as no file has so many.
use Rattle.std.specs.Prelude.{ℕ, ◌^◌, ltb, List, [], ◌∷◌, map, Option, Some, None, if◌then◌else◌}
use Rattle.sq_machfile.specs.declared.level.Level.{Level}
use Rattle.sq_mapping.specs.declared.mapping.Route.{Route}
use Rattle.sq_mapping.specs.declared.mapping.Instance.{Instance}
use Rattle.sq_mapping.specs.declared.mapping.Mapping.{Mapping}
use Rattle.sq_mapfile.specs.declared.text.ItemText.{ItemText}
use Rattle.sq_mapfile.specs.declared.text.ItemText.TheVariants.{Tunable, Call, Spread}
use Rattle.sq_mapfile.specs.declared.text.InstanceText.{InstanceText}
use Rattle.sq_mapfile.specs.declared.text.MappingText.{MappingText}
use Rattle.sq_mapfile.specs.Names.{index_of, level_of}
use Rattle.sq_mapfile.specs.Mappings.{tunings_of, spread_of, size_set}

abbrev pub or_zero : Option ℕ → ℕ
or_zero None = 0
or_zero (Some i) = if ltb i (2 ^ 32) then i else 0

abbrev pub routes_of : List InstanceText → List ItemText → List Route
routes_of instances [] = []
routes_of instances (Tunable name values ∷ rest) = routes_of instances rest
routes_of instances (Spread word rule ∷ rest) = routes_of instances rest
routes_of instances (Call task name ∷ rest) = record { task = task.name; instance = or_zero (index_of instances name.name) } ∷ routes_of instances rest

abbrev pub instance_with : List Level → List InstanceText → InstanceText → Instance
instance_with levels instances x = record {
  name = x.name.name;
  task = x.task.name;
  kind = x.kind;
  level = or_zero (level_of levels x.level.name);
  tunings = tunings_of x.items;
  routes = routes_of instances x.items;
  spread = spread_of x.items;
}

abbrev pub mapping_with : List Level → MappingText → Mapping
mapping_with levels m = record {
  entry = or_zero (index_of m.instances m.entry.name);
  sizes = map size_set m.sizes;
  instances = map (instance_with levels m.instances) m.instances;
}
