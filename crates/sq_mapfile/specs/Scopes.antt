-- What names are looked up in, as the rules know it.
use Rattle.sq_mapfile.specs.declared.scope.Scope as tables
use Rattle.sq_mapfile.specs.Faults.{Scope}

abbrev pub scope_of : tables.Scope → Scope
scope_of s = record { variants = s.tasks.now.variants.now; levels = s.table.now.levels.now; instances = s.table.now.instances.now }
