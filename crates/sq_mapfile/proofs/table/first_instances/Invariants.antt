use Rattle.std.proofs.Common.{◌≡◌, drop}
use Rattle.sq_text.specs.Names.{Bytes, item_of, kept, same_name}
use Rattle.sq_mapping.specs.Names.{first_from}
use Rattle.sq_mapfile.specs.Names.{index_of}
use Rattle.sq_mapfile.proofs.table.first_instances.Given as goal

abbrev pub invariant-loop-i : goal.invariant-loop-i
invariant-loop-i l = (n : Bytes) → kept (item_of l.first n) (first_from (λ x. same_name n x.name.name) l.i (drop l.i l.instances)) ≡ index_of l.instances n
