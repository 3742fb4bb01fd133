use Rattle.std.proofs.Common.{◌≡◌, drop}
use Rattle.sq_text.specs.Names.{Bytes, item_of, kept}
use Rattle.sq_mapping.specs.Names.{first_from}
use Rattle.sq_mapfile.specs.Names.{is_tunable, tunable_index}
use Rattle.sq_mapfile.specs.Given.{AreWithin}
use Rattle.sq_mapfile.proofs.given.Given.tunables.Given as goal

abbrev pub invariant-loop-i : goal.invariant-loop-i
invariant-loop-i l = record {
  first : (n : Bytes) → kept (item_of l.found.first n) (first_from (is_tunable n) l.i (drop l.i l.items)) ≡ tunable_index l.items n;
  within : AreWithin l.found.first l.found.longest;
}
