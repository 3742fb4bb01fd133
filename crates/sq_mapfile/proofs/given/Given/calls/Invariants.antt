use Rattle.std.proofs.Common.{◌≡◌, drop}
use Rattle.sq_text.specs.Names.{Bytes, item_of, kept}
use Rattle.sq_mapping.specs.Names.{first_from}
use Rattle.sq_mapfile.specs.Names.{is_call, call_index}
use Rattle.sq_mapfile.specs.Given.{AreWithin}
use Rattle.sq_mapfile.proofs.given.Given.calls.Given as goal

abbrev pub invariant-loop-i : goal.invariant-loop-i
invariant-loop-i l = record {
  first : (n : Bytes) → kept (item_of l.found.first n) (first_from (is_call n) l.i (drop l.i l.items)) ≡ call_index l.items n;
  within : AreWithin l.found.first l.found.longest;
}
