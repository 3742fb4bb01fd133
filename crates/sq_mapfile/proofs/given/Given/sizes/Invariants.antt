use Rattle.std.proofs.Common.{◌≡◌, drop}
use Rattle.sq_text.specs.Names.{Bytes, item_of, kept, same_name}
use Rattle.sq_mapping.specs.Names.{first_from}
use Rattle.sq_mapfile.specs.Names.{size_index}
use Rattle.sq_mapfile.specs.Given.{AreWithin}
use Rattle.sq_mapfile.proofs.given.Given.sizes.Given as goal

abbrev pub invariant-loop-i : goal.invariant-loop-i
invariant-loop-i l = record {
  first : (n : Bytes) → kept (item_of l.found.first n) (first_from (λ size. same_name n size.name.name) l.i (drop l.i l.sizes)) ≡ size_index l.sizes n;
  within : AreWithin l.found.first l.found.longest;
}
