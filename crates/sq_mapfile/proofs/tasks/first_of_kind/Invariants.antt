use Rattle.std.proofs.Common.{◌≡◌, drop}
use Rattle.sq_text.specs.Names.{Bytes, item_of, kept}
use Rattle.sq_mapping.specs.Names.{first_from, is_variant, variant_index}
use Rattle.sq_mapfile.proofs.tasks.first_of_kind.Given as goal

abbrev pub invariant-loop-i : goal.invariant-loop-i
invariant-loop-i l = (n : Bytes) → kept (item_of l.first n) (first_from (is_variant n l.kind) l.i (drop l.i l.variants)) ≡ variant_index l.variants n l.kind
