use Rattle.std.proofs.Common.{◌≡◌, ◌++◌, ◌&&◌, ◌==◌, map, drop}
use Rattle.std.specs.List.{list_all}
use Rattle.sq_term.specs.Terms.{numbers, bytes_at}
use Rattle.sq_tables.proofs.blocks.offsets.Given as goal

abbrev pub invariant-loop-row : goal.invariant-loop-row
invariant-loop-row l = record {
  made : l.out.items ++ numbers (map (bytes_at l.views l.i) (drop l.row-index l.instances))
      ≡ numbers (map (bytes_at l.views l.i) l.instances);
  zero : (l.is_zero && list_all (λ k. k == 0) (map (bytes_at l.views l.i) (drop l.row-index l.instances)))
      ≡ list_all (λ k. k == 0) (map (bytes_at l.views l.i) l.instances);
}
