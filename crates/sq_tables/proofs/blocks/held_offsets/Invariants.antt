use Rattle.std.proofs.Common.{◌≡◌, ◌++◌, ◌&&◌, ◌==◌, map, drop}
use Rattle.std.specs.List.{list_all}
use Rattle.sq_term.specs.Terms.{numbers, held_bytes}
use Rattle.sq_tables.proofs.blocks.held_offsets.Given as goal

abbrev pub invariant-loop-row : goal.invariant-loop-row
invariant-loop-row l = record {
  made : l.out.items ++ numbers (map (held_bytes l.v l.i) (drop l.row-index l.rows))
      ≡ numbers (map (held_bytes l.v l.i) l.rows);
  zero : (l.is_zero && list_all (λ k. k == 0) (map (held_bytes l.v l.i) (drop l.row-index l.rows)))
      ≡ list_all (λ k. k == 0) (map (held_bytes l.v l.i) l.rows);
}
