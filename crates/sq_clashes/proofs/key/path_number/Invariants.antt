use Rattle.std.proofs.Common.{◌≡◌, ◌<◌, ◌^◌, drop}
use Rattle.sq_clashes.specs.Keys.{path_number}
use Rattle.sq_clashes.proofs.key.path_number.Given as goal

abbrev pub invariant-loop-next : goal.invariant-loop-next
invariant-loop-next l = record {
  rest : path_number l.number (drop l.next-index l.path) ≡ path_number 0 l.path;
  small : l.number < 2 ^ 40;
}
