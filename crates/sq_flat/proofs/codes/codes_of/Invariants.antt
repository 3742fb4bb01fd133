use Rattle.std.proofs.Common.{◌≡◌, ◌<◌, ℕ, length}
use Rattle.sq_spec.specs.Bodies.{body_of}
use Rattle.sq_flat.specs.Works.{bodies_of}
use Rattle.sq_flat.proofs.codes.codes_of.Given as goal

abbrev pub invariant-loop-k : goal.invariant-loop-k
invariant-loop-k l = record {
  many : length l.codes ≡ l.k;
  bodies : (i : ℕ) → i < l.k → bodies_of l.codes i ≡ body_of l.r.typed.now.tasks l.r.mapping.now.instances l.r.found.entries i;
}
