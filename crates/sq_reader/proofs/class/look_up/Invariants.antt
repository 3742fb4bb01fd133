use Rattle.std.proofs.Common.{◌≡◌, map, drop}
use Rattle.sq_reader.specs.Words.{look_up}
use Rattle.sq_reader.proofs.class.look_up.Given as goal

abbrev pub invariant-loop-spelling : goal.invariant-loop-spelling
invariant-loop-spelling l = look_up l.word (map (λ k. (k.0.now, k.1)) (drop l.spelling-index l.keywords)) ≡ look_up l.word (map (λ k. (k.0.now, k.1)) l.keywords)
