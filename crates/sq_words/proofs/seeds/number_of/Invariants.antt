use Rattle.std.proofs.Common.{◌≡◌, ◌<◌, ◌^◌, drop}
use Rattle.std.specs.List.{fold}
use Rattle.sq_words.specs.Words as spec
use Rattle.sq_words.proofs.seeds.number_of.Given as goal

abbrev pub invariant-loop-digit : goal.invariant-loop-digit
invariant-loop-digit l = record {
  number : fold spec.with_digit l.number (drop l.digit-index l.digits) ≡ spec.number l.digits;
  small : l.number < 2 ^ 64;
}
