use Rattle.std.proofs.Common.{◌≡◌, drop}
use Rattle.sq_words.specs.Words as spec
use Rattle.sq_words.specs.Said.{said}
use Rattle.sq_words.proofs.options.options_of.Given as goal

abbrev pub invariant-loop-word : goal.invariant-loop-word
invariant-loop-word l = spec.options_of (said l.options) (spec.texts (drop l.word-index l.words)) ≡ spec.options_of spec.no_options (spec.texts l.words)
