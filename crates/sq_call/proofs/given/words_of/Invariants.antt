use Rattle.std.proofs.Common.{◌≡◌, ◌++◌, drop}
use Rattle.sq_words.specs.Words.{texts}
use Rattle.sq_call.specs.Given.{bytes_of, are_texts}
use Rattle.sq_call.proofs.given.words_of.Given as goal

-- those so far with those to come are all, and if those to come are texts, all are
abbrev pub invariant-loop-word : goal.invariant-loop-word
invariant-loop-word l = record {
  words : texts l.words.items ++ bytes_of (drop l.word-index l.given) ≡ bytes_of l.given;
  texts : are_texts (bytes_of (drop l.word-index l.given)) ≡ are_texts (bytes_of l.given);
}
