use Rattle.std.proofs.Common.{◌≡◌, ◌++◌, drop}
use Rattle.sq_planlines.specs.Narrow.{terms_of}
use Rattle.sq_planlines.proofs.terms.+forming.Given as goal

abbrev pub invariant-terms_of-loop-text : goal.invariant-terms_of-loop-text
invariant-terms_of-loop-text l = l.terms ++ terms_of l.nodes (drop l.text-index l.texts) l.here ≡ terms_of l.nodes l.texts l.here
