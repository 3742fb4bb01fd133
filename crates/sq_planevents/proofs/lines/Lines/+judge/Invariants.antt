use Rattle.std.proofs.Common.{◌≡◌}
use Rattle.sq_planevents.proofs.Walks.{Rest}
use Rattle.sq_planevents.proofs.lines.Lines.+judge.Given as goal

abbrev pub invariant-judge_all-loop-term : goal.invariant-judge_all-loop-term
invariant-judge_all-loop-term l = record {
  same : l.at ≡ l.fn.at;
  rest : Rest l.self.text.now l.terms l.term-index l.fn.at l.fn.found l.found;
}
