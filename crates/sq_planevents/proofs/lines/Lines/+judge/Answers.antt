use Rattle.std.proofs.Common.{rules, ◌≡◌, ◌∙◌, ◌<◌, ◌≤◌, ◌++◌, length, subst}
use Rattle.sq_plantext.specs.declared.text.TermText.TheVariants as term
use Rattle.sq_planevents.specs.Scoped.{inside_nodes}
use Rattle.sq_planevents.specs.Walked.{JudgesTerm}
use Rattle.sq_planevents.proofs.Walks.{seq_ends, par_ends, act_ends, at_ends, there_at, rest_more, rest_end}
use Rattle.sq_planevents.proofs.lines.Lines.+judge.Goals as goal

pub judge-returns-in-Seq-clause-judged : goal.judge-returns-in-Seq-clause-judged
judge-returns-in-Seq-clause-judged t c =
    let is : c.args.term.now ≡ term.Seq c.in-Seq.parts = search rules in
    let parts : c.as_slice.result.now ≡ c.in-Seq.parts = search rules in
    seq_ends c.args.self.now.text.now c.args.term.now c.args.at.now c.args.found.now c.judge_all.new.found c.judge_all.result c.as_slice.result.now c.in-Seq.parts is parts c.judge_all.ensures.judged

pub judge-returns-in-Par-clause-judged : goal.judge-returns-in-Par-clause-judged
judge-returns-in-Par-clause-judged t c =
    let is : c.args.term.now ≡ term.Par c.in-Par.parts = search rules in
    let parts : c.as_slice-in-Par.result.now ≡ c.in-Par.parts = search rules in
    par_ends c.args.self.now.text.now c.args.term.now c.args.at.now c.args.found.now c.judge_all-in-Par.new.found c.judge_all-in-Par.result c.as_slice-in-Par.result.now c.in-Par.parts is parts c.judge_all-in-Par.ensures.judged

pub judge-returns-in_ok-judge-in-At-clause-judged : goal.judge-returns-in_ok-judge-in-At-clause-judged
judge-returns-in_ok-judge-in-At-clause-judged t c =
    let is : c.args.term.now ≡ term.At c.in-At.place c.in-At.node c.in-At.buffers c.in-At.body = search rules in
    let names : c.as_slice-in-At.result.now ≡ c.in-At.buffers = search rules in
    let body : c.get.result.now ≡ c.in-At.body = search rules in
    let inside : c.enter.new.at ≡ record { nodes = inside_nodes c.args.self.now.text.now c.args.at.now.nodes c.in-At.node; scopes = c.args.at.now.scopes ++ c.as_slice-in-At.result.now } = search rules in
    let judged : JudgesTerm c.args.self.now.text.now c.get.result.now c.enter.new.at c.judge_scope.new.found c.judge.new.found = search rules in
    at_ends c.args.self.now.text.now c.args.term.now c.args.at.now c.enter.new.at c.args.found.now c.judge_scope.new.found c.judge.new.found c.in-At.place c.in-At.node c.in-At.buffers c.as_slice-in-At.result.now c.in-At.body c.get.result.now is names body inside c.judge_scope.ensures judged

pub judge-returns-in-Act-clause-judged : goal.judge-returns-in-Act-clause-judged
judge-returns-in-Act-clause-judged t c =
    let is : c.args.term.now ≡ term.Act c.in-Act.place c.in-Act.event = search rules in
    act_ends c.args.self.now.text.now c.args.term.now c.args.at.now c.args.found.now c.judge_event.new.found c.judge_event.result c.in-Act.place c.in-Act.event is c.judge_event.ensures

pub judge_all-loop-term-preserved : goal.judge_all-loop-term-preserved
judge_all-loop-term-preserved t c =
    let same : c.judge.new.at ≡ c.loop-term.at = search rules in
    let more : c.loop-term.term-index < length c.args.terms.now = search rules in
    let there = there_at c.args.terms.now c.loop-term.term-index c.term-item.result more c.term-item.is in
    let judged : JudgesTerm c.args.self.now.text.now c.term-item.result c.loop-term.at c.loop-term.found c.judge.new.found = search rules in
    record {
      same = same ∙ c.loop-term.invariant.same;
      rest = rest_more c.args.self.now.text.now c.args.terms.now c.loop-term.term-index c.term-item.result c.args.at.now c.args.found.now c.loop-term.found c.judge.new.found there c.loop-term.invariant.rest
          (subst (λ s. JudgesTerm c.args.self.now.text.now c.term-item.result s c.loop-term.found c.judge.new.found) c.loop-term.invariant.same judged);
    }

pub judge_all-returns-clause-judged : goal.judge_all-returns-clause-judged
judge_all-returns-clause-judged t c =
    let ended : length c.args.terms.now ≤ c.loop-term.term-index = search rules in
    rest_end c.args.self.now.text.now c.args.terms.now c.loop-term.term-index c.args.at.now c.args.found.now c.loop-term.found ended c.loop-term.invariant.rest
