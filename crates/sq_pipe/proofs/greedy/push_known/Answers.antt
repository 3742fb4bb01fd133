use Rattle.std.proofs.Common.{◌≡◌, ◌++◌, ◌∙◌, ap}
use Rattle.sq_hoist.specs.Chosen.Forms.{choice_in}
use Rattle.sq_pipe.specs.Greedy.{candidates_in}
use Rattle.sq_pipe.proofs.greedy.push_known.Goals as goal

pub returns-clause-candidates : goal.returns-clause-candidates
returns-clause-candidates c =
    let pushed : c.push_body.new.out ≡ c.args.candidates.now
    ++ candidates_in (λ f. (choice_in c.args.chosen.choices.now f).leaves) c.children_at.result c.args.form
    c.args.body.now.body = c.in_ok-push_body.ensures in
    pushed ∙ ap (λ n. c.args.candidates.now
    ++ candidates_in (λ f. (choice_in c.args.chosen.choices.now f).leaves) n c.args.form c.args.body.now.body)
    c.children_at.ensures
