use Rattle.std.proofs.Common.{◌≡◌, ◌++◌, OnOk, List, ℕ, sym, ap, ◌∙◌, subst, rules}
use Rattle.sq_spec.specs.declared.statement.Statement.{Statement}
use Rattle.sq_pipe.specs.declared.candidate.Candidate.{Candidate}
use Rattle.sq_hoist.specs.Chosen.Forms.{choice_in}
use Rattle.sq_pipe.specs.Candidates.{seen}
use Rattle.sq_pipe.proofs.CallsOpened.{loops_map}
use Rattle.sq_pipe.proofs.loops.+walk.Goals as goal

pub push_loops-returns-in-Map : goal.push_loops-returns-in-Map
push_loops-returns-in-Map t c =
    let leaves : ℕ → List ℕ = λ f. (choice_in c.args.caller.choices.now f).leaves in
    subst (λ (xs : List Candidate). OnOk c.push_map.result (c.push_map.new.out ≡ c.args.out.now ++ xs))
    (sym (ap (λ (x : Statement). (seen leaves c.args.caller.children c.args.caller.form x).loops c.args.inside) c.in-Map.is
    ∙ loops_map leaves c.args.caller.children c.args.caller.form c.in-Map.place c.in-Map.kind c.in-Map.counts
    c.in-Map.starts c.in-Map.body c.args.inside))
    (search rules)
