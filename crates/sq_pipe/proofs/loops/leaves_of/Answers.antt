use Rattle.std.proofs.Common.{sym, ap, ◌∙◌, rules}
use Rattle.sq_hoist.specs.Chosen.declared.choice.Choice.{Choice}
use Rattle.sq_pipe.proofs.Chosen.{none_chosen, one_chosen}
use Rattle.sq_pipe.proofs.loops.leaves_of.Goals as goal

pub returns-in-None : goal.returns-in-None
returns-in-None c = sym (ap (λ (x : Choice). x.leaves) (none_chosen c.args.choices.now c.args.form (search rules)))

pub returns-in-Some : goal.returns-in-Some
returns-in-Some c = c.as_slice.ensures ∙ sym (ap (λ (x : Choice). x.leaves) (one_chosen c.args.choices.now c.args.form c.in-Some.c.now (search rules)))
