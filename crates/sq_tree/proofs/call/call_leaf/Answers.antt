use Rattle.std.proofs.Common.{Some, None, sym, ap, ◌∙◌}
use Rattle.std.specs.Option.{option_copied}
use Rattle.sq_tree.specs.Bank.{size_in}
use Rattle.sq_tree.proofs.Calling.{leaf_there, may_run, is_there}
use Rattle.sq_tree.proofs.call.call_leaf.Goals as goal

pub run_at-requires : goal.run_at-requires
run_at-requires c =
    let there = leaf_there c.args.plan.now.draft c.args.code (Some c.in-Some.leaf.now) (sym (ap option_copied c.in-Some.is) ∙ c.get.ensures.value) in
    may_run c.runs_of_leaves_are_their_events.ensures.can c.args.plan.now c.args.code (size_in c.args.nodes.now c.args.node) c.args.views.now c.args.path.now c.in-Some.leaf.now.code there c.requires.may c.requires.small
    c.as_slice-dimensions.ensures.few_dimensions

pub returns-in-None : goal.returns-in-None
returns-in-None c =
    let none = leaf_there c.args.plan.now.draft c.args.code None (sym (ap option_copied c.in-None.is) ∙ c.get.ensures.value) in
    absurd (is_there c.runs_of_leaves_are_their_events.ensures.can c.args.plan.now c.args.code (size_in c.args.nodes.now c.args.node) c.args.views.now c.args.path.now none c.requires.may c.requires.small
    c.as_slice-dimensions.ensures.few_dimensions)

pub returns-in-Some : goal.returns-in-Some
returns-in-Some c = record {
  leaf = c.in-Some.leaf.now.code;
  there = leaf_there c.args.plan.now.draft c.args.code (Some c.in-Some.leaf.now) (sym (ap option_copied c.in-Some.is) ∙ c.get.ensures.value);
  runs = c.run_at.ensures;
}
