use Rattle.std.proofs.Common.{rules, ◌≡◌, ◌<◌, ◌++◌, ℕ, List, map, ap, ◌∙◌, arith}
use Rattle.std.specs.Option.{option_copied}
use Rattle.sq_form_laws.specs.Blocks.Names.{Numbers}
use Rattle.sq_spec.specs.declared.statement.CallInstance.{CallInstance}
use Rattle.sq_form_laws.specs.Forms.Args as argued
use Rattle.sq_form_laws.specs.Forms.Worlds as worlds
use Rattle.sq_form_laws.specs.Forms.Stmts as stmts
use Rattle.sq_spec.specs.Statements as spec
use Rattle.sq_form_laws.proofs.Forms.Scopes.{left_behind}
use Rattle.sq_spec.proofs.StatementLists.{one_more}
use Rattle.sq_spec.proofs.statement.+push_instances.Goals as goal

pub loop-t-preserved : goal.loop-t-preserved
loop-t-preserved t c =
    let lists = (argued.names_of c.args.context.now.known.now).lists in
    let row : Numbers → CallInstance = spec.call_instance c.args.context.now.forms.now.entries (worlds.frame_of c.args.context.now.frame.now)
    (argued.names_of c.args.context.now.known.now)
    c.args.text_call.now.number (option_copied c.args.text_call.now.reduced) (worlds.callee_by c.args.text_call.now.callee) c.args.text_call.now.args.now in
    let ranges = c.outer.inside.ranges.now in
    let bounds = c.bounds.inside.items.items in
    let inner : ℕ → List Numbers = λ k. spec.iteration_points c.in-Some.inside.now lists (stmts.in_iteration ranges bounds k c.args.numbers.now) in
    let count : c.in_ok-t-end.t-end ≡ stmts.times bounds = search rules in
    let lt : c.loop-t.t < stmts.times bounds = omega (arith, count, c.loop-t-test.true) in
    let same : c.as_slice-in-loop-t.result.now ≡ bounds = search rules in
    let made : c.bind_iteration.new.numbers ≡ stmts.in_iteration ranges bounds c.loop-t.t c.args.numbers.now =
    c.in_ok-bind_iteration.ensures ∙ (ap (λ b. stmts.in_iteration ranges b c.loop-t.t c.loop-t.numbers) same
    ∙ ap (stmts.in_iteration ranges bounds c.loop-t.t) c.loop-t.invariant.numbers) in
    record {
      instances = one_more row inner c.loop-t.t (stmts.times bounds) c.loop-t.instances c.push_instances.new.instances _ lt
          (c.in_ok-push_instances.ensures.instances ∙ ap (λ ns. c.loop-t.instances ++ map row (spec.iteration_points c.in-Some.inside.now lists ns)) made)
          c.loop-t.invariant.instances;
      numbers = c.truncate.ensures ∙ left_behind ranges bounds c.loop-t.t c.len-outside.result c.args.numbers.now c.push_instances.new.numbers
          c.len-outside.ensures (c.in_ok-push_instances.ensures.numbers ∙ made);
    }
