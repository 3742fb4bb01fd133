use Rattle.std.proofs.Common.{sym, ◌∙◌, ap, subst}
use Rattle.sq_mapfile.specs.Names.{stands_before}
use Rattle.sq_mapfile.specs.Graph.{item_calls}
use Rattle.sq_mapfile.specs.Graph.{Adds}
use Rattle.sq_mapfile.proofs.Gathered.{one_call}
use Rattle.sq_mapfile.proofs.calls.item_calls.Goals as goal

pub returns-in_ok-push_call-in-Call : goal.returns-in_ok-push_call-in-Call
returns-in_ok-push_call-in-Call c =
    let instances = c.args.table.now.instances.now in
    let items = c.args.items.now.items.now in
    subst (λ x. Adds c.args.calls.now.items c.push_call.new.calls.items (item_calls instances c.args.caller items c.args.k x)) (sym c.in-Call.is)
    (one_call instances c.args.caller items c.args.k c.args.calls.now.items c.push_call.new.calls.items c.in-Call.task c.in-Call.instance
    (ap (λ o. stands_before o c.args.k) (sym c.call.ensures) ∙ (sym c.stands_before.ensures ∙ c.if-stands_before.false))
    c.in_ok-push_call-in-Call.ensures)
