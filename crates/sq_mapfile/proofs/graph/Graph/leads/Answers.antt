use Rattle.std.proofs.Common.{◌≡◌, ◌≤◌, Some, None, length, slice_get, arith, rules}
use Rattle.sq_mapfile.proofs.Leading.{explored_start, explored_next, next_within, ended, past, few}
use Rattle.sq_mapfile.proofs.graph.Graph.leads.Goals as goal

pub loop-i-init : goal.loop-i-init
loop-i-init c =
    explored_start c.args.self.now.calls.now (length c.args.self.now.lists.items) c.args.from c.new-seen.result.keys c.insert.new.self.keys c.requires c.new-seen.ensures.empty c.in_ok-insert.ensures.keys c.in_ok-insert.ensures.unique

pub see-requires : goal.see-requires
see-requires c =
    let got : slice_get c.loop-i.seen.keys c.loop-i.i ≡ Some c.in-Some.at = search rules in
    next_within c.args.self.now.calls.now (length c.args.self.now.lists.items) c.args.from c.loop-i.seen.keys c.loop-i.i c.in-Some.at c.loop-i.invariant got

pub loop-i-preserved : goal.loop-i-preserved
loop-i-preserved c =
    let got : slice_get c.loop-i.seen.keys c.loop-i.i ≡ Some c.in-Some.at = search rules in
    explored_next c.args.self.now.calls.now (length c.args.self.now.lists.items) c.args.from c.loop-i.seen.keys c.see.new.seen.keys c.loop-i.i c.in-Some.at c.args.self.now.within c.loop-i.invariant got
    c.in_ok-see-in-Some.ensures

pub returns-in-None : goal.returns-in-None
returns-in-None c =
    let got : slice_get c.loop-i.seen.keys c.loop-i.i ≡ None = search rules in
    ended c.args.self.now.calls.now (length c.args.self.now.lists.items) c.args.from c.args.to c.loop-i.seen.keys c.loop-i.i c.contains.result c.loop-i.invariant (past c.loop-i.seen.keys c.loop-i.i got) c.contains.ensures

pub returns : goal.returns
returns c =
    let le : length c.loop-i.seen.keys ≤ length c.args.self.now.lists.items = few c.args.self.now.calls.now (length c.args.self.now.lists.items) c.args.from c.loop-i.seen.keys c.loop-i.i c.loop-i.invariant in
    ended c.args.self.now.calls.now (length c.args.self.now.lists.items) c.args.from c.args.to c.loop-i.seen.keys c.loop-i.i c.contains-2.result c.loop-i.invariant (omega arith) c.contains-2.ensures
