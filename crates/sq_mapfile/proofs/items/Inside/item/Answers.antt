use Rattle.std.proofs.Common.{sym, ◌∙◌, ap}
use Rattle.sq_text.specs.Found.{firsts}
use Rattle.sq_mapfile.specs.Faults.{breach_of}
use Rattle.sq_mapfile.specs.Notes.{item_rules}
use Rattle.sq_mapfile.specs.Walk.{inside_of, callee_rules}
use Rattle.sq_mapfile.proofs.items.Inside.item.Goals as goal

pub returns-in_ok-callee-in-Call : goal.returns-in_ok-callee-in-Call
returns-in_ok-callee-in-Call c = λ later.
    let n = inside_of c.args.self.now in
    c.in_ok-callee-in-Call.ensures later
    ∙ (c.in_ok-called-in-Call.ensures (callee_rules n c.in-Call.task c.in-Call.instance later)
    ∙ ap (λ x. firsts breach_of c.args.found.now (item_rules n c.args.i x later)) (sym c.in-Call.is))
