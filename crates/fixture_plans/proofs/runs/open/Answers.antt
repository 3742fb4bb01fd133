use Rattle.std.proofs.Common.{rules, ◌≡◌, ◌+◌, ◌≤◌, length, ap, ◌∙◌, arith}
use Rattle.sq_ir.specs.Plans.{node_at}
use Rattle.sq_tree.specs.Bank.{size_in}
use Rattle.fixture_plans.proofs.Sizes.{zeros-size}
use Rattle.fixture_plans.proofs.runs.open.Goals as goal

pub returns-clause-prepared : goal.returns-clause-prepared
returns-clause-prepared g c =
    let low : length c.args.start.now ≤ c.root_size.result = search rules in
    let size : c.root_size.result ≡ (node_at c.args.plan.value.nodes 0).capacity = c.root_size.ensures
    ∙ ap (λ p. (node_at p.nodes 0).capacity) c.deref.ensures in
    let now : size_in (g.B.Bank.seen c.prepare.new.self).nodes 0 ≡ (node_at c.args.plan.value.nodes 0).capacity
    = ap (λ ns. size_in ns 0) c.in-Ok.ensures.opened.nodes ∙ zeros-size c.args.plan.value.nodes in
    let fits : 0 + length c.args.start.now ≤ size_in (g.B.Bank.seen c.prepare.new.self).nodes 0
    = omega (arith, low, size, now) in
    c.opened_banks_are_prepared.ensures.put c.args.plan.value 0 c.args.start.now (g.B.Bank.seen c.prepare.new.self)
    (g.B.Bank.seen c.put_root.new.self) fits c.put_root.ensures
    (c.opened_banks_are_prepared.ensures.opened c.args.plan.value (g.B.Bank.seen c.args.bank.now)
    (g.B.Bank.seen c.prepare.new.self) c.in-Ok.ensures.opened)
