use Rattle.std.proofs.Common.{true≢false, sym, ◌∙◌}
use Rattle.sq_mapfile.proofs.Leading.{no_way_back}
use Rattle.sq_mapfile.proofs.ranks.Ranked.is_on_cycle.Goals as goal

pub returns-then-falls : goal.returns-then-falls
returns-then-falls c =
    (λ h. absurd (true≢false (sym h)), λ r. absurd (no_way_back c.args.self.now.graph.calls.now c.args.self.now.ranks.items c.args.call.now c.args.self.now.never_rise (sym c.falls.ensures ∙ c.if-falls.true) r))
