use Rattle.sq_turns.proofs.Paths.{unary_leads}
use Rattle.sq_turns.proofs.values.changed.Goals as goal

pub returns-clause-leads : goal.returns-clause-leads
returns-clause-leads c =
    unary_leads c.args.setting.now c.args.columns.now c.args.op c.args.hole c.args.links.now.items c.lengthened.result c.lengthened.new.links.items c.lengthened.ensures
