use Rattle.sq_turns.proofs.Paths.{onto_extreme_leads}
use Rattle.sq_turns.proofs.values.onto_extreme.Goals as goal

pub returns-in-Some-clause-leads : goal.returns-in-Some-clause-leads
returns-in-Some-clause-leads c =
    onto_extreme_leads c.args.setting.now c.args.next c.args.most _ c.in-Some.y c.args.hole c.args.links.now.items
    c.args.columns.now c.numbers.new.columns c.extreme_link.result c.lengthened.result c.lengthened.new.links.items
    c.requires.path c.in-Some.ensures.kept c.in-Some.ensures.gives c.extreme_link.ensures c.lengthened.ensures
