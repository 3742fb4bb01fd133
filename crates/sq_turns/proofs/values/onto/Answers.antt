use Rattle.std.proofs.Common.{rules, ◌≡◌, false, refl, arith}
use Rattle.sq_columns.specs.Lines.{divides}
use Rattle.sq_leaf.specs.declared.code.Step.{out-Step}
use Rattle.sq_deeds.specs.Deeds.{AreKept}
use Rattle.sq_turns.proofs.Paths.{kept_then, onto_leads, itself_leads}
use Rattle.sq_turns.proofs.values.onto.Goals as goal

pub returns-in-Some-clause-leads : goal.returns-in-Some-clause-leads
returns-in-Some-clause-leads c =
    onto_leads c.args.setting.now c.args.next c.args.step.now c.in-Some.y c.args.hole c.args.links.now.items
    c.args.columns.now c.numbers.new.columns c.onto_numbers.result c.onto_numbers.new.links.items
    c.requires.path c.in-Some.ensures.kept c.in-Some.ensures.gives c.onto_numbers.ensures.longer c.onto_numbers.ensures.divides

pub returns-then-is_start-clause-leads : goal.returns-then-is_start-clause-leads
returns-then-is_start-clause-leads c =
    let whole : divides (out-Step c.args.step.now).op ≡ false = search rules in
    let first : AreKept c.args.hole.free c.args.columns.now c.numbers.new.columns = search rules in
    let second : AreKept c.args.hole.free c.numbers.new.columns c.is_start.new.columns = search rules in
    itself_leads c.args.setting.now c.args.next c.args.step.now c.args.hole c.args.links.now.items c.args.columns.now c.is_start.new.columns c.lengthened.result c.lengthened.new.links.items
    whole c.requires.path (kept_then c.args.hole.free c.args.hole.free c.args.hole.free c.args.columns.now c.numbers.new.columns c.is_start.new.columns (omega arith) (omega arith) first second)
    (c.if-is_start.ensures.is refl) c.lengthened.ensures
