use Rattle.std.proofs.Common.{ap, ◌∙◌}
use Rattle.std.specs.Option.{option_copied}
use Rattle.sq_form_laws.specs.Forms.Args as argued
use Rattle.sq_form_laws.specs.Forms.Worlds as worlds
use Rattle.sq_spec.specs.Statements as spec
use Rattle.sq_form_laws.proofs.Forms.Argued.{next_at}
use Rattle.sq_spec.proofs.StatementLists.{statement_more}
use Rattle.sq_spec.proofs.statement.+tables.Goals as goal

pub statements-loop-s-preserved : goal.statements-loop-s-preserved
statements-loop-s-preserved t c =
    let forms = c.args.context.now.forms.now.entries in
    let frame = worlds.frame_of c.args.context.now.frame.now in
    let names = argued.names_of c.args.context.now.known.now in
    let elems = c.args.context.now.elems.now in
    record {
      tables = statement_more forms frame names elems c.args.numbers.now c.args.list.now c.loop-s.s-index c.s-item.result c.loop-s.call c.in_ok-call.call
          c.in_ok-calls_in.field-0
          (option_copied c.args.reduced) c.args.nest.now c.loop-s.tables c.push.new.self _ c.in_ok-table_of.field-0
          (next_at c.loop-s.s-index c.args.list.now c.s-item.result c.loop-s-test.true c.s-item.is)
          (c.in_ok-table_of.ensures.table ∙ ap (λ ns. (spec.table_of forms frame names elems ns c.s-item.result).table c.loop-s.call
          (option_copied c.args.reduced) c.args.nest.now) c.loop-s.invariant.numbers)
          c.in_ok-calls_in.ensures c.in_ok-call.ensures c.in_ok-push.ensures.ok c.loop-s.invariant.tables;
      numbers = c.in_ok-table_of.ensures.numbers ∙ c.loop-s.invariant.numbers;
    }
