use Rattle.std.specs.Option.{option_copied}
use Rattle.sq_form_laws.specs.Forms.Args as argued
use Rattle.sq_form_laws.specs.Forms.Worlds as worlds
use Rattle.sq_spec.proofs.StatementLists.{call_instance_is}
use Rattle.sq_spec.proofs.statement.reach.Goals as goal

pub returns : goal.returns
returns c =
    call_instance_is c.args.context.now.forms.now.entries (worlds.frame_of c.args.context.now.frame.now) (argued.names_of c.args.context.now.known.now)
    c.args.text_call.now.number (option_copied c.args.text_call.now.reduced) (worlds.callee_by c.args.text_call.now.callee) c.args.text_call.now.args.now c.args.numbers.now
    c.in_ok-args.args c.as_slice.result.now c.in_ok-form.form c.in_ok-args.ensures c.as_slice.ensures c.in_ok-form.ensures
