use Rattle.std.proofs.Common.{◌≡◌, Err, ◌∙◌, sym, ap}
use Rattle.sq_patterns.specs.declared.cursor.ReadError.TheVariants.{NoMemory, Syntax}
use Rattle.sq_text.specs.declared.code.Phase.TheVariants.{Cost}
use Rattle.sq_patterns.proofs.Places.{read_is_text, syntax_fault_at}
use Rattle.sq_costs.proofs.Texts.{cost_format}
use Rattle.sq_costs.proofs.reading.parse.Goals as goal

pub returns-in-Ok-clause-found : goal.returns-in-Ok-clause-found
returns-in-Ok-clause-found c = read_is_text cost_format c.args.tokens.now c.in-Ok.found _ (rw c.new-rest.ensures at c.in-Ok.ensures)

pub returns-in-Err-Syntax-clause-refused : goal.returns-in-Err-Syntax-clause-refused
returns-in-Err-Syntax-clause-refused c =
    let read = rw c.new-rest.ensures at c.in-Err-Syntax.ensures in
    rw c.syntax_fault-fault.ensures (syntax_fault_at cost_format Cost c.args.tokens.now c.in-Err-Syntax.left c.requires
    (read (λ q. let both : Syntax c.in-Err-Syntax.left ≡ NoMemory = sym c.in-Err-Syntax.field-0-is ∙ q in absurd (cc)) ∙ ap Err c.in-Err-Syntax.field-0-is))
