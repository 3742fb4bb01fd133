use Rattle.std.proofs.Common.{Err, sym, subst}
use Rattle.sq_text.specs.Answers.{Gives, IfRefused, Refuses}
use Rattle.sq_ast.specs.declared.program.Program.{Program}
use Rattle.sq_ast.specs.Grammar.{most_levels}
use Rattle.sq_parser.specs.Programs.{stop_of, HasFault}
use Rattle.sq_parser.proofs.Faults.{found, only, refusal, only_memory, refuses, none_refused}
use Rattle.sq_parser.proofs.parse.parse_program.Goals as goal

pub returns-in-Ok-clause-found : goal.returns-in-Ok-clause-found
unfolding most_levels
returns-in-Ok-clause-found c =
    let read = rw c.new-rest.ensures at c.in-Ok.ensures in
    found c.args.tokens.now c.in-Ok.found _ (rw c.as_slice-list.ensures at read)

pub returns-in-Ok-clause-only : goal.returns-in-Ok-clause-only
unfolding most_levels
returns-in-Ok-clause-only c =
    let read = rw c.new-rest.ensures at c.in-Ok.ensures in
    λ p s. only c.args.tokens.now p c.in-Ok.found _ (rw c.as_slice-list.ensures at read) s

pub returns-in-Ok-clause-refuses : goal.returns-in-Ok-clause-refuses
unfolding most_levels
returns-in-Ok-clause-refuses c =
    let read = rw c.new-rest.ensures at c.in-Ok.ensures in
    λ f h. none_refused c.args.tokens.now c.in-Ok.found f _ (rw c.as_slice-list.ensures at read) h

pub returns-in-Err-clause-only : goal.returns-in-Err-clause-only
unfolding most_levels
returns-in-Err-clause-only c =
    let read = rw c.new-rest.ensures at c.in-Err.ensures in
    λ p s. rw c.stop_of.ensures (subst (λ ts. Gives {A = Program} (Err (stop_of ts c.in-Err.error)) p) (sym c.as_slice-list.ensures)
    (only_memory c.args.tokens.now p c.in-Err.error s (rw c.as_slice-list.ensures at read)))

pub returns-in-Err-clause-refused : goal.returns-in-Err-clause-refused
unfolding most_levels
returns-in-Err-clause-refused c =
    let read = rw c.new-rest.ensures at c.in-Err.ensures in
    rw c.stop_of.ensures (subst (λ ts. IfRefused {A = Program} (Err (stop_of ts c.in-Err.error)) (λ f. HasFault c.args.tokens.now f)) (sym c.as_slice-list.ensures)
    (refusal c.args.tokens.now c.in-Err.error c.requires (rw c.as_slice-list.ensures at read)))

pub returns-in-Err-clause-refuses : goal.returns-in-Err-clause-refuses
unfolding most_levels
returns-in-Err-clause-refuses c =
    let read = rw c.new-rest.ensures at c.in-Err.ensures in
    λ f h. rw c.stop_of.ensures (subst (λ ts. Refuses {A = Program} (Err (stop_of ts c.in-Err.error)) f) (sym c.as_slice-list.ensures)
    (refuses c.args.tokens.now c.in-Err.error f c.requires (rw c.as_slice-list.ensures at read) h))
