use Rattle.std.proofs.Common.{Err, sym, subst}
use Rattle.sq_text.specs.Answers.{Gives, IfRefused, Refuses}
use Rattle.sq_ast.specs.Grammar as ast
use Rattle.sq_plantext.specs.declared.text.PlanText.{PlanText}
use Rattle.sq_plantext.specs.Grammar.{most_levels}
use Rattle.sq_plantext.specs.Faults.{SyntaxFault}
use Rattle.sq_planread.specs.Parsing.{stop_of}
use Rattle.sq_planread.proofs.Whole.{found, only, only_memory, refused, refuses, none_refused}
use Rattle.sq_planread.proofs.parse.parse_plan.Goals as goal

pub returns-in-Ok-clause-found : goal.returns-in-Ok-clause-found
unfolding most_levels ast.most_levels
returns-in-Ok-clause-found c =
    let read = rw c.new-rest.ensures at c.in-Ok.ensures in
    found c.args.tokens.now _ c.in-Ok.found (rw c.as_slice-list.ensures at read)

pub returns-in-Ok-clause-only : goal.returns-in-Ok-clause-only
unfolding most_levels ast.most_levels
returns-in-Ok-clause-only c =
    let read = rw c.new-rest.ensures at c.in-Ok.ensures in
    λ x s. only c.args.tokens.now _ x c.in-Ok.found (rw c.as_slice-list.ensures at read) s

pub returns-in-Err-clause-only : goal.returns-in-Err-clause-only
unfolding most_levels ast.most_levels
returns-in-Err-clause-only c =
    let read = rw c.new-rest.ensures at c.in-Err.ensures in
    λ x s. rw c.stop_of.ensures (subst (λ ts. Gives {A = PlanText} (Err (stop_of ts c.in-Err.error)) x) (sym c.as_slice-list.ensures)
    (only_memory c.args.tokens.now x c.in-Err.error s (rw c.as_slice-list.ensures at read)))

pub returns-in-Ok-clause-refuses : goal.returns-in-Ok-clause-refuses
unfolding most_levels ast.most_levels
returns-in-Ok-clause-refuses c =
    let read = rw c.new-rest.ensures at c.in-Ok.ensures in
    λ f h. none_refused c.args.tokens.now _ c.in-Ok.found f (rw c.as_slice-list.ensures at read) h

pub returns-in-Err-clause-refused : goal.returns-in-Err-clause-refused
unfolding most_levels ast.most_levels
returns-in-Err-clause-refused c =
    let read = rw c.new-rest.ensures at c.in-Err.ensures in
    rw c.stop_of.ensures (subst (λ ts. IfRefused {A = PlanText} (Err (stop_of ts c.in-Err.error)) (λ f. SyntaxFault c.args.tokens.now f)) (sym c.as_slice-list.ensures)
    (refused c.args.tokens.now c.in-Err.error c.requires (rw c.as_slice-list.ensures at read)))

pub returns-in-Err-clause-refuses : goal.returns-in-Err-clause-refuses
unfolding most_levels ast.most_levels
returns-in-Err-clause-refuses c =
    let read = rw c.new-rest.ensures at c.in-Err.ensures in
    λ f h. rw c.stop_of.ensures (subst (λ ts. Refuses {A = PlanText} (Err (stop_of ts c.in-Err.error)) f) (sym c.as_slice-list.ensures)
    (refuses c.args.tokens.now c.in-Err.error f c.requires (rw c.as_slice-list.ensures at read) h))
