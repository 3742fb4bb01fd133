use Rattle.std.proofs.Common.{◌≡◌, [], ◌∷◌, ◌++◌, sym, ap, ◌∙◌, subst}
use Rattle.sq_text.specs.declared.fault.Fault.{Fault}
use Rattle.sq_ast.specs.declared.program.Program.{Program}
use Rattle.sq_types.specs.Sites.{TypeFault}
use Rattle.sq_planheads.specs.Leaves.{program_of}
use Rattle.sq_planheads.proofs.LeavesTell.{checked_code}
use Rattle.sq_planheads.proofs.leaves.checked.Goals as goal

pub returns-in-Ok : goal.returns-in-Ok
returns-in-Ok c =
    let is : c.in-Ok.typed ≡ program_of c.args.task =
    c.in-Ok.ensures.same ∙ ap {B = Program} (λ ts. record { tasks = ts }) (c.in_ok-push.ensures.ok ∙ ap (λ ts. ts ++ c.args.task ∷ []) c.new-tasks.ensures) in
    checked_code c.args.task c.args.numbers.now c.in-Ok.typed c.compile.result is
    (subst (λ (p : Program). (f : Fault) → TypeFault p f → ⊥) (sym c.in-Ok.ensures.same) c.in-Ok.ensures.faults) c.requires.leaf c.compile.ensures
