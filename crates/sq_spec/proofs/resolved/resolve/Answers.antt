use Rattle.std.proofs.Common.{refl, ap, ◌∙◌}
use Rattle.sq_ast.specs.declared.program.Program.{Program}
use Rattle.sq_form_laws.specs.Forms.Resolving.{resolving_of}
use Rattle.sq_spec.specs.Walked.{IsWalked}
use Rattle.sq_spec.specs.Works.{found_in}
use Rattle.sq_form_laws.proofs.Forms.AllForms.{paired, of_program}
use Rattle.sq_spec.proofs.resolved.resolve.Goals as goal

pub invariant_of-result : goal.invariant_of-result
invariant_of-result c =
    let found = c.in_ok-found.found in
    let through = of_program c.args.typed.now c.program-program.result.now c.args.mapping.now (resolving_of found) c.program-program.ensures.same c.in_ok-found.ensures in
    let walked : IsWalked c.args.typed.now c.args.machine.now.levels c.args.mapping.now found.walk.forms.entries found.forms found.uses = record {
      formed = c.given_programs_are_formed.ensures c.args.typed.now c.program-program.ensures.given;
      faultless = c.program-program.ensures.sound;
      loops = c.program-program.ensures.loops;
      read = c.requires;
      through = through;
    } in
    record {
      listed = c.in_ok-variants.ensures ∙ ap (λ (p : Program). p.tasks) c.program-program.ensures.same;
      paired = paired c.args.typed.now.tasks c.args.mapping.now (resolving_of found) through;
      walked = ∣ walked ∣₁;
    }

pub returns-clause-forms : goal.returns-clause-forms
returns-clause-forms c = record {
  left = resolving_of c.in_ok-found.found;
  through = of_program c.args.typed.now c.program-program.result.now c.args.mapping.now (resolving_of c.in_ok-found.found) c.program-program.ensures.same c.in_ok-found.ensures;
  are = refl;
  used = refl;
}

pub returns-clause-found : goal.returns-clause-found
returns-clause-found c =
    ap found_in (of_program c.args.typed.now c.program-program.result.now c.args.mapping.now (resolving_of c.in_ok-found.found) c.program-program.ensures.same c.in_ok-found.ensures)
