-- A program has one plan under a mapping on a machine.
use Rattle.std.proofs.Common.{◌≡◌, sym, ap, ◌∙◌}
use Rattle.sq_forms.specs.Resolving.{Resolving}
use Rattle.sq_compile.specs.Compiled.{PlansAreOne}
use Rattle.sq_driver.specs.Planned.{PlanIsOne}
use Rattle.sq_driver.proofs.SourcePhases.{ok_same}

pub one_plan : PlansAreOne → PlanIsOne
one_plan law tree hierarchy mapped r s a b p q p_is q_is =
    let left : a.forms.left ≡ b.forms.left = ok_same a.forms.left b.forms.left (sym a.forms.through ∙ b.forms.through) in
    law r s (a.tree_is ∙ sym b.tree_is) (a.mapping_is ∙ sym b.mapping_is) (a.machine_is ∙ sym b.machine_is)
    (sym a.forms.are ∙ (ap (λ (l : Resolving). l.forms) left ∙ b.forms.are)) (sym a.found ∙ b.found)
    p q p_is q_is
