use Rattle.std.proofs.Common.{◌∙◌, ap, subst}
use Rattle.sq_text.specs.Faults.{IsFirst}
use Rattle.sq_machfile.specs.declared.text.MachineText.TheVariants.{Levels}
use Rattle.sq_machfile.specs.Faults.{LimitFault}
use Rattle.sq_machfile.specs.Nodes.{linked}
use Rattle.sq_machfile.specs.Machines.{Hierarchy, levels_of, even_nodes}
use Rattle.sq_machfile.proofs.Firsts.{even_first}
use Rattle.sq_machfile.proofs.Faultless.{even_within_limits, even_few, even_small}
use Rattle.sq_machfile.proofs.machine.even_machine.Goals as goal

pub returns-in-Some : goal.returns-in-Some
returns-in-Some c = subst (IsFirst (LimitFault (Levels c.args.text.now))) c.in-Some.is (even_first c.args.text.now c.in_ok-fault.field-0 c.in_ok-fault.ensures)

pub even_levels-requires : goal.even_levels-requires
even_levels-requires c =
    let none = subst (IsFirst (LimitFault (Levels c.args.text.now))) c.in_default.is (even_first c.args.text.now c.in_ok-fault.field-0 c.in_ok-fault.ensures) in
    even_few c.args.text.now none

pub even_nodes-requires-clause-few : goal.even_nodes-requires-clause-few
even_nodes-requires-clause-few c =
    let none = subst (IsFirst (LimitFault (Levels c.args.text.now))) c.in_default.is (even_first c.args.text.now c.in_ok-fault.field-0 c.in_ok-fault.ensures) in
    rw c.as_slice.ensures (rw c.in_ok-levels.ensures (even_within_limits c.args.text.now none).few)

pub even_nodes-requires-clause-children : goal.even_nodes-requires-clause-children
even_nodes-requires-clause-children c =
    let none = subst (IsFirst (LimitFault (Levels c.args.text.now))) c.in_default.is (even_first c.args.text.now c.in_ok-fault.field-0 c.in_ok-fault.ensures) in
    rw c.as_slice.ensures (rw c.in_ok-levels.ensures (even_small c.args.text.now none))

pub invariant_of-result : goal.invariant_of-result
invariant_of-result c =
    let none = subst (IsFirst (LimitFault (Levels c.args.text.now))) c.in_default.is (even_first c.args.text.now c.in_ok-fault.field-0 c.in_ok-fault.ensures) in
    let nodes = c.in_ok-nodes.ensures ∙ ap (λ ls. linked 1 (even_nodes 0 1 ls)) (c.as_slice.ensures ∙ c.in_ok-levels.ensures) in
    rw nodes (rw c.in_ok-levels.ensures (even_within_limits c.args.text.now none))

pub returns : goal.returns
returns c =
    let none = subst (IsFirst (LimitFault (Levels c.args.text.now))) c.in_default.is (even_first c.args.text.now c.in_ok-fault.field-0 c.in_ok-fault.ensures) in
    let nodes = c.in_ok-nodes.ensures ∙ ap (λ ls. linked 1 (even_nodes 0 1 ls)) (c.as_slice.ensures ∙ c.in_ok-levels.ensures) in
    (none, ap {B = Hierarchy} (λ ls. record { levels = ls; nodes = c.in_ok-nodes.nodes }) c.in_ok-levels.ensures ∙ ap {B = Hierarchy} (λ ns. record { levels = levels_of c.args.text.now; nodes = ns }) nodes, tt)
