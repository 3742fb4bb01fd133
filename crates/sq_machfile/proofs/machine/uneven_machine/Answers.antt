use Rattle.std.proofs.Common.{◌≡◌, ◌≤◌, ◌∙◌, ap, length, subst, arith}
use Rattle.sq_text.specs.Faults.{IsFirst}
use Rattle.sq_machfile.specs.declared.text.MachineText.TheVariants.{Nodes}
use Rattle.sq_machfile.specs.Faults.{LimitFault}
use Rattle.sq_machfile.specs.Nesting.{nested}
use Rattle.sq_machfile.specs.Nodes.{linked}
use Rattle.sq_machfile.specs.Machines.{Hierarchy, by_level, named_levels, uneven_nodes}
use Rattle.sq_machfile.proofs.Firsts.{uneven_first}
use Rattle.sq_machfile.proofs.Depths.{rooted}
use Rattle.sq_machfile.proofs.Faultless.{uneven_within_limits, uneven_has_levels, uneven_few, uneven_small}
use Rattle.sq_machfile.proofs.machine.uneven_machine.Goals as goal

pub returns-in-Some : goal.returns-in-Some
returns-in-Some c = subst (IsFirst (LimitFault (Nodes c.args.text))) c.in-Some.is
    (uneven_first c.args.text _ _ c.in_ok-fault.field-0 c.as_slice.ensures (c.as_slice-nodes.ensures ∙ c.in_ok-nodes.ensures) c.in_ok-fault.ensures)

pub overflow_cast-len : goal.overflow_cast-len
overflow_cast-len c =
    let none = subst (IsFirst (LimitFault (Nodes c.args.text))) c.in_default.is
    (uneven_first c.args.text _ _ c.in_ok-fault.field-0 c.as_slice.ensures (c.as_slice-nodes.ensures ∙ c.in_ok-nodes.ensures) c.in_ok-fault.ensures) in
    let few : length c.args.text.names ≤ 8 = uneven_few c.args.text none in
    omega (arith, few, c.len.ensures)

pub uneven_nodes-requires : goal.uneven_nodes-requires
uneven_nodes-requires c =
    let none = subst (IsFirst (LimitFault (Nodes c.args.text))) c.in_default.is
    (uneven_first c.args.text _ _ c.in_ok-fault.field-0 c.as_slice.ensures (c.as_slice-nodes.ensures ∙ c.in_ok-nodes.ensures) c.in_ok-fault.ensures) in
    let r = rooted c.requires.0 c.args.text c.requires.1 in
    rw c.len.ensures (rw (c.as_slice-nodes.ensures ∙ c.in_ok-nodes.ensures) (uneven_small c.args.text none r.0 r.1))

pub uneven_levels-requires : goal.uneven_levels-requires
uneven_levels-requires c =
    let none = subst (IsFirst (LimitFault (Nodes c.args.text))) c.in_default.is
    (uneven_first c.args.text _ _ c.in_ok-fault.field-0 c.as_slice.ensures (c.as_slice-nodes.ensures ∙ c.in_ok-nodes.ensures) c.in_ok-fault.ensures) in
    let few : length c.args.text.names ≤ 8 = uneven_few c.args.text none in
    let same = ap length c.as_slice-3.ensures in
    omega (arith, few, same)

pub invariant_of-result : goal.invariant_of-result
invariant_of-result c =
    let none = subst (IsFirst (LimitFault (Nodes c.args.text))) c.in_default.is
    (uneven_first c.args.text _ _ c.in_ok-fault.field-0 c.as_slice.ensures (c.as_slice-nodes.ensures ∙ c.in_ok-nodes.ensures) c.in_ok-fault.ensures) in
    let r = rooted c.requires.0 c.args.text c.requires.1 in
    let nodes : c.in_ok-nodes-2.nodes ≡ uneven_nodes c.args.text =
    c.in_ok-nodes-2.ensures ∙ ap (λ ns. linked 1 (by_level 0 c.len.result ns)) (c.as_slice-nodes.ensures ∙ c.in_ok-nodes.ensures) ∙ ap (λ n. linked 1 (by_level 0 n (nested c.args.text.nodes))) c.len.ensures in
    let levels = c.in_ok-levels.ensures ∙ ap (λ ns. named_levels 0 ns c.as_slice-3.result.now) (c.as_slice-2.ensures ∙ nodes) ∙ ap (named_levels 0 (uneven_nodes c.args.text)) c.as_slice-3.ensures in
    rw levels (rw nodes (uneven_within_limits c.args.text none r.0 r.1))

pub returns : goal.returns
returns c =
    let none = subst (IsFirst (LimitFault (Nodes c.args.text))) c.in_default.is
    (uneven_first c.args.text _ _ c.in_ok-fault.field-0 c.as_slice.ensures (c.as_slice-nodes.ensures ∙ c.in_ok-nodes.ensures) c.in_ok-fault.ensures) in
    let nodes : c.in_ok-nodes-2.nodes ≡ uneven_nodes c.args.text =
    c.in_ok-nodes-2.ensures ∙ ap (λ ns. linked 1 (by_level 0 c.len.result ns)) (c.as_slice-nodes.ensures ∙ c.in_ok-nodes.ensures) ∙ ap (λ n. linked 1 (by_level 0 n (nested c.args.text.nodes))) c.len.ensures in
    let levels = c.in_ok-levels.ensures ∙ ap (λ ns. named_levels 0 ns c.as_slice-3.result.now) (c.as_slice-2.ensures ∙ nodes) ∙ ap (named_levels 0 (uneven_nodes c.args.text)) c.as_slice-3.ensures in
    (none, ap {B = Hierarchy} (λ ls. record { levels = ls; nodes = c.in_ok-nodes-2.nodes }) levels ∙ ap {B = Hierarchy} (λ ns. record { levels = named_levels 0 (uneven_nodes c.args.text) c.args.text.names; nodes = ns }) nodes, uneven_has_levels c.args.text none)
