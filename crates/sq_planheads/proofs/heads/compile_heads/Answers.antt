use Rattle.std.proofs.Common.{◌≡◌, true, false, Some, sym, ap, ◌∙◌, subst, rules}
use Rattle.sq_text.specs.Faults.{IsFirst}
use Rattle.sq_plantext.specs.Grammar.{plan_text}
use Rattle.sq_planheads.specs.Nodes.{deepest, are_nodes}
use Rattle.sq_planheads.specs.Heads.{HeadFault, Behind, line_fault}
use Rattle.sq_planheads.proofs.HeadsTell.{bad_nodes, leaf_stop, with_all}
use Rattle.sq_planheads.proofs.heads.compile_heads.Goals as goal

pub returns-then-not-are_nodes : goal.returns-then-not-are_nodes
returns-then-not-are_nodes c = λ t.
    let nodes = c.args.nodes.now in
    let x = plan_text nodes c.args.buffers.now c.args.leaves c.args.arrays.now t in
    let failed : c.are_nodes.result ≡ false = search rules in
    let test : c.are_nodes.result ≡ are_nodes (deepest 0 nodes) nodes = c.are_nodes.ensures ∙ ap (λ l. are_nodes l nodes) c.deepest-last.ensures in
    subst (λ f. IsFirst (HeadFault x) (Some f)) (sym c.bad_nodes.ensures) (bad_nodes x (sym test ∙ failed))

pub returns-in-Ok : goal.returns-in-Ok
returns-in-Ok c = λ t.
    let nodes = c.args.nodes.now in
    let x = plan_text nodes c.args.buffers.now c.args.leaves c.args.arrays.now t in
    let passed : c.are_nodes.result ≡ true = search rules in
    let test : c.are_nodes.result ≡ are_nodes (deepest 0 nodes) nodes = c.are_nodes.ensures ∙ ap (λ l. are_nodes l nodes) c.deepest-last.ensures in
    with_all x (sym test ∙ passed) c.in-Ok.made c.in-Ok.ensures c.with_lines.result
    (subst (λ l. Behind c.in-Ok.made (line_fault l c.args.buffers.now c.args.arrays.now) c.with_lines.result) c.deepest-last.ensures c.with_lines.ensures)

pub returns-in-Err : goal.returns-in-Err
returns-in-Err c = λ t.
    let nodes = c.args.nodes.now in
    let x = plan_text nodes c.args.buffers.now c.args.leaves c.args.arrays.now t in
    let passed : c.are_nodes.result ≡ true = search rules in
    let test : c.are_nodes.result ≡ are_nodes (deepest 0 nodes) nodes = c.are_nodes.ensures ∙ ap (λ l. are_nodes l nodes) c.deepest-last.ensures in
    leaf_stop x (sym test ∙ passed) c.in-Err.stop c.in-Err.ensures
