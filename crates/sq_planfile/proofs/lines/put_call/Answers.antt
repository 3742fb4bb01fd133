use Rattle.std.proofs.Common.{ap₂, ◌∙◌, subst}
use Rattle.std.specs.Prelude.{OnOk}
use Rattle.sq_ast.specs.Canonical.{Adds}
use Rattle.sq_ast.specs.Unplaced.{nowhere}
use Rattle.sq_plantext.specs.Grammar.{leaf_text}
use Rattle.sq_plantext.specs.Layout.{spell_leaf}
use Rattle.sq_planfile.specs.Written.{bindings_of}
use Rattle.sq_planfile.proofs.lines.put_call.Goals as goal

pub returns : goal.returns
returns c =
    let e = ap₂ (λ bs v. leaf_text nowhere c.args.leaf.now.instance bs v)
    (c.as_slice.ensures ∙ c.in_ok-numbers.ensures ∙ ap₂ bindings_of c.variant-task.ensures c.numbers-known.ensures) c.variant-task.ensures in
    subst (λ l. OnOk c.put_leaf.result (Adds c.args.out.now.items c.put_leaf.new.out.items (spell_leaf l))) e c.put_leaf.ensures
