use Rattle.std.proofs.Common.{◌∙◌, ◌||◌, is_some, sym, ap}
use Rattle.sq_mapfile.proofs.ByKind.{any_kind}
use Rattle.sq_mapfile.proofs.tasks.Tasks.has.Goals as goal

pub returns-then-is_some : goal.returns-then-is_some
returns-then-is_some c =
    let leaf = is_some c.index-leaf.result in
    c.if-is_some.true ∙ (sym (ap (λ x. x || leaf) c.if-is_some.true)
    ∙ any_kind c.args.self.now.variants.now c.args.task.now c.is_some.result leaf (c.is_some.ensures ∙ ap is_some c.index-inner.ensures) (ap is_some c.index-leaf.ensures))

pub returns-else-is_some : goal.returns-else-is_some
returns-else-is_some c =
    let leaf = c.is_some-else-is_some.result in
    sym (ap (λ x. x || leaf) c.if-is_some.false)
    ∙ any_kind c.args.self.now.variants.now c.args.task.now c.is_some.result leaf (c.is_some.ensures ∙ ap is_some c.index-inner.ensures) (c.is_some-else-is_some.ensures ∙ ap is_some c.index-leaf.ensures)
