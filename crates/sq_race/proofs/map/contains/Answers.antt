use Rattle.std.proofs.Common.{◌∙◌, ap, sym, length}
use Rattle.sq_race.proofs.Settled.{as_contains, unlike_contains}
use Rattle.sq_race.proofs.map.contains.Goals as goal

pub returns-then-as_slice : goal.returns-then-as_slice
returns-then-as_slice c =
    c.inside.ensures.by_ends ∙ as_contains c.args.outer.now c.args.inner.now (sym (ap length c.as_slice.ensures.spans) ∙ c.if-as_slice.true ∙ ap length c.as_slice-2.ensures.spans)

pub returns-else-as_slice : goal.returns-else-as_slice
returns-else-as_slice c = unlike_contains c.args.outer.now c.args.inner.now _ _ (ap length c.as_slice.ensures.spans) (ap length c.as_slice-2.ensures.spans) c.if-as_slice.false
