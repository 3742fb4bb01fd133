use Rattle.std.proofs.Common.{rules, ◌≡◌, ◌∙◌, sym, ap, length}
use Rattle.sq_flat.specs.Held.{Stored}
use Rattle.sq_flat.proofs.Holding.{as_many}
use Rattle.sq_flat.proofs.arrays.Arrays.count.Goals as goal

pub returns : goal.returns
returns c =
    let views : c.as_slice.result.now ≡ c.self.inside.views = search rules in
    ap length views ∙ (sym (as_many c.self.inside.views c.self.inside.bytes.items) ∙ ap (λ (a : Stored). length a.bytes) c.self.view_is)
