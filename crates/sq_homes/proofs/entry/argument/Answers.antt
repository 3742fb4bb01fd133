use Rattle.std.proofs.Common.{rules, ◌≡◌, sym, ap₂, false, ℕ, List, Some}
use Rattle.sq_text.specs.declared.place.Span.{Span}
use Rattle.sq_ir.specs.Blocks.Spans.{wholes}
use Rattle.sq_chosen.specs.SpecLaws.Spec.Works.{whole}
use Rattle.sq_homes.proofs.Wholes.{whole_is}
use Rattle.sq_homes.proofs.entry.argument.Goals as goal

pub returns : goal.returns
returns c =
    let spans : wholes c.args.extents.now ≡ Some c.in-Some.rect = search rules in
    let rect : whole c.args.extents.now ≡ c.in-Some.rect = whole_is c.args.extents.now c.in-Some.rect spans in
    let number : c.in-Ok.array ≡ c.args.i = search rules in
    ap₂ (λ (n : ℕ) (l : List Span). record { mode = c.args.p.now.mode; is_reduced = false; array = n; rect = l }) number
    (sym rect)
