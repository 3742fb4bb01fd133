use Rattle.std.proofs.Common.{rules, ◌≡◌, ◌∙◌, sym, ap, ◌*◌, Some, ℕ, length, slice_get, List}
use Rattle.sq_rect.specs.Extents.{product}
use Rattle.sq_flat.specs.Memory.{IsPlaced}
use Rattle.sq_flat.proofs.Standing.{length_bytes}
use Rattle.sq_flat.proofs.memory.push_argument.Goals as goal

pub bytes_of-requires : goal.bytes_of-requires
bytes_of-requires c =
    let there : slice_get c.args.outer.now c.args.a.now.array ≡ Some c.in-Some.view.now = search rules in
    c.requires.placed.each c.args.a.now.array c.in-Some.view.now there

pub push_block-requires-clause-whole : goal.push_block-requires-clause-whole
push_block-requires-clause-whole c =
    let there : slice_get c.args.outer.now c.args.a.now.array ≡ Some c.in-Some.view.now = search rules in
    let placed : IsPlaced c.in-Some.view.now c.args.bytes.now = c.requires.placed.each c.args.a.now.array c.in-Some.view.now there in
    ap length c.bytes_of.ensures
    ∙ (length_bytes c.in-Some.view.now c.args.bytes.now placed
    ∙ (ap (λ (w : ℕ). w * product c.in-Some.view.now.extents) (sym c.width.ensures)
    ∙ ap (λ (ns : List ℕ). c.width.result * product ns) (sym c.as_slice-in-Some.ensures.numbers)))
