use Rattle.std.proofs.Common.{rules, ◌≡◌, ◌∙◌, ◌<◌, ◌≤◌, [], ◌∷◌, ◌++◌, ℕ, Some, length, slice_get, sym, subst, ap}
use Rattle.sq_columns.specs.Lines.{line_at, first_byte}
use Rattle.sq_leaf.specs.Source as source
use Rattle.sq_leaf.specs.declared.code.Cell.{out-Cell}
use Rattle.sq_leaf.specs.Spots.{IsInside}
use Rattle.sq_leaf.specs.Running as running
use Rattle.sq_turns.specs.Blocks.{end_of}
use Rattle.sq_turns.proofs.Spotting.{lies_front, lies_front_by, lies_whole, places_front, view_inside}
use Rattle.sq_turns.proofs.Blocking.{same_turns}
use Rattle.sq_turns.proofs.blocks.run_block.Goals as goal

pub assigned-requires-clause-lies : goal.assigned-requires-clause-lies
assigned-requires-clause-lies c =
    let room : c.of-block.result.turns ≤ length c.split_at_mut-places.result.0.now = search rules in
    lies_front_by c.of-block.result.turns c.in-Some.view.now.at (end_of c.in-Some.view.now) c.over-write.result.low c.over-write.result.high c.in-Some.view.now.elem c.in-Some-spots.spots
    c.spots.new.columns c.split_at_mut-places.result.0.now c.split_at_mut-places.result.1.now c.over-write.ensures.low c.over-write.ensures.high c.split_at_mut-places.ensures.value room c.in-Some-spots.ensures.lies

pub assigned-requires-clause-within : goal.assigned-requires-clause-within
assigned-requires-clause-within c =
    let there : Some c.in-Some.view.now ≡ slice_get c.args.frame.now.views (out-Cell c.args.cell.now).array = search rules in
    let inside : IsInside (length c.args.bytes.now) c.in-Some.view.now = view_inside (length c.args.bytes.now) c.args.frame.now.views (out-Cell c.args.cell.now).array c.in-Some.view.now there c.requires.inside in
    let ends : end_of c.in-Some.view.now ≤ length c.args.bytes.now = inside.ends in
    let high : c.over-write.result.high ≡ end_of c.in-Some.view.now = c.over-write.ensures.high in
    subst (λ (n : ℕ). n ≤ length c.args.bytes.now) (sym high) ends

pub put_all-requires-clause-lies : goal.put_all-requires-clause-lies
put_all-requires-clause-lies c = λ j below.
    let room : c.of-block.result.turns ≤ length c.split_at_mut-places.result.0.now = search rules in
    let turns : c.of-block.result.turns ≡ c.args.turns = search rules in
    let there : Some c.in-Some.view.now ≡ slice_get c.args.frame.now.views (out-Cell c.args.cell.now).array = search rules in
    let inside : IsInside (length c.args.bytes.now) c.in-Some.view.now = view_inside (length c.args.bytes.now) c.args.frame.now.views (out-Cell c.args.cell.now).array c.in-Some.view.now there c.requires.inside in
    lies_whole c.in-Some.view.now.at (end_of c.in-Some.view.now) (length c.args.bytes.now) c.in-Some.view.now.elem c.in-Some-spots.spots c.split_at_mut-places.result.0.now j inside.ends
    (lies_front c.of-block.result.turns c.in-Some.view.now.at (end_of c.in-Some.view.now) c.in-Some.view.now.elem c.in-Some-spots.spots
    c.spots.new.columns c.split_at_mut-places.result.0.now c.split_at_mut-places.result.1.now c.split_at_mut-places.ensures.value room c.in-Some-spots.ensures.lies j
    (subst (λ (n : ℕ). j < n) (sym turns) below))

pub returns : goal.returns
returns c =
    let room : c.of-block.result.turns ≤ length c.split_at_mut-places.result.0.now = search rules in
    let turns : c.of-block.result.turns ≡ c.args.turns = search rules in
    let from : c.of-block.result.from ≡ c.args.from = search rules in
    ap running.Goes c.put_all.ensures
    ∙ same_turns c.of-block.result.turns c.args.turns c.of-block.result.from c.args.from c.in-Some.view.now.elem (source.assigned c.args.op) (first_byte c.in-Some-spots.spots c.split_at_mut-places.result.0.now)
    (line_at c.in-Some-assigned.x c.assigned.new.numbers) (λ k. running.assigns c.args.cell.now c.args.op c.args.code.now c.args.frame.now.views (c.args.frame.now.counters ++ k ∷ [])) c.args.bytes.now turns from
    (c.in-Some-assigned.ensures c.args.cell.now c.args.op
    (places_front _ (running.run_cell c.args.cell.now) c.in-Some.view.now.elem c.in-Some-spots.spots c.spots.new.columns c.split_at_mut-places.result.0.now c.split_at_mut-places.result.1.now
    c.split_at_mut-places.ensures.value room c.in-Some-spots.ensures.places))
