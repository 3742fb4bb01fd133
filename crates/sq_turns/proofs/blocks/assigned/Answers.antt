use Rattle.std.proofs.Common.{rules, ◌≡◌, refl}
use Rattle.sq_turns.proofs.Spotting.{some_after}
use Rattle.sq_turns.proofs.Blocking.{turns_in, block_goes}
use Rattle.sq_turns.proofs.blocks.assigned.Goals as goal

pub returns : goal.returns
returns c = λ cell op there.
    let less = c.narrowed-narrow.result in
    let same : c.of-narrow.result ≡ turns_in c.args.setting.now.block.now less = search rules in
    some_after c.column.result _ _
    (λ x gives. block_goes c.args.setting.now _ c.args.write less cell op c.args.code.now c.args.elem c.args.spots x c.args.places.now c.column.new.columns refl refl same
    c.requires.one c.narrowed-narrow.ensures.narrower c.requires.whole there c.requires.lies c.requires.within c.narrowed-narrow.ensures.may gives)
    c.column.ensures
