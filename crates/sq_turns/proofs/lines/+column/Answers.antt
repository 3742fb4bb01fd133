use Rattle.std.proofs.Common.{rules, ◌≡◌, length}
use Rattle.sq_num.specs.Elements.{width}
use Rattle.sq_turns.specs.Settings.{at_turn}
use Rattle.sq_turns.proofs.Spotting.{along_front, spots_along, spots_there, some_after, one_index, two_indices, three_indices, list_one, list_two, list_three, codes_one, codes_two, codes_three}
use Rattle.sq_turns.proofs.Linking.{next_follows, follows_front, extreme_follows}
use Rattle.sq_turns.proofs.lines.+column.Goals as goal

pub along-returns : goal.along-returns
along-returns t c = λ at most off near h.
    along_front c.args.setting.now off _ at _ most _ c.args.spots c.along_in.result c.args.columns.now _ _ c.along_in.new.front c.along_in.new.rest
    c.split_at_mut-front.ensures.value (search rules) (search rules) (c.along_in.ensures at most off near) h

pub next-returns : goal.next-returns
next-returns t c =
    follows_front c.args.setting.now _ c.args.x c.next_in.result c.args.columns.now _ _ c.next_in.new.front c.next_in.new.rest
    c.split_at_mut-front.ensures.value (search rules) (search rules) c.next_in.ensures

pub along_in-returns-in-Some : goal.along_in-returns-in-Some
along_in-returns-in-Some t c = λ at most off near h.
    some_after c.along_line.result _ _
    (λ m g. spots_along c.args.setting.now off at _ most c.args.spots c.args.front.now _ c.in-Some.index c.index.new.columns c.args.extent c.args.stride m c.along_line.new.column h c.in-Some.ensures g)
    (c.along_line.ensures.each at most (λ j. at_turn off c.args.setting.now j c.args.setting.now.bytes.now) near h.spot)

pub next_line-returns-in-Some : goal.next_line-returns-in-Some
next_line-returns-in-Some t c =
    next_follows c.args.setting.now c.args.step.now c.args.x c.in-Some.y c.binary_line.result c.args.front.now c.column.new.columns c.binary_line.new.xs
    c.in-Some.ensures c.binary_line.ensures.each c.binary_line.ensures.divides

pub places_one-returns : goal.places_one-returns
places_one-returns t c = λ near.
    let n : length c.args.extents.now ≡ 1 = search rules in
    let m : length c.args.strides.now ≡ 1 = search rules in
    let k : length c.args.index.now ≡ 1 = search rules in
    one_index c.args.setting.now c.args.at (width c.args.elem) _ _ _ c.first.result c.args.columns.now c.along.result c.along.new.columns c.args.extents.now c.args.strides.now c.args.index.now
    (c.along.ensures c.args.at) (c.first.ensures c.args.setting.now (width c.args.elem) c.args.columns.now) (list_one 0 c.args.extents.now n) (list_one 0 c.args.strides.now m) (codes_one c.args.index.now c.x-item.result k c.x-item.is) near

pub places_two-returns : goal.places_two-returns
places_two-returns t c = λ near.
    let n : length c.args.extents.now ≡ 2 = search rules in
    let m : length c.args.strides.now ≡ 2 = search rules in
    let k : length c.args.index.now ≡ 2 = search rules in
    two_indices c.args.setting.now c.args.at (width c.args.elem) _ _ _ _ _ _ c.first.result _ c.args.columns.now c.along.new.columns c.along-2.result c.along-2.new.columns c.args.extents.now c.args.strides.now c.args.index.now
    (c.in_ok-spots.ensures c.args.at) (c.along-2.ensures c.args.at) (c.first.ensures c.args.setting.now (width c.args.elem) c.args.columns.now) (list_two 0 c.args.extents.now n) (list_two 0 c.args.strides.now m)
    (codes_two c.args.index.now c.x-item.result c.y-item.result k c.x-item.is c.y-item.is) near

pub places_three-returns : goal.places_three-returns
places_three-returns t c = λ near.
    let n : length c.args.extents.now ≡ 3 = search rules in
    let m : length c.args.strides.now ≡ 3 = search rules in
    let k : length c.args.index.now ≡ 3 = search rules in
    three_indices c.args.setting.now c.args.at (width c.args.elem) _ _ _ _ _ _ _ _ _ c.first.result _ _ c.args.columns.now c.along.new.columns c.along-2.new.columns c.along-3.result c.along-3.new.columns c.args.extents.now c.args.strides.now c.args.index.now
    (c.in_ok-spots.ensures c.args.at) (c.in_ok-spots-2.ensures c.args.at) (c.along-3.ensures c.args.at) (c.first.ensures c.args.setting.now (width c.args.elem) c.args.columns.now) (list_three 0 c.args.extents.now n) (list_three 0 c.args.strides.now m)
    (codes_three c.args.index.now c.x-item.result c.y-item.result c.z-item.result k c.x-item.is c.y-item.is c.z-item.is) near

pub spots-returns-in-1-clause-places : goal.spots-returns-in-1-clause-places
spots-returns-in-1-clause-places t c =
    spots_there c.args.setting.now c.args.cell.now c.args.view.now c.places_one.result c.places_one.new.columns _ _ _
    (search rules) (search rules) (search rules) c.requires.there c.requires.one c.places_one.ensures

pub spots-returns-in-2-clause-places : goal.spots-returns-in-2-clause-places
spots-returns-in-2-clause-places t c =
    spots_there c.args.setting.now c.args.cell.now c.args.view.now c.places_two.result c.places_two.new.columns _ _ _
    (search rules) (search rules) (search rules) c.requires.there c.requires.one c.places_two.ensures

pub spots-returns-in-3-clause-places : goal.spots-returns-in-3-clause-places
spots-returns-in-3-clause-places t c =
    spots_there c.args.setting.now c.args.cell.now c.args.view.now c.places_three.result c.places_three.new.columns _ _ _
    (search rules) (search rules) (search rules) c.requires.there c.requires.one c.places_three.ensures

pub extreme-returns : goal.extreme-returns
extreme-returns t c =
    follows_front c.args.setting.now _ c.args.x c.extreme_in.result c.args.columns.now _ _ c.extreme_in.new.front c.extreme_in.new.rest
    c.split_at_mut-front.ensures.value (search rules) (search rules) c.extreme_in.ensures

pub extreme_in-returns-in-Some : goal.extreme_in-returns-in-Some
extreme_in-returns-in-Some t c =
    extreme_follows c.args.setting.now c.args.most _ c.args.x c.in-Some.y c.extreme_line.result c.args.front.now c.column.new.columns c.extreme_line.new.xs
    c.in-Some.ensures c.extreme_line.ensures
