use Rattle.std.proofs.Common.{rules, ◌≡◌, ◌+◌, length, drop, sym}
use Rattle.sq_turns.proofs.Paths.{behind_more, joined_behind, divides_moved}
use Rattle.sq_turns.proofs.values.joined.Goals as goal

pub returns-clause-gives : goal.returns-clause-gives
returns-clause-gives c =
    let size : length c.split_at_mut-front.result.0.now ≡ c.args.next = search rules in
    joined_behind c.args.op c.args.x c.args.y c.args.turns c.args.next c.joined_first.result c.args.columns.now c.split_at_mut-front.result.0.now c.split_at_mut-front.result.1.now c.joined_first.new.columns
    c.split_at_mut-front.ensures.value size c.joined_first.ensures.gives

pub returns-clause-divides : goal.returns-clause-divides
returns-clause-divides c =
    let size : length c.split_at_mut-front.result.0.now ≡ c.args.next = search rules in
    divides_moved c.args.op c.args.y c.args.turns c.joined_first.result (drop 256 c.split_at_mut-front.result.1.now) (drop (c.args.next + 256) c.args.columns.now)
    (sym (behind_more c.args.next 256 c.args.columns.now c.split_at_mut-front.result.0.now c.split_at_mut-front.result.1.now c.split_at_mut-front.ensures.value size)) c.joined_first.ensures.divides
