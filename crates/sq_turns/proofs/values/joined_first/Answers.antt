use Rattle.std.proofs.Common.{rules, ◌≡◌, length, drop, sym}
use Rattle.sq_turns.proofs.Paths.{behind_front, divides_moved}
use Rattle.sq_turns.proofs.values.joined_first.Goals as goal

pub returns-clause-divides : goal.returns-clause-divides
returns-clause-divides c =
    let size : length c.split_at_mut-xs.result.0.now ≡ 256 = search rules in
    divides_moved c.args.op c.args.y c.args.turns c.binary_line.result c.split_at_mut-xs.result.1.now (drop 256 c.args.columns.now)
    (sym (behind_front 256 c.args.columns.now c.split_at_mut-xs.result.0.now c.split_at_mut-xs.result.1.now c.split_at_mut-xs.ensures.value size)) c.binary_line.ensures.divides
