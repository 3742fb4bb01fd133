use Rattle.std.proofs.Common.{rules, ◌≡◌, ◌<◌, ◌++◌, ◌∷◌, [], false, length}
use Rattle.sq_passes.proofs.Flags.{one_more}
use Rattle.sq_passes.proofs.choices.no_flags.Goals as goal

pub loop-flag-preserved : goal.loop-flag-preserved
loop-flag-preserved c =
    let less : c.loop-flag.flag-index < length c.args.flags.now = search rules in
    let pushed : c.push.new.self ≡ c.loop-flag.out ++ false ∷ [] = search rules in
    one_more c.push.new.self c.loop-flag.out c.args.flags.now c.loop-flag.flag-index less pushed c.loop-flag.invariant
