use Rattle.std.proofs.Common.{◌<◌, ◌+◌, rules, arith, sym, ◌∙◌}
use Rattle.sq_picks.proofs.WordsRead.{word_goes_on}
use Rattle.sq_picks.proofs.picks.read_byte.Goals as goal

pub returns-in-Some : goal.returns-in-Some
returns-in-Some c =
    let begun : c.in-Some.word.from < c.args.i = search rules in
    (omega (arith, begun), search (rules, word_goes_on c.args.text.now c.args.i c.args.place c.in-Some.word c.args.picks.now.items))
