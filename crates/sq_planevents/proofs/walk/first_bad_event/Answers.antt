use Rattle.std.proofs.Common.{rules, ◌≡◌, [], None, refl}
use Rattle.sq_planevents.specs.First.{entry_of}
use Rattle.sq_planevents.specs.Walked.{JudgesTerm}
use Rattle.sq_planevents.proofs.Walks.{first_bad}
use Rattle.sq_planevents.proofs.walk.first_bad_event.Goals as goal

pub returns : goal.returns
returns c =
    let root : c.in_ok-at.at ≡ record { nodes = []; scopes = entry_of c.args.x.now } = search rules in
    let judged : JudgesTerm c.args.x.now c.args.x.now.term c.in_ok-at.at None c.judge.new.found = search rules in
    first_bad c.args.x.now c.in_ok-at.at None c.judge.new.found root refl judged
