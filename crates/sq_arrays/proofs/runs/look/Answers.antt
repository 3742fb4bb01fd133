use Rattle.std.proofs.Common.{arith, ◌≤◌, ◌<◌, ◌+◌, length}
use Rattle.sq_arrays.proofs.Looking.{reads_told, ends_here, past_here, front_stands, there_stands, some_left, some_held}
use Rattle.sq_arrays.proofs.Passing.{part_length}
use Rattle.sq_arrays.specs.Window.{held, left}
use Rattle.sq_arrays.proofs.runs.look.Goals as goal
use Rattle.sq_arrays.proofs.runs.look.Goals.{then-room-eq0, else-room-eq0+then-room, else-room-eq0+else-room}

pub returns-then-spot-clause-ahead : goal.returns-then-spot-clause-ahead
returns-then-spot-clause-ahead g c = λ bytes t.
    let front = c.requires.front bytes t in
    some_held (held c.args.window.now) (left c.args.window.now bytes) front.0 front.1
    (omega (arith, part_length c.args.window.now.bytes c.args.window.now.spot.start c.args.window.now.spot.end (omega arith)))

pub returns-then-count-eq0-clause-ahead : goal.returns-then-count-eq0-clause-ahead
returns-then-count-eq0-clause-ahead g c = λ bytes t.
    let some : 0 < length c.read_at.new.into = elim c.if-room-eq0.branch [ then-room-eq0 w ↦ omega arith | else-room-eq0+then-room w ↦ omega arith | else-room-eq0+else-room w ↦ omega arith ] in
    ends_here bytes c.read_at.new.into c.args.window.now.spot.at c.in-Ok.count (omega arith) some c.if-count-eq0.true
    (reads_told _ c.args.name.now c.read_at.new.into c.args.window.now.spot.at c.in-Ok.count c.in-Ok.ensures.told.ok bytes t)

pub returns-then-room-eq0-2-clause-ahead : goal.returns-then-room-eq0-2-clause-ahead
returns-then-room-eq0-2-clause-ahead g c = λ bytes t.
    past_here bytes c.read_at.new.into c.args.window.now.spot.at c.in-Ok.count (omega arith) (omega arith)
    (reads_told _ c.args.name.now c.read_at.new.into c.args.window.now.spot.at c.in-Ok.count c.in-Ok.ensures.told.ok bytes t)

pub returns-else-room-eq0-2-clause-stands : goal.returns-else-room-eq0-2-clause-stands
returns-else-room-eq0-2-clause-stands g c =
    let fits : c.args.window.now.spot.at + c.in-Ok.count ≤ 268435456 = elim c.if-room-eq0.branch [ then-room-eq0 w ↦ omega arith | else-room-eq0+then-room w ↦ omega (arith, c.in-Ok.ensures.bound) | else-room-eq0+else-room w ↦ omega (arith, c.in-Ok.ensures.bound) ] in
    record {
      front = front_stands _ _ c.args.name.now c.read_at.new.into _ c.args.window.now.spot.at c.in-Ok.count c.in-Ok.ensures.content c.in-Ok.ensures.bound fits c.in-Ok.ensures.told.ok;
      there = λ some. there_stands _ _ c.args.name.now c.read_at.new.into c.args.window.now.spot.at c.in-Ok.count c.in-Ok.ensures.content c.in-Ok.ensures.told.ok;
    }

pub returns-else-room-eq0-2-clause-ahead : goal.returns-else-room-eq0-2-clause-ahead
returns-else-room-eq0-2-clause-ahead g c = λ bytes t.
    let fits : c.args.window.now.spot.at + c.in-Ok.count ≤ 268435456 = elim c.if-room-eq0.branch [ then-room-eq0 w ↦ omega arith | else-room-eq0+then-room w ↦ omega (arith, c.in-Ok.ensures.bound) | else-room-eq0+else-room w ↦ omega (arith, c.in-Ok.ensures.bound) ] in
    some_left bytes c.read_at.new.into c.args.window.now.spot.at c.in-Ok.count fits c.in-Ok.ensures.bound (omega arith)
    (reads_told _ c.args.name.now c.read_at.new.into c.args.window.now.spot.at c.in-Ok.count c.in-Ok.ensures.told.ok bytes t)
