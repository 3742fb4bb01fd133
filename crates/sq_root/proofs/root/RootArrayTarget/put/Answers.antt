use Rattle.std.proofs.Common.{arith, refl}
use Rattle.sq_tree.specs.Bank.{bytes_at}
use Rattle.sq_root.proofs.Fitting.{puts-part}
use Rattle.sq_root.proofs.Keeping.{room, arrays-put, keeps-put}
use Rattle.sq_root.proofs.root.RootArrayTarget.put.Goals as goal

pub bytes_before-begin-requires-clause-at : goal.bytes_before-begin-requires-clause-at
bytes_before-begin-requires-clause-at g c =
    let root = bytes_at (g.B.Bank.seen c.args.self.now.bank.now).nodes 0 in
    let puts = puts-part c.args.self.now.places.now c.args.array c.args.at c.args.bytes.now root c.requires in
    let below = puts.below in
    omega (arith, below)

pub put_root-requires : goal.put_root-requires
put_root-requires g c =
    let seen = g.B.Bank.seen c.args.self.now.bank.now in
    let places = c.args.self.now.places.now in
    let puts = puts-part places c.args.array c.args.at c.args.bytes.now (bytes_at seen.nodes 0) c.requires in
    let enough = room places c.args.array c.args.at c.args.bytes.now seen seen puts in
    omega (arith, enough, c.bytes_before-begin.ensures)

pub returns-clause-put : goal.returns-clause-put
returns-clause-put g c =
    let old = g.B.Bank.seen c.args.self.now.bank.now in
    let now = g.B.Bank.seen c.put_root.new.self in
    let places = c.args.self.now.places.now in
    let puts = puts-part places c.args.array c.args.at c.args.bytes.now (bytes_at old.nodes 0) c.requires in
    arrays-put places c.args.array c.args.at c.args.bytes.now old now puts _ c.bytes_before-begin.ensures
    c.put_root.ensures

pub returns-clause-keeps : goal.returns-clause-keeps
returns-clause-keeps g c =
    let old = g.B.Bank.seen c.args.self.now.bank.now in
    let now = g.B.Bank.seen c.put_root.new.self in
    let places = c.args.self.now.places.now in
    let puts = puts-part places c.args.array c.args.at c.args.bytes.now (bytes_at old.nodes 0) c.requires in (
      refl,
      refl,
      keeps-put places c.args.array c.args.at c.args.bytes.now old now puts _ c.bytes_before-begin.ensures
          c.put_root.ensures,
    )
