use Rattle.std.proofs.Common.{map, rules}
use Rattle.sq_arrays.specs.Arrays.{wanted}
use Rattle.sq_tree.specs.Bank.{bytes_at}
use Rattle.sq_root.proofs.Fitting.{has-room}
use Rattle.sq_root.proofs.Keeping.{reading-gives}
use Rattle.sq_root.proofs.root.read_root.Goals as goal

pub read_arrays-requires : goal.read_arrays-requires
read_arrays-requires g c =
    has-room (map wanted c.args.wants.now) c.args.places.now (bytes_at (g.B.Bank.seen c.args.bank.now).nodes 0)
    c.requires.fits c.requires.sizes c.requires.small

pub returns-clause-gives : goal.returns-clause-gives
returns-clause-gives g c =
    let keeps = c.read_arrays.ensures.keeps in
    reading-gives g.B.Bank.seen _ c.args.name.now (map wanted c.args.wants.now) c.args.places.now
    c.read_arrays.new.target.places.now c.args.bank.now c.read_arrays.new.target.bank.now _ c.read_arrays.result
    (search rules) keeps.1 c.requires.fits keeps.2 c.read_arrays.ensures.gives
