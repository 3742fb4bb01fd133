use Rattle.sq_demo.proofs.Puts.{wrote_matrix}
use Rattle.sq_demo.proofs.data.put_matrix.Goals as goal

pub returns-clause-wrote : goal.returns-clause-wrote
returns-clause-wrote g c = wrote_matrix _ _ _ _ c.args.name.now c.args.bytes.now c.extents.result c.write_array.result
    c.extents.ensures c.write_array.ensures.wrote
