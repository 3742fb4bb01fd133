use Rattle.sq_planload.proofs.Lines.{of_lists}
use Rattle.sq_planload.proofs.file.leaves_of.Goals as goal

pub returns : goal.returns
returns c =
    of_lists c.args.text c.as_slice.result.now c.as_slice-2.result.now c.as_slice-3.result.now c.as_slice.ensures c.as_slice-2.ensures c.as_slice-3.ensures c.compile_heads.result
    c.compile_heads.ensures
