use Rattle.sq_flat.proofs.eval.leaf.Goals as goal

pub run_leaf-requires : goal.run_leaf-requires
run_leaf-requires c = c.arrays_in_line_can_be_run_over.ensures _ _ _ c.requires.line
