use Rattle.std.proofs.Common.{◌≡◌, [], drop}
use Rattle.sq_text.specs.declared.code.Phase.TheVariants.{Plan}
use Rattle.sq_text.specs.Found.{firsts, nothing_found}
use Rattle.sq_planheads.specs.Arrays.{sites, array_breach}
use Rattle.sq_planheads.proofs.arrays.first_array_fault.Given as goal

abbrev pub invariant-loop-array : goal.invariant-loop-array
invariant-loop-array l =
    firsts (array_breach l.buffers) l.first (sites l.names.keys l.taken.keys (drop l.array-index l.arrays))
    ≡ firsts (array_breach l.buffers) (nothing_found Plan) (sites [] [] l.arrays)
