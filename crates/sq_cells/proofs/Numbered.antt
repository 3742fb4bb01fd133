-- The laws.
use Rattle.sq_ir.specs.Events.{AreIndependent}
use Rattle.sq_ir.proofs.Places.{unordered-each}
use Rattle.sq_ir.proofs.Reordering.{independent-sym}
use Rattle.sq_cells.specs.Laws.{AlikeEndAlike, AlikeCountAlike, AlikeAreSafe}

pub alike_end : AlikeEndAlike
alike_end leaves t n h f = h.does f

pub alike_count : AlikeCountAlike
alike_count leaves t n h f = h.counted f

pub alike_safe : AlikeAreSafe
alike_safe leaves t n h f free paths
    = (unordered-each (AreIndependent leaves) t (independent-sym leaves) (h.safe free paths), h.may f)
