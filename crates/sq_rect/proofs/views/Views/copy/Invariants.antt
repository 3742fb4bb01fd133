use Rattle.std.proofs.Common.{◌≡◌, take}
use Rattle.sq_rect.proofs.views.Views.copy.Given as goal

abbrev pub invariant-loop-view : goal.invariant-loop-view
invariant-loop-view l = l.views ≡ take l.view-index l.view-items
