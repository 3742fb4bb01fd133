use Rattle.std.proofs.Common.{◌≡◌, ◌-◌, [], ◌∷◌}
use Rattle.sq_deeds.specs.declared.deeds.Deed.TheVariants as variants
use Rattle.sq_deeds.specs.Deeds.{turns_done}
use Rattle.sq_deeds.proofs.perform.two_each.Given as goal

abbrev pub invariant-loop-j : goal.invariant-loop-j
invariant-loop-j l =
    turns_done l.columns (variants.Always l.first ∷ variants.Always l.second ∷ []) (l.turns - l.j) l.j l.bytes
    ≡ turns_done l.columns (variants.Always l.first ∷ variants.Always l.second ∷ []) l.turns 0 l.fn.bytes
