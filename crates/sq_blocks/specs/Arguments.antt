-- The arguments of calls: the extents of their blocks.
use Rattle.std.specs.Prelude.{ℕ, ◌-◌, List, [], ◌∷◌}
use Rattle.sq_rect.specs.Text.declared.place.Span.{Span}

-- the extents of a block
abbrev pub lengths : List Span → List ℕ
lengths [] = []
lengths (s ∷ spans) = (s.hi - s.lo) ∷ lengths spans
