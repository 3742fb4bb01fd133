-- What stands in statements, and which maps are spread.
use Rattle.std.specs.Prelude.{Bool, true, false, not, ◌&&◌, ◌||◌, List, [], ◌∷◌}
use Rattle.sq_spec.specs.declared.statement.LoopKind.{LoopKind}
use Rattle.sq_spec.specs.declared.statement.LoopKind.TheVariants as loop_kind
use Rattle.sq_spec.specs.declared.statement.Statement.{Statement}
use Rattle.sq_spec.specs.declared.statement.Statement.TheOpen.{Statement-F}
use Rattle.sq_spec.specs.declared.statement.Statement.TheFolds.{fold-Statement}

-- whether statements have a lower call in them, at any depth, and a same-level one
abbrev pub any_of : List Bool → Bool
any_of [] = false
any_of (b ∷ bs) = b || any_of bs

abbrev pub lower_step : Statement-F Bool → Bool
lower_step (Statement-F.Call lower instances) = lower
lower_step (Statement-F.Map place m counts starts parts) = any_of parts

abbrev pub lower_in : Statement → Bool
lower_in = fold-Statement Bool lower_step

abbrev pub same_step : Statement-F Bool → Bool
same_step (Statement-F.Call lower instances) = not lower
same_step (Statement-F.Map place m counts starts parts) = any_of parts

abbrev pub same_in : Statement → Bool
same_in = fold-Statement Bool same_step

-- whether a map's iterations stand beside one another
abbrev pub is_beside : LoopKind → Bool
is_beside loop_kind.Sequential = false
is_beside loop_kind.Parallel = true
is_beside (loop_kind.Reduction r) = true

-- A map is spread over the children of its node where its iterations stand beside one another, it stands in no other
-- spread map of its form, and its body has a lower call in it and no same-level call.
abbrev pub spreads : (beside outermost lower same : Bool) → Bool
spreads beside outermost lower same = beside && (outermost && (lower && not same))

-- inside: whether a spread map stands round it
abbrev pub is_spread : LoopKind → (inside lower same : Bool) → Bool
is_spread m inside lower same = spreads (is_beside m) (not inside) lower same
