-- A map is spread by the words of candidates as by those of rooms.
use Rattle.std.proofs.Common.{◌≡◌, Bool, List, map, ap₂}
use Rattle.sq_spec.specs.declared.statement.LoopKind.{LoopKind}
use Rattle.sq_spec.specs.declared.statement.Statement.{Statement}
use Rattle.sq_spec.specs.Spreads.{any_of, is_spread, lower_in, same_in}
use Rattle.sq_draft_laws.specs.TermLaws.Overlapping.{any_by}
use Rattle.sq_draft_laws.proofs.TermLaws.Overlaps.{any_map}

pub spread_is : (m : LoopKind) (inside : Bool) (xs : List Statement)
    → is_spread m inside (any_of (map lower_in xs)) (any_of (map same_in xs))
    ≡ is_spread m inside (any_by lower_in xs) (any_by same_in xs)
spread_is m inside xs = ap₂ (λ u v. is_spread m inside u v) (any_map lower_in xs) (any_map same_in xs)
