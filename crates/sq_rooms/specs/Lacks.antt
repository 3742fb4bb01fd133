-- The first lack of room, in a list of names and in a plan.
use Rattle.std.specs.Prelude.{◌≡◌, ℕ, ◌<◌, ◌≤◌, ◌⊎◌, if◌then◌else◌, Option, Some, None, List, [], ◌∷◌}
use Rattle.sq_ir.specs.Written.{Setting}
use Rattle.sq_ir.specs.Plans.{setting_of}
use Rattle.sq_ir.specs.declared.plan.Plan.{Plan}
use Rattle.sq_check_laws.specs.Whole.{whole_of}
use Rattle.sq_check_laws.specs.Flaws.{IsFirstLack}
use Rattle.sq_check_laws.specs.First.{AllHaveRoom}
use Rattle.sq_rooms.specs.declared.named.Named.{Named}
use Rattle.sq_rooms.specs.declared.bound.Bound.{Bound}
use Rattle.sq_rooms.specs.declared.lack.Lack.{Lack}
use Rattle.sq_rooms.specs.Names.{LackIn}
use Rattle.sq_rooms.specs.Bounds.{comes_first, is_below}

-- ---- the next name that isn't below a bound

abbrev pub sooner : Option Named → Named → Option Named
sooner None x = Some x
sooner (Some k) x = if comes_first x.node x.buffer k.node k.buffer then Some x else Some k

abbrev pub sooner_from : Bound → Option Named → Named → Option Named
sooner_from from best x = if is_below x from then best else sooner best x

abbrev pub next : Bound → Option Named → List Named → Option Named
next from best [] = best
next from best (x ∷ xs) = next from (sooner_from from best x) xs

-- ---- the first lack

abbrev pub IsFirstIn : Setting → List Named → Option Lack → Type 0
IsFirstIn s xs None = (node b c : ℕ) → LackIn s xs node b c → ⊥
IsFirstIn s xs (Some l) =
    LackIn s xs l.node l.earlier l.later × ((n b c : ℕ) → LackIn s xs n b c
    → (l.node < n) ⊎ ((l.node ≡ n) × ((l.later < c) ⊎ ((l.later ≡ c) × (l.earlier ≤ b)))))

-- all buffers of the plan have room, or this is the first lack
abbrev pub IsFirstOf : Plan → Option Lack → Type 0
IsFirstOf p None = AllHaveRoom p
IsFirstOf p (Some l) = IsFirstLack (setting_of p) (whole_of p) l.node l.earlier l.later
