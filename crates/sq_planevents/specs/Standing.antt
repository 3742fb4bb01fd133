-- Where a part of a plan file's term stands: the nodes in force, and the buffers in scope.
use Rattle.std.specs.Prelude.{◌≡◌, ℕ, ◌+◌, ◌-◌, ◌<◌, ◌==◌, ◌||◌, nat_eq, nat_lt, Bool, false, if◌then◌else◌, List, [], ◌∷◌, length, get_or, slice_set}
use Rattle.sq_ir.specs.Written.{Env}

-- the node in force at a level, where those below the root are given, outermost first
abbrev pub node_in : List ℕ → (level : ℕ) → ℕ
node_in nodes level = if level == 0 then 0 else get_or nodes (level - 1) 0

abbrev pub env_of : List ℕ → Env
env_of nodes = record { turns = []; level = length nodes; nodes = node_in nodes }

-- ---- scopes

abbrev pub has : List ℕ → ℕ → Bool
has [] b = false
has (c ∷ cs) b = nat_eq c b || has cs b

abbrev pub times : List ℕ → ℕ → ℕ
times [] b = 0
times (c ∷ cs) b = (if nat_eq c b then 1 else 0) + times cs b

-- of each buffer the number of times that it is named
pub record AreCounts (named counts : List ℕ) : Type 0 where
  pub each : (b : ℕ) → b < length counts → get_or counts b 0 ≡ times named b

abbrev pub with_count : List ℕ → (b n : ℕ) → List ℕ
with_count counts b n = if nat_lt b (length counts) then slice_set counts b n else counts

abbrev pub node_here : List ℕ → ℕ
node_here nodes = node_in nodes (length nodes)

-- a buffer is in the one scope list exactly where it is in the other
pub record HaveSame (bs cs : List ℕ) : Type 0 where
  pub same : (b : ℕ) → has bs b ≡ has cs b
