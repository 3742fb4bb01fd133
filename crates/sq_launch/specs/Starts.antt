-- The memories from which a run starts.
use Rattle.std.specs.Prelude.{◌≡◌, ◌≢◌, ℕ, ◌^◌, ◌<◌, List, map, length, get_or}
use Rattle.std.specs.List.{All}
use Rattle.sq_arrays.specs.Arrays.{size_of}
use Rattle.sq_ir.specs.Plans.{node_at, IsGood}
use Rattle.sq_ir.specs.declared.plan.Plan.{Plan}
use Rattle.sq_tree.specs.Bank.{BankSeen, IsOpened, IsPrepared, bytes_at, bytes_in, capacities, leaves_in, size_in, zeros}
use Rattle.sq_root.specs.declared.place.Place.{Place}
use Rattle.sq_root.specs.Places.{parts, Fits, IsOutside, IsWithin, KeepsOutside}
use Rattle.sq_plantext.specs.declared.text.PlanText.{PlanText}
use Rattle.sq_planfile.specs.declared.entry.EntryArray.{EntryArray}
use Rattle.sq_planfile.specs.Files.{array_of, plan_of}
use Rattle.sq_planfile.specs.Sound.{IsSound}
use Rattle.sq_launch.specs.Arrays.{AreSmall, wants_of, places_of, read_places, root_text, bytes_text}

-- the memories from which a run starts, but for the arrays that are read: zeros in all other bytes
pub record IsStart (p : Plan) (arrays : List EntryArray) (nodes : List (List ℕ)) : Type 0 where
  pub sizes : map length nodes ≡ capacities p
  pub outside : (i : ℕ) → All (IsOutside i) (read_places p arrays) → get_or (bytes_at nodes 0) i 0 ≡ 0
  pub others : (node : ℕ) → node ≢ 0 → bytes_at nodes node ≡ bytes_at (zeros p.nodes) node

-- the arrays that are read, as they stand there
abbrev pub read_parts : Plan → List EntryArray → (nodes : List (List ℕ)) → List (List ℕ)
read_parts p arrays nodes = parts (read_places p arrays) (bytes_at nodes 0)

-- the arrays have places in the root, no two of which share a byte
pub record HaveRoom (p : Plan) (arrays : List EntryArray) : Type 0 where
  pub small : AreSmall arrays
  pub fit : Fits (places_of p arrays) (node_at p.nodes 0).capacity

-- ---- laws

-- So the root of each bank that is open with the plan has them.
abbrev pub BanksHaveRoom : Type 0
BanksHaveRoom =
    (p : Plan) (arrays : List EntryArray) (seen : BankSeen) → HaveRoom p arrays → IsPrepared p seen
    → Fits (places_of p arrays) (size_in seen.nodes 0) × Fits (read_places p arrays) (size_in seen.nodes 0)

-- A bank that was opened, and into whose root the data was read, is one from which a run starts.
abbrev pub FilledAreStarts : Type 0
FilledAreStarts =
    (p : Plan) (arrays : List EntryArray) (old opened filled : BankSeen) → IsOpened p old opened
    → KeepsOutside (read_places p arrays) opened filled
    → IsPrepared p opened × (IsPrepared p filled × IsStart p arrays filled.nodes)

-- The places of the arrays that are read have as many bytes as these.
abbrev pub PlacesHaveSizes : Type 0
PlacesHaveSizes =
    (p : Plan) (arrays : List EntryArray)
    → map (λ (q : Place). q.size) (read_places p arrays) ≡ map size_of (wants_of arrays)

-- And their numbers of bytes are words.
abbrev pub SizesAreSmall : Type 0
SizesAreSmall = (arrays : List EntryArray) → AreSmall arrays → All (λ w. size_of w < 2 ^ 64) (wants_of arrays)

-- Where the arrays that are read have these bytes there is one start.
abbrev pub StartsAreOne : Type 0
StartsAreOne =
    (p : Plan) (arrays : List EntryArray) (one other : List (List ℕ)) → IsStart p arrays one → IsStart p arrays other
    → read_parts p arrays one ≡ read_parts p arrays other → one ≡ other

-- The texts of arrays that lie in the root are those of its bytes.
abbrev pub RootsAreTexts : Type 0
RootsAreTexts =
    (p : Plan) (arrays : List EntryArray) (nodes : List (List ℕ))
    → All (IsWithin (size_in nodes 0)) (places_of p arrays)
    → root_text p arrays (bytes_at nodes 0) ≡ bytes_text p arrays (bytes_in nodes)

-- The arrays of a plan file that is sound have places, where its plan is good.
abbrev pub SoundFilesHaveRoom : Type 0
SoundFilesHaveRoom =
    (x : PlanText) → IsSound x → IsGood (leaves_in (plan_of x)) (plan_of x)
    → HaveRoom (plan_of x) (map array_of x.arrays)
