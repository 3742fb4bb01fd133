-- Scopes of loops whose transfers overlap: they name two sets of buffers for the same arrays, the second behind the
-- first.
use Rattle.std.specs.Prelude.{◌≡◌, ℕ, ◌+◌, ◌<◌, true, false, List, [], ◌∷◌, ◌++◌}
use Rattle.sq_ir.specs.Scopes.{Scope}
use Rattle.sq_ir.specs.declared.plan.Buffer.{Buffer}
use Rattle.sq_nests.specs.Nests.{Open, Scopes, each_of}
use Rattle.sq_nests.specs.Stacks.{total, sum_at, Lie}
use Rattle.sq_nests.specs.Drafts.{size_in}
use Rattle.sq_nests.specs.Weights.{is_again, weigh}

-- of these buffers, behind those that were seen, no two are for one array of one instance
abbrev pub AreFresh : List Buffer → (seen : List ℕ) → List ℕ → Type 0
AreFresh buffers seen [] = Unit {0}
AreFresh buffers seen (b ∷ bs) = (is_again buffers seen b ≡ false) × AreFresh buffers (seen ++ b ∷ []) bs

-- each is for an array of those that were seen
abbrev pub AreAgain : List Buffer → (seen : List ℕ) → List ℕ → Type 0
AreAgain buffers seen [] = Unit {0}
AreAgain buffers seen (b ∷ bs) = (is_again buffers seen b ≡ true) × AreAgain buffers seen bs

-- the two sets of a loop's buffers
pub record AreTwins (buffers : List Buffer) (first second : List ℕ) : Type 0 where
  pub fresh : AreFresh buffers [] first
  pub again : AreAgain buffers first second

-- both sets count in the sum, and the first alone in what the report says
pub record WeighTwice (buffers : List Buffer) (first second : List ℕ) : Type 0 where
  pub sum : weigh buffers false (first ++ second) ≡ total (size_in buffers) first + total (size_in buffers) second
  pub need : weigh buffers true (first ++ second) ≡ total (size_in buffers) first

abbrev pub TwinsWeighTwice : Type 0
TwinsWeighTwice = (buffers : List Buffer) (first second : List ℕ) → AreTwins buffers first second
    → WeighTwice buffers first second

-- the second set lies behind the first
abbrev pub SecondLiesBehind : Type 0
SecondLiesBehind = (offset size : ℕ → ℕ) (base : ℕ) (first second : List ℕ) → Lie offset size base (first ++ second)
    → Lie offset size base first × Lie offset size (base + total size first) second

-- a scope round a loop needs what the same scope needs in each of its iterations
abbrev pub ScopeLeavesLoop : Type 0
ScopeLeavesLoop = (weigh : List ℕ → ℕ) (node : ℕ) (s : Scope) (n : ℕ) (f : ℕ → Scopes) (t : ℕ) → 0 < n
    → sum_at weigh node (each_of n (λ i. Open s (f i)) t) ≡ sum_at weigh node (Open s (each_of n f t))
