-- The buffers that the scopes of a plan name, in a list, and which of them lack room there.
use Rattle.std.specs.Prelude.{◌≡◌, ℕ, ◌+◌, ◌<◌, ◌⊎◌, List, [], ◌∷◌, ◌++◌, length, map}
use Rattle.sq_ir.specs.Tree.{Skip, Act, Stuck, Seq, Par, Within}
use Rattle.sq_ir.specs.Written.{Setting, PlanTree}
use Rattle.sq_ir.specs.Plans.{HasByte}
use Rattle.sq_rooms.specs.declared.named.Named.{Named}

-- ---- lists

abbrev pub Has : {X : Type 0} → List X → X → Type 0
Has [] x = ⊥
Has (y ∷ ys) x = (y ≡ x) ⊎ Has ys x

-- x stands before y
abbrev pub Before : List Named → (x y : Named) → Type 0
Before [] x y = ⊥
Before (z ∷ zs) x y = ((z ≡ x) × Has zs y) ⊎ Before zs x y

-- ---- the names of a tree

-- how many buffers the scopes of a tree name
abbrev pub weight : PlanTree → ℕ
weight Skip = 0
weight (Act e) = 0
weight (Stuck e) = 0
weight (Seq a b) = weight a + weight b
weight (Par a b) = weight a + weight b
weight (Within s a) = weight a + length s.buffers

-- the buffers that a scope names at a node
abbrev pub names_at : (node first end : ℕ) → (buffers : List ℕ) → List Named
names_at node first end buffers = map (λ b. record { node = node; buffer = b; first = first; end = end }) buffers

-- From left to right, those of a scope behind those in it. In the second order, in which the parts of each `Par` stand
-- from right to left, there are as many numbers from n on, and a scope has its own and those of what stands in it.
-- in `Par (Within s Skip) (Within t Skip)`, with one buffer each, s has 1 up to 2, and t has 0 up to 1
abbrev pub names : ℕ → PlanTree → List Named
names n Skip = []
names n (Act e) = []
names n (Stuck e) = []
names n (Seq a b) = names n a ++ names (n + weight a) b
names n (Par a b) = names (n + weight b) a ++ names n b
names n (Within s a) = names n a ++ names_at s.node n (n + weight a + length s.buffers) s.buffers

-- ---- room

-- The scopes of an earlier name and a later one may be open at once: the later one begins in the second order before the
-- earlier one ends.
abbrev pub Over : List Named → (earlier later : Named) → Type 0
Over xs x y = Before xs x y × (y.first < x.end)

pub record MeetIn (s : Setting) (xs : List Named) (node b c : ℕ) : Type 0 where
  pub one : Named
  pub other : Named
  pub together : Over xs one other ⊎ Over xs other one
  pub one_at : one.node ≡ node
  pub other_at : other.node ≡ node
  pub one_is : one.buffer ≡ b
  pub other_is : other.buffer ≡ c
  pub byte : ℕ
  pub of_one : HasByte s b byte
  pub of_other : HasByte s c byte

pub record PassIn (s : Setting) (xs : List Named) (node b : ℕ) : Type 0 where
  pub name : Named
  pub there : Has xs name
  pub at : name.node ≡ node
  pub is : name.buffer ≡ b
  pub past : s.capacity node < s.offset b + s.size b

-- two buffers meet, or one passes the capacity, as a pair with itself
abbrev pub LackIn : Setting → List Named → (node earlier later : ℕ) → Type 0
LackIn s xs node earlier later = ((earlier < later) × MeetIn s xs node earlier later) ⊎ ((earlier ≡ later) × PassIn s xs node later)
