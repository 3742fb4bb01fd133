-- Chains of events, each before the next one, and the heaviest chain of a tree.
use Rattle.std.specs.Prelude.{◌≡◌, ℕ, ◌+◌, ◌≤◌, Bool, Some, nat_lt, if◌then◌else◌, List, [], ◌∷◌, ◌++◌, map}
use Rattle.sq_ir.specs.Tree.{Tree, Skip, Act, Stuck, Seq, Par, Within}
use Rattle.sq_ir.specs.Unordered.{event_in, IsBefore}

-- what some events weigh together
abbrev pub weigh : {E : Type 0} → (weight : E → ℕ) → List E → ℕ
weigh weight [] = 0
weigh weight (e ∷ es) = weight e + weigh weight es

-- The chain of an event is that event; of a sequence the chains of its parts one after another; of parts beside one
-- another the chain of the heavier part, and of the first where they weigh the same; of a scope its body's. A plan that
-- is written out has no part without an event.
-- Where a weighs 1, b 2 and c 3, it is b, c of `Seq (Par (Act a) (Act b)) (Act c)`.
abbrev pub chain : {E S : Type 0} → (weight : E → ℕ) → Tree E S → List E
chain weight Skip = []
chain weight (Act e) = e ∷ []
chain weight (Stuck e) = e ∷ []
chain weight (Seq a b) = chain weight a ++ chain weight b
chain weight (Par a b) = if nat_lt (weigh weight (chain weight a)) (weigh weight (chain weight b)) then chain weight b else chain weight a
chain weight (Within s a) = chain weight a

-- what that chain weighs
abbrev pub total : {E S : Type 0} → (weight : E → ℕ) → Tree E S → ℕ
total weight t = weigh weight (chain weight t)

-- how many events there are
abbrev pub size : {E S : Type 0} → Tree E S → ℕ
size Skip = 0
size (Act e) = 1
size (Stuck e) = 1
size (Seq a b) = size a + size b
size (Par a b) = size a + size b
size (Within s a) = size a

-- a plan may have so many for its chain to be told
abbrev pub most_events : ℕ
most_events = 65536

-- each of these places is before the next one
abbrev pub EachBefore : {E S : Type 0} → Tree E S → (places : List (List Bool)) → Type 0
EachBefore t [] = Unit {0}
EachBefore t (p ∷ []) = Unit {0}
EachBefore t (p ∷ q ∷ ps) = IsBefore t p q × EachBefore t (q ∷ ps)

-- The events at these places are a chain: each is before the next one.
pub record IsChain {E S : Type 0} (t : Tree E S) (places : List (List Bool)) (events : List E) : Type 0 where
  pub there : map (event_in t) places ≡ map Some events
  pub before : EachBefore t places

-- These events are a chain of the tree of this weight, and no chain of the tree weighs more.
pub record IsHeaviest {E S : Type 0} (weight : E → ℕ) (t : Tree E S) (events : List E) (total : ℕ) : Type 0 where
  pub places : List (List Bool)
  pub chain : IsChain t places events
  pub weighs : weigh weight events ≡ total
  pub most : (others : List (List Bool)) (es : List E) → IsChain t others es → weigh weight es ≤ total
