-- Loops that arguments leave: how many, and what is asked of the tables of their calls.
use Rattle.std.specs.Prelude.{◌≡◌, ℕ, ◌<◌, ◌≤◌, List, [], ◌∷◌, ◌++◌, map, length, get_or, slice_get, Some, if◌then◌else◌}
use Rattle.sq_spec.specs.declared.statement.LoopKind.{LoopKind}
use Rattle.sq_spec.specs.declared.statement.LoopKind.TheVariants as loop_kind
use Rattle.sq_spec.specs.declared.statement.CallInstance.{CallInstance}
use Rattle.sq_spec.specs.declared.statement.Statement.{Statement}
use Rattle.sq_spec.specs.declared.statement.Statement.TheOpen.{Statement-F}
use Rattle.sq_spec.specs.declared.statement.Statement.TheFolds.{fold-Statement, rec-Statement}
use Rattle.sq_spec.specs.declared.body.Body.{Body}
use Rattle.sq_spec.specs.declared.body.Body.TheVariants as body
use Rattle.sq_placed.specs.declared.home.Home.{Home}
use Rattle.sq_placed.specs.declared.home.Home.TheVariants.{InPlace, Own, Held, Twin}
use Rattle.sq_placed.specs.declared.home.Homes.{Homes}

-- ---- how many loops round a call its arguments leave

abbrev pub loops_left : Home → ℕ
loops_left InPlace = 0
loops_left (Own b) = 0
loops_left (Held b loops) = loops
loops_left (Twin b c) = 0

-- by the form that is called, and the position of the argument
abbrev pub Left : Type 0
Left = (form position : ℕ) → ℕ

abbrev pub left_of : (ℕ → Homes) → Left
left_of homes f i = loops_left (get_or (homes f).params i InPlace)

-- ---- what is asked of the loops

-- a loop with these counts has iterations each time that it is begun
pub record HasTurns (counts : List ℕ) : Type 0 where
  pub some : 0 < length counts
  pub each : (k : ℕ) → k < length counts → 1 ≤ get_or counts k 0

-- Of a row of a call with these rows, round which stand plain loops with these counts, the innermost first: the loops
-- that an argument leaves are there and have iterations, and where it leaves one all rows have the form of this one.
pub record RowLeaves (left : Left) (outer : List (List ℕ)) (times : List CallInstance) (r : CallInstance) : Type 0 where
  pub turns : (i j : ℕ) → j < left r.form i → HasTurns (get_or outer j [])
  pub one : (i : ℕ) → 0 < left r.form i → (k : ℕ) (q : CallInstance) → slice_get times k ≡ Some q → q.form ≡ r.form

-- what is asked of a statement round which stand plain loops with these counts
abbrev pub AskedInLoops : Type 1
AskedInLoops = List (List ℕ) → Type 0

abbrev pub each_in : {X : Type 0} → (X → AskedInLoops) → List X → AskedInLoops
each_in asked [] outer = Unit {0}
each_in asked (x ∷ xs) outer = asked x outer × each_in asked xs outer

-- a `mapseq` in which one statement stands is a plain loop more, and nothing leaves another map
abbrev pub loops_in : {X : Type 0} → LoopKind → List X → (counts : List ℕ) → List (List ℕ) → List (List ℕ)
loops_in loop_kind.Sequential (x ∷ []) counts outer = counts ∷ outer
loops_in m xs counts outer = []

abbrev pub leaves_step : Left → (X : Type 0) → (X → Statement) → (X → AskedInLoops) → Statement-F X → AskedInLoops
leaves_step left X begun asked (Statement-F.Call lower times) outer =
    (k : ℕ) (r : CallInstance) → slice_get times k ≡ Some r → RowLeaves left (if lower then outer else []) times r
leaves_step left X begun asked (Statement-F.Map place m counts starts parts) outer =
    each_in asked parts (loops_in m parts counts outer)

abbrev pub Leaves : Left → Statement → AskedInLoops
Leaves left = rec-Statement AskedInLoops (leaves_step left)

abbrev pub BodyLeaves : Left → Body → Type 0
BodyLeaves left (body.Leaf code) = Unit {0}
BodyLeaves left (body.Inner list) = each_in (Leaves left) list []

-- ---- what is asked of the rows of each call

abbrev pub joined_calls : List (List (List CallInstance)) → List (List CallInstance)
joined_calls [] = []
joined_calls (x ∷ xs) = x ++ joined_calls xs

abbrev pub by_call_step : Statement-F (List (List CallInstance)) → List (List CallInstance)
by_call_step (Statement-F.Call lower times) = times ∷ []
by_call_step (Statement-F.Map place m counts starts parts) = joined_calls parts

-- the rows of each call in it
abbrev pub by_call : Statement → List (List CallInstance)
by_call = fold-Statement (List (List CallInstance)) by_call_step

abbrev pub arrays_in : CallInstance → List ℕ
arrays_in r = map (λ a. a.array) r.args

-- the rows of a call take the same arrays
pub record TakeSame (times : List CallInstance) : Type 0 where
  pub same : (k : ℕ) (r q : CallInstance) → slice_get times 0 ≡ Some r → slice_get times k ≡ Some q
      → arrays_in q ≡ arrays_in r

abbrev pub AreSame : List (List CallInstance) → Type 0
AreSame [] = Unit {0}
AreSame (x ∷ xs) = TakeSame x × AreSame xs

abbrev pub BodySame : Body → Type 0
BodySame (body.Leaf code) = Unit {0}
BodySame (body.Inner list) = AreSame (joined_calls (map by_call list))
