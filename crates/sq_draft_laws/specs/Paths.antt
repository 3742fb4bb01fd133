-- How many maps stand round the leaf calls of forms, and how many arrays a leaf has.
use Rattle.std.specs.Prelude.{◌≡◌, ℕ, suc, ◌+◌, ◌≤◌, List, [], ◌∷◌, ◌++◌, map, length, slice_get, Some}
use Rattle.sq_leaf.specs.Leaf.{Leaf as LeafSource}
use Rattle.sq_spec.specs.declared.statement.CallInstance.{CallInstance}
use Rattle.sq_spec.specs.declared.statement.Statement.{Statement}
use Rattle.sq_spec.specs.declared.statement.Statement.TheOpen.{Statement-F}
use Rattle.sq_spec.specs.declared.statement.Statement.TheFolds.{fold-Statement}
use Rattle.sq_spec.specs.declared.body.Body.{Body}
use Rattle.sq_spec.specs.declared.body.Body.TheVariants as body
use Rattle.sq_spec.specs.declared.body.FormBody.{FormBody}

-- a call's table, and how many maps of its form stand round it
pub record Nested : Type 0 where
  pub loops : ℕ
  pub times : List CallInstance

abbrev pub all_nested : List (ℕ → List Nested) → (loops : ℕ) → List Nested
all_nested [] loops = []
all_nested (f ∷ fs) loops = f loops ++ all_nested fs loops

abbrev pub nested_step : Statement-F (ℕ → List Nested) → (loops : ℕ) → List Nested
nested_step (Statement-F.Call lower times) loops = record { loops = loops; times = times } ∷ []
nested_step (Statement-F.Map place m counts starts parts) loops = all_nested parts (suc loops)

-- the calls in a statement, round which so many maps stand, in text order
abbrev pub nested_in : Statement → (loops : ℕ) → List Nested
nested_in = fold-Statement (ℕ → List Nested) nested_step

abbrev pub nested_of : Body → List Nested
nested_of (body.Leaf code) = []
nested_of (body.Inner list) = all_nested (map nested_in list) 0

-- So many maps stand round each form, at most: round a callee those that stand round its caller and those round the
-- call. Round a leaf no more than 64 stand.
pub record PathsFit (bodies : ℕ → FormBody) (round : ℕ → ℕ) : Type 0 where
  pub calls : (k i : ℕ) (t : Nested) → slice_get (nested_of (bodies k).body) i ≡ Some t
      → (j : ℕ) (r : CallInstance) → slice_get t.times j ≡ Some r → round k + t.loops ≤ round r.form
  pub short : (k : ℕ) (leaf : LeafSource) → (bodies k).body ≡ body.Leaf leaf → round k ≤ 64

-- no leaf has more than 32 arrays
pub record LeavesAreSmall (bodies : ℕ → FormBody) : Type 0 where
  pub few : (k : ℕ) (leaf : LeafSource) → (bodies k).body ≡ body.Leaf leaf → length (bodies k).arrays ≤ 32
