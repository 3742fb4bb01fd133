-- The loops whose body is one lower call, and what is asked of those that overlap their transfers.
use Rattle.std.specs.Prelude.{◌≡◌, ℕ, ◌+◌, ◌<◌, true, false, List, [], ◌∷◌, ◌++◌, map, get_or, slice_get, Option}
use Rattle.std.specs.Prelude.{Some, None, if◌then◌else◌}
use Rattle.sq_ir.specs.Blocks.declared.argument.Argument.{Argument}
use Rattle.sq_spec.specs.declared.statement.LoopKind.{LoopKind}
use Rattle.sq_spec.specs.declared.statement.CallInstance.{CallInstance}
use Rattle.sq_spec.specs.declared.statement.Statement.{Statement}
use Rattle.sq_spec.specs.declared.statement.Statement.TheOpen.{Statement-F}
use Rattle.sq_spec.specs.declared.statement.Statement.TheFolds.{fold-Statement}
use Rattle.sq_spec.specs.declared.body.Body.{Body}
use Rattle.sq_spec.specs.declared.body.Body.TheVariants as body
use Rattle.sq_spec.specs.declared.body.FormBody.{FormBody}
use Rattle.sq_placed.specs.declared.home.Homes.{Homes}
use Rattle.sq_placed.specs.Tables.{row_form}

-- ---- the loops of lower calls

-- The kind of the loop, and the rows of the call; how many iterations there are each time that the loop is begun, and
-- how many began before.
pub record CallLoop : Type 0 where
  pub kind : LoopKind
  pub rows : List CallInstance
  pub counts : List ℕ
  pub starts : List ℕ

-- of a statement: its rows if it is a lower call, and the loops in it
pub record CallLoops : Type 0 where
  pub call : Option (List CallInstance)
  pub loops : List CallLoop

abbrev pub all_loops : List CallLoops → List CallLoop
all_loops [] = []
all_loops (x ∷ xs) = x.loops ++ all_loops xs

abbrev pub own_loop : LoopKind → (counts starts : List ℕ) → Option (List CallInstance) → List CallLoop
own_loop m counts starts None = []
own_loop m counts starts (Some rows) = record { kind = m; rows = rows; counts = counts; starts = starts } ∷ []

abbrev pub loop_round : LoopKind → (counts starts : List ℕ) → List CallLoops → List CallLoop
loop_round m counts starts (x ∷ []) = own_loop m counts starts x.call
loop_round m counts starts xs = []

abbrev pub call_loops_step : Statement-F CallLoops → CallLoops
call_loops_step (Statement-F.Call lower instances) =
    record { call = if lower then Some instances else None; loops = [] }
call_loops_step (Statement-F.Map place m counts starts parts) =
    record { call = None; loops = loop_round m counts starts parts ++ all_loops parts }

abbrev pub call_loops : Statement → CallLoops
call_loops = fold-Statement CallLoops call_loops_step

abbrev pub call_loops_of : Body → List CallLoop
call_loops_of (body.Leaf code) = []
call_loops_of (body.Inner list) = all_loops (map call_loops list)

-- ---- what is asked of those that overlap their transfers

-- two arguments of one array, passed in the same way
pub record IsHead (a b : Argument) : Type 0 where
  pub mode : a.mode ≡ b.mode
  pub is_reduced : a.is_reduced ≡ b.is_reduced
  pub array : a.array ≡ b.array

-- as many, one by one
pub data AreHeads : List Argument → List Argument → Type 0 where
  no_heads : AreHeads [] []
  more_heads : {a b : Argument} {xs ys : List Argument} → IsHead a b → AreHeads xs ys → AreHeads (a ∷ xs) (b ∷ ys)

-- Each iteration has a row. All rows have one form, and pass the same arrays in the same way.
pub record IsPiped (l : CallLoop) : Type 0 where
  pub there : (k t : ℕ) → t < get_or l.counts k 0 → (r : CallInstance)
      × (slice_get l.rows (get_or l.starts k 0 + t) ≡ Some r)
  pub form : (i j : ℕ) (r q : CallInstance) → slice_get l.rows i ≡ Some r → slice_get l.rows j ≡ Some q
      → r.form ≡ q.form
  pub heads : (i j : ℕ) (r q : CallInstance) → slice_get l.rows i ≡ Some r → slice_get l.rows j ≡ Some q
      → AreHeads r.args q.args

abbrev pub LoopStands : (ℕ → Homes) → CallLoop → Type 0
LoopStands homes l = (homes (row_form (slice_get l.rows 0))).overlaps ≡ true → IsPiped l

abbrev pub LoopsStand : (ℕ → Homes) → List CallLoop → Type 0
LoopsStand homes [] = Unit {0}
LoopsStand homes (l ∷ ls) = LoopStands homes l × LoopsStand homes ls

-- so it is of the loops of all forms
pub record PipesStand (bodies : ℕ → FormBody) (homes : ℕ → Homes) : Type 0 where
  pub each : (f : ℕ) → LoopsStand homes (call_loops_of (bodies f).body)

-- no loop overlaps its transfers
abbrev pub NonePiped : (ℕ → Homes) → Type 0
NonePiped homes = (f : ℕ) → (homes f).overlaps ≡ false
