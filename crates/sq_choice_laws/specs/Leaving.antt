-- How many loops an argument may leave; and that it leaves as many.
--
-- A plain loop is a `mapseq` that has an iteration each time that it is begun, and whose whole body is one lower call
-- that has one form, or one plain loop. The plain loops round a call are counted from the inside. An argument of the
-- call may leave the n innermost of them where, at each time that one of these is begun, it has one block in all calls
-- that the loop begins, and for each other argument of any of these calls the two share no element or neither is
-- written.
--
-- `mapseq (int i = 0 to 2) { mapseq (int j = 0 to 3) { low(A[i], B[j], C); } }` begins its inner loop twice, with the
-- block A[0] in all three calls and then A[1], and its outer one once, with six calls: A may leave one loop, B none,
-- and C both. Where C is the whole of A and low writes its first parameter, the two share elements, and neither may
-- leave a loop. In `mapseq (int i = 0 to 2) { mapseq (int j = 0 to i) low(A[i], C); }` the inner loop has no iteration
-- the first time: neither loop is plain, and nothing may leave one.
use Rattle.std.specs.Prelude.{◌≡◌, ℕ, suc, ◌<◌, ◌≤◌, true, List, [], ◌∷◌, length, get_or, slice_get, Some}
use Rattle.sq_text.specs.declared.place.Place.{Place}
use Rattle.sq_blocks.specs.declared.argument.Argument.{Argument}
use Rattle.sq_spec.specs.declared.statement.LoopKind.{LoopKind}
use Rattle.sq_spec.specs.declared.statement.LoopKind.TheVariants as loop_kind
use Rattle.sq_spec.specs.declared.statement.CallInstance.{CallInstance}
use Rattle.sq_spec.specs.declared.statement.Statement.{Statement}
use Rattle.sq_spec.specs.declared.statement.Statement.TheVariants as b
use Rattle.sq_spec.specs.declared.body.Body.TheVariants as body
use Rattle.sq_spec.specs.declared.resolved.Resolved.{Resolved}
use Rattle.sq_spec.specs.Bodies.{body_of}
use Rattle.sq_draft_laws.specs.TermLaws.Orders.{EachOf}
use Rattle.sq_draft_laws.specs.ProgramLaws.Held.{begun, Stays}
use Rattle.sq_draft_laws.specs.Choosing.{Walked}
use Rattle.sq_draft_laws.specs.Homes.Chosen.Arrays.{left_by}
use Rattle.sq_draft_laws.specs.Homes.Chosen.Forms.{choice_in}
use Rattle.sq_pipe.specs.Hoist.Choices.{hoisted}

-- ---- loops and calls

-- Each time that a map is begun it has so many iterations; no time is listed where there is no iteration at any.
abbrev pub HasTurns : (least : ℕ) → List ℕ → Type 0
HasTurns least counts = (k : ℕ) → k < length counts → least ≤ get_or counts k 0

-- all rows of a call reach this form, and there are some
pub record HasForm (f : ℕ) (rows : List CallInstance) : Type 0 where
  pub some : 0 < length rows
  pub each : EachOf (λ (q : CallInstance). q.form ≡ f) rows

-- the call has an i-th argument
pub record HasArgument (i : ℕ) (q : CallInstance) : Type 0 where
  pub argument : Argument
  pub there : slice_get q.args i ≡ Some argument

-- a statement that stands in these, at any depth
pub data StandsIn (x : Statement) : List Statement → Type 0 where
  at_front : (xs : List Statement) → StandsIn x (x ∷ xs)
  further : (y : Statement) {xs : List Statement} → StandsIn x xs → StandsIn x (y ∷ xs)
  in_map : (place : Place) (m : LoopKind) (counts starts : List ℕ) {parts : List Statement} (xs : List Statement)
      → StandsIn x parts → StandsIn x (b.Map place m counts starts parts ∷ xs)

-- ---- an argument that may leave loops

-- Of a statement that is n plain loops round a call which has form f: the i-th argument of the call may leave all n.
pub data MayLeave (f i : ℕ) : (n : ℕ) → Statement → Type 0 where
  the_call : (rows : List CallInstance) → HasForm f rows → EachOf (HasArgument i) rows
      → MayLeave f i 0 (b.Call true rows)
  a_loop : (place : Place) (counts starts : List ℕ) {n : ℕ} {x : Statement} → HasTurns 1 counts → MayLeave f i n x
      → ((k : ℕ) → k < length counts
      → Stays i ((begun (b.Map place loop_kind.Sequential counts starts (x ∷ []))).calls k))
      → MayLeave f i (suc n) (b.Map place loop_kind.Sequential counts starts (x ∷ []))

-- the i-th parameter of a form may leave the n innermost loops round the call that reaches this form
pub record MayLeaveIn (r : Resolved) (f i n : ℕ) : Type 0 where
  pub caller : ℕ
  pub list : List Statement
  pub is : (body_of r.typed.now.tasks r.mapping.now.instances r.found.entries caller).body ≡ body.Inner list
  pub loop : Statement
  pub stands : StandsIn loop list
  pub leaves : MayLeave f i n loop

-- ---- what is chosen

-- how many loops the parameters of a form leave
abbrev pub left_of : Resolved → ℕ → ℕ → ℕ
left_of r f i = left_by (choice_in (hoisted r) f) i

-- the greatest number of which this holds, or 0
pub record IsMost (P : ℕ → Type 0) (n : ℕ) : Type 0 where
  pub holds : 0 < n → P n
  pub most : (m : ℕ) → P m → m ≤ n

-- An argument leaves n loops exactly where n is the greatest number of plain loops round its call that it may leave:
-- so it leaves the outermost one that it may.
abbrev pub HoistedIsOutermost : Type 0
HoistedIsOutermost = (r : Resolved) → Walked r → (f i : ℕ) → IsMost (MayLeaveIn r f i) (left_of r f i)
