-- The buffers of forms in order: a callee's stand behind its caller's, and behind those that leave the loops round its
-- call.
use Rattle.std.specs.Prelude.{◌≡◌, ℕ, zero, suc, Bool, List, [], ◌∷◌, ◌++◌, map, length, Option, Some, None, slice_get}
use Rattle.std.specs.Prelude.{if◌then◌else◌}
use Rattle.sq_blocks.specs.declared.argument.Argument.{Argument}
use Rattle.sq_spec.specs.declared.statement.LoopKind.{LoopKind}
use Rattle.sq_spec.specs.declared.statement.LoopKind.TheVariants as loop_kind
use Rattle.sq_spec.specs.declared.statement.CallInstance.{CallInstance}
use Rattle.sq_spec.specs.declared.statement.Statement.{Statement}
use Rattle.sq_spec.specs.declared.statement.Statement.TheOpen.{Statement-F}
use Rattle.sq_spec.specs.declared.statement.Statement.TheFolds.{fold-Statement}
use Rattle.sq_spec.specs.declared.body.Body.{Body}
use Rattle.sq_spec.specs.declared.body.Body.TheVariants as body
use Rattle.sq_spec.specs.declared.body.FormBody.{FormBody}
use Rattle.sq_placed.specs.declared.home.Home.{Home}
use Rattle.sq_placed.specs.declared.home.Homes.{Homes}
use Rattle.sq_placed.specs.Trees.{held_of, local_buffers}
use Rattle.sq_placed.specs.Tables.{leaves_loop, locals_of}
use Rattle.sq_term.specs.Terms.{buffers_from, set_buffers_from}
use Rattle.sq_nests.specs.Stacks.{those, OnStack}

abbrev pub EachOf : {A : Type 0} → (A → Type 0) → List A → Type 0
EachOf P [] = Unit {0}
EachOf P (x ∷ xs) = P x × EachOf P xs

-- ---- the calls of a form

-- a call: of how many loops round it arguments can leave, and its rows
pub record Round : Type 0 where
  pub loops : ℕ
  pub rows : List CallInstance

abbrev pub all_rounds : List (ℕ → List Round) → List Round
all_rounds [] = []
all_rounds (x ∷ xs) = x 0 ++ all_rounds xs

-- a `mapseq` in which one statement stands is one loop more
abbrev pub map_rounds : LoopKind → List (ℕ → List Round) → ℕ → List Round
map_rounds loop_kind.Sequential (x ∷ []) n = x (suc n)
map_rounds m xs n = all_rounds xs

-- arguments leave no loop of a same-level call
abbrev pub round_step : Statement-F (ℕ → List Round) → ℕ → List Round
round_step (Statement-F.Call lower times) n = record { loops = if lower then n else 0; rows = times } ∷ []
round_step (Statement-F.Map place m counts starts parts) n = map_rounds m parts n

-- with so many loops round the statement
abbrev pub rounds_in : Statement → ℕ → List Round
rounds_in = fold-Statement (ℕ → List Round) round_step

abbrev pub rounds_of : Body → List Round
rounds_of (body.Leaf code) = []
rounds_of (body.Inner list) = all_rounds (map rounds_in list)

-- ---- the buffers of parameters that leave loops

-- those that leave exactly so many
abbrev pub held_at : (loops : ℕ) → List Home → List ℕ
held_at loops [] = []
held_at loops (h ∷ hs) = if leaves_loop loops h then held_of h (held_at loops hs) else held_at loops hs

-- those that leave more than base loops, n more at most; those that leave more stand in front
abbrev pub held_over : (n base : ℕ) → List Home → List ℕ
held_over zero base hs = []
held_over (suc n) base hs = held_over n (suc base) hs ++ held_at (suc base) hs

module _ (homes : ℕ → Homes) where
  abbrev pub params_of : Option CallInstance → List Home
  params_of None = []
  params_of (Some r) = (homes r.form).params

  -- those of a call with these rows: arguments leave its loops as the first row has them
  abbrev pub round_held : Round → List ℕ
  round_held q = held_over q.loops 0 (params_of (slice_get q.rows 0))

-- ---- the buffers of a call

-- those of its arguments, or both sets of a loop that overlaps its transfers
abbrev pub call_buffers : List Home → List Argument → List ℕ
call_buffers hs args = buffers_from hs 0 args ++ (set_buffers_from 0 hs 0 args ++ set_buffers_from 1 hs 0 args)

-- ---- buffers that pass a test, as those of one level

module _ (here : ℕ → Bool) (before : ℕ → List ℕ) (outer : ℕ → List ℕ) (bodies : ℕ → FormBody) (homes : ℕ → Homes) where
  abbrev pub arguments_of : CallInstance → List ℕ
  arguments_of r = those here (call_buffers (homes r.form).params r.args)

  abbrev pub own_locals : CallInstance → List ℕ
  own_locals r = those here (local_buffers (locals_of (bodies r.form) (homes r.form)))

  -- Behind what is round the call (o) stand the callee's arguments that have buffers, and its locals behind these;
  -- round the callee are all of them.
  pub record IsNext (o : List ℕ) (r : CallInstance) : Type 0 where
    pub count : length r.args ≡ length (homes r.form).params
    pub arguments : OnStack before o (arguments_of r)
    pub locals : OnStack before (o ++ arguments_of r) (own_locals r)
    pub callee : outer r.form ≡ o ++ arguments_of r ++ own_locals r

  -- behind what is round the form stand those that leave loops of a call, and behind these each row's
  pub record IsBehind (form : ℕ) (q : Round) : Type 0 where
    pub held : OnStack before (outer form) (those here (round_held homes q))
    pub rows : EachOf (IsNext (outer form ++ those here (round_held homes q))) q.rows

  -- of each form whatever its calls reach
  abbrev pub AreInOrder : Type 0
  AreInOrder = (form : ℕ) → EachOf (IsBehind form) (rounds_of (bodies form).body)
