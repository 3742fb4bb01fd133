-- Which loops may overlap their transfers, room left aside; and that these are the candidates.
--
-- Such a loop is a map whose whole body is one lower call that has one form.
-- - It is a `mapseq` with two iterations or more each time that it is begun. What iteration t writes shares no element
--   with what iterations t + 1 and t + 2 read or write, where there are such; arguments that leave loops are left
--   aside.
-- - Or it is a spread `mappar` with more iterations, each time that it is begun, than any node at which its form runs
--   has children. Nothing is asked of its blocks: no two of its iterations share an element that either writes, where
--   the program has no race.
-- A map is spread where it is no `mapseq`, stands in no other spread map of its form, and has in its body, at any
-- depth, a lower call and no same-level call.
--
-- A form runs at two nodes, of two and of three children. Its `mappar (int i = 0 to 3) low(A[i])` may not overlap,
-- since three iterations aren't more than three children; with four it may. Of `low(X, Y)`, which reads X and writes
-- Y: `mapseq (int i = 0 to 1) low(A[i], B[i])` may not overlap, having a single iteration; with two it may. Nor may
-- `mapseq (int i = 0 to 9) low(A[i], A[i + 2])`, since iteration 2 reads what iteration 0 wrote; with `A[i + 3]` it
-- may.
use Rattle.std.specs.Prelude.{◌≡◌, ℕ, suc, ◌+◌, ◌<◌, ◌≤◌, Bool, true, false, not, ◌||◌, List, [], ◌∷◌, ◌++◌, map}
use Rattle.std.specs.Prelude.{get_or, slice_get, Option, Some, None, if◌then◌else◌}
use Rattle.sq_text.specs.declared.place.Place.{Place}
use Rattle.sq_ast.specs.Modes.{is_written}
use Rattle.sq_blocks.specs.declared.argument.Argument.{Argument}
use Rattle.sq_form_laws.specs.Laws.{SharesElement}
use Rattle.sq_forms.specs.Machfile.declared.node.Node.{Node}
use Rattle.sq_spec.specs.declared.statement.LoopKind.{LoopKind}
use Rattle.sq_spec.specs.declared.statement.LoopKind.TheVariants as loop_kind
use Rattle.sq_spec.specs.declared.statement.CallInstance.{CallInstance}
use Rattle.sq_spec.specs.declared.statement.Statement.{Statement}
use Rattle.sq_spec.specs.declared.statement.Statement.TheOpen.{Statement-F}
use Rattle.sq_spec.specs.declared.statement.Statement.TheFolds.{fold-Statement}
use Rattle.sq_spec.specs.declared.body.Body.{Body}
use Rattle.sq_spec.specs.declared.body.Body.TheVariants as body
use Rattle.sq_spec.specs.declared.body.FormBody.{FormBody}
use Rattle.sq_spec.specs.declared.resolved.Resolved.{Resolved}
use Rattle.sq_spec.specs.Spreads.{any_of, is_spread}
use Rattle.sq_placed.specs.Pipes.{CallLoop, call_loops_of}
use Rattle.sq_draft_laws.specs.Choosing.{Walked}
use Rattle.sq_draft_laws.specs.Homes.Chosen.Forms.{bodies_of}
use Rattle.sq_pipe.specs.declared.candidate.Candidate.{Candidate}
use Rattle.sq_pipe.specs.Runs.{is_marked, marks_of}
use Rattle.sq_pipe.specs.Greedy.{candidates_of}
use Rattle.sq_choice_laws.specs.Leaving.{HasTurns, HasForm, left_of}

-- ---- the loops of lower calls, with what stands round them

-- The form in which it stands, its place, whether it is spread, and the loop.
pub record Loop : Type 0 where
  pub caller : ℕ
  pub place : Place
  pub spread : Bool
  pub its : CallLoop

-- of a statement, where a spread map stands round it or not
abbrev pub LoopsIn : Type 0
LoopsIn = (inside : Bool) → List Loop

abbrev pub all_loops : List LoopsIn → LoopsIn
all_loops [] inside = []
all_loops (f ∷ fs) inside = f inside ++ all_loops fs inside

-- A statement: its rows, if it is a lower call; whether lower and same-level calls stand in it; and its loops.
pub record Part : Type 0 where
  pub call : Option (List CallInstance)
  pub lower : Bool
  pub same : Bool
  pub loops : LoopsIn

module _ (caller : ℕ) where
  abbrev pub own_loop : Place → (spread : Bool) → LoopKind → (counts starts : List ℕ) → Option (List CallInstance)
      → List Loop
  own_loop place spread m counts starts None = []
  own_loop place spread m counts starts (Some rows) = record {
    caller = caller;
    place = place;
    spread = spread;
    its = record { kind = m; rows = rows; counts = counts; starts = starts };
  } ∷ []

  -- where one statement is all that stands in the map
  abbrev pub loop_round : Place → (spread : Bool) → LoopKind → (counts starts : List ℕ)
      → List (Option (List CallInstance)) → List Loop
  loop_round place spread m counts starts (o ∷ []) = own_loop place spread m counts starts o
  loop_round place spread m counts starts os = []

  -- of a map: the rows of its parts, whether lower and same-level calls stand in these, and their loops
  abbrev pub map_loops : Place → LoopKind → (counts starts : List ℕ) → List (Option (List CallInstance))
      → (lowers sames : List Bool) → List LoopsIn → LoopsIn
  map_loops place m counts starts calls lowers sames parts inside =
      let spread = is_spread m inside (any_of lowers) (any_of sames) in
      loop_round place spread m counts starts calls ++ all_loops parts (inside || spread)

  abbrev pub part_step : Statement-F Part → Part
  part_step (Statement-F.Call lower rows) = record {
    call = if lower then Some rows else None;
    lower = lower;
    same = not lower;
    loops = λ inside. [];
  }
  part_step (Statement-F.Map place m counts starts parts) = record {
    call = None;
    lower = any_of (map (λ p. p.lower) parts);
    same = any_of (map (λ p. p.same) parts);
    loops = map_loops place m counts starts (map (λ p. p.call) parts) (map (λ p. p.lower) parts)
        (map (λ p. p.same) parts) (map (λ p. p.loops) parts);
  }

  abbrev pub part : Statement → Part
  part = fold-Statement Part part_step

  abbrev pub loops_in : Statement → LoopsIn
  loops_in x = (part x).loops

  -- in text order
  abbrev pub body_loops : Body → List Loop
  body_loops (body.Leaf code) = []
  body_loops (body.Inner list) = all_loops (map loops_in list) false

-- of forms, from the k-th on
abbrev pub loops_from : (k : ℕ) → List FormBody → List Loop
loops_from k [] = []
loops_from k (b ∷ bs) = body_loops k b.body ++ loops_from (k + 1) bs

-- by the number of the form in which they stand, and in it in text order
abbrev pub loops_of : Resolved → List Loop
loops_of r = loops_from 0 (bodies_of r)

-- These are the loops of lower calls that the source of a plan has.
abbrev pub LoopsAreAll : Type 0
LoopsAreAll = (k : ℕ) (b : Body) → map (λ (l : Loop). l.its) (body_loops k b) ≡ call_loops_of b

-- ---- a loop that may overlap

-- left: of the parameters of a form, how many loops they leave
module _ (left : ℕ → ℕ → ℕ) where
  -- what the first call writes shares no element with what the second one has
  pub record IsClear (r q : CallInstance) : Type 0 where
    pub apart : (i j : ℕ) (x y : Argument) → slice_get r.args i ≡ Some x → slice_get q.args j ≡ Some y
        → left r.form i ≡ 0 → left q.form j ≡ 0 → is_written x.mode ≡ true → SharesElement x y → ⊥

  -- so it is of iteration t and the next two, each time that the loop is begun
  pub record IsClearAhead (l : CallLoop) : Type 0 where
    pub each : (k t u : ℕ) (r q : CallInstance) → t < u → u ≤ 2 + t → u < get_or l.counts k 0
        → slice_get l.rows (get_or l.starts k 0 + t) ≡ Some r → slice_get l.rows (get_or l.starts k 0 + u) ≡ Some q
        → IsClear r q

  -- at: the nodes at which the caller runs
  module _ (nodes : List Node) (at : ℕ → Type 0) where
    pub record TurnsInSequence (l : CallLoop) : Type 0 where
      pub two : HasTurns 2 l.counts
      pub clear : IsClearAhead l

    pub record TurnsBeside (spread : Bool) (l : CallLoop) : Type 0 where
      pub is_spread : spread ≡ true
      pub some : HasTurns 1 l.counts
      pub more : (n : ℕ) (node : Node) → at n → slice_get nodes n ≡ Some node → HasTurns (suc node.children) l.counts

    abbrev pub TurnsMay : LoopKind → (spread : Bool) → CallLoop → Type 0
    TurnsMay loop_kind.Sequential spread l = TurnsInSequence l
    TurnsMay loop_kind.Parallel spread l = TurnsBeside spread l
    TurnsMay (loop_kind.Reduction d) spread l = ⊥

    -- with this form as its call's
    pub record MayOverlapAs (l : Loop) (f : ℕ) : Type 0 where
      pub form : HasForm f l.its.rows
      pub turns : TurnsMay l.its.kind l.spread l.its

-- by its marks a form runs at the n-th node
abbrev pub MarkedAt : Resolved → (form n : ℕ) → Type 0
MarkedAt r k n = is_marked (get_or (marks_of r) k []) n ≡ true

abbrev pub MayOverlap : Resolved → Loop → ℕ → Type 0
MayOverlap r l f = MayOverlapAs (left_of r) r.machine.now.nodes (MarkedAt r l.caller) l f

-- ---- the candidates

abbrev pub candidate_of : Loop → ℕ → Candidate
candidate_of l f = record { caller = l.caller; form = f; place = l.place }

-- The second list has one candidate for each loop of the first that may overlap, in the same order, and no other.
pub data AreThose (May : Loop → ℕ → Type 0) : List Loop → List Candidate → Type 0 where
  no_loop : AreThose May [] []
  other_loop : {ls : List Loop} {cs : List Candidate} (l : Loop) → ((f : ℕ) → May l f → ⊥) → AreThose May ls cs
      → AreThose May (l ∷ ls) cs
  such_loop : {ls : List Loop} {cs : List Candidate} (l : Loop) (f : ℕ) → May l f → AreThose May ls cs
      → AreThose May (l ∷ ls) (candidate_of l f ∷ cs)

-- A loop is a candidate exactly where it may overlap its transfers.
abbrev pub CandidatesAreAll : Type 0
CandidatesAreAll = (r : Resolved) → Walked r → AreThose (MayOverlap r) (loops_of r) (candidates_of r)
