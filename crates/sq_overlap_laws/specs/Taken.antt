-- Which loops overlap their transfers, by what nodes need: the bytes of the forms that run at them.
--
-- Form 0 needs 80 bytes of a root of 128, and two of its loops call form 1 and form 2 at a child of 64 bytes, each with
-- two arguments of 16 bytes. With the loop of form 1 taken its arguments stand there twice, so form 1 ends at 64 and
-- the child has room: the loop is taken. So is that of form 2, which ends at 64 too. With a child of 63 bytes neither
-- is. Where one of form 1's arguments leaves the loop, that one stands there once, and form 1 ends at 48. Where form 1
-- calls a form at its own level that needs 8 bytes, that one ends at 72, behind form 1: the first loop isn't taken, and
-- the second is.
use Rattle.std.specs.Prelude.{◌≡◌, ◌⊎◌, ℕ, ◌+◌, ◌==◌, ◌≤◌, Bool, true, false, List, [], ◌∷◌, get_or, slice_get}
use Rattle.std.specs.Prelude.{Some, None, if◌then◌else◌}
use Rattle.sq_ast.specs.declared.program.Param.{Param}
use Rattle.sq_machfile.specs.Machines.{WithinLimits}
use Rattle.sq_machfile.specs.declared.node.Node.{Node}
use Rattle.sq_forms.specs.declared.form.Caller.{Caller}
use Rattle.sq_forms.specs.declared.form.Form.{Form}
use Rattle.sq_spec.specs.declared.resolved.Resolved.{Resolved}
use Rattle.sq_spec_laws.specs.Needs.{size_of, form_params, own_size}
use Rattle.sq_ir.specs.StateLaws.{AreOne}
use Rattle.sq_plan_good.specs.Homes.Chosen.Arrays.{left_by}
use Rattle.sq_plan_good.specs.Homes.Chosen.Forms.{choice_in}
use Rattle.sq_plan_good.specs.DraftLaws.Choosing.{Walked}
use Rattle.sq_pass_laws.specs.Hoist.Choices.{hoisted}
use Rattle.sq_pass_laws.specs.Pipe.declared.candidate.Candidate.{Candidate}
use Rattle.sq_pass_laws.specs.Pipe.Greedy.{rooms_of, have_room, with_form, none_taken, candidates_of, taken_of}
use Rattle.sq_overlap_laws.specs.Marks.{Runs}

-- ---- how many bytes forms take

-- Of the parameters from the i-th on that aren't in place those that leave no loop round the call.
-- leaves: how many loops each leaves
abbrev pub staying_size : (leaves : ℕ → ℕ) → (i : ℕ) → List Param → List (List ℕ) → (in_place : List Bool) → ℕ
staying_size leaves i (p ∷ ps) (e ∷ es) (false ∷ flags) =
    (if leaves i == 0 then size_of p.elem e else 0) + staying_size leaves (i + 1) ps es flags
staying_size leaves i (p ∷ ps) (e ∷ es) (true ∷ flags) = staying_size leaves (i + 1) ps es flags
staying_size leaves i _ _ _ = 0

-- how many loops the i-th parameter of the k-th form leaves
abbrev pub leaves_of : Resolved → (k i : ℕ) → ℕ
leaves_of r k i = left_by (choice_in (hoisted r) k) i

-- taken: of each form whether the loop that calls it overlaps its transfers
abbrev pub is_taken : (taken : List Bool) → (k : ℕ) → Bool
is_taken taken k = get_or taken k false

-- Of the k-th form: its parameters that aren't in place, and its locals; and where its loop is taken, what leaves no
-- loop once more.
abbrev pub form_size : Resolved → (taken : List Bool) → (k : ℕ) → Form → ℕ
form_size r taken k f =
    own_size r.typed.now.tasks r.mapping.now.instances f
    + (if is_taken taken k then staying_size (leaves_of r k) 0
    (form_params r.typed.now.tasks r.mapping.now.instances f) f.extents f.in_place else 0)

-- ---- what nodes need

-- The buffers of the k-th form end there at its nodes.
pub data EndsAt (r : Resolved) (taken : List Bool) : (k end : ℕ) → Type 0 where
  -- those of the entry
  entry : {k : ℕ} → (f : Form) → slice_get r.forms k ≡ Some f → f.caller ≡ None
      → EndsAt r taken k (form_size r taken k f)
  -- of a form that is called from another level
  alone : {k : ℕ} → (f from : Form) (c : Caller) → slice_get r.forms k ≡ Some f → f.caller ≡ Some c
      → slice_get r.forms c.form ≡ Some from → (from.level ≡ f.level → ⊥) → EndsAt r taken k (form_size r taken k f)
  -- behind its caller's, where that is of the same level
  behind : {k end : ℕ} → (f from : Form) (c : Caller) → slice_get r.forms k ≡ Some f → f.caller ≡ Some c
      → slice_get r.forms c.form ≡ Some from → from.level ≡ f.level → EndsAt r taken c.form end
      → EndsAt r taken k (end + form_size r taken k f)

-- a form that runs at the node ends there
pub record IsEnd (r : Resolved) (taken : List Bool) (node end : ℕ) : Type 0 where
  pub form : ℕ
  pub runs : Runs r form node
  pub ends : EndsAt r taken form end

-- what the node needs: the greatest end of a form that runs at it, and 0 where none does
pub record NodeNeeds (r : Resolved) (taken : List Bool) (node need : ℕ) : Type 0 where
  pub greatest : (end : ℕ) → IsEnd r taken node end → end ≤ need
  pub is : (need ≡ 0) ⊎ IsEnd r taken node need

-- it has so many bytes
pub record HasBytes (r : Resolved) (taken : List Bool) (node : ℕ) (own : Node) : Type 0 where
  pub need : ℕ
  pub needs : NodeNeeds r taken node need
  pub fits : need ≤ own.capacity

-- and so has each node
abbrev pub AllHaveBytes : Resolved → (taken : List Bool) → Type 0
AllHaveBytes r taken = (node : ℕ) (own : Node) → slice_get r.machine.now.nodes node ≡ Some own
    → HasBytes r taken node own

-- A node needs one number of bytes.
abbrev pub TakenNeedIsOne : Type 0
TakenNeedIsOne = (r : Resolved) (taken : List Bool) (node m n : ℕ) → NodeNeeds r taken node m
    → NodeNeeds r taken node n → m ≡ n

-- ---- the laws

-- There is room for these loops exactly where no node needs more than it has.
abbrev pub TakenExactly : Type 0
TakenExactly = (r : Resolved) → Walked r → WithinLimits r.machine.now → (taken : List Bool)
    → AreOne (have_room taken 0 r.forms (rooms_of r) [] ≡ true) (AllHaveBytes r taken)

-- The candidates in turn: one is taken exactly where all nodes have room for it and those that were taken before it.
pub data TakenInTurn (r : Resolved) : List Candidate → (before after : List Bool) → Type 0 where
  none : {taken : List Bool} → TakenInTurn r [] taken taken
  takes : {c : Candidate} {cs : List Candidate} {before after : List Bool}
      → AllHaveBytes r (with_form before c.form) → TakenInTurn r cs (with_form before c.form) after
      → TakenInTurn r (c ∷ cs) before after
  passes : {c : Candidate} {cs : List Candidate} {before after : List Bool}
      → (AllHaveBytes r (with_form before c.form) → ⊥) → TakenInTurn r cs before after
      → TakenInTurn r (c ∷ cs) before after

-- So the loops that overlap their transfers are found, beginning with none.
abbrev pub LoopsAreTakenInTurn : Type 0
LoopsAreTakenInTurn = (r : Resolved) → Walked r → WithinLimits r.machine.now
    → TakenInTurn r (candidates_of r) (none_taken r.forms) (taken_of r)

-- and only these
abbrev pub TakenAreOne : Type 0
TakenAreOne = (r : Resolved) (cs : List Candidate) (before first second : List Bool) → TakenInTurn r cs before first
    → TakenInTurn r cs before second → first ≡ second
