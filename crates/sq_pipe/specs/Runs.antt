-- At which nodes of the machine forms run, by their tables, how much room they have there, and how many children these
-- nodes have.
--
-- A root of 80 bytes has two children, of 32 and 16. Form 0 runs at the root. Its `mappar` of three lower calls is
-- spread: by turns the first and the third run at the first child, the second at the second one. Where all three
-- reach form 1, it runs at both, and has room for 16 bytes; where the third reaches form 2, this one runs at the first
-- alone, and has room for 32.
use Rattle.std.specs.Prelude.{ℕ, zero, suc, ◌+◌, ◌*◌, ◌^◌, ◌==◌, max, min, Bool, true, false, not, ◌||◌, List, []}
use Rattle.std.specs.Prelude.{◌∷◌, ◌++◌, map, length, get_or, replicate, slice_set, slice_get, Option, Some, None}
use Rattle.std.specs.Prelude.{if◌then◌else◌, ⊤, ◌≡◌}
use Rattle.sq_text.specs.declared.spread.SpreadRule.{SpreadRule}
use Rattle.sq_text.specs.Spreading.{child_of}
use Rattle.sq_forms.specs.Machfile.declared.node.Node.{Node}
use Rattle.sq_forms.specs.declared.form.Caller.{Caller}
use Rattle.sq_forms.specs.declared.form.Form.{Form}
use Rattle.sq_spec.specs.declared.statement.LoopKind.{LoopKind}
use Rattle.sq_spec.specs.declared.statement.CallInstance.{CallInstance}
use Rattle.sq_spec.specs.declared.statement.Statement.{Statement}
use Rattle.sq_spec.specs.declared.statement.Statement.TheOpen.{Statement-F}
use Rattle.sq_spec.specs.declared.statement.Statement.TheFolds.{fold-Statement}
use Rattle.sq_spec.specs.declared.body.Body.{Body}
use Rattle.sq_spec.specs.declared.body.Body.TheVariants as body
use Rattle.sq_spec.specs.declared.resolved.Resolved.{Resolved}
use Rattle.sq_spec.specs.Spreads.{any_of, is_spread}
use Rattle.sq_hoist.specs.Chosen.Forms.{instance_at, level_by, rule_by}
use Rattle.sq_hoist.specs.Choices.{body_at}
use Rattle.sq_pipe.specs.declared.marks.Flags.{Flags}

-- ---- which children the calls of a form reach

-- A statement: whether lower and same-level calls stand in it; and of each call that it makes the form and the child at
-- which that runs, where a spread map stands round it or not, lower calls go to this child, and it is begun for the
-- k-th time.
pub record Landing : Type 0 where
  pub lower : Bool
  pub same : Bool
  pub lands : (inside : Bool) (child k : ℕ) → List (ℕ × ℕ)

abbrev pub all_lands : List Landing → (inside : Bool) (child k : ℕ) → List (ℕ × ℕ)
all_lands [] inside child k = []
all_lands (x ∷ xs) inside child k = x.lands inside child k ++ all_lands xs inside child k

abbrev pub row_lands : (child : ℕ) → Option CallInstance → List (ℕ × ℕ)
row_lands child None = []
row_lands child (Some r) = (r.form, child) ∷ []

-- of so many iterations from the t-th on
abbrev pub turns_land : (turn : ℕ → List (ℕ × ℕ)) → (n t : ℕ) → List (ℕ × ℕ)
turns_land turn zero t = []
turns_land turn (suc n) t = turn t ++ turns_land turn n (t + 1)

-- at a node with so many children, under this rule
module _ (rule : SpreadRule) (children : ℕ) where
  -- the child of an iteration
  abbrev pub child_in : (spread : Bool) → (count child t : ℕ) → ℕ
  child_in spread count child t = if spread then child_of rule count children t else child

  -- parts of a map that is begun, with so many iterations each behind so many before, spread or not
  abbrev pub turn_lands : List Landing → (inside spread : Bool) → (count start child t : ℕ) → List (ℕ × ℕ)
  turn_lands parts inside spread count start child t =
      all_lands parts (inside || spread) (child_in spread count child t) (start + t)

  -- of a map, where it is known of its parts whether lower and same-level calls stand in them
  abbrev pub map_lands : LoopKind → (counts starts : List ℕ) → (lowers sames : List Bool) → List Landing
      → (inside : Bool) → (child k : ℕ) → List (ℕ × ℕ)
  map_lands kind counts starts lowers sames parts inside child k =
      let spread = is_spread kind inside (any_of lowers) (any_of sames) in
      turns_land (turn_lands parts inside spread (get_or counts k 0) (get_or starts k 0) child) (get_or counts k 0) 0

  abbrev pub landing_step : Statement-F Landing → Landing
  landing_step (Statement-F.Call lower instances) = record {
    lower = lower;
    same = not lower;
    lands = λ inside child k. row_lands child (slice_get instances k);
  }
  landing_step (Statement-F.Map place kind counts starts parts) = record {
    lower = any_of (map (λ x. x.lower) parts);
    same = any_of (map (λ x. x.same) parts);
    lands = map_lands kind counts starts (map (λ x. x.lower) parts) (map (λ x. x.same) parts) parts;
  }

  abbrev pub landing : Statement → Landing
  landing = fold-Statement Landing landing_step

  -- outside of spread maps at child 0
  abbrev pub body_lands : Body → List (ℕ × ℕ)
  body_lands (body.Leaf code) = []
  body_lands (body.Inner list) = all_lands (map landing list) false 0 0

-- ---- the same as flags: for each form one for each child

abbrev pub noted : (children : ℕ) → List (ℕ × ℕ) → List Bool → List Bool
noted children [] flags = flags
noted children (x ∷ xs) flags = noted children xs (slice_set flags (x.0 * children + x.1) true)

-- of the calls of a form, where there are so many forms
abbrev pub flags_of : SpreadRule → (children forms : ℕ) → Body → List Bool
flags_of rule children forms b = noted children (body_lands rule children b) (replicate (forms * children) false)

abbrev pub has_flag : List Bool → (children form child : ℕ) → Bool
has_flag flags children form child = get_or flags (form * children + child) false

-- ---- the nodes of a form

-- a flag for each node of the machine
abbrev pub Marks : Type 0
Marks = List Bool

abbrev pub is_marked : Marks → ℕ → Bool
is_marked marks x = get_or marks x false

-- of so many children from the c-th on, those at which the form is reached
abbrev pub mark_children : (flags : List Bool) → (children form first count c : ℕ) → Marks → Marks
mark_children flags children form first zero c marks = marks
mark_children flags children form first (suc n) c marks =
    mark_children flags children form first n (c + 1)
    (if has_flag flags children form c then slice_set marks (first + c) true else marks)

-- children of the marked nodes, of those from the n-th on; flags: of the caller's calls, by the number of children
abbrev pub mark_below : (flags : ℕ → List Bool) → (form : ℕ) → (at : Marks) → (n : ℕ) → List Node → Marks → Marks
mark_below flags form at n [] marks = marks
mark_below flags form at n (node ∷ nodes) marks =
    mark_below flags form at (n + 1) nodes
    (if is_marked at n
    then mark_children (flags node.children) node.children form node.first_child node.children 0 marks
    else marks)

abbrev pub unmarked : List Node → Marks
unmarked nodes = replicate (length nodes) false

abbrev pub level_at : Resolved → ℕ → ℕ
level_at r k = level_by (slice_get r.forms k)

-- which children of a node with so many the calls of a form reach
abbrev pub flags_at : Resolved → (caller children : ℕ) → List Bool
flags_at r g children =
    flags_of (rule_by (instance_at r g)) children (length r.forms) (body_at r g).body

-- at: the nodes of the caller
abbrev pub marks_called : Resolved → (form level caller : ℕ) → (at : Marks) → Marks
marks_called r k level g at =
    if level_at r g == level then at
    else mark_below (flags_at r g) k at 0 r.machine.now.nodes (unmarked r.machine.now.nodes)

-- The entry runs at the root; what is called at its caller's level, at the caller's nodes; what is called one level
-- lower, at children of these. known: the nodes of the forms before it, as callers stand before those that they call.
abbrev pub marks_by : Resolved → (form level : ℕ) → Option Caller → List Marks → Marks
marks_by r k level None known = slice_set (unmarked r.machine.now.nodes) 0 true
marks_by r k level (Some c) known = marks_called r k level c.form (get_or known c.form [])

-- of the forms from the k-th on
abbrev pub marks_from : Resolved → (k : ℕ) → List Form → List Marks → List Marks
marks_from r k [] known = known
marks_from r k (f ∷ fs) known = marks_from r (k + 1) fs (known ++ marks_by r k f.level f.caller known ∷ [])

-- of each form, by its number
abbrev pub marks_of : Resolved → List Marks
marks_of r = marks_from r 0 r.forms []

-- ---- flags that are made once

-- these are the flags of some calls, each for nodes with so many children
abbrev pub AreFlags : (flags : ℕ → List Bool) → List Flags → Type 0
AreFlags flags [] = ⊤
AreFlags flags (x ∷ xs) = (x.list ≡ flags x.children) × AreFlags flags xs

abbrev pub find_flags : (children : ℕ) → List Flags → Option (List Bool)
find_flags children [] = None
find_flags children (x ∷ xs) = if x.children == children then Some x.list else find_flags children xs

-- ---- what nodes have

-- the least capacity of a marked node, of those from the n-th on, and at most so many bytes
abbrev pub least_room : Marks → (n : ℕ) → List Node → ℕ → ℕ
least_room marks n [] most = most
least_room marks n (node ∷ nodes) most =
    least_room marks (n + 1) nodes (if is_marked marks n then min node.capacity most else most)

-- and the greatest number of children
abbrev pub most_children : Marks → (n : ℕ) → List Node → ℕ → ℕ
most_children marks n [] least = least
most_children marks n (node ∷ nodes) least =
    most_children marks (n + 1) nodes (if is_marked marks n then max node.children least else least)

-- more than a machine has
abbrev pub no_bound : ℕ
no_bound = 2 ^ 40
