-- What a context stands for, in an environment.
use Rattle.std.specs.Prelude.{◌≡◌, ℕ, suc, ◌+◌, ◌≤◌, pos, Bool, true, false, List, [], ◌∷◌, ◌++◌, Option, Some, None}
use Rattle.std.specs.Prelude.{if◌then◌else◌}
use Rattle.sq_ir.specs.Written.{Setting, Env, value_of}
use Rattle.sq_ir.specs.declared.num.Num.{Num}
use Rattle.sq_ir.specs.declared.term.LeafView.{LeafView}
use Rattle.sq_placed.specs.Spec.declared.statement.CallInstance.{CallInstance}
use Rattle.sq_placed.specs.Spec.declared.statement.Statement.{Statement}
use Rattle.sq_placed.specs.Spec.declared.statement.Statement.TheOpen.{Statement-F}
use Rattle.sq_placed.specs.Spec.declared.statement.Statement.TheFolds.{fold-Statement}
use Rattle.sq_placed.specs.Spec.declared.body.Body.{Body}
use Rattle.sq_placed.specs.Spec.declared.body.Body.TheVariants as body
use Rattle.sq_placed.specs.Spec.declared.body.FormBody.{FormBody}
use Rattle.sq_placed.specs.declared.home.Home.{Home}
use Rattle.sq_placed.specs.declared.home.Home.TheVariants.{InPlace, Own, Held, Twin}
use Rattle.sq_placed.specs.declared.home.Homes.{Homes}
use Rattle.sq_term.specs.declared.context.Context.{Context}
use Rattle.sq_term.specs.declared.context.Move.{Move}
use Rattle.sq_placed.specs.Seats.{Seat, SeatedArg}

-- two lists item by item
pub data Each {A B : Type 0} (R : A → B → Type 0) : List A → List B → Type 0 where
  none : Each R [] []
  more : {x : A} {y : B} {xs : List A} {ys : List B} → R x y → Each R xs ys → Each R (x ∷ xs) (y ∷ ys)

-- the number has this value under these turns, whatever the node in force
pub record IsNumber (s : Setting) (turns : List ℕ) (x : Num) (k : ℕ) : Type 0 where
  pub value : (level : ℕ) (nodes : ℕ → ℕ)
      → value_of s x (record { turns = turns; level = level; nodes = nodes }) ≡ pos k

abbrev pub seat_at : Setting → Env → LeafView → (bytes : ℕ) → Seat
seat_at s env v k =
    record {
      node = env.nodes (s.level v.slot.buffer);
      view =
          record { at = s.offset v.slot.buffer + k; elem = v.elem; extents = v.extents; strides = v.strides };
    }

-- the view stands there, in a buffer of this level or one above
pub record IsSeat (s : Setting) (env : Env) (level : ℕ) (v : LeafView) (q : Seat) : Type 0 where
  pub bytes : ℕ
  pub number : IsNumber s env.turns v.slot.at bytes
  pub is : q ≡ seat_at s env v bytes
  pub above : s.level v.slot.buffer ≤ level

pub record IsSeated (s : Setting) (env : Env) (level : ℕ) (m : Move) (l : SeatedArg) : Type 0 where
  pub mode : m.mode ≡ l.passed.argument.mode
  pub gathers : m.gathers ≡ l.passed.gathers
  pub home : m.home ≡ l.passed.home
  pub outside : IsSeat s env level m.outside l.outside
  pub own : IsSeat s env level m.own l.own

-- Where lower calls go, from a form of this level at this node: to a child of the node in force, or that child is the
-- node in force, round which no spread map may be made and no same-level call.
pub data Goes (s : Setting) (env : Env) (level node child : ℕ) (inside same : Bool) : Option Num → Type 0 where
  to_child : (k : Num) → env.level ≡ level → value_of s k env ≡ pos child
      → Goes s env level node child inside same (Some k)
  entered : env.level ≡ suc level → env.nodes (suc level) ≡ s.child node child → inside ≡ true → same ≡ false
      → Goes s env level node child inside same None

-- the statement, which has same-level calls in it or not, is begun for the k-th time; a spread map stands round it or
-- not
pub record Stands (s : Setting) (env : Env) (level : ℕ) (c : Context) (inside same : Bool) (k node child : ℕ)
    (seats : List Seat) (path : List ℕ) : Type 0 where
  pub ordinal : IsNumber s env.turns c.ordinal k
  pub goes : Goes s env level node child inside same c.child
  pub node_is : env.nodes level ≡ node
  pub views : Each (IsSeat s env level) c.views seats
  pub numbers : Each (IsNumber s env.turns) c.path path

-- ---- the levels of buffers and of forms

-- a home's buffers are of this level
abbrev pub IsOf : Setting → ℕ → Home → Type 0
IsOf s level InPlace = Unit {0}
IsOf s level (Own b) = s.level b ≡ level
IsOf s level (Held b loops) = s.level b ≡ level
IsOf s level (Twin b c) = (s.level b ≡ level) × (s.level c ≡ level)

abbrev pub AreOf : Setting → ℕ → List Home → Type 0
AreOf s level [] = Unit {0}
AreOf s level (h ∷ hs) = IsOf s level h × AreOf s level hs

abbrev pub LocalsOf : Setting → ℕ → List ℕ → Type 0
LocalsOf s level [] = Unit {0}
LocalsOf s level (b ∷ bs) = (s.level b ≡ level) × LocalsOf s level bs

abbrev pub below : (lower : Bool) → ℕ → ℕ
below lower level = if lower then suc level else level

-- the forms that statements call, each with whether it stands at the next level
abbrev pub calls_in_rows : (lower : Bool) → List CallInstance → List (Bool × ℕ)
calls_in_rows lower [] = []
calls_in_rows lower (r ∷ rest) = (lower, r.form) ∷ calls_in_rows lower rest

abbrev pub all_calls : List (List (Bool × ℕ)) → List (Bool × ℕ)
all_calls [] = []
all_calls (x ∷ xs) = x ++ all_calls xs

abbrev pub calls_step : Statement-F (List (Bool × ℕ)) → List (Bool × ℕ)
calls_step (Statement-F.Call lower instances) = calls_in_rows lower instances
calls_step (Statement-F.Map place m counts starts parts) = all_calls parts

abbrev pub calls_in : Statement → List (Bool × ℕ)
calls_in = fold-Statement (List (Bool × ℕ)) calls_step

abbrev pub calls_in_all : List Statement → List (Bool × ℕ)
calls_in_all [] = []
calls_in_all (x ∷ xs) = calls_in x ++ calls_in_all xs

abbrev pub calls_of : Body → List (Bool × ℕ)
calls_of (body.Leaf code) = []
calls_of (body.Inner list) = calls_in_all list

-- these calls lead from this level to the callee's
abbrev pub AreLevel : (level : ℕ → ℕ) → (at : ℕ) → List (Bool × ℕ) → Type 0
AreLevel level at [] = Unit {0}
AreLevel level at (p ∷ ps) = (level p.1 ≡ below p.0 at) × AreLevel level at ps

-- each form has a level: that of its buffers, and its callees' is the same or the next
pub record AreLeveled (s : Setting) (bodies : ℕ → FormBody) (homes : ℕ → Homes) (level : ℕ → ℕ) : Type 0 where
  pub params : (f : ℕ) → AreOf s (level f) (homes f).params
  pub locals : (f : ℕ) → LocalsOf s (level f) (homes f).locals
  pub calls : (f : ℕ) → AreLevel level (level f) (calls_of (bodies f).body)
