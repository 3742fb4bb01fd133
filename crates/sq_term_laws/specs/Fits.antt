-- What is asked of tables, homes and a machine so that a built term is well formed.
use Rattle.std.specs.Prelude.{◌≡◌, ℕ, suc, ◌+◌, ◌*◌, ◌<◌, ◌≤◌, pos, Bool, true, false, List, [], ◌∷◌, length, get_or}
use Rattle.std.specs.Prelude.{◌==◌, ◌⊎◌, Option, Some, None}
use Rattle.sq_num.specs.declared.Elem.TheVariants.{Long}
use Rattle.sq_num.specs.Elements.{IsValue}
use Rattle.sq_rect.specs.Extents.{rows_of}
use Rattle.sq_ir.specs.Leaf.declared.shape.Shape.{Shape}
use Rattle.sq_ir.specs.Written.{Setting, Env, node_of}
use Rattle.sq_ir.specs.Plans.{HasValue, IsChild}
use Rattle.sq_ir.specs.declared.num.Num.{Num}
use Rattle.sq_spec.specs.declared.statement.Statement.{Statement}
use Rattle.sq_spec.specs.declared.statement.Statement.TheOpen.{Statement-F}
use Rattle.sq_spec.specs.declared.statement.Statement.TheFolds.{rec-Statement}
use Rattle.sq_spec.specs.declared.body.Body.{Body}
use Rattle.sq_spec.specs.declared.body.Body.TheVariants as body
use Rattle.sq_spec.specs.declared.body.FormBody.{FormBody}
use Rattle.sq_placed.specs.declared.home.Home.{Home}
use Rattle.sq_placed.specs.declared.home.Home.TheVariants.{InPlace, Own, Held, Twin}
use Rattle.sq_placed.specs.declared.home.Homes.{Homes}
use Rattle.sq_term.specs.declared.context.Context.{Context}
use Rattle.sq_term.specs.Stands.{IsNumber}

-- ---- bounds

-- how often a statement is begun in one run of its form, and how many children a node has, at most
pub record Bounds : Type 0 where
  pub uses : ℕ
  pub children : ℕ

-- one more iteration for each of one more child: their number is one in 64 bits
pub record AreBounds (most : Bounds) : Type 0 where
  pub once : 1 ≤ most.uses
  pub some : 1 ≤ most.children
  pub fits : IsValue Long (pos (suc most.uses * suc most.children))

-- ---- the machine: a node is of a level

pub record IsMachine (s : Setting) (most : Bounds) (last : ℕ) (is_at : ℕ → ℕ → Type 0) : Type 0 where
  pub below : (l n c : ℕ) → is_at l n → c < s.children n → is_at (suc l) (s.child n c)
  pub some : (l n : ℕ) → is_at l n → l < last → 1 ≤ s.children n
  pub few : (l n : ℕ) → is_at l n → s.children n ≤ most.children

-- of so many nodes, with these levels
abbrev pub NodeAt : (nodes : ℕ) (level_of : ℕ → ℕ) → ℕ → ℕ → Type 0
NodeAt nodes level_of l n = (n < nodes) × (level_of n ≡ l)

-- ---- the tables of a statement

-- what is asked of a statement that is begun so many times in one run of its form
abbrev pub AskedOfStatement : Type 1
AskedOfStatement = ℕ → Type 0

abbrev pub all_parts : {X : Type 0} → (X → AskedOfStatement) → List X → AskedOfStatement
all_parts asked [] n = Unit {0}
all_parts asked (x ∷ xs) n = asked x n × all_parts asked xs n

-- counts have a row for each of so many times, or none where the map never has an iteration
abbrev pub HaveCounts : List ℕ → (times : ℕ) → Type 0
HaveCounts counts n = ((length counts == 0) ≡ true) ⊎ (n ≤ length counts)

-- The tables of a statement of a form of this level, that is begun n times: they have a row for each time; lower calls
-- are made above the last level; and the iterations of a map are numbered below how often its body is begun.
abbrev pub tabled_step : Bounds → (last level : ℕ) → (X : Type 0) → (X → Statement) → (X → AskedOfStatement)
    → Statement-F X → AskedOfStatement
tabled_step most last level X begun asked (Statement-F.Call lower times) n = (n ≤ length times)
    × (length times ≤ most.uses) × (lower ≡ true → level < last)
tabled_step most last level X begun asked (Statement-F.Map place m counts starts parts) n =
    HaveCounts counts n × ((k t : ℕ) → k < n → t < get_or counts k 0 → k < length starts) × (inner : ℕ)
    × (inner ≤ most.uses)
    × ((k t : ℕ) → k < n → t < get_or counts k 0 → get_or starts k 0 + t < inner) × all_parts asked parts inner

abbrev pub Tabled : Bounds → (last level : ℕ) → Statement → AskedOfStatement
Tabled most last level = rec-Statement AskedOfStatement (tabled_step most last level)

-- the statements of a form are begun once each
abbrev pub TabledBody : Bounds → (last level : ℕ) → Body → Type 0
TabledBody most last level (body.Leaf code) = Unit {0}
TabledBody most last level (body.Inner list) = all_parts (Tabled most last level) list 1

-- ---- buffers and shapes

-- the buffers that a call, or a loop that an argument leaves, brings into scope are there
abbrev pub IsThere : Setting → Home → Type 0
IsThere s InPlace = Unit {0}
IsThere s (Own b) = b < s.buffers
IsThere s (Held b loops) = b < s.buffers
IsThere s (Twin b c) = (b < s.buffers) × (c < s.buffers)

abbrev pub AreThere : Setting → List Home → Type 0
AreThere s [] = Unit {0}
AreThere s (h ∷ hs) = IsThere s h × AreThere s hs

abbrev pub LocalsThere : Setting → List ℕ → Type 0
LocalsThere s [] = Unit {0}
LocalsThere s (b ∷ bs) = (b < s.buffers) × LocalsThere s bs

-- their rows have a number in 64 bits
abbrev pub HaveRows : List Shape → Type 0
HaveRows [] = Unit {0}
HaveRows (x ∷ xs) = IsValue Long (pos (rows_of x.extents)) × HaveRows xs

pub record AreTabled (s : Setting) (most : Bounds) (last : ℕ) (bodies : ℕ → FormBody) (homes : ℕ → Homes)
    (level : ℕ → ℕ) : Type 0 where
  pub body : (f : ℕ) → TabledBody most last (level f) (bodies f).body
  pub rows : (f : ℕ) → HaveRows (bodies f).arrays
  pub params : (f : ℕ) → AreThere s (homes f).params
  pub locals : (f : ℕ) → LocalsThere s (homes f).locals

-- ---- contexts

-- the number has its value in 64 bits under these turns, whatever the node in force
pub record Has (s : Setting) (turns : List ℕ) (x : Num) : Type 0 where
  pub has : (level : ℕ) (nodes : ℕ → ℕ) → HasValue s x (record { turns = turns; level = level; nodes = nodes })

-- Where lower calls go, from a form of this level: to a child of the node in force, which is there if there is a level
-- below; or that child is the node in force, round which no spread map may be made and no same-level call.
pub data Way (s : Setting) (env : Env) (last level : ℕ) (inside same : Bool) : Option Num → Type 0 where
  to_child : (k : Num) → env.level ≡ level → (level < last → IsChild s env (Some k))
      → Way s env last level inside same (Some k)
  entered : env.level ≡ suc level → inside ≡ true → same ≡ false → Way s env last level inside same None

-- the statement of a form of this level, which has same-level calls in it or not, is begun for the k-th time
pub record Fits (s : Setting) (last : ℕ) (is_at : ℕ → ℕ → Type 0) (env : Env) (level : ℕ) (c : Context)
    (inside same : Bool) (k : ℕ) : Type 0 where
  pub ordinal : IsNumber s env.turns c.ordinal k
  pub has : Has s env.turns c.ordinal
  pub way : Way s env last level inside same c.child
  pub here : is_at env.level (node_of env)
