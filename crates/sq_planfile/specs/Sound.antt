-- Which lines stand for a plan file: what is asked of nodes, leaves, buffers, arrays and events.
use Rattle.std.specs.Prelude.{◌≡◌, ℕ, ◌+◌, ◌*◌, ◌^◌, ◌<◌, ◌≤◌, ℤ, pos, Some, Ok, List, [], ◌∷◌, ◌++◌, length, map, ◌⊎◌}
use Rattle.std.specs.List.{All, Contains, slice_get}
use Rattle.sq_num.specs.Elements.{width}
use Rattle.sq_text.specs.declared.fault.Fault.{Fault}
use Rattle.sq_text.specs.Names.{Bytes}
use Rattle.sq_ast.specs.declared.program.Extent.{Extent}
use Rattle.sq_ast.specs.declared.program.Extent.TheVariants as extent
use Rattle.sq_ast.specs.declared.program.Decl.{Decl}
use Rattle.sq_ast.specs.declared.program.Decl.TheVariants as decl
use Rattle.sq_types.specs.Sites.{TypeFault}
use Rattle.sq_blocks.specs.Names.{Numbers, number_of}
use Rattle.sq_blocks.specs.Constants.{worth}
use Rattle.sq_ir.specs.Machines.{AreNodes}
use Rattle.sq_ir.specs.DraftLeaves.{leaves_of}
use Rattle.sq_ir.specs.Written.{Env, at_root, node_of, inside_of}
use Rattle.sq_ir.specs.Plans.{node_at, setting_of, IsBuffer, IsAllowed}
use Rattle.sq_ir.specs.declared.plan.PlanNode.{PlanNode}
use Rattle.sq_plantext.specs.declared.text.BufferLine.{BufferLine}
use Rattle.sq_plantext.specs.declared.text.LeafText.{LeafText}
use Rattle.sq_plantext.specs.declared.text.ArrayLine.{ArrayLine}
use Rattle.sq_plantext.specs.declared.text.ViewText.{ViewText}
use Rattle.sq_plantext.specs.declared.text.EventText.{EventText}
use Rattle.sq_plantext.specs.declared.text.EventText.TheVariants as event
use Rattle.sq_plantext.specs.declared.text.TermText.{TermText}
use Rattle.sq_plantext.specs.declared.text.TermText.TheOpen.{TermText-F}
use Rattle.sq_plantext.specs.declared.text.TermText.TheFolds.{rec-TermText}
use Rattle.sq_plantext.specs.declared.text.PlanText.{PlanText}
use Rattle.sq_planfile.specs.Files.{nodes_of, plan_of, draft_of, numbers_of, action_of, child_at}
use Rattle.sq_planfile.specs.Written.{names_in}

-- ---- extents

abbrev pub product : List ℕ → ℕ
product [] = 1
product (n ∷ ns) = n * product ns

-- the extents of an array within the limits
pub record AreExtents (ns : List ℕ) : Type 0 where
  pub some : 1 ≤ length ns
  pub few : length ns ≤ 3
  pub each : All (λ n. (1 ≤ n) × (n ≤ 2 ^ 24)) ns
  pub elements : product ns ≤ 2 ^ 26

-- these numbers are the extents of an array within the limits
pub record AreExtentsOf (numbers : List ℤ) : Type 0 where
  pub extents : List ℕ
  pub are : numbers ≡ map (λ n. pos n) extents
  pub within : AreExtents extents

-- ---- leaves

-- no name stands twice in the list
abbrev pub Once : List Bytes → Type 0
Once [] = Unit {0}
Once (x ∷ xs) = (¬ Contains xs x) × Once xs

-- each name that is wanted is given just once, and no other
pub record AreBound (names given : List Bytes) : Type 0 where
  pub once : Once given
  pub each : All (Contains given) names
  pub other : All (Contains names) given

abbrev pub extent_value : Numbers → Extent → ℤ
extent_value numbers (extent.Size place name) = number_of numbers name
extent_value numbers (extent.Fixed place n) = n

-- the extents of a local array have values, without a zero divisor or one that overflows, and are within the limits
pub record IsLocal (numbers : Numbers) (d : Decl) : Type 0 where
  pub of_local : (place : _) (elem : _) (name : _) (extents : _) → d ≡ decl.Local place elem name extents
      → (values : List ℤ) × (map (λ e. worth e numbers []) extents ≡ map (λ n. Ok n) values) × AreExtentsOf values

pub record IsLeafText (l : LeafText) : Type 0 where
  pub checked : (f : Fault) → TypeFault (record { tasks = l.task ∷ [] }) f → ⊥
  pub bound : AreBound (names_in l.task) (map (λ b. b.name) l.numbers)
  pub params : All (λ p. AreExtentsOf (map (extent_value (numbers_of l)) p.extents)) l.task.params
  pub locals : All (IsLocal (numbers_of l)) l.task.decls

-- ---- buffers

-- some node has its level, and it ends within 2^30 bytes
pub record IsBufferLine (nodes : List PlanNode) (b : BufferLine) : Type 0 where
  pub node : PlanNode
  pub there : Contains nodes node
  pub level : node.level ≡ b.level
  pub within : b.offset + b.size ≤ 2 ^ 30

-- ---- arrays

-- The array behind these: its name is none of theirs, and its buffer is at the root, is none of theirs and has room.
pub record IsArrayLine (buffers : List BufferLine) (before : List ArrayLine) (a : ArrayLine) : Type 0 where
  pub name : ¬ Contains (map (λ x. x.name.name) before) a.name.name
  pub mine : ¬ Contains (map (λ x. x.buffer) before) a.buffer
  pub buffer : BufferLine
  pub there : slice_get buffers a.buffer ≡ Some buffer
  pub root : buffer.level ≡ 0
  pub extents : AreExtents a.extents
  pub room : width a.elem * product a.extents ≤ buffer.size

-- each of them, where these stand before them
abbrev pub AreArrays : List BufferLine → (before arrays : List ArrayLine) → Type 0
AreArrays buffers before [] = Unit {0}
AreArrays buffers before (a ∷ later) = IsArrayLine buffers before a × AreArrays buffers (before ++ a ∷ []) later

-- ---- events

-- a view's lists have one length of 1 to 3, and numbers of 32 bits
pub record IsViewText (v : ViewText) : Type 0 where
  pub some : 1 ≤ length v.extents
  pub few : length v.extents ≤ 3
  pub alike : length v.strides ≡ length v.extents
  pub extents : All (λ n. n < 2 ^ 32) v.extents
  pub strides : All (λ n. n < 2 ^ 32) v.strides

abbrev pub AreViewTexts : EventText → Type 0
AreViewTexts (event.Run leaf views path) = All IsViewText views
AreViewTexts _ = Unit {0}

pub record IsEventText (x : PlanText) (env : Env) (buffers : List ℕ) (e : EventText) : Type 0 where
  pub views : AreViewTexts e
  pub allowed : IsAllowed (leaves_of (draft_of x)) (setting_of (plan_of x)) env buffers (action_of e)

-- The node of a scope is the one in force or a child of it, and the buffers that it names are there, at its level.
pub record IsScope (x : PlanText) (env : Env) (node : ℕ) (buffers : List ℕ) : Type 0 where
  pub at : (node ≡ node_of env) ⊎ (((node_at (nodes_of x) (node_of env)).first_child ≤ node)
      × (node < (node_at (nodes_of x) (node_of env)).first_child + (node_at (nodes_of x) (node_of env)).children))
  pub names : All (IsBuffer (setting_of (plan_of x)) (inside_of (setting_of (plan_of x)) env (child_at (nodes_of x) (node_of env) node)).level) buffers

abbrev pub AskedOfTexts : Type 1
AskedOfTexts = Env → (buffers : List ℕ) → Type 0

abbrev pub each_part : {X : Type 0} → (X → AskedOfTexts) → List X → AskedOfTexts
each_part asked [] env bs = Unit {0}
each_part asked (t ∷ ts) env bs = asked t env bs × each_part asked ts env bs

-- where the body of a scope stands
abbrev pub inside : PlanText → Env → (node : ℕ) → Env
inside x env node = inside_of (setting_of (plan_of x)) env (child_at (nodes_of x) (node_of env) node)

abbrev pub sound_step : PlanText → (X : Type 0) → (X → TermText) → (X → AskedOfTexts) → TermText-F X → AskedOfTexts
sound_step x X text sound (TermText-F.Seq parts) env bs = each_part sound parts env bs
sound_step x X text sound (TermText-F.Par parts) env bs = each_part sound parts env bs
sound_step x X text sound (TermText-F.At place node buffers body) env bs = IsScope x env node buffers × sound body (inside x env node) (buffers ++ bs)
sound_step x X text sound (TermText-F.Act place e) env bs = IsEventText x env bs e

-- the events and scopes of a term where it stands, these buffers being in scope
abbrev pub AreEvents : PlanText → TermText → AskedOfTexts
AreEvents x = rec-TermText AskedOfTexts (sound_step x)

-- ---- files

pub record IsSound (x : PlanText) : Type 0 where
  pub nodes : AreNodes (nodes_of x)
  pub leaves : All IsLeafText x.leaves
  pub buffers : All (IsBufferLine (nodes_of x)) x.buffers
  pub arrays : AreArrays x.buffers [] x.arrays
  pub events : AreEvents x x.term at_root (map (λ a. a.buffer) x.arrays)
