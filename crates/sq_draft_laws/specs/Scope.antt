-- The buffers of actions are in scope where these stand.
use Rattle.std.specs.Prelude.{◌≡◌, ℕ, ◌<◌, List, length, get_or, slice_get, Some, None}
use Rattle.std.specs.List.{All, Contains}
use Rattle.sq_ir.specs.Written.{Setting, Env}
use Rattle.sq_ir.specs.Plans.{AskedOfActions}
use Rattle.sq_ir.specs.declared.term.LeafView.{LeafView}
use Rattle.sq_ir.specs.declared.term.Action.TheVariants as action
use Rattle.sq_spec.specs.declared.statement.CallInstance.{CallInstance}
use Rattle.sq_spec.specs.declared.statement.Statement.{Statement}
use Rattle.sq_spec.specs.declared.body.Body.TheVariants as body
use Rattle.sq_spec.specs.declared.body.FormBody.{FormBody}
use Rattle.sq_homes.specs.SpecLaws.TableRows.{Table, tables_in}
use Rattle.sq_placed.specs.declared.home.Home.TheVariants.{InPlace}
use Rattle.sq_placed.specs.Pipes.{PipesStand}
use Rattle.sq_placed.specs.declared.home.Homes.{Homes}
use Rattle.sq_program_laws.specs.PlanLaws.Seated.{IsNear}
use Rattle.sq_program_laws.specs.TermLaws.Held.{AreHeldInside}
use Rattle.sq_program_laws.specs.TermLaws.Overlapping.{OverlapsStand}

-- the view's buffer is in scope, and of the level of the node in force
pub record IsSeen (s : Setting) (env : Env) (buffers : List ℕ) (v : LeafView) : Type 0 where
  pub scope : Contains buffers v.slot.buffer
  pub level : s.level v.slot.buffer ≡ env.level

-- what `InBuffers` of sq_ir asks of scopes, and of the level of a leaf's views
abbrev pub InScope : Setting → AskedOfActions
InScope s env bs (action.CopyRow from to bytes) = Contains bs from.buffer × Contains bs to.buffer
InScope s env bs (action.FillRow to elem count value) = Contains bs to.buffer
InScope s env bs (action.AccRow op elem from to count) = Contains bs from.buffer × Contains bs to.buffer
InScope s env bs (action.Leaf code views path) = All (IsSeen s env bs) views

-- ---- homes

-- A parameter stands in place, or in a buffer round each call or round loops; in the caller's array only a call at the
-- same level has one, and what leaves loops leaves those of a call that is all that stands in them. Two buffers in turn
-- has only one of a form whose calls stand each alone in a loop that overlaps its transfers.
pub record HomesAreNear (bodies : ℕ → FormBody) (homes : ℕ → Homes) : Type 0 where
  pub near : (f : ℕ) (list : List Statement) → (bodies f).body ≡ body.Inner list
      → (i : ℕ) (t : Table) → slice_get (tables_in list None) i ≡ Some t
      → (j : ℕ) (r : CallInstance) → slice_get t.times j ≡ Some r
      → (k : ℕ) → k < length r.args → IsNear t.lower (get_or (homes r.form).params k InPlace)
  pub held : AreHeldInside bodies homes
  pub overlaps : OverlapsStand bodies homes
  pub stand : PipesStand bodies homes
