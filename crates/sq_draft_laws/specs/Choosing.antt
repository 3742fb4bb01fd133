-- Choices that the laws of drafts speak of: arguments may leave loops, and loops may overlap their transfers; and the
-- memories that a draft is placed in.
use Rattle.std.specs.Prelude.{◌≡◌, ℕ, ◌<◌, true, false, List, length, get_or, slice_get, Some}
use Rattle.sq_machfile.specs.declared.level.Level.{Level}
use Rattle.sq_forms.specs.declared.form.Form.{Form}
use Rattle.sq_ir.specs.declared.plan.PlanNode.{PlanNode}
use Rattle.sq_ir.specs.Machines.{AreNodes}
use Rattle.sq_ir.specs.Written.{Setting}
use Rattle.sq_ir.specs.Plans.{placed}
use Rattle.sq_spec.specs.declared.resolved.Resolved.{Resolved}
use Rattle.sq_spec.specs.Walked.{IsWalked}
use Rattle.sq_placed.specs.Pipes.{NonePiped, PipesStand}
use Rattle.sq_term.specs.Terms.{body_in, homes_in}
use Rattle.sq_program_laws.specs.TermLaws.Leaves.{Left, left_of, BodyLeaves}
use Rattle.sq_program_laws.specs.TermLaws.Overlapping.{BodyOverlaps, OverlapsStand}
use Rattle.sq_homes.specs.Chosen.declared.choice.Choice.{Choice}
use Rattle.sq_homes.specs.Chosen.Arrays.{left_by}
use Rattle.sq_homes.specs.Chosen.Forms.{bodies_of, choice_in}
use Rattle.sq_homes.specs.Drafts.{homes_of, buffers_of}

-- what is known of the forms of a program that was resolved
abbrev pub Walked : Resolved → Type 0
Walked r = IsWalked r.typed.now r.machine.now.levels r.mapping.now r.found.entries r.forms r.uses

-- In place are only those that the form was found with so, and these leave no loop.
pub record IsChosenFor (f : Form) (c : Choice) : Type 0 where
  pub flags : length c.in_place ≡ length f.in_place
  pub in_place : (i : ℕ) → get_or c.in_place i false ≡ true → slice_get f.in_place i ≡ Some true
  pub moved : (i : ℕ) → 0 < left_by c i → get_or c.in_place i false ≡ false

-- how many loops the parameters of a draft's forms leave
abbrev pub left_in : Resolved → List Choice → Left
left_in r choices = left_of (homes_in (homes_of r choices))

-- The entry's parameters leave no loop, and it is called in none. Those of a form that is called leave plain loops round
-- its call, which have iterations each time that they are begun, and the call has no other form. A loop that overlaps
-- its transfers is a `mapseq` or a spread `mappar` in which the lower call of such a form stands alone, with a row for
-- each iteration; none of the form's parameters is in place.
pub record MayBeChosen (r : Resolved) (choices : List Choice) : Type 0 where
  pub each : (k : ℕ) (f : Form) → slice_get r.forms k ≡ Some f → IsChosenFor f (choice_in choices k)
  pub entry : (i : ℕ) → left_in r choices 0 i ≡ 0
  pub first : (choice_in choices 0).overlaps ≡ false
  pub loops : (k : ℕ) → BodyLeaves (left_in r choices) (body_in (bodies_of r) k).body
  pub calls : (k : ℕ) → BodyOverlaps (homes_in (homes_of r choices)) (body_in (bodies_of r) k).body
  pub stand : PipesStand (body_in (bodies_of r)) (homes_in (homes_of r choices))
  pub doubled : (k : ℕ) → (choice_in choices k).overlaps ≡ true → (i : ℕ)
      → get_or (choice_in choices k).in_place i false ≡ false

-- Then a form's buffers are those of one set, or of two where its loop overlaps.
abbrev pub ChosenStand : Type 0
ChosenStand = (r : Resolved) (choices : List Choice) → MayBeChosen r choices
    → OverlapsStand (body_in (bodies_of r)) (homes_in (homes_of r choices))

-- ---- where no loop overlaps its transfers

abbrev pub NoneOverlaps : List Choice → Type 0
NoneOverlaps choices = (k : ℕ) → (choice_in choices k).overlaps ≡ false

-- no form's homes say so
abbrev pub NonePipes : Type 0
NonePipes = (r : Resolved) (choices : List Choice) → NoneOverlaps choices → NonePiped (homes_in (homes_of r choices))

-- ---- memories

-- the memories of a machine of these levels
pub record AreMemories (levels : List Level) (nodes : List PlanNode) : Type 0 where
  pub are : AreNodes nodes
  pub many : are.levels ≡ length levels

-- the buffers of a draft in them, with these offsets
abbrev pub setting_of : Resolved → List Choice → List PlanNode → (offset : ℕ → ℕ) → Setting
setting_of r choices nodes offset = placed (buffers_of r choices) nodes offset
