-- The calls that tables begin, and those that are listed for the nodes at which forms run.
use Rattle.std.specs.Prelude.{◌≡◌, ℕ, List, length, Some, slice_get}
use Rattle.sq_forms.specs.declared.form.Form.{Form}
use Rattle.sq_spec.specs.declared.resolved.Resolved.{Resolved}
use Rattle.sq_spec_laws.specs.Needs.{Reached, reached_from}
use Rattle.sq_term.specs.Stands.{Each, below}
use Rattle.sq_term.specs.Terms.{body_in}
use Rattle.sq_draft_laws.specs.Homes.Chosen.Forms.{bodies_of}
use Rattle.sq_draft_laws.specs.Choosing.{Walked}
use Rattle.sq_draft_laws.specs.Homes.Begun.{Begun, calls_of}

-- The row of a call names the form that it reaches from the k-th one, and no other form is reached so.
pub record IsListed (forms : List Form) (k : ℕ) (from : Form) (r : Reached) (d : Begun) : Type 0 where
  pub to : Form
  pub there : slice_get forms d.row.form ≡ Some to
  pub caller : to.caller ≡ Some (record { form = k; call = r.call })
  pub extents : to.extents ≡ r.extents
  pub in_place : to.in_place ≡ r.in_place
  pub round : d.turn ≡ r.turn
  pub many : length d.row.args ≡ length r.in_place
  pub level : to.level ≡ below d.lower from.level
  pub only : (j : ℕ) (g : Form) → slice_get forms j ≡ Some g → g.caller ≡ Some (record { form = k; call = r.call })
      → g.extents ≡ r.extents → g.in_place ≡ r.in_place → j ≡ d.row.form

-- They are the same calls, in the same order.
abbrev pub CallsAreListed : Type 0
CallsAreListed = (r : Resolved) → Walked r → (k : ℕ) (f : Form) → slice_get r.forms k ≡ Some f
    → Each (IsListed r.forms k f) (reached_from r.typed.now.tasks r.mapping.now.instances k f)
    (calls_of (body_in (bodies_of r) k).body)
