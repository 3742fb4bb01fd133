-- What hoisting chooses: the arguments that a form has in place stay there, as without hoisting; and each argument of
-- a call in plain loops leaves those that it may leave. No loop overlaps its transfers.
use Rattle.std.specs.Prelude.{◌≡◌, ℕ, suc, ◌==◌, false, List, [], ◌∷◌, ◌++◌, Option, Some, None, if◌then◌else◌}
use Rattle.sq_spec.specs.Forms.declared.form.Form.{Form}
use Rattle.sq_spec.specs.declared.body.Body.{Body}
use Rattle.sq_spec.specs.declared.body.Body.TheVariants as body
use Rattle.sq_spec.specs.declared.body.FormBody.{FormBody}
use Rattle.sq_spec.specs.declared.resolved.Resolved.{Resolved}
use Rattle.sq_spec.specs.Bodies.{body_of}
use Rattle.sq_chosen.specs.declared.choice.Choice.{Choice}
use Rattle.sq_chosen.specs.Forms.{bodies_of}
use Rattle.sq_hoist.specs.declared.sites.Site.{Site}
use Rattle.sq_hoist.specs.Loops.{sites}

-- ---- the calls of a program that stand in plain loops

abbrev pub body_sites : (form : ℕ) → Body → List Site
body_sites form (body.Leaf code) = []
body_sites form (body.Inner list) = sites form list

-- of these forms, from the k-th on
abbrev pub sites_from : (k : ℕ) → List FormBody → List Site
sites_from k [] = []
sites_from k (b ∷ bs) = body_sites k b.body ++ sites_from (suc k) bs

-- by the number of the form in which they stand, and in it in text order
abbrev pub sites_of : Resolved → List Site
sites_of r = sites_from 0 (bodies_of r)

-- what a form does, by its number
abbrev pub body_at : Resolved → ℕ → FormBody
body_at r k = body_of r.typed.now.tasks r.mapping.now.instances r.found.entries k

-- ---- choices

-- what is found at the call of a form: a form is reached from one call, so there is one at most
abbrev pub find_leaves : List Site → (form : ℕ) → Option (List ℕ)
find_leaves [] form = None
find_leaves (s ∷ ss) form = if s.form == form then Some s.leaves else find_leaves ss form

abbrev pub leaves_or : Option (List ℕ) → List ℕ
leaves_or None = []
leaves_or (Some leaves) = leaves

abbrev pub choice_of : Option (List ℕ) → Form → Choice
choice_of found f = record { in_place = f.in_place; leaves = leaves_or found; overlaps = false }

-- of the forms from the k-th on
abbrev pub choices_from : (ℕ → Option (List ℕ)) → (k : ℕ) → List Form → List Choice
choices_from found k [] = []
choices_from found k (f ∷ fs) = choice_of (found k) f ∷ choices_from found (suc k) fs

-- of all forms
abbrev pub hoisted : Resolved → List Choice
hoisted r = choices_from (find_leaves (sites_of r)) 0 r.forms

-- ---- the same, looked up in a table

abbrev pub or_else : Option (List ℕ) → Option (List ℕ) → Option (List ℕ)
or_else None found = found
or_else (Some leaves) found = Some leaves

-- what a table says of each form, or else what is found among the rest, is what is found among all of these
pub record AreLeaves (rest all : List Site) (table : ℕ → Option (List ℕ)) : Type 0 where
  pub each : (form : ℕ) → or_else (table form) (find_leaves rest form) ≡ find_leaves all form
