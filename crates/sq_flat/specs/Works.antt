-- The work of forms by their codes, and what it is to follow its meaning.
use Rattle.std.specs.Prelude.{◌≡◌, ℕ, List, map, length, slice_get, Option, Some, None, Result, Ok, Err, reverse}
use Rattle.sq_ast.specs.declared.program.Variant.{Variant}
use Rattle.sq_spec.specs.Mappings.declared.mapping.Instance.{Instance}
use Rattle.sq_rect.specs.declared.view.View.{View}
use Rattle.sq_leaf.specs.Source.{Arrays}
use Rattle.sq_leaf.specs.Views.{Shows, shape_of}
use Rattle.sq_spec.specs.declared.statement.Statement.{Statement}
use Rattle.sq_spec.specs.declared.statement.LoopKind.{LoopKind}
use Rattle.sq_spec.specs.declared.statement.LoopKind.TheVariants as loop_kind
use Rattle.sq_spec.specs.declared.body.FormBody.{FormBody}
use Rattle.sq_spec.specs.Forms.Steps.{Forms}
use Rattle.sq_spec.specs.StatementsWork.{all_work, statement_work}
use Rattle.sq_spec.specs.Bodies.{no_body, body_of, numbered_work}
use Rattle.sq_work.specs.InTurn.{gathering}
use Rattle.sq_work.specs.Work.{Work}
use Rattle.sq_work.specs.Meaning.{Outcome}
use Rattle.sq_flat.specs.declared.form.FormCode.{FormCode}
use Rattle.sq_flat.specs.declared.form.End.{End}
use Rattle.sq_flat.specs.declared.form.End.TheVariants.{Trapped, NoMemory}

-- callee: the work of a form by its number; statements that are begun for the k-th time
abbrev pub list_work : (ℕ → Work) → List Statement → ℕ → Work
list_work callee list = all_work (map (statement_work callee) list)

-- an iteration of a map, whose body does this
abbrev pub turn_of : LoopKind → (Arrays → Outcome) → Arrays → Outcome
turn_of loop_kind.Sequential f = f
turn_of loop_kind.Parallel f = f
turn_of (loop_kind.Reduction r) f = gathering r f

-- ---- forms

-- what a form does, over arrays of the shapes of its views
abbrev pub body_in : Option FormCode → FormBody
body_in None = no_body
body_in (Some f) = record { arrays = map shape_of f.views; body = f.body }

-- by its number; nothing behind the last one
abbrev pub bodies_of : List FormCode → ℕ → FormBody
bodies_of forms k = body_in (slice_get forms k)

-- the work of a form, round which no more than n forms are called within one another
abbrev pub form_work : List FormCode → ℕ → ℕ → Work
form_work forms = numbered_work (bodies_of forms)

-- codes for each form that was found
pub record AreCodes (variants : List Variant) (instances : List Instance) (found : Forms) (codes : List FormCode) : Type 0 where
  pub many : length codes ≡ length found
  pub bodies : bodies_of codes ≡ body_of variants instances found

-- ---- following a meaning

-- the memory shows the arrays that are meant, or the trap with its path is that which is meant
abbrev pub Follows : List View → List ℕ → Result (Unit {0}) End → Outcome → Type 0
Follows vs bytes (Ok x) (Ok s) = Shows vs bytes s
Follows vs bytes (Ok x) (Err y) = ⊥
Follows vs bytes (Err NoMemory) outcome = Unit {0}
Follows vs bytes (Err (Trapped x)) (Ok s) = ⊥
Follows vs bytes (Err (Trapped x)) (Err y) = (x.trap ≡ y.trap) × (reverse x.turns.items ≡ y.path)
