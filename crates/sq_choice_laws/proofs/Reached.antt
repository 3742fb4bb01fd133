-- No block of a call in a program's tables is empty, and each row reaches a form.
use Rattle.std.proofs.Common.{◌≡◌, ℕ, List, Option, Some, None, slice_get, refl, sym, ap, subst, ◌∙◌}
use Rattle.sq_ast.specs.declared.stmt.Stmt.{Stmt}
use Rattle.sq_ast.specs.declared.program.Body.{Body as Text}
use Rattle.sq_ast.specs.declared.program.Body.TheVariants as text
use Rattle.sq_ast.specs.declared.program.Variant.{Variant}
use Rattle.sq_forms.specs.Mappings.declared.mapping.Instance.{Instance}
use Rattle.sq_blocks.specs.declared.argument.Argument.{Argument}
use Rattle.sq_blocks.proofs.SpansInside.{are_proper}
use Rattle.sq_forms.specs.declared.form.Form.{Form}
use Rattle.sq_forms.specs.declared.form.Found.{Found}
use Rattle.sq_forms.specs.Decls.{Scope}
use Rattle.sq_forms.specs.Resolving.{Resolving, frame_in, with_locals}
use Rattle.sq_forms.specs.Steps.{Key}
use Rattle.sq_forms.specs.Worlds.{Frame}
use Rattle.sq_form_laws.specs.Reached.{form_number}
use Rattle.sq_form_laws.specs.Served.{FormRuns}
use Rattle.sq_form_laws.proofs.FitHold.{forms_run}
use Rattle.sq_spec.specs.declared.statement.CallInstance.{CallInstance}
use Rattle.sq_spec.specs.declared.statement.Statement.{Statement}
use Rattle.sq_spec.specs.declared.body.Body.{Body}
use Rattle.sq_spec.specs.declared.body.Body.TheVariants as body
use Rattle.sq_spec.specs.declared.body.FormBody.{FormBody}
use Rattle.sq_spec.specs.declared.resolved.Resolved.{Resolved}
use Rattle.sq_spec.specs.Bodies.{body_of, found_body, instance_body, variant_body, scope_body, declared_body, what_runs}
use Rattle.sq_spec.specs.Statements.{tables, elems_of}
use Rattle.sq_spec.specs.Works.{shapes_of}
use Rattle.sq_spec_laws.specs.TableRows.{Table, tables_in}
use Rattle.sq_spec_laws.proofs.TableRowsHold.{rows_are_reached}
use Rattle.sq_spec_laws.proofs.ReachedFactsHold.{reached_lie_inside}
use Rattle.sq_draft_laws.specs.TermLaws.Orders.{EachOf}
use Rattle.sq_draft_laws.specs.Choosing.{Walked}
use Rattle.sq_draft_laws.proofs.ProgramLaws.Loops.{each_from}
use Rattle.sq_choice_laws.proofs.Clears.{IsProper}

-- it reaches a form that is there
pub record HasReached (r : Resolved) (q : CallInstance) : Type 0 where
  pub form : Form
  pub there : slice_get r.forms q.form ≡ Some form

abbrev pub AllReached : Resolved → List Table → Type 0
AllReached r ts = EachOf (λ (t : Table). EachOf (HasReached r) t.times) ts

abbrev pub BodyReached : Resolved → Body → Type 0
BodyReached r (body.Leaf code) = Unit {0}
BodyReached r (body.Inner list) = AllReached r (tables_in list None)

abbrev pub Proper : List Table → Type 0
Proper ts = EachOf (λ (t : Table). EachOf IsProper t.times) ts

abbrev pub BodyProper : Body → Type 0
BodyProper (body.Leaf code) = Unit {0}
BodyProper (body.Inner list) = Proper (tables_in list None)

module _ (r : Resolved) (w : Walked r) where
  abbrev walk : Resolving
  walk = record { found = r.found.entries; forms = r.forms; uses = r.uses }

  abbrev variants : List Variant
  variants = r.typed.now.tasks

  abbrev instances : List Instance
  instances = r.mapping.now.instances

  runs_at : (k : ℕ) (form : Key × Found) → slice_get r.found.entries k ≡ Some form
      → FormRuns r.typed.now r.mapping.now walk k form.1
  runs_at k form there =
      forms_run r.typed.now r.machine.now.levels r.mapping.now w.faultless w.read walk w.through k form there

  module _ (k : ℕ) (form : Key × Found) (there : slice_get r.found.entries k ≡ Some form)
      (its : FormRuns r.typed.now r.mapping.now walk k form.1) where
    abbrev frame : Frame
    frame = frame_in variants instances its.fits.instance k form.1

    abbrev scope : Scope
    scope = its.ran.scope

    abbrev statements_of : List Stmt → List Statement
    statements_of list = tables r.found.entries frame scope.names (elems_of its.fits.variant scope) scope.numbers list

    list_proper : (list : List Stmt) → its.fits.variant.body ≡ text.Inner list
        → Proper (tables_in (statements_of list) None)
    list_proper list e = each_from (λ (t : Table). EachOf IsProper t.times) (tables_in (statements_of list) None)
        (λ i t g.
        let o = rows_are_reached variants r.mapping.now walk w.through k form its.fits.instance its.fits.variant
        its.fits.begun there its.fits.there its.fits.runs its.fits.binds its.ran list e i t g in
        each_from IsProper t.times (λ j q h. let row = o.reached.rows j q h in record {
          proper = λ m a at.
              let l = reached_lie_inside variants r.mapping.now walk k form.1 its.fits.instance its.fits.variant
              its.fits.begun its.fits.binds its.fits.many its.ran row.call row.reached m a
              (ap (λ (xs : List Argument). slice_get xs m) (sym row.args) ∙ at) in
              are_proper l.extents a.rect l.inside;
        }))

    list_reached : (list : List Stmt) → its.fits.variant.body ≡ text.Inner list
        → AllReached r (tables_in (statements_of list) None)
    list_reached list e = each_from (λ (t : Table). EachOf (HasReached r) t.times) (tables_in (statements_of list) None)
        (λ i t g.
        let o = rows_are_reached variants r.mapping.now walk w.through k form its.fits.instance its.fits.variant
        its.fits.begun there its.fits.there its.fits.runs its.fits.binds its.ran list e i t g in
        each_from (HasReached r) t.times (λ j q h.
        let row = o.reached.rows j q h in
        let callee = its.ran.callees row.index row.call row.there in
        let runs = runs_at (form_number r.found.entries row.call.key) callee.form callee.there in record {
          form = with_locals callee.form.1 runs.ran.scope.locals;
          there = ap (slice_get r.forms) row.form ∙ runs.ran.kept;
        }))

    text_reached : (t : Text) → its.fits.variant.body ≡ t
        → BodyReached r (what_runs r.found.entries frame its.fits.variant t scope)
    text_reached (text.Leaf list) e = tt
    text_reached (text.Inner list) e = list_reached list e

    text_proper : (t : Text) → its.fits.variant.body ≡ t
        → BodyProper (what_runs r.found.entries frame its.fits.variant t scope)
    text_proper (text.Leaf list) e = tt
    text_proper (text.Inner list) e = list_proper list e

    body_is : body_of variants instances r.found.entries k
        ≡ record {
          arrays = shapes_of its.fits.variant form.1 scope;
          body = what_runs r.found.entries frame its.fits.variant its.fits.variant.body scope;
        }
    body_is =
        ap (found_body r.found.entries variants instances k) there
        ∙ ap (instance_body r.found.entries variants instances k form.1) its.fits.there
        ∙ ap (variant_body r.found.entries variants instances its.fits.instance k form.1) its.fits.runs
        ∙ ap (scope_body r.found.entries frame its.fits.instance its.fits.variant form.1) its.fits.binds
        ∙ ap (declared_body r.found.entries frame its.fits.variant form.1) its.ran.declared

    form_proper : BodyProper (body_of variants instances r.found.entries k).body
    form_proper = subst (λ (x : FormBody). BodyProper x.body) (sym body_is) (text_proper its.fits.variant.body refl)

    form_reached : BodyReached r (body_of variants instances r.found.entries k).body
    form_reached =
        subst (λ (x : FormBody). BodyReached r x.body) (sym body_is) (text_reached its.fits.variant.body refl)

  reached_by : (k : ℕ) (o : Option (Key × Found)) → slice_get r.found.entries k ≡ o
      → BodyReached r (body_of variants instances r.found.entries k).body
  reached_by k (Some form) there = form_reached k form there (runs_at k form there)
  reached_by k None there =
      subst (λ (x : FormBody). BodyReached r x.body)
      (sym (ap (found_body r.found.entries variants instances k) there)) tt

  pub bodies_reached : (k : ℕ) → BodyReached r (body_of variants instances r.found.entries k).body
  bodies_reached k = reached_by k (slice_get r.found.entries k) refl

  bodies_by : (k : ℕ) (o : Option (Key × Found)) → slice_get r.found.entries k ≡ o
      → BodyProper (body_of variants instances r.found.entries k).body
  bodies_by k (Some form) there = form_proper k form there (runs_at k form there)
  bodies_by k None there =
      subst (λ (x : FormBody). BodyProper x.body)
      (sym (ap (found_body r.found.entries variants instances k) there)) tt

  -- of each form of the program
  pub bodies_proper : (k : ℕ) → BodyProper (body_of variants instances r.found.entries k).body
  bodies_proper k = bodies_by k (slice_get r.found.entries k) refl
