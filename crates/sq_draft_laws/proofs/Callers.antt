-- Each row of a form's tables calls a form that has this one for its caller, with as many arguments as it has flags.
use Rattle.std.proofs.Common.{◌≡◌, ℕ, suc, ◌+◌, Bool, List, [], ◌∷◌, length, slice_get, Option, Some, None}
use Rattle.std.proofs.Common.{refl, sym, ap, subst, ◌∙◌}
use Rattle.sq_text.specs.Names.{Bytes}
use Rattle.sq_ast.specs.declared.stmt.Call.{Call}
use Rattle.sq_ast.specs.declared.program.Body.{Body as Text}
use Rattle.sq_ast.specs.declared.program.Body.TheVariants as text
use Rattle.sq_ast.specs.declared.program.Variant.{Variant}
use Rattle.sq_mapping.specs.declared.mapping.Instance.{Instance}
use Rattle.sq_blocks.specs.declared.argument.Argument.{Argument}
use Rattle.sq_forms.specs.declared.form.Caller.{Caller}
use Rattle.sq_forms.specs.declared.form.Form.{Form}
use Rattle.sq_forms.specs.declared.form.Found.{Found}
use Rattle.sq_forms.specs.Calls.{flags_from}
use Rattle.sq_forms.specs.Decls.{Scope}
use Rattle.sq_forms.specs.Resolving.{Resolving, frame_in, with_locals}
use Rattle.sq_forms.specs.Steps.{Called, Key}
use Rattle.sq_forms.specs.Worlds.{Frame}
use Rattle.sq_form_laws.specs.Reached.{body_calls, steps_of, form_number}
use Rattle.sq_form_laws.specs.Reached.{calls_in as calls_among}
use Rattle.sq_form_laws.specs.Served.{FormRuns}
use Rattle.sq_form_laws.proofs.FitHold.{forms_run}
use Rattle.sq_form_laws.proofs.RanHold.{as_many_forms}
use Rattle.sq_spec.specs.declared.statement.CallInstance.{CallInstance}
use Rattle.sq_spec.specs.declared.body.FormBody.{FormBody}
use Rattle.sq_spec.specs.declared.resolved.Resolved.{Resolved}
use Rattle.sq_spec.specs.Bodies.{body_of, found_body, instance_body, variant_body, scope_body, declared_body, what_runs}
use Rattle.sq_spec.specs.Statements.{tables, elems_of}
use Rattle.sq_spec.specs.Works.{shapes_of}
use Rattle.sq_homes.specs.SpecLaws.TableRows.{Table, tables_in, RowIsReached}
use Rattle.sq_homes.proofs.SpecLaws.TableRowsHold.{rows_are_reached}
use Rattle.sq_term.specs.Terms.{body_in}
use Rattle.sq_program_laws.specs.TermLaws.Orders.{EachOf}
use Rattle.sq_homes.specs.Chosen.Forms.{bodies_of}
use Rattle.sq_draft_laws.specs.Choosing.{Walked}
use Rattle.sq_draft_laws.proofs.Programs.{bodies_are_tables}
use Rattle.sq_draft_laws.proofs.Rounds.{each_of, BodySo}

flags_many : (same : Bool) (all : List Argument) (k : ℕ) (xs : List Argument)
    → length (flags_from same all k xs) ≡ length xs
flags_many same all k [] = refl
flags_many same all k (x ∷ xs) = ap suc (flags_many same all (k + 1) xs)

module _ (r : Resolved) (w : Walked r) where
  abbrev pub walk : Resolving
  walk = record { found = r.found.entries; forms = r.forms; uses = r.uses }

  abbrev variants : List Variant
  variants = r.typed.now.tasks

  abbrev instances : List Instance
  instances = r.mapping.now.instances

  pub runs_at : (k : ℕ) (form : Key × Found) → slice_get r.found.entries k ≡ Some form
      → FormRuns r.typed.now r.mapping.now walk k form.1
  runs_at k form there =
      forms_run r.typed.now r.machine.now.levels r.mapping.now w.faultless w.read walk w.through k form there

  -- a row of the k-th form's tables
  pub record RowIs (k : ℕ) (q : CallInstance) : Type 0 where
    pub form : Form
    pub there : slice_get r.forms q.form ≡ Some form
    pub caller : Caller
    pub called : form.caller ≡ Some caller
    pub from : caller.form ≡ k
    pub flags : length form.in_place ≡ length q.args

  module _ (k : ℕ) (form : Key × Found) (there : slice_get r.found.entries k ≡ Some form)
      (its : FormRuns r.typed.now r.mapping.now walk k form.1) where
    abbrev frame : Frame
    frame = frame_in variants instances its.fits.instance k form.1

    abbrev scope : Scope
    scope = its.ran.scope

    row_is : (lower : Bool) (reduced : Option Bytes) (c : Call) (q : CallInstance)
        → RowIsReached frame scope.names (body_calls its.fits.variant.body)
        (calls_among (steps_of variants instances its.fits.instance its.fits.variant k form.1 scope)) r.found.entries
        reduced c lower q
        → RowIs k q
    row_is lower reduced c q row =
        let callee = its.ran.callees row.index row.call row.there in
        let runs = runs_at (form_number r.found.entries row.call.key) callee.form callee.there in
        let args = row.reached.arguments in
        record {
          form = with_locals callee.form.1 runs.ran.scope.locals;
          there = ap (slice_get r.forms) row.form ∙ runs.ran.kept;
          caller = record { form = k; call = row.reached.site.call };
          called = callee.is.caller ∙ ap (λ (d : Called). d.form.caller) row.reached.is;
          from = refl;
          flags = ap length callee.is.in_place ∙ ap (λ (d : Called). length d.form.in_place) row.reached.is
              ∙ flags_many _ args 0 args ∙ ap length (sym row.args);
        }

    text_so : (t : Text) → its.fits.variant.body ≡ t
        → BodySo (RowIs k) (what_runs r.found.entries frame its.fits.variant t scope)
    text_so (text.Leaf list) e = tt
    text_so (text.Inner list) e =
        let own = tables r.found.entries frame scope.names (elems_of its.fits.variant scope) scope.numbers list in
        each_of (λ (t : Table). EachOf (RowIs k) t.times) (tables_in own None) (λ i t g.
        each_of (RowIs k) t.times (λ j q h.
        let of_text = rows_are_reached variants r.mapping.now walk w.through k form its.fits.instance its.fits.variant
        its.fits.begun there its.fits.there its.fits.runs its.fits.binds its.ran list e i t g in
        row_is t.lower of_text.pair.0 of_text.pair.1 q (of_text.reached.rows j q h)))

    pub body_is : body_of variants instances r.found.entries k
        ≡ record {
          arrays = shapes_of its.fits.variant form.1 scope;
          body = what_runs r.found.entries frame its.fits.variant its.fits.variant.body scope;
        }
    body_is =
        ap (found_body r.found.entries variants instances k) there
        ∙ ap (instance_body r.found.entries variants instances k form.1) its.fits.there
        ∙ ap (variant_body r.found.entries variants instances its.fits.instance k form.1) its.fits.runs
        ∙ ap (scope_body r.found.entries frame its.fits.instance its.fits.variant form.1) its.fits.binds
        ∙ ap (declared_body r.found.entries frame its.fits.variant form.1) its.ran.declared

    form_so : BodySo (RowIs k) (body_of variants instances r.found.entries k).body
    form_so = subst (λ (x : FormBody). BodySo (RowIs k) x.body) (sym body_is)
        (text_so its.fits.variant.body refl)

  rows_at : (k : ℕ) (o : Option (Key × Found)) → slice_get r.found.entries k ≡ o
      → BodySo (RowIs k) (body_of variants instances r.found.entries k).body
  rows_at k (Some form) there = form_so k form there (runs_at k form there)
  rows_at k None there =
      subst (λ (x : FormBody). BodySo (RowIs k) x.body)
      (sym (ap (found_body r.found.entries variants instances k) there)) tt

  pub rows_are : (k : ℕ) → BodySo (RowIs k) (body_in (bodies_of r) k).body
  rows_are k =
      subst (λ (x : FormBody). BodySo (RowIs k) x.body)
      (sym (bodies_are_tables as_many_forms r k)) (rows_at k (slice_get r.found.entries k) refl)
