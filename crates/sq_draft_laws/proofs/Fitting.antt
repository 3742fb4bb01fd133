-- The homes of a draft fit its forms.
use Rattle.std.proofs.Common.{◌≡◌, ℕ, ◌-◌, true, List, length, Some, ap, ◌∙◌, arith}
use Rattle.std.specs.Prelude.{slice_get}
use Rattle.std.proofs.lemmas.List.FromFn.{length-range_with_len}
use Rattle.sq_forms.specs.declared.form.Found.{Found}
use Rattle.sq_forms.specs.Resolving.{with_locals}
use Rattle.sq_forms.specs.Steps.{Key}
use Rattle.sq_spec.specs.declared.resolved.Resolved.{Resolved}
use Rattle.sq_placed.specs.declared.home.Home.{Home}
use Rattle.sq_placed.specs.declared.home.Home.TheVariants.{InPlace}
use Rattle.sq_placed.specs.declared.home.Homes.{Homes}
use Rattle.sq_term.specs.Terms.{homes_in}
use Rattle.sq_program_laws.specs.Homes.{AreHomes}
use Rattle.sq_homes.specs.Chosen.declared.choice.Choice.{Choice}
use Rattle.sq_homes.specs.Chosen.Forms.{choice_in}
use Rattle.sq_homes.specs.Drafts.{homes_of}
use Rattle.sq_homes.specs.Chosen.Arrays.{locals_count}
use Rattle.sq_homes.specs.Numbering.{local_base}
use Rattle.sq_draft_laws.specs.Choosing.{Walked, MayBeChosen}
use Rattle.sq_draft_laws.specs.HomesFit.{HomesFitForms}
use Rattle.sq_draft_laws.proofs.Found.{found_plain}
use Rattle.sq_draft_laws.proofs.Forms.{body_at, resolving, run_of, body_there, arrays_of_form}
use Rattle.sq_draft_laws.proofs.Numbers.{first_of}
use Rattle.sq_draft_laws.proofs.ArrayPlaces.{HomeIs, stays, owns, owns_two, leaves, home_by}
use Rattle.sq_draft_laws.proofs.Hoisted.{IsForm, is_form, params_many, param_is}

-- ---- of a draft

module _ (r : Resolved) (w : Walked r) (choices : List Choice) (are : MayBeChosen r choices) (k : ℕ) (form : Key × Found)
    (there : slice_get r.found.entries k ≡ Some form) where
  abbrev homes : Homes
  homes = homes_in (homes_of r choices) k

  abbrev c : Choice
  c = choice_in choices k

  abbrev its : IsForm r choices are k (body_at r k)
  its = is_form r choices are k (body_at r k) (body_there r w k form there)

  found_in_place : (i : ℕ) → slice_get homes.params i ≡ Some InPlace → slice_get form.1.in_place i ≡ Some true
  found_in_place i e =
      let p = param_is r choices are k (body_at r k) its i InPlace e in
      by p.is (home_by c its.chosen.moved (first_of r choices k) i)
    where
      by : {x : Home} → x ≡ InPlace → HomeIs c its.chosen.moved (first_of r choices k) i x
          → slice_get form.1.in_place i ≡ Some true
      by is (stays f l) = (are.each k (with_locals form.1 (run_of r w k form there).ran.scope.locals)
          (run_of r w k form there).ran.kept).in_place i f
      by is (owns f l o) = absurd (cc is)
      by is (owns_two f l o) = absurd (cc is)
      by is (leaves n f l) = absurd (cc is)

  pub homes_fit : AreHomes form.1 (body_at r k).arrays homes
  homes_fit =
      let run = run_of r w k form there in
      let own = are.each k (with_locals form.1 run.ran.scope.locals) run.ran.kept in
      let plainly = found_plain r.typed.now r.machine.now.levels r.mapping.now w.read (resolving r) w.through k form
      there in
      let a = arrays_of_form r w k form there in
      let flags : length c.in_place ≡ length form.1.extents = own.flags ∙ plainly.flags in
      let params : length homes.params ≡ length c.in_place = params_many r choices are k (body_at r k) its in
      let locals : length homes.locals ≡ length (body_at r k).arrays - length c.in_place = ap length its.locals
      ∙ length-range_with_len (local_base (first_of r choices k) c) (locals_count (body_at r k).arrays c) in
      let all = a.many in
      record {
        params = params ∙ flags;
        locals = omega (arith, flags, params, locals, all);
        in_place = found_in_place;
      }

pub homes_fit_forms : HomesFitForms
homes_fit_forms r w choices are = homes_fit r w choices are
