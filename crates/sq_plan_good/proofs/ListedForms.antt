-- The calls that the tables of each form begin are those that are listed for nodes.
use Rattle.std.proofs.Common.{◌≡◌, Some, sym, ap, subst, ◌∙◌}
use Rattle.sq_mapping.specs.declared.mapping.Instance.{Instance}
use Rattle.sq_forms.specs.declared.form.Form.{Form}
use Rattle.sq_forms.specs.Resolving.{with_locals}
use Rattle.sq_form_laws.proofs.AnswerHold.{forms_are_found}
use Rattle.sq_spec_laws.specs.Needs.{reached_from}
use Rattle.sq_term.specs.Terms.{body_in}
use Rattle.sq_term.specs.Stands.{Each}
use Rattle.sq_draft_laws.specs.Homes.Chosen.Forms.{bodies_of}
use Rattle.sq_draft_laws.proofs.Found.{found_plain}
use Rattle.sq_draft_laws.specs.Homes.Begun.{calls_of}
use Rattle.sq_plan_good.specs.Listed.{IsListed, CallsAreListed}
use Rattle.sq_plan_good.proofs.Near.{walk, runs_at}
use Rattle.sq_plan_good.proofs.Listing.{form_listed}

some_same : {A : Type 0} (x y : A) → Some x ≡ Some y → x ≡ y
some_same x y h = cc h

pub calls_are_listed : CallsAreListed
calls_are_listed r w k f there =
    let e = forms_are_found r.typed.now.tasks r.mapping.now (walk r w) w.through k f there in
    let its = runs_at r w k e.found e.there in
    let p = found_plain r.typed.now r.machine.now.levels r.mapping.now w.read (walk r w) w.through k e.found e.there in
    let same_instance : its.fits.instance ≡ p.instance = some_same its.fits.instance p.instance (sym its.fits.there ∙ p.there) in
    let level : its.fits.instance.level ≡ e.found.1.level = ap (λ (x : Instance). x.level) same_instance ∙ sym p.level in
    let is : with_locals e.found.1 its.ran.scope.locals ≡ f = some_same _ f (sym its.ran.kept ∙ there) in
    subst (λ (g : Form). Each (IsListed r.forms k g) (reached_from r.typed.now.tasks r.mapping.now.instances k g)
    (calls_of (body_in (bodies_of r) k).body)) is (form_listed r w k e.found e.there its level)
