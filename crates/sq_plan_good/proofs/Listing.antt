-- The calls that tables begin are those that are listed for nodes.
use Rattle.std.proofs.Common.{◌≡◌, ℕ, suc, ◌==◌, ◌⊎◌, inl, inr, Bool, true, false, List, []}
use Rattle.std.proofs.Common.{slice_get, Some, refl, sym, ap, ap₂, subst, ◌∙◌, arith}
use Rattle.std.proofs.lemmas.Bool.Decides.{nat_tests}
use Rattle.sq_ast.specs.declared.program.Body.{Body as Text}
use Rattle.sq_ast.specs.declared.program.Body.TheVariants as text
use Rattle.sq_ast.specs.declared.program.Variant.{Variant}
use Rattle.sq_mapping.specs.declared.mapping.Instance.{Instance}
use Rattle.sq_forms.specs.declared.form.Found.{Found}
use Rattle.sq_forms.specs.declared.form.Form.{Form}
use Rattle.sq_forms.specs.Steps.{Key, Called}
use Rattle.sq_forms.specs.Worlds.{Frame}
use Rattle.sq_forms.specs.Decls.{Scope}
use Rattle.sq_forms.specs.Resolving.{frame_in, with_locals, body_steps}
use Rattle.sq_form_laws.specs.Reached.{CalleeIs, calls_in, steps_of, body_calls, form_number}
use Rattle.sq_form_laws.specs.Served.{FormRuns}
use Rattle.sq_form_laws.proofs.RanHold.{as_many_forms}
use Rattle.sq_spec.specs.declared.body.FormBody.{FormBody}
use Rattle.sq_spec.specs.declared.resolved.Resolved.{Resolved}
use Rattle.sq_spec.specs.Bodies.{what_runs, declared_body, scope_body, variant_body, instance_body, found_body, body_of}
use Rattle.sq_spec.specs.Statements.{elems_of}
use Rattle.sq_spec.specs.Works.{shapes_of}
use Rattle.sq_spec_laws.specs.Needs.{Reached, reached_by_body, reached_where, reached_with, reached_of, reached_from}
use Rattle.sq_spec_laws.specs.Needs.{frame_at, variant_for}
use Rattle.sq_term.specs.Terms.{body_in}
use Rattle.sq_term.specs.Stands.{Each, below}
use Rattle.sq_term.specs.Stands as stands
use Rattle.sq_draft_laws.specs.Homes.Chosen.Forms.{bodies_of}
use Rattle.sq_draft_laws.specs.Choosing.{Walked}
use Rattle.sq_draft_laws.proofs.Programs.{bodies_are_tables}
use Rattle.sq_draft_laws.specs.Homes.Begun.{Begun, calls_of}
use Rattle.sq_plan_good.specs.Listed.{IsListed}
use Rattle.sq_plan_good.proofs.Linked.{One, Ones, instance_in, none, more, list_linked}
use Rattle.sq_plan_good.proofs.Near.{walk, runs_at, near_calls}
use Rattle.sq_plan_good.proofs.Unique.{serving, by_instance, by_variant, number_by_key}
use Rattle.sq_forms.specs.Calls.{key_of}
use Rattle.sq_form_laws.proofs.AnswerHold.{forms_are_found as found_all}

some_same : {A : Type 0} (x y : A) → Some x ≡ Some y → x ≡ y
some_same x y h = cc h

-- of the next level exactly where the level says so
lower_is : (n m : ℕ) (v : Bool) → v ≡ (n == suc m) → (n ≡ m) ⊎ (n ≡ suc m) → n ≡ below v m
lower_is n m true e (inl l) = let z : true ≡ (n == suc m) = e in absurd (grind (arith, nat_tests, z, l))
lower_is n m true e (inr l) = l
lower_is n m false e (inl l) = l
lower_is n m false e (inr l) = let z : false ≡ (n == suc m) = e in absurd (grind (arith, nat_tests, z, l))

module _ (r : Resolved) (w : Walked r) where
  abbrev variants : List Variant
  variants = r.typed.now.tasks

  abbrev instances : List Instance
  instances = r.mapping.now.instances

  module _ (k : ℕ) (form : Key × Found) (there : slice_get r.found.entries k ≡ Some form)
      (its : FormRuns r.typed.now r.mapping.now (walk r w) k form.1) where
    abbrev frame : Frame
    frame = frame_in variants instances its.fits.instance k form.1

    abbrev scope : Scope
    scope = its.ran.scope

    abbrev own : Form
    own = with_locals form.1 scope.locals

    pub body_is : body_of variants instances r.found.entries k
        ≡ record {
          arrays = shapes_of its.fits.variant form.1 scope;
          body = what_runs r.found.entries frame its.fits.variant its.fits.variant.body scope;
        }
    body_is =
        ap (found_body r.found.entries variants instances k) there
        ∙ ap (instance_body r.found.entries variants instances k form.1) its.fits.there
        ∙ ap (variant_body r.found.entries variants instances its.fits.instance k form.1) its.fits.runs
        ∙ ap (scope_body r.found.entries frame its.fits.instance its.fits.variant form.1) its.fits.binds
        ∙ ap (declared_body r.found.entries frame its.fits.variant form.1) its.ran.declared

    pub listed_are : reached_from variants instances k own
        ≡ reached_by_body its.fits.variant.body (frame_at variants instances its.fits.instance k) scope
    listed_are =
        let at = frame_at variants instances its.fits.instance k in
        let variant : variant_for variants (slice_get instances form.1.instance) ≡ Some its.fits.variant =
        ap (variant_for variants) its.fits.there ∙ its.fits.runs in
        ap₂ (reached_of variants instances k own) its.fits.there variant
        ∙ ap (reached_with at its.fits.instance its.fits.variant) its.fits.binds
        ∙ ap (reached_where its.fits.variant.body at) its.ran.declared

    serving_is : (call : ℕ) → serving variants instances form.1 call
        ≡ instance_in frame (slice_get (body_calls its.fits.variant.body) call)
    serving_is call = ap (by_instance variants instances call) its.fits.there
        ∙ ap (by_variant variants instances its.fits.instance call) its.fits.runs

    only_one : (c : Called) (q : Reached) (d : Begun)
        → One r.found.entries frame (body_calls its.fits.variant.body) c q d → (j : ℕ) (g : Form)
        → slice_get r.forms j ≡ Some g → g.caller ≡ Some (record { form = k; call = q.call })
        → g.extents ≡ q.extents → g.in_place ≡ q.in_place → j ≡ d.row.form
    only_one c q d one j g at called extents flags =
        let e = found_all variants r.mapping.now (walk r w) w.through j g at in
        let same = e.is in
        let number = number_by_key r w k q.call form there j e.found e.there (sym (ap (λ (f : Form). f.caller) same) ∙ called) in
        let es : e.found.1.extents ≡ c.form.extents = sym (ap (λ (f : Form). f.extents) same) ∙ (extents ∙ sym one.extents) in
        let fs : e.found.1.in_place ≡ c.form.in_place = sym (ap (λ (f : Form). f.in_place) same) ∙ (flags ∙ sym one.in_place) in
        let serves : serving variants instances form.1 q.call ≡ c.form.instance = serving_is q.call ∙ sym one.instance in
        let key : key_of k q.call (serving variants instances form.1 q.call) e.found.1.in_place e.found.1.extents ≡ c.key =
        ap (λ (n : ℕ). key_of k q.call n e.found.1.in_place e.found.1.extents) serves
        ∙ ap₂ (λ (bs : List Bool) (ns : List (List ℕ)). key_of k q.call c.form.instance bs ns) fs es ∙ sym one.key in
        number ∙ ap (form_number r.found.entries) key ∙ sym one.row

    one_listed : frame.level ≡ form.1.level → (c : Called) (q : Reached) (d : Begun)
        → One r.found.entries frame (body_calls its.fits.variant.body) c q d
        → CalleeIs r.found.entries c (form_number r.found.entries c.key) → IsListed r.forms k own q d
    one_listed same c q d one callee =
        let runs = runs_at r w (form_number r.found.entries c.key) callee.form callee.there in
        record {
          to = with_locals callee.form.1 runs.ran.scope.locals;
          there = ap (slice_get r.forms) one.row ∙ runs.ran.kept;
          caller = callee.is.caller ∙ one.caller;
          extents = callee.is.extents ∙ one.extents;
          in_place = callee.is.in_place ∙ one.in_place;
          round = one.round;
          many = one.many;
          level = callee.is.level ∙ lower_is c.form.level frame.level d.lower one.lower one.near
              ∙ ap (below d.lower) same;
          only = only_one c q d one;
        }

    all_listed : frame.level ≡ form.1.level → {cs : List Called} {qs : List Reached} {ds : List Begun}
        → Ones r.found.entries frame (body_calls its.fits.variant.body) cs qs ds
        → ((i : ℕ) (c : Called) → slice_get cs i ≡ Some c → CalleeIs r.found.entries c (form_number r.found.entries c.key))
        → Each (IsListed r.forms k own) qs ds
    all_listed same none callees = stands.none
    all_listed same (more {c = c} {r = q} {d = d} one rest) callees =
        stands.more (one_listed same c q d one (callees 0 c refl)) (all_listed same rest (λ i e h. callees (suc i) e h))

    -- the three lists of its body
    pub ones : (t : Text) → its.fits.variant.body ≡ t
        → Ones r.found.entries frame (body_calls t) (calls_in (steps_of variants instances its.fits.instance its.fits.variant k form.1 scope))
        (reached_by_body t (frame_at variants instances its.fits.instance k) scope)
        (calls_of (what_runs r.found.entries frame its.fits.variant t scope))
    ones (text.Leaf list) e =
        subst (λ (t : Text). Ones r.found.entries frame [] (calls_in (body_steps t frame scope)) [] [])
        (sym e) none
    ones (text.Inner list) e =
        subst (λ (t : Text). Ones r.found.entries frame (body_calls (text.Inner list)) (calls_in (body_steps t frame scope))
        (reached_by_body (text.Inner list) (frame_at variants instances its.fits.instance k) scope)
        (calls_of (what_runs r.found.entries frame its.fits.variant (text.Inner list) scope))) (sym e)
        (list_linked variants instances its.fits.instance k form.1 r.found.entries scope.names
        (elems_of its.fits.variant scope) scope.numbers (body_calls (text.Inner list)) list
        (near_calls r w form.1.instance its.fits.instance its.fits.variant k form.1 its.fits.there its.fits.runs
        (body_calls (text.Inner list)) (λ i c h. (i, ap (λ (t : Text). slice_get (body_calls t) i) e ∙ h)))
        (λ i c h. h))

    pub form_listed : frame.level ≡ form.1.level
        → Each (IsListed r.forms k own) (reached_from variants instances k own) (calls_of (body_in (bodies_of r) k).body)
    form_listed same =
        subst (λ (b : FormBody). Each (IsListed r.forms k own) (reached_from variants instances k own) (calls_of b.body))
        (sym (bodies_are_tables as_many_forms r k ∙ body_is))
        (subst (λ (qs : List Reached). Each (IsListed r.forms k own) qs (calls_of (what_runs r.found.entries frame its.fits.variant its.fits.variant.body scope)))
        (sym listed_are)
        (all_listed same (ones its.fits.variant.body refl) its.ran.callees))
