-- Where each form's buffers end, they stand so far at its nodes.
use Rattle.std.proofs.Common.{◌≡◌, ℕ, zero, suc, ◌+◌, ◌<◌, ◌≤◌, ◌==◌, Bool, true, false, List, [], ◌∷◌, ◌++◌, map}
use Rattle.std.proofs.Common.{length, slice_get, Option, Some, None, refl, sym, ap, ◌∙◌, arith, if◌then◌else◌}
use Rattle.std.proofs.lemmas.Bool.Decides.{nat_tests}
use Rattle.sq_forms.specs.declared.form.Form.{Form}
use Rattle.sq_spec.specs.Bodies.{no_body}
use Rattle.sq_spec.specs.declared.body.FormBody.{FormBody}
use Rattle.sq_spec.specs.declared.resolved.Resolved.{Resolved}
use Rattle.sq_nests.specs.Stacks.{total}
use Rattle.sq_placed.specs.Tables.{locals_of}
use Rattle.sq_placed.specs.Trees.{local_buffers}
use Rattle.sq_term.specs.Stands as stands
use Rattle.sq_term.specs.Terms.{body_in, homes_in}
use Rattle.sq_draft_laws.specs.Homes.Chosen.declared.choice.Choice.{Choice}
use Rattle.sq_draft_laws.specs.Homes.Chosen.Forms.{bodies_of}
use Rattle.sq_draft_laws.specs.Homes.Drafts.{homes_of, entry_of}
use Rattle.sq_draft_laws.specs.Homes.Begun.{Begun, calls_of}
use Rattle.sq_draft_laws.specs.Choosing.{Walked, MayBeChosen}
use Rattle.sq_draft_laws.proofs.Hoisting.{at_index, bodies_many}
use Rattle.sq_draft_laws.proofs.Entry as first
use Rattle.sq_draft_laws.proofs.Entry.{entries_have_buffers}
use Rattle.sq_draft_laws.proofs.Forms.{run_of}
use Rattle.sq_draft_laws.proofs.Hoisted.{is_form, no_body_at}
use Rattle.sq_draft_laws.specs.Memories.{plan_node}
use Rattle.sq_plan_good.specs.Sums.{brought}
use Rattle.sq_plan_good.specs.Room.{machine_setting, callers_top, level_top, FormsEnd, EndsAreTops}
use Rattle.sq_plan_good.proofs.ListedForms.{calls_are_listed}
use Rattle.sq_plan_good.proofs.Bringing.{brought_fits, owned_fits}
use Rattle.sq_plan_good.proofs.Fitting.{each_before}

within : {A : Type 0} (xs : List A) (i : ℕ) (x : A) → slice_get xs i ≡ Some x → i < length xs
within [] i x e = cc
within (y ∷ xs) zero x e = omega arith
within (y ∷ xs) (suc i) x e = let z = within xs i x e in omega (arith, z)

module _ (r : Resolved) (w : Walked r) (choices : List Choice) (are : MayBeChosen r choices) (top : ℕ → ℕ)
    (end : FormsEnd r choices top) where
  body_there : (k : ℕ) (f : Form) → slice_get r.forms k ≡ Some f
      → (b : FormBody) × (slice_get (bodies_of r) k ≡ Some b)
  body_there k f there =
      let l = within r.forms k f there in
      let m = bodies_many r choices in
      at_index (bodies_of r) k (omega (arith, l, m))

  -- what stands below a call
  before_call : (top_k level to : ℕ) (v : Bool) → to ≡ stands.below v level
      → (if v then 0 else top_k) ≡ (if level == to then top_k else 0)
  before_call top_k level to true e =
      let z : (level == to) ≡ false = grind (arith, nat_tests, e) in
      sym (ap (λ (t : Bool). if t then top_k else 0) z)
  before_call top_k level to false e =
      let z : (level == to) ≡ true = grind (arith, nat_tests, e) in
      sym (ap (λ (t : Bool). if t then top_k else 0) z)

  call_ends : (k i : ℕ) (f : Form) (d : Begun) → slice_get r.forms k ≡ Some f
      → slice_get (calls_of (body_in (bodies_of r) k).body) i ≡ Some d
      → (if d.lower then 0 else top k)
      + total (machine_setting r choices).size (brought (body_in (bodies_of r)) (homes_in (homes_of r choices)) d.row)
      ≤ top d.row.form
  call_ends k i f d there among =
      let b = each_before (calls_are_listed r w k f there) i d among in
      let li = b.is in
      let own = body_there d.row.form li.to li.there in
      let ends = end d.row.form li.to own.0 li.there own.1 in
      let fits = brought_fits r choices are (map plan_node r.machine.now.nodes) (λ n. 0) d.row.form own.0 own.1 d.row
      refl in
      let caller = ap (callers_top r.forms top li.to.level) li.caller
      ∙ ap (level_top li.to.level (top k)) there in
      let before = before_call (top k) f.level li.to.level d.lower li.level in
      omega (arith, ends, fits, caller, before)

  -- a form that isn't there calls nothing
  calls_end : (k i : ℕ) (d : Begun) → slice_get (calls_of (body_in (bodies_of r) k).body) i ≡ Some d
      → (if d.lower then 0 else top k)
      + total (machine_setting r choices).size (brought (body_in (bodies_of r)) (homes_in (homes_of r choices)) d.row)
      ≤ top d.row.form
  calls_end k i d among = by (slice_get (bodies_of r) k) refl
    where
      by : (o : Option FormBody) → slice_get (bodies_of r) k ≡ o
          → (if d.lower then 0 else top k)
          + total (machine_setting r choices).size
          (brought (body_in (bodies_of r)) (homes_in (homes_of r choices)) d.row)
          ≤ top d.row.form
      by None h =
          let z : slice_get (calls_of no_body.body) i ≡ Some d
          = ap (λ (b : FormBody). slice_get (calls_of b.body) i) (sym (no_body_at r choices are k h)) ∙ among in
          absurd (cc z)
      by (Some b) h =
          let f = is_form r choices are k b h in
          call_ends k i f.form d f.there among

  entry_end : total (machine_setting r choices).size
      (entry_of r choices ++ local_buffers (locals_of (body_in (bodies_of r) 0) (homes_in (homes_of r choices) 0)))
      ≤ top 0
  entry_end =
      let kept = (run_of r w 0 (first.form r) (first.entry r).found).ran.kept in
      let own = body_there 0 _ kept in
      let ends = end 0 _ own.0 kept own.1 in
      let fits = owned_fits r choices are (map plan_node r.machine.now.nodes) (λ n. 0) 0 own.0 own.1
      (entries_have_buffers r w choices are) in
      omega (arith, ends, fits)

pub ends_are_tops : EndsAreTops
ends_are_tops r w choices are top end = record {
  entry = entry_end r w choices are top end;
  calls = calls_end r w choices are top end;
}
