-- Each leaf event runs the leaf of its form.
use Rattle.std.proofs.Common.{◌≡◌, ℕ, suc, ◌+◌, if◌then◌else◌, Bool, true, false, List, [], ◌∷◌, Option}
use Rattle.std.proofs.Common.{Some, None, slice_get}
use Rattle.std.proofs.Common.{refl, sym, ◌∙◌, ap, subst, arith}
use Rattle.sq_text.specs.Names.{Bytes, same_name}
use Rattle.sq_ast.specs.declared.program.Variant.{Variant}
use Rattle.sq_ast.specs.declared.program.VariantKind.{VariantKind}
use Rattle.sq_ast.specs.declared.program.VariantKind.TheVariants as variant_kind
use Rattle.sq_form_laws.specs.Forms.Tables.{at_index, first_of_kind, same_kind, variant_of}
use Rattle.sq_form_laws.proofs.FitHold.{of_program}
use Rattle.sq_spec.specs.declared.body.Body.TheVariants as body
use Rattle.sq_spec.specs.declared.body.FormBody.{FormBody}
use Rattle.sq_spec.specs.declared.resolved.Resolved.{Resolved}
use Rattle.sq_ir.specs.Leaf.Leaf.{Leaf as LeafSource}
use Rattle.sq_ir.specs.Events.{Event, Copy, Fill, Accumulate, Leaf as LeafEvent}
use Rattle.sq_ir.specs.Tree.{Tree, Skip, Act, Stuck, Seq, Par, Within}
use Rattle.sq_ir.specs.Unordered.{AllEvents}
use Rattle.sq_ir.specs.Plans.{node_at, tree_of}
use Rattle.sq_ir.specs.declared.plan.Draft.{Draft}
use Rattle.sq_ir.specs.declared.plan.Leaf.{Leaf}
use Rattle.sq_ir.specs.declared.plan.Plan.{Plan}
use Rattle.sq_plan_good.specs.Term.Terms.{body_in, homes_in}
use Rattle.sq_plan_good.specs.Homes.Chosen.declared.choice.Choice.{Choice}
use Rattle.sq_plan_good.specs.Homes.Chosen.Forms.{bodies_of, instance_at, instance_by, name_by}
use Rattle.sq_plan_good.specs.Homes.Drafts.{homes_of}
use Rattle.sq_plan_good.specs.Homes.Drafts.{IsDraftOf}
use Rattle.sq_plan_good.specs.DraftLaws.Given.{level_at}
use Rattle.sq_plan_good.specs.DraftLaws.AtLevels.{IsAtLevel}
use Rattle.sq_plan_good.proofs.DraftLaws.Forms.{bodies_are}
use Rattle.sq_plan_good.proofs.DraftLaws.LeavesHold.{leaf_form}
use Rattle.sq_plan_good.proofs.DraftLaws.WalkedHolds.{walked_is_there}
use Rattle.sq_event_laws.proofs.Codes.{leaves_before, number_is, leaf_there}
use Rattle.sq_event_laws.specs.LeafEvents.{code_of, IsLeafOf, RunsItsForm, LeafEventsRunTheirForms}

-- ---- the kind of a variant that is looked up

same_kinds : (a b : VariantKind) → same_kind a b ≡ true → a ≡ b
same_kinds variant_kind.Inner variant_kind.Inner h = refl
same_kinds variant_kind.Leaf variant_kind.Leaf h = refl
same_kinds variant_kind.Inner variant_kind.Leaf h = absurd (cc h)
same_kinds variant_kind.Leaf variant_kind.Inner h = absurd (cc h)

module _ (kind : VariantKind) (task : Bytes) where
  record IsOfKind (vs : List Variant) (i k : ℕ) : Type 0 where
    index : ℕ
    is : k ≡ i + index
    of_kind : (v : Variant) → slice_get vs index ≡ Some v → v.kind ≡ kind

  later : (v : Variant) (rest : List Variant) (i k : ℕ) → IsOfKind rest (suc i) k → IsOfKind (v ∷ rest) i k
  later v rest i k h = record {
    index = suc h.index;
    is = h.is ∙ (let z : suc i + h.index ≡ i + suc h.index = omega arith in z);
    of_kind = h.of_kind;
  }

  by_tests : (v : Variant) (rest : List Variant) (i k : ℕ) (a b : Bool) → same_kind v.kind kind ≡ a
      → (first_of_kind kind (suc i) rest task ≡ Some k → IsOfKind rest (suc i) k)
      → (if a then (if b then Some i else first_of_kind kind (suc i) rest task)
      else first_of_kind kind (suc i) rest task)
      ≡ Some k → IsOfKind (v ∷ rest) i k
  by_tests v rest i k true true e f h =
      let is : i ≡ k = cc h in
      record {
        index = 0;
        is = sym is ∙ (let z : i ≡ i + 0 = omega arith in z);
        of_kind = λ w there.
            let same : v ≡ w = cc there in
            subst (λ (x : Variant). x.kind ≡ kind) same (same_kinds v.kind kind e);
      }
  by_tests v rest i k true false e f h = later v rest i k (f h)
  by_tests v rest i k false b e f h = later v rest i k (f h)

  first_is : (vs : List Variant) (i k : ℕ) → first_of_kind kind i vs task ≡ Some k → IsOfKind vs i k
  first_is [] i k h = absurd (cc h)
  first_is (v ∷ rest) i k h =
      by_tests v rest i k (same_kind v.kind kind) (same_name task v.task) refl (first_is rest (suc i) k) h

  pub kind_is : (vs : List Variant) (v : Variant) → variant_of vs task kind ≡ Some v → v.kind ≡ kind
  kind_is vs v h = by (first_of_kind kind 0 vs task) refl h
    where
      by : (o : Option ℕ) → first_of_kind kind 0 vs task ≡ o → at_index vs o ≡ Some v → v.kind ≡ kind
      by None e g = absurd (cc g)
      by (Some k) e g =
          let f = first_is vs 0 k e in
          let at : k ≡ f.index = f.is ∙ (let z : 0 + f.index ≡ f.index = omega arith in z) in
          f.of_kind v (sym (ap (slice_get vs) at) ∙ g)

-- ---- the leaf of a form

-- a form that is a leaf, with what stands under its number
pub record HasLeaf (r : Resolved) (choices : List Choice) (d : Draft) (form : ℕ) (code : LeafSource) : Type 0 where
  pub leaf : Leaf
  pub there : slice_get d.leaves (code_of r choices form) ≡ Some leaf
  pub code_is : leaf.code ≡ code
  pub of : IsLeafOf r form leaf

pub has_leaf : (r : Resolved) (choices : List Choice) (d : Draft) → IsDraftOf r choices d → (form : ℕ)
    (code : LeafSource) → (body_in (bodies_of r) form).body ≡ body.Leaf code → HasLeaf r choices d form code
has_leaf r choices d is form code h =
    let w = walked_is_there r in
    let f = leaf_form r w form code (ap (λ (b : FormBody). b.body) (sym (bodies_are r w form)) ∙ h) in
    let x = f.run.fits.instance in
    let named = of_program r.typed.now.tasks x.task x.kind f.run.fits.variant f.run.fits.runs in
    let instance_is : instance_at r form ≡ Some x
    = ap (instance_by r.mapping.now.instances) f.run.ran.kept ∙ f.run.fits.there in
    let variant_is : f.run.fits.variant ≡ code.variant = ap (λ (c : LeafSource). c.variant) f.is in
    let before = leaves_before (bodies_of r) form in
    let place : code_of r choices form ≡ before
    = number_is r choices 0 0 0 (bodies_of r) form code h ∙ (let z : 0 + before ≡ before = omega arith in z) in
    let here : 0 + form ≡ form = omega arith in
    let name : name_by (instance_at r (0 + form)) ≡ x.name
    = ap (λ n. name_by (instance_at r n)) here ∙ ap name_by instance_is in
    record {
      leaf = record { instance = name_by (instance_at r (0 + form)); code = code };
      there = ap (slice_get d.leaves) place ∙ (ap (λ (l : List Leaf). slice_get l before) is.leaves
          ∙ leaf_there r 0 (bodies_of r) form code h);
      code_is = refl;
      of = record {
        body_is = h;
        instance = x;
        instance_is = instance_is;
        name = name;
        task = ap (λ (v : Variant). v.task) (sym variant_is) ∙ sym named.task_;
        kind = ap (λ (v : Variant). v.kind) (sym variant_is)
            ∙ kind_is x.kind x.task r.typed.now.tasks f.run.fits.variant f.run.fits.runs;
        number = named.index;
        variant_is = named.there ∙ ap Some variant_is;
      };
    }

-- ---- events

all_so : {E S : Type 0} (P Q : E → Type 0) → ((e : E) → P e → Q e) → (t : Tree E S) → AllEvents P t → AllEvents Q t
all_so P Q so Skip h = tt
all_so P Q so (Act e) h = so e h
all_so P Q so (Stuck e) h = so e h
all_so P Q so (Seq a b) h = (all_so P Q so a h.0, all_so P Q so b h.1)
all_so P Q so (Par a b) h = (all_so P Q so a h.0, all_so P Q so b h.1)
all_so P Q so (Within s a) h = all_so P Q so a h

module _ (r : Resolved) (choices : List Choice) (p : Plan) (is : IsDraftOf r choices p.draft) where
  abbrev IsHome : Event → Type 0
  IsHome =
      IsAtLevel (body_in (bodies_of r)) (homes_in (homes_of r choices)) (level_at r) (λ n. (node_at p.nodes n).level)

  runs : (e : Event) → IsHome e → RunsItsForm r choices p e
  runs (Copy from to bytes) h = tt
  runs (Fill to elem count v) h = tt
  runs (Accumulate op elem from to count) h = tt
  runs (LeafEvent node code views path) h =
      let own = has_leaf r choices p.draft is h.form h.leaf h.is in
      record {
        form = h.form;
        leaf = own.leaf;
        code_is = h.code_is;
        there = ap (slice_get p.draft.leaves) (sym h.code_is) ∙ own.there;
        of = own.of;
        level = h.level_is;
      }

pub events_run : LeafEventsRunTheirForms
events_run r choices nodes p good =
    all_so (IsHome r choices p good.draft_) (RunsItsForm r choices p) (runs r choices p good.draft_) (tree_of p)
    good.at_home
