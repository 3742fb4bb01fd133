-- What nodes need, and where the entry runs.
use Rattle.std.proofs.Common.{◌≡◌, ℕ, ◌<◌, ◌≤◌, ◌⊎◌, inl, inr, List, [], ◌∷◌, ◌++◌, length, Option, Some, None, Ok, refl, sym, ◌∙◌, ap, arith}
use Rattle.std.specs.Prelude.{slice_get}
use Rattle.sq_ast.specs.declared.program.Variant.{Variant}
use Rattle.sq_machfile.specs.declared.node.Node.{Node}
use Rattle.sq_forms.specs.Mappings.declared.mapping.Instance.{Instance}
use Rattle.sq_forms.specs.Mappings.declared.mapping.Mapping.{Mapping}
use Rattle.sq_forms.specs.declared.form.Caller.{Caller}
use Rattle.sq_forms.specs.declared.form.Form.{Form}
use Rattle.sq_forms.specs.declared.form.Found.{Found}
use Rattle.sq_forms.specs.Steps.{Forms, Key}
use Rattle.sq_forms.specs.Resolving.{Resolving, resolution, with_locals}
use Rattle.sq_spec_laws.specs.Needs.{RunsAt, entry, beside, below, EndsAt, Needs, NeedIsOne, NoFormNoNeed, EntryIsAtRoot}
use Rattle.sq_forms.proofs.AllForms.{forms_limit}
use Rattle.sq_spec.proofs.FormLaws.AllHold.{Adding, all_hold}
use Rattle.sq_spec.proofs.FormLaws.FormsHold.{each_walked}
use Rattle.sq_spec.proofs.FormLaws.RanHold.{nothing_asked, as_many_forms}

some_same : {A : Type 0} (x y : A) → Some x ≡ Some y → x ≡ y
some_same x y h = cc h

-- ---- needs

at_most : (variants : List Variant) (instances : List Instance) (nodes : List Node) (forms : List Form) (node m n : ℕ)
    → (m ≡ 0) ⊎ EndsAt variants instances nodes forms node m
    → Needs variants instances nodes forms node n → m ≤ n
at_most variants instances nodes forms node m n (inl none) h = omega (arith, none)
at_most variants instances nodes forms node m n (inr end) h = h.greatest m end

pub need_is_one : NeedIsOne
need_is_one variants instances nodes forms node m n g h =
    let a = at_most variants instances nodes forms node m n g.is h in
    let b = at_most variants instances nodes forms node n m h.is g in
    omega (arith, a, b)

none_by : (variants : List Variant) (instances : List Instance) (nodes : List Node) (forms : List Form) (node n : ℕ)
    → (n ≡ 0) ⊎ EndsAt variants instances nodes forms node n
    → ((form : ℕ) → RunsAt variants instances nodes forms form node → ⊥) → n ≡ 0
none_by variants instances nodes forms node n (inl zero_) none = zero_
none_by variants instances nodes forms node n (inr end) none = absurd (none end.form end.runs)

pub no_form_no_need : NoFormNoNeed
no_form_no_need variants instances nodes forms node n h none = none_by variants instances nodes forms node n h.is none

-- ---- the entry

record Uncalled (forms : Forms) : Type 0 where
  each : (e : Key × Found) → slice_get forms 0 ≡ Some e → e.1.caller ≡ None

front_same : {A : Type 0} (xs ys : List A) (k : ℕ) → k < length xs → slice_get (xs ++ ys) 0 ≡ slice_get xs 0
front_same [] ys k h = absurd (omega (arith, h))
front_same (x ∷ xs) ys k h = refl

uncalled_added : Adding Uncalled (λ k c. Unit {0})
uncalled_added k forms c p less few holds = record { each = λ e g. holds.each e (sym (front_same forms ((c.key, c.form) ∷ []) k less) ∙ g) }

uncalled : (variants : List Variant) (mapping : Mapping) (r : Resolving) → resolution variants mapping ≡ Ok r → Uncalled r.found
uncalled variants mapping r h =
    all_hold variants mapping Uncalled (λ k c. Unit {0}) uncalled_added (nothing_asked variants mapping.instances)
    (λ extents e. record { each = λ f g. sym (ap (λ (q : Key × Found). q.1.caller) (some_same _ f g)) }) r h

first_there : {A B : Type 0} (xs : List A) (ys : List B) (x : A) → length ys ≡ length xs → slice_get xs 0 ≡ Some x → (y : B) × (slice_get ys 0 ≡ Some y)
first_there [] ys x e h = absurd (cc h)
first_there (z ∷ xs) [] x e h = absurd (omega (arith, e))
first_there (z ∷ xs) (y ∷ ys) x e h = (y, refl)

-- the first form of the answer has no caller
first_uncalled : (variants : List Variant) (mapping : Mapping) (r : Resolving) → resolution variants mapping ≡ Ok r → (f : Form)
    → slice_get r.forms 0 ≡ Some f → f.caller ≡ None
first_uncalled variants mapping r h f there =
    let first = first_there r.forms r.found f (as_many_forms variants mapping r h) there in
    let w = each_walked variants mapping r h 0 first.0 (omega (arith, forms_limit)) first.1 in
    let same_form : with_locals first.0.1 w.done.locals ≡ f = some_same _ f (sym w.kept ∙ there) in
    sym (ap (λ (g : Form). g.caller) same_form) ∙ (uncalled variants mapping r h).each first.0 first.1

called_none : (c : Caller) (o : Option Caller) → o ≡ Some c → o ≡ None → ⊥
called_none c o p q = absurd (cc (sym p ∙ q))

at_root : (variants : List Variant) (instances : List Instance) (nodes : List Node) (forms : List Form) → ((f : Form) → slice_get forms 0 ≡ Some f
    → f.caller ≡ None)
    → (k node : ℕ) → RunsAt variants instances nodes forms k node → k ≡ 0 → node ≡ 0
at_root variants instances nodes forms first _ _ entry e = refl
at_root variants instances nodes forms first k node (beside from to r call level runs) e =
    absurd (called_none _ to.caller call.from_call (first to (sym (ap (slice_get forms) e) ∙ call.callee_there)))
at_root variants instances nodes forms first k node (below from to r call level runs stands) e =
    absurd (called_none _ to.caller call.from_call (first to (sym (ap (slice_get forms) e) ∙ call.callee_there)))

pub entry_is_at_root : EntryIsAtRoot
entry_is_at_root variants mapping r h nodes node runs = at_root variants mapping.instances nodes r.forms (first_uncalled variants mapping r h) 0 node runs refl
