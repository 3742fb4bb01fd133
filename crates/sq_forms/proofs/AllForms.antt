-- The walk of all forms, one more.
use Rattle.std.proofs.Common.{◌≡◌, ℕ, zero, suc, ◌+◌, ◌-◌, ◌<◌, ◌≤◌, List, [], ◌∷◌, ◌++◌, length, Option, Some, None, Result, Ok, Err, refl, sym, ◌∙◌, ap, subst, arith, length-append}
use Rattle.std.specs.Prelude.{slice_get}
use Rattle.sq_text.specs.declared.fault.Stop.{Stop}
use Rattle.sq_text.specs.declared.fault.Stop.TheVariants.{Refused, NoMemory}
use Rattle.sq_ast.specs.declared.program.Param.{Param}
use Rattle.sq_ast.specs.declared.program.Program.{Program}
use Rattle.sq_ast.specs.declared.program.Variant.{Variant}
use Rattle.sq_mapping.specs.declared.mapping.Instance.{Instance}
use Rattle.sq_mapping.specs.declared.mapping.SizeSet.{SizeSet}
use Rattle.sq_mapping.specs.declared.mapping.Mapping.{Mapping}
use Rattle.sq_forms.specs.declared.forms.Resolving.{Resolving as CodeResolving}
use Rattle.sq_forms.specs.Faults.{Value, Leaves, and_then}
use Rattle.sq_forms.specs.Steps.{Key, most_forms}
use Rattle.sq_forms.specs.declared.form.Found.{Found}
use Rattle.sq_forms.specs.Resolving.{Resolving, Resolves, Outcome, with_locals, more, next_walked, walk_of, walk_next, walk_from, resolution, entry_params, entry_extents, with_entry}

pub forms_limit : most_forms ≡ 4096
unfolding most_forms
forms_limit = refl

pub started : (variants : List Variant) (mapping : Mapping) (list : List Param) (sizes : List SizeSet) (extents : List (List ℕ)) (r : Resolving)
    → list ≡ entry_params variants (slice_get mapping.instances mapping.entry) → sizes ≡ mapping.sizes → entry_extents sizes list ≡ Ok extents → r ≡ with_entry mapping.entry extents
    → resolution variants mapping ≡ walk_from variants mapping.instances (most_forms - 0) 0 r
started variants mapping list sizes extents r is same e b =
    let rest : List (List ℕ) → Value Resolving = λ es. walk_from variants mapping.instances most_forms 0 (with_entry mapping.entry es) in
    let f : entry_extents mapping.sizes (entry_params variants (slice_get mapping.instances mapping.entry)) ≡ Ok extents = (λ i. entry_extents (sym same i) (sym is i)) ∙ e in
    let n : most_forms ≡ most_forms - 0 = omega arith in
    ap (λ (v : Value (List (List ℕ))). and_then v rest) f
    ∙ (ap (walk_from variants mapping.instances most_forms 0) (sym b) ∙ ap (λ m. walk_from variants mapping.instances m 0 r) n)

one_more : (variants : List Variant) (instances : List Instance) (k : ℕ) (r : Resolving) → k < most_forms
    → walk_from variants instances (most_forms - k) k r ≡ and_then (walk_next variants instances k r) (λ s. walk_from variants instances (most_forms - (k + 1)) (k + 1) s)
one_more variants instances k r h =
    let e : most_forms - k ≡ suc (most_forms - (k + 1)) = omega arith in
    ap (λ n. walk_from variants instances n k r) e

pub from_more : (variants : List Variant) (instances same : List Instance) (k : ℕ) (r s : Resolving) (whole : Value Resolving) → k < most_forms → instances ≡ same
    → whole ≡ walk_from variants same (most_forms - k) k r → walk_next variants instances k r ≡ Ok s → whole ≡ walk_from variants same (most_forms - (k + 1)) (k + 1) s
from_more variants instances same k r s whole h i inv e =
    let e2 : walk_next variants same k r ≡ Ok s = ap (λ l. walk_next variants l k r) (sym i) ∙ e in
    inv ∙ (one_more variants same k r h ∙ ap (λ (v : Value Resolving). and_then v (λ t. walk_from variants same (most_forms - (k + 1)) (k + 1) t)) e2)

exit_at : (A : Type 0) (e : Stop) (variants : List Variant) (same : List Instance) (k : ℕ) (r left : Resolving) (whole : Value Resolving) → k < most_forms
    → whole ≡ walk_from variants same (most_forms - k) k r → Leaves {A = A} (Err e) (walk_next variants same k r) left → Resolves (Err e) whole
exit_at A (Refused f) variants same k r left whole h inv w =
    inv ∙ (one_more variants same k r h ∙ ap (λ (v : Value Resolving). and_then v (λ t. walk_from variants same (most_forms - (k + 1)) (k + 1) t)) w)
exit_at A NoMemory variants same k r left whole h inv w = tt

pub from_exit : {A : Type 0} (res : Result CodeResolving Stop) (x : Result A Stop) (e : Stop) (variants : List Variant) (instances same : List Instance) (k : ℕ) (r left : Resolving) (whole : Value Resolving) → k < most_forms → instances ≡ same
    → res ≡ Err e → x ≡ Err e → whole ≡ walk_from variants same (most_forms - k) k r → Leaves x (walk_next variants instances k r) left → Resolves res whole
from_exit {A = A} res x e variants instances same k r left whole h i is was inv w =
    let w2 : Leaves x (walk_next variants same k r) left = subst (λ l. Leaves x (walk_next variants l k r) left) i w in
    subst (λ (y : Result CodeResolving Stop). Resolves y whole) (sym is)
    (exit_at A e variants same k r left whole h inv (subst (λ (y : Result A Stop). Leaves y (walk_next variants same k r) left) was w2))

-- ---- each form that was walked has its accesses

went_on : (v : Value Outcome) (r : Resolving) (form : Found) (rest : Resolving → Value Resolving) (s : Resolving)
    → and_then (and_then v (λ o. Ok (more r form o))) rest ≡ Ok s → (o : Outcome) × (rest (more r form o) ≡ Ok s)
went_on (Ok o) r form rest s h = (o, h)
went_on (Err f) r form rest s h = absurd (cc h)

one_longer : {A B : Type 0} (xs : List A) (ys : List B) (x : A) (y : B) → length xs ≡ length ys → length (xs ++ x ∷ []) ≡ length (ys ++ y ∷ [])
one_longer xs ys x y h = omega (arith, length-append xs (x ∷ []), length-append ys (y ∷ []))

paired_next : (variants : List Variant) (instances : List Instance) (n k : ℕ) (r s : Resolving) (o : Option (Key × Found))
    → and_then (next_walked variants instances k r o) (λ t. walk_from variants instances n (k + 1) t) ≡ Ok s → length r.uses ≡ length r.forms
    → ((t : Resolving) → walk_from variants instances n (k + 1) t ≡ Ok s → length t.uses ≡ length t.forms → length s.uses ≡ length s.forms) → length s.uses ≡ length s.forms
paired_next variants instances n k r s None h e more_ = more_ r h e
paired_next variants instances n k r s (Some form) h e more_ =
    let w = went_on (walk_of variants instances k form.1 r.found) r form.1 (λ t. walk_from variants instances n (k + 1) t) s h in
    more_ (more r form.1 w.0) w.1 (one_longer r.uses r.forms w.0.uses (with_locals form.1 w.0.locals) e)

paired_from : (variants : List Variant) (instances : List Instance) (n k : ℕ) (r s : Resolving) → walk_from variants instances n k r ≡ Ok s → length r.uses ≡ length r.forms
    → length s.uses ≡ length s.forms
paired_from variants instances zero k r s h e = let same : r ≡ s = cc h in (λ i. length (sym same i).uses) ∙ (e ∙ (λ i. length (same i).forms))
paired_from variants instances (suc n) k r s h e = paired_next variants instances n k r s (slice_get r.found k) h e (λ t g f. paired_from variants instances n (k + 1) t s g f)

paired_begun : (variants : List Variant) (mapping : Mapping) (s : Resolving) (v : Value (List (List ℕ)))
    → and_then v (λ extents. walk_from variants mapping.instances most_forms 0 (with_entry mapping.entry extents)) ≡ Ok s → length s.uses ≡ length s.forms
paired_begun variants mapping s (Ok extents) h = paired_from variants mapping.instances most_forms 0 (with_entry mapping.entry extents) s h refl
paired_begun variants mapping s (Err f) h = absurd (cc h)

pub paired : (variants : List Variant) (mapping : Mapping) (s : Resolving) → resolution variants mapping ≡ Ok s → length s.uses ≡ length s.forms
paired variants mapping s h = paired_begun variants mapping s (entry_extents mapping.sizes (entry_params variants (slice_get mapping.instances mapping.entry))) h

-- the walk over the variants of the program that was given
pub of_program : (program same : Program) (mapping : Mapping) (s : Resolving) → same ≡ program → resolution same.tasks mapping ≡ Ok s → resolution program.tasks mapping ≡ Ok s
of_program program same mapping s p h = ap (λ (q : Program). resolution q.tasks mapping) (sym p) ∙ h

-- ---- there are no more forms than numbers

few_next : (variants : List Variant) (instances : List Instance) (n k : ℕ) (r s : Resolving) (o : Option (Key × Found))
    → and_then (next_walked variants instances k r o) (λ t. walk_from variants instances n (k + 1) t) ≡ Ok s
    → ((t : Resolving) → walk_from variants instances n (k + 1) t ≡ Ok s → length s.forms ≤ length t.forms + n) → length s.forms ≤ length r.forms + suc n
few_next variants instances n k r s None h rest = let e = rest r h in omega (arith, e)
few_next variants instances n k r s (Some form) h rest =
    let w = went_on (walk_of variants instances k form.1 r.found) r form.1 (λ t. walk_from variants instances n (k + 1) t) s h in
    let e = rest (more r form.1 w.0) w.1 in
    omega (arith, e, length-append r.forms (with_locals form.1 w.0.locals ∷ []))

few_from : (variants : List Variant) (instances : List Instance) (n k : ℕ) (r s : Resolving) → walk_from variants instances n k r ≡ Ok s → length s.forms ≤ length r.forms + n
few_from variants instances zero k r s h = let same : r ≡ s = cc h in let e : length r.forms ≡ length s.forms = ap (λ (t : Resolving). length t.forms) same in omega (arith, e)
few_from variants instances (suc n) k r s h = few_next variants instances n k r s (slice_get r.found k) h (λ t g. few_from variants instances n (k + 1) t s g)

few_begun : (variants : List Variant) (mapping : Mapping) (s : Resolving) (v : Value (List (List ℕ)))
    → and_then v (λ extents. walk_from variants mapping.instances most_forms 0 (with_entry mapping.entry extents)) ≡ Ok s → length s.forms ≤ most_forms
few_begun variants mapping s (Ok extents) h = let e = few_from variants mapping.instances most_forms 0 (with_entry mapping.entry extents) s h in omega (arith, e)
few_begun variants mapping s (Err f) h = absurd (cc h)

pub few : (variants : List Variant) (mapping : Mapping) (s : Resolving) → resolution variants mapping ≡ Ok s → length s.forms ≤ most_forms
few variants mapping s h = few_begun variants mapping s (entry_extents mapping.sizes (entry_params variants (slice_get mapping.instances mapping.entry))) h
