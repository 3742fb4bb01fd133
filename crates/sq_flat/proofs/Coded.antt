-- The codes of all forms, and the call of the entry.
use Rattle.std.proofs.Common.{arith, ◌≡◌, ◌∙◌, ◌⊎◌, inl, inr, sym, ap, ap₂, subst, refl, ℕ, zero, suc, ◌+◌, ◌<◌, ◌≤◌, nat_lt, Bool, true, false, if◌then◌else◌, List, [], ◌∷◌, ◌++◌, length, slice_get, Option, Some, None, Result}
use Rattle.std.proofs.lemmas.Bool.{cases_lt}
use Rattle.std.proofs.lemmas.List.{length-append}
use Rattle.std.proofs.lemmas.Option.{slice_get_past}
use Rattle.std.proofs.Math.Logic.{∥∥₁_elim}
use Rattle.std.proofs.Math.Path.{fun_ext}
use Rattle.std.specs.Coded.{coded_list, coded_ℕ}
use base.Stored.{Coded-set}
use Rattle.sq_ast.specs.declared.program.Variant.{Variant}
use Rattle.sq_spec.specs.Mappings.declared.mapping.Instance.{Instance}
use Rattle.sq_spec.specs.Mappings.declared.mapping.Mapping.{Mapping}
use Rattle.sq_leaf.specs.Source.{Arrays}
use Rattle.sq_spec.specs.declared.statement.CallInstance.{CallInstance}
use Rattle.sq_spec.specs.declared.body.FormBody.{FormBody}
use Rattle.sq_spec.specs.Forms.declared.form.Found.{Found}
use Rattle.sq_spec.specs.Forms.Steps.{Forms, Key}
use Rattle.sq_spec.specs.Bodies.{body_of, found_body, numbered_work}
use Rattle.sq_spec.specs.Numbered.{called_entry, entry_call, TablesMeanProgram}
use Rattle.sq_spec.specs.FormLaws.Reached.{AsManyForms, FormsAreFound}
use Rattle.sq_spec.specs.Walked.{IsWalked}
use Rattle.sq_spec.specs.Forms.declared.form.Form.{Form}
use Rattle.sq_spec.specs.declared.resolved.Resolved.{Resolved}
use Rattle.sq_spec.specs.Works.{entry_arguments, flat, whole, work_of}
use Rattle.sq_blocks.specs.Spans.{with_front, wholes}
use Rattle.sq_text.specs.declared.place.Span.{Span}
use Rattle.sq_work.specs.InTurn.{IsRaceFree, serial}
use Rattle.sq_work.specs.Work.{Work, Call}
use Rattle.sq_flat.specs.declared.form.End.{End}
use Rattle.sq_flat.specs.declared.form.FormCode.{FormCode}
use Rattle.sq_flat.specs.Works.{body_in, bodies_of, form_work, AreCodes}
use Rattle.sq_flat.specs.Held.{Stored, extents_in, params_in, entry_args}
use Rattle.sq_flat.specs.Ends.{HoldsInside}
use Rattle.sq_flat.proofs.Fitting.{same_some}

-- ---- one code more

last_there : {X : Type 0} (xs : List X) (x : X) → slice_get (xs ++ x ∷ []) (length xs) ≡ Some x
last_there [] x = refl
last_there (y ∷ xs) x = last_there xs x

there_still : {X : Type 0} (xs : List X) (x : X) (i : ℕ) → i < length xs → slice_get (xs ++ x ∷ []) i ≡ slice_get xs i
there_still [] x i below = absurd (omega (arith, below))
there_still (y ∷ xs) x zero below = refl
there_still (y ∷ xs) x (suc i) below = there_still xs x i (omega (arith, below))

pub more_many : (codes : List FormCode) (code : FormCode) (k : ℕ) → length codes ≡ k → length (codes ++ code ∷ []) ≡ k + 1
more_many codes code k many = length-append codes (code ∷ []) ∙ ap (λ (n : ℕ). n + 1) many

pub more_bodies : (codes : List FormCode) (code : FormCode) (k : ℕ) (b : ℕ → FormBody) → length codes ≡ k → ((i : ℕ) → i < k → bodies_of codes i ≡ b i) → body_in (Some code) ≡ b k
    → (i : ℕ) → i < k + 1 → bodies_of (codes ++ code ∷ []) i ≡ b i
more_bodies codes code k b many are is i below = by (cases_lt i k)
  where
    by : (i < k) ⊎ (k ≤ i) → bodies_of (codes ++ code ∷ []) i ≡ b i
    by (inl less) = ap body_in (there_still codes code i (omega (arith, less, many))) ∙ are i less
    by (inr least) =
        let same : i ≡ length codes = omega (arith, below, least, many) in
        let number : k ≡ i = omega (arith, below, least) in
        ap (λ (n : ℕ). bodies_of (codes ++ code ∷ []) n) same ∙ (ap body_in (last_there codes code) ∙ (is ∙ ap b number))

pub all_bodies : (variants : List Variant) (instances : List Instance) (found : Forms) (codes : List FormCode) → length codes ≡ length found
    → ((i : ℕ) → i < length codes → bodies_of codes i ≡ body_of variants instances found i) → AreCodes variants instances found codes
all_bodies variants instances found codes many are = record { many = many; bodies = fun_ext (λ i. by i (cases_lt i (length codes))) }
  where
    by : (i : ℕ) → (i < length codes) ⊎ (length codes ≤ i) → bodies_of codes i ≡ body_of variants instances found i
    by i (inl less) = are i less
    by i (inr least) =
        ap body_in (slice_get_past codes i least)
        ∙ sym (ap (found_body found variants instances i) (slice_get_past found i (omega (arith, least, many))))

-- ---- the entry

-- calling the first of the codes is calling the entry
pub entry_work_is : (variants : List Variant) (mapping : Mapping) (found : Forms) (codes : List FormCode) (r : CallInstance) (e : Key × Found) → AreCodes variants mapping.instances found codes
    → r ≡ record { form = 0; args = entry_args variants mapping found } → slice_get found 0 ≡ Some e
    → Call r.form false r.args (form_work codes (length codes) r.form) ≡ entry_call variants mapping found
entry_work_is variants mapping found codes r e are is there =
    let work : Work = numbered_work (body_of variants mapping.instances found) (length found) 0 in
    ap (λ (x : CallInstance). Call x.form false x.args (form_work codes (length codes) x.form)) is
    ∙ (ap₂ (λ (b : ℕ → FormBody) (n : ℕ). Call 0 false (entry_args variants mapping found) (numbered_work b n 0)) are.bodies are.many
    ∙ subst (λ (o : Option (Key × Found)). Call 0 false (entry_arguments (params_in variants mapping) 0 (extents_in o)) work ≡ called_entry variants mapping found o) (sym there) refl)

first_there : {X : Type 0} (xs : List X) → 0 < length xs → (x : X) × (slice_get xs 0 ≡ Some x)
first_there [] some = absurd (omega (arith, some))
first_there (x ∷ xs) some = (x, refl)

pub entry_evaluates : (r : Resolved) (codes : List FormCode) (its : CallInstance) (a new : Stored) (result : Result (Unit {0}) End) (s : Arrays) → TablesMeanProgram
    → IsRaceFree (work_of r.typed.now.tasks r.mapping.now r.found.entries) → AreCodes r.typed.now.tasks r.mapping.now.instances r.found.entries codes → 0 < length codes
    → its ≡ record { form = 0; args = entry_args r.typed.now.tasks r.mapping.now r.found.entries }
    → HoldsInside a.shapes new result (serial (Call its.form false its.args (form_work codes (length codes) its.form)) s)
    → HoldsInside a.shapes new result (flat r.typed.now r.mapping.now s)
entry_evaluates r codes its a new result s law free are some is run =
    let entry = first_there r.found.entries (omega (arith, some, are.many)) in
    let work = entry_work_is r.typed.now.tasks r.mapping.now r.found.entries codes its entry.0 are is entry.1 in
    subst (HoldsInside a.shapes new result) (sym (law r free s))
    (subst (λ (w : Work). HoldsInside a.shapes new result (serial w s)) work run)

-- ---- what the walk gives

pub as_many : (r : Resolved) → AsManyForms → length r.found.entries ≡ length r.forms
as_many r law = ∥∥₁_elim r.walked (Coded-set coded_ℕ _ _) (λ w. law r.typed.now.tasks r.mapping.now _ w.through)

walked_extents : (r : Resolved) (f : Form) → FormsAreFound → slice_get r.forms 0 ≡ Some f → IsWalked r.typed.now r.machine.now.levels r.mapping.now r.found.entries r.forms r.uses
    → f.extents ≡ extents_in (slice_get r.found.entries 0)
walked_extents r f law there w =
    let its = law r.typed.now.tasks r.mapping.now _ w.through 0 f there in
    ap (λ (g : Form). g.extents) its.is ∙ sym (ap extents_in its.there)

-- the extents of the first form are the entry's
pub first_extents : (r : Resolved) (f : Form) → FormsAreFound → slice_get r.forms 0 ≡ Some f → f.extents ≡ extents_in (slice_get r.found.entries 0)
first_extents r f law there = ∥∥₁_elim r.walked (Coded-set (coded_list (coded_list coded_ℕ)) _ _) (walked_extents r f law there)

-- ---- whole arrays

whole_by : (n : ℕ) (ns : List ℕ) (spans : List Span) (b : Bool) (o : Option (List Span)) → with_front (if b then Some (record { lo = 0; hi = n }) else None) o ≡ Some spans
    → ((rest : List Span) → o ≡ Some rest → whole ns ≡ rest) → whole (n ∷ ns) ≡ spans
whole_by n ns spans true (Some rest) is next =
    let all : record { lo = 0; hi = n } ∷ rest ≡ spans = same_some (record { lo = 0; hi = n } ∷ rest) spans is in
    ap (λ (l : List Span). record { lo = 0; hi = n } ∷ l) (next rest refl) ∙ all
whole_by n ns spans true None is next = cc
whole_by n ns spans false o is next = cc

pub whole_is : (extents : List ℕ) (spans : List Span) → wholes extents ≡ Some spans → whole extents ≡ spans
whole_is [] spans is = same_some [] spans is
whole_is (n ∷ ns) spans is = whole_by n ns spans (nat_lt 0 n) (wholes ns) is (λ rest there. whole_is ns rest there)
