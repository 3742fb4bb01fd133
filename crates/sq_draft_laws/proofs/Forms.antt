-- What is known of each form of a draft: its body, its homes and its buffers.
use Rattle.std.proofs.Common.{◌≡◌, ℕ, zero, suc, ◌+◌, ◌<◌, ◌≤◌, List, [], ◌∷◌, length, map}
use Rattle.std.proofs.Common.{get_or, Some, None, refl, sym, ap, ◌∙◌, arith, length-append}
use Rattle.std.specs.Prelude.{slice_get}
use Rattle.std.specs.List.{range_with_len}
use Rattle.std.proofs.lemmas.Option.{slice_get_within}
use Rattle.sq_ast.specs.declared.program.Variant.{Variant}
use Rattle.sq_mapping.specs.declared.mapping.Instance.{Instance}
use Rattle.sq_leaf.specs.declared.shape.Shape.{Shape}
use Rattle.sq_forms.specs.declared.form.Found.{Found}
use Rattle.sq_forms.specs.declared.form.LocalArray.{LocalArray}
use Rattle.sq_forms.specs.Resolving.{Resolving}
use Rattle.sq_forms.specs.Steps.{Key}
use Rattle.sq_form_laws.specs.Served.{FormRuns}
use Rattle.sq_form_laws.proofs.FitHold.{forms_run}
use Rattle.sq_form_laws.proofs.RanHold.{as_many_forms}
use Rattle.sq_spec.specs.declared.body.FormBody.{FormBody}
use Rattle.sq_spec.specs.declared.resolved.Resolved.{Resolved}
use Rattle.sq_spec.specs.Bodies.{body_of, found_body, no_body}
use Rattle.sq_spec.specs.Works.{shapes_of}
use Rattle.sq_term.specs.Terms.{body_in}
use Rattle.sq_program_laws.specs.Sizes.{IsSized}
use Rattle.sq_program_laws.proofs.RowsHold.{arrays_are}
use Rattle.sq_program_laws.proofs.Shapes.{dims_are}
use Rattle.sq_program_laws.proofs.Whole.{arrays_are_sized}
use Rattle.sq_homes.specs.Chosen.Forms.{bodies_of}
use Rattle.sq_draft_laws.specs.Choosing.{Walked}
use Rattle.sq_draft_laws.proofs.Programs.{bodies_are_tables}
use Rattle.sq_draft_laws.proofs.Standing.{map_length}

-- ---- lists

pub map_range_at : {A : Type 0} (f : ℕ → A) (a n k : ℕ) → k < n → slice_get (map f (range_with_len a n)) k
    ≡ Some (f (a + k))
map_range_at f a zero k h = absurd (omega (arith, h))
map_range_at f a (suc n) zero h = let e : a ≡ a + 0 = omega arith in ap (λ x. Some (f x)) e
map_range_at f a (suc n) (suc k) h = let e : a + 1 + k ≡ a + suc k
    = omega arith in map_range_at f (a + 1) n k (omega (arith, h)) ∙ ap (λ x. Some (f x)) e

pub map_range_past : {A : Type 0} (f : ℕ → A) (a n k : ℕ) → n ≤ k → slice_get (map f (range_with_len a n)) k ≡ None
map_range_past f a zero k h = refl
map_range_past f a (suc n) zero h = absurd (omega (arith, h))
map_range_past f a (suc n) (suc k) h = map_range_past f (a + 1) n k (omega (arith, h))

pub none_from : {A : Type 0} (xs : List A) (k : ℕ) → slice_get xs k ≡ None → length xs ≤ k
none_from [] k h = omega arith
none_from (x ∷ xs) zero h = absurd (cc h)
none_from (x ∷ xs) (suc k) h = let e = none_from xs k h in omega (arith, e)

pub past_or : {A : Type 0} (xs : List A) (i : ℕ) (d : A) → slice_get xs i ≡ None → get_or xs i d ≡ d
past_or [] i d h = refl
past_or (x ∷ xs) zero d h = absurd (cc h)
past_or (x ∷ xs) (suc i) d h = past_or xs i d h

-- ---- forms

abbrev pub tasks : Resolved → List Variant
tasks r = r.typed.now.tasks

abbrev pub instances : Resolved → List Instance
instances r = r.mapping.now.instances

abbrev pub resolving : Resolved → Resolving
resolving r = record { found = r.found.entries; forms = r.forms; uses = r.uses }

abbrev pub body_at : Resolved → ℕ → FormBody
body_at r = body_of r.typed.now.tasks r.mapping.now.instances r.found.entries

module _ (r : Resolved) (w : Walked r) where
  pub many_forms : length r.found.entries ≡ length r.forms
  many_forms = as_many_forms (tasks r) r.mapping.now (resolving r) w.through

  pub bodies_are : (k : ℕ) → body_in (bodies_of r) k ≡ body_at r k
  bodies_are = bodies_are_tables as_many_forms r

  pub run_of : (k : ℕ) (form : Key × Found) → slice_get r.found.entries k ≡ Some form
      → FormRuns r.typed.now r.mapping.now (resolving r) k form.1
  run_of k form there = forms_run r.typed.now r.machine.now.levels r.mapping.now w.faultless w.read (resolving r)
      w.through k form there

  pub body_there : (k : ℕ) (form : Key × Found) → slice_get r.found.entries k ≡ Some form → slice_get (bodies_of r) k
      ≡ Some (body_at r k)
  body_there k form there =
      let less = slice_get_within r.found.entries k form there in
      let many = many_forms in
      let e : 0 + k ≡ k = omega arith in
      map_range_at (body_at r) 0 (length r.forms) k (omega (arith, less, many)) ∙ ap (λ i. Some (body_at r i)) e

  pub no_body_there : (k : ℕ) → slice_get r.found.entries k ≡ None → slice_get (bodies_of r) k ≡ None
  no_body_there k none =
      let past = none_from r.found.entries k none in
      let many = many_forms in
      map_range_past (body_at r) 0 (length r.forms) k (omega (arith, past, many))

  pub no_body_at : (k : ℕ) → slice_get r.found.entries k ≡ None → body_at r k ≡ no_body
  no_body_at k none = ap (found_body r.found.entries (tasks r) (instances r) k) none

  pub sized : (k n : ℕ) (sh : Shape) → slice_get (body_at r k).arrays n ≡ Some sh → IsSized sh.extents
  sized = arrays_are_sized r.typed.now r.machine.now.levels r.mapping.now w.faultless w.read (resolving r) w.through

  -- a form has its parameters and its locals
  pub record HasArrays (k : ℕ) (f : Found) : Type 0 where
    pub locals : ℕ
    pub many : length (body_at r k).arrays ≡ length f.extents + locals

  pub arrays_of_form : (k : ℕ) (form : Key × Found) → slice_get r.found.entries k ≡ Some form → HasArrays k form.1
  arrays_of_form k form there =
      let run = run_of k form there in
      let is = arrays_are r.typed.now r.machine.now.levels r.mapping.now w.faultless w.read (resolving r) w.through k
      form there run in
      let dims = dims_are run.fits.variant form.1 run.ran.scope run.fits.many in
      let locals = map (λ (l : LocalArray). l.extents) run.ran.scope.locals in
      let all = length-append form.1.extents locals in
      let long = map_length (λ (s : Shape). s.extents) (shapes_of run.fits.variant form.1 run.ran.scope) in
      record {
        locals = length locals;
        many = ap length is ∙ (sym long ∙ (ap length dims ∙ all));
      }
