-- A need is small: a form has few arrays, of which none is large, and there are few forms.
use Rattle.std.proofs.Common.{◌≡◌, ◌⊎◌, inl, inr, ℕ, zero, suc, ◌+◌, ◌*◌, ◌≤◌, ◌==◌, Bool, true, false, List, []}
use Rattle.std.proofs.Common.{◌∷◌, ◌++◌, length, Option, Some, None, refl, sym, ap, subst, ◌∙◌, arith}
use Rattle.std.specs.Prelude.{slice_get, ◌^◌, if◌then◌else◌}
use Rattle.sq_num.specs.declared.Elem.{Elem}
use Rattle.sq_num.specs.declared.Elem.TheVariants.{Byte, Int, Long}
use Rattle.sq_num.specs.Elements.{width}
use Rattle.sq_rect.specs.Extents.{product}
use Rattle.sq_ast.specs.declared.program.Param.{Param}
use Rattle.sq_ast.specs.declared.program.Variant.{Variant}
use Rattle.sq_types.specs.Sites.{params_known, params_of as params_of_task}
use Rattle.sq_mapping.specs.declared.mapping.Instance.{Instance}
use Rattle.sq_leaf.specs.declared.shape.Shape.{Shape}
use Rattle.sq_forms.specs.declared.form.Caller.{Caller}
use Rattle.sq_forms.specs.declared.form.Form.{Form}
use Rattle.sq_forms.specs.declared.form.Found.{Found}
use Rattle.sq_forms.specs.declared.form.LocalArray.{LocalArray}
use Rattle.sq_forms.specs.Decls.{empty_scope, most_elements}
use Rattle.sq_forms.specs.Steps.{Key, most_forms}
use Rattle.sq_forms.specs.Resolving.{with_locals, params_of}
use Rattle.sq_form_laws.specs.Served.{FormRuns}
use Rattle.sq_form_laws.proofs.AnswerHold.{forms_are_found}
use Rattle.sq_form_laws.proofs.FitHold.{variant_parts}
use Rattle.sq_form_laws.proofs.RanHold.{few_found, as_many_forms}
use Rattle.sq_spec.specs.declared.resolved.Resolved.{Resolved}
use Rattle.sq_spec.specs.Works.{param_shapes, local_shapes, shapes_of}
use Rattle.sq_spec_laws.specs.Needs.{rounded, size_of, params_size, locals_size, variant_for, form_params, own_size}
use Rattle.sq_spec_laws.specs.Needs.{Ended, end_at, callers_end, end_of, ends_from, ends, EndsAt}
use Rattle.sq_draft_laws.specs.Choosing.{Walked}
use Rattle.sq_draft_laws.proofs.Forms.{resolving, run_of}
use Rattle.sq_draft_laws.specs.ProgramLaws.Sizes.{IsSized}
use Rattle.sq_draft_laws.proofs.ProgramLaws.RowsHold.{arrays_are}
use Rattle.sq_draft_laws.proofs.ProgramLaws.Shapes.{param_shape}
use Rattle.sq_draft_laws.proofs.ProgramLaws.Whole.{arrays_are_sized}
use Rattle.sq_plan_good.specs.Needed.{NeedsAreSmall}
use Rattle.sq_plan_good.proofs.Few.{few_params, few_locals, params_add}

-- ---- the arrays of a form

some_same : {A : Type 0} (x y : A) → Some x ≡ Some y → x ≡ y
some_same x y h = cc h

rounded_near : (n : ℕ) → rounded n ≤ n + 7
rounded_near n = omega arith

most_large : (n : ℕ) → n ≤ most_elements → 8 * n + 7 ≤ 1073741824
unfolding most_elements
most_large n h = omega (arith, h)

width_small : (e : Elem) (n : ℕ) → width e * n ≤ 8 * n
width_small Byte n = omega arith
width_small Int n = omega arith
width_small Long n = omega arith

size_small : (e : Elem) (ns : List ℕ) → product ns ≤ most_elements → size_of e ns ≤ 1073741824
size_small e ns h =
    let a = rounded_near (width e * product ns) in
    let b = most_large (product ns) h in
    let c = width_small e (product ns) in
    omega (arith, a, b, c)

params_small : (ps : List Param) (es : List (List ℕ)) (flags : List Bool)
    → ((i : ℕ) (p : Param) (e : List ℕ) → slice_get ps i ≡ Some p → slice_get es i ≡ Some e
    → size_of p.elem e ≤ 1073741824)
    → params_size ps es flags ≤ length ps * 1073741824
params_small [] es flags f = omega arith
params_small (p ∷ ps) [] flags f = omega arith
params_small (p ∷ ps) (e ∷ es) [] f = omega arith
params_small (p ∷ ps) (e ∷ es) (true ∷ flags) f =
    let rest = params_small ps es flags (λ i q d u v. f (suc i) q d u v) in omega (arith, rest)
params_small (p ∷ ps) (e ∷ es) (false ∷ flags) f =
    let one = f 0 p e refl refl in
    let rest = params_small ps es flags (λ i q d u v. f (suc i) q d u v) in omega (arith, one, rest)

locals_small : (ls : List LocalArray)
    → ((i : ℕ) (l : LocalArray) → slice_get ls i ≡ Some l → size_of l.elem l.extents ≤ 1073741824)
    → locals_size ls ≤ length ls * 1073741824
locals_small [] f = omega arith
locals_small (l ∷ ls) f =
    let one = f 0 l refl in
    let rest = locals_small ls (λ i k u. f (suc i) k u) in omega (arith, one, rest)

behind_at : {A : Type 0} (xs ys : List A) (j : ℕ) → slice_get (xs ++ ys) (length xs + j) ≡ slice_get ys j
behind_at [] ys j = let e : 0 + j ≡ j = omega arith in ap (slice_get ys) e
behind_at (x ∷ xs) ys j = let e : suc (length xs) + j ≡ suc (length xs + j) = omega arith in
    ap (slice_get (x ∷ (xs ++ ys))) e ∙ behind_at xs ys j

abbrev shape_at : LocalArray → Shape
shape_at l = record { elem = l.elem; extents = l.extents }

local_there : (ls : List LocalArray) (j : ℕ) (l : LocalArray) → slice_get ls j ≡ Some l
    → slice_get (local_shapes ls) j ≡ Some (shape_at l)
local_there [] j l h = absurd (cc h)
local_there (k ∷ ls) zero l h = let e : k ≡ l = cc h in ap (λ (x : LocalArray). Some (shape_at x)) e
local_there (k ∷ ls) (suc j) l h = local_there ls j l h

module _ (r : Resolved) (w : Walked r) (k : ℕ) (f : Key × Found) (there : slice_get r.found.entries k ≡ Some f) where
  abbrev run : FormRuns r.typed.now r.mapping.now (resolving r) k f.1
  run = run_of r w k f there

  abbrev v : Variant
  v = run.fits.variant

  abbrev locals : List LocalArray
  locals = run.ran.scope.locals

  abbrev own : Form
  own = with_locals f.1 locals

  sized : (n : ℕ) (sh : Shape) → slice_get (shapes_of v f.1 run.ran.scope) n ≡ Some sh → IsSized sh.extents
  sized n sh h =
      arrays_are_sized r.typed.now r.machine.now.levels r.mapping.now w.faultless w.read (resolving r) w.through k n sh
      (ap (λ (l : List Shape). slice_get l n) (arrays_are r.typed.now r.machine.now.levels r.mapping.now w.faultless
      w.read (resolving r) w.through k f there run) ∙ h)

  param_small : (i : ℕ) (p : Param) (e : List ℕ) → slice_get v.params i ≡ Some p → slice_get f.1.extents i ≡ Some e
      → size_of p.elem e ≤ 1073741824
  param_small i p e at dims =
      let to = param_shape v f.1 run.ran.scope i p e at dims in
      let its = sized i to.to to.there in
      size_small p.elem e (subst (λ (d : List ℕ). product d ≤ most_elements) to.extents its.few)

  local_small : (j : ℕ) (l : LocalArray) → slice_get locals j ≡ Some l → size_of l.elem l.extents ≤ 1073741824
  local_small j l at =
      let its = sized (length (param_shapes v.params 0 f.1.extents) + j) (shape_at l)
      (behind_at (param_shapes v.params 0 f.1.extents) (local_shapes locals) j ∙ local_there locals j l at) in
      size_small l.elem l.extents its.few

  few_arrays : length v.params + length locals ≤ 32
  few_arrays =
      let x = run.fits.instance in
      let parts = variant_parts r.typed.now r.machine.now.levels r.mapping.now w.faultless w.read x.task x.kind v run.fits.runs in
      let few = few_params (params_of_task r.typed.now.tasks v.task) v.params 0 [] parts.params_ (omega arith) in
      let params : length v.params ≤ 32 = omega (arith, few) in
      let none = params_add v.params 0 f.1.extents empty_scope run.fits.begun run.fits.binds in
      let all = few_locals x.tunings v.decls run.fits.begun run.ran.scope (length v.params) (params_known v.params [])
      parts.decls_ params run.ran.declared in
      omega (arith, none, all)

  params_are : form_params r.typed.now.tasks r.mapping.now.instances own ≡ v.params
  params_are = ap params_of (ap (variant_for r.typed.now.tasks) run.fits.there ∙ run.fits.runs)

  pub own_small : own_size r.typed.now.tasks r.mapping.now.instances own ≤ 68719476736
  own_small =
      let a = params_small v.params f.1.extents f.1.in_place param_small in
      let b = locals_small locals local_small in
      let c = few_arrays in
      let e = ap (λ (ps : List Param). params_size ps f.1.extents f.1.in_place + locals_size locals) params_are in
      omega (arith, a, b, c, e)

-- ---- ends

abbrev AreSmall : ℕ → List Ended → Type 0
AreSmall m done = (i : ℕ) (e : Ended) → slice_get done i ≡ Some e → e.1 ≤ m

one_more : (m n : ℕ) (done : List Ended) (x : Ended) → m ≤ n → AreSmall m done → x.1 ≤ n → AreSmall n (done ++ x ∷ [])
one_more m n [] x l h s zero e g = let is = ap (λ (p : Ended). p.1) (some_same x e g) in omega (arith, s, is)
one_more m n [] x l h s (suc i) e g = absurd (cc g)
one_more m n (y ∷ done) x l h s zero e g = let z = h 0 e g in omega (arith, l, z)
one_more m n (y ∷ done) x l h s (suc i) e g = one_more m n done x l (λ j d u. h (suc j) d u) s i e g

end_small : (m level : ℕ) (o : Option Ended) → ((e : Ended) → o ≡ Some e → e.1 ≤ m) → end_at level o ≤ m
end_small m level None h = omega arith
end_small m level (Some e) h = by (e.0.level == level)
  where
    by : (b : Bool) → (if b then e.1 else 0) ≤ m
    by true = h e refl
    by false = omega arith

callers_small : (m level : ℕ) (done : List Ended) (c : Option Caller) → AreSmall m done → callers_end done level c ≤ m
callers_small m level done None h = omega arith
callers_small m level done (Some c) h = end_small m level (slice_get done c.form) (λ e g. h c.form e g)

module _ (variants : List Variant) (instances : List Instance) where
  abbrev OwnSmall : List Form → Type 0
  OwnSmall fs = (i : ℕ) (f : Form) → slice_get fs i ≡ Some f → own_size variants instances f ≤ 68719476736

  ends_small : (fs : List Form) (done : List Ended) (n : ℕ) → OwnSmall fs → AreSmall (n * 68719476736) done
      → AreSmall ((n + length fs) * 68719476736) (ends_from variants instances done fs)
  ends_small [] done n own h i e g = let z = h i e g in omega (arith, z)
  ends_small (f ∷ fs) done n own h i e g =
      let x : Ended = (f, end_of variants instances done f) in
      let a = callers_small (n * 68719476736) f.level done f.caller h in
      let b = own 0 f refl in
      let next = one_more (n * 68719476736) (suc n * 68719476736) done x (omega arith) h (omega (arith, a, b)) in
      let z = ends_small fs (done ++ x ∷ []) (suc n) (λ j q u. own (suc j) q u) next i e g in
      omega (arith, z)

  all_small : (fs : List Form) → OwnSmall fs → AreSmall (length fs * 68719476736) (ends variants instances fs)
  all_small fs own i e g =
      let z = ends_small fs [] 0 own (λ j d u. absurd (cc u)) i e g in omega (arith, z)

-- ---- the forms of a program

few_forms : (n : ℕ) → n ≤ most_forms → n ≤ 4096
unfolding most_forms
few_forms n h = h

module _ (r : Resolved) (w : Walked r) where
  forms_small : OwnSmall r.typed.now.tasks r.mapping.now.instances r.forms
  forms_small i f at =
      let e = forms_are_found r.typed.now.tasks r.mapping.now (resolving r) w.through i f at in
      let run = run_of r w i e.found e.there in
      let same : with_locals e.found.1 run.ran.scope.locals ≡ f = some_same _ f (sym run.ran.kept ∙ at) in
      subst (λ (g : Form). own_size r.typed.now.tasks r.mapping.now.instances g ≤ 68719476736) same
      (own_small r w i e.found e.there)

  many_forms : length r.forms ≤ 4096
  many_forms =
      let a = few_forms (length r.found.entries) (few_found r.typed.now.tasks r.mapping.now (resolving r) w.through) in
      let b = as_many_forms r.typed.now.tasks r.mapping.now (resolving r) w.through in
      omega (arith, a, b)

pub needs_are_small : NeedsAreSmall
needs_are_small r w node n h = by h.is
  where
    by : (n ≡ 0) ⊎ EndsAt r.typed.now.tasks r.mapping.now.instances r.machine.now.nodes r.forms node n → n ≤ 2 ^ 48
    by (inl z) = omega (arith, z)
    by (inr e) =
        let a = all_small r.typed.now.tasks r.mapping.now.instances r.forms (forms_small r w) e.form e.ended e.there in
        let b = many_forms r w in
        let c = e.is in
        omega (arith, a, b, c)
