-- The buffers of a draft are named by words: the instance of a form, and an array of its variant.
use Rattle.std.proofs.Common.{◌≡◌, ℕ, zero, suc, ◌+◌, ◌<◌, ◌≤◌, Bool, true, false, List, [], ◌∷◌, ◌++◌, map, length, get_or, slice_get, Option, Some, None, if◌then◌else◌, refl, sym, ap, ◌∙◌, subst, arith, length-append}
use Rattle.std.specs.List.{filter, range_with_len}
use Rattle.sq_text.specs.Names.{Bytes}
use Rattle.sq_ast.specs.declared.program.Decl.{Decl}
use Rattle.sq_ast.specs.declared.program.Decl.TheVariants as decl
use Rattle.sq_ast.specs.declared.program.Param.{Param}
use Rattle.sq_ast.specs.declared.program.Variant.{Variant}
use Rattle.sq_mapping.specs.declared.mapping.Instance.{Instance}
use Rattle.sq_leaf.specs.Leaf.{local_names, arrays_of}
use Rattle.sq_forms.specs.declared.form.Found.{Found}
use Rattle.sq_forms.specs.declared.form.LocalArray.{LocalArray}
use Rattle.sq_forms.specs.Decls.{empty_scope}
use Rattle.sq_forms.specs.Steps.{Key}
use Rattle.sq_forms.specs.Tables.{at_index, first_of_kind, variant_of}
use Rattle.sq_form_laws.specs.Served.{FormRuns}
use Rattle.sq_ir.specs.declared.plan.Buffer.{Buffer}
use Rattle.sq_spec.specs.declared.body.FormBody.{FormBody}
use Rattle.sq_spec.specs.declared.resolved.Resolved.{Resolved}
use Rattle.sq_spec.specs.Works.{param_shapes, local_shapes}
use Rattle.sq_spec_laws.specs.Needs.{variant_for}
use Rattle.sq_meant.specs.PlanGood.DraftLaws.Choosing.{Walked, MayBeChosen}
use Rattle.sq_meant.specs.PlanGood.Homes.Chosen.declared.choice.Choice.{Choice}
use Rattle.sq_meant.specs.PlanGood.Homes.Chosen.Forms.{bodies_of, choice_in, instance_by, instance_at, name_by}
use Rattle.sq_meant.specs.PlanGood.Homes.Drafts.{buffers_from, buffers_of, buffer_at, names_by}
use Rattle.sq_meant.specs.PlanGood.Homes.Chosen.Arrays.{params_where, hoisted_from, hoisted, others, again}
use Rattle.sq_meant.specs.PlanGood.Homes.Chosen.Arrays.{locals_count, standing, is_moved, deepest}
use Rattle.sq_meant.proofs.PlanGood.DraftLaws.Fitting.{homes_fit}
use Rattle.sq_meant.proofs.PlanGood.DraftLaws.Forms.{resolving, body_at, run_of, body_there, no_body_there}
use Rattle.sq_meant.proofs.PlanGood.DraftLaws.Hoisted.{is_form, params_many}
use Rattle.sq_meant.proofs.PlanGood.DraftLaws.ProgramLaws.RowsHold.{arrays_are}
use Rattle.sq_filed_laws.specs.LayoutLaws.Readable.{IsWord}
use Rattle.sq_compiled_laws.proofs.Each.{Each, at, both, every, to_map}
use Rattle.sq_compiled_laws.proofs.FormLocals.{declared_many, params_add}
use Rattle.sq_compiled_laws.proofs.ProgramWords.{IsParam, IsDecl, HasWords}

-- ---- the arrays that stand in buffers

filtered : (P : ℕ → Type 0) (test : ℕ → Bool) (xs : List ℕ) → Each P xs → Each P (filter test xs)
filtered P test [] h = tt
filtered P test (x ∷ xs) h = by (test x) (filtered P test xs h.1)
  where
    by : (b : Bool) → Each P (filter test xs) → Each P (if b then x ∷ filter test xs else filter test xs)
    by true more = (h.0, more)
    by false more = more

ranged : (n a k : ℕ) → a + k ≤ n → Each (λ i. i < n) (range_with_len a k)
ranged n a zero h = tt
ranged n a (suc k) h = (omega (arith, h), ranged n (a + 1) k (omega (arith, h)))

module _ (n : ℕ) (c : Choice) (few : length c.in_place ≤ n) where
  abbrev Below : List ℕ → Type 0
  Below xs = Each (λ i. i < n) xs

  chosen_below : (test : ℕ → Bool) → Below (params_where test c)
  chosen_below test = filtered (λ i. i < n) test (range_with_len 0 (length c.in_place)) (ranged n 0 (length c.in_place) (omega (arith, few)))

  hoisted_below : (d : ℕ) → Below (hoisted_from d c)
  hoisted_below zero = tt
  hoisted_below (suc d) = both (λ i. i < n) (params_where _ c) (hoisted_from d c) (chosen_below _) (hoisted_below d)

  again_below : Below (again c)
  again_below = by c.overlaps
    where
      by : (b : Bool) → Below (if b then others c else [])
      by true = chosen_below (is_moved c)
      by false = tt

standing_below : (b : FormBody) (c : Choice) → length c.in_place ≤ length b.arrays → Each (λ i. i < length b.arrays) (standing b c)
standing_below b c few =
    let n = length b.arrays in
    let P : ℕ → Type 0 = λ i. i < n in
    let locals = range_with_len (length c.in_place) (locals_count b.arrays c) in
    both P (hoisted c) (others c ++ (again c ++ locals)) (hoisted_below n c few (deepest c.leaves))
    (both P (others c) (again c ++ locals) (chosen_below n c few (is_moved c))
    (both P (again c) locals (again_below n c few) (ranged n (length c.in_place) (locals_count b.arrays c) (omega (arith, few)))))

-- ---- the names of a variant's arrays

local_words : (ds : List Decl) → Each IsDecl ds → Each IsWord (local_names ds)
local_words [] h = tt
local_words (decl.Tunable place name ∷ ds) h = local_words ds h.1
local_words (decl.List place name ∷ ds) h = local_words ds h.1
local_words (decl.Local place elem name es ∷ ds) h = (h.0, local_words ds h.1)
local_words (decl.Rchop place name array sizes ∷ ds) h = local_words ds h.1
local_words (decl.Ichop place name array starts ends ∷ ds) h = local_words ds h.1

pub array_words : (v : Variant) → HasWords v → Each IsWord (arrays_of v)
array_words v h =
    both IsWord (map (λ (p : Param). p.name) v.params) (local_names v.decls)
    (to_map IsWord (λ (p : Param). p.name) v.params (every IsParam (λ (p : Param). IsWord p.name) (λ p i. i.name) v.params h.params))
    (local_words v.decls h.decls)

word_at : (ws : List Bytes) → Each IsWord ws → (i : ℕ) → i < length ws → IsWord (get_or ws i [])
word_at [] h i lt = absurd (omega (arith, lt))
word_at (w ∷ ws) h zero lt = h.0
word_at (w ∷ ws) h (suc i) lt = word_at ws h.1 i (omega (arith, lt))

long : {A B : Type 0} (f : A → B) (xs : List A) → length (map f xs) ≡ length xs
long f [] = refl
long f (x ∷ xs) = ap suc (long f xs)

many_params : (ps : List Param) (i : ℕ) (es : List (List ℕ)) → length (param_shapes ps i es) ≡ length ps
many_params [] i es = refl
many_params (p ∷ ps) i es = ap suc (many_params ps (i + 1) es)

many_locals : (ls : List LocalArray) → length (local_shapes ls) ≡ length ls
many_locals [] = refl
many_locals (l ∷ ls) = ap suc (many_locals ls)

-- ---- a form's buffers

pub record IsNamed (b : Buffer) : Type 0 where
  pub instance : IsWord b.instance
  pub array : IsWord b.array

pub variant_there : (P : Variant → Type 0) (tasks : List Variant) (task : Bytes) (kind : _) (v : Variant) → Each P tasks
    → variant_of tasks task kind ≡ Some v → P v
variant_there P tasks task kind v h e = by (first_of_kind kind 0 tasks task) refl e
  where
    by : (o : Option ℕ) → first_of_kind kind 0 tasks task ≡ o
        → at_index tasks o ≡ Some v → P v
    by None g k = absurd (cc k)
    by (Some i) g k = at P tasks i v h k

module _ (r : Resolved) (w : Walked r) (choices : List Choice) (may : MayBeChosen r choices)
    (tasks_named : Each HasWords r.typed.now.tasks) (instances_named : Each (λ (x : Instance). IsWord x.name) r.mapping.now.instances)
  where
    module _ (k : ℕ) (form : Key × Found) (found : slice_get r.found.entries k ≡ Some form) where
      abbrev run : FormRuns r.typed.now r.mapping.now (resolving r) k form.1
      run = run_of r w k form found

      abbrev v : Variant
      v = run.fits.variant

      instance_is : instance_at r k ≡ Some run.fits.instance
      instance_is = ap (instance_by r.mapping.now.instances) run.ran.kept ∙ run.fits.there

      variant_is : variant_for r.typed.now.tasks (instance_at r k) ≡ Some v
      variant_is = ap (variant_for r.typed.now.tasks) instance_is ∙ run.fits.runs

      v_named : HasWords v
      v_named = variant_there HasWords r.typed.now.tasks run.fits.instance.task run.fits.instance.kind v tasks_named run.fits.runs

      -- it has as many arrays as its variant names
      as_many : length (body_at r k).arrays ≡ length (arrays_of v)
      as_many =
          let is = ap length (arrays_are r.typed.now r.machine.now.levels r.mapping.now w.faultless w.read (resolving r) w.through k form found run) in
          let params = map (λ (p : Param). p.name) v.params in
          let shapes = param_shapes v.params 0 form.1.extents in
          let locals = run.ran.scope.locals in
          let a = length-append shapes (local_shapes locals) in
          let b = length-append params (local_names v.decls) in
          let c = many_params v.params 0 form.1.extents in
          let d = many_locals locals in
          let e = long (λ (p : Param). p.name) v.params in
          let f = declared_many run.fits.instance.tunings v.decls run.fits.begun run.ran.scope run.ran.declared in
          let g = params_add v.params 0 form.1.extents empty_scope run.fits.begun run.fits.binds in
          omega (arith, is, a, b, c, d, e, f, g)

      few_flags : length (choice_in choices k).in_place ≤ length (body_at r k).arrays
      few_flags =
          let fit = homes_fit r w choices may k form found in
          let its = is_form r choices may k (body_at r k) (body_there r w k form found) in
          let params = params_many r choices may k (body_at r k) its in
          let all = fit.locals in
          omega (arith, params, all)

      named_at : (i : ℕ) → i < length (body_at r k).arrays → IsNamed (buffer_at r k (body_at r k) i)
      named_at i lt =
          let many = as_many in
          record {
            instance = subst (λ (o : Option Instance). IsWord (name_by o)) (sym instance_is)
                (at (λ (x : Instance). IsWord x.name) r.mapping.now.instances form.1.instance run.fits.instance instances_named run.fits.there);
            array = subst (λ (o : Option Variant). IsWord (get_or (names_by o) i [])) (sym variant_is)
                (word_at (arrays_of v) (array_words v v_named) i (omega (arith, lt, many)));
          }

      standing_named : Each IsNamed (map (buffer_at r k (body_at r k)) (standing (body_at r k) (choice_in choices k)))
      standing_named =
          to_map IsNamed (buffer_at r k (body_at r k)) (standing (body_at r k) (choice_in choices k))
          (every (λ i. i < length (body_at r k).arrays) (λ i. IsNamed (buffer_at r k (body_at r k) i)) named_at
          (standing (body_at r k) (choice_in choices k))
          (standing_below (body_at r k) (choice_in choices k) few_flags))

    form_named : (k : ℕ) (b : FormBody) → slice_get (bodies_of r) k ≡ Some b
        → Each IsNamed (map (buffer_at r k b) (standing b (choice_in choices k)))
    form_named k b e = by (slice_get r.found.entries k) refl
      where
        by : (o : Option (Key × Found)) → slice_get r.found.entries k ≡ o → Each IsNamed (map (buffer_at r k b) (standing b (choice_in choices k)))
        by None g = let no : None ≡ Some b = sym (no_body_there r w k g) ∙ e in absurd (cc no)
        by (Some form) g =
            let both_are : Some (body_at r k) ≡ Some b = sym (body_there r w k form g) ∙ e in
            let is : body_at r k ≡ b = cc both_are in
            subst (λ (x : FormBody). Each IsNamed (map (buffer_at r k x) (standing x (choice_in choices k)))) is (standing_named k form g)

    from_named : (k : ℕ) (bs : List FormBody) → ((f : ℕ) (b : FormBody) → slice_get bs f ≡ Some b
        → Each IsNamed (map (buffer_at r (k + f) b) (standing b (choice_in choices (k + f))))) → Each IsNamed (buffers_from r choices k bs)
    from_named k [] h = tt
    from_named k (b ∷ bs) h =
        let first : k + 0 ≡ k = omega arith in
        both IsNamed (map (buffer_at r k b) (standing b (choice_in choices k))) (buffers_from r choices (suc k) bs)
        (subst (λ (j : ℕ). Each IsNamed (map (buffer_at r j b) (standing b (choice_in choices j)))) first (h 0 b refl))
        (from_named (suc k) bs (λ f x e.
        let next : k + suc f ≡ suc k + f = omega arith in
        subst (λ (j : ℕ). Each IsNamed (map (buffer_at r j x) (standing x (choice_in choices j)))) next (h (suc f) x e)))

    pub buffers_named : Each IsNamed (buffers_of r choices)
    buffers_named = from_named 0 (bodies_of r) (λ f b e.
        let at_zero : f ≡ 0 + f = omega arith in
        subst (λ (j : ℕ). Each IsNamed (map (buffer_at r j b) (standing b (choice_in choices j)))) at_zero (form_named f b e))
