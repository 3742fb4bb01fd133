-- A leaf variant of a program without a fault is a program without a fault.
use Rattle.std.proofs.Common.{◌≡◌, ℕ, suc, ◌+◌, Bool, true, false, not, ◌&&◌, List, [], ◌∷◌, length, Option}
use Rattle.std.proofs.Common.{Some, None, refl, sym, ap, ◌∙◌, arith}
use Rattle.std.specs.Prelude.{slice_get, ◌==◌, nat_lt, if◌then◌else◌}
use Rattle.std.proofs.lemmas.Bool.Decides.{nat_tests}
use Rattle.sq_text.specs.declared.fault.Fault.{Fault}
use Rattle.sq_num.specs.declared.Elem.{Elem}
use Rattle.sq_num.specs.declared.Elem.TheVariants as elem
use Rattle.sq_ast.specs.declared.program.Body.{Body}
use Rattle.sq_ast.specs.declared.program.Body.TheVariants as body
use Rattle.sq_ast.specs.declared.program.Mode.{Mode}
use Rattle.sq_ast.specs.declared.program.Mode.TheVariants as mode
use Rattle.sq_ast.specs.declared.program.Param.{Param}
use Rattle.sq_ast.specs.declared.program.Variant.{Variant}
use Rattle.sq_mapping.proofs.Same.{itself}
use Rattle.sq_types.specs.Known.{Known}
use Rattle.sq_types.specs.Table.{most_arrays, same_mode, same_elem, count_of}
use Rattle.sq_types.specs.Sites.{TypeFault, params_at, params_of, param_at, param_known, params_known, decls_known}
use Rattle.sq_types.specs.Sites.{with_param}
use Rattle.sq_types.specs.Sound as sound
use Rattle.sq_types.specs.Sound.{is_sound, is_sound_variant, is_as_first, is_new, agrees}
use Rattle.sq_types.proofs.Soundness.{unsound_with_fault}

both : (a b : Bool) → (a && b) ≡ true → (a ≡ true) × (b ≡ true)
both true b h = (refl, h)
both false b h = absurd (cc h)

joined : (a b : Bool) → a ≡ true → b ≡ true → (a && b) ≡ true
joined true true e f = refl
joined true false e f = f
joined false b e f = e

own_count : (n : ℕ) → (n == n) ≡ true
own_count n = grind (arith, nat_tests)

own_mode : (m : Mode) → same_mode m m ≡ true
own_mode mode.Input = refl
own_mode mode.Output = refl
own_mode mode.Both = refl

own_elem : (e : Elem) → same_elem e e ≡ true
own_elem elem.Byte = refl
own_elem elem.Int = refl
own_elem elem.Long = refl

-- a parameter is as itself
as_itself : (p : Param) → is_as_first (Some p) p ≡ true
as_itself p =
    joined (length p.extents == length p.extents) (same_mode p.mode p.mode && same_elem p.elem p.elem)
    (own_count (length p.extents))
    (joined (same_mode p.mode p.mode) (same_elem p.elem p.elem) (own_mode p.mode) (own_elem p.elem))

module _ (first : Option (List Param)) (all : List Param) where
  own_param : (i : ℕ) (p : Param) (known : Known) → slice_get all i ≡ Some p
      → sound.is_sound_param (param_at first i) i p known ≡ true
      → sound.is_sound_param (param_at (Some all) i) i p known ≡ true
  own_param i p known at h =
      let a = both (is_new p.name known && is_as_first (param_at first i) p && nat_lt i most_arrays)
      (sound.are_sound_extents p.extents (with_param known p)) h in
      let b = both (is_new p.name known && is_as_first (param_at first i) p) (nat_lt i most_arrays) a.0 in
      let c = both (is_new p.name known) (is_as_first (param_at first i) p) b.0 in
      let d : is_as_first (param_at (Some all) i) p ≡ true = ap (λ o. is_as_first o p) at ∙ as_itself p in
      joined (is_new p.name known && is_as_first (param_at (Some all) i) p && nat_lt i most_arrays)
      (sound.are_sound_extents p.extents (with_param known p))
      (joined (is_new p.name known && is_as_first (param_at (Some all) i) p) (nat_lt i most_arrays)
      (joined (is_new p.name known) (is_as_first (param_at (Some all) i) p) c.0 d) b.1) a.1

  -- parameters that are sound beside those of the task's first variant are so beside their own
  own_params : (ps : List Param) (i : ℕ) (known : Known)
      → ((j : ℕ) (p : Param) → slice_get ps j ≡ Some p → slice_get all (i + j) ≡ Some p)
      → sound.are_sound_params first i ps known ≡ true → sound.are_sound_params (Some all) i ps known ≡ true
  own_params [] i known at h = refl
  own_params (p ∷ ps) i known at h =
      let a = both (sound.is_sound_param (param_at first i) i p known)
      (sound.are_sound_params first (i + 1) ps (param_known p known)) h in
      let z : i + 0 ≡ i = omega arith in
      joined (sound.is_sound_param (param_at (Some all) i) i p known)
      (sound.are_sound_params (Some all) (i + 1) ps (param_known p known))
      (own_param i p known (sym (ap (slice_get all) z) ∙ at 0 p refl) a.0)
      (own_params ps (i + 1) (param_known p known)
      (λ j q g. let l : i + suc j ≡ i + 1 + j = omega arith in sym (ap (slice_get all) l) ∙ at (suc j) q g) a.1)

-- the parameters of the only variant
alone_params : (v : Variant) → params_of (v ∷ []) v.task ≡ Some v.params
alone_params v = ap (λ b. params_at (v ∷ []) (if b then Some 0 else None)) (itself v.task)

-- what is asked of the body of a leaf names no task
leaf_body : (tasks : List Variant) (v : Variant) (list : _) (known : Known) → v.body ≡ body.Leaf list
    → sound.is_sound_body tasks v.body known ≡ true → sound.is_sound_body (v ∷ []) v.body known ≡ true
leaf_body tasks v list known e h =
    ap (λ (b : Body). sound.is_sound_body (v ∷ []) b known) e
    ∙ (sym (ap (λ (b : Body). sound.is_sound_body tasks b known) e) ∙ h)

and_true : (b : Bool) → b ≡ true → (b && true) ≡ true
and_true true h = refl
and_true false h = h

module _ (tasks : List Variant) (v : Variant) (list : _) (is_leaf : v.body ≡ body.Leaf list)
    (params : sound.are_sound_params (params_of tasks v.task) 0 v.params [] ≡ true)
    (decls : sound.are_sound_decls (length v.params) v.decls (params_known v.params []) ≡ true)
    (inside : sound.is_sound_body tasks v.body (decls_known v.decls (params_known v.params [])) ≡ true) where
  own_variant : is_sound_variant (v ∷ []) false v ≡ true
  own_variant =
      let known = params_known v.params [] in
      let counts : agrees (count_of (params_of (v ∷ []) v.task)) (length v.params) ≡ true
      = ap (λ o. agrees (count_of o) (length v.params)) (alone_params v) ∙ own_count (length v.params) in
      let ps : sound.are_sound_params (params_of (v ∷ []) v.task) 0 v.params [] ≡ true
      = ap (λ o. sound.are_sound_params o 0 v.params []) (alone_params v)
      ∙ own_params (params_of tasks v.task) v.params v.params 0 []
      (λ j p g. let z : j ≡ 0 + j = omega arith in ap (slice_get v.params) (sym z) ∙ g) params in
      let bs = leaf_body tasks v list (decls_known v.decls known) is_leaf inside in
      joined (not false && agrees (count_of (params_of (v ∷ []) v.task)) (length v.params)) _
      (joined (not false) (agrees (count_of (params_of (v ∷ []) v.task)) (length v.params)) refl counts)
      (joined (sound.are_sound_params (params_of (v ∷ []) v.task) 0 v.params []) _ ps
      (joined (sound.are_sound_decls (length v.params) v.decls known)
      (sound.is_sound_body (v ∷ []) v.body (decls_known v.decls known)) decls bs))

  pub faultless_alone : (f : Fault) → TypeFault (record { tasks = v ∷ [] }) f → ⊥
  faultless_alone f h =
      let sound_ : is_sound (record { tasks = v ∷ [] }) ≡ true
      = and_true (is_sound_variant (v ∷ []) false v) own_variant in
      absurd (cc (sym sound_ ∙ unsound_with_fault (record { tasks = v ∷ [] }) f h))
