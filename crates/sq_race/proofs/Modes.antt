-- A variant of a program without a fault: its statements, and the modes of its parameters, which are those of its
-- task's first variant.
use Rattle.std.proofs.Common.{◌≡◌, ℕ, zero, suc, ◌+◌, ◌<◌, ◌==◌, ◌&&◌, nat_lt, not, if◌then◌else◌, Bool, true, false, List, [], ◌∷◌, map, length, Option, Some, None, refl, sym, ◌∙◌, ap, subst, arith}
use Rattle.std.specs.Prelude.{slice_get}
use Rattle.std.specs.Option.{option_map_or}
use Rattle.std.proofs.lemmas.Bool.Decides.{nat_tests}
use Rattle.sq_text.specs.Names.{Bytes, same_name}
use Rattle.sq_ast.specs.declared.program.Body.TheVariants as body
use Rattle.sq_ast.specs.declared.program.Mode.{Mode}
use Rattle.sq_ast.specs.declared.program.Mode.TheVariants.{Input, Output, Both}
use Rattle.sq_ast.specs.declared.program.Param.{Param}
use Rattle.sq_ast.specs.declared.program.VariantKind.{VariantKind}
use Rattle.sq_ast.specs.declared.program.VariantKind.TheVariants as kind
use Rattle.sq_ast.specs.declared.program.Variant.{Variant}
use Rattle.sq_ast.specs.declared.stmt.Stmt.{Stmt}
use Rattle.sq_ast.specs.Forms as forms
use Rattle.sq_mapping.proofs.Same.{same}
use Rattle.sq_types.specs.Known.{Known}
use Rattle.sq_types.specs.Table as table
use Rattle.sq_types.specs.Table.{most_arrays, keeps_both, is_both, same_mode, same_elem}
use Rattle.sq_types.specs.Sites.{VariantKey, params_of, param_at, param_known, params_known, with_param, decls_known, is_seen, key_of, with_seen}
use Rattle.sq_types.specs.Sound.{agrees, is_new, is_as_first, are_sound_extents, is_sound_param, are_sound_params, are_sound_decls, is_sound_body, is_sound_variant, are_sound_variants}
use Rattle.sq_forms.specs.Args.{mode_of}
use Rattle.sq_ast.specs.Modes.{is_written}
use Rattle.sq_forms.specs.Tables.{first_of_kind, same_kind, variant_of, at_index}
use Rattle.sq_race.proofs.Wholes.{both}

some_same : {A : Type 0} (x y : A) → Some x ≡ Some y → x ≡ y
some_same x y h = cc h

is_equal : (m n : ℕ) → (m == n) ≡ true → m ≡ n
is_equal m n h = grind (arith, nat_tests)

-- ---- where a variant is found

-- it stands among the others, and has the task
record FoundAt (vs : List Variant) (task : Bytes) (i k : ℕ) : Type 0 where
  index : ℕ
  is : k ≡ i + index
  variant : Variant
  there : slice_get vs index ≡ Some variant
  named : task ≡ variant.task

module _ (its : VariantKind) (task : Bytes) where
  found_later : (v : Variant) (rest : List Variant) (i k : ℕ) → FoundAt rest task (suc i) k → FoundAt (v ∷ rest) task i k
  found_later v rest i k f =
      let z : suc i + f.index ≡ i + suc f.index = omega arith in
      record { index = suc f.index; is = f.is ∙ z; variant = f.variant; there = f.there; named = f.named }

  found_by : (v : Variant) (rest : List Variant) (i k : ℕ) (a b : Bool) → same_name task v.task ≡ b
      → (first_of_kind its (suc i) rest task ≡ Some k → FoundAt rest task (suc i) k)
      → (if a then (if b then Some i else first_of_kind its (suc i) rest task) else first_of_kind its (suc i) rest task) ≡ Some k → FoundAt (v ∷ rest) task i k
  found_by v rest i k true true e f h =
      let is : i ≡ k = cc h in
      let z : i ≡ i + 0 = omega arith in
      record { index = 0; is = sym is ∙ z; variant = v; there = refl; named = same task v.task e }
  found_by v rest i k true false e f h = found_later v rest i k (f h)
  found_by v rest i k false b e f h = found_later v rest i k (f h)

  found_at : (vs : List Variant) (i k : ℕ) → first_of_kind its i vs task ≡ Some k → FoundAt vs task i k
  found_at [] i k h = absurd (cc h)
  found_at (v ∷ rest) i k h = found_by v rest i k (same_kind v.kind its) (same_name task v.task) refl (found_at rest (suc i) k) h

pub record Among (vs : List Variant) (task : Bytes) (v : Variant) : Type 0 where
  pub index : ℕ
  pub there : slice_get vs index ≡ Some v
  pub named : task ≡ v.task

pub among : (vs : List Variant) (task : Bytes) (its : VariantKind) (v : Variant) → variant_of vs task its ≡ Some v → Among vs task v
among vs task its v h = by (first_of_kind its 0 vs task) refl h
  where
    by : (o : Option ℕ) → first_of_kind its 0 vs task ≡ o → at_index vs o ≡ Some v → Among vs task v
    by None e g = absurd (cc g)
    by (Some k) e g =
        let f = found_at its task vs 0 k e in
        let z : 0 + f.index ≡ f.index = omega arith in
        let is : f.variant ≡ v = some_same f.variant v (sym f.there ∙ (sym (ap (slice_get vs) (f.is ∙ z)) ∙ g)) in
        record { index = f.index; there = f.there ∙ ap Some is; named = f.named ∙ ap (λ (w : Variant). w.task) is }

-- ---- a variant that is sound

three : (a b c : Bool) → (a && b && c) ≡ true → (a ≡ true) × (b ≡ true) × (c ≡ true)
three true true true h = (refl, refl, refl)
three true true false h = absurd (cc h)
three true false c h = absurd (cc h)
three false b c h = absurd (cc h)

-- its parameters are of the kinds of the first variant's, and its body is sound
pub record SoundParts (tasks : List Variant) (v : Variant) : Type 0 where
  pub counts : agrees (table.count_of (params_of tasks v.task)) (length v.params) ≡ true
  pub params_ : are_sound_params (params_of tasks v.task) 0 v.params [] ≡ true
  pub body_ : is_sound_body tasks v.body (decls_known v.decls (params_known v.params [])) ≡ true

parts_of : (tasks : List Variant) (v : Variant) (again : Bool) → is_sound_variant tasks again v ≡ true → SoundParts tasks v
parts_of tasks v again h =
    let known = params_known v.params [] in
    let ps = are_sound_params (params_of tasks v.task) 0 v.params [] in
    let ds = are_sound_decls (length v.params) v.decls known in
    let bs = is_sound_body tasks v.body (decls_known v.decls known) in
    let t = three (not again) (agrees (table.count_of (params_of tasks v.task)) (length v.params)) (ps && (ds && bs)) h in
    let p = both ps (ds && bs) t.2 in
    record { counts = t.1; params_ = p.0; body_ = (both ds bs p.1).1 }

pub sound_at : (tasks : List Variant) (vs : List Variant) (seen : List VariantKey) → are_sound_variants tasks seen vs ≡ true → (i : ℕ) (v : Variant)
    → slice_get vs i ≡ Some v → SoundParts tasks v
sound_at tasks [] seen h i v g = absurd (cc g)
sound_at tasks (w ∷ vs) seen h zero v g =
    let is : w ≡ v = cc g in
    let again = is_seen seen (key_of w) in
    subst (SoundParts tasks) is (parts_of tasks w again (both (is_sound_variant tasks again w) (are_sound_variants tasks (with_seen seen (key_of w)) vs) h).0)
sound_at tasks (w ∷ vs) seen h (suc i) v g =
    let again = is_seen seen (key_of w) in
    sound_at tasks vs (with_seen seen (key_of w)) (both (is_sound_variant tasks again w) (are_sound_variants tasks (with_seen seen (key_of w)) vs) h).1 i v g

-- a variant of its form
pub formed_at : (vs : List Variant) → forms.all (map forms.is_formed_variant vs) ≡ true → (i : ℕ) (v : Variant) → slice_get vs i ≡ Some v
    → forms.is_formed_body v.kind v.body ≡ true
formed_at [] h i v g = absurd (cc g)
formed_at (w ∷ vs) h zero v g =
    let is : w ≡ v = cc g in
    let a = both (forms.is_formed_variant w) (forms.all (map forms.is_formed_variant vs)) h in
    let params_ = forms.all (map forms.is_formed_param w.params) in
    let decls_ = forms.all (map (forms.is_formed_decl w.kind) w.decls) in
    let body_ = forms.is_formed_body w.kind w.body in
    let b = both (forms.has_one w.params) (params_ && (decls_ && body_)) a.0 in
    let c = both params_ (decls_ && body_) b.1 in
    subst (λ (x : Variant). forms.is_formed_body x.kind x.body ≡ true) is (both decls_ body_ c.1).1
formed_at (w ∷ vs) h (suc i) v g = formed_at vs (both (forms.is_formed_variant w) (forms.all (map forms.is_formed_variant vs)) h).1 i v g

pub formed_stmts : (its : VariantKind) (list : List Stmt) → forms.is_formed_body its (body.Inner list) ≡ true → forms.are_formed_stmts list ≡ true
formed_stmts kind.Inner list h = h
formed_stmts kind.Leaf list h = absurd (cc h)

-- ---- modes

both_writes : (p q : Mode) → is_both p ≡ true → same_mode p q ≡ true → is_written q ≡ true
both_writes Input q a b = absurd (cc a)
both_writes Output q a b = absurd (cc a)
both_writes Both Input a b = absurd (cc b)
both_writes Both Output a b = absurd (cc b)
both_writes Both Both a b = refl

four : (a b c d : Bool) → (a && b && c && d) ≡ true → b ≡ true
four true true c d h = refl
four true false c d h = absurd (cc h)
four false b c d h = absurd (cc h)

-- the i-th parameter of the first variant, where there is one
first_param : (ps : List Param) (i : ℕ) → keeps_both (Some ps) i ≡ true → (p : Param) × (slice_get ps i ≡ Some p) × (is_both p.mode ≡ true)
first_param ps i h = by (slice_get ps i) refl h
  where
    by : (o : Option Param) → slice_get ps i ≡ o → option_map_or (λ (p : Param). is_both p.mode) o false ≡ true
        → (p : Param) × (slice_get ps i ≡ Some p) × (is_both p.mode ≡ true)
    by None e g = absurd (cc g)
    by (Some p) e g = (p, e, g)

below : {A : Type 0} (xs : List A) (k : ℕ) (x : A) → slice_get xs k ≡ Some x → k < length xs
below [] k x h = absurd (cc h)
below (y ∷ xs) zero x h = omega arith
below (y ∷ xs) (suc k) x h = let e = below xs k x h in omega (arith, e)

at_below : {A : Type 0} (xs : List A) (k : ℕ) → k < length xs → (x : A) × (slice_get xs k ≡ Some x)
at_below [] k h = absurd (omega (arith, h))
at_below (x ∷ xs) zero h = (x, refl)
at_below (x ∷ xs) (suc k) h = at_below xs k (omega (arith, h))

-- each parameter is as the first variant's
as_first : (first : Option (List Param)) (ps : List Param) (i : ℕ) (known : Known) → are_sound_params first i ps known ≡ true → (j : ℕ) (q : Param)
    → slice_get ps j ≡ Some q → is_as_first (param_at first (i + j)) q ≡ true
as_first first [] i known h j q g = absurd (cc g)
as_first first (p ∷ ps) i known h zero q g =
    let is : p ≡ q = cc g in
    let z : i ≡ i + 0 = omega arith in
    let a = both (is_sound_param (param_at first i) i p known) (are_sound_params first (i + 1) ps (param_known p known)) h in
    let b = four (is_new p.name known) (is_as_first (param_at first i) p) (nat_lt i most_arrays) (are_sound_extents p.extents (with_param known p)) a.0 in
    subst (λ k. is_as_first (param_at first k) q ≡ true) z (subst (λ (x : Param). is_as_first (param_at first i) x ≡ true) is b)
as_first first (p ∷ ps) i known h (suc j) q g =
    let z : i + 1 + j ≡ i + suc j = omega arith in
    let a = both (is_sound_param (param_at first i) i p known) (are_sound_params first (i + 1) ps (param_known p known)) h in
    subst (λ k. is_as_first (param_at first k) q ≡ true) z (as_first first ps (i + 1) (param_known p known) a.1 j q g)

-- what is reduced into is written by each variant of the task
pub reduced_writes : (tasks : List Variant) (v : Variant) (ps : List Param) → SoundParts tasks v → params_of tasks v.task ≡ Some ps → (i : ℕ)
    → keeps_both (Some ps) i ≡ true → is_written (mode_of (slice_get v.params i)) ≡ true
reduced_writes tasks v ps h e i keeps =
    let p = first_param ps i keeps in
    let count : length ps ≡ length v.params =
    is_equal (length ps) (length v.params) (sym (ap (λ o. agrees (table.count_of o) (length v.params)) e) ∙ h.counts) in
    let less = below ps i p.0 p.1 in
    let q = at_below v.params i (omega (arith, less, count)) in
    let z : 0 + i ≡ i = omega arith in
    let alike : is_as_first (param_at (params_of tasks v.task) i) q.0 ≡ true =
    subst (λ k. is_as_first (param_at (params_of tasks v.task) k) q.0 ≡ true) z (as_first (params_of tasks v.task) v.params 0 [] h.params_ i q.0 q.1) in
    let there : param_at (params_of tasks v.task) i ≡ Some p.0 = ap (λ o. param_at o i) e ∙ p.1 in
    let suits : is_as_first (Some p.0) q.0 ≡ true = sym (ap (λ o. is_as_first o q.0) there) ∙ alike in
    let one = both (length p.0.extents == length q.0.extents) (same_mode p.0.mode q.0.mode && same_elem p.0.elem q.0.elem) suits in
    let two = both (same_mode p.0.mode q.0.mode) (same_elem p.0.elem q.0.elem) one.1 in
    ap (λ o. is_written (mode_of o)) q.1 ∙ both_writes p.0.mode q.0.mode p.2 two.0
