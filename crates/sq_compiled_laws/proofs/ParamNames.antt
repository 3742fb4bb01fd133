-- No two parameters of a task of a program without faults have one name.
use Rattle.std.proofs.Common.{◌≡◌, ℕ, ◌+◌, ◌&&◌, not, Bool, true, false, List, [], ◌∷◌, ◌++◌, length, Option, Some, None, is_some, if◌then◌else◌, refl, nat_eq, eq-eqb}
use Rattle.std.specs.Prelude.{nat_lt}
use Rattle.std.specs.List.{Contains}
use Rattle.std.specs.Map.{lookup}
use Rattle.sq_text.specs.Names.{Bytes, same_name}
use Rattle.sq_ast.specs.declared.program.Extent.{Extent}
use Rattle.sq_ast.specs.declared.program.Extent.TheVariants as extent
use Rattle.sq_ast.specs.declared.program.Param.{Param}
use Rattle.sq_ast.specs.declared.program.Program.{Program}
use Rattle.sq_ast.specs.declared.program.Variant.{Variant}
use Rattle.sq_types.specs.declared.kind.Kind.{Kind}
use Rattle.sq_types.specs.declared.kind.Kind.TheVariants as kind
use Rattle.sq_types.specs.Known.{Known, kind_of, with_name}
use Rattle.sq_types.specs.Sites.{with_param, extents_known, param_known, params_known, param_at, decls_known, params_of, VariantKey, key_of, is_seen, with_seen}
use Rattle.sq_types.specs.Sound.{is_new, agrees, is_as_first, are_sound_extents, is_sound_param, are_sound_params, are_sound_decls, is_sound_body, is_sound_variant, are_sound_variants, is_sound}
use Rattle.sq_types.specs.Table.{count_of, most_arrays}
use Rattle.sq_compiled_laws.proofs.Each.{Each, there, both, every}

two : (a b : Bool) → (a && b) ≡ true → (a ≡ true) × (b ≡ true)
two true b h = (refl, h)
two false b h = absurd (cc h)

-- the first of four
first_of : (a b c d : Bool) → (a && b && c && d) ≡ true → a ≡ true
first_of true b c d h = refl
first_of false b c d h = absurd (cc h)

-- ---- what is known stays known

abbrev IsKnown : Known → Bytes → Type 0
IsKnown known name = is_some (kind_of known name) ≡ true

kept_in : (test : Bytes → Bool) (known : Known) (n : Bytes) (k : Kind) → is_some (lookup test known) ≡ true
    → is_some (lookup test (known ++ (n, k) ∷ [])) ≡ true
kept_in test [] n k h = absurd (cc h)
kept_in test (x ∷ known) n k h = by (test x.0) (λ g. kept_in test known n k g) h
  where
    by : (b : Bool) → (is_some (lookup test known) ≡ true → is_some (lookup test (known ++ (n, k) ∷ [])) ≡ true)
        → is_some (if b then Some x.1 else lookup test known) ≡ true
        → is_some (if b then Some x.1 else lookup test (known ++ (n, k) ∷ [])) ≡ true
    by true more h = refl
    by false more h = more h

found_last : (test : Bytes → Bool) (known : Known) (n : Bytes) (k : Kind) → test n ≡ true
    → is_some (lookup test (known ++ (n, k) ∷ [])) ≡ true
found_last test [] n k h = by (test n) h
  where
    by : (b : Bool) → b ≡ true → is_some (if b then Some k else None) ≡ true
    by true e = refl
    by false e = absurd (cc e)
found_last test (x ∷ known) n k h = by (test x.0) (found_last test known n k h)
  where
    by : (b : Bool) → is_some (lookup test (known ++ (n, k) ∷ [])) ≡ true
        → is_some (if b then Some x.1 else lookup test (known ++ (n, k) ∷ [])) ≡ true
    by true more = refl
    by false more = more

itself : (a : Bytes) → same_name a a ≡ true
itself [] = refl
itself (x ∷ xs) = by (nat_eq x x) (eq-eqb x x refl) (itself xs)
  where
    by : (b : Bool) → b ≡ true → same_name xs xs ≡ true → (b && same_name xs xs) ≡ true
    by true e more = more
    by false e more = absurd (cc e)

stays : (known : Known) (n : Bytes) (k : Kind) (m : Bytes) → IsKnown known m → IsKnown (with_name known n k) m
stays known n k m h = by (is_some (kind_of known n))
  where
    by : (b : Bool) → IsKnown (if b then known else known ++ (n, k) ∷ []) m
    by true = h
    by false = kept_in (same_name m) known n k h

is_there : (known : Known) (n : Bytes) (k : Kind) → IsKnown (with_name known n k) n
is_there known n k = by (is_some (kind_of known n)) refl
  where
    by : (b : Bool) → is_some (kind_of known n) ≡ b → IsKnown (if b then known else known ++ (n, k) ∷ []) n
    by true e = e
    by false e = found_last (same_name n) known n k (itself n)

extents_keep : (es : List Extent) (known : Known) (m : Bytes) → IsKnown known m → IsKnown (extents_known es known) m
extents_keep [] known m h = h
extents_keep (extent.Size place name ∷ es) known m h = extents_keep es (with_name known name kind.Size) m (stays known name kind.Size m h)
extents_keep (extent.Fixed place n ∷ es) known m h = extents_keep es known m h

param_keeps : (p : Param) (known : Known) (m : Bytes) → IsKnown known m → IsKnown (param_known p known) m
param_keeps p known m h = extents_keep p.extents (with_param known p) m (stays known p.name _ m h)

param_there : (p : Param) (known : Known) → IsKnown (param_known p known) p.name
param_there p known = extents_keep p.extents (with_param known p) p.name (is_there known p.name _)

-- ---- new names

-- each of them is none of those before it
abbrev pub NamesOnce : (before : List Bytes) → List Param → Type 0
NamesOnce before [] = Unit {0}
NamesOnce before (p ∷ ps) = (¬ Contains before p.name) × NamesOnce (before ++ p.name ∷ []) ps

clash : (b : Bool) → not b ≡ true → b ≡ true → ⊥
clash true n h = absurd (cc n)
clash false n h = absurd (cc h)

params_once : (first : Option (List Param)) (ps : List Param) (i : ℕ) (known : Known) (before : List Bytes)
    → Each (IsKnown known) before → are_sound_params first i ps known ≡ true → NamesOnce before ps
params_once first [] i known before all h = tt
params_once first (p ∷ ps) i known before all h =
    let q = two (is_sound_param (param_at first i) i p known) (are_sound_params first (i + 1) ps (param_known p known)) h in
    let new = first_of (is_new p.name known) (is_as_first (param_at first i) p) (nat_lt i most_arrays) (are_sound_extents p.extents (with_param known p)) q.0 in (
      λ c. clash (is_some (kind_of known p.name)) new (there (IsKnown known) before p.name all c),
      params_once first ps (i + 1) (param_known p known) (before ++ p.name ∷ [])
          (both (IsKnown (param_known p known)) before (p.name ∷ [])
          (every (IsKnown known) (IsKnown (param_known p known)) (λ m k. param_keeps p known m k) before all) (param_there p known, tt))
          q.1,
    )

variants_once : (tasks : List Variant) (seen : List VariantKey) (vs : List Variant) → are_sound_variants tasks seen vs ≡ true
    → Each (λ (v : Variant). NamesOnce [] v.params) vs
variants_once tasks seen [] h = tt
variants_once tasks seen (v ∷ vs) h =
    let q = two (is_sound_variant tasks (is_seen seen (key_of v)) v) (are_sound_variants tasks (with_seen seen (key_of v)) vs) h in
    let params = are_sound_params (params_of tasks v.task) 0 v.params [] in
    let rest = are_sound_decls (length v.params) v.decls (params_known v.params []) && is_sound_body tasks v.body (decls_known v.decls (params_known v.params [])) in
    let a = two (not (is_seen seen (key_of v)) && agrees (count_of (params_of tasks v.task)) (length v.params)) (params && rest) q.0 in
    let c = two params rest a.1 in
    (params_once (params_of tasks v.task) v.params 0 [] [] tt c.0, variants_once tasks (with_seen seen (key_of v)) vs q.1)

-- of each task
pub names_once : (p : Program) → is_sound p ≡ true → Each (λ (v : Variant). NamesOnce [] v.params) p.tasks
names_once p h = variants_once p.tasks [] p.tasks h
