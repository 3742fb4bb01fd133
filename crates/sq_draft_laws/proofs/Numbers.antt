-- The number of a form's first buffer, and of a buffer its form and how many of that form stand in front of it.
use Rattle.std.proofs.Common.{◌≡◌, ℕ, zero, suc, ◌+◌, ◌-◌, ◌<◌, ◌≤◌, true, false, List, [], ◌∷◌, ◌++◌, length, map}
use Rattle.std.proofs.Common.{slice_get, Some, sym, ap, subst, ◌∙◌, arith, if◌then◌else◌}
use Rattle.std.specs.Prelude.{nat_lt}
use Rattle.std.proofs.lemmas.Bool.{lt-ltb, le-ltb}
use Rattle.sq_spec.specs.declared.body.FormBody.{FormBody}
use Rattle.sq_spec.specs.declared.resolved.Resolved.{Resolved}
use Rattle.sq_homes.specs.Chosen.declared.choice.Choice.{Choice}
use Rattle.sq_homes.specs.Chosen.Arrays.{standing}
use Rattle.sq_homes.specs.Numbering.{form_homes}
use Rattle.sq_homes.specs.Chosen.Forms.{choice_in, instance_at, rule_by}
use Rattle.sq_homes.specs.Drafts.{homes_from, buffers_from, codes_in, buffer_at}
use Rattle.sq_homes.specs.Chosen.Forms.{bodies_of}
use Rattle.sq_homes.specs.Drafts.{homes_of, buffers_of}
use Rattle.sq_draft_laws.proofs.Standing.{get_left, get_right, map_length}

module _ (choices : List Choice) where
  -- how many buffers the k-th form has
  abbrev pub many : (k : ℕ) → FormBody → ℕ
  many k b = length (standing b (choice_in choices k))

  -- those of the first f forms, the first one being the k-th
  abbrev pub before : (k : ℕ) → List FormBody → (f : ℕ) → ℕ
  before k [] f = 0
  before k (b ∷ bs) zero = 0
  before k (b ∷ bs) (suc f) = many k b + before (suc k) bs f

  -- the form of the n-th of their buffers
  abbrev pub form_from : (k : ℕ) → List FormBody → (n : ℕ) → ℕ
  form_from k [] n = k
  form_from k (b ∷ bs) n = if nat_lt n (many k b) then k else form_from (suc k) bs (n - many k b)

  abbrev pub index_from : (k : ℕ) → List FormBody → (n : ℕ) → ℕ
  index_from k [] n = n
  index_from k (b ∷ bs) n = if nat_lt n (many k b) then n else index_from (suc k) bs (n - many k b)

  record IsPlace (k : ℕ) (bs : List FormBody) (f i : ℕ) : Type 0 where
    form : form_from k bs (before k bs f + i) ≡ k + f
    index : index_from k bs (before k bs f + i) ≡ i

  place : (k : ℕ) (bs : List FormBody) (f : ℕ) (b : FormBody) → slice_get bs f ≡ Some b → (i : ℕ) → i < many (k + f) b
      → IsPlace k bs f i
  place k [] f b h i l = absurd (cc)
  place k (x ∷ bs) zero b h i l =
      let is : b ≡ x = cc in
      let none : k + 0 ≡ k = omega arith in
      let at : 0 + i ≡ i = omega arith in
      let first : i < many (k + 0) x = subst (λ (y : FormBody). i < many (k + 0) y) is l in
      let less : i < many k x = subst (λ (g : ℕ). i < many g x) none first in
      let yes : nat_lt (0 + i) (many k x) ≡ true = ap (λ (n : ℕ). nat_lt n (many k x)) at ∙ lt-ltb i (many k x) less in
      record { form = rw (yes) (sym none); index = rw (yes) at }
  place k (x ∷ bs) (suc f) b h i l =
      let m = many k x in
      let next : k + suc f ≡ suc k + f = omega arith in
      let inner = place (suc k) bs f b h i (subst (λ (g : ℕ). i < many g b) next l) in
      let n = m + before (suc k) bs f + i in
      let behind : m ≤ n = omega arith in
      let no : nat_lt n m ≡ false = le-ltb n m behind in
      let left : n - m ≡ before (suc k) bs f + i = omega arith in
      record {
        form = rw (no) (ap (form_from (suc k) bs) left ∙ inner.form ∙ sym next);
        index = rw (no) (ap (index_from (suc k) bs) left ∙ inner.index);
      }

module _ (r : Resolved) (choices : List Choice) where
  record Stands (k base code : ℕ) (bs : List FormBody) (f : ℕ) (b : FormBody) : Type 0 where
    code_of : ℕ
    homes : slice_get (homes_from r choices k base code bs) f
        ≡ Some (form_homes (base + before choices k bs f) (rule_by (instance_at r (k + f))) code_of b
        (choice_in choices (k + f)))
    buffers : (i : ℕ) → i < many choices (k + f) b
        → slice_get (buffers_from r choices k bs) (before choices k bs f + i)
        ≡ slice_get (map (buffer_at r (k + f) b) (standing b (choice_in choices (k + f)))) i

  at_first : (k base code : ℕ) (b : FormBody) (bs : List FormBody) → Stands k base code (b ∷ bs) 0 b
  at_first k base code b bs =
      let none : k ≡ k + 0 = omega arith in
      let zero_on : base ≡ base + 0 = omega arith in
      let s = standing b (choice_in choices k) in
      record {
        code_of = code;
        homes = ap (λ (g : ℕ). Some (form_homes g (rule_by (instance_at r k)) code b (choice_in choices k))) zero_on
            ∙ ap (λ (g : ℕ). Some (form_homes (base + 0) (rule_by (instance_at r g)) code b (choice_in choices g)))
            none;
        buffers = λ i h.
            let l = map_length (buffer_at r k b) s in
            let e : 0 + i ≡ i = omega arith in
            let less : i < many choices k b = subst (λ (g : ℕ). i < many choices g b) (sym none) h in
            ap (slice_get (map (buffer_at r k b) s ++ buffers_from r choices (suc k) bs)) e
            ∙ get_left (map (buffer_at r k b) s) (buffers_from r choices (suc k) bs) i (omega (arith, less, l))
            ∙ ap (λ (g : ℕ). slice_get (map (buffer_at r g b) (standing b (choice_in choices g))) i) none;
      }

  stands : (k base code : ℕ) (bs : List FormBody) (f : ℕ) (b : FormBody) → slice_get bs f ≡ Some b
      → Stands k base code bs f b
  stands k base code [] f b h = absurd (cc)
  stands k base code (x ∷ bs) zero b h =
      let is : x ≡ b = cc in
      subst (λ (y : FormBody). Stands k base code (x ∷ bs) 0 y) is (at_first k base code x bs)
  stands k base code (x ∷ bs) (suc f) b h =
      let s = standing x (choice_in choices k) in
      let next : suc k + f ≡ k + suc f = omega arith in
      let rest = stands (suc k) (base + length s) (code + codes_in x.body) bs f b h in
      let first : base + length s + before choices (suc k) bs f ≡ base + (length s + before choices (suc k) bs f)
      = omega arith in
      record {
        code_of = rest.code_of;
        homes = rest.homes
            ∙ ap (λ (g : ℕ). Some (form_homes g (rule_by (instance_at r (suc k + f))) rest.code_of b
            (choice_in choices (suc k + f)))) first
            ∙ ap (λ (g : ℕ). Some (form_homes (base + (length s + before choices (suc k) bs f))
            (rule_by (instance_at r g)) rest.code_of b (choice_in choices g))) next;
        buffers = λ i h.
            let front = map (buffer_at r k x) s in
            let back = buffers_from r choices (suc k) bs in
            let l = map_length (buffer_at r k x) s in
            let at : length s + before choices (suc k) bs f + i ≡ length front + (before choices (suc k) bs f + i)
            = omega (arith, l) in
            ap (slice_get (front ++ back)) at ∙ get_right front back (before choices (suc k) bs f + i)
            ∙ rest.buffers i (subst (λ (g : ℕ). i < many choices g b) (sym next) h)
            ∙ ap (λ (g : ℕ). slice_get (map (buffer_at r g b) (standing b (choice_in choices g))) i) next;
      }

  -- ---- the forms of the draft

  abbrev pub first_of : ℕ → ℕ
  first_of k = before choices 0 (bodies_of r) k

  -- where the k-th form's buffers stand
  pub record FormIsAt (k : ℕ) (b : FormBody) : Type 0 where
    pub code : ℕ
    pub homes : slice_get (homes_of r choices) k
        ≡ Some (form_homes (first_of k) (rule_by (instance_at r k)) code b (choice_in choices k))
    pub buffers : (i : ℕ) → i < many choices k b
        → slice_get (buffers_of r choices) (first_of k + i)
        ≡ slice_get (map (buffer_at r k b) (standing b (choice_in choices k))) i
    pub form : (i : ℕ) → i < many choices k b → form_from choices 0 (bodies_of r) (first_of k + i) ≡ k
    pub index : (i : ℕ) → i < many choices k b → index_from choices 0 (bodies_of r) (first_of k + i) ≡ i

  pub form_is_at : (k : ℕ) (b : FormBody) → slice_get (bodies_of r) k ≡ Some b → FormIsAt k b
  form_is_at k b h =
      let s = stands 0 0 0 (bodies_of r) k b h in
      let n : 0 + k ≡ k = omega arith in
      let on : 0 + first_of k ≡ first_of k = omega arith in
      record {
        code = s.code_of;
        homes = s.homes
            ∙ ap (λ (g : ℕ). Some (form_homes g (rule_by (instance_at r (0 + k))) s.code_of b
            (choice_in choices (0 + k)))) on
            ∙ ap (λ (g : ℕ). Some (form_homes (first_of k) (rule_by (instance_at r g)) s.code_of b
            (choice_in choices g))) n;
        buffers = λ i l.
            s.buffers i (subst (λ (g : ℕ). i < many choices g b) (sym n) l)
            ∙ ap (λ (g : ℕ). slice_get (map (buffer_at r g b) (standing b (choice_in choices g))) i) n;
        form = λ i l.
            (place choices 0 (bodies_of r) k b h i (subst (λ (g : ℕ). i < many choices g b) (sym n) l)).form ∙ n;
        index = λ i l.
            (place choices 0 (bodies_of r) k b h i (subst (λ (g : ℕ). i < many choices g b) (sym n) l)).index;
      }
