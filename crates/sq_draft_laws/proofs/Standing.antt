-- The buffers of a form stand one behind the other, and its homes name them.
use Rattle.std.proofs.Common.{◌≡◌, ℕ, zero, suc, ◌+◌, ◌<◌, List, [], ◌∷◌, ◌++◌, length, map, slice_get, Some}
use Rattle.std.proofs.Common.{refl, sym, ap, subst, ◌∙◌, arith}
use Rattle.sq_spec.specs.declared.body.FormBody.{FormBody}
use Rattle.sq_spec.specs.declared.resolved.Resolved.{Resolved}
use Rattle.sq_homes.specs.Chosen.declared.choice.Choice.{Choice}
use Rattle.sq_homes.specs.Chosen.Arrays.{standing}
use Rattle.sq_homes.specs.Numbering.{form_homes}
use Rattle.sq_homes.specs.Chosen.Forms.{choice_in, instance_at, rule_by, bodies_of}
use Rattle.sq_homes.specs.Drafts.{homes_from, buffers_from, buffer_at}
use Rattle.sq_draft_laws.specs.Given.{FormStands, FormsStand}

-- ---- lists

pub get_left : {A : Type 0} (xs ys : List A) (i : ℕ) → i < length xs → slice_get (xs ++ ys) i ≡ slice_get xs i
get_left [] ys i h = absurd (omega (arith, h))
get_left (x ∷ xs) ys zero h = refl
get_left (x ∷ xs) ys (suc i) h = get_left xs ys i (omega (arith, h))

pub get_right : {A : Type 0} (xs ys : List A) (i : ℕ) → slice_get (xs ++ ys) (length xs + i) ≡ slice_get ys i
get_right [] ys i = let e : 0 + i ≡ i = omega arith in ap (slice_get ys) e
get_right (x ∷ xs) ys i = let e : suc (length xs) + i ≡ suc (length xs + i)
    = omega arith in ap (slice_get (x ∷ (xs ++ ys))) e ∙ get_right xs ys i

pub map_length : {A B : Type 0} (f : A → B) (xs : List A) → length (map f xs) ≡ length xs
map_length f [] = refl
map_length f (x ∷ xs) = ap suc (map_length f xs)

-- ---- forms

-- from the k-th form on, base buffers standing before
record Stands (r : Resolved) (choices : List Choice) (k base code : ℕ) (bs : List FormBody) (f : ℕ) (b : FormBody) :
    Type 0 where
  number : ℕ
  number_is : number ≡ k + f
  skip : ℕ
  first : ℕ
  first_is : first ≡ base + skip
  code_of : ℕ
  homes : slice_get (homes_from r choices k base code bs) f
      ≡ Some (form_homes first (rule_by (instance_at r number)) code_of b (choice_in choices number))
  buffers : (i : ℕ) → i < length (standing b (choice_in choices number))
      → slice_get (buffers_from r choices k bs) (skip + i)
      ≡ slice_get (map (buffer_at r number b) (standing b (choice_in choices number))) i

module _ (r : Resolved) (choices : List Choice) where
  at_first : (k base code : ℕ) (b : FormBody) (bs : List FormBody) → Stands r choices k base code (b ∷ bs) 0 b
  at_first k base code b bs = record {
    number = k;
    number_is = omega arith;
    skip = 0;
    first = base;
    first_is = omega arith;
    code_of = code;
    homes = refl;
    buffers = λ i h.
        let s = standing b (choice_in choices k) in
        let l = map_length (buffer_at r k b) s in
        let e : 0 + i ≡ i = omega arith in
        ap (slice_get (map (buffer_at r k b) s ++ buffers_from r choices (suc k) bs)) e
        ∙ get_left (map (buffer_at r k b) s) (buffers_from r choices (suc k) bs) i (omega (arith, h, l));
  }

  stands : (k base code : ℕ) (bs : List FormBody) (f : ℕ) (b : FormBody) → slice_get bs f ≡ Some b
      → Stands r choices k base code bs f b
  stands k base code [] f b h = cc
  stands k base code (x ∷ bs) zero b h = let is : x ≡ b
      = cc in subst (λ (y : FormBody). Stands r choices k base code (x ∷ bs) 0 y) is (at_first k base code x bs)
  stands k base code (x ∷ bs) (suc f) b h =
      let s = standing x (choice_in choices k) in
      let rest = stands (suc k) (base + length s) (code + _) bs f b h in
      let ni = rest.number_is in
      let fi = rest.first_is in
      record {
        number = rest.number;
        number_is = omega (arith, ni);
        skip = length s + rest.skip;
        first = rest.first;
        first_is = omega (arith, fi);
        code_of = rest.code_of;
        homes = rest.homes;
        buffers = λ i h.
            let front = map (buffer_at r k x) s in
            let back = buffers_from r choices (suc k) bs in
            let many : length s + rest.skip + i ≡ length front + (rest.skip + i) = let l
            = map_length (buffer_at r k x) s in omega (arith, l) in
            ap (slice_get (front ++ back)) many ∙ get_right front back (rest.skip + i) ∙ rest.buffers i h;
      }

pub forms_stand : FormsStand
forms_stand r choices k b h =
    let s = stands r choices 0 0 0 (bodies_of r) k b h in
    let first : s.first ≡ s.skip = let e = s.first_is in omega (arith, e) in
    let number : s.number ≡ k = let e = s.number_is in omega (arith, e) in
    subst (λ (n : ℕ). FormStands r choices n b) number (record {
      first = s.first;
      code = s.code_of;
      homes = subst (λ (n : ℕ). slice_get (homes_from r choices 0 0 0 (bodies_of r)) n
          ≡ Some (form_homes s.first (rule_by (instance_at r s.number)) s.code_of b (choice_in choices s.number)))
          (sym number) s.homes;
      buffers = λ i h. ap (λ (n : ℕ). slice_get (buffers_from r choices 0 (bodies_of r)) (n + i)) first ∙ s.buffers i h;
    })
