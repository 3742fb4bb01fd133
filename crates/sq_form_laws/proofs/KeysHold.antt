-- One key is one form.
use Rattle.std.proofs.Common.{◌≡◌, ℕ, suc, Bool, true, false, List, [], ◌∷◌, ◌++◌, map, length, refl, sym, arith}
use Rattle.sq_forms.specs.Calls.{bit, key_extents}
use Rattle.sq_form_laws.specs.Laws.{KeyIsForm}

heads : {A : Type 0} (a b : A) (xs ys : List A) → a ∷ xs ≡ b ∷ ys → (a ≡ b) × (xs ≡ ys)
heads a b xs ys h = (cc h, cc h)

pred_same : (m n : ℕ) → suc m ≡ suc n → m ≡ n
pred_same m n h = omega (arith, h)

fronts : (a b x y : List ℕ) → length a ≡ length b → a ++ x ≡ b ++ y → (a ≡ b) × (x ≡ y)
fronts [] [] x y e h = (refl, h)
fronts [] (b ∷ bs) x y e h = absurd (omega (arith, e))
fronts (a ∷ tl) [] x y e h = absurd (omega (arith, e))
fronts (a ∷ tl) (b ∷ bs) x y e h =
    let p = heads a b (tl ++ x) (bs ++ y) h in
    let q = fronts tl bs x y (pred_same (length tl) (length bs) e) p.1 in
    ((λ i. p.0 i ∷ q.0 i), q.1)

extents_same : (es ds : List (List ℕ)) → key_extents es ≡ key_extents ds → es ≡ ds
extents_same [] [] h = refl
extents_same [] (d ∷ ds) h = absurd (cc h)
extents_same (e ∷ es) [] h = absurd (cc h)
extents_same (e ∷ es) (d ∷ ds) h =
    let p = heads (length e) (length d) (e ++ key_extents es) (d ++ key_extents ds) h in
    let q = fronts e d (key_extents es) (key_extents ds) p.0 p.1 in
    (λ i. q.0 i ∷ extents_same es ds q.1 i)

bit_same : (a b : Bool) → bit a ≡ bit b → a ≡ b
bit_same true true h = refl
bit_same false false h = refl
bit_same true false h = absurd (omega (arith, h))
bit_same false true h = absurd (omega (arith, h))

bit_small : (a : Bool) → 2 ≡ bit a → ⊥
bit_small true h = absurd (omega (arith, h))
bit_small false h = absurd (omega (arith, h))

flags_same : (fs gs : List Bool) (x y : List ℕ) → map bit fs ++ 2 ∷ x ≡ map bit gs ++ 2 ∷ y → (fs ≡ gs) × (x ≡ y)
flags_same [] [] x y h = (refl, (heads 2 2 x y h).1)
flags_same [] (g ∷ gs) x y h = absurd (bit_small g (heads 2 (bit g) x (map bit gs ++ 2 ∷ y) h).0)
flags_same (f ∷ fs) [] x y h = absurd (bit_small f (sym (heads (bit f) 2 (map bit fs ++ 2 ∷ x) y h).0))
flags_same (f ∷ fs) (g ∷ gs) x y h =
    let p = heads (bit f) (bit g) (map bit fs ++ 2 ∷ x) (map bit gs ++ 2 ∷ y) h in
    let q = flags_same fs gs x y p.1 in
    ((λ i. bit_same f g p.0 i ∷ q.0 i), q.1)

pub key_is_form : KeyIsForm
key_is_form form form2 call call2 instance instance2 fs gs es ds h =
    let front : List Bool → List (List ℕ) → List ℕ = λ bs ns. map bit bs ++ 2 ∷ key_extents ns in
    let p = heads form form2 (call ∷ instance ∷ front fs es) (call2 ∷ instance2 ∷ front gs ds) h in
    let q = heads call call2 (instance ∷ front fs es) (instance2 ∷ front gs ds) p.1 in
    let r = heads instance instance2 (front fs es) (front gs ds) q.1 in
    let s = flags_same fs gs (key_extents es) (key_extents ds) r.1 in
    record { form = p.0; call = q.0; instance = r.0; flags = s.0; extents = extents_same es ds s.1 }
