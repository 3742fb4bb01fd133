-- Cells found and set, at one spot.
use Rattle.std.proofs.Common.{◌-◌, get_or, ltb, ltb-true, lt-ltb, ◌≡◌, ◌≢◌, ℕ, zero, suc, ◌<◌, Bool, true, false, cond}
use Rattle.std.proofs.Common.{◌&&◌, eqb, Option, Some, None, refl, sym, ap, ap₂, ◌∙◌, arith, eq-eqb, eqb-true, ◌∷◌}
use Rattle.sq_cells.specs.Cells.{Spot, spot, same, State, find, put_at, put, table}

and_true : (a b : Bool) → (a && b) ≡ true → (a ≡ true) × (b ≡ true)
and_true true b e = (refl, e)
and_true false b e = cc

pub spot_path : (p q : Spot) → p.area ≡ q.area → p.index ≡ q.index → p ≡ q
spot_path p q a b = ap₂ spot a b

pub same_true : (p q : Spot) → same p q ≡ true → p ≡ q
same_true p q e = let h = and_true (eqb p.area q.area) (eqb p.index q.index) e in spot_path p q
    (eqb-true p.area q.area h.0) (eqb-true p.index q.index h.1)

pub same_refl : (p : Spot) → same p p ≡ true
same_refl p = rw (eq-eqb p.area p.area refl, eq-eqb p.index p.index refl) refl

-- what a search tells
pub found : (n : ℕ) (c : ℕ → Spot) (p : Spot) (k : ℕ) → find n c p ≡ Some k → (k < n) × (c k ≡ p)
found zero c p k e = cc
found (suc n) c p k e = go (λ e'. found n c p k e') (same (c n) p) refl e
  where
    go : (find n c p ≡ Some k → (k < n) × (c k ≡ p)) → (b : Bool) → same (c n) p ≡ b → cond b (Some n) (find n c p)
        ≡ Some k → (k < suc n) × (c k ≡ p)
    go rec true s e' = let h : n ≡ k = cc in (omega arith, ap c (sym h) ∙ same_true (c n) p s)
    go rec false s e' = let h = rec e' in (omega (arith, h.0), h.1)

pub not_found : (n : ℕ) (c : ℕ → Spot) (p : Spot) → find n c p ≡ None → (k : ℕ) → k < n → c k ≡ p → ⊥
not_found zero c p e k lt h = absurd (omega arith)
not_found (suc n) c p e k lt h = go (λ e' lt'. not_found n c p e' k lt' h) (same (c n) p) (eqb k n) refl refl e
  where
    below : k ≢ n → k < n
    below ne = omega arith

    at_end : k ≡ n → same (c n) p ≡ true
    at_end q = ap (λ x. same x p) (ap c (sym q) ∙ h) ∙ same_refl p

    go : (find n c p ≡ None → k < n → ⊥) → (b d : Bool) → same (c n) p ≡ b → eqb k n ≡ d → cond b (Some n) (find n c p)
        ≡ None → ⊥
    go rec true d s q e' = cc
    go rec false true s q e' = let y = at_end (eqb-true k n q) in cc
    go rec false false s q e' = rec e' (below (λ z. let y = eq-eqb k n z in cc))

pub finds_none : (n : ℕ) (c : ℕ → Spot) (p : Spot) → ((k : ℕ) → k < n → c k ≡ p → ⊥) → find n c p ≡ None
finds_none n c p h = go (find n c p) refl
  where
    go : (o : Option ℕ) → find n c p ≡ o → o ≡ None
    go None e = refl
    go (Some k) e = let f = found n c p k e in absurd (h k f.0 f.1)

pub put_out : (n : ℕ) (c : ℕ → Spot) (u : ℕ → ℕ) (m : State) (p : Spot) → ((k : ℕ) → k < n → c k ≡ p → ⊥)
    → put n c u m p ≡ m p
put_out n c u m p h = rw (finds_none n c p h) refl

pub put_in : (n : ℕ) (c : ℕ → Spot) (u : ℕ → ℕ) (m : State) (k : ℕ) → k < n → ((j : ℕ) → j < n → c j ≡ c k → j ≡ k)
    → put n c u m (c k) ≡ u k
put_in n c u m k lt h = go (find n c (c k)) refl
  where
    go : (o : Option ℕ) → find n c (c k) ≡ o → put_at (find n c (c k)) u (m (c k)) ≡ u k
    go None f = absurd (not_found n c (c k) f k lt refl)
    go (Some j) f = let g = found n c (c k) j f in rw f (ap u (h j g.0 g.1))

pub table_same {ℓ} : {A : Type ℓ} → (n : ℕ) (f g : ℕ → A) → ((k : ℕ) → k < n → f k ≡ g k) → table n f ≡ table n g
table_same zero f g h = refl
table_same (suc n) f g h = ap₂ (λ x xs. x ∷ xs) (h n (omega arith)) (table_same n f g (λ k lt. h k (omega arith)))

-- a search through a layout, for an element that stands at p
pub find_at : (at : Spot → Spot) (n : ℕ) (c : ℕ → Spot) (l p : Spot) → ((k : ℕ) → k < n → at (c k) ≡ p → c k ≡ l)
    → ((k : ℕ) → k < n → c k ≡ l → at (c k) ≡ p) → find n (λ k. at (c k)) p ≡ find n c l
find_at at zero c l p fwd bwd = refl
find_at at (suc n) c l p fwd bwd
    = go (find_at at n c l p (λ k lt e. fwd k (omega arith) e) (λ k lt e. bwd k (omega arith) e)) (same (c n) l)
    (same (at (c n)) p) refl refl
  where
    go : find n (λ k. at (c k)) p ≡ find n c l → (a b : Bool) → same (c n) l ≡ a → same (at (c n)) p ≡ b
        → cond (same (at (c n)) p) (Some n) (find n (λ k. at (c k)) p) ≡ cond (same (c n) l) (Some n) (find n c l)
    go rest true true e f = rw (e, f) refl
    go rest false false e f = rw (e, f) rest
    go rest true false e f = let z = bwd n (omega arith) (same_true (c n) l e) in let y : same (at (c n)) p ≡ true
        = ap (λ x. same x p) z ∙ same_refl p in absurd (cc)
    go rest false true e f = let z = fwd n (omega arith) (same_true (at (c n)) p f) in let y : same (c n) l ≡ true
        = ap (λ x. same x l) z ∙ same_refl l in absurd (cc)

pub put_from : (at : Spot → Spot) (n : ℕ) (c : ℕ → Spot) (val : ℕ → ℕ) (m s : State) (l p : Spot)
    → ((k : ℕ) → k < n → at (c k) ≡ p → c k ≡ l) → ((k : ℕ) → k < n → c k ≡ l → at (c k) ≡ p)
    → (((k : ℕ) → k < n → c k ≡ l → ⊥) → m p ≡ s l) → put n (λ k. at (c k)) val m p ≡ put n c val s l
put_from at n c val m s l p fwd bwd base = ap (λ o. put_at o val (m p)) (find_at at n c l p fwd bwd)
    ∙ go (find n c l) refl
  where
    go : (o : Option ℕ) → find n c l ≡ o → put_at (find n c l) val (m p) ≡ put_at (find n c l) val (s l)
    go None f = rw f (base (not_found n c l f))
    go (Some k) f = rw f refl

-- byte b of the list of the first w values
pub byte_table : (w : ℕ) (f : ℕ → ℕ) (b : ℕ) → b < w → get_or (table w f) (w - suc b) 0 ≡ f b
byte_table zero f b lt = absurd (omega arith)
byte_table (suc w) f b lt = go (ltb b w) refl (λ l. byte_table w f b l)
  where
    go : (x : Bool) → ltb b w ≡ x → (b < w → get_or (table w f) (w - suc b) 0 ≡ f b)
        → get_or (table (suc w) f) (suc w - suc b) 0 ≡ f b
    go true e rec = let l = ltb-true b w e in let z : suc w - suc b ≡ suc (w - suc b)
        = omega (arith, l) in ap (λ i. get_or (table (suc w) f) i 0) z ∙ rec l
    go false e rec =
        let g : (b < w → ⊥) → b ≡ w = λ h. omega arith in
        let z : b ≡ w = g (λ h. let y = lt-ltb b w h in cc) in
        let y : suc w - suc b ≡ 0 = omega (arith, z) in
        ap (λ i. get_or (table (suc w) f) i 0) y ∙ ap f (sym z)
