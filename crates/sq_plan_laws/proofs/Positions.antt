-- The iterations of a child by their positions in its list.
use Rattle.std.proofs.Common.{◌≡◌, ℕ, zero, suc, ◌+◌, ◌<◌, Bool, true, false, cond, List, [], ◌∷◌, ◌++◌, length, get_or}
use Rattle.std.proofs.Common.{refl, sym, ap, ap₂, ◌∙◌, subst, arith, ◌⊎◌, inl, inr, ⊎_elim}
use Rattle.std.specs.List.{filter, range_with_len}
use Rattle.std.proofs.lemmas.List.{get_or_append_left, get_or-append-add, length-append}
use Rattle.std.proofs.lemmas.List.Elements.{filter-append}
use Rattle.sq_cells.specs.Lowered.{how_many, every}
use Rattle.sq_cells.proofs.Access.{end_or_below}

range_end : (a n : ℕ) → range_with_len a (suc n) ≡ range_with_len a n ++ ((a + n) ∷ [])
range_end a zero = let e : a ≡ a + zero = omega arith in ap (λ x. x ∷ []) e
range_end a (suc n) = let e : a + 1 + n ≡ a + suc n = omega arith in ap (λ l. a ∷ l) (range_end (a + 1) n)
    ∙ ap (λ x. a ∷ (range_with_len (a + 1) n ++ (x ∷ []))) e

module _ (q : ℕ → Bool) where
  abbrev pub those : ℕ → List ℕ
  those n = filter q (range_with_len 0 n)

  those_end : (n : ℕ) → those (suc n) ≡ those n ++ cond (q n) (n ∷ []) []
  those_end n =
      let e : 0 + n ≡ n = omega arith in
      ap (filter q) (range_end 0 n) ∙ filter-append q (range_with_len 0 n) ((0 + n) ∷ [])
      ∙ ap (λ x. those n ++ cond (q x) (x ∷ []) []) e

  pub many_those : (n : ℕ) → length (those n) ≡ how_many q n
  many_those zero = refl
  many_those (suc n) = ap length (those_end n) ∙ length-append (those n) (cond (q n) (n ∷ []) [])
      ∙ by (many_those n) (q n) refl
    where
      by : length (those n) ≡ how_many q n → (b : Bool) → q n ≡ b → length (those n) + length (cond (q n) (n ∷ []) [])
          ≡ cond (q n) (suc (how_many q n)) (how_many q n)
      by h true e = rw e (omega (arith, h))
      by h false e = rw e (omega (arith, h))

  fewer : (t n : ℕ) → t < n → q t ≡ true → how_many q t < how_many q n
  fewer t zero lt y = absurd (omega arith)
  fewer t (suc n) lt y = by (λ l. fewer t n l y) (end_or_below t n lt) (q n) refl
    where
      by : (t < n → how_many q t < how_many q n) → (t ≡ n) ⊎ (t < n) → (b : Bool) → q n ≡ b → how_many q t
          < cond (q n) (suc (how_many q n)) (how_many q n)
      by rec (inl e) true f = rw f (let z : how_many q t ≡ how_many q n = ap (how_many q) e in omega (arith, z))
      by rec (inl e) false f = let z = sym (subst (λ x. q x ≡ true) e y) ∙ f in cc
      by rec (inr l) true f = rw f (let h = rec l in omega (arith, h))
      by rec (inr l) false f = rw f (rec l)

  pub place_those : (n t : ℕ) → t < n → q t ≡ true → get_or (those n) (how_many q t) 0 ≡ t
  place_those zero t lt y = absurd (omega arith)
  place_those (suc n) t lt y = ap (λ l. get_or l (how_many q t) 0) (those_end n)
      ∙ by (λ l. place_those n t l y) (end_or_below t n lt)
    where
      by : (t < n → get_or (those n) (how_many q t) 0 ≡ t) → (t ≡ n) ⊎ (t < n)
          → get_or (those n ++ cond (q n) (n ∷ []) []) (how_many q t) 0 ≡ t
      by rec (inl e) =
          let f : q n ≡ true = subst (λ x. q x ≡ true) e y in
          let g : how_many q t ≡ length (those n) + 0 = let z = ap (how_many q) e in let m
          = many_those n in omega (arith, z, m) in
          ap₂ (λ b i. get_or (those n ++ cond b (n ∷ []) []) i 0) f g ∙ get_or-append-add (those n) (n ∷ []) 0 0 ∙ sym e
      by rec (inr l) =
          let m = many_those n in
          let h = fewer t n l y in
          get_or_append_left (those n) (cond (q n) (n ∷ []) []) 0 (how_many q t) (omega (arith, m, h)) ∙ rec l

  abbrev Good : (n j x : ℕ) → Type 0
  Good n j x = (x < n) × (q x ≡ true) × (how_many q x ≡ j)

  -- what stands at a position is one of those
  pub those_there : (n j : ℕ) → j < how_many q n → Good n j (get_or (those n) j 0)
  those_there zero j lt = absurd (omega arith)
  those_there (suc n) j lt = subst (Good (suc n) j) (sym (ap (λ l. get_or l j 0) (those_end n)))
      (by (λ l. those_there n j l) (q n) refl lt)
    where
      old : (b : Bool) → (j < how_many q n → Good n j (get_or (those n) j 0)) → j < how_many q n
          → Good (suc n) j (get_or (those n ++ cond b (n ∷ []) []) j 0)
      old b rec l =
          let m = many_those n in
          let r = rec l in
          subst (Good (suc n) j) (sym (get_or_append_left (those n) (cond b (n ∷ []) []) 0 j (omega (arith, m, l))))
          (omega (arith, r.0), r.1, r.2)

      by : (j < how_many q n → Good n j (get_or (those n) j 0)) → (b : Bool) → q n ≡ b → j
          < cond (q n) (suc (how_many q n)) (how_many q n)
          → Good (suc n) j (get_or (those n ++ cond (q n) (n ∷ []) []) j 0)
      by rec true e l =
          let l' : j < suc (how_many q n) = subst (λ b. j < cond b (suc (how_many q n)) (how_many q n)) e l in
          rw e (⊎_elim (λ z. new z) (λ z. old true rec z) (end_or_below j (how_many q n) l'))
        where
          new : j ≡ how_many q n → Good (suc n) j (get_or (those n ++ (n ∷ [])) j 0)
          new z =
              let m = many_those n in
              let g : j ≡ length (those n) + 0 = omega (arith, z, m) in
              subst (Good (suc n) j) (sym
              (ap (λ i. get_or (those n ++ (n ∷ [])) i 0) g ∙ get_or-append-add (those n) (n ∷ []) 0 0))
              (omega arith, e, sym z)
      by rec false e l = rw e (old false rec (subst (λ b. j < cond b (suc (how_many q n)) (how_many q n)) e l))

pub every_many : (n : ℕ) → how_many every n ≡ n
every_many zero = refl
every_many (suc n) = ap suc (every_many n)
