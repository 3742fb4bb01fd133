-- Lists whose items are the same under a function.
use Rattle.std.proofs.Common.{◌≡◌, ℕ, zero, suc, List, [], ◌∷◌, map, Some, slice_get, refl, sym, ap, ◌∙◌, arith}
use Rattle.std.specs.List.{All}

module _ {A B : Type 0} (f : A → B) where
  -- what the function keeps is the same in both
  pub map_across : {C : Type 0} (g : A → C) (k : B → C) → ((a : A) → k (f a) ≡ g a) → (xs ys : List A)
      → map f xs ≡ map f ys → map g xs ≡ map g ys
  map_across g k is xs ys e = sym (through xs) ∙ ap (map k) e ∙ through ys
    where
      through : (zs : List A) → map k (map f zs) ≡ map g zs
      through [] = refl
      through (z ∷ zs) = ap (λ c. c ∷ map k (map f zs)) (is z) ∙ ap (λ cs. g z ∷ cs) (through zs)

  pub heads : (x y : A) (xs ys : List A) → map f (x ∷ xs) ≡ map f (y ∷ ys) → f x ≡ f y
  heads x y xs ys e = cc

  pub tails : (x y : A) (xs ys : List A) → map f (x ∷ xs) ≡ map f (y ∷ ys) → map f xs ≡ map f ys
  tails x y xs ys e = cc

  -- what holds of an item holds of any that is the same
  pub all_across : (P : A → Type 0) → ((a b : A) → f a ≡ f b → P a → P b) → (xs ys : List A) → map f xs ≡ map f ys
      → All P xs → All P ys
  all_across P each xs [] e h k d lt = absurd (omega (arith, lt))
  all_across P each [] (y ∷ ys) e h k d lt = absurd (cc)
  all_across P each (x ∷ xs) (y ∷ ys) e h zero d lt = each x y (heads x y xs ys e) (h zero x (omega arith))
  all_across P each (x ∷ xs) (y ∷ ys) e h (suc k) d lt =
      all_across P each xs ys (tails x y xs ys e) (λ i c l. h (suc i) c (omega (arith, l))) k d (omega (arith, lt))

  -- the item of a number in the one list, and that in the other
  pub record Beside (ys : List A) (i : ℕ) (x : A) : Type 0 where
    pub item : A
    pub there : slice_get ys i ≡ Some item
    pub same : f x ≡ f item

  pub get_across : (xs ys : List A) → map f xs ≡ map f ys → (i : ℕ) (x : A) → slice_get xs i ≡ Some x → Beside ys i x
  get_across [] ys e i x h = absurd (cc)
  get_across (z ∷ xs) [] e i x h = absurd (cc)
  get_across (z ∷ xs) (y ∷ ys) e zero x h =
      let is : z ≡ x = cc in
      record { item = y; there = refl; same = ap f (sym is) ∙ heads z y xs ys e }
  get_across (z ∷ xs) (y ∷ ys) e (suc i) x h =
      let found = get_across xs ys (tails z y xs ys e) i x h in
      record { item = found.item; there = found.there; same = found.same }
