-- Trees of equal parts are equal, and related lists.
use Rattle.std.proofs.Common.{◌≡◌, ℕ, zero, suc, ◌+◌, ◌<◌, List, [], ◌∷◌, ◌++◌, map, slice_get, Option, Some, None}
use Rattle.std.proofs.Common.{refl, ap, ap₂, arith}
use Rattle.sq_ir.specs.Tree.{seq, par}
use Rattle.sq_ir.specs.Written.{Setting, Env, PlanTree, seq_of, par_of, par_parts, written}
use Rattle.sq_ir.specs.declared.term.Term.{Term}
use Rattle.sq_placed.specs.Trees.{par_all}
use Rattle.sq_term.specs.Stands.{Each, none, more}

pub seq_same : (n : ℕ) (f g : ℕ → PlanTree) (t : ℕ) → ((i : ℕ) → i < t + n → f i ≡ g i) → seq_of n f t ≡ seq_of n g t
unfolding seq_of
seq_same zero f g t h = refl
seq_same (suc n) f g t h = ap₂ seq (h t (omega arith)) (seq_same n f g (t + 1) (λ i l. h i (omega (arith, l))))

pub par_same : (n : ℕ) (f g : ℕ → PlanTree) (t : ℕ) → ((i : ℕ) → i < t + n → f i ≡ g i) → par_of n f t ≡ par_of n g t
unfolding par_of
par_same zero f g t h = refl
par_same (suc n) f g t h = ap₂ par (h t (omega arith)) (par_same n f g (t + 1) (λ i l. h i (omega (arith, l))))

-- parts beside one another, made of related items
pub pars : {A B : Type 0} {R : A → B → Type 0} (s : Setting) (env : Env) (f : A → Term) (g : B → PlanTree)
    → ((x : A) (y : B) → R x y → written s (f x) env ≡ g y)
    → {xs : List A} {ys : List B} → Each R xs ys → par_parts (map (written s) (map f xs)) env ≡ par_all (map g ys)
pars s env f g h none = refl
pars s env f g h (more r rs) = ap₂ par (h _ _ r) (pars s env f g h rs)

pub each_map : {A B C D : Type 0} (R : A → B → Type 0) (Q : C → D → Type 0) (f : A → C) (g : B → D)
    → ((x : A) (y : B) → R x y → Q (f x) (g y))
    → {xs : List A} {ys : List B} → Each R xs ys → Each Q (map f xs) (map g ys)
each_map R Q f g h none = none
each_map R Q f g h (more r rs) = more (h _ _ r) (each_map R Q f g h rs)

-- the second list as it is
pub each_left : {A B C : Type 0} (R : A → B → Type 0) (Q : C → B → Type 0) (f : A → C)
    → ((x : A) (y : B) → R x y → Q (f x) y)
    → {xs : List A} {ys : List B} → Each R xs ys → Each Q (map f xs) ys
each_left R Q f h none = none
each_left R Q f h (more r rs) = more (h _ _ r) (each_left R Q f h rs)

pub each_append : {A B : Type 0} (R : A → B → Type 0) {xs : List A} {ys : List B} {vs : List A} {ws : List B}
    → Each R xs ys → Each R vs ws → Each R (xs ++ vs) (ys ++ ws)
each_append R none r = r
each_append R (more q qs) r = more q (each_append R qs r)

pub each_equal : {A B C : Type 0} (R : A → B → Type 0) (f : A → C) (g : B → C) → ((x : A) (y : B) → R x y → f x ≡ g y)
    → {xs : List A} {ys : List B} → Each R xs ys → map f xs ≡ map g ys
each_equal R f g h none = refl
each_equal R f g h (more r rs) = ap₂ (λ u v. u ∷ v) (h _ _ r) (each_equal R f g h rs)

pub each_is : {A B : Type 0} (R : A → B → Type 0) (f : A → B) → ((x : A) (y : B) → R x y → f x ≡ y)
    → {xs : List A} {ys : List B} → Each R xs ys → map f xs ≡ ys
each_is R f h none = refl
each_is R f h (more r rs) = ap₂ (λ u v. u ∷ v) (h _ _ r) (each_is R f h rs)

pub each_weaken : {A B : Type 0} (R Q : A → B → Type 0) → ((x : A) (y : B) → R x y → Q x y)
    → {xs : List A} {ys : List B} → Each R xs ys → Each Q xs ys
each_weaken R Q h none = none
each_weaken R Q h (more r rs) = more (h _ _ r) (each_weaken R Q h rs)

pub map_map : {A B C : Type 0} (f : B → C) (g : A → B) (xs : List A) → map f (map g xs) ≡ map (λ x. f (g x)) xs
map_map f g [] = refl
map_map f g (x ∷ xs) = ap (λ l. f (g x) ∷ l) (map_map f g xs)

-- the items of a number in two related lists
pub data AtBoth {A B : Type 0} (R : A → B → Type 0) : Option A → Option B → Type 0 where
  neither : AtBoth R None None
  two : (x : A) (y : B) → R x y → AtBoth R (Some x) (Some y)

pub at_both : {A B : Type 0} {R : A → B → Type 0} {xs : List A} {ys : List B} → Each R xs ys → (i : ℕ)
    → AtBoth R (slice_get xs i) (slice_get ys i)
at_both none i = neither
at_both (more {x = x} {y = y} r rs) zero = two x y r
at_both (more r rs) (suc i) = at_both rs i
