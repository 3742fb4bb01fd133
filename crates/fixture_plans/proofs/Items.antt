-- Lists of one item and of three, and tests that hold together.
use Rattle.std.proofs.Common.{◌≡◌, ℕ, Bool, true, false, ◌&&◌, refl, List, [], ◌∷◌, length, map, sym, ap, ap₂, ◌∙◌}
use Rattle.std.specs.List.{slice_index_or}

pub one-item : {X Y : Type 0} (f : X → Y) (xs ys : List X) (x : X) (p : Y) → ys ≡ xs → length ys ≡ 1 → x
    ≡ slice_index_or ys 0 x → f x ≡ p → map f xs ≡ p ∷ []
one-item f xs [] x p e l i h = cc
one-item f xs (a ∷ []) x p e l i h = ap (map f) (sym e) ∙ ap (λ v. v ∷ []) (ap f (sym i) ∙ h)
one-item f xs (a ∷ (b ∷ rest)) x p e l i h = cc

pub three-items : {X Y : Type 0} (f : X → Y) (xs ys : List X) (x y z : X) (p q r : Y) → ys ≡ xs → length ys ≡ 3
    → x ≡ slice_index_or ys 0 x → y ≡ slice_index_or ys 1 y → z ≡ slice_index_or ys 2 z → f x ≡ p → f y ≡ q → f z ≡ r
    → map f xs ≡ p ∷ q ∷ r ∷ []
three-items f xs [] x y z p q r e l i j k h g d = cc
three-items f xs (a ∷ []) x y z p q r e l i j k h g d = cc
three-items f xs (a ∷ (b ∷ [])) x y z p q r e l i j k h g d = cc
three-items f xs (a ∷ (b ∷ (c ∷ []))) x y z p q r e l i j k h g d =
    ap (map f) (sym e) ∙ ap₂ (λ u v. u ∷ v) (ap f (sym i) ∙ h)
    (ap₂ (λ u v. u ∷ v ∷ []) (ap f (sym j) ∙ g) (ap f (sym k) ∙ d))
three-items f xs (a ∷ (b ∷ (c ∷ (w ∷ rest)))) x y z p q r e l i j k h g d = cc

pub first-part : (a b : Bool) → (a && b) ≡ true → a ≡ true
first-part true b h = refl
first-part false b h = cc

pub second-part : (a b : Bool) → (a && b) ≡ true → b ≡ true
second-part true b h = h
second-part false b h = cc
