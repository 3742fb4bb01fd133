-- An item of a list that is there, and one that isn't.
use Rattle.std.proofs.Common.{◌≡◌, ℕ, zero, suc, List, [], ◌∷◌, Some, None, get_or, slice_get, refl}

pub none_got : {A : Type 0} (xs : List A) (k : ℕ) (d : A) → slice_get xs k ≡ None → get_or xs k d ≡ d
none_got [] k d e = refl
none_got (x ∷ xs) zero d e = cc e
none_got (x ∷ xs) (suc k) d e = none_got xs k d e

pub one_got : {A : Type 0} (xs : List A) (k : ℕ) (d x : A) → slice_get xs k ≡ Some x → get_or xs k d ≡ x
one_got [] k d x e = cc e
one_got (y ∷ xs) zero d x e = cc e
one_got (y ∷ xs) (suc k) d x e = one_got xs k d x e

pub ruleset got = (none_got, one_got)
