-- What holds of each item of a list.
use Rattle.std.proofs.Common.{◌≡◌, Bool, true, List, [], ◌∷◌}
use Rattle.std.specs.List.{list_all}
use Rattle.sq_draft_laws.specs.TermLaws.Orders.{EachOf}
use Rattle.sq_pass_laws.proofs.Nests.{both}

pub each_two : {A : Type 0} (P Q R : A → Type 0) (xs : List A) → ((x : A) → P x → Q x → R x) → EachOf P xs
    → EachOf Q xs → EachOf R xs
each_two P Q R [] f g h = tt
each_two P Q R (x ∷ xs) f g h = (f x g.0 h.0, each_two P Q R xs f g.1 h.1)

pub all_each : {A : Type 0} (p : A → Bool) (xs : List A) → list_all p xs ≡ true → EachOf (λ x. p x ≡ true) xs
all_each p [] h = tt
all_each p (x ∷ xs) h = let t = both (p x) (list_all p xs) h in (t.0, all_each p xs t.1)
