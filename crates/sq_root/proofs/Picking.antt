-- Places that are picked.
use Rattle.std.proofs.Common.{◌≡◌, Bool, true, false, not, List, [], ◌∷◌, map, All, refl, ap}
use Rattle.std.proofs.lemmas.List.Elements.{All-nil, All-cons, All-head, All-tail}
use Rattle.sq_root.specs.declared.place.Place.{Place}
use Rattle.sq_root.specs.Flagged.{flagged}
use Rattle.sq_root.specs.Places.{part, IsWithin, IsClear, AreApart}
use Rattle.sq_root.specs.PlaceLaws.{FlaggedParts, FlaggedFit, OthersAreClear}
use Rattle.sq_root.proofs.Parts.{clear-turned}

flagged-map : {A B : Type 0} (f : A → B) (flags : List Bool) (xs : List A)
    → flagged flags (map f xs) ≡ map f (flagged flags xs)
flagged-map f [] xs = refl
flagged-map f (flag ∷ flags) [] = refl
flagged-map f (true ∷ flags) (x ∷ xs) = ap (λ ys. f x ∷ ys) (flagged-map f flags xs)
flagged-map f (false ∷ flags) (x ∷ xs) = flagged-map f flags xs

pub flagged-parts : FlaggedParts
flagged-parts flags places root = flagged-map (λ p. part p root) flags places

-- what is true of all is true of those that are picked
all-flagged : {A : Type 0} (P : A → Type 0) (flags : List Bool) (xs : List A) → All P xs → All P (flagged flags xs)
all-flagged P [] xs all = All-nil P
all-flagged P (flag ∷ flags) [] all = All-nil P
all-flagged P (true ∷ flags) (x ∷ xs) all =
    All-cons P x (flagged flags xs) (All-head P x xs all) (all-flagged P flags xs (All-tail P x xs all))
all-flagged P (false ∷ flags) (x ∷ xs) all = all-flagged P flags xs (All-tail P x xs all)

apart-flagged : (flags : List Bool) (places : List Place) → AreApart places → AreApart (flagged flags places)
apart-flagged [] places apart = tt
apart-flagged (flag ∷ flags) [] apart = tt
apart-flagged (true ∷ flags) (p ∷ ps) apart =
    (all-flagged (IsClear p) flags ps apart.0, apart-flagged flags ps apart.1)
apart-flagged (false ∷ flags) (p ∷ ps) apart = apart-flagged flags ps apart.1

pub flagged-fit : FlaggedFit
flagged-fit flags places n fits =
    record {
      within = all-flagged (IsWithin n) flags places fits.within;
      apart = apart-flagged flags places fits.apart;
    }

-- ---- the others

abbrev AreClear : List Place → Place → Type 0
AreClear ps q = All (IsClear q) ps

-- places that are clear of these, and of one more
one-more : (p : Place) (ps qs : List Place) → All (AreClear ps) qs → All (IsClear p) qs → All (AreClear (p ∷ ps)) qs
one-more p ps [] clear first = All-nil (AreClear (p ∷ ps))
one-more p ps (q ∷ qs) clear first =
    All-cons (AreClear (p ∷ ps)) q qs
    (All-cons (IsClear q) p ps (clear-turned p q (All-head (IsClear p) q qs first))
    (All-head (AreClear ps) q qs clear))
    (one-more p ps qs (All-tail (AreClear ps) q qs clear) (All-tail (IsClear p) q qs first))

others-clear : (flags : List Bool) (places : List Place) → AreApart places
    → All (AreClear (flagged flags places)) (flagged (map not flags) places)
others-clear [] places apart = All-nil (AreClear [])
others-clear (flag ∷ flags) [] apart = All-nil (AreClear [])
others-clear (true ∷ flags) (p ∷ ps) apart =
    one-more p (flagged flags ps) (flagged (map not flags) ps) (others-clear flags ps apart.1)
    (all-flagged (IsClear p) (map not flags) ps apart.0)
others-clear (false ∷ flags) (p ∷ ps) apart =
    All-cons (AreClear (flagged flags ps)) p (flagged (map not flags) ps) (all-flagged (IsClear p) flags ps apart.0)
    (others-clear flags ps apart.1)

pub others-are-clear : OthersAreClear
others-are-clear flags places n fits = others-clear flags places fits.apart
