-- Works that are the same in all iterations that there are.
use Rattle.std.specs.Prelude.{◌≡◌, ℕ, ◌<◌}
use Rattle.sq_ir.specs.Leaf.Source.{Arrays}
use Rattle.sq_spec.specs.Work.Work.{Work, Nothing, Then, Each, AtOnce, Gathers, Call, Leaf}
use Rattle.sq_spec.specs.Work.Meaning.{meaning}
use Rattle.sq_spec.specs.Work.InTurn.{IsRaceFree}

-- behind its count a map's iterations may differ
abbrev pub IsSameWork : Work → Work → Type 0
IsSameWork Nothing Nothing = Unit {0}
IsSameWork (Then a b) (Then c d) = IsSameWork a c × IsSameWork b d
IsSameWork (Each n w) (Each m v) = (n ≡ m) × ((t : ℕ) → t < n → IsSameWork (w t) (v t))
IsSameWork (AtOnce p n w) (AtOnce q m v) = (p ≡ q) × (n ≡ m) × ((t : ℕ) → t < n → IsSameWork (w t) (v t))
IsSameWork (Gathers r p n w) (Gathers o q m v) =
    (r ≡ o) × (p ≡ q) × (n ≡ m) × ((t : ℕ) → t < n → IsSameWork (w t) (v t))
IsSameWork (Call f l xs w) (Call g k ys v) = (f ≡ g) × (l ≡ k) × (xs ≡ ys) × IsSameWork w v
IsSameWork (Leaf a) (Leaf b) = a ≡ b
IsSameWork _ _ = ⊥

-- they mean the same, and have races or none together
abbrev pub SameWorksMean : Type 0
SameWorksMean = (w v : Work) → IsSameWork w v → (s : Arrays) → meaning w s ≡ meaning v s

abbrev pub SameWorksRace : Type 0
SameWorksRace = (w v : Work) → IsSameWork w v → IsRaceFree v → IsRaceFree w
