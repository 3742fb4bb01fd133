-- Parts of any kind that stand within one another: those of a list, of iterations, of an arm; and what they come to.
use Rattle.std.specs.Prelude.{ℕ, zero, suc, ◌+◌, max, List, [], ◌∷◌, ℤ, pos, negsuc}
use Rattle.sq_nests.specs.Nests.{Nest, End, Both, Open}

abbrev pub all_parts : {P S : Type 0} → List (P → Nest S) → P → Nest S
all_parts [] p = End
all_parts (f ∷ fs) p = Both (f p) (all_parts fs p)

-- f of the numbers from t on, so many
unfoldable pub each_turn : {S : Type 0} → (count : ℕ) → (ℕ → Nest S) → (t : ℕ) → Nest S
each_turn zero f t = End
each_turn (suc n) f t = Both (f t) (each_turn n f (t + 1))

abbrev pub arm_of : {P S : Type 0} → List (P → Nest S) → ℕ → P → Nest S
arm_of [] k p = End
arm_of (f ∷ fs) zero p = f p
arm_of (f ∷ fs) (suc k) p = arm_of fs k p

abbrev pub arm_at : {P S : Type 0} → List (P → Nest S) → ℤ → P → Nest S
arm_at fs (pos k) p = arm_of fs k p
arm_at fs (negsuc k) p = End

-- the greatest number of a part
abbrev pub greatest : {S : Type 0} → (S → ℕ) → Nest S → ℕ
greatest f End = 0
greatest f (Both a b) = max (greatest f a) (greatest f b)
greatest f (Open s a) = max (f s) (greatest f a)

-- what becomes of something by one part after another
abbrev pub through : {S X : Type 0} → (S → X → X) → Nest S → X → X
through f End x = x
through f (Both a b) x = through f b (through f a x)
through f (Open s a) x = through f a (f s x)
