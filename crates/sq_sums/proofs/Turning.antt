-- Turns and arms, one more and none left.
use Rattle.std.proofs.Common.{◌≡◌, ℕ, zero, suc, ◌+◌, ◌-◌, ◌<◌, ◌≤◌, length, get_or, arith, ℤ, pos, negsuc, Bool, true}
use Rattle.std.proofs.Common.{false, List, [], ◌∷◌, map, refl, ap, sym, ◌∙◌}
use Rattle.std.specs.Prelude.{nat_lt, if◌then◌else◌}
use Rattle.std.proofs.lemmas.Bool.{ltb-false}
use Rattle.sq_nests.specs.Nests.{Nest, End}
use Rattle.sq_sums.specs.Scales.{arm_index}
use Rattle.sq_sums.specs.Parts.{each_turn, arm_of, arm_at, through}

-- one turn more
pub next_turn : {S X : Type 0} (act : S → X → X) (f : ℕ → Nest S) (n i k : ℕ) (p q r : X) → i < n → k ≡ i + 1 → q
    ≡ through act (f i) p → through act (each_turn (n - i) f i) p ≡ r → through act (each_turn (n - k) f k) q ≡ r
unfolding each_turn
next_turn act f n i k p q r h e g l =
    let z : n - i ≡ suc (n - (i + 1)) = omega (arith, h) in
    ap (λ m. through act (each_turn (n - m) f m) q) e ∙ ap (through act (each_turn (n - (i + 1)) f (i + 1))) g
    ∙ ap (λ m. through act (each_turn m f i) p) (sym z) ∙ l

pub last_turn : {S X : Type 0} (act : S → X → X) (f : ℕ → Nest S) (n i : ℕ) (p r : X) → n ≤ i
    → through act (each_turn (n - i) f i) p ≡ r → p ≡ r
unfolding each_turn
last_turn act f n i p r h l = let z : n - i ≡ 0 = omega (arith, h) in ap (λ m. through act (each_turn m f i) p) (sym z)
    ∙ l

-- the arm of a number
pub this_arm : {T P S : Type 0} (g : T → P → Nest S) (ts : List T) (k : ℕ) (p : P) (d : T) → k < length ts
    → g (get_or ts k d) p ≡ arm_of (map g ts) k p
this_arm g [] k p d h = absurd (omega (arith, h))
this_arm g (t ∷ ts) zero p d h = refl
this_arm g (t ∷ ts) (suc k) p d h = this_arm g ts k p d (omega (arith, h))

pub no_arm : {T P S : Type 0} (g : T → P → Nest S) (ts : List T) (k : ℕ) (p : P) → length ts ≤ k → arm_of (map g ts) k p
    ≡ End
no_arm g [] k p h = refl
no_arm g (t ∷ ts) zero p h = absurd (omega (arith, h))
no_arm g (t ∷ ts) (suc k) p h = no_arm g ts k p (omega (arith, h))

pub arm_is : {T P S : Type 0} (g : T → P → Nest S) (ts : List T) (z : ℤ) (p : P)
    → arm_of (map g ts) (arm_index z (length ts)) p ≡ arm_at (map g ts) z p
arm_is g ts (negsuc k) p = no_arm g ts (length ts) p (omega arith)
arm_is g ts (pos k) p = by (nat_lt k (length ts)) refl
  where
    by : (v : Bool) → nat_lt k (length ts) ≡ v → arm_of (map g ts) (if v then k else length ts) p
        ≡ arm_of (map g ts) k p
    by true e = refl
    by false e = let l = ltb-false k (length ts) e in no_arm g ts (length ts) p (omega arith)
        ∙ sym (no_arm g ts k p (omega (arith, l)))

-- what a case comes to
pub case_is : {T P S X : Type 0} (act : S → X → X) (g : T → P → Nest S) (z : ℤ) (x : Nest S) (arms given : List T)
    (i len : ℕ) (at : P) (p q : X) → x ≡ arm_at (map g arms) z at → given ≡ arms → len ≡ length arms
    → i ≡ arm_index z len → q ≡ through act (arm_of (map g given) i at) p → q ≡ through act x p
case_is act g z x arms given i len at p q e j l h r =
    r ∙ ap (λ y. through act y p)
    (ap (λ y. arm_of (map g y) i at) j ∙ ap (λ y. arm_of (map g arms) y at) (h ∙ ap (arm_index z) l)
    ∙ arm_is g arms z at ∙ sym e)
