-- Totals that stop at the greatest number of 64 bits, one more item.
use Rattle.std.proofs.Common.{◌≡◌, ℕ, zero, suc, ◌+◌, ◌*◌, ◌-◌, ◌^◌, ◌<◌, ◌≤◌, length, get_or, ℤ, pos, negsuc, Bool}
use Rattle.std.proofs.Common.{true, false, List, [], ◌∷◌, map, drop, refl, sym, ap, ◌∙◌, arith}
use Rattle.std.specs.Prelude.{nat_lt, if◌then◌else◌}
use Rattle.std.proofs.lemmas.Bool.{ltb-false}
use Rattle.sq_nests.specs.Stacks.{capped}
use Rattle.sq_sums.specs.Scales.{arm_index}
use Rattle.sq_sums.specs.Tolls.{all_sum, each_sum, arm_sum_of, arm_sum}

pub small : (n : ℕ) → capped n < 2 ^ 64
unfolding capped
small n = omega arith

pub is_small : (a n : ℕ) → a ≡ capped n → a < 2 ^ 64
is_small a n e = let s = small n in omega (arith, e, s)

pub word_is : (x : ℕ) → x < 2 ^ 64 → x ≡ capped x
unfolding capped
word_is x h = omega (arith, h)

pub nothing : 0 ≡ capped 0
unfolding capped
nothing = refl

more : (total x next b rest : ℕ) → next ≡ capped (total + x) → x ≡ capped b
    → capped (next + rest) ≡ capped (total + (b + rest))
unfolding capped
more total x next b rest e g = omega (arith, e, g)

pub last : (total : ℕ) → total < 2 ^ 64 → total ≡ capped (total + 0)
unfolding capped
last total h = omega (arith, h)

-- ---- lists

drop_here : {X : Type 0} (xs : List X) (i : ℕ) (d : X) → i < length xs → drop i xs ≡ get_or xs i d ∷ drop (suc i) xs
drop_here [] i d l = absurd (omega (arith, l))
drop_here (x ∷ xs) zero d l = refl
drop_here (x ∷ xs) (suc i) d l = drop_here xs i d (omega (arith, l))

drop_all : {X : Type 0} (xs : List X) (i : ℕ) → length xs ≤ i → drop i xs ≡ []
drop_all [] zero l = refl
drop_all [] (suc i) l = refl
drop_all (x ∷ xs) zero l = absurd (omega (arith, l))
drop_all (x ∷ xs) (suc i) l = drop_all xs i (omega (arith, l))

module _ {X P : Type 0} (g : X → P → ℕ) (xs : List X) (p : P) where
  pub next_item : (i next total x new : ℕ) (item d : X) → i < length xs → next ≡ i + 1 → item ≡ get_or xs i d
      → x ≡ capped (g item p) → new ≡ capped (total + x)
      → capped (total + all_sum (map g (drop i xs)) p) ≡ capped (all_sum (map g xs) p)
      → capped (new + all_sum (map g (drop next xs)) p) ≡ capped (all_sum (map g xs) p)
  next_item i next total x new item d l n is e h inv =
      let z : next ≡ suc i = omega (arith, n) in
      ap (λ k. capped (new + all_sum (map g (drop k xs)) p)) z
      ∙ more total x new (g item p) (all_sum (map g (drop (suc i) xs)) p) h e
      ∙ ap (λ (y : X). capped (total + (g y p + all_sum (map g (drop (suc i) xs)) p))) is
      ∙ ap (λ l. capped (total + all_sum (map g l) p)) (sym (drop_here xs i d l)) ∙ inv

  pub last_item : (i total : ℕ) → length xs ≤ i → total < 2 ^ 64
      → capped (total + all_sum (map g (drop i xs)) p) ≡ capped (all_sum (map g xs) p)
      → total ≡ capped (all_sum (map g xs) p)
  last_item i total l s inv = last total s ∙ ap (λ l. capped (total + all_sum (map g l) p)) (sym (drop_all xs i l))
      ∙ inv

-- ---- iterations

pub next_turn : (g : ℕ → ℕ) (n i next total x new : ℕ) → i < n → next ≡ i + 1 → x ≡ capped (g i)
    → new ≡ capped (total + x)
    → capped (total + each_sum (n - i) g i) ≡ capped (each_sum n g 0)
    → capped (new + each_sum (n - next) g next) ≡ capped (each_sum n g 0)
unfolding each_sum
next_turn g n i next total x new l k e h inv =
    let z : n - i ≡ suc (n - (i + 1)) = omega (arith, l) in
    ap (λ m. capped (new + each_sum (n - m) g m)) k ∙ more total x new (g i) (each_sum (n - (i + 1)) g (i + 1)) h e
    ∙ ap (λ m. capped (total + each_sum m g i)) (sym z) ∙ inv

pub last_turn : (g : ℕ → ℕ) (n i total : ℕ) → n ≤ i → total < 2 ^ 64
    → capped (total + each_sum (n - i) g i) ≡ capped (each_sum n g 0) → total ≡ capped (each_sum n g 0)
unfolding each_sum
last_turn g n i total l s inv = let z : n - i ≡ 0 = omega (arith, l) in last total s
    ∙ ap (λ m. capped (total + each_sum m g i)) (sym z) ∙ inv

-- the same in each iteration
pub each_same_sum : (b n i : ℕ) → n * b ≡ each_sum n (λ j. b) i
unfolding each_sum
each_same_sum b zero i = omega arith
each_same_sum b (suc n) i = let e = each_same_sum b n (i + 1) in one b n (each_sum n (λ j. b) (i + 1)) e
  where
    one : (b n s : ℕ) → n * b ≡ s → suc n * b ≡ b + s
    one b n s e = omega (arith, e)

-- ---- arms

module _ {X P : Type 0} (g : X → P → ℕ) where
  pub this_arm : (xs : List X) (k : ℕ) (p : P) (d : X) → k < length xs → g (get_or xs k d) p ≡ arm_sum_of (map g xs) k p
  this_arm [] k p d h = absurd (omega (arith, h))
  this_arm (x ∷ xs) zero p d h = refl
  this_arm (x ∷ xs) (suc k) p d h = this_arm xs k p d (omega (arith, h))

  pub no_arm : (xs : List X) (k : ℕ) (p : P) → length xs ≤ k → arm_sum_of (map g xs) k p ≡ 0
  no_arm [] k p h = refl
  no_arm (x ∷ xs) zero p h = absurd (omega (arith, h))
  no_arm (x ∷ xs) (suc k) p h = no_arm xs k p (omega (arith, h))

  pub arm_is : (xs : List X) (z : ℤ) (p : P) → arm_sum_of (map g xs) (arm_index z (length xs)) p
      ≡ arm_sum (map g xs) z p
  arm_is xs (negsuc k) p = no_arm xs (length xs) p (omega arith)
  arm_is xs (pos k) p = by (nat_lt k (length xs)) refl
    where
      by : (v : Bool) → nat_lt k (length xs) ≡ v → arm_sum_of (map g xs) (if v then k else length xs) p
          ≡ arm_sum_of (map g xs) k p
      by true e = refl
      by false e = let l = ltb-false k (length xs) e in no_arm xs (length xs) p (omega arith)
          ∙ sym (no_arm xs k p (omega (arith, l)))

  -- what a case comes to, through what is made of its sum
  pub case_is : (h : ℕ → ℕ) (z : ℤ) (x : ℕ) (arms given : List X) (i len : ℕ) (p : P) (q : ℕ)
      → x ≡ arm_sum (map g arms) z p → given ≡ arms → len ≡ length arms → i ≡ arm_index z len
      → q ≡ h (arm_sum_of (map g given) i p) → q ≡ h x
  case_is h z x arms given i len p q e j l k r =
      r ∙ ap h (ap (λ y. arm_sum_of (map g y) i p) j ∙ ap (λ y. arm_sum_of (map g arms) y p) (k ∙ ap (arm_index z) l)
      ∙ arm_is arms z p ∙ sym e)
