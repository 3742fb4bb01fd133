-- Numbers of iterations and of children.
use Rattle.std.proofs.Common.{◌≡◌, ℕ, zero, suc, ◌+◌, ◌<◌, ◌≤◌, max, Bool, true, false, nat_le, nat_lt}
use Rattle.std.proofs.Common.{List, [], ◌∷◌, length, get_or, slice_get, Some, refl, sym, subst, arith}
use Rattle.std.proofs.Common.{if◌then◌else◌}
use Rattle.std.proofs.lemmas.Bool.Decides.{nat_tests}
use Rattle.std.specs.List.{list_all}
use Rattle.sq_forms.specs.Machfile.declared.node.Node.{Node}
use Rattle.sq_pipe.specs.Runs.{Marks, is_marked, most_children}
use Rattle.sq_pass_laws.proofs.Nests.{both}
use Rattle.sq_choice_laws.specs.Leaving.{HasTurns}
use Rattle.sq_choice_laws.proofs.Clears.{both_true}

-- ---- counts

each_get : (p : ℕ → Bool) (counts : List ℕ) → list_all p counts ≡ true → (k : ℕ) → k < length counts
    → p (get_or counts k 0) ≡ true
each_get p [] h k lt = absurd (omega (arith, lt))
each_get p (c ∷ counts) h zero lt = (both (p c) (list_all p counts) h).0
each_get p (c ∷ counts) h (suc k) lt = each_get p counts (both (p c) (list_all p counts) h).1 k (omega (arith, lt))

all_get : (p : ℕ → Bool) (counts : List ℕ) → ((k : ℕ) → k < length counts → p (get_or counts k 0) ≡ true)
    → list_all p counts ≡ true
all_get p [] h = refl
all_get p (c ∷ counts) h =
    both_true (p c) (list_all p counts) (h 0 (omega arith)) (all_get p counts (λ k lt. h (suc k) (omega (arith, lt))))

pub le_true : (m n : ℕ) → m ≤ n → nat_le m n ≡ true
le_true m n h = grind (arith, nat_tests)

pub true_le : (m n : ℕ) → nat_le m n ≡ true → m ≤ n
true_le m n h = grind (arith, nat_tests)

lt_true : (m n : ℕ) → suc m ≤ n → nat_lt m n ≡ true
lt_true m n h = grind (arith, nat_tests)

true_lt : (m n : ℕ) → nat_lt m n ≡ true → suc m ≤ n
true_lt m n h = grind (arith, nat_tests)

pub turns_are : (m : ℕ) (counts : List ℕ) → list_all (λ n. nat_le m n) counts ≡ true → HasTurns m counts
turns_are m counts h k lt = true_le m (get_or counts k 0) (each_get (λ n. nat_le m n) counts h k lt)

pub turns_all : (m : ℕ) (counts : List ℕ) → HasTurns m counts → list_all (λ n. nat_le m n) counts ≡ true
turns_all m counts h = all_get (λ n. nat_le m n) counts (λ k lt. le_true m (get_or counts k 0) (h k lt))

pub more_are : (m : ℕ) (counts : List ℕ) → list_all (λ n. nat_lt m n) counts ≡ true → HasTurns (suc m) counts
more_are m counts h k lt = true_lt m (get_or counts k 0) (each_get (λ n. nat_lt m n) counts h k lt)

pub more_all : (m : ℕ) (counts : List ℕ) → HasTurns (suc m) counts → list_all (λ n. nat_lt m n) counts ≡ true
more_all m counts h = all_get (λ n. nat_lt m n) counts (λ k lt. lt_true m (get_or counts k 0) (h k lt))

-- ---- children

max_left : (a c : ℕ) → a ≤ max a c
max_left a c = grind arith

max_right : (a c : ℕ) → c ≤ max a c
max_right a c = grind arith

max_below : (a c n : ℕ) → a < n → c < n → max a c < n
max_below a c n h g = grind arith

module _ (marks : Marks) where
  one_grows : (t : Bool) (a least : ℕ) → least ≤ (if t then max a least else least)
  one_grows true a least = max_right a least
  one_grows false a least = omega arith

  grows : (n : ℕ) (nodes : List Node) (least : ℕ) → least ≤ most_children marks n nodes least
  grows n [] least = omega arith
  grows n (x ∷ nodes) least =
      let a = one_grows (is_marked marks n) x.children least in
      let g = grows (n + 1) nodes (if is_marked marks n then max x.children least else least) in
      omega (arith, a, g)

  covers_from : (n : ℕ) (nodes : List Node) (least i : ℕ) (x : Node) → is_marked marks (n + i) ≡ true
      → slice_get nodes i ≡ Some x → x.children ≤ most_children marks n nodes least
  covers_from n [] least i x m e = absurd (cc e)
  covers_from n (y ∷ nodes) least zero x m e =
      let is : y ≡ x = cc e in
      let z : n + 0 ≡ n = omega arith in
      let here : is_marked marks n ≡ true = subst (λ k. is_marked marks k ≡ true) z m in
      let g = grows (n + 1) nodes (if is_marked marks n then max y.children least else least) in
      let l = max_left y.children least in
      let own : y.children ≤ (if is_marked marks n then max y.children least else least) =
      subst (λ t. y.children ≤ (if t then max y.children least else least)) (sym here) l in
      subst (λ (x : Node). x.children ≤ most_children marks n (y ∷ nodes) least) is (omega (arith, own, g))
  covers_from n (y ∷ nodes) least (suc i) x m e =
      let z : n + suc i ≡ n + 1 + i = omega arith in
      covers_from (n + 1) nodes (if is_marked marks n then max y.children least else least) i x
      (subst (λ k. is_marked marks k ≡ true) z m) e

  within_from : (n : ℕ) (nodes : List Node) (least c : ℕ) → least < c
      → ((i : ℕ) (x : Node) → is_marked marks (n + i) ≡ true → slice_get nodes i ≡ Some x → x.children < c)
      → most_children marks n nodes least < c
  within_from n [] least c lt h = lt
  within_from n (y ∷ nodes) least c lt h =
      within_from (n + 1) nodes (if is_marked marks n then max y.children least else least) c
      (by (is_marked marks n) refl) (λ i x m e.
      let z : n + 1 + i ≡ n + suc i = omega arith in h (suc i) x (subst (λ k. is_marked marks k ≡ true) z m) e)
    where
      by : (t : Bool) → is_marked marks n ≡ t → (if t then max y.children least else least) < c
      by true e =
          let z : n ≡ n + 0 = omega arith in
          max_below y.children least c (h 0 y (subst (λ k. is_marked marks k ≡ true) z e) refl) lt
      by false e = lt

  pub covers : (nodes : List Node) (i : ℕ) (x : Node) → is_marked marks i ≡ true → slice_get nodes i ≡ Some x
      → x.children ≤ most_children marks 0 nodes 0
  covers nodes i x m e =
      let z : i ≡ 0 + i = omega arith in covers_from 0 nodes 0 i x (subst (λ k. is_marked marks k ≡ true) z m) e

  pub within : (nodes : List Node) (c : ℕ) → 0 < c
      → ((i : ℕ) (x : Node) → is_marked marks i ≡ true → slice_get nodes i ≡ Some x → x.children < c)
      → most_children marks 0 nodes 0 < c
  within nodes c lt h = within_from 0 nodes 0 c lt (λ i x m e.
      let z : 0 + i ≡ i = omega arith in h i x (subst (λ k. is_marked marks k ≡ true) z m) e)
