-- A cell into which iterations are gathered, in any lanes.
use Rattle.sq_cells.specs.Machine.{Op}
use Rattle.std.proofs.Common.{◌≡◌, ◌≢◌, ℕ, zero, suc, ◌<◌, ◌≤◌, Bool, true, false, cond, ◌||◌, eqb, ltb, Option, None}
use Rattle.std.proofs.Common.{refl, sym, ap, ap₂, ◌∙◌, arith, List, lt-ltb, ltb-true, le-ltb, eqb-true}
use Rattle.std.proofs.lemmas.Bool.Decides.{nat_tests}
use Rattle.sq_cells.specs.Cells.{State}
use Rattle.sq_cells.specs.Tree.{Trap, Tree, Empty, go_on, run, combined}
use Rattle.sq_cells.specs.Work.{folded, always}
use Rattle.sq_cells.specs.Lowered.{pick, beside, turns}
use Rattle.sq_cells.proofs.Lanes.{only, turns_keep, beside_keep, lane_goes, first_of_none}

folded_same : (op : Op) (q r : ℕ → Bool) (x : ℕ → List ℕ) (n : ℕ) (v : List ℕ) → ((t : ℕ) → t < n → q t ≡ r t)
    → folded op q x n v ≡ folded op r x n v
folded_same op q r x zero v h = refl
folded_same op q r x (suc n) v h
    = ap₂ (λ b e. cond b (combined op e (x n)) e) (h n (omega arith))
    (folded_same op q r x n v (λ t lt. h t (omega arith)))

folded_none : (op : Op) (q : ℕ → Bool) (x : ℕ → List ℕ) (n : ℕ) (v : List ℕ) → ((t : ℕ) → t < n → q t ≡ false)
    → folded op q x n v ≡ v
folded_none op q x zero v h = refl
folded_none op q x (suc n) v h = ap (λ b. cond b (combined op (folded op q x n v) (x n)) (folded op q x n v))
    (h n (omega arith)) ∙ folded_none op q x n v (λ t lt. h t (omega arith))

module _ (op : Op) (swap : (a x y : List ℕ) → combined op (combined op a x) y ≡ combined op (combined op a y) x)
    (x : ℕ → List ℕ) where
  fold_swap : (q : ℕ → Bool) (n : ℕ) (v y : List ℕ) → folded op q x n (combined op v y)
      ≡ combined op (folded op q x n v) y
  fold_swap q zero v y = refl
  fold_swap q (suc n) v y = go (q n) (fold_swap q n v y)
    where
      go : (b : Bool) → folded op q x n (combined op v y) ≡ combined op (folded op q x n v) y
          → cond b (combined op (folded op q x n (combined op v y)) (x n)) (folded op q x n (combined op v y))
          ≡ combined op (cond b (combined op (folded op q x n v) (x n)) (folded op q x n v)) y
      go true e = ap (λ z. combined op z (x n)) e ∙ swap (folded op q x n v) y (x n)
      go false e = e

  step_folds : (q : ℕ → Bool) (n : ℕ) (a c : List ℕ) (d e : Bool) → (d ≡ true → e ≡ true → ⊥) → folded op q x n a ≡ c
      → cond d (combined op (folded op q x n (cond e (combined op a (x n)) a)) (x n))
      (folded op q x n (cond e (combined op a (x n)) a)) ≡ cond (e || d) (combined op c (x n)) c
  step_folds q n a c true true bar h = absurd (bar refl refl)
  step_folds q n a c true false bar h = ap (λ z. combined op z (x n)) h
  step_folds q n a c false true bar h = fold_swap q n a (x n) ∙ ap (λ z. combined op z (x n)) h
  step_folds q n a c false false bar h = h

  two_folds : (n : ℕ) (v : List ℕ) (q r : ℕ → Bool) → ((t : ℕ) → q t ≡ true → r t ≡ true → ⊥)
      → folded op q x n (folded op r x n v) ≡ folded op (λ t. r t || q t) x n v
  two_folds zero v q r bar = refl
  two_folds (suc n) v q r bar = step_folds q n (folded op r x n v) (folded op (λ t. r t || q t) x n v) (q n) (r n)
      (bar n) (two_folds n v q r bar)

  abbrev pub lane_folds : (n : ℕ) (lane : ℕ → ℕ) → ℕ → List ℕ → List ℕ
  lane_folds n lane zero v = v
  lane_folds n lane (suc c) v = folded op (λ t. eqb (lane t) c) x n (lane_folds n lane c v)

  many_folds : (n : ℕ) (lane : ℕ → ℕ) (c : ℕ) (v : List ℕ) → lane_folds n lane c v
      ≡ folded op (λ t. ltb (lane t) c) x n v
  many_folds n lane zero v = sym (folded_none op (λ t. ltb (lane t) 0) x n v (λ t lt. le-ltb (lane t) 0 (omega arith)))
  many_folds n lane (suc c) v =
      ap (folded op (λ t. eqb (lane t) c) x n) (many_folds n lane c v)
      ∙ two_folds n v (λ t. eqb (lane t) c) (λ t. ltb (lane t) c)
      (λ t a b. never t (eqb-true (lane t) c a) (ltb-true (lane t) c b))
      ∙ folded_same op (λ t. ltb (lane t) c || eqb (lane t) c) (λ t. ltb (lane t) (suc c)) x n v (λ t lt. both t)
    where
      never : (t : ℕ) → lane t ≡ c → lane t < c → ⊥
      never t a b = omega arith

      both : (t : ℕ) → (ltb (lane t) c || eqb (lane t) c) ≡ ltb (lane t) (suc c)
      both t = grind (arith, nat_tests)

  pub all_folds : (n c : ℕ) (lane : ℕ → ℕ) (v : List ℕ) → ((t : ℕ) → t < n → lane t < c) → lane_folds n lane c v
      ≡ folded op always x n v
  all_folds n c lane v there = many_folds n lane c v
      ∙ folded_same op (λ t. ltb (lane t) c) always x n v (λ t lt. lt-ltb (lane t) c (there t lt))

-- the value of a gathered element, E being its bytes in a memory
module _ (path : List ℕ) (n : ℕ) (g : ℕ → Tree) (trap : ℕ → Option Trap) (Before After' : ℕ → State → Type 0)
    (step : (t : ℕ) → t < n → (m : State) → Before t m → ((run (g t) m).trap ≡ trap t)
    × (trap t ≡ None → After' t (run (g t) m).mem))
    (keep_before : (a b : ℕ) → a < n → b < n → a ≢ b → (m : State) → Before b m → Before b (run (g a) m).mem)
    (keep_after : (a b : ℕ) → a < n → b < n → a ≢ b → (m : State) → After' b m → After' b (run (g a) m).mem) (op : Op)
    (x : ℕ → List ℕ) (E : State → List ℕ)
    (adds : (t : ℕ) → t < n → (m : State) → Before t m → (run (g t) m).trap ≡ None → E (run (g t) m).mem
    ≡ combined op (E m) (x t)) (quiet : (t : ℕ) → t < n → trap t ≡ None) where
  none_only : (q : ℕ → Bool) (t : ℕ) → t < n → only path q trap t ≡ None
  none_only q t lt = go (q t) (trap t) (quiet t lt)
    where
      go : (b : Bool) (o : Option Trap) → o ≡ None → pick b o None ≡ None
      go true o e = e
      go false o e = refl

  pub lane_sum : (q : ℕ → Bool) (j : ℕ) → j ≤ n → (m : State) → ((t : ℕ) → t < j → q t ≡ true → Before t m)
      → E (run (turns q j g) m).mem ≡ folded op q x j (E m)
  lane_sum q zero le m before = refl
  lane_sum q (suc j) le m before =
      let prefix = lane_goes path n g trap Before After' step keep_before keep_after q j (omega arith) m
      (λ t l y. before t (omega arith) y) in
      let none : (run (turns q j g) m).trap ≡ None = prefix.0
      ∙ first_of_none path j (only path q trap) (λ t l. none_only q t (omega arith)) in
      ap (λ o. E (go_on o (run (turns q j g) m).mem (run (pick (q j) (g j) Empty))).mem) none
      ∙ last (q j) refl (turns_keep (Before j) q j g
      (λ t l z m' b. keep_before t j (omega arith) (omega arith) (λ e. never t e l) m' b) m)
      ∙ ap (λ v. cond (q j) (combined op v (x j)) v) (lane_sum q j (omega arith) m (λ t l y. before t (omega arith) y))
    where
      never : (t : ℕ) → t ≡ j → t < j → ⊥
      never t e l = omega arith

      last : (b : Bool) → q j ≡ b → (Before j m → Before j (run (turns q j g) m).mem)
          → E (run (pick b (g j) Empty) (run (turns q j g) m).mem).mem
          ≡ cond b (combined op (E (run (turns q j g) m).mem) (x j)) (E (run (turns q j g) m).mem)
      last true y k =
          let b = k (before j (omega arith) y) in
          adds j (omega arith) (run (turns q j g) m).mem b
          ((step j (omega arith) (run (turns q j g) m).mem b).0 ∙ quiet j (omega arith))
      last false y k = refl

  pub lanes_sum : (swap : (a y z : List ℕ) → combined op (combined op a y) z ≡ combined op (combined op a z) y)
      (lane : ℕ → ℕ) (c : ℕ) (m : State) → ((t : ℕ) → t < n → Before t m)
      → E (run (beside c (λ d. turns (λ t. eqb (lane t) d) n g)) m).mem ≡ lane_folds op swap x n lane c (E m)
  lanes_sum swap lane zero m before = refl
  lanes_sum swap lane (suc c) m before =
      lane_sum (λ t. eqb (lane t) c) n (omega arith) (run (beside c (λ d. turns (λ t. eqb (lane t) d) n g)) m).mem
      (λ t l y. beside_keep (Before t) c (λ d. turns (λ t. eqb (lane t) d) n g)
      (λ d ld m' b. turns_keep (Before t) (λ t. eqb (lane t) d) n g
      (λ u lu z m'' b'. keep_before u t lu l (λ w. other t u d ld (eqb-true (lane t) c y) (eqb-true (lane u) d z) w)
      m'' b') m' b) m (before t l))
      ∙ ap (folded op (λ t. eqb (lane t) c) x n) (lanes_sum swap lane c m before)
    where
      other : (t u d : ℕ) → d < c → lane t ≡ c → lane u ≡ d → u ≡ t → ⊥
      other t u d lt a b w = let e : lane u ≡ lane t = ap lane w in omega arith
