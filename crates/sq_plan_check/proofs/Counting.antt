-- How many events parts have together.
use Rattle.std.proofs.Common.{◌≡◌, ℕ, zero, suc, ◌+◌, ◌-◌, ◌<◌, ◌≤◌, Bool, true, false, Option, Some, None, List, [], ◌∷◌, refl, sym, ap, ◌∙◌, arith}
use Rattle.std.specs.Prelude.{nat_le, if◌then◌else◌}
use Rattle.std.proofs.lemmas.Bool.Decides.{nat_tests}
use Rattle.sq_ir.specs.Tree.{Tree, Skip, Act, Stuck, Seq, Par, Within, is_done, seq, par, within, waiting}
use Rattle.sq_ir.specs.Events.{Event}
use Rattle.sq_ir.specs.Scopes.{Scope}
use Rattle.sq_ir.specs.Written.{scoped}
use Rattle.sq_check_laws.specs.Flaws.{most_events}
use Rattle.sq_sched.specs.Shapes.{seq_of, par_of, sum_of}
use Rattle.sq_plan_check.specs.Walked.{few, IsSum}

-- ---- few

pub few-is : (n : ℕ) → n ≤ most_events → few n ≡ Some n
few-is n l = by (nat_le n most_events) refl
  where
    by : (v : Bool) → nat_le n most_events ≡ v → (if v then Some n else None) ≡ Some n
    by true e = refl
    by false e = absurd (grind (arith, nat_tests, e, l))

pub few-no : (n : ℕ) → most_events < n → few n ≡ None
few-no n l = by (nat_le n most_events) refl
  where
    by : (v : Bool) → nat_le n most_events ≡ v → (if v then Some n else None) ≡ None
    by true e = absurd (grind (arith, nat_tests, e, l))
    by false e = refl

pub few-some : (n k : ℕ) → few n ≡ Some k → (k ≡ n) × (n ≤ most_events)
few-some n k h = by (nat_le n most_events) refl h
  where
    by : (v : Bool) → nat_le n most_events ≡ v → (if v then Some n else None) ≡ Some k → (k ≡ n) × (n ≤ most_events)
    by true e h = let r : n ≡ k = cc in (sym r, grind (arith, nat_tests, e))
    by false e h = cc

pub few-none : (n : ℕ) → few n ≡ None → most_events < n
few-none n h = by (nat_le n most_events) refl h
  where
    by : (v : Bool) → nat_le n most_events ≡ v → (if v then Some n else None) ≡ None → most_events < n
    by true e h = cc
    by false e h = grind (arith, nat_tests, e)

pub sum_none : (first : ℕ) → IsSum first None None
sum_none first = record { is = λ n e. let l = few-none n (sym e) in sym (few-no (first + n) (omega (arith, l))) }

pub sum_big : (first k : ℕ) → 65536 < k → IsSum first (Some k) None
sum_big first k l = record { is = λ n e. let r = few-some n k (sym e) in absurd (omega (arith, r.0, r.1, l)) }

pub sum_over : (first k : ℕ) → 65536 - k < first → IsSum first (Some k) None
sum_over first k l = record { is = λ n e. let r = few-some n k (sym e) in sym (few-no (first + n) (omega (arith, r.0, r.1, l))) }

pub sum_some : (first k : ℕ) → k ≤ 65536 → first ≤ 65536 - k → IsSum first (Some k) (Some (first + k))
sum_some first k l m = record { is = λ n e. let r = few-some n k (sym e) in sym (few-is (first + n) (omega (arith, r.0, l, m)) ∙ ap (λ x. Some (first + x)) (sym r.0)) }

-- ---- parts

module _ {E S : Type 0} where
  pub done-waiting : (t : Tree E S) → is_done t ≡ true → waiting t ≡ 0
  done-waiting Skip h = refl
  done-waiting (Act e) h = cc
  done-waiting (Stuck e) h = cc
  done-waiting (Seq a b) h = by (is_done a) refl h (done-waiting a) (done-waiting b)
    where
      by : (v : Bool) → is_done a ≡ v → (if v then is_done b else false) ≡ true → (is_done a ≡ true → waiting a ≡ 0) → (is_done b ≡ true → waiting b ≡ 0) → waiting a + waiting b ≡ 0
      by true e h f g = let x = f e in let y = g h in omega (arith, x, y)
      by false e h f g = cc
  done-waiting (Par a b) h = by (is_done a) refl h (done-waiting a) (done-waiting b)
    where
      by : (v : Bool) → is_done a ≡ v → (if v then is_done b else false) ≡ true → (is_done a ≡ true → waiting a ≡ 0) → (is_done b ≡ true → waiting b ≡ 0) → waiting a + waiting b ≡ 0
      by true e h f g = let x = f e in let y = g h in omega (arith, x, y)
      by false e h f g = cc
  done-waiting (Within s a) h = done-waiting a h

  -- a part that is done is left out of both
  pub waiting-seq : (a b : Tree E S) → waiting (seq a b) ≡ waiting a + waiting b
  waiting-seq a b = by (is_done a) refl (is_done b) refl
    where
      by : (u : Bool) → is_done a ≡ u → (v : Bool) → is_done b ≡ v → waiting (if u then b else (if v then a else Seq a b)) ≡ waiting a + waiting b
      by true e v f = let z = done-waiting a e in omega (arith, z)
      by false e true f = let z = done-waiting b f in omega (arith, z)
      by false e false f = refl

  pub waiting-par : (a b : Tree E S) → waiting (par a b) ≡ waiting a + waiting b
  waiting-par a b = by (is_done a) refl (is_done b) refl
    where
      by : (u : Bool) → is_done a ≡ u → (v : Bool) → is_done b ≡ v → waiting (if u then b else (if v then a else Par a b)) ≡ waiting a + waiting b
      by true e v f = let z = done-waiting a e in omega (arith, z)
      by false e true f = let z = done-waiting b f in omega (arith, z)
      by false e false f = refl

  pub waiting-within : (x : S) (t : Tree E S) → waiting (within x t) ≡ waiting t
  waiting-within x t = by (is_done t) refl
    where
      by : (v : Bool) → is_done t ≡ v → waiting (if v then Skip else Within x t) ≡ waiting t
      by true e = sym (done-waiting t e)
      by false e = refl

  abbrev pub weights : (ℕ → Tree E S) → ℕ → ℕ
  weights f u = waiting (f u)

  pub waiting-turns : (n : ℕ) (f : ℕ → Tree E S) (t : ℕ) → waiting (seq_of n f t) ≡ sum_of n (weights f) t
  waiting-turns zero f t = refl
  waiting-turns (suc n) f t = waiting-seq (f t) (seq_of n f (t + 1)) ∙ ap (λ x. waiting (f t) + x) (waiting-turns n f (t + 1))

  pub waiting-lanes : (n : ℕ) (f : ℕ → Tree E S) (t : ℕ) → waiting (par_of n f t) ≡ sum_of n (weights f) t
  waiting-lanes zero f t = refl
  waiting-lanes (suc n) f t = waiting-par (f t) (par_of n f (t + 1)) ∙ ap (λ x. waiting (f t) + x) (waiting-lanes n f (t + 1))

pub waiting-scope : (node : ℕ) (bs : List ℕ) (t : Tree Event Scope) → waiting (scoped node bs t) ≡ waiting t
waiting-scope node [] t = refl
waiting-scope node (b ∷ bs) t = waiting-within (record { node = node; buffers = b ∷ bs }) t

-- ---- sums

module _ (n : ℕ) (g : ℕ → ℕ) where
  pub sum-item : (i : ℕ) → i < n → sum_of (n - i) g i ≡ g i + sum_of (n - (i + 1)) g (i + 1)
  sum-item i lt = let e : n - i ≡ suc (n - (i + 1)) = omega arith in ap (λ m. sum_of m g i) e

  pub sum-past : (i : ℕ) → n ≤ i → sum_of (n - i) g i ≡ 0
  sum-past i le = let e : n - i ≡ 0 = omega arith in ap (λ m. sum_of m g i) e

  pub sum-skip : (m i : ℕ) → i + m ≤ n → ((k : ℕ) → i ≤ k → k < i + m → g k ≡ 0) → sum_of (n - i) g i ≡ sum_of (n - (i + m)) g (i + m)
  sum-skip zero i le h = let e : i ≡ i + 0 = omega arith in ap (λ j. sum_of (n - j) g j) e
  sum-skip (suc m) i le h =
      let a = sum-item i (omega (arith, le)) in
      let z = h i (omega arith) (omega arith) in
      let b = sum-skip m (i + 1) (omega (arith, le)) (λ k p q. h k (omega (arith, p)) (omega (arith, q))) in
      let e : i + 1 + m ≡ i + suc m = omega arith in
      let c = ap (λ j. sum_of (n - j) g j) e in
      omega (arith, a, z, b, c)

  -- so much of the first i ones, and what they are together
  pub record IsSummed (so_far i : ℕ) : Type 0 where
    pub within_most : so_far ≤ most_events
    pub rest : so_far + sum_of (n - i) g i ≡ sum_of n g 0

  pub sum-start : IsSummed 0 0
  sum-start = record { within_most = omega arith; rest = let e : n - 0 ≡ n = omega arith in let z = ap (λ m. sum_of m g 0) e in omega (arith, z) }

  pub sum-more : (so_far i x : ℕ) (here : Option ℕ) → i < n → IsSummed so_far i → here ≡ few (g i) → IsSum so_far here (Some x) → IsSummed x (i + 1)
  sum-more so_far i x here lt inv e is =
      let r = few-some (so_far + g i) x (sym (is.is (g i) e)) in
      let a = sum-item i lt in
      let b = inv.rest in
      record { within_most = omega (arith, r.0, r.1); rest = omega (arith, r.0, a, b) }

  pub sum-full : (so_far i : ℕ) (here : Option ℕ) → i < n → IsSummed so_far i → here ≡ few (g i) → IsSum so_far here None → None ≡ few (sum_of n g 0)
  sum-full so_far i here lt inv e is =
      let r = few-none (so_far + g i) (sym (is.is (g i) e)) in
      let a = sum-item i lt in
      let b = inv.rest in
      sym (few-no (sum_of n g 0) (omega (arith, r, a, b)))

  pub sum-end : (so_far i : ℕ) → n ≤ i → IsSummed so_far i → Some so_far ≡ few (sum_of n g 0)
  sum-end so_far i le inv =
      let z = sum-past i le in
      let b = inv.rest in
      let e : so_far ≡ sum_of n g 0 = omega (arith, z, b) in
      let f = inv.within_most in
      ap Some e ∙ sym (few-is (sum_of n g 0) (omega (arith, e, f)))

  -- what weighs nothing is passed by
  pub sum-passed : (so_far i u : ℕ) → i ≤ u → u ≤ n → ((k : ℕ) → i ≤ k → k < u → g k ≡ 0) → IsSummed so_far i → IsSummed so_far u
  sum-passed so_far i u le lu h inv =
      let e : i + (u - i) ≡ u = omega arith in
      let a = sum-skip (u - i) i (omega arith) (λ k p q. h k p (omega (arith, q))) in
      let b = ap (λ j. sum_of (n - j) g j) e in
      let c = inv.rest in
      record { within_most = inv.within_most; rest = omega (arith, a, b, c) }
