-- The events of a tree have different numbers, below the number of events.
use Rattle.std.proofs.Common.{◌≡◌, ◌≢◌, ℕ, ◌+◌, ◌<◌, Bool, true, false, List, [], ◌∷◌, Some, refl, ap, ◌⊎◌, inl, inr, arith}
use Rattle.std.specs.Prelude.{if◌then◌else◌}
use Rattle.sq_ir.specs.Tree.{Tree, Skip, Act, Stuck, Seq, Par, Within, is_done, within, waiting}
use Rattle.sq_ir.specs.Unordered.{event_in, AllEvents, AllStuck, AllUnordered, IsFresh}
use Rattle.sq_ir.proofs.Exec.{all-seq, all-par, unordered-seq, unordered-par, both_true, all-map}
use Rattle.sq_check_laws.specs.Whole.{trimmed}
use Rattle.sq_check_laws.specs.Flaws.{number_at}

tail_differ : (x : Bool) (p q : List Bool) → (x ∷ p) ≢ (x ∷ q) → p ≢ q
tail_differ x p q n h = n (ap (λ l. x ∷ l) h)

abbrev Either : ℕ → ℕ → Type 0
Either j k = (j < k) ⊎ (k < j)

more : (w j k : ℕ) → Either j k → Either (w + j) (w + k)
more w j k (inl l) = inl (omega (arith, l))
more w j k (inr l) = inr (omega (arith, l))

module _ {E S : Type 0} where
  pub below_all : (t : Tree E S) → IsFresh t → (p : List Bool) (e : E) → event_in t p ≡ Some e → number_at t p < waiting t
  below_all Skip h p e i = cc
  below_all (Act f) h [] e i = omega arith
  below_all (Act f) h (x ∷ p) e i = cc
  below_all (Stuck f) h p e i = absurd h
  below_all (Seq a b) h [] e i = cc
  below_all (Seq a b) h (false ∷ p) e i = let l = below_all a h.0 p e i in omega (arith, l)
  below_all (Seq a b) h (true ∷ p) e i = let l = below_all b h.1 p e i in omega (arith, l)
  below_all (Par a b) h [] e i = cc
  below_all (Par a b) h (false ∷ p) e i = let l = below_all a h.0 p e i in omega (arith, l)
  below_all (Par a b) h (true ∷ p) e i = let l = below_all b h.1 p e i in omega (arith, l)
  below_all (Within s a) h p e i = below_all a h p e i

  pub numbers_differ : (t : Tree E S) → IsFresh t → (p q : List Bool) (e f : E) → event_in t p ≡ Some e → event_in t q ≡ Some f → p ≢ q → Either (number_at t p) (number_at t q)
  numbers_differ Skip h p q e f i j n = let l = below_all Skip h p e i in inl (omega (arith, l))
  numbers_differ (Act g) h [] [] e f i j n = absurd (n refl)
  numbers_differ (Act g) h [] (y ∷ q) e f i j n = cc
  numbers_differ (Act g) h (x ∷ p) q e f i j n = cc
  numbers_differ (Stuck g) h p q e f i j n = absurd h
  numbers_differ (Seq a b) h [] q e f i j n = cc
  numbers_differ (Seq a b) h (x ∷ p) [] e f i j n = cc
  numbers_differ (Seq a b) h (false ∷ p) (false ∷ q) e f i j n = numbers_differ a h.0 p q e f i j (tail_differ false p q n)
  numbers_differ (Seq a b) h (true ∷ p) (true ∷ q) e f i j n = more (waiting a) (number_at b p) (number_at b q) (numbers_differ b h.1 p q e f i j (tail_differ true p q n))
  numbers_differ (Seq a b) h (false ∷ p) (true ∷ q) e f i j n = let l = below_all a h.0 p e i in inl (omega (arith, l))
  numbers_differ (Seq a b) h (true ∷ p) (false ∷ q) e f i j n = let l = below_all a h.0 q f j in inr (omega (arith, l))
  numbers_differ (Par a b) h [] q e f i j n = cc
  numbers_differ (Par a b) h (x ∷ p) [] e f i j n = cc
  numbers_differ (Par a b) h (false ∷ p) (false ∷ q) e f i j n = numbers_differ a h.0 p q e f i j (tail_differ false p q n)
  numbers_differ (Par a b) h (true ∷ p) (true ∷ q) e f i j n = more (waiting a) (number_at b p) (number_at b q) (numbers_differ b h.1 p q e f i j (tail_differ true p q n))
  numbers_differ (Par a b) h (false ∷ p) (true ∷ q) e f i j n = let l = below_all a h.0 p e i in inl (omega (arith, l))
  numbers_differ (Par a b) h (true ∷ p) (false ∷ q) e f i j n = let l = below_all a h.0 q f j in inr (omega (arith, l))
  numbers_differ (Within s a) h p q e f i j n = numbers_differ a h p q e f i j n

  -- ---- a tree and what is left of it without its empty parts

  done_fresh : (P : E → Type 0) (t : Tree E S) → is_done t ≡ true → AllStuck P t
  done_fresh P Skip h = tt
  done_fresh P (Act e) h = tt
  done_fresh P (Stuck e) h = cc
  done_fresh P (Seq a b) h = let p = both_true (is_done a) (is_done b) h in (done_fresh P a p.0, done_fresh P b p.1)
  done_fresh P (Par a b) h = let p = both_true (is_done a) (is_done b) h in (done_fresh P a p.0, done_fresh P b p.1)
  done_fresh P (Within s a) h = done_fresh P a h

  fresh_both : (P : E → Type 0) (F : Tree E S → Tree E S → Tree E S) (a b : Tree E S) → (AllStuck P (F a b) → AllStuck P a × AllStuck P b) → AllStuck P (if is_done a then b else (if is_done b then a else F a b)) → AllStuck P a × AllStuck P b
  fresh_both P F a b f = by (is_done a) (is_done b) refl refl
    where
      by : (u v : Bool) → is_done a ≡ u → is_done b ≡ v → AllStuck P (if u then b else (if v then a else F a b)) → AllStuck P a × AllStuck P b
      by true v p q h = (done_fresh P a p, h)
      by false true p q h = (h, done_fresh P b q)
      by false false p q h = f h

  fresh_within : (P : E → Type 0) (s : S) (a : Tree E S) → AllStuck P (within s a) → AllStuck P a
  fresh_within P s a = by (is_done a) refl
    where
      by : (u : Bool) → is_done a ≡ u → AllStuck P (if u then Skip else Within s a) → AllStuck P a
      by true p h = done_fresh P a p
      by false p h = h

  pub fresh_whole : (P : E → Type 0) (t : Tree E S) → AllStuck P (trimmed t) → AllStuck P t
  fresh_whole P Skip h = h
  fresh_whole P (Act e) h = h
  fresh_whole P (Stuck e) h = h
  fresh_whole P (Seq a b) h = let k = fresh_both P Seq (trimmed a) (trimmed b) (λ z. z) h in (fresh_whole P a k.0, fresh_whole P b k.1)
  fresh_whole P (Par a b) h = let k = fresh_both P Par (trimmed a) (trimmed b) (λ z. z) h in (fresh_whole P a k.0, fresh_whole P b k.1)
  fresh_whole P (Within s a) h = fresh_whole P a (fresh_within P s (trimmed a) h)

  all_trimmed : (P : E → Type 0) (t : Tree E S) → AllEvents P t → AllEvents P (trimmed t)
  all_trimmed P Skip h = h
  all_trimmed P (Act e) h = h
  all_trimmed P (Stuck e) h = h
  all_trimmed P (Seq a b) h = all-seq P (trimmed a) (trimmed b) (all_trimmed P a h.0) (all_trimmed P b h.1)
  all_trimmed P (Par a b) h = all-par P (trimmed a) (trimmed b) (all_trimmed P a h.0) (all_trimmed P b h.1)
  all_trimmed P (Within s a) h = by (is_done (trimmed a)) (all_trimmed P a h)
    where
      by : (u : Bool) → AllEvents P (trimmed a) → AllEvents P (if u then Skip else Within s (trimmed a))
      by true k = tt
      by false k = k

  pub unordered_trimmed : (R : E → E → Type 0) (t : Tree E S) → AllUnordered R t → AllUnordered R (trimmed t)
  unordered_trimmed R Skip h = h
  unordered_trimmed R (Act e) h = h
  unordered_trimmed R (Stuck e) h = h
  unordered_trimmed R (Seq a b) h = unordered-seq R (trimmed a) (trimmed b) (unordered_trimmed R a h.0) (unordered_trimmed R b h.1)
  unordered_trimmed R (Par a b) h =
      unordered-par R (trimmed a) (trimmed b) (unordered_trimmed R a h.0, unordered_trimmed R b h.1, all-map (λ e. AllEvents (R e) b) (λ e. AllEvents (R e) (trimmed b)) (trimmed a) (λ e. all_trimmed (R e) b) (all_trimmed (λ e. AllEvents (R e) b) a h.2))
  unordered_trimmed R (Within s a) h = by (is_done (trimmed a)) (unordered_trimmed R a h)
    where
      by : (u : Bool) → AllUnordered R (trimmed a) → AllUnordered R (if u then Skip else Within s (trimmed a))
      by true k = tt
      by false k = k
