-- Likeness of trees made of parts.
use Rattle.std.proofs.Common.{◌≡◌, ℕ, zero, suc, ◌+◌, ◌<◌, Bool, true, false, List, [], ◌∷◌, refl, sym, ap, ap₂, ◌∙◌}
use Rattle.std.proofs.Common.{subst, arith, inl, inr}
use Rattle.std.specs.Prelude.{if◌then◌else◌}
use Rattle.sq_ir.specs.Tree.{Skip, Act, Stuck, Seq, Par, Within, is_done, seq, par, within}
use Rattle.sq_ir.specs.Scopes.{Scope}
use Rattle.sq_ir.specs.Unordered.{AllEvents, AllUnordered}
use Rattle.sq_ir.specs.Events.{Event, Copy, Fill, Accumulate, Leaf, Leaves, AreIndependent, meaning}
use Rattle.sq_ir.specs.Written.{PlanTree, seq_of, par_of, scoped}
use Rattle.sq_ir.proofs.Exec.{both_true, all-map, all-seq, all-par, unordered-seq, unordered-par, exec-within}
use Rattle.sq_cells.specs.Tree as cells
use Rattle.sq_cells.specs.Tree.{Cause, run}
use Rattle.sq_cells.specs.Lowered.{pick, beside, turns}
use Rattle.sq_cells.specs.Alike.{state_of, end_of, IsOf, Weight, leaf_count, kind_of, IsLike}
use Rattle.sq_cells.proofs.Ends.{seq_does, par_does}
use Rattle.sq_cells.proofs.AlikeParts.{IsPart, IsSame, beside_front, turns_front}
use Rattle.sq_cells.proofs.Apart.{apart_events}

-- what is done has no leaf event
count_done : (f : Weight) (t : PlanTree) → is_done t ≡ true → leaf_count f t ≡ 0
count_done f Skip h = refl
count_done f (Act e) h = cc
count_done f (Stuck e) h = cc
count_done f (Seq a b) h = let p = both_true (is_done a) (is_done b) h in let x = count_done f a p.0 in let y
    = count_done f b p.1 in omega (arith, x, y)
count_done f (Par a b) h = let p = both_true (is_done a) (is_done b) h in let x = count_done f a p.0 in let y
    = count_done f b p.1 in omega (arith, x, y)
count_done f (Within s a) h = count_done f a h

pub count_seq : (f : Weight) (a b : PlanTree) → leaf_count f (seq a b) ≡ leaf_count f a + leaf_count f b
count_seq f a b = by (is_done a) (is_done b) refl refl
  where
    by : (u v : Bool) → is_done a ≡ u → is_done b ≡ v → leaf_count f (if u then b else (if v then a else Seq a b))
        ≡ leaf_count f a + leaf_count f b
    by true v h k = let x = count_done f a h in omega (arith, x)
    by false true h k = let x = count_done f b k in omega (arith, x)
    by false false h k = refl

count_par : (f : Weight) (a b : PlanTree) → leaf_count f (par a b) ≡ leaf_count f a + leaf_count f b
count_par f a b = by (is_done a) (is_done b) refl refl
  where
    by : (u v : Bool) → is_done a ≡ u → is_done b ≡ v → leaf_count f (if u then b else (if v then a else Par a b))
        ≡ leaf_count f a + leaf_count f b
    by true v h k = let x = count_done f a h in omega (arith, x)
    by false true h k = let x = count_done f b k in omega (arith, x)
    by false false h k = refl

count_within : (f : Weight) (s : Scope) (a : PlanTree) → leaf_count f (within s a) ≡ leaf_count f a
count_within f s a = by (is_done a) refl
  where
    by : (v : Bool) → is_done a ≡ v → leaf_count f (if v then Skip else Within s a) ≡ leaf_count f a
    by true h = sym (count_done f a h)
    by false h = refl

-- parts in sequence without leaf events
pub count_none : (f : Weight) (n : ℕ) (g : ℕ → PlanTree) (k : ℕ) → ((i : ℕ) → leaf_count f (g i) ≡ 0)
    → leaf_count f (seq_of n g k) ≡ 0
unfolding seq_of
count_none f zero g k h = refl
count_none f (suc n) g k h = let x = h k in let y = count_none f n g (k + 1) h in count_seq f (g k) (seq_of n g (k + 1))
    ∙ omega (arith, x, y)

module _ (leaves : Leaves Cause) where
  -- an event of a part
  of_more : (c d : cells.Tree) → IsPart c d → (e : Event) → IsOf leaves c e → IsOf leaves d e
  of_more c d h (Copy from to bytes) x = (λ a i. h.puts _ (x.0 a i), λ a i. h.takes _ (x.1 a i))
  of_more c d h (Fill to elem count v) x = λ a i. h.puts _ (x a i)
  of_more c d h (Accumulate op elem from to count) x = (λ a i. h.adds _ _ (x.0 a i), λ a i. h.takes _ (x.1 a i))
  of_more c d h (Leaf node code vs path) x = (λ a i. h.puts _ (x.0 a i), λ a i. h.takes _ (x.1 a i), h.leaf _ x.2)

  pub like_same : (t : PlanTree) (c d : cells.Tree) → IsLike leaves t c → IsSame c d → IsLike leaves t d
  like_same t c d h s = record {
    does = λ f m. h.does (s.fits f) m ∙ ap end_of (s.ends (state_of m));
    events = all-map (IsOf leaves c) (IsOf leaves d) t (of_more c d s.part) h.events;
    safe = λ f p. h.safe (s.free f) (s.paths p);
    may = λ f. h.may (s.fits f);
    counted = λ f. h.counted f ∙ s.counted (kind_of f);
  }

  pub like_skip : IsLike leaves Skip cells.Empty
  like_skip = record { does = λ f m. refl; events = tt; safe = λ f p. tt; may = λ f. tt; counted = λ f. refl }

  pub like_seq : (a b : PlanTree) (c d : cells.Tree) → IsLike leaves a c → IsLike leaves b d
      → IsLike leaves (seq a b) (cells.Seq c d)
  like_seq a b c d h g = record {
    does = λ f. seq_does leaves a b c d (h.does f.0) (g.does f.1);
    events = all-seq (IsOf leaves (cells.Seq c d)) a b
        (all-map (IsOf leaves c) (IsOf leaves (cells.Seq c d)) a (of_more c (cells.Seq c d) left) h.events)
        (all-map (IsOf leaves d) (IsOf leaves (cells.Seq c d)) b (of_more d (cells.Seq c d) right) g.events);
    safe = λ f p. unordered-seq (AreIndependent leaves) a b (h.safe f.0 p.0) (g.safe f.1 p.1);
    may = λ f. all-seq _ a b (h.may f.0) (g.may f.1);
    counted = λ f. count_seq f a b ∙ ap₂ (λ x y. x + y) (h.counted f) (g.counted f);
  }
    where
      left : IsPart c (cells.Seq c d)
      left = record { puts = λ p x. inl x; adds = λ o p x. inl x; takes = λ p x. inl x; leaf = λ p x. inl x }

      right : IsPart d (cells.Seq c d)
      right = record { puts = λ p x. inr x; adds = λ o p x. inr x; takes = λ p x. inr x; leaf = λ p x. inr x }

  pub like_par : (a b : PlanTree) (c d : cells.Tree) → IsLike leaves a c → IsLike leaves b d
      → IsLike leaves (par a b) (cells.Par c d)
  like_par a b c d h g = record {
    does = λ f. par_does leaves a b c d (h.does f.0) (g.does f.1);
    events = all-par (IsOf leaves (cells.Par c d)) a b
        (all-map (IsOf leaves c) (IsOf leaves (cells.Par c d)) a (of_more c (cells.Par c d) left) h.events)
        (all-map (IsOf leaves d) (IsOf leaves (cells.Par c d)) b (of_more d (cells.Par c d) right) g.events);
    safe = λ f p. unordered-par (AreIndependent leaves) a b (
      h.safe f.0 p.0,
      g.safe f.1 p.1,
      all-map (IsOf leaves c) (λ e. AllEvents (AreIndependent leaves e) b) a
          (λ e x. all-map (IsOf leaves d) (AreIndependent leaves e) b (λ k y. apart_events leaves c d f.2 p.2 e k x y)
          g.events) h.events,
    );
    may = λ f. all-par _ a b (h.may f.0) (g.may f.1);
    counted = λ f. count_par f a b ∙ ap₂ (λ x y. x + y) (h.counted f) (g.counted f);
  }
    where
      left : IsPart c (cells.Par c d)
      left = record { puts = λ p x. inl x; adds = λ o p x. inl x; takes = λ p x. inl x; leaf = λ p x. inl x }

      right : IsPart d (cells.Par c d)
      right = record { puts = λ p x. inr x; adds = λ o p x. inr x; takes = λ p x. inr x; leaf = λ p x. inr x }

  like_within : (s : Scope) (a : PlanTree) (c : cells.Tree) → IsLike leaves a c → IsLike leaves (within s a) c
  like_within s a c h = record {
    does = λ f m. exec-within (meaning leaves) s a m ∙ h.does f m;
    events = all (IsOf leaves c) (is_done a) h.events;
    safe = λ f p. unordered (AreIndependent leaves) (is_done a) (h.safe f p);
    may = λ f. all _ (is_done a) (h.may f);
    counted = λ f. count_within f s a ∙ h.counted f;
  }
    where
      all : (P : Event → Type 0) (v : Bool) → AllEvents P a → AllEvents P (if v then Skip else Within s a)
      all P true x = tt
      all P false x = x

      unordered : (R : Event → Event → Type 0) (v : Bool) → AllUnordered R a
          → AllUnordered R (if v then Skip else Within s a)
      unordered R true x = tt
      unordered R false x = x

  pub like_scoped : (node : ℕ) (buffers : List ℕ) (a : PlanTree) (c : cells.Tree) → IsLike leaves a c
      → IsLike leaves (scoped node buffers a) c
  like_scoped node [] a c h = h
  like_scoped node (b ∷ bs) a c h = like_within (record { node = node; buffers = b ∷ bs }) a c h

  -- numbered parts in sequence
  pub like_turns : (n : ℕ) (f : ℕ → PlanTree) (k : ℕ) (q : ℕ → Bool) (g : ℕ → cells.Tree)
      → ((i : ℕ) → i < n → IsLike leaves (f (i + k)) (pick (q i) (g i) cells.Empty))
      → IsLike leaves (seq_of n f k) (turns q n g)
  unfolding seq_of
  like_turns zero f k q g h = like_skip
  like_turns (suc n) f k q g h =
      like_same (seq_of (suc n) f k)
      (cells.Seq (pick (q 0) (g 0) cells.Empty) (turns (λ i. q (suc i)) n (λ i. g (suc i)))) (turns q (suc n) g)
      (like_seq (f k) (seq_of n f (k + 1)) _ _
      (subst (λ x. IsLike leaves (f x) (pick (q 0) (g 0) cells.Empty)) here (h 0 (omega arith)))
      (like_turns n f (k + 1) (λ i. q (suc i)) (λ i. g (suc i))
      (λ i lt. subst (λ x. IsLike leaves (f x) (pick (q (suc i)) (g (suc i)) cells.Empty)) (moved i)
      (h (suc i) (omega (arith, lt))))))
      (turns_front q n g)
    where
      moved : (i : ℕ) → suc i + k ≡ i + (k + 1)
      moved i = omega arith

      here : 0 + k ≡ k
      here = omega arith

  -- and beside one another
  pub like_beside : (n : ℕ) (f : ℕ → PlanTree) (k : ℕ) (g : ℕ → cells.Tree)
      → ((i : ℕ) → i < n → IsLike leaves (f (i + k)) (g i)) → IsLike leaves (par_of n f k) (beside n g)
  unfolding par_of
  like_beside zero f k g h = like_skip
  like_beside (suc n) f k g h =
      like_same (par_of (suc n) f k) (cells.Par (g 0) (beside n (λ i. g (suc i)))) (beside (suc n) g)
      (like_par (f k) (par_of n f (k + 1)) _ _ (subst (λ x. IsLike leaves (f x) (g 0)) here (h 0 (omega arith)))
      (like_beside n f (k + 1) (λ i. g (suc i))
      (λ i lt. subst (λ x. IsLike leaves (f x) (g (suc i))) (moved i) (h (suc i) (omega (arith, lt))))))
      (beside_front n g)
    where
      moved : (i : ℕ) → suc i + k ≡ i + (k + 1)
      moved i = omega arith

      here : 0 + k ≡ k
      here = omega arith
