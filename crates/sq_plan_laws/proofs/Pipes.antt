-- A list of iterations whose transfers overlap, in the order of its positions.
use Rattle.std.proofs.Common.{◌≡◌, ℕ, zero, suc, ◌<◌, ◌≤◌, Bool, true, false, nat_lt, [], ◌∷◌, refl, sym, ap, ◌∙◌}
use Rattle.std.proofs.Common.{subst, arith, inl, inr, ⊎_elim}
use Rattle.std.specs.Prelude.{if◌then◌else◌}
use Rattle.std.proofs.lemmas.Bool.Decides.{nat_tests}
use Rattle.sq_ir.specs.Tree.{Skip, seq}
use Rattle.sq_ir.specs.Events.{Leaves}
use Rattle.sq_ir.specs.Written.{PlanTree, seq_of}
use Rattle.sq_placed.specs.Trees as trees
use Rattle.sq_placed.specs.Trees.{seq_all, turn_before, turn_after, turn_of}
use Rattle.sq_cells.specs.Tree as cells
use Rattle.sq_cells.specs.Tree.{Cause}
use Rattle.sq_cells.specs.Lowered.{pick, turns, every, Stand, NoneYet, First, More, next_stand, stand, stage_of, staged}
use Rattle.sq_cells.specs.Lowered.{last_of, piped, how_many}
use Rattle.sq_cells.specs.Alike.{IsLike}
use Rattle.sq_cells.proofs.Ends.{seq_empty_right, seq_assoc}
use Rattle.sq_cells.proofs.AlikeParts.{IsSame, same_self, same_then, same_seq, same_par, same_seq_assoc, same_seq_turn}
use Rattle.sq_cells.proofs.AlikeParts.{same_seq_end}
use Rattle.sq_cells.proofs.Combine.{like_same, like_skip, like_seq, like_par}
use Rattle.sq_plan_laws.proofs.Lists.{like_iterations, like_end}

same_alone : (a : cells.Tree) → IsSame a (cells.Seq a cells.Empty)
same_alone a = record {
  ends = seq_empty_right a;
  part = record { puts = λ p x. inl x; adds = λ o p x. inl x; takes = λ p x. inl x; leaf = λ p x. inl x };
  free = λ x. x.0;
  paths = λ x. x.0;
  fits = λ x. x.0;
  counted = λ f. omega arith;
}

same_seq_back : (a b c : cells.Tree) → IsSame (cells.Seq (cells.Seq a b) c) (cells.Seq a (cells.Seq b c))
same_seq_back a b c = record {
  ends = λ m. sym (seq_assoc a b c m);
  part = record {
    puts = λ p x. ⊎_elim (λ z. ⊎_elim (λ y. inl y) (λ y. inr (inl y)) z) (λ y. inr (inr y)) x;
    adds = λ o p x. ⊎_elim (λ z. ⊎_elim (λ y. inl y) (λ y. inr (inl y)) z) (λ y. inr (inr y)) x;
    takes = λ p x. ⊎_elim (λ z. ⊎_elim (λ y. inl y) (λ y. inr (inl y)) z) (λ y. inr (inr y)) x;
    leaf = λ p x. ⊎_elim (λ z. ⊎_elim (λ y. inl y) (λ y. inr (inl y)) z) (λ y. inr (inr y)) x;
  };
  free = λ x. ((x.0, x.1.0), x.1.1);
  paths = λ x. ((x.0, x.1.0), x.1.1);
  fits = λ x. ((x.0, x.1.0), x.1.1);
  counted = λ f. omega arith;
}

-- ---- by positions

module _ (C W B : ℕ → cells.Tree) where
  abbrev pub earlier : ℕ → cells.Tree
  earlier zero = cells.Empty
  earlier (suc j) = B j

  abbrev pub begun : ℕ → cells.Tree
  begun zero = cells.Seq cells.Empty (C 0)
  begun (suc j) = cells.Seq (begun j) (cells.Par (W j) (cells.Seq (earlier j) (C (suc j))))

  abbrev pub front : ℕ → cells.Tree
  front zero = cells.Empty
  front (suc k) = begun k

  abbrev pub last : ℕ → cells.Tree
  last zero = cells.Empty
  last (suc k) = cells.Seq (cells.Par (W k) (earlier k)) (B k)

  abbrev pub whole : ℕ → cells.Tree
  whole m = cells.Seq (front m) (last m)

-- the iterations in q below n stand at the positions that `at` gives
module _ (come work back : ℕ → cells.Tree) (q : ℕ → Bool) (n : ℕ) (at : ℕ → ℕ)
    (there : (t : ℕ) → t < n → q t ≡ true → at (how_many q t) ≡ t) where
  abbrev C : ℕ → cells.Tree
  C j = come (at j)

  abbrev W : ℕ → cells.Tree
  W j = work (at j)

  abbrev B : ℕ → cells.Tree
  B j = back (at j)

  abbrev stand_at : ℕ → Stand
  stand_at zero = NoneYet
  stand_at (suc zero) = First (at 0)
  stand_at (suc (suc j)) = More (at j) (at (suc j))

  record Same (j : ℕ) : Type 0 where
    trees_are : IsSame (front C W B (how_many q j)) (staged come work back q j)
    stand_is : stand q j ≡ stand_at (how_many q j)

  next_at : (h j : ℕ) → at h ≡ j → next_stand (stand_at h) j ≡ stand_at (suc h)
  next_at zero j e = ap First (sym e)
  next_at (suc zero) j e = ap (More (at 0)) (sym e)
  next_at (suc (suc h)) j e = ap (More (at (suc h))) (sym e)

  stage_at : (h j : ℕ) → at h ≡ j → (x : cells.Tree) → IsSame (front C W B h) x
      → IsSame (begun C W B h) (cells.Seq x (stage_of come work back (stand_at h) j))
  stage_at zero j e x s = subst (λ y. IsSame (cells.Seq cells.Empty (C 0)) (cells.Seq x (come y))) e
      (same_seq cells.Empty (C 0) x (C 0) s (same_self (C 0)))
  stage_at (suc zero) j e x s = subst
      (λ y. IsSame (begun C W B 1) (cells.Seq x (cells.Par (work (at 0)) (cells.Seq cells.Empty (come y))))) e
      (same_seq (begun C W B 0) (cells.Par (W 0) (cells.Seq cells.Empty (C 1))) x
      (cells.Par (W 0) (cells.Seq cells.Empty (C 1))) s (same_self (cells.Par (W 0) (cells.Seq cells.Empty (C 1)))))
  stage_at (suc (suc h)) j e x s = subst
      (λ y. IsSame (begun C W B (suc (suc h)))
      (cells.Seq x (cells.Par (work (at (suc h))) (cells.Seq (back (at h)) (come y))))) e
      (same_seq (begun C W B (suc h)) (cells.Par (W (suc h)) (cells.Seq (B h) (C (suc (suc h))))) x
      (cells.Par (W (suc h)) (cells.Seq (B h) (C (suc (suc h))))) s
      (same_self (cells.Par (W (suc h)) (cells.Seq (B h) (C (suc (suc h)))))))

  all_same : (j : ℕ) → j ≤ n → Same j
  all_same zero le = record { trees_are = same_self cells.Empty; stand_is = refl }
  all_same (suc j) le = go (all_same j (omega arith)) (q j) refl
    where
      go : Same j → (b : Bool) → q j ≡ b → Same (suc j)
      go r true e =
          let a = there j (omega arith) e in
          record {
            trees_are = rw e (subst (λ d. IsSame (begun C W B (how_many q j))
                (cells.Seq (staged come work back q j) (stage_of come work back d j))) (sym r.stand_is)
                (stage_at (how_many q j) j a (staged come work back q j) r.trees_are));
            stand_is = rw e (ap (λ d. next_stand d j) r.stand_is ∙ next_at (how_many q j) j a);
          }
      go r false e =
          record {
            trees_are = rw e (same_then (front C W B (how_many q j)) (staged come work back q j)
                (cells.Seq (staged come work back q j) cells.Empty) r.trees_are
                (same_alone (staged come work back q j)));
            stand_is = rw e r.stand_is;
          }

  last_at : (m : ℕ) → IsSame (last C W B m) (last_of work back (stand_at m))
  last_at zero = same_self cells.Empty
  last_at (suc zero) = same_self (last C W B 1)
  last_at (suc (suc m)) = same_self (last C W B (suc (suc m)))

  pub piped_same : IsSame (whole C W B (how_many q n)) (piped come work back q n)
  piped_same =
      let r = all_same n (omega arith) in
      same_seq (front C W B (how_many q n)) (last C W B (how_many q n)) (staged come work back q n)
      (last_of work back (stand q n)) r.trees_are
      (subst (λ d. IsSame (last C W B (how_many q n)) (last_of work back d)) (sym r.stand_is) (last_at (how_many q n)))

-- ---- the plan's list

module _ (leaves : Leaves Cause) (come work back : ℕ → PlanTree) (C W B : ℕ → cells.Tree) where
  module _ (m : ℕ) (c : (j : ℕ) → j < m → IsLike leaves (come j) (C j))
      (w : (j : ℕ) → j < m → IsLike leaves (work j) (W j)) (b : (j : ℕ) → j < m → IsLike leaves (back j) (B j)) where
    abbrev after : ℕ → cells.Tree
    after j = pick (nat_lt (suc j) m) (C (suc j)) cells.Empty

    abbrev one : ℕ → cells.Tree
    one j = cells.Par (W j) (cells.Seq (earlier C W B j) (after j))

    before_like : (j : ℕ) → j < m → IsLike leaves (turn_before back j) (earlier C W B j)
    before_like zero lt = like_skip leaves
    before_like (suc j) lt = b j (omega arith)

    after_like : (j : ℕ) → IsLike leaves (turn_after come m j) (after j)
    after_like j = by (nat_lt (suc j) m) refl
      where
        by : (v : Bool) → nat_lt (suc j) m ≡ v
            → IsLike leaves (if v then come (suc j) else Skip) (pick v (C (suc j)) cells.Empty)
        by true e = c (suc j) (grind (arith, nat_tests))
        by false e = like_skip leaves

    one_like : (j : ℕ) → j < m → IsLike leaves (turn_of come work back m j) (one j)
    one_like j lt = like_par leaves (work j) (seq (turn_before back j) (turn_after come m j)) (W j)
        (cells.Seq (earlier C W B j) (after j)) (w j lt)
        (like_seq leaves (turn_before back j) (turn_after come m j) (earlier C W B j) (after j) (before_like j lt)
        (after_like j))

    begun_same : (j : ℕ) → j < m → IsSame (cells.Seq (C 0) (turns every j one)) (begun C W B j)
    begun_same zero lt = same_seq_turn (C 0)
    begun_same (suc j) lt =
        let e : nat_lt (suc j) m ≡ true = grind (arith, nat_tests) in
        let t = turns every j one in
        same_then (cells.Seq (C 0) (cells.Seq t (one j))) (cells.Seq (cells.Seq (C 0) t) (one j)) (begun C W B (suc j))
        (same_seq_assoc (C 0) t (one j))
        (same_seq (cells.Seq (C 0) t) (one j) (begun C W B j)
        (cells.Par (W j) (cells.Seq (earlier C W B j) (C (suc j)))) (begun_same j (omega arith))
        (subst (λ v. IsSame (cells.Par (W j) (cells.Seq (earlier C W B j) (pick v (C (suc j)) cells.Empty)))
        (cells.Par (W j) (cells.Seq (earlier C W B j) (C (suc j))))) (sym e)
        (same_self (cells.Par (W j) (cells.Seq (earlier C W B j) (C (suc j)))))))

  pub piped_like : (m : ℕ) → ((j : ℕ) → j < m → IsLike leaves (come j) (C j))
      → ((j : ℕ) → j < m → IsLike leaves (work j) (W j)) → ((j : ℕ) → j < m → IsLike leaves (back j) (B j))
      → IsLike leaves (trees.pipeline come work back m) (whole C W B m)
  piped_like zero c w b = like_same leaves Skip cells.Empty (whole C W B 0) (like_skip leaves) (same_alone cells.Empty)
  piped_like (suc k) c w b =
      let g = one (suc k) c w b in
      let t = turns every k g in
      let all = seq_of (suc k) (turn_of come work back (suc k)) 0 in
      let e : nat_lt (suc k) (suc k) ≡ false = grind (arith, nat_tests) in
      like_same leaves (trees.pipeline come work back (suc k)) (cells.Seq (C 0) (cells.Seq (cells.Seq t (g k)) (B k)))
      (whole C W B (suc k))
      (like_seq leaves (come 0) (seq_all (all ∷ back k ∷ [])) (C 0) (cells.Seq (turns every (suc k) g) (B k))
      (c 0 (omega arith))
      (like_seq leaves all (seq_all (back k ∷ [])) (turns every (suc k) g) (B k)
      (like_iterations leaves (suc k) (turn_of come work back (suc k)) every g (λ j lt. one_like (suc k) c w b j lt))
      (like_end leaves (back k) (B k) (b k (omega arith)))))
      (same_then (cells.Seq (C 0) (cells.Seq (cells.Seq t (g k)) (B k)))
      (cells.Seq (C 0) (cells.Seq t (cells.Seq (g k) (B k)))) (whole C W B (suc k))
      (same_seq (C 0) (cells.Seq (cells.Seq t (g k)) (B k)) (C 0) (cells.Seq t (cells.Seq (g k) (B k)))
      (same_self (C 0)) (same_seq_back t (g k) (B k)))
      (same_then (cells.Seq (C 0) (cells.Seq t (cells.Seq (g k) (B k))))
      (cells.Seq (cells.Seq (C 0) t) (cells.Seq (g k) (B k))) (whole C W B (suc k))
      (same_seq_assoc (C 0) t (cells.Seq (g k) (B k)))
      (same_seq (cells.Seq (C 0) t) (cells.Seq (g k) (B k)) (begun C W B k) (last C W B (suc k))
      (begun_same (suc k) c w b k (omega arith))
      (same_seq (g k) (B k) (cells.Par (W k) (earlier C W B k)) (B k)
      (subst (λ v. IsSame (cells.Par (W k) (cells.Seq (earlier C W B k) (pick v (C (suc k)) cells.Empty)))
      (cells.Par (W k) (earlier C W B k))) (sym e)
      (same_par (W k) (cells.Seq (earlier C W B k) cells.Empty) (W k) (earlier C W B k) (same_self (W k))
      (same_seq_end (earlier C W B k)))) (same_self (B k))))))
