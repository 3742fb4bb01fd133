-- Trees over cells, grouped in another way.
use Rattle.std.proofs.Common.{◌≡◌, ℕ, zero, suc, ◌+◌, Bool, List, refl, sym, ap₂, arith, ◌∙◌, inl, inr, ⊎_elim}
use Rattle.sq_cells.specs.Cells.{Spot}
use Rattle.sq_cells.specs.Tree.{Target, Tree, Empty, Seq, Par, Puts, Adds, Takes, IsApart, Independent}
use Rattle.sq_cells.specs.Lowered.{pick, beside, turns}
use Rattle.sq_cells.specs.Leaves.{Kind, leaf_events, HasLeaf, PathsApart}
use Rattle.sq_cells.specs.Fits.{ActsFit}
use Rattle.sq_cells.proofs.Ends.{EndAlike, seq_assoc, par_assoc, seq_empty_right, par_empty_right, seq_alike, par_alike}

-- what one tree touches the other does
pub record IsPart (c d : Tree) : Type 0 where
  pub puts : (p : Spot) → Puts c p → Puts d p
  pub adds : (o : Target) (p : Spot) → Adds c o p → Adds d o p
  pub takes : (p : Spot) → Takes c p → Takes d p
  pub leaf : (path : List ℕ) → HasLeaf c path → HasLeaf d path

-- c is d, grouped in another way
pub record IsSame (c d : Tree) : Type 0 where
  pub ends : EndAlike c d
  pub part : IsPart c d
  pub free : Independent d → Independent c
  pub paths : PathsApart d → PathsApart c
  pub fits : ActsFit d → ActsFit c
  pub counted : (f : Kind) → leaf_events f c ≡ leaf_events f d

pub part_seq : (a b c d : Tree) → IsPart a c → IsPart b d → IsPart (Seq a b) (Seq c d)
part_seq a b c d h g = record {
  puts = λ p x. ⊎_elim (λ y. inl (h.puts p y)) (λ y. inr (g.puts p y)) x;
  adds = λ o p x. ⊎_elim (λ y. inl (h.adds o p y)) (λ y. inr (g.adds o p y)) x;
  takes = λ p x. ⊎_elim (λ y. inl (h.takes p y)) (λ y. inr (g.takes p y)) x;
  leaf = λ p x. ⊎_elim (λ y. inl (h.leaf p y)) (λ y. inr (g.leaf p y)) x;
}

pub part_par : (a b c d : Tree) → IsPart a c → IsPart b d → IsPart (Par a b) (Par c d)
part_par a b c d h g = record {
  puts = λ p x. ⊎_elim (λ y. inl (h.puts p y)) (λ y. inr (g.puts p y)) x;
  adds = λ o p x. ⊎_elim (λ y. inl (h.adds o p y)) (λ y. inr (g.adds o p y)) x;
  takes = λ p x. ⊎_elim (λ y. inl (h.takes p y)) (λ y. inr (g.takes p y)) x;
  leaf = λ p x. ⊎_elim (λ y. inl (h.leaf p y)) (λ y. inr (g.leaf p y)) x;
}

pub apart_part : (a b c d : Tree) → IsPart a c → IsPart b d → IsApart c d → IsApart a b
apart_part a b c d h g x = record {
  puts_puts = λ p y z. x.puts_puts p (h.puts p y) (g.puts p z);
  puts_takes = λ p y z. x.puts_takes p (h.puts p y) (g.takes p z);
  takes_puts = λ p y z. x.takes_puts p (h.takes p y) (g.puts p z);
  puts_adds = λ o p y z. x.puts_adds o p (h.puts p y) (g.adds o p z);
  adds_puts = λ o p y z. x.adds_puts o p (h.adds o p y) (g.puts p z);
  takes_adds = λ o p y z. x.takes_adds o p (h.takes p y) (g.adds o p z);
  adds_takes = λ o p y z. x.adds_takes o p (h.adds o p y) (g.takes p z);
  adds_adds = λ o o' p y z. x.adds_adds o o' p (h.adds o p y) (g.adds o' p z);
}

-- apart from two, and so from both
apart_both : (a b c : Tree) → IsApart a b → IsApart a c → IsApart a (Par b c)
apart_both a b c x y = record {
  puts_puts = λ p h g. ⊎_elim (λ k. x.puts_puts p h k) (λ k. y.puts_puts p h k) g;
  puts_takes = λ p h g. ⊎_elim (λ k. x.puts_takes p h k) (λ k. y.puts_takes p h k) g;
  takes_puts = λ p h g. ⊎_elim (λ k. x.takes_puts p h k) (λ k. y.takes_puts p h k) g;
  puts_adds = λ o p h g. ⊎_elim (λ k. x.puts_adds o p h k) (λ k. y.puts_adds o p h k) g;
  adds_puts = λ o p h g. ⊎_elim (λ k. x.adds_puts o p h k) (λ k. y.adds_puts o p h k) g;
  takes_adds = λ o p h g. ⊎_elim (λ k. x.takes_adds o p h k) (λ k. y.takes_adds o p h k) g;
  adds_takes = λ o p h g. ⊎_elim (λ k. x.adds_takes o p h k) (λ k. y.adds_takes o p h k) g;
  adds_adds = λ o o' p h g. ⊎_elim (λ k. x.adds_adds o o' p h k) (λ k. y.adds_adds o o' p h k) g;
}

part_self : (c : Tree) → IsPart c c
part_self c = record { puts = λ p x. x; adds = λ o p x. x; takes = λ p x. x; leaf = λ p x. x }

pub same_self : (c : Tree) → IsSame c c
same_self c = record {
  ends = λ m. refl;
  part = part_self c;
  free = λ x. x;
  paths = λ x. x;
  fits = λ x. x;
  counted
      = λ f. refl;
}

pub same_then : (a b c : Tree) → IsSame a b → IsSame b c → IsSame a c
same_then a b c h g = record {
  ends = λ m. h.ends m ∙ g.ends m;
  part = record {
    puts = λ p x. g.part.puts p (h.part.puts p x);
    adds
        = λ o p x. g.part.adds o p (h.part.adds o p x);
    takes = λ p x. g.part.takes p (h.part.takes p x);
    leaf
        = λ p x. g.part.leaf p (h.part.leaf p x);
  };
  free = λ x. h.free (g.free x);
  paths = λ x. h.paths (g.paths x);
  fits = λ x. h.fits (g.fits x);
  counted = λ f. h.counted f ∙ g.counted f;
}

pub same_seq : (a b c d : Tree) → IsSame a c → IsSame b d → IsSame (Seq a b) (Seq c d)
same_seq a b c d h g = record {
  ends = seq_alike a b c d h.ends g.ends;
  part = part_seq a b c d h.part g.part;
  free = λ x. (h.free x.0, g.free x.1);
  paths = λ x. (h.paths x.0, g.paths x.1);
  fits = λ x. (h.fits x.0, g.fits x.1);
  counted = λ f. ap₂ (λ x y. x + y) (h.counted f) (g.counted f);
}

pub same_par : (a b c d : Tree) → IsSame a c → IsSame b d → IsSame (Par a b) (Par c d)
same_par a b c d h g = record {
  ends = par_alike a b c d h.ends g.ends;
  part = part_par a b c d h.part g.part;
  free = λ x. (h.free x.0, g.free x.1, apart_part a b c d h.part g.part x.2);
  paths = λ x. (h.paths x.0, g.paths x.1, λ p y z. x.2 p (h.part.leaf p y) (g.part.leaf p z));
  fits = λ x. (h.fits x.0, g.fits x.1);
  counted = λ f. ap₂ (λ x y. x + y) (h.counted f) (g.counted f);
}

pub same_seq_assoc : (a b c : Tree) → IsSame (Seq a (Seq b c)) (Seq (Seq a b) c)
same_seq_assoc a b c = record {
  ends = seq_assoc a b c;
  part = record {
    puts = λ p x. ⊎_elim (λ y. inl (inl y)) (λ z. ⊎_elim (λ y. inl (inr y)) (λ y. inr y) z) x;
    adds = λ o p x. ⊎_elim (λ y. inl (inl y)) (λ z. ⊎_elim (λ y. inl (inr y)) (λ y. inr y) z) x;
    takes = λ p x. ⊎_elim (λ y. inl (inl y)) (λ z. ⊎_elim (λ y. inl (inr y)) (λ y. inr y) z) x;
    leaf = λ p x. ⊎_elim (λ y. inl (inl y)) (λ z. ⊎_elim (λ y. inl (inr y)) (λ y. inr y) z) x;
  };
  free = λ x. (x.0.0, (x.0.1, x.1));
  paths = λ x. (x.0.0, (x.0.1, x.1));
  fits = λ x. (x.0.0, (x.0.1, x.1));
  counted = λ f. omega arith;
}

pub same_par_assoc : (a b c : Tree) → IsSame (Par a (Par b c)) (Par (Par a b) c)
same_par_assoc a b c = record {
  ends = par_assoc a b c;
  part = record {
    puts = λ p x. ⊎_elim (λ y. inl (inl y)) (λ z. ⊎_elim (λ y. inl (inr y)) (λ y. inr y) z) x;
    adds = λ o p x. ⊎_elim (λ y. inl (inl y)) (λ z. ⊎_elim (λ y. inl (inr y)) (λ y. inr y) z) x;
    takes = λ p x. ⊎_elim (λ y. inl (inl y)) (λ z. ⊎_elim (λ y. inl (inr y)) (λ y. inr y) z) x;
    leaf = λ p x. ⊎_elim (λ y. inl (inl y)) (λ z. ⊎_elim (λ y. inl (inr y)) (λ y. inr y) z) x;
  };
  free = λ x. (
    x.0.0,
    (x.0.1, x.1, apart_part b c (Par a b) c (right a b) (part_self c) x.2),
    apart_both a b c x.0.2
        (apart_part a c (Par a b) c (left a b) (part_self c) x.2),
  );
  paths = λ x. (
    x.0.0,
    (x.0.1, x.1, λ p y z. x.2 p (inr y) z),
    λ p y z. ⊎_elim (λ k. x.0.2 p y k) (λ k. x.2 p (inl y) k)
        z,
  );
  fits = λ x. (x.0.0, (x.0.1, x.1));
  counted = λ f. omega arith;
}
  where
    left : (a b : Tree) → IsPart a (Par a b)
    left a b = record { puts = λ p x. inl x; adds = λ o p x. inl x; takes = λ p x. inl x; leaf = λ p x. inl x }

    right : (a b : Tree) → IsPart b (Par a b)
    right a b = record { puts = λ p x. inr x; adds = λ o p x. inr x; takes = λ p x. inr x; leaf = λ p x. inr x }

-- with an empty part
pub same_seq_turn : (a : Tree) → IsSame (Seq a Empty) (Seq Empty a)
same_seq_turn a = record {
  ends = λ m. sym (seq_empty_right a m);
  part = record {
    puts = λ p x. ⊎_elim (λ y. inr y) (λ y. absurd y) x;
    adds
        = λ o p x. ⊎_elim (λ y. inr y) (λ y. absurd y) x;
    takes = λ p x. ⊎_elim (λ y. inr y) (λ y. absurd y) x;
    leaf
        = λ p x. ⊎_elim (λ y. inr y) (λ y. absurd y) x;
  };
  free = λ x. (x.1, tt);
  paths = λ x. (x.1, tt);
  fits = λ x. (x.1, tt);
  counted = λ f. omega arith;
}

pub same_par_turn : (a : Tree) → IsSame (Par a Empty) (Par Empty a)
same_par_turn a = record {
  ends = λ m. sym (par_empty_right a m);
  part = record {
    puts = λ p x. ⊎_elim (λ y. inr y) (λ y. absurd y) x;
    adds
        = λ o p x. ⊎_elim (λ y. inr y) (λ y. absurd y) x;
    takes = λ p x. ⊎_elim (λ y. inr y) (λ y. absurd y) x;
    leaf
        = λ p x. ⊎_elim (λ y. inr y) (λ y. absurd y) x;
  };
  free = λ x. (
    x.1,
    tt,
    record {
      puts_puts = λ p y z. z;
      puts_takes = λ p y z. z;
      takes_puts = λ p y z. z;
      puts_adds = λ
          o p y z. z;
      adds_puts = λ o p y z. z;
      takes_adds = λ o p y z. z;
      adds_takes = λ o p y z. z;
      adds_adds
          = λ o o' p y z. absurd z;
    },
  );
  paths = λ x. (x.1, tt, λ p y z. z);
  fits = λ x. (x.1, tt);
  counted = λ f. omega arith;
}

-- an empty part left out at the end of a sequence, or before a part
pub same_seq_end : (a : Tree) → IsSame (Seq a Empty) a
same_seq_end a = record {
  ends = λ m. sym (seq_empty_right a m);
  part = record {
    puts = λ p x. ⊎_elim (λ y. y) (λ y. absurd y) x;
    adds
        = λ o p x. ⊎_elim (λ y. y) (λ y. absurd y) x;
    takes = λ p x. ⊎_elim (λ y. y) (λ y. absurd y) x;
    leaf
        = λ p x. ⊎_elim (λ y. y) (λ y. absurd y) x;
  };
  free = λ x. (x, tt);
  paths = λ x. (x, tt);
  fits = λ x. (x, tt);
  counted = λ f. omega arith;
}

-- ---- numbered parts, the first one taken out

pub beside_front : (n : ℕ) (f : ℕ → Tree) → IsSame (Par (f 0) (beside n (λ i. f (suc i)))) (beside (suc n) f)
beside_front zero f = same_par_turn (f 0)
beside_front (suc n) f =
    same_then (Par (f 0) (Par (beside n (λ i. f (suc i))) (f (suc n))))
    (Par (Par (f 0) (beside n (λ i. f (suc i)))) (f (suc n))) (Par (beside (suc n) f) (f (suc n)))
    (same_par_assoc (f 0) (beside n (λ i. f (suc i))) (f (suc n)))
    (same_par (Par (f 0) (beside n (λ i. f (suc i)))) (f (suc n)) (beside (suc n) f) (f (suc n)) (beside_front n f)
    (same_self (f (suc n))))

pub turns_front : (q : ℕ → Bool) (n : ℕ) (f : ℕ → Tree)
    → IsSame (Seq (pick (q 0) (f 0) Empty) (turns (λ i. q (suc i)) n (λ i. f (suc i)))) (turns q (suc n) f)
turns_front q zero f = same_seq_turn (pick (q 0) (f 0) Empty)
turns_front q (suc n) f =
    let a = pick (q 0) (f 0) Empty in
    let b = turns (λ i. q (suc i)) n (λ i. f (suc i)) in
    let c = pick (q (suc n)) (f (suc n)) Empty in
    same_then (Seq a (Seq b c)) (Seq (Seq a b) c) (Seq (turns q (suc n) f) c) (same_seq_assoc a b c)
    (same_seq (Seq a b) c (turns q (suc n) f) c (turns_front q n f) (same_self c))
