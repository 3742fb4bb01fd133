-- Parts beside one another that are made of a list.
use Rattle.std.proofs.Common.{◌≡◌, ℕ, zero, suc, ◌+◌, ◌<◌, ◌≤◌, Bool, inl, List, [], ◌∷◌, map, length, slice_get, Some}
use Rattle.std.proofs.Common.{refl, sym, subst, arith}
use Rattle.sq_ir.specs.Tree.{Skip}
use Rattle.sq_ir.specs.Events.{Leaves}
use Rattle.sq_ir.specs.Written.{PlanTree, seq_of, par_of}
use Rattle.sq_placed.specs.Trees.{seq_all, par_all}
use Rattle.sq_cells.specs.Tree as cells
use Rattle.sq_cells.specs.Tree.{Cause}
use Rattle.sq_cells.specs.Lowered.{pick, beside, turns}
use Rattle.sq_cells.specs.Alike.{IsLike}
use Rattle.sq_cells.proofs.Ends.{par_empty_right}
use Rattle.sq_cells.proofs.AlikeParts.{IsSame, same_self, same_then, same_par, same_seq_end, beside_front}
use Rattle.sq_cells.proofs.Combine.{like_same, like_skip, like_seq, like_par, like_turns, like_beside}

-- a part, and nothing beside it
same_alone : (a : cells.Tree) → IsSame a (cells.Par a cells.Empty)
same_alone a = record {
  ends = par_empty_right a;
  part = record { puts = λ p x. inl x; adds = λ o p x. inl x; takes = λ p x. inl x; leaf = λ p x. inl x };
  free = λ x. x.0;
  paths = λ x. x.0;
  fits = λ x. x.0;
  counted = λ f. omega arith;
}

-- empty parts behind the others, and before them
pub beside_more : (a l : ℕ) (f : ℕ → cells.Tree) → ((i : ℕ) → a ≤ i → i < a + l → f i ≡ cells.Empty)
    → IsSame (beside a f) (beside (a + l) f)
beside_more a zero f h = let e : a ≡ a + 0
    = omega arith in subst (λ x. IsSame (beside a f) (beside x f)) e (same_self (beside a f))
beside_more a (suc l) f h =
    let e : suc (a + l) ≡ a + suc l = omega arith in
    subst (λ x. IsSame (beside a f) (beside x f)) e
    (same_then (beside a f) (beside (a + l) f) (cells.Par (beside (a + l) f) (f (a + l)))
    (beside_more a l f (λ i lo hi. h i lo (omega (arith, hi))))
    (subst (λ t. IsSame (beside (a + l) f) (cells.Par (beside (a + l) f) t))
    (sym (h (a + l) (omega arith) (omega arith))) (same_alone (beside (a + l) f))))

pub beside_less : (a l : ℕ) (f : ℕ → cells.Tree) → ((i : ℕ) → i < a → f i ≡ cells.Empty)
    → IsSame (beside l (λ i. f (a + i))) (beside (a + l) f)
beside_less a zero f h = let e : a ≡ a + 0
    = omega arith in subst (λ x. IsSame cells.Empty (beside x f)) e (none a (λ i lt. h i lt))
  where
    none : (n : ℕ) → ((i : ℕ) → i < n → f i ≡ cells.Empty) → IsSame cells.Empty (beside n f)
    none zero g = same_self cells.Empty
    none (suc n) g = subst (λ t. IsSame cells.Empty (cells.Par (beside n f) t)) (sym (g n (omega arith)))
        (same_then cells.Empty (beside n f) (cells.Par (beside n f) cells.Empty) (none n (λ i lt. g i (omega arith)))
        (same_alone (beside n f)))
beside_less a (suc l) f h =
    let e : suc (a + l) ≡ a + suc l = omega arith in
    subst (λ x. IsSame (beside (suc l) (λ i. f (a + i))) (beside x f)) e
    (same_par (beside l (λ i. f (a + i))) (f (a + l)) (beside (a + l) f) (f (a + l)) (beside_less a l f h)
    (same_self (f (a + l))))

module _ (leaves : Leaves Cause) where
  pub like_par_map : {A : Type 0} (f : A → PlanTree) (xs : List A) (g : ℕ → cells.Tree)
      → ((i : ℕ) (x : A) → slice_get xs i ≡ Some x → IsLike leaves (f x) (g i))
      → IsLike leaves (par_all (map f xs)) (beside (length xs) g)
  like_par_map f [] g h = like_skip leaves
  like_par_map f (x ∷ xs) g h =
      like_same leaves (par_all (map f (x ∷ xs))) (cells.Par (g 0) (beside (length xs) (λ i. g (suc i))))
      (beside (suc (length xs)) g)
      (like_par leaves (f x) (par_all (map f xs)) (g 0) (beside (length xs) (λ i. g (suc i))) (h 0 x refl)
      (like_par_map f xs (λ i. g (suc i)) (λ i y e. h (suc i) y e)))
      (beside_front (length xs) g)

  pub like_end : (t : PlanTree) (c : cells.Tree) → IsLike leaves t c → IsLike leaves (seq_all (t ∷ [])) c
  like_end t c h = like_same leaves (seq_all (t ∷ [])) (cells.Seq c cells.Empty) c
      (like_seq leaves t Skip c cells.Empty h (like_skip leaves)) (same_seq_end c)

  -- the iterations of a map
  pub like_iterations : (n : ℕ) (f : ℕ → PlanTree) (q : ℕ → Bool) (g : ℕ → cells.Tree)
      → ((i : ℕ) → i < n → IsLike leaves (f i) (pick (q i) (g i) cells.Empty))
      → IsLike leaves (seq_of n f 0) (turns q n g)
  like_iterations n f q g h = like_turns leaves n f 0 q g
      (λ i lt. let e : i ≡ i + 0 = omega arith in subst (λ x. IsLike leaves (f x) (pick (q i) (g i) cells.Empty)) e
      (h i lt))

  pub like_children : (n : ℕ) (f : ℕ → PlanTree) (g : ℕ → cells.Tree) → ((i : ℕ) → i < n → IsLike leaves (f i) (g i))
      → IsLike leaves (par_of n f 0) (beside n g)
  like_children n f g h = like_beside leaves n f 0 g
      (λ i lt. let e : i ≡ i + 0 = omega arith in subst (λ x. IsLike leaves (f x) (g i)) e (h i lt))
