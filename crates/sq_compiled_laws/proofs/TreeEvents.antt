-- What holds of each event of parts holds of each event of the trees that are made of them.
use Rattle.std.proofs.Common.{ℕ, zero, suc, ◌+◌, Bool, true, false, List, [], ◌∷◌, if◌then◌else◌}
use Rattle.sq_ir.specs.Tree.{Skip, Act, Stuck, Seq, Par, Within, is_done, seq, par}
use Rattle.sq_ir.specs.Unordered.{AllEvents}
use Rattle.sq_ir.specs.Events.{Event}
use Rattle.sq_ir.specs.Written.{PlanTree, seq_of, par_of, scoped}

module _ (P : Event → Type 0) where
  pub in_seq : (a b : PlanTree) → AllEvents P a → AllEvents P b → AllEvents P (seq a b)
  in_seq a b h g = by (is_done a) (is_done b)
    where
      by : (u v : Bool) → AllEvents P (if u then b else (if v then a else Seq a b))
      by true v = g
      by false true = h
      by false false = (h, g)

  pub in_par : (a b : PlanTree) → AllEvents P a → AllEvents P b → AllEvents P (par a b)
  in_par a b h g = by (is_done a) (is_done b)
    where
      by : (u v : Bool) → AllEvents P (if u then b else (if v then a else Par a b))
      by true v = g
      by false true = h
      by false false = (h, g)

  pub in_scope : (node : ℕ) (bs : List ℕ) (a : PlanTree) → AllEvents P a → AllEvents P (scoped node bs a)
  in_scope node [] a h = h
  in_scope node (b ∷ bs) a h = by (is_done a)
    where
      by : (v : Bool) → AllEvents P (if v then Skip else Within (record { node = node; buffers = b ∷ bs }) a)
      by true = tt
      by false = h

  pub in_seq_of : (n : ℕ) (f : ℕ → PlanTree) (k : ℕ) → ((i : ℕ) → AllEvents P (f i)) → AllEvents P (seq_of n f k)
  unfolding seq_of
  in_seq_of zero f k h = tt
  in_seq_of (suc n) f k h = in_seq (f k) (seq_of n f (k + 1)) (h k) (in_seq_of n f (k + 1) h)

  pub in_par_of : (n : ℕ) (f : ℕ → PlanTree) (k : ℕ) → ((i : ℕ) → AllEvents P (f i)) → AllEvents P (par_of n f k)
  unfolding par_of
  in_par_of zero f k h = tt
  in_par_of (suc n) f k h = in_par (f k) (par_of n f (k + 1)) (h k) (in_par_of n f (k + 1) h)

  pub in_either : (v : Bool) (a : PlanTree) → AllEvents P a → AllEvents P (if v then a else Skip)
  in_either true a h = h
  in_either false a h = tt

  pub in_other : (v : Bool) (a : PlanTree) → AllEvents P a → AllEvents P (if v then Skip else a)
  in_other true a h = tt
  in_other false a h = h

-- both of two things that hold of each event
pub both_hold : (P Q : Event → Type 0) (t : PlanTree) → AllEvents P t → AllEvents Q t → AllEvents (λ e. P e × Q e) t
both_hold P Q Skip h g = tt
both_hold P Q (Act e) h g = (h, g)
both_hold P Q (Stuck e) h g = (h, g)
both_hold P Q (Seq a b) h g = (both_hold P Q a h.0 g.0, both_hold P Q b h.1 g.1)
both_hold P Q (Par a b) h g = (both_hold P Q a h.0 g.0, both_hold P Q b h.1 g.1)
both_hold P Q (Within s a) h g = both_hold P Q a h g
