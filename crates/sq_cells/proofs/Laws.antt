-- The meaning of the lowered tree, at the entry.
use Rattle.sq_cells.specs.Machine.{Node, Form}
use Rattle.std.proofs.Common.{◌≡◌, ℕ, [], sym, ◌∙◌, ap, ⊎_elim, inl, inr}
use Rattle.sq_cells.specs.Cells.{Spot}
use Rattle.sq_cells.specs.Work.{Array, Work, meaning}
use Rattle.sq_cells.specs.Lowered.{own, tree, IsIn}
use Rattle.sq_cells.specs.Tree.{run}
use Rattle.sq_cells.specs.Correct.{IsEntry, Meets, LoweredFollows, LoweredIndependent}
use Rattle.sq_cells.proofs.AnyOrder.{any_order}
use Rattle.sq_cells.proofs.Unordered.{unordered}
use Rattle.sq_cells.proofs.Runs.{runs}
use Rattle.sq_cells.proofs.Maps.{fewer, After'}

abbrev pub Stands : Node → Form → ℕ → (ℕ → Array) → Spot → Spot → Type 0
Stands root form n arrays l p = IsIn n arrays l × (own root form l ≡ p)

pub entry_meets : (root : Node) (form : Form) (n : ℕ) (arrays : ℕ → Array) (w : Work) → IsEntry root form n arrays w
    → Meets (Stands root form n arrays) w root 0 (own root form)
entry_meets root form n arrays w e = record {
  cover = λ l p h. e.inside (own root form) l p (inl h);
  one = λ l p p' h h'. sym (e.inside (own root form) l p (inr h)).1
      ∙ ⊎_elim (λ g. g.1) (λ g. (e.inside (own root form) l p' (inr g)).1) h';
  clear = λ l l' p h h'. let g = e.inside (own root form) l p (inr h) in let g' : Stands root form n arrays l' p
      = ⊎_elim (λ x. x) (λ x. e.inside (own root form) l' p (inr x)) h' in e.separate l l' g.0 g'.0 (g.1 ∙ sym g'.1);
  apart = λ l p h x. let g : Stands root form n arrays l p
      = ⊎_elim (λ y. y) (λ y. e.inside (own root form) l p (inr y)) h in e.below l g.0 (rw g.1 x);
  aside = λ l l' p h x. e.closed (own root form) l' p x;
  sums = λ l l' p h h'. absurd (e.closed (own root form) l p h);
  sum_apart = λ l p h x. e.closed (own root form) l p h;
}

pub lowered_follows : LoweredFollows
lowered_follows root form n arrays w s m e a =
    fewer (After' (Stands root form n arrays) w root 0 (own root form)) (Stands root form n arrays) [] (meaning w s)
    (run (tree w root 0 (own root form) []) m) (λ l p h. inl h)
    (runs any_order w root 0 (own root form) [] (Stands root form n arrays) s m e.sound
    (entry_meets root form n arrays w e) (λ l p h. ap m (sym h.1) ∙ a l h.0))

pub lowered_independent : LoweredIndependent
lowered_independent root form n arrays w e
    = unordered any_order w root 0 (own root form) [] (Stands root form n arrays) e.sound
    (entry_meets root form n arrays w e)
