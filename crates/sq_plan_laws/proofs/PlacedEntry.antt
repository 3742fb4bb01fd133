-- The whole, at the entry.
use Rattle.std.proofs.Common.{◌≡◌, ℕ, ◌+◌, ◌*◌, ◌<◌, Bool, List, [], length, refl, sym, ap, ap₂, ◌∙◌, subst}
use Rattle.std.specs.Prelude.{Some, Ok, Err}
use Rattle.sq_num.specs.Elements.{width, value}
use Rattle.sq_leaf.specs.declared.shape.Shape.{Shape}
use Rattle.sq_leaf.specs.declared.trap.Trap as leaf
use Rattle.sq_work.specs.Meaning.{Outcome, meaning}
use Rattle.sq_placed.specs.Placed.{Placed, plain}
use Rattle.sq_cells.specs.Machine.{Node, Form}
use Rattle.sq_cells.specs.Cells.{Spot, spot}
use Rattle.sq_cells.specs.Tree.{After, run}
use Rattle.sq_cells.specs.Work.{Array, Work, Ends, Traps}
use Rattle.sq_cells.specs.Work as bytes
use Rattle.sq_cells.specs.Lowered.{own, tree}
use Rattle.sq_cells.specs.Lowered as low
use Rattle.sq_cells.specs.Correct.{Follows, IsEntry}
use Rattle.sq_cells.proofs.Laws.{lowered_follows, lowered_independent}
use Rattle.sq_plan_laws.specs.Coordinates.{number}
use Rattle.sq_plan_laws.specs.Codes.{SameOutcome}
use Rattle.sq_plan_laws.specs.Calling.{local_of}
use Rattle.sq_plan_laws.specs.OnBytes.{Codings, work}
use Rattle.sq_plan_laws.specs.PlacedEntry.{entry_arrays, IsReady, EndsAs, MeansOnBytes, PlacedFollows, PlacedIsIndependent}
use Rattle.sq_plan_laws.proofs.Coordinates.{byte_below}
use Rattle.sq_plan_laws.proofs.PlacedLists.{listed_same, there_below}
use Rattle.sq_plan_laws.proofs.Means.{means_same}
use Rattle.sq_plan_laws.proofs.Reaching.{InShapes}
use Rattle.sq_plan_laws.proofs.Goods.{good}

-- a byte of the entry's arrays
entry_in : (outer : List Shape) (l : Spot) → InShapes outer l → low.IsIn (length outer) (entry_arrays outer) l
entry_in outer l h = (
  there_below outer l.area h.sh h.there,
  subst (λ o. l.index < (local_of o).size) (sym h.there)
      h.below,
)

pub is_entry : (codes : Codings) (offset : ℕ → ℕ) (root : Node) (form : Form) (outer : List Shape) (may : ℕ → Bool)
    (p : Placed) → IsReady codes offset root form outer may p
    → IsEntry root form (length outer) (entry_arrays outer) (work codes offset p outer)
is_entry codes offset root form outer may p ready =
    let g = good codes offset p outer may ready.fitting ready.keeping in
    record {
      sound = g.sound root 0 ready.race_free ready.stowed.stowed;
      inside = λ at l q h. let r = g.reach root 0 at l q h in (entry_in outer l r.0, r.1);
      closed = λ at l q h. g.closed root 0 at l q h;
      separate = ready.stowed.separate;
      below = ready.stowed.below;
    }

pub means_on_bytes : MeansOnBytes
means_on_bytes codes offset p outer fit s s' coded = means_same codes offset p outer fit s s' coded

pub placed_follows : PlacedFollows
placed_follows codes offset root form outer may p ready s m coded =
    go (meaning (plain p) s) (bytes.meaning (work codes offset p outer) (λ l. m (own root form l)))
    (means_same codes offset p outer ready.fitting s (λ l. m (own root form l)) coded)
    (run (tree (work codes offset p outer) root 0 (own root form) []) m)
    (lowered_follows root form (length outer) (entry_arrays outer) (work codes offset p outer)
    (λ l. m (own root form l)) m (is_entry codes offset root form outer may p ready) (λ l i. refl))
  where
    go : (o : Outcome) (o' : bytes.Outcome) → SameOutcome outer o o' → (r : After)
        → Follows (λ l q. low.IsIn (length outer) (entry_arrays outer) l × (own root form l ≡ q)) [] o' r
        → EndsAs root form outer o r
    go (Ok a) (Ends a') h r f = (
      f.0,
      record {
        at = λ n sh cs there inn.
            h.at n sh cs there inn
            ∙ ap (value sh.elem) (listed_same (width sh.elem) _ _
            (λ b lb. sym (f.1 (spot n (number sh.extents cs * width sh.elem + b))
            (own root form (spot n (number sh.extents cs * width sh.elem + b))) (
              entry_in outer (spot n (number sh.extents cs * width sh.elem + b))
                  (record { sh = sh; there = there; below = byte_below sh.extents cs (width sh.elem) b inn lb }),
              refl,
            ))));
      },
    )
    go (Ok a) (Traps y) h r f = absurd h
    go (Err x) (Ends a') h r f = absurd h
    go (Err x) (Traps y) h r f = f ∙ ap₂ (λ (l : List ℕ) (c : leaf.Trap). Some (record { path = l; cause = c }))
        (sym h.0) (sym h.1)

pub placed_is_independent : PlacedIsIndependent
placed_is_independent codes offset root form outer may p ready
    = lowered_independent root form (length outer) (entry_arrays outer) (work codes offset p outer)
    (is_entry codes offset root form outer may p ready)
