-- An order that was chosen answers as the order of its way.
use Rattle.std.proofs.Common.{refl, ap, subst}
use Rattle.std.specs.Prelude.{◌≡◌, ℕ, List, ◌∷◌, Some, None, Option}
use Rattle.sq_port.specs.Orders.{PicksTold, seed_answer, seed_next}
use Rattle.sq_orders.specs.Chosen.{chosen_answer, chosen_next}

pub seed_told : (o held old : List ℕ) (now : List ℕ) (ready result : ℕ) → o ≡ 2 ∷ old → Some o ≡ Some held
    → PicksTold seed_answer seed_next (Some old) (Some now) ready result
    → (result ≡ chosen_answer held ready) × (Some (2 ∷ now) ≡ Some (chosen_next held ready))
seed_told o held old now ready result is told picks =
    let e : 2 ∷ old ≡ held = cc in
    subst (λ (h : List ℕ). (result ≡ chosen_answer h ready) × (Some (2 ∷ now) ≡ Some (chosen_next h ready))) e
    ((picks old refl).0, ap with_way (picks old refl).1)
  where
    with_way : Option (List ℕ) → Option (List ℕ)
    with_way (Some l) = Some (2 ∷ l)
    with_way None = None
