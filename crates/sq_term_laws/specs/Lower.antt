-- Where lower calls stand.
use Rattle.std.specs.Prelude.{◌≡◌, ℕ, suc, ◌<◌, true}
use Rattle.sq_spec.specs.declared.body.Body.{Body}
use Rattle.sq_spec.specs.Spreads.{lower_in}
use Rattle.sq_term_laws.specs.Lowers.{statements}
use Rattle.sq_term_laws.specs.Orders.{EachOf}
use Rattle.sq_term_laws.specs.Fits.{Bounds, TabledBody}

-- In tables as a built term asks, a lower call stands above the last level, whether it is begun or not.
abbrev pub LowerStandAbove : Type 0
LowerStandAbove = (most : Bounds) (last level : ℕ) (b : Body) → TabledBody most last level b
    → EachOf (λ x. lower_in x ≡ true → suc level < suc last) (statements b)
