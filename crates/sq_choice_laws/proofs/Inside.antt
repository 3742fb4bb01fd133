-- Statements that stand in others.
use Rattle.std.proofs.Common.{◌≡◌, List, [], ◌∷◌, refl, subst}
use Rattle.sq_spec.specs.declared.statement.Statement.{Statement}
use Rattle.sq_spec.specs.declared.statement.Statement.TheVariants as b
use Rattle.sq_choice_laws.specs.Leaving.{StandsIn, at_front, further, in_map}

pub nothing_in : {x : Statement} {xs : List Statement} → StandsIn x xs → xs ≡ [] → ⊥
nothing_in (at_front xs) e = absurd (cc e)
nothing_in (further y h) e = absurd (cc e)
nothing_in (in_map place m counts starts xs h) e = absurd (cc e)

widened : {x : Statement} {ys : List Statement} → StandsIn x ys → (y : Statement) → ys ≡ y ∷ [] → (xs : List Statement)
    → StandsIn x (y ∷ xs)
widened {x = x} (at_front zs) y e xs =
    let same : x ≡ y = cc e in subst (λ (z : Statement). StandsIn x (z ∷ xs)) same (at_front xs)
widened (further z h) y e xs = absurd (nothing_in h (cc e))
widened {x = x} (in_map place m counts starts {parts = parts} zs h) y e xs =
    let same : b.Map place m counts starts parts ≡ y = cc e in
    subst (λ (z : Statement). StandsIn x (z ∷ xs)) same (in_map place m counts starts xs h)

-- where one alone stands, it may be one of several
pub widen : {x : Statement} (y : Statement) → StandsIn x (y ∷ []) → (xs : List Statement) → StandsIn x (y ∷ xs)
widen y h xs = widened h y refl xs

-- what stands in one of them stands in them
pub stands_inside : {x y : Statement} {xs : List Statement} → StandsIn x (y ∷ []) → StandsIn y xs → StandsIn x xs
stands_inside {y = y} h (at_front xs) = widen y h xs
stands_inside h (further z g) = further z (stands_inside h g)
stands_inside h (in_map place m counts starts xs g) = in_map place m counts starts xs (stands_inside h g)
