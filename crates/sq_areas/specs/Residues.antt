-- Areas that lie apart by their places modulo a number.
use Rattle.std.specs.Prelude.{◌≡◌, ℕ, ◌*◌, List, [], ◌∷◌}
use Rattle.sq_areas.specs.Areas.{Share}
use Rattle.sq_areas.specs.declared.areas.Step.{Step}
use Rattle.sq_areas.specs.declared.areas.Area.{Area}

abbrev pub Divides : (d n : ℕ) → Type 0
Divides d n = (m : ℕ) × (n ≡ m * d)

pub record DividesBoth (d a b : ℕ) : Type 0 where
  pub first : Divides d a
  pub second : Divides d b

abbrev pub DividesSteps : (d : ℕ) → List Step → Type 0
DividesSteps d [] = Unit {0}
DividesSteps d (s ∷ ss) = Divides d s.step × DividesSteps d ss

-- it divides a number and all steps
pub record DividesAll (d n : ℕ) (steps : List Step) : Type 0 where
  pub number : Divides d n
  pub steps_too : DividesSteps d steps

-- no byte is in both
pub record LieApart (a b : Area) : Type 0 where
  pub none : ¬ Share a.at a.run a.steps b
