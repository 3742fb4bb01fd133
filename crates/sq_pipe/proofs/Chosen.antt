-- What is chosen for a form that is there, and for one that isn't.
use Rattle.std.proofs.Common.{◌≡◌, ℕ, zero, suc, List, [], ◌∷◌, Some, None, slice_get, refl}
use Rattle.sq_hoist.specs.Chosen.declared.choice.Choice.{Choice}
use Rattle.sq_hoist.specs.Chosen.Forms.{no_choice, choice_in}

pub none_chosen : (choices : List Choice) (k : ℕ) → slice_get choices k ≡ None → choice_in choices k ≡ no_choice
none_chosen [] k e = refl
none_chosen (x ∷ choices) zero e = cc e
none_chosen (x ∷ choices) (suc k) e = none_chosen choices k e

pub one_chosen : (choices : List Choice) (k : ℕ) (c : Choice) → slice_get choices k ≡ Some c → choice_in choices k ≡ c
one_chosen [] k c e = cc e
one_chosen (x ∷ choices) zero c e = cc e
one_chosen (x ∷ choices) (suc k) c e = one_chosen choices k c e
