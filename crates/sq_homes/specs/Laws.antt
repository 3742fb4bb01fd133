-- What is true of the numbers of buffers.
use Rattle.std.specs.Prelude.{ℕ, ◌+◌, ◌<◌, length}
use Rattle.sq_chosen.specs.SpecLaws.Spec.declared.body.FormBody.{FormBody}
use Rattle.sq_chosen.specs.declared.choice.Choice.{Choice}
use Rattle.sq_chosen.specs.Arrays.{standing, locals_count}
use Rattle.sq_homes.specs.Numbering.{home_of, local_base, IsHomeIn, IsNumberIn}

-- The buffers of a form's parameters are its own: those from its base on, as many as it has.
abbrev pub HomesAreOwn : Type 0
HomesAreOwn = (base : ℕ) (b : FormBody) (c : Choice) (i : ℕ) → i < length c.in_place
    → IsHomeIn base (length (standing b c)) (home_of base c i)

-- And those of its locals.
abbrev pub LocalsAreOwn : Type 0
LocalsAreOwn = (base : ℕ) (b : FormBody) (c : Choice) (i : ℕ) → i < locals_count b.arrays c
    → IsNumberIn base (length (standing b c)) (local_base base c + i)
