-- Options.
use Rattle.std.proofs.Common.{◌≡◌, false, Option, Some, None, is_some, refl}

pub is_none : {A : Type 0} (o : Option A) → false ≡ is_some o → o ≡ None
is_none None h = refl
is_none (Some a) h = absurd (cc h)
