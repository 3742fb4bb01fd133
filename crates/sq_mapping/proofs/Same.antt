-- Names that are told to be the same are equal.
use Rattle.std.proofs.Common.{◌≡◌, true, refl}
use Rattle.std.proofs.lemmas.Slice.Eq.{bytes_eq-Decides}
use Rattle.sq_text.specs.Names.{Bytes, same_name}

pub same : (a b : Bytes) → same_name a b ≡ true → a ≡ b
same a b h = (bytes_eq-Decides a b).0 h

pub itself : (a : Bytes) → same_name a a ≡ true
itself a = (bytes_eq-Decides a a).1 refl
