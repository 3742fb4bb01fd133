-- Sets of names that stand before.
use Rattle.std.proofs.Common.{◌≡◌, Bool, true, false, ◌||◌, refl, ◌∙◌, ap, true≢false}
use Rattle.std.proofs.lemmas.Slice.Eq.{bytes_eq-Decides}
use Rattle.sq_text.specs.Names.{Bytes, same_name}
use Rattle.sq_machfile.specs.Walk.{NameSet, with_name}

pub or_first : (a b : Bool) → (a || b) ≡ false → a ≡ false
or_first true b e = e
or_first false b e = refl

pub or_second : (a b : Bool) → (a || b) ≡ false → b ≡ false
or_second true b e = absurd (true≢false e)
or_second false b e = e

or_true : (a : Bool) → (a || true) ≡ true
or_true true = refl
or_true false = refl

pub same_only : (a b : Bytes) → same_name a b ≡ true → a ≡ b
same_only a b e = (bytes_eq-Decides a b).0 e

-- a name is in a set with it
pub same_itself : (names : NameSet) (name : Bytes) → with_name name names name ≡ true
same_itself names name = ap (λ b. names name || b) ((bytes_eq-Decides name name).1 refl) ∙ or_true (names name)

differs : (a b : Bytes) (t : Bool) → same_name a b ≡ t → (a ≡ b → ⊥) → same_name a b ≡ false
differs a b true e h = absurd (h (same_only a b e))
differs a b false e h = e

-- another name is in a set with this one only where it was before
pub not_same : (names : NameSet) (name other : Bytes) → names name ≡ false → (name ≡ other → ⊥) → with_name other names name ≡ false
not_same names name other e h = ap (λ b. b || same_name name other) e ∙ differs name other (same_name name other) refl h
