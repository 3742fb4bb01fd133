-- One step of each reader of terms, whatever number of levels is left.
use Rattle.std.proofs.Common.{◌≡◌, ℕ, zero, suc, ◌<◌, ◌-◌, List, refl, ap, arith}
use Rattle.sq_lexer.specs.declared.token.Token.{Token}
use Rattle.sq_planread.specs.Reading.{term, term_by, inner, refuse}

pub term_is : (n : ℕ) (i : List Token) → term n i ≡ term_by n (inner n) i
unfolding term inner
term_is zero i = refl
term_is (suc n) i = refl

pub inner_none : (n : ℕ) (i : List Token) → n ≡ 0 → inner n i ≡ refuse i
unfolding inner
inner_none zero i e = refl
inner_none (suc n) i e = absurd (omega (arith, e))

pub inner_some : (n : ℕ) (i : List Token) → 0 < n → inner n i ≡ term (n - 1) i
unfolding inner
inner_some zero i e = absurd (omega (arith, e))
inner_some (suc n) i e = let same : n ≡ suc n - 1 = omega arith in ap (λ m. term m i) same
