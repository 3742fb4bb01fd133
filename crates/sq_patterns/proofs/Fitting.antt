-- Counting the tokens that are of given patterns.
use Rattle.std.proofs.Common.{◌≡◌, ℕ, zero, suc, ◌+◌, ◌<◌, ◌≤◌, Bool, true, false, if◌then◌else◌, List, [], ◌∷◌, length, drop, get_or, ap, subst, arith}
use Rattle.sq_lexer.specs.declared.token.Token.{Token}
use Rattle.sq_patterns.specs.declared.pattern.Pattern.{Pattern}
use Rattle.sq_patterns.specs.Patterns.{fits}
use Rattle.sq_patterns.specs.Reading.{sees, fitting}

pub fit_step : (patterns : List Pattern) (ts : List Token) (i : ℕ) (d : Pattern) → i < length patterns → sees (get_or patterns i d) (drop i ts) ≡ true
    → fitting (drop i patterns) (drop i ts) ≡ suc (fitting (drop (suc i) patterns) (drop (suc i) ts))
fit_step [] ts i d lt e = absurd (omega arith)
fit_step (s ∷ patterns) [] zero d lt e = absurd (cc)
fit_step (s ∷ patterns) (t ∷ ts) zero d lt e = ap (λ b. if b then suc (fitting patterns ts) else 0) e
fit_step (s ∷ patterns) [] (suc i) d lt e = absurd (cc)
fit_step (s ∷ patterns) (t ∷ ts) (suc i) d lt e = fit_step patterns ts i d (omega arith) e

there_or : (b : Bool) (n m : ℕ) → n ≤ m → (if b then suc n else 0) ≤ suc m
there_or true n m le = omega arith
there_or false n m le = omega arith

pub fitting_there : (patterns : List Pattern) (ts : List Token) → fitting patterns ts ≤ length ts
fitting_there [] ts = omega arith
fitting_there (s ∷ patterns) [] = omega arith
fitting_there (s ∷ patterns) (t ∷ ts) = there_or (fits s t.kind) (fitting patterns ts) (length ts) (fitting_there patterns ts)

pub counted : (patterns : List Pattern) (ts : List Token) (total i : ℕ) (d : Pattern) → i < length patterns → total ≡ i + fitting (drop i patterns) (drop i ts)
    → sees (get_or patterns i d) (drop i ts) ≡ true → total ≡ (i + 1) + fitting (drop (i + 1) patterns) (drop (i + 1) ts)
counted patterns ts total i d lt e seen =
    let step : fitting (drop i patterns) (drop i ts) ≡ suc (fitting (drop (suc i) patterns) (drop (suc i) ts)) = fit_step patterns ts i d lt seen in
    let next : suc i ≡ i + 1 = omega arith in
    let more : total ≡ suc i + fitting (drop (suc i) patterns) (drop (suc i) ts) = omega (arith, e, step) in
    subst (λ n. total ≡ n + fitting (drop n patterns) (drop n ts)) next more
