-- What is read up to a token, one after another, and the turns of a loop that reads it.
use Rattle.std.proofs.Common.{◌≡◌, ℕ, zero, suc, ◌+◌, ◌-◌, ◌<◌, ◌≤◌, true, false, if◌then◌else◌, List, [], ◌∷◌, ◌++◌, length, Ok, sym, ◌∙◌, ap, append_assoc, append-nil, arith}
use Rattle.sq_lexer.specs.declared.token.Token.{Token}
use Rattle.sq_patterns.specs.declared.pattern.Pattern.{Pattern}
use Rattle.sq_patterns.specs.Reading.{Outcome, Reader, and_then, sees, until}

-- a recursion on a count of turns, beside a loop that counts up
pub one_more : {X : Type 0} {x : X} (f : ℕ → X) (n at : ℕ) → at < n → x ≡ f (n - at) → x ≡ f (suc (n - (at + 1)))
one_more f n at below e = let turn : n - at ≡ suc (n - (at + 1)) = omega arith in e ∙ ap f turn

pub stops : {A : Type 0} {x : Outcome (List A)} (close : Pattern) (p : Reader A) (n at : ℕ) (found : List A) (i : List Token) → at < n
    → x ≡ until close p (n - at) found i → sees close i ≡ true → x ≡ Ok (found, i)
unfolding until
stops close p n at found i below e seen =
    one_more (λ n. until close p n found i) n at below e
    ∙ ap (λ b. if b then Ok (found, i) else and_then (p i) (λ y. until close p (n - (at + 1)) (found ++ y ∷ []))) seen

-- ---- what is read

pub then_ok : {A B : Type 0} (r : Outcome A) (f : A → Reader B) (a : A) (j : List Token) → r ≡ Ok (a, j) → and_then r f ≡ f a j
then_ok r f a j e = ap (λ r. and_then r f) e

-- what is read up to a token
abbrev pub Until : {A : Type 0} → Pattern → Reader A → List A → List Token → List Token → Type 0
Until close p xs i j = (turns : ℕ) (found : List _) → length i ≤ turns → until close p turns found i ≡ Ok (found ++ xs, j)

module _ {A : Type 0} (close : Pattern) (p : Reader A) where
  pub until_none : (i : List Token) → sees close i ≡ true → Until close p [] i i
  unfolding until
  until_none i e zero found le = ap (λ x. Ok (x, i)) (sym (append-nil found))
  until_none i e (suc n) found le =
      ap (λ b. if b then Ok (found, i) else and_then (p i) (λ x. until close p n (found ++ x ∷ []))) e ∙ ap (λ x. Ok (x, i)) (sym (append-nil found))

  pub until_one : (x : A) (rest : List A) (i j l : List Token) → sees close i ≡ false → p i ≡ Ok (x, j) → length j + 1 ≤ length i → Until close p rest j l → Until close p (x ∷ rest) i l
  unfolding until
  until_one x rest i j l e read fewer h zero found le = absurd (omega (arith, fewer, le))
  until_one x rest i j l e read fewer h (suc n) found le =
      ap (λ b. if b then Ok (found, i) else and_then (p i) (λ x. until close p n (found ++ x ∷ []))) e
      ∙ then_ok (p i) (λ x. until close p n (found ++ x ∷ [])) x j read
      ∙ h n (found ++ x ∷ []) (omega (arith, fewer, le)) ∙ ap (λ y. Ok (y, l)) (append_assoc found (x ∷ []) rest)
