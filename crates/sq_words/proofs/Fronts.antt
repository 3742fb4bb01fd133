-- Texts that begin with a front.
use Rattle.std.proofs.Common.{◌≡◌, ◌≢◌, ℕ, cond, ◌==◌, List, [], ◌∷◌, ◌++◌, Option, Some, None, Bor, MatchOption, refl, sym, ap, ◌∙◌, rules}
use Rattle.std.specs.Option.{option_copied}
use Rattle.std.specs.Str.Pattern.{FindsTextPrefix, StripsPrefix}
use Rattle.sq_words.specs.Words.{behind}

if_same : {A : Type 0} (b : ℕ) (x y : A) → cond (b == b) x y ≡ x
if_same b x y = search rules

behind_front : (front rest : List ℕ) → behind front (front ++ rest) ≡ Some rest
behind_front [] rest = refl
behind_front (b ∷ front) rest = if_same b _ _ ∙ behind_front front rest

with_byte : (b c : ℕ) (front text rest : List ℕ) → (behind front text ≡ Some rest → text ≡ front ++ rest) → cond (b == c) (behind front text) None ≡ Some rest → c ∷ text ≡ b ∷ front ++ rest
with_byte b c front text rest f e = search (rules, f)

begins : (front text rest : List ℕ) → behind front text ≡ Some rest → text ≡ front ++ rest
begins [] text rest e = cc e
begins (b ∷ front) [] rest e = absurd (cc e)
begins (b ∷ front) (c ∷ text) rest e = with_byte b c front text rest (begins front text rest) e

none_behind : (front text : List ℕ) (found : Option (List ℕ)) → behind front text ≡ found → ((rest : List ℕ) → text ≢ front ++ rest) → found ≡ None
none_behind front text None e lacks = refl
none_behind front text (Some rest) e lacks = absurd (lacks rest (begins front text rest e))

-- what `strip_prefix` finds
pub stripped : (front text : List ℕ) (found : Option (Bor (List ℕ))) → MatchOption found (FindsTextPrefix front text None) (λ rest. StripsPrefix (FindsTextPrefix front) text rest.now) → option_copied found ≡ behind front text
stripped front text None lacks = sym (none_behind front text (behind front text) refl lacks)
stripped front text (Some rest) found =
    let whole : text ≡ front ++ rest.now = search rules in
    sym (ap (behind front) whole ∙ behind_front front rest.now)
