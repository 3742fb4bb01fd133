-- What the grammar derives is what the reader gives: it is found, and nothing else.
use Rattle.std.proofs.Common.{◌≡◌, ◌+◌, ◌≤◌, true, false, List, [], ◌∷◌, length, Ok, refl, ◌∙◌, ap, arith, pos, codes}
use Rattle.sq_text.specs.declared.place.Place.{Place}
use Rattle.sq_lexer.specs.declared.token.Token.{Token}
use Rattle.sq_lexer.specs.declared.token.Kind.TheVariants as k
use Rattle.sq_lexer.specs.declared.token.Sign.TheVariants as g
use Rattle.sq_lexer.specs.Tokens.{token}
use Rattle.sq_patterns.specs.declared.pattern.Pattern.TheVariants as s
use Rattle.sq_patterns.specs.Reading.{all, until, sees}
use Rattle.sq_patterns.proofs.Turns.{then_ok, Until, until_none, until_one}
use Rattle.sq_costs.specs.declared.text.EntryText.{EntryText}
use Rattle.sq_costs.specs.declared.text.CostText.{CostText}
use Rattle.sq_costs.specs.Grammar.{Phrase, AnEntry, MoreEntries, ACost, Derives, an_entry, no_more_entries, one_more_entry, a_cost, IsText}
use Rattle.sq_costs.specs.Reading as reading

abbrev Complete : Phrase → List Token → List Token → Type 0
Complete (AnEntry x) i j = (reading.entry i ≡ Ok (x, j)) × (length j + 1 ≤ length i)
Complete (MoreEntries xs) i j = sees s.End j ≡ true → Until s.End reading.entry xs i j
Complete (ACost xs) i j = (p : Place) → j ≡ token k.End p ∷ [] → reading.cost i ≡ Ok (record { entries = xs; end = p }, [])

sees_level : {x : EntryText} {i j : List Token} → Derives (AnEntry x) i j → sees s.End i ≡ false
sees_level an_entry = refl

cost_ok : (p q r : Place) (first : EntryText) (others : List EntryText) (i j l : List Token) → reading.entry i ≡ Ok (first, j) → (sees s.End l ≡ true → Until s.End reading.entry others j l)
    → (e : Place) → l ≡ token k.End e ∷ []
    → reading.cost (token (k.Word (codes "cost")) p ∷ token (k.Number (pos 1)) q ∷ token (k.Sign g.Semi) r ∷ i) ≡ Ok (record { entries = first ∷ others; end = e }, [])
unfolding reading.cost reading.entries_from
cost_ok p q r first others i j l read h e is =
    then_ok (reading.entry i) _ first j read
    ∙ then_ok (until s.End reading.entry (length j) (first ∷ []) j) _ (first ∷ others) l (h (ap (sees s.End) is) (length j) (first ∷ []) (omega arith))
    ∙ then_ok (all (s.End ∷ []) l) _ (token k.End e ∷ []) [] (ap (all (s.End ∷ [])) is)

complete : {p : Phrase} {i j : List Token} → Derives p i j → Complete p i j
complete an_entry = (refl, omega arith)
complete no_more_entries = λ e. until_none _ _ _ e
complete (one_more_entry {entry = x} {i = i} {j = j} d r) = let h = complete d in λ e. until_one _ _ _ _ _ _ _ (sees_level d) h.0 h.1 (complete r e)
complete (a_cost {p = p} {q = q} {r = r} {first = first} {others = others} {i = i} {j = j} {l = l} d more) = λ e is. cost_ok p q r first others i j l (complete d).0 (complete more) e is

-- a text is read as what it writes
pub cost_read : (tokens : List Token) (x : CostText) → IsText tokens x → reading.cost tokens ≡ Ok (x, [])
cost_read tokens x h = complete h.text x.end refl
