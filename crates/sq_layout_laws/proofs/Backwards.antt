-- Plan files that are read from their end, where a function says the place of each byte by the bytes from it on.
use Rattle.std.proofs.Common.{◌≡◌, ℕ, true, List, [], ◌∷◌, ◌++◌, Some, refl, sym, ◌∙◌, ap, subst, append_assoc}
use Rattle.sq_text.specs.declared.place.Place.{Place}
use Rattle.sq_text.specs.Places.{place_after, place_past}
use Rattle.sq_lexer.specs.declared.token.Kind.{Kind}
use Rattle.sq_lexer.specs.declared.token.Kind.TheVariants as t
use Rattle.sq_lexer.specs.declared.token.Token.{Token}
use Rattle.sq_lexer.specs.Bytes.{is_blank}
use Rattle.sq_lexer.specs.Tokens.{Stands, a_blank, TokensFrom, at_end, after_gap, after_token, token}
use Rattle.sq_ast.specs.Symbols.{Symbol, symbols}
use Rattle.sq_ast.proofs.ReadBack as ast
use Rattle.sq_ast.proofs.ReadBack.{IsPlaced}

-- the text has these tokens
pub data Reads (placing : List ℕ → Place) : List ℕ → List Token → Type 0 where
  the_end : Reads placing [] (token t.End (placing []) ∷ [])
  a_gap : {b : ℕ} {rest : List ℕ} {ts : List Token} → is_blank b ≡ true → Reads placing rest ts → Reads placing (b ∷ rest) ts
  a_token : {front rest : List ℕ} {k : Kind} {ts : List Token} → Stands front rest (Some k) → Reads placing rest ts
      → Reads placing (front ++ rest) (token k (placing (front ++ rest)) ∷ ts)

-- ---- as the lexer has them

past_append : (p : Place) (front more : List ℕ) → place_past p (front ++ more) ≡ place_past (place_past p front) more
past_append p [] more = refl
past_append p (b ∷ front) more = past_append (place_after p b) front more

placed_rest : (placing : List ℕ → Place) (p : Place) (front rest : List ℕ) → IsPlaced placing p (front ++ rest) → IsPlaced placing (place_past p front) rest
placed_rest placing p front rest h f r e =
    h (front ++ f) r (ap (λ t. front ++ t) e ∙ sym (append_assoc front f r)) ∙ past_append p front f

pub are_tokens : {placing : List ℕ → Place} {text : List ℕ} {ts : List Token} → Reads placing text ts → (p : Place) → IsPlaced placing p text → TokensFrom p text ts
are_tokens {placing = placing} the_end p h = subst (λ q. TokensFrom p [] (token t.End q ∷ [])) (sym (h [] [] refl)) at_end
are_tokens {placing = placing} (a_gap {b = b} {rest = rest} blank r) p h =
    after_gap refl (a_blank blank) (are_tokens r (place_past p (b ∷ [])) (placed_rest placing p (b ∷ []) rest h))
are_tokens {placing = placing} (a_token {front = front} {rest = rest} {k = k} {ts = ts} stands r) p h =
    subst (λ q. TokensFrom p (front ++ rest) (token k q ∷ ts)) (sym (h [] (front ++ rest) refl))
    (after_token refl stands (are_tokens r (place_past p front) (placed_rest placing p front rest h)))

-- ---- as the grammar of programs sees them

pub seen : {placing : List ℕ → Place} {text : List ℕ} {ts : List Token} → Reads placing text ts → ast.Reads placing text (symbols ts)
seen the_end = ast.the_end
seen (a_gap blank r) = ast.a_gap blank (seen r)
seen (a_token stands r) = ast.a_symbol stands refl (seen r)

-- the tokens of symbols that a text has
pub record Under (placing : List ℕ → Place) (text : List ℕ) (ss : List Symbol) : Type 0 where
  pub tokens : List Token
  pub reads : Reads placing text tokens
  pub same : symbols tokens ≡ ss

pub under : {placing : List ℕ → Place} {text : List ℕ} {ss : List Symbol} → ast.Reads placing text ss → Under placing text ss
under {placing = placing} ast.the_end = record { tokens = token t.End (placing []) ∷ []; reads = the_end; same = refl }
under (ast.a_gap blank r) = let u = under r in record { tokens = u.tokens; reads = a_gap blank u.reads; same = u.same }
under {placing = placing} (ast.a_symbol {front = front} {rest = rest} {k = k} {s = s} stands is r) =
    let u = under r in
    record {
      tokens = token k (placing (front ++ rest)) ∷ u.tokens;
      reads = a_token stands u.reads;
      same = ap (λ w. w ∷ symbols u.tokens) is ∙ ap (λ ss. s ∷ ss) u.same;
    }
