-- A part of a text's tokens is what another text gives, at the same places: what stands before is blanked, and what
-- stands behind the last brace is left out.
use Rattle.std.proofs.Common.{◌≡◌, ℕ, ◌+◌, ◌≤◌, Bool, true, false, eqb, if◌then◌else◌, List, [], ◌∷◌, ◌++◌, length, Option, Some, refl, sym, ap, ◌∙◌, subst, arith}
use Rattle.sq_text.specs.declared.place.Place.{Place}
use Rattle.sq_text.specs.Places.{place_after, place_past}
use Rattle.sq_lexer.specs.declared.token.Token.{Token}
use Rattle.sq_lexer.specs.declared.token.Kind.{Kind}
use Rattle.sq_lexer.specs.declared.token.Kind.TheVariants as kind
use Rattle.sq_lexer.specs.declared.token.Sign.{Sign}
use Rattle.sq_lexer.specs.declared.token.Sign.TheVariants as sign
use Rattle.sq_lexer.specs.Bytes.{begins_with}
use Rattle.sq_lexer.specs.Signs.{spelling, IsLongest}
use Rattle.sq_lexer.specs.Tokens.{begins_comment, Stands, a_blank, a_line, a_comment, a_word, a_number, a_sign, token, TokensFrom, at_end, after_gap, after_token}
use Rattle.sq_lexer.proofs.SignLemmas.{Shape, of_two, of_one, shape, longest_single}

pub record Cut (p : Place) (ts : List Token) : Type 0 where
  pub text : List ℕ
  pub are : TokensFrom p text ts

-- ---- what stands before

blank : (p : Place) (b : ℕ) (ts : List Token) → Cut (place_after p b) ts → Cut p ts
blank p b ts c = by (eqb b 10) c
  where
    by : (t : Bool) → Cut (if t then record { line = p.line + 1; col = 1 } else record { line = p.line; col = p.col + 1 }) ts → Cut p ts
    by true c = record { text = 10 ∷ c.text; are = after_gap {front = 10 ∷ []} refl (a_blank refl) c.are }
    by false c = record { text = 32 ∷ c.text; are = after_gap {front = 32 ∷ []} refl (a_blank refl) c.are }

blanks : (p : Place) (front : List ℕ) (ts : List Token) → Cut (place_past p front) ts → Cut p ts
blanks p [] ts c = c
blanks p (b ∷ front) ts c = blank p b ts (blanks (place_after p b) front ts c)

none_left : (a ts : List Token) → [] ≡ a ++ ts → 1 ≤ length ts → ⊥
none_left [] [] e some = omega arith
none_left [] (t ∷ ts) e some = cc
none_left (t ∷ a) ts e some = cc

pub behind : {p : Place} {text : List ℕ} {us : List Token} → TokensFrom p text us → (a ts : List Token) → us ≡ a ++ ts → 1 ≤ length ts → Cut p ts
behind {p = p} {text = text} h [] ts e some = record { text = text; are = subst (TokensFrom p text) e h }
behind at_end (t ∷ a) ts e some = let rest : [] ≡ a ++ ts = cc in absurd (none_left a ts rest some)
behind {p = p} {us = us} (after_gap {front = front} {rest = rest} q st more) (t ∷ a) ts e some =
    blanks p front ts (behind {p = place_past p front} {text = rest} {us = us} more (t ∷ a) ts e some)
behind {p = p} (after_token {front = front} {rest = rest} {ts = us} q st more) (t ∷ a) ts e some =
    let others : us ≡ a ++ ts = cc in
    blanks p front ts (behind {p = place_past p front} {text = rest} {us = us} more a ts others some)

-- ---- what stands behind

begins_alike : (s : Sign) → Shape s → (a b : ℕ) (x y : List ℕ) → begins_with (spelling s) (a ∷ b ∷ x) ≡ begins_with (spelling s) (a ∷ b ∷ y)
begins_alike s (of_two c d e p o) a b x y = ap (λ t. begins_with t (a ∷ b ∷ x)) e ∙ sym (ap (λ t. begins_with t (a ∷ b ∷ y)) e)
begins_alike s (of_one c e p o) a b x y = ap (λ t. begins_with t (a ∷ b ∷ x)) e ∙ sym (ap (λ t. begins_with t (a ∷ b ∷ y)) e)

longest_alike : (s : Sign) (a b : ℕ) (x y : List ℕ) → IsLongest s (a ∷ b ∷ x) → IsLongest s (a ∷ b ∷ y)
longest_alike s a b x y h = record {
  begins = begins_alike s (shape s) a b y x ∙ h.begins;
  longest = λ other k. h.longest other (begins_alike other (shape other) a b x y ∙ k);
}

sign_alike : (s : Sign) → Shape s → (b : ℕ) (x y : List ℕ) → IsLongest s (spelling s ++ b ∷ x) → begins_comment (spelling s ++ b ∷ x) ≡ false → Stands (spelling s) (b ∷ y) (Some (kind.Sign s))
sign_alike s (of_two c d e p o) b x y longest plain = a_sign
    (subst (λ t. IsLongest s (t ++ b ∷ y)) (sym e) (longest_alike s c d (b ∷ x) (b ∷ y) (subst (λ t. IsLongest s (t ++ b ∷ x)) e longest)))
    (subst (λ t. begins_comment (t ++ b ∷ y) ≡ false) (sym e) (subst (λ t. begins_comment (t ++ b ∷ x) ≡ false) e plain))
sign_alike s (of_one c e p o) b x y longest plain = a_sign
    (subst (λ t. IsLongest s (t ++ b ∷ y)) (sym e) (longest_alike s c b x y (subst (λ t. IsLongest s (t ++ b ∷ x)) e longest)))
    (subst (λ t. begins_comment (t ++ b ∷ y) ≡ false) (sym e) (subst (λ t. begins_comment (t ++ b ∷ x) ≡ false) e plain))

-- of what stands behind a piece only the first byte counts
alike : {front : List ℕ} {k : Option Kind} {b : ℕ} {x : List ℕ} (y : List ℕ) → Stands front (b ∷ x) k → Stands front (b ∷ y) k
alike y (a_blank h) = a_blank h
alike y (a_line h all ends) = a_line h all ends
alike y (a_comment inside h) = a_comment inside h
alike y (a_word first all ends) = a_word first all ends
alike y (a_number first all ends fits) = a_number first all ends fits
alike {b = b} {x = x} y (a_sign {sign = s} longest plain) = sign_alike s (shape s) b x y longest plain

-- two texts that begin with one byte
record Heads (text kept : List ℕ) : Type 0 where
  byte : ℕ
  first : List ℕ
  second : List ℕ
  text_is : text ≡ byte ∷ first
  kept_is : kept ≡ byte ∷ second

heads_behind : (front text kept : List ℕ) → Heads text kept → Heads (front ++ text) (front ++ kept)
heads_behind [] text kept h = h
heads_behind (b ∷ front) text kept h = record { byte = b; first = front ++ text; second = front ++ kept; text_is = refl; kept_is = refl }

alike_heads : {front : List ℕ} {k : Option Kind} (text kept : List ℕ) → Heads text kept → Stands front text k → Stands front kept k
alike_heads {front = front} {k = k} text kept h st =
    subst (λ t. Stands front t k) (sym h.kept_is) (alike h.second (subst (λ t. Stands front t k) h.text_is st))

abbrev brace : Place → Token
brace q = token (kind.Sign sign.BraceClose) q

-- the text up to a brace
pub record Ended (p : Place) (text : List ℕ) (ts : List Token) (q : Place) : Type 0 where
  pub end : Place
  pub kept : List ℕ
  pub are : TokensFrom p kept (ts ++ brace q ∷ token kind.End end ∷ [])
  heads : Heads text kept

sign_front : {a r : List ℕ} {k : Kind} → Stands a r (Some k) → (s : Sign) → k ≡ kind.Sign s → a ≡ spelling s
sign_front (a_word first all ends) s e = absurd (cc)
sign_front (a_number first all ends fits) s e = absurd (cc)
sign_front (a_sign {sign = t} longest plain) s e = let same : t ≡ s = cc in ap spelling same

a_brace : Stands (125 ∷ []) [] (Some (kind.Sign sign.BraceClose))
a_brace = a_sign {sign = sign.BraceClose} (longest_single 125 [] sign.BraceClose refl refl) refl

pub ended : {p : Place} {text : List ℕ} {us : List Token} → TokensFrom p text us → (ts : List Token) (q : Place) (more : List Token) → us ≡ ts ++ brace q ∷ more → Ended p text ts q
ended {p = p} at_end [] q more e =
    let first : token kind.End p ≡ brace q = cc in
    let no_brace : kind.End ≡ kind.Sign sign.BraceClose = ap (λ (t : Token). t.kind) first in
    absurd (cc)
ended at_end (t ∷ []) q more e = absurd (cc)
ended at_end (t ∷ u ∷ ts) q more e = absurd (cc)
ended {p = p} {text = text} {us = us} (after_gap {front = front} {rest = rest} is st later) ts q more e =
    let r = ended {p = place_past p front} {text = rest} {us = us} later ts q more e in
    record {
      end = r.end;
      kept = front ++ r.kept;
      are = after_gap refl (alike_heads rest r.kept r.heads st) r.are;
      heads = subst (λ t. Heads t (front ++ r.kept)) (sym is) (heads_behind front rest r.kept r.heads);
    }
ended {p = p} {text = text} (after_token {front = front} {rest = rest} {k = k} is st later) [] q more e =
    let first : token k p ≡ brace q = cc in
    let kind_is : k ≡ kind.Sign sign.BraceClose = ap (λ (t : Token). t.kind) first in
    let place_is : p ≡ q = ap (λ (t : Token). t.place) first in
    let front_is : front ≡ 125 ∷ [] = sign_front st sign.BraceClose kind_is in
    record {
      end = place_past p (125 ∷ []);
      kept = 125 ∷ [];
      are = subst (λ q. TokensFrom p (125 ∷ []) (brace q ∷ token kind.End (place_past p (125 ∷ [])) ∷ [])) place_is (after_token {front = 125 ∷ []} {rest = []} refl a_brace at_end);
      heads = record { byte = 125; first = rest; second = []; text_is = is ∙ ap (λ f. f ++ rest) front_is; kept_is = refl };
    }
ended {p = p} {text = text} (after_token {front = front} {rest = rest} {k = k} {ts = us} is st later) (t ∷ ts) q more e =
    let first : token k p ≡ t = cc in
    let others : us ≡ ts ++ brace q ∷ more = cc in
    let r = ended {p = place_past p front} {text = rest} {us = us} later ts q more others in
    record {
      end = r.end;
      kept = front ++ r.kept;
      are = subst (λ t. TokensFrom p (front ++ r.kept) (t ∷ ts ++ brace q ∷ token kind.End r.end ∷ [])) first (after_token refl (alike_heads rest r.kept r.heads st) r.are);
      heads = subst (λ t. Heads t (front ++ r.kept)) (sym is) (heads_behind front rest r.kept r.heads);
    }
