-- Places in a list that stand in the text in its order.
use Rattle.std.proofs.Common.{◌≡◌, ℕ, zero, suc, ◌<◌, List, [], ◌∷◌, map, slice_get, Some, subst, arith}
use Rattle.sq_text.specs.declared.place.Place.{Place}
use Rattle.sq_text.specs.Places.{IsBefore}
use Rattle.sq_lexer.specs.declared.token.Token.{Token}
use Rattle.sq_lexer.specs.Tokens.{TokensFrom, at_end, after_gap, after_token}
use Rattle.sq_ast.proofs.TextPlaces.{before_past, behind_bytes, has_bytes}

-- the place is before each of these
abbrev pub AllBehind : Place → List Place → Type 0
AllBehind p [] = Unit {0}
AllBehind p (q ∷ qs) = IsBefore p q × AllBehind p qs

-- each place is before those that follow
abbrev pub Rise : List Place → Type 0
Rise [] = Unit {0}
Rise (p ∷ ps) = AllBehind p ps × Rise ps

-- the first are some of the second, in their order
pub data Among : List Place → List Place → Type 0 where
  none : {qs : List Place} → Among [] qs
  skip : {q : Place} {ps qs : List Place} → Among ps qs → Among ps (q ∷ qs)
  keep : {q : Place} {ps qs : List Place} → Among ps qs → Among (q ∷ ps) (q ∷ qs)

some_behind : (p : Place) {ps qs : List Place} → Among ps qs → AllBehind p qs → AllBehind p ps
some_behind p none h = tt
some_behind p (skip a) h = some_behind p a h.1
some_behind p (keep a) h = (h.0, some_behind p a h.1)

pub some_rise : {ps qs : List Place} → Among ps qs → Rise qs → Rise ps
some_rise none h = tt
some_rise (skip a) h = some_rise a h.1
some_rise (keep {q = q} a) h = (some_behind q a h.0, some_rise a h.1)

-- ---- by numbers

behind_at : (p q : Place) (qs : List Place) (n : ℕ) → AllBehind p qs → slice_get qs n ≡ Some q → IsBefore p q
behind_at p q [] n h is = absurd (cc)
behind_at p q (r ∷ qs) zero h is = let same : r ≡ q = cc in subst (λ x. IsBefore p x) same h.0
behind_at p q (r ∷ qs) (suc n) h is = behind_at p q qs n h.1 is

pub rise_at : (ps : List Place) (i j : ℕ) (p q : Place) → Rise ps → i < j → slice_get ps i ≡ Some p → slice_get ps j ≡ Some q → IsBefore p q
rise_at [] i j p q h less is other = absurd (cc)
rise_at (r ∷ ps) i zero p q h less is other = absurd (omega (arith, less))
rise_at (r ∷ ps) zero (suc j) p q h less is other = let same : r ≡ p = cc in subst (λ x. IsBefore x q) same (behind_at r q ps j h.0 other)
rise_at (r ∷ ps) (suc i) (suc j) p q h less is other = rise_at ps i j p q h.1 (omega (arith, less)) is other

-- ---- tokens

all_behind : {p : Place} {text : List ℕ} {ts : List Token} → TokensFrom p text ts → (q : Place) → IsBefore q p → AllBehind q (map (λ t. t.place) ts)
all_behind at_end = λ q h. (h, tt)
all_behind (after_gap {p = p} {front = front} e s d) = λ q h. all_behind d q (before_past p q front h)
all_behind (after_token {p = p} {front = front} e s d) = λ q h. (h, all_behind d q (before_past p q front h))

-- the tokens of a text stand one behind another
pub tokens_rise : {p : Place} {text : List ℕ} {ts : List Token} → TokensFrom p text ts → Rise (map (λ t. t.place) ts)
tokens_rise at_end = (tt, tt)
tokens_rise (after_gap e s d) = tokens_rise d
tokens_rise (after_token {p = p} {front = front} e s d) = (all_behind d p (behind_bytes p front (has_bytes s)), tokens_rise d)
