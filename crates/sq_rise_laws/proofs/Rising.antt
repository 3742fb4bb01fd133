-- The maps of a program that a text gives stand at rising places.
use Rattle.std.proofs.Common.{◌≡◌, ℕ, zero, suc, List, [], ◌∷◌, ◌++◌, slice_get, Option, Some, None, refl, sym, ◌∙◌}
use Rattle.std.proofs.Common.{ap, ap₂, subst}
use Rattle.std.specs.List.{AllByRecursion}
use Rattle.sq_text.specs.declared.place.Place.{Place}
use Rattle.sq_text.specs.Places.{IsBefore}
use Rattle.sq_lexer.specs.declared.token.Token.{Token}
use Rattle.sq_lexer.specs.declared.token.Kind.{Kind}
use Rattle.sq_lexer.specs.declared.token.Kind.TheVariants as t
use Rattle.sq_lexer.specs.Tokens.{TokensFrom, at_end, after_gap, after_token}
use Rattle.sq_ast.specs.declared.keyword.Keyword.{Keyword}
use Rattle.sq_ast.specs.declared.program.Variant.{Variant}
use Rattle.sq_ast.specs.Grammar.{Leveled, kinds}
use Rattle.sq_ast.specs.Symbols.{Symbol, keyword_of, symbol_of_word, symbol_in, symbols, place_at}
use Rattle.sq_ast.proofs.TextPlaces.{before_past, behind_bytes, has_bytes}
use Rattle.sq_rise_laws.specs.Rising.{AreRising, body_places, variants_places, MapsOfTextsRise}
use Rattle.sq_rise_laws.proofs.Standing.{Stand, none, here, past, places, stands}

-- ---- the tokens of a text

abbrev token_places : List Token → List Place
token_places [] = []
token_places (t ∷ ts) = t.place ∷ token_places ts

all_behind : {p : Place} {text : List ℕ} {ts : List Token} → TokensFrom p text ts → (q : Place) → IsBefore q p
    → AllByRecursion (IsBefore q) (token_places ts)
all_behind at_end = λ q h. (h, tt)
all_behind (after_gap {p = p} {front = front} e s d) = λ q h. all_behind d q (before_past p q front h)
all_behind (after_token {p = p} {front = front} e s d) = λ q h. (h, all_behind d q (before_past p q front h))

tokens_rise : {p : Place} {text : List ℕ} {ts : List Token} → TokensFrom p text ts → AreRising (token_places ts)
tokens_rise at_end = (tt, tt)
tokens_rise (after_gap e s d) = tokens_rise d
tokens_rise (after_token {p = p} {front = front} e s d) =
    (all_behind d p (behind_bytes p front (has_bytes s)), tokens_rise d)

-- ---- as symbols with levels

word_stays : (p : Place) (w : List ℕ) (o : Option Keyword) → place_at (symbol_of_word p w o) ≡ p
word_stays p w None = refl
word_stays p w (Some k) = refl

symbol_stays : (p : Place) (k : Kind) → place_at (symbol_in p k) ≡ p
symbol_stays p (t.Word w) = word_stays p w (keyword_of w)
symbol_stays p (t.Number n) = refl
symbol_stays p (t.Sign s) = refl
symbol_stays p t.End = refl

abbrev symbol_places : List Symbol → List Place
symbol_places [] = []
symbol_places (s ∷ ss) = place_at s ∷ symbol_places ss

symbols_stay : (ts : List Token) → symbol_places (symbols ts) ≡ token_places ts
symbols_stay [] = refl
symbols_stay (t ∷ ts) = ap₂ (λ p ps. p ∷ ps) (symbol_stays t.place t.kind) (symbols_stay ts)

levels_stay : (ls : List Leveled) → places ls ≡ symbol_places (kinds ls)
levels_stay [] = refl
levels_stay (l ∷ ls) = ap (λ ps. place_at l.kind ∷ ps) (levels_stay ls)

-- ---- some of what rises

each_standing : (P : Place → Type 0) {ps is js : List Place} → Stand ps is js → AllByRecursion P is
    → AllByRecursion P ps
each_standing P none = λ h. tt
each_standing P (here r) = λ h. (h.0, each_standing P r h.1)
each_standing P (past r) = λ h. each_standing P r h.1

some_rise : {ps is js : List Place} → Stand ps is js → AreRising is → AreRising ps
some_rise none = λ h. tt
some_rise (here {p = p} r) = λ h. (each_standing (IsBefore p) r h.0, some_rise r h.1)
some_rise (past r) = λ h. some_rise r h.1

pub maps_rise : MapsOfTextsRise
maps_rise program given =
    let its = given.stand in
    let same : places its.leveled ≡ token_places given.tokens =
    levels_stay its.leveled ∙ (ap symbol_places its.tokens ∙ symbols_stay given.tokens) in
    some_rise (stands its.text.1) (subst AreRising (sym same) (tokens_rise given.read))

-- ---- in one variant

each_front : (P : Place → Type 0) (ps qs : List Place) → AllByRecursion P (ps ++ qs) → AllByRecursion P ps
each_front P [] qs h = tt
each_front P (p ∷ ps) qs h = (h.0, each_front P ps qs h.1)

front_rises : (ps qs : List Place) → AreRising (ps ++ qs) → AreRising ps
front_rises [] qs h = tt
front_rises (p ∷ ps) qs h = (each_front (IsBefore p) ps qs h.0, front_rises ps qs h.1)

back_rises : (ps qs : List Place) → AreRising (ps ++ qs) → AreRising qs
back_rises [] qs h = h
back_rises (p ∷ ps) qs h = back_rises ps qs h.1

pub variant_rises : (variants : List Variant) (i : ℕ) (v : Variant) → AreRising (variants_places variants)
    → slice_get variants i ≡ Some v → AreRising (body_places v.body)
variant_rises [] i v h is = absurd (cc is)
variant_rises (w ∷ rest) zero v h is =
    let same : w ≡ v = cc is in
    subst (λ (x : Variant). AreRising (body_places x.body)) same
    (front_rises (body_places w.body) (variants_places rest) h)
variant_rises (w ∷ rest) (suc i) v h is =
    variant_rises rest i v (back_rises (body_places w.body) (variants_places rest) h) is
