-- The maps of a variant that a text gives stand in the text in the order of their numbers.
use Rattle.std.proofs.Common.{◌≡◌, ℕ, zero, suc, ◌<◌, ◌⊎◌, List, [], ◌∷◌, map, slice_get, Option, Some, None, inl, inr, refl, sym, ◌∙◌, ap, subst, arith}
use Rattle.std.proofs.lemmas.Bool.{cases_order}
use Rattle.sq_text.specs.declared.place.Place.{Place}
use Rattle.sq_text.specs.Places.{IsBefore}
use Rattle.sq_lexer.specs.declared.token.Kind.{Kind}
use Rattle.sq_lexer.specs.declared.token.Kind.TheVariants as k
use Rattle.sq_lexer.specs.declared.token.Token.{Token}
use Rattle.sq_ast.specs.declared.keyword.Keyword.{Keyword}
use Rattle.sq_ast.specs.declared.program.Program.{Program}
use Rattle.sq_ast.specs.declared.program.Variant.{Variant}
use Rattle.sq_ast.specs.Given.{IsGiven}
use Rattle.sq_ast.specs.Symbols.{keyword_of, symbol_of_word, symbol_in, symbols, place_at}
use Rattle.sq_ast.specs.Grammar.{Any, Leveled, kinds}
use Rattle.sq_ast.proofs.TextPlaces.{before_before}
use Rattle.sq_race.specs.Race.{maps_by}
use Rattle.sq_race.specs.TextOrder.{AreMaps, InTextOrder, NumberedInTextOrder, StandApart}
use Rattle.sq_race.specs.declared.map.Map.{Map}
use Rattle.sq_race.proofs.Rising.{Rise, some_rise, rise_at, tokens_rise}
use Rattle.sq_race.proofs.MapsPlaced.{places, spots, maps_placed}

word_place : (p : Place) (w : List ℕ) (key : Option Keyword) → place_at (symbol_of_word p w key) ≡ p
word_place p w None = refl
word_place p w (Some key) = refl

-- a token keeps its place
symbol_place : (p : Place) (kind : Kind) → place_at (symbol_in p kind) ≡ p
symbol_place p (k.Word w) = word_place p w (keyword_of w)
symbol_place p (k.Number n) = refl
symbol_place p (k.Sign s) = refl
symbol_place p k.End = refl

symbol_places : (ts : List Token) → map place_at (symbols ts) ≡ map (λ t. t.place) ts
symbol_places [] = refl
symbol_places (t ∷ ts) = ap (λ p. p ∷ map place_at (symbols ts)) (symbol_place t.place t.kind) ∙ ap (λ ps. t.place ∷ ps) (symbol_places ts)

leveled_places : (ts : List Leveled) → spots ts ≡ map place_at (kinds ts)
leveled_places [] = refl
leveled_places (t ∷ ts) = ap (λ ps. place_at t.kind ∷ ps) (leveled_places ts)

place_there : (ms : List Map) (n : ℕ) (m : Map) → slice_get ms n ≡ Some m → slice_get (places ms) n ≡ Some m.place
place_there [] n m is = absurd (cc)
place_there (x ∷ ms) zero m is = let same : x ≡ m = cc in ap (λ (y : Map). Some y.place) same
place_there (x ∷ ms) (suc n) m is = place_there ms n m is

-- the tokens of a given program stand one behind another
text_rises : (p : Program) (given : IsGiven p) → Rise (spots given.stand.leveled)
text_rises p given =
    subst Rise (sym (leveled_places given.stand.leveled ∙ (ap (map place_at) given.stand.tokens ∙ symbol_places given.tokens))) (tokens_rise given.read)

maps_rise : (p : Program) → IsGiven p → (n : ℕ) (v : Variant) → slice_get p.tasks n ≡ Some v → Rise (places (maps_by (Some v)))
maps_rise p given n v is = some_rise (maps_placed p.tasks Any 0 given.stand.text.1 n v is) (text_rises p given)

pub in_text_order : InTextOrder
in_text_order p given i j one other are less =
    let maps = maps_by (Some are.variant) in
    let rise = maps_rise p given are.number are.variant are.variant_is in
    rise_at (places maps) i j one.place other.place rise less (place_there maps i one are.one_is) (place_there maps j other are.other_is)

never_itself : (p q : Place) → p ≡ q → IsBefore p q → ⊥
never_itself p q same (inl a) = let is : p.line ≡ q.line = ap (λ (r : Place). r.line) same in omega (arith, a, is)
never_itself p q same (inr a) = let is : p.col ≡ q.col = ap (λ (r : Place). r.col) same in omega (arith, a.1, is)

swapped : {p : Program} {i j : ℕ} {one other : Map} → AreMaps p i j one other → AreMaps p j i other one
swapped are = record { number = are.number; variant = are.variant; variant_is = are.variant_is; one_is = are.other_is; other_is = are.one_is }

-- of one number there is one map
one_map : {p : Program} {i j : ℕ} {one other : Map} → AreMaps p i j one other → i ≡ j → one ≡ other
one_map {one = one} {other = other} are same =
    let is : one ≡ other = cc in is

pub numbered_in_text_order : NumberedInTextOrder
numbered_in_text_order p given i j one other are before = by (cases_order i j)
  where
    by : (i ≡ j) ⊎ ((i < j) ⊎ (j < i)) → i < j
    by (inr (inl less)) = less
    by (inl same) = absurd (never_itself one.place other.place (ap (λ (m : Map). m.place) (one_map are same)) before)
    by (inr (inr more)) =
        let back = in_text_order p given j i other one (swapped are) more in
        absurd (never_itself one.place one.place refl (before_before one.place other.place one.place before back))

pub stand_apart : StandApart
stand_apart p given i j one other are place = by (cases_order i j)
  where
    by : (i ≡ j) ⊎ ((i < j) ⊎ (j < i)) → i ≡ j
    by (inr (inl less)) = absurd (never_itself one.place other.place place (in_text_order p given i j one other are less))
    by (inl same) = same
    by (inr (inr more)) = absurd (never_itself other.place one.place (sym place) (in_text_order p given j i other one (swapped are) more))
