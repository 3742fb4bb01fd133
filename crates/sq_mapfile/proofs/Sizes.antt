-- A text has no more instances than bytes, so that an index of one fits 32 bits.
use Rattle.std.proofs.Common.{◌≡◌, ℕ, suc, ◌^◌, ◌≤◌, ◌<◌, true, Bool, List, [], ◌∷◌, length, Option, Some, refl, ap, ◌∙◌, arith, length-append}
use Rattle.sq_text.specs.declared.place.Place.{Place}
use Rattle.sq_lexer.specs.declared.token.Kind.{Kind}
use Rattle.sq_lexer.specs.declared.token.Sign.{Sign}
use Rattle.sq_lexer.specs.declared.token.Token.{Token}
use Rattle.sq_lexer.specs.Bytes.{first_is, is_letter, is_digit}
use Rattle.sq_lexer.specs.Signs.{spelling}
use Rattle.sq_lexer.specs.Faults.{most_bytes}
use Rattle.sq_lexer.specs.Tokens.{Stands, a_blank, a_line, a_comment, a_word, a_number, a_sign, TokensFrom, at_end, after_gap, after_token}
use Rattle.sq_lexer.proofs.SignLemmas.{Shape, of_two, of_one, shape}
use Rattle.sq_mapfile.specs.declared.text.Version.{Version}
use Rattle.sq_mapfile.specs.declared.text.Tunables.{Tunables}
use Rattle.sq_mapfile.specs.declared.text.InstanceText.{InstanceText}
use Rattle.sq_mapfile.specs.declared.text.MappingText.{MappingText}
use Rattle.sq_mapfile.specs.Grammar.{Phrase, Instances, AMapping, AnInstance, Derives}
use Rattle.sq_mapfile.specs.Grammar as g
use Rattle.sq_mapfile.specs.Mappings.{WritesAs}

-- ---- tokens

some_of : (p : ℕ → Bool) (xs : List ℕ) → first_is p xs ≡ true → 1 ≤ length xs
some_of p [] h = cc
some_of p (x ∷ xs) h = omega arith

some_sign : (s : Sign) → Shape s → 1 ≤ length (spelling s)
some_sign s (of_two a b is h other) = rw is (omega arith)
some_sign s (of_one a is h other) = rw is (omega arith)

some_token : (front rest : List ℕ) (o : Option Kind) (k : Kind) → Stands front rest o → o ≡ Some k → 1 ≤ length front
some_token _ _ _ k (a_blank h) e = cc
some_token _ _ _ k (a_line h all ends) e = cc
some_token _ _ _ k (a_comment inside h) e = cc
some_token _ _ _ k (a_word first all ends) e = some_of is_letter _ first
some_token _ _ _ k (a_number first all ends fits) e = some_of is_digit _ first
some_token _ _ _ k (a_sign {sign = s} longest comment) e = some_sign s (shape s)

few_tokens : {p : Place} {text : List ℕ} {ts : List Token} → TokensFrom p text ts → length ts ≤ suc (length text)
few_tokens at_end = omega arith
few_tokens (after_gap {front = front} {rest = rest} is h more) =
    let few = few_tokens more in
    let whole = ap length is ∙ length-append front rest in omega (arith, few, whole)
few_tokens (after_token {front = front} {rest = rest} {k = k} is h more) =
    let few = few_tokens more in
    let some = some_token front rest (Some k) k h refl in
    let whole = ap length is ∙ length-append front rest in omega (arith, few, whole, some)

-- ---- phrases

shorter : {p : Phrase} {i j : List Token} → Derives p i j → length j ≤ length i
shorter g.no_size = omega arith
shorter (g.first_size d) = omega (arith, shorter d)
shorter g.no_more_sizes = omega arith
shorter (g.next_size d) = omega (arith, shorter d)
shorter g.plain = omega arith
shorter g.negative = omega arith
shorter g.no_value = omega arith
shorter (g.first_value d e) = omega (arith, shorter d, shorter e)
shorter g.no_more_values = omega arith
shorter (g.next_value d e) = omega (arith, shorter d, shorter e)
shorter (g.one d) = shorter d
shorter (g.many d) = omega (arith, shorter d)
shorter g.no_other = omega arith
shorter (g.another d e) = omega (arith, shorter d, shorter e)
shorter (g.a_tunable d e) = omega (arith, shorter d, shorter e)
shorter g.a_call = omega arith
shorter g.cyclic = omega arith
shorter g.blocked = omega arith
shorter (g.a_spread d) = omega (arith, shorter d)
shorter g.no_item = omega arith
shorter (g.an_item d e) = omega (arith, shorter d, shorter e)
shorter g.inner = omega arith
shorter g.leaf = omega arith
shorter (g.an_instance d e) = omega (arith, shorter d, shorter e)
shorter g.no_instance = omega arith
shorter (g.one_more_instance d e) = omega (arith, shorter d, shorter e)
shorter (g.a_mapping d e) = omega (arith, shorter d, shorter e)

abbrev Few : Phrase → List Token → Type 0
Few (AnInstance tunables version x) i = Unit {0}
Few (Instances tunables version xs) i = length xs ≤ length i
Few (AMapping tunables m) i = length m.instances ≤ length i
Few _ i = Unit {0}

-- how many tokens an instance has at least
some_instance : {p : Phrase} {i j : List Token} → Derives p i j → (tunables : Tunables) (version : Version) (x : InstanceText) → p ≡ AnInstance tunables version x → suc (length j) ≤ length i
some_instance (g.an_instance d e) tunables version x is = omega (arith, shorter d, shorter e)
some_instance _ tunables version x is = cc

few : {p : Phrase} {i j : List Token} → Derives p i j → Few p i
few g.no_instance = omega arith
few (g.one_more_instance d e) = omega (arith, some_instance d _ _ _ refl, few e)
few (g.a_mapping d e) = omega (arith, shorter d, few e)
few _ = tt

pub few_instances : (tunables : Tunables) (text : List ℕ) (m : MappingText) → WritesAs tunables text m → length m.instances < 2 ^ 32
unfolding most_bytes
few_instances tunables text m w = let fits = w.fits in omega (arith, few w.grammar.text, few_tokens w.tokens_of, fits)
