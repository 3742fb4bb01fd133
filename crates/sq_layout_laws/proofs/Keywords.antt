-- Tokens that the grammar of programs sees as the same are the same.
use Rattle.std.proofs.Common.{◌≡◌, ℕ, Bool, true, false, if◌then◌else◌, List, [], ◌∷◌, Option, Some, None, refl, sym, ◌∙◌, ap}
use Rattle.std.specs.Str.{bytes_eq}
use Rattle.std.proofs.lemmas.Slice.Eq.{bytes_eq-Decides}
use Rattle.sq_text.specs.declared.place.Place.{Place}
use Rattle.sq_lexer.specs.declared.token.Kind.{Kind}
use Rattle.sq_lexer.specs.declared.token.Kind.TheVariants as t
use Rattle.sq_lexer.specs.declared.token.Token.{Token}
use Rattle.sq_lexer.specs.Tokens.{token}
use Rattle.sq_ast.specs.declared.keyword.Keyword.{Keyword}
use Rattle.sq_ast.specs.declared.keyword.Keyword.TheVariants as k
use Rattle.sq_ast.specs.Symbols.{Word, Key, keyword_of, symbol_of_word, symbol_in, symbols}
use Rattle.sq_ast.proofs.Fronts.{key_text}

-- ---- the word of a keyword

-- the first of these keywords that the word is
look : List Keyword → List ℕ → Option Keyword
look [] w = None
look (x ∷ xs) w = if bytes_eq w (key_text x) then Some x else look xs w

abbrev keywords : List Keyword
keywords = k.Void ∷ k.Task ∷ k.Inner ∷ k.Leaf ∷ k.In ∷ k.Out ∷ k.Inout ∷ k.Byte ∷ k.Int ∷ k.Long ∷ k.Tunable ∷ k.Local ∷ k.Blkset ∷ k.Rchop ∷ k.Ichop
    ∷ k.Mappar ∷ k.Mapseq ∷ k.Mapreduce ∷ k.Reduce ∷ k.To ∷ k.If ∷ k.Else ∷ k.For ∷ k.Min ∷ k.Max ∷ k.Len ∷ []

keyword_looked : (w : List ℕ) → keyword_of w ≡ look keywords w
unfolding keyword_of look
keyword_looked w = refl

at_first : (x key : Keyword) (w : List ℕ) (others : Option Keyword) (b : Bool) → bytes_eq w (key_text x) ≡ b → (others ≡ Some key → w ≡ key_text key)
    → (if b then Some x else others) ≡ Some key → w ≡ key_text key
at_first x key w others true e later q = let is : x ≡ key = cc in (bytes_eq-Decides w (key_text x)).0 e ∙ ap key_text is
at_first x key w others false e later q = later q

looked : (xs : List Keyword) (key : Keyword) (w : List ℕ) → look xs w ≡ Some key → w ≡ key_text key
unfolding look
looked [] key w q = absurd (cc)
looked (x ∷ xs) key w q = at_first x key w (look xs w) (bytes_eq w (key_text x)) refl (looked xs key w) q

key_is : (w : List ℕ) (key : Keyword) → keyword_of w ≡ Some key → w ≡ key_text key
key_is w key q = looked keywords key w (sym (keyword_looked w) ∙ q)

-- ---- tokens

token_is : (p q : Place) (x y : Kind) → p ≡ q → x ≡ y → token x p ≡ token y q
token_is p q x y e f = cc

word_same : (p q : Place) (w u : List ℕ) (a b : Option Keyword) → keyword_of w ≡ a → keyword_of u ≡ b → symbol_of_word p w a ≡ symbol_of_word q u b
    → token (t.Word w) p ≡ token (t.Word u) q
word_same p q w u None None e f h = let place : p ≡ q = cc in let is : w ≡ u = cc in token_is p q (t.Word w) (t.Word u) place (ap t.Word is)
word_same p q w u None (Some y) e f h = absurd (cc)
word_same p q w u (Some x) None e f h = absurd (cc)
word_same p q w u (Some x) (Some y) e f h =
    let place : p ≡ q = cc in
    let is : x ≡ y = cc in
    token_is p q (t.Word w) (t.Word u) place (ap t.Word (key_is w x e ∙ ap key_text is ∙ sym (key_is u y f)))

word_or_key : (p : Place) (w : List ℕ) (a : Option Keyword) (P : Type 0) → (symbol_of_word p w a ≡ Word p w → P) → ((x : Keyword) → symbol_of_word p w a ≡ Key p x → P) → P
word_or_key p w None P f g = f refl
word_or_key p w (Some x) P f g = g x refl

token_same : (p q : Place) (x y : Kind) → symbol_in p x ≡ symbol_in q y → token x p ≡ token y q
token_same p q (t.Word w) (t.Word u) h = word_same p q w u (keyword_of w) (keyword_of u) refl refl h
token_same p q (t.Number n) (t.Number m) h = cc
token_same p q (t.Sign s) (t.Sign u) h = cc
token_same p q t.End t.End h = cc
token_same p q (t.Number n) (t.Sign u) h = absurd (cc)
token_same p q (t.Number n) t.End h = absurd (cc)
token_same p q (t.Sign s) (t.Number m) h = absurd (cc)
token_same p q (t.Sign s) t.End h = absurd (cc)
token_same p q t.End (t.Number m) h = absurd (cc)
token_same p q t.End (t.Sign u) h = absurd (cc)
token_same p q (t.Word w) (t.Number m) h = word_or_key p w (keyword_of w) (token (t.Word w) p ≡ token (t.Number m) q) (λ e. absurd (cc)) (λ x e. absurd (cc))
token_same p q (t.Word w) (t.Sign u) h = word_or_key p w (keyword_of w) (token (t.Word w) p ≡ token (t.Sign u) q) (λ e. absurd (cc)) (λ x e. absurd (cc))
token_same p q (t.Word w) t.End h = word_or_key p w (keyword_of w) (token (t.Word w) p ≡ token t.End q) (λ e. absurd (cc)) (λ x e. absurd (cc))
token_same p q (t.Number n) (t.Word u) h = word_or_key q u (keyword_of u) (token (t.Number n) p ≡ token (t.Word u) q) (λ e. absurd (cc)) (λ x e. absurd (cc))
token_same p q (t.Sign s) (t.Word u) h = word_or_key q u (keyword_of u) (token (t.Sign s) p ≡ token (t.Word u) q) (λ e. absurd (cc)) (λ x e. absurd (cc))
token_same p q t.End (t.Word u) h = word_or_key q u (keyword_of u) (token t.End p ≡ token (t.Word u) q) (λ e. absurd (cc)) (λ x e. absurd (cc))

pub tokens_same : (xs ys : List Token) → symbols xs ≡ symbols ys → xs ≡ ys
tokens_same [] [] h = refl
tokens_same [] (y ∷ ys) h = absurd (cc)
tokens_same (x ∷ xs) [] h = absurd (cc)
tokens_same (x ∷ xs) (y ∷ ys) h =
    let first : symbol_in x.place x.kind ≡ symbol_in y.place y.kind = cc in
    let later : symbols xs ≡ symbols ys = cc in
    let one : x ≡ y = token_same x.place y.place x.kind y.kind first in
    let rest = tokens_same xs ys later in
    cc
