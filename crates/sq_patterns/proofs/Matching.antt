-- What a pattern tells of a token.
use Rattle.std.proofs.Common.{◌≡◌, ℕ, ℤ, pos, true, List, [], ◌∷◌, sym, subst, rules, codes}
use Rattle.std.specs.Str.{bytes_eq}
use Rattle.std.proofs.lemmas.Bool.{eqb-true}
use Rattle.std.proofs.lemmas.Slice.Eq.{bytes_eq-Decides}
use denote.Enum.Bare.{same_true}
use Rattle.sq_lexer.specs.Text.declared.place.Place.{Place}
use Rattle.sq_lexer.specs.contracts.token.Sign as sign
use Rattle.sq_lexer.specs.declared.token.Token.{Token}
use Rattle.sq_lexer.specs.declared.token.Kind.{Kind}
use Rattle.sq_lexer.specs.declared.token.Kind.TheVariants as k
use Rattle.sq_lexer.specs.declared.token.Sign.{Sign}
use Rattle.sq_lexer.specs.Tokens.{token}
use Rattle.sq_patterns.specs.declared.pattern.Pattern.{Pattern}
use Rattle.sq_patterns.specs.declared.pattern.Pattern.TheVariants as s
use Rattle.sq_patterns.specs.Patterns.{fits, is_word, is_any_word, is_natural, is_any_number, is_exactly, is_sign, is_end}

pub data Matches : Pattern → Kind → Type 0 where
  machine : Matches s.Machine (k.Word (codes "machine"))
  level : Matches s.Level (k.Word (codes "level"))
  levels : Matches s.Levels (k.Word (codes "levels"))
  node : Matches s.Node (k.Word (codes "node"))
  capacity : Matches s.Capacity (k.Word (codes "capacity"))
  children : Matches s.Children (k.Word (codes "children"))
  mapping : Matches s.Mapping (k.Word (codes "mapping"))
  entry : Matches s.Entry (k.Word (codes "entry"))
  instance : Matches s.Instance (k.Word (codes "instance"))
  tunable : Matches s.Tunable (k.Word (codes "tunable"))
  call : Matches s.Call (k.Word (codes "call"))
  spread : Matches s.Spread (k.Word (codes "spread"))
  cyclic : Matches s.Cyclic (k.Word (codes "cyclic"))
  blocked : Matches s.Blocked (k.Word (codes "blocked"))
  inner : Matches s.Inner (k.Word (codes "inner"))
  leaf : Matches s.Leaf (k.Word (codes "leaf"))
  cost : Matches s.Cost (k.Word (codes "cost"))
  row : Matches s.Row (k.Word (codes "row"))
  byte : Matches s.Byte (k.Word (codes "byte"))
  a_word : {name : List ℕ} → Matches s.AnyWord (k.Word name)
  a_number : {n : ℕ} → Matches s.AnyNumber (k.Number (pos n))
  exactly : (n : ℕ) → Matches (s.Exactly n) (k.Number (pos n))
  a_sign : (sign : Sign) → Matches (s.Sign sign) (k.Sign sign)
  end : Matches s.End k.End

same_bytes : (xs ys : List ℕ) → bytes_eq xs ys ≡ true → xs ≡ ys
same_bytes xs ys e = (bytes_eq-Decides xs ys).0 e

of_word : (pattern : Pattern) (w : List ℕ) → Matches pattern (k.Word w) → (kind : Kind) → is_word kind w ≡ true → Matches pattern kind
of_word pattern w h (k.Word name) e = subst (λ name. Matches pattern (k.Word name)) (sym (same_bytes name w e)) h
of_word pattern w h _ e = absurd (cc)

of_any_word : (kind : Kind) → is_any_word kind ≡ true → Matches s.AnyWord kind
of_any_word (k.Word name) e = a_word
of_any_word _ e = absurd (cc)

of_number : (z : ℤ) → is_natural z ≡ true → Matches s.AnyNumber (k.Number z)
of_number (pos n) e = a_number
of_number _ e = absurd (cc)

of_any_number : (kind : Kind) → is_any_number kind ≡ true → Matches s.AnyNumber kind
of_any_number (k.Number z) e = of_number z e
of_any_number _ e = absurd (cc)

of_exactly : (value : ℕ) (kind : Kind) → is_exactly kind value ≡ true → Matches (s.Exactly value) kind
of_exactly value (k.Number (pos n)) e = subst (λ n. Matches (s.Exactly value) (k.Number (pos n))) (sym (eqb-true n value e)) (exactly value)
of_exactly value _ e = absurd (cc)

of_sign : (g : Sign) (kind : Kind) → is_sign kind g ≡ true → Matches (s.Sign g) kind
of_sign g (k.Sign other) e = subst (λ other. Matches (s.Sign g) (k.Sign other)) (sym (same_true sign.the_type (search rules) other g e)) (a_sign g)
of_sign g _ e = absurd (cc)

of_end : (kind : Kind) → is_end kind ≡ true → Matches s.End kind
of_end k.End e = end
of_end _ e = absurd (cc)

pub matching : (pattern : Pattern) (kind : Kind) → fits pattern kind ≡ true → Matches pattern kind
matching s.Machine kind e = of_word s.Machine (codes "machine") machine kind e
matching s.Level kind e = of_word s.Level (codes "level") level kind e
matching s.Levels kind e = of_word s.Levels (codes "levels") levels kind e
matching s.Node kind e = of_word s.Node (codes "node") node kind e
matching s.Capacity kind e = of_word s.Capacity (codes "capacity") capacity kind e
matching s.Children kind e = of_word s.Children (codes "children") children kind e
matching s.Mapping kind e = of_word s.Mapping (codes "mapping") mapping kind e
matching s.Entry kind e = of_word s.Entry (codes "entry") entry kind e
matching s.Instance kind e = of_word s.Instance (codes "instance") instance kind e
matching s.Tunable kind e = of_word s.Tunable (codes "tunable") tunable kind e
matching s.Call kind e = of_word s.Call (codes "call") call kind e
matching s.Spread kind e = of_word s.Spread (codes "spread") spread kind e
matching s.Cyclic kind e = of_word s.Cyclic (codes "cyclic") cyclic kind e
matching s.Blocked kind e = of_word s.Blocked (codes "blocked") blocked kind e
matching s.Inner kind e = of_word s.Inner (codes "inner") inner kind e
matching s.Leaf kind e = of_word s.Leaf (codes "leaf") leaf kind e
matching s.Cost kind e = of_word s.Cost (codes "cost") cost kind e
matching s.Row kind e = of_word s.Row (codes "row") row kind e
matching s.Byte kind e = of_word s.Byte (codes "byte") byte kind e
matching s.AnyWord kind e = of_any_word kind e
matching s.AnyNumber kind e = of_any_number kind e
matching (s.Exactly value) kind e = of_exactly value kind e
matching (s.Sign g) kind e = of_sign g kind e
matching s.End kind e = of_end kind e

-- The first tokens begin with tokens of these patterns, which are the second; the third are left after them.
pub data Front : List Pattern → List Token → List Token → List Token → Type 0 where
  none : {j : List Token} → Front [] j [] j
  next : {pattern : Pattern} {patterns : List Pattern} {kind : Kind} {p : Place} {i ts j : List Token}
      → Matches pattern kind → Front patterns i ts j → Front (pattern ∷ patterns) (token kind p ∷ i) (token kind p ∷ ts) j
