-- What a grammar wants of a token.
use Rattle.std.specs.Prelude.{ℕ, ℤ, pos, ◌==◌, Bool, true, false, List, codes}
use Rattle.std.specs.Str.{bytes_eq}
use denote.Enum.Bare.{sameb}
use Rattle.sq_lexer.specs.contracts.token.Sign as sign
use Rattle.sq_lexer.specs.declared.token.Sign.{Sign}
use Rattle.sq_lexer.specs.declared.token.Kind.{Kind}
use Rattle.sq_lexer.specs.declared.token.Kind.TheVariants as k
use Rattle.sq_patterns.specs.declared.pattern.Pattern.{Pattern}
use Rattle.sq_patterns.specs.declared.pattern.Pattern.TheVariants as s

abbrev pub is_word : Kind → List ℕ → Bool
is_word (k.Word name) word = bytes_eq name word
is_word _ word = false

abbrev pub is_any_word : Kind → Bool
is_any_word (k.Word name) = true
is_any_word _ = false

abbrev pub is_natural : ℤ → Bool
is_natural (pos n) = true
is_natural _ = false

abbrev pub is_any_number : Kind → Bool
is_any_number (k.Number number) = is_natural number
is_any_number _ = false

abbrev pub is_value : ℤ → ℕ → Bool
is_value (pos n) value = n == value
is_value _ value = false

abbrev pub is_exactly : Kind → ℕ → Bool
is_exactly (k.Number number) value = is_value number value
is_exactly _ value = false

abbrev pub same_sign : Sign → Sign → Bool
same_sign = sameb sign.the_type

abbrev pub is_sign : Kind → Sign → Bool
is_sign (k.Sign other) sign = same_sign other sign
is_sign _ sign = false

abbrev pub is_end : Kind → Bool
is_end k.End = true
is_end _ = false

abbrev pub fits : Pattern → Kind → Bool
fits s.Machine kind = is_word kind (codes "machine")
fits s.Level kind = is_word kind (codes "level")
fits s.Levels kind = is_word kind (codes "levels")
fits s.Node kind = is_word kind (codes "node")
fits s.Capacity kind = is_word kind (codes "capacity")
fits s.Children kind = is_word kind (codes "children")
fits s.Mapping kind = is_word kind (codes "mapping")
fits s.Entry kind = is_word kind (codes "entry")
fits s.Instance kind = is_word kind (codes "instance")
fits s.Tunable kind = is_word kind (codes "tunable")
fits s.Call kind = is_word kind (codes "call")
fits s.Spread kind = is_word kind (codes "spread")
fits s.Cyclic kind = is_word kind (codes "cyclic")
fits s.Blocked kind = is_word kind (codes "blocked")
fits s.Inner kind = is_word kind (codes "inner")
fits s.Leaf kind = is_word kind (codes "leaf")
fits s.Cost kind = is_word kind (codes "cost")
fits s.Row kind = is_word kind (codes "row")
fits s.Byte kind = is_word kind (codes "byte")
fits s.AnyWord kind = is_any_word kind
fits s.AnyNumber kind = is_any_number kind
fits (s.Exactly value) kind = is_exactly kind value
fits (s.Sign sign) kind = is_sign kind sign
fits s.End kind = is_end kind
