-- Whatever is owed can be given, and after the end nothing is owed.
use Rattle.std.proofs.Common.{◌≡◌, ℕ, ◌==◌, inl, inr, Bool, true, false, if◌then◌else◌, List, [], ◌∷◌, ◌++◌, length, Option, Some, None, Ok, pos, codes, refl, ◌∙◌, ap, subst}
use Rattle.std.proofs.lemmas.Bool.Decides.{eqb_tells}
use denote.Enum.Bare.{true_same}
use Rattle.sq_lexer.specs.contracts.token.Sign as sign
use Rattle.sq_lexer.specs.declared.token.Token.{Token}
use Rattle.sq_lexer.specs.declared.token.Kind.{Kind}
use Rattle.sq_lexer.specs.declared.token.Kind.TheVariants as k
use Rattle.sq_lexer.specs.Tokens.{token}
use Rattle.sq_patterns.specs.declared.pattern.Pattern.{Pattern}
use Rattle.sq_patterns.specs.declared.pattern.Pattern.TheVariants as s
use Rattle.sq_patterns.specs.Patterns.{fits}
use Rattle.sq_patterns.specs.Reading.{nowhere}
use Rattle.sq_patterns.proofs.Owing.{Owed, Want, At, Ways, By, Or, token_of, way_of, settle, moved, run}

-- a token of the pattern
abbrev kind_of : Pattern → Kind
kind_of s.Machine = k.Word (codes "machine")
kind_of s.Level = k.Word (codes "level")
kind_of s.Levels = k.Word (codes "levels")
kind_of s.Node = k.Word (codes "node")
kind_of s.Capacity = k.Word (codes "capacity")
kind_of s.Children = k.Word (codes "children")
kind_of s.Mapping = k.Word (codes "mapping")
kind_of s.Entry = k.Word (codes "entry")
kind_of s.Instance = k.Word (codes "instance")
kind_of s.Tunable = k.Word (codes "tunable")
kind_of s.Call = k.Word (codes "call")
kind_of s.Spread = k.Word (codes "spread")
kind_of s.Cyclic = k.Word (codes "cyclic")
kind_of s.Blocked = k.Word (codes "blocked")
kind_of s.Inner = k.Word (codes "inner")
kind_of s.Leaf = k.Word (codes "leaf")
kind_of s.Cost = k.Word (codes "cost")
kind_of s.Row = k.Word (codes "row")
kind_of s.Byte = k.Word (codes "byte")
kind_of s.AnyWord = k.Word []
kind_of s.AnyNumber = k.Number (pos 0)
kind_of (s.Exactly value) = k.Number (pos value)
kind_of (s.Sign sign) = k.Sign sign
kind_of s.End = k.End

abbrev pub token_like : Pattern → Token
token_like pattern = token (kind_of pattern) nowhere

-- The shortest tokens that give what is owed. From a point of the grammar they are given, before those for the rest.
abbrev pub completion : {P : Type 0} → (P → List Token → List Token) → List (Owed P) → List Token
completion closing [] = []
completion closing (Want s.End ∷ K) = token_like s.End ∷ []
completion closing (Want pattern ∷ K) = token_like pattern ∷ completion closing K
completion closing (At p ∷ K) = closing p (completion closing K)

same_value : (n : ℕ) → (n == n) ≡ true
same_value n = elim (eqb_tells n n) [ inl h ↦ h.0 | inr h ↦ absurd (h.1 refl) ]

pub completed : {P : Type 0} (ways : P → Ways P) (closing : P → List Token → List Token)
    → ((p : P) (K : List (Owed P)) (x : List Token) → run ways x K ≡ Ok tt → run ways (closing p x) (At p ∷ K) ≡ Ok tt)
    → (K : List (Owed P)) → run ways (completion closing K) K ≡ Ok tt
completed ways closing closes [] = refl
completed ways closing closes (Want s.End ∷ K) = refl
completed ways closing closes (Want (s.Sign h) ∷ K) =
    ap (λ b. moved (if b then Some K else None) (length (completion closing (Want (s.Sign h) ∷ K))) (run ways (completion closing K))) (true_same sign.the_type h h refl)
    ∙ completed ways closing closes K
completed ways closing closes (Want (s.Exactly n) ∷ K) =
    ap (λ b. moved (if b then Some K else None) (length (completion closing (Want (s.Exactly n) ∷ K))) (run ways (completion closing K))) (same_value n)
    ∙ completed ways closing closes K
completed ways closing closes (Want _ ∷ K) = completed ways closing closes K
completed ways closing closes (At p ∷ K) = closes p K (completion closing K) (completed ways closing closes K)

abbrev OfEnd : {P : Type 0} → Option (List (Owed P)) → Type 0
OfEnd None = Unit {0}
OfEnd (Some K) = K ≡ []

either_of_end : {P : Type 0} (b : Bool) (o q : Option (List (Owed P))) → OfEnd o → OfEnd q → OfEnd (if b then o else q)
either_of_end true o q x y = x
either_of_end false o q x y = y

token_of_end : {P : Type 0} (pattern : Pattern) (K : List (Owed P)) → OfEnd (token_of pattern K k.End)
token_of_end s.End K = refl
token_of_end _ K = tt

way_of_end : {P : Type 0} (w : Ways P) (K : List (Owed P)) → OfEnd (way_of w K k.End)
way_of_end (By pattern os) K = token_of_end pattern (os ++ K)
way_of_end (Or pattern os more) K = either_of_end (fits pattern k.End) (token_of pattern (os ++ K) k.End) (way_of more K k.End) (token_of_end pattern (os ++ K)) (way_of_end more K)

end_settles : {P : Type 0} (ways : P → Ways P) (K : List (Owed P)) → OfEnd (settle ways K k.End)
end_settles ways [] = tt
end_settles ways (Want pattern ∷ K) = token_of_end pattern K
end_settles ways (At p ∷ K) = way_of_end (ways p) K

pub end_after : {P : Type 0} (ways : P → Ways P) (K L : List (Owed P)) → settle ways K k.End ≡ Some L → L ≡ []
end_after ways K L e = subst OfEnd e (end_settles ways K)
