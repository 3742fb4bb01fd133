-- The points of the grammar at which the next token decides, and the ways on from each.
use Rattle.std.proofs.Common.{◌≡◌, List, [], ◌∷◌, Ok, refl}
use Rattle.sq_lexer.specs.declared.token.Token.{Token}
use Rattle.sq_lexer.specs.declared.token.Sign.TheVariants as g
use Rattle.sq_patterns.specs.declared.pattern.Pattern.TheVariants as s
use Rattle.sq_patterns.proofs.Owing.{Owed, Want, At, Ways, By, Or, wants, run}
use Rattle.sq_patterns.proofs.Ready.{token_like}
use Rattle.sq_costs.specs.Reading.{head_patterns, entry_patterns}

pub data Point : Type 0 where
  More : Point

-- another entry, or the end
abbrev pub ways : Point → Ways Point
ways More = Or s.End []
    (By s.Level (Want s.AnyWord ∷ Want (s.Sign g.BraceOpen) ∷ Want s.Row ∷ Want s.AnyNumber ∷ Want (s.Sign g.Semi) ∷ Want s.Byte ∷ Want s.AnyNumber
    ∷ Want (s.Sign g.Semi) ∷ Want s.Leaf ∷ Want s.AnyNumber ∷ Want (s.Sign g.Semi) ∷ Want (s.Sign g.BraceClose) ∷ At More ∷ []))

abbrev pub start : List (Owed Point)
start = wants head_patterns (wants entry_patterns (At More ∷ []))

-- the shortest tokens that give what is owed at the point
abbrev pub closing : Point → List Token → List Token
closing More later = token_like s.End ∷ []

pub closes : (p : Point) (K : List (Owed Point)) (later : List Token) → run ways later K ≡ Ok tt → run ways (closing p later) (At p ∷ K) ≡ Ok tt
closes More K later e = refl
