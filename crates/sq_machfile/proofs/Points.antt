-- The points of the grammar at which the next token decides, and the ways on from each.
use Rattle.std.proofs.Common.{◌≡◌, List, [], ◌∷◌, Ok, refl}
use Rattle.sq_lexer.specs.declared.token.Token.{Token}
use Rattle.sq_lexer.specs.declared.token.Sign.TheVariants as g
use Rattle.sq_patterns.specs.declared.pattern.Pattern.TheVariants as s
use Rattle.sq_patterns.proofs.Owing.{Owed, Want, At, Ways, By, Or, wants, run}
use Rattle.sq_patterns.proofs.Ready.{token_like}
use Rattle.sq_machfile.specs.Reading.{level_patterns, node_patterns}

pub data Point : Type 0 where
  Version : Point
  LevelsBelow : Point
  MoreNames : Point
  Inside : Point

abbrev pub ways : Point → Ways Point
ways Version = Or (s.Exactly 1) (Want (s.Sign g.Semi) ∷ wants level_patterns (At LevelsBelow ∷ []))
    (By (s.Exactly 2) (Want (s.Sign g.Semi) ∷ Want s.Levels ∷ Want s.AnyWord ∷ At MoreNames ∷ wants node_patterns (At Inside ∷ Want s.End ∷ [])))
-- a number of children and a level, and those below it; or the end
ways LevelsBelow = Or s.End [] (By s.Children (Want s.AnyNumber ∷ Want (s.Sign g.Semi) ∷ wants level_patterns (At LevelsBelow ∷ [])))
ways MoreNames = Or (s.Sign g.Semi) [] (By (s.Sign g.Comma) (Want s.AnyWord ∷ At MoreNames ∷ []))
-- a node in this one, and what stands behind it; or the end of this one
ways Inside = Or (s.Sign g.BraceClose) []
    (By s.Node (Want s.AnyWord ∷ Want (s.Sign g.BraceOpen) ∷ Want s.Capacity ∷ Want s.AnyNumber ∷ Want (s.Sign g.Semi) ∷ At Inside ∷ At Inside ∷ []))

abbrev pub start : List (Owed Point)
start = Want s.Machine ∷ At Version ∷ []

-- the shortest tokens that give what is owed at the point
abbrev pub closing : Point → List Token → List Token
closing Version later = token_like (s.Exactly 1) ∷ token_like (s.Sign g.Semi) ∷ token_like s.Level ∷ token_like s.AnyWord ∷ token_like (s.Sign g.BraceOpen)
    ∷ token_like s.Capacity ∷ token_like s.AnyNumber ∷ token_like (s.Sign g.Semi) ∷ token_like (s.Sign g.BraceClose) ∷ token_like s.End ∷ []
closing LevelsBelow later = token_like s.End ∷ []
closing MoreNames later = token_like (s.Sign g.Semi) ∷ later
closing Inside later = token_like (s.Sign g.BraceClose) ∷ later

pub closes : (p : Point) (K : List (Owed Point)) (later : List Token) → run ways later K ≡ Ok tt → run ways (closing p later) (At p ∷ K) ≡ Ok tt
closes Version K later e = refl
closes LevelsBelow K later e = refl
closes MoreNames K later e = e
closes Inside K later e = e
