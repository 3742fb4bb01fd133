-- The points of the grammar at which the next token decides, and the ways on from each.
use Rattle.std.proofs.Common.{◌≡◌, List, [], ◌∷◌, ◌++◌, Ok, refl}
use Rattle.sq_lexer.specs.declared.token.Token.{Token}
use Rattle.sq_mapfile.specs.declared.text.Version.{Version}
use Rattle.sq_mapfile.specs.declared.text.Version.TheVariants.{First, Second}
use Rattle.sq_mapfile.specs.declared.text.Tunables.{Tunables}
use Rattle.sq_mapfile.specs.declared.text.Tunables.TheVariants.{Fixed, Varied}
use Rattle.sq_lexer.specs.declared.token.Sign.TheVariants as g
use Rattle.sq_patterns.specs.declared.pattern.Pattern.TheVariants as s
use Rattle.sq_patterns.proofs.Owing.{Owed, Want, At, Ways, By, Or, wants, run}
use Rattle.sq_patterns.proofs.Ready.{token_like}
use Rattle.sq_mapfile.specs.Reading.{head_patterns, level_patterns}

pub data Point : Type 0 where
  Sizes : Point
  MoreSizes : Point
  AValue : Point
  Values : Point
  MoreValues : Point
  ASetting : Point
  Others : Point
  ARule : Point
  AnItem : Tunables → Version → Point
  Items : Tunables → Version → Point
  AKind : Point
  Instances : Tunables → Version → Point
  AVersion : Tunables → Point

-- behind a setting: the semicolon, with the alternatives that there may be before it
abbrev pub setting_ends : Tunables → Owed Point
setting_ends Fixed = Want (s.Sign g.Semi)
setting_ends Varied = At Others

abbrev pub tunable_owes : Tunables → List (Owed Point)
tunable_owes tunables = Want s.AnyWord ∷ Want (s.Sign g.Set) ∷ At ASetting ∷ setting_ends tunables ∷ []

abbrev pub call_owes : List (Owed Point)
call_owes = wants (s.AnyWord ∷ s.Sign g.Arrow ∷ s.AnyWord ∷ s.Sign g.Semi ∷ []) []

abbrev pub spread_owes : List (Owed Point)
spread_owes = Want (s.Sign g.Set) ∷ At ARule ∷ Want (s.Sign g.Semi) ∷ []

abbrev pub instance_owes : Tunables → Version → List (Owed Point)
instance_owes tunables version =
    wants (s.AnyWord ∷ s.Sign g.Set ∷ s.AnyWord ∷ s.Sign g.Path ∷ []) (At AKind ∷ wants level_patterns (At (Items tunables version) ∷ []))

-- behind the number of the version
abbrev pub version_owes : Tunables → Version → List (Owed Point)
version_owes tunables version = wants head_patterns (At Sizes ∷ Want (s.Sign g.Semi) ∷ At (Instances tunables version) ∷ [])

-- the lists end with their bracket, and the instances with the end
abbrev pub ways : Point → Ways Point
ways Sizes = Or (s.Sign g.ParenClose) [] (By s.AnyWord (Want (s.Sign g.Set) ∷ Want s.AnyNumber ∷ At MoreSizes ∷ []))
ways MoreSizes = Or (s.Sign g.ParenClose) [] (By (s.Sign g.Comma) (Want s.AnyWord ∷ Want (s.Sign g.Set) ∷ Want s.AnyNumber ∷ At MoreSizes ∷ []))
ways AValue = Or (s.Sign g.Minus) (Want s.AnyNumber ∷ []) (By s.AnyNumber [])
ways Values = Or (s.Sign g.BracketClose) [] (Or (s.Sign g.Minus) (Want s.AnyNumber ∷ At MoreValues ∷ []) (By s.AnyNumber (At MoreValues ∷ [])))
ways MoreValues = Or (s.Sign g.BracketClose) [] (By (s.Sign g.Comma) (At AValue ∷ At MoreValues ∷ []))
ways ASetting = Or (s.Sign g.BracketOpen) (At Values ∷ []) (Or (s.Sign g.Minus) (Want s.AnyNumber ∷ []) (By s.AnyNumber []))
ways Others = Or (s.Sign g.Semi) [] (By (s.Sign g.Bar) (At ASetting ∷ At Others ∷ []))
ways ARule = Or s.Cyclic [] (By s.Blocked [])
ways (AnItem tunables First) = Or s.Tunable (tunable_owes tunables) (By s.Call call_owes)
ways (AnItem tunables Second) = Or s.Spread spread_owes (Or s.Tunable (tunable_owes tunables) (By s.Call call_owes))
ways (Items tunables First) = Or (s.Sign g.BraceClose) []
    (Or s.Tunable (tunable_owes tunables ++ At (Items tunables First) ∷ []) (By s.Call (call_owes ++ At (Items tunables First) ∷ [])))
ways (Items tunables Second) = Or (s.Sign g.BraceClose) []
    (Or s.Spread (spread_owes ++ At (Items tunables Second) ∷ [])
    (Or s.Tunable (tunable_owes tunables ++ At (Items tunables Second) ∷ []) (By s.Call (call_owes ++ At (Items tunables Second) ∷ []))))
ways AKind = Or s.Inner [] (By s.Leaf [])
ways (Instances tunables version) = Or s.End [] (By s.Instance (instance_owes tunables version ++ At (Instances tunables version) ∷ []))
ways (AVersion tunables) = Or (s.Exactly 1) (version_owes tunables First) (By (s.Exactly 2) (version_owes tunables Second))

abbrev pub start : Tunables → List (Owed Point)
start tunables = Want s.Mapping ∷ At (AVersion tunables) ∷ []

-- the shortest tokens that give what is owed at a point
abbrev pub closing : Point → List Token → List Token
closing Sizes later = token_like (s.Sign g.ParenClose) ∷ later
closing MoreSizes later = token_like (s.Sign g.ParenClose) ∷ later
closing AValue later = token_like s.AnyNumber ∷ later
closing Values later = token_like (s.Sign g.BracketClose) ∷ later
closing MoreValues later = token_like (s.Sign g.BracketClose) ∷ later
closing ASetting later = token_like s.AnyNumber ∷ later
closing Others later = token_like (s.Sign g.Semi) ∷ later
closing ARule later = token_like s.Cyclic ∷ later
closing (AnItem tunables version) later = token_like s.Call ∷ token_like s.AnyWord ∷ token_like (s.Sign g.Arrow) ∷ token_like s.AnyWord ∷ token_like (s.Sign g.Semi) ∷ later
closing (Items tunables version) later = token_like (s.Sign g.BraceClose) ∷ later
closing AKind later = token_like s.Leaf ∷ later
closing (Instances tunables version) later = token_like s.End ∷ []
closing (AVersion tunables) later =
    token_like (s.Exactly 1) ∷ token_like (s.Sign g.Semi) ∷ token_like s.Entry ∷ token_like s.AnyWord ∷ token_like (s.Sign g.ParenOpen)
    ∷ token_like (s.Sign g.ParenClose) ∷ token_like (s.Sign g.Semi) ∷ token_like s.End ∷ []

pub closes : (p : Point) (K : List (Owed Point)) (later : List Token) → run ways later K ≡ Ok tt → run ways (closing p later) (At p ∷ K) ≡ Ok tt
closes (AnItem tunables First) K later e = e
closes (AnItem tunables Second) K later e = e
closes (Items tunables First) K later e = e
closes (Items tunables Second) K later e = e
closes (Instances tunables version) K later e = refl
closes (AVersion tunables) K later e = refl
closes _ K later e = e
