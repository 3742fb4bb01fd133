-- What is left of a part of a plan that is written out, and how parts are joined. Empty parts are left out, and scopes
-- that change nothing; a `seq` or a `par` of one part is that part, and a `seq` in a `seq`, or a `par` in a `par`, is
-- joined with it.
use Rattle.std.specs.Prelude.{ℕ, ◌==◌, if◌then◌else◌, Bool, true, false, List, [], ◌∷◌, ◌++◌}
use Rattle.sq_ast.specs.Unplaced.{nowhere}
use Rattle.sq_plantext.specs.declared.text.TermText.{TermText}
use Rattle.sq_plantext.specs.declared.text.TermText.TheVariants as text
use Rattle.sq_planfile.specs.declared.left.Left.{Left}
use Rattle.sq_planfile.specs.declared.left.Left.TheVariants.{Nothing, InTurn, Beside, Alone}

abbrev pub is_nothing : Left → Bool
is_nothing Nothing = true
is_nothing (InTurn ts) = false
is_nothing (Beside ts) = false
is_nothing (Alone t) = false

-- as the parts of a sequence
abbrev pub in_turn : Left → List TermText
in_turn Nothing = []
in_turn (InTurn ts) = ts
in_turn (Beside ts) = text.Par ts ∷ []
in_turn (Alone t) = t ∷ []

-- as parts beside one another
abbrev pub beside : Left → List TermText
beside Nothing = []
beside (InTurn ts) = text.Seq ts ∷ []
beside (Beside ts) = ts
beside (Alone t) = t ∷ []

abbrev pub then_seq : Left → Left → Left
then_seq Nothing b = b
then_seq a Nothing = a
then_seq a b = InTurn (in_turn a ++ in_turn b)

abbrev pub then_par : Left → Left → Left
then_par Nothing b = b
then_par a Nothing = a
then_par a b = Beside (beside a ++ beside b)

-- of a plan without events it is `seq {` and `}`
abbrev pub whole : Left → TermText
whole Nothing = text.Seq []
whole (InTurn ts) = text.Seq ts
whole (Beside ts) = text.Par ts
whole (Alone t) = t

-- the lines of a scope; round nothing there are none
abbrev pub lines_of : (node : ℕ) → (buffers : List ℕ) → Left → Left
lines_of node buffers Nothing = Nothing
lines_of node buffers a = Alone (text.At nowhere node buffers (whole a))

-- where this node is in force a scope changes nothing: it stays there, and names no buffers
abbrev pub is_left_out : (here node : ℕ) → (buffers : List ℕ) → Bool
is_left_out here node [] = here == node
is_left_out here node (b ∷ bs) = false

abbrev pub scope : (here node : ℕ) → (buffers : List ℕ) → Left → Left
scope here node buffers a = if is_left_out here node buffers then a else lines_of node buffers a
