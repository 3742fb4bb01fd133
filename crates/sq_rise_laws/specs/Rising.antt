-- The places of a program's maps, in the order of the text.
--
-- Of `mappar (..) { mapseq (..) { low(A[i], B[j]); } mapseq (..) { low(B[i], A[j]); } }` they are the places of
-- `mappar`, of the first `mapseq` and of the second one.
use Rattle.std.specs.Prelude.{List, [], ◌∷◌, ◌++◌, map}
use Rattle.std.specs.List.{AllByRecursion}
use Rattle.sq_text.specs.declared.place.Place.{Place}
use Rattle.sq_text.specs.Places.{IsBefore}
use Rattle.sq_ast.specs.declared.stmt.Stmt.{Stmt}
use Rattle.sq_ast.specs.declared.stmt.Stmt.TheOpen.{Stmt-F}
use Rattle.sq_ast.specs.declared.stmt.Stmt.TheFolds.{fold-Stmt}
use Rattle.sq_ast.specs.declared.program.Body.{Body}
use Rattle.sq_ast.specs.declared.program.Body.TheVariants.{Inner, Leaf}
use Rattle.sq_ast.specs.declared.program.Variant.{Variant}
use Rattle.sq_ast.specs.declared.program.Program.{Program}
use Rattle.sq_ast.specs.Given.{IsGiven}

abbrev pub all_places : List (List Place) → List Place
all_places [] = []
all_places (ps ∷ rest) = ps ++ all_places rest

abbrev pub places_step : Stmt-F (List Place) → List Place
places_step (Stmt-F.Call c) = []
places_step (Stmt-F.Map place kind ranges parts) = place ∷ all_places parts

-- of the maps in a statement
abbrev pub places_in : Stmt → List Place
places_in = fold-Stmt (List Place) places_step

abbrev pub stmts_places : List Stmt → List Place
stmts_places list = all_places (map places_in list)

abbrev pub body_places : Body → List Place
body_places (Inner list) = stmts_places list
body_places (Leaf list) = []

abbrev pub variants_places : List Variant → List Place
variants_places variants = all_places (map (λ (v : Variant). body_places v.body) variants)

-- each stands before all that follow
abbrev pub AreRising : List Place → Type 0
AreRising [] = Unit {0}
AreRising (p ∷ ps) = AllByRecursion (IsBefore p) ps × AreRising ps

-- The maps of a program that a text gives stand at their places in the order of the text.
abbrev pub MapsOfTextsRise : Type 0
MapsOfTextsRise = (program : Program) → IsGiven program → AreRising (variants_places program.tasks)
