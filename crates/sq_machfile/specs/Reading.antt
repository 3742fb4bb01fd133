-- What the reader gives, as a function on lists of tokens. No public clause speaks of it.
use Rattle.std.specs.Prelude.{ℕ, zero, suc, List, [], ◌∷◌, ◌++◌, length, Err}
use Rattle.sq_patterns.specs.declared.cursor.ReadError.TheVariants.{Syntax}
use Rattle.std.specs.List.{slice_get}
use Rattle.sq_lexer.specs.declared.token.Sign.TheVariants as g
use Rattle.sq_text.specs.declared.word.Word.{Word}
use Rattle.sq_patterns.specs.declared.pattern.Pattern.{Pattern}
use Rattle.sq_patterns.specs.declared.pattern.Pattern.TheVariants as s
use Rattle.sq_patterns.specs.Reading.{Reader, ◌>>=◌, pure, all, choice, until, finish, word_in, numeral_in}
use Rattle.sq_machfile.specs.declared.text.LevelText.{LevelText}
use Rattle.sq_machfile.specs.declared.text.Below.{Below}
use Rattle.sq_machfile.specs.declared.text.LevelsText.{LevelsText}
use Rattle.sq_machfile.specs.declared.text.NodeText.{NodeText}
use Rattle.sq_machfile.specs.declared.text.NodesText.{NodesText}
use Rattle.sq_machfile.specs.declared.text.MachineText.{MachineText}
use Rattle.sq_machfile.specs.declared.text.MachineText.TheVariants.{Levels, Nodes}

-- ---- version 1

abbrev pub one_patterns : List Pattern
one_patterns = s.Exactly 1 ∷ s.Sign g.Semi ∷ []

abbrev pub level_patterns : List Pattern
level_patterns = s.Level ∷ s.AnyWord ∷ s.Sign g.BraceOpen ∷ s.Capacity ∷ s.AnyNumber ∷ s.Sign g.Semi ∷ s.Sign g.BraceClose ∷ []

abbrev pub children_patterns : List Pattern
children_patterns = s.Children ∷ s.AnyNumber ∷ s.Sign g.Semi ∷ []

abbrev pub level : Reader LevelText
level = do
  read ← all level_patterns
  pure (record { name = word_in (slice_get read 1); capacity = numeral_in (slice_get read 4) })

abbrev pub below : Reader Below
below = do
  read ← all children_patterns
  level ← level
  pure (record { children = numeral_in (slice_get read 1); level = level })

unfoldable pub levels_below : Reader (List Below)
levels_below = λ i. until s.End below (length i) [] i

unfoldable pub levels : Reader LevelsText
levels = do
  head ← all one_patterns
  root ← level
  below ← levels_below
  pure (record { root = root; below = below })

-- ---- version 2

abbrev pub two_patterns : List Pattern
two_patterns = s.Exactly 2 ∷ s.Sign g.Semi ∷ s.Levels ∷ s.AnyWord ∷ []

abbrev pub name_patterns : List Pattern
name_patterns = s.Sign g.Comma ∷ s.AnyWord ∷ []

abbrev pub node_patterns : List Pattern
node_patterns = s.Node ∷ s.AnyWord ∷ s.Sign g.BraceOpen ∷ s.Capacity ∷ s.AnyNumber ∷ s.Sign g.Semi ∷ []

abbrev pub name : Reader Word
name = do
  read ← all name_patterns
  pure (word_in (slice_get read 1))

unfoldable pub names_from : Word → Reader (List Word)
names_from first = λ i. until (s.Sign g.Semi) name (length i) (first ∷ []) i

-- a node up to those in it
abbrev pub node : ℕ → Reader NodeText
node depth = do
  read ← all node_patterns
  pure (record { depth = depth; name = word_in (slice_get read 1); capacity = numeral_in (slice_get read 4) })

-- The nodes up to the end of the first, where so many nodes are open. Each turn takes a token.
unfoldable pub nodes_in : ℕ → ℕ → List NodeText → Reader (List NodeText)
nodes_in zero zero found = pure found
nodes_in zero (suc outer) found = λ i. Err (Syntax (length i))
nodes_in (suc turns) zero found = pure found
nodes_in (suc turns) (suc outer) found = choice (s.Sign g.BraceClose)
    (do
      brace ← all (s.Sign g.BraceClose ∷ [])
      nodes_in turns outer found)
    (do
      node ← node (suc outer)
      nodes_in turns (suc (suc outer)) (found ++ node ∷ []))

unfoldable pub nodes_of : NodeText → Reader (List NodeText)
nodes_of root = λ i. nodes_in (length i) 1 (root ∷ []) i

unfoldable pub nodes : Reader NodesText
nodes = do
  head ← all two_patterns
  names ← names_from (word_in (slice_get head 3))
  semi ← all (s.Sign g.Semi ∷ [])
  root ← node 0
  nodes ← nodes_of root
  pure (record { names = names; nodes = nodes })

-- ---- either

abbrev pub levels_machine : Reader MachineText
levels_machine = do
  text ← levels
  pure (Levels text)

abbrev pub nodes_machine : Reader MachineText
nodes_machine = do
  text ← nodes
  pure (Nodes text)

abbrev pub either : Reader MachineText
either = choice (s.Exactly 1) levels_machine nodes_machine

unfoldable pub machine : Reader MachineText
machine = do
  head ← all (s.Machine ∷ [])
  text ← either
  end ← all (s.End ∷ [])
  finish text
