-- The grammar of machine files: which tokens stand for which machine.
use Rattle.std.specs.Prelude.{ℕ, suc, pos, List, [], ◌∷◌, codes}
use Rattle.sq_text.specs.declared.place.Place.{Place}
use Rattle.sq_lexer.specs.declared.token.Token.{Token}
use Rattle.sq_lexer.specs.declared.token.Kind.TheVariants.{Word, Number, Sign, End}
use Rattle.sq_lexer.specs.declared.token.Sign.TheVariants as sign
use Rattle.sq_lexer.specs.Tokens.{token}
use Rattle.sq_text.specs.declared.word.Word as tree
use Rattle.sq_text.specs.declared.word.Numeral.{Numeral}
use Rattle.sq_machfile.specs.declared.text.LevelText.{LevelText}
use Rattle.sq_machfile.specs.declared.text.Below.{Below}
use Rattle.sq_machfile.specs.declared.text.LevelsText.{LevelsText}
use Rattle.sq_machfile.specs.declared.text.NodeText.{NodeText}
use Rattle.sq_machfile.specs.declared.text.NodesText.{NodesText}
use Rattle.sq_machfile.specs.declared.text.MachineText.{MachineText}
use Rattle.sq_machfile.specs.declared.text.MachineText.TheVariants.{Levels, Nodes}

abbrev pub word : Place → List ℕ → tree.Word
word place name = record { place = place; name = name }

abbrev pub numeral : Place → ℕ → Numeral
numeral place value = record { place = place; value = value }

abbrev pub level_text : tree.Word → Numeral → LevelText
level_text name capacity = record { name = name; capacity = capacity }

abbrev pub below_text : Numeral → LevelText → Below
below_text children level = record { children = children; level = level }

abbrev pub levels_text : LevelText → List Below → LevelsText
levels_text root below = record { root = root; below = below }

abbrev pub node_text : ℕ → tree.Word → Numeral → NodeText
node_text depth name capacity = record { depth = depth; name = name; capacity = capacity }

abbrev pub nodes_text : List tree.Word → List NodeText → NodesText
nodes_text names nodes = record { names = names; nodes = nodes }

-- Of nodes the first list has those of this phrase and then those after it, which are the second. A node's depth is the
-- number of nodes that it stands in.
pub data Phrase : Type 0 where
  ALevel : LevelText → Phrase
  LevelsBelow : List Below → Phrase
  MoreNames : List tree.Word → Phrase
  ANode : (depth : ℕ) → (nodes later : List NodeText) → Phrase
  SomeNodes : (depth : ℕ) → (nodes later : List NodeText) → Phrase
  AMachine : MachineText → Phrase

-- The first tokens begin with the phrase, and the second are left after it. A number `1` is any number token of that
-- value.
pub data Derives : Phrase → List Token → List Token → Type 0 where
  -- `level NAME { capacity NUMBER; }`
  a_level : {p q r s t u v : Place} {name : List ℕ} {capacity : ℕ} {i : List Token}
      → Derives (ALevel (level_text (word q name) (numeral t capacity)))
      (token (Word (codes "level")) p ∷ token (Word name) q ∷ token (Sign sign.BraceOpen) r ∷ token (Word (codes "capacity")) s
      ∷ token (Number (pos capacity)) t ∷ token (Sign sign.Semi) u ∷ token (Sign sign.BraceClose) v ∷ i) i
  none_below : {i : List Token} → Derives (LevelsBelow []) i i
  -- `children NUMBER;` and a level
  one_below : {p q r : Place} {children : ℕ} {level : LevelText} {rest : List Below} {i j l : List Token}
      → Derives (ALevel level) i j → Derives (LevelsBelow rest) j l
      → Derives (LevelsBelow (below_text (numeral q children) level ∷ rest))
      (token (Word (codes "children")) p ∷ token (Number (pos children)) q ∷ token (Sign sign.Semi) r ∷ i) l
  no_more_names : {i : List Token} → Derives (MoreNames []) i i
  -- `, NAME`
  one_more_name : {p q : Place} {name : List ℕ} {rest : List tree.Word} {i j : List Token}
      → Derives (MoreNames rest) i j → Derives (MoreNames (word q name ∷ rest)) (token (Sign sign.Comma) p ∷ token (Word name) q ∷ i) j
  -- `node NAME { capacity NUMBER; NODES }`
  a_node : {depth : ℕ} {p q r s t u v : Place} {name : List ℕ} {capacity : ℕ} {nodes later : List NodeText} {i j : List Token}
      → Derives (SomeNodes (suc depth) nodes later) i (token (Sign sign.BraceClose) v ∷ j)
      → Derives (ANode depth (node_text depth (word q name) (numeral t capacity) ∷ nodes) later)
      (token (Word (codes "node")) p ∷ token (Word name) q ∷ token (Sign sign.BraceOpen) r ∷ token (Word (codes "capacity")) s
      ∷ token (Number (pos capacity)) t ∷ token (Sign sign.Semi) u ∷ i) j
  no_nodes : {depth : ℕ} {nodes : List NodeText} {i : List Token} → Derives (SomeNodes depth nodes nodes) i i
  one_more_node : {depth : ℕ} {nodes more later : List NodeText} {i j l : List Token}
      → Derives (ANode depth nodes more) i j → Derives (SomeNodes depth more later) j l → Derives (SomeNodes depth nodes later) i l
  -- `machine 1;`, the root, and the levels below it
  of_levels : {p q r : Place} {root : LevelText} {below : List Below} {i j l : List Token}
      → Derives (ALevel root) i j → Derives (LevelsBelow below) j l
      → Derives (AMachine (Levels (levels_text root below)))
      (token (Word (codes "machine")) p ∷ token (Number (pos 1)) q ∷ token (Sign sign.Semi) r ∷ i) l
  -- `machine 2; levels NAME, NAME, ..;`, and the root with all nodes in it
  of_nodes : {p q r s t u : Place} {name : List ℕ} {names : List tree.Word} {nodes : List NodeText} {i j l : List Token}
      → Derives (MoreNames names) i (token (Sign sign.Semi) u ∷ j) → Derives (ANode 0 nodes []) j l
      → Derives (AMachine (Nodes (nodes_text (word t name ∷ names) nodes)))
      (token (Word (codes "machine")) p ∷ token (Number (pos 2)) q ∷ token (Sign sign.Semi) r ∷ token (Word (codes "levels")) s ∷ token (Word name) t ∷ i) l

-- the tokens are a text of this machine
pub record IsText (tokens : List Token) (machine : MachineText) : Type 0 where
  pub end : Place
  pub text : Derives (AMachine machine) tokens (token End end ∷ [])

-- some tokens are a text of this machine
abbrev pub IsWritten : MachineText → Type 0
IsWritten machine = (tokens : List Token) × IsText tokens machine
