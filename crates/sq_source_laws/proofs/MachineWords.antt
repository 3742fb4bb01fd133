-- The names and numbers of a machine file are tokens of its text, in their order.
use Rattle.std.proofs.Common.{List, [], ◌∷◌}
use Rattle.sq_lexer.specs.declared.token.Token.{Token}
use Rattle.sq_text.specs.declared.word.Word.{Word}
use Rattle.sq_machfile.specs.declared.text.LevelText.{LevelText}
use Rattle.sq_machfile.specs.declared.text.Below.{Below}
use Rattle.sq_machfile.specs.declared.text.NodeText.{NodeText}
use Rattle.sq_machfile.specs.declared.text.MachineText.{MachineText}
use Rattle.sq_machfile.specs.declared.text.MachineText.TheVariants.{Levels, Nodes}
use Rattle.sq_machfile.specs.Grammar.{Phrase, ALevel, LevelsBelow, MoreNames, ANode, SomeNodes, AMachine, Derives, a_level, none_below, one_below, no_more_names, one_more_name, a_node, no_nodes, one_more_node, of_levels, of_nodes, IsText}
use Rattle.sq_source_laws.proofs.Rising.{Among, none, keep, skip}
use Rattle.sq_source_laws.proofs.TokenPlaces.{word_token, numeral_token}

-- the tokens of the names and numbers, before others
abbrev pub level_tokens : LevelText → List Token → List Token
level_tokens level l = word_token level.name ∷ numeral_token level.capacity ∷ l

abbrev pub below_tokens : List Below → List Token → List Token
below_tokens [] l = l
below_tokens (b ∷ below) l = numeral_token b.children ∷ level_tokens b.level (below_tokens below l)

abbrev pub name_tokens : List Word → List Token → List Token
name_tokens [] l = l
name_tokens (name ∷ names) l = word_token name ∷ name_tokens names l

abbrev pub node_tokens : List NodeText → List Token → List Token
node_tokens [] l = l
node_tokens (n ∷ nodes) l = word_token n.name ∷ numeral_token n.capacity ∷ node_tokens nodes l

abbrev pub machine_tokens : MachineText → List Token → List Token
machine_tokens (Levels text) l = level_tokens text.root (below_tokens text.below l)
machine_tokens (Nodes text) l = name_tokens text.names (node_tokens text.nodes l)

abbrev Has : Phrase → List Token → List Token → Type 0
Has (ALevel x) i j = (l : List Token) → Among l j → Among (level_tokens x l) i
Has (LevelsBelow xs) i j = (l : List Token) → Among l j → Among (below_tokens xs l) i
Has (MoreNames xs) i j = (l : List Token) → Among l j → Among (name_tokens xs l) i
Has (ANode depth xs later) i j = (l : List Token) → Among (node_tokens later l) j → Among (node_tokens xs l) i
Has (SomeNodes depth xs later) i j = (l : List Token) → Among (node_tokens later l) j → Among (node_tokens xs l) i
Has (AMachine x) i j = (l : List Token) → Among l j → Among (machine_tokens x l) i

has : {p : Phrase} {i j : List Token} → Derives p i j → Has p i j
has a_level = λ l a. skip (keep (skip (skip (keep (skip (skip a))))))
has none_below = λ l a. a
has (one_below {level = level} {rest = rest} d more) = λ l a. skip (keep (skip (has d (below_tokens rest l) (has more l a))))
has no_more_names = λ l a. a
has (one_more_name more) = λ l a. skip (keep (has more l a))
has (a_node d) = λ l a. skip (keep (skip (skip (keep (skip (has d l (skip a)))))))
has no_nodes = λ l a. a
has (one_more_node d more) = λ l a. has d l (has more l a)
has (of_levels {below = below} d more) = λ l a. skip (skip (skip (has d (below_tokens below l) (has more l a))))
has (of_nodes {nodes = nodes} names root) = λ l a. skip (skip (skip (skip (keep (has names (node_tokens nodes l) (skip (has root l a)))))))

pub machine_among : (ts : List Token) (x : MachineText) → IsText ts x → Among (machine_tokens x []) ts
machine_among ts x h = has h.text [] none
