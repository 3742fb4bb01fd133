-- What the grammar derives is what the reader gives: it is found, and nothing else.
use Rattle.std.proofs.Common.{◌≡◌, ℕ, zero, suc, ◌≤◌, true, List, [], ◌∷◌, ◌++◌, length, Ok, refl, sym, ◌∙◌, ap, arith, pos, codes, append_assoc, append-nil, subst}
use Rattle.sq_text.specs.declared.place.Place.{Place}
use Rattle.sq_text.specs.declared.word.Word.{Word}
use Rattle.sq_lexer.specs.declared.token.Token.{Token}
use Rattle.sq_lexer.specs.declared.token.Kind.TheVariants as k
use Rattle.sq_lexer.specs.declared.token.Sign.TheVariants as g
use Rattle.sq_lexer.specs.Tokens.{token}
use Rattle.sq_patterns.specs.declared.pattern.Pattern.TheVariants as s
use Rattle.sq_patterns.specs.Reading.{all, until, sees}
use Rattle.sq_patterns.proofs.Turns.{then_ok, Until, until_none, until_one}
use Rattle.sq_machfile.specs.declared.text.LevelText.{LevelText}
use Rattle.sq_machfile.specs.declared.text.Below.{Below}
use Rattle.sq_machfile.specs.declared.text.NodeText.{NodeText}
use Rattle.sq_machfile.specs.declared.text.MachineText.{MachineText}
use Rattle.sq_machfile.specs.declared.text.MachineText.TheVariants.{Levels, Nodes}
use Rattle.sq_machfile.specs.Grammar.{word, numeral, levels_text, node_text, nodes_text, Phrase, ALevel, LevelsBelow, MoreNames, ANode, SomeNodes, AMachine, Derives, a_level, none_below, one_below, no_more_names, one_more_name, a_node, no_nodes, one_more_node, of_levels, of_nodes, IsText}
use Rattle.sq_machfile.specs.Reading as reading
use Rattle.sq_machfile.proofs.Closings.{Closing, closed, closes, opens, closing_inside}

-- ---- nodes

-- with enough turns these nodes are read
abbrev Read : ℕ → List NodeText → List Token → List Token → Type 0
Read outer xs i j = (turns : ℕ) (found : List NodeText) → length i ≤ turns → reading.nodes_in turns outer found i ≡ Ok (found ++ xs, j)

nodes_closed : (turns : ℕ) (found : List NodeText) (i : List Token) → reading.nodes_in turns 0 found i ≡ Ok (found ++ [], i)
unfolding reading.nodes_in
nodes_closed zero found i = ap (λ x. Ok (x, i)) (sym (append-nil found))
nodes_closed (suc turns) found i = ap (λ x. Ok (x, i)) (sym (append-nil found))

one_closes : (outer : ℕ) (v : Place) (xs : List NodeText) (i j : List Token) → Read outer xs i j → Read (suc outer) xs (token (k.Sign g.BraceClose) v ∷ i) j
unfolding reading.nodes_in
one_closes outer v xs i j h zero found le = absurd (omega arith)
one_closes outer v xs i j h (suc turns) found le = h turns found (omega arith)

one_opens : (outer : ℕ) (p q r s t u : Place) (name : List ℕ) (capacity : ℕ) (xs : List NodeText) (i j : List Token) → Read (suc (suc outer)) xs i j
    → Read (suc outer) (node_text (suc outer) (word q name) (numeral t capacity) ∷ xs)
    (token (k.Word (codes "node")) p ∷ token (k.Word name) q ∷ token (k.Sign g.BraceOpen) r ∷ token (k.Word (codes "capacity")) s
    ∷ token (k.Number (pos capacity)) t ∷ token (k.Sign g.Semi) u ∷ i) j
unfolding reading.nodes_in
one_opens outer p q r s t u name capacity xs i j h zero found le = absurd (omega arith)
one_opens outer p q r s t u name capacity xs i j h (suc turns) found le =
    let x = node_text (suc outer) (word q name) (numeral t capacity) in
    h turns (found ++ x ∷ []) (omega arith) ∙ ap (λ y. Ok (y, j)) (append_assoc found (x ∷ []) xs)

nodes_read : {outer : ℕ} {xs : List NodeText} {i j : List Token} → Closing outer xs i j → Read outer xs i j
nodes_read closed = λ turns found le. nodes_closed turns found _
nodes_read (closes c) = one_closes _ _ _ _ _ (nodes_read c)
nodes_read (opens c) = one_opens _ _ _ _ _ _ _ _ _ _ _ _ (nodes_read c)

-- ---- phrases

-- the root, and the nodes in it
record HasRoot (nodes : List NodeText) (i j : List Token) : Type 0 where
  pub root : NodeText
  pub others : List NodeText
  pub behind : List Token
  pub is : nodes ≡ root ∷ others
  pub read : reading.node 0 i ≡ Ok (root, behind)
  pub inside : Closing 1 others behind j

abbrev Complete : Phrase → List Token → List Token → Type 0
Complete (ALevel x) i j = (reading.level i ≡ Ok (x, j)) × (length j ≤ length i)
Complete (LevelsBelow xs) i j = sees s.End j ≡ true → Until s.End reading.below xs i j
Complete (MoreNames xs) i j = sees (s.Sign g.Semi) j ≡ true → Until (s.Sign g.Semi) reading.name xs i j
Complete (ANode zero nodes later) i j = later ≡ [] → HasRoot nodes i j
Complete (AMachine x) i j = (p : Place) → j ≡ token k.End p ∷ [] → reading.machine i ≡ Ok (x, [])
Complete _ i j = Unit {0}

levels_ok : (q r : Place) (root : LevelText) (rest : List Below) (i j l : List Token) → reading.level i ≡ Ok (root, j) → (sees s.End l ≡ true → Until s.End reading.below rest j l)
    → (e : Place) → l ≡ token k.End e ∷ []
    → reading.levels (token (k.Number (pos 1)) q ∷ token (k.Sign g.Semi) r ∷ i) ≡ Ok (levels_text root rest, l)
unfolding reading.levels reading.levels_below
levels_ok q r root rest i j l read h e is =
    then_ok (reading.level i) _ root j read
    ∙ then_ok (until s.End reading.below (length j) [] j) _ rest l (h (ap (sees s.End) is) (length j) [] (omega arith))

nodes_ok : (q r s1 t u : Place) (name : List ℕ) (names : List Word) (nodes : List NodeText) (i j l : List Token)
    → Until (s.Sign g.Semi) reading.name names i (token (k.Sign g.Semi) u ∷ j) → HasRoot nodes j l
    → reading.nodes (token (k.Number (pos 2)) q ∷ token (k.Sign g.Semi) r ∷ token (k.Word (codes "levels")) s1 ∷ token (k.Word name) t ∷ i) ≡ Ok (nodes_text (word t name ∷ names) nodes, l)
unfolding reading.nodes reading.names_from reading.nodes_of
nodes_ok q r s1 t u name names nodes i j l h root =
    then_ok (until (s.Sign g.Semi) reading.name (length i) (word t name ∷ []) i) _ (word t name ∷ names) (token (k.Sign g.Semi) u ∷ j) (h (length i) (word t name ∷ []) (omega arith))
    ∙ then_ok (reading.node 0 j) _ root.root root.behind root.read
    ∙ then_ok (reading.nodes_in (length root.behind) 1 (root.root ∷ []) root.behind) _ (root.root ∷ root.others) l (nodes_read root.inside (length root.behind) (root.root ∷ []) (omega arith))
    ∙ ap (λ nodes. Ok (nodes_text (word t name ∷ names) nodes, l)) (sym root.is)

machine_ok : (p : Place) (x : MachineText) (i l : List Token) → reading.either i ≡ Ok (x, l) → (e : Place) → l ≡ token k.End e ∷ []
    → reading.machine (token (k.Word (codes "machine")) p ∷ i) ≡ Ok (x, [])
unfolding reading.machine
machine_ok p x i l read e is = then_ok (reading.either i) _ x l read ∙ then_ok (all (s.End ∷ []) l) _ (token k.End e ∷ []) [] (ap (all (s.End ∷ [])) is)

complete : {p : Phrase} {i j : List Token} → Derives p i j → Complete p i j
complete a_level = (refl, omega arith)
complete none_below = λ e. until_none _ _ _ e
complete (one_below {level = x} {i = i} {j = j} d r) = let h = complete d in λ e. until_one _ _ _ _ _ _ _ refl (then_ok (reading.level i) _ x j h.0) (omega (arith, h.1)) (complete r e)
complete no_more_names = λ e. until_none _ _ _ e
complete (one_more_name r) = λ e. until_one _ _ _ _ _ _ _ refl refl (omega arith) (complete r e)
complete (a_node {depth = zero} {q = q} {t = t} {v = v} {name = name} {capacity = capacity} {nodes = nodes} {later = later} {i = i} {j = j} d) = λ e. record {
  root = node_text 0 (word q name) (numeral t capacity);
  others = nodes;
  behind = i;
  is = refl;
  read = refl;
  inside = closing_inside (subst (λ later. Derives (SomeNodes 1 nodes later) i (token (k.Sign g.BraceClose) v ∷ j)) e d);
}
complete (a_node {depth = suc outer} d) = tt
complete no_nodes = tt
complete (one_more_node d e) = tt
complete (of_levels {p = p} {q = q} {r = r} {root = root} {below = below} {i = i} {j = j} {l = l} d more) = λ e is.
    machine_ok p (Levels (levels_text root below)) (token (k.Number (pos 1)) q ∷ token (k.Sign g.Semi) r ∷ i) l
    (then_ok (reading.levels (token (k.Number (pos 1)) q ∷ token (k.Sign g.Semi) r ∷ i)) _ (levels_text root below) l (levels_ok q r root below i j l (complete d).0 (complete more) e is)) e is
complete (of_nodes {p = p} {q = q} {r = r} {s = s1} {t = t} {u = u} {name = name} {names = names} {nodes = nodes} {i = i} {j = j} {l = l} d root) = λ e is.
    let tokens = token (k.Number (pos 2)) q ∷ token (k.Sign g.Semi) r ∷ token (k.Word (codes "levels")) s1 ∷ token (k.Word name) t ∷ i in
    machine_ok p (Nodes (nodes_text (word t name ∷ names) nodes)) tokens l
    (then_ok (reading.nodes tokens) _ (nodes_text (word t name ∷ names) nodes) l (nodes_ok q r s1 t u name names nodes i j l (complete d refl) (complete root refl))) e is

-- a text of a machine is read as that machine
pub machine_read : (tokens : List Token) (x : MachineText) → IsText tokens x → reading.machine tokens ≡ Ok (x, [])
machine_read tokens x h = complete h.text h.end refl
