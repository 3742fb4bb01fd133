-- The reader gives exactly what the grammar derives, and the machine goes on after it as it does.
use Rattle.std.proofs.Common.{◌≡◌, ℕ, zero, suc, ◌≤◌, List, [], ◌∷◌, ◌++◌, length, refl, sym, ◌∙◌, ap, subst, arith, append_assoc, append-nil, codes}
use Rattle.std.specs.List.{slice_get}
use Rattle.sq_text.specs.declared.place.Place.{Place}
use Rattle.sq_text.specs.declared.word.Word.{Word}
use Rattle.sq_lexer.specs.declared.token.Token.{Token}
use Rattle.sq_lexer.specs.declared.token.Kind.TheVariants as k
use Rattle.sq_lexer.specs.declared.token.Sign.TheVariants as g
use Rattle.sq_lexer.specs.Tokens.{token}
use Rattle.sq_patterns.specs.declared.pattern.Pattern.TheVariants as s
use Rattle.sq_patterns.specs.Reading.{Reader, and_then, all, until, word_in, numeral_in}
use Rattle.sq_patterns.proofs.Owing.{Owed, Want, At, wants}
use Rattle.sq_patterns.proofs.Matching.{Front, none, next, machine, level, levels, node, capacity, children, a_word, a_number, exactly, a_sign}
use Rattle.sq_patterns.proofs.Readings.{Reading, given, gives_more, phrase, weaken, all_reads, patterns_read, choice_reads, until_reads, IsLast, last_front, finish_reads}
use Rattle.sq_machfile.specs.declared.text.LevelText.{LevelText}
use Rattle.sq_machfile.specs.declared.text.Below.{Below}
use Rattle.sq_machfile.specs.declared.text.NodeText.{NodeText}
use Rattle.sq_machfile.specs.declared.text.MachineText.{MachineText}
use Rattle.sq_machfile.specs.declared.text.MachineText.TheVariants.{Levels, Nodes}
use Rattle.sq_machfile.specs.Grammar.{level_text, below_text, levels_text, node_text, nodes_text, Derives, IsText}
use Rattle.sq_machfile.specs.Grammar as grammar
use Rattle.sq_machfile.specs.Reading.{one_patterns, level_patterns, children_patterns, two_patterns, name_patterns, node_patterns}
use Rattle.sq_machfile.specs.Reading as reading
use Rattle.sq_machfile.proofs.Points.{Point, Version, LevelsBelow, MoreNames, Inside, ways, start}
use Rattle.sq_machfile.proofs.Closings.{Closing, closed, closes, opens, inside}

-- ---- a level

level_front : {i ts j : List Token} → Front level_patterns i ts j → Derives (grammar.ALevel (level_text (word_in (slice_get ts 1)) (numeral_in (slice_get ts 4)))) i j
level_front (next level (next a_word (next (a_sign _) (next capacity (next a_number (next (a_sign _) (next (a_sign _) none))))))) = grammar.a_level

level_reads : (n : ℕ) (i : List Token) (K : List (Owed Point)) → length i ≤ suc n → Reading ways n (wants level_patterns K) K (λ x j. Derives (grammar.ALevel x) i j) i (reading.level i)
level_reads n i K le = phrase (all level_patterns i) _ (patterns_read level_patterns n i K refl (omega arith))
    (λ ts j few front. given (level_text (word_in (slice_get ts 1)) (numeral_in (slice_get ts 4))) j few (level_front front))

-- ---- the levels below

below_front : {i ts j l m : List Token} {x : LevelText} {rest : List Below} → Front children_patterns i ts j → Derives (grammar.ALevel x) j l → Derives (grammar.LevelsBelow rest) l m
    → Derives (grammar.LevelsBelow (below_text (numeral_in (slice_get ts 1)) x ∷ rest)) i m
below_front (next children (next a_number (next (a_sign _) none))) d more = grammar.one_below d more

abbrev AreBelow : List Below → List Token → List Token → Type 0
AreBelow xs i j = Derives (grammar.LevelsBelow xs) i j

below_reads : (n : ℕ) (i : List Token) (K : List (Owed Point)) → length i ≤ suc n
    → Reading ways n (wants children_patterns (wants level_patterns K)) K (λ x j. (rest : List Below) (l : List Token) → AreBelow rest j l → AreBelow (x ∷ rest) i l) i (reading.below i)
below_reads n i K le = phrase (all children_patterns i) _ (patterns_read children_patterns n i (wants level_patterns K) refl (omega arith))
    (λ ts j few front. phrase (reading.level j) _ (level_reads n j K (omega arith))
    (λ x l few2 d. given (below_text (numeral_in (slice_get ts 1)) x) l few2 (λ rest m more. below_front front d more)))

levels_below_read : (n : ℕ) (i : List Token) → length i ≤ n
    → Reading ways n (At LevelsBelow ∷ []) (Want s.End ∷ []) (λ xs j. Derives (grammar.LevelsBelow xs) i j) i (reading.levels_below i)
unfolding reading.levels_below
levels_below_read n i le = weaken (length i) (until s.End reading.below (length i) [] i) le
    (gives_more (until s.End reading.below (length i) [] i) (λ every j added. subst (λ every. Derives (grammar.LevelsBelow every) i j) (sym added.1) added.2)
    (until_reads AreBelow (λ i. grammar.none_below) s.End reading.below (At LevelsBelow ∷ []) (Want s.End ∷ []) (wants children_patterns (wants level_patterns (At LevelsBelow ∷ [])))
    (λ t. refl) refl refl (λ n i le. below_reads n i (At LevelsBelow ∷ []) le) (length i) [] i (omega arith)))

-- ---- names

name_front : {i ts j l : List Token} {rest : List Word} → Front name_patterns i ts j → Derives (grammar.MoreNames rest) j l → Derives (grammar.MoreNames (word_in (slice_get ts 1) ∷ rest)) i l
name_front (next (a_sign _) (next a_word none)) more = grammar.one_more_name more

abbrev AreNames : List Word → List Token → List Token → Type 0
AreNames xs i j = Derives (grammar.MoreNames xs) i j

name_reads : (n : ℕ) (i : List Token) (K : List (Owed Point)) → length i ≤ suc n
    → Reading ways n (wants name_patterns K) K (λ x j. (rest : List Word) (l : List Token) → AreNames rest j l → AreNames (x ∷ rest) i l) i (reading.name i)
name_reads n i K le = phrase (all name_patterns i) _ (patterns_read name_patterns n i K refl (omega arith))
    (λ ts j few front. given (word_in (slice_get ts 1)) j few (λ rest l more. name_front front more))

-- the first name, and those after it
abbrev NamesFrom : Word → List Word → List Token → List Token → Type 0
NamesFrom first names i j = (rest : List Word) × (names ≡ first ∷ rest) × AreNames rest i j

names_read : (n : ℕ) (i : List Token) (first : Word) (K : List (Owed Point)) → length i ≤ n
    → Reading ways n (At MoreNames ∷ K) (Want (s.Sign g.Semi) ∷ K) (λ xs j. NamesFrom first xs i j) i (reading.names_from first i)
unfolding reading.names_from
names_read n i first K le = weaken (length i) (until (s.Sign g.Semi) reading.name (length i) (first ∷ []) i) le
    (until_reads AreNames (λ i. grammar.no_more_names) (s.Sign g.Semi) reading.name (At MoreNames ∷ K) (Want (s.Sign g.Semi) ∷ K) (wants name_patterns (At MoreNames ∷ K))
    (λ t. refl) refl refl (λ n i le. name_reads n i (At MoreNames ∷ K) le) (length i) (first ∷ []) i (omega arith))

-- ---- nodes

open_front : {outer : ℕ} {i ts j l : List Token} {xs : List NodeText} → Front node_patterns i ts j → Closing (suc (suc outer)) xs j l
    → Closing (suc outer) (node_text (suc outer) (word_in (slice_get ts 1)) (numeral_in (slice_get ts 4)) ∷ xs) i l
open_front (next node (next a_word (next (a_sign _) (next capacity (next a_number (next (a_sign _) none)))))) c = opens c

close_front : {outer : ℕ} {i ts j l : List Token} {xs : List NodeText} → Front (s.Sign g.BraceClose ∷ []) i ts j → Closing outer xs j l → Closing (suc outer) xs i l
close_front (next (a_sign _) none) c = closes c

root_front : {i ts j l : List Token} {xs : List NodeText} {v : Place} → Front node_patterns i ts j → Derives (grammar.SomeNodes 1 xs []) j (token (k.Sign g.BraceClose) v ∷ l)
    → Derives (grammar.ANode 0 (node_text 0 (word_in (slice_get ts 1)) (numeral_in (slice_get ts 4)) ∷ xs) []) i l
root_front (next node (next a_word (next (a_sign _) (next capacity (next a_number (next (a_sign _) none)))))) d = grammar.a_node d

node_reads : (n depth : ℕ) (i : List Token) (K : List (Owed Point)) → length i ≤ suc n
    → Reading ways n (wants node_patterns K) K (λ x j. (ts : List Token) × (x ≡ node_text depth (word_in (slice_get ts 1)) (numeral_in (slice_get ts 4))) × Front node_patterns i ts j) i (reading.node depth i)
node_reads n depth i K le = phrase (all node_patterns i) _ (patterns_read node_patterns n i K refl (omega arith))
    (λ ts j few front. given (node_text depth (word_in (slice_get ts 1)) (numeral_in (slice_get ts 4))) j few (ts, refl, front))

-- what so many open nodes owe
abbrev insides : ℕ → List (Owed Point) → List (Owed Point)
insides zero K = K
insides (suc outer) K = At Inside ∷ insides outer K

abbrev Closes : ℕ → List NodeText → List Token → List NodeText → List Token → Type 0
Closes outer found i every j = (xs : List NodeText) × (every ≡ found ++ xs) × Closing outer xs i j

one_opened : (outer : ℕ) (found : List NodeText) (x : NodeText) (i j l ts : List Token) (every : List NodeText) → x ≡ node_text (suc outer) (word_in (slice_get ts 1)) (numeral_in (slice_get ts 4))
    → Front node_patterns i ts j → Closes (suc (suc outer)) (found ++ x ∷ []) j every l → Closes (suc outer) found i every l
one_opened outer found x i j l ts every is front (xs, sum, c) =
    (x ∷ xs, sum ∙ append_assoc found (x ∷ []) xs, subst (λ x. Closing (suc outer) (x ∷ xs) i l) (sym is) (open_front front c))

-- after a brace, and after a node
abbrev brace_then : ℕ → ℕ → List NodeText → Reader (List NodeText)
brace_then n outer found = λ i. and_then (all (s.Sign g.BraceClose ∷ []) i) (λ brace. reading.nodes_in n outer found)

abbrev node_then : ℕ → ℕ → List NodeText → Reader (List NodeText)
node_then n outer found = λ i. and_then (reading.node (suc outer) i) (λ x. reading.nodes_in n (suc (suc outer)) (found ++ x ∷ []))

nodes_in_read : (n outer : ℕ) (found : List NodeText) (i : List Token) (K : List (Owed Point)) → length i ≤ n
    → Reading ways n (insides outer (Want s.End ∷ K)) (Want s.End ∷ K) (Closes outer found i) i (reading.nodes_in n outer found i)
unfolding reading.nodes_in
nodes_in_read zero zero found i K le = given found i le ([], sym (append-nil found), closed)
nodes_in_read zero (suc outer) found [] K le = record { is = refl }
nodes_in_read zero (suc outer) found (t ∷ ts) K le = absurd (omega arith)
nodes_in_read (suc n) zero found i K le = given found i le ([], sym (append-nil found), closed)
nodes_in_read (suc n) (suc outer) found i K le =
    let below = insides outer (Want s.End ∷ K) in
    choice_reads (At Inside ∷ below) (Want (s.Sign g.BraceClose) ∷ below) (wants node_patterns (At Inside ∷ At Inside ∷ below)) (s.Sign g.BraceClose) (brace_then n outer found) (node_then n outer found) i (λ t. refl) refl
    (weaken n (brace_then n outer found i) (omega arith) (phrase (all (s.Sign g.BraceClose ∷ []) i) _ (patterns_read (s.Sign g.BraceClose ∷ []) n i below refl (omega arith))
    (λ ts j few front. gives_more (reading.nodes_in n outer found j) (λ every l h. (h.0, h.1, close_front front h.2)) (nodes_in_read n outer found j K few))))
    (weaken n (node_then n outer found i) (omega arith) (phrase (reading.node (suc outer) i) _ (node_reads n (suc outer) i (At Inside ∷ At Inside ∷ below) (omega arith))
    (λ x j few h. gives_more (reading.nodes_in n (suc (suc outer)) (found ++ x ∷ []) j) (λ every l more. one_opened outer found x i j l h.0 every h.1 h.2 more)
    (nodes_in_read n (suc (suc outer)) (found ++ x ∷ []) j K few))))

-- the root, and all nodes in it
abbrev NodesOf : NodeText → List NodeText → List Token → List Token → Type 0
NodesOf root nodes i j = (xs : List NodeText) × (nodes ≡ root ∷ xs) × Closing 1 xs i j

nodes_of_read : (n : ℕ) (root : NodeText) (i : List Token) (K : List (Owed Point)) → length i ≤ n
    → Reading ways n (At Inside ∷ Want s.End ∷ K) (Want s.End ∷ K) (λ xs j. NodesOf root xs i j) i (reading.nodes_of root i)
unfolding reading.nodes_of
nodes_of_read n root i K le = weaken (length i) (reading.nodes_in (length i) 1 (root ∷ []) i) le (nodes_in_read (length i) 1 (root ∷ []) i K (omega arith))

-- ---- either version

-- behind the word `machine`
abbrev Means : MachineText → List Token → List Token → Type 0
Means x i j = (p : Place) → Derives (grammar.AMachine x) (token (k.Word (codes "machine")) p ∷ i) j

of_levels : {i ts j l m : List Token} {root : LevelText} {below : List Below} → Front one_patterns i ts j → Derives (grammar.ALevel root) j l → Derives (grammar.LevelsBelow below) l m
    → Means (Levels (levels_text root below)) i m
of_levels (next (exactly _) (next (a_sign _) none)) d more = λ p. grammar.of_levels d more

levels_read : (n : ℕ) (i : List Token) → length i ≤ suc n
    → Reading ways n (wants one_patterns (wants level_patterns (At LevelsBelow ∷ []))) (Want s.End ∷ []) (λ x j. Means (Levels x) i j) i (reading.levels i)
unfolding reading.levels
levels_read n i le = phrase (all one_patterns i) _ (patterns_read one_patterns n i (wants level_patterns (At LevelsBelow ∷ [])) refl (omega arith))
    (λ ts j few head. phrase (reading.level j) _ (level_reads n j (At LevelsBelow ∷ []) (omega arith))
    (λ x l few2 d. phrase (reading.levels_below l) _ (levels_below_read n l few2)
    (λ xs m few3 more. given (levels_text x xs) m few3 (of_levels head d more))))

semi_front : {i ts j l : List Token} {names : List Word} → AreNames names l i → Front (s.Sign g.Semi ∷ []) i ts j → (u : Place) × AreNames names l (token (k.Sign g.Semi) u ∷ j)
semi_front d (next {p = p} (a_sign _) none) = (p, d)

of_nodes : {i ts j l m : List Token} {u : Place} {rest : List Word} {nodes : List NodeText} → Front two_patterns i ts j → AreNames rest j (token (k.Sign g.Semi) u ∷ l) → Derives (grammar.ANode 0 nodes []) l m
    → Means (Nodes (nodes_text (word_in (slice_get ts 3) ∷ rest) nodes)) i m
of_nodes (next (exactly _) (next (a_sign _) (next levels (next a_word none)))) names d = λ p. grammar.of_nodes names d

all_of : (i ts j l m o rs us : List Token) (names : List Word) (root : NodeText) (nodes : List NodeText) → Front two_patterns i ts j → NamesFrom (word_in (slice_get ts 3)) names j l
    → Front (s.Sign g.Semi ∷ []) l us m → root ≡ node_text 0 (word_in (slice_get rs 1)) (numeral_in (slice_get rs 4)) → Front node_patterns m rs o → (e : List Token) → NodesOf root nodes o e
    → Means (Nodes (nodes_text names nodes)) i e
all_of i ts j l m o rs us names root nodes head (rest, named, d) semi is front e (xs, sum, c) =
    let end = inside c in
    let every : node_text 0 (word_in (slice_get rs 1)) (numeral_in (slice_get rs 4)) ∷ xs ≡ nodes = ap (λ x. x ∷ xs) (sym is) ∙ sym sum in
    let behind = semi_front d semi in
    subst (λ names. Means (Nodes (nodes_text names nodes)) i e) (sym named)
    (subst (λ nodes. Means (Nodes (nodes_text (word_in (slice_get ts 3) ∷ rest) nodes)) i e) every (of_nodes head behind.1 (root_front front end.1)))

nodes_read : (n : ℕ) (i : List Token) → length i ≤ suc n
    → Reading ways n (wants two_patterns (At MoreNames ∷ wants node_patterns (At Inside ∷ Want s.End ∷ []))) (Want s.End ∷ []) (λ x j. Means (Nodes x) i j) i (reading.nodes i)
unfolding reading.nodes
nodes_read n i le =
    let last = Want s.End ∷ [] in
    phrase (all two_patterns i) _ (patterns_read two_patterns n i (At MoreNames ∷ wants node_patterns (At Inside ∷ last)) refl (omega arith))
    (λ ts j few head. phrase (reading.names_from (word_in (slice_get ts 3)) j) _ (names_read n j (word_in (slice_get ts 3)) (wants node_patterns (At Inside ∷ last)) few)
    (λ names l few2 d. phrase (all (s.Sign g.Semi ∷ []) l) _ (patterns_read (s.Sign g.Semi ∷ []) n l (wants node_patterns (At Inside ∷ last)) refl (omega arith))
    (λ us m few3 semi. phrase (reading.node 0 m) _ (node_reads n 0 m (At Inside ∷ last) (omega arith))
    (λ root o few4 h. phrase (reading.nodes_of root o) _ (nodes_of_read n root o [] few4)
    (λ nodes e few5 more. given (nodes_text names nodes) e few5 (all_of i ts j l m o h.0 us names root nodes head d semi h.1 h.2 e more))))))

levels_machine_read : (n : ℕ) (i : List Token) → length i ≤ suc n
    → Reading ways n (wants one_patterns (wants level_patterns (At LevelsBelow ∷ []))) (Want s.End ∷ []) (λ x j. Means x i j) i (reading.levels_machine i)
levels_machine_read n i le = phrase (reading.levels i) _ (levels_read n i le) (λ x j few h. given (Levels x) j few h)

nodes_machine_read : (n : ℕ) (i : List Token) → length i ≤ suc n
    → Reading ways n (wants two_patterns (At MoreNames ∷ wants node_patterns (At Inside ∷ Want s.End ∷ []))) (Want s.End ∷ []) (λ x j. Means x i j) i (reading.nodes_machine i)
nodes_machine_read n i le = phrase (reading.nodes i) _ (nodes_read n i le) (λ x j few h. given (Nodes x) j few h)

either_reads : (n : ℕ) (i : List Token) → length i ≤ suc n → Reading ways n (At Version ∷ []) (Want s.End ∷ []) (λ x j. Means x i j) i (reading.either i)
either_reads n i le = choice_reads (At Version ∷ []) (wants one_patterns (wants level_patterns (At LevelsBelow ∷ [])))
    (wants two_patterns (At MoreNames ∷ wants node_patterns (At Inside ∷ Want s.End ∷ []))) (s.Exactly 1) reading.levels_machine reading.nodes_machine i (λ t. refl) refl
    (levels_machine_read n i le) (nodes_machine_read n i le)

-- ---- the whole

is_text : {i ts j m : List Token} {x : MachineText} → Front (s.Machine ∷ []) i ts j → Means x j m → IsLast m → IsText i x
is_text {i} {x = x} (next {p = q} machine none) d (p, is) = record { end = p; text = subst (λ j. Derives (grammar.AMachine x) i j) is (d q) }

pub machine_reads : (i : List Token) → Reading ways (length i) start [] (λ x j. IsText i x) i (reading.machine i)
unfolding reading.machine
machine_reads i = phrase (all (s.Machine ∷ []) i) _ (patterns_read (s.Machine ∷ []) (length i) i (At Version ∷ []) refl (omega arith))
    (λ ts j few head. phrase (reading.either j) _ (either_reads (length i) j (omega arith))
    (λ x m few3 d. phrase (all (s.End ∷ []) m) _ (all_reads (s.End ∷ []) (length i) m [] (refl, tt) (omega arith))
    (λ us o few4 last. finish_reads (length i) x o few4 (λ e. is_text head d (last_front last e)))))
