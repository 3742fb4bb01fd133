-- Where the readers of lines and of what stands before the end of a file stop.
use Rattle.std.proofs.Common.{◌≡◌, ℕ, pos, true, List, [], ◌∷◌, ◌++◌, Ok, Err, refl, subst, codes}
use Rattle.sq_text.specs.declared.place.Place.{Place}
use Rattle.sq_lexer.specs.declared.token.Token.{Token}
use Rattle.sq_lexer.specs.declared.token.Kind.TheVariants as tk
use Rattle.sq_lexer.specs.declared.token.Sign.TheVariants as g
use Rattle.sq_ast.specs.declared.program.Mode.TheVariants.{Input}
use Rattle.sq_ast.specs.declared.program.Variant.{Variant}
use Rattle.sq_ast.specs.declared.program.VariantKind.TheVariants as kinds
use Rattle.sq_ast.specs.Symbols.{keyword_of}
use Rattle.sq_ast.specs.Grammar as ast
use Rattle.sq_plantext.specs.declared.text.NodeLine.{NodeLine}
use Rattle.sq_plantext.specs.declared.text.BufferLine.{BufferLine}
use Rattle.sq_plantext.specs.declared.text.LeafText.{LeafText}
use Rattle.sq_plantext.specs.declared.text.ArrayLine.{ArrayLine}
use Rattle.sq_plantext.specs.declared.text.PlanText.{PlanText}
use Rattle.sq_plantext.specs.Grammar as grammar
use Rattle.sq_plantext.specs.Grammar.{Leveled, at, word, number, sign, symbols, unleveled, Phrase, Derives, mode_of, plan_text}
use Rattle.sq_planread.specs.Reading as reading
use Rattle.sq_planread.specs.Reading.{Outcome, Reader, and_then, ◌>>=◌, ◌>>◌, pure, place, nowhere, sees_word, sees_sign, expect_word, expect_sign, expect_some, any_word, natural, opening, many_after, separated, after_comma, after_word}
use Rattle.sq_planread.proofs.Found.{worded}
use Rattle.sq_planread.proofs.Points.{Ended, Rel, Both, both, Nothing, nothing, Star, no_more, one_more, Fixed, fixed, OfTable, of_table, Given, given_both, given_nothing, given_fixed, Stops, stops_as, stops_for, stops_pure, then_, skips, stops_sign, stops_word, stops_table, stops_open, stops_many, behind_word, stops_separated, stops_placed}
use Rattle.sq_planread.proofs.PointsOf.{Phr, ANumber, a_num, AWord, a_word, given_number, given_word, stops_natural, stops_name, stops_one, AnElem, given_elem, stops_elem, given_list, stops_list, stops_value, given_term, stops_term}

-- a line, whatever lines come after it
abbrev Line : {V : Type 0} → (List V → Phrase) → Rel
Line {V} P = λ I K. (v : V) × ((vs : List V) (J : List Leveled) → Derives (P vs) K J → Derives (P (v ∷ vs)) I J)

lines_of : {V : Type 0} (P : List V → Phrase) → ((J : List Leveled) → Derives (P []) J J) → (I J : List Leveled) → Star (Line P) I J → Phr P I J
lines_of P none I J no_more = ([], none J)
lines_of P none I J (one_more x s) = let h = lines_of P none _ J s in (x.0 ∷ h.0, x.1 h.0 J h.1)

given_lines : {V : Type 0} (P : List V → Phrase) → ((J : List Leveled) → Derives (P []) J J) → Given (Phr P)
given_lines P none = record { front = []; part = λ J. ([], none J) }

-- lines that begin with a word
module _ {V : Type 0} {m : ℕ} {R : Rel} (P : List V → Phrase) (none : (J : List Leveled) → Derives (P []) J J) (w : List ℕ) (line : Place → Reader V)
    (whole : (I J : List Leveled) → Both (Fixed (tk.Word w) 0) R I J → Line P I J) (h : (p : Place) (i : List Token) → Ended i → Stops m R (λ (u : Unit {0}). line p) i) where
  one_line : (i : List Token) → Ended i → sees_word w i ≡ true → Stops 1 (Line P) (λ (u : Unit {0}). after_word line) i
  one_line [] last e = absurd last
  one_line (t ∷ ts) last e = let k = worded w t.kind e in stops_as whole (skips (λ u. line t.place) (tk.Word w) 0 t ts k (λ x u. refl) (h t.place ts (behind_word w t ts last k)))

  stops_lines : {X : Type 0} (i : List Token) → Ended i → Stops 0 (Phr P) (λ (x : X). many_after (sees_word w) (after_word line) []) i
  stops_lines i last = stops_as (lines_of P none) (stops_many (sees_word w) (λ t u v. refl) (after_word line) one_line (λ x. []) i last)

-- ---- nodes and buffers

abbrev Semi : Rel
Semi = Both (Fixed (tk.Sign g.Semi) 0) Nothing

given_semi : Given Semi
given_semi = given_both (given_fixed (tk.Sign g.Semi) 0) given_nothing

abbrev Numbered : Rel → Rel
Numbered R = Both (ANumber 0) R

given_numbered : {R : Rel} → Given R → Given (Numbered R)
given_numbered h = given_both (given_number 0) h

abbrev Worded : Rel → Rel
Worded R = Both (AWord 0) R

given_worded : {R : Rel} → Given R → Given (Worded R)
given_worded h = given_both (given_word 0) h

node_of : (I J : List Leveled) → Both (Fixed (tk.Word (codes "node")) 0) (Numbered (Numbered (Numbered (Numbered Semi)))) I J → Line grammar.Nodes I J
node_of I J (both fixed (both a_num (both a_num (both a_num (both a_num (both fixed nothing)))))) = (_, λ vs J h. grammar.one_more_node h)

stops_node : (p : Place) (i : List Token) → Ended i → Stops 1 (Numbered (Numbered (Numbered (Numbered Semi)))) (λ (u : Unit {0}). reading.node) i
unfolding reading.node
stops_node p i last = then_ _ i (given_numbered (given_numbered (given_numbered given_semi))) (stops_natural 0 i last)
    (λ j last. then_ _ j (given_numbered (given_numbered given_semi)) (stops_natural 0 j last)
    (λ l last. then_ _ l (given_numbered given_semi) (stops_natural 0 l last)
    (λ m last. then_ _ m given_semi (stops_natural 0 m last)
    (λ o last. then_ _ o given_nothing (stops_sign g.Semi 0 o last) (λ q last. stops_pure _ q last)))))

stops_nodes : {X : Type 0} (i : List Token) → Ended i → Stops 0 (Phr grammar.Nodes) (λ (x : X). reading.nodes) i
unfolding reading.nodes
stops_nodes i last = stops_lines grammar.Nodes (λ J. grammar.no_nodes) (codes "node") (λ p. reading.node) node_of stops_node i last

buffer_of : (I J : List Leveled) → Both (Fixed (tk.Word (codes "buffer")) 0) (Numbered (Numbered (Numbered (Worded (Worded Semi))))) I J → Line grammar.Buffers I J
buffer_of I J (both fixed (both a_num (both a_num (both a_num (both a_word (both a_word (both fixed nothing))))))) = (_, λ vs J h. grammar.one_more_buffer h)

stops_buffer : (p : Place) (i : List Token) → Ended i → Stops 1 (Numbered (Numbered (Numbered (Worded (Worded Semi))))) (λ (u : Unit {0}). reading.buffer p) i
unfolding reading.buffer
stops_buffer p i last = then_ _ i (given_numbered (given_numbered (given_worded (given_worded given_semi)))) (stops_natural 0 i last)
    (λ j last. then_ _ j (given_numbered (given_worded (given_worded given_semi))) (stops_natural 0 j last)
    (λ l last. then_ _ l (given_worded (given_worded given_semi)) (stops_natural 0 l last)
    (λ m last. then_ _ m (given_worded given_semi) (stops_name 0 m last)
    (λ o last. then_ _ o given_semi (stops_name 0 o last)
    (λ q last. then_ _ q given_nothing (stops_sign g.Semi 0 q last) (λ r last. stops_pure _ r last))))))

stops_buffers : {X : Type 0} (i : List Token) → Ended i → Stops 0 (Phr grammar.Buffers) (λ (x : X). reading.buffers) i
unfolding reading.buffers
stops_buffers i last = stops_lines grammar.Buffers (λ J. grammar.no_buffers) (codes "buffer") reading.buffer buffer_of stops_buffer i last

-- ---- arrays

abbrev Arrayed : Rel
Arrayed = Both (OfTable mode_of 0) (Both (AnElem 0) (Both (Both (AWord 0) Nothing) (Both (Phr (grammar.AList 0)) (Numbered Semi))))

array_of : (I J : List Leveled) → Both (Fixed (tk.Word (codes "array")) 0) Arrayed I J → Line grammar.Arrays I J
array_of I J (both fixed (both (of_table m) (both (of_table e) (both (both a_word nothing) (both x (both a_num (both fixed nothing))))))) = (_, λ vs J h. grammar.one_more_array m e x.1 h)

given_extents : Given (Both (Phr (grammar.AList 0)) (Numbered Semi))
given_extents = given_both (given_list 0) (given_numbered given_semi)

given_named : Given (Both (Both (AWord 0) Nothing) (Both (Phr (grammar.AList 0)) (Numbered Semi)))
given_named = given_both (given_both (given_word 0) given_nothing) given_extents

stops_array_name : {X : Type 0} (i : List Token) → Ended i → Stops 1 (Both (AWord 0) Nothing) (λ (x : X). reading.array_name) i
stops_array_name {X = X} i last = stops_placed (λ p i. and_then (any_word i) (λ name j. Ok (grammar.name_at p name, j))) (then_ _ i given_nothing (stops_name 0 i last) (λ j last. stops_pure _ j last))

stops_array : (n : ℕ) (p : Place) (i : List Token) → Ended i → Stops 1 Arrayed (λ (u : Unit {0}). reading.array n) i
unfolding reading.array keyword_of
stops_array n p i last = then_ _ i (given_both (given_elem 0) given_named) (stops_table mode_of 0 (tk.Word (codes "in")) Input refl refl i last)
    (λ j last. then_ _ j given_named (stops_elem 0 j last)
    (λ l last. then_ _ l given_extents (stops_array_name l last)
    (λ m last. then_ _ m (given_numbered given_semi) (stops_list n 0 m last)
    (λ o last. then_ _ o given_semi (stops_natural 0 o last)
    (λ q last. then_ _ q given_nothing (stops_sign g.Semi 0 q last) (λ r last. stops_pure _ r last))))))

stops_arrays : {X : Type 0} (n : ℕ) (i : List Token) → Ended i → Stops 0 (Phr grammar.Arrays) (λ (x : X). reading.arrays n) i
unfolding reading.arrays
stops_arrays n i last = stops_lines grammar.Arrays (λ J. grammar.no_arrays) (codes "array") (λ p. reading.array n) array_of (stops_array n) i last

-- ---- leaves

binding_of : (I J : List Leveled) → Both (AWord 1) (Both (Fixed (tk.Sign g.Set) 1) (Both (Phr (grammar.AValue 1)) Nothing)) I J → Phr grammar.ABinding I J
binding_of I J (both a_word (both fixed (both v nothing))) = (_, grammar.a_binding v.1)

given_bound : Given (Both (Phr (grammar.AValue 1)) Nothing)
given_bound = given_both (record { front = number 0 nowhere 1 ∷ []; part = λ J. (_, grammar.a_number) }) given_nothing

stops_binding : (i : List Token) → Ended i → Stops 1 (Phr grammar.ABinding) (λ (u : Unit {0}). reading.one_binding) i
unfolding reading.one_binding
stops_binding i last = stops_as binding_of (then_ _ i (given_both (given_fixed (tk.Sign g.Set) 1) given_bound) (stops_name 1 i last)
    (λ j last. then_ _ j given_bound (stops_sign g.Set 1 j last)
    (λ l last. then_ _ l given_nothing (stops_value 1 l last) (λ m last. stops_pure _ m last))))

more_bindings_of : (I J : List Leveled) → Star (Both (Fixed (tk.Sign g.Comma) 1) (Phr grammar.ABinding)) I J → Phr grammar.MoreBindings I J
more_bindings_of I J no_more = ([], grammar.no_more_bindings)
more_bindings_of I J (one_more (both fixed v) s) = let h = more_bindings_of _ J s in (_, grammar.one_more_binding v.1 h.1)

bindings_of : (I J : List Leveled) → Both (Phr grammar.ABinding) (Star (Both (Fixed (tk.Sign g.Comma) 1) (Phr grammar.ABinding))) I J → Phr grammar.SomeBindings I J
bindings_of I J (both v s) = let h = more_bindings_of _ J s in (_, grammar.some_bindings v.1 h.1)

no_bindings_of : (J : List Leveled) → Phr grammar.SomeBindings J J
no_bindings_of J = ([], grammar.no_bindings)

-- a leaf's task
pub record ATask (I J : List Leveled) : Type 0 where
  pub task : List Leveled
  pub variant : Variant
  pub tokens : I ≡ task ++ J
  pub derives : ast.Derives (ast.One ast.Task grammar.round_tasks variant) (symbols task ++ unleveled J) (unleveled J)
  pub leaf : variant.kind ≡ kinds.Leaf

abbrev Leaved : Rel
Leaved = Worded (Both (Fixed (tk.Sign g.ParenOpen) 1) (Both (Phr grammar.SomeBindings) (Both (Fixed (tk.Sign g.ParenClose) 0) (Both ATask Nothing))))

leaf_of : (I J : List Leveled) → Both (Fixed (tk.Word (codes "leaf")) 0) Leaved I J → Line grammar.Leaves I J
leaf_of I J (both fixed (both a_word (both (fixed {J = inside}) (both bs (both (fixed {p = p} {J = code}) (both t nothing)))))) =
    (_, λ vs L h. grammar.one_more_leaf t.task (subst (λ c. Derives (grammar.SomeBindings bs.0) inside (sign g.ParenClose p 0 ∷ c)) t.tokens bs.1) t.derives t.leaf h)

module _ (n levels : ℕ) (given_task : Given ATask) (stops_task : (i : List Token) → Ended i → Stops 0 ATask (λ (u : Unit {0}). reading.task levels) i) where
  given_code : Given (Both (Fixed (tk.Sign g.ParenClose) 0) (Both ATask Nothing))
  given_code = given_both (given_fixed (tk.Sign g.ParenClose) 0) (given_both given_task given_nothing)

  given_bindings : Given (Both (Phr grammar.SomeBindings) (Both (Fixed (tk.Sign g.ParenClose) 0) (Both ATask Nothing)))
  given_bindings = given_both (record { front = []; part = no_bindings_of }) given_code

  stops_leaf : (p : Place) (i : List Token) → Ended i → Stops 1 Leaved (λ (u : Unit {0}). reading.leaf n levels p) i
  unfolding reading.leaf
  stops_leaf p i last = then_ _ i (given_both (given_fixed (tk.Sign g.ParenOpen) 1) given_bindings) (stops_name 0 i last)
      (λ j last. stops_open g.ParenOpen 0 given_bindings n _ j last
      (λ m e l last. then_ _ l given_code (stops_separated (Phr grammar.SomeBindings) 1 g.ParenClose reading.one_binding no_bindings_of bindings_of stops_binding l last)
      (λ o last. then_ _ o (given_both given_task given_nothing) (stops_sign g.ParenClose 0 o last)
      (λ q last. then_ _ q given_nothing (stops_for (λ x. tt) (stops_task q last)) (λ r last. stops_pure _ r last)))))

  stops_leaves : {X : Type 0} (i : List Token) → Ended i → Stops 0 (Phr grammar.Leaves) (λ (x : X). reading.leaves n levels) i
  unfolding reading.leaves
  stops_leaves i last = stops_lines grammar.Leaves (λ J. grammar.no_leaves) (codes "leaf") (reading.leaf n levels) leaf_of stops_leaf i last

  -- ---- what stands before the end

  abbrev Headed : Rel
  Headed = Both (Fixed (tk.Word (codes "plan")) 0) (Both (Fixed (tk.Number (pos 1)) 0) (Fixed (tk.Sign g.Semi) 0))

  stops_head : {X : Type 0} (i : List Token) → Ended i → Stops 1 Headed (λ (x : X). reading.head) i
  unfolding reading.head
  stops_head i last = then_ _ i (given_both (given_fixed (tk.Number (pos 1)) 0) (given_fixed (tk.Sign g.Semi) 0)) (stops_word (codes "plan") 0 i last)
      (λ j last. then_ _ j (given_fixed (tk.Sign g.Semi) 0) (stops_one 0 j last) (λ l last. stops_sign g.Semi 0 l last))

  abbrev Bodied : Rel
  Bodied = Both (Phr grammar.Nodes) (Both (Phr grammar.Buffers) (Both (Phr grammar.Leaves) (Both (Phr grammar.Arrays) (Both (Phr (grammar.ATerm 0)) Nothing))))

  plan_of : (I J : List Leveled) → Both Headed Bodied I J → Phr grammar.APlan I J
  plan_of I J (both (both fixed (both fixed fixed)) (both a (both b (both c (both d (both x nothing)))))) = (_, grammar.a_plan a.1 b.1 c.1 d.1 x.1)

  given_last : Given (Both (Phr (grammar.ATerm 0)) Nothing)
  given_last = given_both (given_term 0) given_nothing

  given_after_leaves : Given (Both (Phr grammar.Arrays) (Both (Phr (grammar.ATerm 0)) Nothing))
  given_after_leaves = given_both (given_lines grammar.Arrays (λ J. grammar.no_arrays)) given_last

  given_after_buffers : Given (Both (Phr grammar.Leaves) (Both (Phr grammar.Arrays) (Both (Phr (grammar.ATerm 0)) Nothing)))
  given_after_buffers = given_both (given_lines grammar.Leaves (λ J. grammar.no_leaves)) given_after_leaves

  given_after_nodes : Given (Both (Phr grammar.Buffers) (Both (Phr grammar.Leaves) (Both (Phr grammar.Arrays) (Both (Phr (grammar.ATerm 0)) Nothing))))
  given_after_nodes = given_both (given_lines grammar.Buffers (λ J. grammar.no_buffers)) given_after_buffers

  -- all of a file but its end
  pub unended : Reader PlanText
  unended = do
    reading.head
    ns ← reading.nodes
    bs ← reading.buffers
    ls ← reading.leaves n levels
    xs ← reading.arrays n
    x ← reading.term n
    pure (plan_text ns bs ls xs x)

  pub stops_plan : (i : List Token) → Ended i → Stops 1 (Phr grammar.APlan) (λ (u : Unit {0}). unended) i
  unfolding unended
  stops_plan i last = stops_as plan_of (then_ _ i (given_both (given_lines grammar.Nodes (λ J. grammar.no_nodes)) given_after_nodes) (stops_head i last)
      (λ j last. then_ _ j given_after_nodes (stops_nodes j last)
      (λ l last. then_ _ l given_after_buffers (stops_buffers l last)
      (λ m last. then_ _ m given_after_leaves (stops_leaves m last)
      (λ o last. then_ _ o given_last (stops_arrays n o last)
      (λ q last. then_ _ q given_nothing (stops_term n 0 q last) (λ r last. stops_pure _ r last)))))))

  -- ---- with the end

  abbrev then_end : Outcome PlanText → Outcome PlanText
  then_end r = and_then r (λ x j. and_then (reading.finish j) (λ u j. Ok (x, j)))

  from_term : (ns : List NodeLine) (bs : List BufferLine) (ls : List LeafText) (xs : List ArrayLine) (r : Outcome _)
      → and_then r (λ x j. and_then (reading.finish j) (λ u j. Ok (plan_text ns bs ls xs x, j))) ≡ then_end (and_then r (λ x j. Ok (plan_text ns bs ls xs x, j)))
  from_term ns bs ls xs (Ok p) = refl
  from_term ns bs ls xs (Err e) = refl

  from_arrays : (ns : List NodeLine) (bs : List BufferLine) (ls : List LeafText) (r : Outcome (List ArrayLine))
      → and_then r (λ xs j. and_then (reading.term n j) (λ x j. and_then (reading.finish j) (λ u j. Ok (plan_text ns bs ls xs x, j))))
      ≡ then_end (and_then r (λ xs j. and_then (reading.term n j) (λ x j. Ok (plan_text ns bs ls xs x, j))))
  from_arrays ns bs ls (Ok p) = from_term ns bs ls p.0 (reading.term n p.1)
  from_arrays ns bs ls (Err e) = refl

  from_leaves : (ns : List NodeLine) (bs : List BufferLine) (r : Outcome (List LeafText))
      → and_then r (λ ls j. and_then (reading.arrays n j) (λ xs j. and_then (reading.term n j) (λ x j. and_then (reading.finish j) (λ u j. Ok (plan_text ns bs ls xs x, j)))))
      ≡ then_end (and_then r (λ ls j. and_then (reading.arrays n j) (λ xs j. and_then (reading.term n j) (λ x j. Ok (plan_text ns bs ls xs x, j)))))
  from_leaves ns bs (Ok p) = from_arrays ns bs p.0 (reading.arrays n p.1)
  from_leaves ns bs (Err e) = refl

  from_buffers : (ns : List NodeLine) (r : Outcome (List BufferLine))
      → and_then r (λ bs j. and_then (reading.leaves n levels j) (λ ls j. and_then (reading.arrays n j) (λ xs j. and_then (reading.term n j) (λ x j. and_then (reading.finish j) (λ u j. Ok (plan_text ns bs ls xs x, j))))))
      ≡ then_end (and_then r (λ bs j. and_then (reading.leaves n levels j) (λ ls j. and_then (reading.arrays n j) (λ xs j. and_then (reading.term n j) (λ x j. Ok (plan_text ns bs ls xs x, j))))))
  from_buffers ns (Ok p) = from_leaves ns p.0 (reading.leaves n levels p.1)
  from_buffers ns (Err e) = refl

  from_nodes : (r : Outcome (List NodeLine))
      → and_then r (λ ns j. and_then (reading.buffers j) (λ bs j. and_then (reading.leaves n levels j) (λ ls j. and_then (reading.arrays n j) (λ xs j. and_then (reading.term n j)
      (λ x j. and_then (reading.finish j) (λ u j. Ok (plan_text ns bs ls xs x, j)))))))
      ≡ then_end (and_then r (λ ns j. and_then (reading.buffers j) (λ bs j. and_then (reading.leaves n levels j) (λ ls j. and_then (reading.arrays n j) (λ xs j. and_then (reading.term n j)
      (λ x j. Ok (plan_text ns bs ls xs x, j)))))))
  from_nodes (Ok p) = from_buffers p.0 (reading.buffers p.1)
  from_nodes (Err e) = refl

  from_head : (r : Outcome (Unit {0}))
      → and_then r (λ u j. and_then (reading.nodes j) (λ ns j. and_then (reading.buffers j) (λ bs j. and_then (reading.leaves n levels j) (λ ls j. and_then (reading.arrays n j) (λ xs j. and_then (reading.term n j)
      (λ x j. and_then (reading.finish j) (λ u j. Ok (plan_text ns bs ls xs x, j))))))))
      ≡ then_end (and_then r (λ u j. and_then (reading.nodes j) (λ ns j. and_then (reading.buffers j) (λ bs j. and_then (reading.leaves n levels j) (λ ls j. and_then (reading.arrays n j) (λ xs j. and_then (reading.term n j)
      (λ x j. Ok (plan_text ns bs ls xs x, j))))))))
  from_head (Ok p) = from_nodes (reading.nodes p.1)
  from_head (Err e) = refl

  pub plan_is : (i : List Token) → reading.plan n levels i ≡ then_end (unended i)
  unfolding reading.plan unended reading.head
  plan_is i = from_head (reading.head i)
