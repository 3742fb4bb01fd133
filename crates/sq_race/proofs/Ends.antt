-- What is left after a phrase is an end of the tokens that begin with it.
use Rattle.std.proofs.Common.{List, ◌∷◌}
use Rattle.sq_ast.specs.Grammar.{Leveled, Phrase, Derives, no_more, one_more, a_list, a_next, a_void_task, a_task, an_inner, a_leaf, a_param, an_extent, tunables, a_tunable, a_local, a_tunable_list, an_rchop, an_ichop, a_call_stmt, a_map, a_reduction, a_range, a_call, an_arg, an_index, an_assignment, an_if, no_else, an_else, an_alternative, a_for, bare, braced, an_operand, a_chain, a_link, a_unary, a_number, a_name, an_element, a_length, brackets, the_least, the_most}

-- the second tokens are an end of the first
pub data Ends : List Leveled → List Leveled → Type 0 where
  whole : {i : List Leveled} → Ends i i
  past : {t : Leveled} {i l : List Leveled} → Ends i l → Ends (t ∷ i) l

pub both : {i j l : List Leveled} → Ends i j → Ends j l → Ends i l
both whole k = k
both (past h) k = past (both h k)

pub past_two : {t u : Leveled} {i l : List Leveled} → Ends i l → Ends (t ∷ u ∷ i) l
past_two h = past (past h)

pub past_three : {t u v : Leveled} {i l : List Leveled} → Ends i l → Ends (t ∷ u ∷ v ∷ i) l
past_three h = past (past_two h)

pub past_four : {t u v w : Leveled} {i l : List Leveled} → Ends i l → Ends (t ∷ u ∷ v ∷ w ∷ i) l
past_four h = past (past_three h)

pub past_six : {t u v w x y : Leveled} {i l : List Leveled} → Ends i l → Ends (t ∷ u ∷ v ∷ w ∷ x ∷ y ∷ i) l
past_six h = past_two (past_four h)

pub ends : {P : Phrase} {i l : List Leveled} → Derives P i l → Ends i l
ends no_more = whole
ends (one_more f r t) = both (ends r) (ends t)
ends (a_list r t) = past (both (ends r) (both (ends t) (past whole)))
ends (a_next r) = past (ends r)
ends (a_void_task r) = past (ends r)
ends (a_task r) = ends r
ends (an_inner r t u) = past_four (both (ends r) (past (both (ends t) (both (ends u) (past whole)))))
ends (a_leaf r t u) = past_four (both (ends r) (past (both (ends t) (both (ends u) (past whole)))))
ends (a_param e f r t) = past_three (both (ends r) (ends t))
ends (an_extent e) = past_three whole
ends (tunables r) = past_three (both (ends r) (past whole))
ends a_tunable = past whole
ends (a_local e r t) = past_three (both (ends r) (both (ends t) (past whole)))
ends a_tunable_list = past_six whole
ends (an_rchop r t) = past (past_six (both (ends r) (both (ends t) (past_two whole))))
ends an_ichop = past_six (past_six whole)
ends (a_call_stmt r) = both (ends r) (past whole)
ends (a_map e r u) = past (both (ends r) (past (both (ends u) (past whole))))
ends (a_reduction r e t) = past (both (ends r) (past (past_six (both (ends t) (past_two whole)))))
ends (a_range r) = past (past_four (ends r))
ends (a_call r) = past (ends r)
ends (an_arg r) = past (ends r)
ends (an_index r) = past (both (ends r) (past whole))
ends (an_assignment r t e u) = past (both (ends r) (both (ends t) (past (both (ends u) (past whole)))))
ends (an_if r t u) = past_two (both (ends r) (past (both (ends t) (ends u))))
ends (no_else e) = whole
ends (an_else r) = ends r
ends (an_alternative r) = past (ends r)
ends (a_for r t u) = past (past_four (both (ends r) (past_three (both (ends t) (past_four (ends u))))))
ends (bare r) = ends r
ends (braced r) = past (both (ends r) (past whole))
ends (an_operand r) = ends r
ends (a_chain r t) = both (ends r) (ends t)
ends (a_link e r) = past (ends r)
ends (a_unary e r) = past (ends r)
ends a_number = past whole
ends a_name = past whole
ends (an_element r) = past (ends r)
ends a_length = past_four whole
ends (brackets r) = past (both (ends r) (past whole))
ends (the_least r t) = past_two (both (ends r) (past (both (ends t) (past whole))))
ends (the_most r t) = past_two (both (ends r) (past (both (ends t) (past whole))))
