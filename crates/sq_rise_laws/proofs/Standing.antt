-- The places of maps are those of tokens, in the order of the tokens.
use Rattle.std.proofs.Common.{◌≡◌, ℕ, List, [], ◌∷◌, ◌++◌, sym, ◌∙◌, ap, subst}
use Rattle.sq_text.specs.declared.place.Place.{Place}
use Rattle.sq_ast.specs.declared.stmt.Call.{Call as CallStmt}
use Rattle.sq_ast.specs.declared.stmt.Range.{Range as RangeTree}
use Rattle.sq_ast.specs.declared.stmt.MapKind.{MapKind}
use Rattle.sq_ast.specs.declared.stmt.MapKind.TheVariants.{Reduce}
use Rattle.sq_ast.specs.declared.stmt.Stmt as stmt
use Rattle.sq_ast.specs.declared.stmt.Stmt.TheVariants as s
use Rattle.sq_ast.specs.declared.stmt.Stmt.TheOpen.{Stmt-F}
use Rattle.sq_ast.specs.declared.stmt.Stmt.TheFolds.{fold-roll-Stmt}
use Rattle.sq_ast.specs.Symbols.{place_at}
use Rattle.sq_ast.specs.Grammar.{Item, Value, Stmt, Task, Named, Count, Leveled, Phrase, One, Many, Otherwise, Derives}
use Rattle.sq_ast.specs.Grammar.{no_more, one_more, a_list, a_next, a_void_task, a_task, an_inner, a_leaf, a_param}
use Rattle.sq_ast.specs.Grammar.{an_extent, tunables, a_tunable, a_local, a_tunable_list, an_rchop, an_ichop}
use Rattle.sq_ast.specs.Grammar.{a_call_stmt}
use Rattle.sq_ast.specs.Grammar.{a_map, a_reduction, a_range, a_call, an_arg, an_index, an_assignment, an_if, no_else}
use Rattle.sq_ast.specs.Grammar.{an_else, an_alternative, a_for, bare, braced, an_operand, a_chain, a_link, a_unary}
use Rattle.sq_ast.specs.Grammar.{a_number, a_name, an_element, a_length, brackets, the_least, the_most}
use Rattle.sq_rise_laws.specs.Rising.{places_step, places_in, stmts_places, body_places, variants_places}

pub places_call : (c : CallStmt) → places_in (s.Call c) ≡ []
places_call c = ap places_in (sym (s.rolls-Call c)) ∙ fold-roll-Stmt (List Place) places_step (Stmt-F.Call c)

pub places_map : (p : Place) (k : MapKind) (rs : List RangeTree) (xs : List stmt.Stmt)
    → places_in (s.Map p k rs xs) ≡ p ∷ stmts_places xs
places_map p k rs xs = ap places_in (sym (s.rolls-Map p k rs xs))
    ∙ fold-roll-Stmt (List Place) places_step (Stmt-F.Map p k rs xs)

-- the first are some of the second, in their order, and all of those stand in front of the third, which ends the second
pub data Stand : List Place → List Place → List Place → Type 0 where
  none : {is : List Place} → Stand [] is is
  here : {p : Place} {ps is js : List Place} → Stand ps is js → Stand (p ∷ ps) (p ∷ is) js
  past : {p : Place} {ps is js : List Place} → Stand ps is js → Stand ps (p ∷ is) js

join : {ps qs is js ls : List Place} → Stand ps is js → Stand qs js ls → Stand (ps ++ qs) is ls
join none t = t
join (here r) t = here (join r t)
join (past r) t = past (join r t)

-- one token more behind them
behind : {p : Place} {ps is js : List Place} → Stand ps is (p ∷ js) → Stand ps is js
behind none = past none
behind (here r) = here (behind r)
behind (past r) = past (behind r)

fewer : {ps is js : List Place} → Stand ps is js → Stand [] is js
fewer none = none
fewer (here r) = past (fewer r)
fewer (past r) = past (fewer r)

abbrev pub places : List Leveled → List Place
places [] = []
places (t ∷ ts) = place_at t.kind ∷ places ts

-- of the maps in a phrase
abbrev pub phrase_places : Phrase → List Place
phrase_places (One Stmt d x) = places_in x
phrase_places (One Named d v) = body_places v.body
phrase_places (One Task d v) = body_places v.body
phrase_places (One _ d v) = []
phrase_places (Many Stmt count d xs) = stmts_places xs
phrase_places (Many Task count d vs) = variants_places vs
phrase_places (Many _ count d vs) = []
phrase_places (Otherwise d xs) = []

none_stand : (x : Item) (count : Count) (d : ℕ) (is : List Place) → Stand (phrase_places (Many x count d [])) is is
none_stand Stmt count d is = none
none_stand Task count d is = none
none_stand _ count d is = none

more_stand : (x : Item) (count left : Count) (d : ℕ) (v : Value x) (vs : List (Value x)) (is js ls : List Place)
    → Stand (phrase_places (One x d v)) is js → Stand (phrase_places (Many x left d vs)) js ls
    → Stand (phrase_places (Many x count d (v ∷ vs))) is ls
more_stand Stmt count left d v vs is js ls one rest = join one rest
more_stand Task count left d v vs is js ls one rest = join one rest
more_stand _ count left d v vs is js ls one rest = join (fewer one) rest

pub stands : {P : Phrase} {i l : List Leveled} → Derives P i l → Stand (phrase_places P) (places i) (places l)
stands (no_more {x = x} {most = count} {d = d} {i = i}) = none_stand x count d (places i)
stands (one_more {x = x} {most = count} {left = left} {d = d} {v = v} {vs = vs} {i = i} {j = j} {l = l} f r t) =
    more_stand x count left d v vs (places i) (places j) (places l) (stands r) (stands t)
stands (a_list r t) = past (join (fewer (stands r)) (behind (fewer (stands t))))
stands (a_next r) = past (fewer (stands r))
stands (a_void_task r) = past (stands r)
stands (a_task r) = stands r
stands (an_inner r t u) =
    past (past (past (past (join (behind (stands r)) (join (stands t) (behind (stands u)))))))
stands (a_leaf r t u) =
    past (past (past (past (join (behind (stands r)) (join (stands t) (behind (fewer (stands u))))))))
stands (a_param e f r t) = past (past (past (join (stands r) (stands t))))
stands (an_extent e) = past (past (past none))
stands (tunables r) = past (past (past (behind (stands r))))
stands a_tunable = past none
stands (a_local e r t) = past (past (past (join (stands r) (behind (stands t)))))
stands a_tunable_list = past (past (past (past (past (past none)))))
stands (an_rchop r t) =
    past (past (past (past (past (past (past (join (stands r) (behind (behind (stands t))))))))))
stands an_ichop = past (past (past (past (past (past (past (past (past (past (past (past none)))))))))))
stands (a_call_stmt {x = x} {i = i} {j = j} r) =
    subst (λ ps. Stand ps (places i) (places j)) (sym (places_call x)) (behind (stands r))
stands (a_map {t = t} {kind = kind} {rs = rs} {xs = xs} {i = i} {l = l} e r u) =
    subst (λ ps. Stand ps (place_at t ∷ places i) (places l)) (sym (places_map (place_at t) kind rs xs))
    (here (join (behind (stands r)) (behind (stands u))))
stands (a_reduction {op = op} {array = array} {rs = rs} {x = x} {p = p} {i = i} {l = l} r e u) =
    subst (λ ps. Stand ps (p ∷ places i) (places l))
    (sym (places_map p (Reduce op array) rs (s.Call x ∷ []) ∙ ap (λ qs. p ∷ (qs ++ [])) (places_call x)))
    (here (join (behind (behind (behind (behind (behind (behind (behind (stands r))))))))
    (behind (behind (stands u)))))
stands (a_range r) = past (past (past (past (past (stands r)))))
stands (a_call r) = past (stands r)
stands (an_arg r) = past (stands r)
stands (an_index r) = past (behind (stands r))
stands (an_assignment r t e u) = past (join (stands r) (join (behind (stands t)) (behind (stands u))))
stands (an_if r t u) = past (past (join (behind (stands r)) (join (stands t) (stands u))))
stands (no_else e) = none
stands (an_else r) = stands r
stands (an_alternative r) = past (stands r)
stands (a_for r t u) = past (past (past (past (past (join (behind (behind (behind (stands r))))
    (join (behind (behind (behind (behind (stands t))))) (stands u)))))))
stands (bare r) = fewer (stands r)
stands (braced r) = past (behind (fewer (stands r)))
stands (an_operand r) = stands r
stands (a_chain r t) = join (stands r) (fewer (stands t))
stands (a_link e r) = past (stands r)
stands (a_unary e r) = past (stands r)
stands a_number = past none
stands a_name = past none
stands (an_element r) = past (stands r)
stands a_length = past (past (past (past none)))
stands (brackets r) = past (behind (stands r))
stands (the_least r t) = past (past (join (behind (stands r)) (behind (stands t))))
stands (the_most r t) = past (past (join (behind (stands r)) (behind (stands t))))
