-- The levels of a derivation are those that the machine counts.
use Rattle.std.proofs.Common.{◌≡◌, ◌≢◌, ℕ, zero, suc, Bool, true, false, if◌then◌else◌, List, [], ◌∷◌, Some, refl, sym, ◌∙◌, ap, arith}
use Rattle.sq_lexer.specs.declared.token.Sign.TheVariants as g
use Rattle.sq_ast.specs.declared.keyword.Keyword.TheVariants as k
use Rattle.sq_ast.specs.declared.class.Class.{Class}
use Rattle.sq_ast.specs.declared.class.Class.TheVariants as c
use Rattle.sq_ast.specs.declared.expr.UnOp.{UnOp}
use Rattle.sq_ast.specs.declared.stmt.MapKind.{MapKind}
use Rattle.sq_ast.specs.declared.program.Program.{Program}
use Rattle.sq_ast.specs.Symbols.{Symbol, Word, Key, Mark, class_at}
use Rattle.sq_ast.specs.Grammar as grammar
use Rattle.sq_ast.specs.Grammar.{if_some, map_of, prefix, class, Item, Operand, Chain, Link, Index, Listed, Next, Extent, Param, Tunable, Decl, Task, Named, Arg, Call, Range, Stmt, LeafStmt, LeafBody, Alternative, Count, Any, AtMost, fewer, Leveled, at, kinds, Phrase, Otherwise, Derives, no_more, one_more, a_list, a_next, a_void_task, a_task, an_inner, a_leaf, a_param, an_extent, tunables, a_tunable, a_local, a_tunable_list, an_rchop, an_ichop, a_call_stmt, a_map, a_reduction, a_range, a_call, an_arg, an_index, an_assignment, an_if, no_else, an_else, an_alternative, a_for, bare, braced, an_operand, a_chain, a_link, a_unary, a_number, a_name, an_element, a_length, brackets, the_least, the_most, IsText}
use Rattle.sq_reader.specs.Reading.{some, same, is_bracket, begins_leaf_stmt}
use Rattle.sq_reader.proofs.Machine.{This, AWord, AMode, AnElem, ARedOp, AnAssign, AnExtent, Owed, Token, One, Many, After, AfterTunable, Eat, Stop, owe, begins, leaf_stmt_rest, primary_step, moved, settle, labeled, label, start}
use Rattle.sq_reader.proofs.Steps.{same_class}
use Rattle.sq_reader.proofs.Readings.{Plain, token_label, skips_label, first_move}
use Rattle.sq_reader.proofs.Items.{one_label}
use Rattle.sq_reader.proofs.Rests.{Repeats, starts, begun, Follows, continues, opens_with, no_decl, no_leaf_decl}
use Rattle.sq_reader.proofs.Complete.{paren, semi, bracket, comma, assigns_no_bracket, leaf_no_brace}

plain_of : (x : Item) (d : ℕ) → Repeats x → Plain x d
plain_of (Link constant n) d rep = λ t. refl
plain_of (Index constant) d rep = λ t. refl
plain_of (Next x) d rep = λ t. refl
plain_of Extent d rep = λ t. refl
plain_of (Decl inner) d rep = λ t. refl
plain_of Task d rep = λ t. refl
plain_of Stmt d rep = λ t. refl
plain_of LeafStmt d rep = λ t. refl
plain_of Alternative d rep = λ t. refl
plain_of _ d rep = absurd rep

owe_one : (x : Item) (d : ℕ) (K : List Owed) → Repeats x → owe x d K ≡ One x d ∷ K
owe_one (Link constant n) d K rep = refl
owe_one (Index constant) d K rep = refl
owe_one (Next x) d K rep = refl
owe_one Extent d K rep = refl
owe_one (Decl inner) d K rep = refl
owe_one Task d K rep = refl
owe_one Stmt d K rep = refl
owe_one LeafStmt d K rep = refl
owe_one Alternative d K rep = refl
owe_one _ d K rep = absurd rep

skip_many : (x : Item) (most : Count) (d : ℕ) (ts : List Symbol) (K : List Owed) → begins x (class ts) ≡ false → label ts (Many x most d ∷ K) ≡ label ts K
skip_many x most d [] K e = refl
skip_many x most d (t ∷ ts) K e = skips_label x most d t ts K e

none_left : (x : Item) (d : ℕ) (ts : List Symbol) (K : List Owed) → label ts (Many x (AtMost zero) d ∷ K) ≡ label ts K
none_left x d [] K = refl
none_left x d (t ∷ ts) K = refl

first_of_many : (x : Item) (most left : Count) (d : ℕ) (ts : List Symbol) (K : List Owed) → Repeats x → fewer most ≡ Some left → begins x (class ts) ≡ true
    → label ts (Many x most d ∷ K) ≡ label ts (owe x d (Many x left d ∷ K))
first_of_many x most left d [] K rep f e = refl
first_of_many x most left d (t ∷ ts) K rep f e =
    ap (λ o. labeled t o (label ts)) (first_move x most left d t K (plain_of x d rep) f e) ∙ ap (label (t ∷ ts)) (sym (owe_one x d (Many x left d ∷ K) rep))

task_label : (d : ℕ) (ts : List Symbol) (K : List Owed) → class ts ≡ c.Key k.Task → label ts (One Task d ∷ K) ≡ label ts (owe Named d K)
task_label d [] K e = absurd (cc)
task_label d (Key p k.Task ∷ ts) K e = refl
task_label d (_ ∷ ts) K e = absurd (cc)

call_label : (d : ℕ) (ts : List Symbol) (K : List Owed) → class ts ≡ c.Word → label ts (One Stmt d ∷ K) ≡ label ts (owe Call d (Token d (This (c.Sign g.Semi)) ∷ K))
call_label d [] K e = absurd (cc)
call_label d (Word p w ∷ ts) K e = refl
call_label d (_ ∷ ts) K e = absurd (cc)

map_label : (d : ℕ) (t : Symbol) (kind : MapKind) (ts : List Symbol) (K : List Owed) → map_of (class_at t) ≡ Some kind
    → label (t ∷ ts) (One Stmt d ∷ K) ≡ at t d ∷ label ts (owe (Listed Range) d (Token (suc d) (This (c.Sign g.BraceOpen)) ∷ Many Stmt Any (suc d) ∷ Token d (This (c.Sign g.BraceClose)) ∷ K))
map_label d (Key p k.Mappar) kind ts K e = refl
map_label d (Key p k.Mapseq) kind ts K e = refl
map_label d _ kind ts K e = absurd (cc)

tunables_label : (inner : Bool) (d : ℕ) (ts : List Symbol) (K : List Owed) → is_bracket (class ts) ≡ false
    → label ts (After (AfterTunable inner) d ∷ K) ≡ label ts (Many (Next Tunable) Any d ∷ Token d (This (c.Sign g.Semi)) ∷ K)
tunables_label inner d [] K e = refl
tunables_label inner d (Mark p g.BracketOpen ∷ ts) K e = absurd (cc)
tunables_label inner d (Mark p g.Comma ∷ ts) K e = refl
tunables_label inner d (Mark p g.Semi ∷ ts) K e = refl
tunables_label inner d (_ ∷ ts) K e = refl

bare_label : (d : ℕ) (ts : List Symbol) (K : List Owed) → begins_leaf_stmt (class ts) ≡ true → label ts (One LeafBody d ∷ K) ≡ label ts (One LeafStmt (suc d) ∷ K)
bare_label d [] K e = refl
bare_label d (t ∷ ts) K e = ap (λ b. labeled t (moved (if b then Eat (suc d) (λ K. Many LeafStmt Any (suc d) ∷ Token d (This (c.Sign g.BraceClose)) ∷ K)
    else (if begins_leaf_stmt (class_at t) then Eat (suc d) (λ K. leaf_stmt_rest (suc d) (class_at t) K) else Stop)) K (settle K t)) (label ts)) (leaf_no_brace (class_at t) e)

unary_label : (constant : Bool) (d : ℕ) (t : Symbol) (op : UnOp) (ts : List Symbol) (K : List Owed) → prefix constant (class_at t) ≡ Some op
    → label (t ∷ ts) (One (Operand constant) d ∷ K) ≡ at t (suc d) ∷ label ts (One (Operand constant) (suc d) ∷ K)
unary_label constant d t op ts K e =
    ap (λ o. labeled t (moved (if_some o (λ op. Eat (suc d) (λ K. One (Operand constant) (suc d) ∷ K)) (primary_step constant d (class_at t))) K (settle K t)) (label ts)) e

not_same : (a b : Class) → a ≢ b → same a b ≡ false
not_same a b other = by_case (same a b) refl
  where
    by_case : (e : Bool) → same a b ≡ e → e ≡ false
    by_case true e = absurd (other (same_class a b e))
    by_case false e = refl

-- from the phrase's tokens, with this owed, the machine counts the derivation's levels, if it does so after the phrase
abbrev pub Counts : (List Owed → List Owed) → List Leveled → List Leveled → Type 0
Counts before i j = (K : List Owed) → label (kinds j) K ≡ j → label (kinds i) (before K) ≡ i

abbrev pub Labels : Phrase → List Leveled → List Leveled → Type 0
Labels (grammar.One x d v) i j = Follows x (kinds j) → Counts (owe x d) i j
Labels (grammar.Many x most d vs) i j = Repeats x → begins x (class (kinds j)) ≡ false → Follows x (kinds j) → Counts (λ K. Many x most d ∷ K) i j
Labels (Otherwise d xs) i j = Counts (λ K. Many Alternative (AtMost 1) d ∷ K) i j

front : {i j : List Leveled} (t : Leveled) → i ≡ j → t ∷ i ≡ t ∷ j
front t e = ap (λ i. t ∷ i) e

pub labels : {p : Phrase} {i j : List Leveled} → Derives p i j → Labels p i j
labels (no_more {x = x} {most = most}) = λ rep b f K e. skip_many x most _ _ K b ∙ e
labels (one_more {x = x} {most = most} {left = left} {d = d} {i = i} q r s) = λ rep b f K e. first_of_many x most left d _ K rep q (begun x i rep (starts r))
    ∙ labels r (continues s rep f) (Many x left d ∷ K) (labels s rep b f K e)
labels (a_list {x = x} {d = d} r s) = λ f K e. front _ (labels r (continues s tt (paren x _ _)) (Many (Next x) Any (suc d) ∷ Token d (This (c.Sign g.ParenClose)) ∷ K)
    (labels s tt refl (paren x _ _) (Token d (This (c.Sign g.ParenClose)) ∷ K) (front _ e)))
labels (a_next r) = λ f K e. front _ (labels r f K e)
labels (a_void_task r) = λ f K e. front _ (labels r tt K e)
labels (a_task {d = d} r) = λ f K e. task_label d _ K (starts r) ∙ labels r tt K e
labels (an_inner r s u) = λ f K e. front _ (front _ (front _ (front _ (labels r tt _ (front _ (labels s tt (no_decl true _ _ (opens_with u tt) refl) tt _ (labels u tt refl tt (Token _ _ ∷ K) (front _ e))))))))
labels (a_leaf r s u) = λ f K e. front _ (front _ (front _ (front _ (labels r tt _ (front _ (labels s tt (no_leaf_decl false _ _ (opens_with u tt) refl) tt _ (labels u tt refl tt (Token _ _ ∷ K) (front _ e))))))))
labels (a_param {d = d} {u = u} {w = w} {i = i} is q r s) = λ f K e. token_label d AMode _ (u ∷ Word w.place w.name ∷ kinds i) _ (ap some is)
    ∙ front _ (token_label d AnElem _ (Word w.place w.name ∷ kinds i) (Token d AWord ∷ One Extent d ∷ Many Extent (AtMost 2) d ∷ K) (ap some q) ∙ front _ (front _ (labels r tt _ (labels s tt f tt K e))))
labels (an_extent {d = d} {q = q} {i = i} is) = λ f K e. front _ (token_label (suc d) AnExtent _ (Mark q g.BracketClose ∷ kinds i) _ (ap some is) ∙ front _ (front _ e))
labels (tunables {inner = inner} {d = d} r) = λ f K e. front _ (front _ (front _ (tunables_label inner d _ K (continues r tt refl) ∙ labels r tt refl refl (Token _ _ ∷ K) (front _ e))))
labels a_tunable = λ f K e. front _ e
labels (a_local {d = d} {w = w} {i = i} is r s) = λ f K e. front _ (token_label d AnElem _ (Word w.place w.name ∷ kinds i) _ (ap some is) ∙ front _ (front _ (labels r tt _ (labels s tt refl tt (Token d (This (c.Sign g.Semi)) ∷ K) (front _ e)))))
labels a_tunable_list = λ f K e. front _ (front _ (front _ (front _ (front _ (front _ e)))))
labels (an_rchop r s) = λ f K e. front _ (front _ (front _ (front _ (front _ (front _ (front _ (labels r (continues s tt (paren (grammar.expr true) _ _)) _ (labels s tt refl (paren (grammar.expr true) _ _) _ (front _ (front _ e))))))))))
labels an_ichop = λ f K e. front _ (front _ (front _ (front _ (front _ (front _ (front _ (front _ (front _ (front _ (front _ (front _ e)))))))))))
labels (a_call_stmt {d = d} r) = λ f K e. call_label d _ K (starts r) ∙ labels r tt _ (front _ e)
labels (a_map {d = d} is r s) = λ f K e. map_label d _ _ _ K is ∙ front _ (labels r tt _ (front _ (labels s tt refl tt _ (front _ e))))
labels (a_reduction {d = d} {array = array} {u = u} {v = v} {y = y} {j = j} r is s) = λ f K e. front _ (labels r tt _ (front _ (front _
    (token_label (suc d) ARedOp _ (Mark u g.Comma ∷ Word array.place array.name ∷ Mark v g.ParenClose ∷ Mark y g.BraceOpen ∷ kinds j) _ (ap some is)
    ∙ front _ (front _ (front _ (front _ (front _ (labels s tt (Token (suc d) (This (c.Sign g.Semi)) ∷ Token d (This (c.Sign g.BraceClose)) ∷ K) (front _ (front _ e)))))))))))
labels (a_range r) = λ f K e. front _ (front _ (front _ (front _ (front _ (labels r f K e)))))
labels (a_call r) = λ f K e. front _ (labels r tt K e)
labels (an_arg r) = λ f K e. front _ (labels r tt f tt K e)
labels (an_index {constant = constant} r) = λ f K e. front _ (labels r (bracket (grammar.expr constant) _ _) _ (front _ e))
labels (an_assignment {d = d} r s is u) = λ f K e. front _ (labels r tt _ (labels s tt (assigns_no_bracket _ _ is) tt _ (token_label d AnAssign _ _ _ (ap some is) ∙ front _ (labels u (semi (grammar.expr false) _ _) _ (front _ e)))))
labels (an_if r s u) = λ f K e. front _ (front _ (labels r (paren (grammar.expr false) _ _) _ (front _ (labels s tt _ (labels u K e)))))
labels (no_else {d = d} h) = λ K e. skip_many Alternative (AtMost 1) d _ K (not_same _ (c.Key k.Else) h) ∙ e
labels (an_else {d = d} {i = i} r) = λ K e. first_of_many Alternative (AtMost 1) (AtMost 0) d (kinds i) K tt refl (starts r tt) ∙ labels r tt _ (none_left Alternative d _ K ∙ e)
labels (an_alternative r) = λ f K e. front _ (labels r tt K e)
labels (a_for r s u) = λ f K e. front _ (front _ (front _ (front _ (front _ (labels r (semi (grammar.expr false) _ _) _ (front _ (front _ (front _ (labels s (semi (grammar.expr false) _ _) _ (front _ (front _ (front _ (front _ (labels u tt K e))))))))))))))
labels (bare {d = d} r) = λ f K e. bare_label d _ K (starts r tt) ∙ labels r tt K e
labels (braced r) = λ f K e. front _ (labels r tt refl tt _ (front _ e))
labels (an_operand r) = λ f K e. labels r f.index K e
labels (a_chain r s) = λ f K e. labels r (continues s tt (record { ops = λ k lt. f.ops k (omega arith); index = f.index })) _
    (labels s tt (ap some (f.ops _ (omega arith))) (record { ops = λ k lt. f.ops k (omega arith); index = f.index }) K e)
labels (a_link {constant = constant} {n = n} {d = d} is r) = λ f K e. one_label (Link constant n) d _ _ K (λ t. refl) (ap some is) ∙ front _ (labels r f K e)
labels (a_unary {constant = constant} {d = d} {t = t} is r) = λ f K e. unary_label constant d t _ _ K is ∙ front _ (labels r f K e)
labels a_number = λ f K e. front _ e
labels a_name = λ f K e. front _ e
labels (an_element r) = λ f K e. front _ (labels r tt f tt K e)
labels a_length = λ f K e. front _ (front _ (front _ (front _ e)))
labels (brackets {constant = constant} r) = λ f K e. front _ (labels r (paren (grammar.expr constant) _ _) _ (front _ e))
labels (the_least r s) = λ f K e. front _ (front _ (labels r (comma (grammar.expr false) _ _) _ (front _ (labels s (paren (grammar.expr false) _ _) _ (front _ e)))))
labels (the_most r s) = λ f K e. front _ (front _ (labels r (comma (grammar.expr false) _ _) _ (front _ (labels s (paren (grammar.expr false) _ _) _ (front _ e)))))

pub text_labels : {p : Program} {ts : List Leveled} → IsText ts p → label (kinds ts) start ≡ ts
text_labels h = labels h.1 tt refl tt (Token 0 (This c.End) ∷ []) refl
