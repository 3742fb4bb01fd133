-- What the grammar derives, with no more levels than are left, the parser gives.
use Rattle.std.proofs.Common.{◌≡◌, ℕ, zero, suc, pos, ◌+◌, ◌≤◌, ◌<◌, Bool, true, false, if◌then◌else◌, List, [], ◌∷◌, ◌++◌, length, Option, Some, None, Ok, Err, refl, sym, ◌∙◌, ap, subst, append_assoc, append-nil, arith}
use Rattle.std.specs.Prelude.{◌&&◌}
use Rattle.sq_text.specs.declared.place.Place.{Place}
use Rattle.sq_lexer.specs.declared.token.Sign.TheVariants as sign
use Rattle.sq_ast.specs.declared.keyword.Keyword.TheVariants as k
use Rattle.sq_ast.specs.declared.class.Class.{Class}
use Rattle.sq_ast.specs.declared.class.Class.TheVariants as c
use Rattle.sq_text.specs.declared.word.Word as tree
use Rattle.sq_ast.specs.declared.expr.UnOp.{UnOp}
use Rattle.sq_ast.specs.declared.expr.Expr.{Expr}
use Rattle.sq_ast.specs.declared.expr.Expr.TheVariants as e
use Rattle.sq_ast.specs.declared.leaf.LeafStmt as leaf
use Rattle.sq_ast.specs.declared.leaf.LeafStmt.TheVariants as leafs
use Rattle.sq_ast.specs.declared.stmt.Stmt as stmts
use Rattle.sq_ast.specs.declared.stmt.Stmt.TheVariants as s
use Rattle.sq_ast.specs.declared.stmt.MapKind.{MapKind}
use Rattle.sq_ast.specs.declared.program.Extent as extent_type
use Rattle.sq_ast.specs.declared.program.Decl as decl_type
use Rattle.sq_ast.specs.declared.program.Decl.TheVariants as declared
use Rattle.sq_ast.specs.declared.program.Param as param_type
use Rattle.sq_ast.specs.declared.stmt.Call as call_type
use Rattle.sq_ast.specs.declared.stmt.Range as range_type
use Rattle.sq_ast.specs.declared.expr.ArgUse.{ArgUse}
use Rattle.sq_ast.specs.declared.expr.Link as link_type
use Rattle.sq_ast.specs.declared.expr.BinOp.{BinOp}
use Rattle.sq_ast.specs.declared.leaf.AssignOp.{AssignOp}
use Rattle.sq_num.specs.declared.RedOp.{RedOp}
use Rattle.sq_num.specs.declared.Elem.{Elem}
use Rattle.sq_ast.specs.declared.program.Mode.{Mode}
use Rattle.sq_ast.specs.declared.stmt.MapKind.TheVariants.{Reduce}
use Rattle.sq_ast.specs.Symbols.{Symbol, Word, Number, Key, Mark, Last, class_at, place_at}
use Rattle.sq_ast.specs.Grammar as grammar
use Rattle.sq_ast.specs.Grammar.{if_some, operator, levels, prefix, mode_of, elem_of, map_of, reduction_of, assignment_of, extent_of, link_of, chain_of, use_of, element, class, Item, Value, Operand, Chain, Link, Index, Listed, Next, Extent, Param, Tunable, Decl, Task, Named, Arg, Call, Range, Stmt, LeafStmt, LeafBody, Alternative, Count, Any, AtMost, fewer, Leveled, at, kinds, Phrase, One, Many, Otherwise, Within, Derives, no_more, one_more, a_list, a_next, a_void_task, a_task, an_inner, a_leaf, a_param, an_extent, tunables, a_tunable, a_local, a_tunable_list, an_rchop, an_ichop, a_call_stmt, a_map, a_reduction, a_range, a_call, an_arg, an_index, an_assignment, an_if, no_else, an_else, an_alternative, a_for, bare, braced, an_operand, a_chain, a_link, a_unary, a_number, a_name, an_element, a_length, brackets, the_least, the_most}
use Rattle.sq_reader.specs.declared.error.ParseError.TheVariants.{Syntax}
use Rattle.sq_reader.specs.Reading as reading
use Rattle.sq_reader.specs.Reading.{Outcome, Parser, and_then, ◌>>=◌, ◌>>◌, take_token, next, expect, expect_some, opening, deeper, between, pair, length_of, same, sees, some, is_bracket, is_comma, many_from, many_after, index, indices, inner, negated, level, link, operand, operand_by, primary, start_of, listed, extent, extent_value, param, tunable, decl, task, task_named, argument, call, range, stmt, block, leaf_stmt, body, otherwise, begins_leaf_stmt, begins_stmt, begins_decl, begins_task, decls, unary, chop, sizes, blkset, rchop, ichop, comma_word, tunable_decl, tunable_list, dims, local, extents, variant, inner_task, inner_rest, leaf_task, leaf_rest, bound, reducer, reduced, only_call, reduction, map_over, call_stmt, assigned, assignment, choice, named, stepped, counted, body_by, program}
use Rattle.sq_reader.proofs.Machine.{begins}
use Rattle.sq_reader.proofs.Steps.{not_seen, operand_is, stmt_is, leaf_stmt_is}
use Rattle.sq_reader.proofs.Readings.{Enough}
use Rattle.sq_reader.proofs.Items.{deep, between_is}
use Rattle.sq_reader.proofs.Exprs.{inner_is, pair_is}
use Rattle.sq_reader.proofs.Stmts.{block_is}
use Rattle.sq_reader.proofs.Programs.{decls_is}
use Rattle.sq_reader.proofs.Rests.{shorter, within, Repeats, starts, begun, Follows, Final, ended_by, continues, opens_with, no_decl, no_leaf_decl}

-- the parser of a part
abbrev pub part : (x : Item) → ℕ → Parser (Value x)
part (Operand constant) m = operand constant m
part (Chain constant n) m = level (operand constant m) n
part (Link constant n) m = link n (level (operand constant m) n)
part (Index constant) m = index (inner constant m)
part (Listed x) m = listed (part x) m
part (Next x) m = take_token >> part x m
part Extent m = extent m
part Param m = param m
part Tunable m = tunable
part (Decl inner) m = decl inner m
part Task m = task m
part Named m = task_named m
part Arg m = argument m
part Call m = call m
part Range m = range m
part Stmt m = stmt m
part LeafStmt m = leaf_stmt m
part LeafBody m = body m
part Alternative m = take_token >> body m

-- what the parser gives for a phrase
abbrev pub Complete : ℕ → Phrase → List Leveled → List Leveled → Type 0
Complete most (One x d v) i j = (m : ℕ) → m + d ≡ most → Within most i → Follows x (kinds j) → part x m (kinds i) ≡ Ok (v, kinds j)
Complete most (Many x k d vs) i j = Repeats x → (m : ℕ) → m + d ≡ most → Within most i → begins x (class (kinds j)) ≡ false → Follows x (kinds j) → (turns : ℕ) (got : List (Value x))
    → Enough k turns (length (kinds i)) → many_from (begins x) (part x m) turns got (kinds i) ≡ Ok (got ++ vs, kinds j)
Complete most (Otherwise d xs) i j = (m : ℕ) → m + d ≡ most → Within most i → otherwise (body m) (kinds i) ≡ Ok (xs, kinds j)

pub then_ok : {A B : Type 0} (r : Outcome A) (f : A → Parser B) (x : A) (j : List Symbol) → r ≡ Ok (x, j) → and_then r f ≡ f x j
then_ok r f x j e = ap (λ r. and_then r f) e

-- ---- tokens

final : (t : Symbol) (ts : List Symbol) → ((n : ℕ) → operator n (class_at t) ≡ None) → is_bracket (class_at t) ≡ false → Final (t ∷ ts)
final t ts f e = record { op = f; index = e }

-- a token that opens a level
open_ok : {B : Type 0} (most m d : ℕ) → m + d ≡ most → suc d ≤ most → (a : Class) (t : Symbol) (ts : List Symbol) → same (class_at t) a ≡ true → (f : ℕ → Parser B) (r : Outcome B)
    → ((n : ℕ) → n + suc d ≡ most → f n ts ≡ r) → and_then (opening a m (t ∷ ts)) f ≡ r
open_ok most zero d e le a t ts s f r h = absurd (omega arith)
open_ok most (suc n) d e le a t ts s f r h = ap (λ b. and_then (if b then deeper (suc n) (t ∷ ts) else Err (Syntax (length (t ∷ ts)))) f) s ∙ h n (omega arith)

some_ok : {A : Type 0} (table : Class → Option A) (t : Symbol) (ts : List Symbol) (a : A) → table (class_at t) ≡ Some a → expect_some table (t ∷ ts) ≡ Ok (a, ts)
some_ok table t ts a e = ap (λ o. if_some o (λ a. Ok (a, ts)) (Err (Syntax (length (t ∷ ts))))) e

value_ok : (t : Symbol) (ts : List Symbol) (x : extent_type.Extent) → extent_of t ≡ Some x → extent_value (t ∷ ts) ≡ Ok (x, ts)
value_ok (Word p w) ts x e = ap (λ o. if_some o (λ x. Ok (x, ts)) (Err (Syntax 0))) e
value_ok (Number p n) ts x e = ap (λ o. if_some o (λ x. Ok (x, ts)) (Err (Syntax 0))) e
value_ok (Key p k) ts x e = absurd (cc)
value_ok (Mark p s) ts x e = absurd (cc)
value_ok (Last p) ts x e = absurd (cc)

-- ---- any number of a part

nothing_more : {A : Type 0} (got : List A) (j : List Symbol) → ◌≡◌ {A = Outcome (List A)} (Ok (got, j)) (Ok (got ++ [], j))
nothing_more got j = ap (λ xs. Ok (xs, j)) (sym (append-nil got))

and_more : {A : Type 0} (got : List A) (x : A) (xs : List A) (j : List Symbol) → ◌≡◌ {A = Outcome (List A)} (Ok ((got ++ x ∷ []) ++ xs, j)) (Ok (got ++ x ∷ xs, j))
and_more got x xs j = ap (λ all. Ok (all, j)) (append_assoc got (x ∷ []) xs)

many_end : {A : Type 0} (b : Class → Bool) (p : Parser A) (turns : ℕ) (got : List A) (ts : List Symbol) → b (class ts) ≡ false → many_from b p turns got ts ≡ Ok (got ++ [], ts)
unfolding many_from
many_end b p zero got ts e = nothing_more got ts
many_end b p (suc turns) got ts e = ap (λ v. if v then and_then (p ts) (λ x. many_from b p turns (got ++ x ∷ [])) else Ok (got, ts)) e ∙ nothing_more got ts

many_turn : {A : Type 0} (b : Class → Bool) (p : Parser A) (turns : ℕ) (got : List A) (ts : List Symbol) (x : A) (xs : List A) (j l : List Symbol) → b (class ts) ≡ true → p ts ≡ Ok (x, j)
    → many_from b p turns (got ++ x ∷ []) j ≡ Ok ((got ++ x ∷ []) ++ xs, l) → many_from b p (suc turns) got ts ≡ Ok (got ++ x ∷ xs, l)
unfolding many_from
many_turn b p turns got ts x xs j l e h again =
    ap (λ e. if e then and_then (p ts) (λ x. many_from b p turns (got ++ x ∷ [])) else Ok (got, ts)) e ∙ then_ok (p ts) _ x j h ∙ again ∙ and_more got x xs l

some_or : Option Count → Count
some_or (Some k) = k
some_or None = Any

only_some : {a b : Count} → ◌≡◌ {A = Option Count} (Some a) (Some b) → a ≡ b
unfolding some_or
only_some e = ap some_or e

many_go : {A : Type 0} (b : Class → Bool) (p : Parser A) (k left : Count) (turns : ℕ) (got : List A) (ts : List Symbol) (x : A) (xs : List A) (j l : List Symbol) → fewer k ≡ Some left
    → b (class ts) ≡ true → p ts ≡ Ok (x, j) → length j < length ts → Enough k turns (length ts)
    → ((turns : ℕ) → Enough left turns (length j) → many_from b p turns (got ++ x ∷ []) j ≡ Ok ((got ++ x ∷ []) ++ xs, l))
    → many_from b p turns got ts ≡ Ok (got ++ x ∷ xs, l)
many_go b p Any left zero got ts x xs j l f e h lt enough again = absurd (omega arith)
many_go b p Any left (suc turns) got ts x xs j l f e h lt enough again = many_turn b p turns got ts x xs j l e h (again turns (subst (λ k. Enough k turns (length j)) (only_some f) (omega arith)))
many_go b p (AtMost zero) left turns got ts x xs j l f e h lt enough again = absurd (cc)
many_go b p (AtMost (suc m)) left zero got ts x xs j l f e h lt enough again = absurd (omega arith)
many_go b p (AtMost (suc m)) left (suc turns) got ts x xs j l f e h lt enough again = many_turn b p turns got ts x xs j l e h (again turns (subst (λ k. Enough k turns (length j)) (only_some f) (omega arith)))

after_ok : {A : Type 0} (b : Class → Bool) (p : Parser A) (got : List A) (ts : List Symbol) (r : Outcome (List A)) → many_from b p (length ts) got ts ≡ r → many_after b p got ts ≡ r
unfolding many_after
after_ok b p got ts r h = h

-- ---- brackets

bracket_ok : {A : Type 0} (p : ℕ → Parser A) (most m d : ℕ) → m + d ≡ most → suc d ≤ most → (o e : Class) (t u : Symbol) (ts l : List Symbol) (x : A) → same (class_at t) o ≡ true → same (class_at u) e ≡ true
    → ((n : ℕ) → n + suc d ≡ most → p n ts ≡ Ok (x, u ∷ l)) → between (deep p m) o e (t ∷ ts) ≡ Ok (x, l)
bracket_ok p most m d eq le o e t u ts l x so se h = between_is p o e m (t ∷ ts) ∙ open_ok most m d eq le o t ts so _ _ (λ n f. then_ok (p n ts) _ x (u ∷ l) (h n f)
    ∙ ap (λ b. and_then {A = Unit {0}} (if b then Ok (tt {0}, l) else Err (Syntax (length (u ∷ l)))) (λ v r. Ok (x, r))) se)

index_ok : (constant : Bool) (most m d : ℕ) → m + d ≡ most → suc d ≤ most → (p q : Place) (ts l : List Symbol) (x : Expr)
    → ((n : ℕ) → n + suc d ≡ most → reading.expr constant n ts ≡ Ok (x, Mark q sign.BracketClose ∷ l)) → index (inner constant m) (Mark p sign.BracketOpen ∷ ts) ≡ Ok (x, l)
index_ok constant most m d eq le p q ts l x h = inner_is constant (c.Sign sign.BracketOpen) (c.Sign sign.BracketClose) m (Mark p sign.BracketOpen ∷ ts)
    ∙ bracket_ok (reading.expr constant) most m d eq le (c.Sign sign.BracketOpen) (c.Sign sign.BracketClose) (Mark p sign.BracketOpen) (Mark q sign.BracketClose) ts l x refl refl h

paren_ok : (constant : Bool) (most m d : ℕ) → m + d ≡ most → suc d ≤ most → (p q : Place) (ts l : List Symbol) (x : Expr)
    → ((n : ℕ) → n + suc d ≡ most → reading.expr constant n ts ≡ Ok (x, Mark q sign.ParenClose ∷ l))
    → between (inner constant m) (c.Sign sign.ParenOpen) (c.Sign sign.ParenClose) (Mark p sign.ParenOpen ∷ ts) ≡ Ok (x, l)
paren_ok constant most m d eq le p q ts l x h = inner_is constant (c.Sign sign.ParenOpen) (c.Sign sign.ParenClose) m (Mark p sign.ParenOpen ∷ ts)
    ∙ bracket_ok (reading.expr constant) most m d eq le (c.Sign sign.ParenOpen) (c.Sign sign.ParenClose) (Mark p sign.ParenOpen) (Mark q sign.ParenClose) ts l x refl refl h

list_ok : {A : Type 0} (p : ℕ → Parser A) (most m d : ℕ) → m + d ≡ most → suc d ≤ most → (o q : Place) (ts j l : List Symbol) (v : A) (vs : List A)
    → ((n : ℕ) → n + suc d ≡ most → p n ts ≡ Ok (v, j)) → ((n : ℕ) → n + suc d ≡ most → many_from is_comma (take_token >> p n) (length j) (v ∷ []) j ≡ Ok ((v ∷ []) ++ vs, Mark q sign.ParenClose ∷ l))
    → listed p m (Mark o sign.ParenOpen ∷ ts) ≡ Ok (v ∷ vs, l)
unfolding listed many_after
list_ok p most m d eq le o q ts j l v vs h k = open_ok most m d eq le (c.Sign sign.ParenOpen) (Mark o sign.ParenOpen) ts refl _ _ (λ n f. then_ok (p n ts) _ v j (h n f)
    ∙ then_ok (many_from is_comma (take_token >> p n) (length j) (v ∷ []) j) _ (v ∷ vs) (Mark q sign.ParenClose ∷ l) (k n f))

-- ---- a class that is not the one that is looked for

sees_not : (a b : Class) (ts : List Symbol) → class ts ≡ b → same b a ≡ false → sees a ts ≡ false
sees_not a b [] e s = refl
sees_not a b (t ∷ ts) e s = ap (λ b. same b a) e ∙ s

sees_it : (a : Class) (ts : List Symbol) → same (class ts) a ≡ true → same c.End a ≡ false → sees a ts ≡ true
sees_it a [] e s = let both : false ≡ true = sym s ∙ e in absurd (cc)
sees_it a (t ∷ ts) e s = e

and_false : (a b : Bool) → b ≡ false → (a && b) ≡ false
and_false true b e = e
and_false false b e = refl

pub assigns_no_bracket : (t : Class) (op : AssignOp) → assignment_of t ≡ Some op → is_bracket t ≡ false
assigns_no_bracket (c.Sign sign.BracketOpen) op e = absurd (cc)
assigns_no_bracket _ op e = refl

pub leaf_no_brace : (t : Class) → begins_leaf_stmt t ≡ true → same t (c.Sign sign.BraceOpen) ≡ false
leaf_no_brace (c.Sign sign.BraceOpen) e = absurd (cc)
leaf_no_brace _ e = refl

-- ---- tasks

task_ok : (m : ℕ) (ts : List Symbol) → class ts ≡ c.Key k.Task → task m ts ≡ task_named m ts
unfolding task
task_ok m ts e = ap (λ b. if b then (take_token >> task_named m) ts else task_named m ts) (sees_not (c.Key k.Void) (c.Key k.Task) ts e refl)

void_ok : (m : ℕ) (p : Place) (ts : List Symbol) → task m (Key p k.Void ∷ ts) ≡ task_named m ts
unfolding task
void_ok m p ts = refl

inner_ok : (most m d : ℕ) → m + d ≡ most → suc d ≤ most → (w : tree.Word) (p q r u v : Place) (ts j l o : List Symbol) (ps : List param_type.Param) (ds : List (List decl_type.Decl)) (xs : List stmts.Stmt)
    → listed param m ts ≡ Ok (ps, Mark u sign.BraceOpen ∷ j) → ((n : ℕ) → n + suc d ≡ most → many_from (begins_decl true) (decl true n) (length j) [] j ≡ Ok (ds, l))
    → ((n : ℕ) → n + suc d ≡ most → many_from begins_stmt (stmt n) (length l) [] l ≡ Ok (xs, Mark v sign.BraceClose ∷ o))
    → task_named m (Key p k.Task ∷ Word w.place w.name ∷ Mark q sign.Path ∷ Key r k.Inner ∷ ts) ≡ Ok (grammar.inner_of w ps ds xs, o)
unfolding task_named variant inner_task inner_rest many_after
inner_ok most m d eq le w p q r u v ts j l o ps ds xs h g f = then_ok (listed param m ts) _ ps (Mark u sign.BraceOpen ∷ j) h
    ∙ open_ok most m d eq le (c.Sign sign.BraceOpen) (Mark u sign.BraceOpen) j refl _ _ (λ n a. then_ok (decls true n j) _ (grammar.joined ds) l (decls_is true n j ∙ then_ok (many_from (begins_decl true) (decl true n) (length j) [] j) _ ds l (g n a))
    ∙ then_ok (many_from begins_stmt (stmt n) (length l) [] l) _ xs (Mark v sign.BraceClose ∷ o) (f n a))

leaf_ok : (most m d : ℕ) → m + d ≡ most → suc d ≤ most → (w : tree.Word) (p q r u v : Place) (ts j l o : List Symbol) (ps : List param_type.Param) (ds : List (List decl_type.Decl)) (xs : List leaf.LeafStmt)
    → listed param m ts ≡ Ok (ps, Mark u sign.BraceOpen ∷ j) → ((n : ℕ) → n + suc d ≡ most → many_from (begins_decl false) (decl false n) (length j) [] j ≡ Ok (ds, l))
    → ((n : ℕ) → n + suc d ≡ most → many_from begins_leaf_stmt (leaf_stmt n) (length l) [] l ≡ Ok (xs, Mark v sign.BraceClose ∷ o))
    → task_named m (Key p k.Task ∷ Word w.place w.name ∷ Mark q sign.Path ∷ Key r k.Leaf ∷ ts) ≡ Ok (grammar.leaf_of w ps ds xs, o)
unfolding task_named variant leaf_task leaf_rest many_after
leaf_ok most m d eq le w p q r u v ts j l o ps ds xs h g f = then_ok (listed param m ts) _ ps (Mark u sign.BraceOpen ∷ j) h
    ∙ open_ok most m d eq le (c.Sign sign.BraceOpen) (Mark u sign.BraceOpen) j refl _ _ (λ n a. then_ok (decls false n j) _ (grammar.joined ds) l (decls_is false n j ∙ then_ok (many_from (begins_decl false) (decl false n) (length j) [] j) _ ds l (g n a))
    ∙ then_ok (many_from begins_leaf_stmt (leaf_stmt n) (length l) [] l) _ xs (Mark v sign.BraceClose ∷ o) (f n a))

-- ---- parameters and declarations

param_ok : (m : ℕ) (t u : Symbol) (way : Mode) (type : Elem) (w : tree.Word) (ts j l : List Symbol) (x : extent_type.Extent) (xs : List extent_type.Extent) → mode_of (class_at t) ≡ Some way → elem_of (class_at u) ≡ Some type
    → extent m ts ≡ Ok (x, j) → many_from is_bracket (extent m) 2 (x ∷ []) j ≡ Ok ((x ∷ []) ++ xs, l)
    → param m (t ∷ u ∷ Word w.place w.name ∷ ts) ≡ Ok (grammar.param_of way type w (x ∷ xs), l)
unfolding param extents
param_ok m t u way type w ts j l x xs e q h g = then_ok (expect_some mode_of (t ∷ u ∷ Word w.place w.name ∷ ts)) _ way _ (some_ok mode_of t _ way e)
    ∙ then_ok (expect_some elem_of (u ∷ Word w.place w.name ∷ ts)) _ type _ (some_ok elem_of u _ type q) ∙ then_ok (extents m ts) _ (x ∷ xs) l (then_ok (extent m ts) _ x j h ∙ g)

extent_ok : (most m d : ℕ) → m + d ≡ most → suc d ≤ most → (p q : Place) (t : Symbol) (ts : List Symbol) (x : extent_type.Extent) → extent_of t ≡ Some x
    → extent m (Mark p sign.BracketOpen ∷ t ∷ Mark q sign.BracketClose ∷ ts) ≡ Ok (x, ts)
unfolding extent
extent_ok most m d eq le p q t ts x e = open_ok most m d eq le (c.Sign sign.BracketOpen) (Mark p sign.BracketOpen) (t ∷ Mark q sign.BracketClose ∷ ts) refl _ _
    (λ n f. then_ok (extent_value (t ∷ Mark q sign.BracketClose ∷ ts)) _ x (Mark q sign.BracketClose ∷ ts) (value_ok t _ x e))

tunables_ok : (inner : Bool) (m : ℕ) (w : tree.Word) (p q r : Place) (ts l : List Symbol) (xs : List decl_type.Decl) → is_bracket (class ts) ≡ false
    → many_from is_comma (take_token >> tunable) (length ts) (grammar.tunable_of w ∷ []) ts ≡ Ok ((grammar.tunable_of w ∷ []) ++ xs, Mark r sign.Semi ∷ l)
    → decl inner m (Key p k.Tunable ∷ Key q k.Int ∷ Word w.place w.name ∷ ts) ≡ Ok (grammar.tunable_of w ∷ xs, l)
unfolding decl tunable_decl reading.tunables many_after
tunables_ok inner m w p q r ts l xs nb h = ap (λ b. if b then tunable_list m w ts else reading.tunables w ts) (and_false inner (is_bracket (class ts)) nb)
    ∙ then_ok (many_from is_comma (take_token >> tunable) (length ts) (grammar.tunable_of w ∷ []) ts) _ (grammar.tunable_of w ∷ xs) (Mark r sign.Semi ∷ l) h

tunable_ok : (w : tree.Word) (ts : List Symbol) → tunable (Word w.place w.name ∷ ts) ≡ Ok (grammar.tunable_of w, ts)
unfolding tunable
tunable_ok w ts = refl

tunable_list_ok : (most m d : ℕ) → m + d ≡ most → suc d ≤ most → (w : tree.Word) (p q r u v : Place) (ts : List Symbol)
    → decl true m (Key p k.Tunable ∷ Key q k.Int ∷ Word w.place w.name ∷ Mark r sign.BracketOpen ∷ Mark u sign.BracketClose ∷ Mark v sign.Semi ∷ ts) ≡ Ok (declared.List w.place w.name ∷ [], ts)
unfolding decl tunable_decl tunable_list
tunable_list_ok most m d eq le w p q r u v ts = open_ok most m d eq le (c.Sign sign.BracketOpen) (Mark r sign.BracketOpen) (Mark u sign.BracketClose ∷ Mark v sign.Semi ∷ ts) refl _ _ (λ n f. refl)

local_ok : (inner : Bool) (m : ℕ) (p q : Place) (t : Symbol) (type : Elem) (w : tree.Word) (ts j l : List Symbol) (x : Expr) (xs : List Expr) → elem_of (class_at t) ≡ Some type
    → index (reading.inner true m) ts ≡ Ok (x, j) → many_from is_bracket (index (reading.inner true m)) 2 (x ∷ []) j ≡ Ok ((x ∷ []) ++ xs, Mark q sign.Semi ∷ l)
    → decl inner m (Key p k.Local ∷ t ∷ Word w.place w.name ∷ ts) ≡ Ok (declared.Local w.place type w.name (x ∷ xs) ∷ [], l)
unfolding decl local dims
local_ok inner m p q t type w ts j l x xs e h g = then_ok (expect_some elem_of (t ∷ Word w.place w.name ∷ ts)) _ type _ (some_ok elem_of t _ type e)
    ∙ then_ok (dims m ts) _ (x ∷ xs) (Mark q sign.Semi ∷ l) (then_ok (index (reading.inner true m) ts) _ x j h ∙ g)

rchop_ok : (most m d : ℕ) → m + d ≡ most → suc d ≤ most → (w array : tree.Word) (p q r u v y z : Place) (ts j l : List Symbol) (x : Expr) (xs : List Expr)
    → ((n : ℕ) → n + suc d ≡ most → reading.expr true n ts ≡ Ok (x, j))
    → ((n : ℕ) → n + suc d ≡ most → many_from is_comma (take_token >> reading.expr true n) (length j) (x ∷ []) j ≡ Ok ((x ∷ []) ++ xs, Mark y sign.ParenClose ∷ Mark z sign.Semi ∷ l))
    → decl true m (Key p k.Blkset ∷ Word w.place w.name ∷ Mark q sign.Set ∷ Key r k.Rchop ∷ Mark u sign.ParenOpen ∷ Word array.place array.name ∷ Mark v sign.Comma ∷ ts)
    ≡ Ok (declared.Rchop w.place w.name array (x ∷ xs) ∷ [], l)
unfolding decl blkset chop rchop sizes many_after
rchop_ok most m d eq le w array p q r u v y z ts j l x xs h g = then_ok (chop m w (Key r k.Rchop ∷ Mark u sign.ParenOpen ∷ Word array.place array.name ∷ Mark v sign.Comma ∷ ts)) _
    (declared.Rchop w.place w.name array (x ∷ xs) ∷ []) (Mark z sign.Semi ∷ l)
    (open_ok most m d eq le (c.Sign sign.ParenOpen) (Mark u sign.ParenOpen) (Word array.place array.name ∷ Mark v sign.Comma ∷ ts) refl _ _
    (λ n f. then_ok (sizes n ts) _ (x ∷ xs) (Mark y sign.ParenClose ∷ Mark z sign.Semi ∷ l) (then_ok (reading.expr true n ts) _ x j (h n f) ∙ g n f)))

ichop_ok : (most m d : ℕ) → m + d ≡ most → suc d ≤ most → (w array starts ends : tree.Word) (p q r u v x y z : Place) (l : List Symbol)
    → decl true m (Key p k.Blkset ∷ Word w.place w.name ∷ Mark q sign.Set ∷ Key r k.Ichop ∷ Mark u sign.ParenOpen ∷ Word array.place array.name ∷ Mark v sign.Comma ∷ Word starts.place starts.name ∷ Mark x sign.Comma
    ∷ Word ends.place ends.name ∷ Mark y sign.ParenClose ∷ Mark z sign.Semi ∷ l) ≡ Ok (declared.Ichop w.place w.name array starts ends ∷ [], l)
unfolding decl blkset chop ichop comma_word
ichop_ok most m d eq le w array starts ends p q r u v x y z l = then_ok (chop m w (Key r k.Ichop ∷ Mark u sign.ParenOpen ∷ Word array.place array.name ∷ Mark v sign.Comma ∷ Word starts.place starts.name ∷ Mark x sign.Comma
    ∷ Word ends.place ends.name ∷ Mark y sign.ParenClose ∷ Mark z sign.Semi ∷ l)) _ (declared.Ichop w.place w.name array starts ends ∷ []) (Mark z sign.Semi ∷ l)
    (open_ok most m d eq le (c.Sign sign.ParenOpen) (Mark u sign.ParenOpen) _ refl _ _ (λ n f. refl))

-- ---- statements of inner tasks

call_ok : (m : ℕ) (w : tree.Word) (ts l : List Symbol) (xs : List ArgUse) → listed argument m ts ≡ Ok (xs, l) → call m (Word w.place w.name ∷ ts) ≡ Ok (grammar.call_of w xs, l)
unfolding call
call_ok m w ts l xs h = then_ok (listed argument m ts) _ xs l h

argument_ok : (m : ℕ) (w : tree.Word) (ts l : List Symbol) (xs : List Expr) → many_from is_bracket (index (reading.inner true m)) (length ts) [] ts ≡ Ok (xs, l)
    → argument m (Word w.place w.name ∷ ts) ≡ Ok (use_of w xs, l)
unfolding argument many_after
argument_ok m w ts l xs h = then_ok (many_from is_bracket (index (reading.inner true m)) (length ts) [] ts) _ xs l h

range_ok : (m : ℕ) (w : tree.Word) (p q r u : Place) (ts l : List Symbol) (x : Expr) → reading.expr true m ts ≡ Ok (x, l)
    → range m (Key p k.Int ∷ Word w.place w.name ∷ Mark q sign.Set ∷ Number r (pos 0) ∷ Key u k.To ∷ ts) ≡ Ok (grammar.range_of w x, l)
unfolding range bound
range_ok m w p q r u ts l x h = then_ok (reading.expr true m ts) _ x l h

call_stmt_ok : (m : ℕ) (p : Place) (ts l : List Symbol) (x : call_type.Call) → class ts ≡ c.Word → call m ts ≡ Ok (x, Mark p sign.Semi ∷ l) → stmt m ts ≡ Ok (s.Call x, l)
unfolding call_stmt
call_stmt_ok m p ts l x e h = stmt_is m ts
    ∙ ap (λ o. if_some {B = Outcome stmts.Stmt} o (λ kind. map_over m (block m) (reading.place ts) kind (next ts)) (if sees (c.Key k.Mapreduce) ts then reduction m (reading.place ts) (next ts) else call_stmt m ts)) (ap map_of e)
    ∙ ap (λ b. if b then reduction m (reading.place ts) (next ts) else call_stmt m ts) (sees_not (c.Key k.Mapreduce) c.Word ts e refl)
    ∙ then_ok (call m ts) _ x (Mark p sign.Semi ∷ l) h

block_ok : (most m d : ℕ) → m + d ≡ most → suc d ≤ most → (p q : Place) (ts l : List Symbol) (xs : List stmts.Stmt)
    → ((n : ℕ) → n + suc d ≡ most → many_from begins_stmt (stmt n) (length ts) [] ts ≡ Ok (xs, Mark q sign.BraceClose ∷ l)) → block m (Mark p sign.BraceOpen ∷ ts) ≡ Ok (xs, l)
unfolding many_after
block_ok most m d eq le p q ts l xs h = block_is m (Mark p sign.BraceOpen ∷ ts)
    ∙ bracket_ok (λ m. many_after begins_stmt (stmt m) []) most m d eq le (c.Sign sign.BraceOpen) (c.Sign sign.BraceClose) (Mark p sign.BraceOpen) (Mark q sign.BraceClose) ts l xs refl refl h

map_ok : (m : ℕ) (t : Symbol) (kind : MapKind) (ts j l : List Symbol) (rs : List range_type.Range) (xs : List stmts.Stmt) → map_of (class_at t) ≡ Some kind → listed range m ts ≡ Ok (rs, j) → block m j ≡ Ok (xs, l)
    → stmt m (t ∷ ts) ≡ Ok (s.Map (place_at t) kind rs xs, l)
unfolding map_over
map_ok m t kind ts j l rs xs e h g = stmt_is m (t ∷ ts)
    ∙ ap (λ o. if_some {B = Outcome stmts.Stmt} o (λ kind. map_over m (block m) (place_at t) kind ts) (if sees (c.Key k.Mapreduce) (t ∷ ts) then reduction m (place_at t) ts else call_stmt m (t ∷ ts))) e
    ∙ then_ok (listed range m ts) _ rs j h ∙ then_ok (block m j) _ xs l g

reduction_ok : (most m d : ℕ) → m + d ≡ most → suc d ≤ most → (t : Symbol) (op : RedOp) (array : tree.Word) (p q r u v y z o : Place) (ts j l : List Symbol) (rs : List range_type.Range) (x : call_type.Call)
    → reduction_of (class_at t) ≡ Some op
    → listed range m ts ≡ Ok (rs, Key q k.Reduce ∷ Mark r sign.ParenOpen ∷ t ∷ Mark u sign.Comma ∷ Word array.place array.name ∷ Mark v sign.ParenClose ∷ Mark y sign.BraceOpen ∷ j)
    → ((n : ℕ) → n + suc d ≡ most → call n j ≡ Ok (x, Mark z sign.Semi ∷ Mark o sign.BraceClose ∷ l)) → stmt m (Key p k.Mapreduce ∷ ts) ≡ Ok (s.Map p (Reduce op array) rs (s.Call x ∷ []), l)
unfolding reduction reduced reducer only_call
reduction_ok most m d eq le t op array p q r u v y z o ts j l rs x e h g = stmt_is m (Key p k.Mapreduce ∷ ts)
    ∙ then_ok (listed range m ts) _ rs (Key q k.Reduce ∷ Mark r sign.ParenOpen ∷ t ∷ Mark u sign.Comma ∷ Word array.place array.name ∷ Mark v sign.ParenClose ∷ Mark y sign.BraceOpen ∷ j) h
    ∙ then_ok (reduced m (Key q k.Reduce ∷ Mark r sign.ParenOpen ∷ t ∷ Mark u sign.Comma ∷ Word array.place array.name ∷ Mark v sign.ParenClose ∷ Mark y sign.BraceOpen ∷ j)) _ (Reduce op array) (Mark y sign.BraceOpen ∷ j)
    (open_ok most m d eq le (c.Sign sign.ParenOpen) (Mark r sign.ParenOpen) _ refl _ _ (λ n f. then_ok (expect_some reduction_of (t ∷ Mark u sign.Comma ∷ Word array.place array.name ∷ Mark v sign.ParenClose ∷ Mark y sign.BraceOpen ∷ j)) _ op _
    (some_ok reduction_of t _ op e)))
    ∙ then_ok (only_call m (Mark y sign.BraceOpen ∷ j)) _ x l (open_ok most m d eq le (c.Sign sign.BraceOpen) (Mark y sign.BraceOpen) j refl _ _ (λ n f. then_ok (call n j) _ x (Mark z sign.Semi ∷ Mark o sign.BraceClose ∷ l) (g n f)))

-- ---- statements of leaf tasks

assignment_ok : (m : ℕ) (w : tree.Word) (x y : Expr) (xs : List Expr) (t : Symbol) (op : AssignOp) (p : Place) (ts j l o : List Symbol) → index (reading.inner false m) ts ≡ Ok (x, j)
    → many_from is_bracket (index (reading.inner false m)) (length j) (x ∷ []) j ≡ Ok ((x ∷ []) ++ xs, t ∷ l) → assignment_of (class_at t) ≡ Some op → reading.expr false m l ≡ Ok (y, Mark p sign.Semi ∷ o)
    → leaf_stmt m (Word w.place w.name ∷ ts) ≡ Ok (leafs.Assign (use_of w (x ∷ xs)) op y, o)
unfolding assignment assigned many_after
assignment_ok m w x y xs t op p ts j l o h g e f = leaf_stmt_is m (Word w.place w.name ∷ ts) ∙ then_ok (index (reading.inner false m) ts) _ x j h
    ∙ then_ok (many_from is_bracket (index (reading.inner false m)) (length j) (x ∷ []) j) _ (x ∷ xs) (t ∷ l) g
    ∙ then_ok (expect_some assignment_of (t ∷ l)) _ op l (some_ok assignment_of t l op e) ∙ then_ok (reading.expr false m l) _ y (Mark p sign.Semi ∷ o) f

if_ok : (m : ℕ) (p : Place) (ts j l o : List Symbol) (x : Expr) (xs ys : List leaf.LeafStmt) → between (reading.inner false m) (c.Sign sign.ParenOpen) (c.Sign sign.ParenClose) ts ≡ Ok (x, j) → body m j ≡ Ok (xs, l)
    → otherwise (body m) l ≡ Ok (ys, o) → leaf_stmt m (Key p k.If ∷ ts) ≡ Ok (leafs.If p x xs ys, o)
unfolding choice
if_ok m p ts j l o x xs ys h g f = leaf_stmt_is m (Key p k.If ∷ ts) ∙ then_ok (between (reading.inner false m) (c.Sign sign.ParenOpen) (c.Sign sign.ParenClose) ts) _ x j h ∙ then_ok (body m j) _ xs l g ∙ then_ok (otherwise (body m) l) _ ys o f

no_else_ok : (p : Parser (List leaf.LeafStmt)) (ts : List Symbol) → sees (c.Key k.Else) ts ≡ false → otherwise p ts ≡ Ok ([], ts)
unfolding otherwise
no_else_ok p ts e = ap (λ b. if b then (take_token >> p) ts else Ok ([], ts)) e

else_ok : (p : Parser (List leaf.LeafStmt)) (ts : List Symbol) (r : Outcome (List leaf.LeafStmt)) → sees (c.Key k.Else) ts ≡ true → (take_token >> p) ts ≡ r → otherwise p ts ≡ r
unfolding otherwise
else_ok p ts r e h = ap (λ b. if b then (take_token >> p) ts else Ok ([], ts)) e ∙ h

for_ok : (most m d : ℕ) → m + d ≡ most → suc d ≤ most → (counter tested step : tree.Word) (p q r u v o y z a : Place) (ts j l b : List Symbol) (x w : Expr) (xs : List leaf.LeafStmt)
    → ((n : ℕ) → n + suc d ≡ most → reading.expr false n ts ≡ Ok (x, Mark v sign.Semi ∷ Word tested.place tested.name ∷ Mark o sign.Less ∷ j))
    → ((n : ℕ) → n + suc d ≡ most → reading.expr false n j ≡ Ok (w, Mark y sign.Semi ∷ Word step.place step.name ∷ Mark z sign.PlusPlus ∷ Mark a sign.ParenClose ∷ l))
    → body m l ≡ Ok (xs, b)
    → leaf_stmt m (Key p k.For ∷ Mark q sign.ParenOpen ∷ Key r k.Int ∷ Word counter.place counter.name ∷ Mark u sign.Set ∷ ts) ≡ Ok (leafs.For counter x tested w step xs, b)
unfolding counted named stepped
for_ok most m d eq le counter tested step p q r u v o y z a ts j l b x w xs h g f = leaf_stmt_is m (Key p k.For ∷ Mark q sign.ParenOpen ∷ Key r k.Int ∷ Word counter.place counter.name ∷ Mark u sign.Set ∷ ts)
    ∙ open_ok most m d eq le (c.Sign sign.ParenOpen) (Mark q sign.ParenOpen) (Key r k.Int ∷ Word counter.place counter.name ∷ Mark u sign.Set ∷ ts) refl _ _
    (λ n i. then_ok (named (c.Key k.Int) (c.Sign sign.Set) n (Key r k.Int ∷ Word counter.place counter.name ∷ Mark u sign.Set ∷ ts)) _ (counter, x) (Mark v sign.Semi ∷ Word tested.place tested.name ∷ Mark o sign.Less ∷ j)
    (then_ok (reading.expr false n ts) _ x (Mark v sign.Semi ∷ Word tested.place tested.name ∷ Mark o sign.Less ∷ j) (h n i))
    ∙ then_ok (named (c.Sign sign.Semi) (c.Sign sign.Less) n (Mark v sign.Semi ∷ Word tested.place tested.name ∷ Mark o sign.Less ∷ j)) _ (tested, w) (Mark y sign.Semi ∷ Word step.place step.name ∷ Mark z sign.PlusPlus ∷ Mark a sign.ParenClose ∷ l)
    (then_ok (reading.expr false n j) _ w (Mark y sign.Semi ∷ Word step.place step.name ∷ Mark z sign.PlusPlus ∷ Mark a sign.ParenClose ∷ l) (g n i))
    ∙ then_ok (body m l) _ xs b f)

braced_ok : (most m d : ℕ) → m + d ≡ most → suc d ≤ most → (p q : Place) (ts l : List Symbol) (xs : List leaf.LeafStmt)
    → ((n : ℕ) → n + suc d ≡ most → many_from begins_leaf_stmt (leaf_stmt n) (length ts) [] ts ≡ Ok (xs, Mark q sign.BraceClose ∷ l)) → body m (Mark p sign.BraceOpen ∷ ts) ≡ Ok (xs, l)
unfolding body many_after
braced_ok most zero d e le p q ts l xs h = absurd (omega arith)
braced_ok most (suc m) d e le p q ts l xs h = then_ok (many_from begins_leaf_stmt (leaf_stmt m) (length ts) [] ts) _ xs (Mark q sign.BraceClose ∷ l) (h m (omega arith))

bare_ok : (most m d : ℕ) → m + d ≡ most → suc d ≤ most → (ts l : List Symbol) (x : leaf.LeafStmt) → begins_leaf_stmt (class ts) ≡ true → ((n : ℕ) → n + suc d ≡ most → leaf_stmt n ts ≡ Ok (x, l)) → body m ts ≡ Ok (x ∷ [], l)
unfolding body
bare_ok most zero d e le ts l x b h = absurd (omega arith)
bare_ok most (suc m) d e le ts l x b h =
    ap (λ b. if b then reading.braced (take_token >> many_after begins_leaf_stmt (leaf_stmt m) []) ts else reading.bare (leaf_stmt m) ts) (sees_not (c.Sign sign.BraceOpen) (class ts) ts refl (leaf_no_brace (class ts) b))
    ∙ then_ok (leaf_stmt m ts) _ x l (h m (omega arith))

-- the first token of a statement of a leaf task opens no level
abbrev pub Allowed : ℕ → Phrase → List Leveled → List Leveled → Type 0
Allowed most (One LeafStmt d v) i j = Within most i → d ≤ most
Allowed most _ i j = Unit {0}

pub leaf_allowed : {p : Phrase} {i j : List Leveled} (most : ℕ) → Derives p i j → Allowed most p i j
leaf_allowed most (an_assignment r s e u) = λ w. w.0
leaf_allowed most (an_if r s u) = λ w. w.0
leaf_allowed most (a_for r s u) = λ w. w.0
leaf_allowed most (one_more e r s) = tt
leaf_allowed most _ = tt

-- ---- expressions

operand_chain : (most : ℕ) (constant : Bool) (d : ℕ) (x : Expr) (i j : List Leveled) → Complete most (One (Operand constant) d x) i j → Complete most (One (Chain constant zero) d x) i j
unfolding level
operand_chain most constant d x i j h = λ m e w f. h m e w f.index

chain_ok : (p : Parser Expr) (n : ℕ) (ts j l : List Symbol) (x : Expr) (xs : List link_type.Link) → level p n ts ≡ Ok (x, j) → many_from (reading.is_operator n) (link n (level p n)) (length j) [] j ≡ Ok (xs, l)
    → level p (suc n) ts ≡ Ok (chain_of x xs, l)
unfolding level many_after
chain_ok p n ts j l x xs h g = then_ok (level p n ts) _ x j h ∙ then_ok (many_from (reading.is_operator n) (link n (level p n)) (length j) [] j) _ xs l g

link_ok : (p : Parser Expr) (n : ℕ) (t : Symbol) (ts l : List Symbol) (op : BinOp) (x : Expr) → operator n (class_at t) ≡ Some op → p ts ≡ Ok (x, l) → link n p (t ∷ ts) ≡ Ok (link_of (place_at t) op x, l)
unfolding link
link_ok p n t ts l op x e h = ap (λ o. if_some o (λ op. and_then (p ts) (λ right j. Ok (link_of (place_at t) op right, j))) (Err (Syntax (length (t ∷ ts))))) e ∙ then_ok (p ts) _ x l h

unary_ok : (most m d : ℕ) → m + d ≡ most → suc d ≤ most → (constant : Bool) (t : Symbol) (ts l : List Symbol) (op : UnOp) (x : Expr) → prefix constant (class_at t) ≡ Some op
    → ((n : ℕ) → n + suc d ≡ most → operand constant n ts ≡ Ok (x, l)) → operand constant m (t ∷ ts) ≡ Ok (e.Unary (place_at t) op x, l)
unfolding negated
unary_ok most zero d eq le constant t ts l op x q h = absurd (omega arith)
unary_ok most (suc n) d eq le constant t ts l op x q h = operand_is constant (suc n) (t ∷ ts)
    ∙ ap (λ o. if_some o (λ op. unary (negated constant (suc n)) op (t ∷ ts)) (primary constant (suc n) (reading.inner constant (suc n)) (reading.inside constant (suc n)) (t ∷ ts))) q
    ∙ then_ok (operand constant n ts) _ x l (h n (omega arith))

element_ok : (m : ℕ) (w : tree.Word) (ts l : List Symbol) (xs : List Expr) → many_from is_bracket (index (reading.inner false m)) (length ts) [] ts ≡ Ok (xs, l) → operand false m (Word w.place w.name ∷ ts) ≡ Ok (element w xs, l)
unfolding many_after
element_ok m w ts l xs h = operand_is false m (Word w.place w.name ∷ ts) ∙ then_ok (many_from is_bracket (index (reading.inner false m)) (length ts) [] ts) _ xs l h

length_ok : (most m d : ℕ) → m + d ≡ most → suc d ≤ most → (w : tree.Word) (p q r : Place) (ts : List Symbol)
    → operand true m (Key p k.Len ∷ Mark q sign.ParenOpen ∷ Word w.place w.name ∷ Mark r sign.ParenClose ∷ ts) ≡ Ok (e.Len w, ts)
unfolding length_of
length_ok most m d eq le w p q r ts = operand_is true m (Key p k.Len ∷ Mark q sign.ParenOpen ∷ Word w.place w.name ∷ Mark r sign.ParenClose ∷ ts)
    ∙ open_ok most m d eq le (c.Sign sign.ParenOpen) (Mark q sign.ParenOpen) (Word w.place w.name ∷ Mark r sign.ParenClose ∷ ts) refl _ _ (λ n f. refl)

pair_ok : (most m d : ℕ) → m + d ≡ most → suc d ≤ most → (p q r : Place) (ts j l : List Symbol) (x y : Expr)
    → ((n : ℕ) → n + suc d ≡ most → reading.expr false n ts ≡ Ok (x, Mark q sign.Comma ∷ j)) → ((n : ℕ) → n + suc d ≡ most → reading.expr false n j ≡ Ok (y, Mark r sign.ParenClose ∷ l))
    → pair (reading.inner false m) (reading.inside false m) (Mark p sign.ParenOpen ∷ ts) ≡ Ok ((x, y), l)
pair_ok most m d eq le p q r ts j l x y h g = pair_is m (Mark p sign.ParenOpen ∷ ts)
    ∙ open_ok most m d eq le (c.Sign sign.ParenOpen) (Mark p sign.ParenOpen) ts refl _ _ (λ n f. then_ok (reading.expr false n ts) _ x (Mark q sign.Comma ∷ j) (h n f)
    ∙ then_ok (reading.expr false n j) _ y (Mark r sign.ParenClose ∷ l) (g n f))

least_ok : (m : ℕ) (p : Place) (ts l : List Symbol) (x y : Expr) → pair (reading.inner false m) (reading.inside false m) ts ≡ Ok ((x, y), l) → operand false m (Key p k.Min ∷ ts) ≡ Ok (e.Least x y, l)
least_ok m p ts l x y h = operand_is false m (Key p k.Min ∷ ts) ∙ then_ok (pair (reading.inner false m) (reading.inside false m) ts) _ (x, y) l h

most_ok : (m : ℕ) (p : Place) (ts l : List Symbol) (x y : Expr) → pair (reading.inner false m) (reading.inside false m) ts ≡ Ok ((x, y), l) → operand false m (Key p k.Max ∷ ts) ≡ Ok (e.Most x y, l)
most_ok m p ts l x y h = operand_is false m (Key p k.Max ∷ ts) ∙ then_ok (pair (reading.inner false m) (reading.inside false m) ts) _ (x, y) l h

-- ---- phrases

pub semi : (x : Item) (p : Place) (ts : List Symbol) → Follows x (Mark p sign.Semi ∷ ts)
semi x p ts = ended_by x (record { op = λ n. refl; index = refl })

pub paren : (x : Item) (p : Place) (ts : List Symbol) → Follows x (Mark p sign.ParenClose ∷ ts)
paren x p ts = ended_by x (record { op = λ n. refl; index = refl })

pub bracket : (x : Item) (p : Place) (ts : List Symbol) → Follows x (Mark p sign.BracketClose ∷ ts)
bracket x p ts = ended_by x (record { op = λ n. refl; index = refl })

pub comma : (x : Item) (p : Place) (ts : List Symbol) → Follows x (Mark p sign.Comma ∷ ts)
comma x p ts = ended_by x (record { op = λ n. refl; index = refl })

pub complete : {p : Phrase} {i j : List Leveled} (most : ℕ) → Derives p i j → Complete most p i j
complete most (no_more {x = x}) = λ rep m e w b f turns got enough. many_end (begins x) (part x m) turns got _ b
complete most (one_more {x = x} {most = k} {left = left} {i = i} q r s) = λ rep m e w b f turns got enough. many_go (begins x) (part x m) k left turns got _ _ _ _ _ q (begun x i rep (starts r))
    (complete most r m e w (continues s rep f)) (shorter r) enough (λ turns more. complete most s rep m e (within most r w) b f turns _ more)
complete most (a_list {x = x} r s) = λ m e w f. list_ok (part x) most m _ e w.0 _ _ _ _ _ _ _ (λ n q. complete most r n q w.1 (continues s tt (paren x _ _)))
    (λ n q. complete most s tt n q (within most r w.1) refl (paren x _ _) _ _ (omega arith))
complete most (a_next r) = λ m e w f. complete most r m e w.1 f
complete most (a_void_task r) = λ m e w f. void_ok m _ _ ∙ complete most r m e w.1 tt
complete most (a_task r) = λ m e w f. task_ok m _ (starts r) ∙ complete most r m e w tt
complete most (an_inner r s u) = λ m e w f. inner_ok most m _ e (within most r w.1.1.1.1).0 _ _ _ _ _ _ _ _ _ _ _ _ _ (complete most r m e w.1.1.1.1 tt)
    (λ n q. complete most s tt n q (within most r w.1.1.1.1).1 (no_decl true _ _ (opens_with u tt) refl) tt _ [] (omega arith))
    (λ n q. complete most u tt n q (within most s (within most r w.1.1.1.1).1) refl tt _ [] (omega arith))
complete most (a_leaf r s u) = λ m e w f. leaf_ok most m _ e (within most r w.1.1.1.1).0 _ _ _ _ _ _ _ _ _ _ _ _ _ (complete most r m e w.1.1.1.1 tt)
    (λ n q. complete most s tt n q (within most r w.1.1.1.1).1 (no_leaf_decl false _ _ (opens_with u tt) refl) tt _ [] (omega arith))
    (λ n q. complete most u tt n q (within most s (within most r w.1.1.1.1).1) refl tt _ [] (omega arith))
complete most (a_param is q r s) = λ m e w f. param_ok m _ _ _ _ _ _ _ _ _ _ is q (complete most r m e w.1.1.1 tt) (complete most s tt m e (within most r w.1.1.1) f tt 2 _ refl)
complete most (an_extent is) = λ m e w f. extent_ok most m _ e w.0 _ _ _ _ _ is
complete most (tunables r) = λ m e w f. tunables_ok _ m _ _ _ _ _ _ _ (continues r tt refl) (complete most r tt m e w.1.1.1 refl refl _ _ (omega arith))
complete most a_tunable = λ m e w f. tunable_ok _ _
complete most (a_local is r s) = λ m e w f. local_ok _ m _ _ _ _ _ _ _ _ _ _ is (complete most r m e w.1.1.1 tt) (complete most s tt m e (within most r w.1.1.1) refl tt 2 _ refl)
complete most a_tunable_list = λ m e w f. tunable_list_ok most m _ e w.1.1.1.0 _ _ _ _ _ _ _
complete most (an_rchop r s) = λ m e w f. rchop_ok most m _ e w.1.1.1.1.0 _ _ _ _ _ _ _ _ _ _ _ _ _ _ (λ n q. complete most r n q w.1.1.1.1.1.1.1 (continues s tt (paren (grammar.expr true) _ _)))
    (λ n q. complete most s tt n q (within most r w.1.1.1.1.1.1.1) refl (paren (grammar.expr true) _ _) _ _ (omega arith))
complete most an_ichop = λ m e w f. ichop_ok most m _ e w.1.1.1.1.0 _ _ _ _ _ _ _ _ _ _ _ _ _
complete most (a_call_stmt r) = λ m e w f. call_stmt_ok m _ _ _ _ (starts r) (complete most r m e w tt)
complete most (a_map is r s) = λ m e w f. map_ok m _ _ _ _ _ _ _ is (complete most r m e w.1 tt) (block_ok most m _ e (within most r w.1).0 _ _ _ _ _
    (λ n q. complete most s tt n q (within most r w.1).1 refl tt _ [] (omega arith)))
complete most (a_reduction r is s) = λ m e w f. reduction_ok most m _ e (within most r w.1).1.0 _ _ _ _ _ _ _ _ _ _ _ _ _ _ _ _ is (complete most r m e w.1 tt)
    (λ n q. complete most s n q (within most r w.1).1.1.1.1.1.1.1 tt)
complete most (a_range r) = λ m e w f. range_ok m _ _ _ _ _ _ _ _ (complete most r m e w.1.1.1.1.1 f)
complete most (a_call r) = λ m e w f. call_ok m _ _ _ _ (complete most r m e w.1 tt)
complete most (an_arg r) = λ m e w f. argument_ok m _ _ _ _ (complete most r tt m e w.1 f tt _ [] (omega arith))
complete most (an_index {constant = constant} r) = λ m e w f. index_ok constant most m _ e w.0 _ _ _ _ _ (λ n q. complete most r n q w.1 (bracket (grammar.expr constant) _ _))
complete most (an_assignment r s is u) = λ m e w f. assignment_ok m _ _ _ _ _ _ _ _ _ _ _ (complete most r m e w.1 tt)
    (complete most s tt m e (within most r w.1) (assigns_no_bracket _ _ is) tt _ _ (omega arith)) is (complete most u m e (within most s (within most r w.1)).1 (semi (grammar.expr false) _ _))
complete most (an_if r s u) = λ m e w f. if_ok m _ _ _ _ _ _ _ _ (paren_ok false most m _ e w.1.0 _ _ _ _ _ (λ n q. complete most r n q w.1.1 (paren (grammar.expr false) _ _)))
    (complete most s m e (within most r w.1.1).1 tt) (complete most u m e (within most s (within most r w.1.1).1))
complete most (no_else {i = i} h) = λ m e w. no_else_ok (body m) _ (not_seen (c.Key k.Else) (kinds i) h)
complete most (an_else {i = i} r) = λ m e w. else_ok (body m) _ _ (sees_it (c.Key k.Else) (kinds i) (starts r tt) refl) (complete most r m e w tt)
complete most (an_alternative r) = λ m e w f. complete most r m e w.1 tt
complete most (a_for r s u) = λ m e w f. for_ok most m _ e w.1.0 _ _ _ _ _ _ _ _ _ _ _ _ _ _ _ _ _ _ _ (λ n q. complete most r n q w.1.1.1.1.1 (semi (grammar.expr false) _ _))
    (λ n q. complete most s n q (within most r w.1.1.1.1.1).1.1.1 (semi (grammar.expr false) _ _)) (complete most u m e (within most s (within most r w.1.1.1.1.1).1.1.1).1.1.1.1 tt)
complete most (bare r) = λ m e w f. bare_ok most m _ e (leaf_allowed most r w) _ _ _ (starts r tt) (λ n q. complete most r n q w tt)
complete most (braced r) = λ m e w f. braced_ok most m _ e w.0 _ _ _ _ _ (λ n q. complete most r tt n q w.1 refl tt _ [] (omega arith))
complete most (an_operand r) = operand_chain most _ _ _ _ _ (complete most r)
complete most (a_chain {constant = constant} {n = n} r s) = λ m e w f. chain_ok (operand constant m) n _ _ _ _ _
    (complete most r m e w (continues s tt (record { ops = λ k lt. f.ops k (omega arith); index = f.index })))
    (complete most s tt m e (within most r w) (ap some (f.ops n (omega arith))) (record { ops = λ k lt. f.ops k (omega arith); index = f.index }) _ [] (omega arith))
complete most (a_link is r) = λ m e w f. link_ok _ _ _ _ _ _ _ is (complete most r m e w.1 f)
complete most (a_unary {constant = constant} is r) = λ m e w f. unary_ok most m _ e w.0 constant _ _ _ _ _ is (λ n q. complete most r n q w.1 f)
complete most (a_number {constant = constant}) = λ m e w f. operand_is constant m _
complete most a_name = λ m e w f. operand_is true m _
complete most (an_element r) = λ m e w f. element_ok m _ _ _ _ (complete most r tt m e w.1 f tt _ [] (omega arith))
complete most a_length = λ m e w f. length_ok most m _ e w.1.0 _ _ _ _ _
complete most (brackets {constant = constant} r) = λ m e w f. operand_is constant m _ ∙ paren_ok constant most m _ e w.0 _ _ _ _ _ (λ n q. complete most r n q w.1 (paren (grammar.expr constant) _ _))
complete most (the_least r s) = λ m e w f. least_ok m _ _ _ _ _ (pair_ok most m _ e w.1.0 _ _ _ _ _ _ _ _ (λ n q. complete most r n q w.1.1 (comma (grammar.expr false) _ _))
    (λ n q. complete most s n q (within most r w.1.1).1 (paren (grammar.expr false) _ _)))
complete most (the_most r s) = λ m e w f. most_ok m _ _ _ _ _ (pair_ok most m _ e w.1.0 _ _ _ _ _ _ _ _ (λ n q. complete most r n q w.1.1 (comma (grammar.expr false) _ _))
    (λ n q. complete most s n q (within most r w.1.1).1 (paren (grammar.expr false) _ _)))
