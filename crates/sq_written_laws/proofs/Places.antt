-- What a leaf means doesn't depend on the places of its text, but for the place of a trap.
use Rattle.std.proofs.Common.{◌≡◌, ℕ, zero, suc, Bool, true, false, ℤ, pos, List, [], ◌∷◌, ◌++◌, map, Option, Some, None, Result, Ok, Err, refl, sym, ap, ap₂, ◌∙◌, subst}
use Rattle.std.specs.Prelude.{if◌then◌else◌, slice_get}
use Rattle.std.specs.Int.{int_min, int_max, int_gap}
use Rattle.sq_text.specs.declared.place.Place.{Place}
use Rattle.sq_text.specs.declared.word.Word.{Word}
use Rattle.sq_ast.specs.declared.expr.BinOp.{BinOp}
use Rattle.sq_ast.specs.declared.expr.BinOp.TheVariants as op
use Rattle.sq_ast.specs.declared.expr.ArgUse.{ArgUse, roll-ArgUse}
use Rattle.sq_ast.specs.declared.expr.Link.{Link, roll-Link}
use Rattle.sq_ast.specs.declared.expr.Expr.{Expr, roll-Expr}
use Rattle.sq_ast.specs.declared.expr.Expr.TheVariants as e
use Rattle.sq_ast.specs.declared.expr.Expr.TheOpen.{Expr-F, ArgUse-F, Link-F}
use Rattle.sq_ast.specs.declared.expr.Expr.TheFolds.{ind-Expr, ind-ArgUse, map-Expr, map-ArgUse, map-Link}
use Rattle.sq_ast.specs.declared.leaf.AssignOp.{AssignOp}
use Rattle.sq_ast.specs.declared.leaf.LeafStmt.{LeafStmt, roll-LeafStmt}
use Rattle.sq_ast.specs.declared.leaf.LeafStmt.TheVariants as leaf
use Rattle.sq_ast.specs.declared.leaf.LeafStmt.TheOpen.{LeafStmt-F}
use Rattle.sq_ast.specs.declared.leaf.LeafStmt.TheFolds.{ind-LeafStmt, map-LeafStmt}
use Rattle.sq_ast.specs.declared.program.Param.{Param}
use Rattle.sq_ast.specs.declared.program.Decl.{Decl}
use Rattle.sq_ast.specs.declared.program.Decl.TheVariants as decl
use Rattle.sq_ast.specs.declared.program.Body.{Body}
use Rattle.sq_ast.specs.declared.program.Body.TheVariants as body
use Rattle.sq_ast.specs.declared.program.Variant.{Variant}
use Rattle.sq_ast.specs.Unplaced.{nowhere, bare_word, bare_expr, bare_use, bare_link, bare_leaf, bare_param, bare_decl, bare_body, bare_variant}
use Rattle.sq_ast.proofs.Bare.{bare_number, bare_name, bare_element, bare_len, bare_unary, bare_chain, bare_least, bare_most, use_is, link_is, bare_assign, bare_if, bare_for}
use Rattle.sq_blocks.specs.Names.{Numbers}
use Rattle.sq_leaf.specs.declared.shape.Shape.{Shape}
use Rattle.sq_leaf.specs.declared.trap.Trap.{Trap}
use Rattle.sq_leaf.specs.declared.trap.TrapKind.TheVariants.{DivZero}
use Rattle.sq_leaf.specs.Numbers.{is_zero, unary, binary}
use Rattle.sq_leaf.specs.Outcome.{and_then, all, in_turn, turns}
use Rattle.sq_leaf.specs.Source.{Arrays, Scope, Given, Value, Side, Indexed, Change, array_of, number_of, coordinates, inside_or_trap, cell_at, divided, applied, linked, chained, in_order, element_of, expr_step, use_step, link_step, value_of, indexed, side_of, elem_of, assigned, assign_to, with_cell, within, counting, one_by_one, leaf_step, leaf_meaning, body_meaning}
use Rattle.sq_types.specs.Num.Elements.{cut}
use Rattle.sq_leaf.specs.Leaf.{local_names, arrays_of, scope_of, statements_in, statements_of, leaf_value}
use Rattle.sq_leaf.proofs.Opened.{value_number, value_name, value_element, value_len, value_unary, value_chain, value_least, value_most, value_use, value_link, means_assign, means_if, means_for}
use Rattle.sq_written_laws.specs.Places.{EndAlike}

-- ---- computations that end alike

module _ {A : Type 0} where
  pub alike_itself : (r : Result A Trap) → EndAlike r r
  alike_itself (Ok x) = refl
  alike_itself (Err t) = refl

  pub alike_back : (r q : Result A Trap) → EndAlike r q → EndAlike q r
  alike_back (Ok x) (Ok y) h = sym h
  alike_back (Ok x) (Err u) h = absurd h
  alike_back (Err t) (Ok y) h = absurd h
  alike_back (Err t) (Err u) h = sym h

  pub alike_through : (r q p : Result A Trap) → EndAlike r q → EndAlike q p → EndAlike r p
  alike_through (Ok x) (Ok y) (Ok z) h k = h ∙ k
  alike_through (Err t) (Err u) (Err w) h k = h ∙ k
  alike_through (Ok x) (Ok y) (Err w) h k = absurd k
  alike_through (Ok x) (Err u) p h k = absurd h
  alike_through (Err t) (Ok y) p h k = absurd h
  alike_through (Err t) (Err u) (Ok z) h k = absurd k

then_alike : {A B : Type 0} (r q : Result A Trap) (f g : A → Result B Trap) → EndAlike r q → ((x : A) → EndAlike (f x) (g x)) → EndAlike (and_then r f) (and_then q g)
then_alike (Ok x) (Ok y) f g h k = subst (λ z. EndAlike (f x) (g z)) h (k x)
then_alike (Ok x) (Err u) f g h k = absurd h
then_alike (Err t) (Ok y) f g h k = absurd h
then_alike (Err t) (Err u) f g h k = h

-- ---- elements and operators

inside_alike : (c : Option (List ℕ)) (p q : Place) → EndAlike (inside_or_trap c p) (inside_or_trap c q)
inside_alike (Some cs) p q = refl
inside_alike None p q = refl

cell_alike : (o : Option Shape) (p q : Place) (is : List ℤ) → EndAlike (cell_at o p is) (cell_at o q is)
cell_alike (Some shape) p q is = inside_alike (coordinates shape.extents is) p q
cell_alike None p q is = refl

divided_alike : (o : BinOp) (p q : Place) (x y : ℤ) → EndAlike (divided o p x y) (divided o q x y)
divided_alike o p q x y = by (is_zero y)
  where
    by : (v : Bool) → EndAlike (if v then Err (record { kind = DivZero; place = p }) else Ok (binary o x y)) (if v then Err (record { kind = DivZero; place = q }) else Ok (binary o x y))
    by true = refl
    by false = refl

applied_alike : (o : BinOp) (p q : Place) (x y : ℤ) → EndAlike (applied o p x y) (applied o q x y)
applied_alike op.Div p q x y = divided_alike op.Div p q x y
applied_alike op.Rem p q x y = divided_alike op.Rem p q x y
applied_alike op.OrElse p q x y = refl
applied_alike op.AndAlso p q x y = refl
applied_alike op.Or p q x y = refl
applied_alike op.Xor p q x y = refl
applied_alike op.And p q x y = refl
applied_alike op.Same p q x y = refl
applied_alike op.Differ p q x y = refl
applied_alike op.Less p q x y = refl
applied_alike op.AtMost p q x y = refl
applied_alike op.More p q x y = refl
applied_alike op.AtLeast p q x y = refl
applied_alike op.Shl p q x y = refl
applied_alike op.Shr p q x y = refl
applied_alike op.Add p q x y = refl
applied_alike op.Sub p q x y = refl
applied_alike op.Mul p q x y = refl

plain_alike : (o : BinOp) (p q : Place) (x : ℤ) (r s : Result ℤ Trap) → EndAlike r s → EndAlike (and_then r (applied o p x)) (and_then s (applied o q x))
plain_alike o p q x r s h = then_alike r s (applied o p x) (applied o q x) h (λ y. applied_alike o p q x y)

either_alike : {A : Type 0} (v : Bool) (r s r' s' : Result A Trap) → EndAlike r r' → EndAlike s s' → EndAlike (if v then r else s) (if v then r' else s')
either_alike true r s r' s' h k = h
either_alike false r s r' s' h k = k

linked_alike : (o : BinOp) (p q : Place) (x : ℤ) (r s : Result ℤ Trap) → EndAlike r s → EndAlike (linked o p x r) (linked o q x s)
linked_alike op.AndAlso p q x r s h = either_alike (is_zero x) (Ok (pos 0)) (and_then r (applied op.AndAlso p x)) (Ok (pos 0)) (and_then s (applied op.AndAlso q x)) refl (plain_alike op.AndAlso p q x r s h)
linked_alike op.OrElse p q x r s h = either_alike (is_zero x) (and_then r (applied op.OrElse p x)) (Ok (pos 1)) (and_then s (applied op.OrElse q x)) (Ok (pos 1)) (plain_alike op.OrElse p q x r s h) refl
linked_alike op.Or p q x r s h = plain_alike op.Or p q x r s h
linked_alike op.Xor p q x r s h = plain_alike op.Xor p q x r s h
linked_alike op.And p q x r s h = plain_alike op.And p q x r s h
linked_alike op.Same p q x r s h = plain_alike op.Same p q x r s h
linked_alike op.Differ p q x r s h = plain_alike op.Differ p q x r s h
linked_alike op.Less p q x r s h = plain_alike op.Less p q x r s h
linked_alike op.AtMost p q x r s h = plain_alike op.AtMost p q x r s h
linked_alike op.More p q x r s h = plain_alike op.More p q x r s h
linked_alike op.AtLeast p q x r s h = plain_alike op.AtLeast p q x r s h
linked_alike op.Shl p q x r s h = plain_alike op.Shl p q x r s h
linked_alike op.Shr p q x r s h = plain_alike op.Shr p q x r s h
linked_alike op.Add p q x r s h = plain_alike op.Add p q x r s h
linked_alike op.Sub p q x r s h = plain_alike op.Sub p q x r s h
linked_alike op.Mul p q x r s h = plain_alike op.Mul p q x r s h
linked_alike op.Div p q x r s h = plain_alike op.Div p q x r s h
linked_alike op.Rem p q x r s h = plain_alike op.Rem p q x r s h

-- ---- expressions

abbrev SameExpr : Expr → Type 0
SameExpr x = (s : Scope) (g : Given) (a : Arrays) → EndAlike (value_of (bare_expr x) s g a) (value_of x s g a)

pub record SameUse (u : ArgUse) : Type 0 where
  pub name : (indexed (bare_use u)).name ≡ (indexed u).name
  pub cells : (s : Scope) (g : Given) (a : Arrays) → EndAlike (element_of (indexed (bare_use u)) s g a) (element_of (indexed u) s g a)

abbrev SameLink : Link → Type 0
SameLink l = (s : Scope) (g : Given) (a : Arrays) (x : ℤ) → EndAlike (side_of (bare_link l) s g a x) (side_of l s g a x)

abbrev E : Type 0
E = (x : Expr) × SameExpr x

abbrev U : Type 0
U = (u : ArgUse) × SameUse u

abbrev L : Type 0
L = (l : Link) × SameLink l

across : (x : Expr) (v w : Value) → value_of (bare_expr x) ≡ v → value_of x ≡ w → ((s : Scope) (g : Given) (a : Arrays) → EndAlike (v s g a) (w s g a)) → SameExpr x
across x v w p q h s g a = subst (λ (f : Value). EndAlike (f s g a) (value_of x s g a)) (sym p) (subst (λ (f : Value). EndAlike (v s g a) (f s g a)) (sym q) (h s g a))

in_order_alike : (xs : List E) (s : Scope) (g : Given) (a : Arrays)
    → EndAlike (in_order (map value_of (map bare_expr (map (λ m. m.0) xs))) s g a) (in_order (map value_of (map (λ m. m.0) xs)) s g a)
in_order_alike [] s g a = refl
in_order_alike (x ∷ xs) s g a =
    then_alike (value_of (bare_expr x.0) s g a) (value_of x.0 s g a) _ _ (x.1 s g a) (λ v.
    then_alike (in_order (map value_of (map bare_expr (map (λ m. m.0) xs))) s g a) (in_order (map value_of (map (λ m. m.0) xs)) s g a) _ _ (in_order_alike xs s g a) (λ vs. refl))

chained_alike : (ls : List L) (s : Scope) (g : Given) (a : Arrays) (x : ℤ)
    → EndAlike (chained (map side_of (map bare_link (map (λ m. m.0) ls))) s g a x) (chained (map side_of (map (λ m. m.0) ls)) s g a x)
chained_alike [] s g a x = refl
chained_alike (l ∷ ls) s g a x =
    then_alike (side_of (bare_link l.0) s g a x) (side_of l.0 s g a x) _ _ (l.1 s g a x) (λ y. chained_alike ls s g a y)

expr_same : (y : Expr-F E U L) → SameExpr (roll-Expr (map-Expr E U L Expr ArgUse Link (λ p. p.0) (λ p. p.0) (λ p. p.0) y))
expr_same (Expr-F.Number n) = subst SameExpr (sym (e.rolls-Number n)) (across (e.Number n) _ _ (ap value_of (bare_number n) ∙ value_number n) (value_number n) (λ s g a. refl))
expr_same (Expr-F.Name w) = subst SameExpr (sym (e.rolls-Name w)) (across (e.Name w) _ _ (ap value_of (bare_name w) ∙ value_name (bare_word w)) (value_name w) (λ s g a. refl))
expr_same (Expr-F.Element u) = subst SameExpr (sym (e.rolls-Element u.0)) (across (e.Element u.0) _ _ (ap value_of (bare_element u.0) ∙ value_element (bare_use u.0)) (value_element u.0)
    (λ s g a. then_alike (element_of (indexed (bare_use u.0)) s g a) (element_of (indexed u.0) s g a) _ _ (u.1.cells s g a) (λ cs. ap (λ n. a (array_of s n) cs) u.1.name)))
expr_same (Expr-F.Len w) = subst SameExpr (sym (e.rolls-Len w)) (across (e.Len w) _ _ (ap value_of (bare_len w) ∙ value_len (bare_word w)) (value_len w) (λ s g a. refl))
expr_same (Expr-F.Unary p o x) = subst SameExpr (sym (e.rolls-Unary p o x.0)) (across (e.Unary p o x.0) _ _ (ap value_of (bare_unary p o x.0) ∙ value_unary nowhere o (bare_expr x.0)) (value_unary p o x.0)
    (λ s g a. then_alike (value_of (bare_expr x.0) s g a) (value_of x.0 s g a) _ _ (x.1 s g a) (λ v. refl)))
expr_same (Expr-F.Chain x ls) =
    let links = map (λ m. m.0) ls in
    subst SameExpr (sym (e.rolls-Chain x.0 links)) (across (e.Chain x.0 links) _ _ (ap value_of (bare_chain x.0 links) ∙ value_chain (bare_expr x.0) (map bare_link links)) (value_chain x.0 links)
    (λ s g a. then_alike (value_of (bare_expr x.0) s g a) (value_of x.0 s g a) _ _ (x.1 s g a) (λ v. chained_alike ls s g a v)))
expr_same (Expr-F.Least x y) = subst SameExpr (sym (e.rolls-Least x.0 y.0)) (across (e.Least x.0 y.0) _ _ (ap value_of (bare_least x.0 y.0) ∙ value_least (bare_expr x.0) (bare_expr y.0)) (value_least x.0 y.0)
    (λ s g a. then_alike (value_of (bare_expr x.0) s g a) (value_of x.0 s g a) _ _ (x.1 s g a) (λ v. then_alike (value_of (bare_expr y.0) s g a) (value_of y.0 s g a) _ _ (y.1 s g a) (λ w. refl))))
expr_same (Expr-F.Most x y) = subst SameExpr (sym (e.rolls-Most x.0 y.0)) (across (e.Most x.0 y.0) _ _ (ap value_of (bare_most x.0 y.0) ∙ value_most (bare_expr x.0) (bare_expr y.0)) (value_most x.0 y.0)
    (λ s g a. then_alike (value_of (bare_expr x.0) s g a) (value_of x.0 s g a) _ _ (x.1 s g a) (λ v. then_alike (value_of (bare_expr y.0) s g a) (value_of y.0 s g a) _ _ (y.1 s g a) (λ w. refl))))

use_same : (y : ArgUse-F E U L) → SameUse (roll-ArgUse (map-ArgUse E U L Expr ArgUse Link (λ p. p.0) (λ p. p.0) (λ p. p.0) y))
use_same y =
    let xs = map (λ m. m.0) y.index in
    let was = ap indexed (use_is y.place y.name xs) ∙ value_use nowhere y.name (map bare_expr xs) in
    let now = value_use y.place y.name xs in
    record {
      name = ap (λ u. u.name) was ∙ sym (ap (λ u. u.name) now);
      cells = λ s g a.
          subst (λ u. EndAlike (element_of u s g a) (element_of (indexed (roll-ArgUse (record { place = y.place; name = y.name; index = xs }))) s g a)) (sym was)
          (subst (λ u. EndAlike (element_of (use_step (record { place = nowhere; name = y.name; index = map value_of (map bare_expr xs) })) s g a) (element_of u s g a)) (sym now)
          (then_alike (in_order (map value_of (map bare_expr xs)) s g a) (in_order (map value_of xs) s g a) _ _ (in_order_alike y.index s g a)
          (λ is. cell_alike (slice_get g.shapes (array_of s y.name)) nowhere y.place is)));
    }

link_same : (y : Link-F E U L) → SameLink (roll-Link (map-Link E U L Expr ArgUse Link (λ p. p.0) (λ p. p.0) (λ p. p.0) y))
link_same y s g a x =
    let was = ap side_of (link_is y.place y.op y.right.0) ∙ value_link nowhere y.op (bare_expr y.right.0) in
    let now = value_link y.place y.op y.right.0 in
    subst (λ (f : Side). EndAlike (f s g a x) (side_of (roll-Link (record { place = y.place; op = y.op; right = y.right.0 })) s g a x)) (sym was)
    (subst (λ (f : Side). EndAlike (linked y.op nowhere x (value_of (bare_expr y.right.0) s g a)) (f s g a x)) (sym now)
    (linked_alike y.op nowhere y.place x (value_of (bare_expr y.right.0) s g a) (value_of y.right.0 s g a) (y.right.1 s g a)))

same_expr : (x : Expr) → SameExpr x
same_expr = ind-Expr SameExpr SameUse SameLink (λ x y is. subst (λ z. SameExpr (roll-Expr z)) is (expr_same y))
    (λ x y is. subst (λ z. SameUse (roll-ArgUse z)) is (use_same y)) (λ x y is. subst (λ z. SameLink (roll-Link z)) is (link_same y))

same_use : (u : ArgUse) → SameUse u
same_use = ind-ArgUse SameExpr SameUse SameLink (λ x y is. subst (λ z. SameExpr (roll-Expr z)) is (expr_same y))
    (λ x y is. subst (λ z. SameUse (roll-ArgUse z)) is (use_same y)) (λ x y is. subst (λ z. SameLink (roll-Link z)) is (link_same y))

-- ---- statements

abbrev SameStmt : LeafStmt → Type 0
SameStmt x = (s : Scope) (g : Given) (a : Arrays) → EndAlike (leaf_meaning (bare_leaf x) s g a) (leaf_meaning x s g a)

abbrev B : Type 0
B = (x : LeafStmt) × SameStmt x

abbrev stmts : List B → List LeafStmt
stmts xs = map (λ m. m.0) xs

between : (x : LeafStmt) (v w : Change) → leaf_meaning (bare_leaf x) ≡ v → leaf_meaning x ≡ w → ((s : Scope) (g : Given) (a : Arrays) → EndAlike (v s g a) (w s g a)) → SameStmt x
between x v w p q h s g a = subst (λ (f : Change). EndAlike (f s g a) (leaf_meaning x s g a)) (sym p) (subst (λ (f : Change). EndAlike (v s g a) (f s g a)) (sym q) (h s g a))

list_alike : (xs : List B) (s : Scope) (g : Given) (a : Arrays)
    → EndAlike (one_by_one (map leaf_meaning (map bare_leaf (stmts xs))) s g a) (one_by_one (map leaf_meaning (stmts xs)) s g a)
list_alike [] s g a = refl
list_alike (x ∷ xs) s g a = then_alike (leaf_meaning (bare_leaf x.0) s g a) (leaf_meaning x.0 s g a) _ _ (x.1 s g a) (λ b. list_alike xs s g b)

turns_alike : {A : Type 0} (n : ℕ) (i : ℤ) (f g : ℤ → A → Result A Trap) (a : A) → ((i : ℤ) (a : A) → EndAlike (f i a) (g i a)) → EndAlike (turns n i f a) (turns n i g a)
turns_alike zero i f g a h = refl
turns_alike (suc n) i f g a h = then_alike (f i a) (g i a) _ _ (h i a) (λ b. turns_alike n _ f g b h)

stored_alike : (t u : Indexed) (o : AssignOp) (v w : Value) (s : Scope) (g : Given) (a : Arrays) → t.name ≡ u.name → EndAlike (element_of t s g a) (element_of u s g a)
    → EndAlike (v s g a) (w s g a) → EndAlike (assign_to t o v s g a) (assign_to u o w s g a)
stored_alike t u o v w s g a same h k =
    then_alike (element_of t s g a) (element_of u s g a) _ _ h (λ cs.
    then_alike (v s g a) (w s g a) _ _ k (λ x.
    ap (λ n. with_cell (array_of s n) cs (cut (elem_of (slice_get g.shapes (array_of s n))) (assigned o (a (array_of s n) cs) x)) a) same))

stmt_same : (y : LeafStmt-F B) → SameStmt (roll-LeafStmt (map-LeafStmt B LeafStmt (λ m. m.0) y))
stmt_same (LeafStmt-F.Assign u o x) = subst SameStmt (sym (leaf.rolls-Assign u o x))
    (between (leaf.Assign u o x) _ _ (ap leaf_meaning (bare_assign u o x) ∙ means_assign (bare_use u) o (bare_expr x)) (means_assign u o x)
    (λ s g a. stored_alike (indexed (bare_use u)) (indexed u) o (value_of (bare_expr x)) (value_of x) s g a (same_use u).name ((same_use u).cells s g a) (same_expr x s g a)))
stmt_same (LeafStmt-F.If p x ys zs) = subst SameStmt (sym (leaf.rolls-If p x (stmts ys) (stmts zs)))
    (between (leaf.If p x (stmts ys) (stmts zs)) _ _ (ap leaf_meaning (bare_if p x (stmts ys) (stmts zs)) ∙ means_if nowhere (bare_expr x) (map bare_leaf (stmts ys)) (map bare_leaf (stmts zs))) (means_if p x (stmts ys) (stmts zs))
    (λ s g a. then_alike (value_of (bare_expr x) s g a) (value_of x s g a) _ _ (same_expr x s g a) (λ t.
    either_alike (is_zero t) (one_by_one (map leaf_meaning (map bare_leaf (stmts zs))) s g a) (one_by_one (map leaf_meaning (map bare_leaf (stmts ys))) s g a) (one_by_one (map leaf_meaning (stmts zs)) s g a) (one_by_one (map leaf_meaning (stmts ys)) s g a)
    (list_alike zs s g a) (list_alike ys s g a))))
stmt_same (LeafStmt-F.For c x t y u zs) = subst SameStmt (sym (leaf.rolls-For c x t y u (stmts zs)))
    (between (leaf.For c x t y u (stmts zs)) _ _ (ap leaf_meaning (bare_for c x t y u (stmts zs)) ∙ means_for (bare_word c) (bare_expr x) (bare_word t) (bare_expr y) (bare_word u) (map bare_leaf (stmts zs))) (means_for c x t y u (stmts zs))
    (λ s g a. then_alike (value_of (bare_expr x) s g a) (value_of x s g a) _ _ (same_expr x s g a) (λ from.
    then_alike (value_of (bare_expr y) s g a) (value_of y s g a) _ _ (same_expr y s g a) (λ end.
    turns_alike (int_gap from end) from _ _ a (λ i b. list_alike zs (within s c.name) (counting g i) b)))))

same_stmt : (x : LeafStmt) → SameStmt x
same_stmt = ind-LeafStmt SameStmt (λ x y is. subst (λ z. SameStmt (roll-LeafStmt z)) is (stmt_same y))

-- ---- leaves

body_alike : (xs : List LeafStmt) (s : Scope) (g : Given) (a : Arrays) → EndAlike (body_meaning (map bare_leaf xs) s g a) (body_meaning xs s g a)
body_alike [] s g a = refl
body_alike (x ∷ xs) s g a = then_alike (leaf_meaning (bare_leaf x) s g a) (leaf_meaning x s g a) _ _ (same_stmt x s g a) (λ b. body_alike xs s g b)

bare_statements : (b : Body) → statements_in (bare_body b) ≡ map bare_leaf (statements_in b)
bare_statements (body.Inner list) = refl
bare_statements (body.Leaf list) = refl

param_names : (ps : List Param) → map (λ p. p.name) (map bare_param ps) ≡ map (λ p. p.name) ps
param_names [] = refl
param_names (p ∷ ps) = ap (λ ns. p.name ∷ ns) (param_names ps)

bare_locals : (ds : List Decl) → local_names (map bare_decl ds) ≡ local_names ds
bare_locals [] = refl
bare_locals (decl.Tunable p n ∷ ds) = bare_locals ds
bare_locals (decl.List p n ∷ ds) = bare_locals ds
bare_locals (decl.Local p t n xs ∷ ds) = ap (λ ns. n ∷ ns) (bare_locals ds)
bare_locals (decl.Rchop p n a xs ∷ ds) = bare_locals ds
bare_locals (decl.Ichop p n a b c ∷ ds) = bare_locals ds

bare_scope : (v : Variant) (numbers : Numbers) → scope_of (bare_variant v) numbers ≡ scope_of v numbers
bare_scope v numbers = ap₂ (λ ps ls. record { counters = []; numbers = numbers; arrays = ps ++ ls }) (param_names v.params) (bare_locals v.decls)

bare_means : (v : Variant) (numbers : Numbers) (shapes : List Shape) (a : Arrays)
    → EndAlike (leaf_value (record { variant = bare_variant v; numbers = numbers }) shapes a) (leaf_value (record { variant = v; numbers = numbers }) shapes a)
bare_means v numbers shapes a =
    let g : Given = record { counters = []; shapes = shapes } in
    subst (λ list. EndAlike (body_meaning list (scope_of (bare_variant v) numbers) g a) (body_meaning (statements_of v) (scope_of v numbers) g a)) (sym (bare_statements v.body))
    (subst (λ s. EndAlike (body_meaning (map bare_leaf (statements_of v)) s g a) (body_meaning (statements_of v) (scope_of v numbers) g a)) (sym (bare_scope v numbers))
    (body_alike (statements_of v) (scope_of v numbers) g a))

pub leaves_mean : (v u : Variant) → bare_variant v ≡ bare_variant u → (numbers : Numbers) (shapes : List Shape) (a : Arrays)
    → EndAlike (leaf_value (record { variant = v; numbers = numbers }) shapes a) (leaf_value (record { variant = u; numbers = numbers }) shapes a)
leaves_mean v u same numbers shapes a =
    alike_through (leaf_value (record { variant = v; numbers = numbers }) shapes a) (leaf_value (record { variant = bare_variant v; numbers = numbers }) shapes a) (leaf_value (record { variant = u; numbers = numbers }) shapes a)
    (alike_back (leaf_value (record { variant = bare_variant v; numbers = numbers }) shapes a) (leaf_value (record { variant = v; numbers = numbers }) shapes a) (bare_means v numbers shapes a))
    (subst (λ b. EndAlike (leaf_value (record { variant = b; numbers = numbers }) shapes a) (leaf_value (record { variant = u; numbers = numbers }) shapes a)) (sym same) (bare_means u numbers shapes a))
