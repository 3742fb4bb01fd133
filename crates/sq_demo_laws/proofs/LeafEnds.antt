-- The demo's leaf code doesn't trap: each index is below its extent.
use Rattle.std.proofs.Common.{◌≡◌, ℕ, zero, suc, ◌+◌, ◌<◌, ℤ, pos, List, [], ◌∷◌, codes, Some, Result, Ok, Err, refl, sym, ◌∙◌, ap, subst, arith}
use Rattle.std.proofs.Math.Path.{fun_ext}
use Rattle.std.proofs.lemmas.Bool.Decides.{Decides-ltb}
use Rattle.std.specs.Int.{int_gap}
use Rattle.sq_num.specs.declared.Elem.TheVariants.{Int}
use Rattle.sq_text.specs.declared.place.Place.{Place}
use Rattle.sq_text.specs.declared.word.Word.{Word}
use Rattle.sq_ast.specs.declared.expr.BinOp.TheVariants as op
use Rattle.sq_ast.specs.declared.expr.Expr.TheVariants as e
use Rattle.sq_ast.specs.declared.expr.Expr.TheOpen.{Expr-F}
use Rattle.sq_ast.specs.declared.leaf.AssignOp.TheVariants as assign
use Rattle.sq_ast.specs.declared.leaf.LeafStmt.{LeafStmt}
use Rattle.sq_ast.specs.declared.leaf.LeafStmt.TheVariants as leafs
use Rattle.sq_ast.specs.Grammar.{link_of, use_of}
use Rattle.sq_blocks.specs.Names.{Numbers}
use Rattle.sq_leaf.specs.declared.shape.Shape.{Shape}
use Rattle.sq_leaf.specs.declared.trap.Trap.{Trap}
use Rattle.sq_leaf.specs.Source.{Arrays, Scope, Given, Value, Indexed, Change, number_of, array_of, coordinates, element_of, value_of, indexed, side_of, link_step, linked, expr_step, assign_to, within, counting, one_by_one, leaf_meaning}
use Rattle.sq_leaf.specs.Outcome.{and_then, turns}
use Rattle.sq_leaf.specs.Leaf.{leaf_value}
use Rattle.sq_leaf.proofs.Opened.{value_number, value_name, value_element, value_chain, value_use, value_link, means_assign, means_for}
use Rattle.sq_demo_laws.specs.Texts.{at}
use Rattle.sq_demo_laws.specs.Tree.{word, target, product, addition, loop_i, loop_j, loop_k, leaf_variant}

-- ---- what ends without a fault

abbrev pub Ends : {A E : Type 0} → Result A E → Type 0
Ends (Ok a) = Unit {0}
Ends (Err e) = ⊥

then_ends : {A B : Type 0} (r : Result A Trap) (f : A → Result B Trap) → Ends r → ((a : A) → Ends (f a))
    → Ends (and_then r f)
then_ends (Ok a) f h k = k a
then_ends (Err t) f h k = absurd h

turns_end : {S : Type 0} (n b : ℕ) (f : ℤ → S → Result S Trap) → ((j : ℕ) → j < n → (s : S) → Ends (f (pos (b + j)) s))
    → (s : S)
    → Ends (turns n (pos b) f s)
turns_end zero b f h s = tt
turns_end (suc n) b f h s =
    let first : Ends (f (pos (b + 0)) s) = h 0 (omega arith) s in
    let at_b : b + 0 ≡ b = omega arith in
    then_ends (f (pos b) s) (turns n (pos (b + 1)) f) (subst (λ m. Ends (f (pos m) s)) at_b first)
    (turns_end n (b + 1) f (λ j l t. let m : b + suc j ≡ (b + 1) + j = omega arith in
    subst (λ m. Ends (f (pos m) t)) m (h (suc j) (omega (arith, l)) t)))

-- ---- what its parts mean, by functions that compute

abbrev pub named : List ℕ → Value
named name s g a = Ok (number_of s name g)

value_named : (w : Word) → value_of (e.Name w) ≡ named w.name
value_named w = value_name w

abbrev pub indexed_by : Word → (x y : List ℕ) → Indexed
indexed_by w x y = record { place = w.place; name = w.name; index = named x ∷ named y ∷ [] }

indexed_is : (w x y : Word) → indexed (use_of w (e.Name x ∷ e.Name y ∷ [])) ≡ indexed_by w x.name y.name
indexed_is w x y =
    value_use w.place w.name (e.Name x ∷ e.Name y ∷ [])
    ∙ ap (λ (v : Value). record { place = w.place; name = w.name; index = v ∷ value_of (e.Name y) ∷ [] })
    (value_named x)
    ∙ ap (λ (v : Value). record { place = w.place; name = w.name; index = named x.name ∷ v ∷ [] }) (value_named y)

-- an element at two names
abbrev pub element_by : Word → (x y : List ℕ) → Value
element_by w x y s g a = and_then (element_of (indexed_by w x y) s g a) (λ cs. Ok (a (array_of s w.name) cs))

element_is : (w x y : Word) → value_of (e.Element (use_of w (e.Name x ∷ e.Name y ∷ []))) ≡ element_by w x.name y.name
element_is w x y =
    value_element (use_of w (e.Name x ∷ e.Name y ∷ []))
    ∙ ap (λ (u : Indexed). expr_step (Expr-F.Element u)) (indexed_is w x y)

abbrev pub product_by : Value
product_by s g a =
    and_then (element_by (word 18 20 (codes "A")) (codes "i") (codes "k") s g a)
    (λ x. and_then (linked op.Mul (at 18 28) x (element_by (word 18 30 (codes "B")) (codes "k") (codes "j") s g a))
    (λ y. Ok y))

chain_is : (left right : Value) (p : Place)
    → expr_step (Expr-F.Chain left (link_step (record { place = p; op = op.Mul; right = right }) ∷ []))
    ≡ (λ s g a. and_then (left s g a) (λ x. and_then (linked op.Mul p x (right s g a)) (λ y. Ok y)))
chain_is left right p = refl

product_is : value_of product ≡ product_by
product_is =
    let first : Value = element_by (word 18 20 (codes "A")) (codes "i") (codes "k") in
    let second : Value = element_by (word 18 30 (codes "B")) (codes "k") (codes "j") in
    let a = e.Element (use_of (word 18 20 (codes "A")) (e.Name (word 18 22 (codes "i"))
    ∷ e.Name (word 18 25 (codes "k")) ∷ [])) in
    let b = e.Element (use_of (word 18 30 (codes "B")) (e.Name (word 18 32 (codes "k"))
    ∷ e.Name (word 18 35 (codes "j")) ∷ [])) in
    value_chain a (link_of (at 18 28) op.Mul b ∷ [])
    ∙ ap (λ v. expr_step (Expr-F.Chain v (side_of (link_of (at 18 28) op.Mul b) ∷ [])))
    (element_is (word 18 20 (codes "A")) (word 18 22 (codes "i")) (word 18 25 (codes "k")))
    ∙ ap (λ w. expr_step (Expr-F.Chain first (w ∷ []))) (value_link (at 18 28) op.Mul b)
    ∙ ap (λ (v : Value). expr_step
    (Expr-F.Chain first (link_step (record { place = at 18 28; op = op.Mul; right = v }) ∷ [])))
    (element_is (word 18 30 (codes "B")) (word 18 32 (codes "k")) (word 18 35 (codes "j")))
    ∙ chain_is first second (at 18 28)

abbrev pub addition_by : Change
addition_by s g a = assign_to (indexed_by (word 18 9 (codes "C")) (codes "i") (codes "j")) assign.Add product_by s g a

addition_is : leaf_meaning addition ≡ addition_by
addition_is =
    means_assign target assign.Add product
    ∙ ap (λ (u : Indexed). λ s g a. assign_to u assign.Add (value_of product) s g a)
    (indexed_is (word 18 9 (codes "C")) (word 18 11 (codes "i")) (word 18 14 (codes "j")))
    ∙ ap (λ (v : Value). λ s g a. assign_to (indexed_by (word 18 9 (codes "C")) (codes "i") (codes "j")) assign.Add v s
    g a) product_is

-- a loop from 0 to a name's number
abbrev pub loop_by : (counter bound : List ℕ) → Change → Change
loop_by counter bound body s g a =
    turns (int_gap (pos 0) (number_of s bound g)) (pos 0)
    (λ i. one_by_one (body ∷ []) (within s counter) (counting g i)) a

loop_is : (w t y u : Word) (b : LeafStmt) (body : Change) → leaf_meaning b ≡ body
    → leaf_meaning (leafs.For w (e.Number (pos 0)) t (e.Name y) u (b ∷ [])) ≡ loop_by w.name y.name body
loop_is w t y u b body is =
    means_for w (e.Number (pos 0)) t (e.Name y) u (b ∷ [])
    ∙ fun_ext (λ s. fun_ext (λ g. fun_ext (λ a.
    ap (λ (v : Value). and_then (v s g a) (λ from. and_then (value_of (e.Name y) s g a) (λ end.
    turns (int_gap from end) from (λ i. one_by_one (leaf_meaning b ∷ []) (within s w.name) (counting g i)) a)))
    (value_number (pos 0))
    ∙ ap (λ (v : Value). and_then (v s g a) (λ end.
    turns (int_gap (pos 0) end) (pos 0) (λ i. one_by_one (leaf_meaning b ∷ []) (within s w.name) (counting g i)) a))
    (value_named y)
    ∙ ap (λ (c : Change). loop_by w.name y.name c s g a) is)))

abbrev pub loops_by : Change
loops_by = loop_by (codes "i") (codes "M")
    (loop_by (codes "j") (codes "N") (loop_by (codes "k") (codes "P") addition_by))

loops_are : leaf_meaning loop_i ≡ loops_by
loops_are =
    loop_is (word 15 12 (codes "i")) (word 15 19 (codes "i")) (word 15 23 (codes "M")) (word 15 26 (codes "i")) loop_j _
    (loop_is (word 16 14 (codes "j")) (word 16 21 (codes "j")) (word 16 25 (codes "N")) (word 16 28 (codes "j")) loop_k
    _
    (loop_is (word 17 16 (codes "k")) (word 17 23 (codes "k")) (word 17 27 (codes "P")) (word 17 30 (codes "k"))
    addition addition_by addition_is))

-- ---- it ends

abbrev pub eights : Numbers
eights = (codes "M", pos 8) ∷ (codes "P", pos 8) ∷ (codes "N", pos 8) ∷ []

abbrev pub eight_by_eight : Shape
eight_by_eight = record { elem = Int; extents = 8 ∷ 8 ∷ [] }

abbrev pub given_at : List ℤ → Given
given_at counters = record { counters = counters; shapes = eight_by_eight ∷ eight_by_eight ∷ eight_by_eight ∷ [] }

abbrev pub scope_in : List (List ℕ) → Scope
scope_in counters = record { counters = counters; numbers = eights; arrays = codes "A" ∷ codes "B" ∷ codes "C" ∷ [] }

inside : (i j : ℕ) → i < 8 → j < 8 → coordinates (8 ∷ 8 ∷ []) (pos i ∷ pos j ∷ []) ≡ Some (i ∷ j ∷ [])
inside i j h k = rw ((Decides-ltb i 8).1 h, (Decides-ltb j 8).1 k) refl

addition_ends : (i j k : ℕ) → i < 8 → j < 8 → k < 8 → (a : Arrays)
    → Ends (addition_by (scope_in (codes "i" ∷ codes "j" ∷ codes "k" ∷ [])) (given_at (pos i ∷ pos j ∷ pos k ∷ [])) a)
addition_ends i j k hi hj hk a = rw (inside i j hi hj, inside i k hi hk, inside k j hk hj) tt

one_ends : (c : Change) (s : Scope) (g : Given) (a : Arrays) → Ends (c s g a) → Ends (one_by_one (c ∷ []) s g a)
one_ends c s g a h = then_ends (c s g a) (λ b. Ok b) h (λ b. tt)

loop_k_ends : (i j : ℕ) → i < 8 → j < 8 → (a : Arrays)
    → Ends (loop_by (codes "k") (codes "P") addition_by (scope_in (codes "i" ∷ codes "j" ∷ []))
    (given_at (pos i ∷ pos j ∷ [])) a)
loop_k_ends i j hi hj a =
    turns_end 8 0 (λ k. one_by_one (addition_by ∷ []) (scope_in (codes "i" ∷ codes "j" ∷ codes "k" ∷ []))
    (given_at (pos i ∷ pos j ∷ k ∷ [])))
    (λ k hk b. let at_k : k ≡ 0 + k = omega arith in
    subst (λ k. Ends (one_by_one (addition_by ∷ []) (scope_in (codes "i" ∷ codes "j" ∷ codes "k" ∷ []))
    (given_at (pos i ∷ pos j ∷ pos k ∷ [])) b)) at_k
    (one_ends addition_by (scope_in (codes "i" ∷ codes "j" ∷ codes "k" ∷ [])) (given_at (pos i ∷ pos j ∷ pos k ∷ [])) b
    (addition_ends i j k hi hj hk b))) a

loop_j_ends : (i : ℕ) → i < 8 → (a : Arrays)
    → Ends (loop_by (codes "j") (codes "N") (loop_by (codes "k") (codes "P") addition_by) (scope_in (codes "i" ∷ []))
    (given_at (pos i ∷ [])) a)
loop_j_ends i hi a =
    turns_end 8 0 (λ j. one_by_one (loop_by (codes "k") (codes "P") addition_by ∷ [])
    (scope_in (codes "i" ∷ codes "j" ∷ [])) (given_at (pos i ∷ j ∷ [])))
    (λ j hj b. let at_j : j ≡ 0 + j = omega arith in
    subst (λ j. Ends (one_by_one (loop_by (codes "k") (codes "P") addition_by ∷ [])
    (scope_in (codes "i" ∷ codes "j" ∷ [])) (given_at (pos i ∷ pos j ∷ [])) b)) at_j
    (one_ends (loop_by (codes "k") (codes "P") addition_by) (scope_in (codes "i" ∷ codes "j" ∷ []))
    (given_at (pos i ∷ pos j ∷ [])) b (loop_k_ends i j hi hj b))) a

loop_i_ends : (a : Arrays) → Ends (loops_by (scope_in []) (given_at []) a)
loop_i_ends a =
    turns_end 8 0 (λ i. one_by_one (loop_by (codes "j") (codes "N") (loop_by (codes "k") (codes "P") addition_by) ∷ [])
    (scope_in (codes "i" ∷ [])) (given_at (i ∷ [])))
    (λ i hi b. let at_i : i ≡ 0 + i = omega arith in
    subst (λ i. Ends (one_by_one (loop_by (codes "j") (codes "N") (loop_by (codes "k") (codes "P") addition_by) ∷ [])
    (scope_in (codes "i" ∷ [])) (given_at (pos i ∷ [])) b)) at_i
    (one_ends (loop_by (codes "j") (codes "N") (loop_by (codes "k") (codes "P") addition_by))
    (scope_in (codes "i" ∷ [])) (given_at (pos i ∷ [])) b (loop_j_ends i hi b))) a

pub leaf_ends : (a : Arrays)
    → Ends (leaf_value (record { variant = leaf_variant; numbers = eights }) (eight_by_eight ∷ eight_by_eight
    ∷ eight_by_eight ∷ []) a)
leaf_ends a =
    subst (λ (c : Change). Ends (one_by_one (c ∷ []) (scope_in []) (given_at []) a)) (sym loops_are)
    (one_ends loops_by (scope_in []) (given_at []) a (loop_i_ends a))
