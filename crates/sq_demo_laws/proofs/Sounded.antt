-- The demo's program has no fault of names, kinds or parameters.
use Rattle.std.proofs.Common.{◌≡◌, ℕ, pos, Bool, true, false, ◌&&◌, List, [], ◌∷◌, codes, take, refl, sym, ◌∙◌, ap}
use Rattle.sq_text.specs.declared.fault.Fault.{Fault}
use Rattle.sq_text.specs.declared.place.Place.{Place}
use Rattle.sq_text.specs.declared.word.Word.{Word}
use Rattle.sq_ast.specs.declared.expr.BinOp.{BinOp}
use Rattle.sq_ast.specs.declared.expr.BinOp.TheVariants as op
use Rattle.sq_ast.specs.declared.expr.Expr.{Expr}
use Rattle.sq_ast.specs.declared.expr.Expr.TheVariants as e
use Rattle.sq_ast.specs.declared.leaf.AssignOp.TheVariants as assign
use Rattle.sq_ast.specs.declared.leaf.LeafStmt.{LeafStmt}
use Rattle.sq_ast.specs.declared.leaf.LeafStmt.TheVariants as leafs
use Rattle.sq_ast.specs.declared.stmt.MapKind.TheVariants.{Par, Seq}
use Rattle.sq_ast.specs.declared.stmt.Range.{Range}
use Rattle.sq_ast.specs.declared.stmt.Stmt.TheVariants as s
use Rattle.sq_ast.specs.declared.stmt.Stmt.TheOpen.{Stmt-F}
use Rattle.sq_ast.specs.declared.program.Variant.{Variant}
use Rattle.sq_ast.specs.Grammar.{link_of, use_of, range_of}
use Rattle.sq_types.specs.declared.kind.Kind.TheVariants as kind
use Rattle.sq_types.specs.Known.{Known, with_name, kind_of}
use Rattle.sq_types.specs.Sites.{TypeFault, params_of, params_known, decls_known, ranges_known}
use Rattle.sq_types.specs.Sound.{Test, StmtTest, names_number, has_dims, is_sound_expr, are_sound_exprs, is_sound_head, is_sound_leaf, stmt_test, tested, are_sound_bounds, are_new_variables, all_hold, are_sound_stmts, are_sound_leaves, are_sound_params, is_sound_call, is_sound, are_sound_decls, is_sound_variant}
use Rattle.sq_types.proofs.SoundExprs.{sound_name, sound_number, sound_chain, sound_link, sound_element}
use Rattle.sq_types.proofs.SoundStmts.{sound_assign, sound_for, tested_call, tested_map}
use Rattle.sq_types.proofs.Soundness.{unsound_with_fault}
use Rattle.sq_demo_laws.specs.Texts.{at}
use Rattle.sq_demo_laws.specs.Tree.{word, bound_i, bound_j, bound_k, product_call, products_map, blocks_map, inner_params, inner_decls, inner_variant, target, product, addition, loop_i, loop_j, loop_k, leaf_params, leaf_variant, demo_tree}
use Rattle.sq_demo_laws.proofs.Tests.{and_true}

-- ---- tests that hold

name_sound : (w : Word) (known : Known) → names_number w.name known ≡ true → is_sound_expr (e.Name w) known ≡ true
name_sound w known h = ap (λ (t : Test). t known) (sound_name w) ∙ h

number_sound : (n : ℕ) (known : Known) → is_sound_expr (e.Number (pos n)) known ≡ true
number_sound n known = ap (λ (t : Test). t known) (sound_number (pos n))

two_sound : (x y : Word) (known : Known) → names_number x.name known ≡ true → names_number y.name known ≡ true
    → are_sound_exprs (e.Name x ∷ e.Name y ∷ []) known ≡ true
two_sound x y known h k =
    and_true (is_sound_expr (e.Name x) known) (is_sound_expr (e.Name y) known && true) (name_sound x known h)
    (and_true (is_sound_expr (e.Name y) known) true (name_sound y known k) refl)

-- two sides of an operator
chain_sound : (x y : Expr) (p : Place) (o : BinOp) (known : Known) → is_sound_expr x known ≡ true
    → is_sound_expr y known ≡ true
    → is_sound_expr (e.Chain x (link_of p o y ∷ [])) known ≡ true
chain_sound x y p o known h k =
    ap (λ (t : Test). t known) (sound_chain x (link_of p o y ∷ []))
    ∙ ap (λ (t : Test). is_sound_expr x known && (t known && true)) (sound_link (link_of p o y))
    ∙ and_true (is_sound_expr x known) (is_sound_expr y known && true) h (and_true (is_sound_expr y known) true k refl)

element_sound : (w x y : Word) (known : Known) → has_dims 2 (kind_of known w.name) ≡ true
    → names_number x.name known ≡ true → names_number y.name known ≡ true
    → is_sound_expr (e.Element (use_of w (e.Name x ∷ e.Name y ∷ []))) known ≡ true
element_sound w x y known d h k =
    ap (λ (t : Test). t known) (sound_element (use_of w (e.Name x ∷ e.Name y ∷ [])))
    ∙ and_true (has_dims 2 (kind_of known w.name)) (are_sound_exprs (e.Name x ∷ e.Name y ∷ []) known) d
    (two_sound x y known h k)

-- ---- what is known

abbrev inner_known : Known
inner_known = decls_known inner_decls (params_known inner_params [])

abbrev blocks_ranges : List Range
blocks_ranges = range_of (word 8 15 (codes "i")) bound_i ∷ range_of (word 8 33 (codes "j")) bound_j ∷ []

abbrev products_ranges : List Range
products_ranges = range_of (word 9 17 (codes "k")) bound_k ∷ []

abbrev blocks_known : Known
blocks_known = ranges_known blocks_ranges inner_known

abbrev call_known : Known
call_known = ranges_known products_ranges blocks_known

abbrev leaf_known : Known
leaf_known = params_known leaf_params []

abbrev i_known : Known
i_known = with_name leaf_known (codes "i") kind.Variable

abbrev j_known : Known
j_known = with_name i_known (codes "j") kind.Variable

abbrev k_known : Known
k_known = with_name j_known (codes "k") kind.Variable

-- ---- the inner variant

abbrev tasks : List Variant
tasks = demo_tree.tasks

call_sound : is_sound_call tasks product_call call_known ≡ true
call_sound =
    and_true (are_sound_exprs (e.Name (word 10 17 (codes "i")) ∷ e.Name (word 10 20 (codes "k")) ∷ []) call_known) _
    (two_sound (word 10 17 (codes "i")) (word 10 20 (codes "k")) call_known refl refl)
    (and_true (are_sound_exprs (e.Name (word 10 27 (codes "k")) ∷ e.Name (word 10 30 (codes "j")) ∷ []) call_known) _
    (two_sound (word 10 27 (codes "k")) (word 10 30 (codes "j")) call_known refl refl)
    (and_true (are_sound_exprs (e.Name (word 10 37 (codes "i")) ∷ e.Name (word 10 40 (codes "j")) ∷ []) call_known) true
    (two_sound (word 10 37 (codes "i")) (word 10 40 (codes "j")) call_known refl refl) refl))

quotient_sound : (x y : Word) (p : Place) (known : Known) → names_number x.name known ≡ true
    → names_number y.name known ≡ true
    → is_sound_expr (e.Chain (e.Name x) (link_of p op.Div (e.Name y) ∷ [])) known ≡ true
quotient_sound x y p known h k = chain_sound (e.Name x) (e.Name y) p op.Div known (name_sound x known h)
    (name_sound y known k)

abbrev inside_test : StmtTest
inside_test = stmt_test tasks
    (Stmt-F.Map (at 9 5) Seq products_ranges (stmt_test tasks (Stmt-F.Call product_call) ∷ []))

inside_is : tested tasks products_map ≡ inside_test
inside_is =
    tested_map tasks (at 9 5) Seq products_ranges (s.Call product_call ∷ [])
    ∙ ap (λ (t : StmtTest). stmt_test tasks (Stmt-F.Map (at 9 5) Seq products_ranges (t ∷ [])))
    (tested_call tasks product_call)

whole_is : tested tasks blocks_map ≡ stmt_test tasks (Stmt-F.Map (at 8 3) Par blocks_ranges (inside_test ∷ []))
whole_is =
    tested_map tasks (at 8 3) Par blocks_ranges (products_map ∷ [])
    ∙ ap (λ (t : StmtTest). stmt_test tasks (Stmt-F.Map (at 8 3) Par blocks_ranges (t ∷ []))) inside_is

all_true : (a b c d : Bool) → a ≡ true → b ≡ true → c ≡ true → d ≡ true → (a && (b && (c && d))) ≡ true
all_true a b c d h i j k = and_true a (b && (c && d)) h (and_true b (c && d) i (and_true c d j k))

bounds_k : are_sound_bounds products_ranges blocks_known ≡ true
bounds_k =
    and_true (is_sound_expr bound_k blocks_known) true
    (quotient_sound (word 9 26 (codes "P")) (word 9 28 (codes "X")) (at 9 27) blocks_known refl refl) refl

inside_calls : all_hold (is_sound_call tasks product_call ∷ []) call_known ≡ true
inside_calls = and_true (is_sound_call tasks product_call call_known) true call_sound refl

inside_sound : inside_test.test blocks_known ≡ true
inside_sound =
    all_true (are_sound_bounds products_ranges blocks_known) true (are_new_variables products_ranges blocks_known)
    (all_hold (is_sound_call tasks product_call ∷ []) call_known) bounds_k refl refl inside_calls

bounds_ij : are_sound_bounds blocks_ranges inner_known ≡ true
bounds_ij =
    and_true (is_sound_expr bound_i inner_known) (is_sound_expr bound_j inner_known && true)
    (quotient_sound (word 8 24 (codes "M")) (word 8 26 (codes "U")) (at 8 25) inner_known refl refl)
    (and_true (is_sound_expr bound_j inner_known) true
    (quotient_sound (word 8 42 (codes "N")) (word 8 44 (codes "V")) (at 8 43) inner_known refl refl) refl)

inside_holds : all_hold (inside_test.test ∷ []) blocks_known ≡ true
inside_holds = and_true (inside_test.test blocks_known) true inside_sound refl

body_sound : (tested tasks blocks_map).test inner_known ≡ true
body_sound =
    ap (λ (t : StmtTest). t.test inner_known) whole_is
    ∙ all_true (are_sound_bounds blocks_ranges inner_known) true (are_new_variables blocks_ranges inner_known)
    (all_hold (inside_test.test ∷ []) blocks_known) bounds_ij refl refl inside_holds

-- what is known behind so many declarations
abbrev after_sets : ℕ → Known
after_sets n = decls_known (take n inner_decls) (params_known inner_params [])

decls_sound : are_sound_decls 3 inner_decls (params_known inner_params []) ≡ true
decls_sound =
    and_true (are_sound_exprs (e.Name (word 5 24 (codes "U")) ∷ e.Name (word 5 27 (codes "X")) ∷ []) (after_sets 4)) _
    (two_sound (word 5 24 (codes "U")) (word 5 27 (codes "X")) (after_sets 4) refl refl)
    (and_true (are_sound_exprs (e.Name (word 6 24 (codes "X")) ∷ e.Name (word 6 27 (codes "V")) ∷ []) (after_sets 5)) _
    (two_sound (word 6 24 (codes "X")) (word 6 27 (codes "V")) (after_sets 5) refl refl)
    (and_true (are_sound_exprs (e.Name (word 7 24 (codes "U")) ∷ e.Name (word 7 27 (codes "V")) ∷ []) (after_sets 6))
    true
    (two_sound (word 7 24 (codes "U")) (word 7 27 (codes "V")) (after_sets 6) refl refl) refl))

-- ---- the leaf variant

addition_sound : is_sound_leaf addition k_known ≡ true
addition_sound =
    ap (λ (t : Test). t k_known) (sound_assign target assign.Add product)
    ∙ and_true (are_sound_exprs (e.Name (word 18 11 (codes "i")) ∷ e.Name (word 18 14 (codes "j")) ∷ []) k_known) _
    (two_sound (word 18 11 (codes "i")) (word 18 14 (codes "j")) k_known refl refl)
    (chain_sound (e.Element (use_of (word 18 20 (codes "A")) (e.Name (word 18 22 (codes "i"))
    ∷ e.Name (word 18 25 (codes "k")) ∷ [])))
    (e.Element (use_of (word 18 30 (codes "B")) (e.Name (word 18 32 (codes "k")) ∷ e.Name (word 18 35 (codes "j"))
    ∷ []))) (at 18 28) op.Mul k_known
    (element_sound (word 18 20 (codes "A")) (word 18 22 (codes "i")) (word 18 25 (codes "k")) k_known refl refl refl)
    (element_sound (word 18 30 (codes "B")) (word 18 32 (codes "k")) (word 18 35 (codes "j")) k_known refl refl refl))

-- a loop from 0 to a name
loop_sound : (w t y u : Word) (b : LeafStmt) (known : Known)
    → is_sound_head w (e.Number (pos 0)) t (e.Name y) u known ≡ true
    → is_sound_leaf b (with_name known w.name kind.Variable) ≡ true
    → is_sound_leaf (leafs.For w (e.Number (pos 0)) t (e.Name y) u (b ∷ [])) known ≡ true
loop_sound w t y u b known h k =
    ap (λ (test : Test). test known) (sound_for w (e.Number (pos 0)) t (e.Name y) u (b ∷ []))
    ∙ and_true (is_sound_head w (e.Number (pos 0)) t (e.Name y) u known) _ h
    (and_true (is_sound_leaf b (with_name known w.name kind.Variable)) true k refl)

head_k : is_sound_head (word 17 16 (codes "k")) (e.Number (pos 0)) (word 17 23 (codes "k"))
    (e.Name (word 17 27 (codes "P"))) (word 17 30 (codes "k")) j_known ≡ true
head_k = and_true (is_sound_expr (e.Number (pos 0)) j_known) _ (number_sound 0 j_known)
    (and_true (is_sound_expr (e.Name (word 17 27 (codes "P"))) j_known) true
    (name_sound (word 17 27 (codes "P")) j_known refl) refl)

head_j : is_sound_head (word 16 14 (codes "j")) (e.Number (pos 0)) (word 16 21 (codes "j"))
    (e.Name (word 16 25 (codes "N"))) (word 16 28 (codes "j")) i_known ≡ true
head_j = and_true (is_sound_expr (e.Number (pos 0)) i_known) _ (number_sound 0 i_known)
    (and_true (is_sound_expr (e.Name (word 16 25 (codes "N"))) i_known) true
    (name_sound (word 16 25 (codes "N")) i_known refl) refl)

head_i : is_sound_head (word 15 12 (codes "i")) (e.Number (pos 0)) (word 15 19 (codes "i"))
    (e.Name (word 15 23 (codes "M"))) (word 15 26 (codes "i")) leaf_known ≡ true
head_i = and_true (is_sound_expr (e.Number (pos 0)) leaf_known) _ (number_sound 0 leaf_known)
    (and_true (is_sound_expr (e.Name (word 15 23 (codes "M"))) leaf_known) true
    (name_sound (word 15 23 (codes "M")) leaf_known refl) refl)

loops_sound : is_sound_leaf loop_i leaf_known ≡ true
loops_sound =
    loop_sound (word 15 12 (codes "i")) (word 15 19 (codes "i")) (word 15 23 (codes "M")) (word 15 26 (codes "i"))
    loop_j leaf_known head_i
    (loop_sound (word 16 14 (codes "j")) (word 16 21 (codes "j")) (word 16 25 (codes "N")) (word 16 28 (codes "j"))
    loop_k i_known head_j
    (loop_sound (word 17 16 (codes "k")) (word 17 23 (codes "k")) (word 17 27 (codes "P")) (word 17 30 (codes "k"))
    addition j_known head_k addition_sound))

-- ---- the program

body_holds : are_sound_stmts tasks (blocks_map ∷ []) inner_known ≡ true
body_holds = and_true ((tested tasks blocks_map).test inner_known) true body_sound refl

inner_params_sound : are_sound_params (params_of tasks (codes "matmul")) 0 inner_params [] ≡ true
inner_params_sound = refl

inner_sound : is_sound_variant tasks false inner_variant ≡ true
inner_sound =
    all_true true (are_sound_params (params_of tasks (codes "matmul")) 0 inner_params [])
    (are_sound_decls 3 inner_decls (params_known inner_params []))
    (are_sound_stmts tasks (blocks_map ∷ []) inner_known) refl inner_params_sound decls_sound body_holds

leaf_params_sound : are_sound_params (params_of tasks (codes "matmul")) 0 leaf_params [] ≡ true
leaf_params_sound = refl

leaves_sound : are_sound_leaves (loop_i ∷ []) leaf_known ≡ true
leaves_sound = and_true (is_sound_leaf loop_i leaf_known) true loops_sound refl

leaf_sound : is_sound_variant tasks false leaf_variant ≡ true
leaf_sound =
    all_true true (are_sound_params (params_of tasks (codes "matmul")) 0 leaf_params []) true
    (are_sound_leaves (loop_i ∷ []) leaf_known)
    refl leaf_params_sound refl leaves_sound

pub program_is_sound : is_sound demo_tree ≡ true
program_is_sound =
    and_true (is_sound_variant tasks false inner_variant) (is_sound_variant tasks false leaf_variant && true)
    inner_sound
    (and_true (is_sound_variant tasks false leaf_variant) true leaf_sound refl)

pub no_type_fault : (f : Fault) → TypeFault demo_tree f → ⊥
no_type_fault f h = let bad : is_sound demo_tree ≡ false = unsound_with_fault demo_tree f h in let e : true ≡ false =
    sym program_is_sound ∙ bad in cc
