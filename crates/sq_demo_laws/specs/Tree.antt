-- The tree of the demo's program.
use Rattle.std.specs.Prelude.{ℕ, pos, List, [], ◌∷◌, codes}
use Rattle.sq_text.specs.declared.word.Word.{Word}
use Rattle.sq_num.specs.declared.Elem.TheVariants as elem
use Rattle.sq_ast.specs.declared.expr.ArgUse.{ArgUse}
use Rattle.sq_ast.specs.declared.expr.BinOp.TheVariants as op
use Rattle.sq_ast.specs.declared.expr.Expr.{Expr}
use Rattle.sq_ast.specs.declared.expr.Expr.TheVariants as e
use Rattle.sq_ast.specs.declared.leaf.AssignOp.TheVariants as assign
use Rattle.sq_ast.specs.declared.leaf.LeafStmt.{LeafStmt}
use Rattle.sq_ast.specs.declared.leaf.LeafStmt.TheVariants as leafs
use Rattle.sq_ast.specs.declared.stmt.Call.{Call}
use Rattle.sq_ast.specs.declared.stmt.MapKind.TheVariants.{Par, Seq}
use Rattle.sq_ast.specs.declared.stmt.Stmt.{Stmt}
use Rattle.sq_ast.specs.declared.stmt.Stmt.TheVariants as s
use Rattle.sq_ast.specs.declared.program.Mode.{Mode}
use Rattle.sq_ast.specs.declared.program.Mode.TheVariants as mode
use Rattle.sq_ast.specs.declared.program.VariantKind.TheVariants as kinds
use Rattle.sq_ast.specs.declared.program.Extent.TheVariants.{Size}
use Rattle.sq_ast.specs.declared.program.Param.{Param}
use Rattle.sq_ast.specs.declared.program.Decl.{Decl}
use Rattle.sq_ast.specs.declared.program.Decl.TheVariants as declared
use Rattle.sq_ast.specs.declared.program.Body.TheVariants as bodies
use Rattle.sq_ast.specs.declared.program.Variant.{Variant}
use Rattle.sq_ast.specs.declared.program.Program.{Program}
use Rattle.sq_ast.specs.Grammar.{link_of, use_of, call_of, range_of, param_of}
use Rattle.sq_demo_laws.specs.Texts.{at}

abbrev pub word : (line col : ℕ) → List ℕ → Word
word line col name = record { place = at line col; name = name }

-- ---- the inner variant

-- the bounds of the maps, from line 8 on
abbrev pub bound_i : Expr
bound_i = e.Chain (e.Name (word 8 24 (codes "M"))) (link_of (at 8 25) op.Div (e.Name (word 8 26 (codes "U"))) ∷ [])

abbrev pub bound_j : Expr
bound_j = e.Chain (e.Name (word 8 42 (codes "N"))) (link_of (at 8 43) op.Div (e.Name (word 8 44 (codes "V"))) ∷ [])

abbrev pub bound_k : Expr
bound_k = e.Chain (e.Name (word 9 26 (codes "P"))) (link_of (at 9 27) op.Div (e.Name (word 9 28 (codes "X"))) ∷ [])

-- `Ab[i][k]`, `Bb[k][j]` and `Cb[i][j]`
abbrev pub argument_Ab : ArgUse
argument_Ab =
    use_of (word 10 14 (codes "Ab")) (e.Name (word 10 17 (codes "i")) ∷ e.Name (word 10 20 (codes "k")) ∷ [])

abbrev pub argument_Bb : ArgUse
argument_Bb =
    use_of (word 10 24 (codes "Bb")) (e.Name (word 10 27 (codes "k")) ∷ e.Name (word 10 30 (codes "j")) ∷ [])

abbrev pub argument_Cb : ArgUse
argument_Cb =
    use_of (word 10 34 (codes "Cb")) (e.Name (word 10 37 (codes "i")) ∷ e.Name (word 10 40 (codes "j")) ∷ [])

abbrev pub product_call : Call
product_call = call_of (word 10 7 (codes "matmul")) (argument_Ab ∷ argument_Bb ∷ argument_Cb ∷ [])

-- the map over k
abbrev pub products_map : Stmt
products_map = s.Map (at 9 5) Seq (range_of (word 9 17 (codes "k")) bound_k ∷ []) (s.Call product_call ∷ [])

-- the map over i and j
abbrev pub blocks_map : Stmt
blocks_map =
    s.Map (at 8 3) Par
    (range_of (word 8 15 (codes "i")) bound_i ∷ range_of (word 8 33 (codes "j")) bound_j ∷ [])
    (products_map ∷ [])

-- a matrix of ints
abbrev pub matrix : Mode → Word → (rows columns : Word) → Param
matrix way name rows columns =
    param_of way elem.Int name (Size rows.place rows.name ∷ Size columns.place columns.name ∷ [])

abbrev pub inner_params : List Param
inner_params =
    matrix mode.Input (word 1 32 (codes "A")) (word 1 34 (codes "M")) (word 1 37 (codes "P"))
    ∷ matrix mode.Input (word 1 48 (codes "B")) (word 1 50 (codes "P")) (word 1 53 (codes "N"))
    ∷ matrix mode.Both (word 1 67 (codes "C")) (word 1 69 (codes "M")) (word 1 72 (codes "N"))
    ∷ []

-- the blocks of an array, by the names of their sizes
abbrev pub blocks_of : Word → Word → (x y : Word) → Decl
blocks_of name array x y = declared.Rchop name.place name.name array (e.Name x ∷ e.Name y ∷ [])

abbrev pub inner_decls : List Decl
inner_decls =
    declared.Tunable (at 2 15) (codes "U")
    ∷ declared.Tunable (at 3 15) (codes "X")
    ∷ declared.Tunable (at 4 15) (codes "V")
    ∷ blocks_of (word 5 10 (codes "Ab")) (word 5 21 (codes "A")) (word 5 24 (codes "U")) (word 5 27 (codes "X"))
    ∷ blocks_of (word 6 10 (codes "Bb")) (word 6 21 (codes "B")) (word 6 24 (codes "X")) (word 6 27 (codes "V"))
    ∷ blocks_of (word 7 10 (codes "Cb")) (word 7 21 (codes "C")) (word 7 24 (codes "U")) (word 7 27 (codes "V"))
    ∷ []

abbrev pub inner_variant : Variant
inner_variant = record {
  place = at 1 11;
  task = codes "matmul";
  kind = kinds.Inner;
  params = inner_params;
  decls = inner_decls;
  body = bodies.Inner (blocks_map ∷ []);
}

-- ---- the leaf variant

-- `C[i][j]`
abbrev pub target : ArgUse
target = use_of (word 18 9 (codes "C")) (e.Name (word 18 11 (codes "i")) ∷ e.Name (word 18 14 (codes "j")) ∷ [])

-- `A[i][k]` and `B[k][j]`
abbrev pub left_element : Expr
left_element =
    e.Element (use_of (word 18 20 (codes "A")) (e.Name (word 18 22 (codes "i")) ∷ e.Name (word 18 25 (codes "k")) ∷ []))

abbrev pub right_element : Expr
right_element =
    e.Element (use_of (word 18 30 (codes "B")) (e.Name (word 18 32 (codes "k")) ∷ e.Name (word 18 35 (codes "j")) ∷ []))

abbrev pub product : Expr
product = e.Chain left_element (link_of (at 18 28) op.Mul right_element ∷ [])

abbrev pub addition : LeafStmt
addition = leafs.Assign target assign.Add product

-- from 0 up to a name's number
abbrev pub loop_to : (counter tested bound stepped : Word) → LeafStmt → LeafStmt
loop_to counter tested bound stepped body =
    leafs.For counter (e.Number (pos 0)) tested (e.Name bound) stepped (body ∷ [])

abbrev pub loop_k : LeafStmt
loop_k =
    loop_to (word 17 16 (codes "k")) (word 17 23 (codes "k")) (word 17 27 (codes "P")) (word 17 30 (codes "k")) addition

abbrev pub loop_j : LeafStmt
loop_j =
    loop_to (word 16 14 (codes "j")) (word 16 21 (codes "j")) (word 16 25 (codes "N")) (word 16 28 (codes "j")) loop_k

abbrev pub loop_i : LeafStmt
loop_i =
    loop_to (word 15 12 (codes "i")) (word 15 19 (codes "i")) (word 15 23 (codes "M")) (word 15 26 (codes "i")) loop_j

abbrev pub leaf_params : List Param
leaf_params =
    matrix mode.Input (word 14 31 (codes "A")) (word 14 33 (codes "M")) (word 14 36 (codes "P"))
    ∷ matrix mode.Input (word 14 47 (codes "B")) (word 14 49 (codes "P")) (word 14 52 (codes "N"))
    ∷ matrix mode.Both (word 14 66 (codes "C")) (word 14 68 (codes "M")) (word 14 71 (codes "N"))
    ∷ []

abbrev pub leaf_variant : Variant
leaf_variant = record {
  place = at 14 11;
  task = codes "matmul";
  kind = kinds.Leaf;
  params = leaf_params;
  decls = [];
  body = bodies.Leaf (loop_i ∷ []);
}

-- ---- the program

abbrev pub demo_tree : Program
demo_tree = record { tasks = inner_variant ∷ leaf_variant ∷ [] }
