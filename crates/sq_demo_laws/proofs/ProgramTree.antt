-- The tokens of the demo's program stand for its tree.
use Rattle.std.proofs.Common.{◌≡◌, pos, List, [], ◌∷◌, codes, refl}
use Rattle.sq_lexer.specs.declared.token.Sign.TheVariants as g
use Rattle.sq_ast.specs.declared.keyword.Keyword.TheVariants as k
use Rattle.sq_ast.specs.declared.expr.BinOp.TheVariants as op
use Rattle.sq_ast.specs.declared.expr.Expr.TheVariants as e
use Rattle.sq_ast.specs.declared.program.Decl.TheVariants as declared
use Rattle.sq_ast.specs.Symbols.{Word, Number, Key, Mark, Last, symbols, keyword_of}
use Rattle.sq_ast.specs.Grammar.{Leveled, at as leveled, kinds, IsText, Derives, Many, One, Task, Any, link_of, use_of, no_more, one_more, a_list, a_next, a_void_task, an_inner, a_leaf, a_param, an_extent, tunables, an_rchop, a_call_stmt, a_map, a_range, a_call, an_arg, an_index, an_assignment, a_for, bare, an_operand, a_chain, a_link, a_number, a_name, an_element}
use Rattle.sq_demo_laws.specs.Texts.{at, program_tokens}
use Rattle.sq_demo_laws.specs.Tree.{word, bound_i, bound_j, bound_k, argument_Ab, argument_Bb, argument_Cb, inner_variant, leaf_variant, demo_tree}

-- the tokens with their levels
unfoldable pub leaf_leveled : List Leveled
leaf_leveled =
    leveled (Key (at 14 1) k.Void) 0 ∷ leveled (Key (at 14 6) k.Task) 0 ∷
    leveled (Word (at 14 11) (codes "matmul")) 0 ∷ leveled (Mark (at 14 17) g.Path) 0 ∷
    leveled (Key (at 14 19) k.Leaf) 0 ∷ leveled (Mark (at 14 23) g.ParenOpen) 1 ∷ leveled (Key (at 14 24) k.In) 1 ∷
    leveled (Key (at 14 27) k.Int) 1 ∷ leveled (Word (at 14 31) (codes "A")) 1 ∷
    leveled (Mark (at 14 32) g.BracketOpen) 2 ∷ leveled (Word (at 14 33) (codes "M")) 2 ∷
    leveled (Mark (at 14 34) g.BracketClose) 1 ∷ leveled (Mark (at 14 35) g.BracketOpen) 2 ∷
    leveled (Word (at 14 36) (codes "P")) 2 ∷ leveled (Mark (at 14 37) g.BracketClose) 1 ∷
    leveled (Mark (at 14 38) g.Comma) 1 ∷ leveled (Key (at 14 40) k.In) 1 ∷ leveled (Key (at 14 43) k.Int) 1 ∷
    leveled (Word (at 14 47) (codes "B")) 1 ∷ leveled (Mark (at 14 48) g.BracketOpen) 2 ∷
    leveled (Word (at 14 49) (codes "P")) 2 ∷ leveled (Mark (at 14 50) g.BracketClose) 1 ∷
    leveled (Mark (at 14 51) g.BracketOpen) 2 ∷ leveled (Word (at 14 52) (codes "N")) 2 ∷
    leveled (Mark (at 14 53) g.BracketClose) 1 ∷ leveled (Mark (at 14 54) g.Comma) 1 ∷
    leveled (Key (at 14 56) k.Inout) 1 ∷ leveled (Key (at 14 62) k.Int) 1 ∷
    leveled (Word (at 14 66) (codes "C")) 1 ∷ leveled (Mark (at 14 67) g.BracketOpen) 2 ∷
    leveled (Word (at 14 68) (codes "M")) 2 ∷ leveled (Mark (at 14 69) g.BracketClose) 1 ∷
    leveled (Mark (at 14 70) g.BracketOpen) 2 ∷ leveled (Word (at 14 71) (codes "N")) 2 ∷
    leveled (Mark (at 14 72) g.BracketClose) 1 ∷ leveled (Mark (at 14 73) g.ParenClose) 0 ∷
    leveled (Mark (at 14 75) g.BraceOpen) 1 ∷ leveled (Key (at 15 3) k.For) 1 ∷
    leveled (Mark (at 15 7) g.ParenOpen) 2 ∷ leveled (Key (at 15 8) k.Int) 2 ∷
    leveled (Word (at 15 12) (codes "i")) 2 ∷ leveled (Mark (at 15 14) g.Set) 2 ∷
    leveled (Number (at 15 16) (pos 0)) 2 ∷ leveled (Mark (at 15 17) g.Semi) 2 ∷
    leveled (Word (at 15 19) (codes "i")) 2 ∷ leveled (Mark (at 15 21) g.Less) 2 ∷
    leveled (Word (at 15 23) (codes "M")) 2 ∷ leveled (Mark (at 15 24) g.Semi) 2 ∷
    leveled (Word (at 15 26) (codes "i")) 2 ∷ leveled (Mark (at 15 27) g.PlusPlus) 2 ∷
    leveled (Mark (at 15 29) g.ParenClose) 1 ∷ leveled (Key (at 16 5) k.For) 2 ∷
    leveled (Mark (at 16 9) g.ParenOpen) 3 ∷ leveled (Key (at 16 10) k.Int) 3 ∷
    leveled (Word (at 16 14) (codes "j")) 3 ∷ leveled (Mark (at 16 16) g.Set) 3 ∷
    leveled (Number (at 16 18) (pos 0)) 3 ∷ leveled (Mark (at 16 19) g.Semi) 3 ∷
    leveled (Word (at 16 21) (codes "j")) 3 ∷ leveled (Mark (at 16 23) g.Less) 3 ∷
    leveled (Word (at 16 25) (codes "N")) 3 ∷ leveled (Mark (at 16 26) g.Semi) 3 ∷
    leveled (Word (at 16 28) (codes "j")) 3 ∷ leveled (Mark (at 16 29) g.PlusPlus) 3 ∷
    leveled (Mark (at 16 31) g.ParenClose) 2 ∷ leveled (Key (at 17 7) k.For) 3 ∷
    leveled (Mark (at 17 11) g.ParenOpen) 4 ∷ leveled (Key (at 17 12) k.Int) 4 ∷
    leveled (Word (at 17 16) (codes "k")) 4 ∷ leveled (Mark (at 17 18) g.Set) 4 ∷
    leveled (Number (at 17 20) (pos 0)) 4 ∷ leveled (Mark (at 17 21) g.Semi) 4 ∷
    leveled (Word (at 17 23) (codes "k")) 4 ∷ leveled (Mark (at 17 25) g.Less) 4 ∷
    leveled (Word (at 17 27) (codes "P")) 4 ∷ leveled (Mark (at 17 28) g.Semi) 4 ∷
    leveled (Word (at 17 30) (codes "k")) 4 ∷ leveled (Mark (at 17 31) g.PlusPlus) 4 ∷
    leveled (Mark (at 17 33) g.ParenClose) 3 ∷ leveled (Word (at 18 9) (codes "C")) 4 ∷
    leveled (Mark (at 18 10) g.BracketOpen) 5 ∷ leveled (Word (at 18 11) (codes "i")) 5 ∷
    leveled (Mark (at 18 12) g.BracketClose) 4 ∷ leveled (Mark (at 18 13) g.BracketOpen) 5 ∷
    leveled (Word (at 18 14) (codes "j")) 5 ∷ leveled (Mark (at 18 15) g.BracketClose) 4 ∷
    leveled (Mark (at 18 17) g.PlusSet) 4 ∷ leveled (Word (at 18 20) (codes "A")) 4 ∷
    leveled (Mark (at 18 21) g.BracketOpen) 5 ∷ leveled (Word (at 18 22) (codes "i")) 5 ∷
    leveled (Mark (at 18 23) g.BracketClose) 4 ∷ leveled (Mark (at 18 24) g.BracketOpen) 5 ∷
    leveled (Word (at 18 25) (codes "k")) 5 ∷ leveled (Mark (at 18 26) g.BracketClose) 4 ∷
    leveled (Mark (at 18 28) g.Star) 4 ∷ leveled (Word (at 18 30) (codes "B")) 4 ∷
    leveled (Mark (at 18 31) g.BracketOpen) 5 ∷ leveled (Word (at 18 32) (codes "k")) 5 ∷
    leveled (Mark (at 18 33) g.BracketClose) 4 ∷ leveled (Mark (at 18 34) g.BracketOpen) 5 ∷
    leveled (Word (at 18 35) (codes "j")) 5 ∷ leveled (Mark (at 18 36) g.BracketClose) 4 ∷
    leveled (Mark (at 18 37) g.Semi) 4 ∷ leveled (Mark (at 19 1) g.BraceClose) 0 ∷ leveled (Last (at 20 1)) 0 ∷ []

unfoldable pub inner_leveled : List Leveled → List Leveled
inner_leveled later =
    leveled (Key (at 1 1) k.Void) 0 ∷ leveled (Key (at 1 6) k.Task) 0 ∷
    leveled (Word (at 1 11) (codes "matmul")) 0 ∷ leveled (Mark (at 1 17) g.Path) 0 ∷
    leveled (Key (at 1 19) k.Inner) 0 ∷ leveled (Mark (at 1 24) g.ParenOpen) 1 ∷ leveled (Key (at 1 25) k.In) 1 ∷
    leveled (Key (at 1 28) k.Int) 1 ∷ leveled (Word (at 1 32) (codes "A")) 1 ∷
    leveled (Mark (at 1 33) g.BracketOpen) 2 ∷ leveled (Word (at 1 34) (codes "M")) 2 ∷
    leveled (Mark (at 1 35) g.BracketClose) 1 ∷ leveled (Mark (at 1 36) g.BracketOpen) 2 ∷
    leveled (Word (at 1 37) (codes "P")) 2 ∷ leveled (Mark (at 1 38) g.BracketClose) 1 ∷
    leveled (Mark (at 1 39) g.Comma) 1 ∷ leveled (Key (at 1 41) k.In) 1 ∷ leveled (Key (at 1 44) k.Int) 1 ∷
    leveled (Word (at 1 48) (codes "B")) 1 ∷ leveled (Mark (at 1 49) g.BracketOpen) 2 ∷
    leveled (Word (at 1 50) (codes "P")) 2 ∷ leveled (Mark (at 1 51) g.BracketClose) 1 ∷
    leveled (Mark (at 1 52) g.BracketOpen) 2 ∷ leveled (Word (at 1 53) (codes "N")) 2 ∷
    leveled (Mark (at 1 54) g.BracketClose) 1 ∷ leveled (Mark (at 1 55) g.Comma) 1 ∷
    leveled (Key (at 1 57) k.Inout) 1 ∷ leveled (Key (at 1 63) k.Int) 1 ∷ leveled (Word (at 1 67) (codes "C")) 1 ∷
    leveled (Mark (at 1 68) g.BracketOpen) 2 ∷ leveled (Word (at 1 69) (codes "M")) 2 ∷
    leveled (Mark (at 1 70) g.BracketClose) 1 ∷ leveled (Mark (at 1 71) g.BracketOpen) 2 ∷
    leveled (Word (at 1 72) (codes "N")) 2 ∷ leveled (Mark (at 1 73) g.BracketClose) 1 ∷
    leveled (Mark (at 1 74) g.ParenClose) 0 ∷ leveled (Mark (at 1 76) g.BraceOpen) 1 ∷
    leveled (Key (at 2 3) k.Tunable) 1 ∷ leveled (Key (at 2 11) k.Int) 1 ∷ leveled (Word (at 2 15) (codes "U")) 1 ∷
    leveled (Mark (at 2 16) g.Semi) 1 ∷ leveled (Key (at 3 3) k.Tunable) 1 ∷ leveled (Key (at 3 11) k.Int) 1 ∷
    leveled (Word (at 3 15) (codes "X")) 1 ∷ leveled (Mark (at 3 16) g.Semi) 1 ∷
    leveled (Key (at 4 3) k.Tunable) 1 ∷ leveled (Key (at 4 11) k.Int) 1 ∷ leveled (Word (at 4 15) (codes "V")) 1 ∷
    leveled (Mark (at 4 16) g.Semi) 1 ∷ leveled (Key (at 5 3) k.Blkset) 1 ∷
    leveled (Word (at 5 10) (codes "Ab")) 1 ∷ leveled (Mark (at 5 13) g.Set) 1 ∷
    leveled (Key (at 5 15) k.Rchop) 1 ∷ leveled (Mark (at 5 20) g.ParenOpen) 2 ∷
    leveled (Word (at 5 21) (codes "A")) 2 ∷ leveled (Mark (at 5 22) g.Comma) 2 ∷
    leveled (Word (at 5 24) (codes "U")) 2 ∷ leveled (Mark (at 5 25) g.Comma) 2 ∷
    leveled (Word (at 5 27) (codes "X")) 2 ∷ leveled (Mark (at 5 28) g.ParenClose) 1 ∷
    leveled (Mark (at 5 29) g.Semi) 1 ∷ leveled (Key (at 6 3) k.Blkset) 1 ∷
    leveled (Word (at 6 10) (codes "Bb")) 1 ∷ leveled (Mark (at 6 13) g.Set) 1 ∷
    leveled (Key (at 6 15) k.Rchop) 1 ∷ leveled (Mark (at 6 20) g.ParenOpen) 2 ∷
    leveled (Word (at 6 21) (codes "B")) 2 ∷ leveled (Mark (at 6 22) g.Comma) 2 ∷
    leveled (Word (at 6 24) (codes "X")) 2 ∷ leveled (Mark (at 6 25) g.Comma) 2 ∷
    leveled (Word (at 6 27) (codes "V")) 2 ∷ leveled (Mark (at 6 28) g.ParenClose) 1 ∷
    leveled (Mark (at 6 29) g.Semi) 1 ∷ leveled (Key (at 7 3) k.Blkset) 1 ∷
    leveled (Word (at 7 10) (codes "Cb")) 1 ∷ leveled (Mark (at 7 13) g.Set) 1 ∷
    leveled (Key (at 7 15) k.Rchop) 1 ∷ leveled (Mark (at 7 20) g.ParenOpen) 2 ∷
    leveled (Word (at 7 21) (codes "C")) 2 ∷ leveled (Mark (at 7 22) g.Comma) 2 ∷
    leveled (Word (at 7 24) (codes "U")) 2 ∷ leveled (Mark (at 7 25) g.Comma) 2 ∷
    leveled (Word (at 7 27) (codes "V")) 2 ∷ leveled (Mark (at 7 28) g.ParenClose) 1 ∷
    leveled (Mark (at 7 29) g.Semi) 1 ∷ leveled (Key (at 8 3) k.Mappar) 1 ∷
    leveled (Mark (at 8 10) g.ParenOpen) 2 ∷ leveled (Key (at 8 11) k.Int) 2 ∷
    leveled (Word (at 8 15) (codes "i")) 2 ∷ leveled (Mark (at 8 17) g.Set) 2 ∷
    leveled (Number (at 8 19) (pos 0)) 2 ∷ leveled (Key (at 8 21) k.To) 2 ∷
    leveled (Word (at 8 24) (codes "M")) 2 ∷ leveled (Mark (at 8 25) g.Slash) 2 ∷
    leveled (Word (at 8 26) (codes "U")) 2 ∷ leveled (Mark (at 8 27) g.Comma) 2 ∷ leveled (Key (at 8 29) k.Int) 2 ∷
    leveled (Word (at 8 33) (codes "j")) 2 ∷ leveled (Mark (at 8 35) g.Set) 2 ∷
    leveled (Number (at 8 37) (pos 0)) 2 ∷ leveled (Key (at 8 39) k.To) 2 ∷
    leveled (Word (at 8 42) (codes "N")) 2 ∷ leveled (Mark (at 8 43) g.Slash) 2 ∷
    leveled (Word (at 8 44) (codes "V")) 2 ∷ leveled (Mark (at 8 45) g.ParenClose) 1 ∷
    leveled (Mark (at 8 47) g.BraceOpen) 2 ∷ leveled (Key (at 9 5) k.Mapseq) 2 ∷
    leveled (Mark (at 9 12) g.ParenOpen) 3 ∷ leveled (Key (at 9 13) k.Int) 3 ∷
    leveled (Word (at 9 17) (codes "k")) 3 ∷ leveled (Mark (at 9 19) g.Set) 3 ∷
    leveled (Number (at 9 21) (pos 0)) 3 ∷ leveled (Key (at 9 23) k.To) 3 ∷
    leveled (Word (at 9 26) (codes "P")) 3 ∷ leveled (Mark (at 9 27) g.Slash) 3 ∷
    leveled (Word (at 9 28) (codes "X")) 3 ∷ leveled (Mark (at 9 29) g.ParenClose) 2 ∷
    leveled (Mark (at 9 31) g.BraceOpen) 3 ∷ leveled (Word (at 10 7) (codes "matmul")) 3 ∷
    leveled (Mark (at 10 13) g.ParenOpen) 4 ∷ leveled (Word (at 10 14) (codes "Ab")) 4 ∷
    leveled (Mark (at 10 16) g.BracketOpen) 5 ∷ leveled (Word (at 10 17) (codes "i")) 5 ∷
    leveled (Mark (at 10 18) g.BracketClose) 4 ∷ leveled (Mark (at 10 19) g.BracketOpen) 5 ∷
    leveled (Word (at 10 20) (codes "k")) 5 ∷ leveled (Mark (at 10 21) g.BracketClose) 4 ∷
    leveled (Mark (at 10 22) g.Comma) 4 ∷ leveled (Word (at 10 24) (codes "Bb")) 4 ∷
    leveled (Mark (at 10 26) g.BracketOpen) 5 ∷ leveled (Word (at 10 27) (codes "k")) 5 ∷
    leveled (Mark (at 10 28) g.BracketClose) 4 ∷ leveled (Mark (at 10 29) g.BracketOpen) 5 ∷
    leveled (Word (at 10 30) (codes "j")) 5 ∷ leveled (Mark (at 10 31) g.BracketClose) 4 ∷
    leveled (Mark (at 10 32) g.Comma) 4 ∷ leveled (Word (at 10 34) (codes "Cb")) 4 ∷
    leveled (Mark (at 10 36) g.BracketOpen) 5 ∷ leveled (Word (at 10 37) (codes "i")) 5 ∷
    leveled (Mark (at 10 38) g.BracketClose) 4 ∷ leveled (Mark (at 10 39) g.BracketOpen) 5 ∷
    leveled (Word (at 10 40) (codes "j")) 5 ∷ leveled (Mark (at 10 41) g.BracketClose) 4 ∷
    leveled (Mark (at 10 42) g.ParenClose) 3 ∷ leveled (Mark (at 10 43) g.Semi) 3 ∷
    leveled (Mark (at 11 5) g.BraceClose) 2 ∷ leveled (Mark (at 12 3) g.BraceClose) 1 ∷
    leveled (Mark (at 13 1) g.BraceClose) 0 ∷ later

leaf_derived : Derives (One Task 0 leaf_variant) leaf_leveled (leveled (Last (at 20 1)) 0 ∷ [])
unfolding leaf_leveled
leaf_derived = a_void_task
    (a_leaf {w = word 14 11 (codes "matmul")} {ds = []}
    (a_list (a_param {w = word 14 31 (codes "A")} refl refl (an_extent refl) (one_more refl (an_extent refl) (no_more)))
    (one_more refl (a_next (a_param {w = word 14 47 (codes "B")} refl refl (an_extent refl)
    (one_more refl (an_extent refl) (no_more))))
    (one_more refl (a_next (a_param {w = word 14 66 (codes "C")} refl refl (an_extent refl)
    (one_more refl (an_extent refl) (no_more)))) (no_more)))) (no_more)
    (one_more refl (a_for {counter = word 15 12 (codes "i")} {tested = word 15 19 (codes "i")}
    {stepped = word 15 26 (codes "i")}
    (a_chain {x = e.Number (pos 0)} {xs = []}
    (a_chain {x = e.Number (pos 0)} {xs = []}
    (a_chain {x = e.Number (pos 0)} {xs = []}
    (a_chain {x = e.Number (pos 0)} {xs = []}
    (a_chain {x = e.Number (pos 0)} {xs = []}
    (a_chain {x = e.Number (pos 0)} {xs = []}
    (a_chain {x = e.Number (pos 0)} {xs = []}
    (a_chain {x = e.Number (pos 0)} {xs = []}
    (a_chain {x = e.Number (pos 0)} {xs = []} (a_chain {x = e.Number (pos 0)} {xs = []} (an_operand (a_number)) no_more)
    no_more) no_more) no_more) no_more) no_more) no_more) no_more) no_more) no_more)
    (a_chain {x = e.Name (word 15 23 (codes "M"))} {xs = []}
    (a_chain {x = e.Name (word 15 23 (codes "M"))} {xs = []}
    (a_chain {x = e.Name (word 15 23 (codes "M"))} {xs = []}
    (a_chain {x = e.Name (word 15 23 (codes "M"))} {xs = []}
    (a_chain {x = e.Name (word 15 23 (codes "M"))} {xs = []}
    (a_chain {x = e.Name (word 15 23 (codes "M"))} {xs = []}
    (a_chain {x = e.Name (word 15 23 (codes "M"))} {xs = []}
    (a_chain {x = e.Name (word 15 23 (codes "M"))} {xs = []}
    (a_chain {x = e.Name (word 15 23 (codes "M"))} {xs = []}
    (a_chain {x = e.Name (word 15 23 (codes "M"))} {xs = []}
    (an_operand (an_element {w = word 15 23 (codes "M")} {xs = []} no_more)) no_more) no_more) no_more) no_more)
    no_more) no_more) no_more) no_more) no_more) no_more)
    (bare (a_for {counter = word 16 14 (codes "j")} {tested = word 16 21 (codes "j")} {stepped = word 16 28 (codes "j")}
    (a_chain {x = e.Number (pos 0)} {xs = []}
    (a_chain {x = e.Number (pos 0)} {xs = []}
    (a_chain {x = e.Number (pos 0)} {xs = []}
    (a_chain {x = e.Number (pos 0)} {xs = []}
    (a_chain {x = e.Number (pos 0)} {xs = []}
    (a_chain {x = e.Number (pos 0)} {xs = []}
    (a_chain {x = e.Number (pos 0)} {xs = []}
    (a_chain {x = e.Number (pos 0)} {xs = []}
    (a_chain {x = e.Number (pos 0)} {xs = []} (a_chain {x = e.Number (pos 0)} {xs = []} (an_operand (a_number)) no_more)
    no_more) no_more) no_more) no_more) no_more) no_more) no_more) no_more) no_more)
    (a_chain {x = e.Name (word 16 25 (codes "N"))} {xs = []}
    (a_chain {x = e.Name (word 16 25 (codes "N"))} {xs = []}
    (a_chain {x = e.Name (word 16 25 (codes "N"))} {xs = []}
    (a_chain {x = e.Name (word 16 25 (codes "N"))} {xs = []}
    (a_chain {x = e.Name (word 16 25 (codes "N"))} {xs = []}
    (a_chain {x = e.Name (word 16 25 (codes "N"))} {xs = []}
    (a_chain {x = e.Name (word 16 25 (codes "N"))} {xs = []}
    (a_chain {x = e.Name (word 16 25 (codes "N"))} {xs = []}
    (a_chain {x = e.Name (word 16 25 (codes "N"))} {xs = []}
    (a_chain {x = e.Name (word 16 25 (codes "N"))} {xs = []}
    (an_operand (an_element {w = word 16 25 (codes "N")} {xs = []} no_more)) no_more) no_more) no_more) no_more)
    no_more) no_more) no_more) no_more) no_more) no_more)
    (bare (a_for {counter = word 17 16 (codes "k")} {tested = word 17 23 (codes "k")} {stepped = word 17 30 (codes "k")}
    (a_chain {x = e.Number (pos 0)} {xs = []}
    (a_chain {x = e.Number (pos 0)} {xs = []}
    (a_chain {x = e.Number (pos 0)} {xs = []}
    (a_chain {x = e.Number (pos 0)} {xs = []}
    (a_chain {x = e.Number (pos 0)} {xs = []}
    (a_chain {x = e.Number (pos 0)} {xs = []}
    (a_chain {x = e.Number (pos 0)} {xs = []}
    (a_chain {x = e.Number (pos 0)} {xs = []}
    (a_chain {x = e.Number (pos 0)} {xs = []} (a_chain {x = e.Number (pos 0)} {xs = []} (an_operand (a_number)) no_more)
    no_more) no_more) no_more) no_more) no_more) no_more) no_more) no_more) no_more)
    (a_chain {x = e.Name (word 17 27 (codes "P"))} {xs = []}
    (a_chain {x = e.Name (word 17 27 (codes "P"))} {xs = []}
    (a_chain {x = e.Name (word 17 27 (codes "P"))} {xs = []}
    (a_chain {x = e.Name (word 17 27 (codes "P"))} {xs = []}
    (a_chain {x = e.Name (word 17 27 (codes "P"))} {xs = []}
    (a_chain {x = e.Name (word 17 27 (codes "P"))} {xs = []}
    (a_chain {x = e.Name (word 17 27 (codes "P"))} {xs = []}
    (a_chain {x = e.Name (word 17 27 (codes "P"))} {xs = []}
    (a_chain {x = e.Name (word 17 27 (codes "P"))} {xs = []}
    (a_chain {x = e.Name (word 17 27 (codes "P"))} {xs = []}
    (an_operand (an_element {w = word 17 27 (codes "P")} {xs = []} no_more)) no_more) no_more) no_more) no_more)
    no_more) no_more) no_more) no_more) no_more) no_more)
    (bare (an_assignment {w = word 18 9 (codes "C")} {x = e.Name (word 18 11 (codes "i"))}
    {xs = ((e.Name (word 18 14 (codes "j"))) ∷ [])}
    (an_index (a_chain {x = e.Name (word 18 11 (codes "i"))} {xs = []}
    (a_chain {x = e.Name (word 18 11 (codes "i"))} {xs = []}
    (a_chain {x = e.Name (word 18 11 (codes "i"))} {xs = []}
    (a_chain {x = e.Name (word 18 11 (codes "i"))} {xs = []}
    (a_chain {x = e.Name (word 18 11 (codes "i"))} {xs = []}
    (a_chain {x = e.Name (word 18 11 (codes "i"))} {xs = []}
    (a_chain {x = e.Name (word 18 11 (codes "i"))} {xs = []}
    (a_chain {x = e.Name (word 18 11 (codes "i"))} {xs = []}
    (a_chain {x = e.Name (word 18 11 (codes "i"))} {xs = []}
    (a_chain {x = e.Name (word 18 11 (codes "i"))} {xs = []}
    (an_operand (an_element {w = word 18 11 (codes "i")} {xs = []} no_more)) no_more) no_more) no_more) no_more)
    no_more) no_more) no_more) no_more) no_more) no_more))
    (one_more refl (an_index (a_chain {x = e.Name (word 18 14 (codes "j"))} {xs = []}
    (a_chain {x = e.Name (word 18 14 (codes "j"))} {xs = []}
    (a_chain {x = e.Name (word 18 14 (codes "j"))} {xs = []}
    (a_chain {x = e.Name (word 18 14 (codes "j"))} {xs = []}
    (a_chain {x = e.Name (word 18 14 (codes "j"))} {xs = []}
    (a_chain {x = e.Name (word 18 14 (codes "j"))} {xs = []}
    (a_chain {x = e.Name (word 18 14 (codes "j"))} {xs = []}
    (a_chain {x = e.Name (word 18 14 (codes "j"))} {xs = []}
    (a_chain {x = e.Name (word 18 14 (codes "j"))} {xs = []}
    (a_chain {x = e.Name (word 18 14 (codes "j"))} {xs = []}
    (an_operand (an_element {w = word 18 14 (codes "j")} {xs = []} no_more)) no_more) no_more) no_more) no_more)
    no_more) no_more) no_more) no_more) no_more) no_more)) (no_more)) refl
    (a_chain {x = e.Chain (e.Element
    (use_of (word 18 20 (codes "A")) ((e.Name (word 18 22 (codes "i"))) ∷ (e.Name (word 18 25 (codes "k"))) ∷ [])))
    (link_of (at 18 28) op.Mul
    (e.Element (use_of (word 18 30 (codes "B")) ((e.Name (word 18 32 (codes "k"))) ∷ (e.Name (word 18 35 (codes "j")))
    ∷ []))) ∷ [])} {xs = []} (a_chain
    {x = e.Chain (e.Element (use_of (word 18 20 (codes "A")) ((e.Name (word 18 22 (codes "i")))
    ∷ (e.Name (word 18 25 (codes "k"))) ∷ [])))
    (link_of (at 18 28) op.Mul
    (e.Element (use_of (word 18 30 (codes "B")) ((e.Name (word 18 32 (codes "k"))) ∷ (e.Name (word 18 35 (codes "j")))
    ∷ []))) ∷ [])} {xs = []} (a_chain
    {x = e.Chain (e.Element (use_of (word 18 20 (codes "A")) ((e.Name (word 18 22 (codes "i")))
    ∷ (e.Name (word 18 25 (codes "k"))) ∷ [])))
    (link_of (at 18 28) op.Mul
    (e.Element (use_of (word 18 30 (codes "B")) ((e.Name (word 18 32 (codes "k"))) ∷ (e.Name (word 18 35 (codes "j")))
    ∷ []))) ∷ [])} {xs = []} (a_chain
    {x = e.Chain (e.Element (use_of (word 18 20 (codes "A")) ((e.Name (word 18 22 (codes "i")))
    ∷ (e.Name (word 18 25 (codes "k"))) ∷ [])))
    (link_of (at 18 28) op.Mul
    (e.Element (use_of (word 18 30 (codes "B")) ((e.Name (word 18 32 (codes "k"))) ∷ (e.Name (word 18 35 (codes "j")))
    ∷ []))) ∷ [])} {xs = []} (a_chain
    {x = e.Chain (e.Element (use_of (word 18 20 (codes "A")) ((e.Name (word 18 22 (codes "i")))
    ∷ (e.Name (word 18 25 (codes "k"))) ∷ [])))
    (link_of (at 18 28) op.Mul
    (e.Element (use_of (word 18 30 (codes "B")) ((e.Name (word 18 32 (codes "k"))) ∷ (e.Name (word 18 35 (codes "j")))
    ∷ []))) ∷ [])} {xs = []} (a_chain
    {x = e.Chain (e.Element (use_of (word 18 20 (codes "A")) ((e.Name (word 18 22 (codes "i")))
    ∷ (e.Name (word 18 25 (codes "k"))) ∷ [])))
    (link_of (at 18 28) op.Mul
    (e.Element (use_of (word 18 30 (codes "B")) ((e.Name (word 18 32 (codes "k"))) ∷ (e.Name (word 18 35 (codes "j")))
    ∷ []))) ∷ [])} {xs = []} (a_chain
    {x = e.Chain (e.Element (use_of (word 18 20 (codes "A")) ((e.Name (word 18 22 (codes "i")))
    ∷ (e.Name (word 18 25 (codes "k"))) ∷ [])))
    (link_of (at 18 28) op.Mul
    (e.Element (use_of (word 18 30 (codes "B")) ((e.Name (word 18 32 (codes "k"))) ∷ (e.Name (word 18 35 (codes "j")))
    ∷ []))) ∷ [])} {xs = []} (a_chain
    {x = e.Chain (e.Element (use_of (word 18 20 (codes "A")) ((e.Name (word 18 22 (codes "i")))
    ∷ (e.Name (word 18 25 (codes "k"))) ∷ [])))
    (link_of (at 18 28) op.Mul
    (e.Element (use_of (word 18 30 (codes "B")) ((e.Name (word 18 32 (codes "k"))) ∷ (e.Name (word 18 35 (codes "j")))
    ∷ []))) ∷ [])} {xs = []} (a_chain
    {x = e.Chain (e.Element (use_of (word 18 20 (codes "A")) ((e.Name (word 18 22 (codes "i")))
    ∷ (e.Name (word 18 25 (codes "k"))) ∷ [])))
    (link_of (at 18 28) op.Mul
    (e.Element (use_of (word 18 30 (codes "B")) ((e.Name (word 18 32 (codes "k"))) ∷ (e.Name (word 18 35 (codes "j")))
    ∷ []))) ∷ [])} {xs = []} (a_chain
    {x = e.Element (use_of (word 18 20 (codes "A")) ((e.Name (word 18 22 (codes "i")))
    ∷ (e.Name (word 18 25 (codes "k"))) ∷ []))}
    {xs = link_of (at 18 28) op.Mul
    (e.Element (use_of (word 18 30 (codes "B")) ((e.Name (word 18 32 (codes "k"))) ∷ (e.Name (word 18 35 (codes "j")))
    ∷ []))) ∷ []} (an_operand
    (an_element {w = word 18 20 (codes "A")}
    {xs = ((e.Name (word 18 22 (codes "i"))) ∷ (e.Name (word 18 25 (codes "k"))) ∷ [])}
    (one_more refl (an_index (a_chain {x = e.Name (word 18 22 (codes "i"))} {xs = []}
    (a_chain {x = e.Name (word 18 22 (codes "i"))} {xs = []}
    (a_chain {x = e.Name (word 18 22 (codes "i"))} {xs = []}
    (a_chain {x = e.Name (word 18 22 (codes "i"))} {xs = []}
    (a_chain {x = e.Name (word 18 22 (codes "i"))} {xs = []}
    (a_chain {x = e.Name (word 18 22 (codes "i"))} {xs = []}
    (a_chain {x = e.Name (word 18 22 (codes "i"))} {xs = []}
    (a_chain {x = e.Name (word 18 22 (codes "i"))} {xs = []}
    (a_chain {x = e.Name (word 18 22 (codes "i"))} {xs = []}
    (a_chain {x = e.Name (word 18 22 (codes "i"))} {xs = []}
    (an_operand (an_element {w = word 18 22 (codes "i")} {xs = []} no_more)) no_more) no_more) no_more) no_more)
    no_more) no_more) no_more) no_more) no_more) no_more))
    (one_more refl (an_index (a_chain {x = e.Name (word 18 25 (codes "k"))} {xs = []}
    (a_chain {x = e.Name (word 18 25 (codes "k"))} {xs = []}
    (a_chain {x = e.Name (word 18 25 (codes "k"))} {xs = []}
    (a_chain {x = e.Name (word 18 25 (codes "k"))} {xs = []}
    (a_chain {x = e.Name (word 18 25 (codes "k"))} {xs = []}
    (a_chain {x = e.Name (word 18 25 (codes "k"))} {xs = []}
    (a_chain {x = e.Name (word 18 25 (codes "k"))} {xs = []}
    (a_chain {x = e.Name (word 18 25 (codes "k"))} {xs = []}
    (a_chain {x = e.Name (word 18 25 (codes "k"))} {xs = []}
    (a_chain {x = e.Name (word 18 25 (codes "k"))} {xs = []}
    (an_operand (an_element {w = word 18 25 (codes "k")} {xs = []} no_more)) no_more) no_more) no_more) no_more)
    no_more) no_more) no_more) no_more) no_more) no_more)) (no_more)))))
    (one_more refl (a_link refl
    (an_operand (an_element {w = word 18 30 (codes "B")}
    {xs = ((e.Name (word 18 32 (codes "k"))) ∷ (e.Name (word 18 35 (codes "j"))) ∷ [])}
    (one_more refl (an_index (a_chain {x = e.Name (word 18 32 (codes "k"))} {xs = []}
    (a_chain {x = e.Name (word 18 32 (codes "k"))} {xs = []}
    (a_chain {x = e.Name (word 18 32 (codes "k"))} {xs = []}
    (a_chain {x = e.Name (word 18 32 (codes "k"))} {xs = []}
    (a_chain {x = e.Name (word 18 32 (codes "k"))} {xs = []}
    (a_chain {x = e.Name (word 18 32 (codes "k"))} {xs = []}
    (a_chain {x = e.Name (word 18 32 (codes "k"))} {xs = []}
    (a_chain {x = e.Name (word 18 32 (codes "k"))} {xs = []}
    (a_chain {x = e.Name (word 18 32 (codes "k"))} {xs = []}
    (a_chain {x = e.Name (word 18 32 (codes "k"))} {xs = []}
    (an_operand (an_element {w = word 18 32 (codes "k")} {xs = []} no_more)) no_more) no_more) no_more) no_more)
    no_more) no_more) no_more) no_more) no_more) no_more))
    (one_more refl (an_index (a_chain {x = e.Name (word 18 35 (codes "j"))} {xs = []}
    (a_chain {x = e.Name (word 18 35 (codes "j"))} {xs = []}
    (a_chain {x = e.Name (word 18 35 (codes "j"))} {xs = []}
    (a_chain {x = e.Name (word 18 35 (codes "j"))} {xs = []}
    (a_chain {x = e.Name (word 18 35 (codes "j"))} {xs = []}
    (a_chain {x = e.Name (word 18 35 (codes "j"))} {xs = []}
    (a_chain {x = e.Name (word 18 35 (codes "j"))} {xs = []}
    (a_chain {x = e.Name (word 18 35 (codes "j"))} {xs = []}
    (a_chain {x = e.Name (word 18 35 (codes "j"))} {xs = []}
    (a_chain {x = e.Name (word 18 35 (codes "j"))} {xs = []}
    (an_operand (an_element {w = word 18 35 (codes "j")} {xs = []} no_more)) no_more) no_more) no_more) no_more)
    no_more) no_more) no_more) no_more) no_more) no_more)) (no_more)))))) (no_more))) no_more) no_more) no_more)
    no_more) no_more) no_more) no_more) no_more) no_more)))))))) (no_more)))

inner_derived : (later : List Leveled) → Derives (One Task 0 inner_variant) (inner_leveled later) later
unfolding inner_leveled
inner_derived later = a_void_task
    (an_inner {w = word 1 11 (codes "matmul")}
    {ds = ((declared.Tunable (at 2 15) (codes "U") ∷ []) ∷ (declared.Tunable (at 3 15) (codes "X") ∷ [])
    ∷ (declared.Tunable (at 4 15) (codes "V") ∷ [])
    ∷ (declared.Rchop (at 5 10) (codes "Ab") (word 5 21 (codes "A")) ((e.Name (word 5 24 (codes "U")))
    ∷ (e.Name (word 5 27 (codes "X"))) ∷ []) ∷ [])
    ∷ (declared.Rchop (at 6 10) (codes "Bb") (word 6 21 (codes "B")) ((e.Name (word 6 24 (codes "X")))
    ∷ (e.Name (word 6 27 (codes "V"))) ∷ []) ∷ [])
    ∷ (declared.Rchop (at 7 10) (codes "Cb") (word 7 21 (codes "C")) ((e.Name (word 7 24 (codes "U")))
    ∷ (e.Name (word 7 27 (codes "V"))) ∷ []) ∷ []) ∷ [])}
    (a_list (a_param {w = word 1 32 (codes "A")} refl refl (an_extent refl) (one_more refl (an_extent refl) (no_more)))
    (one_more refl (a_next (a_param {w = word 1 48 (codes "B")} refl refl (an_extent refl)
    (one_more refl (an_extent refl) (no_more))))
    (one_more refl (a_next (a_param {w = word 1 67 (codes "C")} refl refl (an_extent refl)
    (one_more refl (an_extent refl) (no_more)))) (no_more))))
    (one_more refl (tunables {w = word 2 15 (codes "U")} no_more)
    (one_more refl (tunables {w = word 3 15 (codes "X")} no_more)
    (one_more refl (tunables {w = word 4 15 (codes "V")} no_more)
    (one_more refl (an_rchop {w = word 5 10 (codes "Ab")} {array = word 5 21 (codes "A")}
    (a_chain {x = e.Name (word 5 24 (codes "U"))} {xs = []}
    (a_chain {x = e.Name (word 5 24 (codes "U"))} {xs = []} (an_operand (a_name {w = word 5 24 (codes "U")})) no_more)
    no_more) (one_more refl (a_next
    (a_chain {x = e.Name (word 5 27 (codes "X"))} {xs = []}
    (a_chain {x = e.Name (word 5 27 (codes "X"))} {xs = []} (an_operand (a_name {w = word 5 27 (codes "X")})) no_more)
    no_more)) (no_more))) (one_more refl
    (an_rchop {w = word 6 10 (codes "Bb")} {array = word 6 21 (codes "B")}
    (a_chain {x = e.Name (word 6 24 (codes "X"))} {xs = []}
    (a_chain {x = e.Name (word 6 24 (codes "X"))} {xs = []} (an_operand (a_name {w = word 6 24 (codes "X")})) no_more)
    no_more) (one_more refl (a_next
    (a_chain {x = e.Name (word 6 27 (codes "V"))} {xs = []}
    (a_chain {x = e.Name (word 6 27 (codes "V"))} {xs = []} (an_operand (a_name {w = word 6 27 (codes "V")})) no_more)
    no_more)) (no_more))) (one_more refl
    (an_rchop {w = word 7 10 (codes "Cb")} {array = word 7 21 (codes "C")}
    (a_chain {x = e.Name (word 7 24 (codes "U"))} {xs = []}
    (a_chain {x = e.Name (word 7 24 (codes "U"))} {xs = []} (an_operand (a_name {w = word 7 24 (codes "U")})) no_more)
    no_more) (one_more refl (a_next
    (a_chain {x = e.Name (word 7 27 (codes "V"))} {xs = []}
    (a_chain {x = e.Name (word 7 27 (codes "V"))} {xs = []} (an_operand (a_name {w = word 7 27 (codes "V")})) no_more)
    no_more)) (no_more))) (no_more)))))))
    (one_more refl (a_map refl
    (a_list (a_range {w = word 8 15 (codes "i")} {x = bound_i}
    (a_chain {x = e.Chain (e.Name (word 8 24 (codes "M"))) (link_of (at 8 25) op.Div (e.Name (word 8 26 (codes "U")))
    ∷ [])} {xs = []} (a_chain {x = e.Name (word 8 24 (codes "M"))}
    {xs = link_of (at 8 25) op.Div (e.Name (word 8 26 (codes "U"))) ∷ []}
    (an_operand (a_name {w = word 8 24 (codes "M")}))
    (one_more refl (a_link refl (an_operand (a_name {w = word 8 26 (codes "U")}))) (no_more))) no_more))
    (one_more refl (a_next (a_range {w = word 8 33 (codes "j")} {x = bound_j}
    (a_chain {x = e.Chain (e.Name (word 8 42 (codes "N"))) (link_of (at 8 43) op.Div (e.Name (word 8 44 (codes "V")))
    ∷ [])} {xs = []} (a_chain {x = e.Name (word 8 42 (codes "N"))}
    {xs = link_of (at 8 43) op.Div (e.Name (word 8 44 (codes "V"))) ∷ []}
    (an_operand (a_name {w = word 8 42 (codes "N")}))
    (one_more refl (a_link refl (an_operand (a_name {w = word 8 44 (codes "V")}))) (no_more))) no_more))) (no_more)))
    (one_more refl (a_map refl
    (a_list (a_range {w = word 9 17 (codes "k")} {x = bound_k}
    (a_chain {x = e.Chain (e.Name (word 9 26 (codes "P"))) (link_of (at 9 27) op.Div (e.Name (word 9 28 (codes "X")))
    ∷ [])} {xs = []} (a_chain {x = e.Name (word 9 26 (codes "P"))}
    {xs = link_of (at 9 27) op.Div (e.Name (word 9 28 (codes "X"))) ∷ []}
    (an_operand (a_name {w = word 9 26 (codes "P")}))
    (one_more refl (a_link refl (an_operand (a_name {w = word 9 28 (codes "X")}))) (no_more))) no_more)) (no_more))
    (one_more refl (a_call_stmt
    (a_call {w = word 10 7 (codes "matmul")} {xs = (argument_Ab ∷ argument_Bb ∷ argument_Cb ∷ [])}
    (a_list (an_arg {w = word 10 14 (codes "Ab")}
    {xs = ((e.Name (word 10 17 (codes "i"))) ∷ (e.Name (word 10 20 (codes "k"))) ∷ [])}
    (one_more refl (an_index (a_chain {x = e.Name (word 10 17 (codes "i"))} {xs = []}
    (a_chain {x = e.Name (word 10 17 (codes "i"))} {xs = []} (an_operand (a_name {w = word 10 17 (codes "i")})) no_more)
    no_more)) (one_more refl (an_index
    (a_chain {x = e.Name (word 10 20 (codes "k"))} {xs = []}
    (a_chain {x = e.Name (word 10 20 (codes "k"))} {xs = []} (an_operand (a_name {w = word 10 20 (codes "k")})) no_more)
    no_more)) (no_more)))) (one_more refl
    (a_next (an_arg {w = word 10 24 (codes "Bb")}
    {xs = ((e.Name (word 10 27 (codes "k"))) ∷ (e.Name (word 10 30 (codes "j"))) ∷ [])}
    (one_more refl (an_index (a_chain {x = e.Name (word 10 27 (codes "k"))} {xs = []}
    (a_chain {x = e.Name (word 10 27 (codes "k"))} {xs = []} (an_operand (a_name {w = word 10 27 (codes "k")})) no_more)
    no_more)) (one_more refl (an_index
    (a_chain {x = e.Name (word 10 30 (codes "j"))} {xs = []}
    (a_chain {x = e.Name (word 10 30 (codes "j"))} {xs = []} (an_operand (a_name {w = word 10 30 (codes "j")})) no_more)
    no_more)) (no_more))))) (one_more refl
    (a_next (an_arg {w = word 10 34 (codes "Cb")}
    {xs = ((e.Name (word 10 37 (codes "i"))) ∷ (e.Name (word 10 40 (codes "j"))) ∷ [])}
    (one_more refl (an_index (a_chain {x = e.Name (word 10 37 (codes "i"))} {xs = []}
    (a_chain {x = e.Name (word 10 37 (codes "i"))} {xs = []} (an_operand (a_name {w = word 10 37 (codes "i")})) no_more)
    no_more)) (one_more refl (an_index
    (a_chain {x = e.Name (word 10 40 (codes "j"))} {xs = []}
    (a_chain {x = e.Name (word 10 40 (codes "j"))} {xs = []} (an_operand (a_name {w = word 10 40 (codes "j")})) no_more)
    no_more)) (no_more))))) (no_more)))))) (no_more))) (no_more))) (no_more)))

text_derived : Derives (Many Task Any 0 (inner_variant ∷ leaf_variant ∷ [])) (inner_leveled leaf_leveled)
    (leveled (Last (at 20 1)) 0 ∷ [])
text_derived = one_more refl (inner_derived leaf_leveled) (one_more refl leaf_derived no_more)

pub are_kinds : kinds (inner_leveled leaf_leveled) ≡ symbols program_tokens
unfolding inner_leveled leaf_leveled program_tokens keyword_of
are_kinds = refl

pub program_derived : IsText (inner_leveled leaf_leveled) demo_tree
program_derived = (at 20 1, text_derived)
