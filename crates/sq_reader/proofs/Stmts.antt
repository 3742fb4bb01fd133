-- Statements of inner tasks: what is read is derived, and the machine goes on after it.
use Rattle.std.proofs.Common.{◌≡◌, ℕ, zero, suc, pos, negsuc, ◌+◌, ◌≤◌, Bool, true, false, if◌then◌else◌, List, [], ◌∷◌, length, Some, Ok, Err, refl, sym, subst, arith}
use Rattle.std.proofs.lemmas.Bool.{eqb-true}
use Rattle.std.specs.Prelude.{◌==◌}
use Rattle.sq_text.specs.declared.place.Place.{Place}
use Rattle.sq_num.specs.declared.RedOp.{RedOp}
use Rattle.sq_lexer.specs.declared.token.Sign.TheVariants as g
use Rattle.sq_ast.specs.declared.keyword.Keyword.TheVariants as k
use Rattle.sq_ast.specs.declared.class.Class.TheVariants as c
use Rattle.sq_text.specs.declared.word.Word as tree
use Rattle.sq_ast.specs.declared.stmt.Call.{Call}
use Rattle.sq_ast.specs.declared.stmt.Range.{Range}
use Rattle.sq_ast.specs.declared.stmt.MapKind.{MapKind}
use Rattle.sq_ast.specs.declared.stmt.MapKind.TheVariants.{Par, Seq, Reduce}
use Rattle.sq_ast.specs.declared.stmt.Stmt.{Stmt}
use Rattle.sq_ast.specs.declared.stmt.Stmt.TheVariants as s
use Rattle.sq_ast.specs.Symbols.{Symbol, Word, Number, Key, Mark, Last, class_at, place_at}
use Rattle.sq_ast.specs.Grammar.{if_some, class, use_of, call_of, range_of, map_of, reduction_of, Leveled, at, word, Item, Index, Any, Derives, a_call_stmt, a_map, a_reduction, a_range, a_call, an_arg}
use Rattle.sq_ast.specs.Grammar as grammar
use Rattle.sq_reader.specs.declared.error.ParseError.TheVariants.{Syntax}
use Rattle.sq_reader.specs.Reading.{Parser, and_then, expect_zero, between, many_after, index, inner, listed, begins_stmt, argument, call, bound, range, reducer, reduced, only_call, reduction, map_over, call_stmt, stmt, stmt_by, block}
use Rattle.sq_reader.proofs.Machine.{This, AWord, ARedOp, Zero, Owed, Token, One, Many, owe, stmt_rest}
use Rattle.sq_reader.proofs.Steps.{stmt_is}
use Rattle.sq_reader.proofs.Readings.{Reading, given, restack, phrase, fixed, a_word, of_table, opens, taken, no_token, token_refused}
use Rattle.sq_reader.proofs.Items.{eaten, deep, between_reads, all_of, PartReads, listed_reads}
use Rattle.sq_reader.proofs.Exprs.{expr_reads, index_part}

-- ---- calls

pub argument_reads : (most : ℕ) → PartReads most grammar.Arg argument
unfolding argument
argument_reads most m d e n i K le = a_word (omega arith) _ i le
    (λ w j le1. phrase _ _ (all_of most (Index true) d (λ t. refl) refl (index (inner true m)) (λ n t ts K b below. index_part most true m d e n (t ∷ ts) K (omega arith)) n j K le1)
    (λ xs l le2. given (use_of w xs) l le2 (λ a h. an_arg h)))

pub call_reads : (most : ℕ) → PartReads most grammar.Call call
unfolding call
call_reads most m d e n i K le = a_word (omega arith) _ i le
    (λ w j le1. phrase _ _ (listed_reads most grammar.Arg argument (argument_reads most) m d e n j K (omega arith))
    (λ xs l le2. given (call_of w xs) l le2 (λ a h. a_call h)))

-- ---- ranges

module _ {B : Type 0} {n most d : ℕ} {M K : List Owed} {R : B → List Leveled → List Leveled → Type 0} where
  zero_case : d ≤ most → (f : Unit {0} → Parser B) (p : Place) (m : ℕ) (ts : List Symbol) → length ts ≤ n
      → ((p : Place) (j : List Symbol) → length j ≤ n → Reading n most M K (λ y b e. R y (at (Number p (pos 0)) d ∷ b) e) j (f tt j)) → (b : Bool) → (m == 0) ≡ b
      → Reading n most (Token d Zero ∷ M) K R (Number p (pos m) ∷ ts) (and_then (if b then Ok (tt {0}, ts) else Err (Syntax (length (Number p (pos m) ∷ ts)))) f)
  zero_case le f p m ts below g true e =
      let is : m ≡ 0 = eqb-true m 0 e in
      taken Zero (Number p (pos m)) ts (f tt ts) le e (subst (λ m. Reading n most M K (λ y b e. R y (at (Number p (pos m)) d ∷ b) e) ts (f tt ts)) (sym is) (g p ts below))
  zero_case le f p m ts below g false e = record { is = token_refused most d Zero (Number p (pos m)) ts M e }

  a_zero : d ≤ most → (f : Unit {0} → Parser B) (i : List Symbol) → length i ≤ suc n
      → ((p : Place) (j : List Symbol) → length j ≤ n → Reading n most M K (λ y b e. R y (at (Number p (pos 0)) d ∷ b) e) j (f tt j))
      → Reading n most (Token d Zero ∷ M) K R i (and_then (expect_zero i) f)
  a_zero le f [] below g = record { is = no_token most d Zero M }
  a_zero le f (Number p (pos m) ∷ ts) below g = zero_case le f p m ts (omega arith) g (m == 0) refl
  a_zero le f (Number p (negsuc m) ∷ ts) below g = record { is = refl }
  a_zero le f (Word p w ∷ ts) below g = record { is = refl }
  a_zero le f (Key p k ∷ ts) below g = record { is = refl }
  a_zero le f (Mark p s ∷ ts) below g = record { is = refl }
  a_zero le f (Last p ∷ ts) below g = record { is = refl }

pub range_reads : (most : ℕ) → PartReads most grammar.Range range
unfolding range bound
range_reads most m d e n i K le = fixed (c.Key k.Int) tt (omega arith) _ i le
    (λ p j le1. a_word (omega arith) _ j (omega arith)
    (λ w l le2. fixed (c.Sign g.Set) tt (omega arith) _ l (omega arith)
    (λ q u le3. a_zero (omega arith) _ u (omega arith)
    (λ r v le4. fixed (c.Key k.To) tt (omega arith) _ v (omega arith)
    (λ o x le5. phrase _ _ (expr_reads most true m d e n x K (omega arith))
    (λ y z le6. given (range_of w y) z le6 (λ a h. a_range h)))))))

-- ---- reductions

data IsReduced (d : ℕ) : MapKind → List Leveled → List Leveled → Type 0 where
  is_reduced : {t : Symbol} {op : RedOp} {w : tree.Word} {q r u v : Place} {b : List Leveled} → reduction_of (class_at t) ≡ Some op
      → IsReduced d (Reduce op w) (at (Key q k.Reduce) d ∷ at (Mark r g.ParenOpen) (suc d) ∷ at t (suc d) ∷ at (Mark u g.Comma) (suc d) ∷ word w (suc d) ∷ at (Mark v g.ParenClose) d ∷ b) b

data IsOnly (d : ℕ) : Call → List Leveled → List Leveled → Type 0 where
  is_only : {x : Call} {q r u : Place} {a b : List Leveled} → Derives (grammar.One grammar.Call (suc d) x) a (at (Mark r g.Semi) (suc d) ∷ at (Mark u g.BraceClose) d ∷ b)
      → IsOnly d x (at (Mark q g.BraceOpen) (suc d) ∷ a) b

reduced_reads : (most m d : ℕ) → m + d ≡ most → (n : ℕ) (i : List Symbol) (K : List Owed) → length i ≤ suc n
    → Reading n most (Token d (This (c.Key k.Reduce)) ∷ Token (suc d) (This (c.Sign g.ParenOpen)) ∷ Token (suc d) ARedOp ∷ Token (suc d) (This (c.Sign g.Comma)) ∷ Token (suc d) AWord
    ∷ Token d (This (c.Sign g.ParenClose)) ∷ K) K (IsReduced d) i (reduced m i)
unfolding reduced reducer
reduced_reads most m d e n i K le = fixed (c.Key k.Reduce) tt (omega arith) _ i le
    (λ p j le1. opens (c.Sign g.ParenOpen) tt m e _ j (omega arith)
    (λ q left l em le2. of_table ARedOp reduction_of refl (λ t. refl) (omega arith) _ l (omega arith)
    (λ t op u le3 is. fixed (c.Sign g.Comma) tt (omega arith) _ u (omega arith)
    (λ r v le4. a_word (omega arith) _ v (omega arith)
    (λ w x le5. fixed (c.Sign g.ParenClose) tt (omega arith) _ x (omega arith)
    (λ o y le6. given (Reduce op w) y le6 (is_reduced is)))))))

only_reads : (most m d : ℕ) → m + d ≡ most → (n : ℕ) (i : List Symbol) (K : List Owed) → length i ≤ suc n
    → Reading n most (Token (suc d) (This (c.Sign g.BraceOpen)) ∷ owe grammar.Call (suc d) (Token (suc d) (This (c.Sign g.Semi)) ∷ Token d (This (c.Sign g.BraceClose)) ∷ K)) K (IsOnly d) i (only_call m i)
unfolding only_call
only_reads most m d e n i K le = opens (c.Sign g.BraceOpen) tt m e _ i le
    (λ q left j em le1. phrase _ _ (call_reads most left (suc d) em n j (Token (suc d) (This (c.Sign g.Semi)) ∷ Token d (This (c.Sign g.BraceClose)) ∷ K) (omega arith))
    (λ x l le2. fixed (c.Sign g.Semi) tt (omega arith) _ l (omega arith)
    (λ r u le3. fixed (c.Sign g.BraceClose) tt (omega arith) _ u (omega arith)
    (λ o v le4. given x v le4 (λ a h. is_only h)))))

make_reduction : {d : ℕ} {p : Place} {kind : MapKind} {x : Call} {rs : List Range} {i a b e : List Leveled} → Derives (grammar.One (grammar.Listed grammar.Range) d rs) i a → IsReduced d kind a b → IsOnly d x b e
    → Derives (grammar.One grammar.Stmt d (s.Map p kind rs (s.Call x ∷ []))) (at (Key p k.Mapreduce) d ∷ i) e
make_reduction h (is_reduced is) (is_only r) = a_reduction h is r

-- ---- statements

data IsBlock (d : ℕ) : List Stmt → List Leveled → List Leveled → Type 0 where
  is_block : {xs : List Stmt} {q r : Place} {a b : List Leveled} → Derives (grammar.Many grammar.Stmt Any (suc d) xs) a (at (Mark r g.BraceClose) d ∷ b) → IsBlock d xs (at (Mark q g.BraceOpen) (suc d) ∷ a) b

make_map : {d : ℕ} {t : Symbol} {kind : MapKind} {rs : List Range} {xs : List Stmt} {i a b : List Leveled} → map_of (class_at t) ≡ Some kind → Derives (grammar.One (grammar.Listed grammar.Range) d rs) i a → IsBlock d xs a b
    → Derives (grammar.One grammar.Stmt d (s.Map (place_at t) kind rs xs)) (at t d ∷ i) b
make_map is h (is_block r) = a_map is h r

pub block_is : (n : ℕ) (i : List Symbol) → block n i ≡ between (deep (λ m. many_after begins_stmt (stmt m) []) n) (c.Sign g.BraceOpen) (c.Sign g.BraceClose) i
unfolding block
block_is zero i = refl
block_is (suc n) i = refl

abbrev pub StmtReads : ℕ → ℕ → ℕ → Type 0
StmtReads most m d = (n : ℕ) (i : List Symbol) (K : List Owed) → length i ≤ suc n → Reading n most (One grammar.Stmt d ∷ K) K (λ v a b. Derives (grammar.One grammar.Stmt d v) a b) i (stmt m i)

pub stmts_read : (most m d : ℕ) → StmtReads most m d → (n : ℕ) (i : List Symbol) (K : List Owed) → length i ≤ n
    → Reading n most (Many grammar.Stmt Any d ∷ K) K (λ vs a b. Derives (grammar.Many grammar.Stmt Any d vs) a b) i (many_after begins_stmt (stmt m) [] i)
stmts_read most m d reads n i K le = all_of most grammar.Stmt d (λ t. refl) refl (stmt m) (λ n t ts K b below. reads n (t ∷ ts) K (omega arith)) n i K le

module _ (most d left : ℕ) (eq : left + d ≡ most) (deeper_reads : (m : ℕ) → m + suc d ≡ most → StmtReads most m (suc d)) where
  block_reads : (n : ℕ) (i : List Symbol) (K : List Owed) → length i ≤ suc n
      → Reading n most (Token (suc d) (This (c.Sign g.BraceOpen)) ∷ Many grammar.Stmt Any (suc d) ∷ Token d (This (c.Sign g.BraceClose)) ∷ K) K (IsBlock d) i (block left i)
  block_reads n i K le = subst (Reading n most _ K (IsBlock d) i) (sym (block_is left i))
      (between_reads most (λ m. many_after begins_stmt (stmt m) []) (c.Sign g.BraceOpen) (c.Sign g.BraceClose) tt tt d left eq (λ K. Many grammar.Stmt Any (suc d) ∷ K)
      (λ vs a b. Derives (grammar.Many grammar.Stmt Any (suc d) vs) a b) (λ m n j K em le. stmts_read most m (suc d) (deeper_reads m em) n j K le) (λ q r x a b h. is_block h) n i K le)

  ranges_read : (n : ℕ) (i : List Symbol) (K : List Owed) → length i ≤ suc n
      → Reading n most (owe (grammar.Listed grammar.Range) d K) K (λ v a b. Derives (grammar.One (grammar.Listed grammar.Range) d v) a b) i (listed range left i)
  ranges_read n i K le = listed_reads most grammar.Range range (range_reads most) left d eq n i K le

  map_reads : (n : ℕ) (t : Symbol) (kind : MapKind) (ts : List Symbol) (K : List Owed) → map_of (class_at t) ≡ Some kind → length ts ≤ n
      → Reading n most (owe (grammar.Listed grammar.Range) d (Token (suc d) (This (c.Sign g.BraceOpen)) ∷ Many grammar.Stmt Any (suc d) ∷ Token d (This (c.Sign g.BraceClose)) ∷ K)) K
      (λ v a b. Derives (grammar.One grammar.Stmt d v) (at t d ∷ a) b) ts (map_over left (block left) (place_at t) kind ts)
  unfolding map_over
  map_reads n t kind ts K is le = phrase _ _ (ranges_read n ts (Token (suc d) (This (c.Sign g.BraceOpen)) ∷ Many grammar.Stmt Any (suc d) ∷ Token d (This (c.Sign g.BraceClose)) ∷ K) (omega arith))
      (λ rs j le1. phrase _ _ (block_reads n j K (omega arith))
      (λ xs l le2. given (s.Map (place_at t) kind rs xs) l le2 (λ a2 h2 a1 h1. make_map is h1 h2)))

  reduction_reads : (n : ℕ) (p : Place) (ts : List Symbol) (K : List Owed) → length ts ≤ n
      → Reading n most (stmt_rest d (c.Key k.Mapreduce) K) K (λ v a b. Derives (grammar.One grammar.Stmt d v) (at (Key p k.Mapreduce) d ∷ a) b) ts (reduction left p ts)
  unfolding reduction
  reduction_reads n p ts K le = phrase _ _ (ranges_read n ts _ (omega arith))
      (λ rs j le1. phrase _ _ (reduced_reads most left d eq n j _ (omega arith))
      (λ kind l le2. phrase _ _ (only_reads most left d eq n l K (omega arith))
      (λ x u le3. given (s.Map p kind rs (s.Call x ∷ [])) u le3 (λ a3 h3 a2 h2 a1 h1. make_reduction h1 h2 h3))))

  call_stmt_reads : (n : ℕ) (i : List Symbol) (K : List Owed) → length i ≤ suc n
      → Reading n most (owe grammar.Call d (Token d (This (c.Sign g.Semi)) ∷ K)) K (λ v a b. Derives (grammar.One grammar.Stmt d v) a b) i (call_stmt left i)
  unfolding call_stmt
  call_stmt_reads n i K le = phrase _ _ (call_reads most left d eq n i (Token d (This (c.Sign g.Semi)) ∷ K) le)
      (λ x j le1. fixed (c.Sign g.Semi) tt (omega arith) _ j (omega arith)
      (λ p l le2. given (s.Call x) l le2 (λ a h. a_call_stmt h)))

  stmt_case : (n : ℕ) (i : List Symbol) (K : List Owed) → length i ≤ suc n
      → Reading n most (One grammar.Stmt d ∷ K) K (λ v a b. Derives (grammar.One grammar.Stmt d v) a b) i
      (stmt_by left (block left) i)
  unfolding call_stmt call
  stmt_case n [] K le = record { is = refl }
  stmt_case n (Word p w ∷ ts) K le = restack (call_stmt left (Word p w ∷ ts)) refl refl (call_stmt_reads n (Word p w ∷ ts) K le)
  stmt_case n (Key p k.Mappar ∷ ts) K le = eaten grammar.Stmt d (Key p k.Mappar) ts (map_over left (block left) p Par ts) (λ t. refl) refl (omega arith) (map_reads n (Key p k.Mappar) Par ts K refl (omega arith))
  stmt_case n (Key p k.Mapseq ∷ ts) K le = eaten grammar.Stmt d (Key p k.Mapseq) ts (map_over left (block left) p Seq ts) (λ t. refl) refl (omega arith) (map_reads n (Key p k.Mapseq) Seq ts K refl (omega arith))
  stmt_case n (Key p k.Mapreduce ∷ ts) K le = eaten grammar.Stmt d (Key p k.Mapreduce) ts (reduction left p ts) (λ t. refl) refl (omega arith) (reduction_reads n p ts K (omega arith))
  stmt_case n (Key p _ ∷ ts) K le = record { is = refl }
  stmt_case n (Number p m ∷ ts) K le = record { is = refl }
  stmt_case n (Mark p m ∷ ts) K le = record { is = refl }
  stmt_case n (Last p ∷ ts) K le = record { is = refl }

  stmt_by_reads : StmtReads most left d
  stmt_by_reads n i K le = subst (Reading n most (One grammar.Stmt d ∷ K) K (λ v a b. Derives (grammar.One grammar.Stmt d v) a b) i) (sym (stmt_is left i)) (stmt_case n i K le)

pub stmt_reads : (most m d : ℕ) → m + d ≡ most → StmtReads most m d
stmt_reads most zero d e = stmt_by_reads most d zero e (λ m q. absurd (omega arith))
stmt_reads most (suc n) d e = stmt_by_reads most d (suc n) e
    (λ m q. let same : n ≡ m = omega arith in subst (λ m. StmtReads most m (suc d)) same (stmt_reads most n (suc d) (omega arith)))
