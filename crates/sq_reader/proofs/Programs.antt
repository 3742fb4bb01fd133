-- Parameters, declarations, tasks and whole programs: what is read is derived, and the machine goes on after it.
use Rattle.std.proofs.Common.{◌≡◌, ℕ, zero, suc, ◌+◌, ◌≤◌, Bool, true, false, if◌then◌else◌, List, [], ◌∷◌, ◌++◌, length, Some, Ok, Err, refl, sym, ◌∙◌, ap, subst, append_assoc, append-nil, arith}
use Rattle.std.specs.Prelude.{◌&&◌}
use Rattle.sq_text.specs.declared.place.Place.{Place}
use Rattle.sq_num.specs.declared.Elem.{Elem}
use Rattle.sq_lexer.specs.declared.token.Sign.TheVariants as g
use Rattle.sq_ast.specs.declared.keyword.Keyword.TheVariants as k
use Rattle.sq_ast.specs.declared.class.Class.{Class}
use Rattle.sq_ast.specs.declared.class.Class.TheVariants as c
use Rattle.sq_text.specs.declared.word.Word as tree
use Rattle.sq_ast.specs.declared.expr.Expr.{Expr}
use Rattle.sq_ast.specs.declared.program.Extent.{Extent}
use Rattle.sq_ast.specs.declared.program.Extent.TheVariants.{Size, Fixed}
use Rattle.sq_ast.specs.declared.program.Mode.{Mode}
use Rattle.sq_ast.specs.declared.program.Param.{Param}
use Rattle.sq_ast.specs.declared.program.Decl.{Decl}
use Rattle.sq_ast.specs.declared.program.Decl.TheVariants as declared
use Rattle.sq_ast.specs.declared.program.Variant.{Variant}
use Rattle.sq_ast.specs.declared.program.Program.{Program}
use Rattle.sq_ast.specs.Symbols.{Symbol, Word, Number, Key, Mark, Last, class_at}
use Rattle.sq_ast.specs.Grammar.{class, joined, mode_of, elem_of, extent_of, param_of, tunable_of, inner_of, leaf_of, Leveled, at, word, Value, Count, Any, AtMost, Index, Next, Derives, a_void_task, a_task, an_inner, a_leaf, a_param, an_extent, tunables, a_tunable, a_local, a_tunable_list, an_rchop, an_ichop, IsText}
use Rattle.sq_ast.specs.Grammar as grammar
use Rattle.sq_reader.specs.Reading.{Outcome, Parser, and_then, ◌>>=◌, ◌>>◌, take_token, next, expect, expect_word, opening, same, sees, some, is_comma, is_bracket, many_from, many_after, index, inner, extent_by, extent, extents, param, tunable, tunable_list, tunable_decl, dims, local, sizes, rchop, comma_word, ichop, chop, blkset, begins_decl, decl, decls, joined_from, listed, stmt, leaf_stmt, begins_stmt, begins_leaf_stmt, inner_variant, leaf_variant, inner_rest, inner_task, leaf_rest, leaf_task, variant, task_named, task, begins_task, finish, program}
use Rattle.sq_reader.specs.Reading as reading
use Rattle.sq_reader.proofs.Machine.{This, AWord, AMode, AnElem, AnExtent, Owed, Token, One, Many, After, AfterTunable, AfterSet, AfterPath, owe, expr, decl_rest, label, start}
use Rattle.sq_reader.proofs.Readings.{Reading, given, restack, gives_more, phrase, fixed, a_word, of_table, opens, taken, no_token}
use Rattle.sq_reader.proofs.Items.{eaten, begin_run, begin_label, more_of, all_of, up_to, PartReads, next_reads, listed_reads}
use Rattle.sq_reader.proofs.Exprs.{expr_reads, index_part}
use Rattle.sq_reader.proofs.Stmts.{stmt_reads, stmts_read}
use Rattle.sq_reader.proofs.Leaves.{leaf_stmt_reads, leaves_read}

-- one part, and then others
data OneOrMore (x : grammar.Item) (most : Count) (d : ℕ) : List (Value x) → List Leveled → List Leveled → Type 0 where
  one_or_more : {v : Value x} {vs : List (Value x)} {a b e : List Leveled} → Derives (grammar.One x d v) a b → Derives (grammar.Many x most d vs) b e → OneOrMore x most d (v ∷ vs) a e

-- one part, and then others after commas
data Commas (x : grammar.Item) (d : ℕ) : List (Value x) → List Leveled → List Leveled → Type 0 where
  commas : {v : Value x} {vs : List (Value x)} {a b e : List Leveled} → Derives (grammar.One x d v) a b → Derives (grammar.Many (Next x) Any d vs) b e → Commas x d (v ∷ vs) a e

-- ---- parameters

module _ {B : Type 0} {n most d : ℕ} {M K : List Owed} {R : B → List Leveled → List Leveled → Type 0} where
  an_extent_value : d ≤ most → (f : Extent → Parser B) (i : List Symbol) → length i ≤ suc n
      → ((t : Symbol) (x : Extent) (j : List Symbol) → length j ≤ n → extent_of t ≡ Some x → Reading n most M K (λ y b e. R y (at t d ∷ b) e) j (f x j))
      → Reading n most (Token d AnExtent ∷ M) K R i (and_then (extent_by (class i) i) f)
  an_extent_value le f [] below g = record { is = no_token most d AnExtent M }
  an_extent_value le f (Word p w ∷ ts) below g = taken AnExtent (Word p w) ts (f (Size p w) ts) le refl (g (Word p w) (Size p w) ts (omega arith) refl)
  an_extent_value le f (Number p m ∷ ts) below g = taken AnExtent (Number p m) ts (f (Fixed p m) ts) le refl (g (Number p m) (Fixed p m) ts (omega arith) refl)
  an_extent_value le f (Key p k ∷ ts) below g = record { is = refl }
  an_extent_value le f (Mark p s ∷ ts) below g = record { is = refl }
  an_extent_value le f (Last p ∷ ts) below g = record { is = refl }

extent_reads : (most : ℕ) → PartReads most grammar.Extent extent
unfolding extent
extent_reads most m d e n i K le =
    let f : List Owed → List Owed = λ K. Token (suc d) AnExtent ∷ Token d (This (c.Sign g.BracketClose)) ∷ K in
    restack (extent m i) (begin_run grammar.Extent d (suc d) (c.Sign g.BracketOpen) f (λ t. refl) most i K) (begin_label grammar.Extent d (suc d) (c.Sign g.BracketOpen) f (λ t. refl) i K)
    (opens (c.Sign g.BracketOpen) tt m e _ i le
    (λ p left j em le1. an_extent_value (omega arith) _ j (omega arith)
    (λ t x l le2 is. fixed (c.Sign g.BracketClose) tt (omega arith) _ l (omega arith)
    (λ q u le3. given x u le3 (an_extent is)))))

extents_read : (most m d : ℕ) → m + d ≡ most → (n : ℕ) (i : List Symbol) (K : List Owed) → length i ≤ suc n
    → Reading n most (One grammar.Extent d ∷ Many grammar.Extent (AtMost 2) d ∷ K) K (OneOrMore grammar.Extent (AtMost 2) d) i (extents m i)
unfolding extents
extents_read most m d e n i K le = phrase _ _ (extent_reads most m d e n i (Many grammar.Extent (AtMost 2) d ∷ K) le)
    (λ x j le1. gives_more (many_from is_bracket (extent m) 2 (x ∷ []) j) (λ all b e h a hx. subst (λ all. OneOrMore grammar.Extent (AtMost 2) d all a e) (sym h.1) (one_or_more hx h.2))
    (up_to most grammar.Extent d (λ t. refl) refl (extent m) (λ n t ts K b below. extent_reads most m d e n (t ∷ ts) K (omega arith)) n 2 (x ∷ []) j K le1))

make_param : {d : ℕ} {t u : Symbol} {way : Mode} {type : Elem} {w : tree.Word} {xs : List Extent} {a b : List Leveled} → mode_of (class_at t) ≡ Some way → elem_of (class_at u) ≡ Some type
    → OneOrMore grammar.Extent (AtMost 2) d xs a b → Derives (grammar.One grammar.Param d (param_of way type w xs)) (at t d ∷ at u d ∷ word w d ∷ a) b
make_param is q (one_or_more h r) = a_param is q h r

param_reads : (most : ℕ) → PartReads most grammar.Param param
unfolding param
param_reads most m d e n i K le = of_table AMode mode_of refl (λ t. refl) (omega arith) _ i le
    (λ t way j le1 is. of_table AnElem elem_of refl (λ t. refl) (omega arith) _ j (omega arith)
    (λ u type l le2 q. a_word (omega arith) _ l (omega arith)
    (λ w v le3. phrase _ _ (extents_read most m d e n v K (omega arith))
    (λ xs z le4. given (param_of way type w xs) z le4 (λ a h. make_param is q h)))))

-- ---- declarations

tunable_reads : (most : ℕ) → PartReads most grammar.Tunable (λ m. tunable)
unfolding tunable
tunable_reads most m d e n i K le = a_word (omega arith) _ i le (λ w j le1. given (tunable_of w) j le1 a_tunable)

module _ (most d left : ℕ) (eq : left + d ≡ most) where
  tunables_read : (inner : Bool) (p q : Place) (w : tree.Word) (n : ℕ) (i : List Symbol) (K : List Owed) → length i ≤ n
      → Reading n most (Many (Next grammar.Tunable) Any d ∷ Token d (This (c.Sign g.Semi)) ∷ K) K
      (λ v a b. Derives (grammar.One (grammar.Decl inner) d v) (at (Key p k.Tunable) d ∷ at (Key q k.Int) d ∷ word w d ∷ a) b) i (reading.tunables w i)
  unfolding reading.tunables
  tunables_read inner p q w n i K le =
      phrase _ _ (more_of most (Next grammar.Tunable) d (λ t. refl) refl (take_token >> tunable) (next_reads most grammar.Tunable (λ m. tunable) (tunable_reads most) left d eq) n (tunable_of w ∷ []) i
      (Token d (This (c.Sign g.Semi)) ∷ K) le)
      (λ all j le1. fixed (c.Sign g.Semi) tt (omega arith) _ j (omega arith)
      (λ r l le2. given all l le2
      (λ a h. subst (λ all. Derives (grammar.One (grammar.Decl inner) d all) (at (Key p k.Tunable) d ∷ at (Key q k.Int) d ∷ word w d ∷ a) (label l K)) (sym h.1) (tunables h.2))))

  list_reads : (p q : Place) (w : tree.Word) (n : ℕ) (i : List Symbol) (K : List Owed) → length i ≤ suc n
      → Reading n most (Token (suc d) (This (c.Sign g.BracketOpen)) ∷ Token d (This (c.Sign g.BracketClose)) ∷ Token d (This (c.Sign g.Semi)) ∷ K) K
      (λ v a b. Derives (grammar.One (grammar.Decl true) d v) (at (Key p k.Tunable) d ∷ at (Key q k.Int) d ∷ word w d ∷ a) b) i (tunable_list left w i)
  unfolding tunable_list
  list_reads p q w n i K le = opens (c.Sign g.BracketOpen) tt left eq _ i le
      (λ r m j em le1. fixed (c.Sign g.BracketClose) tt (omega arith) _ j (omega arith)
      (λ u l le2. fixed (c.Sign g.Semi) tt (omega arith) _ l (omega arith)
      (λ v x le3. given (declared.List w.place w.name ∷ []) x le3 a_tunable_list)))

  after_tunable : (inner : Bool) (p q : Place) (w : tree.Word) (n : ℕ) (i : List Symbol) (K : List Owed) → length i ≤ n
      → Reading n most (After (AfterTunable inner) d ∷ K) K (λ v a b. Derives (grammar.One (grammar.Decl inner) d v) (at (Key p k.Tunable) d ∷ at (Key q k.Int) d ∷ word w d ∷ a) b) i
      (if inner && is_bracket (class i) then tunable_list left w i else reading.tunables w i)
  after_tunable true p q w n (Mark r g.BracketOpen ∷ ts) K le = restack (tunable_list left w (Mark r g.BracketOpen ∷ ts)) refl refl (list_reads p q w n (Mark r g.BracketOpen ∷ ts) K (omega arith))
  after_tunable true p q w n [] K le = restack (reading.tunables w []) refl refl (tunables_read true p q w n [] K le)
  after_tunable true p q w n (Mark r g.Comma ∷ ts) K le = restack (reading.tunables w (Mark r g.Comma ∷ ts)) refl refl (tunables_read true p q w n (Mark r g.Comma ∷ ts) K le)
  after_tunable true p q w n (Mark r g.Semi ∷ ts) K le = restack (reading.tunables w (Mark r g.Semi ∷ ts)) refl refl (tunables_read true p q w n (Mark r g.Semi ∷ ts) K le)
  after_tunable true p q w n (t ∷ ts) K le = restack (reading.tunables w (t ∷ ts)) refl refl (tunables_read true p q w n (t ∷ ts) K le)
  after_tunable false p q w n [] K le = restack (reading.tunables w []) refl refl (tunables_read false p q w n [] K le)
  after_tunable false p q w n (Mark r g.BracketOpen ∷ ts) K le = restack (reading.tunables w (Mark r g.BracketOpen ∷ ts)) refl refl (tunables_read false p q w n (Mark r g.BracketOpen ∷ ts) K le)
  after_tunable false p q w n (Mark r g.Comma ∷ ts) K le = restack (reading.tunables w (Mark r g.Comma ∷ ts)) refl refl (tunables_read false p q w n (Mark r g.Comma ∷ ts) K le)
  after_tunable false p q w n (Mark r g.Semi ∷ ts) K le = restack (reading.tunables w (Mark r g.Semi ∷ ts)) refl refl (tunables_read false p q w n (Mark r g.Semi ∷ ts) K le)
  after_tunable false p q w n (t ∷ ts) K le = restack (reading.tunables w (t ∷ ts)) refl refl (tunables_read false p q w n (t ∷ ts) K le)

  tunable_decl_reads : (inner : Bool) (p : Place) (n : ℕ) (i : List Symbol) (K : List Owed) → length i ≤ suc n
      → Reading n most (decl_rest inner d (c.Key k.Tunable) K) K (λ v a b. Derives (grammar.One (grammar.Decl inner) d v) (at (Key p k.Tunable) d ∷ a) b) i (tunable_decl inner left i)
  unfolding tunable_decl
  tunable_decl_reads inner p n i K le = fixed (c.Key k.Int) tt (omega arith) _ i le
      (λ q j le1. a_word (omega arith) _ j (omega arith)
      (λ w l le2. after_tunable inner p q w n l K le2))

  dims_read : (n : ℕ) (i : List Symbol) (K : List Owed) → length i ≤ suc n
      → Reading n most (One (Index true) d ∷ Many (Index true) (AtMost 2) d ∷ K) K (OneOrMore (Index true) (AtMost 2) d) i (dims left i)
  unfolding dims
  dims_read n i K le = phrase _ _ (index_part most true left d eq n i (Many (Index true) (AtMost 2) d ∷ K) le)
      (λ x j le1. gives_more (many_from is_bracket (index (inner true left)) 2 (x ∷ []) j) (λ all b e h a hx. subst (λ all. OneOrMore (Index true) (AtMost 2) d all a e) (sym h.1) (one_or_more hx h.2))
      (up_to most (Index true) d (λ t. refl) refl (index (inner true left)) (λ n t ts K b below. index_part most true left d eq n (t ∷ ts) K (omega arith)) n 2 (x ∷ []) j K le1))

make_local : {inner : Bool} {d : ℕ} {p q : Place} {t : Symbol} {type : Elem} {w : tree.Word} {xs : List Expr} {a b : List Leveled} → elem_of (class_at t) ≡ Some type
    → OneOrMore (Index true) (AtMost 2) d xs a (at (Mark q g.Semi) d ∷ b)
    → Derives (grammar.One (grammar.Decl inner) d (declared.Local w.place type w.name xs ∷ [])) (at (Key p k.Local) d ∷ at t d ∷ word w d ∷ a) b
make_local is (one_or_more h r) = a_local is h r

data IsChop (d : ℕ) (w : tree.Word) : List Decl → List Leveled → List Leveled → Type 0 where
  is_rchop : {array : tree.Word} {xs : List Expr} {r u v y : Place} {i l : List Leveled} → Commas (grammar.expr true) (suc d) xs i (at (Mark y g.ParenClose) d ∷ l)
      → IsChop d w (declared.Rchop w.place w.name array xs ∷ []) (at (Key r k.Rchop) d ∷ at (Mark u g.ParenOpen) (suc d) ∷ word array (suc d) ∷ at (Mark v g.Comma) (suc d) ∷ i) l
  is_ichop : {array starts ends : tree.Word} {r u v x y : Place} {l : List Leveled} → IsChop d w (declared.Ichop w.place w.name array starts ends ∷ [])
      (at (Key r k.Ichop) d ∷ at (Mark u g.ParenOpen) (suc d) ∷ word array (suc d) ∷ at (Mark v g.Comma) (suc d) ∷ word starts (suc d) ∷ at (Mark x g.Comma) (suc d) ∷ word ends (suc d)
      ∷ at (Mark y g.ParenClose) d ∷ l) l

make_rchop : {d : ℕ} {p q r u v y z : Place} {w array : tree.Word} {xs : List Expr} {i l : List Leveled} → Commas (grammar.expr true) (suc d) xs i (at (Mark y g.ParenClose) d ∷ at (Mark z g.Semi) d ∷ l)
    → Derives (grammar.One (grammar.Decl true) d (declared.Rchop w.place w.name array xs ∷ []))
    (at (Key p k.Blkset) d ∷ word w d ∷ at (Mark q g.Set) d ∷ at (Key r k.Rchop) d ∷ at (Mark u g.ParenOpen) (suc d) ∷ word array (suc d) ∷ at (Mark v g.Comma) (suc d) ∷ i) l
make_rchop (commas h r) = an_rchop h r

make_blkset : {d : ℕ} {p q z : Place} {w : tree.Word} {ds : List Decl} {a b : List Leveled} → IsChop d w ds a (at (Mark z g.Semi) d ∷ b)
    → Derives (grammar.One (grammar.Decl true) d ds) (at (Key p k.Blkset) d ∷ word w d ∷ at (Mark q g.Set) d ∷ a) b
make_blkset (is_rchop h) = make_rchop h
make_blkset is_ichop = an_ichop

module _ (most d left : ℕ) (eq : left + d ≡ most) where
  local_reads : (inner : Bool) (p : Place) (n : ℕ) (i : List Symbol) (K : List Owed) → length i ≤ suc n
      → Reading n most (decl_rest inner d (c.Key k.Local) K) K (λ v a b. Derives (grammar.One (grammar.Decl inner) d v) (at (Key p k.Local) d ∷ a) b) i (local left i)
  unfolding local
  local_reads inner p n i K le = of_table AnElem elem_of refl (λ t. refl) (omega arith) _ i le
      (λ t type j le1 is. a_word (omega arith) _ j (omega arith)
      (λ w l le2. phrase _ _ (dims_read most d left eq n l (Token d (This (c.Sign g.Semi)) ∷ K) (omega arith))
      (λ xs u le3. fixed (c.Sign g.Semi) tt (omega arith) _ u (omega arith)
      (λ q v le4. given (declared.Local w.place type w.name xs ∷ []) v le4 (λ a h. make_local is h)))))

  sizes_read : (n : ℕ) (i : List Symbol) (K : List Owed) → length i ≤ suc n
      → Reading n most (expr true d (Many (Next (grammar.expr true)) Any d ∷ K)) K (Commas (grammar.expr true) d) i (sizes left i)
  unfolding sizes
  sizes_read n i K le = phrase _ _ (expr_reads most true left d eq n i (Many (Next (grammar.expr true)) Any d ∷ K) le)
      (λ x j le1. gives_more (many_after is_comma (take_token >> reading.expr true left) (x ∷ []) j) (λ all b e h a hx. subst (λ all. Commas (grammar.expr true) d all a e) (sym h.1) (commas hx h.2))
      (more_of most (Next (grammar.expr true)) d (λ t. refl) refl (take_token >> reading.expr true left) (next_reads most (grammar.expr true) (reading.expr true) (expr_reads most true) left d eq) n (x ∷ []) j K le1))

data IsNextWord (d : ℕ) : tree.Word → List Leveled → List Leveled → Type 0 where
  is_next_word : {w : tree.Word} {p : Place} {b : List Leveled} → IsNextWord d w (at (Mark p g.Comma) d ∷ word w d ∷ b) b

make_ichop : {d : ℕ} {w array starts ends : tree.Word} {r u y : Place} {a b l : List Leveled} → IsNextWord (suc d) starts a b → IsNextWord (suc d) ends b (at (Mark y g.ParenClose) d ∷ l)
    → IsChop d w (declared.Ichop w.place w.name array starts ends ∷ []) (at (Key r k.Ichop) d ∷ at (Mark u g.ParenOpen) (suc d) ∷ word array (suc d) ∷ a) l
make_ichop is_next_word is_next_word = is_ichop

as_given : {A : Type 0} (r : Outcome A) → and_then r (λ x j. Ok (x, j)) ≡ r
as_given (Ok p) = refl
as_given (Err e) = refl

comma_word_reads : (most d : ℕ) → d ≤ most → (n : ℕ) (i : List Symbol) (K : List Owed) → length i ≤ suc n
    → Reading n most (Token d (This (c.Sign g.Comma)) ∷ Token d AWord ∷ K) K (IsNextWord d) i (comma_word i)
unfolding comma_word
comma_word_reads most d le n i K below = fixed (c.Sign g.Comma) tt le _ i below
    (λ p j le1. subst (Reading n most (Token d AWord ∷ K) K _ j) (as_given (expect_word j)) (a_word le (λ w l. Ok (w, l)) j (omega arith) (λ w l le2. given w l le2 is_next_word)))

module _ (most d left : ℕ) (eq : left + d ≡ most) (w : tree.Word) where
  rchop_reads : (p : Place) (n : ℕ) (i : List Symbol) (K : List Owed) → length i ≤ n
      → Reading n most (Token (suc d) (This (c.Sign g.ParenOpen)) ∷ Token (suc d) AWord ∷ Token (suc d) (This (c.Sign g.Comma))
      ∷ expr true (suc d) (Many (Next (grammar.Chain true 2)) Any (suc d) ∷ Token d (This (c.Sign g.ParenClose)) ∷ K)) K
      (λ v a b. IsChop d w v (at (Key p k.Rchop) d ∷ a) b) i (and_then (opening (c.Sign g.ParenOpen) left i) (λ m j. rchop m w j))
  unfolding rchop
  rchop_reads p n i K le = opens (c.Sign g.ParenOpen) tt left eq _ i (omega arith)
      (λ q m j em le1. a_word (omega arith) _ j (omega arith)
      (λ array l le2. fixed (c.Sign g.Comma) tt (omega arith) _ l (omega arith)
      (λ r u le3. phrase _ _ (sizes_read most (suc d) m em n u (Token d (This (c.Sign g.ParenClose)) ∷ K) (omega arith))
      (λ xs v le4. fixed (c.Sign g.ParenClose) tt (omega arith) _ v (omega arith)
      (λ o z le5. given (declared.Rchop w.place w.name array xs ∷ []) z le5 (λ a h. is_rchop h))))))

  ichop_reads : (p : Place) (n : ℕ) (i : List Symbol) (K : List Owed) → length i ≤ n
      → Reading n most (Token (suc d) (This (c.Sign g.ParenOpen)) ∷ Token (suc d) AWord ∷ Token (suc d) (This (c.Sign g.Comma)) ∷ Token (suc d) AWord
      ∷ Token (suc d) (This (c.Sign g.Comma)) ∷ Token (suc d) AWord ∷ Token d (This (c.Sign g.ParenClose)) ∷ K) K
      (λ v a b. IsChop d w v (at (Key p k.Ichop) d ∷ a) b) i (and_then (opening (c.Sign g.ParenOpen) left i) (λ m j. ichop w j))
  unfolding ichop
  ichop_reads p n i K le = opens (c.Sign g.ParenOpen) tt left eq _ i (omega arith)
      (λ q m j em le1. a_word (omega arith) _ j (omega arith)
      (λ array l le2. phrase _ _ (comma_word_reads most (suc d) (omega arith) n l _ (omega arith))
      (λ starts u le3. phrase _ _ (comma_word_reads most (suc d) (omega arith) n u _ (omega arith))
      (λ ends v le4. fixed (c.Sign g.ParenClose) tt (omega arith) _ v (omega arith)
      (λ o z le5. given (declared.Ichop w.place w.name array starts ends ∷ []) z le5 (λ a2 h2 a1 h1. make_ichop h1 h2))))))

  chop_reads : (n : ℕ) (i : List Symbol) (K : List Owed) → length i ≤ suc n
      → Reading n most (After AfterSet d ∷ K) (Token d (This (c.Sign g.Semi)) ∷ K) (IsChop d w) i (chop left w i)
  unfolding chop
  chop_reads n [] K le = record { is = refl }
  chop_reads n (Key p k.Rchop ∷ ts) K le = restack (and_then (opening (c.Sign g.ParenOpen) left ts) (λ m j. rchop m w j)) refl refl
      (taken (This (c.Key k.Rchop)) (Key p k.Rchop) ts (and_then (opening (c.Sign g.ParenOpen) left ts) (λ m j. rchop m w j)) (omega arith) refl
      (rchop_reads p n ts (Token d (This (c.Sign g.Semi)) ∷ K) (omega arith)))
  chop_reads n (Key p k.Ichop ∷ ts) K le = restack (and_then (opening (c.Sign g.ParenOpen) left ts) (λ m j. ichop w j)) refl refl
      (taken (This (c.Key k.Ichop)) (Key p k.Ichop) ts (and_then (opening (c.Sign g.ParenOpen) left ts) (λ m j. ichop w j)) (omega arith) refl
      (ichop_reads p n ts (Token d (This (c.Sign g.Semi)) ∷ K) (omega arith)))
  chop_reads n (t ∷ ts) K le = record { is = refl }

module _ (most d left : ℕ) (eq : left + d ≡ most) where
  blkset_reads : (p : Place) (n : ℕ) (i : List Symbol) (K : List Owed) → length i ≤ suc n
      → Reading n most (Token d AWord ∷ Token d (This (c.Sign g.Set)) ∷ After AfterSet d ∷ K) K (λ v a b. Derives (grammar.One (grammar.Decl true) d v) (at (Key p k.Blkset) d ∷ a) b) i (blkset left i)
  unfolding blkset
  blkset_reads p n i K le = a_word (omega arith) _ i le
      (λ w j le1. fixed (c.Sign g.Set) tt (omega arith) _ j (omega arith)
      (λ q l le2. phrase _ _ (chop_reads most d left eq w n l K (omega arith))
      (λ ds u le3. fixed (c.Sign g.Semi) tt (omega arith) _ u (omega arith)
      (λ r v le4. given ds v le4 (λ a h. make_blkset h)))))

  decl_reads : (inner : Bool) (n : ℕ) (i : List Symbol) (K : List Owed) → length i ≤ suc n
      → Reading n most (One (grammar.Decl inner) d ∷ K) K (λ v a b. Derives (grammar.One (grammar.Decl inner) d v) a b) i (decl inner left i)
  unfolding decl
  decl_reads true n [] K le = record { is = refl }
  decl_reads false n [] K le = record { is = refl }
  decl_reads inner n (Key p k.Tunable ∷ ts) K le = eaten (grammar.Decl inner) d (Key p k.Tunable) ts (tunable_decl inner left ts) (λ t. refl) refl (omega arith)
      (tunable_decl_reads most d left eq inner p n ts K (omega arith))
  decl_reads inner n (Key p k.Local ∷ ts) K le = eaten (grammar.Decl inner) d (Key p k.Local) ts (local left ts) (λ t. refl) refl (omega arith) (local_reads most d left eq inner p n ts K (omega arith))
  decl_reads true n (Key p k.Blkset ∷ ts) K le = eaten (grammar.Decl true) d (Key p k.Blkset) ts (blkset left ts) (λ t. refl) refl (omega arith) (blkset_reads p n ts K (omega arith))
  decl_reads true n (t ∷ ts) K le = record { is = refl }
  decl_reads false n (t ∷ ts) K le = record { is = refl }

  decls_read : (inner : Bool) (n : ℕ) (i : List Symbol) (K : List Owed) → length i ≤ n
      → Reading n most (Many (grammar.Decl inner) Any d ∷ K) K (λ vs a b. Derives (grammar.Many (grammar.Decl inner) Any d vs) a b) i (many_after (begins_decl inner) (decl inner left) [] i)
  decls_read inner n i K le = all_of most (grammar.Decl inner) d (λ t. refl) refl (decl inner left) (λ n t ts K b below. decl_reads inner n (t ∷ ts) K (omega arith)) n i K le

joined_append : {A : Type 0} (xss : List (List A)) (xs : List A) → joined (xss ++ xs ∷ []) ≡ joined xss ++ xs
joined_append [] xs = append-nil xs
joined_append (ys ∷ xss) xs = ap (λ zs. ys ++ zs) (joined_append xss xs) ∙ sym (append_assoc ys (joined xss) xs)

pub joined_is : {A : Type 0} (b : Class → Bool) (p : Parser (List A)) (n : ℕ) (got : List (List A)) (i : List Symbol)
    → joined_from b p n (joined got) i ≡ and_then (many_from b p n got i) (λ xss j. Ok (joined xss, j))
unfolding joined_from many_from
joined_is b p zero got i = refl
joined_is {A = A} b p (suc n) got i = by_begin (b (class i)) (p i) (λ got j. joined_is b p n got j)
  where
    by_begin : (e : Bool) (r : Outcome (List A)) → ((got : List (List A)) (j : List Symbol) → joined_from b p n (joined got) j ≡ and_then (many_from b p n got j) (λ xss j. Ok (joined xss, j))) → (if e then and_then r (λ xs. joined_from b p n (joined got ++ xs)) else Ok (joined got, i))
        ≡ and_then (if e then and_then r (λ xs. many_from b p n (got ++ xs ∷ [])) else Ok (got, i)) (λ xss j. Ok (joined xss, j))
    by_begin true (Ok q) again = ap (λ all. joined_from b p n all q.1) (sym (joined_append got q.0)) ∙ again (got ++ q.0 ∷ []) q.1
    by_begin true (Err z) again = refl
    by_begin false r again = refl

pub decls_is : (inner : Bool) (n : ℕ) (i : List Symbol) → decls inner n i ≡ and_then (many_after (begins_decl inner) (decl inner n) [] i) (λ xss j. Ok (joined xss, j))
unfolding decls many_after
decls_is inner n i = joined_is (begins_decl inner) (decl inner n) (length i) [] i

joined_read : (most d left : ℕ) → left + d ≡ most → (inner : Bool) (n : ℕ) (i : List Symbol) (K : List Owed) → length i ≤ n
    → Reading n most (Many (grammar.Decl inner) Any d ∷ K) K (λ ds a b. (xss : List (List Decl)) × (ds ≡ joined xss) × Derives (grammar.Many (grammar.Decl inner) Any d xss) a b) i (decls inner left i)
joined_read most d left eq inner n i K le = subst (Reading n most (Many (grammar.Decl inner) Any d ∷ K) K _ i) (sym (decls_is inner left i))
    (phrase _ _ (decls_read most d left eq inner n i K le) (λ xss j le1. given (joined xss) j le1 (λ a h. (xss, refl, h))))

-- ---- tasks

data IsVariant (d : ℕ) (w : tree.Word) : Variant → List Leveled → List Leveled → Type 0 where
  is_inner : {ps : List Param} {ds : List (List Decl)} {xs : List _} {r u v : Place} {i j l m : List Leveled} → Derives (grammar.One (grammar.Listed grammar.Param) d ps) i (at (Mark u g.BraceOpen) (suc d) ∷ j)
      → Derives (grammar.Many (grammar.Decl true) Any (suc d) ds) j l → Derives (grammar.Many grammar.Stmt Any (suc d) xs) l (at (Mark v g.BraceClose) d ∷ m)
      → IsVariant d w (inner_of w ps ds xs) (at (Key r k.Inner) d ∷ i) m
  is_leaf : {ps : List Param} {ds : List (List Decl)} {xs : List _} {r u v : Place} {i j l m : List Leveled} → Derives (grammar.One (grammar.Listed grammar.Param) d ps) i (at (Mark u g.BraceOpen) (suc d) ∷ j)
      → Derives (grammar.Many (grammar.Decl false) Any (suc d) ds) j l → Derives (grammar.Many grammar.LeafStmt Any (suc d) xs) l (at (Mark v g.BraceClose) d ∷ m)
      → IsVariant d w (leaf_of w ps ds xs) (at (Key r k.Leaf) d ∷ i) m

make_task : {d : ℕ} {w : tree.Word} {v : Variant} {p q : Place} {a b : List Leveled} → IsVariant d w v a b
    → Derives (grammar.One grammar.Named d v) (at (Key p k.Task) d ∷ word w d ∷ at (Mark q g.Path) d ∷ a) b
make_task (is_inner h g f) = an_inner h g f
make_task (is_leaf h g f) = a_leaf h g f

module _ (most d left : ℕ) (eq : left + d ≡ most) where
  params_read : (n : ℕ) (i : List Symbol) (K : List Owed) → length i ≤ suc n
      → Reading n most (owe (grammar.Listed grammar.Param) d K) K (λ v a b. Derives (grammar.One (grammar.Listed grammar.Param) d v) a b) i (listed param left i)
  params_read n i K le = listed_reads most grammar.Param param (param_reads most) left d eq n i K le

  inner_reads : (w : tree.Word) (p : Place) (n : ℕ) (i : List Symbol) (K : List Owed) → length i ≤ suc n
      → Reading n most (owe (grammar.Listed grammar.Param) d (Token (suc d) (This (c.Sign g.BraceOpen)) ∷ Many (grammar.Decl true) Any (suc d) ∷ Many grammar.Stmt Any (suc d) ∷ Token d (This (c.Sign g.BraceClose)) ∷ K)) K
      (λ v a b. IsVariant d w v (at (Key p k.Inner) d ∷ a) b) i (inner_task left w i)
  unfolding inner_task inner_rest
  inner_reads w p n i K le = phrase _ _ (params_read n i (Token (suc d) (This (c.Sign g.BraceOpen)) ∷ Many (grammar.Decl true) Any (suc d) ∷ Many grammar.Stmt Any (suc d) ∷ Token d (This (c.Sign g.BraceClose)) ∷ K) le)
      (λ ps j le1. opens (c.Sign g.BraceOpen) tt left eq _ j (omega arith)
      (λ q m l em le2. phrase _ _ (joined_read most (suc d) m em true n l (Many grammar.Stmt Any (suc d) ∷ Token d (This (c.Sign g.BraceClose)) ∷ K) le2)
      (λ ds u le3. phrase _ _ (stmts_read most m (suc d) (stmt_reads most m (suc d) em) n u (Token d (This (c.Sign g.BraceClose)) ∷ K) le3)
      (λ xs v le4. fixed (c.Sign g.BraceClose) tt (omega arith) _ v (omega arith)
      (λ r z le5. given (inner_variant w ps ds xs) z le5 (λ a3 h3 a2 h2 a1 h1. subst (λ ds. IsVariant d w (inner_variant w ps ds xs) (at (Key p k.Inner) d ∷ a1) (label z K)) (sym h2.1) (is_inner h1 h2.2 h3)))))))

  leaf_reads : (w : tree.Word) (p : Place) (n : ℕ) (i : List Symbol) (K : List Owed) → length i ≤ suc n
      → Reading n most (owe (grammar.Listed grammar.Param) d (Token (suc d) (This (c.Sign g.BraceOpen)) ∷ Many (grammar.Decl false) Any (suc d) ∷ Many grammar.LeafStmt Any (suc d) ∷ Token d (This (c.Sign g.BraceClose)) ∷ K)) K
      (λ v a b. IsVariant d w v (at (Key p k.Leaf) d ∷ a) b) i (leaf_task left w i)
  unfolding leaf_task leaf_rest
  leaf_reads w p n i K le = phrase _ _ (params_read n i (Token (suc d) (This (c.Sign g.BraceOpen)) ∷ Many (grammar.Decl false) Any (suc d) ∷ Many grammar.LeafStmt Any (suc d) ∷ Token d (This (c.Sign g.BraceClose)) ∷ K) le)
      (λ ps j le1. opens (c.Sign g.BraceOpen) tt left eq _ j (omega arith)
      (λ q m l em le2. phrase _ _ (joined_read most (suc d) m em false n l (Many grammar.LeafStmt Any (suc d) ∷ Token d (This (c.Sign g.BraceClose)) ∷ K) le2)
      (λ ds u le3. phrase _ _ (leaves_read most m (suc d) (leaf_stmt_reads most m (suc d) em) n u (Token d (This (c.Sign g.BraceClose)) ∷ K) le3)
      (λ xs v le4. fixed (c.Sign g.BraceClose) tt (omega arith) _ v (omega arith)
      (λ r z le5. given (leaf_variant w ps ds xs) z le5 (λ a3 h3 a2 h2 a1 h1. subst (λ ds. IsVariant d w (leaf_variant w ps ds xs) (at (Key p k.Leaf) d ∷ a1) (label z K)) (sym h2.1) (is_leaf h1 h2.2 h3)))))))

  variant_reads : (w : tree.Word) (n : ℕ) (i : List Symbol) (K : List Owed) → length i ≤ suc n → Reading n most (After AfterPath d ∷ K) K (IsVariant d w) i (variant left w i)
  unfolding variant
  variant_reads w n [] K le = record { is = refl }
  variant_reads w n (Key p k.Inner ∷ ts) K le = restack (inner_task left w ts) refl refl (taken (This (c.Key k.Inner)) (Key p k.Inner) ts (inner_task left w ts) (omega arith) refl (inner_reads w p n ts K (omega arith)))
  variant_reads w n (Key p k.Leaf ∷ ts) K le = restack (leaf_task left w ts) refl refl (taken (This (c.Key k.Leaf)) (Key p k.Leaf) ts (leaf_task left w ts) (omega arith) refl (leaf_reads w p n ts K (omega arith)))
  variant_reads w n (t ∷ ts) K le = record { is = refl }

  named_reads : (n : ℕ) (i : List Symbol) (K : List Owed) → length i ≤ suc n
      → Reading n most (owe grammar.Named d K) K (λ v a b. Derives (grammar.One grammar.Named d v) a b) i (task_named left i)
  unfolding task_named
  named_reads n i K le = fixed (c.Key k.Task) tt (omega arith) _ i le
      (λ p j le1. a_word (omega arith) _ j (omega arith)
      (λ w l le2. fixed (c.Sign g.Path) tt (omega arith) _ l (omega arith)
      (λ q u le3. gives_more (variant left w u) (λ v a b h. make_task h) (variant_reads w n u K (omega arith)))))

  pub task_reads : (n : ℕ) (i : List Symbol) (K : List Owed) → length i ≤ suc n
      → Reading n most (One grammar.Task d ∷ K) K (λ v a b. Derives (grammar.One grammar.Task d v) a b) i (task left i)
  unfolding task task_named
  task_reads n [] K le = record { is = refl }
  task_reads n (Key p k.Void ∷ ts) K le = eaten grammar.Task d (Key p k.Void) ts (task_named left ts) (λ t. refl) refl (omega arith)
      (gives_more (task_named left ts) (λ v a b h. a_void_task h) (named_reads n ts K (omega arith)))
  task_reads n (Key p k.Task ∷ ts) K le = restack (task_named left (Key p k.Task ∷ ts)) refl refl (gives_more (task_named left (Key p k.Task ∷ ts)) (λ v a b h. a_task h) (named_reads n (Key p k.Task ∷ ts) K le))
  task_reads n (t ∷ ts) K le = record { is = refl }

-- ---- programs

finish_reads : (most n : ℕ) (P : Program → List Leveled → List Leveled → Type 0) (v : Program) (i : List Symbol) → ((a : List Leveled) → P v [] a)
    → Reading n most [] [] P i (and_then (finish i) (λ u j. Ok (v, j)))
finish_reads most n P v [] h = record { is = (omega arith, refl, h []) }
finish_reads most n P v (t ∷ ts) h = record { is = refl }

pub program_reads : (most : ℕ) (ts : List Symbol) → Reading (length ts) most start [] (λ p a b. IsText a p) ts (program most ts)
unfolding program
program_reads most ts = phrase _ _
    (all_of most grammar.Task 0 (λ t. refl) refl (task most) (λ n t ts K b below. task_reads most 0 most (omega arith) n (t ∷ ts) K (omega arith)) (length ts) ts (Token 0 (This c.End) ∷ []) (omega arith))
    (λ vs j le. fixed c.End tt (omega arith) _ j (omega arith)
    (λ p l le1. finish_reads most (length ts) _ (record { tasks = vs }) l (λ b a h. (p, h))))

after_finish : {A B : Type 0} (r : Outcome A) (f : A → Parser B) (P : List Symbol → Type 0) → ((x : A) (j : List Symbol) (y : B) (l : List Symbol) → f x j ≡ Ok (y, l) → P l)
    → (y : B) (l : List Symbol) → and_then r f ≡ Ok (y, l) → P l
after_finish (Ok p) f P h y l e = h p.0 p.1 y l e
after_finish (Err x) f P h y l e = absurd (cc)

abbrev rest_of : {A : Type 0} → Outcome A → List Symbol
rest_of (Ok p) = p.1
rest_of (Err e) = []

finish_ends : {A : Type 0} (x : A) (i : List Symbol) (y : A) (l : List Symbol) → and_then (finish i) (λ u m. Ok (x, m)) ≡ Ok (y, l) → l ≡ []
finish_ends x [] y l e = sym (ap rest_of e)
finish_ends x (t ∷ ts) y l e = absurd (cc)

-- where the parser gives a program, no token is left
pub program_ends : (most : ℕ) (ts : List Symbol) (p : Program) (l : List Symbol) → program most ts ≡ Ok (p, l) → l ≡ []
unfolding program
program_ends most ts = after_finish (many_after begins_task (task most) [] ts) _ (λ l. l ≡ [])
    (λ vs j. after_finish (expect c.End j) _ (λ l. l ≡ []) (λ u m y l. finish_ends (record { tasks = vs }) m y l))
