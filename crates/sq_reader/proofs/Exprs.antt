-- Expressions and constants: what is read is derived, and the machine goes on after it.
use Rattle.std.proofs.Common.{◌≡◌, ℕ, zero, suc, ◌+◌, ◌≤◌, Bool, true, false, if◌then◌else◌, List, [], ◌∷◌, length, Option, Some, None, Ok, Err, refl, sym, ◌∙◌, ap, subst, arith}
use Rattle.sq_text.specs.declared.place.Place.{Place}
use Rattle.sq_lexer.specs.declared.token.Sign.TheVariants as g
use Rattle.sq_ast.specs.declared.keyword.Keyword.TheVariants as k
use Rattle.sq_ast.specs.declared.class.Class.{Class}
use Rattle.sq_ast.specs.declared.class.Class.TheVariants as c
use Rattle.sq_ast.specs.declared.expr.UnOp.{UnOp}
use Rattle.sq_ast.specs.declared.expr.BinOp.{BinOp}
use Rattle.sq_ast.specs.declared.expr.Expr.{Expr}
use Rattle.sq_ast.specs.declared.expr.Expr.TheVariants as e
use Rattle.sq_ast.specs.Symbols.{Symbol, Word, Number, Key, Mark, class_at, place_at}
use Rattle.sq_ast.specs.Grammar.{if_some, class, word_of, link_of, chain_of, element, operator, levels, prefix, Leveled, at, word, Item, Operand, Chain, Link, Index, Any, Derives, an_index, an_operand, a_chain, a_link, a_unary, a_number, a_name, an_element, a_length, brackets, the_least, the_most}
use Rattle.sq_ast.specs.Grammar as grammar
use Rattle.sq_reader.specs.declared.error.ParseError.TheVariants.{Syntax}
use Rattle.sq_reader.specs.Reading.{Outcome, Parser, and_then, ◌>>=◌, ◌>>◌, take_token, next, place, expect, expect_word, opening, deeper, too_deep, refuse, between, same, sees, some, many_after, link, level, index, indices, is_operator, is_bracket, pair, length_of, start_of, primary_by, operand_by, operand, inner, inside, negated}
use Rattle.sq_reader.specs.Reading as reading
use Rattle.sq_reader.proofs.Machine.{This, AWord, Owed, Token, One, Many, Eat, Stop, owe, expr, begins, primary_step, moved, settle, found, run, labeled, label}
use Rattle.sq_reader.proofs.Steps.{same_self, operand_is}
use Rattle.sq_reader.proofs.Readings.{too_many, Reading, given, restack, gives_more, phrase, fixed, a_word, opens, taken}
use Rattle.sq_reader.proofs.Items.{eaten, begin_run, begin_label, deep, between_reads, all_of}

-- ---- levels of operators

module _ (most : ℕ) (constant : Bool) where
  module _ (n d : ℕ) (le : d ≤ most) (p : Parser Expr)
      (reads : (m : ℕ) (i : List Symbol) (K : List Owed) → length i ≤ suc m → Reading m most (owe (Chain constant n) d K) K (λ v a b. Derives (grammar.One (Chain constant n) d v) a b) i (p i)) where
    link_case : (m : ℕ) (t : Symbol) (ts : List Symbol) (K : List Owed) → length ts ≤ m → (o : Option BinOp) → operator n (class_at t) ≡ o → some o ≡ true
        → Reading m most (One (Link constant n) d ∷ K) K (λ v a b. Derives (grammar.One (Link constant n) d v) a b) (t ∷ ts)
        (if_some o (λ op. and_then (p ts) (λ right j. Ok (link_of (place_at t) op right, j))) (Err (Syntax (length (t ∷ ts)))))
    link_case m t ts K below None is b = absurd (cc)
    link_case m t ts K below (Some op) is b = eaten (Link constant n) d t ts (and_then (p ts) (λ right j. Ok (link_of (place_at t) op right, j))) (λ t. refl) (ap some is ∙ b) le
        (phrase _ _ (reads m ts K (omega arith)) (λ x j le1. given (link_of (place_at t) op x) j le1 (λ a h. a_link is h)))

    link_reads : (m : ℕ) (t : Symbol) (ts : List Symbol) (K : List Owed) → begins (Link constant n) (class_at t) ≡ true → length ts ≤ m
        → Reading m most (One (Link constant n) d ∷ K) K (λ v a b. Derives (grammar.One (Link constant n) d v) a b) (t ∷ ts) (link n p (t ∷ ts))
    unfolding link
    link_reads m t ts K b below = link_case m t ts K below (operator n (class_at t)) refl b

  level_reads : (d : ℕ) → d ≤ most → (p : Parser Expr)
      → ((m : ℕ) (i : List Symbol) (K : List Owed) → length i ≤ suc m → Reading m most (One (Operand constant) d ∷ K) K (λ v a b. Derives (grammar.One (Operand constant) d v) a b) i (p i))
      → (n m : ℕ) (i : List Symbol) (K : List Owed) → length i ≤ suc m
      → Reading m most (owe (Chain constant n) d K) K (λ v a b. Derives (grammar.One (Chain constant n) d v) a b) i (level p n i)
  unfolding level
  level_reads d le p reads zero m i K below = gives_more (p i) (λ v a b h. an_operand h) (reads m i K below)
  level_reads d le p reads (suc n) m i K below = phrase _ _ (level_reads d le p reads n m i (Many (Link constant n) Any d ∷ K) below)
      (λ x j le1. phrase _ _ (all_of most (Link constant n) d (λ t. refl) refl (link n (level p n)) (link_reads n d le (level p n) (level_reads d le p reads n)) m j K le1)
      (λ xs l le2. given (chain_of x xs) l le2 (λ a2 h2 a1 h1. a_chain h1 h2)))

-- ---- operands

abbrev pub OperandReads : ℕ → Bool → ℕ → ℕ → Type 0
OperandReads most constant m d = (n : ℕ) (i : List Symbol) (K : List Owed) → length i ≤ suc n
    → Reading n most (One (Operand constant) d ∷ K) K (λ v a b. Derives (grammar.One (Operand constant) d v) a b) i (operand constant m i)

abbrev pub ExprReads : ℕ → Bool → ℕ → ℕ → Type 0
ExprReads most constant m d = (n : ℕ) (i : List Symbol) (K : List Owed) → length i ≤ suc n
    → Reading n most (expr constant d K) K (λ v a b. Derives (grammar.One (grammar.expr constant) d v) a b) i (reading.expr constant m i)

expr_of : (most : ℕ) (constant : Bool) (m d : ℕ) → d ≤ most → OperandReads most constant m d → ExprReads most constant m d
expr_of most constant m d le reads n i K below = level_reads most constant d le (operand constant m) reads (levels constant) n i K below

pub inner_is : (constant : Bool) (o e : Class) (n : ℕ) (i : List Symbol) → between (inner constant n) o e i ≡ between (deep (reading.expr constant) n) o e i
unfolding inner
inner_is constant o e zero i = refl
inner_is constant o e (suc n) i = refl

pub pair_is : (n : ℕ) (i : List Symbol) → pair (inner false n) (inside false n) i
    ≡ and_then (opening (c.Sign g.ParenOpen) n i) (λ m j. and_then (reading.expr false m j) (λ x l. and_then (expect (c.Sign g.Comma) l)
    (λ u r. and_then (reading.expr false m r) (λ y o. and_then {B = Expr × Expr} (expect (c.Sign g.ParenClose) o) (λ v q. Ok ((x, y), q))))))
unfolding pair inner inside
pair_is n [] = refl
pair_is n (t ∷ ts) = by_left n (same (class_at t) (c.Sign g.ParenOpen))
  where
    by_left : (n : ℕ) (b : Bool)
        → (if b then and_then (inner false n (t ∷ ts)) (λ x l. and_then (expect (c.Sign g.Comma) l) (λ u r. and_then (inside false n r) (λ y o. and_then {B = Expr × Expr} (expect (c.Sign g.ParenClose) o) (λ v q. Ok ((x, y), q)))))
        else Err (Syntax (length (t ∷ ts))))
        ≡ and_then (if b then deeper n (t ∷ ts) else Err (Syntax (length (t ∷ ts)))) (λ m j. and_then (reading.expr false m j) (λ x l. and_then (expect (c.Sign g.Comma) l)
        (λ u r. and_then (reading.expr false m r) (λ y o. and_then {B = Expr × Expr} (expect (c.Sign g.ParenClose) o) (λ v q. Ok ((x, y), q))))))
    by_left zero true = refl
    by_left (suc n) true = refl
    by_left n false = refl

module _ (most d left : ℕ) (eq : left + d ≡ most) where
  module _ (constant : Bool) (deeper_reads : (m : ℕ) → m + suc d ≡ most → OperandReads most constant m (suc d)) where
    deeper_expr : (m n : ℕ) (j : List Symbol) (K : List Owed) → m + suc d ≡ most → length j ≤ n
        → Reading n most (expr constant (suc d) K) K (λ v a b. Derives (grammar.One (grammar.expr constant) (suc d) v) a b) j (reading.expr constant m j)
    deeper_expr m n j K em le = expr_of most constant m (suc d) (omega arith) (deeper_reads m em) n j K (omega arith)

    brackets_read : (n : ℕ) (i : List Symbol) (K : List Owed) → length i ≤ suc n
        → Reading n most (Token (suc d) (This (c.Sign g.ParenOpen)) ∷ expr constant (suc d) (Token d (This (c.Sign g.ParenClose)) ∷ K)) K
        (λ v a b. Derives (grammar.One (Operand constant) d v) a b) i (between (inner constant left) (c.Sign g.ParenOpen) (c.Sign g.ParenClose) i)
    brackets_read n i K le = subst (Reading n most _ K (λ v a b. Derives (grammar.One (Operand constant) d v) a b) i) (sym (inner_is constant (c.Sign g.ParenOpen) (c.Sign g.ParenClose) left i))
        (between_reads most (reading.expr constant) (c.Sign g.ParenOpen) (c.Sign g.ParenClose) tt tt d left eq (expr constant (suc d))
        (λ v a b. Derives (grammar.One (grammar.expr constant) (suc d) v) a b) deeper_expr (λ q r x a b h. brackets h) n i K le)

    index_reads : (n : ℕ) (i : List Symbol) (K : List Owed) → length i ≤ suc n
        → Reading n most (One (Index constant) d ∷ K) K (λ v a b. Derives (grammar.One (Index constant) d v) a b) i (index (inner constant left) i)
    index_reads n i K le =
        let f : List Owed → List Owed = λ K. expr constant (suc d) (Token d (This (c.Sign g.BracketClose)) ∷ K) in
        restack (index (inner constant left) i) (begin_run (Index constant) d (suc d) (c.Sign g.BracketOpen) f (λ t. refl) most i K) (begin_label (Index constant) d (suc d) (c.Sign g.BracketOpen) f (λ t. refl) i K)
        (subst (Reading n most _ K (λ v a b. Derives (grammar.One (Index constant) d v) a b) i) (sym (inner_is constant (c.Sign g.BracketOpen) (c.Sign g.BracketClose) left i))
        (between_reads most (reading.expr constant) (c.Sign g.BracketOpen) (c.Sign g.BracketClose) tt tt d left eq (expr constant (suc d))
        (λ v a b. Derives (grammar.One (grammar.expr constant) (suc d) v) a b) deeper_expr (λ q r x a b h. an_index h) n i K le))

    indices_read : (n : ℕ) (i : List Symbol) (K : List Owed) → length i ≤ n
        → Reading n most (Many (Index constant) Any d ∷ K) K (λ vs a b. Derives (grammar.Many (Index constant) Any d vs) a b) i (indices (inner constant left) [] i)
    indices_read n i K le = all_of most (Index constant) d (λ t. refl) refl (index (inner constant left)) (λ n t ts K b below. index_reads n (t ∷ ts) K (omega arith)) n i K le

    unary_case : (n : ℕ) (t : Symbol) (ts : List Symbol) (K : List Owed) → length ts ≤ n → (op : UnOp) → prefix constant (class_at t) ≡ Some op
        → Reading n most (One (Operand constant) d ∷ K) K (λ v a b. Derives (grammar.One (Operand constant) d v) a b) (t ∷ ts)
        (and_then (negated constant left (t ∷ ts)) (λ x j. Ok (e.Unary (place_at t) op x, j)))
    unfolding negated
    unary_case n t ts K below op is = by_left left eq
      where
        move : settle (One (Operand constant) d ∷ K) t ≡ Some (suc d, One (Operand constant) (suc d) ∷ K)
        move = ap (λ o. moved (if_some o (λ op. Eat (suc d) (λ K. One (Operand constant) (suc d) ∷ K)) (primary_step constant d (class_at t))) K (settle K t)) is

        as_token : settle (One (Operand constant) d ∷ K) t ≡ settle (Token (suc d) (This (class_at t)) ∷ One (Operand constant) (suc d) ∷ K) t
        as_token = move ∙ sym (ap (λ b. moved (if b then Eat (suc d) (λ K. K) else Stop) (One (Operand constant) (suc d) ∷ K) (settle (One (Operand constant) (suc d) ∷ K) t)) (same_self (class_at t)))

        continues : (r : Outcome Expr) → suc d ≤ most
            → Reading n most (One (Operand constant) (suc d) ∷ K) K (λ y b c. Derives (grammar.One (Operand constant) d y) (at t (suc d) ∷ b) c) ts r
            → Reading n most (One (Operand constant) d ∷ K) K (λ v a b. Derives (grammar.One (Operand constant) d v) a b) (t ∷ ts) r
        continues r le h = restack r (ap (λ o. found most o (length (t ∷ ts)) (run most ts)) as_token) (ap (λ o. labeled t o (label ts)) as_token)
            (taken (This (class_at t)) t ts r le (same_self (class_at t)) h)

        by_left : (left : ℕ) → left + d ≡ most → Reading n most (One (Operand constant) d ∷ K) K (λ v a b. Derives (grammar.One (Operand constant) d v) a b) (t ∷ ts)
            (and_then (negated constant left (t ∷ ts)) (λ x j. Ok (e.Unary (place_at t) op x, j)))
        by_left zero eq = record { is = ap (λ o. found most o (length (t ∷ ts)) (run most ts)) move ∙ too_many (suc d) most _ _ (omega arith) }
        by_left (suc m) eq = continues (and_then (operand constant m ts) (λ x j. Ok (e.Unary (place_at t) op x, j))) (omega arith)
            (phrase _ _ (deeper_reads m (omega arith) n ts K (omega arith)) (λ x j le1. given (e.Unary (place_at t) op x) j le1 (λ a h. a_unary is h)))

  length_reads : (n : ℕ) (p : Place) (i : List Symbol) (K : List Owed) → length i ≤ n
      → Reading n most (Token (suc d) (This (c.Sign g.ParenOpen)) ∷ Token (suc d) AWord ∷ Token d (This (c.Sign g.ParenClose)) ∷ K) K
      (λ v a b. Derives (grammar.One (Operand true) d v) (at (Key p k.Len) d ∷ a) b) i (length_of left i)
  unfolding length_of
  length_reads n p i K le = opens (c.Sign g.ParenOpen) tt left eq _ i (omega arith)
      (λ q m j em le1. a_word (omega arith) _ j (omega arith)
      (λ w l le2. fixed (c.Sign g.ParenClose) tt (omega arith) _ l (omega arith)
      (λ r u le3. given (e.Len w) u le3 a_length)))

  module _ (deeper_reads : (m : ℕ) → m + suc d ≡ most → OperandReads most false m (suc d)) where
    pair_reads : (R : Expr → Expr → List Leveled → List Leveled → Type 0)
        → ((q r u : Place) (x y : Expr) (a l b : List Leveled) → Derives (grammar.One (grammar.expr false) (suc d) x) a (at (Mark r g.Comma) (suc d) ∷ l)
        → Derives (grammar.One (grammar.expr false) (suc d) y) l (at (Mark u g.ParenClose) d ∷ b) → R x y (at (Mark q g.ParenOpen) (suc d) ∷ a) b)
        → (n : ℕ) (i : List Symbol) (K : List Owed) → length i ≤ n
        → Reading n most (Token (suc d) (This (c.Sign g.ParenOpen)) ∷ expr false (suc d) (Token (suc d) (This (c.Sign g.Comma)) ∷ expr false (suc d) (Token d (This (c.Sign g.ParenClose)) ∷ K))) K
        (λ xy a b. R xy.0 xy.1 a b) i (pair (inner false left) (inside false left) i)
    pair_reads R make n i K le = subst (Reading n most _ K (λ xy a b. R xy.0 xy.1 a b) i) (sym (pair_is left i))
        (opens (c.Sign g.ParenOpen) tt left eq _ i (omega arith)
        (λ q m j em le1. phrase _ _ (deeper_expr false deeper_reads m n j (Token (suc d) (This (c.Sign g.Comma)) ∷ expr false (suc d) (Token d (This (c.Sign g.ParenClose)) ∷ K)) em le1)
        (λ x l le2. fixed (c.Sign g.Comma) tt (omega arith) _ l (omega arith)
        (λ r u le3. phrase _ _ (deeper_expr false deeper_reads m n u (Token d (This (c.Sign g.ParenClose)) ∷ K) em le3)
        (λ y o le4. fixed (c.Sign g.ParenClose) tt (omega arith) _ o (omega arith)
        (λ v z le5. given (x, y) z le5 (λ a2 h2 a1 h1. make q r v x y a1 a2 _ h1 h2)))))))

  plain_case : (constant : Bool) → ((m : ℕ) → m + suc d ≡ most → OperandReads most constant m (suc d)) → (n : ℕ) (t : Symbol) (ts : List Symbol) (K : List Owed) → length ts ≤ n
      → prefix constant (class_at t) ≡ None
      → Reading n most (One (Operand constant) d ∷ K) K (λ v a b. Derives (grammar.One (Operand constant) d v) a b) (t ∷ ts)
      (primary_by left (inner constant left) (inside constant left) (start_of constant (class_at t)) (t ∷ ts))
  plain_case constant deeper_reads n (Number p m) ts K le none = restack (Ok (e.Number m, ts)) refl refl (taken (This c.Number) (Number p m) ts (Ok (e.Number m, ts)) (omega arith) refl (given (e.Number m) ts le a_number))
  plain_case true deeper_reads n (Word p w) ts K le none = restack (Ok (e.Name (word_of p w), ts)) refl refl (taken AWord (Word p w) ts (Ok (e.Name (word_of p w), ts)) (omega arith) refl (given (e.Name (word_of p w)) ts le a_name))
  plain_case false deeper_reads n (Word p w) ts K le none =
      let r : Outcome Expr = and_then (indices (inner false left) [] ts) (λ xs j. Ok (element (word_of p w) xs, j)) in
      restack r refl refl (taken AWord (Word p w) ts r (omega arith) refl
      (phrase _ _ (indices_read false deeper_reads n ts K le) (λ xs j le1. given (element (word_of p w) xs) j le1 (λ a h. an_element h))))
  plain_case constant deeper_reads n (Mark p g.ParenOpen) ts K le none = restack (between (inner constant left) (c.Sign g.ParenOpen) (c.Sign g.ParenClose) (Mark p g.ParenOpen ∷ ts)) refl refl
      (brackets_read constant deeper_reads n (Mark p g.ParenOpen ∷ ts) K (omega arith))
  plain_case true deeper_reads n (Key p k.Len) ts K le none = restack (length_of left ts) refl refl (taken (This (c.Key k.Len)) (Key p k.Len) ts (length_of left ts) (omega arith) refl (length_reads n p ts K le))
  plain_case false deeper_reads n (Key p k.Min) ts K le none =
      let r : Outcome Expr = and_then (pair (inner false left) (inside false left) ts) (λ xy j. Ok (e.Least xy.0 xy.1, j)) in
      restack r refl refl (taken (This (c.Key k.Min)) (Key p k.Min) ts r (omega arith) refl
      (phrase _ _ (pair_reads deeper_reads (λ x y a b. Derives (grammar.One (Operand false) d (e.Least x y)) (at (Key p k.Min) d ∷ a) b) (λ q r u x y a l b h1 h2. the_least h1 h2) n ts K le)
      (λ xy j le1. given (e.Least xy.0 xy.1) j le1 (λ a h. h))))
  plain_case false deeper_reads n (Key p k.Max) ts K le none =
      let r : Outcome Expr = and_then (pair (inner false left) (inside false left) ts) (λ xy j. Ok (e.Most xy.0 xy.1, j)) in
      restack r refl refl (taken (This (c.Key k.Max)) (Key p k.Max) ts r (omega arith) refl
      (phrase _ _ (pair_reads deeper_reads (λ x y a b. Derives (grammar.One (Operand false) d (e.Most x y)) (at (Key p k.Max) d ∷ a) b) (λ q r u x y a l b h1 h2. the_most h1 h2) n ts K le)
      (λ xy j le1. given (e.Most xy.0 xy.1) j le1 (λ a h. h))))
  plain_case true deeper_reads n (Key p k.Min) ts K le none = record { is = refl }
  plain_case true deeper_reads n (Key p k.Max) ts K le none = record { is = refl }
  plain_case false deeper_reads n (Key p k.Len) ts K le none = record { is = refl }
  plain_case constant deeper_reads n t ts K le none = record {
    is = ap (λ o. found most (moved (if_some o (λ op. Eat (suc d) (λ K. One (Operand constant) (suc d) ∷ K)) (primary_step constant d (class_at t))) K (settle K t)) (length (t ∷ ts)) (run most ts)) none;
  }

  operand_case : (constant : Bool) → ((m : ℕ) → m + suc d ≡ most → OperandReads most constant m (suc d)) → (n : ℕ) (t : Symbol) (ts : List Symbol) (K : List Owed) → length ts ≤ n
      → (o : Option UnOp) → prefix constant (class_at t) ≡ o
      → Reading n most (One (Operand constant) d ∷ K) K (λ v a b. Derives (grammar.One (Operand constant) d v) a b) (t ∷ ts)
      (if_some o (λ op. and_then (negated constant left (t ∷ ts)) (λ x j. Ok (e.Unary (place_at t) op x, j)))
      (primary_by left (inner constant left) (inside constant left) (start_of constant (class_at t)) (t ∷ ts)))
  operand_case constant deeper_reads n t ts K le None is = plain_case constant deeper_reads n t ts K le is
  operand_case constant deeper_reads n t ts K le (Some op) is = unary_case constant deeper_reads n t ts K le op is

  operand_by_reads : (constant : Bool) → ((m : ℕ) → m + suc d ≡ most → OperandReads most constant m (suc d)) → OperandReads most constant left d
  operand_by_reads constant deeper_reads n [] K le = subst (Reading n most _ K _ []) (sym (operand_is constant left [])) (record { is = refl })
  operand_by_reads constant deeper_reads n (t ∷ ts) K le =
      subst (Reading n most (One (Operand constant) d ∷ K) K (λ v a b. Derives (grammar.One (Operand constant) d v) a b) (t ∷ ts)) (sym (operand_is constant left (t ∷ ts)))
      (operand_case constant deeper_reads n t ts K (omega arith) (prefix constant (class_at t)) refl)

pub operand_reads : (most : ℕ) (constant : Bool) (m d : ℕ) → m + d ≡ most → OperandReads most constant m d
operand_reads most constant zero d e = operand_by_reads most d zero e constant (λ m q. absurd (omega arith))
operand_reads most constant (suc n) d e = operand_by_reads most d (suc n) e constant
    (λ m q. let same : n ≡ m = omega arith in subst (λ m. OperandReads most constant m (suc d)) same (operand_reads most constant n (suc d) (omega arith)))

pub expr_reads : (most : ℕ) (constant : Bool) (m d : ℕ) → m + d ≡ most → ExprReads most constant m d
expr_reads most constant m d e = expr_of most constant m d (omega arith) (operand_reads most constant m d e)

pub index_part : (most : ℕ) (constant : Bool) (m d : ℕ) → m + d ≡ most → (n : ℕ) (i : List Symbol) (K : List Owed) → length i ≤ suc n
    → Reading n most (One (Index constant) d ∷ K) K (λ v a b. Derives (grammar.One (Index constant) d v) a b) i (index (inner constant m) i)
index_part most constant m d e = index_reads most d m e constant (λ m q. operand_reads most constant m (suc d) q)

pub bracketed_expr : (most : ℕ) (m d : ℕ) → m + d ≡ most → {R : Expr → List Leveled → List Leveled → Type 0}
    → ((q r : Place) (x : Expr) (a b : List Leveled) → Derives (grammar.One (grammar.expr false) (suc d) x) a (at (Mark r g.ParenClose) d ∷ b) → R x (at (Mark q g.ParenOpen) (suc d) ∷ a) b)
    → (n : ℕ) (i : List Symbol) (K : List Owed) → length i ≤ suc n
    → Reading n most (Token (suc d) (This (c.Sign g.ParenOpen)) ∷ expr false (suc d) (Token d (This (c.Sign g.ParenClose)) ∷ K)) K R i (between (inner false m) (c.Sign g.ParenOpen) (c.Sign g.ParenClose) i)
bracketed_expr most m d e {R = R} make n i K le = subst (Reading n most _ K R i) (sym (inner_is false (c.Sign g.ParenOpen) (c.Sign g.ParenClose) m i))
    (between_reads most (reading.expr false) (c.Sign g.ParenOpen) (c.Sign g.ParenClose) tt tt d m e (expr false (suc d))
    (λ v a b. Derives (grammar.One (grammar.expr false) (suc d) v) a b) (λ m n j K em le. expr_reads most false m (suc d) em n j K (omega arith)) make n i K le)
