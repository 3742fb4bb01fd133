-- Statements of leaf tasks: what is read is derived, and the machine goes on after it.
use Rattle.std.proofs.Common.{◌≡◌, ℕ, zero, suc, ◌+◌, ◌≤◌, ◌<◌, Bool, true, false, if◌then◌else◌, List, [], ◌∷◌, length, Some, Ok, Err, refl, sym, ◌∙◌, ap, subst, arith}
use Rattle.sq_text.specs.declared.place.Place.{Place}
use Rattle.sq_lexer.specs.declared.token.Sign.TheVariants as g
use Rattle.sq_ast.specs.declared.keyword.Keyword.TheVariants as k
use Rattle.sq_ast.specs.declared.class.Class.{Class}
use Rattle.sq_ast.specs.declared.class.Class.TheVariants as c
use Rattle.sq_text.specs.declared.word.Word as tree
use Rattle.sq_ast.specs.declared.expr.ArgUse.{ArgUse}
use Rattle.sq_ast.specs.declared.expr.Expr.{Expr}
use Rattle.sq_ast.specs.declared.leaf.LeafStmt.{LeafStmt}
use Rattle.sq_ast.specs.declared.leaf.LeafStmt.TheVariants as leafs
use Rattle.sq_ast.specs.Symbols.{Symbol, Word, Number, Key, Mark, Last, class_at, place_at}
use Rattle.sq_ast.specs.Grammar.{class, use_of, assignment_of, Leveled, at, kinds, word, Index, Any, AtMost, Derives, an_assignment, an_if, no_else, an_else, an_alternative, a_for}
use Rattle.sq_ast.specs.Grammar as grammar
use Rattle.sq_reader.specs.declared.error.ParseError.TheVariants.{Syntax, TooDeep}
use Rattle.sq_reader.specs.Reading.{Outcome, Parser, and_then, ◌>>◌, take_token, opening, between, same, many_after, index, inner, assigned, assignment, otherwise, choice, named, stepped, counted, begins_leaf_stmt, leaf_stmt_by, leaf_stmt, no_body, bare, body_by, body, braced}
use Rattle.sq_reader.proofs.Machine.{This, AWord, AnAssign, Owed, Token, One, Many, Move, Eat, Skip, Stop, expr, leaf_stmt_rest, moved, settle, found, run, labeled, label}
use Rattle.sq_reader.proofs.Steps.{IsFixed, fixed_at, same_class, same_self, fixed_is, leaf_stmt_is}
use Rattle.sq_reader.proofs.Readings.{too_many, Reading, given, restack, gives_more, phrase, fixed, a_word, of_table, opens, taken, skips_run, skips_label}
use Rattle.sq_reader.proofs.Items.{eaten, deep, between_reads, more_of, all_of}
use Rattle.sq_reader.proofs.Exprs.{expr_reads, index_part, bracketed_expr}
use Rattle.sq_reader.proofs.Labeled.{kinds_label}

abbrev pub LeafReads : ℕ → ℕ → ℕ → Type 0
LeafReads most m d = (n : ℕ) (i : List Symbol) (K : List Owed) → length i ≤ suc n → Reading n most (One grammar.LeafStmt d ∷ K) K (λ v a b. Derives (grammar.One grammar.LeafStmt d v) a b) i (leaf_stmt m i)

abbrev pub BodyReads : ℕ → ℕ → Parser (List LeafStmt) → Type 0
BodyReads most d p = (n : ℕ) (i : List Symbol) (K : List Owed) → length i ≤ suc n → Reading n most (One grammar.LeafBody d ∷ K) K (λ v a b. Derives (grammar.One grammar.LeafBody d v) a b) i (p i)

pub leaves_read : (most m d : ℕ) → LeafReads most m d → (n : ℕ) (i : List Symbol) (K : List Owed) → length i ≤ n
    → Reading n most (Many grammar.LeafStmt Any d ∷ K) K (λ vs a b. Derives (grammar.Many grammar.LeafStmt Any d vs) a b) i (many_after begins_leaf_stmt (leaf_stmt m) [] i)
leaves_read most m d reads n i K le = all_of most grammar.LeafStmt d (λ t. refl) refl (leaf_stmt m) (λ n t ts K b below. reads n (t ∷ ts) K (omega arith)) n i K le

-- ---- the head of a loop

data IsNamed (d : ℕ) (before between : Class) : tree.Word × Expr → List Leveled → List Leveled → Type 0 where
  is_named : {w : tree.Word} {x : Expr} {a b : List Leveled} (p q : Place) → Derives (grammar.One (grammar.expr false) d x) a b
      → IsNamed d before between (w, x) (at (fixed_at p before) d ∷ word w d ∷ at (fixed_at q between) d ∷ a) b

data IsStepped (d : ℕ) : tree.Word → List Leveled → List Leveled → Type 0 where
  is_stepped : {w : tree.Word} {p q r : Place} {b : List Leveled} → IsStepped d w (at (Mark p g.Semi) (suc d) ∷ word w (suc d) ∷ at (Mark q g.PlusPlus) (suc d) ∷ at (Mark r g.ParenClose) d ∷ b) b

named_reads : (most m d : ℕ) → m + d ≡ most → (before between : Class) → IsFixed before → IsFixed between → (n : ℕ) (i : List Symbol) (K : List Owed) → length i ≤ suc n
    → Reading n most (Token d (This before) ∷ Token d AWord ∷ Token d (This between) ∷ expr false d K) K (IsNamed d before between) i (named before between m i)
unfolding named
named_reads most m d e before between sb sw n i K le = fixed before sb (omega arith) _ i le
    (λ p j le1. a_word (omega arith) _ j (omega arith)
    (λ w l le2. fixed between sw (omega arith) _ l (omega arith)
    (λ q u le3. phrase _ _ (expr_reads most false m d e n u K (omega arith))
    (λ x v le4. given (w, x) v le4 (λ a h. is_named p q h)))))

stepped_reads : (most d : ℕ) → suc d ≤ most → (n : ℕ) (i : List Symbol) (K : List Owed) → length i ≤ suc n
    → Reading n most (Token (suc d) (This (c.Sign g.Semi)) ∷ Token (suc d) AWord ∷ Token (suc d) (This (c.Sign g.PlusPlus)) ∷ Token d (This (c.Sign g.ParenClose)) ∷ K) K (IsStepped d) i (stepped i)
unfolding stepped
stepped_reads most d deep n i K le = fixed (c.Sign g.Semi) tt (omega arith) _ i le
    (λ p j le1. a_word (omega arith) _ j (omega arith)
    (λ w l le2. fixed (c.Sign g.PlusPlus) tt (omega arith) _ l (omega arith)
    (λ q u le3. fixed (c.Sign g.ParenClose) tt (omega arith) _ u (omega arith)
    (λ r v le4. given w v le4 is_stepped))))

make_for : {d : ℕ} {p q : Place} {f t : tree.Word × Expr} {s : tree.Word} {xs : List LeafStmt} {a b e o z : List Leveled} → IsNamed (suc d) (c.Key k.Int) (c.Sign g.Set) f a b
    → IsNamed (suc d) (c.Sign g.Semi) (c.Sign g.Less) t b e → IsStepped d s e o → Derives (grammar.One grammar.LeafBody d xs) o z
    → Derives (grammar.One grammar.LeafStmt d (leafs.For f.0 f.1 t.0 t.1 s xs)) (at (Key p k.For) d ∷ at (Mark q g.ParenOpen) (suc d) ∷ a) z
make_for (is_named p q x) (is_named r u y) is_stepped h = a_for x y h

-- ---- statements

data IsAssigned (d : ℕ) (target : ArgUse) : LeafStmt → List Leveled → List Leveled → Type 0 where
  is_assigned : {t : Symbol} {op : _} {y : Expr} {p : Place} {a b : List Leveled} → assignment_of (class_at t) ≡ Some op
      → Derives (grammar.One (grammar.expr false) d y) a (at (Mark p g.Semi) d ∷ b) → IsAssigned d target (leafs.Assign target op y) (at t d ∷ a) b

data IsTest (d : ℕ) : Expr → List Leveled → List Leveled → Type 0 where
  is_test : {x : Expr} {q r : Place} {a b : List Leveled} → Derives (grammar.One (grammar.expr false) (suc d) x) a (at (Mark r g.ParenClose) d ∷ b) → IsTest d x (at (Mark q g.ParenOpen) (suc d) ∷ a) b

make_assignment : {d : ℕ} {w : tree.Word} {x : Expr} {xs all : List Expr} {v : LeafStmt} {i a b e : List Leveled} → all ≡ x ∷ xs → Derives (grammar.One (Index false) d x) i a
    → Derives (grammar.Many (Index false) Any d xs) a b → IsAssigned d (use_of w all) v b e → Derives (grammar.One grammar.LeafStmt d v) (word w d ∷ i) e
make_assignment {d = d} {w = w} {i = i} {e = e} is hx hxs (is_assigned {op = op} {y = y} q h) = subst (λ all. Derives (grammar.One grammar.LeafStmt d (leafs.Assign (use_of w all) op y)) (word w d ∷ i) e) (sym is) (an_assignment hx hxs q h)

make_if : {d : ℕ} {p : Place} {x : Expr} {ys zs : List LeafStmt} {i a b e : List Leveled} → IsTest d x i a → Derives (grammar.One grammar.LeafBody d ys) a b → Derives (grammar.Otherwise d zs) b e
    → Derives (grammar.One grammar.LeafStmt d (leafs.If p x ys zs)) (at (Key p k.If) d ∷ i) e
make_if (is_test h) hy hz = an_if h hy hz

-- where none may stand any more, it is as if none were owed
none_owed : {A : Type 0} {n most : ℕ} {S K : List Owed} {P : A → List Leveled → List Leveled → Type 0} {i : List Symbol} (x : grammar.Item) (d : ℕ) (r : Outcome A)
    → Reading n most S (Many x (AtMost zero) d ∷ K) P i r → Reading n most S K P i r
none_owed {most = most} {S = S} {K = K} {P = P} {i = i} x d (Ok p) h = record {
  is = (h.is.0, h.is.1 ∙ same_run p.1, subst (λ b. P p.0 (label i S) b) (same_label p.1) h.is.2);
}
  where
    same_run : (j : List Symbol) → run most j (Many x (AtMost zero) d ∷ K) ≡ run most j K
    same_run [] = refl
    same_run (t ∷ ts) = refl

    same_label : (j : List Symbol) → label j (Many x (AtMost zero) d ∷ K) ≡ label j K
    same_label [] = refl
    same_label (t ∷ ts) = refl
none_owed x d (Err e) h = record { is = h.is }

module _ (most d left : ℕ) (eq : left + d ≡ most) where
  assigned_reads : (n : ℕ) (target : ArgUse) (i : List Symbol) (K : List Owed) → length i ≤ suc n
      → Reading n most (Token d AnAssign ∷ expr false d (Token d (This (c.Sign g.Semi)) ∷ K)) K (IsAssigned d target) i (assigned left target i)
  unfolding assigned
  assigned_reads n target i K le = of_table AnAssign assignment_of refl (λ t. refl) (omega arith) _ i le
      (λ t op j le1 is. phrase _ _ (expr_reads most false left d eq n j (Token d (This (c.Sign g.Semi)) ∷ K) (omega arith))
      (λ y l le2. fixed (c.Sign g.Semi) tt (omega arith) _ l (omega arith)
      (λ p u le3. given (leafs.Assign target op y) u le3 (λ a h. is_assigned is h))))

  assignment_reads : (n : ℕ) (p : Place) (w : List ℕ) (ts : List Symbol) (K : List Owed) → length ts ≤ n
      → Reading n most (Token d AWord ∷ leaf_stmt_rest d c.Word K) K (λ v a b. Derives (grammar.One grammar.LeafStmt d v) a b) (Word p w ∷ ts) (assignment left (Word p w ∷ ts))
  unfolding assignment
  assignment_reads n p w ts K le = a_word (omega arith) _ (Word p w ∷ ts) (omega arith)
      (λ w j le1. phrase _ _ (index_part most false left d eq n j (Many (Index false) Any d ∷ Token d AnAssign ∷ expr false d (Token d (This (c.Sign g.Semi)) ∷ K)) (omega arith))
      (λ x l le2. phrase _ _ (more_of most (Index false) d (λ t. refl) refl (index (inner false left)) (λ n t ts K b below. index_part most false left d eq n (t ∷ ts) K (omega arith)) n (x ∷ []) l
      (Token d AnAssign ∷ expr false d (Token d (This (c.Sign g.Semi)) ∷ K)) le2)
      (λ all u le3. gives_more (assigned left (use_of w all) u) (λ v b e h a2 h2 a1 h1. make_assignment h2.1 h1 h2.2 h) (assigned_reads n (use_of w all) u K (omega arith)))))

  module _ (body : Parser (List LeafStmt)) (body_reads : BodyReads most d body) where
    otherwise_case : (n : ℕ) (t : Symbol) (ts : List Symbol) (K : List Owed) → length ts ≤ n → (b : Bool) → same (class_at t) (c.Key k.Else) ≡ b
        → Reading (suc n) most (Many grammar.Alternative (AtMost 1) d ∷ K) K (λ v a b. Derives (grammar.Otherwise d v) a b) (t ∷ ts) (if b then body ts else Ok ([], t ∷ ts))
    otherwise_case n t ts K le true e =
        let M : List Owed = One grammar.LeafBody d ∷ Many grammar.Alternative (AtMost zero) d ∷ K in
        let move : settle (Many grammar.Alternative (AtMost 1) d ∷ K) t ≡ settle (Token d (This (c.Key k.Else)) ∷ M) t =
        ap (λ b. moved (if b then Eat d (λ K. One grammar.LeafBody d ∷ Many grammar.Alternative (AtMost zero) d ∷ K) else Skip) K (settle K t)) e
        ∙ sym (ap (λ b. moved (if b then Eat d (λ K. K) else Stop) M (settle M t)) e) in
        let is : t ≡ Key (place_at t) k.Else = fixed_is t (c.Key k.Else) tt (same_class (class_at t) (c.Key k.Else) e) in
        restack (body ts) (ap (λ o. found most o (length (t ∷ ts)) (run most ts)) move) (ap (λ o. labeled t o (label ts)) move)
        (taken (This (c.Key k.Else)) t ts (body ts) (omega arith) e
        (gives_more (body ts) (λ v a b h. subst (λ u. Derives (grammar.Otherwise d v) (at u d ∷ a) b) (sym is) (an_else (an_alternative h)))
        (none_owed grammar.Alternative d (body ts) (body_reads (suc n) ts (Many grammar.Alternative (AtMost zero) d ∷ K) (omega arith)))))
    otherwise_case n t ts K le false e =
        restack (Ok ([], t ∷ ts)) (skips_run most grammar.Alternative (AtMost 1) d t ts K e) (skips_label grammar.Alternative (AtMost 1) d t ts K e)
        (given [] (t ∷ ts) (omega arith) (no_else (λ q.
        let other : class_at t ≡ c.Key k.Else = sym (ap class (kinds_label (t ∷ ts) K)) ∙ q in
        let both : false ≡ true = sym e ∙ ap (λ a. same a (c.Key k.Else)) other ∙ same_self (c.Key k.Else) in absurd (cc))))

    otherwise_reads : (n : ℕ) (i : List Symbol) (K : List Owed) → length i ≤ n
        → Reading n most (Many grammar.Alternative (AtMost 1) d ∷ K) K (λ v a b. Derives (grammar.Otherwise d v) a b) i (otherwise body i)
    unfolding otherwise
    otherwise_reads n [] K le = restack (Ok ([], [])) refl refl (given [] [] le (no_else (λ q. absurd (cc))))
    otherwise_reads zero (t ∷ ts) K le = absurd (omega arith)
    otherwise_reads (suc n) (t ∷ ts) K le = otherwise_case n t ts K (omega arith) (same (class_at t) (c.Key k.Else)) refl

    choice_reads : (n : ℕ) (p : Place) (ts : List Symbol) (K : List Owed) → length ts ≤ n
        → Reading n most (leaf_stmt_rest d (c.Key k.If) K) K (λ v a b. Derives (grammar.One grammar.LeafStmt d v) (at (Key p k.If) d ∷ a) b) ts (choice left body p ts)
    unfolding choice
    choice_reads n p ts K le = phrase _ _ (bracketed_expr most left d eq {R = IsTest d} (λ q r x a b h. is_test h) n ts (One grammar.LeafBody d ∷ Many grammar.Alternative (AtMost 1) d ∷ K) (omega arith))
        (λ x j le1. phrase _ _ (body_reads n j (Many grammar.Alternative (AtMost 1) d ∷ K) (omega arith))
        (λ ys l le2. phrase _ _ (otherwise_reads n l K le2)
        (λ zs u le3. given (leafs.If p x ys zs) u le3 (λ a3 h3 a2 h2 a1 h1. make_if h1 h2 h3))))

    for_reads : (n : ℕ) (p : Place) (ts : List Symbol) (K : List Owed) → length ts ≤ n
        → Reading n most (leaf_stmt_rest d (c.Key k.For) K) K (λ v a b. Derives (grammar.One grammar.LeafStmt d v) (at (Key p k.For) d ∷ a) b) ts
        (and_then (opening (c.Sign g.ParenOpen) left ts) (λ m j. counted m body j))
    unfolding counted
    for_reads n p ts K le = opens (c.Sign g.ParenOpen) tt left eq _ ts (omega arith)
        (λ q m j em le1. phrase _ _ (named_reads most m (suc d) em (c.Key k.Int) (c.Sign g.Set) tt tt n j _ (omega arith))
        (λ f l le2. phrase _ _ (named_reads most m (suc d) em (c.Sign g.Semi) (c.Sign g.Less) tt tt n l _ (omega arith))
        (λ t u le3. phrase _ _ (stepped_reads most d (omega arith) n u _ (omega arith))
        (λ s v le4. phrase _ _ (body_reads n v K (omega arith))
        (λ xs z le5. given (leafs.For f.0 f.1 t.0 t.1 s xs) z le5 (λ a4 h4 a3 h3 a2 h2 a1 h1. make_for h1 h2 h3 h4))))))

    leaf_case : (n : ℕ) (i : List Symbol) (K : List Owed) → length i ≤ suc n
        → Reading n most (One grammar.LeafStmt d ∷ K) K (λ v a b. Derives (grammar.One grammar.LeafStmt d v) a b) i (leaf_stmt_by left body i)
    unfolding assignment
    leaf_case n [] K le = record { is = refl }
    leaf_case n (Word p w ∷ ts) K le = restack (assignment left (Word p w ∷ ts)) refl refl (assignment_reads n p w ts K (omega arith))
    leaf_case n (Key p k.If ∷ ts) K le = eaten grammar.LeafStmt d (Key p k.If) ts (choice left body p ts) (λ t. refl) refl (omega arith) (choice_reads n p ts K (omega arith))
    leaf_case n (Key p k.For ∷ ts) K le = eaten grammar.LeafStmt d (Key p k.For) ts (and_then (opening (c.Sign g.ParenOpen) left ts) (λ m j. counted m body j)) (λ t. refl) refl (omega arith) (for_reads n p ts K (omega arith))
    leaf_case n (Key p _ ∷ ts) K le = record { is = refl }
    leaf_case n (Number p m ∷ ts) K le = record { is = refl }
    leaf_case n (Mark p m ∷ ts) K le = record { is = refl }
    leaf_case n (Last p ∷ ts) K le = record { is = refl }

-- ---- bodies

leaf_of : (most d left : ℕ) → left + d ≡ most → BodyReads most d (body left) → LeafReads most left d
leaf_of most d left eq reads n i K le = subst (Reading n most (One grammar.LeafStmt d ∷ K) K (λ v a b. Derives (grammar.One grammar.LeafStmt d v) a b) i) (sym (leaf_stmt_is left i))
    (leaf_case most d left eq (body left) reads n i K le)

no_body_case : (most d n : ℕ) (t : Symbol) (ts : List Symbol) (K : List Owed) → most < suc d → (b e : Bool)
    → found most (moved (if b then Eat (suc d) (λ K. Many grammar.LeafStmt Any (suc d) ∷ Token d (This (c.Sign g.BraceClose)) ∷ K)
    else (if e then Eat (suc d) (λ K. leaf_stmt_rest (suc d) (class_at t) K) else Stop)) K (settle K t)) (length (t ∷ ts)) (run most ts)
    ≡ (if b then Err (TooDeep (length (t ∷ ts))) else (if e then Err (TooDeep (length (t ∷ ts))) else Err (Syntax (length (t ∷ ts)))))
no_body_case most d n t ts K deep true e = too_many (suc d) most _ _ deep
no_body_case most d n t ts K deep false true = too_many (suc d) most _ _ deep
no_body_case most d n t ts K deep false false = refl

no_body_reads : (most d : ℕ) → d ≡ most → BodyReads most d no_body
no_body_reads most d eq n [] K le = record { is = refl }
no_body_reads most d eq n (t ∷ ts) K le = by_class (same (class_at t) (c.Sign g.BraceOpen)) (begins_leaf_stmt (class_at t)) (no_body_case most d n t ts K (omega arith) _ _)
  where
    by_class : (b e : Bool) → run most (t ∷ ts) (One grammar.LeafBody d ∷ K) ≡ (if b then Err (TooDeep (length (t ∷ ts))) else (if e then Err (TooDeep (length (t ∷ ts))) else Err (Syntax (length (t ∷ ts)))))
        → Reading n most (One grammar.LeafBody d ∷ K) K (λ v a b. Derives (grammar.One grammar.LeafBody d v) a b) (t ∷ ts)
        (if b then Err (TooDeep (length (t ∷ ts))) else (if e then Err (TooDeep (length (t ∷ ts))) else Err (Syntax (length (t ∷ ts)))))
    by_class true e q = record { is = q }
    by_class false true q = record { is = q }
    by_class false false q = record { is = q }

module _ (most d m : ℕ) (eq : m + suc d ≡ most) (reads : LeafReads most m (suc d)) where
  braced_reads : (n : ℕ) (i : List Symbol) (K : List Owed) → length i ≤ suc n
      → Reading n most (Token (suc d) (This (c.Sign g.BraceOpen)) ∷ Many grammar.LeafStmt Any (suc d) ∷ Token d (This (c.Sign g.BraceClose)) ∷ K) K (λ v a b. Derives (grammar.One grammar.LeafBody d v) a b) i
      (braced (take_token >> many_after begins_leaf_stmt (leaf_stmt m) []) i)
  braced_reads n i K le = between_reads most (λ m. many_after begins_leaf_stmt (leaf_stmt m) []) (c.Sign g.BraceOpen) (c.Sign g.BraceClose) tt tt d (suc m) (omega arith) (λ K. Many grammar.LeafStmt Any (suc d) ∷ K)
      (λ vs a b. Derives (grammar.Many grammar.LeafStmt Any (suc d) vs) a b)
      (λ l n j K em le. let same : m ≡ l = omega arith in
      subst (λ l. Reading n most (Many grammar.LeafStmt Any (suc d) ∷ K) K (λ vs a b. Derives (grammar.Many grammar.LeafStmt Any (suc d) vs) a b) j (many_after begins_leaf_stmt (leaf_stmt l) [] j)) same
      (leaves_read most m (suc d) reads n j K le))
      (λ q r x a b h. grammar.braced h) n i K le

  bare_reads : (n : ℕ) (i : List Symbol) (K : List Owed) → length i ≤ suc n
      → Reading n most (One grammar.LeafStmt (suc d) ∷ K) K (λ v a b. Derives (grammar.One grammar.LeafBody d v) a b) i (bare (leaf_stmt m) i)
  bare_reads n i K le = phrase _ _ (reads n i K le) (λ x j le1. given (x ∷ []) j le1 (λ a h. grammar.bare h))

  body_case : (n : ℕ) (t : Symbol) (ts : List Symbol) (K : List Owed) → length ts ≤ n → (b : Bool) → same (class_at t) (c.Sign g.BraceOpen) ≡ b
      → Reading n most (One grammar.LeafBody d ∷ K) K (λ v a b. Derives (grammar.One grammar.LeafBody d v) a b) (t ∷ ts)
      (if b then braced (take_token >> many_after begins_leaf_stmt (leaf_stmt m) []) (t ∷ ts) else bare (leaf_stmt m) (t ∷ ts))
  body_case n t ts K le true e =
      let f : List Owed → List Owed = λ K. Many grammar.LeafStmt Any (suc d) ∷ Token d (This (c.Sign g.BraceClose)) ∷ K in
      let other : Move = if begins_leaf_stmt (class_at t) then Eat (suc d) (λ K. leaf_stmt_rest (suc d) (class_at t) K) else Stop in
      let move : settle (One grammar.LeafBody d ∷ K) t ≡ settle (Token (suc d) (This (c.Sign g.BraceOpen)) ∷ f K) t =
      ap (λ b. moved (if b then Eat (suc d) f else other) K (settle K t)) e ∙ sym (ap (λ b. moved (if b then Eat (suc d) (λ K. K) else Stop) (f K) (settle (f K) t)) e) in
      restack (braced (take_token >> many_after begins_leaf_stmt (leaf_stmt m) []) (t ∷ ts)) (ap (λ o. found most o (length (t ∷ ts)) (run most ts)) move) (ap (λ o. labeled t o (label ts)) move)
      (braced_reads n (t ∷ ts) K (omega arith))
  body_case n t ts K le false e =
      let f : List Owed → List Owed = λ K. Many grammar.LeafStmt Any (suc d) ∷ Token d (This (c.Sign g.BraceClose)) ∷ K in
      let other : Move = if begins_leaf_stmt (class_at t) then Eat (suc d) (λ K. leaf_stmt_rest (suc d) (class_at t) K) else Stop in
      let move : settle (One grammar.LeafBody d ∷ K) t ≡ settle (One grammar.LeafStmt (suc d) ∷ K) t = ap (λ b. moved (if b then Eat (suc d) f else other) K (settle K t)) e in
      restack (bare (leaf_stmt m) (t ∷ ts)) (ap (λ o. found most o (length (t ∷ ts)) (run most ts)) move) (ap (λ o. labeled t o (label ts)) move) (bare_reads n (t ∷ ts) K (omega arith))

  body_by_reads : BodyReads most d (body_by (leaf_stmt m))
  body_by_reads n [] K le = restack (bare (leaf_stmt m) []) refl refl (bare_reads n [] K le)
  body_by_reads n (t ∷ ts) K le = body_case n t ts K (omega arith) (same (class_at t) (c.Sign g.BraceOpen)) refl

pub leaf_stmt_reads : (most m d : ℕ) → m + d ≡ most → LeafReads most m d
unfolding body
leaf_stmt_reads most zero d e = leaf_of most d zero e (no_body_reads most d (omega arith))
leaf_stmt_reads most (suc n) d e = leaf_of most d (suc n) e (body_by_reads most d n (omega arith) (leaf_stmt_reads most n (suc d) (omega arith)))
