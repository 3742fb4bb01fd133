-- An item that one token decides, lists of items, and what stands between brackets.
use Rattle.std.proofs.Common.{◌≡◌, ℕ, zero, suc, ◌+◌, ◌≤◌, Bool, true, false, if◌then◌else◌, List, [], ◌∷◌, length, Ok, Err, refl, sym, ◌∙◌, ap, subst, arith}
use Rattle.sq_text.specs.declared.place.Place.{Place}
use Rattle.sq_lexer.specs.declared.token.Sign.TheVariants as g
use Rattle.sq_ast.specs.declared.class.Class.{Class}
use Rattle.sq_ast.specs.declared.class.Class.TheVariants as c
use Rattle.sq_ast.specs.Symbols.{Symbol, class_at, place_at}
use Rattle.sq_ast.specs.Grammar.{class, Leveled, at, Item, Listed, Next, Value, Count, Any, AtMost, fewer, Derives, a_list, a_next}
use Rattle.sq_ast.specs.Grammar as grammar
use Rattle.sq_reader.specs.declared.error.ParseError.TheVariants.{Syntax}
use Rattle.sq_reader.specs.Reading.{Outcome, Parser, and_then, ◌>>◌, take_token, expect, opening, deeper, too_deep, between, same, many_from, many_after, listed}
use Rattle.sq_reader.proofs.Machine.{This, Owed, Token, One, Many, Eat, Stop, eat, owe, begins, rest, one_step, moved, settle, at_end, ended, found, run, labeled, label}
use Rattle.sq_reader.proofs.Steps.{IsFixed, fixed_at, same_class, fixed_is}
use Rattle.sq_reader.proofs.Readings.{fits, Reading, given, gives_more, phrase, fixed, opens, Plain, Adds, many_reads}

-- ---- one token decides

pub one_run : (most : ℕ) (x : Item) (d : ℕ) (t : Symbol) (ts : List Symbol) (K : List Owed) → Plain x d → begins x (class_at t) ≡ true → (rest x d (class_at t)).0 ≤ most
    → run most (t ∷ ts) (One x d ∷ K) ≡ run most ts ((rest x d (class_at t)).1 K)
one_run most x d t ts K plain e le =
    ap (λ m. found most (moved m K (settle K t)) (length (t ∷ ts)) (run most ts)) (plain (class_at t) ∙ ap (λ b. if b then eat (rest x d (class_at t)) else Stop) e)
    ∙ fits (rest x d (class_at t)).0 most _ _ le

pub one_label : (x : Item) (d : ℕ) (t : Symbol) (ts : List Symbol) (K : List Owed) → Plain x d → begins x (class_at t) ≡ true
    → label (t ∷ ts) (One x d ∷ K) ≡ at t (rest x d (class_at t)).0 ∷ label ts ((rest x d (class_at t)).1 K)
one_label x d t ts K plain e = ap (λ m. labeled t (moved m K (settle K t)) (label ts)) (plain (class_at t) ∙ ap (λ b. if b then eat (rest x d (class_at t)) else Stop) e)

pub eaten : {B : Type 0} {n most : ℕ} {M K : List Owed} {R : B → List Leveled → List Leveled → Type 0} (x : Item) (d : ℕ) (t : Symbol) (ts : List Symbol) (r : Outcome B)
    → Plain x d → begins x (class_at t) ≡ true → (rest x d (class_at t)).0 ≤ most
    → Reading n most ((rest x d (class_at t)).1 M) K (λ y b c. R y (at t (rest x d (class_at t)).0 ∷ b) c) ts r → Reading n most (One x d ∷ M) K R (t ∷ ts) r
eaten {most = most} {M = M} {K = K} {R = R} x d t ts (Ok q) plain e le h = record {
  is = (h.is.0, one_run most x d t ts M plain e le ∙ h.is.1, subst (λ a. R q.0 a (label q.1 K)) (sym (one_label x d t ts M plain e)) h.is.2);
}
eaten {most = most} {M = M} x d t ts (Err z) plain e le h = record { is = one_run most x d t ts M plain e le ∙ h.is }

-- an item that begins with one sign or keyword is read as that token and the rest
module _ (x : Item) (d level : ℕ) (a : Class) (f : List Owed → List Owed) (plain : (t : Class) → one_step x d t ≡ (if same t a then Eat level f else Stop)) where
  as_token : (b : Bool) (t : Symbol) (K : List Owed) → moved (if b then Eat level f else Stop) K (settle K t) ≡ moved (if b then Eat level (λ K. K) else Stop) (f K) (settle (f K) t)
  as_token true t K = refl
  as_token false t K = refl

  token_settle : (t : Symbol) (K : List Owed) → settle (One x d ∷ K) t ≡ settle (Token level (This a) ∷ f K) t
  token_settle t K = ap (λ m. moved m K (settle K t)) (plain (class_at t)) ∙ as_token (same (class_at t) a) t K

  end_token : (b : Bool) (v w : _) → at_end (if b then Eat level f else Stop) v ≡ at_end (if b then Eat level (λ K. K) else Stop) w
  end_token true v w = refl
  end_token false v w = refl

  pub begin_run : (most : ℕ) (i : List Symbol) (K : List Owed) → run most i (One x d ∷ K) ≡ run most i (Token level (This a) ∷ f K)
  begin_run most [] K = ap (λ m. at_end m (ended K)) (plain c.End) ∙ end_token (same c.End a) (ended K) (ended (f K))
  begin_run most (t ∷ ts) K = ap (λ o. found most o (length (t ∷ ts)) (run most ts)) (token_settle t K)

  pub begin_label : (i : List Symbol) (K : List Owed) → label i (One x d ∷ K) ≡ label i (Token level (This a) ∷ f K)
  begin_label [] K = refl
  begin_label (t ∷ ts) K = ap (λ o. labeled t o (label ts)) (token_settle t K)

-- ---- brackets

-- one level deeper, from the token that opens it
abbrev pub deep : {A : Type 0} → (ℕ → Parser A) → ℕ → Parser A
deep p zero = too_deep
deep p (suc n) = take_token >> p n

pub between_is : {A : Type 0} (p : ℕ → Parser A) (o e : Class) (n : ℕ) (i : List Symbol)
    → between (deep p n) o e i ≡ and_then (opening o n i) (λ m j. and_then (p m j) (λ x l. and_then (expect e l) (λ u r. Ok (x, r))))
between_is p o e n [] = refl
between_is p o e n (t ∷ ts) = by_left n (same (class_at t) o)
  where
    by_left : (n : ℕ) (b : Bool) → (if b then and_then (deep p n (t ∷ ts)) (λ x l. and_then (expect e l) (λ u r. Ok (x, r))) else Err (Syntax (length (t ∷ ts))))
        ≡ and_then (if b then deeper n (t ∷ ts) else Err (Syntax (length (t ∷ ts)))) (λ m j. and_then (p m j) (λ x l. and_then (expect e l) (λ u r. Ok (x, r))))
    by_left zero true = refl
    by_left (suc n) true = refl
    by_left n false = refl

-- what is read between two brackets
pub between_reads : {A : Type 0} {R : A → List Leveled → List Leveled → Type 0} (most : ℕ) (p : ℕ → Parser A) (o e : Class) → IsFixed o → IsFixed e → (d left : ℕ) → left + d ≡ most
    → (S : List Owed → List Owed) (P : A → List Leveled → List Leveled → Type 0)
    → ((m n : ℕ) (j : List Symbol) (K : List Owed) → m + suc d ≡ most → length j ≤ n → Reading n most (S K) K P j (p m j))
    → ((q r : Place) (x : A) (a b : List Leveled) → P x a (at (fixed_at r e) d ∷ b) → R x (at (fixed_at q o) (suc d) ∷ a) b)
    → (n : ℕ) (i : List Symbol) (K : List Owed) → length i ≤ suc n → Reading n most (Token (suc d) (This o) ∷ S (Token d (This e) ∷ K)) K R i (between (deep p left) o e i)
between_reads {R = R} most p o e so se d left eq S P reads make n i K le = subst (Reading n most (Token (suc d) (This o) ∷ S (Token d (This e) ∷ K)) K R i) (sym (between_is p o e left i))
    (opens o so left eq _ i le (λ q m j em le1. phrase _ _ (reads m n j (Token d (This e) ∷ K) em le1)
    (λ x l le2. fixed e se (omega arith) _ l (omega arith) (λ r u le3. given x u le3 (λ a h. make q r x a _ h)))))

-- ---- lists of items

module _ (most : ℕ) (x : Item) (d : ℕ) (plain : Plain x d) (ends : begins x c.End ≡ false) (p : Parser (Value x))
    (one : (n : ℕ) (t : Symbol) (ts : List Symbol) (K : List Owed) → begins x (class_at t) ≡ true → length ts ≤ n
    → Reading n most (One x d ∷ K) K (λ v a b. Derives (grammar.One x d v) a b) (t ∷ ts) (p (t ∷ ts))) where
  pub more_of : (n : ℕ) (got : List (Value x)) (i : List Symbol) (K : List Owed) → length i ≤ n → Reading n most (Many x Any d ∷ K) K (Adds x Any d got) i (many_after (begins x) p got i)
  unfolding many_after
  more_of n got i K le = many_reads most x d plain ends p one n (length i) Any got i K (omega arith) le

  pub all_of : (n : ℕ) (i : List Symbol) (K : List Owed) → length i ≤ n → Reading n most (Many x Any d ∷ K) K (λ vs a b. Derives (grammar.Many x Any d vs) a b) i (many_after (begins x) p [] i)
  all_of n i K le = gives_more (many_after (begins x) p [] i) (λ vs a b h. subst (λ vs. Derives (grammar.Many x Any d vs) a b) (sym h.1) h.2) (more_of n [] i K le)

  pub up_to : (n turns : ℕ) (got : List (Value x)) (i : List Symbol) (K : List Owed) → length i ≤ n
      → Reading n most (Many x (AtMost turns) d ∷ K) K (Adds x (AtMost turns) d got) i (many_from (begins x) p turns got i)
  up_to n turns got i K le = many_reads most x d plain ends p one n turns (AtMost turns) got i K refl le

-- what is known of a part's parser at each number of levels
abbrev pub PartReads : ℕ → (x : Item) → (ℕ → Parser (Value x)) → Type 0
PartReads most x p = (m d : ℕ) → m + d ≡ most → (n : ℕ) (i : List Symbol) (K : List Owed) → length i ≤ suc n
    → Reading n most (owe x d K) K (λ v a b. Derives (grammar.One x d v) a b) i (p m i)

module _ (most : ℕ) (x : Item) (p : ℕ → Parser (Value x)) (reads : PartReads most x p) where
  pub next_reads : (m d : ℕ) → m + d ≡ most → (n : ℕ) (t : Symbol) (ts : List Symbol) (K : List Owed) → begins (Next x) (class_at t) ≡ true → length ts ≤ n
      → Reading n most (One (Next x) d ∷ K) K (λ v a b. Derives (grammar.One (Next x) d v) a b) (t ∷ ts) ((take_token >> p m) (t ∷ ts))
  next_reads m d e n t ts K b le =
      let is : t ≡ fixed_at (place_at t) (c.Sign g.Comma) = fixed_is t (c.Sign g.Comma) tt (same_class (class_at t) (c.Sign g.Comma) b) in
      eaten (Next x) d t ts (p m ts) (λ t. refl) b (omega arith)
      (gives_more (p m ts) (λ v a e h. subst (λ u. Derives (grammar.One (Next x) d v) (at u d ∷ a) e) (sym is) (a_next h)) (reads m d e n ts K (omega arith)))

  pub listed_reads : PartReads most (Listed x) (listed p)
  unfolding listed
  listed_reads left d e n i K le = opens (c.Sign g.ParenOpen) tt left e _ i le
      (λ q m j em le1. phrase _ _ (reads m (suc d) em n j (Many (Next x) Any (suc d) ∷ Token d (This (c.Sign g.ParenClose)) ∷ K) (omega arith))
      (λ v l le2. phrase _ _ (more_of most (Next x) (suc d) (λ t. refl) refl (take_token >> p m) (next_reads m (suc d) em) n (v ∷ []) l (Token d (This (c.Sign g.ParenClose)) ∷ K) le2)
      (λ all o le3. fixed (c.Sign g.ParenClose) tt (omega arith) _ o (omega arith)
      (λ r u le4. given all u le4 (λ a2 h2 a1 h1. subst (λ all. Derives (grammar.One (Listed x) d all) (at (fixed_at q (c.Sign g.ParenOpen)) (suc d) ∷ a1) (label u K)) (sym h2.1) (a_list h1 h2.2))))))
