-- What a parser gives is derived by the grammar at the levels that the machine counts, and the machine goes on after it
-- as the parser does.
use Rattle.std.proofs.Common.{◌≡◌, ℕ, zero, suc, ◌+◌, ◌≤◌, ◌<◌, Bool, true, false, if◌then◌else◌, leb, List, [], ◌∷◌, ◌++◌, length, Option, Some, None, Ok, Err, refl, sym, ◌∙◌, ap, subst, append_assoc, append-nil, arith}
use Rattle.std.proofs.lemmas.Bool.{le-leb, lt-leb}
use Rattle.sq_text.specs.declared.place.Place.{Place}
use Rattle.sq_ast.specs.declared.class.Class.{Class}
use Rattle.sq_ast.specs.declared.class.Class.TheVariants as c
use Rattle.sq_text.specs.declared.word.Word as tree
use Rattle.sq_ast.specs.Symbols.{Symbol, Word, Number, Key, Mark, Last, class_at, place_at}
use Rattle.sq_ast.specs.Grammar.{if_some, class, word, Leveled, at, kinds, Item, Value, Count, Any, AtMost, fewer, Phrase, Derives, no_more, one_more}
use Rattle.sq_ast.specs.Grammar as grammar
use Rattle.sq_reader.specs.declared.error.ParseError.TheVariants.{Syntax}
use Rattle.sq_reader.specs.Reading.{Outcome, Parser, and_then, expect, expect_word, expect_some, opening, deeper, some, same, many_from}
use Rattle.sq_reader.proofs.Machine.{Sort, This, AWord, allows, Owed, Token, One, Many, Eat, Skip, Stop, eat, begins, rest, one_step, many_step, moved, settle, Verdict, at_end, ended, found, run, labeled, label}
use Rattle.sq_reader.proofs.Steps.{IsFixed, fixed_at, same_class, fixed_is}

-- a token at a level that is allowed, and one that is not
pub fits : {A : Type 0} (d most : ℕ) (x y : A) → d ≤ most → (if leb d most then x else y) ≡ x
fits d most x y h = rw (le-leb d most h)

pub too_many : {A : Type 0} (d most : ℕ) (x y : A) → most < d → (if leb d most then x else y) ≡ y
too_many d most x y h = rw (lt-leb d most h)

-- From the stack S the parser's tokens lead to the stack K, and no more than n are left after it.
abbrev pub Holds : {A : Type 0} → ℕ → ℕ → List Owed → List Owed → (A → List Leveled → List Leveled → Type 0) → List Symbol → Outcome A → Type 0
Holds n most S K P i (Ok p) = (length p.1 ≤ n) × (run most i S ≡ run most p.1 K) × P p.0 (label i S) (label p.1 K)
Holds n most S K P i (Err e) = run most i S ≡ Err e

pub record Reading {A : Type 0} (n most : ℕ) (S K : List Owed) (P : A → List Leveled → List Leveled → Type 0) (i : List Symbol) (r : Outcome A) : Type 0 where
  pub is : Holds n most S K P i r

pub given : {A : Type 0} {n most : ℕ} {K : List Owed} {P : A → List Leveled → List Leveled → Type 0} (x : A) (i : List Symbol) → length i ≤ n → P x (label i K) (label i K)
    → Reading n most K K P i (Ok (x, i))
given x i le h = record { is = (le, refl, h) }

-- the machine and the labels go from one stack to another in the same way
pub restack : {A : Type 0} {n most : ℕ} {S T K : List Owed} {P : A → List Leveled → List Leveled → Type 0} {i : List Symbol} (r : Outcome A)
    → run most i S ≡ run most i T → label i S ≡ label i T → Reading n most T K P i r → Reading n most S K P i r
restack {K = K} {P = P} (Ok p) e l h = record { is = (h.is.0, e ∙ h.is.1, subst (λ a. P p.0 a (label p.1 K)) (sym l) h.is.2) }
restack (Err x) e l h = record { is = e ∙ h.is }

pub gives_more : {A : Type 0} {n most : ℕ} {S K : List Owed} {P Q : A → List Leveled → List Leveled → Type 0} {i : List Symbol} (r : Outcome A)
    → ((x : A) (a b : List Leveled) → P x a b → Q x a b) → Reading n most S K P i r → Reading n most S K Q i r
gives_more (Ok p) f h = record { is = (h.is.0, h.is.1, f p.0 _ _ h.is.2) }
gives_more (Err x) f h = record { is = h.is }

after : {A B : Type 0} {n most : ℕ} {S M K : List Owed} (P : A → List Leveled → List Leveled → Type 0) {R : B → List Leveled → List Leveled → Type 0} {i : List Symbol}
    (x : A) (j : List Symbol) (r : Outcome B) → run most i S ≡ run most j M → P x (label i S) (label j M)
    → Reading n most M K (λ y b c. (a : List Leveled) → P x a b → R y a c) j r → Reading n most S K R i r
after {S = S} P {i = i} x j (Ok q) e d h = record { is = (h.is.0, e ∙ h.is.1, h.is.2 (label i S) d) }
after P x j (Err z) e d h = record { is = e ∙ h.is }

-- one part, then the others
pub phrase : {A B : Type 0} {n most : ℕ} {S M K : List Owed} {P : A → List Leveled → List Leveled → Type 0} {R : B → List Leveled → List Leveled → Type 0} {i : List Symbol}
    (r : Outcome A) (f : A → Parser B) → Reading n most S M P i r
    → ((x : A) (j : List Symbol) → length j ≤ n → Reading n most M K (λ y b c. (a : List Leveled) → P x a b → R y a c) j (f x j))
    → Reading n most S K R i (and_then r f)
phrase {P = P} (Ok p) f h g = after P p.0 p.1 (f p.0 p.1) h.is.1 h.is.2 (g p.0 p.1 h.is.0)
phrase (Err z) f h g = record { is = h.is }

-- ---- one token

token_ended : (b : Bool) (d : ℕ) (v : Verdict) → at_end (if b then Eat d (λ K. K) else Stop) v ≡ Err (Syntax 0)
token_ended true d v = refl
token_ended false d v = refl

pub no_token : (most d : ℕ) (x : Sort) (M : List Owed) → run most [] (Token d x ∷ M) ≡ Err (Syntax 0)
no_token most d x M = token_ended (allows x (Last _)) d (ended M)

pub token_run : (most d : ℕ) (x : Sort) (t : Symbol) (ts : List Symbol) (M : List Owed) → d ≤ most → allows x t ≡ true → run most (t ∷ ts) (Token d x ∷ M) ≡ run most ts M
token_run most d x t ts M le e = ap (λ b. found most (moved (if b then Eat d (λ K. K) else Stop) M (settle M t)) (length (t ∷ ts)) (run most ts)) e ∙ fits d most (run most ts M) _ le

pub token_label : (d : ℕ) (x : Sort) (t : Symbol) (ts : List Symbol) (M : List Owed) → allows x t ≡ true → label (t ∷ ts) (Token d x ∷ M) ≡ at t d ∷ label ts M
token_label d x t ts M e = ap (λ b. labeled t (moved (if b then Eat d (λ K. K) else Stop) M (settle M t)) (label ts)) e

pub token_refused : (most d : ℕ) (x : Sort) (t : Symbol) (ts : List Symbol) (M : List Owed) → allows x t ≡ false → run most (t ∷ ts) (Token d x ∷ M) ≡ Err (Syntax (length (t ∷ ts)))
token_refused most d x t ts M e = ap (λ b. found most (moved (if b then Eat d (λ K. K) else Stop) M (settle M t)) (length (t ∷ ts)) (run most ts)) e

module _ {B : Type 0} {n most d : ℕ} {M K : List Owed} {R : B → List Leveled → List Leveled → Type 0} where
  pub taken : (x : Sort) (t : Symbol) (ts : List Symbol) (r : Outcome B) → d ≤ most → allows x t ≡ true
      → Reading n most M K (λ y b c. R y (at t d ∷ b) c) ts r → Reading n most (Token d x ∷ M) K R (t ∷ ts) r
  taken x t ts (Ok q) le e h = record { is = (h.is.0, token_run most d x t ts M le e ∙ h.is.1, subst (λ a. R q.0 a (label q.1 K)) (sym (token_label d x t ts M e)) h.is.2) }
  taken x t ts (Err z) le e h = record { is = token_run most d x t ts M le e ∙ h.is }

  fixed_case : (c : Class) → IsFixed c → d ≤ most → (f : Unit {0} → Parser B) (t : Symbol) (ts : List Symbol) → length ts ≤ n
      → ((p : Place) (j : List Symbol) → length j ≤ n → Reading n most M K (λ y b e. R y (at (fixed_at p c) d ∷ b) e) j (f tt j))
      → (b : Bool) → same (class_at t) c ≡ b
      → Reading n most (Token d (This c) ∷ M) K R (t ∷ ts) (and_then (if b then Ok (tt {0}, ts) else Err (Syntax (length (t ∷ ts)))) f)
  fixed_case c sign le f t ts below g true e =
      let is : t ≡ fixed_at (place_at t) c = fixed_is t c sign (same_class (class_at t) c e) in
      taken (This c) t ts (f tt ts) le e (subst (λ u. Reading n most M K (λ y b e. R y (at u d ∷ b) e) ts (f tt ts)) (sym is) (g (place_at t) ts below))
  fixed_case c sign le f t ts below g false e = record { is = token_refused most d (This c) t ts M e }

  -- a sign, a keyword or the end
  pub fixed : (c : Class) → IsFixed c → d ≤ most → (f : Unit {0} → Parser B) (i : List Symbol) → length i ≤ suc n
      → ((p : Place) (j : List Symbol) → length j ≤ n → Reading n most M K (λ y b e. R y (at (fixed_at p c) d ∷ b) e) j (f tt j))
      → Reading n most (Token d (This c) ∷ M) K R i (and_then (expect c i) f)
  fixed c sign le f [] below g = record { is = no_token most d (This c) M }
  fixed c sign le f (t ∷ ts) below g = fixed_case c sign le f t ts (omega arith) g (same (class_at t) c) refl

  -- a name
  pub a_word : d ≤ most → (f : tree.Word → Parser B) (i : List Symbol) → length i ≤ suc n
      → ((w : tree.Word) (j : List Symbol) → length j ≤ n → Reading n most M K (λ y b e. R y (word w d ∷ b) e) j (f w j))
      → Reading n most (Token d AWord ∷ M) K R i (and_then (expect_word i) f)
  a_word le f [] below g = record { is = refl }
  a_word le f (Word p w ∷ ts) below g = taken AWord (Word p w) ts (f (record { place = p; name = w }) ts) le refl (g (record { place = p; name = w }) ts (omega arith))
  a_word le f (Number p m ∷ ts) below g = record { is = refl }
  a_word le f (Key p k ∷ ts) below g = record { is = refl }
  a_word le f (Mark p s ∷ ts) below g = record { is = refl }
  a_word le f (Last p ∷ ts) below g = record { is = refl }

  some_case : {A : Type 0} (x : Sort) (table : Class → Option A) → ((t : Symbol) → allows x t ≡ some (table (class_at t))) → d ≤ most → (f : A → Parser B) (t : Symbol) (ts : List Symbol)
      → length ts ≤ n
      → ((t : Symbol) (a : A) (j : List Symbol) → length j ≤ n → table (class_at t) ≡ Some a → Reading n most M K (λ y b e. R y (at t d ∷ b) e) j (f a j))
      → (o : Option A) → table (class_at t) ≡ o
      → Reading n most (Token d x ∷ M) K R (t ∷ ts) (and_then (if_some o (λ a. Ok (a, ts)) (Err (Syntax (length (t ∷ ts))))) f)
  some_case x table is le f t ts below g None e = record { is = token_refused most d x t ts M (is t ∙ ap some e) }
  some_case x table is le f t ts below g (Some a) e = taken x t ts (f a ts) le (is t ∙ ap some e) (g t a ts below e)

  -- what a table gives
  pub of_table : {A : Type 0} (x : Sort) (table : Class → Option A) → table c.End ≡ None → ((t : Symbol) → allows x t ≡ some (table (class_at t))) → d ≤ most → (f : A → Parser B) (i : List Symbol)
      → length i ≤ suc n
      → ((t : Symbol) (a : A) (j : List Symbol) → length j ≤ n → table (class_at t) ≡ Some a → Reading n most M K (λ y b e. R y (at t d ∷ b) e) j (f a j))
      → Reading n most (Token d x ∷ M) K R i (and_then (expect_some table i) f)
  of_table x table none is le f [] below g = subst (λ o. Reading n most (Token d x ∷ M) K R [] (and_then (if_some o (λ a. Ok (a, [])) (Err (Syntax 0))) f)) (sym none) (record { is = no_token most d x M })
  of_table x table none is le f (t ∷ ts) below g = some_case x table is le f t ts (omega arith) g (table (class_at t)) refl

-- ---- a token that opens a level

module _ {B : Type 0} {n most d : ℕ} {M K : List Owed} {R : B → List Leveled → List Leveled → Type 0} where
  opens_left : (c : Class) (f : ℕ → Parser B) (t : Symbol) (ts : List Symbol) → same (class_at t) c ≡ true → t ≡ fixed_at (place_at t) c → length ts ≤ n
      → (left : ℕ) → left + d ≡ most
      → ((p : Place) (m : ℕ) (j : List Symbol) → m + suc d ≡ most → length j ≤ n → Reading n most M K (λ y b e. R y (at (fixed_at p c) (suc d) ∷ b) e) j (f m j))
      → Reading n most (Token (suc d) (This c) ∷ M) K R (t ∷ ts) (and_then (deeper left (t ∷ ts)) f)
  opens_left c f t ts e is below zero eq g = record {
    is = ap (λ b. found most (moved (if b then Eat (suc d) (λ K. K) else Stop) M (settle M t)) (length (t ∷ ts)) (run most ts)) e ∙ too_many (suc d) most _ _ (omega arith);
  }
  opens_left c f t ts e is below (suc m) eq g =
      taken (This c) t ts (f m ts) (omega arith) e (subst (λ u. Reading n most M K (λ y b e. R y (at u (suc d) ∷ b) e) ts (f m ts)) (sym is) (g (place_at t) m ts (omega arith) below))

  opens_case : (c : Class) → IsFixed c → (f : ℕ → Parser B) (t : Symbol) (ts : List Symbol) → length ts ≤ n → (left : ℕ) → left + d ≡ most
      → ((p : Place) (m : ℕ) (j : List Symbol) → m + suc d ≡ most → length j ≤ n → Reading n most M K (λ y b e. R y (at (fixed_at p c) (suc d) ∷ b) e) j (f m j))
      → (b : Bool) → same (class_at t) c ≡ b
      → Reading n most (Token (suc d) (This c) ∷ M) K R (t ∷ ts) (and_then (if b then deeper left (t ∷ ts) else Err (Syntax (length (t ∷ ts)))) f)
  opens_case c sign f t ts below left eq g true e = opens_left c f t ts e (fixed_is t c sign (same_class (class_at t) c e)) below left eq g
  opens_case c sign f t ts below left eq g false e = record { is = token_refused most (suc d) (This c) t ts M e }

  pub opens : (c : Class) → IsFixed c → (left : ℕ) → left + d ≡ most → (f : ℕ → Parser B) (i : List Symbol) → length i ≤ suc n
      → ((p : Place) (m : ℕ) (j : List Symbol) → m + suc d ≡ most → length j ≤ n → Reading n most M K (λ y b e. R y (at (fixed_at p c) (suc d) ∷ b) e) j (f m j))
      → Reading n most (Token (suc d) (This c) ∷ M) K R i (and_then (opening c left i) f)
  opens c sign left eq f [] below g = record { is = no_token most (suc d) (This c) M }
  opens c sign left eq f (t ∷ ts) below g = opens_case c sign f t ts (omega arith) left eq g (same (class_at t) c) refl

-- ---- parts that begin so, one after another

-- an item that begins with one token, which decides
abbrev pub Plain : Item → ℕ → Type 0
Plain x d = (t : Class) → one_step x d t ≡ (if begins x t then eat (rest x d t) else Stop)

-- so many turns are enough
abbrev pub Enough : Count → ℕ → ℕ → Type 0
Enough Any turns len = len ≤ turns
Enough (AtMost m) turns len = turns ≡ m

-- what was added to a list
abbrev pub Adds : (x : Item) → Count → ℕ → List (Value x) → List (Value x) → List Leveled → List Leveled → Type 0
Adds x most d got all a b = (xs : List (Value x)) × (all ≡ got ++ xs) × Derives (grammar.Many x most d xs) a b

nothing_added : {A : Type 0} (got : List A) → got ≡ got ++ []
nothing_added got = sym (append-nil got)

pub skips_run : (most : ℕ) (x : Item) (k : Count) (d : ℕ) (t : Symbol) (ts : List Symbol) (K : List Owed) → begins x (class_at t) ≡ false → run most (t ∷ ts) (Many x k d ∷ K) ≡ run most (t ∷ ts) K
skips_run most x k d t ts K e = by_count (fewer k)
  where
    by_count : (o : Option Count) → found most (moved (many_step x o d (class_at t)) K (settle K t)) (length (t ∷ ts)) (run most ts) ≡ run most (t ∷ ts) K
    by_count None = refl
    by_count (Some left) = ap (λ b. found most (moved (if b then Eat (rest x d (class_at t)).0 (λ K. (rest x d (class_at t)).1 (Many x left d ∷ K)) else Skip) K (settle K t)) (length (t ∷ ts)) (run most ts)) e

pub skips_label : (x : Item) (k : Count) (d : ℕ) (t : Symbol) (ts : List Symbol) (K : List Owed) → begins x (class_at t) ≡ false → label (t ∷ ts) (Many x k d ∷ K) ≡ label (t ∷ ts) K
skips_label x k d t ts K e = by_count (fewer k)
  where
    by_count : (o : Option Count) → labeled t (moved (many_step x o d (class_at t)) K (settle K t)) (label ts) ≡ label (t ∷ ts) K
    by_count None = refl
    by_count (Some left) = ap (λ b. labeled t (moved (if b then Eat (rest x d (class_at t)).0 (λ K. (rest x d (class_at t)).1 (Many x left d ∷ K)) else Skip) K (settle K t)) (label ts)) e

-- where an item begins, the first of many is read as one
pub first_move : (x : Item) (k left : Count) (d : ℕ) (t : Symbol) (K : List Owed) → Plain x d → fewer k ≡ Some left → begins x (class_at t) ≡ true
    → settle (Many x k d ∷ K) t ≡ settle (One x d ∷ Many x left d ∷ K) t
first_move x k left d t K plain f e =
    ap (λ o. moved (many_step x o d (class_at t)) K (settle K t)) f
    ∙ ap (λ b. moved (if b then Eat (rest x d (class_at t)).0 (λ K. (rest x d (class_at t)).1 (Many x left d ∷ K)) else Skip) K (settle K t)) e
    ∙ sym (ap (λ m. moved m (Many x left d ∷ K) (settle (Many x left d ∷ K) t)) (plain (class_at t))
    ∙ ap (λ b. moved (if b then eat (rest x d (class_at t)) else Stop) (Many x left d ∷ K) (settle (Many x left d ∷ K) t)) e)

module _ (most : ℕ) (x : Item) (d : ℕ) (plain : Plain x d) (ends : begins x c.End ≡ false) (p : Parser (Value x))
    (one : (n : ℕ) (t : Symbol) (ts : List Symbol) (K : List Owed) → begins x (class_at t) ≡ true → length ts ≤ n
    → Reading n most (One x d ∷ K) K (λ v a b. Derives (grammar.One x d v) a b) (t ∷ ts) (p (t ∷ ts))) where
  stops : (n : ℕ) (k : Count) (got : List (Value x)) (i : List Symbol) (K : List Owed) → length i ≤ n → begins x (class i) ≡ false
      → Reading n most (Many x k d ∷ K) K (Adds x k d got) i (Ok (got, i))
  stops n k got [] K le e = restack (Ok (got, [])) (at_last (fewer k)) refl (given got [] le ([], nothing_added got, no_more))
    where
      at_last : (o : Option Count) → at_end (many_step x o d c.End) (ended K) ≡ ended K
      at_last None = refl
      at_last (Some left) = ap (λ b. at_end (if b then Eat (rest x d c.End).0 (λ K. (rest x d c.End).1 (Many x left d ∷ K)) else Skip) (ended K)) e
  stops n k got (t ∷ ts) K le e = restack (Ok (got, t ∷ ts)) (skips_run most x k d t ts K e) (skips_label x k d t ts K e) (given got (t ∷ ts) le ([], nothing_added got, no_more))

  added : (k left : Count) (got all : List (Value x)) (v : Value x) (a b e : List Leveled) → fewer k ≡ Some left → Derives (grammar.One x d v) a b → Adds x left d (got ++ v ∷ []) all b e
      → Adds x k d got all a e
  added k left got all v a b e f h g = (v ∷ g.0, g.1 ∙ append_assoc got (v ∷ []) g.0, one_more f h g.2)

  turn : (n turns : ℕ) (k left : Count) (got : List (Value x)) (i : List Symbol) (K : List Owed) → fewer k ≡ Some left → length i ≤ n
      → ((got : List (Value x)) (j : List Symbol) → length j < length i → Reading n most (Many x left d ∷ K) K (Adds x left d got) j (many_from (begins x) p turns got j))
      → (b : Bool) → begins x (class i) ≡ b
      → Reading n most (Many x k d ∷ K) K (Adds x k d got) i (if b then and_then (p i) (λ v. many_from (begins x) p turns (got ++ v ∷ [])) else Ok (got, i))
  turn n turns k left got i K f le again false e = stops n k got i K le e
  turn n turns k left got [] K f le again true e = let both : false ≡ true = sym ends ∙ e in absurd (cc)
  turn n turns k left got (t ∷ ts) K f le again true e =
      let move = first_move x k left d t K plain f e in
      restack (and_then (p (t ∷ ts)) (λ v. many_from (begins x) p turns (got ++ v ∷ [])))
      (ap (λ o. found most o (length (t ∷ ts)) (run most ts)) move) (ap (λ o. labeled t o (label ts)) move)
      (narrow (p (t ∷ ts)) (one (length ts) t ts (Many x left d ∷ K) e (omega arith)))
    where
      narrow : (r : Outcome (Value x)) → Reading (length ts) most (One x d ∷ Many x left d ∷ K) (Many x left d ∷ K) (λ v a b. Derives (grammar.One x d v) a b) (t ∷ ts) r
          → Reading n most (One x d ∷ Many x left d ∷ K) K (Adds x k d got) (t ∷ ts) (and_then r (λ v. many_from (begins x) p turns (got ++ v ∷ [])))
      narrow (Ok q) h = widen (many_from (begins x) p turns (got ++ q.0 ∷ []) q.1) (again (got ++ q.0 ∷ []) q.1 (omega (arith, h.is.0)))
        where
          widen : (r : Outcome (List (Value x))) → Reading n most (Many x left d ∷ K) K (Adds x left d (got ++ q.0 ∷ [])) q.1 r
              → Reading n most (One x d ∷ Many x left d ∷ K) K (Adds x k d got) (t ∷ ts) r
          widen (Ok y) g = record { is = (g.is.0, h.is.1 ∙ g.is.1, added k left got y.0 q.0 _ _ _ f h.is.2 g.is.2) }
          widen (Err z) g = record { is = h.is.1 ∙ g.is }
      narrow (Err z) h = record { is = h.is }

  pub many_reads : (n turns : ℕ) (k : Count) (got : List (Value x)) (i : List Symbol) (K : List Owed) → Enough k turns (length i) → length i ≤ n
      → Reading n most (Many x k d ∷ K) K (Adds x k d got) i (many_from (begins x) p turns got i)
  unfolding many_from
  many_reads n zero Any got [] K enough le = stops n Any got [] K le ends
  many_reads n zero Any got (t ∷ ts) K enough le = absurd (omega arith)
  many_reads n zero (AtMost zero) got i K enough le = none_left i le
    where
      none_left : (i : List Symbol) → length i ≤ n → Reading n most (Many x (AtMost zero) d ∷ K) K (Adds x (AtMost zero) d got) i (Ok (got, i))
      none_left [] le = restack (Ok (got, [])) refl refl (given got [] le ([], nothing_added got, no_more))
      none_left (t ∷ ts) le = restack (Ok (got, t ∷ ts)) refl refl (given got (t ∷ ts) le ([], nothing_added got, no_more))
  many_reads n zero (AtMost (suc m)) got i K enough le = absurd (omega arith)
  many_reads n (suc turns) Any got i K enough le = turn n turns Any Any got i K refl le (λ more j below. many_reads n turns Any more j K (omega arith) (omega arith)) (begins x (class i)) refl
  many_reads n (suc turns) (AtMost zero) got i K enough le = absurd (omega arith)
  many_reads n (suc turns) (AtMost (suc m)) got i K enough le =
      turn n turns (AtMost (suc m)) (AtMost m) got i K refl le (λ more j below. many_reads n turns (AtMost m) more j K (omega arith) (omega arith)) (begins x (class i)) refl
