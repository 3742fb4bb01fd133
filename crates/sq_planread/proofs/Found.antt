-- What is read is derived: from a text of what is left after a phrase, one of what begins with it.
use Rattle.std.proofs.Common.{◌≡◌, ℕ, zero, suc, ℤ, pos, Bool, true, false, if◌then◌else◌, List, [], ◌∷◌, ◌++◌, length, Option, Some, None, Ok, Err, refl, sym, ◌∙◌, ap, subst, append_assoc, append-nil, rules}
use Rattle.std.proofs.lemmas.Slice.Eq.{bytes_eq-Decides}
use denote.Enum.Bare.{same_true}
use Rattle.sq_text.specs.declared.place.Place.{Place}
use Rattle.sq_lexer.specs.contracts.token.Sign as sign
use Rattle.sq_lexer.specs.declared.token.Token.{Token}
use Rattle.sq_lexer.specs.declared.token.Kind.{Kind}
use Rattle.sq_lexer.specs.declared.token.Kind.TheVariants as tk
use Rattle.sq_lexer.specs.declared.token.Sign.{Sign}
use Rattle.sq_lexer.specs.Tokens.{token}
use Rattle.sq_ast.specs.Grammar.{if_some}
use Rattle.sq_plantext.specs.Grammar.{Leveled, tokens_of, Phrase, Derives, Within}
use Rattle.sq_reader.specs.declared.error.ParseError.TheVariants.{Syntax}
use Rattle.sq_planread.specs.Reading.{Outcome, Reader, and_then, next, is_word, is_sign, name_in, natural_in, natural_from, sees_word, sees_sign, expect_word, expect_sign, expect_some, any_word, natural, opening, deeper, many_from, many_after}

-- ---- outcomes

abbrev pub Gives : {A : Type 0} → (A → List Token → Type 0) → Outcome A → Type 0
Gives P (Ok p) = P p.0 p.1
Gives P (Err e) = Unit {0}

-- where something was read, it is as told
pub record Reading {A : Type 0} (P : A → List Token → Type 0) (r : Outcome A) : Type 0 where
  pub is : Gives P r

pub phrase : {A B : Type 0} {P : A → List Token → Type 0} {R : B → List Token → Type 0} (r : Outcome A) (f : A → Reader B)
    → Reading P r → ((a : A) (j : List Token) → P a j → Reading R (f a j)) → Reading R (and_then r f)
phrase (Ok p) f h g = g p.0 p.1 h.is
phrase (Err e) f h g = record { is = tt }

pub gives_more : {A : Type 0} {P Q : A → List Token → Type 0} (r : Outcome A) → ((a : A) (j : List Token) → P a j → Q a j) → Reading P r → Reading Q r
gives_more (Ok p) f h = record { is = f p.0 p.1 h.is }
gives_more (Err e) f h = record { is = tt }

pub choose : {A : Type 0} {P : A → List Token → Type 0} {x y : Outcome A} (b : Bool) → (b ≡ true → Reading P x) → (b ≡ false → Reading P y) → Reading P (if b then x else y)
choose true f g = f refl
choose false f g = g refl

-- ---- single tokens

pub data Is (k : Kind) : List Token → List Token → Type 0 where
  this : {p : Place} {j : List Token} → Is k (token k p ∷ j) j

first : (k : Kind) (t : Token) (ts : List Token) → t.kind ≡ k → Is k (t ∷ ts) ts
first k t ts e = subst (λ k. Is k (t ∷ ts) ts) e this

pub signed : (s : Sign) (k : Kind) → is_sign s k ≡ true → k ≡ tk.Sign s
signed s (tk.Sign other) e = ap tk.Sign (same_true sign.the_type (search rules) other s e)
signed s (tk.Word w) e = absurd (cc)
signed s (tk.Number n) e = absurd (cc)
signed s tk.End e = absurd (cc)

pub sign_seen : (s : Sign) (i : List Token) → sees_sign s i ≡ true → Is (tk.Sign s) i (next i)
sign_seen s [] e = absurd (cc)
sign_seen s (t ∷ ts) e = first (tk.Sign s) t ts (signed s t.kind e)

pub worded : (w : List ℕ) (k : Kind) → is_word w k ≡ true → k ≡ tk.Word w
worded w (tk.Word name) e = ap tk.Word ((bytes_eq-Decides name w).0 e)
worded w (tk.Sign s) e = absurd (cc)
worded w (tk.Number n) e = absurd (cc)
worded w tk.End e = absurd (cc)

pub word_seen : (w : List ℕ) (i : List Token) → sees_word w i ≡ true → Is (tk.Word w) i (next i)
word_seen w [] e = absurd (cc)
word_seen w (t ∷ ts) e = first (tk.Word w) t ts (worded w t.kind e)

pub sign_read : (s : Sign) (i : List Token) → Reading (λ u j. Is (tk.Sign s) i j) (expect_sign s i)
sign_read s i = choose (sees_sign s i) (λ e. record { is = sign_seen s i e }) (λ e. record { is = tt })

pub word_read : (w : List ℕ) (i : List Token) → Reading (λ u j. Is (tk.Word w) i j) (expect_word w i)
word_read w i = choose (sees_word w i) (λ e. record { is = word_seen w i e }) (λ e. record { is = tt })

-- a token for which the table has this
pub record IsOf {A : Type 0} (table : Kind → Option A) (i : List Token) (a : A) (j : List Token) : Type 0 where
  pub kind : Kind
  pub is : Is kind i j
  pub gives : table kind ≡ Some a

of_table : {A : Type 0} (table : Kind → Option A) (t : Token) (ts : List Token) (o : Option A) → table t.kind ≡ o
    → Reading (λ a j. IsOf table (t ∷ ts) a j) (if_some o (λ a. Ok (a, ts)) (Err (Syntax (length (t ∷ ts)))))
of_table table t ts None e = record { is = tt }
of_table table t ts (Some a) e = record { is = record { kind = t.kind; is = this; gives = e } }

pub table_read : {A : Type 0} (table : Kind → Option A) → table tk.End ≡ None → (i : List Token) → Reading (λ a j. IsOf table i a j) (expect_some table i)
table_read table none [] = subst (λ o. Reading (λ a j. IsOf table [] a j) (if_some o (λ a. Ok (a, [])) (Err (Syntax 0)))) (sym none) (record { is = tt })
table_read table none (t ∷ ts) = of_table table t ts (table t.kind) refl

pub name_read : (i : List Token) → Reading (λ w j. Is (tk.Word w) i j) (any_word i)
name_read [] = record { is = tt }
name_read (t ∷ ts) = of_kind t.kind refl
  where
    of_kind : (k : Kind) → t.kind ≡ k → Reading (λ w j. Is (tk.Word w) (t ∷ ts) j) (if_some (name_in k) (λ a. Ok (a, ts)) (Err (Syntax (length (t ∷ ts)))))
    of_kind (tk.Word w) e = record { is = first (tk.Word w) t ts e }
    of_kind (tk.Number n) e = record { is = tt }
    of_kind (tk.Sign s) e = record { is = tt }
    of_kind tk.End e = record { is = tt }

pub natural_read : (i : List Token) → Reading (λ n j. Is (tk.Number (pos n)) i j) (natural i)
natural_read [] = record { is = tt }
natural_read (t ∷ ts) = of_kind t.kind refl
  where
    of_number : (z : ℤ) → t.kind ≡ tk.Number z → Reading (λ n j. Is (tk.Number (pos n)) (t ∷ ts) j) (if_some (natural_from z) (λ a. Ok (a, ts)) (Err (Syntax (length (t ∷ ts)))))
    of_number (pos n) e = record { is = first (tk.Number (pos n)) t ts e }
    of_number _ e = record { is = tt }

    of_kind : (k : Kind) → t.kind ≡ k → Reading (λ n j. Is (tk.Number (pos n)) (t ∷ ts) j) (if_some (natural_in k) (λ a. Ok (a, ts)) (Err (Syntax (length (t ∷ ts)))))
    of_kind (tk.Number z) e = of_number z e
    of_kind (tk.Word w) e = record { is = tt }
    of_kind (tk.Sign s) e = record { is = tt }
    of_kind tk.End e = record { is = tt }

-- a sign that opens a level, where one is left
pub record Opens (s : Sign) (n : ℕ) (i : List Token) (m : ℕ) (j : List Token) : Type 0 where
  pub is : Is (tk.Sign s) i j
  pub left : suc m ≡ n

deeper_read : (s : Sign) (n : ℕ) (i : List Token) → sees_sign s i ≡ true → Reading (λ m j. Opens s n i m j) (deeper n i)
deeper_read s zero i e = record { is = tt }
deeper_read s (suc n) i e = record { is = record { is = sign_seen s i e; left = refl } }

pub opening_read : (s : Sign) (n : ℕ) (i : List Token) → Reading (λ m j. Opens s n i m j) (opening s n i)
opening_read s n i = choose (sees_sign s i) (deeper_read s n i) (λ e. record { is = tt })

-- ---- phrases

module _ (most : ℕ) where
  -- tokens that begin with the phrase, where these are left after it
  pub record Before (P : Phrase) (i : List Token) (J : List Leveled) : Type 0 where
    pub from : List Leveled
    pub tokens : tokens_of from ≡ i
    pub within : Within most from
    pub derives : Derives P from J

  -- whatever the levels of what is left
  pub record Found (P : Phrase) (i j : List Token) : Type 0 where
    pub before : (J : List Leveled) → tokens_of J ≡ j → Within most J → Before P i J

  -- ---- one after another

  abbrev pub Adds : {A : Type 0} → (List A → Phrase) → List A → List Token → List A → List Token → Type 0
  Adds {A} D found i every j = (xs : List A) × (every ≡ found ++ xs) × Found (D xs) i j

  module _ {A : Type 0} (D : List A → Phrase) (none : (i : List Leveled) → Derives (D []) i i) (begins : List Token → Bool) (one : Reader A)
      (reads : (i : List Token) → begins i ≡ true → Reading (λ x j. (rest : List A) (l : List Token) → Found (D rest) j l → Found (D (x ∷ rest)) i l) (one i)) where
    nothing : (found : List A) (i : List Token) → Adds D found i found i
    nothing found i = ([], sym (append-nil found), record { before = λ J e w. record { from = J; tokens = e; within = w; derives = none J } })

    added : (found : List A) (x : A) (i j l : List Token) (every : List A) → ((rest : List A) (l : List Token) → Found (D rest) j l → Found (D (x ∷ rest)) i l)
        → Adds D (found ++ x ∷ []) j every l → Adds D found i every l
    added found x i j l every h (xs, is, rest) = (x ∷ xs, is ∙ append_assoc found (x ∷ []) xs, h xs l rest)

    many_read : (turns : ℕ) (found : List A) (i : List Token) → Reading (Adds D found i) (many_from begins one turns found i)
    unfolding many_from
    many_read zero found i = record { is = nothing found i }
    many_read (suc n) found i = choose (begins i)
        (λ e. phrase (one i) (λ x. many_from begins one n (found ++ x ∷ [])) (reads i e)
        (λ x j h. gives_more (many_from begins one n (found ++ x ∷ []) j) (λ every l more. added found x i j l every h more) (many_read n (found ++ x ∷ []) j)))
        (λ e. record { is = nothing found i })

    pub after_read : (found : List A) (i : List Token) → Reading (Adds D found i) (many_after begins one found i)
    unfolding many_after
    after_read found i = many_read (length i) found i
