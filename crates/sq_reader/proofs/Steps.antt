-- Classes of symbols that their first token tells apart, and one step of each parser, whatever number of levels is
-- left.
use Rattle.std.proofs.Common.{◌≡◌, ◌≢◌, ℕ, zero, suc, pos, Bool, true, false, if◌then◌else◌, List, [], ◌∷◌, length, ◌<◌, ◌-◌, Ok, Err, refl, ◌∙◌, ap, subst, rules, arith}
use denote.Enum.Bare.{same_true, true_same}
use Rattle.sq_text.specs.declared.place.Place.{Place}
use Rattle.sq_lexer.specs.contracts.token.Sign as sign
use Rattle.sq_ast.specs.contracts.keyword.Keyword as keyword
use Rattle.sq_ast.specs.declared.class.Class.{Class}
use Rattle.sq_ast.specs.declared.class.Class.TheVariants as c
use Rattle.sq_ast.specs.Symbols.{Symbol, Word, Number, Key, Mark, Last, class_at, place_at}
use Rattle.sq_ast.specs.Grammar.{class}
use Rattle.sq_lexer.specs.declared.token.Sign.TheVariants as g
use Rattle.sq_ast.specs.declared.stmt.Stmt.{Stmt}
use Rattle.sq_reader.specs.declared.error.ParseError.TheVariants.{Syntax}
use Rattle.sq_reader.specs.Reading.{Parser, and_then, ◌>>◌, take_token, too_deep, expect, opening, deeper, many_after, begins_stmt, same, sees, operand, operand_by, inner, inside, negated, stmt, stmt_by, block, leaf_stmt, leaf_stmt_by, no_body, body_by, body}

-- a class whose symbol its place determines
abbrev pub IsFixed : Class → Type 0
IsFixed c.Word = ⊥
IsFixed c.Number = ⊥
IsFixed _ = Unit {0}

abbrev pub fixed_at : Place → Class → Symbol
fixed_at p c.Word = Word p []
fixed_at p c.Number = Number p (pos 0)
fixed_at p (c.Key k) = Key p k
fixed_at p (c.Sign s) = Mark p s
fixed_at p c.End = Last p

pub same_class : (a b : Class) → same a b ≡ true → a ≡ b
same_class c.Word c.Word e = refl
same_class c.Number c.Number e = refl
same_class (c.Key a) (c.Key b) e = ap c.Key (same_true keyword.the_type (search rules) a b e)
same_class (c.Sign a) (c.Sign b) e = ap c.Sign (same_true sign.the_type (search rules) a b e)
same_class c.End c.End e = refl
same_class _ _ e = absurd (cc)

pub same_self : (a : Class) → same a a ≡ true
same_self c.Word = refl
same_self c.Number = refl
same_self (c.Key a) = true_same keyword.the_type a a refl
same_self (c.Sign a) = true_same sign.the_type a a refl
same_self c.End = refl

pub fixed_is : (t : Symbol) (b : Class) → IsFixed b → class_at t ≡ b → t ≡ fixed_at (place_at t) b
fixed_is t b h e = one_of t (class_at t) refl h e
  where
    fixed_self : (t : Symbol) → IsFixed (class_at t) → t ≡ fixed_at (place_at t) (class_at t)
    fixed_self (Word p w) h = absurd h
    fixed_self (Number p n) h = absurd h
    fixed_self (Key p k) h = refl
    fixed_self (Mark p s) h = refl
    fixed_self (Last p) h = refl

    one_of : (t : Symbol) (a : Class) → class_at t ≡ a → IsFixed b → a ≡ b → t ≡ fixed_at (place_at t) b
    one_of t a is h e = subst (λ b. IsFixed b → t ≡ fixed_at (place_at t) b) (is ∙ e) (fixed_self t) h

pub seen : (a : Class) (i : List Symbol) → sees a i ≡ true → class i ≡ a
seen a [] e = absurd (cc)
seen a (t ∷ ts) e = same_class (class_at t) a e

pub not_seen : (a : Class) (i : List Symbol) → class i ≢ a → sees a i ≡ false
not_seen a i other = by_case (sees a i) refl
  where
    by_case : (b : Bool) → sees a i ≡ b → b ≡ false
    by_case true e = absurd (other (seen a i e))
    by_case false e = refl

pub operand_is : (constant : Bool) (n : ℕ) (i : List Symbol) → operand constant n i ≡ operand_by constant n (inner constant n) (inside constant n) (negated constant n) i
unfolding operand inner inside negated
operand_is constant zero i = refl
operand_is constant (suc n) i = refl

pub stmt_is : (n : ℕ) (i : List Symbol) → stmt n i ≡ stmt_by n (block n) i
unfolding stmt block
stmt_is zero i = refl
stmt_is (suc n) i = refl

pub leaf_stmt_is : (n : ℕ) (i : List Symbol) → leaf_stmt n i ≡ leaf_stmt_by n (body n) i
unfolding leaf_stmt body
leaf_stmt_is zero i = refl
leaf_stmt_is (suc n) i = refl

pub body_shallow : (i : List Symbol) → body 0 i ≡ no_body i
unfolding body
body_shallow i = refl

pub body_deep : (n : ℕ) (i : List Symbol) → 0 < n → body n i ≡ body_by (leaf_stmt (n - 1)) i
unfolding body
body_deep zero i h = absurd (omega arith)
body_deep (suc n) i h = let e : n ≡ suc n - 1 = omega arith in ap (λ m. body_by (leaf_stmt m) i) e

abbrev inner_stmts : ℕ → Parser (List Stmt)
inner_stmts zero = too_deep
inner_stmts (suc n) = take_token >> many_after begins_stmt (stmt n) []

block_left : (t : Symbol) (ts : List Symbol) (n : ℕ) (b : Bool)
    → (if b then and_then (inner_stmts n (t ∷ ts)) (λ xs l. and_then (expect (c.Sign g.BraceClose) l) (λ u r. Ok (xs, r))) else Err (Syntax (length (t ∷ ts))))
    ≡ and_then (if b then deeper n (t ∷ ts) else Err (Syntax (length (t ∷ ts)))) (λ m j. and_then (many_after begins_stmt (stmt m) [] j) (λ xs l. and_then (expect (c.Sign g.BraceClose) l) (λ u r. Ok (xs, r))))
block_left t ts zero true = refl
block_left t ts (suc n) true = refl
block_left t ts n false = refl

pub block_opens : (n : ℕ) (i : List Symbol) → block n i ≡ and_then (opening (c.Sign g.BraceOpen) n i) (λ m j. and_then (many_after begins_stmt (stmt m) [] j) (λ xs l. and_then (expect (c.Sign g.BraceClose) l) (λ u r. Ok (xs, r))))
unfolding block
block_opens zero [] = refl
block_opens (suc n) [] = refl
block_opens zero (t ∷ ts) = block_left t ts zero (same (class_at t) (c.Sign g.BraceOpen))
block_opens (suc n) (t ∷ ts) = block_left t ts (suc n) (same (class_at t) (c.Sign g.BraceOpen))
