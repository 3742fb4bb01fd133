-- A chain of operators where a level is left to read.
use Rattle.std.proofs.Common.{◌≡◌, ℕ, zero, suc, ◌<◌, ◌-◌, [], Ok, Err, ◌∙◌, ap, arith, List}
use Rattle.sq_ast.specs.declared.expr.Expr.{Expr}
use Rattle.sq_ast.specs.Symbols.{Symbol}
use Rattle.sq_ast.specs.Grammar.{chain_of}
use Rattle.sq_reader.specs.declared.error.ParseError.{ParseError}
use Rattle.sq_reader.specs.Reading.{Parser, and_then, many_after, is_operator, link, level}

level_step : (p : Parser Expr) (n : ℕ) (i : List Symbol) → 0 < n
    → level p n i ≡ and_then (level p (n - 1) i) (λ first j. and_then (many_after (is_operator (n - 1)) (link (n - 1) (level p (n - 1))) [] j) (λ rest l. Ok (chain_of first rest, l)))
unfolding level
level_step p zero i h = absurd (omega arith)
level_step p (suc n) i h =
    let e : n ≡ suc n - 1 = omega arith in
    ap (λ m. and_then (level p m i) (λ first j. and_then (many_after (is_operator m) (link m (level p m)) [] j) (λ rest l. Ok (chain_of first rest, l)))) e

pub level_fails : (p : Parser Expr) (n : ℕ) (i j : List Symbol) (first : Expr) (e : ParseError) → 0 < n → level p (n - 1) i ≡ Ok (first, j)
    → many_after (is_operator (n - 1)) (link (n - 1) (level p (n - 1))) [] j ≡ Err e → level p n i ≡ Err e
level_fails p n i j first e some h g = level_step p n i some
    ∙ ap (λ r. and_then r (λ first j. and_then (many_after (is_operator (n - 1)) (link (n - 1) (level p (n - 1))) [] j) (λ rest l. Ok (chain_of first rest, l)))) h
    ∙ ap (λ r. and_then r (λ rest l. Ok (chain_of first rest, l))) g
