-- A machine that reads a program token by token. It keeps what is still owed, and so knows what the tokens before a
-- place allow.
use Rattle.std.proofs.Common.{ℕ, zero, suc, Bool, true, false, if◌then◌else◌, leb, List, [], ◌∷◌, length, Option, Some, None, Result, Ok, Err}
use Rattle.std.specs.Prelude.{◌&&◌}
use Rattle.sq_lexer.specs.declared.token.Sign.TheVariants as g
use Rattle.sq_ast.specs.declared.keyword.Keyword.TheVariants as k
use Rattle.sq_ast.specs.declared.class.Class.{Class}
use Rattle.sq_ast.specs.declared.class.Class.TheVariants as c
use Rattle.sq_ast.specs.Symbols.{Symbol, Last, class_at}
use Rattle.sq_ast.specs.Grammar.{if_some, levels, prefix, mode_of, elem_of, reduction_of, assignment_of, extent_of, Item, Operand, Chain, Link, Index, Listed, Next, Extent, Param, Tunable, Decl, Task, Named, Arg, Call, Range, Stmt, LeafStmt, LeafBody, Alternative, Count, Any, AtMost, fewer, Leveled, at}
use Rattle.sq_reader.specs.declared.error.ParseError.{ParseError}
use Rattle.sq_reader.specs.declared.error.ParseError.TheVariants.{Syntax, TooDeep}
use Rattle.sq_reader.specs.Reading.{same, some, is_zero, number_at, nowhere, is_comma, is_bracket, is_operator, begins_stmt, begins_leaf_stmt, begins_decl, begins_task}

-- which tokens may stand where one is owed
pub data Sort : Type 0 where
  This : Class → Sort
  AWord : Sort
  AMode : Sort
  AnElem : Sort
  ARedOp : Sort
  AnAssign : Sort
  AnExtent : Sort
  Zero : Sort

abbrev pub allows : Sort → Symbol → Bool
allows (This c) t = same (class_at t) c
allows AWord t = same (class_at t) c.Word
allows AMode t = some (mode_of (class_at t))
allows AnElem t = some (elem_of (class_at t))
allows ARedOp t = some (reduction_of (class_at t))
allows AnAssign t = some (assignment_of (class_at t))
allows AnExtent t = some (extent_of t)
allows Zero t = same (class_at t) c.Number && is_zero (number_at t)

-- a place where the next token decides among alternatives
pub data Turn : Type 0 where
  -- after `tunable int WORD`, where the flag allows a list
  AfterTunable : Bool → Turn
  -- after `blkset WORD =`
  AfterSet : Turn
  -- after `task WORD ::`
  AfterPath : Turn

-- what is owed, each with the number of levels round it
pub data Owed : Type 0 where
  Token : ℕ → Sort → Owed
  One : Item → ℕ → Owed
  Many : Item → Count → ℕ → Owed
  After : Turn → ℕ → Owed

-- What a token does to what is owed first: it is read at this level, and leaves more owed; or nothing is owed any more;
-- or it is refused.
pub data Move : Type 0 where
  Eat : ℕ → (List Owed → List Owed) → Move
  Skip : Move
  Stop : Move

-- the operators after an operand, of this many levels
abbrev pub tails : Bool → ℕ → ℕ → List Owed → List Owed
tails constant zero d K = K
tails constant (suc n) d K = tails constant n d (Many (Link constant n) Any d ∷ K)

-- what is owed where an item is; what no token decides stands for its parts
abbrev pub owe : Item → ℕ → List Owed → List Owed
owe (Chain constant n) d K = One (Operand constant) d ∷ tails constant n d K
owe (Listed x) d K = Token (suc d) (This (c.Sign g.ParenOpen)) ∷ owe x (suc d) (Many (Next x) Any (suc d) ∷ Token d (This (c.Sign g.ParenClose)) ∷ K)
owe Param d K = Token d AMode ∷ Token d AnElem ∷ Token d AWord ∷ One Extent d ∷ Many Extent (AtMost 2) d ∷ K
owe Tunable d K = Token d AWord ∷ K
owe Named d K = Token d (This (c.Key k.Task)) ∷ Token d AWord ∷ Token d (This (c.Sign g.Path)) ∷ After AfterPath d ∷ K
owe Arg d K = Token d AWord ∷ Many (Index true) Any d ∷ K
owe Call d K = Token d AWord ∷ Token (suc d) (This (c.Sign g.ParenOpen)) ∷ Token (suc d) AWord ∷ Many (Index true) Any (suc d) ∷ Many (Next Arg) Any (suc d)
    ∷ Token d (This (c.Sign g.ParenClose)) ∷ K
owe Range d K = Token d (This (c.Key k.Int)) ∷ Token d AWord ∷ Token d (This (c.Sign g.Set)) ∷ Token d Zero ∷ Token d (This (c.Key k.To))
    ∷ One (Operand true) d ∷ tails true 2 d K
owe x d K = One x d ∷ K

abbrev pub expr : Bool → ℕ → List Owed → List Owed
expr constant d K = One (Operand constant) d ∷ tails constant (levels constant) d K

-- how an item begins that may stand more than once, or where a token decides
abbrev pub begins : Item → Class → Bool
begins (Link constant n) t = is_operator n t
begins (Index constant) t = is_bracket t
begins (Next x) t = is_comma t
begins Extent t = is_bracket t
begins (Decl inner) t = begins_decl inner t
begins Task t = begins_task t
begins Stmt t = begins_stmt t
begins LeafStmt t = begins_leaf_stmt t
begins Alternative t = same t (c.Key k.Else)
begins _ t = false

-- what a statement owes after its first token
abbrev pub stmt_rest : ℕ → Class → List Owed → List Owed
stmt_rest d c.Word K = Token (suc d) (This (c.Sign g.ParenOpen)) ∷ Token (suc d) AWord ∷ Many (Index true) Any (suc d) ∷ Many (Next Arg) Any (suc d)
    ∷ Token d (This (c.Sign g.ParenClose)) ∷ Token d (This (c.Sign g.Semi)) ∷ K
stmt_rest d (c.Key k.Mapreduce) K = owe (Listed Range) d (Token d (This (c.Key k.Reduce)) ∷ Token (suc d) (This (c.Sign g.ParenOpen)) ∷ Token (suc d) ARedOp
    ∷ Token (suc d) (This (c.Sign g.Comma)) ∷ Token (suc d) AWord ∷ Token d (This (c.Sign g.ParenClose)) ∷ Token (suc d) (This (c.Sign g.BraceOpen))
    ∷ owe Call (suc d) (Token (suc d) (This (c.Sign g.Semi)) ∷ Token d (This (c.Sign g.BraceClose)) ∷ K))
stmt_rest d t K = owe (Listed Range) d (Token (suc d) (This (c.Sign g.BraceOpen)) ∷ Many Stmt Any (suc d) ∷ Token d (This (c.Sign g.BraceClose)) ∷ K)

abbrev pub leaf_stmt_rest : ℕ → Class → List Owed → List Owed
leaf_stmt_rest d c.Word K = One (Index false) d ∷ Many (Index false) Any d ∷ Token d AnAssign ∷ expr false d (Token d (This (c.Sign g.Semi)) ∷ K)
leaf_stmt_rest d (c.Key k.If) K = Token (suc d) (This (c.Sign g.ParenOpen)) ∷ expr false (suc d) (Token d (This (c.Sign g.ParenClose)) ∷ One LeafBody d ∷ Many Alternative (AtMost 1) d ∷ K)
leaf_stmt_rest d t K = Token (suc d) (This (c.Sign g.ParenOpen)) ∷ Token (suc d) (This (c.Key k.Int)) ∷ Token (suc d) AWord ∷ Token (suc d) (This (c.Sign g.Set))
    ∷ expr false (suc d) (Token (suc d) (This (c.Sign g.Semi)) ∷ Token (suc d) AWord ∷ Token (suc d) (This (c.Sign g.Less))
    ∷ expr false (suc d) (Token (suc d) (This (c.Sign g.Semi)) ∷ Token (suc d) AWord ∷ Token (suc d) (This (c.Sign g.PlusPlus)) ∷ Token d (This (c.Sign g.ParenClose)) ∷ One LeafBody d ∷ K))

abbrev pub decl_rest : Bool → ℕ → Class → List Owed → List Owed
decl_rest inner d (c.Key k.Tunable) K = Token d (This (c.Key k.Int)) ∷ Token d AWord ∷ After (AfterTunable inner) d ∷ K
decl_rest inner d (c.Key k.Local) K = Token d AnElem ∷ Token d AWord ∷ One (Index true) d ∷ Many (Index true) (AtMost 2) d ∷ Token d (This (c.Sign g.Semi)) ∷ K
decl_rest inner d t K = Token d AWord ∷ Token d (This (c.Sign g.Set)) ∷ After AfterSet d ∷ K

abbrev pub task_rest : ℕ → Class → List Owed → List Owed
task_rest d (c.Key k.Void) K = owe Named d K
task_rest d t K = Token d AWord ∷ Token d (This (c.Sign g.Path)) ∷ After AfterPath d ∷ K

-- the level at which an item's first token is read, and what is owed then
abbrev pub rest : Item → ℕ → Class → ℕ × (List Owed → List Owed)
rest (Link constant n) d t = (d, λ K. owe (Chain constant n) d K)
rest (Index constant) d t = (suc d, λ K. expr constant (suc d) (Token d (This (c.Sign g.BracketClose)) ∷ K))
rest (Next x) d t = (d, λ K. owe x d K)
rest Extent d t = (suc d, λ K. Token (suc d) AnExtent ∷ Token d (This (c.Sign g.BracketClose)) ∷ K)
rest (Decl inner) d t = (d, λ K. decl_rest inner d t K)
rest Task d t = (d, λ K. task_rest d t K)
rest Stmt d t = (d, λ K. stmt_rest d t K)
rest LeafStmt d t = (d, λ K. leaf_stmt_rest d t K)
rest Alternative d t = (d, λ K. One LeafBody d ∷ K)
rest _ d t = (d, λ K. K)

abbrev pub eat : ℕ × (List Owed → List Owed) → Move
eat p = Eat p.0 p.1

-- brackets and what is in them, after their first token
abbrev pub primary_step : Bool → ℕ → Class → Move
primary_step constant d c.Number = Eat d (λ K. K)
primary_step constant d c.Word = Eat d (λ K. if constant then K else Many (Index false) Any d ∷ K)
primary_step constant d (c.Sign g.ParenOpen) = Eat (suc d) (λ K. expr constant (suc d) (Token d (This (c.Sign g.ParenClose)) ∷ K))
primary_step constant d (c.Key k.Len) = if constant then Eat d (λ K. Token (suc d) (This (c.Sign g.ParenOpen)) ∷ Token (suc d) AWord ∷ Token d (This (c.Sign g.ParenClose)) ∷ K) else Stop
primary_step constant d (c.Key k.Min) = if constant then Stop
    else Eat d (λ K. Token (suc d) (This (c.Sign g.ParenOpen)) ∷ expr false (suc d) (Token (suc d) (This (c.Sign g.Comma)) ∷ expr false (suc d) (Token d (This (c.Sign g.ParenClose)) ∷ K)))
primary_step constant d (c.Key k.Max) = if constant then Stop
    else Eat d (λ K. Token (suc d) (This (c.Sign g.ParenOpen)) ∷ expr false (suc d) (Token (suc d) (This (c.Sign g.Comma)) ∷ expr false (suc d) (Token d (This (c.Sign g.ParenClose)) ∷ K)))
primary_step constant d _ = Stop

abbrev pub operand_step : Bool → ℕ → Class → Move
operand_step constant d t = if_some (prefix constant t) (λ op. Eat (suc d) (λ K. One (Operand constant) (suc d) ∷ K)) (primary_step constant d t)

abbrev pub one_step : Item → ℕ → Class → Move
one_step (Operand constant) d t = operand_step constant d t
one_step LeafBody d t = if same t (c.Sign g.BraceOpen) then Eat (suc d) (λ K. Many LeafStmt Any (suc d) ∷ Token d (This (c.Sign g.BraceClose)) ∷ K)
    else (if begins_leaf_stmt t then Eat (suc d) (λ K. leaf_stmt_rest (suc d) t K) else Stop)
one_step x d t = if begins x t then eat (rest x d t) else Stop

abbrev pub many_step : Item → Option Count → ℕ → Class → Move
many_step x None d t = Skip
many_step x (Some left) d t = if begins x t then Eat (rest x d t).0 (λ K. (rest x d t).1 (Many x left d ∷ K)) else Skip

abbrev pub after_step : Turn → ℕ → Class → Move
after_step (AfterTunable inner) d (c.Sign g.BracketOpen) = if inner then Eat (suc d) (λ K. Token d (This (c.Sign g.BracketClose)) ∷ Token d (This (c.Sign g.Semi)) ∷ K) else Stop
after_step (AfterTunable inner) d (c.Sign g.Comma) = Eat d (λ K. Token d AWord ∷ Many (Next Tunable) Any d ∷ Token d (This (c.Sign g.Semi)) ∷ K)
after_step (AfterTunable inner) d (c.Sign g.Semi) = Eat d (λ K. K)
after_step AfterSet d (c.Key k.Rchop) = Eat d (λ K. Token (suc d) (This (c.Sign g.ParenOpen)) ∷ Token (suc d) AWord ∷ Token (suc d) (This (c.Sign g.Comma))
    ∷ expr true (suc d) (Many (Next (Chain true 2)) Any (suc d) ∷ Token d (This (c.Sign g.ParenClose)) ∷ Token d (This (c.Sign g.Semi)) ∷ K))
after_step AfterSet d (c.Key k.Ichop) = Eat d (λ K. Token (suc d) (This (c.Sign g.ParenOpen)) ∷ Token (suc d) AWord ∷ Token (suc d) (This (c.Sign g.Comma)) ∷ Token (suc d) AWord
    ∷ Token (suc d) (This (c.Sign g.Comma)) ∷ Token (suc d) AWord ∷ Token d (This (c.Sign g.ParenClose)) ∷ Token d (This (c.Sign g.Semi)) ∷ K)
after_step AfterPath d (c.Key k.Inner) = Eat d (λ K. owe (Listed Param) d (Token (suc d) (This (c.Sign g.BraceOpen)) ∷ Many (Decl true) Any (suc d) ∷ Many Stmt Any (suc d)
    ∷ Token d (This (c.Sign g.BraceClose)) ∷ K))
after_step AfterPath d (c.Key k.Leaf) = Eat d (λ K. owe (Listed Param) d (Token (suc d) (This (c.Sign g.BraceOpen)) ∷ Many (Decl false) Any (suc d) ∷ Many LeafStmt Any (suc d)
    ∷ Token d (This (c.Sign g.BraceClose)) ∷ K))
after_step _ d t = Stop

abbrev pub step : Owed → Symbol → Move
step (Token d x) t = if allows x t then Eat d (λ K. K) else Stop
step (One x d) t = one_step x d (class_at t)
step (Many x most d) t = many_step x (fewer most) d (class_at t)
step (After x d) t = after_step x d (class_at t)

-- the level at which the token is read, and what is owed then
abbrev pub moved : Move → List Owed → Option (ℕ × List Owed) → Option (ℕ × List Owed)
moved (Eat d f) K later = Some (d, f K)
moved Skip K later = later
moved Stop K later = None

abbrev pub settle : List Owed → Symbol → Option (ℕ × List Owed)
settle [] t = None
settle (o ∷ K) t = moved (step o t) K (settle K t)

abbrev pub Verdict : Type 0
Verdict = Result (Unit {0}) ParseError

-- where no token is left
abbrev pub at_end : Move → Verdict → Verdict
at_end (Eat d f) later = Err (Syntax 0)
at_end Skip later = later
at_end Stop later = Err (Syntax 0)

abbrev pub ended : List Owed → Verdict
ended [] = Ok tt
ended (o ∷ K) = at_end (step o (Last nowhere)) (ended K)

abbrev pub found : ℕ → Option (ℕ × List Owed) → ℕ → (List Owed → Verdict) → Verdict
found most None left go = Err (Syntax left)
found most (Some p) left go = if leb p.0 most then go p.1 else Err (TooDeep left)

-- reads all tokens, with so many levels at most
abbrev pub run : ℕ → List Symbol → List Owed → Verdict
run most [] K = ended K
run most (t ∷ ts) K = found most (settle K t) (length (t ∷ ts)) (run most ts)

-- the tokens with their levels
abbrev pub labeled : Symbol → Option (ℕ × List Owed) → (List Owed → List Leveled) → List Leveled
labeled t None go = at t 0 ∷ go []
labeled t (Some p) go = at t p.0 ∷ go p.1

abbrev pub label : List Symbol → List Owed → List Leveled
label [] K = []
label (t ∷ ts) K = labeled t (settle K t) (label ts)

abbrev pub start : List Owed
start = Many Task Any 0 ∷ Token 0 (This c.End) ∷ []
