-- What the parser gives, as a function on lists of symbols. No public clause speaks of it.
use Rattle.std.specs.Prelude.{◌≡◌, ◌≢◌, ℕ, zero, suc, ℤ, pos, negsuc, ◌==◌, ◌&&◌, Bool, true, false, if◌then◌else◌, List, [], ◌∷◌, ◌++◌, length, Option, Some, None, Result, Ok, Err}
use denote.Enum.Bare.{sameb}
use Rattle.sq_text.specs.declared.place.Place.{Place}
use Rattle.sq_lexer.specs.declared.token.Token.{Token}
use Rattle.sq_lexer.specs.declared.token.Kind.{Kind}
use Rattle.sq_lexer.specs.declared.token.Kind.TheVariants as t
use Rattle.sq_lexer.specs.declared.token.Sign.{Sign}
use Rattle.sq_lexer.specs.declared.token.Sign.TheVariants as g
use Rattle.sq_lexer.specs.contracts.token.Sign as sign
use Rattle.sq_ast.specs.declared.keyword.Keyword.{Keyword}
use Rattle.sq_ast.specs.declared.keyword.Keyword.TheVariants as k
use Rattle.sq_ast.specs.contracts.keyword.Keyword as keyword
use Rattle.sq_ast.specs.declared.class.Class.{Class}
use Rattle.sq_ast.specs.declared.class.Class.TheVariants as c
use Rattle.sq_text.specs.declared.word.Word as tree
use Rattle.sq_ast.specs.declared.expr.ArgUse.{ArgUse}
use Rattle.sq_ast.specs.declared.expr.UnOp.{UnOp}
use Rattle.sq_ast.specs.declared.expr.Expr.{Expr}
use Rattle.sq_ast.specs.declared.expr.Expr.TheVariants as e
use Rattle.sq_ast.specs.declared.expr.Link.{Link}
use Rattle.sq_ast.specs.declared.LeafStmt.{LeafStmt}
use Rattle.sq_ast.specs.declared.LeafStmt.TheVariants as leafs
use Rattle.sq_ast.specs.declared.stmt.Call.{Call}
use Rattle.sq_ast.specs.declared.stmt.Range.{Range}
use Rattle.sq_ast.specs.declared.stmt.MapKind.{MapKind}
use Rattle.sq_ast.specs.declared.stmt.MapKind.TheVariants.{Reduce}
use Rattle.sq_ast.specs.declared.Stmt.{Stmt}
use Rattle.sq_ast.specs.declared.Stmt.TheVariants as s
use Rattle.sq_ast.specs.declared.program.Extent.{Extent}
use Rattle.sq_ast.specs.declared.program.Extent.TheVariants.{Size, Fixed}
use Rattle.sq_ast.specs.declared.program.Param.{Param}
use Rattle.sq_ast.specs.declared.program.Decl.{Decl}
use Rattle.sq_ast.specs.declared.program.Decl.TheVariants as declared
use Rattle.sq_ast.specs.declared.program.Variant.{Variant}
use Rattle.sq_ast.specs.declared.program.VariantKind.TheVariants as kinds
use Rattle.sq_ast.specs.declared.program.Body.TheVariants as bodies
use Rattle.sq_ast.specs.declared.program.Program.{Program}
use Rattle.sq_ast.specs.Symbols.{Symbol, Word, Number, keyword_of, symbols, class_at, place_at}
use Rattle.sq_ast.specs.Grammar.{if_some, operator, levels, prefix, mode_of, elem_of, map_of, reduction_of, assignment_of, word_of, link_of, chain_of, use_of, element, call_of, range_of, param_of, tunable_of, class}
use Rattle.sq_reader.specs.declared.error.ParseError.{ParseError}
use Rattle.sq_reader.specs.declared.error.ParseError.TheVariants.{OutOfMemory, Syntax, TooDeep}
use Rattle.sq_reader.specs.declared.start.Start.{Start}
use Rattle.sq_reader.specs.declared.start.Start.TheVariants as start

-- ---- the first symbol

abbrev pub same_sign : Sign → Sign → Bool
same_sign = sameb sign.the_type

abbrev pub same_keyword : Keyword → Keyword → Bool
same_keyword = sameb keyword.the_type

abbrev pub same : Class → Class → Bool
same c.Word c.Word = true
same c.Number c.Number = true
same (c.Key a) (c.Key b) = same_keyword a b
same (c.Sign a) (c.Sign b) = same_sign a b
same c.End c.End = true
same _ _ = false

abbrev pub class_of_word : Option Keyword → Class
class_of_word None = c.Word
class_of_word (Some k) = c.Key k

abbrev pub class_of : Kind → Class
class_of (t.Word w) = class_of_word (keyword_of w)
class_of (t.Number n) = c.Number
class_of (t.Sign s) = c.Sign s
class_of t.End = c.End

-- the first symbol is of this class
abbrev pub sees : Class → List Symbol → Bool
sees c [] = false
sees c (t ∷ ts) = same (class_at t) c

abbrev pub nowhere : Place
nowhere = record { line = 0; col = 0 }

abbrev pub place : List Symbol → Place
place [] = nowhere
place (t ∷ ts) = place_at t

abbrev pub number_at : Symbol → ℤ
number_at (Number p n) = n
number_at _ = pos 0

abbrev pub number : List Symbol → ℤ
number [] = pos 0
number (t ∷ ts) = number_at t

abbrev pub name_at : Symbol → List ℕ
name_at (Word p w) = w
name_at _ = []

abbrev pub name : List Symbol → List ℕ
name [] = []
name (t ∷ ts) = name_at t

abbrev pub word : List Symbol → tree.Word
word i = word_of (place i) (name i)

abbrev pub next : List Symbol → List Symbol
next [] = []
next (t ∷ ts) = ts

-- ---- parsers

abbrev pub Outcome : Type 0 → Type 0
Outcome A = Result (A × List Symbol) ParseError

abbrev pub Parser : Type 0 → Type 0
Parser A = List Symbol → Outcome A

abbrev pub and_then : {A B : Type 0} → Outcome A → (A → Parser B) → Outcome B
and_then (Ok p) f = f p.0 p.1
and_then (Err e) f = Err e

infixl 10 ◌>>=◌
abbrev pub ◌>>=◌ : {A B : Type 0} → Parser A → (A → Parser B) → Parser B
p >>= f = λ i. and_then (p i) f

infixl 10 ◌>>◌
abbrev pub ◌>>◌ : {A B : Type 0} → Parser A → Parser B → Parser B
p >> q = p >>= (λ _. q)

abbrev pub pure : {A : Type 0} → A → Parser A
pure a = λ i. Ok (a, i)

abbrev pub refuse : {A : Type 0} → Parser A
refuse = λ i. Err (Syntax (length i))

abbrev pub too_deep : {A : Type 0} → Parser A
too_deep = λ i. Err (TooDeep (length i))

abbrev pub take_token : Parser (Unit {0})
take_token = λ i. Ok (tt, next i)

abbrev pub expect : Class → Parser (Unit {0})
expect c = λ i. if sees c i then Ok (tt, next i) else Err (Syntax (length i))

abbrev pub word_by : Class → Parser tree.Word
word_by c.Word = λ i. Ok (word i, next i)
word_by _ = refuse

abbrev pub expect_word : Parser tree.Word
expect_word = λ i. word_by (class i) i

-- what the table gives for the first symbol
abbrev pub expect_some : {A : Type 0} → (Class → Option A) → Parser A
expect_some table = λ i. if_some (table (class i)) (λ a. Ok (a, next i)) (Err (Syntax (length i)))

abbrev pub is_zero : ℤ → Bool
is_zero (pos n) = n == 0
is_zero (negsuc n) = false

abbrev pub expect_zero : Parser (Unit {0})
expect_zero = λ i. if sees c.Number i && is_zero (number i) then Ok (tt, next i) else Err (Syntax (length i))

-- Takes the token that opens a level, and gives how many are left then.
abbrev pub deeper : ℕ → Parser ℕ
deeper zero = too_deep
deeper (suc n) = λ i. Ok (n, next i)

abbrev pub opening : Class → ℕ → Parser ℕ
opening c n = λ i. if sees c i then deeper n i else Err (Syntax (length i))

-- what a function that parses ensures: the parser's outcome, unless memory fails
abbrev pub Reads : {A : Type 0} → Outcome A → Result A ParseError → List Token → Type 0
Reads outcome (Ok a) new = outcome ≡ Ok (a, symbols new)
Reads outcome (Err e) new = e ≢ OutOfMemory → outcome ≡ Err e

-- Parts that begin so, one after another. The number bounds the turns; each turn takes a token, so the count of tokens
-- is enough.
unfoldable pub many_from : {A : Type 0} → (Class → Bool) → Parser A → ℕ → List A → Parser (List A)
many_from begins one zero found = pure found
many_from begins one (suc n) found = λ i. if begins (class i)
    then (do
      x ← one
      many_from begins one n (found ++ x ∷ [])) i
    else Ok (found, i)

unfoldable pub many_after : {A : Type 0} → (Class → Bool) → Parser A → List A → Parser (List A)
many_after begins one found = λ i. many_from begins one (length i) found i

-- what stands between two brackets, where `inner` takes the first
abbrev pub between : {A : Type 0} → Parser A → Class → Class → Parser A
between inner opening closing = λ i. if sees opening i then (do found ← inner; expect closing; pure found) i else Err (Syntax (length i))

abbrev pub is_comma : Class → Bool
is_comma t = same t (c.Sign g.Comma)

abbrev pub is_bracket : Class → Bool
is_bracket t = same t (c.Sign g.BracketOpen)

-- a part after its comma
abbrev pub after_comma : {A : Type 0} → Parser A → Parser A
after_comma one = take_token >> one

-- one or more between `(` and `)`, with commas; the part is read at the number of levels that are left
unfoldable pub listed : {A : Type 0} → (ℕ → Parser A) → ℕ → Parser (List A)
listed one n = do
  inside ← opening (c.Sign g.ParenOpen) n
  first ← one inside
  all ← many_after is_comma (take_token >> one inside) (first ∷ [])
  expect (c.Sign g.ParenClose)
  pure all

-- ---- expressions, and constants where the flag is set

abbrev pub some : {A : Type 0} → Option A → Bool
some (Some a) = true
some None = false

unfoldable pub link : ℕ → Parser Expr → Parser Link
link level operand = λ i. if_some (operator level (class i))
    (λ op. and_then (operand (next i)) (λ right j. Ok (link_of (place i) op right, j)))
    (Err (Syntax (length i)))

abbrev pub is_operator : ℕ → Class → Bool
is_operator level t = some (operator level t)

-- so many levels of operators above an operand
unfoldable pub level : Parser Expr → ℕ → Parser Expr
level operand zero = operand
level operand (suc n) = do
  first ← level operand n
  rest ← many_after (is_operator n) (link n (level operand n)) []
  pure (chain_of first rest)

abbrev pub index : Parser Expr → Parser Expr
index inner = between inner (c.Sign g.BracketOpen) (c.Sign g.BracketClose)

abbrev pub indices : Parser Expr → List Expr → Parser (List Expr)
indices inner found = many_after is_bracket (index inner) found

-- two expressions between brackets
unfoldable pub pair : Parser Expr → Parser Expr → Parser (Expr × Expr)
pair inner inside = λ i. if sees (c.Sign g.ParenOpen) i then (do
  first ← inner
  expect (c.Sign g.Comma)
  second ← inside
  expect (c.Sign g.ParenClose)
  pure (first, second)) i else Err (Syntax (length i))

unfoldable pub length_of : ℕ → Parser Expr
length_of n = do
  opening (c.Sign g.ParenOpen) n
  array ← expect_word
  expect (c.Sign g.ParenClose)
  pure (e.Len array)

abbrev pub start_of : Bool → Class → Start
start_of constant c.Number = start.Number
start_of constant c.Word = if constant then start.Name else start.Element
start_of constant (c.Sign g.ParenOpen) = start.Brackets
start_of constant (c.Key k.Len) = if constant then start.Length else start.Other
start_of constant (c.Key k.Min) = if constant then start.Other else start.Least
start_of constant (c.Key k.Max) = if constant then start.Other else start.Most
start_of constant _ = start.Other

abbrev pub least : Parser Expr → Parser Expr → Parser Expr
least inner inside = do xy ← pair inner inside; pure (e.Least xy.0 xy.1)

abbrev pub most : Parser Expr → Parser Expr → Parser Expr
most inner inside = do xy ← pair inner inside; pure (e.Most xy.0 xy.1)

abbrev pub primary_by : ℕ → Parser Expr → Parser Expr → Start → Parser Expr
primary_by n inner inside start.Number = λ i. Ok (e.Number (number i), next i)
primary_by n inner inside start.Name = expect_word >>= (λ w. pure (e.Name w))
primary_by n inner inside start.Element = do w ← expect_word; xs ← indices inner []; pure (element w xs)
primary_by n inner inside start.Brackets = between inner (c.Sign g.ParenOpen) (c.Sign g.ParenClose)
primary_by n inner inside start.Length = take_token >> length_of n
primary_by n inner inside start.Least = take_token >> least inner inside
primary_by n inner inside start.Most = take_token >> most inner inside
primary_by n inner inside start.Other = refuse

abbrev pub primary : Bool → ℕ → Parser Expr → Parser Expr → Parser Expr
primary constant n inner inside = λ i. primary_by n inner inside (start_of constant (class i)) i

abbrev pub unary : Parser Expr → UnOp → Parser Expr
unary negated op = λ i. and_then (negated i) (λ x j. Ok (e.Unary (place i) op x, j))

abbrev pub operand_by : Bool → ℕ → Parser Expr → Parser Expr → Parser Expr → Parser Expr
operand_by constant n inner inside negated = λ i. if_some (prefix constant (class i))
    (λ op. unary negated op i)
    (primary constant n inner inside i)

-- The number says how many levels of nesting are left.
unfoldable pub operand : Bool → ℕ → Parser Expr
operand constant zero = operand_by constant zero too_deep refuse too_deep
operand constant (suc n) = operand_by constant (suc n) (take_token >> level (operand constant n) (levels constant)) (level (operand constant n) (levels constant)) (take_token >> operand constant n)

abbrev pub expr : Bool → ℕ → Parser Expr
expr constant n = level (operand constant n) (levels constant)

-- one level deeper, from the token that opens it
unfoldable pub inner : Bool → ℕ → Parser Expr
inner constant zero = too_deep
inner constant (suc n) = take_token >> expr constant n

-- one level deeper, inside brackets that are open already
unfoldable pub inside : Bool → ℕ → Parser Expr
inside constant zero = refuse
inside constant (suc n) = expr constant n

unfoldable pub negated : Bool → ℕ → Parser Expr
negated constant zero = too_deep
negated constant (suc n) = take_token >> operand constant n

-- ---- statements of inner tasks

unfoldable pub argument : ℕ → Parser ArgUse
argument n = do
  array ← expect_word
  xs ← indices (inner true n) []
  pure (use_of array xs)

unfoldable pub call : ℕ → Parser Call
call n = do
  task ← expect_word
  args ← listed argument n
  pure (call_of task args)

unfoldable pub bound : ℕ → tree.Word → Parser Range
bound n variable = do
  expect (c.Sign g.Set)
  expect_zero
  expect (c.Key k.To)
  bound ← expr true n
  pure (range_of variable bound)

unfoldable pub range : ℕ → Parser Range
range n = do
  expect (c.Key k.Int)
  variable ← expect_word
  bound n variable

unfoldable pub reducer : Parser MapKind
reducer = do
  op ← expect_some reduction_of
  expect (c.Sign g.Comma)
  array ← expect_word
  expect (c.Sign g.ParenClose)
  pure (Reduce op array)

unfoldable pub reduced : ℕ → Parser MapKind
reduced n = do
  expect (c.Key k.Reduce)
  opening (c.Sign g.ParenOpen) n
  reducer

-- the one call of a reduction
unfoldable pub only_call : ℕ → Parser Call
only_call n = do
  inside ← opening (c.Sign g.BraceOpen) n
  only ← call inside
  expect (c.Sign g.Semi)
  expect (c.Sign g.BraceClose)
  pure only

unfoldable pub reduction : ℕ → Place → Parser Stmt
reduction n at = do
  ranges ← listed range n
  kind ← reduced n
  only ← only_call n
  pure (s.Map at kind ranges (s.Call only ∷ []))

unfoldable pub map_over : ℕ → Parser (List Stmt) → Place → MapKind → Parser Stmt
map_over n block at kind = do
  ranges ← listed range n
  body ← block
  pure (s.Map at kind ranges body)

unfoldable pub call_stmt : ℕ → Parser Stmt
call_stmt n = do
  x ← call n
  expect (c.Sign g.Semi)
  pure (s.Call x)

abbrev pub begins_stmt : Class → Bool
begins_stmt c.Word = true
begins_stmt (c.Key k.Mappar) = true
begins_stmt (c.Key k.Mapseq) = true
begins_stmt (c.Key k.Mapreduce) = true
begins_stmt _ = false

abbrev pub stmt_by : ℕ → Parser (List Stmt) → Parser Stmt
stmt_by n block = λ i. if_some (map_of (class i)) (λ kind. map_over n block (place i) kind (next i))
    (if sees (c.Key k.Mapreduce) i then reduction n (place i) (next i) else call_stmt n i)

abbrev pub braced : {A : Type 0} → Parser A → Parser A
braced inner = between inner (c.Sign g.BraceOpen) (c.Sign g.BraceClose)

unfoldable pub stmt : ℕ → Parser Stmt
stmt zero = stmt_by zero (braced too_deep)
stmt (suc n) = stmt_by (suc n) (braced (take_token >> many_after begins_stmt (stmt n) []))

unfoldable pub block : ℕ → Parser (List Stmt)
block zero = braced too_deep
block (suc n) = braced (take_token >> many_after begins_stmt (stmt n) [])

-- ---- statements of leaf tasks

unfoldable pub assigned : ℕ → ArgUse → Parser LeafStmt
assigned n target = do
  op ← expect_some assignment_of
  value ← expr false n
  expect (c.Sign g.Semi)
  pure (leafs.Assign target op value)

unfoldable pub assignment : ℕ → Parser LeafStmt
assignment n = do
  array ← expect_word
  x ← index (inner false n)
  xs ← indices (inner false n) (x ∷ [])
  assigned n (use_of array xs)

unfoldable pub otherwise : Parser (List LeafStmt) → Parser (List LeafStmt)
otherwise body = λ i. if sees (c.Key k.Else) i then (take_token >> body) i else Ok ([], i)

unfoldable pub choice : ℕ → Parser (List LeafStmt) → Place → Parser LeafStmt
choice n body at = do
  test ← between (inner false n) (c.Sign g.ParenOpen) (c.Sign g.ParenClose)
  then_do ← body
  else_do ← otherwise body
  pure (leafs.If at test then_do else_do)

-- a name and an expression, each after a token
unfoldable pub named : Class → Class → ℕ → Parser (tree.Word × Expr)
named before between n = do
  expect before
  name ← expect_word
  expect between
  value ← expr false n
  pure (name, value)

-- the end of a loop's head
unfoldable pub stepped : Parser tree.Word
stepped = do
  expect (c.Sign g.Semi)
  counter ← expect_word
  expect (c.Sign g.PlusPlus)
  expect (c.Sign g.ParenClose)
  pure counter

unfoldable pub counted : ℕ → Parser (List LeafStmt) → Parser LeafStmt
counted inside body = do
  first ← named (c.Key k.Int) (c.Sign g.Set) inside
  test ← named (c.Sign g.Semi) (c.Sign g.Less) inside
  step ← stepped
  turn ← body
  pure (leafs.For first.0 first.1 test.0 test.1 step turn)

abbrev pub begins_leaf_stmt : Class → Bool
begins_leaf_stmt c.Word = true
begins_leaf_stmt (c.Key k.If) = true
begins_leaf_stmt (c.Key k.For) = true
begins_leaf_stmt _ = false

abbrev pub leaf_stmt_by : ℕ → Parser (List LeafStmt) → Parser LeafStmt
leaf_stmt_by n body = λ i. if sees (c.Key k.If) i then choice n body (place i) (next i)
    else (if sees (c.Key k.For) i then (take_token >> (opening (c.Sign g.ParenOpen) n >>= (λ inside. counted inside body))) i
    else assignment n i)

-- a body, where no level is left
abbrev pub no_body : Parser (List LeafStmt)
no_body = λ i. if sees (c.Sign g.BraceOpen) i then Err (TooDeep (length i)) else (if begins_leaf_stmt (class i) then Err (TooDeep (length i)) else Err (Syntax (length i)))

abbrev pub bare : Parser LeafStmt → Parser (List LeafStmt)
bare one = do only ← one; pure (only ∷ [])

abbrev pub body_by : Parser LeafStmt → Parser (List LeafStmt)
body_by one = λ i. if sees (c.Sign g.BraceOpen) i then braced (take_token >> many_after begins_leaf_stmt one []) i else bare one i

unfoldable pub leaf_stmt : ℕ → Parser LeafStmt
leaf_stmt zero = leaf_stmt_by zero no_body
leaf_stmt (suc n) = leaf_stmt_by (suc n) (body_by (leaf_stmt n))

unfoldable pub body : ℕ → Parser (List LeafStmt)
body zero = no_body
body (suc n) = body_by (leaf_stmt n)

abbrev pub leaf_block : ℕ → Parser (List LeafStmt)
leaf_block n = braced (take_token >> many_after begins_leaf_stmt (leaf_stmt n) [])

-- ---- declarations

abbrev pub extent_by : Class → Parser Extent
extent_by c.Word = λ i. Ok (Size (place i) (name i), next i)
extent_by c.Number = λ i. Ok (Fixed (place i) (number i), next i)
extent_by _ = refuse

abbrev pub extent_value : Parser Extent
extent_value = λ i. extent_by (class i) i

unfoldable pub extent : ℕ → Parser Extent
extent n = do
  opening (c.Sign g.BracketOpen) n
  x ← extent_value
  expect (c.Sign g.BracketClose)
  pure x

unfoldable pub extents : ℕ → Parser (List Extent)
extents n = do
  x ← extent n
  many_from is_bracket (extent n) 2 (x ∷ [])

unfoldable pub param : ℕ → Parser Param
param n = do
  mode ← expect_some mode_of
  elem ← expect_some elem_of
  array ← expect_word
  xs ← extents n
  pure (param_of mode elem array xs)

unfoldable pub tunable : Parser Decl
tunable = do
  w ← expect_word
  pure (tunable_of w)

unfoldable pub tunables : tree.Word → Parser (List Decl)
tunables w = do
  all ← many_after is_comma (take_token >> tunable) (tunable_of w ∷ [])
  expect (c.Sign g.Semi)
  pure all

unfoldable pub tunable_list : ℕ → tree.Word → Parser (List Decl)
tunable_list n w = do
  opening (c.Sign g.BracketOpen) n
  expect (c.Sign g.BracketClose)
  expect (c.Sign g.Semi)
  pure (declared.List w.place w.name ∷ [])

unfoldable pub tunable_decl : Bool → ℕ → Parser (List Decl)
tunable_decl is_inner n = do
  expect (c.Key k.Int)
  w ← expect_word
  (λ i. if is_inner && is_bracket (class i) then tunable_list n w i else tunables w i)

unfoldable pub dims : ℕ → Parser (List Expr)
dims n = do
  x ← index (inner true n)
  many_from is_bracket (index (inner true n)) 2 (x ∷ [])

unfoldable pub local : ℕ → Parser (List Decl)
local n = do
  elem ← expect_some elem_of
  w ← expect_word
  xs ← dims n
  expect (c.Sign g.Semi)
  pure (declared.Local w.place elem w.name xs ∷ [])

unfoldable pub sizes : ℕ → Parser (List Expr)
sizes n = do
  x ← expr true n
  many_after is_comma (take_token >> expr true n) (x ∷ [])

-- after the word before a block set's brackets
unfoldable pub rchop : ℕ → tree.Word → Parser (List Decl)
rchop n w = do
  array ← expect_word
  expect (c.Sign g.Comma)
  xs ← sizes n
  expect (c.Sign g.ParenClose)
  pure (declared.Rchop w.place w.name array xs ∷ [])

unfoldable pub comma_word : Parser tree.Word
comma_word = expect (c.Sign g.Comma) >> expect_word

unfoldable pub ichop : tree.Word → Parser (List Decl)
ichop w = do
  array ← expect_word
  starts ← comma_word
  ends ← comma_word
  expect (c.Sign g.ParenClose)
  pure (declared.Ichop w.place w.name array starts ends ∷ [])

unfoldable pub chop : ℕ → tree.Word → Parser (List Decl)
chop n w = λ i. if sees (c.Key k.Rchop) i then (take_token >> (opening (c.Sign g.ParenOpen) n >>= (λ inside. rchop inside w))) i
    else (if sees (c.Key k.Ichop) i then (take_token >> (opening (c.Sign g.ParenOpen) n >>= (λ inside. ichop w))) i
    else Err (Syntax (length i)))

unfoldable pub blkset : ℕ → Parser (List Decl)
blkset n = do
  w ← expect_word
  expect (c.Sign g.Set)
  sets ← chop n w
  expect (c.Sign g.Semi)
  pure sets

abbrev pub begins_decl : Bool → Class → Bool
begins_decl is_inner (c.Key k.Tunable) = true
begins_decl is_inner (c.Key k.Local) = true
begins_decl is_inner (c.Key k.Blkset) = is_inner
begins_decl is_inner _ = false

unfoldable pub decl : Bool → ℕ → Parser (List Decl)
decl is_inner n = λ i. if sees (c.Key k.Tunable) i then (take_token >> tunable_decl is_inner n) i
    else (if sees (c.Key k.Local) i then (take_token >> local n) i
    else (if is_inner && sees (c.Key k.Blkset) i then (take_token >> blkset n) i
    else Err (Syntax (length i))))

-- Declarations one after another, as one list.
unfoldable pub joined_from : {A : Type 0} → (Class → Bool) → Parser (List A) → ℕ → List A → Parser (List A)
joined_from begins one zero found = pure found
joined_from begins one (suc n) found = λ i. if begins (class i)
    then (do
      xs ← one
      joined_from begins one n (found ++ xs)) i
    else Ok (found, i)

unfoldable pub decls : Bool → ℕ → Parser (List Decl)
decls is_inner n = λ i. joined_from (begins_decl is_inner) (decl is_inner n) (length i) [] i

-- ---- tasks

abbrev pub inner_variant : tree.Word → List Param → List Decl → List Stmt → Variant
inner_variant w ps ds xs = record { place = w.place; task = w.name; kind = kinds.Inner; params = ps; decls = ds; body = bodies.Inner xs }

abbrev pub leaf_variant : tree.Word → List Param → List Decl → List LeafStmt → Variant
leaf_variant w ps ds xs = record { place = w.place; task = w.name; kind = kinds.Leaf; params = ps; decls = ds; body = bodies.Leaf xs }

unfoldable pub inner_rest : ℕ → tree.Word → List Param → Parser Variant
inner_rest n w ps = do
  ds ← decls true n
  xs ← many_after begins_stmt (stmt n) []
  expect (c.Sign g.BraceClose)
  pure (inner_variant w ps ds xs)

unfoldable pub inner_task : ℕ → tree.Word → Parser Variant
inner_task n w = do
  ps ← listed param n
  inside ← opening (c.Sign g.BraceOpen) n
  inner_rest inside w ps

unfoldable pub leaf_rest : ℕ → tree.Word → List Param → Parser Variant
leaf_rest n w ps = do
  ds ← decls false n
  xs ← many_after begins_leaf_stmt (leaf_stmt n) []
  expect (c.Sign g.BraceClose)
  pure (leaf_variant w ps ds xs)

unfoldable pub leaf_task : ℕ → tree.Word → Parser Variant
leaf_task n w = do
  ps ← listed param n
  inside ← opening (c.Sign g.BraceOpen) n
  leaf_rest inside w ps

unfoldable pub variant : ℕ → tree.Word → Parser Variant
variant n w = λ i. if sees (c.Key k.Inner) i then (take_token >> inner_task n w) i
    else (if sees (c.Key k.Leaf) i then (take_token >> leaf_task n w) i
    else Err (Syntax (length i)))

-- from the word `task` on
unfoldable pub task_named : ℕ → Parser Variant
task_named n = do
  expect (c.Key k.Task)
  w ← expect_word
  expect (c.Sign g.Path)
  variant n w

unfoldable pub task : ℕ → Parser Variant
task n = λ i. if sees (c.Key k.Void) i then (take_token >> task_named n) i else task_named n i

-- a leaf alone, from the word `task` on
unfoldable pub leaf_named : ℕ → Parser Variant
leaf_named n = do
  expect (c.Key k.Task)
  w ← expect_word
  expect (c.Sign g.Path)
  expect (c.Key k.Leaf)
  leaf_task n w

unfoldable pub leaf : ℕ → Parser Variant
leaf n = λ i. if sees (c.Key k.Void) i then (take_token >> leaf_named n) i else leaf_named n i

abbrev pub begins_task : Class → Bool
begins_task (c.Key k.Void) = true
begins_task (c.Key k.Task) = true
begins_task _ = false

-- no token is left
abbrev pub finish : Parser (Unit {0})
finish [] = Ok (tt, [])
finish (t ∷ ts) = Err (Syntax (length (t ∷ ts)))

unfoldable pub program : ℕ → Parser Program
program n = do
  tasks ← many_after begins_task (task n) []
  expect c.End
  finish
  pure (record { tasks = tasks })
