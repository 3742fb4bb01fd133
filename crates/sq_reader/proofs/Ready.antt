-- Whatever is owed can be given: the tokens before a place begin a text.
use Rattle.std.proofs.Common.{◌≡◌, ℕ, zero, suc, pos, ◌+◌, ◌≤◌, Bool, true, false, if◌then◌else◌, List, [], ◌∷◌, length, Option, Some, None, Ok, refl, sym, ◌∙◌, ap, subst, arith, ◌⊎◌, inl, inr}
use Rattle.sq_text.specs.declared.place.Place.{Place}
use Rattle.sq_lexer.specs.declared.token.Sign.TheVariants as g
use Rattle.sq_ast.specs.declared.keyword.Keyword.TheVariants as k
use Rattle.sq_ast.specs.declared.class.Class.{Class}
use Rattle.sq_ast.specs.declared.class.Class.TheVariants as c
use Rattle.sq_ast.specs.declared.expr.UnOp.{UnOp}
use Rattle.sq_ast.specs.Symbols.{Symbol, Word, Number, Key, Mark, Last, class_at}
use Rattle.sq_ast.specs.Grammar.{if_some, prefix, levels, class, Item, Operand, Chain, Link, Index, Listed, Next, Extent, Param, Tunable, Decl, Task, Arg, Call, Range, Stmt, LeafStmt, LeafBody, Alternative, Count, Any, fewer}
use Rattle.sq_reader.specs.Reading.{nowhere, is_comma}
use Rattle.sq_reader.proofs.Machine.{Sort, This, AWord, AMode, AnElem, ARedOp, AnAssign, AnExtent, Zero, allows, Turn, AfterTunable, AfterSet, AfterPath, Owed, Token, One, Many, After, Eat, Skip, Stop, eat, tails, owe, expr, begins, rest, stmt_rest, leaf_stmt_rest, decl_rest, task_rest, primary_step, one_step, many_step, after_step, step, moved, settle, at_end, ended, found, run, start}
use Rattle.sq_reader.proofs.Steps.{fixed_at}
use Rattle.sq_reader.proofs.Readings.{fits, skips_run}
use Rattle.sq_reader.proofs.Runs.{Reaches, here, reads}

-- ---- what can be owed

abbrev pub level_of : Owed → ℕ
level_of (Token d x) = d
level_of (One x d) = d
level_of (Many x most d) = d
level_of (After x d) = d

-- what stands in lists
abbrev pub Listable : Item → Type 0
Listable (Chain constant n) = Unit {0}
Listable Param = Unit {0}
Listable Tunable = Unit {0}
Listable Arg = Unit {0}
Listable Range = Unit {0}
Listable _ = ⊥

-- what is owed any number of times
abbrev pub Looped : Item → Type 0
Looped (Link constant n) = Unit {0}
Looped (Index constant) = Unit {0}
Looped (Next x) = Listable x
Looped Extent = Unit {0}
Looped (Decl inner) = Unit {0}
Looped Task = Unit {0}
Looped Stmt = Unit {0}
Looped LeafStmt = Unit {0}
Looped Alternative = Unit {0}
Looped _ = ⊥

-- what is owed once
abbrev pub Owable : Item → Type 0
Owable (Operand constant) = Unit {0}
Owable (Index constant) = Unit {0}
Owable Extent = Unit {0}
Owable LeafBody = Unit {0}
Owable _ = ⊥

abbrev pub IsPhrase : Owed → Type 0
IsPhrase (Token d x) = ⊥
IsPhrase (One x d) = Owable x
IsPhrase (Many x most d) = Looped x
IsPhrase (After x d) = Unit {0}

-- a token of each sort
abbrev pub sample : Sort → Symbol
sample (This a) = fixed_at nowhere a
sample AWord = Word nowhere (97 ∷ [])
sample AMode = Key nowhere k.In
sample AnElem = Key nowhere k.Byte
sample ARedOp = Mark nowhere g.Plus
sample AnAssign = Mark nowhere g.Set
sample AnExtent = Number nowhere (pos 0)
sample Zero = Number nowhere (pos 0)

-- short tokens that give what is owed
abbrev pub spelling : Owed → List Symbol → List Symbol
spelling (Token d x) later = sample x ∷ later
spelling (One (Operand constant) d) later = Number nowhere (pos 0) ∷ later
spelling (One (Index constant) d) later = Mark nowhere g.BracketOpen ∷ Number nowhere (pos 0) ∷ Mark nowhere g.BracketClose ∷ later
spelling (One Extent d) later = Mark nowhere g.BracketOpen ∷ Number nowhere (pos 0) ∷ Mark nowhere g.BracketClose ∷ later
spelling (One LeafBody d) later = Mark nowhere g.BraceOpen ∷ Mark nowhere g.BraceClose ∷ later
spelling (One _ d) later = later
spelling (Many x most d) later = later
spelling (After (AfterTunable inner) d) later = Mark nowhere g.Semi ∷ later
spelling (After AfterSet d) later = Key nowhere k.Ichop ∷ Mark nowhere g.ParenOpen ∷ sample AWord ∷ Mark nowhere g.Comma ∷ sample AWord ∷ Mark nowhere g.Comma ∷ sample AWord
    ∷ Mark nowhere g.ParenClose ∷ Mark nowhere g.Semi ∷ later
spelling (After AfterPath d) later = Key nowhere k.Leaf ∷ Mark nowhere g.ParenOpen ∷ Key nowhere k.In ∷ Key nowhere k.Byte ∷ sample AWord ∷ Mark nowhere g.BracketOpen ∷ Number nowhere (pos 0)
    ∷ Mark nowhere g.BracketClose ∷ Mark nowhere g.ParenClose ∷ Mark nowhere g.BraceOpen ∷ Mark nowhere g.BraceClose ∷ later

abbrev pub completion : List Owed → List Symbol
completion [] = []
completion (o ∷ K) = spelling o (completion K)

-- a token that ends a phrase
abbrev pub IsCloser : Class → Type 0
IsCloser (c.Sign g.ParenClose) = Unit {0}
IsCloser (c.Sign g.BracketClose) = Unit {0}
IsCloser (c.Sign g.BraceClose) = Unit {0}
IsCloser (c.Sign g.Comma) = Unit {0}
IsCloser (c.Sign g.Semi) = Unit {0}
IsCloser (c.Sign g.Set) = Unit {0}
IsCloser c.End = Unit {0}
IsCloser _ = ⊥

abbrev pub Closes : List Owed → Type 0
Closes K = IsCloser (class (completion K))

-- a comma closes no list, but goes on with it
abbrev pub ClosedAs : Item → Class → Type 0
ClosedAs (Next x) t = IsCloser t × (is_comma t ≡ false)
ClosedAs _ t = IsCloser t

abbrev pub Closed : Owed → List Owed → Type 0
Closed (Many x most d) K = ClosedAs x (class (completion K))
Closed _ K = Closes K

closer_of : (x : Item) (t : Class) → ClosedAs x t → IsCloser t
closer_of (Next x) t h = h.0
closer_of _ t h = h

closes_of : (o : Owed) (K : List Owed) → Closed o K → Closes K
closes_of (Many x most d) K h = closer_of x (class (completion K)) h
closes_of _ K h = h

-- what can be owed, with no more than so many levels
pub data Ready : ℕ → List Owed → Type 0 where
  last : {b : ℕ} → Ready b (Token 0 (This c.End) ∷ [])
  a_token : {b d : ℕ} {x : Sort} {K : List Owed} → ((p : Place) → allows x (Last p) ≡ false) → allows x (sample x) ≡ true → d ≤ b → Ready b K → Ready b (Token d x ∷ K)
  owes : {b : ℕ} {o : Owed} {K : List Owed} → IsPhrase o → level_of o ≤ b → Closed o K → Ready b K → Ready b (o ∷ K)

weaken : {a b : ℕ} {K : List Owed} → a ≤ b → Ready a K → Ready b K
weaken le last = last
weaken le (a_token e s h r) = a_token e s (omega arith) (weaken le r)
weaken le (owes p h c r) = owes p (omega arith) c (weaken le r)

-- ---- what is owed after a token

tails_close : (constant : Bool) (n d : ℕ) (K : List Owed) → Closes K → Closes (tails constant n d K)
tails_close constant zero d K cl = cl
tails_close constant (suc n) d K cl = tails_close constant n d (Many (Link constant n) Any d ∷ K) cl

tails_ready : (b : ℕ) (constant : Bool) (n d : ℕ) (K : List Owed) → d ≤ b → Closes K → Ready b K → Ready b (tails constant n d K)
tails_ready b constant zero d K le cl r = r
tails_ready b constant (suc n) d K le cl r = tails_ready b constant n d (Many (Link constant n) Any d ∷ K) le cl (owes tt le cl r)

chain_ready : (b : ℕ) (constant : Bool) (n d : ℕ) (K : List Owed) → d ≤ b → Closes K → Ready b K → Ready b (One (Operand constant) d ∷ tails constant n d K)
chain_ready b constant n d K le cl r = owes tt le (tails_close constant n d K cl) (tails_ready b constant n d K le cl r)

expr_ready : (b : ℕ) (constant : Bool) (d : ℕ) (K : List Owed) → d ≤ b → Closes K → Ready b K → Ready b (expr constant d K)
expr_ready b constant d K le cl r = chain_ready b constant (levels constant) d K le cl r

token : {b d : ℕ} (x : Sort) {K : List Owed} → ((p : Place) → allows x (Last p) ≡ false) → allows x (sample x) ≡ true → d ≤ b → Ready b K → Ready b (Token d x ∷ K)
token x e s le r = a_token e s le r

item_ready : (b d : ℕ) (x : Item) (K : List Owed) → Listable x → d ≤ b → Closes K → Ready b K → Ready b (owe x d K)
item_ready b d (Chain constant n) K h le cl r = chain_ready b constant n d K le cl r
item_ready b d Param K h le cl r = token AMode (λ p. refl) refl le (token AnElem (λ p. refl) refl le (token AWord (λ p. refl) refl le (owes tt le cl (owes tt le cl r))))
item_ready b d Tunable K h le cl r = token AWord (λ p. refl) refl le r
item_ready b d Arg K h le cl r = token AWord (λ p. refl) refl le (owes tt le cl r)
item_ready b d Range K h le cl r = token (This (c.Key k.Int)) (λ p. refl) refl le (token AWord (λ p. refl) refl le (token (This (c.Sign g.Set)) (λ p. refl) refl le
    (token Zero (λ p. refl) refl le (token (This (c.Key k.To)) (λ p. refl) refl le (chain_ready b true 2 d K le cl r)))))
item_ready b d _ K h le cl r = absurd h

list_ready : (b d : ℕ) (x : Item) (K : List Owed) → Listable x → suc d ≤ b → Ready b K → Ready b (owe (Listed x) d K)
list_ready b d x K h le r = token (This (c.Sign g.ParenOpen)) (λ p. refl) refl le
    (item_ready b (suc d) x (Many (Next x) Any (suc d) ∷ Token d (This (c.Sign g.ParenClose)) ∷ K) h le tt (owes h le (tt, refl) (token (This (c.Sign g.ParenClose)) (λ p. refl) refl (omega arith) r)))

call_ready : (b d : ℕ) (K : List Owed) → suc d ≤ b → Ready b K → Ready b (owe Call d K)
call_ready b d K le r = token AWord (λ p. refl) refl (omega arith) (list_ready b d Arg K tt le r)

stmt_ready : (b d : ℕ) (t : Class) (K : List Owed) → suc (suc d) ≤ b → Closes K → Ready b K → Ready b (stmt_rest d t K)
stmt_ready b d c.Word K le cl r = list_ready b d Arg (Token d (This (c.Sign g.Semi)) ∷ K) tt (omega arith) (token (This (c.Sign g.Semi)) (λ p. refl) refl (omega arith) r)
stmt_ready b d (c.Key k.Mapreduce) K le cl r = list_ready b d Range _ tt (omega arith) (token (This (c.Key k.Reduce)) (λ p. refl) refl (omega arith) (token (This (c.Sign g.ParenOpen)) (λ p. refl) refl (omega arith)
    (token ARedOp (λ p. refl) refl (omega arith) (token (This (c.Sign g.Comma)) (λ p. refl) refl (omega arith) (token AWord (λ p. refl) refl (omega arith) (token (This (c.Sign g.ParenClose)) (λ p. refl) refl (omega arith)
    (token (This (c.Sign g.BraceOpen)) (λ p. refl) refl (omega arith) (call_ready b (suc d) _ le (token (This (c.Sign g.Semi)) (λ p. refl) refl (omega arith) (token (This (c.Sign g.BraceClose)) (λ p. refl) refl (omega arith) r))))))))))
stmt_ready b d _ K le cl r = list_ready b d Range _ tt (omega arith) (token (This (c.Sign g.BraceOpen)) (λ p. refl) refl (omega arith) (owes tt (omega arith) tt (token (This (c.Sign g.BraceClose)) (λ p. refl) refl (omega arith) r)))

leaf_ready : (b d : ℕ) (t : Class) (K : List Owed) → suc (suc d) ≤ b → Closes K → Ready b K → Ready b (leaf_stmt_rest d t K)
leaf_ready b d c.Word K le cl r = owes tt (omega arith) tt (owes tt (omega arith) tt (token AnAssign (λ p. refl) refl (omega arith) (expr_ready b false d _ (omega arith) tt (token (This (c.Sign g.Semi)) (λ p. refl) refl (omega arith) r))))
leaf_ready b d (c.Key k.If) K le cl r = token (This (c.Sign g.ParenOpen)) (λ p. refl) refl (omega arith) (expr_ready b false (suc d) _ (omega arith) tt (token (This (c.Sign g.ParenClose)) (λ p. refl) refl (omega arith)
    (owes tt (omega arith) cl (owes tt (omega arith) cl r))))
leaf_ready b d _ K le cl r = token (This (c.Sign g.ParenOpen)) (λ p. refl) refl (omega arith) (token (This (c.Key k.Int)) (λ p. refl) refl (omega arith) (token AWord (λ p. refl) refl (omega arith)
    (token (This (c.Sign g.Set)) (λ p. refl) refl (omega arith) (expr_ready b false (suc d) _ (omega arith) tt (token (This (c.Sign g.Semi)) (λ p. refl) refl (omega arith) (token AWord (λ p. refl) refl (omega arith)
    (token (This (c.Sign g.Less)) (λ p. refl) refl (omega arith) (expr_ready b false (suc d) _ (omega arith) tt (token (This (c.Sign g.Semi)) (λ p. refl) refl (omega arith) (token AWord (λ p. refl) refl (omega arith)
    (token (This (c.Sign g.PlusPlus)) (λ p. refl) refl (omega arith) (token (This (c.Sign g.ParenClose)) (λ p. refl) refl (omega arith) (owes tt (omega arith) cl r)))))))))))))

decl_ready : (b : ℕ) (inner : Bool) (d : ℕ) (t : Class) (K : List Owed) → suc d ≤ b → Closes K → Ready b K → Ready b (decl_rest inner d t K)
decl_ready b inner d (c.Key k.Tunable) K le cl r = token (This (c.Key k.Int)) (λ p. refl) refl (omega arith) (token AWord (λ p. refl) refl (omega arith) (owes tt (omega arith) cl r))
decl_ready b inner d (c.Key k.Local) K le cl r = token AnElem (λ p. refl) refl (omega arith) (token AWord (λ p. refl) refl (omega arith) (owes tt (omega arith) tt (owes tt (omega arith) tt
    (token (This (c.Sign g.Semi)) (λ p. refl) refl (omega arith) r))))
decl_ready b inner d _ K le cl r = token AWord (λ p. refl) refl (omega arith) (token (This (c.Sign g.Set)) (λ p. refl) refl (omega arith) (owes tt (omega arith) cl r))

task_ready : (b d : ℕ) (t : Class) (K : List Owed) → d ≤ b → Closes K → Ready b K → Ready b (task_rest d t K)
task_ready b d (c.Key k.Void) K le cl r = token (This (c.Key k.Task)) (λ p. refl) refl le (token AWord (λ p. refl) refl le (token (This (c.Sign g.Path)) (λ p. refl) refl le (owes tt le cl r)))
task_ready b d _ K le cl r = token AWord (λ p. refl) refl le (token (This (c.Sign g.Path)) (λ p. refl) refl le (owes tt le cl r))

rest_ready : (b : ℕ) (x : Item) (d : ℕ) (t : Class) (K : List Owed) → Looped x → (rest x d t).0 + 4 ≤ b → Closes K → Ready b K → Ready b ((rest x d t).1 K)
rest_ready b (Link constant n) d t K h le cl r = chain_ready b constant n d K (omega arith) cl r
rest_ready b (Index constant) d t K h le cl r = expr_ready b constant (suc d) _ (omega arith) tt (token (This (c.Sign g.BracketClose)) (λ p. refl) refl (omega arith) r)
rest_ready b (Next x) d t K h le cl r = item_ready b d x K h (omega arith) cl r
rest_ready b Extent d t K h le cl r = token AnExtent (λ p. refl) refl (omega arith) (token (This (c.Sign g.BracketClose)) (λ p. refl) refl (omega arith) r)
rest_ready b (Decl inner) d t K h le cl r = decl_ready b inner d t K (omega arith) cl r
rest_ready b Task d t K h le cl r = task_ready b d t K (omega arith) cl r
rest_ready b Stmt d t K h le cl r = stmt_ready b d t K (omega arith) cl r
rest_ready b LeafStmt d t K h le cl r = leaf_ready b d t K (omega arith) cl r
rest_ready b Alternative d t K h le cl r = owes tt (omega arith) cl r
rest_ready b _ d t K h le cl r = absurd h

-- a token whose level is well below leaves what can be given
abbrev pub Leaves : ℕ → Option (ℕ × List Owed) → Type 0
Leaves b None = Unit {0}
Leaves b (Some p) = p.0 + 4 ≤ b → (p.1 ≡ []) ⊎ Ready b p.1

module _ (b : ℕ) (K : List Owed) (cl : Closes K) (r : Ready b K) (later : Option (ℕ × List Owed)) (h : Leaves b later) where
  begun_leaves : (x : Item) (d : ℕ) (t : Class) → Looped x → (s : Bool) → Leaves b (moved (if s then eat (rest x d t) else Stop) K later)
  begun_leaves x d t look true = λ le. inr (rest_ready b x d t K look le cl r)
  begun_leaves x d t look false = tt

  primary_leaves : (constant : Bool) (d : ℕ) (t : Class) → Leaves b (moved (primary_step constant d t) K later)
  primary_leaves constant d c.Number = λ le. inr r
  primary_leaves true d c.Word = λ le. inr r
  primary_leaves false d c.Word = λ le. inr (owes tt (omega arith) cl r)
  primary_leaves constant d (c.Sign g.ParenOpen) = λ le. inr (expr_ready b constant (suc d) _ (omega arith) tt (token (This (c.Sign g.ParenClose)) (λ p. refl) refl (omega arith) r))
  primary_leaves true d (c.Key k.Len) = λ le. inr (token (This (c.Sign g.ParenOpen)) (λ p. refl) refl (omega arith) (token AWord (λ p. refl) refl (omega arith) (token (This (c.Sign g.ParenClose)) (λ p. refl) refl (omega arith) r)))
  primary_leaves false d (c.Key k.Len) = tt
  primary_leaves true d (c.Key k.Min) = tt
  primary_leaves false d (c.Key k.Min) = λ le. inr (token (This (c.Sign g.ParenOpen)) (λ p. refl) refl (omega arith) (expr_ready b false (suc d) _ (omega arith) tt (token (This (c.Sign g.Comma)) (λ p. refl) refl (omega arith)
      (expr_ready b false (suc d) _ (omega arith) tt (token (This (c.Sign g.ParenClose)) (λ p. refl) refl (omega arith) r)))))
  primary_leaves true d (c.Key k.Max) = tt
  primary_leaves false d (c.Key k.Max) = λ le. inr (token (This (c.Sign g.ParenOpen)) (λ p. refl) refl (omega arith) (expr_ready b false (suc d) _ (omega arith) tt (token (This (c.Sign g.Comma)) (λ p. refl) refl (omega arith)
      (expr_ready b false (suc d) _ (omega arith) tt (token (This (c.Sign g.ParenClose)) (λ p. refl) refl (omega arith) r)))))
  primary_leaves constant d _ = tt

  operand_leaves : (constant : Bool) (d : ℕ) (t : Class) (o : Option UnOp) → Leaves b (moved (if_some o (λ op. Eat (suc d) (λ K. One (Operand constant) (suc d) ∷ K)) (primary_step constant d t)) K later)
  operand_leaves constant d t None = primary_leaves constant d t
  operand_leaves constant d t (Some op) = λ le. inr (owes tt (omega arith) cl r)

  body_leaves : (d : ℕ) (t : Class) (s e : Bool)
      → Leaves b (moved (if s then Eat (suc d) (λ K. Many LeafStmt Any (suc d) ∷ Token d (This (c.Sign g.BraceClose)) ∷ K) else (if e then Eat (suc d) (λ K. leaf_stmt_rest (suc d) t K) else Stop)) K later)
  body_leaves d t true e = λ le. inr (owes tt (omega arith) tt (token (This (c.Sign g.BraceClose)) (λ p. refl) refl (omega arith) r))
  body_leaves d t false true = λ le. inr (leaf_ready b (suc d) t K (omega arith) cl r)
  body_leaves d t false false = tt

  one_leaves : (x : Item) (d : ℕ) (t : Class) → Owable x → Leaves b (moved (one_step x d t) K later)
  one_leaves (Operand constant) d t look = operand_leaves constant d t (prefix constant t)
  one_leaves (Index constant) d t look = begun_leaves (Index constant) d t tt (begins (Index constant) t)
  one_leaves Extent d t look = begun_leaves Extent d t tt (begins Extent t)
  one_leaves LeafBody d t look = body_leaves d t _ _
  one_leaves _ d t look = absurd look

  many_begun : (x : Item) (left : Count) (d : ℕ) (t : Class) → Looped x → ClosedAs x (class (completion K)) → d ≤ b → (s : Bool)
      → Leaves b (moved (if s then Eat (rest x d t).0 (λ K. (rest x d t).1 (Many x left d ∷ K)) else Skip) K later)
  many_begun x left d t look own le true = λ deep. inr (rest_ready b x d t (Many x left d ∷ K) look deep cl (owes look le own r))
  many_begun x left d t look own le false = h

  many_leaves : (x : Item) (o : Option Count) (d : ℕ) (t : Class) → Looped x → ClosedAs x (class (completion K)) → d ≤ b → Leaves b (moved (many_step x o d t) K later)
  many_leaves x None d t look own le = h
  many_leaves x (Some left) d t look own le = many_begun x left d t look own le (begins x t)

  after_leaves : (x : Turn) (d : ℕ) (t : Class) → Leaves b (moved (after_step x d t) K later)
  after_leaves (AfterTunable true) d (c.Sign g.BracketOpen) = λ le. inr (token (This (c.Sign g.BracketClose)) (λ p. refl) refl (omega arith) (token (This (c.Sign g.Semi)) (λ p. refl) refl (omega arith) r))
  after_leaves (AfterTunable false) d (c.Sign g.BracketOpen) = tt
  after_leaves (AfterTunable inner) d (c.Sign g.Comma) = λ le. inr (token AWord (λ p. refl) refl (omega arith) (owes tt (omega arith) (tt, refl) (token (This (c.Sign g.Semi)) (λ p. refl) refl (omega arith) r)))
  after_leaves (AfterTunable inner) d (c.Sign g.Semi) = λ le. inr r
  after_leaves AfterSet d (c.Key k.Rchop) = λ le. inr (token (This (c.Sign g.ParenOpen)) (λ p. refl) refl (omega arith) (token AWord (λ p. refl) refl (omega arith) (token (This (c.Sign g.Comma)) (λ p. refl) refl (omega arith)
      (expr_ready b true (suc d) _ (omega arith) tt (owes tt (omega arith) (tt, refl) (token (This (c.Sign g.ParenClose)) (λ p. refl) refl (omega arith) (token (This (c.Sign g.Semi)) (λ p. refl) refl (omega arith) r)))))))
  after_leaves AfterSet d (c.Key k.Ichop) = λ le. inr (token (This (c.Sign g.ParenOpen)) (λ p. refl) refl (omega arith) (token AWord (λ p. refl) refl (omega arith) (token (This (c.Sign g.Comma)) (λ p. refl) refl (omega arith)
      (token AWord (λ p. refl) refl (omega arith) (token (This (c.Sign g.Comma)) (λ p. refl) refl (omega arith) (token AWord (λ p. refl) refl (omega arith) (token (This (c.Sign g.ParenClose)) (λ p. refl) refl (omega arith)
      (token (This (c.Sign g.Semi)) (λ p. refl) refl (omega arith) r))))))))
  after_leaves AfterPath d (c.Key k.Inner) = λ le. inr (list_ready b d Param _ tt (omega arith) (token (This (c.Sign g.BraceOpen)) (λ p. refl) refl (omega arith) (owes tt (omega arith) tt (owes tt (omega arith) tt
      (token (This (c.Sign g.BraceClose)) (λ p. refl) refl (omega arith) r)))))
  after_leaves AfterPath d (c.Key k.Leaf) = λ le. inr (list_ready b d Param _ tt (omega arith) (token (This (c.Sign g.BraceOpen)) (λ p. refl) refl (omega arith) (owes tt (omega arith) tt (owes tt (omega arith) tt
      (token (This (c.Sign g.BraceClose)) (λ p. refl) refl (omega arith) r)))))
  after_leaves _ d t = tt

  phrase_leaves : (o : Owed) (t : Symbol) → IsPhrase o → Closed o K → level_of o ≤ b → Leaves b (moved (step o t) K later)
  phrase_leaves (Token d x) t p own le = absurd p
  phrase_leaves (One x d) t p own le = one_leaves x d (class_at t) p
  phrase_leaves (Many x most d) t p own le = many_leaves x (fewer most) d (class_at t) p own le
  phrase_leaves (After x d) t p own le = after_leaves x d (class_at t)

token_leaves : (b : ℕ) (s : Bool) (d : ℕ) (K : List Owed) (later : Option (ℕ × List Owed)) → ((K ≡ []) ⊎ Ready b K) → Leaves b (moved (if s then Eat d (λ K. K) else Stop) K later)
token_leaves b true d K later h = λ le. h
token_leaves b false d K later h = tt

pub settle_leaves : {b : ℕ} {K : List Owed} → Ready b K → (t : Symbol) → Leaves b (settle K t)
settle_leaves {b = b} last t = token_leaves b (allows (This c.End) t) 0 [] None (inl refl)
settle_leaves {b = b} (a_token {x = x} {K = K} e s h r) t = token_leaves b (allows x t) _ K (settle K t) (inr r)
settle_leaves {b = b} (owes {o = o} {K = K} p h cl r) t = phrase_leaves b K (closes_of o K cl) r (settle K t) (settle_leaves r t) o t p cl h

-- ---- the completion is taken

token_taken : (most d : ℕ) (x : Sort) (t : Symbol) (ts : List Symbol) (K : List Owed) → allows x t ≡ true → d ≤ most → run most (t ∷ ts) (Token d x ∷ K) ≡ run most ts K
token_taken most d x t ts K e le = ap (λ b. found most (moved (if b then Eat d (λ K. K) else Stop) K (settle K t)) (length (t ∷ ts)) (run most ts)) e ∙ fits d most (run most ts K) _ le

paren_begins : (x : Item) → begins x (c.Sign g.ParenClose) ≡ false
paren_begins (Link constant n) = refl
paren_begins _ = refl

bracket_begins : (x : Item) → begins x (c.Sign g.BracketClose) ≡ false
bracket_begins (Link constant n) = refl
bracket_begins _ = refl

brace_begins : (x : Item) → begins x (c.Sign g.BraceClose) ≡ false
brace_begins (Link constant n) = refl
brace_begins _ = refl

semi_begins : (x : Item) → begins x (c.Sign g.Semi) ≡ false
semi_begins (Link constant n) = refl
semi_begins _ = refl

set_begins : (x : Item) → begins x (c.Sign g.Set) ≡ false
set_begins (Link constant n) = refl
set_begins _ = refl

end_begins : (x : Item) → begins x c.End ≡ false
end_begins (Link constant n) = refl
end_begins _ = refl

abbrev IsNext : Item → Type 0
IsNext (Next x) = Unit {0}
IsNext _ = ⊥

comma_begins : (x : Item) → (IsNext x → ⊥) → begins x (c.Sign g.Comma) ≡ false
comma_begins (Next x) other = absurd (other tt)
comma_begins _ other = refl

closer_begins : (x : Item) → (IsNext x → ⊥) → (t : Class) → IsCloser t → begins x t ≡ false
closer_begins x other (c.Sign g.ParenClose) h = paren_begins x
closer_begins x other (c.Sign g.BracketClose) h = bracket_begins x
closer_begins x other (c.Sign g.BraceClose) h = brace_begins x
closer_begins x other (c.Sign g.Comma) h = comma_begins x other
closer_begins x other (c.Sign g.Semi) h = semi_begins x
closer_begins x other (c.Sign g.Set) h = set_begins x
closer_begins x other c.End h = end_begins x
closer_begins x other _ h = absurd h

not_begun : (x : Item) (t : Class) → ClosedAs x t → begins x t ≡ false
not_begun (Next x) t h = h.1
not_begun x t h = closer_begins x (λ f. f) t h

empty_many : (most : ℕ) (x : Item) (k : Count) (d : ℕ) (ts : List Symbol) (K : List Owed) → begins x (class ts) ≡ false → run most ts (Many x k d ∷ K) ≡ run most ts K
empty_many most x k d [] K e = at_last (fewer k)
  where
    at_last : (o : Option Count) → at_end (many_step x o d c.End) (ended K) ≡ ended K
    at_last None = refl
    at_last (Some left) = ap (λ b. at_end (if b then Eat (rest x d c.End).0 (λ K. (rest x d c.End).1 (Many x left d ∷ K)) else Skip) (ended K)) e
empty_many most x k d (t ∷ ts) K e = skips_run most x k d t ts K e

one_taken : (most : ℕ) (x : Item) (d : ℕ) (ts : List Symbol) (K : List Owed) → Owable x → suc (suc d) ≤ most → run most (spelling (One x d) ts) (One x d ∷ K) ≡ run most ts K
one_taken most (Operand constant) d ts K h le = fits d most _ _ (omega arith)
one_taken most (Index true) d ts K h le = fits (suc d) most _ _ (omega arith) ∙ fits (suc d) most _ _ (omega arith) ∙ fits d most _ _ (omega arith)
one_taken most (Index false) d ts K h le = fits (suc d) most _ _ (omega arith) ∙ fits (suc d) most _ _ (omega arith) ∙ fits d most _ _ (omega arith)
one_taken most Extent d ts K h le = fits (suc d) most _ _ (omega arith) ∙ fits (suc d) most _ _ (omega arith) ∙ fits d most _ _ (omega arith)
one_taken most LeafBody d ts K h le = fits (suc d) most _ _ (omega arith) ∙ fits d most _ _ (omega arith)
one_taken most _ d ts K h le = absurd h

after_taken : (most : ℕ) (x : Turn) (d : ℕ) (ts : List Symbol) (K : List Owed) → suc (suc d) ≤ most → run most (spelling (After x d) ts) (After x d ∷ K) ≡ run most ts K
after_taken most (AfterTunable inner) d ts K le = fits d most _ _ (omega arith)
after_taken most AfterSet d ts K le = fits d most _ _ (omega arith) ∙ fits (suc d) most _ _ (omega arith) ∙ fits (suc d) most _ _ (omega arith) ∙ fits (suc d) most _ _ (omega arith)
    ∙ fits (suc d) most _ _ (omega arith) ∙ fits (suc d) most _ _ (omega arith) ∙ fits (suc d) most _ _ (omega arith) ∙ fits d most _ _ (omega arith) ∙ fits d most _ _ (omega arith)
after_taken most AfterPath d ts K le = fits d most _ _ (omega arith) ∙ fits (suc d) most _ _ (omega arith) ∙ fits (suc d) most _ _ (omega arith) ∙ fits (suc d) most _ _ (omega arith)
    ∙ fits (suc d) most _ _ (omega arith) ∙ fits (suc (suc d)) most _ _ (omega arith) ∙ fits (suc (suc d)) most _ _ (omega arith) ∙ fits (suc d) most _ _ (omega arith)
    ∙ fits d most _ _ (omega arith) ∙ fits (suc d) most _ _ (omega arith) ∙ fits d most _ _ (omega arith)

phrase_taken : (most : ℕ) (o : Owed) (ts : List Symbol) (K : List Owed) → IsPhrase o → level_of o + 2 ≤ most → ((x : Item) (k : Count) (d : ℕ) → o ≡ Many x k d → begins x (class ts) ≡ false)
    → run most (spelling o ts) (o ∷ K) ≡ run most ts K
phrase_taken most (Token d x) ts K p le q = absurd p
phrase_taken most (One x d) ts K p le q = one_taken most x d ts K p (omega arith)
phrase_taken most (Many x k d) ts K p le q = empty_many most x k d ts K (q x k d refl)
phrase_taken most (After x d) ts K p le q = after_taken most x d ts K (omega arith)

pub completed : {b : ℕ} {K : List Owed} (most : ℕ) → Ready b K → b + 2 ≤ most → run most (completion K) K ≡ Ok tt
completed most last le = fits 0 most _ _ (omega arith)
completed most (a_token {d = d} {x = x} {K = K} e s h r) le = token_taken most d x (sample x) (completion K) K s (omega arith) ∙ completed most r le
completed most (owes {o = o} {K = K} p h cl r) le = phrase_taken most o (completion K) K p (omega arith) (stops o K cl) ∙ completed most r le
  where
    stops : (o : Owed) (K : List Owed) → Closed o K → (x : Item) (k : Count) (d : ℕ) → o ≡ Many x k d → begins x (class (completion K)) ≡ false
    stops o K cl x k d e = not_begun x (class (completion K)) (subst (λ o. Closed o K) e cl)

-- ---- beginnings

pub start_ready : (b : ℕ) → Ready b start
start_ready b = owes tt (omega arith) tt last

-- what is owed after a beginning
settled : (b d : ℕ) (o : Option (ℕ × List Owed)) (L : List Owed) → Leaves b o → o ≡ Some (d, L) → d + 4 ≤ b → (L ≡ []) ⊎ Ready b L
settled b d o L h e le = (subst (Leaves b) e h) le

reached_nothing : {most : ℕ} {ts : List Symbol} {K L : List Owed} → K ≡ [] → Reaches most ts K L → L ≡ []
reached_nothing n here = n
reached_nothing n (reads {d = d} {t = t} {L = L} e le r) = let nothing : ◌≡◌ {A = Option (ℕ × List Owed)} None (Some (d, L)) = sym (ap (λ K. settle K t) n) ∙ e in absurd (cc)

pub reached : {most : ℕ} {ts : List Symbol} {K L : List Owed} → ((K ≡ []) ⊎ Ready (most + 4) K) → Reaches most ts K L → (L ≡ []) ⊎ Ready (most + 4) L
reached h here = h
reached (inl n) (reads e le r) = inl (reached_nothing n (reads e le r))
reached (inr h) (reads {most = most} {d = d} {t = t} {K = K} {L = L} e le r) = reached (settled (most + 4) d (settle K t) L (settle_leaves h t) e (omega arith)) r

-- only the end is read last
end_token : (s : Bool) (d : ℕ) (K : List Owed) (later : Option (ℕ × List Owed)) (L : List Owed) (e : ℕ) → s ≡ false → moved (if s then Eat d (λ K. K) else Stop) K later ≡ Some (e, L) → L ≡ []
end_token true d K later L e apart q = absurd (cc)
end_token false d K later L e apart q = absurd (cc)

end_one : (x : Item) (e : ℕ) (K L : List Owed) (d : ℕ) (later : Option (ℕ × List Owed)) → Owable x → moved (one_step x e c.End) K later ≡ Some (d, L) → L ≡ []
end_one (Operand constant) e K L d later h q = absurd (cc)
end_one (Index constant) e K L d later h q = absurd (cc)
end_one Extent e K L d later h q = absurd (cc)
end_one LeafBody e K L d later h q = absurd (cc)
end_one _ e K L d later h q = absurd h

end_after : (x : Turn) (e : ℕ) (K L : List Owed) (d : ℕ) (later : Option (ℕ × List Owed)) → moved (after_step x e c.End) K later ≡ Some (d, L) → L ≡ []
end_after (AfterTunable inner) e K L d later q = absurd (cc)
end_after AfterSet e K L d later q = absurd (cc)
end_after AfterPath e K L d later q = absurd (cc)

end_many : (x : Item) (o : Option Count) (e : ℕ) (K L : List Owed) (d : ℕ) (later : Option (ℕ × List Owed)) → (later ≡ Some (d, L) → L ≡ []) → moved (many_step x o e c.End) K later ≡ Some (d, L) → L ≡ []
end_many x None e K L d later h q = h q
end_many x (Some left) e K L d later h q = h (sym (ap (λ b. moved (if b then Eat (rest x e c.End).0 (λ K. (rest x e c.End).1 (Many x left e ∷ K)) else Skip) K later) (end_begins x)) ∙ q)

end_phrase : (p : Place) (o : Owed) (K L : List Owed) (d : ℕ) → IsPhrase o → (settle K (Last p) ≡ Some (d, L) → L ≡ []) → settle (o ∷ K) (Last p) ≡ Some (d, L) → L ≡ []
end_phrase p (Token e x) K L d h again q = absurd h
end_phrase p (One x e) K L d h again q = end_one x e K L d (settle K (Last p)) h q
end_phrase p (Many x k e) K L d h again q = end_many x (fewer k) e K L d (settle K (Last p)) again q
end_phrase p (After x e) K L d h again q = end_after x e K L d (settle K (Last p)) q

abbrev owed_of : Option (ℕ × List Owed) → List Owed
owed_of None = []
owed_of (Some p) = p.1

pub end_ends : {b : ℕ} {K : List Owed} (p : Place) (L : List Owed) (d : ℕ) → Ready b K → settle K (Last p) ≡ Some (d, L) → L ≡ []
end_ends p L d last q = sym (ap owed_of q)
end_ends p L d (a_token {d = e} {x = x} {K = K} apart s h r) q = end_token (allows x (Last p)) e K (settle K (Last p)) L d (apart p) q
end_ends p L d (owes {o = o} {K = K} h le cl r) q = end_phrase p o K L d h (λ q. end_ends p L d r q) q
