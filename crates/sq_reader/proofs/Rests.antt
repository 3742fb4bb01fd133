-- What is left after a phrase: it is shorter, and has no more levels open; how a phrase begins, and what may follow it.
use Rattle.std.proofs.Common.{◌≡◌, ℕ, ◌≤◌, ◌<◌, Bool, true, false, if◌then◌else◌, eqb, List, length, Option, Some, None, refl, ◌∙◌, ap, arith, ◌⊎◌, inl, inr}
use Rattle.std.proofs.lemmas.Bool.{eqb-true}
use Rattle.std.proofs.lemmas.Bool.Decides.{eqb_tells}
use Rattle.sq_lexer.specs.declared.token.Sign.TheVariants as g
use Rattle.sq_ast.specs.declared.keyword.Keyword.TheVariants as k
use Rattle.sq_ast.specs.declared.class.Class.{Class}
use Rattle.sq_ast.specs.declared.class.Class.TheVariants as c
use Rattle.sq_ast.specs.declared.expr.BinOp.{BinOp}
use Rattle.sq_ast.specs.Symbols.{Symbol}
use Rattle.sq_ast.specs.Grammar.{if_some, at_level, operator, map_of, class, Item, Operand, Chain, Link, Index, Next, Extent, Param, Tunable, Decl, Task, Named, Arg, Call, Range, Stmt, LeafStmt, Alternative, Leveled, kinds, Phrase, One, Many, Within, Derives, no_more, one_more, a_list, a_next, a_void_task, a_task, an_inner, a_leaf, a_param, an_extent, tunables, a_tunable, a_local, a_tunable_list, an_rchop, an_ichop, a_call_stmt, a_map, a_reduction, a_range, a_call, an_arg, an_index, an_assignment, an_if, no_else, an_else, an_alternative, a_for, bare, braced, an_operand, a_chain, a_link, a_unary, a_number, a_name, an_element, a_length, brackets, the_least, the_most}
use Rattle.sq_reader.specs.Reading.{some, is_bracket, begins_stmt, begins_leaf_stmt, begins_decl}
use Rattle.sq_reader.proofs.Machine.{begins}
use Rattle.sq_reader.proofs.Steps.{same_class}

-- ---- what is left

abbrev pub Shorter : Phrase → List Leveled → List Leveled → Type 0
Shorter (One x d v) i j = length (kinds j) < length (kinds i)
Shorter _ i j = length (kinds j) ≤ length (kinds i)

pub shorter : {p : Phrase} {i j : List Leveled} → Derives p i j → Shorter p i j
shorter no_more = omega arith
shorter (one_more e r s) = omega (arith, shorter r, shorter s)
shorter (a_list r s) = omega (arith, shorter r, shorter s)
shorter (a_next r) = omega (arith, shorter r)
shorter (a_void_task r) = omega (arith, shorter r)
shorter (a_task r) = shorter r
shorter (an_inner r s u) = omega (arith, shorter r, shorter s, shorter u)
shorter (a_leaf r s u) = omega (arith, shorter r, shorter s, shorter u)
shorter (a_param e q r s) = omega (arith, shorter r, shorter s)
shorter (an_extent e) = omega arith
shorter (tunables r) = omega (arith, shorter r)
shorter a_tunable = omega arith
shorter (a_local e r s) = omega (arith, shorter r, shorter s)
shorter a_tunable_list = omega arith
shorter (an_rchop r s) = omega (arith, shorter r, shorter s)
shorter an_ichop = omega arith
shorter (a_call_stmt r) = omega (arith, shorter r)
shorter (a_map e r s) = omega (arith, shorter r, shorter s)
shorter (a_reduction r e s) = omega (arith, shorter r, shorter s)
shorter (a_range r) = omega (arith, shorter r)
shorter (a_call r) = omega (arith, shorter r)
shorter (an_arg r) = omega (arith, shorter r)
shorter (an_index r) = omega (arith, shorter r)
shorter (an_assignment r s e u) = omega (arith, shorter r, shorter s, shorter u)
shorter (an_if r s u) = omega (arith, shorter r, shorter s, shorter u)
shorter (no_else e) = omega arith
shorter (an_else r) = omega (arith, shorter r)
shorter (an_alternative r) = omega (arith, shorter r)
shorter (a_for r s u) = omega (arith, shorter r, shorter s, shorter u)
shorter (bare r) = shorter r
shorter (braced r) = omega (arith, shorter r)
shorter (an_operand r) = shorter r
shorter (a_chain r s) = omega (arith, shorter r, shorter s)
shorter (a_link e r) = omega (arith, shorter r)
shorter (a_unary e r) = omega (arith, shorter r)
shorter a_number = omega arith
shorter a_name = omega arith
shorter (an_element r) = omega (arith, shorter r)
shorter a_length = omega arith
shorter (brackets r) = omega (arith, shorter r)
shorter (the_least r s) = omega (arith, shorter r, shorter s)
shorter (the_most r s) = omega (arith, shorter r, shorter s)

pub within : {p : Phrase} {i j : List Leveled} (most : ℕ) → Derives p i j → Within most i → Within most j
within most no_more w = w
within most (one_more e r s) w = within most s (within most r w)
within most (a_list r s) w = (within most s (within most r w.1)).1
within most (a_next r) w = within most r w.1
within most (a_void_task r) w = within most r w.1
within most (a_task r) w = within most r w
within most (an_inner r s u) w = (within most u (within most s (within most r w.1.1.1.1).1)).1
within most (a_leaf r s u) w = (within most u (within most s (within most r w.1.1.1.1).1)).1
within most (a_param e q r s) w = within most s (within most r w.1.1.1)
within most (an_extent e) w = w.1.1.1
within most (tunables r) w = (within most r w.1.1.1).1
within most a_tunable w = w.1
within most (a_local e r s) w = (within most s (within most r w.1.1.1)).1
within most a_tunable_list w = w.1.1.1.1.1.1
within most (an_rchop r s) w = (within most s (within most r w.1.1.1.1.1.1.1)).1.1
within most an_ichop w = w.1.1.1.1.1.1.1.1.1.1.1.1
within most (a_call_stmt r) w = (within most r w).1
within most (a_map e r s) w = (within most s (within most r w.1).1).1
within most (a_reduction r e s) w = (within most s (within most r w.1).1.1.1.1.1.1.1).1.1
within most (a_range r) w = within most r w.1.1.1.1.1
within most (a_call r) w = within most r w.1
within most (an_arg r) w = within most r w.1
within most (an_index r) w = (within most r w.1).1
within most (an_assignment r s e u) w = (within most u (within most s (within most r w.1)).1).1
within most (an_if r s u) w = within most u (within most s (within most r w.1.1).1)
within most (no_else e) w = w
within most (an_else r) w = within most r w
within most (an_alternative r) w = within most r w.1
within most (a_for r s u) w = within most u (within most s (within most r w.1.1.1.1.1).1.1.1).1.1.1.1
within most (bare r) w = within most r w
within most (braced r) w = (within most r w.1).1
within most (an_operand r) w = within most r w
within most (a_chain r s) w = within most s (within most r w)
within most (a_link e r) w = within most r w.1
within most (a_unary e r) w = within most r w.1
within most a_number w = w.1
within most a_name w = w.1
within most (an_element r) w = within most r w.1
within most a_length w = w.1.1.1.1
within most (brackets r) w = (within most r w.1).1
within most (the_least r s) w = (within most s (within most r w.1.1).1).1
within most (the_most r s) w = (within most s (within most r w.1.1).1).1

-- ---- how a phrase begins

-- what may stand more than once
abbrev pub Repeats : Item → Type 0
Repeats (Link constant n) = Unit {0}
Repeats (Index constant) = Unit {0}
Repeats (Next x) = Unit {0}
Repeats Extent = Unit {0}
Repeats (Decl inner) = Unit {0}
Repeats Task = Unit {0}
Repeats Stmt = Unit {0}
Repeats LeafStmt = Unit {0}
Repeats Alternative = Unit {0}
Repeats _ = ⊥

abbrev pub StartsOne : Item → List Leveled → Type 0
StartsOne Named i = class (kinds i) ≡ c.Key k.Task
StartsOne Call i = class (kinds i) ≡ c.Word
StartsOne x i = Repeats x → begins x (class (kinds i)) ≡ true

abbrev pub Starts : Phrase → List Leveled → List Leveled → Type 0
Starts (One x d v) i j = StartsOne x i
Starts _ i j = Unit {0}

begins_map : (t : Class) {kind : _} → map_of t ≡ Some kind → begins_stmt t ≡ true
begins_map (c.Key k.Mappar) e = refl
begins_map (c.Key k.Mapseq) e = refl
begins_map _ e = absurd (cc)

pub starts : {p : Phrase} {i j : List Leveled} → Derives p i j → Starts p i j
starts no_more = tt
starts (one_more e r s) = tt
starts (a_list r s) = λ rep. absurd rep
starts (a_next r) = λ rep. refl
starts (a_void_task r) = λ rep. refl
starts (a_task r) = λ rep. ap (begins Task) (starts r)
starts (an_inner r s u) = refl
starts (a_leaf r s u) = refl
starts (a_param e q r s) = λ rep. absurd rep
starts (an_extent e) = λ rep. refl
starts (tunables r) = λ rep. refl
starts a_tunable = λ rep. absurd rep
starts (a_local e r s) = λ rep. refl
starts a_tunable_list = λ rep. refl
starts (an_rchop r s) = λ rep. refl
starts an_ichop = λ rep. refl
starts (a_call_stmt r) = λ rep. ap begins_stmt (starts r)
starts (a_map e r s) = λ rep. begins_map _ e
starts (a_reduction r e s) = λ rep. refl
starts (a_range r) = λ rep. absurd rep
starts (a_call r) = refl
starts (an_arg r) = λ rep. absurd rep
starts (an_index r) = λ rep. refl
starts (an_assignment r s e u) = λ rep. refl
starts (an_if r s u) = λ rep. refl
starts (no_else e) = tt
starts (an_else r) = tt
starts (an_alternative r) = λ rep. refl
starts (a_for r s u) = λ rep. refl
starts (bare r) = λ rep. absurd rep
starts (braced r) = λ rep. absurd rep
starts (an_operand r) = λ rep. absurd rep
starts (a_chain r s) = λ rep. absurd rep
starts (a_link e r) = λ rep. ap some e
starts (a_unary e r) = λ rep. absurd rep
starts a_number = λ rep. absurd rep
starts a_name = λ rep. absurd rep
starts (an_element r) = λ rep. absurd rep
starts a_length = λ rep. absurd rep
starts (brackets r) = λ rep. absurd rep
starts (the_least r s) = λ rep. absurd rep
starts (the_most r s) = λ rep. absurd rep

-- ---- what may follow

-- what follows does not go on with an expression of n levels
pub record Ends (n : ℕ) (ts : List Symbol) : Type 0 where
  pub ops : (k : ℕ) → k < n → operator k (class ts) ≡ None
  pub index : is_bracket (class ts) ≡ false

-- what follows does not go on with the part
abbrev pub Follows : Item → List Symbol → Type 0
Follows (Operand constant) ts = is_bracket (class ts) ≡ false
Follows (Chain constant n) ts = Ends n ts
Follows (Link constant n) ts = Ends n ts
Follows (Next x) ts = Follows x ts
Follows Param ts = is_bracket (class ts) ≡ false
Follows Tunable ts = is_bracket (class ts) ≡ false
Follows Arg ts = is_bracket (class ts) ≡ false
Follows Range ts = Ends 2 ts
Follows _ ts = Unit {0}

chosen : {A : Type 0} (b : Bool) (x y : A) → (if b then Some x else None) ≡ Some y → b ≡ true
chosen true x y e = refl
chosen false x y e = absurd (cc)

unlike : (a b : ℕ) {A : Type 0} (x : A) → (a ≡ b → ⊥) → (if eqb a b then Some x else None) ≡ None
unlike a b x h = elim (eqb_tells a b) [ inl p ↦ absurd (h p.1) | inr p ↦ ap (λ b. if b then Some x else None) p.0 ]

once : (n k : ℕ) (o : Option (ℕ × BinOp)) (op : BinOp) → k < n → if_some o (at_level n) None ≡ Some op → if_some o (at_level k) None ≡ None
once n k None op lt e = refl
once n k (Some p) op lt e = let same : p.0 ≡ n = eqb-true p.0 n (chosen (eqb p.0 n) p.1 op e) in unlike p.0 k p.1 (λ other. omega arith)

not_bracket : (n : ℕ) (t : Class) (op : BinOp) → operator n t ≡ Some op → is_bracket t ≡ false
not_bracket n (c.Sign g.BracketOpen) op e = absurd (cc)
not_bracket n _ op e = refl

-- an operator ends an expression of the tighter levels
pub op_ends : (n : ℕ) (ts : List Symbol) (o : Option BinOp) → operator n (class ts) ≡ o → some o ≡ true → Ends n ts
op_ends n ts None e is = absurd (cc)
op_ends n ts (Some op) e is = record { ops = λ k lt. once n k _ op lt e; index = not_bracket n (class ts) op e }

-- a token that ends each part: it is no operator, and no `[`
pub record Final (ts : List Symbol) : Type 0 where
  pub op : (n : ℕ) → operator n (class ts) ≡ None
  pub index : is_bracket (class ts) ≡ false

pub ended_by : (x : Item) {ts : List Symbol} → Final ts → Follows x ts
ended_by (Operand constant) f = f.index
ended_by (Chain constant n) f = record { ops = λ k lt. f.op k; index = f.index }
ended_by (Link constant n) f = record { ops = λ k lt. f.op k; index = f.index }
ended_by (Next x) f = ended_by x f
ended_by Param f = f.index
ended_by Tunable f = f.index
ended_by Arg f = f.index
ended_by Range f = record { ops = λ k lt. f.op k; index = f.index }
ended_by _ f = tt

comma_final : (ts : List Symbol) → is_bracket (class ts) ≡ false → class ts ≡ c.Sign g.Comma → Final ts
comma_final ts b e = record { op = λ n. ap (operator n) e; index = b }

begin_follows : (x : Item) (ts : List Symbol) → Repeats x → begins x (class ts) ≡ true → Follows x ts
begin_follows (Link constant n) ts rep e = op_ends n ts (operator n (class ts)) refl e
begin_follows (Next x) ts rep e = let comma : class ts ≡ c.Sign g.Comma = same_class (class ts) (c.Sign g.Comma) e in ended_by x (comma_final ts (ap is_bracket comma) comma)
begin_follows (Operand constant) ts rep e = absurd rep
begin_follows (Chain constant n) ts rep e = absurd rep
begin_follows Param ts rep e = absurd rep
begin_follows Tunable ts rep e = absurd rep
begin_follows Arg ts rep e = absurd rep
begin_follows Range ts rep e = absurd rep
begin_follows _ ts rep e = tt

pub begun : (x : Item) (i : List Leveled) → Repeats x → StartsOne x i → begins x (class (kinds i)) ≡ true
begun Named i rep s = absurd rep
begun Call i rep s = absurd rep
begun _ i rep s = s rep

-- before any number of a part stands what may follow it
abbrev pub Continues : Phrase → List Leveled → List Leveled → Type 0
Continues (Many x k d vs) i j = Repeats x → Follows x (kinds j) → Follows x (kinds i)
Continues _ i j = Unit {0}

pub continues : {p : Phrase} {i j : List Leveled} → Derives p i j → Continues p i j
continues no_more = λ rep f. f
continues (one_more {x = x} {i = i} e r s) = λ rep f. begin_follows x (kinds i) rep (begun x i rep (starts r))
continues _ = tt

-- before any number of a part stands the part, or what follows
abbrev pub Opens : Phrase → List Leveled → List Leveled → Type 0
Opens (Many x k d vs) i j = Repeats x → (class (kinds i) ≡ class (kinds j)) ⊎ (begins x (class (kinds i)) ≡ true)
Opens _ i j = Unit {0}

pub opens_with : {p : Phrase} {i j : List Leveled} → Derives p i j → Opens p i j
opens_with no_more = λ rep. inl refl
opens_with (one_more {x = x} {i = i} e r s) = λ rep. inr (begun x i rep (starts r))
opens_with _ = tt

-- no declaration begins as a statement or a `}` does
stmt_no_decl : (inner : Bool) (t : Class) → begins_stmt t ≡ true → begins_decl inner t ≡ false
stmt_no_decl inner (c.Key k.Tunable) e = absurd (cc)
stmt_no_decl inner (c.Key k.Local) e = absurd (cc)
stmt_no_decl inner (c.Key k.Blkset) e = absurd (cc)
stmt_no_decl inner _ e = refl

leaf_no_decl : (inner : Bool) (t : Class) → begins_leaf_stmt t ≡ true → begins_decl inner t ≡ false
leaf_no_decl inner (c.Key k.Tunable) e = absurd (cc)
leaf_no_decl inner (c.Key k.Local) e = absurd (cc)
leaf_no_decl inner (c.Key k.Blkset) e = absurd (cc)
leaf_no_decl inner _ e = refl

pub no_decl : (inner : Bool) (t u : Class) → (t ≡ u) ⊎ (begins_stmt t ≡ true) → u ≡ c.Sign g.BraceClose → begins_decl inner t ≡ false
no_decl inner t u (inl q) e = ap (begins_decl inner) (q ∙ e)
no_decl inner t u (inr q) e = stmt_no_decl inner t q

pub no_leaf_decl : (inner : Bool) (t u : Class) → (t ≡ u) ⊎ (begins_leaf_stmt t ≡ true) → u ≡ c.Sign g.BraceClose → begins_decl inner t ≡ false
no_leaf_decl inner t u (inl q) e = ap (begins_decl inner) (q ∙ e)
no_leaf_decl inner t u (inr q) e = leaf_no_decl inner t q
