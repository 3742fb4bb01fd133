-- A leaf's task within a plan file: what the parser of programs reads is derived, and what is derived is read.
use Rattle.std.proofs.Common.{◌≡◌, ℕ, suc, ◌+◌, ◌-◌, List, [], ◌∷◌, ◌++◌, length, drop, Ok, Err, refl, sym, ◌∙◌, ap, subst, arith, length-append}
use Rattle.sq_lexer.specs.declared.token.Token.{Token}
use Rattle.sq_ast.specs.declared.program.Variant.{Variant}
use Rattle.sq_ast.specs.declared.program.VariantKind.TheVariants as kinds
use Rattle.sq_ast.specs.Symbols.{Symbol, symbol_in}
use Rattle.sq_ast.specs.Symbols as sym_of
use Rattle.sq_ast.specs.Grammar as ast
use Rattle.sq_reader.specs.Reading as reader
use Rattle.sq_reader.proofs.LeavesAlone.{LeafFound, leaf_found, leaf_complete, plain}
use Rattle.sq_plantext.specs.Grammar as grammar
use Rattle.sq_plantext.specs.Grammar.{Leveled, tokens_of, symbols, unleveled, Within}
use Rattle.sq_planread.specs.Reading as reading
use Rattle.sq_planread.specs.Reading.{Outcome, back}
use Rattle.sq_planread.proofs.Found.{Reading}
use Rattle.sq_planread.proofs.DerivedLines.{IsTask}
use Rattle.sq_planread.proofs.Complete.{tokens_append}

-- ---- tokens as symbols

pub symbols_length : (ts : List Token) → length (sym_of.symbols ts) ≡ length ts
symbols_length [] = refl
symbols_length (t ∷ ts) = ap suc (symbols_length ts)

kinds_symbols : (ts : List Leveled) → ast.kinds (symbols ts) ≡ sym_of.symbols (tokens_of ts)
kinds_symbols [] = refl
kinds_symbols (t ∷ ts) = ap (λ ss. symbol_in t.token.place t.token.kind ∷ ss) (kinds_symbols ts)

kinds_unleveled : (ts : List Leveled) → ast.kinds (unleveled ts) ≡ sym_of.symbols (tokens_of ts)
kinds_unleveled [] = refl
kinds_unleveled (t ∷ ts) = ap (λ ss. symbol_in t.token.place t.token.kind ∷ ss) (kinds_unleveled ts)

pub kinds_append : (a b : List ast.Leveled) → ast.kinds (a ++ b) ≡ ast.kinds a ++ ast.kinds b
kinds_append [] b = refl
kinds_append (t ∷ a) b = ap (λ ss. t.kind ∷ ss) (kinds_append a b)

pub symbols_append : (a b : List Token) → sym_of.symbols (a ++ b) ≡ sym_of.symbols a ++ sym_of.symbols b
symbols_append [] b = refl
symbols_append (t ∷ a) b = ap (λ ss. symbol_in t.place t.kind ∷ ss) (symbols_append a b)

past : (a b : List Token) → drop (length a) (a ++ b) ≡ b
past [] b = refl
past (x ∷ a) b = past a b

drop_front : (a b : List Token) → drop (length (a ++ b) - length b) (a ++ b) ≡ b
drop_front a b = let n : length (a ++ b) - length b ≡ length a = omega (arith, length-append a b) in ap (λ n. drop n (a ++ b)) n ∙ past a b

-- ---- what is derived is read

unleveled_within : (most : ℕ) (l : List Leveled) → ast.Within most (unleveled l)
unleveled_within most [] = tt
unleveled_within most (t ∷ l) = (omega arith, unleveled_within most l)

task_within : (most : ℕ) (task l : List Leveled) → Within most (task ++ l) → ast.Within most (symbols task ++ unleveled l)
task_within most [] l w = unleveled_within most l
task_within most (t ∷ task) l w = (w.0, task_within most task l w.1)

pub all_symbols : (task l : List Leveled) → ast.kinds (symbols task ++ unleveled l) ≡ sym_of.symbols (tokens_of (task ++ l))
all_symbols task l = kinds_append (symbols task) (unleveled l) ∙ ap (λ ss. ss ++ ast.kinds (unleveled l)) (kinds_symbols task) ∙ ap (λ ss. sym_of.symbols (tokens_of task) ++ ss) (kinds_unleveled l)
    ∙ sym (symbols_append (tokens_of task) (tokens_of l)) ∙ ap sym_of.symbols (sym (tokens_append task l))

pub backed : (v : Variant) (a b : List Token) → back (a ++ b) (Ok (v, sym_of.symbols b)) ≡ Ok (v, b)
backed v a b = ap (λ n. Ok (v, drop (length (a ++ b) - n) (a ++ b))) (symbols_length b) ∙ ap (λ ts. Ok (v, ts)) (drop_front a b)

pub task_complete : (most levels : ℕ) → levels + grammar.round_tasks ≡ most → (v : Variant) (task l : List Leveled) → ast.Derives (ast.One ast.Task grammar.round_tasks v) (symbols task ++ unleveled l) (unleveled l)
    → v.kind ≡ kinds.Leaf → Within most (task ++ l) → reading.task levels (tokens_of (task ++ l)) ≡ Ok (v, tokens_of l)
unfolding reading.task
task_complete most levels eq v task l h leaf w =
    let r = leaf_complete most grammar.round_tasks levels eq v (symbols task ++ unleveled l) (unleveled l) h (task_within most task l w) leaf in
    ap (λ ss. back (tokens_of (task ++ l)) (reader.leaf levels ss)) (sym (all_symbols task l)) ∙ ap (back (tokens_of (task ++ l))) r ∙ ap (λ ss. back (tokens_of (task ++ l)) (Ok (v, ss))) (kinds_unleveled l)
    ∙ ap (λ ts. back ts (Ok (v, sym_of.symbols (tokens_of l)))) (tokens_append task l) ∙ backed v (tokens_of task) (tokens_of l)

-- ---- what is read is derived

-- the tokens of these symbols, and what is left after them
pub record Split (most : ℕ) (front : List ast.Leveled) (i : List Token) (js : List Symbol) : Type 0 where
  pub task : List Leveled
  pub rest : List Token
  pub is : tokens_of task ++ rest ≡ i
  pub same : symbols task ≡ front
  pub left : sym_of.symbols rest ≡ js
  pub within : Within most task

pub split : (most : ℕ) (front : List ast.Leveled) (i : List Token) (js : List Symbol) → ast.kinds front ++ js ≡ sym_of.symbols i → ast.Within most front → Split most front i js
split most [] i js e w = record { task = []; rest = i; is = refl; same = refl; left = sym e; within = tt }
split most (x ∷ front) [] js e w = absurd (cc)
split most (x ∷ front) (t ∷ ts) js e w =
    let first : x.kind ≡ symbol_in t.place t.kind = cc in
    let later : ast.kinds front ++ js ≡ sym_of.symbols ts = cc in
    let s = split most front ts js later w.1 in
    record {
      task = record { token = t; level = x.level } ∷ s.task;
      rest = s.rest;
      is = ap (λ ts. t ∷ ts) s.is;
      same = ap (λ k. ast.at k x.level ∷ symbols s.task) (sym first) ∙ ap (λ ts. x ∷ ts) s.same;
      left = s.left;
      within = (w.0, s.within);
    }

kinds_plain : (js : List Symbol) → ast.kinds (plain js) ≡ js
kinds_plain [] = refl
kinds_plain (s ∷ js) = ap (λ ss. s ∷ ss) (kinds_plain js)

pub unleveled_plain : (J : List Leveled) → unleveled J ≡ plain (sym_of.symbols (tokens_of J))
unleveled_plain [] = refl
unleveled_plain (t ∷ J) = ap (λ ts. ast.at (symbol_in t.token.place t.token.kind) 0 ∷ ts) (unleveled_plain J)

within_both : (most : ℕ) (a b : List Leveled) → Within most a → Within most b → Within most (a ++ b)
within_both most [] b w u = u
within_both most (t ∷ a) b w u = (w.0, within_both most a b w.1 u)

is_task : (most : ℕ) (v : Variant) (i : List Token) (js : List Symbol) (h : LeafFound most grammar.round_tasks v (sym_of.symbols i) js) → Split most h.front i js → IsTask most v i (drop (length i - length js) i)
is_task most v i js h s =
    let j_is : drop (length i - length js) i ≡ s.rest =
    ap (λ ss. drop (length i - length ss) i) (sym s.left) ∙ ap (λ n. drop (length i - n) i) (symbols_length s.rest) ∙ ap (λ ts. drop (length ts - length s.rest) ts) (sym s.is) ∙ drop_front (tokens_of s.task) s.rest in
    record {
      before = λ J e w.
          let rest_is : tokens_of J ≡ s.rest = e ∙ j_is in
          let behind : plain js ≡ unleveled J = ap plain (sym s.left ∙ ap sym_of.symbols (sym rest_is)) ∙ sym (unleveled_plain J) in
          record {
            task = s.task;
            tokens = tokens_append s.task J ∙ ap (λ ts. tokens_of s.task ++ ts) rest_is ∙ s.is;
            within = within_both most s.task J s.within w;
            derives = subst (λ ts. ast.Derives (ast.One ast.Task grammar.round_tasks v) (symbols s.task ++ ts) ts) behind
                (subst (λ ts. ast.Derives (ast.One ast.Task grammar.round_tasks v) (ts ++ plain js) (plain js)) (sym s.same) h.derives);
            leaf = h.leaf;
          };
    }

of_outcome : (most levels : ℕ) → levels + grammar.round_tasks ≡ most → (i : List Token) (r : reader.Outcome Variant) → reader.leaf levels (sym_of.symbols i) ≡ r → Reading (λ v j. IsTask most v i j) (back i r)
of_outcome most levels eq i (Ok p) e =
    let h = leaf_found most grammar.round_tasks levels eq (sym_of.symbols i) p.0 p.1 e in
    let front : ast.kinds h.front ++ p.1 ≡ sym_of.symbols i = ap (λ ss. ast.kinds h.front ++ ss) (sym (kinds_plain p.1)) ∙ sym (kinds_append h.front (plain p.1)) ∙ h.tokens in
    record { is = is_task most p.0 i p.1 h (split most h.front i p.1 front h.within) }
of_outcome most levels eq i (Err z) e = record { is = tt }

pub task_read : (most levels : ℕ) → levels + grammar.round_tasks ≡ most → (i : List Token) → Reading (λ v j. IsTask most v i j) (reading.task levels i)
unfolding reading.task
task_read most levels eq i = of_outcome most levels eq i (reader.leaf levels (sym_of.symbols i)) refl
