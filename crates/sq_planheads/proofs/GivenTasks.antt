-- The tasks of a plan file's leaves are tasks that a text gives.
use Rattle.std.proofs.Common.{◌≡◌, ℕ, ◌+◌, ◌≤◌, true, List, [], ◌∷◌, ◌++◌, length, Some, None, Option, refl, sym, ap, ◌∙◌, subst, arith, append_assoc, length-append}
use Rattle.sq_text.specs.declared.place.Place.{Place}
use Rattle.sq_lexer.specs.declared.token.Token.{Token}
use Rattle.sq_lexer.specs.declared.token.Kind.{Kind}
use Rattle.sq_lexer.specs.declared.token.Kind.TheVariants as t
use Rattle.sq_lexer.specs.declared.token.Sign.{Sign}
use Rattle.sq_lexer.specs.declared.token.Sign.TheVariants as g
use Rattle.sq_lexer.specs.Tokens.{token, AreTokens}
use Rattle.sq_ast.specs.declared.keyword.Keyword.{Keyword}
use Rattle.sq_ast.specs.declared.program.Variant.{Variant}
use Rattle.sq_ast.specs.declared.program.VariantKind.TheVariants as variant
use Rattle.sq_ast.specs.Symbols as sym_of
use Rattle.sq_ast.specs.Symbols.{Symbol, Word, Key, Mark, Last, symbol_in, symbol_of_word, keyword_of}
use Rattle.sq_ast.specs.Grammar as ast
use Rattle.sq_leaf.specs.Leaf.{is_leaf_body}
use Rattle.sq_reader.proofs.LeavesAlone.{LeafFound, leaf_found, leaf_complete, plain}
use Rattle.sq_plantext.specs.declared.text.LeafText.{LeafText}
use Rattle.sq_plantext.specs.declared.text.PlanText.{PlanText}
use Rattle.sq_plantext.specs.Grammar as grammar
use Rattle.sq_plantext.specs.Grammar.{Leveled, at, tokens_of, symbols, unleveled, Phrase, Leaves, Derives, Within, StandsFor, most_levels, round_tasks, no_more_numbers, one_more_number, empty_list, a_list, a_number, a_negative, the_lowest, a_slot, a_view, no_more_views, one_more_view, no_views, some_views, a_copy, a_fill, an_acc, a_run, an_event, a_seq, a_par, a_scope, no_terms, one_more_term, no_nodes, one_more_node, no_buffers, one_more_buffer, a_binding, no_more_bindings, one_more_binding, no_bindings, some_bindings, no_leaves, one_more_leaf, no_arrays, one_more_array, a_plan}
use Rattle.sq_planread.proofs.Complete.{tokens_append}
use Rattle.sq_planread.proofs.Tasks.{symbols_append, kinds_append, all_symbols}
use Rattle.sq_planread.proofs.TaskEnds.{own}
use Rattle.sq_planread.proofs.TaskBegins.{cancel, any_behind}
use Rattle.sq_planheads.specs.Heads.{IsGivenTask, AreGiven}
use Rattle.sq_planheads.proofs.Cuts.{behind, ended}

-- ---- what is left after a phrase stands at the end of what begins with it

data Front : List Leveled → List Leveled → Type 0 where
  none : {i : List Leveled} → Front i i
  more : {x : Leveled} {i j : List Leveled} → Front i j → Front (x ∷ i) j

trans : {i j l : List Leveled} → Front i j → Front j l → Front i l
trans none g = g
trans (more f) g = more (trans f g)

less : {x : Leveled} {i j : List Leveled} → Front i (x ∷ j) → Front i j
less f = trans f (more none)

front : {P : Phrase} {i j : List Leveled} → Derives P i j → Front i j
front no_more_numbers = none
front (one_more_number r) = more (more (front r))
front empty_list = more (more none)
front (a_list r) = more (more (less (front r)))
front a_number = more none
front a_negative = more (more none)
front the_lowest = more none
front a_slot = more (more (more none))
front (a_view e r s u) = trans (less (front r)) (trans (front s) (front u))
front no_more_views = none
front (one_more_view r s) = more (trans (front r) (front s))
front no_views = none
front (some_views r s) = trans (front r) (front s)
front (a_copy r s) = more (trans (front r) (less (front s)))
front (a_fill e r s) = more (trans (less (less (front r))) (front s))
front (an_acc e q r s) = more (more (more (trans (front r) (less (front s)))))
front (a_run r s) = more (more (more (trans (less (front r)) (front s))))
front (an_event r) = less (front r)
front (a_seq r) = more (more (less (front r)))
front (a_par r) = more (more (less (front r)))
front (a_scope r s) = more (more (trans (less (front r)) (less (front s))))
front no_terms = none
front (one_more_term r s) = trans (front r) (front s)
front no_nodes = none
front (one_more_node r) = more (more (more (more (more (more (front r))))))
front no_buffers = none
front (one_more_buffer r) = more (more (more (more (more (more (more (front r)))))))
front (a_binding r) = more (more (front r))
front no_more_bindings = none
front (one_more_binding r s) = more (trans (front r) (front s))
front no_bindings = none
front (some_bindings r s) = trans (front r) (front s)
front no_leaves = none
front (one_more_leaf task r h is s) = more (more (more (trans (less (front r)) (trans (past task) (front s)))))
  where
    past : (xs : List Leveled) {l : List Leveled} → Front (xs ++ l) l
    past [] = none
    past (x ∷ xs) = more (past xs)
front no_arrays = none
front (one_more_array e q r s) = more (more (more (more (trans (less (less (front r))) (front s)))))
front (a_plan r s u v w) = more (more (more (trans (front r) (trans (front s) (trans (front u) (trans (front v) (front w)))))))

-- the tokens before
before : {i j : List Leveled} → Front i j → (a : List Token) × (tokens_of i ≡ a ++ tokens_of j)
before none = ([], refl)
before (more {x = x} f) = let h = before f in (x.token ∷ h.0, ap (λ ts. x.token ∷ ts) h.1)

within_rest : (most : ℕ) {i j : List Leveled} → Front i j → Within most i → Within most j
within_rest most none w = w
within_rest most (more f) w = within_rest most f w.1

within_first : (most : ℕ) (i j : List Leveled) → Within most (i ++ j) → ast.Within most (symbols i ++ unleveled j)
within_first most [] j w = unleveled_within j
  where
    unleveled_within : (j : List Leveled) → ast.Within most (unleveled j)
    unleveled_within [] = tt
    unleveled_within (x ∷ j) = (omega arith, unleveled_within j)
within_first most (x ∷ i) j w = (w.0, within_first most i j w.1)

-- ---- the last token of a task is a brace

mark_word : (p q : Place) (w : List ℕ) (s : Sign) (o : Option Keyword) → symbol_of_word p w o ≡ Mark q s → ⊥
mark_word p q w s None e = cc
mark_word p q w s (Some k) e = cc

mark_token : (x : Token) (q : Place) (s : Sign) → symbol_in x.place x.kind ≡ Mark q s → x ≡ token (t.Sign s) q
mark_token x q s e = by x.place x.kind e
  where
    by : (p : Place) (k : Kind) → symbol_in p k ≡ Mark q s → token k p ≡ token (t.Sign s) q
    by p (t.Word w) e = absurd (mark_word p q w s (keyword_of w) e)
    by p (t.Number n) e = absurd (cc)
    by p (t.Sign u) e = let place : p ≡ q = cc in let same : u ≡ s = cc in ap (λ p. token (t.Sign u) p) place ∙ ap (λ u. token (t.Sign u) q) same
    by p t.End e = absurd (cc)

record EndsWith (task : List Leveled) (q : Place) : Type 0 where
  first : List Token
  is : tokens_of task ≡ first ++ token (t.Sign g.BraceClose) q ∷ []

ends_with : (d : ℕ) (q : Place) (task : List Leveled) (fs : List ast.Leveled) → symbols task ≡ fs ++ ast.at (Mark q g.BraceClose) d ∷ [] → EndsWith task q
ends_with d q [] [] e = absurd (cc)
ends_with d q [] (f ∷ fs) e = absurd (cc)
ends_with d q (x ∷ []) [] e =
    let head : ast.at (symbol_in x.token.place x.token.kind) x.level ≡ ast.at (Mark q g.BraceClose) d = cc in
    let is : symbol_in x.token.place x.token.kind ≡ Mark q g.BraceClose = ap (λ (y : ast.Leveled). y.kind) head in
    record { first = []; is = ap (λ x. x ∷ []) (mark_token x.token q g.BraceClose is) }
ends_with d q (x ∷ y ∷ task) [] e = absurd (cc)
ends_with d q (x ∷ task) (f ∷ fs) e =
    let rest : symbols task ≡ fs ++ ast.at (Mark q g.BraceClose) d ∷ [] = cc in
    let h = ends_with d q task fs rest in
    record { first = x.token ∷ h.first; is = ap (λ ts. x.token ∷ ts) h.is }

-- ---- a leaf has the body of one

leaf_body : {d : ℕ} {v : Variant} {i j : List ast.Leveled} → ast.Derives (ast.One ast.Named d v) i j → v.kind ≡ variant.Leaf → is_leaf_body v.body ≡ true
leaf_body (ast.an_inner r s u) e = absurd (cc)
leaf_body (ast.a_leaf r s u) e = refl

task_body : {d : ℕ} {v : Variant} {i j : List ast.Leveled} → ast.Derives (ast.One ast.Task d v) i j → v.kind ≡ variant.Leaf → is_leaf_body v.body ≡ true
task_body (ast.a_void_task r) e = leaf_body r e
task_body (ast.a_task r) e = leaf_body r e

-- ---- one task

levels_in : ast.most_levels + round_tasks ≡ most_levels
unfolding ast.most_levels most_levels
levels_in = refl

none_round : ast.most_levels + 0 ≡ ast.most_levels
none_round = omega arith

within_both : (most : ℕ) (a b : List ast.Leveled) → ast.Within most a → ast.Within most b → ast.Within most (a ++ b)
within_both most [] b w u = u
within_both most (x ∷ a) b w u = (w.0, within_both most a b w.1 u)

-- a text has the tokens of the task alone
record Alone (task : List Leveled) : Type 0 where
  end : Place
  text : List ℕ
  are : AreTokens text (tokens_of task ++ token t.End end ∷ [])

abbrev brace : Place → Token
brace q = token (t.Sign g.BraceClose) q

some_of : (ts first : List Token) (x : Token) (rest : List Token) → ts ≡ first ++ x ∷ rest → 1 ≤ length ts
some_of ts first x rest e = let n = length-append first (x ∷ rest) in let m : length ts ≡ length (first ++ x ∷ rest) = ap length e in omega (arith, n, m)

alone_by : (text : List ℕ) (ts a : List Token) (task l : List Leveled) (first : List Token) (q : Place) → AreTokens text ts → ts ≡ a ++ tokens_of (task ++ l) → tokens_of task ≡ first ++ brace q ∷ [] → Alone task
alone_by text ts a task l first q are e is =
    let whole : tokens_of (task ++ l) ≡ first ++ brace q ∷ tokens_of l =
    tokens_append task l ∙ ap (λ ts. ts ++ tokens_of l) is ∙ append_assoc first (brace q ∷ []) (tokens_of l) in
    let from = behind are a (tokens_of (task ++ l)) e (some_of (tokens_of (task ++ l)) first (brace q) (tokens_of l) whole) in
    let cut = ended from.are first q (tokens_of l) whole in
    record {
      end = cut.end;
      text = cut.kept;
      are = subst (AreTokens cut.kept) (sym (append_assoc first (brace q ∷ []) (token t.End cut.end ∷ [])) ∙ ap (λ ts. ts ++ token t.End cut.end ∷ []) (sym is)) cut.are;
    }

alone : (text : List ℕ) (ts a : List Token) (v : Variant) (task l : List Leveled) → AreTokens text ts → ts ≡ a ++ tokens_of (task ++ l)
    → ast.Derives (ast.One ast.Task round_tasks v) (symbols task ++ unleveled l) (unleveled l) → v.kind ≡ variant.Leaf → Alone task
alone text ts a v task l are e h leaf =
    let o = own [] h leaf in
    let last = o.front ++ ast.at (Mark o.place g.BraceClose) round_tasks ∷ [] in
    let whole : symbols task ++ unleveled l ≡ last ++ unleveled l = o.is ∙ sym (append_assoc o.front (ast.at (Mark o.place g.BraceClose) round_tasks ∷ []) (unleveled l)) in
    let ends = ends_with round_tasks o.place task o.front (cancel (symbols task) last (unleveled l) whole) in
    alone_by text ts a task l ends.first o.place are e ends.is

-- the task as one of a program
record Read (v : Variant) (task : List Leveled) : Type 0 where
  front : List ast.Leveled
  is : ast.kinds front ≡ sym_of.symbols (tokens_of task)
  within : ast.Within ast.most_levels front
  derives : (J : List ast.Leveled) → ast.Derives (ast.One ast.Task 0 v) (front ++ J) J

kinds_plain : (js : List Symbol) → ast.kinds (plain js) ≡ js
kinds_plain [] = refl
kinds_plain (s ∷ js) = ap (λ ss. s ∷ ss) (kinds_plain js)

kinds_unleveled : (xs : List Leveled) → ast.kinds (unleveled xs) ≡ sym_of.symbols (tokens_of xs)
kinds_unleveled [] = refl
kinds_unleveled (x ∷ xs) = ap (λ ss. symbol_in x.token.place x.token.kind ∷ ss) (kinds_unleveled xs)

front_kinds : (v : Variant) (task l : List Leveled) (found : LeafFound ast.most_levels 0 v (ast.kinds (symbols task ++ unleveled l)) (ast.kinds (unleveled l)))
    → ast.kinds found.front ++ sym_of.symbols (tokens_of l) ≡ sym_of.symbols (tokens_of task) ++ sym_of.symbols (tokens_of l)
front_kinds v task l found =
    ap (λ ss. ast.kinds found.front ++ ss) (sym (kinds_plain (ast.kinds (unleveled l)) ∙ kinds_unleveled l))
    ∙ sym (kinds_append found.front (plain (ast.kinds (unleveled l)))) ∙ found.tokens
    ∙ all_symbols task l ∙ ap sym_of.symbols (tokens_append task l) ∙ symbols_append (tokens_of task) (tokens_of l)

read_of : (v : Variant) (task l : List Leveled) → LeafFound ast.most_levels 0 v (ast.kinds (symbols task ++ unleveled l)) (ast.kinds (unleveled l)) → Read v task
read_of v task l found = record {
  front = found.front;
  is = cancel (ast.kinds found.front) (sym_of.symbols (tokens_of task)) (sym_of.symbols (tokens_of l)) (front_kinds v task l found);
  within = found.within;
  derives = any_behind found;
}

-- its levels are counted from 0 there
read_alone : (v : Variant) (task l : List Leveled) → ast.Derives (ast.One ast.Task round_tasks v) (symbols task ++ unleveled l) (unleveled l) → v.kind ≡ variant.Leaf → Within most_levels (task ++ l) → Read v task
read_alone v task l h leaf w =
    let read = leaf_complete most_levels round_tasks ast.most_levels levels_in v (symbols task ++ unleveled l) (unleveled l) h (within_first most_levels task l w) leaf in
    read_of v task l (leaf_found ast.most_levels 0 ast.most_levels none_round (ast.kinds (symbols task ++ unleveled l)) v (ast.kinds (unleveled l)) read)

stands_alone : (v : Variant) (task : List Leveled) (end : Place) → Read v task → ast.StandsFor ast.most_levels (sym_of.symbols (tokens_of task ++ token t.End end ∷ [])) (record { tasks = v ∷ [] })
stands_alone v task end r = record {
  leveled = r.front ++ ast.at (Last end) 0 ∷ [];
  tokens = kinds_append r.front (ast.at (Last end) 0 ∷ []) ∙ ap (λ ss. ss ++ Last end ∷ []) r.is ∙ sym (symbols_append (tokens_of task) (token t.End end ∷ []));
  within = within_both ast.most_levels r.front (ast.at (Last end) 0 ∷ []) r.within (omega arith, tt);
  text = (end, ast.one_more refl (r.derives (ast.at (Last end) 0 ∷ [])) ast.no_more);
}

given_at : (text : List ℕ) (ts : List Token) → AreTokens text ts → (v : Variant) (a : List Token) (task l : List Leveled)
    → ts ≡ a ++ tokens_of (task ++ l) → ast.Derives (ast.One ast.Task round_tasks v) (symbols task ++ unleveled l) (unleveled l) → v.kind ≡ variant.Leaf → Within most_levels (task ++ l)
    → IsGivenTask v
given_at text ts are v a task l e h leaf w =
    let own_text = alone text ts a v task l are e h leaf in
    record {
      given = record {
        text = own_text.text;
        tokens = tokens_of task ++ token t.End own_text.end ∷ [];
        read = own_text.are;
        stand = stands_alone v task own_text.end (read_alone v task l h leaf w);
      };
      leaf = task_body h leaf;
    }

-- ---- all leaves

leaves_given : (text : List ℕ) (ts : List Token) → AreTokens text ts → {leaves : List LeafText} {i j : List Leveled} → Derives (Leaves leaves) i j
    → (a : List Token) → ts ≡ a ++ tokens_of i → Within most_levels i → AreGiven leaves
leaves_given text ts are no_leaves a e w = tt
leaves_given text ts are (one_more_leaf {v = v} {p = p} {q = q} {r = o} {i = i} {l = l} task r h leaf s) a e w =
    let bound = more (more (more (less (front r)))) in
    let b = before bound in
    let inside : Within most_levels (task ++ l) = within_rest most_levels bound w in
    let at_task = e ∙ ap (λ us. a ++ us) b.1 ∙ sym (append_assoc a b.0 (tokens_of (task ++ l))) in
    let rest = past task in
    let c = before rest in (
      given_at text ts are v (a ++ b.0) task l at_task h leaf inside,
      leaves_given text ts are s ((a ++ b.0) ++ c.0) (at_task ∙ ap (λ us. (a ++ b.0) ++ us) c.1 ∙ sym (append_assoc (a ++ b.0) c.0 (tokens_of l))) (within_rest most_levels rest inside),
    )
  where
    past : (xs : List Leveled) → Front (xs ++ l) l
    past [] = none
    past (x ∷ xs) = more (past xs)

of_plan : (text : List ℕ) (ts : List Token) → AreTokens text ts → {x : PlanText} {i j : List Leveled} → Derives (grammar.APlan x) i j → ts ≡ tokens_of i → Within most_levels i → AreGiven x.leaves
of_plan text ts are (a_plan r s u v w) e within =
    let head = more (more (more (trans (front r) (front s)))) in
    let b = before head in
    leaves_given text ts are u b.0 (e ∙ b.1) (within_rest most_levels head within)

pub tasks_given : (text : List ℕ) (ts : List Token) (x : PlanText) → AreTokens text ts → StandsFor most_levels ts x → AreGiven x.leaves
tasks_given text ts x are h = of_plan text ts are h.text.1 (sym h.tokens) h.within
