-- A leaf's task of the grammar is read, up to the first token with a level too many.
use Rattle.std.proofs.Common.{◌≡◌, ℕ, suc, ◌+◌, ◌<◌, List, [], ◌∷◌, ◌++◌, length, Ok, Err, refl, sym, ◌∙◌, ap, subst, length-append, arith, ◌⊎◌, inl, inr}
use Rattle.sq_ast.specs.declared.program.Variant.{Variant}
use Rattle.sq_ast.specs.declared.program.VariantKind.TheVariants as kinds_of
use Rattle.sq_ast.specs.Symbols.{Symbol, symbol_in}
use Rattle.sq_ast.specs.Symbols as sym_of
use Rattle.sq_ast.specs.Grammar as ast
use Rattle.sq_reader.specs.declared.error.ParseError.TheVariants.{TooDeep}
use Rattle.sq_reader.specs.Reading as reader
use Rattle.sq_reader.proofs.LeavesAlone.{plain}
use Rattle.sq_plantext.specs.Grammar as grammar
use Rattle.sq_plantext.specs.Grammar.{Leveled, tokens_of, symbols, unleveled}
use Rattle.sq_planread.specs.Reading as reading
use Rattle.sq_planread.specs.Reading.{Outcome, back}
use Rattle.sq_planread.proofs.Leads.{Leads, there, goes, deep, same, size}
use Rattle.sq_planread.proofs.Complete.{tokens_append}
use Rattle.sq_planread.proofs.Tasks.{symbols_length, unleveled_plain, all_symbols, backed}
use Rattle.sq_planread.proofs.TaskRuns.{DeepIn, within_or_deep, leaf_reads, leaf_deep}

symbols_size : (task : List Leveled) → length (symbols task) ≡ size task
symbols_size [] = refl
symbols_size (t ∷ task) = ap suc (symbols_size task)

size_append : (a b : List Leveled) → size (a ++ b) ≡ size a + size b
size_append [] b = omega arith
size_append (t ∷ a) b = let h = size_append a b in omega (arith, h)

module _ (most : ℕ) (l : List Leveled) {A : Type 0} (o : Outcome A) where
  all_within : (task : List Leveled) → ast.Within most (symbols task) → Leads most l o (task ++ l) o
  all_within [] w = there
  all_within (t ∷ task) w = goes w.0 (all_within task w.1)

  up_to_deep : (task : List Leveled) (before : List ast.Leveled) (first : ast.Leveled) (after : List ast.Leveled) → symbols task ≡ before ++ first ∷ after → ast.Within most before → most < first.level
      → Leads most l o (task ++ l) (Err (TooDeep (length (first ∷ after) + size l)))
  up_to_deep [] [] first after e w lt = absurd (cc)
  up_to_deep [] (x ∷ before) first after e w lt = absurd (cc)
  up_to_deep (t ∷ task) [] first after e w lt =
      let is : ast.at (symbol_in t.token.place t.token.kind) t.level ≡ first = cc in
      let rest : symbols task ≡ after = cc in
      let level : t.level ≡ first.level = ap (λ (x : ast.Leveled). x.level) is in
      let count : length (first ∷ after) + size l ≡ size (t ∷ (task ++ l)) = omega (arith, size_append task l, symbols_size task, ap length rest) in
      same most (ap (λ n. Err (TooDeep n)) count) (deep (omega (arith, lt, level)))
  up_to_deep (t ∷ task) (x ∷ before) first after e w lt =
      let is : ast.at (symbol_in t.token.place t.token.kind) t.level ≡ x = cc in
      let rest : symbols task ≡ before ++ first ∷ after = cc in
      let level : t.level ≡ x.level = ap (λ (x : ast.Leveled). x.level) is in
      goes (omega (arith, w.0, level)) (up_to_deep task before first after rest w.1 lt)

plain_long : (j : List Symbol) → length (plain j) ≡ length j
plain_long [] = refl
plain_long (t ∷ j) = ap suc (plain_long j)

pub task_leads : (most levels : ℕ) → levels + grammar.round_tasks ≡ most → (v : Variant) (task l : List Leveled) → ast.Derives (ast.One ast.Task grammar.round_tasks v) (symbols task ++ unleveled l) (unleveled l)
    → v.kind ≡ kinds_of.Leaf → Leads most l (Ok (v, tokens_of l)) (task ++ l) (reading.task levels (tokens_of (task ++ l)))
unfolding reading.task
task_leads most levels eq v task l h is_leaf = by_case (within_or_deep most (symbols task))
  where
    derived : ast.Derives (ast.One ast.Task grammar.round_tasks v) (symbols task ++ plain (sym_of.symbols (tokens_of l))) (plain (sym_of.symbols (tokens_of l)))
    derived = subst (λ j. ast.Derives (ast.One ast.Task grammar.round_tasks v) (symbols task ++ j) j) (unleveled_plain l) h

    seen : sym_of.symbols (tokens_of (task ++ l)) ≡ ast.kinds (symbols task ++ plain (sym_of.symbols (tokens_of l)))
    seen = sym (all_symbols task l) ∙ ap (λ j. ast.kinds (symbols task ++ j)) (unleveled_plain l)

    by_case : ast.Within most (symbols task) ⊎ DeepIn most (symbols task) → Leads most l (Ok (v, tokens_of l)) (task ++ l) (back (tokens_of (task ++ l)) (reader.leaf levels (sym_of.symbols (tokens_of (task ++ l)))))
    by_case (inl w) =
        let read : reader.leaf levels (sym_of.symbols (tokens_of (task ++ l))) ≡ Ok (v, sym_of.symbols (tokens_of l)) = ap (reader.leaf levels) seen ∙ leaf_reads most grammar.round_tasks levels eq v (symbols task) (sym_of.symbols (tokens_of l)) derived is_leaf w in
        let whole : back (tokens_of (task ++ l)) (reader.leaf levels (sym_of.symbols (tokens_of (task ++ l)))) ≡ Ok (v, tokens_of l) =
        ap (back (tokens_of (task ++ l))) read ∙ ap (λ ts. back ts (Ok (v, sym_of.symbols (tokens_of l)))) (tokens_append task l) ∙ backed v (tokens_of task) (tokens_of l) in
        same most whole (all_within most l (Ok (v, tokens_of l)) task w)
    by_case (inr q) =
        let told : reader.leaf levels (sym_of.symbols (tokens_of (task ++ l))) ≡ Err (TooDeep (length (q.first ∷ (q.after ++ plain (sym_of.symbols (tokens_of l)))))) =
        ap (reader.leaf levels) seen ∙ leaf_deep most grammar.round_tasks levels eq v (symbols task) (sym_of.symbols (tokens_of l)) derived is_leaf q in
        let count : length (q.first ∷ (q.after ++ plain (sym_of.symbols (tokens_of l)))) ≡ length (q.first ∷ q.after) + size l =
        omega (arith, length-append q.after (plain (sym_of.symbols (tokens_of l))), plain_long (sym_of.symbols (tokens_of l)), symbols_length (tokens_of l)) in
        same most (ap (back (tokens_of (task ++ l))) told ∙ ap (λ n. Err (TooDeep n)) count) (up_to_deep most l (Ok (v, tokens_of l)) task q.before q.first q.after q.is q.within q.deep)
