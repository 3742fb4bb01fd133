-- The chains of statements' terms: where no loop stands round a call, the statement is that call.
use Rattle.std.proofs.Common.{ℕ, List, [], ◌∷◌, map, sym, subst}
use Rattle.sq_text.specs.declared.spread.SpreadRule.{SpreadRule}
use Rattle.sq_placed.specs.Spec.declared.statement.Statement.{Statement, roll-Statement}
use Rattle.sq_placed.specs.Spec.declared.statement.Statement.TheVariants as b
use Rattle.sq_placed.specs.Spec.declared.statement.Statement.TheOpen.{Statement-F}
use Rattle.sq_placed.specs.Spec.declared.statement.Statement.TheFolds.{ind-Statement, map-Statement}
use Rattle.sq_placed.specs.Spec.declared.body.FormBody.{FormBody}
use Rattle.sq_ir.specs.declared.term.Term.{Term}
use Rattle.sq_placed.specs.declared.home.Homes.{Homes}
use Rattle.sq_placed.proofs.Pipes.{IsChain, AreChains, no_chains, more_chains, chain_of_call, chain_of_map}
use Rattle.sq_term.specs.declared.context.Context.{Context}
use Rattle.sq_term.specs.Terms.{TermPart, chains, first_num, statement_term}
use Rattle.sq_term.proofs.Opened.{built_call, built_map}

module _ (bodies : ℕ → FormBody) (homes : ℕ → Homes) (callee : ℕ → Context → Term) (rule : SpreadRule) where
  abbrev Chained : Statement → Type 0
  Chained x = IsChain x (statement_term bodies homes callee rule x).chain

  chained_step : (y : Statement-F ((x : Statement) × Chained x))
      → Chained (roll-Statement (map-Statement ((x : Statement) × Chained x) Statement (λ p. p.0) y))
  chained_step (Statement-F.Call lower instances) = subst Chained (sym (b.rolls-Call lower instances))
      (subst (λ (p : TermPart). IsChain (b.Call lower instances) p.chain)
      (sym (built_call bodies homes callee rule lower instances)) (chain_of_call lower instances))
  chained_step (Statement-F.Map place m counts starts xs) =
      let ys = map (λ (q : (x : Statement) × Chained x). q.0) xs in
      subst Chained (sym (b.rolls-Map place m counts starts ys))
      (subst (λ (p : TermPart). IsChain (b.Map place m counts starts ys) p.chain)
      (sym (built_map bodies homes callee rule place m counts starts ys))
      (chain_of_map first_num (b.Map place m counts starts ys) m starts
      (chains (map (statement_term bodies homes callee rule) ys))))

  pub chain_built : (x : Statement) → IsChain x (statement_term bodies homes callee rule x).chain
  chain_built = ind-Statement Chained (λ x y is. subst (λ z. Chained (roll-Statement z)) is (chained_step y))

  pub chains_built : (xs : List Statement) → AreChains xs (chains (map (statement_term bodies homes callee rule) xs))
  chains_built [] = no_chains
  chains_built (x ∷ xs) = more_chains (chain_built x) (chains_built xs)
