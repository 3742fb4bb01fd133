use Rattle.sq_nests.proofs.Chains.{chain_fits, greatest_chain}
use Rattle.sq_nests.proofs.Trees.{chains_held}
use Rattle.sq_nests.proofs.Weights.{need_is_sum}
use Rattle.sq_nests.specs.Drafts.{scopes}
use Rattle.sq_nests.proofs.laws.sums_are_exact.Goals as goal

pub returns-clause-exact : goal.returns-clause-exact
returns-clause-exact c = (
  λ size node x. record
      { most = λ bs h. chain_fits size node h; reached = greatest_chain size node x },
  λ node s x env. chains_held node s
      x env,
)

pub returns-clause-need : goal.returns-clause-need
returns-clause-need c = λ d nodes node. need_is_sum d.buffers node (scopes d nodes)
