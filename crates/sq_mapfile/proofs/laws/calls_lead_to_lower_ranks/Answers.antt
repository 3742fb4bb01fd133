use Rattle.sq_mapfile.proofs.Falling.{bound, falls}
use Rattle.sq_mapfile.proofs.laws.calls_lead_to_lower_ranks.Goals as goal

pub returns : goal.returns
returns c = record {
  falls = λ p levels m s. falls m.instances s.acyclic;
  bound = λ p levels m s. bound m.instances s.acyclic;
}
