use Rattle.sq_written_laws.proofs.Running.{run_alike}
use Rattle.sq_written_laws.proofs.laws.alike_trees_run_alike.Goals as goal

-- src/laws.rt:7:1
pub returns : goal.returns
returns g c t u n m h turns = run_alike t u n m h turns
