use Rattle.sq_root.proofs.Keeping.{sizes-stay, prepared-stays}
use Rattle.sq_root.proofs.laws.banks_stay_open.Goals as goal

pub returns-clause-sizes : goal.returns-clause-sizes
returns-clause-sizes c = sizes-stay

pub returns-clause-prepared : goal.returns-clause-prepared
returns-clause-prepared c = prepared-stays
