use Rattle.sq_layout_laws.proofs.Whole.{read_back}
use Rattle.sq_layout_laws.proofs.laws.laid_out_lines_read_back.Goals as goal

pub returns : goal.returns
returns c x h fits = read_back x h fits
