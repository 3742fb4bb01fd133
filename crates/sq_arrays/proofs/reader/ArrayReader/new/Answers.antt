use Rattle.sq_arrays.proofs.Windows.{empty_stands}
use Rattle.sq_arrays.proofs.Whole.{rest_start}
use Rattle.sq_arrays.proofs.reader.ArrayReader.new.Goals as goal

pub returns-clause-ready : goal.returns-clause-ready
returns-clause-ready c = λ told name. empty_stands c.new.result c.new.ensures.empty told name

pub returns-clause-start : goal.returns-clause-start
returns-clause-start c = λ bytes. rest_start c.new.result bytes c.new.ensures.at c.new.ensures.place
