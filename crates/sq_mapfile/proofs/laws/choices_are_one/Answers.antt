use Rattle.sq_mapfile.proofs.Readable.{same_choices}
use Rattle.sq_mapfile.proofs.laws.choices_are_one.Goals as goal

pub returns : goal.returns
returns c = λ levels text a b p q. same_choices c.each_text_has_tokens_or_breaks.ensures.one_list levels text a b p q
