use Rattle.sq_source_laws.proofs.Texts.{one_program, one_machine, one_mapping}
use Rattle.sq_source_laws.proofs.laws.texts_stand_for_one.Goals as goal

pub returns-clause-programs : goal.returns-clause-programs
returns-clause-programs c = λ text ts us p q a h b k. one_program c.each_text_has_tokens_or_breaks.ensures.one_list text ts us p q a h b k

pub returns-clause-machines : goal.returns-clause-machines
returns-clause-machines c = λ text m n s v t w. one_machine c.each_text_has_tokens_or_breaks.ensures.one_list text m n s t

pub returns-clause-mappings : goal.returns-clause-mappings
returns-clause-mappings c = λ levels text m n s t. one_mapping c.each_text_has_tokens_or_breaks.ensures.one_list levels text m n s t
