use Rattle.sq_source_laws.proofs.FirstFaults.{machine_once, mapping_once}
use Rattle.sq_source_laws.proofs.laws.first_faults_are_one.Goals as goal

pub returns-clause-machines : goal.returns-clause-machines
returns-clause-machines c = λ text f g a b.
    let told = c.each_text_has_tokens_or_breaks.ensures in machine_once told.one_list told.one_break text f g a b

pub returns-clause-mappings : goal.returns-clause-mappings
returns-clause-mappings c = λ program levels text f g a b.
    let told = c.each_text_has_tokens_or_breaks.ensures in mapping_once told.one_list told.one_break text program levels f g a b
