use Rattle.sq_demo_laws.proofs.MachineRead.{one_machine, machine_has_no_fault}
use Rattle.sq_demo_laws.proofs.laws.the_machine_is_read.Goals as goal

pub returns : goal.returns
returns c = record {
  one = one_machine c.each_text_has_tokens_or_breaks.ensures.one_list c.each_text_has_tokens_or_breaks.ensures.never_both;
  faultless = machine_has_no_fault c.each_text_has_tokens_or_breaks.ensures.one_list c.each_text_has_tokens_or_breaks.ensures.never_both;
}
