use Rattle.sq_demo_laws.proofs.MappingRead.{one_mapping, mapping_has_no_fault, is_sound_mapping}
use Rattle.sq_demo_laws.proofs.laws.the_mapping_is_read.Goals as goal

pub returns : goal.returns
returns c = record {
  one = one_mapping c.each_text_has_tokens_or_breaks.ensures.one_list c.each_text_has_tokens_or_breaks.ensures.never_both;
  faultless = mapping_has_no_fault c.each_text_has_tokens_or_breaks.ensures.one_list c.each_text_has_tokens_or_breaks.ensures.never_both;
  sound = is_sound_mapping;
}
