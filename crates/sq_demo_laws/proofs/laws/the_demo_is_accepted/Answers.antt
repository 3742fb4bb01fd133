use Rattle.sq_demo_laws.proofs.laws.the_demo_is_accepted.Goals as goal

pub returns : goal.returns
returns c = record {
  one_tree = c.the_program_is_read.ensures.one;
  tokens = c.the_program_is_read.ensures.tokens;
  read = c.the_program_is_read.ensures.read;
  faultless = c.the_program_is_faultless.ensures;
  one_machine = c.the_machine_is_read.ensures.one;
  machine = c.the_machine_is_read.ensures.faultless;
  one_mapping = c.the_mapping_is_read.ensures.one;
  mapping = c.the_mapping_is_read.ensures.faultless;
  resolves = c.the_forms_are_found.ensures;
  free = c.the_forms_are_free_of_races.ensures;
  enough = c.nodes_have_enough.ensures;
  input = c.the_data_is_read.ensures;
  trapless = c.the_program_is_trapless.ensures;
}
