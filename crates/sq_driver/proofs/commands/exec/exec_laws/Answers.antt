use Rattle.sq_driver.proofs.commands.exec.exec_laws.Goals as goal

pub returns : goal.returns
returns c = record {
  runs = c.good_plans_have_one_result.ensures.runs;
  result = c.good_plans_have_one_result.ensures.result;
  room = c.banks_have_room.ensures.room;
  one = c.starts_are_one.ensures.one;
  texts = c.starts_are_one.ensures.texts;
}
