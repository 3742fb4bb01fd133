use Rattle.sq_planheads.proofs.GivenTasks.{tasks_given}
use Rattle.sq_planload.proofs.Counts.{few_written}
use Rattle.sq_planload.proofs.Ends.{writes, heads_end, lines_end, heads_again}
use Rattle.sq_planload.proofs.file.of_tokens.Goals as goal

pub leaves_of-requires : goal.leaves_of-requires
leaves_of-requires c = tasks_given c.requires.read.text c.args.tokens.now c.in-Ok.text c.requires.read.tokens_of c.in-Ok.ensures.found

pub returns-in-Err-leaves_of : goal.returns-in-Err-leaves_of
returns-in-Err-leaves_of c = heads_end c.args.tokens.now c.in-Ok.text c.in-Ok.ensures.found c.in-Err-leaves_of.stop c.in-Err-leaves_of.ensures

pub file_by-file-requires-clause-heads : goal.file_by-file-requires-clause-heads
file_by-file-requires-clause-heads c =
    heads_again c.args.tokens.now c.in-Ok.text c.in-Ok-parse_plan.text c.in-Ok.ensures.found c.in-Ok-parse_plan.ensures.found c.in-Ok-leaves_of.leaves c.in-Ok-leaves_of.ensures

pub file_by-file-requires-clause-few : goal.file_by-file-requires-clause-few
file_by-file-requires-clause-few c =
    few_written c.requires.read.text c.in-Ok-parse_plan.text (writes c.args.tokens.now c.requires.read c.in-Ok-parse_plan.text c.in-Ok-parse_plan.ensures.found)

pub returns : goal.returns
returns c = lines_end c.args.tokens.now c.in-Ok-parse_plan.text c.in-Ok-parse_plan.ensures.found c.file_by-file.result c.file_by-file.ensures
