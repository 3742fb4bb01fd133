use Rattle.sq_driver.proofs.Trees.{none_only, none_refused, none_refuses, some_found, some_given, some_only, some_refused, some_refuses}
use Rattle.sq_driver.proofs.phases.tree.tree_of.Goals as goal

pub returns-in-Err-clause-only : goal.returns-in-Err-clause-only
returns-in-Err-clause-only c = none_only c.args.text.now c.in-Err.stop c.in-Err.ensures.only

pub returns-in-Err-clause-refused : goal.returns-in-Err-clause-refused
returns-in-Err-clause-refused c = none_refused c.args.text.now c.in-Err.stop c.in-Err.ensures.refused

pub returns-in-Err-clause-refuses : goal.returns-in-Err-clause-refuses
returns-in-Err-clause-refuses c = none_refuses c.args.text.now c.in-Err.stop c.in-Err.ensures.only
    c.in-Err.ensures.refuses

pub returns-clause-found : goal.returns-clause-found
returns-clause-found c = some_found c.args.text.now c.in-Ok.list c.in-Ok.ensures.fits c.in-Ok.ensures.found
    c.in-Ok.ensures.only c.parse_program.result c.parse_program.ensures.found

pub returns-clause-only : goal.returns-clause-only
returns-clause-only c = some_only c.args.text.now c.in-Ok.list c.in-Ok.ensures.fits c.in-Ok.ensures.found
    c.in-Ok.ensures.only c.parse_program.result c.parse_program.ensures.only

pub returns-clause-refused : goal.returns-clause-refused
returns-clause-refused c = some_refused c.args.text.now c.in-Ok.list c.in-Ok.ensures.fits c.in-Ok.ensures.found
    c.in-Ok.ensures.only c.parse_program.result c.parse_program.ensures.refused

pub returns-clause-refuses : goal.returns-clause-refuses
returns-clause-refuses c = some_refuses c.args.text.now c.in-Ok.list c.in-Ok.ensures.fits c.in-Ok.ensures.found
    c.in-Ok.ensures.only c.parse_program.result c.in-Ok.ensures.refuses c.parse_program.ensures.refuses

pub returns-clause-given : goal.returns-clause-given
returns-clause-given c = some_given c.args.text.now c.in-Ok.list c.in-Ok.ensures.fits c.in-Ok.ensures.found
    c.in-Ok.ensures.only c.parse_program.result c.parse_program.ensures.found
