use Rattle.sq_ir.specs.DraftLeaves.{leaves_of}
use Rattle.sq_driver.proofs.commands.span.write_chain.Goals as goal

pub heaviest_chain-requires : goal.heaviest_chain-requires
heaviest_chain-requires g c = (leaves_of c.args.plan.now.draft, c.requires.good.good.well_formed)
