use Rattle.std.proofs.Common.{refl}
use Rattle.sq_words.specs.Words.{asked, run_of}
use Rattle.sq_driver.proofs.Stopping.{stop_ends}
use Rattle.sq_driver.proofs.Finals.{causes_after, sources_at, sources_told, resolved_at}
use Rattle.sq_driver.proofs.RunPhases.{sources_stop, ended_told}
use Rattle.sq_driver.proofs.commands.run.RunPerform.perform.Goals as goal

pub returns-in-Err-clause-ended : goal.returns-in-Err-clause-ended
returns-in-Err-clause-ended g c = stop_ends
    (run_of c.args.self.now.program.now c.args.self.now.mapping.now c.args.self.now.machine.now
    c.args.self.now.input.now (asked c.args.self.now.order) c.args.self.now.traced) _ _ c.in-Err.end
    (sources_stop c.args.self.now.program.now c.args.self.now.mapping.now c.args.self.now.machine.now
    c.args.self.now.input.now (asked c.args.self.now.order) c.args.self.now.traced
    (g.F.Files.content c.args.world.now.files.now) c.in-Err.end c.in-Err.ensures.stopped _)
    (record { out = refl; out_faults = refl; err = refl; err_faults = refl })

pub returns-in-Err-resolved-clause-ended : goal.returns-in-Err-resolved-clause-ended
returns-in-Err-resolved-clause-ended g c = stop_ends
    (run_of c.args.self.now.program.now c.args.self.now.mapping.now c.args.self.now.machine.now
    c.args.self.now.input.now (asked c.args.self.now.order) c.args.self.now.traced) _ _ c.in-Err-resolved.end
    (sources_stop c.args.self.now.program.now c.args.self.now.mapping.now c.args.self.now.machine.now
    c.args.self.now.input.now (asked c.args.self.now.order) c.args.self.now.traced
    (g.F.Files.content c.args.world.now.files.now) c.in-Err-resolved.end
    (c.in-Err-resolved.ensures.stopped _ c.args.self.now.program.now c.args.self.now.mapping.now
    c.args.self.now.machine.now c.in-Ok.ensures.held) _)
    (record { out = refl; out_faults = refl; err = refl; err_faults = refl })

pub run_resolved-requires-clause-forms : goal.run_resolved-requires-clause-forms
run_resolved-requires-clause-forms g c = resolved_at c.in-Ok.sources.typed c.in-Ok.sources.machine
    c.in-Ok.sources.mapping
    c.in-Ok-resolved.resolved c.in-Ok-resolved.ensures.resolved

pub run_resolved-requires-clause-holds : goal.run_resolved-requires-clause-holds
run_resolved-requires-clause-holds g c =
    sources_at _ c.args.self.now.program.now c.args.self.now.mapping.now c.args.self.now.machine.now
    c.in-Ok.sources.typed _ c.in-Ok.sources.machine _ c.in-Ok.sources.mapping _
    c.in-Ok-resolved.ensures.resolved.tree_is c.in-Ok-resolved.ensures.resolved.machine_is
    c.in-Ok-resolved.ensures.resolved.mapping_is
    (sources_told _ _ c.args.self.now.program.now c.args.self.now.mapping.now c.args.self.now.machine.now
    c.in-Ok.sources.typed c.in-Ok.sources.machine c.in-Ok.sources.mapping c.in-Ok.ensures.content
    c.in-Ok.ensures.held)

pub returns-clause-ended : goal.returns-clause-ended
returns-clause-ended g c = ended_told
    (run_of c.args.self.now.program.now c.args.self.now.mapping.now c.args.self.now.machine.now
    c.args.self.now.input.now (asked c.args.self.now.order) c.args.self.now.traced) _ _ _ c.run_resolved.result
    c.in-Ok.ensures.content c.run_resolved.ensures.ended

pub returns-in-Err-resolved-clause-cause : goal.returns-in-Err-resolved-clause-cause
returns-in-Err-resolved-clause-cause g c =
    causes_after _ _ _ _ _ _ _ c.in-Ok.ensures.cause (c.in-Err-resolved.ensures.cause _ _)

pub returns-clause-cause : goal.returns-clause-cause
returns-clause-cause g c = causes_after _ _ _ _ _ _ _ c.in-Ok.ensures.cause c.run_resolved.ensures.cause
