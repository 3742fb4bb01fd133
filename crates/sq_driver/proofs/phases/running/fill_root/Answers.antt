use Rattle.std.proofs.Common.{◌∙◌, List, map, refl, ap}
use Rattle.sq_text.specs.declared.fault.Arg.{Arg}
use Rattle.sq_arrays.specs.Arrays.{wanted}
use Rattle.sq_launch.specs.Launching.{args_at}
use Rattle.sq_driver.proofs.Datas.{there_at, given_values, unfit}
use Rattle.sq_driver.proofs.EntryArrays.{args_are}
use Rattle.sq_driver.proofs.phases.running.fill_root.Goals as goal

pub returns-in-Ok-clause-filled : goal.returns-in-Ok-clause-filled
returns-in-Ok-clause-filled g c =
    given_values (map wanted c.args.wants.now) _ c.args.name.now _ c.read_root.result c.read_root.ensures.gives
    c.in-Ok.ensures.there c.in-Ok.field-0 c.in-Ok.is

pub returns-in-Refused-clause-filled : goal.returns-in-Refused-clause-filled
returns-in-Refused-clause-filled g c =
    unfit (map wanted c.args.wants.now) _ c.args.name.now _ c.read_root.result c.read_root.ensures.gives
    (there_at _ c.args.name.now c.in-Err.ended.end c.in-Refused.code c.in-Refused.place c.in-Refused.is
    c.in-Err.ensures.there)
    c.in-Err.ended _ c.in-Refused.code c.in-Refused.place c.code_of.result c.args_at.result c.in-Err.is refl
    c.in-Refused.is c.code_of.ensures
    (c.args_at.ensures
    ∙ (ap (λ (faults : List (List Arg)). args_at faults c.in-Err.ended.array) c.requires.faults
    ∙ args_are (map wanted c.args.wants.now) c.in-Err.ended.array))
