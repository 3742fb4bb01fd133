use Rattle.std.proofs.Common.{refl}
use Rattle.sq_driver.proofs.Datas.{there_at, filled, unfit}
use Rattle.sq_driver.proofs.phases.entry.give_data.Goals as goal

pub returns-in-Ok-clause-read : goal.returns-in-Ok-clause-read
returns-in-Ok-clause-read g c = filled c.args.params.now _ _ c.args.name.now c.args.arrays _ _ c.read_arrays.result
    _ c.in-Ok.is c.read_arrays.ensures.keeps c.in-Ok.ensures.there c.read_arrays.ensures.gives

pub returns-in-Ok-args_of-clause-read : goal.returns-in-Ok-args_of-clause-read
returns-in-Ok-args_of-clause-read g c =
    unfit _ _ c.args.name.now _ c.read_arrays.result c.read_arrays.ensures.gives
    (there_at _ c.args.name.now c.in-Err.ended.end c.in-Refused.code c.in-Refused.place c.in-Refused.is
    c.in-Err.ensures.there)
    c.in-Err.ended _ c.in-Refused.code c.in-Refused.place c.code_of.result c.in-Ok-args_of.args c.in-Err.is refl
    c.in-Refused.is c.code_of.ensures c.in-Ok-args_of.ensures
