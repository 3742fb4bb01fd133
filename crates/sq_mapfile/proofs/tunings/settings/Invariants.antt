use Rattle.std.proofs.Common.{◌≡◌, ◌++◌, drop}
use Rattle.sq_mapfile.proofs.tunings.settings.Given as goal

abbrev pub invariant-loop-setting : goal.invariant-loop-setting
invariant-loop-setting l = l.found ++ drop l.setting-index l.list ≡ l.list
