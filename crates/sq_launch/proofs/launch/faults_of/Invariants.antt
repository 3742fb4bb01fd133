use Rattle.std.proofs.Common.{◌≡◌, ◌++◌, drop, map}
use Rattle.sq_arrays.specs.Arrays.{wanted}
use Rattle.sq_launch.specs.Launching.{fault_args}
use Rattle.sq_launch.proofs.launch.faults_of.Given as goal

abbrev pub invariant-loop-want : goal.invariant-loop-want
invariant-loop-want l = l.faults.items ++ fault_args (map wanted (drop l.want-index l.wants)) ≡ fault_args
    (map wanted l.wants)
