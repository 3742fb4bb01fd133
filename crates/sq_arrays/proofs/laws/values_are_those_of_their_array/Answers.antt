use Rattle.sq_arrays.proofs.Arrays.{all_values}
use Rattle.sq_arrays.proofs.laws.values_are_those_of_their_array.Goals as goal

pub returns : goal.returns
returns c = all_values
