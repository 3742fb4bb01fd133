-- How an array is passed: what of it goes into the call, and what comes back.
use Rattle.std.specs.Prelude.{Bool, true, false}
use Rattle.sq_ast.specs.declared.program.Mode.{Mode}
use Rattle.sq_ast.specs.declared.program.Mode.TheVariants.{Input, Output, Both}

-- whether the call begins with what the array holds
abbrev pub is_read : Mode → Bool
is_read Input = true
is_read Output = false
is_read Both = true

-- whether the array holds what the call leaves
abbrev pub is_written : Mode → Bool
is_written Input = false
is_written Output = true
is_written Both = true
