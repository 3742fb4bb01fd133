-- What `compile` writes, read again: a plan file without faults that runs as the program.
use Rattle.std.specs.Prelude.{◌≡◌, ℕ, List}
use Rattle.sq_port.specs.Ports.{Content}
use Rattle.sq_text.specs.declared.fault.Fault.{Fault}
use Rattle.sq_checker.specs.Laws.{FileFault}
use Rattle.sq_compiled_laws.specs.Filed.Filed.{text_of}
use Rattle.sq_compiled_laws.specs.Refiled.{IsRefiled}
use Rattle.sq_words.specs.Words.{compile_of}
use Rattle.sq_driver.specs.Phases.{Inputs, inputs_of}
use Rattle.sq_driver.specs.Filing.{Filed}
use Rattle.sq_driver.specs.Meaning.{done, IsCause}

-- The text is that of the file of the program's plan. It has no fault. What it stands for, and for nothing else does, is
-- that file but for places, and runs as the program means.
pub record IsCompiledTo (inputs : Inputs) (text : List ℕ) : Type 0 where
  pub filed : Filed inputs
  pub text_is : text ≡ text_of filed.file
  pub faultless : (its : Fault) → FileFault text its → ⊥
  pub read : IsRefiled filed.forms filed.file

-- So `exec` accepts all that `compile` answers with Done, and runs it as the plan that `run` performs, but for the place
-- of a trap.
abbrev pub CompiledAreRead : Type 0
CompiledAreRead = (p m k : List ℕ) (c : Content) (text trace : List ℕ)
    → IsCause (compile_of p m k) c (done text trace) → IsCompiledTo (inputs_of c (compile_of p m k)) text
