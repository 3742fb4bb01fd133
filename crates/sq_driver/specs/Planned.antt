-- A command that works on the plan of a program, and what is known once it has it.
use Rattle.std.specs.Prelude.{◌≡◌, ℕ, List, [], ◌∷◌, false, Option, Some}
use Rattle.sq_port.specs.Ports.{Content}
use Rattle.sq_text.specs.declared.code.Phase.{Phase}
use Rattle.sq_text.specs.declared.code.Phase.TheVariants.{Program, Types, Machine, Mapping, Resolve, Race, Capacity}
use Rattle.sq_ast.specs.declared.program.Program.{Program as Tree}
use Rattle.sq_machfile.specs.Machines.{Hierarchy}
use Rattle.sq_mapping.specs.declared.mapping.Mapping.{Mapping as Mapped}
use Rattle.sq_ir.specs.declared.plan.Plan.{Plan}
use Rattle.sq_spec.specs.declared.resolved.Resolved.{Resolved}
use Rattle.sq_compile.specs.Compiled.{IsPlanOf}
use Rattle.sq_words.specs.Words.{Command}
use Rattle.sq_driver.specs.declared.phases.planning.Names.{Names as ReadNames}
use Rattle.sq_driver.specs.Phases.{opens}
use Rattle.sq_driver.specs.Races.{IsResolved}
use Rattle.sq_driver.specs.Meaning.{AllPassed}
use Rattle.sq_driver.specs.SharedFiles.{ReadsSources, command_with}
use Rattle.sq_driver.specs.Evaluating.{HoldsSources}

-- the names of a program, a mapping and a machine
pub record Names : Type 0 where
  pub program : List ℕ
  pub mapping : List ℕ
  pub machine : List ℕ

-- the names that were read
abbrev pub named : ReadNames → Names
named names = record { program = names.program.now; mapping = names.mapping.now; machine = names.machine.now }

-- a command on the plan of these, which leaves the bank closed
pub record IsOnPlan (its : Command) (names : Names) : Type 0 where
  pub begun : ReadsSources its.kind
  pub rest : List Phase
  pub next : begun.rest ≡ Capacity ∷ rest
  pub named : its ≡ command_with its names.program names.mapping names.machine
  pub closed : opens its.kind ≡ false

-- these are the forms of the program that the files hold, and this is their plan
pub record HoldsPlan (its : Command) (names : Names) (told : Option Content) (r : Resolved) (plan : Plan) : Type 0
  where
    pub are : IsResolved r.typed.now r.machine.now r.mapping.now r
    pub held : HoldsSources told names.program names.mapping names.machine r.typed.now r.machine.now r.mapping.now
    pub passed : (c : Content) → told ≡ Some c → AllPassed its c
        (Program ∷ Types ∷ Machine ∷ Mapping ∷ Resolve ∷ Race ∷ Capacity ∷ [])
    pub plan_is : IsPlanOf r plan

-- ---- what follows

-- A program has one plan under a mapping on a machine: what `run` performs is what `plan` reports, `compile` writes and
-- `span` weighs.
abbrev pub PlanIsOne : Type 0
PlanIsOne = (tree : Tree) (hierarchy : Hierarchy) (mapped : Mapped) (r s : Resolved)
    → IsResolved tree hierarchy mapped r → IsResolved tree hierarchy mapped s
    → (p q : Plan) → IsPlanOf r p → IsPlanOf s q → p ≡ q
