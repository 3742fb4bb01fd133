-- What is asked of a plan file before its events: of its nodes, leaves, buffers and arrays.
use Rattle.std.specs.Prelude.{◌≡◌, ℕ, true, List, [], ◌∷◌, map, Option, Some, None, Result, Ok, Err}
use Rattle.std.specs.List.{All}
use Rattle.sq_text.specs.declared.fault.Fault.{Fault}
use Rattle.sq_text.specs.declared.fault.Stop.{Stop}
use Rattle.sq_text.specs.declared.fault.Stop.TheVariants.{Refused, NoMemory}
use Rattle.sq_text.specs.declared.code.Phase.TheVariants.{Plan}
use Rattle.sq_text.specs.First.{InTurn, in_turn}
use Rattle.sq_text.specs.Faults.{IsFirst}
use Rattle.sq_text.specs.Found.{firsts, nothing_found}
use Rattle.sq_ast.specs.declared.program.Variant.{Variant}
use Rattle.sq_ast.specs.Given.{IsGiven}
use Rattle.sq_leaf.specs.Leaf.{is_leaf_body}
use Rattle.sq_ir.specs.Machines.{AreNodes}
use Rattle.sq_ir.specs.declared.plan.Leaf.{Leaf}
use Rattle.sq_plantext.specs.declared.text.BufferLine.{BufferLine}
use Rattle.sq_plantext.specs.declared.text.ArrayLine.{ArrayLine}
use Rattle.sq_plantext.specs.declared.text.LeafText.{LeafText}
use Rattle.sq_plantext.specs.declared.text.PlanText.{PlanText}
use Rattle.sq_planfile.specs.Files.{nodes_of, leaf_of}
use Rattle.sq_planfile.specs.Sound.{IsLeafText, IsBufferLine, AreArrays}
use Rattle.sq_planfile.specs.Faults.{NodeFault, LeafFault, BufferFault, ArrayFault}
use Rattle.sq_planheads.specs.Buffers.{buffer_breach}
use Rattle.sq_planheads.specs.Arrays.{sites, array_breach}

-- nodes, leaves, buffers and arrays are sound
pub record AreHeads (x : PlanText) : Type 0 where
  pub nodes : AreNodes (nodes_of x)
  pub leaves : All IsLeafText x.leaves
  pub buffers : All (IsBufferLine (nodes_of x)) x.buffers
  pub arrays : AreArrays x.buffers [] x.arrays

-- every fault of them: of a group only where none before it has one
abbrev pub HeadFault : PlanText → Fault → Type 0
HeadFault x = InTurn (NodeFault x) (InTurn (LeafFault x) (InTurn (BufferFault x) (ArrayFault x)))

-- a task that a text gives, which is a leaf
pub record IsGivenTask (v : Variant) : Type 0 where
  pub given : IsGiven (record { tasks = v ∷ [] })
  pub leaf : is_leaf_body v.body ≡ true

-- the task of each of these leaves is
abbrev pub AreGiven : List LeafText → Type 0
AreGiven [] = Unit {0}
AreGiven (l ∷ ls) = IsGivenTask l.task × AreGiven ls

-- what is answered: the leaves with their code, where all is sound; else the first fault; or memory ran out
abbrev pub Compiles : PlanText → Result (List Leaf) Stop → Type 0
Compiles x (Ok made) = AreHeads x × (made ≡ map leaf_of x.leaves)
Compiles x (Err (Refused f)) = IsFirst (HeadFault x) (Some f)
Compiles x (Err NoMemory) = Unit {0}

-- the first fault of buffers at levels down to this one, or where they have none of arrays
abbrev pub line_fault : (last : ℕ) → List BufferLine → List ArrayLine → Option Fault
line_fault last buffers arrays =
    in_turn (firsts (buffer_breach last) (nothing_found Plan) buffers).fault
    (firsts (array_breach buffers) (nothing_found Plan) (sites [] [] arrays)).fault

-- what is answered with the leaves: these, where there is no fault behind them; else this one; or memory ran out
abbrev pub Behind : List Leaf → Option Fault → Result (List Leaf) Stop → Type 0
Behind leaves fault (Ok made) = (fault ≡ None) × (made ≡ leaves)
Behind leaves fault (Err (Refused f)) = fault ≡ Some f
Behind leaves fault (Err NoMemory) = Unit {0}
