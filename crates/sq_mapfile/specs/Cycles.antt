-- Calls of instances, as a graph, and the calls that lie on a cycle.
use Rattle.std.specs.Prelude.{◌≡◌, ℕ, List, [], ◌∷◌, Option, Some, None, if◌then◌else◌, slice_get}
use Rattle.sq_text.specs.declared.code.Phase.TheVariants as phase
use Rattle.sq_text.specs.declared.code.Code.TheVariants as code
use Rattle.sq_text.specs.declared.fault.Arg.TheVariants as arg
use Rattle.sq_text.specs.declared.fault.Fault.{Fault}
use Rattle.sq_text.specs.First.{HoldsIn}
use Rattle.sq_text.specs.Found.{breach, fault_by}
use Rattle.sq_text.specs.declared.word.Word.{Word}
use Rattle.sq_mapfile.specs.declared.text.ItemText.{ItemText}
use Rattle.sq_mapfile.specs.declared.text.ItemText.TheVariants.{Call}
use Rattle.sq_mapfile.specs.declared.text.InstanceText.{InstanceText}
use Rattle.sq_mapfile.specs.declared.text.MappingText.{MappingText}
use Rattle.sq_mapfile.specs.Names.{of_each, stands_before, index_of, call_index}

-- a call of one instance by another, each counted from 0, and where the callee is named
pub record CallText : Type 0 where
  pub caller : ℕ
  pub callee : ℕ
  pub name : Word

-- the call of an instance, where there is one of the name
abbrev pub call_to : ℕ → Option ℕ → Word → List CallText
call_to caller None name = []
call_to caller (Some callee) name = record { caller = caller; callee = callee; name = name } ∷ []

-- the call of the k-th item: of two items for one task the first counts
abbrev pub item_calls : List InstanceText → ℕ → List ItemText → ℕ → ItemText → List CallText
item_calls instances caller items k (Call task name) =
    if stands_before (call_index items task.name) k then [] else call_to caller (index_of instances name.name) name
item_calls instances caller items k _ = []

-- those of the i-th instance: of two instances of a name the first counts
abbrev pub instance_calls : List InstanceText → ℕ → InstanceText → List CallText
instance_calls instances i x =
    if stands_before (index_of instances x.name.name) i then [] else of_each (item_calls instances i x.items) 0 x.items

-- all calls of these instances, in the order of the text
abbrev pub calls_among : List InstanceText → List CallText
calls_among instances = of_each (instance_calls instances) 0 instances

abbrev pub calls_of : MappingText → List CallText
calls_of m = calls_among m.instances

-- one of the calls is of b by a
pub record Calls (calls : List CallText) (a b : ℕ) : Type 0 where
  pub index : ℕ
  pub call : CallText
  pub there : slice_get calls index ≡ Some call
  pub caller : call.caller ≡ a
  pub callee : call.callee ≡ b

-- calls lead from an instance to another, in any number of steps
pub data Leads (calls : List CallText) (a : ℕ) : ℕ → Type 0 where
  here : Leads calls a a
  further : {b c : ℕ} → Leads calls a b → Calls calls b c → Leads calls a c

-- the fault of a call on a cycle
abbrev pub cycle_at : CallText → Fault
cycle_at call = fault_by phase.Mapping (breach code.Cycle call.name.place (arg.Word call.name.name ∷ []))

-- the call lies on a cycle: calls lead from its callee back to its caller
pub record IsOnCycle (calls : List CallText) (call : CallText) (f : Fault) : Type 0 where
  pub back : Leads calls call.callee call.caller
  pub is : f ≡ cycle_at call

abbrev pub CycleFault : MappingText → Fault → Type 0
CycleFault m f = HoldsIn (IsOnCycle (calls_of m)) (calls_of m) f
