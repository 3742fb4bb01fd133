-- The first fault of the limits.
use Rattle.std.proofs.Common.{◌≡◌, List, Option, sym, ◌∙◌, ap, subst}
use Rattle.sq_text.specs.declared.fault.Fault.{Fault}
use Rattle.sq_text.specs.declared.word.Word.{Word}
use Rattle.sq_machfile.specs.declared.nested.Nested.{Nested}
use Rattle.sq_machfile.specs.declared.text.LevelsText.{LevelsText}
use Rattle.sq_machfile.specs.declared.text.NodesText.{NodesText}
use Rattle.sq_machfile.specs.declared.text.MachineText.TheVariants.{Levels, Nodes}
use Rattle.sq_machfile.specs.Nesting.{nested}
use Rattle.sq_text.specs.declared.code.Phase.TheVariants.{Machine}
use Rattle.sq_text.specs.Faults.{IsFirst}
use Rattle.sq_text.specs.Found.{firsts, nothing_found}
use Rattle.sq_text.proofs.Breaches.{first_breach}
use Rattle.sq_machfile.specs.declared.text.MachineText.{MachineText}
use Rattle.sq_machfile.specs.Faults.{judge, rules_of, LimitFault}
use Rattle.sq_machfile.specs.Walk.{rules_by, levels_rules, nodes_rules}
use Rattle.sq_machfile.specs.Tallies.{capped}
use Rattle.sq_machfile.proofs.Before.{counts_before}
use Rattle.sq_machfile.proofs.Caps.{same_rules}

pub first_limit : (machine : MachineText) → IsFirst (LimitFault machine) (firsts judge (nothing_found Machine) (rules_by capped machine)).fault
first_limit machine = subst (λ rules. IsFirst (LimitFault machine) (firsts judge (nothing_found Machine) rules).fault) (sym (same_rules machine ∙ counts_before machine)) (first_breach judge Machine (rules_of machine))

-- the same of what is found for each version
pub even_first : (text : LevelsText) (o : Option Fault) → o ≡ (firsts judge (nothing_found Machine) (levels_rules capped text)).fault → IsFirst (LimitFault (Levels text)) o
even_first text o e = subst (IsFirst (LimitFault (Levels text))) (sym e) (first_limit (Levels text))

pub uneven_first : (text : NodesText) (names : List Word) (nodes : List Nested) (o : Option Fault) → names ≡ text.names → nodes ≡ nested text.nodes
    → o ≡ (firsts judge (nothing_found Machine) (nodes_rules capped names nodes)).fault → IsFirst (LimitFault (Nodes text)) o
uneven_first text names nodes o en em e = subst (IsFirst (LimitFault (Nodes text)))
    (sym (e ∙ ap (λ ns. (firsts judge (nothing_found Machine) (nodes_rules capped ns nodes)).fault) en ∙ ap (λ ns. (firsts judge (nothing_found Machine) (nodes_rules capped text.names ns)).fault) em))
    (first_limit (Nodes text))
