-- The machine of the demo's text, which has no fault.
use Rattle.std.proofs.Common.{◌≡◌, inl, inr, ℕ, true, List, [], ◌∷◌, Option, Some, None, is_none, refl, ◌∙◌, ap, subst, arith}
use Rattle.std.specs.List.{list_all}
use Rattle.sq_text.specs.declared.code.Phase.{Phase}
use Rattle.sq_text.specs.declared.code.Phase.TheVariants.{Machine}
use Rattle.sq_text.specs.declared.fault.Fault.{Fault}
use Rattle.sq_text.specs.Found.{Breach, BreaksIn}
use Rattle.sq_lexer.specs.declared.token.Token.{Token}
use Rattle.sq_lexer.specs.Tokens.{AreTokens}
use Rattle.sq_lexer.specs.Faults.{FitsFile, HasFault, IsTooLong, too_long, breaks, most_bytes}
use Rattle.sq_patterns.specs.Texts.{SyntaxAt}
use Rattle.sq_patterns.proofs.Places.{none_in_text, one_text}
use Rattle.sq_machfile.specs.declared.text.MachineText.{MachineText}
use Rattle.sq_machfile.specs.Grammar.{IsText, of_levels, a_level, one_below, none_below}
use Rattle.sq_machfile.specs.Faults.{rules_of, LimitFault}
use Rattle.sq_machfile.specs.Machines.{Hierarchy, machine_of, Writes, StandsFor, MachineFault}
use Rattle.sq_machfile.proofs.Texts.{machine_format}
use Rattle.sq_demo.specs.Report.Demo.{demo_machine}
use Rattle.sq_demo_laws.specs.Texts.{at, machine_tokens}
use Rattle.sq_demo_laws.specs.Machine.{machine_text, demo_hierarchy}
use Rattle.sq_demo_laws.proofs.Given.{OneList, NeverBoth}
use Rattle.sq_demo_laws.proofs.TextTokens.{machine_has_tokens}

pub machine_derived : IsText machine_tokens machine_text
unfolding machine_tokens
machine_derived = record { end = at 1 128; text = of_levels a_level (one_below a_level (one_below a_level none_below)) }

-- ---- no fault

pub no_breach : (phase : Phase) (rules : List (Option Breach)) → list_all is_none rules ≡ true → (f : Fault)
    → BreaksIn (λ o. o) phase rules f → ⊥
no_breach phase [] h f b = b
no_breach phase (None ∷ rules) h f (inl e) = cc
no_breach phase (None ∷ rules) h f (inr b) = no_breach phase rules h f b
no_breach phase (Some x ∷ rules) h f b = cc

no_limit : (f : Fault) → LimitFault machine_text f → ⊥
no_limit f h = no_breach Machine (rules_of machine_text) refl f h

fits_file : FitsFile Machine demo_machine
unfolding demo_machine most_bytes
fits_file = omega arith

-- a text with tokens has no fault of tokens, and none of its length where it fits
pub no_lexing : (never : NeverBoth) (p : Phase) (text : List ℕ) (ts : List Token) → AreTokens text ts → FitsFile p text
    → (IsTooLong p text → FitsFile p text → ⊥) → (f : Fault) → HasFault p text f → ⊥
no_lexing never p text ts are fits long f (too_long t) = long t fits
no_lexing never p text ts are fits long f (breaks {c = c} {place = place} g b) = never text ts c place are b

module _ (one : OneList) (never : NeverBoth) where
  same_tokens : (ts : List Token) → AreTokens demo_machine ts → ts ≡ machine_tokens
  same_tokens ts are = one demo_machine ts machine_tokens are machine_has_tokens

  same_text : (m : MachineText) → Writes demo_machine m → m ≡ machine_text
  same_text m w = one_text machine_format machine_tokens m machine_text
      (subst (λ ts. IsText ts m) (same_tokens w.tokens w.tokens_of) w.grammar) machine_derived

  pub one_machine : (h : Hierarchy) → StandsFor demo_machine h → h ≡ demo_hierarchy
  one_machine h s = s.is ∙ ap machine_of (same_text s.written s.writes)

  pub machine_has_no_fault : (f : Fault) → MachineFault demo_machine f → ⊥
  machine_has_no_fault f (inl h) = no_lexing never Machine demo_machine machine_tokens machine_has_tokens fits_file
      (λ t fits. omega (arith, t, fits)) f h
  machine_has_no_fault f (inr (none, inl h)) =
      none_in_text machine_tokens machine_text machine_derived h.faulty.index
      (subst (λ ts. SyntaxAt IsText ts h.faulty.index) (same_tokens h.tokens h.tokens_of) h.faulty.at)
  machine_has_no_fault f (inr (none, inr (also, h))) =
      no_limit f (subst (λ m. LimitFault m f) (same_text h.machine h.writes) h.broken)
