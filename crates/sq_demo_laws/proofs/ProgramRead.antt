-- The demo's program is what its text stands for, which has no fault.
use Rattle.std.proofs.Common.{◌≡◌, ℕ, true, leb, List, [], ◌∷◌, refl, subst, arith}
use Rattle.std.specs.List.{list_all}
use Rattle.sq_text.specs.declared.code.Phase.TheVariants.{Program as ProgramPhase}
use Rattle.sq_text.specs.declared.fault.Fault.{Fault}
use Rattle.sq_lexer.specs.declared.token.Token.{Token}
use Rattle.sq_lexer.specs.Tokens.{AreTokens}
use Rattle.sq_lexer.specs.Faults.{FitsFile, HasFault, most_bytes}
use Rattle.sq_ast.specs.declared.program.Program.{Program}
use Rattle.sq_ast.specs.Grammar.{Leveled, Within, most_levels}
use Rattle.sq_parser.specs.Programs as parsing
use Rattle.sq_demo.specs.Report.Demo.{demo_program}
use Rattle.sq_demo_laws.specs.Texts.{program_tokens}
use Rattle.sq_demo_laws.specs.Tree.{demo_tree}
use Rattle.sq_demo_laws.proofs.Given.{OneList, NeverBoth, OneProgram, NeverMisread}
use Rattle.sq_demo_laws.proofs.Tests.{both, at_most}
use Rattle.sq_demo_laws.proofs.TextTokens.{program_has_tokens}
use Rattle.sq_demo_laws.proofs.MachineRead.{no_lexing}
use Rattle.sq_demo_laws.proofs.ProgramTree.{inner_leveled, leaf_leveled, are_kinds, program_derived}

all_within : (most : ℕ) (ts : List Leveled) → list_all (λ (t : Leveled). leb t.level most) ts ≡ true → Within most ts
all_within most [] h = tt
all_within most (t ∷ ts) h =
    let x = both (leb t.level most) (list_all (λ (t : Leveled). leb t.level most) ts) h in
    (at_most t.level most x.0, all_within most ts x.1)

few_levels : list_all (λ (t : Leveled). leb t.level most_levels) (inner_leveled leaf_leveled) ≡ true
unfolding inner_leveled leaf_leveled most_levels
few_levels = refl

pub program_stands : parsing.IsProgram program_tokens demo_tree
program_stands = record {
  leveled = inner_leveled leaf_leveled;
  tokens = are_kinds;
  within = all_within most_levels (inner_leveled leaf_leveled) few_levels;
  text = program_derived;
}

fits_file : FitsFile ProgramPhase demo_program
unfolding demo_program most_bytes
fits_file = omega arith

module _ (one_list : OneList) (never : NeverBoth) (one : OneProgram) (misread : NeverMisread) where
  same_tokens : (ts : List Token) → AreTokens demo_program ts → ts ≡ program_tokens
  same_tokens ts are = one_list demo_program ts program_tokens are program_has_tokens

  pub one_tree : (ts : List Token) (p : Program) → AreTokens demo_program ts → parsing.IsProgram ts p → p ≡ demo_tree
  one_tree ts p are stand = one program_tokens p demo_tree
      (subst (λ ts. parsing.IsProgram ts p) (same_tokens ts are) stand) program_stands

  pub no_token_fault : (f : Fault) → HasFault ProgramPhase demo_program f → ⊥
  no_token_fault f h = no_lexing never ProgramPhase demo_program program_tokens program_has_tokens fits_file
      (λ t fits. omega (arith, t, fits)) f h

  pub no_misreading : (ts : List Token) (f : Fault) → AreTokens demo_program ts → parsing.HasFault ts f → ⊥
  no_misreading ts f are h = misread program_tokens demo_tree f program_stands
      (subst (λ ts. parsing.HasFault ts f) (same_tokens ts are) h)
