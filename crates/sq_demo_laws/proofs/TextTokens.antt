-- The tokens of the demo's texts.
use Rattle.std.proofs.Common.{◌≡◌, true, List, ℕ, refl, subst}
use Rattle.sq_text.specs.Places.{start}
use Rattle.sq_lexer.specs.declared.token.Token.{Token}
use Rattle.sq_lexer.specs.Tokens.{TokensFrom, AreTokens}
use Rattle.sq_demo.specs.Report.Demo.{demo_program, demo_mapping, demo_machine}
use Rattle.sq_demo_laws.specs.Texts.{program_tokens, mapping_tokens, machine_tokens}
use Rattle.sq_demo_laws.specs.Laws.{ProgramHasTokens, MappingHasTokens, MachineHasTokens}
use Rattle.sq_demo_laws.proofs.Pieces.{Piece, text_of, tokens_of, all_fit, tokens_fit, program_pieces, mapping_pieces, machine_pieces}

program_text : text_of program_pieces ≡ demo_program
unfolding program_pieces demo_program
program_text = refl

program_fits : all_fit program_pieces ≡ true
unfolding program_pieces
program_fits = refl

program_has : tokens_of start program_pieces ≡ program_tokens
unfolding program_pieces program_tokens
program_has = refl

mapping_text : text_of mapping_pieces ≡ demo_mapping
unfolding mapping_pieces demo_mapping
mapping_text = refl

mapping_fits : all_fit mapping_pieces ≡ true
unfolding mapping_pieces
mapping_fits = refl

mapping_has : tokens_of start mapping_pieces ≡ mapping_tokens
unfolding mapping_pieces mapping_tokens
mapping_has = refl

machine_text : text_of machine_pieces ≡ demo_machine
unfolding machine_pieces demo_machine
machine_text = refl

machine_fits : all_fit machine_pieces ≡ true
unfolding machine_pieces
machine_fits = refl

machine_has : tokens_of start machine_pieces ≡ machine_tokens
unfolding machine_pieces machine_tokens
machine_has = refl

tokens_are : (xs : List Piece) (text : List ℕ) (ts : List Token) → text_of xs ≡ text → all_fit xs ≡ true
    → tokens_of start xs ≡ ts
    → AreTokens text ts
tokens_are xs text ts is fits has =
    subst (λ us. TokensFrom start text us) has
    (subst (λ t. TokensFrom start t (tokens_of start xs)) is (tokens_fit start xs fits))

pub program_has_tokens : ProgramHasTokens
program_has_tokens = tokens_are program_pieces demo_program program_tokens program_text program_fits program_has

pub mapping_has_tokens : MappingHasTokens
mapping_has_tokens = tokens_are mapping_pieces demo_mapping mapping_tokens mapping_text mapping_fits mapping_has

pub machine_has_tokens : MachineHasTokens
machine_has_tokens = tokens_are machine_pieces demo_machine machine_tokens machine_text machine_fits machine_has
