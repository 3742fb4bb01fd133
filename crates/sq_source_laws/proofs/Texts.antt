-- A text has one list of tokens, and each grammar gives of one list of tokens one tree.
use Rattle.std.proofs.Common.{◌≡◌, ℕ, List, sym, ◌∙◌, ap, subst}
use Rattle.sq_lexer.specs.declared.token.Token.{Token}
use Rattle.sq_lexer.specs.Tokens.{AreTokens}
use Rattle.sq_ast.specs.declared.program.Program.{Program}
use Rattle.sq_parser.specs.Programs.{IsProgram}
use Rattle.sq_parser.proofs.Whole.{same_program}
use Rattle.sq_patterns.proofs.Places.{one_text}
use Rattle.sq_machfile.specs.declared.text.MachineText.{MachineText}
use Rattle.sq_machfile.specs.Grammar.{IsText}
use Rattle.sq_machfile.specs.Machines.{Hierarchy, machine_of, Writes as WritesMachine, StandsFor as IsMachineOf}
use Rattle.sq_machfile.proofs.Texts.{machine_format}
use Rattle.sq_machfile.specs.declared.level.Level.{Level}
use Rattle.sq_mapping.specs.declared.mapping.Mapping.{Mapping}
use Rattle.sq_mapfile.specs.declared.text.MappingText.{MappingText}
use Rattle.sq_mapfile.specs.declared.text.Tunables.TheVariants.{Fixed}
use Rattle.sq_mapfile.specs.Grammar.{IsTextOf}
use Rattle.sq_mapfile.specs.Mappings.{Resolves, Writes as WritesMapping, StandsFor as IsMappingOf}
use Rattle.sq_mapfile.proofs.Texts.{mapping_format}
use Rattle.sq_mapfile.proofs.Resolved.{one_resolved}

-- A text has one list of tokens.
abbrev pub OneList : Type 0
OneList = (text : List ℕ) (ts us : List Token) → AreTokens text ts → AreTokens text us → ts ≡ us

module _ (one : OneList) where
  pub one_program : (text : List ℕ) (ts us : List Token) (p q : Program) → AreTokens text ts → IsProgram ts p → AreTokens text us → IsProgram us q
      → p ≡ q
  one_program text ts us p q a h b k = same_program ts p q h (subst (λ ts. IsProgram ts q) (one text us ts b a) k)

  -- what a machine file is written as, is one
  pub one_machine_text : (text : List ℕ) (a b : MachineText) → WritesMachine text a → WritesMachine text b → a ≡ b
  one_machine_text text a b v w =
      one_text machine_format v.tokens a b v.grammar (subst (λ ts. IsText ts b) (one text w.tokens v.tokens w.tokens_of v.tokens_of) w.grammar)

  pub one_machine : (text : List ℕ) (m n : Hierarchy) → IsMachineOf text m → IsMachineOf text n → m ≡ n
  one_machine text m n s t = s.is ∙ ap machine_of (one_machine_text text s.written t.written s.writes t.writes) ∙ sym t.is

  -- and what a mapping file is
  pub one_mapping_text : (text : List ℕ) (a b : MappingText) → WritesMapping text a → WritesMapping text b → a ≡ b
  one_mapping_text text a b v w =
      one_text mapping_format v.tokens a b v.grammar (subst (λ ts. IsTextOf Fixed ts b) (one text w.tokens v.tokens w.tokens_of v.tokens_of) w.grammar)

  pub one_mapping : (levels : List Level) (text : List ℕ) (m n : Mapping) → IsMappingOf levels text m → IsMappingOf levels text n → m ≡ n
  one_mapping levels text m n s t =
      let same : t.written ≡ s.written = one_mapping_text text t.written s.written t.writes s.writes in
      one_resolved levels s.written m n s.resolves (subst (λ x. Resolves levels x n) same t.resolves)
