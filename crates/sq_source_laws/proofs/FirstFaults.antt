-- The first fault of a text is one, group by group: of the file and its tokens, of the grammar, of the rules.
use Rattle.std.proofs.Common.{◌≡◌, ℕ, ◌<◌, ◌≤◌, inl, inr, List, Option, Some, None, refl, ◌∙◌, ap, subst, arith}
use Rattle.std.specs.Option.{IfSome, IsSomeAnd}
use Rattle.sq_text.specs.declared.place.Place.{Place}
use Rattle.sq_text.specs.Places.{start}
use Rattle.sq_text.specs.declared.code.Phase.{Phase}
use Rattle.sq_text.specs.declared.code.Phase.TheVariants as phase
use Rattle.sq_text.specs.declared.code.Code.{Code}
use Rattle.sq_text.specs.declared.fault.Fault.{Fault}
use Rattle.sq_text.specs.First.{InTurn}
use Rattle.sq_text.specs.Faults.{IsFirst}
use Rattle.sq_lexer.specs.Faults.{fault, file_limit, BreaksFrom, HasFault, too_long, breaks}
use Rattle.sq_patterns.proofs.Places.{same_fault}
use Rattle.sq_machfile.specs.Faults.{LimitFault}
use Rattle.sq_machfile.specs.Machines.{IsSyntaxFault, SyntaxFault as MachineSyntax, BrokenLimit, MachineFault}
use Rattle.sq_ast.specs.declared.program.Program.{Program}
use Rattle.sq_machfile.specs.declared.level.Level.{Level}
use Rattle.sq_mapfile.specs.declared.text.Tunables.{Tunables}
use Rattle.sq_mapfile.specs.declared.text.Tunables.TheVariants.{Fixed}
use Rattle.sq_mapfile.specs.Mappings.{IsSyntaxFaultOf, SyntaxFault as MappingSyntax, BreaksRule, RuleFault, MappingFault}
use Rattle.sq_source_laws.proofs.Texts.{OneList, one_machine_text, one_mapping_text}
use Rattle.sq_source_laws.proofs.TokenPlaces.{tokens_rise}
use Rattle.sq_source_laws.proofs.Determined.{Tied, told_one}
use Rattle.sq_source_laws.proofs.MachineWords.{machine_among}
use Rattle.sq_source_laws.proofs.MachineFaults.{machine_table, limits_told}
use Rattle.sq_source_laws.proofs.MappingWords.{mapping_among}
use Rattle.sq_source_laws.proofs.MappingFaults.{rule_table, rules_told}

-- A text breaks at one place for one reason.
abbrev pub OneBreak : Type 0
OneBreak = (text : List ℕ) (c d : Code) (p q : Place) → BreaksFrom start text c p → BreaksFrom start text d q → (c ≡ d) × (p ≡ q)

-- of two groups of faults the first is one where each of them has one
one_in_turn : (P Q : Fault → Type 0) (f g : Fault) → (P f → P g → f ≡ g) → (Q f → Q g → f ≡ g) → InTurn P Q f → InTurn P Q g → f ≡ g
one_in_turn P Q f g p q (inl a) (inl b) = p a b
one_in_turn P Q f g p q (inl a) (inr b) = absurd (b.0 f a)
one_in_turn P Q f g p q (inr a) (inl b) = absurd (a.0 g b)
one_in_turn P Q f g p q (inr a) (inr b) = q a.1 b.1

tied : (Holds : Fault → Type 0) (f g : Fault) → IsFirst Holds (Some f) → IsFirst Holds (Some g) → Tied f g
tied Holds f g a b = record { here = a.1 g b.0; there = b.1 f a.0 }

-- a file is too long, or it isn't
not_both : (limit : Option ℕ) (n : ℕ) → IfSome limit (λ most. n ≤ most) → IsSomeAnd limit (λ most. most < n) → ⊥
not_both None n fits long = absurd long
not_both (Some most) n fits long = omega (arith, fits, long)

module _ (once : OneBreak) where
  file_one : {phase : Phase} {text : List ℕ} {f g : Fault} → HasFault phase text f → HasFault phase text g → f ≡ g
  file_one (too_long a) (too_long b) = refl
  file_one {phase} (too_long a) (breaks fits b) = absurd (not_both (file_limit phase) _ fits a)
  file_one {phase} (breaks fits b) (too_long a) = absurd (not_both (file_limit phase) _ fits a)
  file_one {phase} {text} (breaks {c = c} {place = p} fits a) (breaks {c = d} {place = q} more b) =
      let same = once text c d p q a b in ap (λ c. fault phase c (Some p)) same.0 ∙ ap (λ p. fault phase d (Some p)) same.1

module _ (one : OneList) (once : OneBreak) (text : List ℕ) where
  -- ---- machines

  machine_syntax_one : (f g : Fault) → MachineSyntax text f → MachineSyntax text g → f ≡ g
  machine_syntax_one f g a b =
      same_fault a.tokens g f (subst (λ ts. IsSyntaxFault ts g) (one text b.tokens a.tokens b.tokens_of a.tokens_of) b.faulty) a.faulty

  limit_one : (f g : Fault) → Tied f g → BrokenLimit text f → BrokenLimit text g → f ≡ g
  limit_one f g both a b =
      let ts = a.writes.tokens in
      let rise = tokens_rise a.writes.tokens_of in
      let among = machine_among ts a.machine a.writes.grammar in
      let same = one_machine_text one text b.machine a.machine b.writes a.writes in
      told_one (machine_table a.machine ts) f g (limits_told ts a.machine rise among f a.broken)
      (limits_told ts a.machine rise among g (subst (λ x. LimitFault x g) same b.broken)) both

  pub machine_once : (f g : Fault) → IsFirst (MachineFault text) (Some f) → IsFirst (MachineFault text) (Some g) → f ≡ g
  machine_once f g a b =
      one_in_turn (HasFault phase.Machine text) (InTurn (MachineSyntax text) (BrokenLimit text)) f g (file_one once)
      (one_in_turn (MachineSyntax text) (BrokenLimit text) f g (machine_syntax_one f g) (limit_one f g (tied (MachineFault text) f g a b))) a.0 b.0

  -- ---- mappings

  mapping_syntax_one : (tunables : Tunables) (f g : Fault) → MappingSyntax tunables text f → MappingSyntax tunables text g → f ≡ g
  mapping_syntax_one tunables f g a b =
      same_fault a.tokens g f (subst (λ ts. IsSyntaxFaultOf tunables ts g) (one text b.tokens a.tokens b.tokens_of a.tokens_of) b.faulty) a.faulty

  module _ (program : Program) (levels : List Level) where
    rule_one : (f g : Fault) → Tied f g → RuleFault Fixed (BreaksRule program levels) text f → RuleFault Fixed (BreaksRule program levels) text g → f ≡ g
    rule_one f g both a b =
        let ts = a.writes.tokens in
        let rise = tokens_rise a.writes.tokens_of in
        let among = mapping_among Fixed ts a.mapping a.writes.grammar in
        let same = one_mapping_text one text b.mapping a.mapping b.writes a.writes in
        told_one (rule_table program levels ts a.mapping) f g (rules_told program levels ts a.mapping rise among f a.broken)
        (rules_told program levels ts a.mapping rise among g (subst (λ m. BreaksRule program levels m g) same b.broken)) both

    pub mapping_once : (f g : Fault) → IsFirst (MappingFault program levels text) (Some f) → IsFirst (MappingFault program levels text) (Some g) → f ≡ g
    mapping_once f g a b =
        let rules = RuleFault Fixed (BreaksRule program levels) text in
        one_in_turn (HasFault phase.Mapping text) (InTurn (MappingSyntax Fixed text) rules) f g (file_one once)
        (one_in_turn (MappingSyntax Fixed text) rules f g (mapping_syntax_one Fixed f g) (rule_one f g (tied (MappingFault program levels text) f g a b))) a.0 b.0
