-- What the text of a mapping stands for, and the one mapping that it does.
use Rattle.std.proofs.Common.{◌≡◌, ℕ, ◌<◌, ◌^◌, length, List, Result, Ok, Err, IfOk, inl, inr, sym, subst}
use Rattle.sq_text.specs.declared.code.Phase.TheVariants as phase
use Rattle.sq_text.specs.declared.fault.Fault.{Fault}
use Rattle.sq_text.specs.Answers.{Answers, Gives}
use Rattle.sq_text.specs.declared.fault.Stop.{Stop}
use Rattle.sq_text.specs.declared.fault.Stop.TheVariants.{Refused, NoMemory}
use Rattle.sq_lexer.specs.declared.token.Token.{Token}
use Rattle.sq_lexer.specs.Tokens.{AreTokens}
use Rattle.sq_lexer.specs.Faults.{FitsFile}
use Rattle.sq_ast.specs.declared.program.Program.{Program}
use Rattle.sq_machfile.specs.declared.level.Level.{Level}
use Rattle.sq_mapping.specs.declared.mapping.Mapping.{Mapping}
use Rattle.sq_mapfile.specs.declared.text.MappingText.{MappingText}
use Rattle.sq_mapfile.specs.declared.text.Tunables.TheVariants.{Fixed}
use Rattle.sq_mapfile.specs.Grammar.{IsText}
use Rattle.sq_mapfile.specs.Mappings.{Writes, BreaksRule, MappingFault, SpreadsOnce, Resolves, StandsFor}
use Rattle.sq_mapfile.specs.Resolving.{mapping_with}
use Rattle.sq_mapping.specs.Sound.{Sound}
use Rattle.sq_mapfile.proofs.Files.{Lexed, same_written, writes}
use Rattle.sq_mapfile.proofs.Sizes.{few_instances}
use Rattle.sq_mapfile.proofs.Resolved.{resolved, one_resolved}
use Rattle.sq_mapfile.proofs.Sounds.{sound}
use Rattle.sq_mapfile.proofs.Unbroken.{no_name_fault}
use Rattle.sq_mapfile.proofs.Acyclic.{no_cycle_fault}

module _ (program : Program) (levels : List Level) (text : List ℕ) where
  -- ---- the mapping

  stands : (ts : List Token) (m : MappingText) → length levels < 2 ^ 32 → Lexed text ts → IsText ts m → ((f : Fault) → BreaksRule program levels m f → ⊥)
      → StandsFor levels text (mapping_with levels m)
  stands ts m few lexed p none = record {
    written = m;
    writes = writes Fixed text ts m lexed p;
    resolves = resolved program levels m few (few_instances Fixed text m (writes Fixed text ts m lexed p)) (λ f broken. none f (inl broken));
  }

  pub rules_stand : (ts : List Token) (m : MappingText) (r : Result Mapping Stop) → length levels < 2 ^ 32 → Lexed text ts → IsText ts m → Answers (BreaksRule program levels m) r
      → IfOk r (λ mapping. mapping ≡ mapping_with levels m) → IfOk r (λ mapping. StandsFor levels text mapping)
  rules_stand ts m (Ok mapping) few lexed p h is = subst (StandsFor levels text) (sym is) (stands ts m few lexed p h)
  rules_stand ts m (Err stop) few lexed p h is = tt

  sound_with : (ts : List Token) (m : MappingText) → length levels < 2 ^ 32 → Lexed text ts → IsText ts m → ((f : Fault) → BreaksRule program levels m f → ⊥)
      → Sound program levels (mapping_with levels m)
  sound_with ts m few lexed p none =
      sound program levels m few (few_instances Fixed text m (writes Fixed text ts m lexed p)) (λ f broken. none f (inl broken)) (λ f cycle. none f (inr cycle))

  pub rules_sound : (ts : List Token) (m : MappingText) (r : Result Mapping Stop) → length levels < 2 ^ 32 → Lexed text ts → IsText ts m → Answers (BreaksRule program levels m) r
      → IfOk r (λ mapping. mapping ≡ mapping_with levels m) → IfOk r (λ mapping. Sound program levels mapping)
  rules_sound ts m (Ok mapping) few lexed p h is = subst (Sound program levels) (sym is) (sound_with ts m few lexed p h)
  rules_sound ts m (Err stop) few lexed p h is = tt

  -- ---- at most one

  pub one_stands : (ts : List Token) (m : MappingText) (r : Result Mapping Stop) → Lexed text ts → IsText ts m
      → Answers (MappingFault program levels text) r → IfOk r (λ mapping. StandsFor levels text mapping)
      → (mapping : Mapping) → StandsFor levels text mapping → ((f : Fault) → MappingFault program levels text f → ⊥) → Gives r mapping
  one_stands ts m (Ok found) lexed p h s mapping t none =
      let is : s.written ≡ m = same_written Fixed text ts m lexed p s.written s.writes in
      let also : t.written ≡ m = same_written Fixed text ts m lexed p t.written t.writes in
      one_resolved levels m found mapping (subst (λ n. Resolves levels n found) is s.resolves) (subst (λ n. Resolves levels n mapping) also t.resolves)
  one_stands ts m (Err (Refused f)) lexed p h s mapping t none = absurd (none f h.0)
  one_stands ts m (Err NoMemory) lexed p h s mapping t none = tt

  pub refused_gives : (stop : Stop) → Answers {A = Mapping} (MappingFault program levels text) (Err stop)
      → (mapping : Mapping) → ((f : Fault) → MappingFault program levels text f → ⊥) → Gives {A = Mapping} (Err stop) mapping
  refused_gives (Refused f) h mapping none = absurd (none f h.0)
  refused_gives NoMemory h mapping none = tt

  -- a refusal by the lexer
  pub lexer_gives : (stop : Stop) (mapping : Mapping) → ((ts : List Token) → AreTokens text ts → FitsFile phase.Mapping text → Gives {A = List Token} (Err stop) ts)
      → StandsFor levels text mapping → Gives {A = Mapping} (Err stop) mapping
  lexer_gives (Refused f) mapping only s = only s.writes.tokens s.writes.tokens_of s.writes.fits
  lexer_gives NoMemory mapping only s = tt

  -- ---- what is read, and no less

  none_broken : (m : MappingText) (mapping : Mapping) → Resolves levels m mapping → Sound program levels mapping → SpreadsOnce m → (f : Fault) → BreaksRule program levels m f → ⊥
  none_broken m mapping r s once f (inl name) = no_name_fault program levels m mapping r s once f name
  none_broken m mapping r s once f (inr cycle) = no_cycle_fault levels m mapping r s.acyclic f cycle

  pub sound_given : (ts : List Token) (m : MappingText) (r : Result Mapping Stop) → Lexed text ts → IsText ts m
      → Answers (BreaksRule program levels m) r → IfOk r (λ mapping. StandsFor levels text mapping)
      → (n : MappingText) (mapping : Mapping) → Writes text n → SpreadsOnce n → Resolves levels n mapping → Sound program levels mapping → Gives r mapping
  sound_given ts m (Ok found) lexed p h s n mapping w once resolves sound =
      let is : s.written ≡ m = same_written Fixed text ts m lexed p s.written s.writes in
      let also : n ≡ m = same_written Fixed text ts m lexed p n w in
      one_resolved levels m found mapping (subst (λ n. Resolves levels n found) is s.resolves) (subst (λ n. Resolves levels n mapping) also resolves)
  sound_given ts m (Err (Refused f)) lexed p h s n mapping w once resolves sound =
      let also : n ≡ m = same_written Fixed text ts m lexed p n w in
      none_broken m mapping (subst (λ n. Resolves levels n mapping) also resolves) sound (subst SpreadsOnce also once) f h.0
  sound_given ts m (Err NoMemory) lexed p h s n mapping w once resolves sound = tt
