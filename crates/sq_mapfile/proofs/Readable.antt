-- A text of a choice alone is read as the mapping of the choice.
use Rattle.std.proofs.Common.{◌≡◌, inl, inr, ℕ, ◌<◌, ◌^◌, List, length, map, Some, slice_get, Result, Ok, Err, IfOk, sym, ◌∙◌, ap, subst, arith}
use Rattle.sq_text.specs.declared.place.Place.{Place}
use Rattle.sq_text.specs.declared.code.Code.{Code}
use Rattle.sq_text.specs.declared.code.Phase.TheVariants as phase
use Rattle.sq_text.specs.declared.fault.Fault.{Fault}
use Rattle.sq_text.specs.declared.fault.Stop.{Stop}
use Rattle.sq_text.specs.Answers.{Answers}
use Rattle.sq_text.specs.Places.{start}
use Rattle.sq_lexer.specs.declared.token.Token.{Token}
use Rattle.sq_lexer.specs.Tokens.{AreTokens}
use Rattle.sq_lexer.specs.Faults.{BreaksFrom, HasFault, FitsFile, too_long, breaks}
use Rattle.sq_patterns.proofs.Places.{none_in_text, one_text}
use Rattle.sq_patterns.specs.Texts.{SyntaxAt}
use Rattle.sq_ast.specs.declared.program.Program.{Program}
use Rattle.sq_machfile.specs.declared.level.Level.{Level}
use Rattle.sq_mapfile.specs.declared.text.InstanceText.{InstanceText}
use Rattle.sq_mapfile.specs.declared.text.MappingText.{MappingText}
use Rattle.sq_mapfile.specs.declared.tunings.Ways.{Ways}
use Rattle.sq_mapfile.specs.declared.text.Tunables.TheVariants.{Fixed, Varied}
use Rattle.sq_mapfile.specs.declared.choices.Choices.{Choices}
use Rattle.sq_mapfile.specs.Grammar.{IsText, IsTextOf}
use Rattle.sq_mapfile.specs.Resolving.{mapping_with}
use Rattle.sq_mapfile.specs.Mappings.{Resolves, Writes, WritesAs, BreaksRule, MappingFault}
use Rattle.sq_mapping.specs.Sound.{Sound}
use Rattle.sq_mapfile.specs.Choices.{choices_of, BreaksChoices, instances_count}
use Rattle.sq_mapfile.specs.Chosen.{ways_of, mapping_at}
use Rattle.sq_mapfile.specs.Made.{mapping_of, AreChoices, StandFor, IsReadAs, AreReadAlone, AreSameChoices}
use Rattle.sq_mapfile.proofs.Texts.{format, mapping_format}
use Rattle.sq_mapfile.proofs.Sizes.{few_instances}
use Rattle.sq_mapfile.proofs.Resolved.{resolved}
use Rattle.sq_mapfile.proofs.Sounds.{sound}
use Rattle.sq_mapfile.proofs.Products.{digits}
use Rattle.sq_mapfile.proofs.Picks.{text_at, choice_is}
use Rattle.sq_mapfile.proofs.Alone.{picked_mapping, mapping_is}
use Rattle.sq_mapfile.proofs.Unchanged.{as_long}
use Rattle.sq_mapfile.proofs.Unfaulted.{no_name, no_cycle, no_rule}
use Rattle.sq_mapfile.proofs.Counted.{all_counted}

abbrev ways_in : InstanceText → List Ways
ways_in x = ways_of x.items

-- what is known of texts and their tokens
abbrev pub OneList : Type 0
OneList = (text : List ℕ) (ts us : List Token) → AreTokens text ts → AreTokens text us → ts ≡ us

abbrev pub NeverBoth : Type 0
NeverBoth = (text : List ℕ) (ts : List Token) (c : Code) (place : Place) → AreTokens text ts → BreaksFrom start text c place → ⊥

no_lexing : NeverBoth → (text : List ℕ) (ts : List Token) → AreTokens text ts → FitsFile phase.Mapping text → (f : Fault) → HasFault phase.Mapping text f → ⊥
no_lexing never text ts are fits f (too_long t) = omega (arith, t, fits)
no_lexing never text ts are fits f (breaks {c = c} {place = place} g b) = never text ts c place are b

module _ (program : Program) (levels : List Level) (m : MappingText) (none : (g : Fault) → BreaksChoices program levels m g → ⊥) (few : length levels < 2 ^ 32) where
  -- each choice's mapping is what the program and the machine want
  pub sound_at : (text : List ℕ) → WritesAs Varied text m → (count n : ℕ)
      → Sound program levels (mapping_at (mapping_with levels m) (map (λ x. ways_of x.items) m.instances) count n)
  sound_at text w count n =
      let d = digits n count in
      let long = as_long d m.instances in
      let fit = few_instances Varied text m w in
      subst (Sound program levels) (sym (picked_mapping levels m count n))
      (sound program levels (text_at m d) few (omega (arith, long, fit)) (no_name program levels m d none) (no_cycle program levels m d none))

  module _ (one : OneList) (never : NeverBoth) (n : ℕ) (chosen : MappingText) (there : slice_get (choices_of m) n ≡ Some chosen) where
    no_broken : (f : Fault) → BreaksRule program levels chosen f → ⊥
    no_broken f h = no_rule program levels m (digits n (length (choices_of m))) none f (subst (λ t. BreaksRule program levels t f) (choice_is m n chosen there) h)

    pub read_alone : (alone : List ℕ) → Writes alone chosen
        → IsReadAs program levels alone (mapping_at (mapping_with levels m) (map (λ x. ways_of x.items) m.instances) (length (choices_of m)) n)
    read_alone alone w = record {
      stands = record {
        written = chosen;
        writes = w;
        resolves = subst (λ mapping. Resolves levels chosen mapping) (sym (mapping_is levels m n chosen there))
            (resolved program levels chosen few (few_instances Fixed alone chosen w) (λ f h. no_broken f (inl h)));
      };
      faultless = λ f h. faultless f h;
    }
      where
        faultless : (f : Fault) → MappingFault program levels alone f → ⊥
        faultless f (inl h) = no_lexing never alone w.tokens w.tokens_of w.fits f h
        faultless f (inr (clear, inl h)) = none_in_text w.tokens chosen w.grammar h.faulty.index
            (subst (λ ts. SyntaxAt IsText ts h.faulty.index) (one alone h.tokens w.tokens h.tokens_of w.tokens_of) h.faulty.at)
        faultless f (inr (clear, inr (also, h))) =
            no_broken f (subst (λ t. BreaksRule program levels t f)
            (one_text mapping_format w.tokens h.mapping chosen (subst (λ ts. IsText ts h.mapping) (one alone h.writes.tokens w.tokens h.writes.tokens_of w.tokens_of) h.writes.grammar) w.grammar) h.broken)

-- ---- what is read

module _ (program : Program) (levels : List Level) (text : List ℕ) (m : MappingText) (choices : Choices) (few : length levels < 2 ^ 32)
    (p : WritesAs Varied text m) (are : AreChoices levels m choices) (none : (g : Fault) → BreaksChoices program levels m g → ⊥) where
  as_made : (n : ℕ) → mapping_of choices n ≡ mapping_at (mapping_with levels m) (map (λ x. ways_of x.items) m.instances) (length (choices_of m)) n
  as_made n =
      ap (λ first. mapping_at first choices.tunables choices.number n) are.first
      ∙ ap (λ ways. mapping_at (mapping_with levels m) ways choices.number n) are.tunables
      ∙ ap (λ count. mapping_at (mapping_with levels m) (map (λ x. ways_of x.items) m.instances) count n) (are.number ∙ all_counted program levels m none)

  pub sound_each : (n : ℕ) → Sound program levels (mapping_of choices n)
  sound_each n = subst (Sound program levels) (sym (as_made n)) (sound_at program levels m none few text p (length (choices_of m)) n)

  pub alone_each : OneList → NeverBoth → ((other : MappingText) → WritesAs Varied text other → other ≡ m) → AreReadAlone program levels text choices
  alone_each one never only = record {
    as_many = λ other w. ap (λ t. length (choices_of t)) (only other w) ∙ sym (are.number ∙ all_counted program levels m none);
    each = λ other w n chosen there alone written.
        subst (IsReadAs program levels alone) (sym (as_made n))
        (read_alone program levels m none few one never n chosen (subst (λ t. slice_get (choices_of t) n ≡ Some chosen) (only other w) there) alone written);
  }

-- the same of what a call answers
module _ (program : Program) (levels : List Level) (text : List ℕ) (m : MappingText) (w : WritesAs Varied text m) where
  pub choices_stand : (r : Result Choices Stop) → IfOk r (AreChoices levels m) → IfOk r (StandFor levels text)
  choices_stand (Ok choices) are = record { written = m; writes = w; are = are }
  choices_stand (Err stop) are = tt

  pub choices_sound : (r : Result Choices Stop) → length levels < 2 ^ 32 → Answers (BreaksChoices program levels m) r → IfOk r (AreChoices levels m)
      → IfOk r (λ choices. (n : ℕ) → n < choices.number → Sound program levels (mapping_of choices n))
  choices_sound (Ok choices) few none are = λ n below. sound_each program levels text m choices few w are none n
  choices_sound (Err stop) few none are = tt

  pub choices_alone : (r : Result Choices Stop) → length levels < 2 ^ 32 → Answers (BreaksChoices program levels m) r → IfOk r (AreChoices levels m)
      → OneList → NeverBoth → ((other : MappingText) → WritesAs Varied text other → other ≡ m) → IfOk r (AreReadAlone program levels text)
  choices_alone (Ok choices) few none are one never only = alone_each program levels text m choices few w are none one never only
  choices_alone (Err stop) few none are one never only = tt

-- a text stands for one list of choices
pub same_choices : OneList → (levels : List Level) (text : List ℕ) (a b : Choices) → StandFor levels text a → StandFor levels text b → AreSameChoices a b
same_choices one levels text a b p q =
    let tokens = one text q.writes.tokens p.writes.tokens q.writes.tokens_of p.writes.tokens_of in
    let is : q.written ≡ p.written = one_text (format Varied) p.writes.tokens q.written p.written (subst (λ ts. IsTextOf Varied ts q.written) tokens q.writes.grammar) p.writes.grammar in
    record {
      first = p.are.first ∙ sym (q.are.first ∙ ap (mapping_with levels) is);
      tunables = p.are.tunables ∙ sym (q.are.tunables ∙ ap (λ m. map ways_in m.instances) is);
      number = p.are.number ∙ sym (q.are.number ∙ ap (λ m. instances_count 1 m.instances) is);
    }
