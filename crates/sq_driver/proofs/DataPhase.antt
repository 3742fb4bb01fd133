-- The data of a command that runs a program, and what the program means on it.
use Rattle.std.proofs.Common.{◌≡◌, ℕ, Bool, List, [], ◌∷◌, ◌++◌, Option, Some, Result, Ok, Err, refl, sym, ◌∙◌, ap, subst}
use Rattle.std.specs.Prelude.{ℤ}
use Rattle.sq_port.specs.Ports.{Content}
use Rattle.sq_text.specs.declared.code.Phase.{Phase}
use Rattle.sq_text.specs.declared.code.Phase.TheVariants.{Input}
use Rattle.sq_text.specs.declared.fault.Fault.{Fault}
use Rattle.sq_ast.specs.declared.program.Program.{Program as Tree}
use Rattle.sq_mapping.specs.declared.mapping.Mapping.{Mapping as Mapped}
use Rattle.sq_arrays.specs.Arrays.{DataFault, arrays_of}
use Rattle.sq_leaf.specs.Source.{Arrays}
use Rattle.sq_work.specs.Meaning.{Outcome, Trapped as Stopping}
use Rattle.sq_ast.specs.Modes.{is_read}
use Rattle.sq_forms.specs.Resolving.{entry_extents}
use Rattle.sq_spec.specs.Works.{flat, param_shapes}
use Rattle.sq_spec.specs.declared.resolved.Resolved.{Resolved}
use Rattle.sq_flat.specs.Held.{Stored}
use Rattle.sq_flat.specs.Ends.{HoldsEnd}
use Rattle.sq_words.specs.Words.{Command, with_file, input}
use Rattle.sq_report.specs.declared.trap.Trap.{Trap}
use Rattle.sq_driver.specs.Phases.{phases, inputs_of}
use Rattle.sq_driver.specs.Sources.{Sources}
use Rattle.sq_driver.specs.Faults.{IsFirstOf, IsFirstOfData}
use Rattle.sq_driver.specs.Entry.{IsFirstOfInput, params_of, wants_of, start_of, outputs_from, Entry, Data, data_arrays, GivesFlat, TrapsFlat}
use Rattle.sq_driver.specs.Outputs.{stored_texts}
use Rattle.sq_driver.specs.Meaning.{Passed, AllPassed}
use Rattle.sq_driver.specs.Evaluating.{HoldsSources}
use Rattle.sq_driver.specs.Picking.{AreGiven, IsUnfit}
use Rattle.sq_driver.specs.SharedFiles.{ReadsSources, command_with}
use Rattle.sq_driver.proofs.Stopping.{is_there}
use Rattle.sq_driver.proofs.SourcePhases.{AreOnly, sources, only}
use Rattle.sq_driver.proofs.OutTexts.{texts_are}

ok_same : {A B : Type 0} (x y : A) → ◌≡◌ {A = Result A B} (Ok x) (Ok y) → x ≡ y
ok_same x y is = cc

ok_or_err : {A B : Type 0} (x : A) (f : B) → Ok x ≡ Err f → ⊥
ok_or_err x f is = cc

some_same : {A : Type 0} (o : Option A) (x y : A) → o ≡ Some x → o ≡ Some y → x ≡ y
some_same o x y a b = cc

-- a command over a program, a mapping, a machine and data of these names
abbrev pub data_with : Command → List ℕ → List ℕ → List ℕ → List ℕ → Command
data_with its p m k d = command_with (record its { files = with_file input d its.files }) p m k

-- ---- what is made of a program, a mapping, extents, data and values

abbrev pub extents_by : Tree → Mapped → Result (List (List ℕ)) Fault
extents_by t m = entry_extents m.sizes (params_of t m)

abbrev pub read_by : Tree → Mapped → List (List ℕ) → List ℕ → Result (List (List ℤ)) DataFault
read_by t m e b = arrays_of (wants_of is_read (params_of t m) 0 e) b

abbrev pub outcome_by : Tree → Mapped → List (List ℕ) → List (List ℤ) → Outcome
outcome_by t m e v = flat t m (start_of (params_of t m) 0 e v)

same_extents : (t u : Tree) (m n : Mapped) (e f : List (List ℕ)) → u ≡ t → n ≡ m → extents_by t m ≡ Ok e
    → extents_by u n ≡ Ok f → f ≡ e
same_extents t u m n e f trees mappings first second =
    ok_same f e (sym second
    ∙ (ap (λ (x : Tree). extents_by x n) trees ∙ (ap (λ (y : Mapped). extents_by t y) mappings ∙ first)))

same_reading : (t u : Tree) (m n : Mapped) (e f : List (List ℕ)) (b c : List ℕ) → u ≡ t → n ≡ m → f ≡ e → c ≡ b
    → read_by u n f c ≡ read_by t m e b
same_reading t u m n e f b c trees mappings extents bytes =
    ap (λ (x : Tree). read_by x n f c) trees
    ∙ (ap (λ (y : Mapped). read_by t y f c) mappings
    ∙ (ap (λ (z : List (List ℕ)). read_by t m z c) extents ∙ ap (λ (l : List ℕ). read_by t m e l) bytes))

same_outcome : (t u : Tree) (m n : Mapped) (e f : List (List ℕ)) (v w : List (List ℤ)) → u ≡ t → n ≡ m → f ≡ e → w ≡ v
    → outcome_by u n f w ≡ outcome_by t m e v
same_outcome t u m n e f v w trees mappings extents values =
    ap (λ (x : Tree). outcome_by x n f w) trees
    ∙ (ap (λ (y : Mapped). outcome_by t y f w) mappings
    ∙ (ap (λ (z : List (List ℕ)). outcome_by t m z w) extents ∙ ap (λ (l : List (List ℤ)). outcome_by t m e l)
    values))

-- ---- passed phases

pub all_with : (command : Command) (c : Content) (before : List Phase) (last : Phase) → AllPassed command c before
    → Passed command c last
    → AllPassed command c (before ++ last ∷ [])
all_with command c [] last all one = (one, tt)
all_with command c (first ∷ rest) last all one = (all.0, all_with command c rest last all.1 one)

module _ (its : Command) (begun : ReadsSources its.kind) (p m k d : List ℕ) (told : Option Content) (r : Resolved)
    (held : HoldsSources told p m k r.typed.now r.machine.now r.mapping.now) where
  abbrev its_sources : (c : Content) → told ≡ Some c → Sources (inputs_of c (data_with its p m k d))
  its_sources c is = sources (record its { files = with_file input d its.files }) begun p m k told r.typed.now
      r.machine.now r.mapping.now held c is

  -- the data is that of the arrays of the program
  of_data : (c : Content) (f : Fault) → IsFirstOfInput (inputs_of c (data_with its p m k d)) f
      → IsFirstOf its.kind Input (inputs_of c (data_with its p m k d)) f
  of_data c f first = subst (λ (filed : Bool). IsFirstOfData filed (inputs_of c (data_with its p m k d)) f)
      (sym begun.sourced) first

  data_of : (c : Content) (f : Fault) → IsFirstOf its.kind Input (inputs_of c (data_with its p m k d)) f
      → IsFirstOfInput (inputs_of c (data_with its p m k d)) f
  data_of c f first = subst (λ (filed : Bool). IsFirstOfData filed (inputs_of c (data_with its p m k d)) f)
      begun.sourced first

  pub unfit : (c : Content) → told ≡ Some c → (f : Fault) → IsUnfit r (c d) f
      → IsFirstOf its.kind Input (inputs_of c (data_with its p m k d)) f
  unfit c is f bad = of_data c f (record {
    entry = record { sources = its_sources c is; extents = bad.entry.extents; extents_are = bad.entry.are };
    bytes = bad.unfit.bytes;
    there = bad.unfit.there;
    found = bad.unfit.found;
    read = bad.unfit.read;
    is = bad.unfit.is;
  })

  module _ (c : Content) (is : told ≡ Some c) (arrays : Stored) (given : AreGiven r (c d) arrays) where
    abbrev pub data_is : Data (inputs_of c (data_with its p m k d))
    data_is = record {
      entry = record { sources = its_sources c is; extents = given.its.extents; extents_are = given.its.are };
      bytes = given.bytes;
      there = given.there;
      values = given.values;
      read = given.read;
    }

    equal : (that : Sources (inputs_of c (data_with its p m k d))) → AreOnly r.typed.now r.machine.now r.mapping.now
        that
    equal that = only (record its { files = with_file input d its.files }) begun p m k told r.typed.now r.machine.now
        r.mapping.now held c is that

    -- the data is read as by any other entry that the files hold
    reading_of : (that : Entry (inputs_of c (data_with its p m k d))) (bytes : List ℕ) → c d ≡ Some bytes
        → read_by that.sources.tree that.sources.mapped that.extents bytes ≡ Ok given.values
    reading_of that bytes there =
        let its = equal that.sources in
        same_reading r.typed.now that.sources.tree r.mapping.now that.sources.mapped given.its.extents that.extents
        given.bytes bytes its.tree_is its.mapping_is
        (same_extents r.typed.now that.sources.tree r.mapping.now that.sources.mapped given.its.extents that.extents
        its.tree_is its.mapping_is given.its.are that.extents_are)
        (some_same (c d) bytes given.bytes there given.there)
        ∙ given.read

    pub data_fits : (f : Fault) → IsFirstOf its.kind Input (inputs_of c (data_with its p m k d)) f → ⊥
    data_fits f is_first =
        let fails : IsFirstOfInput (inputs_of c (data_with its p m k d)) f = data_of c f is_first in
        ok_or_err given.values fails.found (sym (reading_of fails.entry fails.bytes fails.there) ∙ fails.read)

    data_passed : Passed (data_with its p m k d) c Input
    data_passed = record { there = is_there c d given.bytes given.there; no_fault = data_fits }

    -- what the source means for any data that the files hold
    outcome_of : (that : Data (inputs_of c (data_with its p m k d)))
        → flat that.entry.sources.tree that.entry.sources.mapped
        (data_arrays (inputs_of c (data_with its p m k d)) that) ≡ outcome_by r.typed.now r.mapping.now
        given.its.extents given.values
    outcome_of that =
        let its = equal that.entry.sources in
        same_outcome r.typed.now that.entry.sources.tree r.mapping.now that.entry.sources.mapped given.its.extents
        that.entry.extents given.values that.values its.tree_is its.mapping_is
        (same_extents r.typed.now that.entry.sources.tree r.mapping.now that.entry.sources.mapped given.its.extents
        that.entry.extents its.tree_is its.mapping_is given.its.are that.entry.extents_are)
        (ok_same that.values given.values (sym that.read ∙ reading_of that.entry that.bytes that.there))

    module _ (before : List Phase) (split : phases its.kind ≡ before ++ Input ∷ [])
        (passed : AllPassed (data_with its p m k d) c before) where
      pub all_passed : AllPassed (data_with its p m k d) c (phases its.kind)
      all_passed = subst (λ (l : List Phase). AllPassed (data_with its p m k d) c l) (sym split)
          (all_with (data_with its p m k d) c before Input passed data_passed)

    -- the arrays that it makes of the data, as they are written
    pub gives_flat : (now : Stored) → now.shapes ≡ param_shapes (params_of r.typed.now r.mapping.now) 0
        given.its.extents
        → (o : Outcome) → outcome_by r.typed.now r.mapping.now given.its.extents given.values ≡ o
        → HoldsEnd arrays.shapes now o
        → GivesFlat (inputs_of c (data_with its p m k d))
        (stored_texts (params_of r.typed.now r.mapping.now) 0 given.its.extents now.bytes)
    gives_flat now shapes (Ok after) run ends =
        record {
          given = data_is;
          after = after;
          run = run;
          text = texts_are (params_of r.typed.now r.mapping.now)
              given.its.extents now after shapes ends.1 ends.2;
        }
    gives_flat now shapes (Err its) run ends = absurd ends

    -- what the source means on it, where it doesn't trap
    pub means_flat : (after : Arrays) → outcome_by r.typed.now r.mapping.now given.its.extents given.values ≡ Ok after
        → GivesFlat (inputs_of c (data_with its p m k d))
        (outputs_from (params_of r.typed.now r.mapping.now) 0 given.its.extents after)
    means_flat after run = record { given = data_is; after = after; run = run; text = refl }

    pub no_trap_after : (after : Arrays) → outcome_by r.typed.now r.mapping.now given.its.extents given.values ≡ Ok
        after
        → (trap : Trap) → TrapsFlat (inputs_of c (data_with its p m k d)) trap → ⊥
    no_trap_after after run trap that = ok_or_err after that.trapped
        (sym run ∙ (sym (outcome_of that.given) ∙ that.run))

    -- where it ends there is no trap
    pub no_trap : (now : Stored) (o : Outcome) → outcome_by r.typed.now r.mapping.now given.its.extents given.values
        ≡ o → HoldsEnd arrays.shapes now o
        → (trap : Trap) → TrapsFlat (inputs_of c (data_with its p m k d)) trap → ⊥
    no_trap now (Ok after) run ends trap that = no_trap_after after run trap that
    no_trap now (Err its) run ends trap that = ends

    pub traps_flat : (trap : Trap) (stop : Stopping) → outcome_by r.typed.now r.mapping.now given.its.extents
        given.values ≡ Err stop
        → trap ≡ record { kind = stop.trap.kind; place = stop.trap.place; path = stop.path }
        → TrapsFlat (inputs_of c (data_with its p m k d)) trap
    traps_flat trap stop run same = record { given = data_is; trapped = stop; run = run; is = same }
