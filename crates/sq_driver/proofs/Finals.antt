-- From what each phase of `eval` reads to how the command ends.
use Rattle.std.proofs.Common.{◌≡◌, inl, ℕ, List, [], Option, Some, None, Result, Ok, Err, get_or, slice_get, refl, sym, ◌∙◌, ap, ap₂, subst}
use Rattle.std.specs.Prelude.{ℤ, pos}
use Rattle.sq_port.specs.Ports.{Content}
use Rattle.sq_num.specs.Elements.{width, value}
use Rattle.sq_ast.specs.declared.program.Program.{Program as Tree}
use Rattle.sq_machfile.specs.Machines.{Hierarchy}
use Rattle.sq_mapping.specs.declared.mapping.Mapping.{Mapping as Mapped}
use Rattle.sq_leaf.specs.declared.shape.Shape.{Shape}
use Rattle.sq_leaf.specs.Source.{Arrays}
use Rattle.sq_spec.specs.Entry.{IsEntry}
use Rattle.sq_forms.specs.Forms.{AreForms}
use Rattle.sq_work.specs.Meaning.{Outcome}
use Rattle.sq_forms.specs.Resolving.{resolution}
use Rattle.sq_forms.specs.Steps.{Key}
use Rattle.sq_spec.specs.Works.{flat, found_in, param_shapes}
use Rattle.sq_forms.specs.declared.form.Found.{Found}
use Rattle.sq_spec.specs.declared.resolved.Resolved.{Resolved}
use Rattle.sq_race.specs.Race.{IsFirstRace}
use Rattle.sq_flat.specs.Blocks.{element}
use Rattle.sq_flat.specs.Ends.{IsEnd, HoldsEnd}
use Rattle.sq_flat.specs.Held.{Stored, Holds, AreWhole, entry_shapes, extents_in}
use Rattle.sq_flat.specs.declared.flat.FlatEnd.TheVariants.{Trap as FlatTrap}
use Rattle.sq_flat.specs.declared.flat.Trapped.{Trapped as FlatTrapped}
use Rattle.sq_leaf.specs.declared.trap.Trap.{Trap as LeafTrap}
use Rattle.sq_tree.specs.Bank.{BankSeen}
use Rattle.sq_report.specs.declared.trap.Trap.{Trap}
use Rattle.sq_driver.specs.declared.outside.end.End.{End}
use Rattle.sq_driver.specs.declared.outside.end.End.TheVariants.{Usage, Absent, FileFault, Refused, Trapped, NoMemory, SinkFault}
use Rattle.sq_driver.specs.declared.outside.status.Status.{Status}
use Rattle.sq_driver.specs.declared.outside.status.Status.TheVariants.{Done}
use Rattle.sq_driver.specs.Ends.{FileCauses}
use Rattle.sq_words.specs.Words.{eval_of}
use Rattle.sq_driver.specs.Races.{IsResolved}
use Rattle.sq_driver.specs.Entry.{params_of, start_of}
use Rattle.sq_driver.specs.Outputs.{stored_texts}
use Rattle.sq_driver.specs.Meaning.{done, trapped, IsCause}
use Rattle.sq_driver.specs.Steps.{WroteOut, Stopped}
use Rattle.sq_driver.specs.SharedFiles.{StopsSources}
use Rattle.sq_driver.specs.Evaluating.{ReadsMachine, ReadsMapping, HoldsProgram, HoldsMachine, HoldsSources, EndsFlat, Evaluates}
use Rattle.sq_driver.specs.Picking.{AreGiven, ReadsGiven}
use Rattle.sq_driver.proofs.SourcePhases.{one}
use Rattle.sq_driver.proofs.Evaluations.{reads_eval, stops, no_memory, data_stops, gives, traps}

ok_same : {A B : Type 0} (x y : A) → ◌≡◌ {A = Result A B} (Ok x) (Ok y) → x ≡ y
ok_same x y is = cc

-- ---- what is known once a phase is passed, by another spelling of what is told

pub machine_held : (p k : List ℕ) (told that : Option Content) (tree : Tree) (hierarchy : Hierarchy) → that ≡ told
    → HoldsProgram told p tree → ReadsMachine told k (Ok hierarchy) → HoldsMachine that p k tree hierarchy
machine_held p k told that tree hierarchy same program reads = record {
  program = record { held = λ c is. program.held c (sym same ∙ is); faultless = program.faultless };
  held = λ c is. reads c (sym same ∙ is);
}

-- the same of another spelling of what is told
pub front_held : (p k : List ℕ) (told that : Option Content) (tree : Tree) (hierarchy : Hierarchy) → that ≡ told
    → HoldsMachine told p k tree hierarchy → HoldsMachine that p k tree hierarchy
front_held p k told that tree hierarchy same held =
    subst (λ (t : Option Content). HoldsMachine t p k tree hierarchy) (sym same) held

pub mapping_held : (p m k : List ℕ) (told that : Option Content) (tree : Tree) (hierarchy : Hierarchy)
    (mapped : Mapped) → that ≡ told → HoldsMachine told p k tree hierarchy → ReadsMapping tree hierarchy.levels told m
    (Ok mapped) → HoldsSources that p m k tree hierarchy mapped
mapping_held p m k told that tree hierarchy mapped same machine reads = record {
  machine = record {
    program = record { held = λ c is. machine.program.held c (sym same ∙ is); faultless = machine.program.faultless };
    held = λ c is. machine.held c (sym same ∙ is);
  };
  held = λ c is. reads c (sym same ∙ is);
}

-- the same of a program, a machine and a mapping that equal these
pub sources_at : (told : Option Content) (p m k : List ℕ) (tree that : Tree) (hierarchy memories : Hierarchy)
    (mapped onto : Mapped) → that ≡ tree → memories ≡ hierarchy → onto ≡ mapped
    → HoldsSources told p m k tree hierarchy mapped → HoldsSources told p m k that memories onto
sources_at told p m k tree that hierarchy memories mapped onto trees machines mappings held =
    subst (λ (t : Tree). HoldsSources told p m k t memories onto) (sym trees) (
    subst (λ (h : Hierarchy). HoldsSources told p m k tree h onto) (sym machines) (
    subst (λ (x : Mapped). HoldsSources told p m k tree hierarchy x) (sym mappings) held))

-- and of another spelling of what is told
pub sources_told : (told that : Option Content) (p m k : List ℕ) (tree : Tree) (hierarchy : Hierarchy)
    (mapped : Mapped) → that ≡ told
    → HoldsSources told p m k tree hierarchy mapped → HoldsSources that p m k tree hierarchy mapped
sources_told told that p m k tree hierarchy mapped same held =
    subst (λ (t : Option Content). HoldsSources t p m k tree hierarchy mapped) (sym same) held

-- forms of a program, a machine and a mapping are those of what they are seen to be of
pub resolved_at : (tree : Tree) (hierarchy : Hierarchy) (mapped : Mapped) (r : Resolved)
    → IsResolved tree hierarchy mapped r
    → IsResolved r.typed.now r.machine.now r.mapping.now r
resolved_at tree hierarchy mapped r are = record {
  tree_is = refl;
  machine_is = refl;
  mapping_is = refl;
  forms = subst (λ (t : Tree). AreForms t r.mapping.now r.forms r.uses) (sym are.tree_is)
      (subst (λ (x : Mapped). AreForms tree x r.forms r.uses) (sym are.mapping_is) are.forms);
  found = ap (λ (t : Tree). found_in (resolution t.tasks r.mapping.now)) are.tree_is
      ∙ (ap (λ (x : Mapped). found_in (resolution tree.tasks x)) are.mapping_is ∙ are.found);
}

-- what comes behind a call that went well
pub causes_after : (f g h m n o : ℕ) (status : Status) → FileCauses f g m n Done → FileCauses g h n o status
    → FileCauses f h m o status
causes_after f g h m n o status first then_ =
    let same = first.quiet tt in
    subst (λ (x : ℕ). FileCauses x h m o status) same.0 (subst (λ (y : ℕ). FileCauses g h y o status) same.1 then_)

-- ---- how a phase ends the command

module _ (p m k d : List ℕ) (told : Option Content) (out : Option (List ℕ)) (faults : ℕ) where
  pub sources_end : (end : End) → StopsSources told p m k end → Evaluates (eval_of p m k d) told out out faults faults
      (Err end)
  sources_end end stopped = stops (eval_of p m k d) told out faults end
      (λ bank. stopped (eval_of p m k d) reads_eval bank)

  module _ (r : Resolved) (are : IsResolved r.typed.now r.machine.now r.mapping.now r)
      (held : HoldsSources told p m k r.typed.now r.machine.now r.mapping.now) where
    module _ (free : IsFirstRace r None) where
      pub data_ends : (end : End) → ReadsGiven r told d (Err end) → Evaluates (eval_of p m k d) told out out faults
          faults (Err end)
      data_ends end reads = stops (eval_of p m k d) told out faults end
          (λ bank. data_stops p m k d told r are held free bank end reads)

-- ---- arrays that bytes show

abbrev at_shape : Option Shape → List ℕ → List ℕ → ℤ
at_shape None bytes cs = pos 0
at_shape (Some s) bytes cs = value s.elem (element (width s.elem) s.extents cs bytes)

abbrev pub shown : List Shape → List (List ℕ) → Arrays
shown shapes list k cs = at_shape (slice_get shapes k) (get_or list k []) cs

pub holds_shown : (shapes : List Shape) (list : List (List ℕ)) → Holds shapes list (shown shapes list)
holds_shown shapes list =
    record { held = λ k shape cs there inside. ap (λ (o : Option Shape). at_shape o (get_or list k []) cs) (sym there) }

-- what is evaluated keeps its shapes
pub kept_end : (shapes : List Shape) (now : Stored) (o : Outcome) → HoldsEnd shapes now o → (now.shapes ≡ shapes)
    × AreWhole now
kept_end shapes now (Ok after) ends = (ends.0, ends.1)
kept_end shapes now (Err its) ends = absurd ends

pub trap_end : (shapes : List Shape) (x : FlatTrapped) (trap : Trap)
    → trap ≡ record { kind = x.trap.kind; place = x.trap.place; path = x.path } → (o : Outcome) → IsEnd (FlatTrap x) o
    → EndsFlat shapes (Err (Trapped trap)) o
trap_end shapes x trap same (Ok after) is = absurd is
trap_end shapes x trap same (Err its) is = same
    ∙ ap₂ (λ (t : LeafTrap) (path : List ℕ). record { kind = t.kind; place = t.place; path = path }) is.0 is.1

-- the parameters' shapes are those of the entry
pub entry_is : (r : Resolved) (e : IsEntry r) → entry_shapes r.typed.now.tasks r.mapping.now r.found.entries
    ≡ param_shapes (params_of r.typed.now r.mapping.now) 0 e.extents
entry_is r e = ap (λ (o : Option (Key × Found)). param_shapes (params_of r.typed.now r.mapping.now) 0 (extents_in o))
    e.found

-- ---- the end of the run

module _ (p m k d : List ℕ) (told : Option Content) (r : Resolved)
    (are : IsResolved r.typed.now r.machine.now r.mapping.now r)
    (held : HoldsSources told p m k r.typed.now r.machine.now r.mapping.now) (free : IsFirstRace r None)
    (e : IsEntry r) (arrays : Stored) (reads : (c : Content) → told ≡ Some c → AreGiven r (c d) arrays) where
  cause : (now : Stored) → now.shapes ≡ entry_shapes r.typed.now.tasks r.mapping.now r.found.entries
      → ((s : Arrays) → Holds arrays.shapes arrays.bytes s → EndsFlat arrays.shapes (Ok now)
      (flat r.typed.now r.mapping.now s))
      → (c : Content) → told ≡ Some c → IsCause (eval_of p m k d) c
      (done (stored_texts (params_of r.typed.now r.mapping.now) 0 e.extents now.bytes) [])
  cause now shapes ends c is =
      let given = reads c is in
      let same : given.its.extents ≡ e.extents = ok_same given.its.extents e.extents (sym given.its.are ∙ e.fit) in
      subst (λ (x : List (List ℕ)). IsCause (eval_of p m k d) c
      (done (stored_texts (params_of r.typed.now r.mapping.now) 0 x now.bytes) [])) same (
      gives p m k d told r are held free c is arrays given now
      (shapes ∙ (entry_is r e ∙ ap (λ (x : List (List ℕ)). param_shapes (params_of r.typed.now r.mapping.now) 0 x)
      (sym same)))
      (flat r.typed.now r.mapping.now
      (start_of (params_of r.typed.now r.mapping.now) 0 given.its.extents given.values)) refl
      (ends (start_of (params_of r.typed.now r.mapping.now) 0 given.its.extents given.values) given.holds))

  module _ (now : Stored) (shapes : now.shapes ≡ entry_shapes r.typed.now.tasks r.mapping.now r.found.entries)
      (ends : (s : Arrays) → Holds arrays.shapes arrays.bytes s → EndsFlat arrays.shapes (Ok now)
      (flat r.typed.now r.mapping.now s)) (out now_out : Option (List ℕ)) (faults now_faults : ℕ) where
    pub written : (result : Result (Unit {0}) End) → WroteOut out now_out faults now_faults
        (stored_texts (params_of r.typed.now r.mapping.now) 0 e.extents now.bytes) result
        → Evaluates (eval_of p m k d) told out now_out faults now_faults result
    written (Ok tt) wrote = record {
      text = stored_texts (params_of r.typed.now r.mapping.now) 0 e.extents now.bytes;
      cause = cause now shapes ends;
      gained = wrote.0;
      same = wrote.1;
    }
    written (Err Usage) wrote = absurd wrote
    written (Err (Absent name)) wrote = absurd wrote
    written (Err (FileFault name)) wrote = absurd wrote
    written (Err (Refused its)) wrote = absurd wrote
    written (Err (Trapped trap)) wrote = absurd wrote
    written (Err NoMemory) wrote = absurd wrote
    written (Err SinkFault) wrote = inl
        (record {
          end_is = refl;
          text = stored_texts (params_of r.typed.now r.mapping.now) 0 e.extents now.bytes;
          cause = cause now shapes ends;
          gained = wrote.0;
          rose = wrote.1;
          later = wrote.2;
        })

  trap_stops : (trap : Trap)
      → ((s : Arrays) → Holds arrays.shapes arrays.bytes s → EndsFlat arrays.shapes (Err (Trapped trap))
      (flat r.typed.now r.mapping.now s)) → (bank : BankSeen) → Stopped (eval_of p m k d) told bank bank (Trapped trap)
  trap_stops trap ends bank = record {
    answer = trapped trap [];
    means = record {
      names = tt;
      cause = λ c is.
          let at = one (eval_of p m k d) reads_eval p m k told c is in
          let given = reads c at in
          traps p m k d told r are held free c at arrays given trap
          (flat r.typed.now r.mapping.now
          (start_of (params_of r.typed.now r.mapping.now) 0 given.its.extents given.values)) refl
          (ends (start_of (params_of r.typed.now r.mapping.now) 0 given.its.extents given.values) given.holds);
    };
    is = ([], refl);
    silent = (refl, refl);
    bank_after = (refl, refl);
  }

  pub run_ends : (out : Option (List ℕ)) (faults : ℕ) (end : End)
      → ((s : Arrays) → Holds arrays.shapes arrays.bytes s → EndsFlat arrays.shapes (Err end)
      (flat r.typed.now r.mapping.now s)) → Evaluates (eval_of p m k d) told out out faults faults (Err end)
  run_ends out faults Usage ends = absurd
      (ends (shown arrays.shapes arrays.bytes) (holds_shown arrays.shapes arrays.bytes))
  run_ends out faults (Absent name) ends = absurd
      (ends (shown arrays.shapes arrays.bytes) (holds_shown arrays.shapes arrays.bytes))
  run_ends out faults (FileFault name) ends = absurd
      (ends (shown arrays.shapes arrays.bytes) (holds_shown arrays.shapes arrays.bytes))
  run_ends out faults (Refused its) ends = absurd
      (ends (shown arrays.shapes arrays.bytes) (holds_shown arrays.shapes arrays.bytes))
  run_ends out faults (Trapped trap) ends = stops (eval_of p m k d) told out faults (Trapped trap)
      (trap_stops trap ends)
  run_ends out faults NoMemory ends = no_memory (eval_of p m k d) told out faults
  run_ends out faults SinkFault ends = absurd
      (ends (shown arrays.shapes arrays.bytes) (holds_shown arrays.shapes arrays.bytes))
