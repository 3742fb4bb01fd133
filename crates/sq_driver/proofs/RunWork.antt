-- What is known of `run` before its order is read: its plan runs as the program means.
use Rattle.std.proofs.Common.{◌≡◌, inl, inr, ℕ, List, [], ◌∷◌, length, map, Bool, Option, Some, None, Result, Ok, Err, slice_get, refl, sym, ◌∙◌, ap, ap₂, subst}
use Rattle.std.specs.List.{All}
use Rattle.sq_port.specs.Ports.{Content}
use Rattle.sq_text.specs.declared.code.Phase.TheVariants.{Program, Types, Machine, Mapping, Resolve, Race, Capacity, Input}
use Rattle.sq_text.specs.declared.fault.Fault.{Fault}
use Rattle.sq_leaf.specs.declared.trap.Trap.{Trap as LeafTrap}
use Rattle.sq_leaf.specs.declared.shape.Shape.{Shape}
use Rattle.sq_leaf.specs.Source.{Arrays}
use Rattle.sq_work.specs.Meaning.{Outcome}
use Rattle.sq_ir.specs.Traffic.{no_counts}
use Rattle.sq_ir.specs.declared.plan.Plan.{Plan}
use Rattle.sq_spec.specs.Works.{param_shapes}
use Rattle.sq_spec.specs.declared.resolved.Resolved.{Resolved}
use Rattle.sq_race.specs.Race.{IsFirstRace}
use Rattle.sq_flat.specs.Held.{Stored, Holds, extents_in}
use Rattle.sq_flat.specs.Ends.{HoldsEnd}
use Rattle.sq_ast.specs.declared.program.Param.{Param}
use Rattle.sq_arrays.specs.Arrays.{Wanted}
use Rattle.sq_tree.specs.declared.runs.RunEnd.{RunEnd}
use Rattle.sq_tree.specs.declared.runs.RunEnd.TheVariants.{Trapped as RunTrapped, SinkFault as RunSinkFault}
use Rattle.sq_tree.specs.Bank.{BankSeen, bytes_at, bytes_in, size_in, IsPrepared}
use Rattle.sq_tree.specs.Runs.{TellsFirst}
use Rattle.sq_root.specs.declared.place.Place.{Place}
use Rattle.sq_root.specs.Flagged.{flagged}
use Rattle.sq_root.specs.Places.{parts, Fits, IsOutside}
use Rattle.sq_compile.specs.Capacity.{NoneLacks}
use Rattle.sq_compile.specs.Compiled.{IsPlanOf}
use Rattle.sq_compiled_laws.specs.Meant.Ends.{EndsOnBank}
use Rattle.sq_compiled_laws.specs.Meant.Places.{shapes_of, places_of as shape_places}
use Rattle.sq_planfile.specs.File.{PlanFile, entry_arrays}
use Rattle.sq_planfile.specs.declared.entry.EntryArray.{EntryArray}
use Rattle.sq_launch.specs.Arrays.{wants_of, read_places, root_text}
use Rattle.sq_launch.specs.Starts.{HaveRoom, IsStart, read_parts}
use Rattle.sq_launch.proofs.Placing.{root_size}
use Rattle.sq_words.specs.declared.words.Kind.TheVariants.{Run}
use Rattle.sq_words.specs.Words.{Order, source_files, run_of}
use Rattle.sq_report.specs.declared.trap.Trap.{Trap}
use Rattle.sq_driver.specs.Phases.{inputs_of}
use Rattle.sq_driver.specs.Faults.{IsFirstOf}
use Rattle.sq_driver.specs.Entry.{params_of, start_of, outputs_from, GivesFlat}
use Rattle.sq_driver.specs.Outputs.{stored_texts}
use Rattle.sq_driver.specs.Roots.{places_for, read_flags}
use Rattle.sq_driver.specs.Races.{IsResolved}
use Rattle.sq_driver.specs.Evaluating.{HoldsSources}
use Rattle.sq_driver.specs.Filing.{IsFileOf}
use Rattle.sq_driver.specs.Givens.{Given, Unfit, Extents, read_wants}
use Rattle.sq_driver.specs.Picking.{AreGiven}
use Rattle.sq_driver.specs.RunLaws.{RunLaws}
use Rattle.sq_driver.specs.Works.{IsWorkOf}
use Rattle.sq_driver.specs.Running.{EndsAs, HasEnd, EndsByRuns, MeetsData, HoldsWork, MayRun}
use Rattle.sq_driver.proofs.DataPhase.{outcome_by, unfit, data_fits, gives_flat, means_flat, no_trap, no_trap_after, traps_flat}
use Rattle.sq_driver.proofs.EntryArrays.{their_wants, their_text, their_reads, shapes_same, places_many, places_fit, they_have_room}
use Rattle.sq_driver.proofs.RootData.{given_root}
use Rattle.sq_driver.proofs.RunPhases.{reads_run, seven_passed, sources_of}

ok_same : {A B : Type 0} (x y : A) → ◌≡◌ {A = Result A B} (Ok x) (Ok y) → x ≡ y
ok_same x y is = cc

trap_same : (x y : LeafTrap) (p q : List ℕ) → x ≡ y → p ≡ q
    → ◌≡◌ {A = Trap} (record { kind = x.kind; place = x.place; path = p })
    (record { kind = y.kind; place = y.place; path = q })
trap_same x y p q traps paths = cc

-- a bank that holds these bytes, open with the plan
abbrev seen : Plan → List (List ℕ) → BankSeen
seen plan nodes = record {
  openings = 0;
  plan = Some plan;
  nodes = nodes;
  events = None;
  counts = no_counts;
  edges = [];
}

module _ (laws : RunLaws) (p m k d : List ℕ) (said : Order) (traced : Bool) (told : Option Content) (r : Resolved)
    (are : IsResolved r.typed.now r.machine.now r.mapping.now r)
    (held : HoldsSources told p m k r.typed.now r.machine.now r.mapping.now) (free : IsFirstRace r None)
    (lacks : NoneLacks r) (plan : Plan) (its : IsPlanOf r plan) (x : Extents r) where
  found : extents_in (slice_get r.found.entries 0) ≡ x.extents
  found = let e = laws.entry r in ap extents_in e.found ∙ ok_same e.extents x.extents (sym e.fit ∙ x.are)

  abbrev ps : List Param
  ps = params_of r.typed.now r.mapping.now

  abbrev shapes : List Shape
  shapes = param_shapes ps 0 x.extents

  abbrev places : List Place
  places = places_for plan ps x.extents

  abbrev file : PlanFile
  file = record { plan = plan; arrays = entry_arrays ps x.extents plan.draft.entry }

  abbrev stored : List (List ℕ) → Stored
  stored nodes = record { shapes = shapes; bytes = parts places (bytes_at nodes 0) }

  wants_are : wants_of file.arrays ≡ read_wants r x
  wants_are = their_wants laws.places r plan its x.extents x.are found

  room : HaveRoom file.plan file.arrays
  room = they_have_room laws.places r plan its x.extents x.are found

  module _ (c : Content) (is : told ≡ Some c) where
    unfits : (g : Fault) → Unfit (wants_of file.arrays) (c d) g
        → IsFirstOf Run Input (inputs_of c (run_of p m k d said traced)) g
    unfits g bad = unfit (run_of p m k d said traced) reads_run p m k d told r held c is g
        (record { entry = x; unfit = subst (λ (ws : List Wanted). Unfit ws (c d) g) wants_are bad })

    module _ (nodes : List (List ℕ)) (start : IsStart file.plan file.arrays nodes)
        (gives : Given (wants_of file.arrays) (c d) (read_parts file.plan file.arrays nodes)) where
      reads_are : read_places file.plan file.arrays ≡ flagged (read_flags ps) places
      reads_are = their_reads laws.places r plan its x.extents x.are found

      root_long : Fits places (size_in nodes 0)
      root_long = subst (λ (n : ℕ). Fits places n) (sym (root_size nodes plan.nodes start.sizes))
          (places_fit laws.places r plan its x.extents x.are found)

      given : AreGiven r (c d) (stored nodes)
      given = given_root laws.root r x plan c d (bytes_at nodes 0)
          (places_many laws.places r plan its x.extents x.are found) root_long
          (λ i out. start.outside i (subst (λ (qs : List Place). All (IsOutside i) qs) (sym reads_are) out))
          (subst (λ (qs : List Place). Given (read_wants r x) (c d) (parts qs (bytes_at nodes 0))) reads_are
          (subst (λ (ws : List Wanted). Given ws (c d) (read_parts file.plan file.arrays nodes)) wants_are gives))

      same_extents : given.its.extents ≡ x.extents
      same_extents = ok_same given.its.extents x.extents (sym given.its.are ∙ x.are)

      -- what the source means on the data
      abbrev meant : Outcome
      meant = outcome_by r.typed.now r.mapping.now given.its.extents given.values

      shapes_are : shapes_of r ≡ shapes
      shapes_are = shapes_same laws.places r plan its x.extents x.are found

      module _ (now : List (List ℕ)) (sizes : map length now ≡ map length nodes) (result : Result (Unit {0}) RunEnd)
          (tells : TellsFirst plan (bytes_in nodes) (bytes_in now) result) where
        prepared : IsPrepared plan (seen plan nodes)
        prepared = record { plan = refl; sizes = start.sizes }

        abbrev first_arrays : Arrays
        first_arrays = start_of ps 0 given.its.extents given.values

        ends : EndsOnBank shapes (stored now) result meant
        ends =
            subst (λ (y : List Shape). EndsOnBank y
            (record { shapes = y; bytes = parts (shape_places plan y) (bytes_at now 0) }) result meant) shapes_are
            (laws.ends r plan its.good first_arrays (seen plan nodes) (seen plan now) prepared sizes
            (laws.held r plan first_arrays nodes (laws.places r plan its.placed).buffers
            (subst (λ (y : List Shape). Fits (shape_places plan y) (size_in nodes 0)) (sym shapes_are) root_long)
            (subst (λ (y : List Shape). Holds y (parts (shape_places plan y) (bytes_at nodes 0)) first_arrays)
            (sym shapes_are) given.holds))
            result tells)

        holds_end : (o : Outcome) → EndsOnBank shapes (stored now) (Ok tt) o → HoldsEnd shapes (stored now) o
        holds_end (Ok after) ends = ends
        holds_end (Err stop) ends = ends

        text_is : stored_texts ps 0 given.its.extents (stored now).bytes
            ≡ root_text file.plan file.arrays (bytes_at now 0)
        text_is =
            ap (λ (es : List (List ℕ)). stored_texts ps 0 es (stored now).bytes) same_extents
            ∙ sym (their_text laws.places r plan its x.extents x.are found (bytes_at now 0))

        as_flat : (o : Outcome) → meant ≡ o → (result : Result (Unit {0}) RunEnd)
            → EndsOnBank shapes (stored now) result o
            → EndsAs Run said.way (inputs_of c (run_of p m k d said traced))
            (root_text file.plan file.arrays (bytes_at now 0)) result
        as_flat o run (Ok value) ends = (
          subst (λ (t : List ℕ). GivesFlat (inputs_of c (run_of p m k d said traced)) t) text_is
              (gives_flat (run_of p m k d said traced) reads_run p m k d told r held c is (stored nodes) given
              (stored now)
              (ap (λ (es : List (List ℕ)). param_shapes ps 0 es) (sym same_extents)) o run
              (holds_end o ends)),
          no_trap (run_of p m k d said traced) reads_run p m k d told r held c is (stored nodes) given (stored now) o run
              (holds_end o ends),
        )
        as_flat (Ok after) run (Err (RunTrapped cause path)) ends = absurd ends
        as_flat (Err stop) run (Err (RunTrapped cause path)) ends =
            traps_flat (run_of p m k d said traced) reads_run p m k d told r held c is (stored nodes) given
            (record { kind = cause.kind; place = cause.place; path = path }) stop run
            (trap_same cause stop.trap path stop.path ends.0 ends.1)
        as_flat o run (Err RunSinkFault) ends = tt

        pub told_as : EndsAs Run said.way (inputs_of c (run_of p m k d said traced))
            (root_text file.plan file.arrays (bytes_at now 0)) result
        told_as = as_flat meant refl result ends

      has_end : (o : Outcome) → meant ≡ o → HasEnd Run said.way (inputs_of c (run_of p m k d said traced))
      has_end (Ok after) run = inl (
        outputs_from ps 0 given.its.extents after,
        means_flat (run_of p m k d said traced) reads_run p m k d told r held c is (stored nodes) given after run,
        no_trap_after (run_of p m k d said traced) reads_run p m k d told r held c is (stored nodes) given after run,
      )
      has_end (Err stop) run = inr (
        record { kind = stop.trap.kind; place = stop.trap.place; path = stop.path },
        traps_flat (run_of p m k d said traced) reads_run p m k d told r held c is (stored nodes) given
            (record { kind = stop.trap.kind; place = stop.trap.place; path = stop.path }) stop run refl,
      )

      ends_by_runs : EndsByRuns Run said.way (inputs_of c (run_of p m k d said traced)) file nodes
      ends_by_runs = record {
        fit = data_fits (run_of p m k d said traced) reads_run p m k d told r held c is (stored nodes) given;
        tells = told_as;
        has = has_end meant refl;
      }

    meets : MeetsData Run said.way (inputs_of c (run_of p m k d said traced)) file
    meets = record { unfit = unfits; ends = ends_by_runs }

  work : IsWorkOf (run_of p m k d said traced) told file
  work = record {
    forms = r;
    its = its;
    arrays = record { entry = x; are = refl };
    of_files = λ c is. record {
      sources = sources_of p m k d said traced told r.typed.now r.machine.now r.mapping.now held c is;
      are = are;
    };
  }

  its_work : HoldsWork (record { kind = Run; files = source_files p m k }) d said traced told file
  its_work = record {
    opens = refl;
    own = λ role. refl;
    shows = λ text. refl;
    before = Program ∷ Types ∷ Machine ∷ Mapping ∷ Resolve ∷ Race ∷ Capacity ∷ [];
    split = refl;
    passed = seven_passed p m k d said traced told r.typed.now r.machine.now r.mapping.now held r are free laws.lacks
        lacks;
    work = work;
    meets = meets;
  }

  may_run : MayRun file
  may_run = record { good = its.good.good; room = room }

module _ (laws : RunLaws) (r : Resolved) (plan : Plan) (its : IsPlanOf r plan) (f : PlanFile) (is : IsFileOf r plan f)
  where
    file_same : ◌≡◌ {A = PlanFile} (record {
      plan = plan;
      arrays = entry_arrays (params_of r.typed.now r.mapping.now) is.arrays.entry.extents plan.draft.entry;
    }) f
    file_same = ap₂ (λ (q : Plan) (l : List EntryArray). record { plan = q; arrays = l }) (sym is.plan_is)
        (sym is.arrays.are)

    module _ (p m k d : List ℕ) (said : Order) (traced : Bool) (told : Option Content)
        (are : IsResolved r.typed.now r.machine.now r.mapping.now r)
        (held : HoldsSources told p m k r.typed.now r.machine.now r.mapping.now) (free : IsFirstRace r None)
        (lacks : NoneLacks r) where
      pub run_may : MayRun f
      run_may = subst MayRun file_same
          (may_run laws p m k d said traced told r are held free lacks plan its is.arrays.entry)

      pub run_works : HoldsWork (record { kind = Run; files = source_files p m k }) d said traced told f
      run_works = subst
          (λ (g : PlanFile). HoldsWork (record { kind = Run; files = source_files p m k }) d said traced told g) file_same
          (its_work laws p m k d said traced told r are held free lacks plan its is.arrays.entry)
