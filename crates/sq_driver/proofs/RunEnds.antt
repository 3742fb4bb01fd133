-- From what a run's calls leave to how the command ends.
use Rattle.std.proofs.Common.{◌≡◌, ◌≤◌, ◌<◌, ◌^◌, ℕ, List, map, Bool, true, false, None, Option, Some, Result, Ok, Err, [], if◌then◌else◌, sym, ◌∙◌, ap, subst}
use Rattle.std.specs.List.{All}
use Rattle.sq_port.specs.Ports.{Content, Gains}
use Rattle.sq_arrays.specs.Arrays.{Wanted, wanted, size_of}
use Rattle.sq_leaf.specs.declared.trap.Trap.{Trap as LeafTrap}
use Rattle.sq_ir.specs.Events.{Event}
use Rattle.sq_ir.specs.Tree.{ready}
use Rattle.sq_ir.specs.Plans.{tree_of, IsGood}
use Rattle.sq_ir.specs.declared.plan.Plan.{Plan}
use Rattle.sq_sched.specs.Rests.{Rest}
use Rattle.sq_tree.specs.declared.runs.RunEnd.{RunEnd}
use Rattle.sq_tree.specs.declared.runs.RunEnd.TheVariants.{Trapped as RunTrapped, SinkFault as RunSinkFault}
use Rattle.sq_tree.specs.Bank.{BankSeen, bytes_at, bytes_in, size_in, leaves_in, IsOpened, IsPrepared}
use Rattle.sq_tree.specs.Runs.{HasPerformed, HasRun, HasTrace, KeepsRoom, Tells, TellsFirst, state_of, is_stopped}
use Rattle.sq_tree.specs.Trace.{trace_text}
use Rattle.sq_root.specs.declared.place.Place.{Place}
use Rattle.sq_root.specs.Places.{IsWithin, Fits, KeepsOutside, keeps_itself}
use Rattle.sq_planfile.specs.File.{PlanFile}
use Rattle.sq_launch.specs.Arrays.{wants_of, places_of, read_places, root_text}
use Rattle.sq_launch.specs.Launching.{IsLaunch, fault_args}
use Rattle.sq_launch.specs.Starts.{IsStart, read_parts}
use Rattle.sq_launch.specs.declared.launch.Launch.{Launch}
use Rattle.sq_orders.specs.declared.order.Chosen.{Chosen}
use Rattle.sq_orders.specs.Chosen.{chosen_held, chosen_answer, chosen_next}
use Rattle.sq_words.specs.Words.{Order}
use Rattle.sq_report.specs.declared.trap.Trap.{Trap}
use Rattle.sq_driver.specs.declared.outside.end.End.{End}
use Rattle.sq_driver.specs.declared.outside.end.End.TheVariants.{Trapped, SinkFault}
use Rattle.sq_driver.specs.Givens.{Given}
use Rattle.sq_driver.specs.Outcome.{Outside, Ended}
use Rattle.sq_driver.specs.Running.{Runner, command_by, HoldsOrdered, FillsRoot, LaunchLaws, MayRun}
use Rattle.sq_driver.specs.Steps.{Stopped, WroteOut}
use Rattle.sq_driver.proofs.Stopping.{Still, stop_ends}
use Rattle.sq_driver.proofs.Runs.{trace_put, must_be, input_stops, done_ended, trap_ended, cut_ended}

-- a control that has not begun
pub good_control : (c : Rest LeafTrap) (plan : Plan) → c ≡ record { plan = plan; left = tree_of plan; ended = None }
    → IsGood (leaves_in plan) plan → IsGood (leaves_in c.plan) c.plan
good_control c plan is good = subst (λ (x : Plan). IsGood (leaves_in x) x)
    (sym (ap (λ (y : Rest LeafTrap). y.plan) is)) good

pub begun_control : (c : Rest LeafTrap) (plan : Plan) → c ≡ record { plan = plan; left = tree_of plan; ended = None }
    → (c.left ≡ tree_of c.plan) × (c.ended ≡ None)
begun_control c plan is = (
  ap (λ (y : Rest LeafTrap). y.left) is ∙ sym (ap (λ (y : Rest LeafTrap). tree_of y.plan) is),
  ap (λ (y : Rest LeafTrap). y.ended) is,
)

-- the same of another spelling of the plan
pub opened_same : (p q : Plan) (old now : BankSeen) → p ≡ q → IsOpened p old now → IsOpened q old now
opened_same p q old now same opens = subst (λ (x : Plan). IsOpened x old now) same opens

-- ---- what the calls ask

module _ (laws : LaunchLaws) (f : PlanFile) (may : MayRun f) (l : Launch) (launch : IsLaunch f.plan f.arrays l)
    (old opened : BankSeen) (opens : IsOpened f.plan old opened) where
  opened_is : IsPrepared f.plan opened
  opened_is = (laws.starts f.plan f.arrays old opened opened opens (keeps_itself (read_places f.plan f.arrays) opened)).0

  pub reads_fit : (those : List Place) → those ≡ l.read.items → Fits those (size_in opened.nodes 0)
  reads_fit those are = subst (λ (y : List Place). Fits y (size_in opened.nodes 0)) (sym (are ∙ launch.read_are))
      (laws.room f.plan f.arrays opened may.room opened_is).1

module _ (laws : LaunchLaws) (f : PlanFile) (may : MayRun f) (l : Launch) (launch : IsLaunch f.plan f.arrays l) where
  pub reads_sizes : (those : List Place) → those ≡ l.read.items → (wants : List Wanted)
      → wants ≡ map wanted l.wants.items → map (λ (q : Place). q.size) those ≡ map size_of wants
  reads_sizes those are wants is =
      ap (λ (y : List Place). map (λ (q : Place). q.size) y) (are ∙ launch.read_are)
      ∙ (laws.sizes f.plan f.arrays ∙ ap (λ (y : List Wanted). map size_of y) (sym (is ∙ launch.wants_are)))

  pub reads_small : (wants : List Wanted) → wants ≡ map wanted l.wants.items → All (λ w. size_of w < 2 ^ 64) wants
  reads_small wants is = subst (λ (y : List Wanted). All (λ w. size_of w < 2 ^ 64) y) (sym (is ∙ launch.wants_are))
      (laws.small f.arrays may.room.small)

  pub faults_match : (wants : List Wanted) → wants ≡ map wanted l.wants.items → l.faults.items ≡ fault_args wants
  faults_match wants is = launch.faults_are ∙ ap fault_args (sym (is ∙ launch.wants_are))

-- ---- the data

module _ (laws : LaunchLaws) (f : PlanFile) (may : MayRun f) (l : Launch) (launch : IsLaunch f.plan f.arrays l)
    (old opened filled : BankSeen) (opens : IsOpened l.plan.value old opened)
    (those : List Place) (are : those ≡ l.read.items) (kept : KeepsOutside those opened filled) where
  its_opens : IsOpened f.plan old opened
  its_opens = opened_same l.plan.value f.plan old opened launch.plan_is opens

  keeps : KeepsOutside (read_places f.plan f.arrays) opened filled
  keeps = subst (λ (y : List Place). KeepsOutside y opened filled) (are ∙ launch.read_are) kept

  pub filled_prepared : IsPrepared f.plan filled
  filled_prepared = (laws.starts f.plan f.arrays old opened filled its_opens keeps).1.0

  zero : IsStart f.plan f.arrays filled.nodes
  zero = (laws.starts f.plan f.arrays old opened filled its_opens keeps).1.1

  -- of the control's plan
  pub control_prepared : (c : Rest LeafTrap) → c ≡ record { plan = f.plan; left = tree_of f.plan; ended = None }
      → IsPrepared c.plan filled
  control_prepared c is = subst (λ (x : Plan). IsPrepared x filled) (sym (ap (λ (y : Rest LeafTrap). y.plan) is))
      filled_prepared

  -- the places lie in the root behind the run
  pub run_within : (control : Rest LeafTrap)
      → control ≡ record { plan = f.plan; left = tree_of f.plan; ended = None } → (now : BankSeen)
      → (events : List Event) → HasPerformed control.plan events filled now
      → All (IsWithin (size_in now.nodes 0)) (places_of f.plan f.arrays)
  run_within control is now events performed = (laws.room f.plan f.arrays now may.room (record {
    plan = performed.plan ∙ filled_prepared.plan;
    sizes = performed.sizes ∙ filled_prepared.sizes;
  })).0.within

  module _ (its : Runner) (d : List ℕ) (said : Order) (traced : Bool) (start : Outside) (bank_is : start.bank ≡ old)
      (o : Chosen) (h : HoldsOrdered its d said traced start.told f (chosen_held o)) (wants : List Wanted)
      (wants_are : wants ≡ map wanted l.wants.items) (that : Option Content) (same : that ≡ start.told) where
    start_opens : IsOpened f.plan start.bank opened
    start_opens = subst (λ (b : BankSeen). IsOpened f.plan b opened) (sym bank_is) its_opens

    fills_its : (result : Result (Unit {0}) End) → FillsRoot wants those that d filled result
        → FillsRoot (wants_of f.arrays) (read_places f.plan f.arrays) start.told d filled result
    fills_its result fills =
        subst (λ (y : List Wanted). FillsRoot y (read_places f.plan f.arrays) start.told d filled result)
        (wants_are ∙ launch.wants_are)
        (subst (λ (t : Option Content). FillsRoot wants (read_places f.plan f.arrays) t d filled result) same
        (subst (λ (q : List Place). FillsRoot wants q that d filled result) (are ∙ launch.read_are) fills))

    -- the data has a fault, or can't be read
    pub data_ended : (end : End) → FillsRoot wants those that d filled (Err end) → (last : Outside)
        → last.bank ≡ filled → Still start last → Ended (command_by its d said traced) start last (Err end)
    data_ended end fills last bank still = stop_ends (command_by its d said traced) start last end
        (subst (λ (b : BankSeen). Stopped (command_by its d said traced) start.told start.bank b end) (sym bank)
        (input_stops its d said traced start f o h opened filled start_opens keeps zero end
        (fills_its (Err end) fills))) still

    module _ (fills : FillsRoot wants those that d filled (Ok tt)) (last : Outside)
        (result : Result (Unit {0}) RunEnd) (left : Option (List ℕ)) (rest : Rest LeafTrap) (control : Rest LeafTrap)
        (control_is : control ≡ record { plan = f.plan; left = tree_of f.plan; ended = None })
        (ran : HasRun chosen_answer chosen_next (Some (chosen_held o)) left control.plan filled last.bank rest
        (λ events. traced ≡ true → HasTrace control.plan start.err last.err start.err_faults last.err_faults
        (is_stopped result) events))
        (over : is_stopped result ≡ false → ready rest.left ≡ 0)
        (own : Tells (bytes_in last.bank.nodes) (state_of last.bank rest) result)
        (tells : TellsFirst control.plan (bytes_in filled.nodes) (bytes_in last.bank.nodes) result)
        (room : KeepsRoom control.plan (bytes_in filled.nodes))
        (untraced : traced ≡ false → (last.err ≡ start.err) × (last.err_faults ≡ start.err_faults)
        × (is_stopped result ≡ false)) where
      plan_same : control.plan ≡ f.plan
      plan_same = ap (λ (c : Rest LeafTrap). c.plan) control_is

      read : (c : Content) → start.told ≡ Some c
          → Given (wants_of f.arrays) (c d) (read_parts f.plan f.arrays filled.nodes)
      read = fills_its (Ok tt) fills

      its_ran : HasRun chosen_answer chosen_next (Some (chosen_held o)) left f.plan filled last.bank rest
          (λ events. traced ≡ true → HasTrace f.plan start.err last.err start.err_faults last.err_faults
          (is_stopped result) events)
      its_ran = subst (λ (q : Plan). HasRun chosen_answer chosen_next (Some (chosen_held o)) left q filled last.bank
          rest (λ events. traced ≡ true → HasTrace q start.err last.err start.err_faults last.err_faults
          (is_stopped result) events)) plan_same ran

      its_room : KeepsRoom f.plan (bytes_in filled.nodes)
      its_room = subst (λ (q : Plan). KeepsRoom q (bytes_in filled.nodes)) plan_same room

      its_tells : TellsFirst f.plan (bytes_in filled.nodes) (bytes_in last.bank.nodes) result
      its_tells = subst (λ (q : Plan). TellsFirst q (bytes_in filled.nodes) (bytes_in last.bank.nodes) result)
          plan_same tells

      put : is_stopped result ≡ false → Gains start.err last.err
          (if traced then trace_text f.plan its_ran.events else []) × (last.err_faults ≡ start.err_faults)
      put whole = trace_put traced f.plan its_ran.events start.err last.err start.err_faults last.err_faults
          (λ is. subst (λ (b : Bool). HasTrace f.plan start.err last.err start.err_faults last.err_faults b
          its_ran.events) whole (its_ran.traced is))
          (λ is. ((untraced is).0, (untraced is).1))

      -- it is done, and its arrays are written
      pub run_done : result ≡ Ok tt → (wrote : Result (Unit {0}) End)
          → WroteOut start.out last.out start.out_faults last.out_faults
          (root_text f.plan f.arrays (bytes_at last.bank.nodes 0)) wrote
          → Ended (command_by its d said traced) start last wrote
      run_done is wrote text = done_ended its d said traced start f o h opened filled start_opens keeps zero read last
          result its_ran.performed.sizes its_tells left rest its_room _ its_ran (over (ap is_stopped is)) is
          (subst (λ (x : Result (Unit {0}) RunEnd). Tells (bytes_in last.bank.nodes) (state_of last.bank rest) x) is
          own).0 wrote text (put (ap is_stopped is))

      -- it trapped
      pub run_trapped : (cause : LeafTrap) (path : List ℕ) → result ≡ Err (RunTrapped cause path) → (trap : Trap)
          → trap ≡ record { kind = cause.kind; place = cause.place; path = path }
          → last.out ≡ start.out → last.out_faults ≡ start.out_faults
          → Ended (command_by its d said traced) start last (Err (Trapped trap))
      run_trapped cause path is trap trap_is out out_faults = trap_ended its d said traced start f o h opened filled
          start_opens keeps zero read last result its_ran.performed.sizes its_tells left rest its_room _ its_ran
          (over (ap is_stopped is)) cause path is trap trap_is
          (subst (λ (x : Result (Unit {0}) RunEnd). Tells (bytes_in last.bank.nodes) (state_of last.bank rest) x) is
          own) out out_faults (put (ap is_stopped is))

      -- a put of its trace failed
      pub run_cut : result ≡ Err RunSinkFault → start.err_faults ≤ last.err_faults → last.out ≡ start.out
          → last.out_faults ≡ start.out_faults
          → Ended (command_by its d said traced) start last (Err SinkFault)
      run_cut is later out out_faults =
          let was_traced = must_be traced (λ none. sym (ap is_stopped is) ∙ (untraced none).2) in
          let cut = (its_ran.traced was_traced).cut (ap is_stopped is) in
          cut_ended its d said traced start f o h opened filled start_opens keeps zero read last result
          its_ran.performed.sizes its_tells left rest its_room _ its_ran was_traced cut.0 cut.1 later out out_faults
