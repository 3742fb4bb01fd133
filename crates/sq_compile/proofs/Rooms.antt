-- Nodes have room where loops overlap their transfers, and where none does.
use Rattle.std.proofs.Common.{◌≡◌, ◌⊎◌, inl, inr, ℕ, zero, suc, ◌+◌, ◌≤◌, min, Bool, true, false, List, [], ◌∷◌, map}
use Rattle.std.proofs.Common.{get_or, slice_get, Some, refl, sym, ap, subst, ◌∙◌, arith, if◌then◌else◌}
use Rattle.sq_machfile.specs.declared.node.Node.{Node}
use Rattle.sq_machfile.specs.Machines.{WithinLimits}
use Rattle.sq_spec.specs.FormLaws.Reached.{FormsCallersFirst}
use Rattle.sq_spec.specs.declared.body.FormBody.{FormBody}
use Rattle.sq_spec.specs.declared.resolved.Resolved.{Resolved}
use Rattle.sq_spec.proofs.Rows.{get_or_map}
use Rattle.sq_spec_laws.specs.Needs.{FormsRunAtTheirLevel}
use Rattle.sq_ir.specs.Plans.{node_at}
use Rattle.sq_ir.specs.declared.plan.PlanNode.{PlanNode}
use Rattle.sq_plan_good.specs.Homes.Placed.Tables.{row_form}
use Rattle.sq_plan_good.specs.Homes.Chosen.declared.choice.Choice.{Choice}
use Rattle.sq_plan_good.specs.Homes.Chosen.Arrays.{standing}
use Rattle.sq_plan_good.specs.Homes.Chosen.Forms.{choice_in}
use Rattle.sq_plan_good.specs.DraftLaws.Choosing.{Walked, MayBeChosen, NonePipes}
use Rattle.sq_pass_laws.specs.Hoist.Choices.{hoisted}
use Rattle.sq_pass_laws.specs.HoistLaws.{ChoicesAreHoisted, HoistedOverlapNothing}
use Rattle.sq_plan_good.specs.DraftLaws.Memories.{plan_node}
use Rattle.sq_plan_good.specs.Room.{sizes_of, FormsEnd, EndsAreTops, LoopsHaveEnough, LoopsAreBusy, SumsFit}
use Rattle.sq_pass_laws.specs.Pipe.Runs.{Marks, is_marked, marks_of, least_room, no_bound}
use Rattle.sq_pass_laws.specs.Pipe.Greedy.{room_of, rooms_of, bytes_of, have_room, none_taken, candidates_of, taken_of}
use Rattle.sq_pass_laws.specs.Pipe.Greedy.{overlaps_from, overlapped}
use Rattle.sq_pass_laws.specs.PipeLaws.{OverlapsMayBeChosen}
use Rattle.sq_compile.specs.Room.{Runs, RunsAreMarked, OverlapsHaveEnough, HaveSpace, OverlapsHaveRoom}
use Rattle.sq_compile.proofs.Doubled.{brought_with, brought_once, chosen_with, none_flag, none_chosen, taken_fits}
use Rattle.sq_compile.proofs.Ending.{top, forms_end, top_fits}

-- the laws that it stands on
pub record Laws : Type 0 where
  pub callers : FormsCallersFirst
  pub levels : FormsRunAtTheirLevel
  pub pipes : NonePipes
  pub hoist : ChoicesAreHoisted
  pub none : HoistedOverlapNothing
  pub chosen : OverlapsMayBeChosen
  pub tops : EndsAreTops
  pub busy : LoopsAreBusy
  pub sums : SumsFit

-- ---- the least room

least_below : (marks : Marks) (n : ℕ) (nodes : List Node) (most : ℕ) → least_room marks n nodes most ≤ most
least_below marks n [] most = omega arith
least_below marks n (x ∷ nodes) most =
    by (is_marked marks n) (least_below marks (n + 1) nodes (if is_marked marks n then min x.capacity most else most))
  where
    by : (t : Bool) → least_room marks (n + 1) nodes (if t then min x.capacity most else most)
        ≤ (if t then min x.capacity most else most)
        → least_room marks (n + 1) nodes (if t then min x.capacity most else most) ≤ most
    by true h = omega (arith, h)
    by false h = h

least_marked : (marks : Marks) (n : ℕ) (nodes : List Node) (most i : ℕ) (x : Node) → slice_get nodes i ≡ Some x
    → is_marked marks (n + i) ≡ true → least_room marks n nodes most ≤ x.capacity
least_marked marks n [] most i x h m = absurd (cc h)
least_marked marks n (y ∷ nodes) most zero x h m =
    let y_is : y ≡ x = cc h in
    let z : n + 0 ≡ n = omega arith in
    let marked : is_marked marks n ≡ true = subst (λ j. is_marked marks j ≡ true) z m in
    let same = ap (λ (t : Bool). least_room marks (n + 1) nodes (if t then min y.capacity most else most)) marked in
    let less = least_below marks (n + 1) nodes (min y.capacity most) in
    let capacity = ap (λ (v : Node). v.capacity) y_is in
    omega (arith, same, less, capacity)
least_marked marks n (y ∷ nodes) most (suc i) x h m =
    let z : n + suc i ≡ n + 1 + i = omega arith in
    least_marked marks (n + 1) nodes (if is_marked marks n then min y.capacity most else most) i x h
    (subst (λ j. is_marked marks j ≡ true) z m)

-- ---- room

node_is : (nodes : List Node) (i : ℕ) (n : Node) → slice_get nodes i ≡ Some n
    → node_at (map plan_node nodes) i ≡ plan_node n
node_is nodes i n h = get_or_map plan_node nodes i n _ h

module _ (marked : RunsAreMarked) (laws : Laws) (r : Resolved) (w : Walked r) (limits : WithinLimits r.machine.now)
    (room : have_room (taken_of r) 0 r.forms (rooms_of r) [] ≡ true) where
  abbrev tops : ℕ → ℕ
  tops = top laws.callers r w (taken_of r) room

  -- each form ends within the nodes at which it runs
  ends_within : (node k : ℕ) → Runs r k node
      → tops k ≤ (node_at (map plan_node r.machine.now.nodes) node).capacity
  ends_within node k runs =
      let at = laws.levels r.typed.now r.machine.now r.mapping.now (record {
        found = r.found.entries;
        forms = r.forms;
        uses = r.uses;
      }) limits w.read w.through k node runs in
      let fits = top_fits laws.callers r w (taken_of r) room k at.form at.form_there in
      let z : node ≡ 0 + node = omega arith in
      let least = least_marked (get_or (marks_of r) k []) 0 r.machine.now.nodes no_bound node at.own at.own_there
      (subst (λ n. is_marked (get_or (marks_of r) k []) n ≡ true) z (marked r w limits k node runs)) in
      let is = ap (λ (n : PlanNode). n.capacity) (node_is r.machine.now.nodes node at.own at.own_there) in
      omega (arith, fits, least, is)

  have_space : (choices : List Choice) → MayBeChosen r choices → LoopsHaveEnough r choices → FormsEnd r choices tops
      → HaveSpace r choices
  have_space choices may enough end d is node less =
      laws.sums r w limits choices may d is tops (laws.tops r w choices may tops end)
      (laws.busy r w choices may enough) node (node_at (map plan_node r.machine.now.nodes) node).capacity
      (ends_within node)

  -- where loops overlap
  overlapped_ends : FormsEnd r (overlapped r) tops
  overlapped_ends = forms_end laws.callers r w (taken_of r) room (overlapped r) less
    where
      less : (k : ℕ) (b : FormBody) → sizes_of b (standing b (choice_in (overlapped r) k))
          ≤ bytes_of (room_of r b (choice_in (hoisted r) k) (get_or (marks_of r) k [])) (get_or (taken_of r) k false)
      less k b =
          let z : k ≡ 0 + k = omega arith in
          let c = choice_in (hoisted r) k in
          let marks = get_or (marks_of r) k [] in
          let chosen = chosen_with (taken_of r) 0 (hoisted r) k k z in
          subst (λ (d : Choice). sizes_of b (standing b d)
          ≤ bytes_of (room_of r b c marks) (get_or (taken_of r) k false)) (sym chosen.is)
          (brought_with b c r marks chosen.overlaps (get_or (taken_of r) k false) chosen.taking)

  -- where none does
  hoisted_ends : FormsEnd r (hoisted r) tops
  hoisted_ends = forms_end laws.callers r w (taken_of r) room (hoisted r)
      (λ k b. brought_once b (choice_in (hoisted r) k) r (get_or (marks_of r) k []) (get_or (taken_of r) k false))

  hoisted_enough : LoopsHaveEnough r (hoisted r)
  hoisted_enough k node i l runs there overlaps =
      let none = laws.pipes r (hoisted r) (laws.none r) (row_form (slice_get l.rows 0)) in
      absurd (let z : false ≡ true = sym none ∙ overlaps in cc z)

pub overlaps_have_room : RunsAreMarked → OverlapsHaveEnough → Laws → OverlapsHaveRoom
overlaps_have_room marked enough laws r w limits =
    by (taken_fits (λ taken. have_room taken 0 r.forms (rooms_of r) []) (none_taken r.forms) (none_taken r.forms)
    (candidates_of r) (inl refl))
  where
    by : (taken_of r ≡ none_taken r.forms) ⊎ (have_room (taken_of r) 0 r.forms (rooms_of r) [] ≡ true)
        → (overlapped r ≡ hoisted r) ⊎ (HaveSpace r (overlapped r) × HaveSpace r (hoisted r))
    by (inl e) =
        inl (ap (λ (taken : List Bool). overlaps_from taken 0 (hoisted r)) e
        ∙ none_chosen (none_taken r.forms) (none_flag r.forms) 0 (hoisted r) (laws.none r))
    by (inr room) =
        inr (
          have_space marked laws r w limits room (overlapped r) (laws.chosen r w) (enough r w limits)
              (overlapped_ends marked laws r w limits room),
          have_space marked laws r w limits room (hoisted r)
              (laws.hoist r w) (hoisted_enough marked laws r w limits room) (hoisted_ends marked laws r w limits room),
        )
