-- Each iteration of a draft's spread maps has a child.
use Rattle.std.proofs.Common.{◌≡◌, ℕ, zero, suc, ◌+◌, ◌-◌, ◌<◌, Bool, true, false, List, [], ◌∷◌, length, Option}
use Rattle.std.proofs.Common.{Some, None, slice_get, is_some, refl, sym, subst, arith}
use Rattle.sq_num.specs.declared.RedOp.{RedOp}
use Rattle.sq_text.specs.declared.place.Place.{Place}
use Rattle.sq_text.specs.declared.spread.SpreadRule.{SpreadRule}
use Rattle.sq_text.proofs.Spreads.{spreads}
use Rattle.sq_ir.specs.Written.{Setting}
use Rattle.sq_ir.specs.Plans.{node_at}
use Rattle.sq_ir.specs.declared.plan.PlanNode.{PlanNode}
use Rattle.sq_blocks.specs.declared.argument.Argument.{Argument}
use Rattle.sq_form_laws.proofs.RanHold.{as_many_forms}
use Rattle.sq_spec.specs.declared.statement.LoopKind.{LoopKind}
use Rattle.sq_spec.specs.declared.statement.LoopKind.TheVariants as loop_kind
use Rattle.sq_spec.specs.declared.statement.CallInstance.{CallInstance}
use Rattle.sq_spec.specs.declared.statement.Statement.{Statement}
use Rattle.sq_spec.specs.declared.body.FormBody.{FormBody}
use Rattle.sq_spec.specs.declared.resolved.Resolved.{Resolved}
use Rattle.sq_spec.specs.Spreads.{lower_in}
use Rattle.sq_placed.specs.declared.home.Homes.{Homes}
use Rattle.sq_placed.specs.Placed.{Placed, PlacedArg, Call, Piped}
use Rattle.sq_placed.specs.Tables.{map_placed, placed_call, placed_of, leaving_chain, held_arg, chain_form, chain_row}
use Rattle.sq_placed.specs.Tables.{hold_placed, placed_rule, row_call, row_body}
use Rattle.sq_cells.specs.Machine.{fan_of, lane, lane_of}
use Rattle.sq_program_laws.specs.PlanLaws.Seated.{at_node}
use Rattle.sq_term.specs.Terms.{body_in, homes_in}
use Rattle.sq_term.specs.Stands.{below, calls_of, AreLevel}
use Rattle.sq_program_laws.specs.TermLaws.Fits.{NodeAt, TabledBody}
use Rattle.sq_program_laws.proofs.TermLaws.Lower.{lower_stand_above}
use Rattle.sq_program_laws.proofs.TermLaws.Programs.{programs_are_tabled}
use Rattle.sq_program_laws.specs.TermLaws.Lowers.{statements}
use Rattle.sq_program_laws.specs.TermLaws.Orders.{EachOf}
use Rattle.sq_program_laws.specs.PlanLaws.Buffers.{HaveLanes}
use Rattle.sq_homes.specs.Chosen.declared.choice.Choice.{Choice}
use Rattle.sq_homes.specs.Chosen.Forms.{bodies_of}
use Rattle.sq_homes.specs.Drafts.{homes_of, buffers_of}
use Rattle.sq_draft_laws.specs.Given.{level_at}
use Rattle.sq_draft_laws.specs.Choosing.{Walked, MayBeChosen, AreMemories, setting_of}
use Rattle.sq_draft_laws.proofs.Descending.{calls_descend}
use Rattle.sq_draft_laws.proofs.Programs.{bodies_are_tables}
use Rattle.sq_draft_laws.specs.Drafts.{limits}
use Rattle.sq_draft_laws.proofs.Levels.{have_levels, drafts_begin_at_root}
use Rattle.sq_draft_laws.specs.Lanes.{IsDraftMachine, LanesAreThere}
use Rattle.sq_draft_laws.proofs.Callers.{walk, RowIs, rows_are}
use Rattle.sq_draft_laws.proofs.Machines.{machines_are_machines}
use Rattle.sq_draft_laws.proofs.Parts.{Keeps, body_keeps}
use Rattle.sq_draft_laws.proofs.Rounds.{each_as}

fan_is : (s : Setting) (node : ℕ) → fan_of (at_node s node) ≡ s.children node
unfolding fan_of
fan_is s node = refl

lane_below : (s : Setting) (rule : SpreadRule) (node n t : ℕ) → 0 < s.children node → t < n
    → lane_of rule (at_node s node) n t < fan_of (at_node s node)
unfolding fan_of lane
lane_below s rule node n t some l = (spreads rule n (s.children node) some).below t l

module _ (r : Resolved) (w : Walked r) (choices : List Choice) (are_hoisted : MayBeChosen r choices) where
  abbrev fb : ℕ → FormBody
  fb = body_in (bodies_of r)

  abbrev fh : ℕ → Homes
  fh = homes_in (homes_of r choices)

  abbrev last : ℕ
  last = length r.machine.now.levels - 1

  long : length r.machine.now.levels ≡ suc last
  long = let l = (w.read.instances r.mapping.now.entry w.read.entry.entry w.read.entry.there).level in omega (arith, l)

  tabled : (k : ℕ) → TabledBody limits last (level_at r k) (fb k).body
  tabled k =
      subst (λ (x : FormBody). TabledBody limits last (level_at r k) x.body)
      (sym (bodies_are_tables as_many_forms r k))
      (programs_are_tabled r.typed.now r.machine.now.levels r.mapping.now w.faultless w.read (walk r w) w.through
      limits (omega arith) last long (level_at r) (have_levels r w) k)

  deep_at : (k : ℕ) → EachOf (λ (y : Statement). lower_in y ≡ true → level_at r k < last) (statements (fb k).body)
  deep_at k =
      each_as (λ (y : Statement). lower_in y ≡ true → suc (level_at r k) < suc last)
      (λ (y : Statement). lower_in y ≡ true → level_at r k < last) (statements (fb k).body)
      (λ y f e. let l = f e in omega (arith, l))
      (lower_stand_above limits last (level_at r k) (fb k).body (tabled k))

  levels : (k : ℕ) → AreLevel (level_at r) (level_at r k) (calls_of (fb k).body)
  levels k = (calls_descend as_many_forms r).each k

  -- the entry runs at the root
  root_level : level_at r 0 ≡ 0
  root_level = (drafts_begin_at_root r w choices are_hoisted).entry

  module _ (nodes : List PlanNode) (are : AreMemories r.machine.now.levels nodes) (offset : ℕ → ℕ) where
    abbrev s : Setting
    s = setting_of r choices nodes offset

    abbrev IsAt : ℕ → ℕ → Type 0
    IsAt l n = NodeAt (length nodes) (λ m. (node_at nodes m).level) l n

    its : IsDraftMachine s nodes last
    its = machines_are_machines r.machine.now.levels nodes are last long (buffers_of r choices) offset

    -- at this node, which lower calls leave for a child that is there
    abbrev Laned : (k node : ℕ) → Placed → Type 0
    Laned k node x = (child : ℕ) → (level_at r k < last → child < s.children node) → HaveLanes s x node child

    some_child : (k node : ℕ) → IsAt (level_at r k) node → level_at r k < last → 0 < s.children node
    some_child k node at low = let l = its.machine.some (level_at r k) node at low in omega (arith, l)

    loop_laned : (k node : ℕ) → IsAt (level_at r k) node → (m : LoopKind) (place : Place) (spread : Option SpreadRule)
        (count : ℕ) (x : ℕ → Placed)
        → (is_some spread ≡ true → level_at r k < last) → ((t : ℕ) → t < count → Laned k node (x t))
        → Laned k node (map_placed m place spread count x)
    loop_laned k node at loop_kind.Sequential place spread count x d h child ok = λ t l. h t l child ok
    loop_laned k node at loop_kind.Parallel place None count x d h child ok = λ t l. (tt, h t l child ok)
    loop_laned k node at loop_kind.Parallel place (Some rule) count x d h child ok = λ t l.
        let lane = lane_below s rule node count t (some_child k node at (d refl)) l in (
          lane,
          h t l (lane_of rule (at_node s node) count t)
              (λ low. subst (λ (n : ℕ). lane_of rule (at_node s node) count t < n) (fan_is s node) lane),
        )
    loop_laned k node at (loop_kind.Reduction g) place None count x d h child ok = λ t l. (tt, h t l child ok)
    loop_laned k node at (loop_kind.Reduction g) place (Some rule) count x d h child ok = λ t l.
        let lane = lane_below s rule node count t (some_child k node at (d refl)) l in (
          lane,
          h t l (lane_of rule (at_node s node) count t)
              (λ low. subst (λ (n : ℕ). lane_of rule (at_node s node) count t < n) (fan_is s node) lane),
        )

    call_laned : (d k node : ℕ) → IsAt (level_at r k) node
        → ((f n : ℕ) → IsAt (level_at r f) n → Laned f n (placed_of fb fh d f))
        → (op : Option RedOp) (lower : Bool) (q : CallInstance) → level_at r q.form ≡ below lower (level_at r k)
        → (lower ≡ true → level_at r k < last)
        → Laned k node (Call (placed_call fb fh op lower q) (placed_of fb fh d q.form))
    call_laned d k node at ih op true q l deep child ok =
        let next = its.machine.below (level_at r k) node child at (ok (deep refl)) in
        let n = s.child node child in
        let there : IsAt (level_at r q.form) n = subst (λ (m : ℕ). IsAt m n) (sym l) next in
        ih q.form n there 0 (some_child q.form n there)
    call_laned d k node at ih op false q l deep child ok =
        let there : IsAt (level_at r q.form) node = subst (λ (m : ℕ). IsAt m node) (sym l) at in
        ih q.form node there 0 (some_child q.form node there)

    -- a loop that overlaps its transfers
    pipe_laned : (d k node : ℕ) → IsAt (level_at r k) node
        → ((f n : ℕ) → IsAt (level_at r f) n → Laned f n (placed_of fb fh d f))
        → (spread : Option SpreadRule) (place : Place) (count start : ℕ) (rows : List CallInstance)
        → ((i : ℕ) (q : CallInstance) → slice_get rows i ≡ Some q → level_at r q.form ≡ below true (level_at r k))
        → level_at r k < last
        → Laned k node (Piped (placed_rule place spread) count
        (λ t. row_call fb fh (placed_of fb fh d) (slice_get rows (start + t))) (λ t. row_body fb fh (placed_of fb fh d) (slice_get rows (start + t))))
    pipe_laned d k node at ih spread place count start rows deep low child ok = go spread
      where
        inside : (c t : ℕ) → c < s.children node
            → HaveLanes s (row_body fb fh (placed_of fb fh d) (slice_get rows (start + t))) (s.child node c) 0
        inside c t less = by (slice_get rows (start + t)) refl
          where
            by : (o : Option CallInstance) → slice_get rows (start + t) ≡ o
                → HaveLanes s (row_body fb fh (placed_of fb fh d) o) (s.child node c) 0
            by None e = tt
            by (Some q) e =
                let n = s.child node c in
                let there : IsAt (level_at r q.form) n =
                subst (λ (m : ℕ). IsAt m n) (sym (deep (start + t) q e)) (its.machine.below (level_at r k) node c at less) in
                ih q.form n there 0 (some_child q.form n there)

        go : (rule : Option SpreadRule) → HaveLanes s (Piped (placed_rule place rule) count
            (λ t. row_call fb fh (placed_of fb fh d) (slice_get rows (start + t)))
            (λ t. row_body fb fh (placed_of fb fh d) (slice_get rows (start + t)))) node child
        go None = λ t l. (tt, inside child t (ok low))
        go (Some rule) = λ t l.
            let lane = lane_below s rule node count t (some_child k node at low) l in (
              lane,
              inside (lane_of rule (at_node s node) count t) t
                  (subst (λ (n : ℕ). lane_of rule (at_node s node) count t < n) (fan_is s node) lane),
            )

    -- a loop that arguments leave has the lanes of the loop
    hold_laned : (k node : ℕ) (ps : List (ℕ × Argument)) (f : (ℕ × Argument) → PlacedArg) (x : Placed)
        → Laned k node x → Laned k node (hold_placed ps f x)
    hold_laned k node [] f x g = g
    hold_laned k node (p ∷ ps) f x g = g

    laned_keeps : (d k node : ℕ) → IsAt (level_at r k) node
        → ((f n : ℕ) → IsAt (level_at r f) n → Laned f n (placed_of fb fh d f))
        → Keeps fb fh (placed_of fb fh d) (level_at r) (level_at r k) (level_at r k < last) (RowIs r w k)
        (Laned k node)
    laned_keeps d form node at ih = record {
      nothing = λ child ok. tt;
      both = λ x y g h child ok. (g child ok, h child ok);
      loop = λ m place spread count x d h. loop_laned form node at m place spread count x d h;
      hold = λ h k x g. hold_laned form node (leaving_chain fh h)
          (held_arg (fb (chain_form h)) (fh (chain_form h)) (chain_row h k)) x g;
      pipe = λ spread place count start rows known low. pipe_laned d form node at ih spread place count start rows
          (λ i q e. (known i q e).1) low;
      leaf = λ code leaf shapes child ok. tt;
      row = λ op lower q x l e. call_laned d form node at ih op lower q l e;
    }

    laned : (d k node : ℕ) → IsAt (level_at r k) node → Laned k node (placed_of fb fh d k)
    laned zero k node at = λ child ok. tt
    laned (suc d) k node at =
        body_keeps fb fh (placed_of fb fh d) (level_at r) (level_at r k) (level_at r k < last) (RowIs r w k)
        (Laned k node) (laned_keeps d k node at (laned d)) (fh k) (fb k).arrays (fb k).body (rows_are r w k) (levels k)
        (deep_at k)

    pub have_lanes : HaveLanes s (placed_of fb fh (length (bodies_of r)) 0) 0 0
    have_lanes =
        let at : IsAt (level_at r 0) 0 = subst (λ (m : ℕ). IsAt m 0) (sym root_level) its.root in
        laned (length (bodies_of r)) 0 0 at 0 (some_child 0 0 at)

pub lanes_are_there : LanesAreThere
lanes_are_there r w choices hoisted nodes are offset = have_lanes r w choices hoisted nodes are offset
