-- Each form but the entry is started by one before it.
use Rattle.std.proofs.Common.{◌≡◌, ℕ, zero, suc, ◌+◌, ◌<◌, ◌≤◌, Bool, true, false, if◌then◌else◌, List, [], ◌∷◌, length, slice_get, Some, refl, sym, ap, ap₂, ◌∙◌, subst, arith, le_trans}
use Rattle.std.specs.List.{Contains, range_with_len}
use Rattle.sq_text.specs.declared.spread.SpreadRule.{SpreadRule}
use Rattle.sq_text.specs.Spreading.{child_of, iterations_at}
use Rattle.sq_text.proofs.Spreads.{spreads}
use Rattle.sq_machfile.specs.Machines.{WithinLimits}
use Rattle.sq_blocks.specs.declared.argument.Argument.{Argument}
use Rattle.sq_ir.specs.Written.{Setting}
use Rattle.sq_ir.specs.Plans.{placed}
use Rattle.sq_ir.specs.declared.plan.PlanNode.{PlanNode}
use Rattle.sq_nests.specs.Stacks.{total}
use Rattle.sq_forms.specs.declared.form.Form.{Form}
use Rattle.sq_form_laws.proofs.AnswerHold.{forms_callers_first}
use Rattle.sq_spec.specs.declared.body.FormBody.{FormBody}
use Rattle.sq_spec.specs.declared.resolved.Resolved.{Resolved}
use Rattle.sq_spec_laws.specs.Needs.{turn_in, reached_from}
use Rattle.sq_meant.specs.PlanGood.DraftLaws.Choosing.{Walked, MayBeChosen}
use Rattle.sq_meant.specs.PlanGood.Homes.Chosen.declared.choice.Choice.{Choice}
use Rattle.sq_meant.specs.PlanGood.Homes.Begun.{Begun, child_in}
use Rattle.sq_meant.specs.PlanGood.Homes.Chosen.Forms.{bodies_of}
use Rattle.sq_meant.specs.PlanGood.Homes.Drafts.{homes_of, buffers_of}
use Rattle.sq_meant.specs.PlanGood.Listed.{IsListed}
use Rattle.sq_meant.specs.PlanGood.Loops.{BegunLoop, Starts, Once, Lanes, brought_by, lane_worth, starts_worth}
use Rattle.sq_meant.specs.PlanGood.Planned.{memories_of}
use Rattle.sq_meant.specs.PlanGood.Sums.{greatest, here}
use Rattle.sq_meant.specs.PlanGood.Term.Placed.declared.home.Homes.{Homes}
use Rattle.sq_meant.specs.PlanGood.Term.Placed.Trees.{callee_node}
use Rattle.sq_meant.specs.PlanGood.Term.Stands as stands
use Rattle.sq_meant.specs.PlanGood.Term.Terms.{body_in, homes_in, row_args}
use Rattle.sq_meant.proofs.PlanGood.DraftLaws.Forms.{resolving}
use Rattle.sq_meant.proofs.PlanGood.DraftLaws.Hoisted.{is_form, params_many}
use Rattle.sq_meant.proofs.PlanGood.DraftLaws.Hoisting.{bodies_many}
use Rattle.sq_meant.proofs.PlanGood.Fitting.{Before, each_before}
use Rattle.sq_meant.proofs.PlanGood.ListedForms.{calls_are_listed}
use Rattle.sq_meant.proofs.PlanGood.Running.{at_level, node_is, callee_runs}
use Rattle.sq_meant.proofs.PlanGood.Turning.{IsTurn}
use Rattle.sq_compiled_laws.proofs.BufferRoom.{one, seen}
use Rattle.sq_compiled_laws.proofs.Called.{IsCalled, is_called}
use Rattle.sq_compiled_laws.proofs.Covered.{StartsCall, calls_covered}
use Rattle.sq_compiled_laws.proofs.Started.{Runs, Leads, IsStarted, AreStarted, greatest_at}

some_same : {A : Type 0} (x y : A) → Some x ≡ Some y → x ≡ y
some_same x y h = cc h

item_at : {A : Type 0} (xs : List A) (i : ℕ) → i < length xs → (x : A) × (slice_get xs i ≡ Some x)
item_at [] i l = absurd (omega (arith, l))
item_at (x ∷ xs) zero l = (x, refl)
item_at (x ∷ xs) (suc i) l = item_at xs i (omega (arith, l))

range_at : (a n i : ℕ) → i < n → slice_get (range_with_len a n) i ≡ Some (a + i)
range_at a zero i l = absurd (omega (arith, l))
range_at a (suc n) zero l = let z : a ≡ a + 0 = omega arith in ap (λ (m : ℕ). Some m) z
range_at a (suc n) (suc i) l =
    let z : a + 1 + i ≡ a + suc i = omega arith in
    range_at (a + 1) n i (omega (arith, l)) ∙ ap (λ (m : ℕ). Some m) z

some_there : {A : Type 0} (xs : List A) (x : A) → Contains xs x → 0 < length xs
some_there [] x (k, l, e) = absurd (omega (arith, l))
some_there (y ∷ xs) x h = omega arith

module _ (r : Resolved) (w : Walked r) (limits : WithinLimits r.machine.now) (choices : List Choice) (may : MayBeChosen r choices) (offset : ℕ → ℕ) where
  abbrev bodies : ℕ → FormBody
  bodies = body_in (bodies_of r)

  abbrev homes : ℕ → Homes
  homes = homes_in (homes_of r choices)

  abbrev s : Setting
  s = placed (buffers_of r choices) (memories_of r) offset

  -- as much stands there as was begun, where so much is known of its callees
  abbrev stood : (b x : ℕ) → (ℕ → ℕ → ℕ) → (overlaps : Bool) → (form : ℕ) → List Argument → (node : ℕ) → ℕ
  stood b x inside overlaps form args node = here node x (total (one b) (brought_by bodies homes overlaps form args)) + inside form node

  module _ (j : ℕ) (some : 0 < j) (short : j < length (bodies_of r)) (c : IsCalled r w j) where
    listed : Before (IsListed r.forms c.caller c.form) (reached_from r.typed.now.tasks r.mapping.now.instances c.caller c.form) c.begun c.index
    listed = each_before (calls_are_listed r w c.caller c.form c.form_there) c.index c.begun c.there

    less : c.caller < j
    less =
        subst (λ (n : ℕ). c.caller < n) c.names
        (forms_callers_first r.typed.now.tasks r.mapping.now (resolving r) w.through c.begun.row.form listed.is.to _ listed.is.there listed.is.caller)

    there : slice_get r.forms j ≡ Some listed.is.to
    there = ap (λ (n : ℕ). slice_get r.forms n) (sym c.names) ∙ listed.is.there

    many : length c.begun.row.args ≡ length (homes j).params
    many =
        let b = item_at (bodies_of r) j short in
        listed.is.many ∙ ap length (sym listed.is.in_place) ∙ sym (may.each j listed.is.to there).flags
        ∙ sym (params_many r choices may j b.0 (is_form r choices may j b.0 b.1))

    module _ (y : ℕ) (runs : Runs r c.caller y) where
      abbrev rule : SpreadRule
      rule = (homes c.caller).rule

      abbrev to : ℕ
      to = callee_node s c.begun.lower y (child_in rule (s.children y) c.begun.turn)

      callee : Runs r j to
      callee =
          subst (λ (n : ℕ). Runs r n to) c.names
          (callee_runs r w limits choices c.caller y c.form c.form_there runs listed.item c.begun listed.is c.index listed.there)

      -- a node at which a lower call is made has children
      some_children : c.begun.lower ≡ true → 0 < s.children y
      some_children lower =
          let at = at_level r w limits choices c.caller y runs in
          let in_it = at_level r w limits choices j to callee in
          let own : at.form ≡ c.form = some_same at.form c.form (sym at.form_there ∙ c.form_there) in
          let its : in_it.form ≡ listed.is.to = some_same in_it.form listed.is.to (sym in_it.form_there ∙ there) in
          let deep : in_it.own.level ≡ suc at.own.level =
          in_it.level ∙ ap (λ (f : Form). f.level) its ∙ listed.is.level ∙ ap (λ (v : Bool). stands.below v c.form.level) lower
          ∙ ap (λ (f : Form). suc f.level) (sym own) ∙ ap suc (sym at.level) in
          let in_machine = (limits.fits to in_it.own in_it.own_there).level in
          let fits = (limits.fits y at.own at.own_there).some (omega (arith, deep, in_machine)) in
          let node = ap (λ (n : PlanNode). n.children) (node_is r w limits choices y at.own at.own_there) in
          omega (arith, fits, node)

      once_leads : (e : Begun) → e ≡ c.begun → (homes c.begun.row.form).overlaps ≡ false → Leads r choices offset j y rule (Once e)
      once_leads e is over = record {
        to = to;
        runs = callee;
        args = c.begun.row.args;
        long = many;
        brings_ = λ b x inside.
            let same = ap (λ (n : ℕ). stood b x inside (homes n).overlaps n c.begun.row.args to) (sym c.names)
            ∙ ap (λ (o : Bool). stood b x inside o c.begun.row.form c.begun.row.args to) over in
            subst (λ (d : Begun). stood b x inside (homes j).overlaps j c.begun.row.args to ≤ starts_worth (seen s b) bodies homes x inside rule y (Once d)) (sym is)
            (subst (λ (n : ℕ). stood b x inside (homes j).overlaps j c.begun.row.args to ≤ n) same (omega arith));
      }

      module _ (l : BegunLoop) (t : ℕ) (in_loop : t < l.count) (is : IsTurn l t c.begun) (over : (homes c.begun.row.form).overlaps ≡ true) where
        lane : (b x : ℕ) (inside : ℕ → ℕ → ℕ) (node n : ℕ) → to ≡ node → 0 < n
            → stood b x inside (homes j).overlaps j (row_args l.row) to ≤ lane_worth (seen s b) bodies homes x inside l.row node n
        lane b x inside node zero at positive = absurd (omega (arith, positive))
        lane b x inside node (suc n) at positive =
            let same = ap (λ (n : ℕ). stood b x inside (homes n).overlaps n (row_args l.row) to) (sym c.names)
            ∙ ap (λ (o : Bool). stood b x inside o c.begun.row.form (row_args l.row) to) over
            ∙ ap₂ (λ (f y : ℕ). stood b x inside true f (row_args l.row) y) is.form at in
            subst (λ (m : ℕ). stood b x inside (homes j).overlaps j (row_args l.row) to ≤ m) same (omega arith)

        goes : (n : ℕ) → child_in rule (s.children y) (turn_in l.spread l.turn l.count t) ≡ n → to ≡ callee_node s true y n
        goes n at = ap₂ (λ (o : Bool) (m : ℕ). callee_node s o y m) is.lower (ap (child_in rule (s.children y)) is.turn ∙ at)

        abbrev its : ℕ → List ℕ
        its n = iterations_at rule l.count (s.children y) n

        in_lanes : (b x : ℕ) (inside : ℕ → ℕ → ℕ) (v : Bool) → l.spread ≡ v
            → stood b x inside (homes j).overlaps j (row_args l.row) to
            ≤ (if v then greatest (λ n. lane_worth (seen s b) bodies homes x inside l.row (s.child y n) (length (its n))) (range_with_len 0 (s.children y))
            else lane_worth (seen s b) bodies homes x inside l.row (callee_node s true y (child_in rule (s.children y) l.turn)) l.count)
        in_lanes b x inside false v =
            lane b x inside (callee_node s true y (child_in rule (s.children y) l.turn)) l.count
            (goes (child_in rule (s.children y) l.turn) (ap (λ (o : Bool). child_in rule (s.children y) (turn_in o l.turn l.count t)) v)) (omega (arith, in_loop))
        in_lanes b x inside true v =
            let child = child_of rule l.count (s.children y) t in
            let all = spreads rule l.count (s.children y) (some_children is.lower) in
            let at = all.below t in_loop in
            let z : 0 + child ≡ child = omega arith in
            le_trans
            (lane b x inside (s.child y child) (length (its child))
            (goes child (ap (λ (o : Bool). child_in rule (s.children y) (turn_in o l.turn l.count t)) v)) (some_there (its child) t (all.there t in_loop)))
            (greatest_at (λ n. lane_worth (seen s b) bodies homes x inside l.row (s.child y n) (length (its n))) (range_with_len 0 (s.children y)) child child
            (range_at 0 (s.children y) child at ∙ ap (λ (m : ℕ). Some m) z))

        lanes_lead : Leads r choices offset j y rule (Lanes l)
        lanes_lead = record {
          to = to;
          runs = callee;
          args = row_args l.row;
          long = sym is.many ∙ many;
          brings_ = λ b x inside. in_lanes b x inside l.spread refl;
        }

      leads : (z : Starts) → StartsCall homes c.begun z → Leads r choices offset j y rule z
      leads (Once e) h = once_leads e h.0 h.1
      leads (Lanes l) h = lanes_lead l h.0 h.1 h.2 h.3

    is_started : IsStarted r choices offset j
    is_started =
        let covered = calls_covered homes (bodies c.caller).body (may.calls c.caller) (may.stand.each c.caller) c.begun (c.index, c.there) in
        record {
          caller = c.caller;
          less = less;
          index = covered.among.0;
          start = covered.start;
          there = covered.among.1;
          leads = λ y runs. leads y runs covered.start covered.is;
        }

pub are_started : (r : Resolved) → Walked r → WithinLimits r.machine.now → (choices : List Choice) → MayBeChosen r choices → AreStarted r choices
are_started r w limits choices may = record {
  each = λ offset j some less.
      let same = bodies_many r choices in
      is_started r w limits choices may offset j some less (is_called r w j some (omega (arith, same, less)));
}
