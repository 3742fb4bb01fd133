-- Where forms run: at nodes of their levels, and what they call at these or at their children.
use Rattle.std.proofs.Common.{◌≡◌, ℕ, suc, ◌+◌, ◌<◌, true, false, Bool, List, map, slice_get, Option, Some, None, refl}
use Rattle.std.proofs.Common.{sym, ap, ap₂, ◌∙◌}
use Rattle.std.proofs.lemmas.Option.{get_or_from_slice_get}
use Rattle.sq_text.specs.declared.spread.SpreadRule.{SpreadRule}
use Rattle.sq_ast.specs.declared.program.Variant.{Variant}
use Rattle.sq_mapping.specs.declared.mapping.Instance.{Instance}
use Rattle.sq_machfile.specs.declared.node.Node.{Node}
use Rattle.sq_machfile.specs.Machines.{WithinLimits}
use Rattle.sq_ir.specs.Written.{Setting}
use Rattle.sq_ir.specs.Plans.{node_at}
use Rattle.sq_ir.specs.declared.plan.PlanNode.{PlanNode}
use Rattle.sq_forms.specs.declared.form.Form.{Form}
use Rattle.sq_forms.specs.Resolving.{with_locals}
use Rattle.sq_form_laws.proofs.AnswerHold.{forms_are_found, forms_callers_first}
use Rattle.sq_spec.specs.declared.resolved.Resolved.{Resolved}
use Rattle.sq_spec.proofs.Rows.{get_or_map}
use Rattle.sq_spec_laws.specs.Needs.{Turn, Reached, reached_from, IsCall, child_for, StandsAt, RunsAt, beside, below}
use Rattle.sq_spec_laws.specs.Needs.{AtLevel}
use Rattle.sq_spec_laws.proofs.LevelsHold.{forms_run_at_their_level}
use Rattle.sq_placed.specs.declared.home.Homes.{Homes}
use Rattle.sq_placed.specs.Trees.{callee_node}
use Rattle.sq_term.specs.Stands as stands
use Rattle.sq_term.specs.Terms.{homes_in, no_homes}
use Rattle.sq_draft_laws.specs.Homes.Chosen.declared.choice.Choice.{Choice}
use Rattle.sq_draft_laws.specs.Homes.Numbering.{form_homes}
use Rattle.sq_draft_laws.specs.Homes.Chosen.Forms.{choice_in, instance_at, instance_by, rule_by}
use Rattle.sq_draft_laws.specs.Homes.Drafts.{homes_of}
use Rattle.sq_draft_laws.specs.Homes.Begun.{Begun, child_in}
use Rattle.sq_draft_laws.specs.Choosing.{Walked, setting_of}
use Rattle.sq_draft_laws.proofs.Forms.{body_at, body_there, run_of, resolving}
use Rattle.sq_draft_laws.proofs.Numbers.{first_of, form_is_at}
use Rattle.sq_draft_laws.specs.Memories.{plan_node}
use Rattle.sq_plan_good.specs.Listed.{IsListed}

some_same : {A : Type 0} (x y : A) → Some x ≡ Some y → x ≡ y
some_same x y h = cc h

child_same : (rule : SpreadRule) (n : Node) (t : Option Turn) → child_in rule n.children t ≡ child_for rule n t
child_same rule n None = refl
child_same rule n (Some u) = refl

module _ (r : Resolved) (w : Walked r) (limits : WithinLimits r.machine.now) (choices : List Choice) where
  abbrev tasks : List Variant
  tasks = r.typed.now.tasks

  abbrev instances : List Instance
  instances = r.mapping.now.instances

  abbrev nodes : List Node
  nodes = r.machine.now.nodes

  abbrev memories : List PlanNode
  memories = map plan_node nodes

  abbrev s : Setting
  s = setting_of r choices memories (λ b. 0)

  abbrev homes : ℕ → Homes
  homes = homes_in (homes_of r choices)

  abbrev Runs : ℕ → ℕ → Type 0
  Runs = RunsAt tasks instances nodes r.forms

  abbrev level : ℕ → ℕ
  level y = (node_at memories y).level

  pub at_level : (k y : ℕ) → RunsAt r.typed.now.tasks r.mapping.now.instances r.machine.now.nodes r.forms k y
      → AtLevel r.machine.now.nodes r.forms k y
  at_level k y h
      = forms_run_at_their_level r.typed.now r.machine.now r.mapping.now (resolving r) limits w.read w.through k y h

  pub node_is : (y : ℕ) (n : Node) → slice_get r.machine.now.nodes y ≡ Some n
      → node_at (map plan_node r.machine.now.nodes) y ≡ plan_node n
  node_is y n h = get_or_map plan_node nodes y n _ h

  pub level_is : (k y : ℕ) (f : Form) → slice_get r.forms k ≡ Some f
      → RunsAt r.typed.now.tasks r.mapping.now.instances r.machine.now.nodes r.forms k y
      → (node_at (map plan_node r.machine.now.nodes) y).level ≡ f.level
  level_is k y f there h =
      let at = at_level k y h in
      ap (λ (n : PlanNode). n.level) (node_is y at.own at.own_there) ∙ at.level
      ∙ ap (λ (g : Form). g.level) (some_same at.form f (sym at.form_there ∙ there))

  pub rule_is : (k : ℕ) (f : Form) (i : Instance) → slice_get r.forms k ≡ Some f
      → slice_get r.mapping.now.instances f.instance ≡ Some i
      → (homes_in (homes_of r choices) k).rule ≡ i.spread
  rule_is k f i there at =
      let e = forms_are_found tasks r.mapping.now (resolving r) w.through k f there in
      let d = form_is_at r choices k (body_at r k) (body_there r w k e.found e.there) in
      let rule = rule_by (instance_at r k) in
      let own = form_homes (first_of r choices k) rule d.code (body_at r k) (choice_in choices k) in
      ap (λ (h : Homes). h.rule) (get_or_from_slice_get (homes_of r choices) k own no_homes d.homes)
      ∙ ap (λ (o : Option Form). rule_by (instance_by instances o)) there ∙ ap rule_by at

  module _ (k y : ℕ) (f : Form) (there : slice_get r.forms k ≡ Some f)
      (runs : RunsAt r.typed.now.tasks r.mapping.now.instances r.machine.now.nodes r.forms k y)
      (q : Reached) (d : Begun) (li : IsListed r.forms k f q d) (index : ℕ)
      (among : slice_get (reached_from r.typed.now.tasks r.mapping.now.instances k f) index ≡ Some q) where
    pub call : IsCall r.typed.now.tasks r.mapping.now.instances r.forms k d.row.form f li.to q
    call = record {
      caller_there = there;
      callee_there = li.there;
      index = index;
      among = among;
      from_call = li.caller;
      extents = li.extents;
      in_place = li.in_place;
    }

    pub later : k < d.row.form
    later = forms_callers_first tasks r.mapping.now (resolving r) w.through d.row.form li.to _ li.there li.caller

    pub stands_there : StandsAt r.mapping.now.instances r.machine.now.nodes f q y
        ((setting_of r choices (map plan_node r.machine.now.nodes) (λ b. 0)).child y
        (child_in (homes_in (homes_of r choices) k).rule
        ((setting_of r choices (map plan_node r.machine.now.nodes) (λ b. 0)).children y) d.turn))
    stands_there =
        let found = forms_are_found tasks r.mapping.now (resolving r) w.through k f there in
        let run = run_of r w k found.found found.there in
        let same : with_locals found.found.1 run.ran.scope.locals ≡ f = some_same _ f (sym run.ran.kept ∙ there) in
        let at = at_level k y runs in
        let i = run.fits.instance in
        let i_there : slice_get instances f.instance ≡ Some i =
        ap (λ (g : Form). slice_get instances g.instance) (sym same) ∙ run.fits.there in
        let n = node_is y at.own at.own_there in
        record {
          instance = i;
          runs = i_there;
          parent = at.own;
          there = at.own_there;
          is = ap (λ (z : PlanNode). z.first_child + child_in (homes k).rule z.children d.turn) n
              ∙ ap₂ (λ (rule : SpreadRule) (t : Option Turn). at.own.first_child + child_in rule at.own.children t)
              (rule_is k f i there i_there) li.round
              ∙ ap (λ (c : ℕ). at.own.first_child + c) (child_same i.spread at.own q.turn);
        }

    -- the callee runs where its call goes
    pub callee_runs : RunsAt r.typed.now.tasks r.mapping.now.instances r.machine.now.nodes r.forms d.row.form
        (callee_node (setting_of r choices (map plan_node r.machine.now.nodes) (λ b. 0)) d.lower y
        (child_in (homes_in (homes_of r choices) k).rule
        ((setting_of r choices (map plan_node r.machine.now.nodes) (λ b. 0)).children y) d.turn))
    callee_runs = by d.lower refl
      where
        by : (v : Bool) → d.lower ≡ v
            → Runs d.row.form (callee_node s v y (child_in (homes k).rule (s.children y) d.turn))
        by false g = beside f li.to q call (li.level ∙ ap (λ (v : Bool). stands.below v f.level) g) runs
        by true g = below f li.to q call (li.level ∙ ap (λ (v : Bool). stands.below v f.level) g) runs stands_there

    -- one level lower
    pub callee_deeper : d.lower ≡ true
        → (node_at (map plan_node r.machine.now.nodes) (callee_node
        (setting_of r choices (map plan_node r.machine.now.nodes) (λ b. 0)) d.lower y
        (child_in (homes_in (homes_of r choices) k).rule
        ((setting_of r choices (map plan_node r.machine.now.nodes) (λ b. 0)).children y) d.turn))).level
        ≡ suc (node_at (map plan_node r.machine.now.nodes) y).level
    callee_deeper g =
        level_is d.row.form _ li.to li.there callee_runs
        ∙ (li.level ∙ ap (λ (v : Bool). stands.below v f.level) g)
        ∙ ap suc (sym (level_is k y f there runs))
