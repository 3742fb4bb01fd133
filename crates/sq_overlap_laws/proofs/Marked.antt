-- Where a form runs, its marks say so.
use Rattle.std.proofs.Common.{◌≡◌, ℕ, suc, ◌+◌, ◌<◌, ◌==◌, Bool, true, false, List, [], length, get_or}
use Rattle.std.proofs.Common.{slice_get, slice_set, Option, Some, None, refl, sym, ap, ap₂, subst, ◌∙◌, arith}
use Rattle.std.proofs.Common.{if◌then◌else◌}
use Rattle.std.proofs.lemmas.Option.{slice_get_within}
use Rattle.sq_text.specs.declared.spread.SpreadRule.{SpreadRule}
use Rattle.sq_ast.specs.declared.program.Variant.{Variant}
use Rattle.sq_machfile.specs.declared.node.Node.{Node}
use Rattle.sq_machfile.specs.Machines.{WithinLimits}
use Rattle.sq_forms.specs.Mappings.declared.mapping.Instance.{Instance}
use Rattle.sq_forms.specs.declared.form.Caller.{Caller}
use Rattle.sq_forms.specs.declared.form.Form.{Form}
use Rattle.sq_spec.proofs.FormLaws.AnswerHold.{forms_callers_first}
use Rattle.sq_spec.proofs.FormLaws.RanHold.{as_many_forms}
use Rattle.sq_spec.specs.declared.body.FormBody.{FormBody}
use Rattle.sq_spec.specs.declared.resolved.Resolved.{Resolved}
use Rattle.sq_spec_laws.specs.Needs.{Turn, Reached, IsCall, StandsAt, RunsAt, entry, beside, below}
use Rattle.sq_pass_laws.specs.Hoist.Choices.{body_at}
use Rattle.sq_pass_laws.specs.Pipe.Runs.{Marks, is_marked, mark_below, unmarked, level_at, flags_at, body_lands, has_flag}
use Rattle.sq_pass_laws.specs.Pipe.Runs.{marks_called, marks_by, marks_of}
use Rattle.sq_plan_good.specs.DraftLaws.Choosing.{Walked}
use Rattle.sq_plan_good.specs.Homes.Begun.{calls_of, child_in}
use Rattle.sq_plan_good.specs.Homes.Chosen.Forms.{instance_at, instance_by, level_by, rule_by}
use Rattle.sq_plan_good.specs.Listed.{IsListed}
use Rattle.sq_plan_good.proofs.DraftLaws.Forms.{resolving}
use Rattle.sq_plan_good.proofs.DraftLaws.Programs.{bodies_are_tables}
use Rattle.sq_plan_good.proofs.ListedForms.{calls_are_listed}
use Rattle.sq_overlap_laws.specs.Marks.{Runs}
use Rattle.sq_overlap_laws.proofs.Called.{at_level, each_at, each_back}
use Rattle.sq_overlap_laws.proofs.Flagged.{set_sets, flag_is_set, below_marked, unmarked_long}
use Rattle.sq_overlap_laws.proofs.Landed.{Goes, body_goes}
use Rattle.sq_overlap_laws.proofs.Made.{made, same_level, next_level, child_same, child_within}

some_same : {A : Type 0} (x y : A) → Some x ≡ Some y → x ≡ y
some_same x y h = cc h

module _ (r : Resolved) (w : Walked r) where
  abbrev tasks : List Variant
  tasks = r.typed.now.tasks

  abbrev places : List Instance
  places = r.mapping.now.instances

  abbrev nodes : List Node
  nodes = r.machine.now.nodes

  abbrev marks : ℕ → Marks
  marks k = get_or (marks_of r) k []

  caller_first : (k : ℕ) (f : Form) (c : Caller) → slice_get r.forms k ≡ Some f → f.caller ≡ Some c → c.form < k
  caller_first k f c there e = forms_callers_first tasks r.mapping.now (resolving r) w.through k f c there e

  -- they are made of those of its caller
  pub called : (k : ℕ) (f : Form) (c : Caller) → slice_get r.forms k ≡ Some f → f.caller ≡ Some c
      → get_or (marks_of r) k [] ≡ marks_called r k f.level c.form (get_or (marks_of r) c.form [])
  called k f c there e =
      let m = made r k f there in
      m.is ∙ ap (λ (o : Option Caller). marks_by r k f.level o m.known) e
      ∙ ap (marks_called r k f.level c.form) (m.before c.form (caller_first k f c there e))

  module _ (limits : WithinLimits r.machine.now) where
    -- the entry has no caller
    entry_marked : is_marked (marks 0) 0 ≡ true
    entry_marked =
        let at = at_level r w limits 0 0 entry in
        let m = made r 0 at.form at.form_there in
        let some = slice_get_within nodes 0 at.own at.own_there in
        let long = unmarked_long nodes in
        let top : is_marked (slice_set (unmarked nodes) 0 true) 0 ≡ true
        = set_sets (unmarked nodes) 0 (omega (arith, some, long)) in
        subst (λ (ms : Marks). is_marked ms 0 ≡ true) (sym m.is)
        (by at.form at.form_there at.form.caller refl m.known top)
      where
        by : (f : Form) → slice_get r.forms 0 ≡ Some f → (o : Option Caller) → f.caller ≡ o → (known : List Marks)
            → is_marked (slice_set (unmarked nodes) 0 true) 0 ≡ true → is_marked (marks_by r 0 f.level o known) 0 ≡ true
        by f there None e known top = top
        by f there (Some c) e known top =
            let z : c.form < 0 = caller_first 0 f c there e in absurd (omega (arith, z))

    module _ (caller callee node : ℕ) (from to : Form) (q : Reached)
        (call : IsCall r.typed.now.tasks r.mapping.now.instances r.forms caller callee from to q)
        (marked : is_marked (get_or (marks_of r) caller []) node ≡ true) where
      own_marks : marks callee ≡ marks_called r callee to.level caller (marks caller)
      own_marks = called callee to _ call.callee_there call.from_call

      level_is : level_at r caller ≡ from.level
      level_is = ap level_by call.caller_there

      beside_marked : to.level ≡ from.level → is_marked (marks callee) node ≡ true
      beside_marked level =
          let test : (level_at r caller == to.level) ≡ true = same_level _ _ (level_is ∙ sym level) in
          subst (λ (ms : Marks). is_marked ms node ≡ true) (sym own_marks)
          (subst (λ (v : Bool). is_marked (if v then marks caller else mark_below (flags_at r caller) callee
          (marks caller) 0 nodes (unmarked nodes)) node ≡ true) (sym test) marked)

      module _ (child : ℕ) (level : to.level ≡ suc from.level) (runs : Runs r caller node)
          (stands : StandsAt r.mapping.now.instances r.machine.now.nodes from q node child) where
        abbrev rule : SpreadRule
        rule = rule_by (instance_at r caller)

        abbrev parent : Node
        parent = stands.parent

        rule_is : rule ≡ stands.instance.spread
        rule_is = ap (λ (o : Option Form). rule_by (instance_by places o)) call.caller_there ∙ ap rule_by stands.runs

        below_is_marked : is_marked (marks callee) child ≡ true
        below_is_marked =
            let found = each_at (IsListed r.forms caller from) (calls_are_listed r w caller from call.caller_there)
            call.index q call.among in
            let d = found.0 in
            let li = found.2 in
            let begun : slice_get (calls_of (body_at r caller).body) call.index ≡ Some d =
            ap (λ (b : FormBody). slice_get (calls_of b.body) call.index) (sym (bodies_are_tables as_many_forms r caller))
            ∙ found.1 in
            let la = each_back (Goes rule parent.children) (body_goes rule parent.children (body_at r caller).body)
            call.index d begun in
            let at = at_level r w limits callee child (below from to q call level runs stands) in
            let up = at_level r w limits caller node runs in
            let form : callee ≡ d.row.form
            = li.only callee to call.callee_there call.from_call call.extents call.in_place in
            let c = child_in rule parent.children d.turn in
            let is : child ≡ parent.first_child + c =
            stands.is ∙ ap (λ (n : ℕ). parent.first_child + n) (sym (child_same stands.instance.spread parent q.turn)
            ∙ ap₂ (λ (s : SpreadRule) (t : Option Turn). child_in s parent.children t) (sym rule_is) (sym li.round)) in
            let same_up : up.own ≡ parent = some_same _ _ (sym up.own_there ∙ stands.there) in
            let up_form : up.form ≡ from = some_same _ _ (sym up.form_there ∙ call.caller_there) in
            let up_level : parent.level ≡ from.level = sym (ap (λ (n : Node). n.level) same_up) ∙ up.level
            ∙ ap (λ (f : Form). f.level) up_form in
            let at_form : at.form ≡ to = some_same _ _ (sym at.form_there ∙ call.callee_there) in
            let deep = (limits.fits child at.own at.own_there).level in
            let at_is : at.own.level ≡ to.level = at.level ∙ ap (λ (f : Form). f.level) at_form in
            let some = (limits.fits node parent stands.there).some (omega (arith, deep, at_is, level, up_level)) in
            let few = child_within rule parent.children d.turn some la.2.turn in
            let there = slice_get_within nodes child at.own at.own_there in
            let long = unmarked_long nodes in
            let form_there = slice_get_within r.forms callee to call.callee_there in
            let lands = body_lands rule parent.children (body_at r caller).body in
            let noted : slice_get lands call.index ≡ Some (callee, c) =
            la.1 ∙ ap₂ (λ (m n : ℕ). Some (m, n)) (la.2.form ∙ sym form) la.2.child in
            let flag : has_flag (flags_at r caller parent.children) parent.children callee c ≡ true =
            flag_is_set (length r.forms) parent.children lands call.index callee c noted form_there few in
            let z : 0 + node ≡ node = omega arith in
            let test : (level_at r caller == to.level) ≡ false
            = next_level _ _ (level ∙ ap suc (sym level_is)) in
            subst (λ (ms : Marks). is_marked ms child ≡ true) (sym own_marks)
            (subst (λ (v : Bool). is_marked (if v then marks caller else mark_below (flags_at r caller) callee
            (marks caller) 0 nodes (unmarked nodes)) child ≡ true) (sym test)
            (subst (λ (x : ℕ). is_marked (mark_below (flags_at r caller) callee (marks caller) 0 nodes
            (unmarked nodes)) x ≡ true) (sym is)
            (below_marked (flags_at r caller) callee (marks caller) 0 nodes (unmarked nodes) node parent c stands.there
            (ap (is_marked (marks caller)) z ∙ marked) few flag (omega (arith, there, long, is)))))

    pub all_marked : (k node : ℕ)
        → RunsAt r.typed.now.tasks r.mapping.now.instances r.machine.now.nodes r.forms k node
        → is_marked (get_or (marks_of r) k []) node ≡ true
    all_marked _ _ entry = entry_marked
    all_marked k node (beside {caller} from to q call level runs) =
        beside_marked caller k node from to q call (all_marked caller node runs) level
    all_marked k child (below {caller} {callee} {node} from to q call level runs stands) =
        below_is_marked caller k node from to q call (all_marked caller node runs) child level runs stands
