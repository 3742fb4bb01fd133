-- Where a form runs, its marks say so.
use Rattle.std.proofs.Common.{◌≡◌, ℕ, zero, suc, ◌+◌, ◌<◌, ◌==◌, Bool, true, false, List, [], ◌∷◌, ◌++◌, length, get_or}
use Rattle.std.proofs.Common.{slice_get, slice_set, Option, Some, None, refl, sym, ap, ap₂, subst, ◌∙◌, arith}
use Rattle.std.proofs.Common.{if◌then◌else◌, eq-eqb}
use Rattle.std.proofs.lemmas.Bool.Decides.{nat_tests}
use Rattle.std.proofs.lemmas.List.{length-append, get_or_append_left}
use Rattle.std.proofs.lemmas.Option.{slice_get_within}
use Rattle.std.proofs.Math.Seq.{get_or-append_seam}
use Rattle.sq_text.specs.declared.spread.SpreadRule.{SpreadRule}
use Rattle.sq_text.proofs.Spreads.{spreads}
use Rattle.sq_ast.specs.declared.program.Variant.{Variant}
use Rattle.sq_machfile.specs.declared.node.Node.{Node}
use Rattle.sq_machfile.specs.Machines.{WithinLimits}
use Rattle.sq_forms.specs.Mappings.declared.mapping.Instance.{Instance}
use Rattle.sq_forms.specs.declared.form.Caller.{Caller}
use Rattle.sq_forms.specs.declared.form.Form.{Form}
use Rattle.sq_forms.specs.Resolving.{Resolving}
use Rattle.sq_spec.specs.FormLaws.Reached.{FormsCallersFirst}
use Rattle.sq_spec.specs.declared.body.FormBody.{FormBody}
use Rattle.sq_spec.specs.declared.resolved.Resolved.{Resolved}
use Rattle.sq_spec_laws.specs.Needs.{Turn, Reached, child_for, IsCall, StandsAt, RunsAt, entry, beside}
use Rattle.sq_spec_laws.specs.Needs.{below, AtLevel, FormsRunAtTheirLevel}
use Rattle.sq_plan_good.specs.Homes.Begun.{Begun, calls_of, child_in}
use Rattle.sq_plan_good.specs.Homes.Chosen.Forms.{instance_at, instance_by, level_by, rule_by}
use Rattle.sq_plan_good.specs.DraftLaws.Choosing.{Walked}
use Rattle.sq_plan_good.specs.DraftLaws.Programs.{BodiesAreTables}
use Rattle.sq_pass_laws.specs.Hoist.Choices.{body_at}
use Rattle.sq_plan_good.specs.Listed.{IsListed, CallsAreListed}
use Rattle.sq_pass_laws.specs.Pipe.Runs.{Marks, is_marked, mark_below, unmarked, level_at, flags_at, body_lands, has_flag}
use Rattle.sq_pass_laws.specs.Pipe.Runs.{marks_called, marks_by, marks_from, marks_of}
use Rattle.sq_compile.specs.Room.{Runs, RunsAreMarked}
use Rattle.sq_compile.proofs.Flagged.{set_sets, flag_is_set, below_marked, unmarked_long}
use Rattle.sq_plan_good.proofs.Turning.{EachIn}
use Rattle.sq_compile.proofs.Landing.{IsIteration, Lands, beside_each, body_agrees}

some_same : {A : Type 0} (x y : A) → Some x ≡ Some y → x ≡ y
some_same x y h = cc h

-- ---- the marks of a form

-- made of the marks of the forms before it
record Made (r : Resolved) (all : List Marks) (k : ℕ) (f : Form) : Type 0 where
  known : List Marks
  before : (i : ℕ) → i < k → get_or known i [] ≡ get_or all i []
  is : get_or all k [] ≡ marks_by r k f.level f.caller known

one_longer : (known : List Marks) (x : Marks) → length (known ++ x ∷ []) ≡ length known + 1
one_longer known x = length-append known (x ∷ [])

-- earlier marks stay
from_keep : (r : Resolved) (k : ℕ) (fs : List Form) (known : List Marks) (i : ℕ) → i < length known
    → get_or (marks_from r k fs known) i [] ≡ get_or known i []
from_keep r k [] known i h = refl
from_keep r k (f ∷ fs) known i h =
    let x = marks_by r k f.level f.caller known in
    let long : length (known ++ x ∷ []) ≡ length known + 1 = one_longer known x in
    from_keep r (k + 1) fs (known ++ x ∷ []) i (omega (arith, h, long))
    ∙ get_or_append_left known (x ∷ []) [] i h

made_from : (r : Resolved) (k : ℕ) (fs : List Form) (known : List Marks) (j : ℕ) (f : Form) → length known ≡ k
    → slice_get fs j ≡ Some f → Made r (marks_from r k fs known) (k + j) f
made_from r k [] known j f many e = absurd (cc e)
made_from r k (g ∷ fs) known zero f many e =
    let same : g ≡ f = cc e in
    let z : k + 0 ≡ k = omega arith in
    let x = marks_by r k g.level g.caller known in
    let long : length (known ++ x ∷ []) ≡ length known + 1 = one_longer known x in
    let all = marks_from r (k + 1) fs (known ++ x ∷ []) in
    let own : get_or all k [] ≡ x = from_keep r (k + 1) fs (known ++ x ∷ []) k (omega (arith, many, long))
    ∙ ap (λ (n : ℕ). get_or (known ++ x ∷ []) n []) (sym many) ∙ get_or-append_seam known x [] [] in
    subst (λ (n : ℕ). Made r all n f) (sym z)
    (subst (λ (h : Form). Made r all k h) same
    (record {
      known = known;
      before = λ i less. sym (from_keep r k (g ∷ fs) known i (omega (arith, less, many)));
      is = own;
    }))
made_from r k (g ∷ fs) known (suc j) f many e =
    let z : k + suc j ≡ k + 1 + j = omega arith in
    let x = marks_by r k g.level g.caller known in
    let long : length (known ++ x ∷ []) ≡ length known + 1 = one_longer known x in
    subst (λ (n : ℕ). Made r (marks_from r (k + 1) fs (known ++ x ∷ [])) n f) (sym z)
    (made_from r (k + 1) fs (known ++ x ∷ []) j f (omega (arith, many, long)) e)

made : (r : Resolved) (k : ℕ) (f : Form) → slice_get r.forms k ≡ Some f → Made r (marks_of r) k f
made r k f there =
    let z : 0 + k ≡ k = omega arith in
    subst (λ (n : ℕ). Made r (marks_of r) n f) z (made_from r 0 r.forms [] k f refl there)

-- ---- levels

same_level : (m n : ℕ) → m ≡ n → (m == n) ≡ true
same_level m n e = eq-eqb m n e

next_level : (m n : ℕ) → n ≡ suc m → (m == n) ≡ false
next_level m n e = by (m == n) refl
  where
    by : (v : Bool) → (m == n) ≡ v → v ≡ false
    by true h = let z : (m == n) ≡ true = h in absurd (grind (arith, nat_tests, z, e))
    by false h = refl

-- ---- children

child_same : (rule : SpreadRule) (n : Node) (t : Option Turn) → child_in rule n.children t ≡ child_for rule n t
child_same rule n None = refl
child_same rule n (Some u) = refl

child_within : (rule : SpreadRule) (children : ℕ) (turn : Option Turn) → 0 < children → IsIteration turn
    → child_in rule children turn < children
child_within rule children None some is = some
child_within rule children (Some u) some is = (spreads rule u.count children some).below u.t is

-- ---- forms that run at nodes

module _ (listed : CallsAreListed) (bodies : BodiesAreTables) (first : FormsCallersFirst)
    (levels : FormsRunAtTheirLevel) (r : Resolved) (w : Walked r) (limits : WithinLimits r.machine.now) where
  abbrev tasks : List Variant
  tasks = r.typed.now.tasks

  abbrev instances : List Instance
  instances = r.mapping.now.instances

  abbrev nodes : List Node
  nodes = r.machine.now.nodes

  abbrev resolving : Resolving
  resolving = record { found = r.found.entries; forms = r.forms; uses = r.uses }

  abbrev marks : ℕ → Marks
  marks k = get_or (marks_of r) k []

  at_level : (k node : ℕ) → Runs r k node → AtLevel nodes r.forms k node
  at_level k node h = levels r.typed.now r.machine.now r.mapping.now resolving limits w.read w.through k node h

  caller_first : (k : ℕ) (f : Form) (c : Caller) → slice_get r.forms k ≡ Some f → f.caller ≡ Some c → c.form < k
  caller_first = first tasks r.mapping.now resolving w.through

  called : (k : ℕ) (f : Form) (c : Caller) → slice_get r.forms k ≡ Some f → f.caller ≡ Some c
      → marks k ≡ marks_called r k f.level c.form (marks c.form)
  called k f c there e =
      let m = made r k f there in
      m.is ∙ ap (λ (o : Option Caller). marks_by r k f.level o m.known) e
      ∙ ap (marks_called r k f.level c.form) (m.before c.form (caller_first k f c there e))

  -- the entry has no caller
  entry_marked : is_marked (marks 0) 0 ≡ true
  entry_marked =
      let at = at_level 0 0 entry in
      let m = made r 0 at.form at.form_there in
      let some = slice_get_within nodes 0 at.own at.own_there in
      let long = unmarked_long nodes in
      let top : is_marked (slice_set (unmarked nodes) 0 true) 0 ≡ true
      = set_sets (unmarked nodes) 0 (omega (arith, some, long)) in
      subst (λ (ms : Marks). is_marked ms 0 ≡ true) (sym m.is)
      (by at.form at.form_there at.form.caller refl m.known top)
    where
      by : (f : Form) → slice_get r.forms 0 ≡ Some f → (o : Option Caller) → f.caller ≡ o → (known : List Marks)
          → is_marked (slice_set (unmarked nodes) 0 true) 0 ≡ true → is_marked (marks_by r 0 f.level o known) 0 ≡ true
      by f there None e known top = top
      by f there (Some c) e known top =
          let z : c.form < 0 = caller_first 0 f c there e in absurd (omega (arith, z))

  module _ (caller callee node : ℕ) (from to : Form) (q : Reached)
      (call : IsCall r.typed.now.tasks r.mapping.now.instances r.forms caller callee from to q)
      (marked : is_marked (get_or (marks_of r) caller []) node ≡ true) where
    own_marks : marks callee ≡ marks_called r callee to.level caller (marks caller)
    own_marks = called callee to _ call.callee_there call.from_call

    level_is : level_at r caller ≡ from.level
    level_is = ap level_by call.caller_there

    beside_marked : to.level ≡ from.level → is_marked (marks callee) node ≡ true
    beside_marked level =
        let test : (level_at r caller == to.level) ≡ true = same_level _ _ (level_is ∙ sym level) in
        subst (λ (ms : Marks). is_marked ms node ≡ true) (sym own_marks)
        (subst (λ (v : Bool). is_marked (if v then marks caller else mark_below (flags_at r caller) callee
        (marks caller) 0 nodes (unmarked nodes)) node ≡ true) (sym test) marked)

    module _ (child : ℕ) (level : to.level ≡ suc from.level) (runs : Runs r caller node)
        (stands : StandsAt r.mapping.now.instances r.machine.now.nodes from q node child) where
      abbrev rule : SpreadRule
      rule = rule_by (instance_at r caller)

      abbrev parent : Node
      parent = stands.parent

      rule_is : rule ≡ stands.instance.spread
      rule_is = ap (λ (o : Option Form). rule_by (instance_by instances o)) call.caller_there ∙ ap rule_by stands.runs

      abbrev lands : List (ℕ × ℕ)
      lands = body_lands rule parent.children (body_at r caller).body

      found : (d : Begun) × IsListed r.forms caller from q d × Lands rule parent.children lands d
      found =
          beside_each (IsListed r.forms caller from) (Lands rule parent.children lands)
          (listed r w caller from call.caller_there)
          (subst (λ (b : FormBody). EachIn (Lands rule parent.children lands) (calls_of b.body))
          (sym (bodies r caller)) (body_agrees rule parent.children (body_at r caller).body))
          call.index q call.among

      below_is_marked : is_marked (marks callee) child ≡ true
      below_is_marked =
          let d = found.0 in
          let li = found.1 in
          let la = found.2 in
          let at = at_level callee child (below from to q call level runs stands) in
          let up = at_level caller node runs in
          let form : callee ≡ d.row.form
          = li.only callee to call.callee_there call.from_call call.extents call.in_place in
          let c = child_in rule parent.children d.turn in
          let is : child ≡ parent.first_child + c =
          stands.is ∙ ap (λ (n : ℕ). parent.first_child + n) (sym (child_same stands.instance.spread parent q.turn)
          ∙ ap₂ (λ (s : SpreadRule) (t : Option Turn). child_in s parent.children t) (sym rule_is) (sym li.round)) in
          let same_up : up.own ≡ parent = some_same _ _ (sym up.own_there ∙ stands.there) in
          let up_form : up.form ≡ from = some_same _ _ (sym up.form_there ∙ call.caller_there) in
          let up_level : parent.level ≡ from.level = sym (ap (λ (n : Node). n.level) same_up) ∙ up.level
          ∙ ap (λ (f : Form). f.level) up_form in
          let at_form : at.form ≡ to = some_same _ _ (sym at.form_there ∙ call.callee_there) in
          let deep = (limits.fits child at.own at.own_there).level in
          let at_is : at.own.level ≡ to.level = at.level ∙ ap (λ (f : Form). f.level) at_form in
          let some = (limits.fits node parent stands.there).some (omega (arith, deep, at_is, level, up_level)) in
          let few = child_within rule parent.children d.turn some la.turn in
          let there = slice_get_within nodes child at.own at.own_there in
          let long = unmarked_long nodes in
          let form_there = slice_get_within r.forms callee to call.callee_there in
          let flag : has_flag (flags_at r caller parent.children) parent.children callee c ≡ true =
          subst (λ (k : ℕ). k < length r.forms
          → has_flag (flags_at r caller parent.children) parent.children k c ≡ true) (sym form)
          (λ h. flag_is_set (length r.forms) parent.children lands la.among.0 d.row.form c la.among.1 h few)
          form_there in
          let z : 0 + node ≡ node = omega arith in
          let test : (level_at r caller == to.level) ≡ false
          = next_level _ _ (level ∙ ap suc (sym level_is)) in
          subst (λ (ms : Marks). is_marked ms child ≡ true) (sym own_marks)
          (subst (λ (v : Bool). is_marked (if v then marks caller else mark_below (flags_at r caller) callee
          (marks caller) 0 nodes (unmarked nodes)) child ≡ true) (sym test)
          (subst (λ (x : ℕ). is_marked (mark_below (flags_at r caller) callee (marks caller) 0 nodes
          (unmarked nodes)) x ≡ true) (sym is)
          (below_marked (flags_at r caller) callee (marks caller) 0 nodes (unmarked nodes) node parent c stands.there
          (ap (is_marked (marks caller)) z ∙ marked) few flag (omega (arith, there, long, is)))))

  all_marked : (k node : ℕ) → RunsAt r.typed.now.tasks r.mapping.now.instances r.machine.now.nodes r.forms k node
      → is_marked (get_or (marks_of r) k []) node ≡ true
  all_marked _ _ entry = entry_marked
  all_marked k node (beside {caller} from to q call level runs) =
      beside_marked caller k node from to q call (all_marked caller node runs) level
  all_marked k child (below {caller} {callee} {node} from to q call level runs stands) =
      below_is_marked caller k node from to q call (all_marked caller node runs) child level runs stands

pub runs_are_marked : CallsAreListed → BodiesAreTables → FormsCallersFirst → FormsRunAtTheirLevel → RunsAreMarked
runs_are_marked listed bodies first levels r w limits k node runs =
    all_marked listed bodies first levels r w limits k node runs
