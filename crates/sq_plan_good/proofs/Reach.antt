-- Where a form runs, and what stands at a node before it: one call more.
use Rattle.std.proofs.Common.{◌≡◌, ℕ, zero, suc, ◌+◌, ◌<◌, ◌==◌, ◌⊎◌, inl, inr, max, Bool, true, false, List, [], ◌∷◌}
use Rattle.std.proofs.Common.{◌++◌, map, length, slice_get, Some, refl, sym, ap, subst, ◌∙◌, arith}
use Rattle.std.proofs.Common.{if◌then◌else◌}
use Rattle.std.specs.Prelude.{nat_le}
use Rattle.std.proofs.lemmas.Bool.{leb-true, leb-false}
use Rattle.std.proofs.lemmas.Bool.Decides.{nat_tests}
use Rattle.sq_ast.specs.declared.program.Variant.{Variant}
use Rattle.sq_mapping.specs.declared.mapping.Instance.{Instance}
use Rattle.sq_machfile.specs.declared.node.Node.{Node}
use Rattle.sq_machfile.specs.Machines.{WithinLimits}
use Rattle.sq_ir.specs.Written.{Setting}
use Rattle.sq_ir.specs.Plans.{node_at}
use Rattle.sq_ir.specs.declared.plan.PlanNode.{PlanNode}
use Rattle.sq_forms.specs.declared.form.Form.{Form}
use Rattle.sq_forms.specs.declared.form.Found.{Found}
use Rattle.sq_forms.specs.Steps.{Key}
use Rattle.sq_forms.specs.Resolving.{with_locals, none_in_place}
use Rattle.sq_form_laws.proofs.AnswerHold.{forms_are_found}
use Rattle.sq_spec.specs.declared.body.FormBody.{FormBody}
use Rattle.sq_spec.specs.declared.resolved.Resolved.{Resolved}
use Rattle.sq_spec_laws.specs.Needs.{Reached, reached_from, own_size, IsCall, StandsAt, RunsAt, entry, beside}
use Rattle.sq_spec_laws.specs.Needs.{below, EndsAt}
use Rattle.sq_nests.specs.Stacks.{total}
use Rattle.sq_placed.specs.declared.home.Homes.{Homes}
use Rattle.sq_placed.specs.Trees.{callee_node, local_buffers}
use Rattle.sq_placed.specs.Tables.{locals_of}
use Rattle.sq_term.specs.Stands as stands
use Rattle.sq_term.specs.Stands.{Each, none, more}
use Rattle.sq_term.specs.Terms.{body_in, homes_in}
use Rattle.sq_draft_laws.specs.Homes.Chosen.declared.choice.Choice.{Choice}
use Rattle.sq_draft_laws.specs.Homes.Chosen.Forms.{bodies_of}
use Rattle.sq_draft_laws.specs.Homes.Drafts.{homes_of, entry_of}
use Rattle.sq_draft_laws.specs.Choosing.{Walked, setting_of}
use Rattle.sq_draft_laws.proofs.Forms.{run_of, resolving}
use Rattle.sq_draft_laws.proofs.Entry as first
use Rattle.sq_draft_laws.specs.Memories.{plan_node}
use Rattle.sq_draft_laws.specs.Homes.Begun.{Begun, calls_of, child_in}
use Rattle.sq_plan_good.specs.Listed.{IsListed}
use Rattle.sq_plan_good.specs.Needed.{KeepInPlace}
use Rattle.sq_plan_good.specs.Sums.{greatest, brought, here, callee_at, worth, sum_of, table_sum}
use Rattle.sq_plan_good.proofs.ListedForms.{calls_are_listed}
use Rattle.sq_plan_good.proofs.Sizes.{brought_size, entry_size}
use Rattle.sq_plan_good.proofs.Running.{level_is, call, later, stands_there}
use Rattle.sq_plan_good.proofs.Ends.{EndIs, entry_end, some_end, call_end}

some_same : {A : Type 0} (x y : A) → Some x ≡ Some y → x ≡ y
some_same x y h = cc h

-- ---- numbers

same_number : (m n : ℕ) → (m == n) ≡ true → m ≡ n
same_number m n h = grind (arith, nat_tests, h)

other_number : (m n : ℕ) → (m == n) ≡ false → m ≡ n → ⊥
other_number m n h e = absurd (grind (arith, nat_tests, e))

pub is_or_not : (m n : ℕ) → (m ≡ n) ⊎ (m ≡ n → ⊥)
is_or_not m n = by (m == n) refl
  where
    by : (v : Bool) → (m == n) ≡ v → (m ≡ n) ⊎ (m ≡ n → ⊥)
    by true e = inl (same_number m n e)
    by false e = inr (other_number m n e)

if_is : (m n a : ℕ) → m ≡ n → (if m == n then a else 0) ≡ a
if_is m n a e = by (m == n) refl
  where
    by : (v : Bool) → (m == n) ≡ v → (if v then a else 0) ≡ a
    by true g = refl
    by false g = absurd (other_number m n g e)

if_not : (m n a : ℕ) → (m ≡ n → ⊥) → (if m == n then a else 0) ≡ 0
if_not m n a e = by (m == n) refl
  where
    by : (v : Bool) → (m == n) ≡ v → (if v then a else 0) ≡ 0
    by true g = absurd (e (same_number m n g))
    by false g = refl

pub greater : (m n : ℕ) → (max m n ≡ m) ⊎ (max m n ≡ n)
greater m n = by (nat_le n m) refl
  where
    by : (v : Bool) → nat_le n m ≡ v → (max m n ≡ m) ⊎ (max m n ≡ n)
    by true e = inl (let z = leb-true n m e in omega (arith, z))
    by false e = inr (let z = leb-false n m e in omega (arith, z))

none_placed : (extents : List (List ℕ)) (i : ℕ) (b : Bool)
    → slice_get (none_in_place extents) i ≡ Some b → b ≡ false
none_placed [] i b h = cc
none_placed (e ∷ extents) zero b h = let z : false ≡ b = cc h in sym z
none_placed (e ∷ extents) (suc i) b h = none_placed extents i b h

module _ (r : Resolved) (w : Walked r) (limits : WithinLimits r.machine.now) (choices : List Choice)
    (keep : KeepInPlace r choices) (x : ℕ) where
  abbrev pub tasks : List Variant
  tasks = r.typed.now.tasks

  abbrev pub instances : List Instance
  instances = r.mapping.now.instances

  abbrev pub nodes : List Node
  nodes = r.machine.now.nodes

  abbrev pub memories : List PlanNode
  memories = map plan_node nodes

  abbrev pub s : Setting
  s = setting_of r choices memories (λ b. 0)

  abbrev pub bodies : ℕ → FormBody
  bodies = body_in (bodies_of r)

  abbrev pub homes : ℕ → Homes
  homes = homes_in (homes_of r choices)

  abbrev pub Runs : ℕ → ℕ → Type 0
  Runs = RunsAt tasks instances nodes r.forms

  abbrev pub Ends : ℕ → ℕ → Type 0
  Ends = EndIs tasks instances r.forms

  abbrev pub level : ℕ → ℕ
  level y = (node_at memories y).level

  abbrev pub sums : ℕ → ℕ → ℕ → ℕ
  sums = sum_of s bodies homes x

  -- ---- sizes

  size_is : (k : ℕ) (f : Form) (d : Begun) → slice_get r.forms k ≡ Some f → d.row.form ≡ k
      → length d.row.args ≡ length f.in_place → total s.size (brought bodies homes d.row) ≡ own_size tasks instances f
  size_is k f d there is many =
      let e = forms_are_found tasks r.mapping.now (resolving r) w.through k f there in
      let run = run_of r w k e.found e.there in
      let same : with_locals e.found.1 run.ran.scope.locals ≡ f = some_same _ f (sym run.ran.kept ∙ there) in
      brought_size r w choices keep memories (λ b. 0) k e.found e.there d.row is
      (many ∙ sym (ap (λ (g : Form). length g.in_place) same))
      ∙ ap (own_size tasks instances) same

  -- ---- what stands at the node before a form's calls

  pub record Inv (k y e : ℕ) : Type 0 where
    pub at : y ≡ x → Ends k e
    pub off : (y ≡ x → ⊥) → (e ≡ 0) ⊎ (level x < level y)

  abbrev pub inside_of : ℕ → ℕ → Begun → ℕ
  inside_of k y d = callee_at s bodies homes x (homes k).rule y d

  abbrev pub brings : Begun → ℕ
  brings d = total s.size (brought bodies homes d.row)

  pub record Step (m y e size : ℕ) : Type 0 where
    pub runs : Runs m y
    pub inv : Inv m y (e + here y x size)

  module _ (k y e : ℕ) (f : Form) (there : slice_get r.forms k ≡ Some f) (runs : Runs k y) (inv : Inv k y e)
      (q : Reached) (d : Begun) (li : IsListed r.forms k f q d) (index : ℕ)
      (among : slice_get (reached_from tasks instances k f) index ≡ Some q) where
    called : IsCall tasks instances r.forms k d.row.form f li.to q
    called = call r w limits choices k y f there runs q d li index among

    after_it : k < d.row.form
    after_it = later r w limits choices k y f there runs q d li index among

    size : brings d ≡ own_size tasks instances li.to
    size = size_is d.row.form li.to d li.there refl (li.many ∙ sym (ap length li.in_place))

    same_step : li.to.level ≡ f.level → Step d.row.form y e (brings d)
    same_step lv = record {
      runs = beside f li.to q called lv runs;
      inv = record {
        at = λ p.
            let a = if_is f.level li.to.level e (sym lv) in
            let b = if_is y x (brings d) p in
            let c = size in
            let sum : (if f.level == li.to.level then e else 0) + own_size tasks instances li.to
            ≡ e + here y x (brings d) = omega (arith, a, b, c) in
            subst (Ends d.row.form) sum (call_end tasks instances r.forms k d.row.form e q.call f li.to li.there li.caller after_it there (inv.at p));
        off = λ np. past (inv.off np) (if_not y x (brings d) np);
      };
    }
      where
        past : (e ≡ 0) ⊎ (level x < level y) → here y x (brings d) ≡ 0 → (e + here y x (brings d) ≡ 0) ⊎ (level x < level y)
        past (inl z) h = inl (omega (arith, z, h))
        past (inr l) h = inr l

    abbrev pub child : ℕ
    child = s.child y (child_in (homes k).rule (s.children y) d.turn)

    goes_there : StandsAt instances nodes f q y child
    goes_there = stands_there r w limits choices k y f there runs q d li index among

    lower_step : li.to.level ≡ suc f.level → Step d.row.form child e (brings d)
    lower_step lv = record {
      runs = runs_below;
      inv = record {
        at = λ p. at_child p (is_or_not y x);
        off = λ np. off_child (if_not child x (brings d) np) (is_or_not y x);
      };
    }
      where
        runs_below : Runs d.row.form child
        runs_below = below f li.to q called lv runs goes_there

        deeper : level child ≡ suc (level y)
        deeper = level_is r w limits choices d.row.form child li.to li.there runs_below ∙ lv
            ∙ ap suc (sym (level_is r w limits choices k y f there runs))

        none_before : child ≡ x → (e ≡ 0) ⊎ (level x < level y) → e ≡ 0
        none_before p (inl z) = z
        none_before p (inr l) = let a = deeper in let b = ap level p in absurd (omega (arith, l, a, b))

        at_child : child ≡ x → (y ≡ x) ⊎ (y ≡ x → ⊥) → Ends d.row.form (e + here child x (brings d))
        at_child p (inl g) = let a = deeper in let b = ap level p in let c = ap level g in absurd (omega (arith, a, b, c))
        at_child p (inr g) =
            let before = some_end tasks instances r.forms k f there in
            let a = if_not f.level li.to.level before.0 (λ z. absurd (omega (arith, z, lv))) in
            let b = if_is child x (brings d) p in
            let c = size in
            let z = none_before p (inv.off g) in
            let sum : (if f.level == li.to.level then before.0 else 0) + own_size tasks instances li.to
            ≡ e + here child x (brings d) = omega (arith, a, b, c, z) in
            subst (Ends d.row.form) sum
            (call_end tasks instances r.forms k d.row.form before.0 q.call f li.to li.there li.caller after_it there before.1)

        kept : here child x (brings d) ≡ 0 → (e ≡ 0) ⊎ (level x < level y)
            → (e + here child x (brings d) ≡ 0) ⊎ (level x < level child)
        kept h (inl z) = inl (omega (arith, z, h))
        kept h (inr l) = inr (let a = deeper in omega (arith, a, l))

        off_child : here child x (brings d) ≡ 0 → (y ≡ x) ⊎ (y ≡ x → ⊥)
            → (e + here child x (brings d) ≡ 0) ⊎ (level x < level child)
        off_child h (inl g) = inr (let a = deeper in let c = ap level g in omega (arith, a, c))
        off_child h (inr g) = kept h (inv.off g)

    pub step : Step d.row.form (inside_of k y d) e (brings d)
    step = by d.lower refl
      where
        by : (v : Bool) → d.lower ≡ v
            → Step d.row.form (callee_node s v y (child_in (homes k).rule (s.children y) d.turn)) e (brings d)
        by false g = same_step (li.level ∙ ap (λ (v : Bool). stands.below v f.level) g)
        by true g = lower_step (li.level ∙ ap (λ (v : Bool). stands.below v f.level) g)

    pub after : k < d.row.form
    after = after_it

  -- ---- the sum is an end

  abbrev pub IsEnd : ℕ → Type 0
  IsEnd m = (m ≡ 0) ⊎ EndsAt tasks instances nodes r.forms x m

  end_here : (m y e : ℕ) → Runs m y → Inv m y e → (y ≡ x → ⊥) ⊎ (y ≡ x) → ((y ≡ x → ⊥) → IsEnd e) → IsEnd e
  end_here m y e runs inv (inl g) other = other g
  end_here m y e runs inv (inr g) other =
      let it = inv.at g in
      inr (record { form = m; runs = subst (Runs m) g runs; ended = (it.form, e); there = it.there; is = refl })

  flip : {A B : Type 0} → A ⊎ B → B ⊎ A
  flip (inl a) = inr a
  flip (inr b) = inl b

  reach_calls : (n k y e : ℕ) (f : Form) → slice_get r.forms k ≡ Some f → Runs k y → Inv k y e → IsEnd e
      → ((m to e2 : ℕ) (g : Form) → slice_get r.forms m ≡ Some g → Runs m to → Inv m to e2 → IsEnd e2
      → IsEnd (e2 + sums n m to))
      → IsEnd (e + greatest (worth s bodies homes x (sums n) (homes k).rule y) (calls_of (bodies k).body))
  reach_calls n k y e f there runs inv is inner =
      all (calls_are_listed r w k f there) (λ i q h. (i, h))
    where
      weigh : Begun → ℕ
      weigh = worth s bodies homes x (sums n) (homes k).rule y

      one : (q : Reached) (d : Begun) → IsListed r.forms k f q d → (index : ℕ)
          → slice_get (reached_from tasks instances k f) index ≡ Some q → IsEnd (e + weigh d)
      one q d li index among =
          let st = step k y e f there runs inv q d li index among in
          let to = inside_of k y d in
          let z : e + here to x (brings d) + sums n d.row.form to ≡ e + (here to x (brings d) + sums n d.row.form to) = omega arith in
          subst IsEnd z
          (inner d.row.form to (e + here to x (brings d)) li.to li.there st.runs st.inv
          (end_here d.row.form to (e + here to x (brings d)) st.runs st.inv (flip (is_or_not to x))
          (λ np. let h = if_not to x (brings d) np in subst IsEnd (let u : e ≡ e + here to x (brings d) = omega (arith, h) in u) is)))

      all : {qs : List Reached} {ds : List Begun} → Each (IsListed r.forms k f) qs ds
          → ((i : ℕ) (q : Reached) → slice_get qs i ≡ Some q → (j : ℕ) × (slice_get (reached_from tasks instances k f) j ≡ Some q))
          → IsEnd (e + greatest weigh ds)
      all none at = subst IsEnd (let z : e ≡ e + 0 = omega arith in z) is
      all (more {x = q} {y = d} {ys = ds} li rest) at =
          let j = at 0 q refl in
          by (greater (weigh d) (greatest weigh ds)) (one q d li j.0 j.1) (all rest (λ i p h. at (suc i) p h))
        where
          by : (max (weigh d) (greatest weigh ds) ≡ weigh d) ⊎ (max (weigh d) (greatest weigh ds) ≡ greatest weigh ds)
              → IsEnd (e + weigh d) → IsEnd (e + greatest weigh ds) → IsEnd (e + max (weigh d) (greatest weigh ds))
          by (inl g) a b = subst (λ (m : ℕ). IsEnd (e + m)) (sym g) a
          by (inr g) a b = subst (λ (m : ℕ). IsEnd (e + m)) (sym g) b

  reach : (n k y e : ℕ) (f : Form) → slice_get r.forms k ≡ Some f → Runs k y → Inv k y e → IsEnd e
      → IsEnd (e + sums n k y)
  reach zero k y e f there runs inv is = subst IsEnd (let z : e ≡ e + 0 = omega arith in z) is
  reach (suc n) k y e f there runs inv is =
      reach_calls n k y e f there runs inv is (λ m to e2 g a b c d. reach n m to e2 g a b c d)

  -- ---- from the entry

  abbrev entry_form_ : Key × Found
  entry_form_ = first.form r

  abbrev pub entry_own : Form
  entry_own = with_locals entry_form_.1 (run_of r w 0 entry_form_ (first.entry r).found).ran.scope.locals

  pub entry_there : slice_get r.forms 0 ≡ Some entry_own
  entry_there = (run_of r w 0 entry_form_ (first.entry r).found).ran.kept

  abbrev pub entry_brings : ℕ
  entry_brings = total s.size (entry_of r choices ++ local_buffers (locals_of (bodies 0) (homes 0)))

  entry_size_is : entry_brings ≡ own_size tasks instances entry_own
  entry_size_is = entry_size r w choices keep memories (λ b. 0) 0 entry_form_ (first.entry r).found refl
      (λ i b h. none_placed (first.extents r) i b h)

  pub entry_inv : Inv 0 0 (here 0 x entry_brings)
  entry_inv = record {
    at = λ p. subst (Ends 0) (sym (if_is 0 x entry_brings p ∙ entry_size_is))
        (entry_end tasks instances r.forms 0 entry_own entry_there refl);
    off = λ np. inl (if_not 0 x entry_brings np);
  }

  pub sum_is_end : IsEnd (table_sum r choices memories x)
  sum_is_end =
      reach (length (bodies_of r)) 0 0 (here 0 x entry_brings) entry_own entry_there entry entry_inv
      (end_here 0 0 (here 0 x entry_brings) entry entry_inv (flip (is_or_not 0 x)) (λ np. inl (if_not 0 x entry_brings np)))
