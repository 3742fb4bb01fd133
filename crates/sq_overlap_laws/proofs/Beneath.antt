-- No form that runs at a node ends beyond what stands there within one another in the program's draft.
use Rattle.std.proofs.Common.{◌≡◌, ◌⊎◌, inl, inr, ℕ, zero, suc, ◌+◌, ◌<◌, ◌≤◌, ◌==◌, ◌&&◌, Bool, true, false, List, []}
use Rattle.std.proofs.Common.{◌∷◌, ◌++◌, length, slice_get, Some, refl, sym, ap, ap₂, subst, ◌∙◌}
use Rattle.std.proofs.Common.{arith, if◌then◌else◌}
use Rattle.std.proofs.lemmas.Bool.Decides.{nat_tests}
use Rattle.std.proofs.lemmas.Option.{slice_get_within}
use Rattle.sq_machfile.specs.declared.node.Node.{Node}
use Rattle.sq_machfile.specs.Machines.{WithinLimits}
use Rattle.sq_ir.specs.Written.{Setting}
use Rattle.sq_ir.specs.declared.plan.PlanNode.{PlanNode}
use Rattle.sq_forms.specs.Mappings.declared.mapping.Instance.{Instance}
use Rattle.sq_forms.specs.declared.form.Form.{Form}
use Rattle.sq_forms.specs.declared.form.Found.{Found}
use Rattle.sq_forms.specs.Resolving.{with_locals, none_in_place}
use Rattle.sq_forms.specs.Steps.{Key}
use Rattle.sq_spec.proofs.FormLaws.AnswerHold.{forms_are_found}
use Rattle.sq_spec.specs.declared.body.FormBody.{FormBody}
use Rattle.sq_spec.specs.declared.statement.CallInstance.{CallInstance}
use Rattle.sq_spec.specs.declared.resolved.Resolved.{Resolved}
use Rattle.sq_spec_laws.specs.Needs.{Reached, own_size, form_params, IsCall, child_for, StandsAt, RunsAt}
use Rattle.sq_spec_laws.specs.Needs.{entry, beside, below}
use Rattle.sq_nests.specs.Stacks.{total}
use Rattle.sq_placed.specs.declared.home.Homes.{Homes}
use Rattle.sq_placed.specs.Tables.{locals_of}
use Rattle.sq_placed.specs.Trees.{callee_node, local_buffers}
use Rattle.sq_pass_laws.specs.Term.Stands as stands
use Rattle.sq_pass_laws.specs.Term.Terms.{body_in, homes_in}
use Rattle.sq_pass_laws.specs.Pipe.Greedy.{overlapped}
use Rattle.sq_pass_laws.proofs.PipePrograms.{overlaps_may_be_chosen}
use Rattle.sq_plan_good.specs.DraftLaws.Choosing.{Walked, MayBeChosen}
use Rattle.sq_plan_good.specs.Homes.Begun.{Begun, calls_of, child_in}
use Rattle.sq_plan_good.specs.Homes.Chosen.Forms.{bodies_of, choice_in}
use Rattle.sq_plan_good.specs.Homes.Drafts.{homes_of, entry_of}
use Rattle.sq_plan_good.specs.Listed.{IsListed}
use Rattle.sq_plan_good.specs.Loops.{stand_sum, starts_of}
use Rattle.sq_plan_good.specs.Room.{machine_setting}
use Rattle.sq_plan_good.specs.Sums.{brought, here}
use Rattle.sq_plan_good.proofs.DraftLaws.Entry as first
use Rattle.sq_plan_good.proofs.DraftLaws.Forms.{resolving, run_of}
use Rattle.sq_plan_good.proofs.DraftLaws.Hoisting.{chosen_stand, bodies_many}
use Rattle.sq_plan_good.proofs.ListedForms.{calls_are_listed}
use Rattle.sq_plan_good.proofs.Running.{later, stands_there, at_level, node_is}
use Rattle.sq_overlap_laws.specs.Marks.{Runs}
use Rattle.sq_overlap_laws.specs.Taken.{staying_size, leaves_of, is_taken, form_size, EndsAt}
use Rattle.sq_overlap_laws.proofs.Bytes.{HasSizes, brought_size, entry_size}
use Rattle.sq_overlap_laws.proofs.Called.{each_at}
use Rattle.sq_overlap_laws.proofs.Covered.{body_covers}
use Rattle.sq_overlap_laws.proofs.Ends.{ends_one, ends_called, ends_first, end_there}
use Rattle.sq_overlap_laws.proofs.Reaching.{call_weighs}

some_same : {A : Type 0} (x y : A) → Some x ≡ Some y → x ≡ y
some_same x y h = cc h

-- ---- numbers

is_same_number : (m n : ℕ) → m ≡ n → (m == n) ≡ true
is_same_number m n h = grind (arith, nat_tests, h)

same_number : (m n : ℕ) → (m == n) ≡ true → m ≡ n
same_number m n h = grind (arith, nat_tests, h)

here_is : (node x n : ℕ) → node ≡ x → here node x n ≡ n
here_is node x n e = ap (λ (t : Bool). if t then n else 0) (is_same_number node x e)

level_same : (m n a : ℕ) → m ≡ n → (if m == n then a else 0) ≡ a
level_same m n a e = ap (λ (t : Bool). if t then a else 0) (is_same_number m n e)

none_placed : (extents : List (List ℕ)) (i : ℕ) (b : Bool) → slice_get (none_in_place extents) i ≡ Some b → b ≡ false
none_placed [] i b h = absurd (cc h)
none_placed (e ∷ extents) zero b h = let z : false ≡ b = cc h in sym z
none_placed (e ∷ extents) (suc i) b h = none_placed extents i b h

one_child : (xs : List Instance) (ns : List Node) (from : Form) (q : Reached) (node a b : ℕ)
    → StandsAt xs ns from q node a → StandsAt xs ns from q node b → a ≡ b
one_child xs ns from q node a b h g =
    let i = some_same h.instance g.instance (sym h.runs ∙ g.runs) in
    let p = some_same h.parent g.parent (sym h.there ∙ g.there) in
    h.is ∙ ap₂ (λ (x : Instance) (n : Node). n.first_child + child_for x.spread n q.turn) i p ∙ sym g.is

-- the machine's nodes, where buffers have these sizes
abbrev pub sized : Resolved → (size : ℕ → ℕ) → Setting
sized r size = record {
  children = (machine_setting r (overlapped r)).children;
  child = (machine_setting r (overlapped r)).child;
  capacity = (machine_setting r (overlapped r)).capacity;
  buffers = (machine_setting r (overlapped r)).buffers;
  level = (machine_setting r (overlapped r)).level;
  size = size;
  offset = (machine_setting r (overlapped r)).offset;
}

-- What is known of these sizes: of the buffers of forms; and which forms count second sets.
pub record Known (r : Resolved) (size : ℕ → ℕ) (twice : Bool) (taken : List Bool) : Type 0 where
  pub sizes : (k : ℕ) (e : Key × Found) → slice_get r.found.entries k ≡ Some e → HasSizes r (sized r size) twice k
  pub taking : (k : ℕ) (f : Form) → slice_get r.forms k ≡ Some f
      → is_taken taken k ≡ ((choice_in (overlapped r) k).overlaps && twice)

module _ (r : Resolved) (w : Walked r) (limits : WithinLimits r.machine.now) (size : ℕ → ℕ) (twice : Bool)
    (taken : List Bool) (known : Known r size twice taken) (x : ℕ) where
  abbrev may : MayBeChosen r (overlapped r)
  may = overlaps_may_be_chosen r w

  abbrev s : Setting
  s = sized r size

  abbrev bodies : ℕ → FormBody
  bodies = body_in (bodies_of r)

  abbrev homes : ℕ → Homes
  homes = homes_in (homes_of r (overlapped r))

  abbrev Ends : ℕ → ℕ → Type 0
  Ends = EndsAt r taken

  abbrev sums : ℕ → ℕ → ℕ → ℕ
  sums = stand_sum s bodies homes x

  abbrev entry_brings : ℕ
  entry_brings = total s.size (entry_of r (overlapped r) ++ local_buffers (locals_of (bodies 0) (homes 0)))

  abbrev whole : ℕ
  whole = here 0 x entry_brings + sums (length (bodies_of r)) 0 0

  -- ---- sizes

  abbrev sized_as : ℕ → Form → ℕ
  sized_as m f = own_size r.typed.now.tasks r.mapping.now.instances f
      + (if (choice_in (overlapped r) m).overlaps && twice then staying_size (leaves_of r m) 0
      (form_params r.typed.now.tasks r.mapping.now.instances f) f.extents f.in_place else 0)

  sized_is : (m : ℕ) (f : Form) → slice_get r.forms m ≡ Some f → sized_as m f ≡ form_size r taken m f
  sized_is m f there =
      ap (λ (t : Bool). own_size r.typed.now.tasks r.mapping.now.instances f
      + (if t then staying_size (leaves_of r m) 0 (form_params r.typed.now.tasks r.mapping.now.instances f) f.extents
      f.in_place else 0)) (sym (known.taking m f there))

  pub call_size : (m : ℕ) (f : Form) → slice_get r.forms m ≡ Some f → (row : CallInstance) → row.form ≡ m
      → length row.args ≡ length f.in_place
      → total size (brought (body_in (bodies_of r)) (homes_in (homes_of r (overlapped r))) row) ≡ form_size r taken m f
  call_size m f there row is many =
      let e = forms_are_found r.typed.now.tasks r.mapping.now (resolving r) w.through m f there in
      let same = some_same _ f (sym (run_of r w m e.found e.there).ran.kept ∙ there) in
      brought_size r w s twice m e.found e.there (known.sizes m e.found e.there) row is
      (many ∙ sym (ap (λ (g : Form). length g.in_place) same))
      ∙ ap (sized_as m) same ∙ sized_is m f there

  abbrev entry_form : Key × Found
  entry_form = first.form r

  abbrev entry_own : Form
  entry_own = with_locals entry_form.1 (run_of r w 0 entry_form (first.entry r).found).ran.scope.locals

  entry_there : slice_get r.forms 0 ≡ Some entry_own
  entry_there = (run_of r w 0 entry_form (first.entry r).found).ran.kept

  pub entry_bytes : total size (entry_of r (overlapped r) ++ local_buffers (locals_of (body_in (bodies_of r) 0)
      (homes_in (homes_of r (overlapped r)) 0)))
      ≡ form_size r taken 0
      (with_locals (first.form r).1 (run_of r w 0 (first.form r) (first.entry r).found).ran.scope.locals)
  entry_bytes =
      let none : is_taken taken 0 ≡ false = known.taking 0 entry_own entry_there ∙ ap (λ (t : Bool). t && twice) may.first in
      let more = ap (λ (t : Bool). if t then staying_size (leaves_of r 0) 0
      (form_params r.typed.now.tasks r.mapping.now.instances entry_own) entry_own.extents entry_own.in_place else 0) none in
      let own = entry_size r w s twice 0 entry_form (first.entry r).found (known.sizes 0 entry_form (first.entry r).found)
      refl (λ i b h. none_placed (first.extents r) i b h) in
      omega (arith, own, more)

  entry_ends : (n : ℕ) → Ends 0 n → n ≡ entry_brings
  entry_ends n h = ends_one r taken h (ends_first r taken 0 entry_own entry_there refl) ∙ (let e = entry_bytes in omega (arith, e))

  -- ---- what stands before a form that runs, with what it calls, is within the whole

  record Fits (k y : ℕ) : Type 0 where
    n : ℕ
    e : ℕ
    enough : length r.forms ≤ n + k
    at : y ≡ x → (m : ℕ) → EndsAt r taken k m → m ≤ e
    fits : e + stand_sum (sized r size) (body_in (bodies_of r)) (homes_in (homes_of r (overlapped r))) x n k y
        ≤ here 0 x (total size (entry_of r (overlapped r) ++ local_buffers (locals_of (body_in (bodies_of r) 0)
        (homes_in (homes_of r (overlapped r)) 0))))
        + stand_sum (sized r size) (body_in (bodies_of r)) (homes_in (homes_of r (overlapped r))) x
        (length (bodies_of r)) 0 0

  entry_fits : Fits 0 0
  entry_fits =
      let many = bodies_many r (overlapped r) in
      record {
        n = length (bodies_of r);
        e = here 0 x entry_brings;
        enough = omega (arith, many);
        at = λ p m h. let z = here_is 0 x entry_brings p in let e = entry_ends m h in omega (arith, z, e);
        fits = omega arith;
      }

  module _ (k y m : ℕ) (from to : Form) (q : Reached)
      (call : IsCall r.typed.now.tasks r.mapping.now.instances r.forms k m from to q) (runs : Runs r k y)
      (up : Fits k y) where
    found : (d : Begun) × (slice_get (calls_of (body_in (bodies_of r) k).body) call.index ≡ Some d)
        × IsListed r.forms k from q d
    found = each_at (IsListed r.forms k from) (calls_are_listed r w k from call.caller_there) call.index q call.among

    abbrev d : Begun
    d = found.0

    row : m ≡ d.row.form
    row = found.2.only m to call.callee_there call.from_call call.extents call.in_place

    callee : to ≡ found.2.to
    callee = some_same to found.2.to (sym call.callee_there ∙ (ap (slice_get r.forms) row ∙ found.2.there))

    abbrev goes : ℕ
    goes = callee_node s d.lower y (child_in (homes k).rule (s.children y) d.turn)

    abbrev brings : ℕ
    brings = total size (brought bodies homes d.row)

    brings_is : brings ≡ form_size r taken m to
    brings_is =
        call_size m to call.callee_there d.row (sym row)
        (found.2.many ∙ ap length (sym call.in_place))

    after : k < m
    after = subst (λ (n : ℕ). k < n) (sym row)
        (later r w limits (overlapped r) k y from call.caller_there runs q d found.2 call.index call.among)

    -- it ends behind its caller's end, if that is of its level
    ends_behind : (up_end n : ℕ) → Ends k up_end → Ends m n
        → n ≡ (if from.level == to.level then up_end else 0) + form_size r taken m to
    ends_behind up_end n g h =
        ends_one r taken h (ends_called r taken m up_end to from _ call.callee_there call.from_call call.caller_there g)

    within_e : (goes ≡ x) → (n : ℕ) → Ends m n → (from.level ≡ to.level → goes ≡ y) → n ≤ up.e + here goes x brings
    within_e at_x n h same =
        by (from.level == to.level) refl
      where
        before : (u : ℕ) × Ends k u
        before = end_there r taken w k from call.caller_there

        by : (v : Bool) → (from.level == to.level) ≡ v → n ≤ up.e + here goes x brings
        by true g =
            let level = same_number from.level to.level g in
            let at_y : y ≡ x = sym (same level) ∙ at_x in
            let low = up.at at_y before.0 before.1 in
            let is = ends_behind before.0 n before.1 h in
            let all = level_same from.level to.level before.0 level in
            let size_is = brings_is in
            let own = here_is goes x brings at_x in
            omega (arith, low, is, all, size_is, own)
        by false g =
            let is = ends_behind before.0 n before.1 h in
            let nothing = ap (λ (t : Bool). if t then before.0 else 0) g in
            let size_is = brings_is in
            let own = here_is goes x brings at_x in
            omega (arith, is, nothing, size_is, own)

    weighs : (n : ℕ) → 0 < s.children y ⊎ (d.lower ≡ false)
        → here goes x brings + sums n d.row.form goes ≤ sums (suc n) k y
    weighs n some =
        call_weighs s bodies homes x (chosen_stand r (overlapped r) may).params (sums n) (homes k).rule y d
        (starts_of homes (bodies k).body)
        (body_covers homes (bodies k).body (may.stand.each k) (may.calls k) d (call.index, found.1)) some

    next_fits : (to_node : ℕ) → to_node ≡ goes → 0 < s.children y ⊎ (d.lower ≡ false)
        → (from.level ≡ to.level → goes ≡ y) → Fits m to_node
    next_fits to_node is some same = by up.n up.enough up.fits
      where
        less : m < length r.forms
        less = slice_get_within r.forms m to call.callee_there

        by : (n : ℕ) → length r.forms ≤ n + k → up.e + sums n k y ≤ whole → Fits m to_node
        by zero enough fits = let a = after in let l = less in absurd (omega (arith, a, l, enough))
        by (suc n) enough fits =
            let a = after in
            let weigh = weighs n some in
            let there = ap₂ (λ (f z : ℕ). sums n f z) (sym row) (sym is) in
            record {
              n = n;
              e = up.e + here goes x brings;
              enough = omega (arith, enough, a);
              at = λ p i h. within_e (sym is ∙ p) i h same;
              fits = omega (arith, weigh, fits, there);
            }

    lower_is : (v : Bool) → d.lower ≡ v → to.level ≡ stands.below v from.level
    lower_is v e = ap (λ (f : Form). f.level) callee ∙ found.2.level ∙ ap (λ (u : Bool). stands.below u from.level) e

    beside_fits : to.level ≡ from.level → Fits m y
    beside_fits level = next_fits y (sym stay) (inr flat) (λ e. stay)
      where
        flat : d.lower ≡ false
        flat = by d.lower refl
          where
            by : (v : Bool) → d.lower ≡ v → v ≡ false
            by false e = refl
            by true e = let z = lower_is true e in absurd (omega (arith, z, level))

        stay : goes ≡ y
        stay = ap (λ (v : Bool). callee_node s v y (child_in (homes k).rule (s.children y) d.turn)) flat

    module _ (child : ℕ) (level : to.level ≡ suc from.level)
        (standing : StandsAt r.mapping.now.instances r.machine.now.nodes from q y child) where
      deeper : d.lower ≡ true
      deeper = by d.lower refl
        where
          by : (v : Bool) → d.lower ≡ v → v ≡ true
          by true e = refl
          by false e = let z = lower_is false e in absurd (omega (arith, z, level))

      goes_is : child ≡ goes
      goes_is =
          one_child r.mapping.now.instances r.machine.now.nodes from q y child _ standing
          (stands_there r w limits (overlapped r) k y from call.caller_there runs q d found.2 call.index call.among)
          ∙ sym (ap (λ (v : Bool). callee_node s v y (child_in (homes k).rule (s.children y) d.turn)) deeper)

      some_children : 0 < s.children y
      some_children =
          let at = at_level r w limits (overlapped r) m child (below from to q call level runs standing) in
          let above = at_level r w limits (overlapped r) k y runs in
          let at_form : at.form ≡ to = some_same _ _ (sym at.form_there ∙ call.callee_there) in
          let above_form : above.form ≡ from = some_same _ _ (sym above.form_there ∙ call.caller_there) in
          let deep = (limits.fits child at.own at.own_there).level in
          let at_is : at.own.level ≡ to.level = at.level ∙ ap (λ (f : Form). f.level) at_form in
          let above_is : above.own.level ≡ from.level = above.level ∙ ap (λ (f : Form). f.level) above_form in
          let some = (limits.fits y above.own above.own_there).some (omega (arith, deep, at_is, level, above_is)) in
          let is = ap (λ (n : PlanNode). n.children) (node_is r w limits (overlapped r) y above.own above.own_there) in
          omega (arith, some, is)

      below_fits : Fits m child
      below_fits = next_fits child goes_is (inl some_children) (λ e. absurd (omega (arith, e, level)))

  all_fit : (k y : ℕ) → RunsAt r.typed.now.tasks r.mapping.now.instances r.machine.now.nodes r.forms k y → Fits k y
  all_fit _ _ entry = entry_fits
  all_fit m y (beside {caller} from to q call level runs) =
      beside_fits caller y m from to q call runs (all_fit caller y runs) level
  all_fit m child (below {caller} {callee} {node} from to q call level runs standing) =
      below_fits caller node m from to q call runs (all_fit caller node runs) child level standing

  pub ends_within : (k n : ℕ) → Runs r k x → EndsAt r taken k n
      → n ≤ here 0 x (total size (entry_of r (overlapped r) ++ local_buffers (locals_of (body_in (bodies_of r) 0)
      (homes_in (homes_of r (overlapped r)) 0))))
      + stand_sum (sized r size) (body_in (bodies_of r)) (homes_in (homes_of r (overlapped r))) x (length (bodies_of r)) 0 0
  ends_within k n runs h =
      let f = all_fit k x runs in
      let low = f.at refl n h in
      let high = f.fits in
      omega (arith, low, high)
