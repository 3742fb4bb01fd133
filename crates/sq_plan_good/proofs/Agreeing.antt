-- What a node needs is the sum at it, and the sum is what it needs.
use Rattle.std.proofs.Common.{◌≡◌, ℕ, zero, suc, ◌+◌, ◌<◌, ◌≤◌, Bool, true, false, List, [], ◌∷◌}
use Rattle.std.proofs.Common.{length, slice_get, Some, refl, sym, ap, ap₂, subst, ◌∙◌, arith}
use Rattle.std.specs.List.{range_with_len}
use Rattle.std.proofs.lemmas.List.FromFn.{length-range_with_len}
use Rattle.sq_mapping.specs.declared.mapping.Instance.{Instance}
use Rattle.sq_machfile.specs.declared.node.Node.{Node}
use Rattle.sq_machfile.specs.Machines.{WithinLimits}
use Rattle.sq_forms.specs.declared.form.Form.{Form}
use Rattle.sq_ir.specs.Written.{Setting}
use Rattle.sq_spec.specs.declared.body.FormBody.{FormBody}
use Rattle.sq_spec.specs.declared.resolved.Resolved.{Resolved}
use Rattle.sq_spec.specs.Bodies.{body_of}
use Rattle.sq_spec_laws.specs.Needs.{Reached, IsCall, child_for, StandsAt, RunsAt, entry, beside, below, EndsAt}
use Rattle.sq_spec_laws.specs.Needs.{Needs}
use Rattle.sq_spec_laws.proofs.NeedsHold.{need_is_one}
use Rattle.sq_placed.specs.declared.home.Homes.{Homes}
use Rattle.sq_placed.specs.Trees.{callee_node}
use Rattle.sq_term.specs.Stands as stands
use Rattle.sq_term.specs.Stands.{Each, none, more}
use Rattle.sq_draft_laws.specs.Homes.Chosen.declared.choice.Choice.{Choice}
use Rattle.sq_draft_laws.specs.Homes.Chosen.Forms.{bodies_of}
use Rattle.sq_draft_laws.specs.Choosing.{Walked}
use Rattle.sq_draft_laws.proofs.Standing.{map_length}
use Rattle.sq_draft_laws.specs.Homes.Begun.{Begun, calls_of, child_in}
use Rattle.sq_plan_good.specs.Listed.{IsListed}
use Rattle.sq_plan_good.specs.Sums.{greatest, here, worth, table_sum}
use Rattle.sq_plan_good.specs.Needed.{KeepInPlace, NeedsAreSums, SumsAreNeeds}
use Rattle.sq_plan_good.proofs.Drafts.{sums_are_of_calls}
use Rattle.sq_plan_good.proofs.ListedForms.{calls_are_listed}
use Rattle.sq_plan_good.proofs.Ends.{end_is}
use Rattle.sq_plan_good.proofs.Reach.{memories, s, bodies, homes, sums, Inv}
use Rattle.sq_plan_good.proofs.Reach.{inside_of, brings, step, after, entry_brings, entry_inv}
use Rattle.sq_plan_good.proofs.Running.{stands_there}
use Rattle.sq_plan_good.proofs.Reach.{sum_is_end}

some_same : {A : Type 0} (x y : A) → Some x ≡ Some y → x ≡ y
some_same x y h = cc h

within : {A : Type 0} (xs : List A) (i : ℕ) (x : A) → slice_get xs i ≡ Some x → i < length xs
within [] i x e = cc
within (y ∷ xs) zero x e = omega arith
within (y ∷ xs) (suc i) x e = let z = within xs i x e in omega (arith, z)

greatest_has : {A : Type 0} (f : A → ℕ) (xs : List A) (i : ℕ) (a : A) → slice_get xs i ≡ Some a → f a ≤ greatest f xs
greatest_has f [] i a h = cc
greatest_has f (x ∷ xs) zero a h = let e : x ≡ a = cc h in let z = ap f e in omega (arith, z)
greatest_has f (x ∷ xs) (suc i) a h = let z = greatest_has f xs i a h in omega (arith, z)

-- the item at a number in the second list
record Beside {A B : Type 0} (R : A → B → Type 0) (a : A) (ys : List B) (i : ℕ) : Type 0 where
  item : B
  there : slice_get ys i ≡ Some item
  is : R a item

each_at : {A B : Type 0} {R : A → B → Type 0} {xs : List A} {ys : List B} → Each R xs ys → (i : ℕ) (a : A)
    → slice_get xs i ≡ Some a → Beside R a ys i
each_at none i a h = cc
each_at {R = R} (more {x = x} {y = y} {ys = ys} q qs) zero a h = let e : x ≡ a = cc h in
    subst (λ z. Beside R z (y ∷ ys) 0) e (record { item = y; there = refl; is = q })
each_at (more q qs) (suc i) a h = let b = each_at qs i a h in record { item = b.item; there = b.there; is = b.is }

one_child : (xs : List Instance) (ns : List Node) (from : Form) (r : Reached) (node a b : ℕ)
    → StandsAt xs ns from r node a → StandsAt xs ns from r node b → a ≡ b
one_child xs ns from r node a b h g =
    let i = some_same h.instance g.instance (sym h.runs ∙ g.runs) in
    let p = some_same h.parent g.parent (sym h.there ∙ g.there) in
    h.is ∙ ap₂ (λ (x : Instance) (n : Node). n.first_child + child_for x.spread n r.turn) i p ∙ sym g.is

module _ (r : Resolved) (w : Walked r) (limits : WithinLimits r.machine.now) (choices : List Choice)
    (keep : KeepInPlace r choices) (x : ℕ) where
  abbrev whole : ℕ
  whole = table_sum r choices (memories r w limits choices keep x) x

  abbrev setting : Setting
  setting = s r w limits choices keep x

  abbrev tables : ℕ → FormBody
  tables = bodies r w limits choices keep x

  abbrev placing : ℕ → Homes
  placing = homes r w limits choices keep x

  abbrev needed : (n k y : ℕ) → ℕ
  needed = sums r w limits choices keep x

  abbrev Stood : (k y e : ℕ) → Type 0
  Stood = Inv r w limits choices keep x

  -- where a call runs, and how much it brings
  abbrev callee_of : (k y : ℕ) → Begun → ℕ
  callee_of = inside_of r w limits choices keep x

  abbrev call_brings : Begun → ℕ
  call_brings = brings r w limits choices keep x

  abbrev running : ℕ → ℕ → Type 0
  running = RunsAt r.typed.now.tasks r.mapping.now.instances r.machine.now.nodes r.forms

  -- what stands before a form that runs, with what it needs, fits into the whole
  record Fits (k y : ℕ) : Type 0 where
    n : ℕ
    e : ℕ
    enough : length r.forms ≤ n + k
    inv : Stood k y e
    fits : e + needed n k y ≤ whole

  many_bodies : length (bodies_of r) ≡ length r.forms
  many_bodies = map_length (body_of r.typed.now.tasks r.mapping.now.instances r.found.entries) (range_with_len 0 (length r.forms))
      ∙ length-range_with_len 0 (length r.forms)

  entry_fits : Fits 0 0
  entry_fits = record {
    n = length (bodies_of r);
    e = here 0 x (entry_brings r w limits choices keep x);
    enough = let z = many_bodies in omega (arith, z);
    inv = entry_inv r w limits choices keep x;
    fits =
        let z : whole ≡ here 0 x (entry_brings r w limits choices keep x) + needed (length (bodies_of r)) 0 0 = refl in
        omega (arith, z);
  }

  -- what a call of it reaches
  record Next (k y callee : ℕ) (to : Form) (q : Reached) : Type 0 where
    d : Begun
    row : callee ≡ d.row.form
    round : d.turn ≡ q.turn
    lower : Bool
    is_lower : d.lower ≡ lower
    fits : Fits d.row.form (callee_of k y d)

  fits_by : (n e k y m to : ℕ) (weigh size : ℕ) → length r.forms ≤ suc n + k → k < m → Stood m to (e + here to x size)
      → here to x size + needed n m to ≤ weigh → e + weigh ≤ whole → Fits m to
  fits_by n e k y m to weigh size enough less inv a b = record {
    n = n;
    e = e + here to x size;
    enough = omega (arith, enough, less);
    inv = inv;
    fits = omega (arith, a, b);
  }

  module _ (k y callee : ℕ) (f to : Form) (q : Reached)
      (call : IsCall r.typed.now.tasks r.mapping.now.instances r.forms k callee f to q) (runs : running k y) where
    listed : Beside (IsListed r.forms k f) q (calls_of (tables k).body) call.index
    listed = each_at (calls_are_listed r w k f call.caller_there) call.index q call.among

    abbrev d : Begun
    d = listed.item

    row : callee ≡ d.row.form
    row = listed.is.only callee to call.callee_there call.from_call call.extents call.in_place

    to_same : listed.is.to ≡ to
    to_same = some_same listed.is.to to (sym listed.is.there ∙ ap (slice_get r.forms) (sym row) ∙ call.callee_there)

    next_fits : (n e : ℕ) → length r.forms ≤ n + k → Stood k y e → e + needed n k y ≤ whole
        → Fits d.row.form (callee_of k y d)
    next_fits zero e enough inv g = let z = within r.forms k f call.caller_there in absurd (omega (arith, z, enough))
    next_fits (suc n) e enough inv g =
        let there = call.caller_there in
        let st = step r w limits choices keep x k y e f there runs inv q d listed.is call.index call.among in
        let less = after r w limits choices keep x k y e f there runs inv q d listed.is call.index call.among in
        fits_by n e k y d.row.form (callee_of k y d) (needed (suc n) k y) (call_brings d) enough less st.inv
        (greatest_has (worth setting (tables) (placing) x (needed n) (placing k).rule y)
        (calls_of (tables k).body) call.index d listed.there) g

    same_node : to.level ≡ f.level → callee_of k y d ≡ y
    same_node lv = by d.lower refl
      where
        by : (v : Bool) → d.lower ≡ v
            → callee_node setting v y (child_in (placing k).rule (setting.children y) d.turn) ≡ y
        by false g = refl
        by true g =
            let a : listed.is.to.level ≡ suc f.level = listed.is.level ∙ ap (λ (v : Bool). stands.below v f.level) g in
            let b = ap (λ (h : Form). h.level) to_same in
            absurd (omega (arith, a, b, lv))

    lower_node : (e : ℕ) → Stood k y e → (child : ℕ) → to.level ≡ suc f.level
        → StandsAt r.mapping.now.instances r.machine.now.nodes f q y child → callee_of k y d ≡ child
    lower_node e inv child lv at = by d.lower refl
      where
        by : (v : Bool) → d.lower ≡ v
            → callee_node setting v y (child_in (placing k).rule (setting.children y) d.turn) ≡ child
        by true g = one_child r.mapping.now.instances r.machine.now.nodes f q y _ child
            (stands_there r w limits choices k y f call.caller_there runs q d listed.is call.index call.among) at
        by false g =
            let a : listed.is.to.level ≡ f.level = listed.is.level ∙ ap (λ (v : Bool). stands.below v f.level) g in
            let b = ap (λ (h : Form). h.level) to_same in
            absurd (omega (arith, a, b, lv))

    beside_fits : to.level ≡ f.level → Fits k y → Fits callee y
    beside_fits lv h =
        subst (λ (m : ℕ). Fits m y) (sym row)
        (subst (Fits d.row.form) (same_node lv) (next_fits h.n h.e h.enough h.inv h.fits))

    below_fits : (child : ℕ) → to.level ≡ suc f.level → StandsAt r.mapping.now.instances r.machine.now.nodes f q y child
        → Fits k y → Fits callee child
    below_fits child lv at h =
        subst (λ (m : ℕ). Fits m child) (sym row)
        (subst (Fits d.row.form) (lower_node h.e h.inv child lv at) (next_fits h.n h.e h.enough h.inv h.fits))

  all_fit : (k y : ℕ) → running k y → Fits k y
  all_fit _ _ entry = entry_fits
  all_fit callee y (beside {caller = k} f to q call lv runs) =
      beside_fits k y callee f to q call runs lv (all_fit k y runs)
  all_fit callee child (below {caller = k} {node = y} f to q call lv runs at) =
      below_fits k y callee f to q call runs child lv at (all_fit k y runs)

  end_fits : (m : ℕ) → EndsAt r.typed.now.tasks r.mapping.now.instances r.machine.now.nodes r.forms x m → m ≤ whole
  end_fits m h =
      let ft = all_fit h.form x h.runs in
      let it = ft.inv.at refl in
      let same = end_is r.typed.now.tasks r.mapping.now.instances r.forms h.form ft.e it.form h.ended it h.there in
      let is = h.is in
      let g = ft.fits in
      omega (arith, same, is, g)

  pub whole_is_need : Needs r.typed.now.tasks r.mapping.now.instances r.machine.now.nodes r.forms x whole
  whole_is_need = record { greatest = end_fits; is = sum_is_end r w limits choices keep x }

pub needs_are_sums : NeedsAreSums
needs_are_sums r w limits choices keep d is node need h =
    need_is_one r.typed.now.tasks r.mapping.now.instances r.machine.now.nodes r.forms node need
    (table_sum r choices (memories r w limits choices keep node) node) h (whole_is_need r w limits choices keep node)
    ∙ sym (sums_are_of_calls r w choices keep.hoisted keep.none d is (memories r w limits choices keep node) node)

pub sums_are_needs : SumsAreNeeds
sums_are_needs r w limits choices keep d is node =
    subst (λ (n : ℕ). Needs r.typed.now.tasks r.mapping.now.instances r.machine.now.nodes r.forms node n)
    (sym (sums_are_of_calls r w choices keep.hoisted keep.none d is (memories r w limits choices keep node) node))
    (whole_is_need r w limits choices keep node)
