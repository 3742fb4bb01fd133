-- A node has room for what stands there where it has room for each form that runs at it.
use Rattle.std.proofs.Common.{◌≡◌, ℕ, zero, suc, ◌+◌, ◌-◌, ◌*◌, ◌<◌, ◌≤◌, ◌==◌, ◌⊎◌, inl, inr, Bool, true, false}
use Rattle.std.proofs.Common.{List, [], ◌∷◌, ◌++◌, map, length, get_or, slice_get, Some, refl, sym, ap, ap₂}
use Rattle.std.proofs.Common.{subst, ◌∙◌, arith, if◌then◌else◌}
use Rattle.std.specs.List.{filter, range_with_len}
use Rattle.std.proofs.lemmas.Bool.Decides.{nat_tests}
use Rattle.std.proofs.lemmas.Nat.{le-div}
use Rattle.std.proofs.Math.Nat.{div-mul-le_self}
use Rattle.sq_text.specs.declared.spread.SpreadRule.{SpreadRule}
use Rattle.sq_text.specs.declared.spread.SpreadRule.TheVariants.{Cyclic, Blocked}
use Rattle.sq_text.specs.Spreading.{child_of, iterations_at}
use Rattle.sq_machfile.specs.Machines.{WithinLimits}
use Rattle.sq_blocks.specs.declared.argument.Argument.{Argument}
use Rattle.sq_ir.specs.Written.{Setting}
use Rattle.sq_ir.specs.Plans.{node_at}
use Rattle.sq_spec.specs.declared.body.FormBody.{FormBody}
use Rattle.sq_spec.specs.declared.resolved.Resolved.{Resolved}
use Rattle.sq_spec_laws.specs.Needs.{turn_in, reached_from, RunsAt, entry}
use Rattle.sq_nests.specs.Stacks.{total}
use Rattle.sq_nests.proofs.Chains.{total_append}
use Rattle.sq_placed.specs.declared.home.Home.{Home}
use Rattle.sq_placed.specs.declared.home.Home.TheVariants.{InPlace, Own, Held, Twin}
use Rattle.sq_placed.specs.declared.home.Homes.{Homes}
use Rattle.sq_placed.specs.Tables.{locals_of, row_form}
use Rattle.sq_placed.specs.Trees.{local_buffers, callee_node}
use Rattle.sq_term.specs.Stands.{Each, none, more}
use Rattle.sq_term.specs.Terms.{body_in, homes_in, row_args}
use Rattle.sq_term.proofs.Lanes.{up, lane_many, lane_length}
use Rattle.sq_draft_laws.specs.Homes.Chosen.declared.choice.Choice.{Choice}
use Rattle.sq_draft_laws.specs.Homes.Chosen.Forms.{bodies_of}
use Rattle.sq_draft_laws.specs.Homes.Drafts.{homes_of, entry_of}
use Rattle.sq_draft_laws.specs.Homes.Begun.{Begun, calls_of, child_in}
use Rattle.sq_draft_laws.specs.Choosing.{Walked, MayBeChosen}
use Rattle.sq_draft_laws.specs.Memories.{plan_node}
use Rattle.sq_plan_good.specs.Listed.{IsListed}
use Rattle.sq_plan_good.specs.Sums.{greatest, here, either_buffer, params_from, brought}
use Rattle.sq_plan_good.specs.Loops.{BegunLoop, Starts, Once, Lanes, starts_of, standing, standing_from, brought_by}
use Rattle.sq_plan_good.specs.Loops.{lane_worth, starts_worth, stand_sum}
use Rattle.sq_plan_good.specs.Room.{machine_setting, AreTops, AreBusy, SumsFit}
use Rattle.sq_plan_good.proofs.Drafts.{sums_are_of_loops}
use Rattle.sq_plan_good.proofs.ListedForms.{calls_are_listed}
use Rattle.sq_plan_good.proofs.Turning.{Among, IsTurn, StandsIn, starts_stand}
use Rattle.sq_plan_good.proofs.Running.{at_level, callee_runs, callee_deeper}

-- ---- numbers

same_number : (m n : ℕ) → (m == n) ≡ true → m ≡ n
same_number m n h = grind (arith, nat_tests, h)

other_number : (m n : ℕ) → (m == n) ≡ false → m ≡ n → ⊥
other_number m n h e = absurd (grind (arith, nat_tests, e))

is_or_not : (m n : ℕ) → (m ≡ n) ⊎ (m ≡ n → ⊥)
is_or_not m n = by (m == n) refl
  where
    by : (v : Bool) → (m == n) ≡ v → (m ≡ n) ⊎ (m ≡ n → ⊥)
    by true e = inl (same_number m n e)
    by false e = inr (other_number m n e)

at_most : (node x n : ℕ) → here node x n ≤ n
at_most node x n = by (node == x)
  where
    by : (v : Bool) → (if v then n else 0) ≤ n
    by true = omega arith
    by false = omega arith

not_here : (node x n : ℕ) → (node ≡ x → ⊥) → here node x n ≡ 0
not_here node x n h = by (node == x) refl
  where
    by : (v : Bool) → (node == x) ≡ v → (if v then n else 0) ≡ 0
    by true e = absurd (h (same_number node x e))
    by false e = refl

-- each child has an iteration where there are as many as children
lane_some : (rule : SpreadRule) (m f c : ℕ) → c < f → f ≤ m → 0 < lane_many rule m f c
lane_some Cyclic m f c l g =
    let z = le-div 1 (m + (f - 1) - c) f (omega (arith, l)) (omega (arith, l, g)) in omega (arith, z)
lane_some Blocked m f c l g =
    let q = div-mul-le_self (c * m + (f - 1)) f in
    let z = le-div (up (c * m) f + 1) ((c + 1) * m + (f - 1)) f (omega (arith, l)) (omega (arith, q, l, g)) in
    omega (arith, z)

-- ---- lists

greatest_below : {A : Type 0} (w : A → ℕ) (e most : ℕ) → e ≤ most → (xs : List A)
    → ((a : A) → Among a xs → e + w a ≤ most) → e + greatest w xs ≤ most
greatest_below w e most l [] h = omega (arith, l)
greatest_below w e most l (x ∷ xs) h =
    let a = h x (0, refl) in
    let ih = greatest_below w e most l xs (λ y p. h y (suc p.0, p.1)) in
    omega (arith, a, ih)

in_range : (a n i : ℕ) → Among i (range_with_len a n) → i < a + n
in_range a n i h = go a n h.0 h.1
  where
    go : (a n j : ℕ) → slice_get (range_with_len a n) j ≡ Some i → i < a + n
    go a zero j e = absurd (cc e)
    go a (suc n) zero e = let z : a ≡ i = cc e in omega (arith, z)
    go a (suc n) (suc j) e = let ih = go (a + 1) n j e in omega (arith, ih)

first_kept : (p : ℕ → Bool) (xs : List ℕ) → 0 < length (filter p xs) → (t : ℕ) × Among t xs × (p t ≡ true)
first_kept p [] l = absurd (omega (arith, l))
first_kept p (x ∷ xs) l = by (p x) refl (λ m. first_kept p xs m) l
  where
    by : (v : Bool) → p x ≡ v → (0 < length (filter p xs) → (t : ℕ) × Among t xs × (p t ≡ true))
        → 0 < length (if v then x ∷ filter p xs else filter p xs)
        → (t : ℕ) × Among t (x ∷ xs) × (p t ≡ true)
    by true e ih m = (x, (0, refl), e)
    by false e ih m = let r = ih m in (r.0, (suc r.1.0, r.1.1), r.2)

-- the item at a number in the first list
pub record Before {A B : Type 0} (R : A → B → Type 0) (xs : List A) (y : B) (i : ℕ) : Type 0 where
  pub item : A
  pub there : slice_get xs i ≡ Some item
  pub is : R item y

pub each_before : {A B : Type 0} {R : A → B → Type 0} {xs : List A} {ys : List B} → Each R xs ys → (i : ℕ) (y : B)
    → slice_get ys i ≡ Some y → Before R xs y i
each_before none i y h = absurd (cc h)
each_before {R = R} (more {x = a} {y = z} {xs = xs} q qs) zero y h =
    let e : z ≡ y = cc h in
    subst (λ w. Before R (a ∷ xs) w 0) e (record { item = a; there = refl; is = q })
each_before (more q qs) (suc i) y h =
    let b = each_before qs i y h in record { item = b.item; there = b.there; is = b.is }

-- ---- the buffers of calls

module _ (size : ℕ → ℕ) where
  standing_less : (o : Bool) (h : Home) (xs ys : List ℕ) → total size xs ≤ total size ys
      → total size (standing o h xs) ≤ total size (either_buffer h ys)
  standing_less o InPlace xs ys l = l
  standing_less true (Own b) xs ys l = omega (arith, l)
  standing_less false (Own b) xs ys l = omega (arith, l)
  standing_less o (Held b n) xs ys l = omega (arith, l)
  standing_less true (Twin b c) xs ys l = omega (arith, l)
  standing_less false (Twin b c) xs ys l = omega (arith, l)

  params_less : (o : Bool) (hs : List Home) (i : ℕ) (xs ys : List Argument) → length ys ≡ length xs
      → total size (standing_from o hs i xs) ≤ total size (params_from hs i ys)
  params_less o hs i [] ys e = omega arith
  params_less o hs i (x ∷ xs) [] e = absurd (omega (arith, e))
  params_less o hs i (x ∷ xs) (y ∷ ys) e =
      standing_less o (get_or hs i InPlace) (standing_from o hs (suc i) xs) (params_from hs (suc i) ys)
      (params_less o hs (suc i) xs ys (omega (arith, e)))

  brought_less : (bodies : ℕ → FormBody) (homes : ℕ → Homes) (o : Bool) (form : ℕ) (args : List Argument) (d : Begun)
      → d.row.form ≡ form → length d.row.args ≡ length args
      → total size (brought_by bodies homes o form args) ≤ total size (brought bodies homes d.row)
  brought_less bodies homes o form args d is many =
      let ends : ℕ → List ℕ = λ f. local_buffers (locals_of (bodies f) (homes f)) in
      let same = ap (λ (f : ℕ). total size (brought_by bodies homes o f args)) is in
      let p = total_append size (standing_from o (homes d.row.form).params 0 args) (ends d.row.form) in
      let q = total_append size (params_from (homes d.row.form).params 0 d.row.args) (ends d.row.form) in
      let l = params_less o (homes d.row.form).params 0 args d.row.args many in
      omega (arith, same, p, q, l)

-- ---- forms that run

module _ (r : Resolved) (w : Walked r) (limits : WithinLimits r.machine.now) (choices : List Choice)
    (are : MayBeChosen r choices) (top : ℕ → ℕ) (tops : AreTops r choices top) (busy : AreBusy r choices)
    (x upto : ℕ)
    (room : (k : ℕ) → RunsAt r.typed.now.tasks r.mapping.now.instances r.machine.now.nodes r.forms k x
    → top k ≤ upto) where
  abbrev s : Setting
  s = machine_setting r choices

  abbrev bodies : ℕ → FormBody
  bodies = body_in (bodies_of r)

  abbrev homes : ℕ → Homes
  homes = homes_in (homes_of r choices)

  abbrev Runs : ℕ → ℕ → Type 0
  Runs = RunsAt r.typed.now.tasks r.mapping.now.instances r.machine.now.nodes r.forms

  abbrev level : ℕ → ℕ
  level y = (node_at (map plan_node r.machine.now.nodes) y).level

  -- so much stands at the node below what a form calls there
  record Under (k y e : ℕ) : Type 0 where
    at : y ≡ x → e ≤ top k
    off : (y ≡ x → ⊥) → (e ≡ 0) ⊎ (level x < level y)
    less : e ≤ upto

  abbrev goes_to : ℕ → ℕ → Begun → ℕ
  goes_to k y d = callee_node s d.lower y (child_in (homes k).rule (s.children y) d.turn)

  module _ (k y e : ℕ) (runs : Runs k y) (u : Under k y e) where
    -- a call of it, of which so much is counted
    module _ (d : Begun) (among : Among d (calls_of (bodies k).body)) (bytes : ℕ)
        (fits : bytes ≤ total s.size (brought bodies homes d.row)) where
      abbrev to : ℕ
      to = goes_to k y d

      listed : Before (IsListed r.forms k (at_level r w limits choices k y runs).form)
          (reached_from r.typed.now.tasks r.mapping.now.instances k (at_level r w limits choices k y runs).form)
          d among.0
      listed = each_before (calls_are_listed r w k (at_level r w limits choices k y runs).form
          (at_level r w limits choices k y runs).form_there) among.0 d among.1

      callee : Runs d.row.form (goes_to k y d)
      callee = callee_runs r w limits choices k y (at_level r w limits choices k y runs).form
          (at_level r w limits choices k y runs).form_there runs listed.item d listed.is among.0 listed.there

      deeper : d.lower ≡ true → level (goes_to k y d) ≡ suc (level y)
      deeper = callee_deeper r w limits choices k y (at_level r w limits choices k y runs).form
          (at_level r w limits choices k y runs).form_there runs listed.item d listed.is among.0 listed.there

      own : (if d.lower then 0 else top k) + total s.size (brought bodies homes d.row) ≤ top d.row.form
      own = tops.calls k among.0 d among.1

      -- where the callee runs at the node that is asked for
      at_top : goes_to k y d ≡ x → e + here (goes_to k y d) x bytes ≤ top d.row.form
      at_top p = by d.lower refl p
        where
          counted : here (goes_to k y d) x bytes ≤ total s.size (brought bodies homes d.row)
          counted = let a = at_most (goes_to k y d) x bytes in let f = fits in omega (arith, a, f)

          by : (v : Bool) → d.lower ≡ v
              → callee_node s v y (child_in (homes k).rule (s.children y) d.turn) ≡ x
              → e + here (goes_to k y d) x bytes ≤ top d.row.form
          by false g q =
              let a = u.at q in
              let o : top k + total s.size (brought bodies homes d.row) ≤ top d.row.form
              = subst (λ (v : Bool). (if v then 0 else top k) + total s.size (brought bodies homes d.row)
              ≤ top d.row.form) g own in
              let c = counted in
              omega (arith, a, o, c)
          by true g q =
              let a = deeper g in
              let lv = ap level p in
              let far : y ≡ x → ⊥ = λ z. let b = ap level z in omega (arith, a, lv, b) in
              let o : 0 + total s.size (brought bodies homes d.row) ≤ top d.row.form
              = subst (λ (v : Bool). (if v then 0 else top k) + total s.size (brought bodies homes d.row)
              ≤ top d.row.form) g own in
              let c = counted in
              nothing (u.off far) (λ z. omega (arith, o, c, z)) (λ l. omega (arith, l, a, lv))
            where
              nothing : {A : Type 0} → (e ≡ 0) ⊎ (level x < level y) → (e ≡ 0 → A) → (level x < level y → A) → A
              nothing (inl z) f h = f z
              nothing (inr l) f h = h l

      off_top : (goes_to k y d ≡ x → ⊥)
          → (e + here (goes_to k y d) x bytes ≡ 0) ⊎ (level x < level (goes_to k y d))
      off_top np = by d.lower refl np (not_here (goes_to k y d) x bytes np)
        where
          kept : here (goes_to k y d) x bytes ≡ 0 → (e ≡ 0) ⊎ (level x < level y)
              → (level y ≤ level (goes_to k y d))
              → (e + here (goes_to k y d) x bytes ≡ 0) ⊎ (level x < level (goes_to k y d))
          kept h (inl z) l = inl (omega (arith, z, h))
          kept h (inr m) l = inr (omega (arith, m, l))

          lower : here (goes_to k y d) x bytes ≡ 0 → level (goes_to k y d) ≡ suc (level y)
              → (y ≡ x) ⊎ (y ≡ x → ⊥)
              → (e + here (goes_to k y d) x bytes ≡ 0) ⊎ (level x < level (goes_to k y d))
          lower h a (inl z) = inr (let b = ap level z in omega (arith, a, b))
          lower h a (inr f) = kept h (u.off f) (omega (arith, a))

          by : (v : Bool) → d.lower ≡ v
              → (callee_node s v y (child_in (homes k).rule (s.children y) d.turn) ≡ x → ⊥)
              → here (goes_to k y d) x bytes ≡ 0
              → (e + here (goes_to k y d) x bytes ≡ 0) ⊎ (level x < level (goes_to k y d))
          by false g f h =
              let same : goes_to k y d ≡ y
              = ap (λ (v : Bool). callee_node s v y (child_in (homes k).rule (s.children y) d.turn)) g in
              let lv = ap level same in
              kept h (u.off f) (omega (arith, lv))
          by true g f h = lower h (deeper g) (is_or_not y x)

      under : Under d.row.form (goes_to k y d) (e + here (goes_to k y d) x bytes)
      under = record {
        at = at_top;
        off = off_top;
        less = by (is_or_not (goes_to k y d) x);
      }
        where
          by : (goes_to k y d ≡ x) ⊎ (goes_to k y d ≡ x → ⊥) → e + here (goes_to k y d) x bytes ≤ upto
          by (inl p) =
              let a = at_top p in
              let b = room d.row.form (subst (Runs d.row.form) p callee) in
              omega (arith, a, b)
          by (inr f) = let z = not_here (goes_to k y d) x bytes f in let l = u.less in omega (arith, z, l)

    -- what it begins, where so much is known of its callees
    module _ (inside : ℕ → ℕ → ℕ)
        (inner : (m to e2 : ℕ) → Runs m to → Under m to e2 → e2 + inside m to ≤ upto) where
      call_fits : (d : Begun) → Among d (calls_of (bodies k).body) → (bytes : ℕ)
          → bytes ≤ total s.size (brought bodies homes d.row)
          → e + (here (goes_to k y d) x bytes + inside d.row.form (goes_to k y d)) ≤ upto
      call_fits d among bytes fits =
          let h = inner d.row.form (goes_to k y d) (e + here (goes_to k y d) x bytes) (callee d among bytes fits)
          (under d among bytes fits) in
          omega (arith, h)

      -- the iterations of a loop at a node, one of which is there
      lane_fits : (l : BegunLoop) (t node many : ℕ) (d : Begun) → Among d (calls_of (bodies k).body) → IsTurn l t d
          → goes_to k y d ≡ node → 0 < many → e + lane_worth s bodies homes x inside l.row node many ≤ upto
      lane_fits l t node zero d among is at some = absurd (omega (arith, some))
      lane_fits l t node (suc n) d among is at some =
          let bytes = total s.size (brought_by bodies homes true (row_form l.row) (row_args l.row)) in
          let less = brought_less s.size bodies homes true (row_form l.row) (row_args l.row) d is.form is.many in
          let h = call_fits d among bytes less in
          let z = ap₂ (λ (f y : ℕ). here y x bytes + inside f y) is.form at in
          omega (arith, h, z)

      -- an iteration goes to this child
      turn_goes : (l : BegunLoop) (t c : ℕ) (d : Begun) → IsTurn l t d
          → child_in (homes k).rule (s.children y) (turn_in l.spread l.turn l.count t) ≡ c
          → goes_to k y d ≡ callee_node s true y c
      turn_goes l t c d is at =
          let child : child_in (homes k).rule (s.children y) d.turn ≡ c
          = ap (child_in (homes k).rule (s.children y)) is.turn ∙ at in
          ap₂ (λ (o : Bool) (n : ℕ). callee_node s o y n) is.lower child

      loop_fits : (l : BegunLoop) → Among (Lanes l) (starts_of homes (bodies k).body)
          → StandsIn (calls_of (bodies k).body) (Lanes l)
          → e + starts_worth s bodies homes x inside (homes k).rule y (Lanes l) ≤ upto
      loop_fits l here_it turns = by l.spread refl
        where
          its : ℕ → List ℕ
          its c = iterations_at (homes k).rule l.count (s.children y) c

          one_child : (c : ℕ) → l.spread ≡ true → c < s.children y
              → e + lane_worth s bodies homes x inside l.row (s.child y c) (length (its c)) ≤ upto
          one_child c v less =
              let enough = busy.spread k y l runs here_it v in
              let long = lane_length (homes k).rule l.count (s.children y) c less in
              let some = lane_some (homes k).rule l.count (s.children y) c less enough in
              let many : 0 < length (its c) = omega (arith, long, some) in
              let first = first_kept (λ t. child_of (homes k).rule l.count (s.children y) t == c)
              (range_with_len 0 l.count) many in
              let g = turns first.0 (let b = in_range 0 l.count first.0 first.1 in omega (arith, b)) in
              let child = same_number (child_of (homes k).rule l.count (s.children y) first.0) c first.2 in
              lane_fits l first.0 (s.child y c) (length (its c)) g.0 g.1 g.2
              (turn_goes l first.0 c g.0 g.2 (ap (λ (o : Bool). child_in (homes k).rule (s.children y)
              (turn_in o l.turn l.count first.0)) v ∙ child)) many

          by : (v : Bool) → l.spread ≡ v
              → e + (if v
              then greatest (λ c. lane_worth s bodies homes x inside l.row (s.child y c) (length (its c)))
              (range_with_len 0 (s.children y))
              else lane_worth s bodies homes x inside l.row
              (callee_node s true y (child_in (homes k).rule (s.children y) l.turn)) l.count) ≤ upto
          by true v =
              greatest_below (λ c. lane_worth s bodies homes x inside l.row (s.child y c) (length (its c))) e upto
              u.less (range_with_len 0 (s.children y))
              (λ c p. one_child c v (let b = in_range 0 (s.children y) c p in omega (arith, b)))
          by false v =
              let some = busy.alone k y l runs here_it v in
              let g = turns 0 some in
              lane_fits l 0 (callee_node s true y (child_in (homes k).rule (s.children y) l.turn)) l.count g.0 g.1 g.2
              (turn_goes l 0 (child_in (homes k).rule (s.children y) l.turn) g.0 g.2
              (ap (λ (o : Bool). child_in (homes k).rule (s.children y) (turn_in o l.turn l.count 0)) v)) some

      starts_fit : (z : Starts) → Among z (starts_of homes (bodies k).body)
          → StandsIn (calls_of (bodies k).body) z
          → e + starts_worth s bodies homes x inside (homes k).rule y z ≤ upto
      starts_fit (Once d) here_it among =
          call_fits d among (total s.size (brought_by bodies homes false d.row.form d.row.args))
          (brought_less s.size bodies homes false d.row.form d.row.args d refl refl)
      starts_fit (Lanes l) here_it turns = loop_fits l here_it turns

      form_fits : e + greatest (starts_worth s bodies homes x inside (homes k).rule y) (starts_of homes (bodies k).body)
          ≤ upto
      form_fits =
          greatest_below (starts_worth s bodies homes x inside (homes k).rule y) e upto u.less
          (starts_of homes (bodies k).body)
          (λ z p. starts_fit z p (starts_stand homes (bodies k).body (are.stand.each k) z p))

  all_fit : (n k y e : ℕ) → Runs k y → Under k y e → e + stand_sum s bodies homes x n k y ≤ upto
  all_fit zero k y e runs u = let l = u.less in omega (arith, l)
  all_fit (suc n) k y e runs u =
      form_fits k y e runs u (stand_sum s bodies homes x n) (λ m to e2 g h. all_fit n m to e2 g h)

  abbrev begins : ℕ
  begins = here 0 x (total s.size (entry_of r choices ++ local_buffers (locals_of (bodies 0) (homes 0))))

  entry_under : Under 0 0 begins
  entry_under = record {
    at = λ p. entry_top;
    off = λ np. inl (not_here 0 x _ np);
    less = by (is_or_not 0 x);
  }
    where
      entry_top : begins ≤ top 0
      entry_top = let a = at_most 0 x (total s.size (entry_of r choices
          ++ local_buffers (locals_of (bodies 0) (homes 0)))) in let b = tops.entry in omega (arith, a, b)

      by : (0 ≡ x) ⊎ (0 ≡ x → ⊥) → begins ≤ upto
      by (inl p) =
          let a = entry_top in
          let b = room 0 (subst (Runs 0) p entry) in
          omega (arith, a, b)
      by (inr f) = let z = not_here 0 x (total s.size (entry_of r choices
          ++ local_buffers (locals_of (bodies 0) (homes 0)))) f in omega (arith, z)

  draft_fits : begins + stand_sum s bodies homes x (length (bodies_of r)) 0 0 ≤ upto
  draft_fits = all_fit (length (bodies_of r)) 0 0 begins entry entry_under

pub sums_fit : SumsFit
sums_fit r w limits choices are d is top tops busy node upto room =
    subst (λ (n : ℕ). n ≤ upto)
    (sym (sums_are_of_loops r w choices are d is (map plan_node r.machine.now.nodes) node))
    (draft_fits r w limits choices are top tops busy node upto room)
