-- The least capacity, and the greatest number of children, of the nodes at which a form runs.
use Rattle.std.proofs.Common.{◌≡◌, ◌⊎◌, inl, inr, ℕ, zero, suc, ◌+◌, ◌≤◌, min, max, Bool, true, false, List, [], ◌∷◌}
use Rattle.std.proofs.Common.{get_or, slice_get, Some, refl, sym, ap, subst, ◌∙◌, arith, if◌then◌else◌}
use Rattle.std.specs.Prelude.{nat_le}
use Rattle.std.proofs.lemmas.Bool.{leb-true, leb-false}
use Rattle.sq_machfile.specs.declared.node.Node.{Node}
use Rattle.sq_machfile.specs.Machines.{WithinLimits}
use Rattle.sq_forms.specs.declared.form.Form.{Form}
use Rattle.sq_spec.specs.declared.resolved.Resolved.{Resolved}
use Rattle.sq_plan_good.specs.DraftLaws.Choosing.{Walked}
use Rattle.sq_pass_laws.specs.Pipe.Runs.{Marks, is_marked, marks_of, least_room, most_children, no_bound}
use Rattle.sq_overlap_laws.specs.Marks.{Runs, RunsWhere, RoomIsLeast, ChildrenAreMost}
use Rattle.sq_overlap_laws.proofs.Called.{at_level, forms_run_somewhere}
use Rattle.sq_overlap_laws.proofs.Exact.{marks_are_runs}

-- ---- numbers

lesser : (m n : ℕ) → (min m n ≡ m) ⊎ (min m n ≡ n)
lesser m n = by (nat_le m n) refl
  where
    by : (v : Bool) → nat_le m n ≡ v → (min m n ≡ m) ⊎ (min m n ≡ n)
    by true e = inl (let z = leb-true m n e in omega (arith, z))
    by false e = inr (let z = leb-false m n e in omega (arith, z))

greater : (m n : ℕ) → (max m n ≡ m) ⊎ (max m n ≡ n)
greater m n = by (nat_le n m) refl
  where
    by : (v : Bool) → nat_le n m ≡ v → (max m n ≡ m) ⊎ (max m n ≡ n)
    by true e = inl (let z = leb-true n m e in omega (arith, z))
    by false e = inr (let z = leb-false n m e in omega (arith, z))

-- ---- marked nodes

-- one of these nodes, from the n-th on, is marked and is such
record MarkedWhere (marks : Marks) (n : ℕ) (nodes : List Node) (P : Node → Type 0) : Type 0 where
  index : ℕ
  own : Node
  there : slice_get nodes index ≡ Some own
  marked : is_marked marks (n + index) ≡ true
  holds : P own

marked_later : (marks : Marks) (n : ℕ) (node : Node) (nodes : List Node) (P : Node → Type 0)
    → MarkedWhere marks (n + 1) nodes P → MarkedWhere marks n (node ∷ nodes) P
marked_later marks n node nodes P m =
    let z : n + suc m.index ≡ n + 1 + m.index = omega arith in
    record {
      index = suc m.index;
      own = m.own;
      there = m.there;
      marked = ap (is_marked marks) z ∙ m.marked;
      holds = m.holds;
    }

marked_first : (marks : Marks) (n : ℕ) (node : Node) (nodes : List Node) (P : Node → Type 0)
    → is_marked marks n ≡ true → P node → MarkedWhere marks n (node ∷ nodes) P
marked_first marks n node nodes P marked holds =
    let z : n + 0 ≡ n = omega arith in
    record { index = 0; own = node; there = refl; marked = ap (is_marked marks) z ∙ marked; holds = holds }

-- ---- the least capacity

least_below : (marks : Marks) (n : ℕ) (nodes : List Node) (most : ℕ) → least_room marks n nodes most ≤ most
least_below marks n [] most = omega arith
least_below marks n (x ∷ nodes) most =
    by (is_marked marks n) (least_below marks (n + 1) nodes (if is_marked marks n then min x.capacity most else most))
  where
    by : (t : Bool) → least_room marks (n + 1) nodes (if t then min x.capacity most else most)
        ≤ (if t then min x.capacity most else most)
        → least_room marks (n + 1) nodes (if t then min x.capacity most else most) ≤ most
    by true h = omega (arith, h)
    by false h = h

least_marked : (marks : Marks) (n : ℕ) (nodes : List Node) (most i : ℕ) (x : Node) → slice_get nodes i ≡ Some x
    → is_marked marks (n + i) ≡ true → least_room marks n nodes most ≤ x.capacity
least_marked marks n [] most i x h m = absurd (cc h)
least_marked marks n (y ∷ nodes) most zero x h m =
    let y_is : y ≡ x = cc h in
    let z : n + 0 ≡ n = omega arith in
    let marked : is_marked marks n ≡ true = subst (λ j. is_marked marks j ≡ true) z m in
    let same = ap (λ (t : Bool). least_room marks (n + 1) nodes (if t then min y.capacity most else most)) marked in
    let less = least_below marks (n + 1) nodes (min y.capacity most) in
    let capacity = ap (λ (v : Node). v.capacity) y_is in
    omega (arith, same, less, capacity)
least_marked marks n (y ∷ nodes) most (suc i) x h m =
    let z : n + suc i ≡ n + 1 + i = omega arith in
    least_marked marks (n + 1) nodes (if is_marked marks n then min y.capacity most else most) i x h
    (subst (λ j. is_marked marks j ≡ true) z m)

-- behind a node that is marked or isn't
abbrev room_after : Marks → (n : ℕ) → Node → List Node → (most : ℕ) → Bool → ℕ
room_after marks n node nodes most v = least_room marks (n + 1) nodes (if v then min node.capacity most else most)

least_is : (marks : Marks) (n : ℕ) (nodes : List Node) (most : ℕ) → (least_room marks n nodes most ≡ most)
    ⊎ MarkedWhere marks n nodes (λ own. own.capacity ≡ least_room marks n nodes most)
least_is marks n [] most = inl refl
least_is marks n (node ∷ nodes) most =
    by (is_marked marks n) refl
    (least_is marks (n + 1) nodes (if is_marked marks n then min node.capacity most else most))
  where
    first : is_marked marks n ≡ true → room_after marks n node nodes most true ≡ min node.capacity most
        → (min node.capacity most ≡ node.capacity) ⊎ (min node.capacity most ≡ most)
        → (room_after marks n node nodes most true ≡ most)
        ⊎ MarkedWhere marks n (node ∷ nodes) (λ own. own.capacity ≡ room_after marks n node nodes most true)
    first marked e (inl own) = inr (marked_first marks n node nodes _ marked (sym (e ∙ own)))
    first marked e (inr other) = inl (e ∙ other)

    by : (v : Bool) → is_marked marks n ≡ v
        → (room_after marks n node nodes most v ≡ (if v then min node.capacity most else most))
        ⊎ MarkedWhere marks (n + 1) nodes (λ own. own.capacity ≡ room_after marks n node nodes most v)
        → (room_after marks n node nodes most v ≡ most)
        ⊎ MarkedWhere marks n (node ∷ nodes) (λ own. own.capacity ≡ room_after marks n node nodes most v)
    by true marked (inl e) = first marked e (lesser node.capacity most)
    by true marked (inr m) = inr (marked_later marks n node nodes _ m)
    by false marked (inl e) = inl e
    by false marked (inr m) = inr (marked_later marks n node nodes _ m)

-- ---- the greatest number of children

most_above : (marks : Marks) (n : ℕ) (nodes : List Node) (least : ℕ) → least ≤ most_children marks n nodes least
most_above marks n [] least = omega arith
most_above marks n (node ∷ nodes) least =
    let first = by (is_marked marks n) in
    let rest = most_above marks (n + 1) nodes (if is_marked marks n then max node.children least else least) in
    omega (arith, first, rest)
  where
    by : (t : Bool) → least ≤ (if t then max node.children least else least)
    by true = omega arith
    by false = omega arith

most_marked : (marks : Marks) (n : ℕ) (nodes : List Node) (least i : ℕ) (own : Node) → slice_get nodes i ≡ Some own
    → is_marked marks (n + i) ≡ true → own.children ≤ most_children marks n nodes least
most_marked marks n [] least i own there marked = absurd (cc there)
most_marked marks n (node ∷ nodes) least zero own there marked =
    let is : node ≡ own = cc there in
    let z : n + 0 ≡ n = omega arith in
    let rest = most_above marks (n + 1) nodes (if is_marked marks n then max node.children least else least) in
    let first = by (is_marked marks n) (subst (λ k. is_marked marks k ≡ true) z marked) in
    let children = ap (λ (v : Node). v.children) is in
    omega (arith, first, rest, children)
  where
    by : (t : Bool) → t ≡ true → node.children ≤ (if t then max node.children least else least)
    by true e = omega arith
    by false e = absurd (cc e)
most_marked marks n (node ∷ nodes) least (suc i) own there marked =
    let z : n + suc i ≡ n + 1 + i = omega arith in
    most_marked marks (n + 1) nodes (if is_marked marks n then max node.children least else least) i own there
    (subst (λ k. is_marked marks k ≡ true) z marked)

-- behind a node that is marked or isn't
abbrev children_after : Marks → (n : ℕ) → Node → List Node → (least : ℕ) → Bool → ℕ
children_after marks n node nodes least v =
    most_children marks (n + 1) nodes (if v then max node.children least else least)

most_is : (marks : Marks) (n : ℕ) (nodes : List Node) (least : ℕ) → (most_children marks n nodes least ≡ least)
    ⊎ MarkedWhere marks n nodes (λ own. own.children ≡ most_children marks n nodes least)
most_is marks n [] least = inl refl
most_is marks n (node ∷ nodes) least =
    by (is_marked marks n) refl
    (most_is marks (n + 1) nodes (if is_marked marks n then max node.children least else least))
  where
    first : is_marked marks n ≡ true → children_after marks n node nodes least true ≡ max node.children least
        → (max node.children least ≡ node.children) ⊎ (max node.children least ≡ least)
        → (children_after marks n node nodes least true ≡ least)
        ⊎ MarkedWhere marks n (node ∷ nodes) (λ own. own.children ≡ children_after marks n node nodes least true)
    first marked e (inl own) = inr (marked_first marks n node nodes _ marked (sym (e ∙ own)))
    first marked e (inr other) = inl (e ∙ other)

    by : (v : Bool) → is_marked marks n ≡ v
        → (children_after marks n node nodes least v ≡ (if v then max node.children least else least))
        ⊎ MarkedWhere marks (n + 1) nodes (λ own. own.children ≡ children_after marks n node nodes least v)
        → (children_after marks n node nodes least v ≡ least)
        ⊎ MarkedWhere marks n (node ∷ nodes) (λ own. own.children ≡ children_after marks n node nodes least v)
    by true marked (inl e) = first marked e (greater node.children least)
    by true marked (inr m) = inr (marked_later marks n node nodes _ m)
    by false marked (inl e) = inl e
    by false marked (inr m) = inr (marked_later marks n node nodes _ m)

-- ---- of a form

module _ (r : Resolved) (w : Walked r) (limits : WithinLimits r.machine.now) (k : ℕ) (f : Form)
    (there : slice_get r.forms k ≡ Some f) where
  abbrev marks : Marks
  marks = get_or (marks_of r) k []

  abbrev nodes : List Node
  nodes = r.machine.now.nodes

  marked_at : (node : ℕ) → Runs r k node → is_marked marks (0 + node) ≡ true
  marked_at node runs =
      let z : 0 + node ≡ node = omega arith in
      ap (is_marked marks) z ∙ (marks_are_runs r w limits k node).back runs

  runs_where : (P : Node → Type 0) → MarkedWhere (get_or (marks_of r) k []) 0 r.machine.now.nodes P → RunsWhere r k P
  runs_where P m =
      let z : 0 + m.index ≡ m.index = omega arith in
      record {
        node = m.index;
        runs = (marks_are_runs r w limits k m.index).there (ap (is_marked marks) (sym z) ∙ m.marked);
        own = m.own;
        own_there = m.there;
        holds = m.holds;
      }

  abbrev room : ℕ
  room = least_room marks 0 nodes no_bound

  least : (node : ℕ) (own : Node) → Runs r k node → slice_get r.machine.now.nodes node ≡ Some own
      → least_room (get_or (marks_of r) k []) 0 r.machine.now.nodes no_bound ≤ own.capacity
  least node own runs own_there = least_marked marks 0 nodes no_bound node own own_there (marked_at node runs)

  -- it runs somewhere, where capacities are far below the bound
  room_is : RunsWhere r k (λ own. own.capacity ≡ least_room (get_or (marks_of r) k []) 0 r.machine.now.nodes no_bound)
  room_is = by (least_is marks 0 nodes no_bound)
    where
      bounded : room ≡ no_bound → (node : ℕ) → Runs r k node → ⊥
      bounded e node runs =
          let at = at_level r w limits k node runs in
          let low = least node at.own runs at.own_there in
          let few = (limits.fits node at.own at.own_there).capacity in
          absurd (omega (arith, e, low, few))

      by : (room ≡ no_bound) ⊎ MarkedWhere marks 0 nodes (λ own. own.capacity ≡ room)
          → RunsWhere r k (λ own. own.capacity ≡ room)
      by (inl e) = let at = forms_run_somewhere r w limits k f there in absurd (bounded e at.0 at.1)
      by (inr m) = runs_where (λ own. own.capacity ≡ room) m

  abbrev children : ℕ
  children = most_children marks 0 nodes 0

  most : (node : ℕ) (own : Node) → Runs r k node → slice_get r.machine.now.nodes node ≡ Some own
      → own.children ≤ most_children (get_or (marks_of r) k []) 0 r.machine.now.nodes 0
  most node own runs own_there = most_marked marks 0 nodes 0 node own own_there (marked_at node runs)

  children_is : RunsWhere r k (λ own. own.children ≡ most_children (get_or (marks_of r) k []) 0 r.machine.now.nodes 0)
  children_is = by (most_is marks 0 nodes 0)
    where
      none_at : children ≡ 0 → (node : ℕ) → Runs r k node → RunsWhere r k (λ own. own.children ≡ children)
      none_at e node runs =
          let at = at_level r w limits k node runs in
          let low = most node at.own runs at.own_there in
          record {
            node = node;
            runs = runs;
            own = at.own;
            own_there = at.own_there;
            holds = omega (arith, e, low);
          }

      by : (children ≡ 0) ⊎ MarkedWhere marks 0 nodes (λ own. own.children ≡ children)
          → RunsWhere r k (λ own. own.children ≡ children)
      by (inl e) = let at = forms_run_somewhere r w limits k f there in none_at e at.0 at.1
      by (inr m) = runs_where (λ own. own.children ≡ children) m

pub room_is_least : RoomIsLeast
room_is_least r w limits k f there = record { least = least r w limits k f there; is = room_is r w limits k f there }

pub children_are_most : ChildrenAreMost
children_are_most r w limits k f there = record { most = most r w limits k f there; is = children_is r w limits k f there }
