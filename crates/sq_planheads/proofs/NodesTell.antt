-- What the tests of nodes tell: they are those of a machine, or they aren't.
use Rattle.std.proofs.Common.{◌≡◌, ℕ, zero, suc, ◌+◌, ◌-◌, ◌<◌, ◌≤◌, ◌^◌, ◌⊎◌, inl, inr, Bool, true, false, not, ◌&&◌, eqb, ltb, leb, if◌then◌else◌, List, [], ◌∷◌, ◌++◌, map, length, take, drop, replicate, Option, Some, None, Decides, refl, sym, ap, ◌∙◌, subst, arith}
use Rattle.std.specs.List.{slice_get, list_all, flat_map, AllByRecursion}
use Rattle.std.proofs.lemmas.Bool.{ltb-true, ltb-false, leb-true, eqb-true, eqb-false, eq-eqb, ne_eqb, le-leb, lt-ltb, le-ltb, not-true, not_from_false, and_parts, and_from, cases_lt}
use Rattle.sq_ir.specs.declared.plan.PlanNode.{PlanNode}
use Rattle.sq_ir.specs.Machines.{total, children_in, below, AreArranged, IsNode, AreNodes}
use Rattle.sq_plantext.specs.declared.text.NodeLine.{NodeLine}
use Rattle.sq_planfile.specs.Files.{node_of}
use Rattle.sq_planheads.specs.Nodes.{deeper, deepest, is_node, is_below, past_children, begins_at, then_all, are_parents, are_arranged, has_room, are_nodes}
use Rattle.sq_planheads.proofs.Members.{In, in_map, in_flat_map, flat_map_in, in_replicate, all_at, at_all}

abbrev pub nodes : List NodeLine → List PlanNode
nodes ns = map node_of ns

abbrev levels : List NodeLine → List ℕ
levels ns = map (λ (n : PlanNode). n.level) (nodes ns)

abbrev belows : List NodeLine → List ℕ
belows ns = flat_map below (nodes ns)

-- ---- the deepest level

deeper_by : (l m : ℕ) (b : Bool) → ltb l m ≡ b → (l ≤ (if b then m else l)) × (m ≤ (if b then m else l))
deeper_by l m true e = let h = ltb-true l m e in (omega (arith, h), omega arith)
deeper_by l m false e = let h = ltb-false l m e in (omega arith, omega (arith, h))

deepest_more : (l : ℕ) (ns : List NodeLine) → l ≤ deepest l ns
deepest_more l [] = omega arith
deepest_more l (n ∷ ns) = let h = (deeper_by l n.level (ltb l n.level) refl).0 in let k = deepest_more (deeper l n) ns in omega (arith, h, k)

pub deepest_each : (l : ℕ) (ns : List NodeLine) → AllByRecursion (λ (n : NodeLine). n.level ≤ deepest l ns) ns
deepest_each l ns = at_all (λ (n : NodeLine). n.level ≤ deepest l ns) ns (at l ns)
  where
    at : (l : ℕ) (ns : List NodeLine) (i : ℕ) (n : NodeLine) → slice_get ns i ≡ Some n → n.level ≤ deepest l ns
    at l [] i n e = absurd (cc)
    at l (m ∷ ns) zero n e =
        let same : m ≡ n = cc in
        let h = (deeper_by l m.level (ltb l m.level) refl).1 in
        let k = deepest_more (deeper l m) ns in
        let q : m.level ≡ n.level = ap (λ (n : NodeLine). n.level) same in
        omega (arith, h, k, q)
    at l (m ∷ ns) (suc i) n e = at (deeper l m) ns i n e

-- some node has it, if it isn't the level from which it was looked for
abbrev Attained : ℕ → List NodeLine → ℕ → Type 0
Attained l ns d = (d ≡ l) ⊎ In (levels ns) d

attained : (l : ℕ) (ns : List NodeLine) → Attained l ns (deepest l ns)
attained l [] = inl refl
attained l (n ∷ ns) = elim (attained (deeper l n) ns) [
  | inl e ↦ by (ltb l n.level) e
  | inr h ↦ inr (inr h)
]
  where
    by : (b : Bool) → deepest (deeper l n) ns ≡ (if b then n.level else l) → Attained l (n ∷ ns) (deepest (deeper l n) ns)
    by true e = inr (inl (sym e))
    by false e = inl e

-- ---- single nodes

children_by : (last level c : ℕ) (b : Bool) → eqb level last ≡ b → (if b then eqb c 0 else not (eqb c 0)) ≡ true
    → (suc level < suc last → 1 ≤ c) × (suc level ≡ suc last → c ≡ 0)
children_by last level c true e h =
    let same = eqb-true level last e in
    (λ lt. absurd (omega (arith, same, lt)), λ q. eqb-true c 0 h)
children_by last level c false e h =
    let some : (c ≡ 0) → ⊥ = eqb-false c 0 (not-true (eqb c 0) h) in (
      λ lt. elim (cases_lt 0 c) [ inl more ↦ omega (arith, more) | inr none ↦ absurd (some (omega (arith, none))) ],
      λ q. absurd (eqb-false level last e (omega (arith, q))),
    )

node_sound : (last : ℕ) (n : NodeLine) → n.level ≤ last → is_node last n ≡ true → IsNode (suc last) (node_of n)
node_sound last n le h =
    let p = and_parts (leb n.capacity (2 ^ 30) && leb n.children 64) (if eqb n.level last then eqb n.children 0 else not (eqb n.children 0)) h in
    let q = and_parts (leb n.capacity (2 ^ 30)) (leb n.children 64) p.0 in
    let c = children_by last n.level n.children (eqb n.level last) refl p.1 in
    record { level = omega (arith, le); capacity = leb-true n.capacity (2 ^ 30) q.0; some = c.0; few = leb-true n.children 64 q.1; last = c.1 }

children_from : (last level c : ℕ) (b : Bool) → eqb level last ≡ b → level ≤ last → (suc level < suc last → 1 ≤ c) → (suc level ≡ suc last → c ≡ 0)
    → (if b then eqb c 0 else not (eqb c 0)) ≡ true
children_from last level c true e le some none = let same = eqb-true level last e in eq-eqb c 0 (none (ap suc same))
children_from last level c false e le some none =
    let less : level < last = elim (cases_lt level last) [ inl h ↦ h | inr h ↦ absurd (eqb-false level last e (omega (arith, le, h))) ] in
    let one = some (omega (arith, less)) in
    not_from_false (eqb c 0) (ne_eqb c 0 (λ z. omega (arith, one, z)))

node_complete : (last : ℕ) (n : NodeLine) → IsNode (suc last) (node_of n) → is_node last n ≡ true
node_complete last n h =
    let le : n.level ≤ last = let l = h.level in omega (arith, l) in
    and_from _ _ (and_from _ _ (le-leb n.capacity (2 ^ 30) h.capacity) (le-leb n.children 64 h.few))
    (children_from last n.level n.children (eqb n.level last) refl le h.some h.last)

each_sound : (last : ℕ) (ns : List NodeLine) → AllByRecursion (λ (n : NodeLine). n.level ≤ last) ns → list_all (is_node last) ns ≡ true
    → AllByRecursion (IsNode (suc last)) (nodes ns)
each_sound last [] le h = tt
each_sound last (n ∷ ns) le h = let p = and_parts (is_node last n) (list_all (is_node last) ns) h in (node_sound last n le.0 p.0, each_sound last ns le.1 p.1)

each_complete : (last : ℕ) (ns : List NodeLine) → AllByRecursion (IsNode (suc last)) (nodes ns) → list_all (is_node last) ns ≡ true
each_complete last [] h = refl
each_complete last (n ∷ ns) h = and_from _ _ (node_complete last n h.0) (each_complete last ns h.1)

-- ---- level by level

below_sound : (n m : NodeLine) → is_below n m ≡ true → m.level ≡ suc n.level
below_sound n m h =
    let p = and_parts (ltb n.level m.level) (eqb (m.level - n.level) 1) h in
    let lt = ltb-true n.level m.level p.0 in
    let one = eqb-true (m.level - n.level) 1 p.1 in
    omega (arith, lt, one)

below_complete : (n m : NodeLine) → m.level ≡ suc n.level → is_below n m ≡ true
below_complete n m e = and_from _ _ (lt-ltb n.level m.level (omega (arith, e))) (eq-eqb (m.level - n.level) 1 (omega (arith, e)))

same_levels : (n : NodeLine) (c : ℕ) (left : List NodeLine) → c ≤ length left → list_all (is_below n) (take c left) ≡ true
    → levels left ≡ replicate c (suc n.level) ++ levels (drop c left)
same_levels n zero left le h = refl
same_levels n (suc c) [] le h = absurd (omega arith)
same_levels n (suc c) (m ∷ left) le h =
    let p = and_parts (is_below n m) (list_all (is_below n) (take c left)) h in
    ap (λ l. l ∷ levels left) (below_sound n m p.0) ∙ ap (λ ls. suc n.level ∷ ls) (same_levels n c left (omega arith) p.1)

record Split (n : NodeLine) (c : ℕ) (left : List NodeLine) (more : List ℕ) : Type 0 where
  few : c ≤ length left
  each : list_all (is_below n) (take c left) ≡ true
  later : levels (drop c left) ≡ more

split_levels : (n : NodeLine) (c : ℕ) (left : List NodeLine) (more : List ℕ) → levels left ≡ replicate c (suc n.level) ++ more → Split n c left more
split_levels n zero left more e = record { few = omega arith; each = refl; later = e }
split_levels n (suc c) [] more e = absurd (cc)
split_levels n (suc c) (m ∷ left) more e =
    let first : m.level ≡ suc n.level = cc in
    let rest : levels left ≡ replicate c (suc n.level) ++ more = cc in
    let s = split_levels n c left more rest in
    let few = s.few in
    record { few = omega (arith, few); each = and_from _ _ (below_complete n m first) s.each; later = s.later }

-- what is left behind the children of a node
record Past (n : NodeLine) (left rest : List NodeLine) : Type 0 where
  few : n.children ≤ length left
  each : list_all (is_below n) (take n.children left) ≡ true
  rest_is : rest ≡ drop n.children left

past_sound : (n : NodeLine) (left rest : List NodeLine) → past_children n left ≡ Some rest → Past n left rest
past_sound n left rest e = by (ltb (length left) n.children) refl e
  where
    all_by : (b : Bool) → list_all (is_below n) (take n.children left) ≡ b → n.children ≤ length left → (if b then Some (drop n.children left) else None) ≡ Some rest → Past n left rest
    all_by true all few e = record { few = few; each = all; rest_is = let q : drop n.children left ≡ rest = cc in sym q }
    all_by false all few e = absurd (cc)

    by : (b : Bool) → ltb (length left) n.children ≡ b → (if b then None else (if list_all (is_below n) (take n.children left) then Some (drop n.children left) else None)) ≡ Some rest → Past n left rest
    by true long e = absurd (cc)
    by false long e = all_by (list_all (is_below n) (take n.children left)) refl (ltb-false (length left) n.children long) e

past_complete : (n : NodeLine) (left : List NodeLine) → n.children ≤ length left → list_all (is_below n) (take n.children left) ≡ true → past_children n left ≡ Some (drop n.children left)
past_complete n left few each = rw (le-ltb (length left) n.children few, each) refl

drop_length : (c : ℕ) (left : List NodeLine) → c ≤ length left → length (drop c left) + c ≡ length left
drop_length zero left le = omega arith
drop_length (suc c) [] le = absurd (omega arith)
drop_length (suc c) (m ∷ left) le = let h = drop_length c left (omega arith) in omega (arith, h)

-- the index of the first child, where there is one
abbrev FirstAt : (first : ℕ) → List NodeLine → Type 0
FirstAt first ns = (i : ℕ) (n : PlanNode) → slice_get (nodes ns) i ≡ Some n
    → n.first_child ≡ (if eqb n.children 0 then 0 else first + children_in (take i (nodes ns)))

record Parents (count : ℕ) (left ns : List NodeLine) : Type 0 where
  levels : levels left ≡ belows ns
  first : FirstAt (count - length left) ns

else_same : (b : Bool) (m n : ℕ) → m ≡ n → (if b then 0 else m) ≡ (if b then 0 else n)
else_same b m n e = ap (λ k. if b then 0 else k) e

first_of : (count : ℕ) (left rest : List NodeLine) (n : NodeLine) (ns : List NodeLine) → length left ≤ count → begins_at (count - length left) n ≡ true → length rest + n.children ≡ length left
    → FirstAt (count - length rest) ns → FirstAt (count - length left) (n ∷ ns)
first_of count left rest n ns le first long more zero m q =
    let same : node_of n ≡ m = cc in
    let here : n.first_child ≡ (if eqb n.children 0 then 0 else (count - length left) + 0) =
    eqb-true n.first_child (if eqb n.children 0 then 0 else count - length left) first ∙ else_same (eqb n.children 0) (count - length left) ((count - length left) + 0) (omega arith) in
    subst (λ (m : PlanNode). m.first_child ≡ (if eqb m.children 0 then 0 else (count - length left) + 0)) same here
first_of count left rest n ns le first long more (suc i) m q = more i m q ∙ else_same (eqb m.children 0) _ _ (omega (arith, long, le))

parents_sound : (count : ℕ) (left ns : List NodeLine) → length left ≤ count → are_parents count left ns ≡ true → Parents count left ns
parents_sound count [] [] le h = record { levels = refl; first = λ i n e. absurd (cc) }
parents_sound count (m ∷ left) [] le h = absurd (cc)
parents_sound count left (n ∷ ns) le h =
    let p = and_parts (begins_at (count - length left) n) (then_all (past_children n left) (λ rest. are_parents count rest ns)) h in
    by (λ rest. parents_sound count rest ns) (past_children n left) refl p.0 p.1
  where
    by : ((rest : List NodeLine) → length rest ≤ count → are_parents count rest ns ≡ true → Parents count rest ns)
        → (o : Option (List NodeLine)) → past_children n left ≡ o → begins_at (count - length left) n ≡ true → then_all o (λ rest. are_parents count rest ns) ≡ true → Parents count left (n ∷ ns)
    by later None e first h = absurd (cc)
    by later (Some rest) e first h =
        let past = past_sound n left rest e in
        let long : length rest + n.children ≡ length left = ap (λ (r : List NodeLine). length r + n.children) past.rest_is ∙ drop_length n.children left past.few in
        let more = later rest (omega (arith, le, long)) h in
        record {
          levels = same_levels n n.children left past.few past.each ∙ ap (λ r. replicate n.children (suc n.level) ++ levels r) (sym past.rest_is) ∙ ap (λ r. replicate n.children (suc n.level) ++ r) more.levels;
          first = first_of count left rest n ns le first long more.first;
        }

parents_complete : (count : ℕ) (left ns : List NodeLine) → length left ≤ count → levels left ≡ belows ns → FirstAt (count - length left) ns → are_parents count left ns ≡ true
parents_complete count [] [] le e first = refl
parents_complete count (m ∷ left) [] le e first = absurd (cc)
parents_complete count left (n ∷ ns) le e first =
    let s = split_levels n n.children left (belows ns) e in
    let long = drop_length n.children left s.few in
    let begins : begins_at (count - length left) n ≡ true =
    eq-eqb n.first_child (if eqb n.children 0 then 0 else count - length left)
    (first 0 (node_of n) refl ∙ else_same (eqb n.children 0) ((count - length left) + 0) (count - length left) (omega arith)) in
    let more = parents_complete count (drop n.children left) ns (omega (arith, le, long)) s.later
    (λ i m q. first (suc i) m q ∙ else_same (eqb m.children 0) _ _ (omega (arith, long, le))) in
    and_from _ _ begins (ap (λ o. then_all o (λ rest. are_parents count rest ns)) (past_complete n left s.few s.each) ∙ more)

arranged_sound : (ns : List NodeLine) → are_arranged ns ≡ true → AreArranged (nodes ns)
arranged_sound [] h = absurd (cc)
arranged_sound (root ∷ later) h =
    let p = and_parts (eqb root.level 0) (are_parents (length (root ∷ later)) later (root ∷ later)) h in
    let s = parents_sound (length (root ∷ later)) later (root ∷ later) (omega arith) p.1 in
    record {
      levels = ap (λ l. l ∷ levels later) (eqb-true root.level 0 p.0) ∙ ap (λ ls. 0 ∷ ls) s.levels;
      first = λ i n e. s.first i n e ∙ else_same (eqb n.children 0) _ _ (omega arith);
    }

arranged_complete : (ns : List NodeLine) → AreArranged (nodes ns) → are_arranged ns ≡ true
arranged_complete [] h = let e = h.levels in absurd (cc)
arranged_complete (root ∷ later) h =
    let e : (root.level ∷ levels later) ≡ 0 ∷ belows (root ∷ later) = h.levels in
    let first : root.level ≡ 0 = cc in
    let rest : levels later ≡ belows (root ∷ later) = cc in
    and_from _ _ (eq-eqb root.level 0 first)
    (parents_complete (length (root ∷ later)) later (root ∷ later) (omega arith) rest (λ i n q. h.first i n q ∙ else_same (eqb n.children 0) _ _ (omega arith)))

-- ---- all capacities together

room_sound : (left : ℕ) (ns : List NodeLine) → has_room left ns ≡ true → total (λ n. n.capacity) (nodes ns) ≤ left
room_sound left [] h = omega arith
room_sound left (n ∷ ns) h = by (room_sound (left - n.capacity) ns) (ltb left n.capacity) refl h
  where
    by : (has_room (left - n.capacity) ns ≡ true → total (λ n. n.capacity) (nodes ns) ≤ left - n.capacity) → (b : Bool) → ltb left n.capacity ≡ b
        → (if b then false else has_room (left - n.capacity) ns) ≡ true → n.capacity + total (λ n. n.capacity) (nodes ns) ≤ left
    by later true e h = absurd (cc)
    by later false e h = let le = ltb-false left n.capacity e in let more = later h in omega (arith, le, more)

room_complete : (left : ℕ) (ns : List NodeLine) → total (λ n. n.capacity) (nodes ns) ≤ left → has_room left ns ≡ true
room_complete left [] h = refl
room_complete left (n ∷ ns) h =
    rw (le-ltb left n.capacity (omega (arith, h))) (room_complete (left - n.capacity) ns (omega (arith, h)))

-- ---- together

nodes_length : (ns : List NodeLine) → length (nodes ns) ≡ length ns
nodes_length [] = refl
nodes_length (n ∷ ns) = ap suc (nodes_length ns)

nodes_sound : (ns : List NodeLine) → are_nodes (deepest 0 ns) ns ≡ true → AreNodes (nodes ns)
nodes_sound ns h =
    let last = deepest 0 ns in
    let a = and_parts (leb (length ns) 4096) _ h in
    let b = and_parts (ltb last 8) _ a.1 in
    let c = and_parts (list_all (is_node last) ns) _ b.1 in
    let d = and_parts (are_arranged ns) (has_room (2 ^ 31) ns) c.1 in
    let few = leb-true (length ns) 4096 a.0 in
    let deep = ltb-true last 8 b.0 in
    let long = nodes_length ns in
    record {
      levels = suc last;
      few_levels = omega (arith, deep);
      few = omega (arith, few, long);
      arranged = arranged_sound ns d.0;
      each = all_at (IsNode (suc last)) (nodes ns) (each_sound last ns (deepest_each 0 ns) c.0);
      capacity = room_sound (2 ^ 31) ns d.1;
    }

-- some node is one level below a node that has children
below_in : (n : PlanNode) → 1 ≤ n.children → In (below n) (suc n.level)
below_in n some = by n.children some
  where
    by : (c : ℕ) → 1 ≤ c → In (replicate c (suc n.level)) (suc n.level)
    by zero some = absurd (omega arith)
    by (suc c) some = inl refl

in_plan : (ns : List NodeLine) → AllByRecursion (λ (n : NodeLine). n.level ≤ deepest 0 ns) ns → (k : ℕ) → In (levels ns) k → k ≤ deepest 0 ns
in_plan ns le k h = by ns le h
  where
    by : (ms : List NodeLine) → AllByRecursion (λ (n : NodeLine). n.level ≤ deepest 0 ns) ms → In (levels ms) k → k ≤ deepest 0 ns
    by [] le h = absurd h
    by (m ∷ ms) le (inl e) = let l = le.0 in omega (arith, l, e)
    by (m ∷ ms) le (inr h) = by ms le.1 h

-- the deepest level is that of a node
deepest_in : (ns : List NodeLine) → AreArranged (nodes ns) → In (levels ns) (deepest 0 ns)
deepest_in ns h = elim (attained 0 ns) [ inl e ↦ subst (λ ls. In ls (deepest 0 ns)) (sym h.levels) (inl (sym e)) | inr k ↦ k ]

in_index : (ns : List PlanNode) (n : PlanNode) → In ns n → (i : ℕ) × (slice_get ns i ≡ Some n)
in_index [] n h = absurd h
in_index (m ∷ ns) n (inl e) = (0, ap (λ m. Some m) e)
in_index (m ∷ ns) n (inr h) = let k = in_index ns n h in (suc k.0, k.1)

-- the last level is the deepest
levels_are : (ns : List NodeLine) (h : AreNodes (nodes ns)) → h.levels ≡ suc (deepest 0 ns)
levels_are ns h =
    let last = deepest 0 ns in
    let m = in_map (λ (n : PlanNode). n.level) (nodes ns) last (deepest_in ns h.arranged) in
    let at = in_index (nodes ns) m.0 m.1 in
    let node = h.each at.0 m.0 at.1 in
    let is = m.2 in
    let less = node.level in
    elim (cases_lt (suc m.0.level) h.levels) [
      | inl above ↦
          let found : In (levels ns) (suc m.0.level) = subst (λ ls. In ls (suc m.0.level)) (sym h.arranged.levels) (inr (flat_map_in below (nodes ns) m.0 (suc m.0.level) m.1 (below_in m.0 (node.some above)))) in
          let low = in_plan ns (deepest_each 0 ns) (suc m.0.level) found in
          absurd (omega (arith, low, is))
      | inr above ↦ omega (arith, above, less, is)
    ]

nodes_complete : (ns : List NodeLine) → AreNodes (nodes ns) → are_nodes (deepest 0 ns) ns ≡ true
nodes_complete ns h =
    let last = deepest 0 ns in
    let is = levels_are ns h in
    let few_levels = h.few_levels in
    let few = h.few in
    let long = nodes_length ns in
    let each = at_all (IsNode (suc last)) (nodes ns) (λ i n e. subst (λ l. IsNode l n) is (h.each i n e)) in
    and_from _ _ (le-leb (length ns) 4096 (omega (arith, few, long)))
    (and_from _ _ (lt-ltb last 8 (omega (arith, few_levels, is)))
    (and_from _ _ (each_complete last ns each) (and_from _ _ (arranged_complete ns h.arranged) (room_complete (2 ^ 31) ns h.capacity))))

pub nodes_tell : (ns : List NodeLine) → Decides (are_nodes (deepest 0 ns) ns) (AreNodes (nodes ns))
nodes_tell ns = (nodes_sound ns, nodes_complete ns)

-- ---- each level down to the deepest has a node

one_up : (ns : List NodeLine) → AreArranged (nodes ns) → (k : ℕ) → In (levels ns) (suc k) → In (levels ns) k
one_up ns h k found =
    elim (subst (λ ls. In ls (suc k)) h.levels found) [
      | inl e ↦ absurd (cc)
      | inr below_some ↦
          let m = in_flat_map below (nodes ns) (suc k) below_some in
          let e : suc m.0.level ≡ suc k = in_replicate m.0.children (suc m.0.level) (suc k) m.2 in
          let same : m.0.level ≡ k = omega (arith, e) in
          level_in (nodes ns) m.0 k m.1 same
    ]
  where
    level_in : (ns : List PlanNode) (n : PlanNode) (k : ℕ) → In ns n → n.level ≡ k → In (map (λ (n : PlanNode). n.level) ns) k
    level_in [] n k h e = absurd h
    level_in (m ∷ ns) n k (inl h) e = inl (ap (λ (n : PlanNode). n.level) h ∙ e)
    level_in (m ∷ ns) n k (inr h) e = inr (level_in ns n k h e)

all_up : (ns : List NodeLine) → AreArranged (nodes ns) → (d k : ℕ) → In (levels ns) (d + k) → In (levels ns) k
all_up ns h zero k found = subst (In (levels ns)) (omega arith) found
all_up ns h (suc d) k found = all_up ns h d k (one_up ns h (d + k) (subst (In (levels ns)) (omega arith) found))

-- a node has this level just where it is none below the deepest
pub level_there : (ns : List NodeLine) → AreNodes (nodes ns) → (k : ℕ) → k ≤ deepest 0 ns → (n : PlanNode) × In (nodes ns) n × (n.level ≡ k)
level_there ns h k le =
    let whole : (deepest 0 ns - k) + k ≡ deepest 0 ns = omega (arith, le) in
    in_map (λ (n : PlanNode). n.level) (nodes ns) k (all_up ns h.arranged (deepest 0 ns - k) k (subst (In (levels ns)) (sym whole) (deepest_in ns h.arranged)))

pub level_within : (ns : List NodeLine) (n : PlanNode) → In (nodes ns) n → n.level ≤ deepest 0 ns
level_within ns n h = in_plan ns (deepest_each 0 ns) n.level (level_in (nodes ns) h)
  where
    level_in : (ms : List PlanNode) → In ms n → In (map (λ (n : PlanNode). n.level) ms) n.level
    level_in [] h = absurd h
    level_in (m ∷ ms) (inl h) = inl (ap (λ (n : PlanNode). n.level) h)
    level_in (m ∷ ms) (inr h) = inr (level_in ms h)
