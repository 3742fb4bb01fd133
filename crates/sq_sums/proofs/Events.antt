-- The sum of a term's actions is that of the events of its tree.
use Rattle.std.proofs.Common.{◌≡◌, ◌≢◌, ℕ, zero, suc, ◌+◌, ◌<◌, ◌≤◌, Bool, true, false, List, [], ◌∷◌, ◌++◌, map}
use Rattle.std.proofs.Common.{length, Option, Some, None, ℤ, pos, negsuc, refl, sym, ap, ap₂, ◌∙◌, subst, arith, ◌⊎◌}
use Rattle.std.proofs.Common.{inl, inr}
use Rattle.std.specs.Prelude.{◌==◌, ◌*◌, if◌then◌else◌}
use Rattle.std.specs.List.{All, Contains}
use Rattle.std.proofs.lemmas.Bool.{eq-eqb, eqb-true, eqb-false}
use Rattle.std.proofs.lemmas.List.Elements.{All-contains}
use Rattle.sq_num.specs.Elements.{width}
use Rattle.sq_text.specs.declared.spread.SpreadRule.{SpreadRule}
use Rattle.sq_text.specs.Spreading.{child_of}
use Rattle.sq_text.proofs.Spreads.{spreads}
use Rattle.sq_ir.specs.Tree as tree
use Rattle.sq_ir.specs.Tree.{Tree, is_done, seq, par, within}
use Rattle.sq_ir.specs.Events.{Event}
use Rattle.sq_ir.specs.Machines.{AreNodes}
use Rattle.sq_ir.specs.Traffic.{is_edge, level_in}
use Rattle.sq_ir.specs.Written as whole
use Rattle.sq_ir.specs.Written.{Setting, PlanTree, Part, at_root, node_of, count_of, value_of, event_of, inside_of}
use Rattle.sq_ir.specs.Written.{scoped, seq_parts, par_parts, seq_of, par_of, turn_at, written}
use Rattle.sq_ir.specs.Plans.{node_at, placed, setting_of, tree_of, IsCount, IsChild, IsBuffer, AskedOfTerms}
use Rattle.sq_ir.specs.Plans.{each_part, this_arm, Meets}
use Rattle.sq_ir.specs.declared.num.Num.{Num}
use Rattle.sq_ir.specs.declared.term.Action.{Action}
use Rattle.sq_ir.specs.declared.term.Action.TheVariants as action
use Rattle.sq_ir.specs.declared.term.Term.{Term, roll-Term}
use Rattle.sq_ir.specs.declared.term.Term.TheVariants as t
use Rattle.sq_ir.specs.declared.term.Term.TheOpen.{Term-F}
use Rattle.sq_ir.specs.declared.term.Term.TheFolds.{ind-Term, map-Term}
use Rattle.sq_ir.specs.declared.plan.Buffer.{Buffer}
use Rattle.sq_ir.specs.declared.plan.PlanNode.{PlanNode}
use Rattle.sq_ir.specs.declared.plan.Plan.{Plan}
use Rattle.sq_ir.proofs.Meeting.{meets_skip, meets_act, meets_seq, meets_par, meets_loop, meets_spread, meets_case}
use Rattle.sq_ir.proofs.Meeting.{meets_within}
use Rattle.sq_ir.proofs.Equations.{written_skip, written_act, written_seq, written_par, written_loop, written_spread}
use Rattle.sq_ir.proofs.Equations.{written_case, written_within}
use Rattle.sq_ir.proofs.OpenScopes.{contains-first}
use Rattle.sq_term_nums.specs.Words.{count}
use Rattle.sq_term_nums.specs.Laws as nums
use Rattle.sq_term_nums.proofs.Values.{value-is, count-is}
use Rattle.sq_nests.specs.Stacks.{capped}
use Rattle.sq_nests.proofs.Machines.{layered, child-there}
use Rattle.sq_sums.specs.declared.toll.Kind.{Kind}
use Rattle.sq_sums.specs.declared.toll.Kind.TheVariants.{Down, Up, Copies, Fills, Accumulations, Leaves}
use Rattle.sq_sums.specs.Tops.{Stand, at_turn, env_at, child_at}
use Rattle.sq_sums.specs.Totals.{tree_sum}
use Rattle.sq_sums.specs.Tolls.{level_of, toll, event_toll, InScope, SumAt, all_sum, each_sum, arm_sum_of, arm_sum}
use Rattle.sq_sums.specs.Tolls.{at_child_word, scope_sum, sum_of, IsTolled}
use Rattle.sq_sums.proofs.SumForms.{sum_skip, sum_act, sum_seq, sum_par, sum_loop, sum_spread, sum_case, sum_within}

-- ---- sums over numbers

each_same : (n : ℕ) (g h : ℕ → ℕ) (i : ℕ) → ((j : ℕ) → i ≤ j → j < i + n → g j ≡ h j) → each_sum n g i ≡ each_sum n h i
unfolding each_sum
each_same zero g h i e = refl
each_same (suc n) g h i e =
    ap₂ (λ a b. a + b) (e i (omega arith) (omega arith))
    (each_same n g h (i + 1) (λ j l u. e j (omega (arith, l)) (omega (arith, u))))

each_plus : (n : ℕ) (g h : ℕ → ℕ) (i : ℕ) → each_sum n (λ j. g j + h j) i ≡ each_sum n g i + each_sum n h i
unfolding each_sum
each_plus zero g h i = refl
each_plus (suc n) g h i = let e =
    each_plus n g h (i + 1) in swap (g i) (h i) (each_sum n (λ j. g j + h j) (i + 1)) (each_sum n g (i + 1))
    (each_sum n h (i + 1)) e
  where
    swap : (a b c d e : ℕ) → c ≡ d + e → (a + b) + c ≡ (a + d) + (b + e)
    swap a b c d e z = omega (arith, z)

each_zero : (n i : ℕ) → each_sum n (λ j. 0) i ≡ 0
unfolding each_sum
each_zero zero i = refl
each_zero (suc n) i = let e = each_zero n (i + 1) in omega (arith, e)

each_swap : (n m : ℕ) (g : ℕ → ℕ → ℕ) (i k : ℕ) → each_sum n (λ a. each_sum m (λ b. g a b) k) i
    ≡ each_sum m (λ b. each_sum n (λ a. g a b) i) k
unfolding each_sum
each_swap zero m g i k = sym (each_zero m k)
each_swap (suc n) m g i k = ap (λ z. each_sum m (λ b. g i b) k + z) (each_swap n m g (i + 1) k)
    ∙ sym (each_plus m (λ b. g i b) (λ b. each_sum n (λ a. g a b) (i + 1)) k)

-- of these numbers one alone counts
one_past : (n k x i : ℕ) → k < i → each_sum n (λ c. if k == c then x else 0) i ≡ 0
unfolding each_sum
one_past zero k x i l = refl
one_past (suc n) k x i l = by (k == i) refl (one_past n k x (i + 1) (omega (arith, l)))
  where
    by : (v : Bool) → (k == i) ≡ v → each_sum n (λ c. if k == c then x else 0) (i + 1) ≡ 0
        → (if v then x else 0) + each_sum n (λ c. if k == c then x else 0) (i + 1) ≡ 0
    by true e z = let q = eqb-true k i e in absurd (omega (arith, q, l))
    by false e z = omega (arith, z)

one_of : (n k x i : ℕ) → i ≤ k → k < i + n → each_sum n (λ c. if k == c then x else 0) i ≡ x
unfolding each_sum
one_of zero k x i l u = absurd (omega (arith, l, u))
one_of (suc n) k x i l u =
    by (k == i) refl (λ q. one_past n k x (i + 1) (omega (arith, q)))
    (λ q. one_of n k x (i + 1) (omega (arith, l, q)) (omega (arith, u)))
  where
    by : (v : Bool) → (k == i) ≡ v → (k ≡ i → each_sum n (λ c. if k == c then x else 0) (i + 1) ≡ 0)
        → (k ≢ i → each_sum n (λ c. if k == c then x else 0) (i + 1) ≡ x)
        → (if v then x else 0) + each_sum n (λ c. if k == c then x else 0) (i + 1) ≡ x
    by true e f g = let z = f (eqb-true k i e) in omega (arith, z)
    by false e f g = let z = g (eqb-false k i e) in omega (arith, z)

-- ---- sums over trees

module _ {S : Type 0} (f : Event → ℕ) where
  done_sum : (a : Tree Event S) → is_done a ≡ true → tree_sum f a ≡ 0
  done_sum tree.Skip h = refl
  done_sum (tree.Act e) h = absurd (let z = h in cc)
  done_sum (tree.Stuck e) h = refl
  done_sum (tree.Seq a b) h = let p = both_done (is_done a) (is_done b) h in let x = done_sum a p.0 in let y =
      done_sum b p.1 in omega (arith, x, y)
    where
      both_done : (u v : Bool) → (if u then v else false) ≡ true → (u ≡ true) × (v ≡ true)
      both_done true v h = (refl, h)
      both_done false v h = absurd (let z = h in cc)
  done_sum (tree.Par a b) h = let p = both_done (is_done a) (is_done b) h in let x = done_sum a p.0 in let y =
      done_sum b p.1 in omega (arith, x, y)
    where
      both_done : (u v : Bool) → (if u then v else false) ≡ true → (u ≡ true) × (v ≡ true)
      both_done true v h = (refl, h)
      both_done false v h = absurd (let z = h in cc)
  done_sum (tree.Within s a) h = done_sum a h

  seq_sum : (a b : Tree Event S) → tree_sum f (seq a b) ≡ tree_sum f a + tree_sum f b
  seq_sum a b = by (is_done a) refl (is_done b) refl
    where
      by : (u : Bool) → is_done a ≡ u → (v : Bool) → is_done b ≡ v
          → tree_sum f (if u then b else (if v then a else tree.Seq a b)) ≡ tree_sum f a + tree_sum f b
      by true e v g = let z = done_sum a e in omega (arith, z)
      by false e true g = let z = done_sum b g in omega (arith, z)
      by false e false g = refl

  par_sum : (a b : Tree Event S) → tree_sum f (par a b) ≡ tree_sum f a + tree_sum f b
  par_sum a b = by (is_done a) refl (is_done b) refl
    where
      by : (u : Bool) → is_done a ≡ u → (v : Bool) → is_done b ≡ v
          → tree_sum f (if u then b else (if v then a else tree.Par a b)) ≡ tree_sum f a + tree_sum f b
      by true e v g = let z = done_sum a e in omega (arith, z)
      by false e true g = let z = done_sum b g in omega (arith, z)
      by false e false g = refl

  within_sum : (s : S) (a : Tree Event S) → tree_sum f (within s a) ≡ tree_sum f a
  within_sum s a = by (is_done a) refl
    where
      by : (v : Bool) → is_done a ≡ v → tree_sum f (if v then tree.Skip else tree.Within s a) ≡ tree_sum f a
      by true e = sym (done_sum a e)
      by false e = refl

scoped_sum : (f : Event → ℕ) (node : ℕ) (bs : List ℕ) (a : PlanTree) → tree_sum f (scoped node bs a) ≡ tree_sum f a
scoped_sum f node [] a = refl
scoped_sum f node (b ∷ bs) a = within_sum f (record { node = node; buffers = b ∷ bs }) a

turns_sum : (f : Event → ℕ) (n : ℕ) (g : ℕ → PlanTree) (i : ℕ)
    → tree_sum f (seq_of n g i) ≡ each_sum n (λ j. tree_sum f (g j)) i
unfolding seq_of each_sum
turns_sum f zero g i = refl
turns_sum f (suc n) g i = seq_sum f (g i) (seq_of n g (i + 1))
    ∙ ap (λ z. tree_sum f (g i) + z) (turns_sum f n g (i + 1))

children_sum : (f : Event → ℕ) (n : ℕ) (g : ℕ → PlanTree) (i : ℕ)
    → tree_sum f (par_of n g i) ≡ each_sum n (λ j. tree_sum f (g j)) i
unfolding par_of each_sum
children_sum f zero g i = refl
children_sum f (suc n) g i = par_sum f (g i) (par_of n g (i + 1))
    ∙ ap (λ z. tree_sum f (g i) + z) (children_sum f n g (i + 1))

-- each iteration of a spread stands at one child
spread_sum : (f : Event → ℕ) (s : Setting) (rule : SpreadRule) (n : ℕ) (body : Part) (env : whole.Env)
    → 1 ≤ s.children (node_of env)
    → tree_sum f (par_of (s.children (node_of env)) (λ c. seq_of n (turn_at s rule n body env c) 0) 0)
    ≡ each_sum n (λ j. tree_sum f (body (whole.at_turn env j))) 0
spread_sum f s rule n body env some =
    children_sum f k (λ c. seq_of n (turn_at s rule n body env c) 0) 0
    ∙ each_same k (λ c. tree_sum f (seq_of n (turn_at s rule n body env c) 0))
    (λ c. each_sum n (λ j. if child_of rule n k j == c then x j else 0) 0) 0 (λ c l u.
    turns_sum f n (turn_at s rule n body env c) 0
    ∙ each_same n (λ j. tree_sum f (turn_at s rule n body env c j))
    (λ j. if child_of rule n k j == c then x j else 0) 0
    (λ j a b. turn (child_of rule n k j == c) (body (whole.at_turn env j))))
    ∙ each_swap k n (λ c j. if child_of rule n k j == c then x j else 0) 0 0
    ∙ each_same n (λ j. each_sum k (λ c. if child_of rule n k j == c then x j else 0) 0) x 0 (λ j a b.
    one_of k (child_of rule n k j) (x j) 0 (omega arith)
    (let z = (spreads rule n k some).below j (omega (arith, b)) in omega (arith, z)))
  where
    k : ℕ
    k = s.children (node_of env)

    x : ℕ → ℕ
    x j = tree_sum f (body (whole.at_turn env j))

    turn : (v : Bool) (a : PlanTree) → tree_sum f (if v then a else tree.Skip) ≡ (if v then tree_sum f a else 0)
    turn true a = refl
    turn false a = refl

-- ---- buffers in scope

contains_both : (xs ys : List ℕ) (b : ℕ) → Contains (xs ++ ys) b → Contains xs b ⊎ Contains ys b
contains_both [] ys b c = inr c
contains_both (x ∷ xs) ys b c = by (contains-first x (xs ++ ys) b c) (contains_both xs ys b)
  where
    by : (x ≡ b) ⊎ Contains (xs ++ ys) b → (Contains (xs ++ ys) b → Contains xs b ⊎ Contains ys b)
        → Contains (x ∷ xs) b ⊎ Contains ys b
    by (inl e) f = inl (0, omega arith, e)
    by (inr i) f = more (f i)
      where
        more : Contains xs b ⊎ Contains ys b → Contains (x ∷ xs) b ⊎ Contains ys b
        more (inl k) = inl (suc k.0, (let l = k.1 in omega (arith, l)), k.2)
        more (inr k) = inr k

pub if-true : {X : Type 0} (v : Bool) (a b : X) → v ≡ true → (if v then a else b) ≡ a
if-true true a b e = refl
if-true false a b e = absurd (let z = e in cc)

pub capped_in : (n : ℕ) → n < 4097 → capped n ≡ n
unfolding capped
capped_in n l = omega (arith, l)

module _ (buffers : List Buffer) (nodes : List PlanNode) (offset : ℕ → ℕ) (are : AreNodes nodes) (kind : Kind) where
  abbrev s : Setting
  s = placed buffers nodes offset

  abbrev level : ℕ → ℕ
  level n = level_in nodes n

  abbrev g : Event → ℕ
  g = event_toll level kind

  abbrev w : Action → ℕ
  w = toll buffers kind

  -- The node in force at each level down to this one has that level, and so has each buffer in scope.
  pub record IsKnown (env : whole.Env) (bs : List ℕ) : Type 0 where
    pub levels : (l : ℕ) → l ≤ env.level → level (env.nodes l) ≡ l
    pub named : (b : ℕ) → Contains bs b → level_of buffers b ≤ env.level

  slot_level : (env : whole.Env) (bs : List ℕ) (b : ℕ) → IsKnown env bs → Contains bs b
      → level (env.nodes (level_of buffers b)) ≡ level_of buffers b
  slot_level env bs b k c = k.levels (level_of buffers b) (k.named b c)

  tolled : (env : whole.Env) (bs : List ℕ) (a : Action) (kind : Kind) → IsKnown env bs → InScope env bs a
      → event_toll level kind (event_of s env a) ≡ toll buffers kind a
  tolled env bs (action.CopyRow from to bytes) (Down edge) k c =
      ap₂ (λ x y. if is_edge x y edge then bytes else 0) (slot_level env bs from.buffer k c.0)
      (slot_level env bs to.buffer k c.1)
  tolled env bs (action.CopyRow from to bytes) (Up edge) k c =
      ap₂ (λ x y. if is_edge x y edge then bytes else 0) (slot_level env bs to.buffer k c.1)
      (slot_level env bs from.buffer k c.0)
  tolled env bs (action.CopyRow from to bytes) Copies k c = refl
  tolled env bs (action.CopyRow from to bytes) Fills k c = refl
  tolled env bs (action.CopyRow from to bytes) Accumulations k c = refl
  tolled env bs (action.CopyRow from to bytes) Leaves k c = refl
  tolled env bs (action.FillRow to elem n v) (Down edge) k c = refl
  tolled env bs (action.FillRow to elem n v) (Up edge) k c = refl
  tolled env bs (action.FillRow to elem n v) Copies k c = refl
  tolled env bs (action.FillRow to elem n v) Fills k c = refl
  tolled env bs (action.FillRow to elem n v) Accumulations k c = refl
  tolled env bs (action.FillRow to elem n v) Leaves k c = refl
  tolled env bs (action.AccRow op elem from to n) (Down edge) k c = refl
  tolled env bs (action.AccRow op elem from to n) (Up edge) k c =
      ap₂ (λ x y. if is_edge x y edge then n * width elem else 0) (slot_level env bs to.buffer k c.1)
      (slot_level env bs from.buffer k c.0)
  tolled env bs (action.AccRow op elem from to n) Copies k c = refl
  tolled env bs (action.AccRow op elem from to n) Fills k c = refl
  tolled env bs (action.AccRow op elem from to n) Accumulations k c = refl
  tolled env bs (action.AccRow op elem from to n) Leaves k c = refl
  tolled env bs (action.Leaf code views path) (Down edge) k c = refl
  tolled env bs (action.Leaf code views path) (Up edge) k c = refl
  tolled env bs (action.Leaf code views path) Copies k c = refl
  tolled env bs (action.Leaf code views path) Fills k c = refl
  tolled env bs (action.Leaf code views path) Accumulations k c = refl
  tolled env bs (action.Leaf code views path) Leaves k c = refl

  -- ---- where a part stands

  pub record Agree (env : whole.Env) (at : Stand) : Type 0 where
    pub turns : at.turns ≡ env.turns
    pub here : at.node ≡ node_of env

  agree_turn : (env : whole.Env) (at : Stand) (k : ℕ) → Agree env at → Agree (whole.at_turn env k) (at_turn at k)
  agree_turn env at k ag = record { turns = ap (λ ts. k ∷ ts) ag.turns; here = ag.here }

  known_turn : (env : whole.Env) (bs : List ℕ) (k : ℕ) → IsKnown env bs → IsKnown (whole.at_turn env k) bs
  known_turn env bs k h = record { levels = h.levels; named = h.named }

  numbers : (env : whole.Env) (at : Stand) → Agree env at → nums.Agree s env (env_at nodes at)
  numbers env at ag = record { turns = ag.turns; children = ap (λ n. (node_at nodes n).children) ag.here }

  known_inside : (env : whole.Env) (bs new : List ℕ) (c : Option Num) → IsChild s env c
      → All (IsBuffer s (inside_of s env c).level) new → IsKnown env bs → IsKnown (inside_of s env c) (new ++ bs)
  known_inside env bs new None h a k = record {
    levels = k.levels;
    named = λ b i. by b (contains_both new bs b i);
  }
    where
      by : (b : ℕ) → Contains new b ⊎ Contains bs b → level_of buffers b ≤ env.level
      by b (inl i) = let z = (All-contains (IsBuffer s env.level) new b a i).level in omega (arith, z)
      by b (inr i) = k.named b i
  known_inside env bs new (Some c) h a k = record {
    levels = λ l u. by_level l u (l == suc env.level) refl;
    named = λ b i. by b (contains_both new bs b i);
  }
    where
      child : ℕ
      child = s.child (node_of env) (count_of s c env)

      by_level : (l : ℕ) → l ≤ suc env.level → (v : Bool) → (l == suc env.level) ≡ v
          → level (if v then child else env.nodes l) ≡ l
      by_level l u true e =
          let d = (layered buffers nodes offset are).below (node_of env) (count_of s c env) h.1 in
          let m = k.levels env.level (omega arith) in
          let z = eqb-true l (suc env.level) e in
          omega (arith, d, m, z)
      by_level l u false e = let z = eqb-false l (suc env.level) e in k.levels l (omega (arith, u, z))

      by : (b : ℕ) → Contains new b ⊎ Contains bs b → level_of buffers b ≤ suc env.level
      by b (inl i) = let z = (All-contains (IsBuffer s (suc env.level)) new b a i).level in omega (arith, z)
      by b (inr i) = let z = k.named b i in omega (arith, z)

  -- ---- terms

  abbrev Sums : Term → Type 0
  Sums x = (env : whole.Env) (at : Stand) (bs : List ℕ) → Meets s InScope x env bs → Agree env at → IsKnown env bs
      → tree_sum g (written s x env) ≡ sum_of nodes w x at

  abbrev A : Type 0
  A = (x : Term) × Sums x

  abbrev terms : List A → List Term
  terms xs = map (λ x. x.0) xs

  all_seq : (xs : List A) (env : whole.Env) (at : Stand) (bs : List ℕ) → each_part (Meets s InScope) (terms xs) env bs
      → Agree env at → IsKnown env bs
      → tree_sum g (seq_parts (map (written s) (terms xs)) env) ≡ all_sum (map (sum_of nodes w) (terms xs)) at
  all_seq [] env at bs m ag k = refl
  all_seq (x ∷ xs) env at bs m ag k =
      seq_sum g (written s x.0 env) (seq_parts (map (written s) (terms xs)) env)
      ∙ ap₂ (λ a b. a + b) (x.1 env at bs m.0 ag k) (all_seq xs env at bs m.1 ag k)

  all_par : (xs : List A) (env : whole.Env) (at : Stand) (bs : List ℕ) → each_part (Meets s InScope) (terms xs) env bs
      → Agree env at → IsKnown env bs
      → tree_sum g (par_parts (map (written s) (terms xs)) env) ≡ all_sum (map (sum_of nodes w) (terms xs)) at
  all_par [] env at bs m ag k = refl
  all_par (x ∷ xs) env at bs m ag k =
      par_sum g (written s x.0 env) (par_parts (map (written s) (terms xs)) env)
      ∙ ap₂ (λ a b. a + b) (x.1 env at bs m.0 ag k) (all_par xs env at bs m.1 ag k)

  arm_is : (xs : List A) (i : ℕ) (env : whole.Env) (at : Stand) (bs : List ℕ)
      → this_arm (Meets s InScope) (terms xs) (pos i) env bs → Agree env at → IsKnown env bs
      → tree_sum g (whole.arm_of (map (written s) (terms xs)) i env) ≡ arm_sum_of (map (sum_of nodes w) (terms xs)) i at
  arm_is [] i env at bs m ag k = refl
  arm_is (x ∷ xs) zero env at bs m ag k = x.1 env at bs m ag k
  arm_is (x ∷ xs) (suc i) env at bs m ag k = arm_is xs i env at bs m ag k

  arm_at_is : (xs : List A) (z : ℤ) (env : whole.Env) (at : Stand) (bs : List ℕ)
      → this_arm (Meets s InScope) (terms xs) z env bs → Agree env at → IsKnown env bs
      → tree_sum g (whole.arm_at (map (written s) (terms xs)) z env) ≡ arm_sum (map (sum_of nodes w) (terms xs)) z at
  arm_at_is xs (pos i) env at bs m ag k = arm_is xs i env at bs m ag k
  arm_at_is xs (negsuc i) env at bs m ag k = refl

  turns_are : (x : A) (c : Num) (env : whole.Env) (at : Stand) (bs : List ℕ) → IsCount s env c
      → ((j : ℕ) → j < count_of s c env → Meets s InScope x.0 (whole.at_turn env j) bs) → Agree env at
      → IsKnown env bs
      → each_sum (count_of s c env) (λ j. tree_sum g (written s x.0 (whole.at_turn env j))) 0
      ≡ each_sum (count c (env_at nodes at)) (λ j. sum_of nodes w x.0 (at_turn at j)) 0
  turns_are x c env at bs h m ag k =
      each_same (count_of s c env) (λ j. tree_sum g (written s x.0 (whole.at_turn env j)))
      (λ j. sum_of nodes w x.0 (at_turn at j)) 0
      (λ j l u. x.1 (whole.at_turn env j) (at_turn at j) bs (m j (omega (arith, u))) (agree_turn env at j ag)
      (known_turn env bs j k))
      ∙ ap (λ n. each_sum n (λ j. sum_of nodes w x.0 (at_turn at j)) 0)
      (sym (count-is s env (env_at nodes at) (numbers env at ag) c h))

  scope_is : (c : Option Num) (x : A) (env : whole.Env) (at : Stand) (new bs : List ℕ) → IsChild s env c
      → Meets s InScope x.0 (inside_of s env c) (new ++ bs) → Agree env at → IsKnown (inside_of s env c) (new ++ bs)
      → tree_sum g (written s x.0 (inside_of s env c)) ≡ scope_sum nodes c (sum_of nodes w x.0) at
  scope_is None x env at new bs h m ag k = x.1 env at (new ++ bs) m ag k
  scope_is (Some c) x env at new bs h m ag k =
      x.1 (inside_of s env (Some c)) (at_child_word nodes (count_of s c env) at) (new ++ bs) m
      (record {
        turns = ag.turns;
        here = ap (λ n. capped (child_at nodes n (count_of s c env))) ag.here
            ∙ capped_in (s.child (node_of env) (count_of s c env)) (omega (arith, few, there))
            ∙ sym (if-true (suc env.level == suc env.level) (s.child (node_of env) (count_of s c env))
            (env.nodes (suc env.level)) (eq-eqb (suc env.level) (suc env.level) refl));
      }) k
      ∙ ap (λ i. sum_of nodes w x.0 (at_child_word nodes i at))
      (sym (count-is s env (env_at nodes at) (numbers env at ag) c h.0))
    where
      few : length nodes ≤ 4096
      few = are.few

      there : s.child (node_of env) (count_of s c env) < length nodes
      there = child-there nodes (node_of env) (count_of s c env) are h.1

  along : (x : Term) (a : AskedOfTerms) (p : Part) (f : SumAt) → Meets s InScope x ≡ a → written s x ≡ p
      → sum_of nodes w x ≡ f
      → ((env : whole.Env) (at : Stand) (bs : List ℕ) → a env bs → Agree env at → IsKnown env bs
      → tree_sum g (p env) ≡ f at) → Sums x
  along x a p f e o q h env at bs m ag k =
      ap (λ (z : Part). tree_sum g (z env)) o ∙ h env at bs (subst (λ (z : AskedOfTerms). z env bs) e m) ag k
      ∙ sym (ap (λ (z : SumAt). z at) q)

  sums_step : (y : Term-F A) → Sums (roll-Term (map-Term A Term (λ x. x.0) y))
  sums_step Term-F.Skip =
      subst Sums (sym t.rolls-Skip) (along _ _ _ _ (meets_skip s InScope) (written_skip s) (sum_skip nodes w)
      (λ env at bs m ag k. refl))
  sums_step (Term-F.Act a) =
      subst Sums (sym (t.rolls-Act a)) (along _ _ _ _ (meets_act s InScope a) (written_act s a) (sum_act nodes w a)
      (λ env at bs m ag k. tolled env bs a kind k m))
  sums_step (Term-F.Seq xs) =
      subst Sums (sym (t.rolls-Seq (terms xs))) (along _ _ _ _ (meets_seq s InScope (terms xs))
      (written_seq s (terms xs)) (sum_seq nodes w (terms xs)) (all_seq xs))
  sums_step (Term-F.Par xs) =
      subst Sums (sym (t.rolls-Par (terms xs))) (along _ _ _ _ (meets_par s InScope (terms xs))
      (written_par s (terms xs)) (sum_par nodes w (terms xs)) (all_par xs))
  sums_step (Term-F.Loop c x) =
      subst Sums (sym (t.rolls-Loop c x.0)) (along _ _ _ _ (meets_loop s InScope c x.0) (written_loop s c x.0)
      (sum_loop nodes w c x.0) (λ env at bs m ag k.
      turns_sum g (count_of s c env) (λ j. written s x.0 (whole.at_turn env j)) 0
      ∙ turns_are x c env at bs m.0 m.1 ag k))
  sums_step (Term-F.Spread c u x) =
      subst Sums (sym (t.rolls-Spread c u x.0)) (along _ _ _ _ (meets_spread s InScope c u x.0)
      (written_spread s c u x.0) (sum_spread nodes w c u x.0) (λ env at bs m ag k.
      spread_sum g s u (count_of s c env) (written s x.0) env m.1 ∙ turns_are x c env at bs m.0 m.2 ag k))
  sums_step (Term-F.Case c xs) =
      subst Sums (sym (t.rolls-Case c (terms xs)))
      (along _ _ _ _ (meets_case s InScope c (terms xs)) (written_case s c (terms xs)) (sum_case nodes w c (terms xs))
      (λ env at bs m ag k.
      arm_at_is xs (value_of s c env) env at bs m.1 ag k
      ∙ ap (λ z. arm_sum (map (sum_of nodes w) (terms xs)) z at)
      (sym (value-is s env (env_at nodes at) (numbers env at ag) c m.0))))
  sums_step (Term-F.Within c new x) =
      subst Sums (sym (t.rolls-Within c new x.0)) (along _ _ _ _ (meets_within s InScope c new x.0)
      (written_within s c new x.0) (sum_within nodes w c new x.0) (λ env at bs m ag k.
      scoped_sum g (node_of (inside_of s env c)) new (written s x.0 (inside_of s env c))
      ∙ scope_is c x env at new bs m.0 m.2 ag (known_inside env bs new c m.0 m.1 k)))

  pub sums_are : (x : Term) → Sums x
  sums_are = ind-Term Sums (λ x y is. subst (λ z. Sums (roll-Term z)) is (sums_step y))

  known_root : (entry : List ℕ) → All (IsBuffer s 0) entry → IsKnown at_root entry
  known_root entry a = record {
    levels = λ l u. let z = (layered buffers nodes offset are).root in omega (arith, z, u);
    named = λ b i. let z = (All-contains (IsBuffer s 0) entry b a i).level in omega (arith, z);
  }

-- of a plan
pub plan_sum : (p : Plan) (kind : Kind) → IsTolled p
    → tree_sum (event_toll (level_in p.nodes) kind) (tree_of p)
    ≡ sum_of p.nodes (toll p.draft.buffers kind) p.draft.term (record { turns = []; node = 0; held = 0 })
plan_sum p kind h =
    let b = p.draft.buffers in
    let n = p.nodes in
    let o = setting_of p in
    scoped_sum (event_toll (level_in n) kind) 0 p.draft.entry (written o p.draft.term at_root)
    ∙ sums_are b n o.offset h.machine kind p.draft.term at_root
    (record { turns = []; node = 0; held = 0 }) p.draft.entry h.term (record { turns = refl; here = refl })
    (known_root b n o.offset h.machine kind p.draft.entry h.entry)
