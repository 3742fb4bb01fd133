-- Lists of nodes and tables that grow.
use Rattle.std.proofs.Common.{◌≡◌, ℕ, zero, suc, ◌+◌, ◌-◌, ◌*◌, ◌<◌, ◌≤◌, max, Bool, true, false, List, [], ◌∷◌, ◌++◌}
use Rattle.std.proofs.Common.{length, get_or, take, drop, Some, refl, sym, ap, ap₂, subst, ◌∙◌, arith, append_assoc}
use Rattle.std.specs.Prelude.{◌==◌, ◌≢◌, slice_get, if◌then◌else◌, Result, Ok, Err, OnOk}
use Rattle.std.proofs.lemmas.Bool.{eqb-true}
use Rattle.sq_ir.specs.declared.term.Term.{Term}
use Rattle.sq_ir.specs.declared.plan.PlanNode.{PlanNode}
use Rattle.sq_sums.specs.declared.route.Route.{Route}
use Rattle.sq_sums.specs.declared.walk.Ground.{Ground}
use Rattle.sq_sums.specs.declared.sums.Table.{Table}
use Rattle.sq_sums.specs.Grounds.{weight_on}
use Rattle.sq_sums.specs.Regions.{region_of}
use Rattle.sq_sums.specs.Sites.{Site}
use Rattle.sq_sums.specs.Routes.{layout, AddsOne, marks}
use Rattle.sq_sums.specs.Sums.{node_by, fan_at, way_nodes, row_nodes, site_nodes, AreTables, table_at, worth_all}
use Rattle.sq_sums.specs.Sums.{site_worth, body_worth, sites_worth_from, sites_worth, sites_worth_upto, Raises, depth}
use Rattle.sq_sums.specs.Sums.{sites_depth}
use Rattle.sq_sums.proofs.Marking.{marks_long, routed_worth}
use Rattle.sq_sums.proofs.Raising.{raises_two, raises_same}
use Rattle.sq_sums.proofs.Depths.{sites_deep}

-- ---- nodes of a row

module _ (nodes : List PlanNode) (row : List Bool) (n : ℕ) where
  pub marked_next : (list new whole : List ℕ) (ways way next node : ℕ) → way < ways → next ≡ way + 1
      → get_or row way false ≡ true → node ≡ node_by nodes n way → new ≡ list ++ (node ∷ [])
      → list ++ way_nodes nodes row n (ways - way) way ≡ whole → new ++ way_nodes nodes row n (ways - next) next ≡ whole
  marked_next list new whole ways way next node l e g k h i =
      let z : ways - way ≡ suc (ways - (way + 1)) = omega (arith, l) in
      let rest = way_nodes nodes row n (ways - (way + 1)) (way + 1) in
      ap₂ (λ a b. a ++ way_nodes nodes row n (ways - b) b) (h ∙ ap (λ x. list ++ (x ∷ [])) k) e
      ∙ append_assoc list (node_by nodes n way ∷ []) rest
      ∙ ap (λ l. list ++ l) (sym (one (get_or row way false) g) ∙ ap (λ k. way_nodes nodes row n k way) (sym z)) ∙ i
    where
      one : (v : Bool) → v ≡ true → (if v then node_by nodes n way ∷ way_nodes nodes row n (ways - (way + 1)) (way + 1)
          else way_nodes nodes row n (ways - (way + 1)) (way + 1))
          ≡ node_by nodes n way ∷ way_nodes nodes row n (ways - (way + 1)) (way + 1)
      one true e = refl
      one false e = absurd (let d = e in cc)

  pub marked_none : (list new whole : List ℕ) (ways way next : ℕ) → way < ways → next ≡ way + 1 → get_or row way false
      ≡ false → new ≡ list
      → list ++ way_nodes nodes row n (ways - way) way ≡ whole → new ++ way_nodes nodes row n (ways - next) next ≡ whole
  marked_none list new whole ways way next l e g h i =
      let z : ways - way ≡ suc (ways - (way + 1)) = omega (arith, l) in
      ap₂ (λ a b. a ++ way_nodes nodes row n (ways - b) b) h e
      ∙ ap (λ l. list ++ l) (sym (one (get_or row way false) g) ∙ ap (λ k. way_nodes nodes row n k way) (sym z)) ∙ i
    where
      one : (v : Bool) → v ≡ false →
          (if v then node_by nodes n way ∷ way_nodes nodes row n (ways - (way + 1)) (way + 1) else way_nodes nodes row n
          (ways - (way + 1)) (way + 1))
          ≡ way_nodes nodes row n (ways - (way + 1)) (way + 1)
      one false e = refl
      one true e = absurd (let d = e in cc)

-- ---- tables

pub tables_more : (x : Route) (d : ℕ) (ts : List Table) (t : Table) → AreTables x d ts → t.marks.items ≡ marks t.fan d x
    → AreTables x d (ts ++ (t ∷ []))
tables_more x d [] t a e = (e, tt)
tables_more x d (s ∷ ts) t a e = (a.0, tables_more x d ts t a.1 e)

pub last_table : (ts : List Table) (t : Table) → slice_get (ts ++ (t ∷ [])) (length ts) ≡ Some t
last_table [] t = refl
last_table (s ∷ ts) t = last_table ts t

-- the first table of a number of children
pub table_there : (x : Route) (d : ℕ) (ts : List Table) (fan i : ℕ) → AreTables x d ts → i ≡ table_at ts fan
    → i ≢ length ts → (t : Table) × (slice_get ts i ≡ Some t) × (t.marks.items ≡ marks fan d x)
table_there x d [] fan i a e n = absurd (n e)
table_there x d (t ∷ ts) fan i a e n = by (t.fan == fan) refl e (λ j z m. table_there x d ts fan j a.1 z m)
  where
    by : (v : Bool) → (t.fan == fan) ≡ v → i ≡ (if v then 0 else suc (table_at ts fan))
        → ((j : ℕ) → j ≡ table_at ts fan → j ≢ length ts → (s : Table) × (slice_get ts j ≡ Some s)
        × (s.marks.items ≡ marks fan d x))
        → (s : Table) × (slice_get (t ∷ ts) i ≡ Some s) × (s.marks.items ≡ marks fan d x)
    by true g z f = (t, ap (slice_get (t ∷ ts)) z, a.0 ∙ ap (λ k. marks k d x) (eqb-true t.fan fan g))
    by false g z f =
        let r = f (table_at ts fan) refl (λ m. n (z ∙ ap suc m)) in
        (r.0, ap (slice_get (t ∷ ts)) z ∙ r.1, r.2)

pub row_there : (x : Route) (d fan j : ℕ) (ts : List Table) (i : ℕ) → j < d → (t : Table) × (slice_get ts i ≡ Some t)
    × (t.marks.items ≡ marks fan d x) → (t : Table) × (slice_get ts i ≡ Some t) × (j < length t.marks.items)
row_there x d fan j ts i l r = (r.0, r.1, subst (λ n. j < n) (sym (ap length r.2 ∙ marks_long fan d x)) l)

pub nodes_next : (nodes : List PlanNode) (x : Route) (d j n i next : ℕ) (at list new row : List ℕ) → list
    ++ site_nodes nodes x d j (drop i at) ≡ site_nodes nodes x d j at → drop i at ≡ n ∷ drop next at
    → row ≡ row_nodes nodes (get_or (marks (fan_at nodes n) d x) j []) n → new ≡ list ++ row → new
    ++ site_nodes nodes x d j (drop next at) ≡ site_nodes nodes x d j at
nodes_next nodes x d j n i next at list new row e g h k =
    ap (λ l. l ++ site_nodes nodes x d j (drop next at)) (k ∙ ap (λ r. list ++ r) h)
    ∙ append_assoc list (row_nodes nodes (get_or (marks (fan_at nodes n) d x) j []) n)
    (site_nodes nodes x d j (drop next at))
    ∙ ap (λ l. list ++ site_nodes nodes x d j l) (sym g) ∙ e

-- ---- a part and its scopes

pub routed_falls : (w : List ℕ → ℕ) (body : Term) (top : ℕ) (old new given : List Site) (x : Route)
    → AddsOne (layout w body) top old new x → old ≡ [] → given ≡ new → 4 * sites_depth given < 4 * depth body + 1
routed_falls w body top old new given x a o g =
    let e = ap sites_depth (g ∙ a.sites ∙ ap (λ l. l ++ (layout w body).sites top) o) in
    let d = sites_deep w body top in
    omega (arith, e, d)

pub routed_raises : {E : Type 0} (g : Ground) (body : Term) (top : ℕ) (at old new : List ℕ) (o s t : List Site)
    (x : Route) (y : Result Unit E) → AddsOne (layout (weight_on g) body) top o s x → o ≡ [] → t ≡ s
    → (region_of body).routed ≡ true
    → OnOk y (Raises (λ m. sites_worth g m x t at) old new)
    → OnOk y (Raises (λ m. worth_all (body_worth g m body top) at) old new)
routed_raises g body top at old new o s t x (Ok u) a n e z r =
    raises_same (λ m. sites_worth g m x t at) (λ m. worth_all (body_worth g m body top) at) old new
    (λ m. ap₂ (λ y l. sites_worth g m y l at) (a.route ∙ ap (λ l. (layout (weight_on g) body).route top (length l)) n)
    (e ∙ a.sites ∙ ap (λ l. l ++ (layout (weight_on g) body).sites top) n) ∙ routed_worth g m body top at z) r
routed_raises g body top at old new o s t x (Err u) a n e z r = r

-- one scope more
sites_take : (g : Ground) (m : ℕ) (x : Route) (d j k : ℕ) (ss : List Site) (at : List ℕ) (e : Site) → k < length ss
    → sites_worth_from g m x d j (take (suc k) ss) at
    ≡ max (sites_worth_from g m x d j (take k ss) at)
    (worth_all (site_worth g m (get_or ss k e)) (site_nodes g.nodes.now x d (j + k) at))
sites_take g m x d j k [] at e l = absurd (omega (arith, l))
sites_take g m x d j zero (s ∷ ss) at e l =
    let z : j + 0 ≡ j = omega arith in
    end (worth_all (site_worth g m s) (site_nodes g.nodes.now x d j at))
    ∙ ap (λ i. max 0 (worth_all (site_worth g m s) (site_nodes g.nodes.now x d i at))) (sym z)
  where
    end : (a : ℕ) → max a 0 ≡ max 0 a
    end a = omega arith
sites_take g m x d j (suc k) (s ∷ ss) at e l =
    let z : suc j + k ≡ j + suc k = omega arith in
    ap (max (worth_all (site_worth g m s) (site_nodes g.nodes.now x d j at)))
    (sites_take g m x d (suc j) k ss at e (omega (arith, l))
    ∙ ap (λ i. max (sites_worth_from g m x d (suc j) (take k ss) at)
    (worth_all (site_worth g m (get_or ss k e)) (site_nodes g.nodes.now x d i at))) z)
    ∙ max_assoc (worth_all (site_worth g m s) (site_nodes g.nodes.now x d j at))
    (sites_worth_from g m x d (suc j) (take k ss) at)
    (worth_all (site_worth g m (get_or ss k e)) (site_nodes g.nodes.now x d (j + suc k) at))
  where
    max_assoc : (a b c : ℕ) → max a (max b c) ≡ max (max a b) c
    max_assoc a b c = omega arith

pub sites_next : (g : Ground) (x : Route) (ss : List Site) (at nodes : List ℕ) (k next : ℕ) (s e : Site)
    (a b c : List ℕ) → k < length ss → next ≡ k + 1 → s ≡ get_or ss k e → nodes
    ≡ site_nodes g.nodes.now x (length ss) k at
    → Raises (λ m. sites_worth_upto g m x ss at k) a b → Raises (λ m. worth_all (site_worth g m s) nodes) b c
    → Raises (λ m. sites_worth_upto g m x ss at next) a c
sites_next g x ss at nodes k next s e a b c l n is ns p q =
    let z : next ≡ suc k = omega (arith, n) in
    let from : 0 + k ≡ k = omega arith in
    raises_same (λ m. max (sites_worth_upto g m x ss at k) (worth_all (site_worth g m s) nodes))
    (λ m. sites_worth_upto g m x ss at next) a c
    (λ m. ap₂ (λ y l. max (sites_worth_upto g m x ss at k) (worth_all (site_worth g m y) l)) is ns
    ∙ ap (λ i. max (sites_worth_upto g m x ss at k)
    (worth_all (site_worth g m (get_or ss k e)) (site_nodes g.nodes.now x (length ss) i at))) (sym from)
    ∙ sym (sites_take g m x (length ss) 0 k ss at e l) ∙ ap (sites_worth_upto g m x ss at) (sym z))
    (raises_two (λ m. sites_worth_upto g m x ss at k) (λ m. worth_all (site_worth g m s) nodes) a b c p q)

take_all : {X : Type 0} (xs : List X) (k : ℕ) → length xs ≤ k → take k xs ≡ xs
take_all [] zero l = refl
take_all [] (suc k) l = refl
take_all (x ∷ xs) zero l = absurd (omega (arith, l))
take_all (x ∷ xs) (suc k) l = ap (λ t. x ∷ t) (take_all xs k (omega (arith, l)))

pub sites_all : (g : Ground) (x : Route) (ss : List Site) (at : List ℕ) (k : ℕ) (a b : List ℕ) → length ss ≤ k
    → Raises (λ m. sites_worth_upto g m x ss at k) a b → Raises (λ m. sites_worth g m x ss at) a b
sites_all g x ss at k a b l p = raises_same (λ m. sites_worth_upto g m x ss at k) (λ m. sites_worth g m x ss at) a b
    (λ m. ap (λ t. sites_worth_from g m x (length ss) 0 t at) (take_all ss k l)) p

pub site_falls : (ss : List Site) (k : ℕ) (s e : Site) → k < length ss → s ≡ get_or ss k e → 4 * depth s.body + 3
    < 4 * sites_depth ss
site_falls ss k s e l is = let d = below ss k e l in let z = ap (λ (s : Site). depth s.body) is in omega (arith, d, z)
  where
    below : (ss : List Site) (k : ℕ) (e : Site) → k < length ss → suc (depth (get_or ss k e).body) ≤ sites_depth ss
    below [] k e l = absurd (omega (arith, l))
    below (s ∷ ss) zero e l = omega arith
    below (s ∷ ss) (suc k) e l = let d = below ss k e (omega (arith, l)) in omega (arith, d)

-- the row that is found in a table
pub row_is : (x : Route) (d fan here j : ℕ) (ts given : List Table) (i : ℕ) (row : List Bool) → given ≡ ts → fan ≡ here
    → (t : Table) × (slice_get ts i ≡ Some t) × (t.marks.items ≡ marks fan d x)
    → ((t : Table) → slice_get given i ≡ Some t → row ≡ get_or t.marks.items j []) → row ≡ get_or (marks here d x) j []
row_is x d fan here j ts given i row g f r h = h r.0 (ap (λ l. slice_get l i) g ∙ r.1)
    ∙ ap (λ l. get_or l j []) (r.2 ∙ ap (λ k. marks k d x) f)

pub drop_here : (xs : List ℕ) (i : ℕ) → i < length xs → drop i xs ≡ get_or xs i 0 ∷ drop (i + 1) xs
drop_here [] i l = absurd (omega (arith, l))
drop_here (x ∷ xs) zero l = refl
drop_here (x ∷ xs) (suc i) l = let z : i + 1 ≡ suc i = omega arith in drop_here xs i (omega (arith, l))
    ∙ ap (λ k. get_or xs i 0 ∷ drop k xs) z ∙ ap (λ k. get_or xs i 0 ∷ drop k (x ∷ xs)) (back i)
  where
    back : (i : ℕ) → suc (suc i) ≡ suc i + 1
    back i = omega arith
