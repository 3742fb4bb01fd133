-- What a scope at some nodes adds to their sums.
use Rattle.std.specs.Prelude.{◌≡◌, ℕ, zero, suc, ◌+◌, ◌<◌, ◌==◌, max, Bool, false, List, [], ◌∷◌, ◌++◌, length, get_or}
use Rattle.std.specs.Prelude.{take, if◌then◌else◌}
use Rattle.sq_ir.specs.Plans.{node_at}
use Rattle.sq_ir.specs.declared.term.Term.{Term}
use Rattle.sq_ir.specs.declared.term.Term.TheOpen.{Term-F}
use Rattle.sq_ir.specs.declared.term.Term.TheFolds.{fold-Term}
use Rattle.sq_ir.specs.declared.plan.Draft.{Draft}
use Rattle.sq_ir.specs.declared.plan.PlanNode.{PlanNode}
use Rattle.sq_sums.specs.declared.walk.Ground.{Ground}
use Rattle.sq_sums.specs.declared.route.Route.{Route}
use Rattle.sq_sums.specs.declared.sums.Table.{Table}
use Rattle.sq_nests.specs.Drafts.{whole}
use Rattle.sq_nests.specs.Weights.{weigh}
use Rattle.sq_sums.specs.Tops.{Tops, highest, raise_to, raise_by, child_at, tops}
use Rattle.sq_sums.specs.Grounds.{tops_on}
use Rattle.sq_sums.specs.Sites.{Site}
use Rattle.sq_sums.specs.Routes.{marks}

-- ---- what is reached from some nodes

-- the node to which a way leads: 0 is the node itself, c + 1 its c-th child
abbrev pub node_by : List PlanNode → (node way : ℕ) → ℕ
node_by nodes n zero = n
node_by nodes n (suc c) = child_at nodes n c

abbrev pub fan_at : List PlanNode → ℕ → ℕ
fan_at nodes n = (node_at nodes n).children

-- the nodes to which the marks of a row lead, of so many ways from this one on
abbrev pub way_nodes : List PlanNode → List Bool → (node count way : ℕ) → List ℕ
way_nodes nodes row n zero w = []
way_nodes nodes row n (suc k) w = if get_or row w false then node_by nodes n w
    ∷ way_nodes nodes row n k (w + 1) else way_nodes nodes row n k (w + 1)

abbrev pub row_nodes : List PlanNode → List Bool → (node : ℕ) → List ℕ
row_nodes nodes row n = way_nodes nodes row n (suc (fan_at nodes n)) 0

-- the nodes at which the j-th of so many scopes stands, where the part stands at these
abbrev pub site_nodes : List PlanNode → Route → (sites j : ℕ) → List ℕ → List ℕ
site_nodes nodes x d j [] = []
site_nodes nodes x d j (n ∷ ns) = row_nodes nodes (get_or (marks (fan_at nodes n) d x) j []) n
    ++ site_nodes nodes x d j ns

-- each table has the marks of its number of children
abbrev pub AreTables : Route → (sites : ℕ) → List Table → Type 0
AreTables x d [] = Unit {0}
AreTables x d (t ∷ ts) = (t.marks.items ≡ marks t.fan d x) × AreTables x d ts

-- the place of the first table of a number of children; how many there are stands for none
abbrev pub table_at : List Table → ℕ → ℕ
table_at [] fan = 0
table_at (t ∷ ts) fan = if t.fan == fan then 0 else suc (table_at ts fan)

-- ---- what a scope adds

-- the scopes of a draft, from the root
abbrev pub whole_tops : Draft → List PlanNode → (once : Bool) → Tops
whole_tops d nodes once = tops nodes (weigh d.buffers once) (whole d) (record { turns = []; node = 0; held = 0 })

-- all of these nodes get at least so much
abbrev pub raise_all : List ℕ → (held : ℕ) → List ℕ → List ℕ
raise_all [] held sums = sums
raise_all (n ∷ ns) held sums = raise_all ns held (raise_to (record { node = n; held = held }) sums)

-- in a part at a node in which so much is open, with no iteration round it
abbrev pub body_worth : Ground → (m : ℕ) → Term → (top node : ℕ) → ℕ
body_worth g m body top n = highest m (tops_on g body (record { turns = []; node = n; held = top }))

abbrev pub own_worth : Ground → (m : ℕ) → Site → (node : ℕ) → ℕ
own_worth g m s n = if s.own then body_worth g m s.body s.top n else 0

abbrev pub site_worth : Ground → (m : ℕ) → Site → (node : ℕ) → ℕ
site_worth g m s n = max (if n == m then s.top else 0) (own_worth g m s n)

-- the greatest of these nodes
abbrev pub worth_all : (ℕ → ℕ) → List ℕ → ℕ
worth_all f [] = 0
worth_all f (n ∷ ns) = max (f n) (worth_all f ns)

-- the scopes of a part from the j-th on, where it has so many and stands at these nodes
abbrev pub sites_worth_from : Ground → (m : ℕ) → Route → (sites j : ℕ) → List Site → List ℕ → ℕ
sites_worth_from g m x d j [] at = 0
sites_worth_from g m x d j (s ∷ ss) at
    = max (worth_all (site_worth g m s) (site_nodes g.nodes.now x d j at)) (sites_worth_from g m x d (suc j) ss at)

abbrev pub sites_worth : Ground → (m : ℕ) → Route → List Site → List ℕ → ℕ
sites_worth g m x ss at = sites_worth_from g m x (length ss) 0 ss at

-- of the first k of them
abbrev pub sites_worth_upto : Ground → (m : ℕ) → Route → List Site → List ℕ → (k : ℕ) → ℕ
sites_worth_upto g m x ss at k = sites_worth_from g m x (length ss) 0 (take k ss) at

-- by a walk over each iteration
abbrev pub walk_at : Ground → Term → (top : ℕ) → List ℕ → List ℕ → List ℕ
walk_at g body top [] sums = sums
walk_at g body top (n ∷ ns) sums
    = walk_at g body top ns (raise_by (tops_on g body (record { turns = []; node = n; held = top })) sums)

-- the number of each node becomes what it is worth, if that is greater
pub record Raises (worth : (m : ℕ) → ℕ) (old new : List ℕ) : Type 0 where
  pub length_ : length new ≡ length old
  pub each : (m : ℕ) → m < length old → get_or new m 0 ≡ max (get_or old m 0) (worth m)

-- what the whole of a draft is worth at each node
pub record AreWorth (d : Draft) (nodes : List PlanNode) (once : Bool) (sums : List ℕ) : Type 0 where
  pub length_ : length sums ≡ length nodes
  pub each : (m : ℕ) → m < length nodes → get_or sums m 0 ≡ highest m (whole_tops d nodes once)

-- ---- how deep a term is

abbrev pub deepest : List ℕ → ℕ
deepest [] = 0
deepest (n ∷ ns) = max n (deepest ns)

abbrev pub depth_step : Term-F ℕ → ℕ
depth_step Term-F.Skip = 0
depth_step (Term-F.Act a) = 0
depth_step (Term-F.Seq ns) = deepest ns
depth_step (Term-F.Par ns) = deepest ns
depth_step (Term-F.Loop c n) = n
depth_step (Term-F.Spread c rule n) = n
depth_step (Term-F.Case k ns) = deepest ns
depth_step (Term-F.Within c bs n) = suc n

-- how many scopes stand within one another
abbrev pub depth : Term → ℕ
depth = fold-Term ℕ depth_step

-- how deep their bodies are, and one for each of these scopes
abbrev pub sites_depth : List Site → ℕ
sites_depth [] = 0
sites_depth (s ∷ ss) = max (suc (depth s.body)) (sites_depth ss)
