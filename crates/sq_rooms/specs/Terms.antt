-- What the scopes of a term name where it stands, and which terms have neither loops nor choices.
use Rattle.std.specs.Prelude.{ℕ, ◌+◌, Bool, true, false, ◌&&◌, Option, Some, None, List, [], ◌∷◌, ◌++◌, length, ℤ, pos, negsuc}
use Rattle.sq_ir.specs.declared.num.Num.{Num}
use Rattle.sq_ir.specs.declared.num.Num.TheOpen.{Num-F}
use Rattle.sq_ir.specs.declared.num.Num.TheFolds.{fold-Num}
use Rattle.sq_ir.specs.declared.term.Term.{Term}
use Rattle.sq_ir.specs.declared.term.Term.TheOpen.{Term-F}
use Rattle.sq_ir.specs.declared.term.Term.TheFolds.{fold-Term}
use Rattle.sq_ir.specs.declared.plan.PlanNode.{PlanNode}
use Rattle.sq_ir.specs.declared.plan.Plan.{Plan}
use Rattle.sq_ir.specs.Plans.{node_at}
use Rattle.sq_rooms.specs.declared.named.Named.{Named}
use Rattle.sq_rooms.specs.Names.{names_at}

-- ---- terms without loops

-- a number that is written out, and not negative
abbrev pub is_natural : ℤ → Bool
is_natural (pos n) = true
is_natural (negsuc n) = false

abbrev pub plain_step : Num-F Bool → Bool
plain_step (Num-F.Const k) = is_natural k
plain_step (Num-F.Index d) = false
plain_step (Num-F.Add a b) = false
plain_step (Num-F.Sub a b) = false
plain_step (Num-F.Mul a b) = false
plain_step (Num-F.Div a b) = false
plain_step (Num-F.Rem a b) = false
plain_step (Num-F.Min a b) = false
plain_step (Num-F.Pick ks a) = false
plain_step Num-F.Children = false

abbrev pub is_plain : Num → Bool
is_plain = fold-Num Bool plain_step

abbrev pub all : List Bool → Bool
all [] = true
all (b ∷ bs) = b && all bs

abbrev pub plain_child : Option Num → Bool
plain_child None = true
plain_child (Some c) = is_plain c

abbrev pub flat_step : Term-F Bool → Bool
flat_step Term-F.Skip = true
flat_step (Term-F.Act a) = true
flat_step (Term-F.Seq bs) = all bs
flat_step (Term-F.Par bs) = all bs
flat_step (Term-F.Loop n b) = false
flat_step (Term-F.Spread n rule b) = false
flat_step (Term-F.Case pick bs) = false
flat_step (Term-F.Within child buffers b) = plain_child child && b

-- neither loops nor choices, and children of scopes by their numbers: as the term of a plan file
abbrev pub is_flat : Term → Bool
is_flat = fold-Term Bool flat_step

-- ---- numbers and nodes

abbrev pub natural : ℤ → ℕ
natural (pos n) = n
natural (negsuc n) = 0

abbrev pub constant_step : Num-F ℕ → ℕ
constant_step (Num-F.Const k) = natural k
constant_step (Num-F.Index d) = 0
constant_step (Num-F.Add a b) = 0
constant_step (Num-F.Sub a b) = 0
constant_step (Num-F.Mul a b) = 0
constant_step (Num-F.Div a b) = 0
constant_step (Num-F.Rem a b) = 0
constant_step (Num-F.Min a b) = 0
constant_step (Num-F.Pick ks a) = 0
constant_step Num-F.Children = 0

abbrev pub constant : Num → ℕ
constant = fold-Num ℕ constant_step

-- the node of a scope's body, below the node in force
abbrev pub inside : List PlanNode → (node : ℕ) → Option Num → ℕ
inside nodes node None = node
inside nodes node (Some c) = (node_at nodes node).first_child + constant c

-- ---- names

-- what a part names at a node, its first number being given
abbrev pub Part : Type 0
Part = (node first : ℕ) → List Named

abbrev pub in_turn : List Part → Part
in_turn [] node n = []
in_turn (p ∷ ps) node n = p node n ++ in_turn ps node (n + length (p node n))

abbrev pub beside : List Part → Part
beside [] node n = []
beside (p ∷ ps) node n = p node (n + length (beside ps node n)) ++ beside ps node n

-- a scope behind what stands in it
abbrev pub scoped : (node : ℕ) → (buffers : List ℕ) → (n : ℕ) → (body : List Named) → List Named
scoped node buffers n body = body ++ names_at node n (n + length body + length buffers) buffers

abbrev pub part_step : List PlanNode → Term-F Part → Part
part_step nodes Term-F.Skip node n = []
part_step nodes (Term-F.Act a) node n = []
part_step nodes (Term-F.Seq ps) node n = in_turn ps node n
part_step nodes (Term-F.Par ps) node n = beside ps node n
part_step nodes (Term-F.Loop count p) node n = []
part_step nodes (Term-F.Spread count rule p) node n = []
part_step nodes (Term-F.Case pick ps) node n = []
part_step nodes (Term-F.Within child buffers p) node n = scoped (inside nodes node child) buffers n (p (inside nodes node child) n)

abbrev pub part : List PlanNode → Term → Part
part nodes = fold-Term Part (part_step nodes)

-- the entry's buffers are named round the whole term
abbrev pub plan_names : Plan → List Named
plan_names p = scoped 0 p.draft.entry 0 (part p.nodes p.draft.term 0 0)
