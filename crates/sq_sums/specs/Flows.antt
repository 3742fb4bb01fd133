-- Terms whose closed parts are summed already.
use Rattle.std.specs.Prelude.{ℕ, ◌-◌, ◌==◌, max, Bool, false, ◌||◌, List, [], ◌∷◌, map, get_or, if◌then◌else◌}
use Rattle.sq_ir.specs.declared.term.Action.{Action}
use Rattle.sq_ir.specs.declared.term.Term.{Term}
use Rattle.sq_ir.specs.declared.term.Term.TheOpen.{Term-F}
use Rattle.sq_ir.specs.declared.term.Term.TheFolds.{fold-Term}
use Rattle.sq_term_nums.specs.Words.{Env, value, count}
use Rattle.sq_nests.specs.Stacks.{capped}
use Rattle.sq_sums.specs.declared.flow.Flow.{Flow}
use Rattle.sq_sums.specs.declared.flow.Flow.TheVariants as f
use Rattle.sq_sums.specs.declared.flow.Flow.TheOpen.{Flow-F}
use Rattle.sq_sums.specs.declared.flow.Flow.TheFolds.{fold-Flow}
use Rattle.sq_sums.specs.Regions.{loops_in, names_children}
use Rattle.sq_sums.specs.Fans.{fans_inside}
use Rattle.sq_sums.specs.Tolls.{all_sum, each_sum, arm_sum}

-- ---- the sum under some iterations

-- of numbers at a node with so many children
abbrev pub env_turns : (children : ℕ) → List ℕ → Env
env_turns n ts = record { turns = ts; children = n }

abbrev pub flow_step : Flow-F (List ℕ → ℕ) → List ℕ → ℕ
flow_step (Flow-F.Bytes b) ts = b
flow_step (Flow-F.Parts fs) ts = capped (all_sum fs ts)
flow_step (Flow-F.Each c n g) ts = capped (each_sum (count c (env_turns n ts)) (λ t. g (t ∷ ts)) 0)
flow_step (Flow-F.Arm k n fs) ts = arm_sum fs (value k (env_turns n ts)) ts

abbrev pub flow_sum : Flow → List ℕ → ℕ
flow_sum = fold-Flow (List ℕ → ℕ) flow_step

-- how many of the loops round it, from the innermost on, a flow may name
abbrev pub most_loops : List ℕ → ℕ
most_loops [] = 0
most_loops (l ∷ ls) = max l (most_loops ls)

abbrev pub flow_loops_step : Flow-F ℕ → ℕ
flow_loops_step (Flow-F.Bytes b) = 0
flow_loops_step (Flow-F.Parts ls) = most_loops ls
flow_loops_step (Flow-F.Each c n l) = max (loops_in c) (l - 1)
flow_loops_step (Flow-F.Arm k n ls) = max (loops_in k) (most_loops ls)

abbrev pub flow_loops : Flow → ℕ
flow_loops = fold-Flow ℕ flow_loops_step

-- ---- what is made of a term

-- summed where it names no loop outside
abbrev pub settle : Flow → Flow
settle g = if flow_loops g == 0 then f.Bytes (flow_sum g []) else g

-- so many children are told of the node and of the levels below it
abbrev pub FlowAt : Type 0
FlowAt = (fans : List ℕ) → Flow

abbrev pub flows_at : List FlowAt → List ℕ → List Flow
flows_at [] fans = []
flows_at (g ∷ gs) fans = g fans ∷ flows_at gs fans

module _ (toll_of : Action → ℕ) where
  abbrev pub flow_of_step : Term-F FlowAt → FlowAt
  flow_of_step Term-F.Skip fans = f.Bytes 0
  flow_of_step (Term-F.Act a) fans = f.Bytes (capped (toll_of a))
  flow_of_step (Term-F.Seq gs) fans = settle (f.Parts (flows_at gs fans))
  flow_of_step (Term-F.Par gs) fans = settle (f.Parts (flows_at gs fans))
  flow_of_step (Term-F.Loop c g) fans = settle (f.Each c (get_or fans 0 0) (g fans))
  flow_of_step (Term-F.Spread c rule g) fans = settle (f.Each c (get_or fans 0 0) (g fans))
  flow_of_step (Term-F.Case k gs) fans = settle (f.Arm k (get_or fans 0 0) (flows_at gs fans))
  flow_of_step (Term-F.Within c bs g) fans = g (fans_inside c fans)

  abbrev pub flow_of : Term → FlowAt
  flow_of = fold-Term FlowAt flow_of_step

-- ---- terms of which a count or a pick asks for the number of children

abbrev pub any_asks : List Bool → Bool
any_asks [] = false
any_asks (v ∷ vs) = v || any_asks vs

abbrev pub asks_step : Term-F Bool → Bool
asks_step Term-F.Skip = false
asks_step (Term-F.Act a) = false
asks_step (Term-F.Seq vs) = any_asks vs
asks_step (Term-F.Par vs) = any_asks vs
asks_step (Term-F.Loop c v) = names_children c || v
asks_step (Term-F.Spread c rule v) = names_children c || v
asks_step (Term-F.Case k vs) = names_children k || any_asks vs
asks_step (Term-F.Within c bs v) = v

abbrev pub asks : Term → Bool
asks = fold-Term Bool asks_step

abbrev pub all_ask : List Term → Bool
all_ask ts = any_asks (map asks ts)
