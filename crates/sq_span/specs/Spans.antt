-- What a span says of a plan.
use Rattle.std.specs.Prelude.{◌≡◌, ◌<◌, ℕ, List, [], map, None}
use Rattle.sq_text.specs.declared.code.Phase.TheVariants.{Cost as CostPhase}
use Rattle.sq_text.specs.declared.code.Code.TheVariants.{LimitEvents}
use Rattle.sq_text.specs.declared.fault.Fault.{Fault}
use Rattle.sq_ir.specs.Events as events
use Rattle.sq_ir.specs.Plans.{tree_of}
use Rattle.sq_ir.specs.declared.plan.Plan.{Plan}
use Rattle.sq_sched.specs.Seen.{seen}
use Rattle.sq_costs.specs.declared.cost.Cost.{Cost}
use Rattle.sq_span.specs.Chains.{chain, total, size, most_events}
use Rattle.sq_span.specs.Weights.{event_weight}
use Rattle.sq_span.specs.declared.spans.Link.{Link}
use Rattle.sq_span.specs.declared.spans.Span.{Span}

-- an event and what it weighs
pub record Weighed : Type 0 where
  pub weight : ℕ
  pub event : events.Event

abbrev pub seen_link : Link → Weighed
seen_link l = record { weight = l.weight; event = seen l.event }

abbrev pub weighed : (weight : events.Event → ℕ) → events.Event → Weighed
weighed weight e = record { weight = weight e; event = e }

abbrev pub links_of : (weight : events.Event → ℕ) → List events.Event → List Weighed
links_of weight es = map (weighed weight) es

-- the events of a chain
abbrev pub events_of : List Link → List events.Event
events_of links = map (λ l. seen l.event) links

-- The number of the plan's events, the chain of its tree with what each event weighs, and what they weigh together.
pub record IsSpan (p : Plan) (costs : List Cost) (s : Span) : Type 0 where
  pub events : s.events ≡ size (tree_of p)
  pub chain : map seen_link s.chain ≡ links_of (event_weight p.nodes costs) (chain (event_weight p.nodes costs) (tree_of p))
  pub total : s.total ≡ total (event_weight p.nodes costs) (tree_of p)

abbrev pub events_fault : Fault
events_fault = record { phase = CostPhase; code = LimitEvents; place = None; args = [] }

-- The plan has more events than it may have.
pub record EventsFault (p : Plan) (f : Fault) : Type 0 where
  pub many : most_events < size (tree_of p)
  pub is : f ≡ events_fault
