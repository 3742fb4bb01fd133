-- Terms on a machine, by what buffers weigh.
use Rattle.std.specs.Prelude.{ℕ, List, map, Option}
use Rattle.sq_ir.specs.declared.term.Term.{Term}
use Rattle.sq_ir.specs.declared.num.Num.{Num}
use Rattle.sq_nests.specs.Weights.{weigh}
use Rattle.sq_sums.specs.declared.walk.Ground.{Ground}
use Rattle.sq_sums.specs.declared.scale.Scale.{Scale}
use Rattle.sq_sums.specs.Parts.{all_parts, each_turn, arm_of}
use Rattle.sq_sums.specs.Tops.{Stand, Tops, TopsAt, at_turn, scope_tops, tops}

abbrev pub weight_by : Scale → List ℕ → ℕ
weight_by s = weigh s.buffers.now s.once

abbrev pub weight_on : Ground → List ℕ → ℕ
weight_on g = weight_by g.scale

abbrev pub tops_on : Ground → Term → TopsAt
tops_on g t = tops g.nodes.now (weight_on g) t

abbrev pub all_on : Ground → List Term → TopsAt
all_on g ts = all_parts (map (tops_on g) ts)

-- so many iterations, from number t on
abbrev pub turns_on : Ground → Term → Stand → (count t : ℕ) → Tops
turns_on g body p n t = each_turn n (λ i. tops_on g body (at_turn p i)) t

abbrev pub arm_on : Ground → List Term → ℕ → TopsAt
arm_on g ts i = arm_of (map (tops_on g) ts) i

abbrev pub scope_on : Ground → Option Num → List ℕ → Term → TopsAt
scope_on g child bs body = scope_tops g.nodes.now (weight_on g) child bs (tops_on g body)
