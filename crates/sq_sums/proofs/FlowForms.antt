-- The equations of a flow's sum, one for each kind of flow.
use Rattle.std.proofs.Common.{◌≡◌, ℕ, List, map, ap, sym, ◌∙◌}
use Rattle.sq_ir.specs.declared.num.Num.{Num}
use Rattle.sq_sums.specs.declared.flow.Flow.{Flow}
use Rattle.sq_sums.specs.declared.flow.Flow.TheVariants as f
use Rattle.sq_sums.specs.declared.flow.Flow.TheOpen.{Flow-F}
use Rattle.sq_sums.specs.declared.flow.Flow.TheFolds.{fold-roll-Flow}
use Rattle.sq_sums.specs.Flows.{flow_step, flow_sum, flow_loops_step, flow_loops}

pub flow_bytes : (b : ℕ) → flow_sum (f.Bytes b) ≡ flow_step (Flow-F.Bytes b)
flow_bytes b = ap flow_sum (sym (f.rolls-Bytes b)) ∙ fold-roll-Flow (List ℕ → ℕ) flow_step (Flow-F.Bytes b)

pub flow_parts : (xs : List Flow) → flow_sum (f.Parts xs) ≡ flow_step (Flow-F.Parts (map flow_sum xs))
flow_parts xs = ap flow_sum (sym (f.rolls-Parts xs)) ∙ fold-roll-Flow (List ℕ → ℕ) flow_step (Flow-F.Parts xs)

pub flow_each : (c : Num) (n : ℕ) (x : Flow) → flow_sum (f.Each c n x) ≡ flow_step (Flow-F.Each c n (flow_sum x))
flow_each c n x = ap flow_sum (sym (f.rolls-Each c n x)) ∙ fold-roll-Flow (List ℕ → ℕ) flow_step (Flow-F.Each c n x)

pub flow_arm : (k : Num) (n : ℕ) (xs : List Flow)
    → flow_sum (f.Arm k n xs) ≡ flow_step (Flow-F.Arm k n (map flow_sum xs))
flow_arm k n xs = ap flow_sum (sym (f.rolls-Arm k n xs)) ∙ fold-roll-Flow (List ℕ → ℕ) flow_step (Flow-F.Arm k n xs)

pub ruleset flow_forms = (flow_bytes, flow_parts, flow_each, flow_arm)

pub loops_bytes : (b : ℕ) → flow_loops (f.Bytes b) ≡ flow_loops_step (Flow-F.Bytes b)
loops_bytes b = ap flow_loops (sym (f.rolls-Bytes b)) ∙ fold-roll-Flow ℕ flow_loops_step (Flow-F.Bytes b)

pub loops_parts : (xs : List Flow) → flow_loops (f.Parts xs) ≡ flow_loops_step (Flow-F.Parts (map flow_loops xs))
loops_parts xs = ap flow_loops (sym (f.rolls-Parts xs)) ∙ fold-roll-Flow ℕ flow_loops_step (Flow-F.Parts xs)

pub loops_each : (c : Num) (n : ℕ) (x : Flow)
    → flow_loops (f.Each c n x) ≡ flow_loops_step (Flow-F.Each c n (flow_loops x))
loops_each c n x = ap flow_loops (sym (f.rolls-Each c n x)) ∙ fold-roll-Flow ℕ flow_loops_step (Flow-F.Each c n x)

pub loops_arm : (k : Num) (n : ℕ) (xs : List Flow) → flow_loops (f.Arm k n xs)
    ≡ flow_loops_step (Flow-F.Arm k n (map flow_loops xs))
loops_arm k n xs = ap flow_loops (sym (f.rolls-Arm k n xs)) ∙ fold-roll-Flow ℕ flow_loops_step (Flow-F.Arm k n xs)

pub ruleset loops_forms = (loops_bytes, loops_parts, loops_each, loops_arm)
