-- The equations of a term's sum, one for each variant.
use Rattle.std.proofs.Common.{◌≡◌, ℕ, List, map, Option, ap, sym, ◌∙◌}
use Rattle.sq_text.specs.declared.spread.SpreadRule.{SpreadRule}
use Rattle.sq_ir.specs.declared.num.Num.{Num}
use Rattle.sq_ir.specs.declared.term.Action.{Action}
use Rattle.sq_ir.specs.declared.term.Term.{Term}
use Rattle.sq_ir.specs.declared.term.Term.TheVariants as t
use Rattle.sq_ir.specs.declared.term.Term.TheOpen.{Term-F}
use Rattle.sq_ir.specs.declared.term.Term.TheFolds.{fold-roll-Term}
use Rattle.sq_ir.specs.declared.plan.PlanNode.{PlanNode}
use Rattle.sq_sums.specs.Tolls.{SumAt, sum_step, sum_of}

pub sum_skip : (ns : List PlanNode) (w : Action → ℕ) → sum_of ns w t.Skip ≡ sum_step ns w Term-F.Skip
sum_skip ns w = ap (sum_of ns w) (sym t.rolls-Skip) ∙ fold-roll-Term SumAt (sum_step ns w) Term-F.Skip

pub sum_act : (ns : List PlanNode) (w : Action → ℕ) (a : Action) → sum_of ns w (t.Act a) ≡ sum_step ns w (Term-F.Act a)
sum_act ns w a = ap (sum_of ns w) (sym (t.rolls-Act a)) ∙ fold-roll-Term SumAt (sum_step ns w) (Term-F.Act a)

pub sum_seq : (ns : List PlanNode) (w : Action → ℕ) (ts : List Term)
    → sum_of ns w (t.Seq ts) ≡ sum_step ns w (Term-F.Seq (map (sum_of ns w) ts))
sum_seq ns w ts = ap (sum_of ns w) (sym (t.rolls-Seq ts)) ∙ fold-roll-Term SumAt (sum_step ns w) (Term-F.Seq ts)

pub sum_par : (ns : List PlanNode) (w : Action → ℕ) (ts : List Term)
    → sum_of ns w (t.Par ts) ≡ sum_step ns w (Term-F.Par (map (sum_of ns w) ts))
sum_par ns w ts = ap (sum_of ns w) (sym (t.rolls-Par ts)) ∙ fold-roll-Term SumAt (sum_step ns w) (Term-F.Par ts)

pub sum_loop : (ns : List PlanNode) (w : Action → ℕ) (c : Num) (b : Term)
    → sum_of ns w (t.Loop c b) ≡ sum_step ns w (Term-F.Loop c (sum_of ns w b))
sum_loop ns w c b = ap (sum_of ns w) (sym (t.rolls-Loop c b)) ∙ fold-roll-Term SumAt (sum_step ns w) (Term-F.Loop c b)

pub sum_spread : (ns : List PlanNode) (w : Action → ℕ) (c : Num) (r : SpreadRule) (b : Term)
    → sum_of ns w (t.Spread c r b) ≡ sum_step ns w (Term-F.Spread c r (sum_of ns w b))
sum_spread ns w c r b = ap (sum_of ns w) (sym (t.rolls-Spread c r b))
    ∙ fold-roll-Term SumAt (sum_step ns w) (Term-F.Spread c r b)

pub sum_case : (ns : List PlanNode) (w : Action → ℕ) (k : Num) (ts : List Term)
    → sum_of ns w (t.Case k ts) ≡ sum_step ns w (Term-F.Case k (map (sum_of ns w) ts))
sum_case ns w k ts = ap (sum_of ns w) (sym (t.rolls-Case k ts))
    ∙ fold-roll-Term SumAt (sum_step ns w) (Term-F.Case k ts)

pub sum_within : (ns : List PlanNode) (w : Action → ℕ) (c : Option Num) (bs : List ℕ) (b : Term)
    → sum_of ns w (t.Within c bs b) ≡ sum_step ns w (Term-F.Within c bs (sum_of ns w b))
sum_within ns w c bs b = ap (sum_of ns w) (sym (t.rolls-Within c bs b))
    ∙ fold-roll-Term SumAt (sum_step ns w) (Term-F.Within c bs b)

pub ruleset sum_forms = (sum_skip, sum_act, sum_seq, sum_par, sum_loop, sum_spread, sum_case, sum_within)
