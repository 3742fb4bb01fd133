-- The equations of a term's flow, one for each variant.
use Rattle.std.proofs.Common.{◌≡◌, ℕ, Bool, List, map, Option, ap, sym, ◌∙◌}
use Rattle.sq_text.specs.declared.spread.SpreadRule.{SpreadRule}
use Rattle.sq_ir.specs.declared.num.Num.{Num}
use Rattle.sq_ir.specs.declared.term.Action.{Action}
use Rattle.sq_ir.specs.declared.term.Term.{Term}
use Rattle.sq_ir.specs.declared.term.Term.TheVariants as t
use Rattle.sq_ir.specs.declared.term.Term.TheOpen.{Term-F}
use Rattle.sq_ir.specs.declared.term.Term.TheFolds.{fold-roll-Term}
use Rattle.sq_sums.specs.Flows.{FlowAt, flow_of_step, flow_of, asks_step, asks}

pub flow_of_skip : (w : Action → ℕ) → flow_of w t.Skip ≡ flow_of_step w Term-F.Skip
flow_of_skip w = ap (flow_of w) (sym t.rolls-Skip) ∙ fold-roll-Term FlowAt (flow_of_step w) Term-F.Skip

pub flow_of_act : (w : Action → ℕ) (a : Action) → flow_of w (t.Act a) ≡ flow_of_step w (Term-F.Act a)
flow_of_act w a = ap (flow_of w) (sym (t.rolls-Act a)) ∙ fold-roll-Term FlowAt (flow_of_step w) (Term-F.Act a)

pub flow_of_seq : (w : Action → ℕ) (ts : List Term)
    → flow_of w (t.Seq ts) ≡ flow_of_step w (Term-F.Seq (map (flow_of w) ts))
flow_of_seq w ts = ap (flow_of w) (sym (t.rolls-Seq ts)) ∙ fold-roll-Term FlowAt (flow_of_step w) (Term-F.Seq ts)

pub flow_of_par : (w : Action → ℕ) (ts : List Term)
    → flow_of w (t.Par ts) ≡ flow_of_step w (Term-F.Par (map (flow_of w) ts))
flow_of_par w ts = ap (flow_of w) (sym (t.rolls-Par ts)) ∙ fold-roll-Term FlowAt (flow_of_step w) (Term-F.Par ts)

pub flow_of_loop : (w : Action → ℕ) (c : Num) (b : Term)
    → flow_of w (t.Loop c b) ≡ flow_of_step w (Term-F.Loop c (flow_of w b))
flow_of_loop w c b = ap (flow_of w) (sym (t.rolls-Loop c b)) ∙ fold-roll-Term FlowAt (flow_of_step w) (Term-F.Loop c b)

pub flow_of_spread : (w : Action → ℕ) (c : Num) (r : SpreadRule) (b : Term)
    → flow_of w (t.Spread c r b) ≡ flow_of_step w (Term-F.Spread c r (flow_of w b))
flow_of_spread w c r b = ap (flow_of w) (sym (t.rolls-Spread c r b))
    ∙ fold-roll-Term FlowAt (flow_of_step w) (Term-F.Spread c r b)

pub flow_of_case : (w : Action → ℕ) (k : Num) (ts : List Term)
    → flow_of w (t.Case k ts) ≡ flow_of_step w (Term-F.Case k (map (flow_of w) ts))
flow_of_case w k ts = ap (flow_of w) (sym (t.rolls-Case k ts)) ∙ fold-roll-Term FlowAt (flow_of_step w) (Term-F.Case k ts)

pub flow_of_within : (w : Action → ℕ) (c : Option Num) (bs : List ℕ) (b : Term)
    → flow_of w (t.Within c bs b) ≡ flow_of_step w (Term-F.Within c bs (flow_of w b))
flow_of_within w c bs b = ap (flow_of w) (sym (t.rolls-Within c bs b))
    ∙ fold-roll-Term FlowAt (flow_of_step w) (Term-F.Within c bs b)

pub ruleset flow_of_forms =
    (flow_of_skip, flow_of_act, flow_of_seq, flow_of_par, flow_of_loop, flow_of_spread, flow_of_case, flow_of_within)

pub asks_skip : asks t.Skip ≡ asks_step Term-F.Skip
asks_skip = ap asks (sym t.rolls-Skip) ∙ fold-roll-Term Bool asks_step Term-F.Skip

pub asks_act : (a : Action) → asks (t.Act a) ≡ asks_step (Term-F.Act a)
asks_act a = ap asks (sym (t.rolls-Act a)) ∙ fold-roll-Term Bool asks_step (Term-F.Act a)

pub asks_seq : (ts : List Term) → asks (t.Seq ts) ≡ asks_step (Term-F.Seq (map asks ts))
asks_seq ts = ap asks (sym (t.rolls-Seq ts)) ∙ fold-roll-Term Bool asks_step (Term-F.Seq ts)

pub asks_par : (ts : List Term) → asks (t.Par ts) ≡ asks_step (Term-F.Par (map asks ts))
asks_par ts = ap asks (sym (t.rolls-Par ts)) ∙ fold-roll-Term Bool asks_step (Term-F.Par ts)

pub asks_loop : (c : Num) (b : Term) → asks (t.Loop c b) ≡ asks_step (Term-F.Loop c (asks b))
asks_loop c b = ap asks (sym (t.rolls-Loop c b)) ∙ fold-roll-Term Bool asks_step (Term-F.Loop c b)

pub asks_spread : (c : Num) (r : SpreadRule) (b : Term) → asks (t.Spread c r b) ≡ asks_step (Term-F.Spread c r (asks b))
asks_spread c r b = ap asks (sym (t.rolls-Spread c r b)) ∙ fold-roll-Term Bool asks_step (Term-F.Spread c r b)

pub asks_case : (k : Num) (ts : List Term) → asks (t.Case k ts) ≡ asks_step (Term-F.Case k (map asks ts))
asks_case k ts = ap asks (sym (t.rolls-Case k ts)) ∙ fold-roll-Term Bool asks_step (Term-F.Case k ts)

pub asks_within : (c : Option Num) (bs : List ℕ) (b : Term)
    → asks (t.Within c bs b) ≡ asks_step (Term-F.Within c bs (asks b))
asks_within c bs b = ap asks (sym (t.rolls-Within c bs b)) ∙ fold-roll-Term Bool asks_step (Term-F.Within c bs b)

pub ruleset asks_forms = (asks_skip, asks_act, asks_seq, asks_par, asks_loop, asks_spread, asks_case, asks_within)
