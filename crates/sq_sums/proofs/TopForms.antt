-- The equations of a term's scopes, one for each variant.
use Rattle.std.proofs.Common.{◌≡◌, ℕ, Bool, List, map, Option, ap, sym, ◌∙◌}
use Rattle.sq_text.specs.declared.spread.SpreadRule.{SpreadRule}
use Rattle.sq_ir.specs.declared.num.Num.{Num}
use Rattle.sq_ir.specs.declared.term.Action.{Action}
use Rattle.sq_ir.specs.declared.term.Term.{Term}
use Rattle.sq_ir.specs.declared.term.Term.TheVariants as t
use Rattle.sq_ir.specs.declared.term.Term.TheOpen.{Term-F}
use Rattle.sq_ir.specs.declared.term.Term.TheFolds.{fold-roll-Term}
use Rattle.sq_ir.specs.declared.plan.PlanNode.{PlanNode}
use Rattle.sq_sums.specs.Tops.{TopsAt, tops_step, tops, has_scope_step, has_scope}

pub top_skip : (ns : List PlanNode) (w : List ℕ → ℕ) → tops ns w t.Skip ≡ tops_step ns w Term-F.Skip
top_skip ns w = ap (tops ns w) (sym t.rolls-Skip) ∙ fold-roll-Term TopsAt (tops_step ns w) Term-F.Skip

pub top_act : (ns : List PlanNode) (w : List ℕ → ℕ) (a : Action) → tops ns w (t.Act a) ≡ tops_step ns w (Term-F.Act a)
top_act ns w a = ap (tops ns w) (sym (t.rolls-Act a)) ∙ fold-roll-Term TopsAt (tops_step ns w) (Term-F.Act a)

pub top_seq : (ns : List PlanNode) (w : List ℕ → ℕ) (ts : List Term) → tops ns w (t.Seq ts)
    ≡ tops_step ns w (Term-F.Seq (map (tops ns w) ts))
top_seq ns w ts = ap (tops ns w) (sym (t.rolls-Seq ts)) ∙ fold-roll-Term TopsAt (tops_step ns w) (Term-F.Seq ts)

pub top_par : (ns : List PlanNode) (w : List ℕ → ℕ) (ts : List Term) → tops ns w (t.Par ts)
    ≡ tops_step ns w (Term-F.Par (map (tops ns w) ts))
top_par ns w ts = ap (tops ns w) (sym (t.rolls-Par ts)) ∙ fold-roll-Term TopsAt (tops_step ns w) (Term-F.Par ts)

pub top_loop : (ns : List PlanNode) (w : List ℕ → ℕ) (c : Num) (b : Term) → tops ns w (t.Loop c b)
    ≡ tops_step ns w (Term-F.Loop c (tops ns w b))
top_loop ns w c b = ap (tops ns w) (sym (t.rolls-Loop c b)) ∙ fold-roll-Term TopsAt (tops_step ns w) (Term-F.Loop c b)

pub top_spread : (ns : List PlanNode) (w : List ℕ → ℕ) (c : Num) (r : SpreadRule) (b : Term)
    → tops ns w (t.Spread c r b) ≡ tops_step ns w (Term-F.Spread c r (tops ns w b))
top_spread ns w c r b = ap (tops ns w) (sym (t.rolls-Spread c r b))
    ∙ fold-roll-Term TopsAt (tops_step ns w) (Term-F.Spread c r b)

pub top_case : (ns : List PlanNode) (w : List ℕ → ℕ) (k : Num) (ts : List Term) → tops ns w (t.Case k ts)
    ≡ tops_step ns w (Term-F.Case k (map (tops ns w) ts))
top_case ns w k ts = ap (tops ns w) (sym (t.rolls-Case k ts))
    ∙ fold-roll-Term TopsAt (tops_step ns w) (Term-F.Case k ts)

pub top_within : (ns : List PlanNode) (w : List ℕ → ℕ) (c : Option Num) (bs : List ℕ) (b : Term)
    → tops ns w (t.Within c bs b) ≡ tops_step ns w (Term-F.Within c bs (tops ns w b))
top_within ns w c bs b = ap (tops ns w) (sym (t.rolls-Within c bs b))
    ∙ fold-roll-Term TopsAt (tops_step ns w) (Term-F.Within c bs b)

pub ruleset top_forms = (top_skip, top_act, top_seq, top_par, top_loop, top_spread, top_case, top_within)

pub scope_skip : has_scope t.Skip ≡ has_scope_step Term-F.Skip
scope_skip = ap has_scope (sym t.rolls-Skip) ∙ fold-roll-Term Bool has_scope_step Term-F.Skip

pub scope_act : (a : Action) → has_scope (t.Act a) ≡ has_scope_step (Term-F.Act a)
scope_act a = ap has_scope (sym (t.rolls-Act a)) ∙ fold-roll-Term Bool has_scope_step (Term-F.Act a)

pub scope_seq : (ts : List Term) → has_scope (t.Seq ts) ≡ has_scope_step (Term-F.Seq (map has_scope ts))
scope_seq ts = ap has_scope (sym (t.rolls-Seq ts)) ∙ fold-roll-Term Bool has_scope_step (Term-F.Seq ts)

pub scope_par : (ts : List Term) → has_scope (t.Par ts) ≡ has_scope_step (Term-F.Par (map has_scope ts))
scope_par ts = ap has_scope (sym (t.rolls-Par ts)) ∙ fold-roll-Term Bool has_scope_step (Term-F.Par ts)

pub scope_loop : (c : Num) (b : Term) → has_scope (t.Loop c b) ≡ has_scope_step (Term-F.Loop c (has_scope b))
scope_loop c b = ap has_scope (sym (t.rolls-Loop c b)) ∙ fold-roll-Term Bool has_scope_step (Term-F.Loop c b)

pub scope_spread : (c : Num) (r : SpreadRule) (b : Term) → has_scope (t.Spread c r b)
    ≡ has_scope_step (Term-F.Spread c r (has_scope b))
scope_spread c r b = ap has_scope (sym (t.rolls-Spread c r b))
    ∙ fold-roll-Term Bool has_scope_step (Term-F.Spread c r b)

pub scope_case : (k : Num) (ts : List Term) → has_scope (t.Case k ts)
    ≡ has_scope_step (Term-F.Case k (map has_scope ts))
scope_case k ts = ap has_scope (sym (t.rolls-Case k ts)) ∙ fold-roll-Term Bool has_scope_step (Term-F.Case k ts)

pub scope_within : (c : Option Num) (bs : List ℕ) (b : Term) → has_scope (t.Within c bs b)
    ≡ has_scope_step (Term-F.Within c bs (has_scope b))
scope_within c bs b = ap has_scope (sym (t.rolls-Within c bs b))
    ∙ fold-roll-Term Bool has_scope_step (Term-F.Within c bs b)

pub ruleset scope_forms = (
  scope_skip,
  scope_act,
  scope_seq,
  scope_par,
  scope_loop,
  scope_spread,
  scope_case,
  scope_within,
)
