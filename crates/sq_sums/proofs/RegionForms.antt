-- The equations of what a term names outside itself, one for each variant.
use Rattle.std.proofs.Common.{◌≡◌, ℕ, List, map, Option, ap, sym, ◌∙◌}
use Rattle.sq_text.specs.declared.spread.SpreadRule.{SpreadRule}
use Rattle.sq_ir.specs.declared.num.Num.{Num}
use Rattle.sq_ir.specs.declared.term.Action.{Action}
use Rattle.sq_ir.specs.declared.term.Term.{Term}
use Rattle.sq_ir.specs.declared.term.Term.TheVariants as t
use Rattle.sq_ir.specs.declared.term.Term.TheOpen.{Term-F}
use Rattle.sq_ir.specs.declared.term.Term.TheFolds.{fold-roll-Term}
use Rattle.sq_sums.specs.declared.region.Region.{Region}
use Rattle.sq_sums.specs.Regions.{region_step, region_of}

pub region_skip : region_of t.Skip ≡ region_step Term-F.Skip
region_skip = ap region_of (sym t.rolls-Skip) ∙ fold-roll-Term Region region_step Term-F.Skip

pub region_act : (a : Action) → region_of (t.Act a) ≡ region_step (Term-F.Act a)
region_act a = ap region_of (sym (t.rolls-Act a)) ∙ fold-roll-Term Region region_step (Term-F.Act a)

pub region_seq : (ts : List Term) → region_of (t.Seq ts) ≡ region_step (Term-F.Seq (map region_of ts))
region_seq ts = ap region_of (sym (t.rolls-Seq ts)) ∙ fold-roll-Term Region region_step (Term-F.Seq ts)

pub region_par : (ts : List Term) → region_of (t.Par ts) ≡ region_step (Term-F.Par (map region_of ts))
region_par ts = ap region_of (sym (t.rolls-Par ts)) ∙ fold-roll-Term Region region_step (Term-F.Par ts)

pub region_loop : (c : Num) (b : Term) → region_of (t.Loop c b) ≡ region_step (Term-F.Loop c (region_of b))
region_loop c b = ap region_of (sym (t.rolls-Loop c b)) ∙ fold-roll-Term Region region_step (Term-F.Loop c b)

pub region_spread : (c : Num) (r : SpreadRule) (b : Term) → region_of (t.Spread c r b)
    ≡ region_step (Term-F.Spread c r (region_of b))
region_spread c r b = ap region_of (sym (t.rolls-Spread c r b))
    ∙ fold-roll-Term Region region_step (Term-F.Spread c r b)

pub region_case : (k : Num) (ts : List Term) → region_of (t.Case k ts) ≡ region_step (Term-F.Case k (map region_of ts))
region_case k ts = ap region_of (sym (t.rolls-Case k ts)) ∙ fold-roll-Term Region region_step (Term-F.Case k ts)

pub region_within : (c : Option Num) (bs : List ℕ) (b : Term) → region_of (t.Within c bs b)
    ≡ region_step (Term-F.Within c bs (region_of b))
region_within c bs b = ap region_of (sym (t.rolls-Within c bs b))
    ∙ fold-roll-Term Region region_step (Term-F.Within c bs b)

pub ruleset region_forms = (
  region_skip,
  region_act,
  region_seq,
  region_par,
  region_loop,
  region_spread,
  region_case,
  region_within,
)
