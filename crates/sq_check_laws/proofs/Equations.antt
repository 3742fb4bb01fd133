-- The equations of the whole tree of a term, one for each variant.
use Rattle.std.proofs.Common.{◌≡◌, List, map, Option, ap, sym, ◌∙◌, ℕ}
use Rattle.sq_text.specs.declared.spread.SpreadRule.{SpreadRule}
use Rattle.sq_ir.specs.declared.num.Num.{Num}
use Rattle.sq_ir.specs.declared.term.Action.{Action}
use Rattle.sq_ir.specs.declared.term.Term.{Term}
use Rattle.sq_ir.specs.declared.term.Term.TheVariants as t
use Rattle.sq_ir.specs.declared.term.Term.TheOpen.{Term-F}
use Rattle.sq_ir.specs.declared.term.Term.TheFolds.{fold-roll-Term}
use Rattle.sq_ir.specs.Written.{Setting, Part}
use Rattle.sq_check_laws.specs.Whole.{whole, whole_step}

pub whole_skip : (s : Setting) → whole s t.Skip ≡ whole_step s Term-F.Skip
whole_skip s = ap (whole s) (sym t.rolls-Skip) ∙ fold-roll-Term Part (whole_step s) Term-F.Skip

pub whole_act : (s : Setting) (a : Action) → whole s (t.Act a) ≡ whole_step s (Term-F.Act a)
whole_act s a = ap (whole s) (sym (t.rolls-Act a)) ∙ fold-roll-Term Part (whole_step s) (Term-F.Act a)

pub whole_seq : (s : Setting) (ts : List Term) → whole s (t.Seq ts) ≡ whole_step s (Term-F.Seq (map (whole s) ts))
whole_seq s ts = ap (whole s) (sym (t.rolls-Seq ts)) ∙ fold-roll-Term Part (whole_step s) (Term-F.Seq ts)

pub whole_par : (s : Setting) (ts : List Term) → whole s (t.Par ts) ≡ whole_step s (Term-F.Par (map (whole s) ts))
whole_par s ts = ap (whole s) (sym (t.rolls-Par ts)) ∙ fold-roll-Term Part (whole_step s) (Term-F.Par ts)

pub whole_loop : (s : Setting) (c : Num) (b : Term) → whole s (t.Loop c b) ≡ whole_step s (Term-F.Loop c (whole s b))
whole_loop s c b = ap (whole s) (sym (t.rolls-Loop c b)) ∙ fold-roll-Term Part (whole_step s) (Term-F.Loop c b)

pub whole_spread : (s : Setting) (c : Num) (r : SpreadRule) (b : Term) → whole s (t.Spread c r b) ≡ whole_step s (Term-F.Spread c r (whole s b))
whole_spread s c r b = ap (whole s) (sym (t.rolls-Spread c r b)) ∙ fold-roll-Term Part (whole_step s) (Term-F.Spread c r b)

pub whole_case : (s : Setting) (p : Num) (ts : List Term) → whole s (t.Case p ts) ≡ whole_step s (Term-F.Case p (map (whole s) ts))
whole_case s p ts = ap (whole s) (sym (t.rolls-Case p ts)) ∙ fold-roll-Term Part (whole_step s) (Term-F.Case p ts)

pub whole_within : (s : Setting) (c : Option Num) (bs : List ℕ) (b : Term) → whole s (t.Within c bs b) ≡ whole_step s (Term-F.Within c bs (whole s b))
whole_within s c bs b = ap (whole s) (sym (t.rolls-Within c bs b)) ∙ fold-roll-Term Part (whole_step s) (Term-F.Within c bs b)
