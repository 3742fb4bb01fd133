-- The equations of the scopes of a term, one for each variant.
use Rattle.std.proofs.Common.{◌≡◌, ℕ, List, map, Option, ap, sym, ◌∙◌}
use Rattle.sq_text.specs.declared.spread.SpreadRule.{SpreadRule}
use Rattle.sq_ir.specs.declared.num.Num.{Num}
use Rattle.sq_ir.specs.declared.term.Action.{Action}
use Rattle.sq_ir.specs.declared.term.Term.{Term}
use Rattle.sq_ir.specs.declared.term.Term.TheVariants as t
use Rattle.sq_ir.specs.declared.term.Term.TheOpen.{Term-F}
use Rattle.sq_ir.specs.declared.term.Term.TheFolds.{fold-roll-Term}
use Rattle.sq_ir.specs.Written.{Setting}
use Rattle.sq_nests.specs.Nests.{Named, named_step, named_in, ScopesAt, scopes_step, scopes_of}

-- ---- the scopes that stand in a term

pub named_skip : named_in t.Skip ≡ named_step Term-F.Skip
named_skip = ap named_in (sym t.rolls-Skip) ∙ fold-roll-Term Named named_step Term-F.Skip

pub named_act : (a : Action) → named_in (t.Act a) ≡ named_step (Term-F.Act a)
named_act a = ap named_in (sym (t.rolls-Act a)) ∙ fold-roll-Term Named named_step (Term-F.Act a)

pub named_seq : (ts : List Term) → named_in (t.Seq ts) ≡ named_step (Term-F.Seq (map named_in ts))
named_seq ts = ap named_in (sym (t.rolls-Seq ts)) ∙ fold-roll-Term Named named_step (Term-F.Seq ts)

pub named_par : (ts : List Term) → named_in (t.Par ts) ≡ named_step (Term-F.Par (map named_in ts))
named_par ts = ap named_in (sym (t.rolls-Par ts)) ∙ fold-roll-Term Named named_step (Term-F.Par ts)

pub named_loop : (c : Num) (b : Term) → named_in (t.Loop c b) ≡ named_step (Term-F.Loop c (named_in b))
named_loop c b = ap named_in (sym (t.rolls-Loop c b)) ∙ fold-roll-Term Named named_step (Term-F.Loop c b)

pub named_spread : (c : Num) (r : SpreadRule) (b : Term) → named_in (t.Spread c r b)
    ≡ named_step (Term-F.Spread c r (named_in b))
named_spread c r b = ap named_in (sym (t.rolls-Spread c r b)) ∙ fold-roll-Term Named named_step (Term-F.Spread c r b)

pub named_case : (p : Num) (ts : List Term) → named_in (t.Case p ts) ≡ named_step (Term-F.Case p (map named_in ts))
named_case p ts = ap named_in (sym (t.rolls-Case p ts)) ∙ fold-roll-Term Named named_step (Term-F.Case p ts)

pub named_within : (c : Option Num) (bs : List ℕ) (b : Term) → named_in (t.Within c bs b)
    ≡ named_step (Term-F.Within c bs (named_in b))
named_within c bs b = ap named_in (sym (t.rolls-Within c bs b)) ∙ fold-roll-Term Named named_step (Term-F.Within c bs b)

-- ---- the scopes of a term written out

pub scopes_skip : (s : Setting) → scopes_of s t.Skip ≡ scopes_step s Term-F.Skip
scopes_skip s = ap (scopes_of s) (sym t.rolls-Skip) ∙ fold-roll-Term ScopesAt (scopes_step s) Term-F.Skip

pub scopes_act : (s : Setting) (a : Action) → scopes_of s (t.Act a) ≡ scopes_step s (Term-F.Act a)
scopes_act s a = ap (scopes_of s) (sym (t.rolls-Act a)) ∙ fold-roll-Term ScopesAt (scopes_step s) (Term-F.Act a)

pub scopes_seq : (s : Setting) (ts : List Term) → scopes_of s (t.Seq ts)
    ≡ scopes_step s (Term-F.Seq (map (scopes_of s) ts))
scopes_seq s ts = ap (scopes_of s) (sym (t.rolls-Seq ts)) ∙ fold-roll-Term ScopesAt (scopes_step s) (Term-F.Seq ts)

pub scopes_par : (s : Setting) (ts : List Term) → scopes_of s (t.Par ts)
    ≡ scopes_step s (Term-F.Par (map (scopes_of s) ts))
scopes_par s ts = ap (scopes_of s) (sym (t.rolls-Par ts)) ∙ fold-roll-Term ScopesAt (scopes_step s) (Term-F.Par ts)

pub scopes_loop : (s : Setting) (c : Num) (b : Term) → scopes_of s (t.Loop c b)
    ≡ scopes_step s (Term-F.Loop c (scopes_of s b))
scopes_loop s c b = ap (scopes_of s) (sym (t.rolls-Loop c b))
    ∙ fold-roll-Term ScopesAt (scopes_step s) (Term-F.Loop c b)

pub scopes_spread : (s : Setting) (c : Num) (r : SpreadRule) (b : Term) → scopes_of s (t.Spread c r b)
    ≡ scopes_step s (Term-F.Spread c r (scopes_of s b))
scopes_spread s c r b = ap (scopes_of s) (sym (t.rolls-Spread c r b))
    ∙ fold-roll-Term ScopesAt (scopes_step s) (Term-F.Spread c r b)

pub scopes_case : (s : Setting) (p : Num) (ts : List Term) → scopes_of s (t.Case p ts)
    ≡ scopes_step s (Term-F.Case p (map (scopes_of s) ts))
scopes_case s p ts = ap (scopes_of s) (sym (t.rolls-Case p ts))
    ∙ fold-roll-Term ScopesAt (scopes_step s) (Term-F.Case p ts)

pub scopes_within : (s : Setting) (c : Option Num) (bs : List ℕ) (b : Term) → scopes_of s (t.Within c bs b)
    ≡ scopes_step s (Term-F.Within c bs (scopes_of s b))
scopes_within s c bs b = ap (scopes_of s) (sym (t.rolls-Within c bs b))
    ∙ fold-roll-Term ScopesAt (scopes_step s) (Term-F.Within c bs b)
