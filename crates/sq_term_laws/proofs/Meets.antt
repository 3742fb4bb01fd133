-- The equations of what is asked of a term, one for each variant.
use Rattle.std.proofs.Common.{◌≡◌, ℕ, zero, suc, List, [], ◌∷◌, map, Option, ℤ, pos, negsuc, refl, sym, ap, ◌∙◌}
use Rattle.sq_text.specs.declared.spread.SpreadRule.{SpreadRule}
use Rattle.sq_ir.specs.declared.num.Num.{Num}
use Rattle.sq_ir.specs.declared.term.Action.{Action}
use Rattle.sq_ir.specs.declared.term.Term.{Term, roll-Term}
use Rattle.sq_ir.specs.declared.term.Term.TheVariants as t
use Rattle.sq_ir.specs.declared.term.Term.TheOpen.{Term-F}
use Rattle.sq_ir.specs.declared.term.Term.TheFolds.{map-Term, rec-roll-Term}
use Rattle.sq_ir.specs.Written.{Setting, value_of}
use Rattle.sq_ir.specs.Plans.{HasValue, AskedOfActions, AskedOfTerms, each_part, this_arm, meets_step, Meets}
use mathlib.Core.Path.{fun_ext}

-- ---- the equations of what is asked, one for each variant

each_same : {X : Type 0} (v : X → Term) (k : Term → AskedOfTerms) (xs : List X) → each_part (λ p. k (v p)) xs
    ≡ each_part k (map v xs)
each_same v k [] = refl
each_same v k (x ∷ xs) = ap (λ (f : AskedOfTerms). λ env bs. k (v x) env bs × f env bs) (each_same v k xs)

arm_same : {X : Type 0} (v : X → Term) (k : Term → AskedOfTerms) (xs : List X) (n : ℕ)
    → this_arm (λ p. k (v p)) xs (pos n) ≡ this_arm k (map v xs) (pos n)
arm_same v k [] n = refl
arm_same v k (x ∷ xs) zero = refl
arm_same v k (x ∷ xs) (suc n) = arm_same v k xs n

arm_at_same : {X : Type 0} (v : X → Term) (k : Term → AskedOfTerms) (xs : List X) (z : ℤ) → this_arm (λ p. k (v p)) xs z
    ≡ this_arm k (map v xs) z
arm_at_same v k xs (pos n) = arm_same v k xs n
arm_at_same v k [] (negsuc n) = refl
arm_at_same v k (x ∷ xs) (negsuc n) = refl

module _ (s : Setting) (asked : AskedOfActions) where
  natural : (X : Type 0) (v : X → Term) (k : Term → AskedOfTerms) (x : Term-F X)
      → meets_step s asked X v (λ p. k (v p)) x ≡ meets_step s asked Term (λ y. y) k (map-Term X Term v x)
  natural X v k Term-F.Skip = refl
  natural X v k (Term-F.Act a) = refl
  natural X v k (Term-F.Seq xs) = each_same v k xs
  natural X v k (Term-F.Par xs) = each_same v k xs
  natural X v k (Term-F.Loop n b) = refl
  natural X v k (Term-F.Spread n r b) = refl
  natural X v k (Term-F.Case n xs)
      = fun_ext (λ env. fun_ext (λ bs. ap (λ (f : AskedOfTerms). HasValue s n env × f env bs)
      (arm_at_same v k xs (value_of s n env))))
  natural X v k (Term-F.Within c bs b) = refl

  abbrev step : Term-F Term → AskedOfTerms
  step = meets_step s asked Term (λ y. y) (Meets s asked)

  meets_roll : (d : Term-F Term) → Meets s asked (roll-Term d) ≡ step d
  meets_roll d = rec-roll-Term AskedOfTerms (meets_step s asked) natural d

  pub meets_skip : Meets s asked t.Skip ≡ step Term-F.Skip
  meets_skip = ap (Meets s asked) (sym t.rolls-Skip) ∙ meets_roll Term-F.Skip

  pub meets_act : (a : Action) → Meets s asked (t.Act a) ≡ step (Term-F.Act a)
  meets_act a = ap (Meets s asked) (sym (t.rolls-Act a)) ∙ meets_roll (Term-F.Act a)

  pub meets_seq : (ts : List Term) → Meets s asked (t.Seq ts) ≡ step (Term-F.Seq ts)
  meets_seq ts = ap (Meets s asked) (sym (t.rolls-Seq ts)) ∙ meets_roll (Term-F.Seq ts)

  pub meets_par : (ts : List Term) → Meets s asked (t.Par ts) ≡ step (Term-F.Par ts)
  meets_par ts = ap (Meets s asked) (sym (t.rolls-Par ts)) ∙ meets_roll (Term-F.Par ts)

  pub meets_loop : (n : Num) (b : Term) → Meets s asked (t.Loop n b) ≡ step (Term-F.Loop n b)
  meets_loop n b = ap (Meets s asked) (sym (t.rolls-Loop n b)) ∙ meets_roll (Term-F.Loop n b)

  pub meets_spread : (n : Num) (r : SpreadRule) (b : Term) → Meets s asked (t.Spread n r b) ≡ step (Term-F.Spread n r b)
  meets_spread n r b = ap (Meets s asked) (sym (t.rolls-Spread n r b)) ∙ meets_roll (Term-F.Spread n r b)

  pub meets_case : (n : Num) (ts : List Term) → Meets s asked (t.Case n ts) ≡ step (Term-F.Case n ts)
  meets_case n ts = ap (Meets s asked) (sym (t.rolls-Case n ts)) ∙ meets_roll (Term-F.Case n ts)

  pub meets_within : (c : Option Num) (bs : List ℕ) (b : Term) → Meets s asked (t.Within c bs b)
      ≡ step (Term-F.Within c bs b)
  meets_within c bs b = ap (Meets s asked) (sym (t.rolls-Within c bs b)) ∙ meets_roll (Term-F.Within c bs b)
