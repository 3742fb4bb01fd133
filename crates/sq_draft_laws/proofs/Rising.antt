-- What is asked of a term's actions where nothing of numbers is asked: by the level and by the buffers in scope alone.
use Rattle.std.proofs.Common.{◌≡◌, ℕ, zero, suc, Bool, true, false, List, [], ◌∷◌, ◌++◌, Option, Some, None, ℤ, pos}
use Rattle.std.proofs.Common.{negsuc, sym, ap, subst, if◌then◌else◌}
use Rattle.sq_text.specs.declared.spread.SpreadRule.{SpreadRule}
use Rattle.sq_ir.specs.declared.num.Num.{Num}
use Rattle.sq_ir.specs.declared.term.Action.{Action}
use Rattle.sq_ir.specs.declared.term.Term.{Term}
use Rattle.sq_ir.specs.declared.term.Term.TheVariants as term
use Rattle.sq_ir.specs.Written.{Setting, Env, at_turn, value_of, inside_of}
use Rattle.sq_ir.specs.Plans.{AskedOfActions, AskedOfTerms, each_part, this_arm, Meets}
use Rattle.sq_ir.proofs.Meeting.{meets_skip, meets_act, meets_seq, meets_par, meets_loop, meets_spread, meets_case}
use Rattle.sq_ir.proofs.Meeting.{meets_within}

-- the level in a scope
abbrev pub level_in : Option Num → ℕ → ℕ
level_in None level = level
level_in (Some c) level = suc level

-- where the first is asked of a term, the second may be, at this level and with these buffers in scope
module _ (s : Setting) (first second : AskedOfActions) where
  abbrev pub Rises : (level : ℕ) → (buffers : List ℕ) → Term → Type 0
  Rises level bs x = (env : Env) → env.level ≡ level → Meets s first x env bs → Meets s second x env bs

  abbrev pub AllRise : (level : ℕ) → (buffers : List ℕ) → List Term → Type 0
  AllRise level bs [] = Unit {0}
  AllRise level bs (x ∷ xs) = Rises level bs x × AllRise level bs xs

  by_equations : (x : Term) (asks more : AskedOfTerms) → Meets s first x ≡ asks → Meets s second x ≡ more
      → (level : ℕ) (bs : List ℕ) → ((env : Env) → env.level ≡ level → asks env bs → more env bs) → Rises level bs x
  by_equations x asks more e f level bs h env is g = subst (λ (u : AskedOfTerms). u env bs) (sym f)
      (h env is (subst (λ (u : AskedOfTerms). u env bs) e g))

  module _ (level : ℕ) (bs : List ℕ) where
    pub rise_skip : Rises level bs term.Skip
    rise_skip = by_equations term.Skip _ _ (meets_skip s first) (meets_skip s second) level bs (λ env is h. tt)

    pub rise_act : (a : Action) → ((env : Env) → env.level ≡ level → first env bs a → second env bs a)
        → Rises level bs (term.Act a)
    rise_act a f = by_equations (term.Act a) _ _ (meets_act s first a) (meets_act s second a) level bs f

    parts : (xs : List Term) → AllRise level bs xs → (env : Env) → env.level ≡ level
        → each_part (Meets s first) xs env bs → each_part (Meets s second) xs env bs
    parts [] f env is h = tt
    parts (x ∷ xs) f env is h = (f.0 env is h.0, parts xs f.1 env is h.1)

    pub rise_seq : (xs : List Term) → AllRise level bs xs → Rises level bs (term.Seq xs)
    rise_seq xs f = by_equations (term.Seq xs) _ _ (meets_seq s first xs) (meets_seq s second xs) level bs (parts xs f)

    pub rise_par : (xs : List Term) → AllRise level bs xs → Rises level bs (term.Par xs)
    rise_par xs f = by_equations (term.Par xs) _ _ (meets_par s first xs) (meets_par s second xs) level bs (parts xs f)

    pub rise_loop : (n : Num) (x : Term) → Rises level bs x → Rises level bs (term.Loop n x)
    rise_loop n x f = by_equations (term.Loop n x) _ _ (meets_loop s first n x) (meets_loop s second n x) level bs
        (λ env is h. (h.0, λ t l. f (at_turn env t) is (h.1 t l)))

    pub rise_spread : (n : Num) (r : SpreadRule) (x : Term) → Rises level bs x → Rises level bs (term.Spread n r x)
    rise_spread n r x f = by_equations (term.Spread n r x) _ _ (meets_spread s first n r x)
        (meets_spread s second n r x) level bs (λ env is h. (h.0, h.1, λ t l. f (at_turn env t) is (h.2 t l)))

    arm : (xs : List Term) → AllRise level bs xs → (env : Env) → env.level ≡ level → (k : ℕ)
        → this_arm (Meets s first) xs (pos k) env bs → this_arm (Meets s second) xs (pos k) env bs
    arm [] f env is k h = tt
    arm (x ∷ xs) f env is zero h = f.0 env is h
    arm (x ∷ xs) f env is (suc k) h = arm xs f.1 env is k h

    arm_at : (xs : List Term) → AllRise level bs xs → (env : Env) → env.level ≡ level → (z : ℤ)
        → this_arm (Meets s first) xs z env bs → this_arm (Meets s second) xs z env bs
    arm_at xs f env is (pos k) h = arm xs f env is k h
    arm_at [] f env is (negsuc k) h = tt
    arm_at (x ∷ xs) f env is (negsuc k) h = tt

    pub rise_case : (n : Num) (xs : List Term) → AllRise level bs xs → Rises level bs (term.Case n xs)
    rise_case n xs f = by_equations (term.Case n xs) _ _ (meets_case s first n xs) (meets_case s second n xs) level bs
        (λ env is h. (h.0, arm_at xs f env is (value_of s n env) h.1))

    inner_level : (c : Option Num) (env : Env) → env.level ≡ level → (inside_of s env c).level ≡ level_in c level
    inner_level None env is = is
    inner_level (Some c) env is = ap suc is

    pub rise_within : (c : Option Num) (new : List ℕ) (x : Term) → Rises (level_in c level) (new ++ bs) x
        → Rises level bs (term.Within c new x)
    rise_within c new x f = by_equations (term.Within c new x) _ _ (meets_within s first c new x)
        (meets_within s second c new x) level bs
        (λ env is h. (h.0, h.1, f (inside_of s env c) (inner_level c env is) h.2))

    pub rise_if : (b : Bool) (x : Term) → Rises level bs x → Rises level bs (if b then x else term.Skip)
    rise_if true x f = f
    rise_if false x f = rise_skip
