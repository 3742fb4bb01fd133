-- Terms without scopes; turns and arms of the walk.
use Rattle.std.proofs.Common.{◌≡◌, ℕ, zero, suc, ◌+◌, ℤ, pos, negsuc, Bool, true, false, List, [], ◌∷◌, map, refl, ap}
use Rattle.std.proofs.Common.{sym, subst, ◌∙◌}
use Rattle.std.specs.Prelude.{◌||◌}
use Rattle.sq_ir.specs.declared.term.Term.{Term, roll-Term}
use Rattle.sq_ir.specs.declared.term.Term.TheVariants as t
use Rattle.sq_ir.specs.declared.term.Term.TheOpen.{Term-F}
use Rattle.sq_ir.specs.declared.term.Term.TheFolds.{ind-Term, map-Term}
use Rattle.sq_ir.specs.declared.plan.PlanNode.{PlanNode}
use Rattle.sq_term_nums.specs.Words.{count, value}
use Rattle.sq_nests.specs.Nests.{Nest, End, Both, Open}
use Rattle.sq_sums.specs.Parts.{all_parts, each_turn, arm_of, arm_at, through}
use Rattle.sq_sums.specs.Tops.{Stand, TopsAt, at_turn, env_at, tops, raise_to, raise_by, any_scope, has_scope}
use Rattle.sq_sums.proofs.TopForms.{top_skip, top_act, top_seq, top_par, top_loop, top_spread, top_case, top_within}
use Rattle.sq_sums.proofs.TopForms.{scope_skip, scope_act, scope_seq, scope_par, scope_loop, scope_spread, scope_case}
use Rattle.sq_sums.proofs.TopForms.{scope_within}

-- ---- terms without scopes

abbrev pub IsFlat : {S : Type 0} → Nest S → Type 0
IsFlat End = Unit {0}
IsFlat (Both a b) = IsFlat a × IsFlat b
IsFlat (Open s a) = ⊥

pub flat_raised : {S X : Type 0} (f : S → X → X) (x : Nest S) (p : X) → IsFlat x → through f x p ≡ p
flat_raised f End p h = refl
flat_raised f (Both a b) p h = ap (through f b) (flat_raised f a p h.0) ∙ flat_raised f b p h.1
flat_raised f (Open s a) p h = absurd h

pub flat_turns : {S : Type 0} (f : ℕ → Nest S) (k i : ℕ) → ((j : ℕ) → IsFlat (f j)) → IsFlat (each_turn k f i)
unfolding each_turn
flat_turns f zero i h = tt
flat_turns f (suc k) i h = (h i, flat_turns f k (i + 1) h)

neither : (u v : Bool) → (u || v) ≡ false → (u ≡ false) × (v ≡ false)
neither true v h = absurd (let z = h in cc)
neither false true h = absurd (let z = h in cc)
neither false false h = (refl, refl)

module _ (ns : List PlanNode) (w : List ℕ → ℕ) where
  abbrev Flat : Term → Type 0
  Flat x = has_scope x ≡ false → (p : Stand) → IsFlat (tops ns w x p)

  abbrev F : Type 0
  F = (x : Term) × Flat x

  abbrev terms : List F → List Term
  terms xs = map (λ p. p.0) xs

  all_flat : (xs : List F) → any_scope (map has_scope (terms xs)) ≡ false → (p : Stand)
      → IsFlat (all_parts (map (tops ns w) (terms xs)) p)
  all_flat [] h p = tt
  all_flat (x ∷ xs) h p = let n = neither (has_scope x.0) (any_scope (map has_scope (terms xs))) h in
      (x.1 n.0 p, all_flat xs n.1 p)

  arm_flat : (xs : List F) (k : ℕ) → any_scope (map has_scope (terms xs)) ≡ false → (p : Stand)
      → IsFlat (arm_of (map (tops ns w) (terms xs)) k p)
  arm_flat [] k h p = tt
  arm_flat (x ∷ xs) zero h p = x.1 (neither (has_scope x.0) (any_scope (map has_scope (terms xs))) h).0 p
  arm_flat (x ∷ xs) (suc k) h p = arm_flat xs k (neither (has_scope x.0) (any_scope (map has_scope (terms xs))) h).1 p

  at_flat : (xs : List F) (z : ℤ) → any_scope (map has_scope (terms xs)) ≡ false → (p : Stand)
      → IsFlat (arm_at (map (tops ns w) (terms xs)) z p)
  at_flat xs (pos k) h p = arm_flat xs k h p
  at_flat xs (negsuc k) h p = tt

  along : (x : Term) (v : Bool) (f : TopsAt) → has_scope x ≡ v → tops ns w x ≡ f
      → (v ≡ false → (p : Stand) → IsFlat (f p)) → Flat x
  along x v f e g h k p = subst (λ (z : TopsAt). IsFlat (z p)) (sym g) (h (sym e ∙ k) p)

  flat_step : (y : Term-F F) → Flat (roll-Term (map-Term F Term (λ p. p.0) y))
  flat_step Term-F.Skip = subst Flat (sym t.rolls-Skip) (along _ _ _ scope_skip (top_skip ns w) (λ h p. tt))
  flat_step (Term-F.Act a) = subst Flat (sym (t.rolls-Act a)) (along _ _ _ (scope_act a) (top_act ns w a) (λ h p. tt))
  flat_step (Term-F.Seq xs) = subst Flat (sym (t.rolls-Seq (terms xs)))
      (along _ _ _ (scope_seq (terms xs)) (top_seq ns w (terms xs)) (all_flat xs))
  flat_step (Term-F.Par xs) = subst Flat (sym (t.rolls-Par (terms xs)))
      (along _ _ _ (scope_par (terms xs)) (top_par ns w (terms xs)) (all_flat xs))
  flat_step (Term-F.Loop k x) = subst Flat (sym (t.rolls-Loop k x.0))
      (along _ _ _ (scope_loop k x.0) (top_loop ns w k x.0)
      (λ h p. flat_turns (λ i. tops ns w x.0 (at_turn p i)) (count k (env_at ns p)) 0 (λ i. x.1 h (at_turn p i))))
  flat_step (Term-F.Spread k r x)
      = subst Flat (sym (t.rolls-Spread k r x.0))
      (along _ _ _ (scope_spread k r x.0) (top_spread ns w k r x.0)
      (λ h p. flat_turns (λ i. tops ns w x.0 (at_turn p i)) (count k (env_at ns p)) 0 (λ i. x.1 h (at_turn p i))))
  flat_step (Term-F.Case k xs) = subst Flat (sym (t.rolls-Case k (terms xs)))
      (along _ _ _ (scope_case k (terms xs)) (top_case ns w k (terms xs))
      (λ h p. at_flat xs (value k (env_at ns p)) h p))
  flat_step (Term-F.Within c bs x)
      = subst Flat (sym (t.rolls-Within c bs x.0))
      (along _ _ _ (scope_within c bs x.0) (top_within ns w c bs x.0) (λ h p. absurd (let z = h in cc)))

  pub are_flat : (x : Term) → Flat x
  are_flat = ind-Term Flat (λ x y is. subst (λ z. Flat (roll-Term z)) is (flat_step y))

-- turns of a term without scopes change nothing
pub flat_turns_raised : (ns : List PlanNode) (w : List ℕ → ℕ) (x : Term) (p : Stand) (n : ℕ) (s : List ℕ) → has_scope x
    ≡ false → raise_by (each_turn n (λ i. tops ns w x (at_turn p i)) 0) s ≡ s
flat_turns_raised ns w x p n s h
    = flat_raised raise_to (each_turn n (λ i. tops ns w x (at_turn p i)) 0) s
    (flat_turns (λ i. tops ns w x (at_turn p i)) n 0 (λ i. are_flat ns w x h (at_turn p i)))
