-- Whether the events of a plan file's lines are sound doesn't depend on their places.
use Rattle.std.proofs.Common.{◌≡◌, ℕ, ◌+◌, ◌<◌, ◌≤◌, List, [], ◌∷◌, ◌++◌, map, refl, sym, ap, ap₂, ◌∙◌, subst, ◌⊎◌}
use Rattle.std.specs.List.{All}
use Rattle.sq_ast.specs.Unplaced.{nowhere}
use Rattle.sq_ir.specs.declared.plan.PlanNode.{PlanNode}
use Rattle.sq_ir.specs.StateLaws.{AreOne}
use Rattle.sq_ir.specs.DraftLeaves.{leaves_of}
use Rattle.sq_ir.specs.Written.{Setting, Env, node_of, inside_of}
use Rattle.sq_ir.specs.Plans.{node_at, setting_of, IsBuffer, IsAllowed}
use Rattle.sq_plantext.specs.declared.text.EventText.{EventText}
use Rattle.sq_plantext.specs.declared.text.TermText.{TermText, roll-TermText}
use Rattle.sq_plantext.specs.declared.text.TermText.TheVariants as t
use Rattle.sq_plantext.specs.declared.text.TermText.TheOpen.{TermText-F}
use Rattle.sq_plantext.specs.declared.text.TermText.TheFolds.{ind-TermText, map-TermText}
use Rattle.sq_plantext.specs.declared.text.PlanText.{PlanText}
use Rattle.sq_planfile.specs.Files.{nodes_of, plan_of, draft_of, action_of, child_at}
use Rattle.sq_planfile.specs.Sound.{AskedOfTexts, each_part, IsEventText, IsScope, inside, AreEvents}
use Rattle.sq_planfile.proofs.Equations.{sound_seq, sound_par, sound_at, sound_act}
use Rattle.sq_unplaced_laws.specs.Unplaced.{unplaced_term}
use Rattle.sq_unplaced_laws.proofs.Looks.{LookAlike, allowed}
use Rattle.sq_unplaced_laws.proofs.Terms.{unplaced_seq, unplaced_par, unplaced_at, unplaced_act}

-- what events ask of lines is the same of both
pub record AskAlike (x y : PlanText) : Type 0 where
  pub nodes : nodes_of x ≡ nodes_of y
  pub setting : setting_of (plan_of x) ≡ setting_of (plan_of y)
  pub looks : LookAlike (leaves_of (draft_of x)) (leaves_of (draft_of y))

-- ---- one event, one scope

event_across : (x y : PlanText) → AskAlike x y → (env : Env) (bs : List ℕ) (e : EventText) → IsEventText x env bs e → IsEventText y env bs e
event_across x y same env bs e h = record {
  views = h.views;
  allowed = subst (λ (s : Setting). IsAllowed (leaves_of (draft_of y)) s env bs (action_of e)) same.setting
      (allowed (leaves_of (draft_of x)) (leaves_of (draft_of y)) same.looks (setting_of (plan_of x)) env bs (action_of e) h.allowed);
}

scope_across : (x y : PlanText) → AskAlike x y → (env : Env) (node : ℕ) (bs : List ℕ) → IsScope x env node bs → IsScope y env node bs
scope_across x y same env node bs h = record {
  at = subst (λ (ns : List PlanNode). (node ≡ node_of env) ⊎ (((node_at ns (node_of env)).first_child ≤ node)
      × (node < (node_at ns (node_of env)).first_child + (node_at ns (node_of env)).children))) same.nodes h.at;
  names =
      let s = setting_of (plan_of y) in
      subst (λ (ns : List PlanNode). All (IsBuffer s (inside_of s env (child_at ns (node_of env) node)).level) bs) same.nodes
      (subst (λ (r : Setting). All (IsBuffer r (inside_of r env (child_at (nodes_of x) (node_of env) node)).level) bs) same.setting h.names);
}

inside_same : (x y : PlanText) → AskAlike x y → (env : Env) (node : ℕ) → inside x env node ≡ inside y env node
inside_same x y same env node =
    ap₂ (λ (s : Setting) (ns : List PlanNode). inside_of s env (child_at ns (node_of env) node)) same.setting same.nodes

-- ---- terms

module _ (x y : PlanText) (to : AskAlike x y) (from : AskAlike y x) where
  abbrev Same : TermText → Type 0
  Same u = (env : Env) (bs : List ℕ) → AreOne (AreEvents x u env bs) (AreEvents y (unplaced_term u) env bs)

  abbrev M : Type 0
  M = (u : TermText) × Same u

  abbrev texts : List M → List TermText
  texts xs = map (λ m. m.0) xs

  along : (u : TermText) (f g : AskedOfTexts) → AreEvents x u ≡ f → AreEvents y (unplaced_term u) ≡ g
      → ((env : Env) (bs : List ℕ) → AreOne (f env bs) (g env bs)) → Same u
  along u f g p q h env bs = record {
    there = λ m. subst (λ (z : AskedOfTexts). z env bs) (sym q) ((h env bs).there (subst (λ (z : AskedOfTexts). z env bs) p m));
    back = λ m. subst (λ (z : AskedOfTexts). z env bs) (sym p) ((h env bs).back (subst (λ (z : AskedOfTexts). z env bs) q m));
  }

  parts_one : (xs : List M) (env : Env) (bs : List ℕ)
      → AreOne (each_part (AreEvents x) (texts xs) env bs) (each_part (AreEvents y) (map unplaced_term (texts xs)) env bs)
  parts_one [] env bs = record { there = λ h. h; back = λ h. h }
  parts_one (m ∷ xs) env bs =
      let one = m.1 env bs in
      let rest = parts_one xs env bs in
      record { there = λ h. (one.there h.0, rest.there h.1); back = λ h. (one.back h.0, rest.back h.1) }

  scope_one : (m : M) (node : ℕ) (new : List ℕ) (env : Env) (bs : List ℕ)
      → AreOne (IsScope x env node new × AreEvents x m.0 (inside x env node) (new ++ bs))
      (IsScope y env node new × AreEvents y (unplaced_term m.0) (inside y env node) (new ++ bs))
  scope_one m node new env bs =
      let one = m.1 (inside x env node) (new ++ bs) in
      let is = inside_same x y to env node in
      record {
        there = λ h. (
          scope_across x y to env node new h.0,
          subst (λ (z : Env). AreEvents y (unplaced_term m.0) z (new ++ bs)) is (one.there h.1),
        );
        back = λ h. (
          scope_across y x from env node new h.0,
          one.back (subst (λ (z : Env). AreEvents y (unplaced_term m.0) z (new ++ bs)) (sym is) h.1),
        );
      }

  step : (u : TermText-F M) → Same (roll-TermText (map-TermText M TermText (λ m. m.0) u))
  step (TermText-F.Seq xs) =
      subst Same (sym (t.rolls-Seq (texts xs)))
      (along (t.Seq (texts xs)) _ _ (sound_seq x (texts xs))
      (ap (AreEvents y) (unplaced_seq (texts xs)) ∙ sound_seq y (map unplaced_term (texts xs))) (parts_one xs))
  step (TermText-F.Par xs) =
      subst Same (sym (t.rolls-Par (texts xs)))
      (along (t.Par (texts xs)) _ _ (sound_par x (texts xs))
      (ap (AreEvents y) (unplaced_par (texts xs)) ∙ sound_par y (map unplaced_term (texts xs))) (parts_one xs))
  step (TermText-F.At p node new m) =
      subst Same (sym (t.rolls-At p node new m.0))
      (along (t.At p node new m.0) _ _ (sound_at x p node new m.0)
      (ap (AreEvents y) (unplaced_at p node new m.0) ∙ sound_at y nowhere node new (unplaced_term m.0)) (scope_one m node new))
  step (TermText-F.Act p e) =
      subst Same (sym (t.rolls-Act p e))
      (along (t.Act p e) _ _ (sound_act x p e) (ap (AreEvents y) (unplaced_act p e) ∙ sound_act y nowhere e)
      (λ env bs. record { there = event_across x y to env bs e; back = event_across y x from env bs e }))

  pub same_events : (u : TermText) → Same u
  same_events = ind-TermText Same (λ y z is. subst (λ w. Same (roll-TermText w)) is (step z))

itself : (x : PlanText) → AskAlike x x
itself x = record { nodes = refl; setting = refl; looks = record { shapes = λ code. refl; written = λ code. refl } }

turned : (x y : PlanText) → AskAlike x y → AskAlike y x
turned x y h = record {
  nodes = sym h.nodes;
  setting = sym h.setting;
  looks = record { shapes = λ code. sym (h.looks.shapes code); written = λ code. sym (h.looks.written code) };
}

pub events_across : (x y : PlanText) → AskAlike x y → (t u : TermText) → unplaced_term t ≡ unplaced_term u → (env : Env) (bs : List ℕ)
    → AreEvents x t env bs → AreEvents y u env bs
events_across x y same t u e env bs h =
    (same_events y y (itself y) (itself y) u env bs).back
    (subst (λ z. AreEvents y z env bs) e ((same_events x y same (turned x y same) t env bs).there h))
