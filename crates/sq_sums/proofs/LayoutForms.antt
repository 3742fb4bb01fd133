-- The equations of the way that is term_layout of a term, one for each variant.
use Rattle.std.proofs.Common.{◌≡◌, ℕ, List, [], ◌∷◌, map, Option, refl, ap, sym, subst, ◌∙◌}
use Rattle.sq_text.specs.declared.spread.SpreadRule.{SpreadRule}
use Rattle.sq_ir.specs.declared.num.Num.{Num}
use Rattle.sq_ir.specs.declared.term.Action.{Action}
use Rattle.sq_ir.specs.declared.term.Term.{Term, roll-Term}
use Rattle.sq_ir.specs.declared.term.Term.TheVariants as t
use Rattle.sq_ir.specs.declared.term.Term.TheOpen.{Term-F}
use Rattle.sq_ir.specs.declared.term.Term.TheFolds.{map-Term, fold-roll-Term, ind-Term}
use Rattle.sq_nests.specs.Stacks.{capped}
use Rattle.sq_sums.specs.declared.route.Route.TheVariants as r
use Rattle.sq_sums.specs.Routes.{list_layout, loop_layout, within_layout, no_layout, TermLayout, layout_step}
use Rattle.sq_sums.specs.Routes.{term_layout_step, term_layout, layout}

map_map : {X Y Z : Type 0} (v : X → Y) (k : Y → Z) (xs : List X) → map k (map v xs) ≡ map (λ p. k (v p)) xs
map_map v k [] = refl
map_map v k (x ∷ xs) = ap (λ l. k (v x) ∷ l) (map_map v k xs)

term_layout_roll : (w : List ℕ → ℕ) (d : Term-F Term) → term_layout w (roll-Term d)
    ≡ term_layout_step w (map-Term Term TermLayout (term_layout w) d)
term_layout_roll w d = fold-roll-Term TermLayout (term_layout_step w) d

-- it is the term itself
module _ (w : List ℕ → ℕ) where
  abbrev Kept : Term → Type 0
  Kept x = (term_layout w x).term ≡ x

  abbrev K : Type 0
  K = (x : Term) × Kept x

  abbrev terms : List K → List Term
  terms xs = map (λ x. x.0) xs

  abbrev again : Term-F Term → Term-F Term
  again d = map-Term TermLayout Term (λ y. y.term) (map-Term Term TermLayout (term_layout w) d)

  list_kept : (xs : List K) → map (λ (y : TermLayout). y.term) (map (term_layout w) (terms xs)) ≡ terms xs
  list_kept [] = refl
  list_kept (x ∷ xs) = λ i. x.1 i ∷ list_kept xs i

  same : (y : Term-F K) → again (map-Term K Term (λ x. x.0) y) ≡ map-Term K Term (λ x. x.0) y
  same Term-F.Skip = refl
  same (Term-F.Act a) = refl
  same (Term-F.Seq xs) = ap (λ l. Term-F.Seq l) (list_kept xs)
  same (Term-F.Par xs) = ap (λ l. Term-F.Par l) (list_kept xs)
  same (Term-F.Loop c x) = ap (λ z. Term-F.Loop c z) x.1
  same (Term-F.Spread c u x) = ap (λ z. Term-F.Spread c u z) x.1
  same (Term-F.Case k xs) = ap (λ l. Term-F.Case k l) (list_kept xs)
  same (Term-F.Within c bs x) = ap (λ z. Term-F.Within c bs z) x.1

  kept_step : (y : Term-F K) → Kept (roll-Term (map-Term K Term (λ x. x.0) y))
  kept_step y = ap (λ (z : TermLayout). z.term) (term_layout_roll w (map-Term K Term (λ x. x.0) y))
      ∙ ap roll-Term (same y)

  pub kept : (x : Term) → Kept x
  kept = ind-Term Kept (λ x y is. subst (λ z. Kept (roll-Term z)) is (kept_step y))

layout_roll : (w : List ℕ → ℕ) (d : Term-F Term) → layout w (roll-Term d)
    ≡ layout_step w (map-Term Term TermLayout (term_layout w) d)
layout_roll w d = ap (λ (z : TermLayout). z.layout) (term_layout_roll w d)

pub layout_skip : (w : List ℕ → ℕ) → layout w t.Skip ≡ no_layout
layout_skip w = ap (layout w) (sym t.rolls-Skip) ∙ layout_roll w Term-F.Skip

pub layout_act : (w : List ℕ → ℕ) (a : Action) → layout w (t.Act a) ≡ no_layout
layout_act w a = ap (layout w) (sym (t.rolls-Act a)) ∙ layout_roll w (Term-F.Act a)

pub layout_seq : (w : List ℕ → ℕ) (ts : List Term) → layout w (t.Seq ts) ≡ list_layout r.Parts (map (layout w) ts)
layout_seq w ts = ap (layout w) (sym (t.rolls-Seq ts)) ∙ layout_roll w (Term-F.Seq ts)
    ∙ ap (list_layout r.Parts) (map_map (term_layout w) (λ (z : TermLayout). z.layout) ts)

pub layout_par : (w : List ℕ → ℕ) (ts : List Term) → layout w (t.Par ts) ≡ list_layout r.Parts (map (layout w) ts)
layout_par w ts = ap (layout w) (sym (t.rolls-Par ts)) ∙ layout_roll w (Term-F.Par ts)
    ∙ ap (list_layout r.Parts) (map_map (term_layout w) (λ (z : TermLayout). z.layout) ts)

pub layout_loop : (w : List ℕ → ℕ) (c : Num) (b : Term) → layout w (t.Loop c b) ≡ loop_layout c b (layout w b)
layout_loop w c b = ap (layout w) (sym (t.rolls-Loop c b)) ∙ layout_roll w (Term-F.Loop c b)
    ∙ ap (λ z. loop_layout c z (layout w b)) (kept w b)

pub layout_spread : (w : List ℕ → ℕ) (c : Num) (u : SpreadRule) (b : Term) → layout w (t.Spread c u b)
    ≡ loop_layout c b (layout w b)
layout_spread w c u b = ap (layout w) (sym (t.rolls-Spread c u b)) ∙ layout_roll w (Term-F.Spread c u b)
    ∙ ap (λ z. loop_layout c z (layout w b)) (kept w b)

pub layout_case : (w : List ℕ → ℕ) (k : Num) (ts : List Term) → layout w (t.Case k ts)
    ≡ list_layout (r.Arm k) (map (layout w) ts)
layout_case w k ts = ap (layout w) (sym (t.rolls-Case k ts)) ∙ layout_roll w (Term-F.Case k ts)
    ∙ ap (list_layout (r.Arm k)) (map_map (term_layout w) (λ (z : TermLayout). z.layout) ts)

pub layout_within : (w : List ℕ → ℕ) (c : Option Num) (bs : List ℕ) (b : Term) → layout w (t.Within c bs b)
    ≡ within_layout (capped (w bs)) c b (layout w b)
layout_within w c bs b = ap (layout w) (sym (t.rolls-Within c bs b)) ∙ layout_roll w (Term-F.Within c bs b)
    ∙ ap (λ z. within_layout (capped (w bs)) c z (layout w b)) (kept w b)

pub ruleset layout_forms = (
  layout_skip,
  layout_act,
  layout_seq,
  layout_par,
  layout_loop,
  layout_spread,
  layout_case,
  layout_within,
)
