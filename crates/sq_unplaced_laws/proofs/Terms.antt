-- The term of a plan file's lines doesn't depend on their places.
use Rattle.std.proofs.Common.{◌≡◌, ℕ, List, [], ◌∷◌, map, refl, sym, ap, ap₂, ◌∙◌, subst}
use Rattle.sq_types.specs.Text.declared.place.Place.{Place}
use Rattle.sq_ast.specs.Unplaced.{nowhere}
use Rattle.sq_ir.specs.declared.plan.PlanNode.{PlanNode}
use Rattle.sq_plantext.specs.declared.text.EventText.{EventText}
use Rattle.sq_plantext.specs.declared.text.TermText.{TermText, roll-TermText}
use Rattle.sq_plantext.specs.declared.text.TermText.TheVariants as t
use Rattle.sq_plantext.specs.declared.text.TermText.TheOpen.{TermText-F}
use Rattle.sq_plantext.specs.declared.text.TermText.TheFolds.{fold-roll-TermText, ind-TermText, map-TermText}
use Rattle.sq_planfile.specs.Files.{Below, term_step, term_of}
use Rattle.sq_planfile.proofs.Equations.{below, below_seq, below_par, below_at, below_act}
use Rattle.sq_unplaced_laws.specs.Unplaced.{unplaced_step, unplaced_term}

-- ---- a term without its places, one equation for each variant

pub unplaced_seq : (xs : List TermText) → unplaced_term (t.Seq xs) ≡ t.Seq (map unplaced_term xs)
unplaced_seq xs = ap unplaced_term (sym (t.rolls-Seq xs)) ∙ fold-roll-TermText TermText unplaced_step (TermText-F.Seq xs)

pub unplaced_par : (xs : List TermText) → unplaced_term (t.Par xs) ≡ t.Par (map unplaced_term xs)
unplaced_par xs = ap unplaced_term (sym (t.rolls-Par xs)) ∙ fold-roll-TermText TermText unplaced_step (TermText-F.Par xs)

pub unplaced_at : (p : Place) (node : ℕ) (bs : List ℕ) (x : TermText)
    → unplaced_term (t.At p node bs x) ≡ t.At nowhere node bs (unplaced_term x)
unplaced_at p node bs x =
    ap unplaced_term (sym (t.rolls-At p node bs x)) ∙ fold-roll-TermText TermText unplaced_step (TermText-F.At p node bs x)

pub unplaced_act : (p : Place) (e : EventText) → unplaced_term (t.Act p e) ≡ t.Act nowhere e
unplaced_act p e = ap unplaced_term (sym (t.rolls-Act p e)) ∙ fold-roll-TermText TermText unplaced_step (TermText-F.Act p e)

-- ---- its term

module _ (nodes : List PlanNode) where
  abbrev Same : TermText → Type 0
  Same y = below nodes (unplaced_term y) ≡ below nodes y

  abbrev M : Type 0
  M = (y : TermText) × Same y

  abbrev texts : List M → List TermText
  texts xs = map (λ m. m.0) xs

  parts_same : (xs : List M) → map (below nodes) (map unplaced_term (texts xs)) ≡ map (below nodes) (texts xs)
  parts_same [] = refl
  parts_same (m ∷ xs) = ap₂ (λ (b : Below) (bs : List Below). b ∷ bs) m.1 (parts_same xs)

  step : (y : TermText-F M) → Same (roll-TermText (map-TermText M TermText (λ m. m.0) y))
  step (TermText-F.Seq xs) =
      subst Same (sym (t.rolls-Seq (texts xs)))
      (ap (below nodes) (unplaced_seq (texts xs)) ∙ below_seq nodes (map unplaced_term (texts xs))
      ∙ ap (λ bs. term_step nodes (TermText-F.Seq bs)) (parts_same xs) ∙ sym (below_seq nodes (texts xs)))
  step (TermText-F.Par xs) =
      subst Same (sym (t.rolls-Par (texts xs)))
      (ap (below nodes) (unplaced_par (texts xs)) ∙ below_par nodes (map unplaced_term (texts xs))
      ∙ ap (λ bs. term_step nodes (TermText-F.Par bs)) (parts_same xs) ∙ sym (below_par nodes (texts xs)))
  step (TermText-F.At p node bs m) =
      subst Same (sym (t.rolls-At p node bs m.0))
      (ap (below nodes) (unplaced_at p node bs m.0) ∙ below_at nodes nowhere node bs (unplaced_term m.0)
      ∙ ap (λ b. term_step nodes (TermText-F.At p node bs b)) m.1 ∙ sym (below_at nodes p node bs m.0))
  step (TermText-F.Act p e) =
      subst Same (sym (t.rolls-Act p e))
      (ap (below nodes) (unplaced_act p e) ∙ below_act nodes nowhere e ∙ sym (below_act nodes p e))

  same_below : (y : TermText) → Same y
  same_below = ind-TermText Same (λ y z is. subst (λ w. Same (roll-TermText w)) is (step z))

  pub same_term : (t u : TermText) → unplaced_term t ≡ unplaced_term u → term_of nodes t ≡ term_of nodes u
  same_term t u e = ap (λ (b : Below). b 0) (sym (same_below t) ∙ ap (below nodes) e ∙ same_below u)
