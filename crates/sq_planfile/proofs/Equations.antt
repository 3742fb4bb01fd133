-- The equations of the term of a text, of what is asked of a text, and of its bad events, one for each variant.
use Rattle.std.proofs.Common.{◌≡◌, ℕ, List, [], ◌∷◌, map, refl, sym, ap, ◌∙◌, ◌⊎◌}
use Rattle.sq_text.specs.declared.place.Place.{Place}
use Rattle.sq_ir.specs.declared.plan.PlanNode.{PlanNode}
use Rattle.sq_plantext.specs.declared.text.EventText.{EventText}
use Rattle.sq_plantext.specs.declared.text.TermText.{TermText, roll-TermText}
use Rattle.sq_plantext.specs.declared.text.TermText.TheVariants as t
use Rattle.sq_plantext.specs.declared.text.TermText.TheOpen.{TermText-F}
use Rattle.sq_plantext.specs.declared.text.TermText.TheFolds.{fold-TermText, fold-roll-TermText, rec-roll-TermText, map-TermText}
use Rattle.sq_plantext.specs.declared.text.PlanText.{PlanText}
use Rattle.sq_planfile.specs.Files.{Below, term_step}
use Rattle.sq_planfile.specs.Sound.{AskedOfTexts, each_part, sound_step, AreEvents}
use Rattle.sq_planfile.specs.Faults.{BadAt, some_part, bad_step, IsBadIn}

-- ---- the term

abbrev pub below : List PlanNode → TermText → Below
below nodes = fold-TermText Below (term_step nodes)

pub below_seq : (nodes : List PlanNode) (xs : List TermText) → below nodes (t.Seq xs) ≡ term_step nodes (TermText-F.Seq (map (below nodes) xs))
below_seq nodes xs = ap (below nodes) (sym (t.rolls-Seq xs)) ∙ fold-roll-TermText Below (term_step nodes) (TermText-F.Seq xs)

pub below_par : (nodes : List PlanNode) (xs : List TermText) → below nodes (t.Par xs) ≡ term_step nodes (TermText-F.Par (map (below nodes) xs))
below_par nodes xs = ap (below nodes) (sym (t.rolls-Par xs)) ∙ fold-roll-TermText Below (term_step nodes) (TermText-F.Par xs)

pub below_at : (nodes : List PlanNode) (p : Place) (node : ℕ) (bs : List ℕ) (x : TermText) → below nodes (t.At p node bs x) ≡ term_step nodes (TermText-F.At p node bs (below nodes x))
below_at nodes p node bs x = ap (below nodes) (sym (t.rolls-At p node bs x)) ∙ fold-roll-TermText Below (term_step nodes) (TermText-F.At p node bs x)

pub below_act : (nodes : List PlanNode) (p : Place) (e : EventText) → below nodes (t.Act p e) ≡ term_step nodes (TermText-F.Act p e)
below_act nodes p e = ap (below nodes) (sym (t.rolls-Act p e)) ∙ fold-roll-TermText Below (term_step nodes) (TermText-F.Act p e)

-- ---- what is asked

each_same : {X : Type 0} (v : X → TermText) (k : TermText → AskedOfTexts) (xs : List X) → each_part (λ p. k (v p)) xs ≡ each_part k (map v xs)
each_same v k [] = refl
each_same v k (x ∷ xs) = ap (λ (f : AskedOfTexts). λ env bs. k (v x) env bs × f env bs) (each_same v k xs)

some_same : {X : Type 0} (v : X → TermText) (k : TermText → BadAt) (xs : List X) → some_part (λ p. k (v p)) xs ≡ some_part k (map v xs)
some_same v k [] = refl
some_same v k (x ∷ xs) = ap (λ (f : BadAt). λ env bs p. k (v x) env bs p ⊎ f env bs p) (some_same v k xs)

module _ (x : PlanText) where
  natural : (X : Type 0) (v : X → TermText) (k : TermText → AskedOfTexts) (y : TermText-F X) → sound_step x X v (λ p. k (v p)) y ≡ sound_step x TermText (λ z. z) k (map-TermText X TermText v y)
  natural X v k (TermText-F.Seq xs) = each_same v k xs
  natural X v k (TermText-F.Par xs) = each_same v k xs
  natural X v k (TermText-F.At p n bs b) = refl
  natural X v k (TermText-F.Act p e) = refl

  abbrev pub step : TermText-F TermText → AskedOfTexts
  step = sound_step x TermText (λ z. z) (AreEvents x)

  sound_roll : (d : TermText-F TermText) → AreEvents x (roll-TermText d) ≡ step d
  sound_roll d = rec-roll-TermText AskedOfTexts (sound_step x) natural d

  pub sound_seq : (xs : List TermText) → AreEvents x (t.Seq xs) ≡ step (TermText-F.Seq xs)
  sound_seq xs = ap (AreEvents x) (sym (t.rolls-Seq xs)) ∙ sound_roll (TermText-F.Seq xs)

  pub sound_par : (xs : List TermText) → AreEvents x (t.Par xs) ≡ step (TermText-F.Par xs)
  sound_par xs = ap (AreEvents x) (sym (t.rolls-Par xs)) ∙ sound_roll (TermText-F.Par xs)

  pub sound_at : (p : Place) (n : ℕ) (bs : List ℕ) (b : TermText) → AreEvents x (t.At p n bs b) ≡ step (TermText-F.At p n bs b)
  sound_at p n bs b = ap (AreEvents x) (sym (t.rolls-At p n bs b)) ∙ sound_roll (TermText-F.At p n bs b)

  pub sound_act : (p : Place) (e : EventText) → AreEvents x (t.Act p e) ≡ step (TermText-F.Act p e)
  sound_act p e = ap (AreEvents x) (sym (t.rolls-Act p e)) ∙ sound_roll (TermText-F.Act p e)

  -- ---- bad events

  bad_natural : (X : Type 0) (v : X → TermText) (k : TermText → BadAt) (y : TermText-F X) → bad_step x X v (λ p. k (v p)) y ≡ bad_step x TermText (λ z. z) k (map-TermText X TermText v y)
  bad_natural X v k (TermText-F.Seq xs) = some_same v k xs
  bad_natural X v k (TermText-F.Par xs) = some_same v k xs
  bad_natural X v k (TermText-F.At p n bs b) = refl
  bad_natural X v k (TermText-F.Act p e) = refl

  abbrev pub bad : TermText-F TermText → BadAt
  bad = bad_step x TermText (λ z. z) (IsBadIn x)

  bad_roll : (d : TermText-F TermText) → IsBadIn x (roll-TermText d) ≡ bad d
  bad_roll d = rec-roll-TermText BadAt (bad_step x) bad_natural d

  pub bad_seq : (xs : List TermText) → IsBadIn x (t.Seq xs) ≡ bad (TermText-F.Seq xs)
  bad_seq xs = ap (IsBadIn x) (sym (t.rolls-Seq xs)) ∙ bad_roll (TermText-F.Seq xs)

  pub bad_par : (xs : List TermText) → IsBadIn x (t.Par xs) ≡ bad (TermText-F.Par xs)
  bad_par xs = ap (IsBadIn x) (sym (t.rolls-Par xs)) ∙ bad_roll (TermText-F.Par xs)

  pub bad_at : (p : Place) (n : ℕ) (bs : List ℕ) (b : TermText) → IsBadIn x (t.At p n bs b) ≡ bad (TermText-F.At p n bs b)
  bad_at p n bs b = ap (IsBadIn x) (sym (t.rolls-At p n bs b)) ∙ bad_roll (TermText-F.At p n bs b)

  pub bad_act : (p : Place) (e : EventText) → IsBadIn x (t.Act p e) ≡ bad (TermText-F.Act p e)
  bad_act p e = ap (IsBadIn x) (sym (t.rolls-Act p e)) ∙ bad_roll (TermText-F.Act p e)
