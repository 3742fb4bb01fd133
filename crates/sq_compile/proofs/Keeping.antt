-- Hoisting leaves arguments in place that may stand there.
use Rattle.std.proofs.Common.{◌≡◌, ℕ, zero, suc, List, [], ◌∷◌, get_or, Option, Some, ap}
use Rattle.std.specs.Prelude.{slice_get}
use Rattle.sq_forms.specs.declared.form.Form.{Form}
use Rattle.sq_spec.specs.declared.resolved.Resolved.{Resolved}
use Rattle.sq_plan_good.specs.Homes.Chosen.Forms.{no_choice}
use Rattle.sq_plan_good.specs.DraftLaws.Choosing.{MayBeChosen, NoneOverlaps}
use Rattle.sq_pass_laws.specs.Hoist.Choices.{choices_from, find_leaves, sites_of, hoisted}
use Rattle.sq_plan_good.specs.Needed.{KeepInPlace}

same : {x y : Form} → Some x ≡ Some y → x ≡ y
same e = cc

kept_from : (found : ℕ → Option (List ℕ)) (k : ℕ) (fs : List Form) (i : ℕ) (f : Form) → slice_get fs i ≡ Some f
    → (get_or (choices_from found k fs) i no_choice).in_place ≡ f.in_place
kept_from found k [] i f e = absurd (cc e)
kept_from found k (g ∷ fs) zero f e = ap (λ (x : Form). x.in_place) (same e)
kept_from found k (g ∷ fs) (suc i) f e = kept_from found (suc k) fs i f e

pub hoisted_keep : (r : Resolved) → MayBeChosen r (hoisted r) → NoneOverlaps (hoisted r) → KeepInPlace r (hoisted r)
hoisted_keep r are nothing = record {
  hoisted = are;
  none = nothing;
  in_place = λ k f e. kept_from (find_leaves (sites_of r)) 0 r.forms k f e;
}
