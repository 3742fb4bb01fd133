-- The term of a plan file has neither loops nor choices.
use Rattle.std.proofs.Common.{◌≡◌, ℕ, ◌-◌, ◌==◌, Bool, true, false, Some, None, List, [], ◌∷◌, map, refl, sym, ap, subst, ◌∙◌}
use Rattle.std.specs.Prelude.{if◌then◌else◌}
use Rattle.std.proofs.lemmas.Bool.{and_from}
use Rattle.sq_ir.specs.declared.plan.PlanNode.{PlanNode}
use Rattle.sq_ir.specs.Plans.{node_at}
use Rattle.sq_plantext.specs.declared.text.TermText.{TermText, roll-TermText}
use Rattle.sq_plantext.specs.declared.text.TermText.TheVariants as t
use Rattle.sq_plantext.specs.declared.text.TermText.TheOpen.{TermText-F}
use Rattle.sq_plantext.specs.declared.text.TermText.TheFolds.{ind-TermText, map-TermText}
use Rattle.sq_plantext.specs.declared.text.PlanText.{PlanText}
use Rattle.sq_planfile.specs.Files.{Below, each_below, constant, child_at, nodes_of, plan_of, action_of}
use Rattle.sq_planfile.proofs.Equations.{below, below_seq, below_par, below_at, below_act}
use Rattle.sq_rooms.specs.Terms.{all, plain_child, is_flat}
use Rattle.sq_rooms.proofs.Places.{flat_act, flat_seq, flat_par, flat_within}
use Rattle.sq_rooms.proofs.Flat.{plain-natural}

module _ (nodes : List PlanNode) where
  abbrev IsFlatAt : TermText → Type 0
  IsFlatAt x = (here : ℕ) → is_flat (below nodes x here) ≡ true

  abbrev K : Type 0
  K = (x : TermText) × IsFlatAt x

  abbrev texts : List K → List TermText
  texts ys = map (λ m. m.0) ys

  flat_row : (ys : List K) (here : ℕ) → all (map is_flat (each_below (map (below nodes) (texts ys)) here)) ≡ true
  flat_row [] here = refl
  flat_row (y ∷ ys) here =
      and_from (is_flat (below nodes y.0 here)) (all (map is_flat (each_below (map (below nodes) (texts ys)) here))) (y.1 here) (flat_row ys here)

  plain_at : (here node : ℕ) → plain_child (child_at nodes here node) ≡ true
  plain_at here node = by (here == node)
    where
      by : (v : Bool) → plain_child (if v then None else Some (constant (node - (node_at nodes here).first_child))) ≡ true
      by true = refl
      by false = plain-natural (node - (node_at nodes here).first_child)

  step : (y : TermText-F K) → IsFlatAt (roll-TermText (map-TermText K TermText (λ m. m.0) y))
  step (TermText-F.Seq ys) = subst IsFlatAt (sym (t.rolls-Seq (texts ys))) (λ here.
      ap (λ (b : Below). is_flat (b here)) (below_seq nodes (texts ys)) ∙ flat_seq (each_below (map (below nodes) (texts ys)) here) ∙ flat_row ys here)
  step (TermText-F.Par ys) = subst IsFlatAt (sym (t.rolls-Par (texts ys))) (λ here.
      ap (λ (b : Below). is_flat (b here)) (below_par nodes (texts ys)) ∙ flat_par (each_below (map (below nodes) (texts ys)) here) ∙ flat_row ys here)
  step (TermText-F.At p node bs y) = subst IsFlatAt (sym (t.rolls-At p node bs y.0)) (λ here.
      ap (λ (b : Below). is_flat (b here)) (below_at nodes p node bs y.0) ∙ flat_within (child_at nodes here node) bs (below nodes y.0 node)
      ∙ and_from (plain_child (child_at nodes here node)) (is_flat (below nodes y.0 node)) (plain_at here node) (y.1 node))
  step (TermText-F.Act p e) = subst IsFlatAt (sym (t.rolls-Act p e)) (λ here. ap (λ (b : Below). is_flat (b here)) (below_act nodes p e) ∙ flat_act (action_of e))

  flat_below : (x : TermText) → IsFlatAt x
  flat_below = ind-TermText IsFlatAt (λ x y is. subst (λ z. IsFlatAt (roll-TermText z)) is (step y))

pub plans_of_files_are_flat : (x : PlanText) → is_flat (plan_of x).draft.term ≡ true
plans_of_files_are_flat x = flat_below (nodes_of x) x.term 0
