-- A leaf call of a plan may be run.
use Rattle.std.proofs.Common.{◌≡◌, ℕ, ◌<◌, ◌^◌, List, Option, Some, None, sym, ap, ◌∙◌, subst}
use Rattle.std.specs.List.{slice_get}
use Rattle.sq_rect.specs.declared.view.View.{View}
use Rattle.sq_rect.specs.Ranks.{HaveFewDimensions}
use Rattle.sq_leaf.specs.Leaf.{Leaf, written_of}
use Rattle.sq_leaf.specs.Views.{CanRun}
use Rattle.sq_ir.specs.Plans.{IsLeafCall}
use Rattle.sq_ir.specs.DraftLeaves.{leaf_at}
use Rattle.sq_ir.specs.LeafRuns.{CallsCanBeRun}
use Rattle.sq_ir.specs.declared.plan.Plan.{Plan}
use Rattle.sq_ir.specs.declared.plan.Draft.{Draft}
use Rattle.sq_ir.specs.declared.plan.Leaf as plan
use Rattle.std.specs.Option.{option_map}
use Rattle.sq_tree.specs.Bank.{leaves_in}

some_same : {A : Type 0} (x y : A) → Some x ≡ Some y → x ≡ y
some_same x y h = cc

pub leaf_there : (d : Draft) (code : ℕ) (o : Option plan.Leaf) → o ≡ slice_get d.leaves code → leaf_at d code ≡ option_map (λ (l : plan.Leaf). l.code) o
leaf_there d code o is = ap (option_map (λ (l : plan.Leaf). l.code)) (sym is)

pub may_run : CallsCanBeRun → (p : Plan) (code size : ℕ) (vs : List View) (path : List ℕ) (l : Leaf) → leaf_at p.draft code ≡ Some l → IsLeafCall (leaves_in p) size code vs path → size < 2 ^ 62 → HaveFewDimensions vs
    → CanRun size vs (written_of l.variant)
may_run law p code size vs path l is call small few =
    let can = law p.draft code size vs path call small few in
    let same = some_same can.leaf l (sym can.there ∙ is) in
    subst (λ x. CanRun size vs (written_of x.variant)) same can.may

pub is_there : CallsCanBeRun → (p : Plan) (code size : ℕ) (vs : List View) (path : List ℕ) → leaf_at p.draft code ≡ None → IsLeafCall (leaves_in p) size code vs path → size < 2 ^ 62 → HaveFewDimensions vs → ⊥
is_there law p code size vs path none call small few =
    let can = law p.draft code size vs path call small few in
    let no : None ≡ Some can.leaf = sym none ∙ can.there in
    cc
