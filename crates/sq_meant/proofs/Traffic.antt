-- The sums over the events of a whole run are those over the plan written out.
use Rattle.std.proofs.Common.{◌≡◌, ℕ, ◌+◌, List, [], ◌∷◌, ◌++◌, refl, ap, ap₂, ◌∙◌, arith}
use Rattle.sq_ir.specs.Tree as tree
use Rattle.sq_ir.specs.Tree.{Tree, waiting_events}
use Rattle.sq_ir.specs.Events.{Event}
use Rattle.sq_ir.specs.Plans.{tree_of}
use Rattle.sq_ir.specs.Traffic.{level_in, down_by, up_by, copies_by, fills_by, accumulations_by, leaves_by}
use Rattle.sq_nests.specs.Stacks.{capped}
use Rattle.sq_sums.specs.Totals as plan
use Rattle.sq_sums.specs.Totals.{tree_sum}
use Rattle.sq_tree.specs.Totals as run
use Rattle.sq_tree.specs.Totals.{total, stopped, HaveThePlansSums}
use Rattle.sq_meant.specs.Traffic.{RunsCarryTheTraffic}

total_both : (f : Event → ℕ) (xs ys : List Event) → total f (xs ++ ys) ≡ total f xs + total f ys
total_both f [] ys = omega arith
total_both f (x ∷ xs) ys = let e = total_both f xs ys in omega (arith, e)

module _ {S : Type 0} (f : Event → ℕ) where
  waiting_sum : (t : Tree Event S) → total f (waiting_events t) ≡ tree_sum f t
  waiting_sum tree.Skip = refl
  waiting_sum (tree.Act e) = omega arith
  waiting_sum (tree.Stuck e) = refl
  waiting_sum (tree.Seq a b) = total_both f (waiting_events a) (waiting_events b) ∙ ap₂ (λ n m. n + m) (waiting_sum a)
      (waiting_sum b)
  waiting_sum (tree.Par a b) = total_both f (waiting_events a) (waiting_events b) ∙ ap₂ (λ n m. n + m) (waiting_sum a)
      (waiting_sum b)
  waiting_sum (tree.Within s a) = waiting_sum a

stopped_is : (n : ℕ) → stopped n ≡ capped n
unfolding capped
stopped_is n = refl

pub runs_carry_the_traffic : HaveThePlansSums → RunsCarryTheTraffic
runs_carry_the_traffic whole p m good picks events last ends none = (carried, counts)
  where
    sums : (f : Event → ℕ) → stopped (total f events) ≡ capped (tree_sum f (tree_of p))
    sums f = stopped_is (total f events)
        ∙ ap (λ n. capped n) (whole p m good picks events last ends none f ∙ waiting_sum f (tree_of p))

    carried : (edge : ℕ) → run.carried_by (level_in p.nodes) edge events ≡ plan.carried_by p edge
    carried edge = λ i. record {
      down = sums (down_by (level_in p.nodes) edge) i;
      up = sums (up_by (level_in p.nodes) edge) i;
    }

    counts : run.counts_of events ≡ plan.counts_of p
    counts = λ i. record {
      copies = sums copies_by i;
      fills = sums fills_by i;
      accumulations = sums accumulations_by i;
      leaves = sums leaves_by i;
    }
