use Rattle.std.proofs.Common.{◌≡◌, ◌+◌, ◌*◌, length, drop, Ok}
use Rattle.sq_leaf.specs.Source.{Arrays}
use Rattle.sq_leaf.specs.Views.{Shows}
use Rattle.sq_work.specs.InTurn.{serial}
use Rattle.sq_work.specs.Meaning.{in_turn}
use Rattle.sq_flat.specs.Ready as ready
use Rattle.sq_flat.specs.Works as spec
use Rattle.sq_flat.proofs.eval.+run.Given as goal

abbrev pub decreases-run : goal.decreases-run
decreases-run l = 8 * l.left + 6

abbrev pub decreases-statements : goal.decreases-statements
decreases-statements l = 8 * l.left + 5

abbrev pub decreases-statement : goal.decreases-statement
decreases-statement l = 8 * l.left + 4

abbrev pub decreases-turns : goal.decreases-turns
decreases-turns l = 8 * l.left + 2

abbrev pub decreases-call : goal.decreases-call
decreases-call l = 8 * l.left + 2

abbrev pub invariant-statements-loop-s : goal.invariant-statements-loop-s
invariant-statements-loop-s l = record {
  size : length l.bytes ≡ length l.fn.bytes;
  rows : ready.AreReady l.setting.forms.now l.views (drop l.s-index l.list);
  goes : (a : Arrays) → Shows l.views l.fn.bytes a → (b : Arrays) × Shows l.views l.bytes b
      × (serial (spec.list_work (spec.form_work l.setting.forms.now l.calls) (drop l.s-index l.list) l.k) b ≡ serial (spec.list_work (spec.form_work l.setting.forms.now l.calls) l.list l.k) a);
}

abbrev pub invariant-turns-loop-t : goal.invariant-turns-loop-t
invariant-turns-loop-t l = record {
  size : length l.bytes ≡ length l.fn.bytes;
  goes : (a : Arrays) → Shows l.views l.fn.bytes a → (b : Arrays) × Shows l.views l.bytes b
      × (in_turn l.t (λ t. spec.turn_of l.kind (serial (spec.list_work (spec.form_work l.setting.forms.now l.calls) l.body (l.from + t)))) a ≡ Ok b);
}

abbrev pub decreases-turn : goal.decreases-turn
decreases-turn l = 8 * l.left + 7

abbrev pub decreases-gather : goal.decreases-gather
decreases-gather l = 8 * l.left + 6
