use Rattle.std.proofs.Common.{refl, subst}
use Rattle.sq_clashes.specs.Reached.{ReachTouches}
use Rattle.sq_clashes.proofs.Covering.{still_touches}
use Rattle.sq_clashes.proofs.rows.row_of.Goals as goal

pub returns : goal.returns
returns c = record {
  first = refl;
  end = refl;
  touches =
      still_touches c.put_touches.new.reaches c.put_path.new.reaches c.args.act.now.touches c.args.own c.in_ok-put_path.ensures.more (subst (λ l. ReachTouches c.put_touches.new.reaches l c.args.own) c.as_slice.ensures c.in_ok-put_touches.ensures.reached);
  path = c.in_ok-put_path.ensures.reached;
}
