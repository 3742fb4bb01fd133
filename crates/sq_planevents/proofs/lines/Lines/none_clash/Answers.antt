use Rattle.std.proofs.Common.{rules, ◌≡◌, [], sym, subst}
use Rattle.sq_planevents.specs.First.{Decides}
use Rattle.sq_planevents.specs.Calls.{AreReached, TwoClash, ArePut}
use Rattle.sq_planevents.proofs.Touching.{put_reached, put_decides}
use Rattle.sq_planevents.proofs.lines.Lines.none_clash.Goals as goal

pub two_clash-clash-requires : goal.two_clash-clash-requires
two_clash-clash-requires c =
    let none : c.new-touched.result ≡ [] = search rules in
    let is : c.as_slice.result.now ≡ c.put_touched.new.touched = search rules in
    let put : ArePut c.args.self.now.text.now c.args.flags.now c.args.views.now c.new-touched.result c.put_touched.new.touched = search rules in
    subst AreReached (sym is) (put_reached c.args.self.now.text.now c.args.flags.now c.args.views.now c.new-touched.result c.put_touched.new.touched none put)

pub returns : goal.returns
returns c =
    let none : c.new-touched.result ≡ [] = search rules in
    let is : c.as_slice.result.now ≡ c.put_touched.new.touched = search rules in
    let put : ArePut c.args.self.now.text.now c.args.flags.now c.args.views.now c.new-touched.result c.put_touched.new.touched = search rules in
    put_decides c.args.self.now.text.now c.args.flags.now c.args.views.now c.new-touched.result c.put_touched.new.touched c.two_clash-clash.result c.requires.flags none put
    (subst (λ l. Decides c.two_clash-clash.result (TwoClash l)) is c.two_clash-clash.ensures)
