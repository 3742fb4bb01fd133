use Rattle.std.proofs.Common.{arith}
use Rattle.sq_plantext.specs.Layout.{spell_leaf}
use Rattle.sq_planfile.specs.Written.{text_of}
use Rattle.sq_planfile.proofs.Following.{lines_next, lines_end}
use Rattle.sq_planfile.proofs.lines.put_leaves.Goals as goal

pub loop-leaf-preserved : goal.loop-leaf-preserved
loop-leaf-preserved c =
    lines_next text_of spell_leaf c.args.leaves.now c.args.out.now.items c.loop-leaf.out.items c.put_call.new.out.items c.loop-leaf.leaf-index c.leaf-item.result (omega arith) c.leaf-item.is c.in_ok-put_call.ensures c.loop-leaf.invariant

pub returns : goal.returns
returns c = lines_end text_of spell_leaf c.args.leaves.now c.args.out.now.items c.loop-leaf.out.items c.loop-leaf.leaf-index (omega arith) c.loop-leaf.invariant
