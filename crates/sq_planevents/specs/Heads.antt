-- What is known of lines when their events are judged.
use Rattle.std.specs.Prelude.{◌≡◌, map}
use Rattle.std.specs.List.{All}
use Rattle.sq_ir.specs.Machines.{AreNodes}
use Rattle.sq_planfile.specs.Files.{nodes_of}
use Rattle.sq_planfile.specs.Sound.{IsBufferLine}
use Rattle.sq_planevents.specs.Shapes.{table_of}
use Rattle.sq_planevents.specs.declared.lines.Lines.{Lines}

-- nodes and buffers are sound, and the arrays of leaves are theirs
pub record AreSound (l : Lines) : Type 0 where
  pub nodes : AreNodes (nodes_of l.text.now)
  pub buffers : All (IsBufferLine (nodes_of l.text.now)) l.text.now.buffers
  pub leaves : l.leaves.now ≡ map table_of l.text.now.leaves
