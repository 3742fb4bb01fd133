-- What the test of a buffer tells.
use Rattle.std.proofs.Common.{◌≡◌, ◌-◌, ◌^◌, true, leb, Decides, arith}
use Rattle.std.proofs.lemmas.Bool.{leb-true, le-leb, and_parts, and_from}
use Rattle.sq_ir.specs.Machines.{AreNodes}
use Rattle.sq_plantext.specs.declared.text.NodeLine.{NodeLine}
use Rattle.sq_plantext.specs.declared.text.BufferLine.{BufferLine}
use Rattle.sq_planfile.specs.Sound.{IsBufferLine}
use Rattle.sq_planheads.specs.Nodes.{deepest}
use Rattle.sq_planheads.specs.Buffers.{is_buffer}
use Rattle.sq_planheads.proofs.Members.{in_contains, contains_in}
use Rattle.sq_planheads.proofs.NodesTell.{nodes, level_there, level_within}
use Rattle.std.specs.Prelude.{List}

module _ (ns : List NodeLine) (are : AreNodes (nodes ns)) (b : BufferLine) where
  sound : is_buffer (deepest 0 ns) b ≡ true → IsBufferLine (nodes ns) b
  sound h =
      let p = and_parts (leb b.level (deepest 0 ns)) _ h in
      let q = and_parts (leb b.offset (2 ^ 30)) (leb b.size (2 ^ 30 - b.offset)) p.1 in
      let n = level_there ns are b.level (leb-true b.level (deepest 0 ns) p.0) in
      let offset = leb-true b.offset (2 ^ 30) q.0 in
      let size = leb-true b.size (2 ^ 30 - b.offset) q.1 in
      record { node = n.0; there = contains_in (nodes ns) n.0 n.1; level = n.2; within = omega (arith, offset, size) }

  complete : IsBufferLine (nodes ns) b → is_buffer (deepest 0 ns) b ≡ true
  complete h =
      let level = level_within ns h.node (in_contains (nodes ns) h.node h.there) in
      let same = h.level in
      let within = h.within in
      and_from _ _ (le-leb b.level (deepest 0 ns) (omega (arith, level, same)))
      (and_from _ _ (le-leb b.offset (2 ^ 30) (omega (arith, within))) (le-leb b.size (2 ^ 30 - b.offset) (omega (arith, within))))

  pub buffer_tells : Decides (is_buffer (deepest 0 ns) b) (IsBufferLine (nodes ns) b)
  buffer_tells = (sound, complete)
