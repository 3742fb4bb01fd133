-- The lines of the leaves of a program's plan are sound and can be read.
use Rattle.std.proofs.Common.{◌≡◌, sym, subst}
use Rattle.std.specs.List.{All}
use Rattle.sq_planfile.specs.Files.{numbers_of}
use Rattle.sq_planfile.specs.Sound.{IsLeafText}
use Rattle.sq_planfile.specs.Written.{text_of}
use Rattle.sq_filed_laws.specs.LayoutLaws.Readable.{IsReadableLeaf}
use Rattle.sq_compiled_laws.specs.Compiled.{CompiledLeavesAreSound}
use Rattle.sq_compiled_laws.proofs.LeafNames.{all_each}
use Rattle.sq_compiled_laws.proofs.LeafForms.{LeafHolds, all_mapped, leaves_hold}

pub leaves_sound : CompiledLeavesAreSound
leaves_sound r f c =
    let leaves = f.plan.draft.leaves in
    let all : All LeafHolds leaves
    = subst (All LeafHolds) (sym c.placed.its.leaves) (leaves_hold r c.read) in
    record {
      numbers = all_each LeafHolds (λ l. numbers_of (text_of l) ≡ l.code.numbers) leaves (λ l h. h.numbers) all;
      sound = all_mapped IsLeafText text_of leaves
          (all_each LeafHolds (λ l. IsLeafText (text_of l)) leaves (λ l h. h.sound) all);
      readable = all_mapped IsReadableLeaf text_of leaves
          (all_each LeafHolds (λ l. IsReadableLeaf (text_of l)) leaves (λ l h. h.readable) all);
    }
