-- The text that lines are laid out as, read again.
use Rattle.std.specs.Prelude.{ℕ, List}
use Rattle.sq_text.specs.declared.code.Phase.TheVariants.{Plan}
use Rattle.sq_lexer.specs.Faults.{FitsFile}
use Rattle.sq_plantext.specs.Layout.{laid_out}
use Rattle.sq_plantext.specs.declared.text.PlanText.{PlanText}
use Rattle.sq_planfile.specs.Faults.{Writes}
use Rattle.sq_unplaced_laws.specs.Unplaced.{AreSame}
use Rattle.sq_layout_laws.specs.Readable.{IsReadable}

-- these lines, but for their places, are what the text stands for
pub record IsReadAs (text : List ℕ) (x : PlanText) : Type 0 where
  pub lines : PlanText
  pub writes : Writes text lines
  pub same : AreSame x lines

-- Lines that can be read, laid out as a text that isn't too long, are read back.
abbrev pub LaidOutReadBack : Type 0
LaidOutReadBack = (x : PlanText) → IsReadable x → FitsFile Plan (laid_out x) → IsReadAs (laid_out x) x
