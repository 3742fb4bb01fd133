-- What a command that runs writes of the text of the arrays that it leaves.
use Rattle.std.specs.Prelude.{ℕ, List}
use Rattle.sq_adder.specs.Sums.{text_sum}
use Rattle.sq_report.specs.Demo.{demo_line}
use Rattle.sq_words.specs.declared.words.Kind.{Kind}
use Rattle.sq_words.specs.declared.words.Kind.TheVariants.{Demo}
use Rattle.sq_words.specs.Words.{Way}
use Rattle.sq_driver.specs.Phases.{seed_in}

-- the line of the demo: its number, and the sum of the numbers of the text
abbrev pub demo_text : Way → List ℕ → List ℕ
demo_text way arrays = demo_line (seed_in way) (text_sum arrays)

-- all but the demo write the text
abbrev pub shown : Kind → Way → List ℕ → List ℕ
shown Demo way arrays = demo_text way arrays
shown kind way arrays = arrays
