-- The run that the demo is.
use Rattle.std.specs.Prelude.{ℕ, false, codes}
use Rattle.sq_words.specs.Words.{seed, with_no_file, Command, run_of}

-- over its own texts, by their names
abbrev pub demo_run : ℕ → Command
demo_run n = run_of (codes "program") (codes "mapping") (codes "machine") (codes "data") (with_no_file (seed n)) false
