-- How `fmt` ends where its file holds a program.
use Rattle.std.proofs.Common.{◌≡◌, ℕ, List, [], Option, Ok, refl}
use Rattle.sq_port.specs.Ports.{Content}
use Rattle.sq_ast.specs.declared.program.Program.{Program as Tree}
use Rattle.sq_ast.specs.Canonical.{canonical}
use Rattle.sq_words.specs.Words.{fmt_of}
use Rattle.sq_driver.specs.Meaning.{done, Means}
use Rattle.sq_driver.specs.Steps.{ReadsTree}
use Rattle.sq_driver.proofs.ProgramPhases.{BeginsWith, one, program_passed, program_is}

abbrev pub begins_fmt : (name : List ℕ) → BeginsWith (fmt_of name) name
begins_fmt name = record { rest = []; split = refl; file = refl }

pub fmt_means : (name : List ℕ) (told : Option Content) (tree : Tree) → ReadsTree told name (Ok tree)
    → (text : List ℕ) → text ≡ canonical tree → Means (fmt_of name) told (done text [])
fmt_means name told tree reads text same = record {
  names = tt;
  cause = λ c is.
      let held = reads c (one (fmt_of name) name (begins_fmt name) told c is) in (
        (program_passed (fmt_of name) name (begins_fmt name) told tree c held, tt),
        record {
          tree = tree;
          program_is = program_is (fmt_of name) name (begins_fmt name) told tree c held;
          text =
              same;
        },
        λ trap no. no,
      );
}
