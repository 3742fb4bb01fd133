-- How `check` ends where its file holds a program.
use Rattle.std.proofs.Common.{◌≡◌, ℕ, List, [], ◌∷◌, codes, Option, Ok, Err, refl, subst}
use Rattle.sq_port.specs.Ports.{Content}
use Rattle.sq_text.specs.declared.code.Phase.TheVariants.{Types}
use Rattle.sq_text.specs.declared.fault.Fault.{Fault}
use Rattle.sq_text.specs.declared.fault.Stop.{Stop}
use Rattle.sq_text.specs.declared.fault.Stop.TheVariants.{Refused as Refusal}
use Rattle.sq_text.specs.Answers.{Answers}
use Rattle.sq_ast.specs.declared.program.Program.{Program as Tree}
use Rattle.sq_types.specs.Sites.{TypeFault}
use Rattle.sq_tree.specs.Bank.{BankSeen}
use Rattle.sq_driver.specs.declared.outside.end.End.TheVariants.{Refused}
use Rattle.sq_words.specs.Words.{check_of}
use Rattle.sq_driver.specs.Meaning.{done, Means}
use Rattle.sq_driver.specs.Steps.{Stopped, ReadsTree}
use Rattle.sq_driver.proofs.ProgramPhases.{BeginsWith, one, types_stops, types_passed}

abbrev pub begins_check : (name : List ℕ) → BeginsWith (check_of name) name
begins_check name = record { rest = Types ∷ []; split = refl; file = refl }

module _ (name : List ℕ) (told : Option Content) (tree : Tree) (reads : ReadsTree told name (Ok tree)) where
  pub types_stop : (bank : BankSeen) (stop : Stop) (its : Fault) → stop ≡ Refusal its
      → Answers {A = Tree} (TypeFault tree) (Err stop) → Stopped (check_of name) told bank bank (Refused its)
  types_stop bank stop its is has = types_stops (check_of name) name (begins_check name) told tree reads [] refl bank
      (Refused its) (λ c at. subst (λ (s : Stop). Answers {A = Tree} (TypeFault tree) (Err s)) is has)

  pub check_means : ((f : Fault) → TypeFault tree f → ⊥) → Means (check_of name) told (done (codes "ok\n") [])
  check_means none = record {
    names = tt;
    cause = λ c is. (
      types_passed (check_of name) name (begins_check name) told tree reads [] refl none c
          (one (check_of name) name (begins_check name) told c is),
      refl,
      λ trap no. no,
    );
  }
