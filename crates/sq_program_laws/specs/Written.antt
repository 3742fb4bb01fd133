-- The plan of a program's entry is its term written out.
use Rattle.std.specs.Prelude.{◌≡◌, ℕ, List, length, map}
use Rattle.sq_blocks.specs.declared.argument.Argument.{Argument}
use Rattle.sq_spec.specs.declared.body.FormBody.{FormBody}
use Rattle.sq_ir.specs.Written.{Setting, at_root, scoped, written}
use Rattle.sq_placed.specs.declared.home.Homes.{Homes}
use Rattle.sq_placed.specs.Tables.{entry_placed}
use Rattle.sq_placed.specs.Pipes.{PipesStand}
use Rattle.sq_term_laws.specs.Term.Terms.{entry_term, buffer_or}
use Rattle.sq_term_laws.specs.Term.Stands.{AreLeveled}
use Rattle.sq_plan_laws.specs.Entry.{plan_tree}
use Rattle.sq_program_laws.specs.Entry.{entry_shapes}

-- Written out, with the entry's buffers in scope round it, the entry's term is the tree of its plan.
abbrev pub PlansAreWritten : Type 0
PlansAreWritten = (s : Setting) (bodies : ℕ → FormBody) (homes : ℕ → Homes) (level : ℕ → ℕ)
    → AreLeveled s bodies homes level → PipesStand bodies homes → level 0 ≡ 0 → s.level 0 ≡ 0
    → (n : ℕ) (args : List Argument) → length args ≡ length (homes 0).params
    → scoped 0 (map buffer_or (homes 0).params) (written s (entry_term bodies homes n args) at_root)
    ≡ plan_tree s (entry_placed bodies homes n args) (entry_shapes bodies args) (map buffer_or (homes 0).params)
