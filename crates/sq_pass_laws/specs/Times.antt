-- How often the statements of a form are begun in one run of it, by their tables.
use Rattle.std.specs.Prelude.{◌≡◌, ◌⊎◌, ℕ, List, [], length}
use Rattle.sq_spec.specs.declared.statement.Statement.{Statement}
use Rattle.sq_spec.specs.declared.statement.Statement.TheOpen.{Statement-F}
use Rattle.sq_spec.specs.declared.statement.Statement.TheFolds.{rec-Statement}
use Rattle.sq_spec.specs.declared.body.Body.{Body}
use Rattle.sq_spec.specs.declared.body.Body.TheVariants as body
use Rattle.sq_spec.specs.Statements.{starts_from}
use Rattle.sq_draft_laws.specs.TermLaws.Fits.{AskedOfStatement, all_parts}
use Rattle.sq_pipe.specs.Hoist.Counts.{total}

-- one for each time, or none where there is no iteration at any time
abbrev pub AreCounts : List ℕ → (times : ℕ) → Type 0
AreCounts counts n = (counts ≡ []) ⊎ (length counts ≡ n)

-- A statement that is begun n times: a call has a row for each time, a map a count and a start, and the body of the
-- map is begun once for each iteration.
abbrev pub times_step : (X : Type 0) → (X → Statement) → (X → AskedOfStatement) → Statement-F X → AskedOfStatement
times_step X it asked (Statement-F.Call lower rows) n = length rows ≡ n
times_step X it asked (Statement-F.Map place m counts starts parts) n =
    AreCounts counts n × (starts ≡ starts_from 0 counts) × all_parts asked parts (total counts)

abbrev pub IsBegun : Statement → AskedOfStatement
IsBegun = rec-Statement AskedOfStatement times_step

-- the statements of a form are begun once each
abbrev pub BodyIsBegun : Body → Type 0
BodyIsBegun (body.Leaf code) = Unit {0}
BodyIsBegun (body.Inner list) = all_parts IsBegun list 1
