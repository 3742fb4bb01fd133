-- The statements of a form.
use Rattle.std.specs.Prelude.{List, []}
use Rattle.sq_spec.specs.declared.statement.Statement.{Statement}
use Rattle.sq_spec.specs.declared.body.Body.{Body}
use Rattle.sq_spec.specs.declared.body.Body.TheVariants as body

abbrev pub statements : Body → List Statement
statements (body.Leaf code) = []
statements (body.Inner list) = list
