use Rattle.std.proofs.Common.{[], arith}
use Rattle.sq_placed.specs.Trees.{tree}
use Rattle.sq_placed.specs.Tables.{entry_placed}
use Rattle.sq_nests.proofs.Aside.{aside-scoped}
use Rattle.sq_term_laws.proofs.Sides.{have_sides}
use Rattle.sq_term_laws.proofs.Spread.{spread_well}
use Rattle.sq_term_laws.proofs.laws.drafts_are_aside.Goals as goal

pub returns-clause-aside : goal.returns-clause-aside
returns-clause-aside c = λ s depth forest levels some x level node child seats path e g h.
    (have_sides s depth forest levels some x level node child seats path e g h).whole.aside

pub returns-clause-entry_aside : goal.returns-clause-entry_aside
returns-clause-entry_aside c = λ s depth forest levels some root bodies homes n args seats entry h.
    aside-scoped 0 entry (tree s (entry_placed bodies homes n args) 0 0 seats [])
    (have_sides s depth forest levels some (entry_placed bodies homes n args) 0 0 0 seats [] root
    (λ l. some 0 (omega (arith, l, root))) h).whole.aside

pub returns-clause-spread : goal.returns-clause-spread
returns-clause-spread c = spread_well
