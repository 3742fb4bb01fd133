-- A parameter at a call, from what was computed of it.
use Rattle.std.proofs.Common.{◌≡◌, List, ℤ, Option, ap, ap₂, ◌∙◌}
use Rattle.sq_num.specs.declared.RedOp.{RedOp}
use Rattle.sq_ast.specs.declared.program.Mode.{Mode}
use Rattle.sq_ir.specs.Leaf.declared.shape.Shape.{Shape}
use Rattle.sq_ir.specs.declared.num.Num.{Num}
use Rattle.sq_ir.specs.declared.term.LeafView.{LeafView}
use Rattle.sq_tables.specs.Placed.declared.home.Home.{Home}
use Rattle.sq_tables.specs.Term.declared.context.Move.{Move}
use Rattle.sq_tables.specs.Term.Terms.{block_view, own_view}

abbrev move_with : Mode → Option RedOp → Shape → Home → LeafView → Move
move_with mode gathers shape home outside
    = record { mode = mode; gathers = gathers; home = home; outside = outside; own = own_view shape home outside }

pub move_made : (mode : Mode) (gathers gathers' : Option RedOp) (shape shape' : Shape) (home home' : Home)
    (table table' : Option (List ℤ)) (number : Num) (v outside : LeafView)
    → gathers ≡ gathers' → shape ≡ shape' → home ≡ home' → table ≡ table' → outside
    ≡ block_view table number shape.extents v
    → move_with mode gathers shape home outside
    ≡ move_with mode gathers' shape' home' (block_view table' number shape'.extents v)
move_made mode gathers gathers' shape shape' home home' table table' number v outside g s h t o =
    ap (move_with mode gathers shape home) (o ∙ ap (λ (x : Option (List ℤ)). block_view x number shape.extents v) t)
    ∙ ap (λ (x : Shape). move_with mode gathers x home (block_view table' number x.extents v)) s
    ∙ ap₂ (λ (x : Option RedOp) (y : Home). move_with mode x shape' y (block_view table' number shape'.extents v)) g h
