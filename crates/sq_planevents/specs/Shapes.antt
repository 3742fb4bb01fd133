-- The arrays of leaves, as views are compared with them.
use Rattle.std.specs.Prelude.{List, [], ◌∷◌, ◌++◌, map}
use Rattle.sq_ast.specs.declared.program.Variant.{Variant}
use Rattle.sq_blocks.specs.Names.{Numbers, with_number}
use Rattle.sq_leaf.specs.Leaf.{written_of}
use Rattle.sq_ir.specs.Events as events
use Rattle.sq_ir.specs.DraftLeaves.{param_shape, local_shapes}
use Rattle.sq_plantext.specs.declared.text.Binding.{Binding}
use Rattle.sq_plantext.specs.declared.text.LeafText.{LeafText}
use Rattle.sq_planevents.specs.declared.shapes.Shape.{Shape}
use Rattle.sq_planevents.specs.declared.shapes.LeafShapes.{LeafShapes}

abbrev pub kept : events.Shape → Shape
kept s = record { elem = s.elem; extents = s.extents }

abbrev pub shapes_in : Variant → Numbers → List Shape
shapes_in v numbers = map kept (map (param_shape numbers) v.params) ++ map kept (local_shapes numbers v.decls)

abbrev pub pairs : List Binding → Numbers
pairs bindings = map (λ b. (b.name, b.value)) bindings

-- of each name that is bound the first number, behind others
abbrev pub bound : Numbers → List Binding → Numbers
bound numbers [] = numbers
bound numbers (b ∷ bs) = bound (with_number numbers b.name b.value) bs

abbrev pub table_of : LeafText → LeafShapes
table_of l = record { shapes = shapes_in l.task (pairs l.numbers); written = written_of l.task }
