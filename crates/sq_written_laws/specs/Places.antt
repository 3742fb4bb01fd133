-- What is the same of leaves whose texts differ in places alone.
use Rattle.std.specs.Prelude.{◌≡◌, Option, Some, None, Result, Ok, Err, List}
use Rattle.sq_ast.specs.declared.program.Variant.{Variant}
use Rattle.sq_ast.specs.Unplaced.{bare_variant}
use Rattle.sq_blocks.specs.Names.{Numbers}
use Rattle.sq_leaf.specs.declared.shape.Shape.{Shape}
use Rattle.sq_leaf.specs.declared.trap.Trap.{Trap}
use Rattle.sq_leaf.specs.Source.{Arrays}
use Rattle.sq_leaf.specs.Leaf.{leaf_value}

-- two computations end alike: with the same value, or with traps of one kind
abbrev pub EndAlike : {A : Type 0} → Result A Trap → Result A Trap → Type 0
EndAlike (Ok x) (Ok y) = x ≡ y
EndAlike (Ok x) (Err u) = ⊥
EndAlike (Err t) (Ok y) = ⊥
EndAlike (Err t) (Err u) = t.kind ≡ u.kind

-- Leaves that are the same but for their places, with the same numbers, mean the same, but for the place of a trap.
abbrev pub LeavesMeanTheSame : Type 0
LeavesMeanTheSame =
    (v u : Variant) → bare_variant v ≡ bare_variant u → (numbers : Numbers) (shapes : List Shape) (a : Arrays)
    → EndAlike (leaf_value (record { variant = v; numbers = numbers }) shapes a)
    (leaf_value (record { variant = u; numbers = numbers }) shapes a)
