-- Each `mapreduce` of a form's tables has one call as its body.
use Rattle.std.specs.Prelude.{◌≡◌, Bool, true, false, ◌&&◌, List, [], ◌∷◌, map}
use Rattle.sq_num.specs.declared.Elem.{Elem}
use Rattle.sq_ast.specs.Forms.{are_formed_stmts}
use Rattle.sq_ast.specs.declared.stmt.Stmt.{Stmt}
use Rattle.sq_blocks.specs.Names.{Numbers}
use Rattle.sq_spec.specs.declared.statement.LoopKind.{LoopKind}
use Rattle.sq_spec.specs.declared.statement.LoopKind.TheVariants as loop_kind
use Rattle.sq_spec.specs.declared.statement.Statement.{Statement}
use Rattle.sq_spec.specs.declared.statement.Statement.TheOpen.{Statement-F}
use Rattle.sq_spec.specs.declared.statement.Statement.TheFolds.{fold-Statement}
use Rattle.sq_forms.specs.Args.{Names}
use Rattle.sq_spec.specs.Statements.{tables}
use Rattle.sq_forms.specs.Steps.{Forms}
use Rattle.sq_forms.specs.Worlds.{Frame}

-- whether it is a call, and whether each `mapreduce` in it has one call as its body
pub record Kind : Type 0 where
  pub is_call : Bool
  pub ones : Bool

abbrev pub all_ones : List Kind → Bool
all_ones [] = true
all_ones (k ∷ ks) = k.ones && all_ones ks

abbrev pub one_call : List Kind → Bool
one_call [] = false
one_call (k ∷ []) = k.is_call
one_call (k ∷ j ∷ ks) = false

abbrev pub body_ones : LoopKind → List Kind → Bool
body_ones loop_kind.Sequential ks = all_ones ks
body_ones loop_kind.Parallel ks = all_ones ks
body_ones (loop_kind.Reduction r) ks = one_call ks

abbrev pub kind_step : Statement-F Kind → Kind
kind_step (Statement-F.Call lower times) = record { is_call = true; ones = true }
kind_step (Statement-F.Map place m counts starts parts) = record { is_call = false; ones = body_ones m parts }

abbrev pub kind_of : Statement → Kind
kind_of = fold-Statement Kind kind_step

-- Of statements that the grammar gives.
abbrev pub ReductionsAreOfOne : Type 0
ReductionsAreOfOne = (forms : Forms) (frame : Frame) (names : Names) (elems : List Elem) (numbers : Numbers)
    (list : List Stmt) → are_formed_stmts list ≡ true
    → all_ones (map kind_of (tables forms frame names elems numbers list)) ≡ true
