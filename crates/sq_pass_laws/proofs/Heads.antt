-- The arguments of a call differ in their blocks alone, whatever the numbers are with which it is reached.
use Rattle.std.proofs.Common.{◌≡◌, ℕ, ◌+◌, List, [], ◌∷◌, map, slice_get, Option, Ok, Err, refl}
use Rattle.std.proofs.Common.{sym}
use Rattle.std.proofs.Common.{◌∙◌, ap, ap₂}
use Rattle.sq_text.specs.Names.{Bytes}
use Rattle.sq_ast.specs.declared.expr.ArgUse.{ArgUse, out-ArgUse}
use Rattle.sq_ast.specs.declared.program.Param.{Param}
use Rattle.sq_blocks.specs.Names.{Numbers}
use Rattle.sq_blocks.specs.declared.argument.Argument.{Argument}
use Rattle.sq_forms.specs.declared.args.Block.{Block}
use Rattle.sq_forms.specs.Faults.{Value, and_then}
use Rattle.sq_forms.specs.Args.{Names}
use Rattle.sq_forms.specs.Args.{block, mode_of, is_reduced}
use Rattle.sq_form_laws.specs.Reached.{AreExamined}
use Rattle.sq_draft_laws.proofs.ProgramLaws.RowsHold.{array_of, array_by}
use Rattle.sq_pass_laws.proofs.Staying.{word}

abbrev found_argument : Argument → Value Argument
found_argument x = Ok x

-- what is the same of an argument each time
abbrev word_of : Names → Option Bytes → Option Param → ArgUse → Argument
word_of names reduced param a = record {
  mode = mode_of param;
  is_reduced = is_reduced reduced a;
  array = array_of names a (out-ArgUse a).index;
  rect = [];
}

word_is : (names : Names) (numbers : Numbers) (reduced : Option Bytes) (param : Option Param) (a : ArgUse)
    (x : Argument)
    (v : Value Block) → block names numbers a ≡ v
    → and_then v (λ y. found_argument (record {
      mode = mode_of param;
      is_reduced = is_reduced reduced a;
      array = y.array;
      rect = y.rect;
    }))
    ≡ Ok x
    → word x ≡ word_of names reduced param a
word_is names numbers reduced param a x (Ok y) e h =
    let made : Argument = record {
      mode = mode_of param;
      is_reduced = is_reduced reduced a;
      array = y.array;
      rect = y.rect;
    } in
    let is : made ≡ x = cc h in
    ap word (sym is)
    ∙ ap (λ (n : ℕ). record { mode = mode_of param; is_reduced = is_reduced reduced a; array = n; rect = [] })
    (array_by names numbers a (out-ArgUse a).index y e)
word_is names numbers reduced param a x (Err f) e h = absurd (cc h)

abbrev pub words_of : Names → Option Bytes → List Param → ℕ → List ArgUse → List Argument
words_of names reduced params i [] = []
words_of names reduced params i (a ∷ list) =
    word_of names reduced (slice_get params i) a ∷ words_of names reduced params (i + 1) list

pub words_are : (names : Names) (numbers : Numbers) (reduced : Option Bytes) (params : List Param) (i : ℕ)
    (list : List ArgUse) (xs : List Argument) → AreExamined names numbers reduced params i list xs
    → map word xs ≡ words_of names reduced params i list
words_are names numbers reduced params i [] [] h = refl
words_are names numbers reduced params i [] (x ∷ xs) h = absurd h
words_are names numbers reduced params i (a ∷ list) [] h = absurd h
words_are names numbers reduced params i (a ∷ list) (x ∷ xs) h =
    ap₂ (λ (y : Argument) (ys : List Argument). y ∷ ys)
    (word_is names numbers reduced (slice_get params i) a x (block names numbers a) refl h.0)
    (words_are names numbers reduced params (i + 1) list xs h.1)
