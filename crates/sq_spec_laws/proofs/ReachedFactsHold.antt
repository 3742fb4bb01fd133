-- What is known of each call that is reached.
use Rattle.std.proofs.Common.{◌≡◌, ℕ, ◌+◌, List, [], ◌∷◌, map, Option, Ok, Err, slice_get, refl, sym, ap}
use Rattle.sq_text.specs.Names.{Bytes}
use Rattle.sq_ast.specs.declared.expr.ArgUse.{ArgUse}
use Rattle.sq_ast.specs.declared.program.Param.{Param}
use Rattle.sq_blocks.specs.Names.{Numbers}
use Rattle.sq_blocks.specs.declared.argument.Argument.{Argument}
use Rattle.sq_forms.specs.declared.args.Block.{Block}
use Rattle.sq_forms.specs.Faults.{Value, and_then}
use Rattle.sq_forms.specs.Args.{Names, block, mode_of, is_reduced}
use Rattle.sq_spec.specs.FormLaws.Insides.{arrays_of}
use Rattle.sq_spec.specs.FormLaws.Reached.{AreExamined}
use Rattle.sq_spec_laws.specs.ReachedFacts.{ReachedLieInside, FlagsAreOfText}
use Rattle.sq_spec.proofs.FormLaws.InsideHold.{all_good, begun_good, examined_lies}

pub reached_lie_inside : ReachedLieInside
reached_lie_inside variants mapping r k f x v begun binds many ran c h j a at =
    let good = all_good f.extents x.tunings v.decls begun ran.scope (begun_good f.extents v.params begun binds many) ran.declared in
    examined_lies (arrays_of f.extents ran.scope.locals) ran.scope.names ran.scope.arrays good h.numbers h.site.reduced h.callee.params 0 h.call.args h.arguments h.examined j a at

abbrev argument_okay : Argument → Value Argument
argument_okay x = Ok x

flag_made : (reduced : Option Bytes) (param : Option Param) (a : ArgUse) (x : Argument) (v : Value Block)
    → and_then v (λ b. argument_okay (record { mode = mode_of param; is_reduced = is_reduced reduced a; array = b.array; rect = b.rect })) ≡ Ok x
    → x.is_reduced ≡ is_reduced reduced a
flag_made reduced param a x (Ok b) h =
    let made : Argument = record { mode = mode_of param; is_reduced = is_reduced reduced a; array = b.array; rect = b.rect } in
    let is : made ≡ x = cc h in sym (ap (λ (y : Argument). y.is_reduced) is)
flag_made reduced param a x (Err e) h = absurd (cc h)

flags_are : (names : Names) (numbers : Numbers) (reduced : Option Bytes) (params : List Param) (i : ℕ) (list : List ArgUse) (xs : List Argument)
    → AreExamined names numbers reduced params i list xs → map (λ (a : Argument). a.is_reduced) xs ≡ map (is_reduced reduced) list
flags_are names numbers reduced params i [] [] h = refl
flags_are names numbers reduced params i [] (x ∷ xs) h = absurd h
flags_are names numbers reduced params i (a ∷ list) [] h = absurd h
flags_are names numbers reduced params i (a ∷ list) (x ∷ xs) h =
    let first = flag_made reduced (slice_get params i) a x (block names numbers a) h.0 in
    let rest = flags_are names numbers reduced params (i + 1) list xs h.1 in
    (λ d. first d ∷ rest d)

pub flags_are_of_text : FlagsAreOfText
flags_are_of_text frame names text c h = flags_are names h.numbers h.site.reduced h.callee.params 0 h.call.args h.arguments h.examined
