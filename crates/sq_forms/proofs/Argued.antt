-- One more argument.
use Rattle.std.proofs.Common.{◌≡◌, ℕ, suc, ◌+◌, ◌<◌, List, [], ◌∷◌, ◌++◌, length, drop, get_or, drop-cons, Option, Ok, sym, ◌∙◌, ap, append_assoc, add-one}
use Rattle.std.specs.Prelude.{slice_get}
use Rattle.sq_text.specs.declared.place.Place.{Place}
use Rattle.sq_ast.specs.declared.expr.ArgUse.{ArgUse}
use Rattle.sq_ast.specs.declared.program.Param.{Param}
use Rattle.sq_text.specs.Names.{Bytes}
use Rattle.sq_blocks.specs.Names.{Numbers}
use Rattle.sq_blocks.specs.declared.argument.Argument.{Argument}
use Rattle.sq_forms.specs.Faults.{Value, fault_in}
use Rattle.sq_forms.specs.Steps.{Step, State, Tests, run}
use Rattle.sq_forms.specs.Args.{Names, argument, arguments, args_steps, use_step, with_value}

pub next_at : {A : Type 0} (i : ℕ) (xs : List A) (x : A) → i < length xs → x ≡ get_or xs i x → drop i xs ≡ x ∷ drop (i + 1) xs
next_at i xs x h e = drop-cons xs i x h ∙ (ap (λ y. y ∷ drop (suc i) xs) (sym e) ∙ ap (λ n. x ∷ drop n xs) (sym (add-one i)))

module _ (outer : Option Place) (names : Names) (numbers : Numbers) (reduced : Option Bytes) (params : List Param) where
  pub steps_more : (i : ℕ) (list : List ArgUse) (a : ArgUse) (param : Option Param) (x : Argument) (old mid : State) (later : List Step)
      → drop i list ≡ a ∷ drop (i + 1) list → param ≡ slice_get params i → argument names numbers reduced param a ≡ Ok x
      → ((l : List Step) → run old (use_step outer l) ≡ run mid l)
      → run old (args_steps outer names numbers reduced params i (drop i list) later) ≡ run mid (args_steps outer names numbers reduced params (i + 1) (drop (i + 1) list) later)
  steps_more i list a param x old mid later d p v u =
      let rest = args_steps outer names numbers reduced params (i + 1) (drop (i + 1) list) later in
      let w : argument names numbers reduced (slice_get params i) a ≡ Ok x = ap (λ o. argument names numbers reduced o a) (sym p) ∙ v in
      ap (λ l. run old (args_steps outer names numbers reduced params i l later)) d
      ∙ (u (Tests (fault_in (argument names numbers reduced (slice_get params i) a)) ∷ rest)
      ∙ ap (λ (o : Value Argument). run mid (Tests (fault_in o) ∷ rest)) w)

  pub list_more : (i : ℕ) (list : List ArgUse) (a : ArgUse) (param : Option Param) (x : Argument) (out new whole : List Argument)
      → drop i list ≡ a ∷ drop (i + 1) list → param ≡ slice_get params i → argument names numbers reduced param a ≡ Ok x
      → new ≡ out ++ x ∷ [] → out ++ arguments names numbers reduced params i (drop i list) ≡ whole
      → new ++ arguments names numbers reduced params (i + 1) (drop (i + 1) list) ≡ whole
  list_more i list a param x out new whole d p v n h =
      let rest = arguments names numbers reduced params (i + 1) (drop (i + 1) list) in
      let w : argument names numbers reduced (slice_get params i) a ≡ Ok x = ap (λ o. argument names numbers reduced o a) (sym p) ∙ v in
      let e : arguments names numbers reduced params i (drop i list) ≡ x ∷ rest =
      ap (arguments names numbers reduced params i) d ∙ ap (λ (o : Value Argument). with_value o rest) w in
      ap (λ l. l ++ rest) n ∙ (append_assoc out (x ∷ []) rest ∙ (ap (λ l. out ++ l) (sym e) ∙ h))
