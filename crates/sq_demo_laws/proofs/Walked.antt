-- What the walk over the forms meets in the statements of the demo, by functions that compute.
use Rattle.std.proofs.Common.{◌≡◌, ℤ, List, [], ◌∷◌, map, codes, Option, Some, None, Ok, refl, ◌∙◌, ap, slice_get}
use Rattle.std.proofs.Math.Path.{fun_ext}
use Rattle.sq_text.specs.declared.place.Place.{Place}
use Rattle.sq_text.specs.declared.word.Word.{Word}
use Rattle.sq_text.specs.Names.{Bytes}
use Rattle.sq_ast.specs.declared.expr.ArgUse.{ArgUse, out-ArgUse}
use Rattle.sq_ast.specs.declared.expr.BinOp.TheVariants as op
use Rattle.sq_ast.specs.declared.expr.Expr.TheVariants as e
use Rattle.sq_ast.specs.declared.stmt.MapKind.{MapKind}
use Rattle.sq_ast.specs.declared.stmt.MapKind.TheVariants.{Par, Seq}
use Rattle.sq_ast.specs.declared.stmt.Range.{Range}
use Rattle.sq_ast.specs.declared.stmt.Stmt.TheVariants as s
use Rattle.sq_ast.specs.declared.stmt.Stmt.TheOpen.{Stmt-F}
use Rattle.sq_ast.specs.declared.program.Param.{Param}
use Rattle.sq_ast.specs.Grammar.{link_of, use_of}
use Rattle.sq_blocks.specs.Names.{Numbers, Lists, number_of}
use Rattle.sq_blocks.specs.Constants.{Worth, worth, then_by, binary}
use Rattle.sq_blocks.specs.declared.argument.Argument.{Argument}
use Rattle.sq_blocks.proofs.Opened.{turn_out, worth_name, worth_chain}
use Rattle.sq_forms.specs.Faults.{Value, fault_in, and_then}
use Rattle.sq_forms.specs.Steps.{Part, Step, Tests}
use Rattle.sq_forms.specs.Args.{Names, at_fault, before, worths, block_or_fault, block_in, mode_of, is_reduced, argument, arguments, with_value, use_step, args_steps}
use Rattle.sq_forms.specs.Worlds.{Frame, Callee, callee_of}
use Rattle.sq_forms.specs.Calls.{CallSite, call_steps, served_steps, reached_steps}
use Rattle.sq_forms.specs.Stmts.{bounds, Walked, Portion, all_of, portion, stmt_step, map_steps, opens, outermost, within, iterations_steps}
use Rattle.sq_forms.proofs.OpenedStmt.{portion_call, portion_map}
use Rattle.sq_demo_laws.specs.Tree.{word, bound_i, bound_j, bound_k, argument_Ab, argument_Bb, argument_Cb, product_call, products_map, blocks_map}
use Rattle.sq_demo_laws.specs.Texts.{at}

-- ---- constants

-- a name's number
abbrev pub named : Word → Worth
named w numbers lists = Ok (number_of numbers w.name)

pub worth_named : (w : Word) → worth (e.Name w) ≡ named w
worth_named w = worth_name w

-- one name's number by another's
abbrev pub quotient : (x y : Word) → Place → Worth
quotient x y p numbers lists = then_by (binary p op.Div (number_of numbers x.name) (number_of numbers y.name))
    (λ n. Ok n)

pub worth_quotient : (x y : Word) (p : Place) → worth (e.Chain (e.Name x) (link_of p op.Div (e.Name y) ∷ [])) ≡ quotient
    x y p
worth_quotient x y p = fun_ext
    (λ numbers. fun_ext (λ lists. rw (worth_chain, worth_named x, turn_out, worth_named y) refl))

pub worths_named : (x y : Word) (numbers : Numbers) (lists : Lists)
    → worths (e.Name x ∷ e.Name y ∷ []) numbers lists ≡ Ok (number_of numbers x.name ∷ number_of numbers y.name ∷ [])
worths_named x y numbers lists = rw (worth_named x, worth_named y) refl

-- ---- maps

abbrev pub bounds_with : List Worth → Numbers → Lists → Value (List ℤ)
bounds_with [] numbers lists = Ok []
bounds_with (w ∷ ws) numbers lists = and_then (at_fault (w numbers lists))
    (λ n. before n (bounds_with ws numbers lists))

abbrev pub worths_of : List Range → List Worth
worths_of rs = map (λ r. worth r.bound) rs

pub bounds_are : (rs : List Range) (numbers : Numbers) (lists : Lists)
    → bounds rs numbers lists ≡ bounds_with (worths_of rs) numbers lists
bounds_are [] numbers lists = refl
bounds_are (r ∷ rs) numbers lists =
    ap (λ (b : Value (List ℤ)). and_then (at_fault (worth r.bound numbers lists)) (λ n. before n b))
    (bounds_are rs numbers lists)

abbrev pub map_with : Place → MapKind → List Range → List Worth → Walked → Walked
map_with place kind ranges ws body frame names site numbers later =
    opens site.outer (iterations_steps (outermost site.outer place) (within site place kind) ranges body
    (bounds_with ws numbers names.lists) frame names numbers later)

map_is : (place : Place) (kind : MapKind) (ranges : List Range) (body : Walked)
    → map_steps place kind ranges body ≡ map_with place kind ranges (worths_of ranges) body
map_is place kind ranges body =
    fun_ext (λ frame. fun_ext (λ names. fun_ext (λ site. fun_ext (λ numbers. fun_ext (λ later.
    ap (λ b. opens site.outer
    (iterations_steps (outermost site.outer place) (within site place kind) ranges body b frame names numbers
    later))
    (bounds_are ranges numbers names.lists))))))

abbrev pub range_i : Range
range_i = record { place = at 8 15; name = codes "i"; bound = bound_i }

abbrev pub range_j : Range
range_j = record { place = at 8 33; name = codes "j"; bound = bound_j }

abbrev pub range_k : Range
range_k = record { place = at 9 17; name = codes "k"; bound = bound_k }

abbrev pub quotient_i : Worth
quotient_i = quotient (word 8 24 (codes "M")) (word 8 26 (codes "U")) (at 8 25)

abbrev pub quotient_j : Worth
quotient_j = quotient (word 8 42 (codes "N")) (word 8 44 (codes "V")) (at 8 43)

abbrev pub quotient_k : Worth
quotient_k = quotient (word 9 26 (codes "P")) (word 9 28 (codes "X")) (at 9 27)

pub is_quotient_i : worth bound_i ≡ quotient_i
is_quotient_i = worth_quotient (word 8 24 (codes "M")) (word 8 26 (codes "U")) (at 8 25)

pub is_quotient_j : worth bound_j ≡ quotient_j
is_quotient_j = worth_quotient (word 8 42 (codes "N")) (word 8 44 (codes "V")) (at 8 43)

pub is_quotient_k : worth bound_k ≡ quotient_k
is_quotient_k = worth_quotient (word 9 26 (codes "P")) (word 9 28 (codes "X")) (at 9 27)

-- ---- the call

module _ (names : Names) (numbers : Numbers) (reduced : Option Bytes) where
  -- an argument with two names as its indices
  abbrev pub argument_with : Option Param → ArgUse → (x y : Bytes) → Value Argument
  argument_with param a x y =
      and_then (block_or_fault a (block_in names (out-ArgUse a).name (number_of numbers x ∷ number_of numbers y ∷ [])))
      (λ b. Ok (record { mode = mode_of param; is_reduced = is_reduced reduced a; array = b.array; rect = b.rect }))

  argument_is : (param : Option Param) (w x y : Word)
      → argument names numbers reduced param (use_of w (e.Name x ∷ e.Name y ∷ [])) ≡ argument_with param
      (use_of w (e.Name x ∷ e.Name y ∷ [])) x.name y.name
  argument_is param w x y =
      let a : ArgUse = use_of w (e.Name x ∷ e.Name y ∷ []) in
      ap (λ (v : Value (List ℤ)). and_then
      (and_then v (λ index. block_or_fault a (block_in names (out-ArgUse a).name index)))
      (λ b. Ok (record { mode = mode_of param; is_reduced = is_reduced reduced a; array = b.array; rect = b.rect })))
      (worths_named x y numbers names.lists)

  abbrev pub first_with : List Param → Value Argument
  first_with params = argument_with (slice_get params 0) argument_Ab (codes "i") (codes "k")

  abbrev pub second_with : List Param → Value Argument
  second_with params = argument_with (slice_get params 1) argument_Bb (codes "k") (codes "j")

  abbrev pub third_with : List Param → Value Argument
  third_with params = argument_with (slice_get params 2) argument_Cb (codes "i") (codes "j")

  pub first_is : (params : List Param) → argument names numbers reduced (slice_get params 0) argument_Ab ≡ first_with
      params
  first_is params = argument_is (slice_get params 0) (word 10 14 (codes "Ab")) (word 10 17 (codes "i"))
      (word 10 20 (codes "k"))

  pub second_is : (params : List Param) → argument names numbers reduced (slice_get params 1) argument_Bb ≡ second_with
      params
  second_is params = argument_is (slice_get params 1) (word 10 24 (codes "Bb")) (word 10 27 (codes "k"))
      (word 10 30 (codes "j"))

  pub third_is : (params : List Param) → argument names numbers reduced (slice_get params 2) argument_Cb ≡ third_with
      params
  third_is params = argument_is (slice_get params 2) (word 10 34 (codes "Cb")) (word 10 37 (codes "i"))
      (word 10 40 (codes "j"))

  abbrev pub list_with : (u v w : Value Argument) → List Argument
  list_with u v w = with_value u (with_value v (with_value w []))

  abbrev pub arguments_with : List Param → List Argument
  arguments_with params = list_with (first_with params) (second_with params) (third_with params)

  pub arguments_are : (params : List Param) → arguments names numbers reduced params 0 product_call.args ≡
      arguments_with params
  arguments_are params =
      ap (λ u. list_with u (argument names numbers reduced (slice_get params 1) argument_Bb)
      (argument names numbers reduced (slice_get params 2) argument_Cb)) (first_is params)
      ∙ ap (λ v. list_with (first_with params) v (argument names numbers reduced (slice_get params 2) argument_Cb))
      (second_is params)
      ∙ ap (λ w. list_with (first_with params) (second_with params) w) (third_is params)

  abbrev pub steps_with : Option Place → (u v w : Value Argument) → Part
  steps_with outer u v w later =
      use_step outer (Tests (fault_in u)
      ∷ use_step outer (Tests (fault_in v) ∷ use_step outer (Tests (fault_in w) ∷ later)))

  pub steps_are : (outer : Option Place) (params : List Param) (later : List Step)
      → args_steps outer names numbers reduced params 0 product_call.args later
      ≡ steps_with outer (first_with params) (second_with params) (third_with params) later
  steps_are outer params later =
      ap (λ u. steps_with outer u (argument names numbers reduced (slice_get params 1) argument_Bb)
      (argument names numbers reduced (slice_get params 2) argument_Cb) later) (first_is params)
      ∙ ap (λ v. steps_with outer (first_with params) v
      (argument names numbers reduced (slice_get params 2) argument_Cb) later) (second_is params)
      ∙ ap (λ w. steps_with outer (first_with params) (second_with params) w later) (third_is params)

abbrev pub served_with : Frame → Names → CallSite → Numbers → Option Callee → Part
served_with frame names site numbers None later = later
served_with frame names site numbers (Some callee) later =
    steps_with names numbers site.reduced site.outer (first_with names numbers site.reduced callee.params)
    (second_with names numbers site.reduced callee.params) (third_with names numbers site.reduced callee.params)
    (reached_steps frame callee site product_call (arguments_with names numbers site.reduced callee.params) later)

served_is : (frame : Frame) (names : Names) (site : CallSite) (numbers : Numbers) (o : Option Callee)
    (later : List Step)
    → served_steps frame names site numbers product_call o later ≡ served_with frame names site numbers o later
served_is frame names site numbers None later = refl
served_is frame names site numbers (Some callee) later =
    ap (λ xs. args_steps site.outer names numbers site.reduced callee.params 0 product_call.args
    (reached_steps frame callee site product_call xs later))
    (arguments_are names numbers site.reduced callee.params)
    ∙ steps_are names numbers site.reduced site.outer callee.params
    (reached_steps frame callee site product_call (arguments_with names numbers site.reduced callee.params) later)

abbrev pub call_with : Walked
call_with frame names site numbers later = served_with frame names site numbers (callee_of frame (codes "matmul")) later

call_is : (λ frame names site numbers. call_steps frame names site numbers product_call) ≡ call_with
call_is = fun_ext (λ frame. fun_ext (λ names. fun_ext (λ site. fun_ext (λ numbers. fun_ext (λ later.
    served_is frame names site numbers (callee_of frame (codes "matmul")) later)))))

-- ---- the statement

abbrev pub call_portion : Walked → Portion
call_portion steps = record { calls = 1; inside = 0; maps = []; steps = steps }

abbrev pub inside_with : List Worth → Walked → Walked
inside_with ws body = map_with (at 9 5) Seq (range_k ∷ []) ws (all_of (call_portion body ∷ []))

abbrev pub inside_portion : Walked → Portion
inside_portion steps = record { calls = 1; inside = 1; maps = record { calls = 1; maps = 1 } ∷ []; steps = steps }

abbrev pub whole_with : List Worth → Walked → Walked
whole_with ws body = map_with (at 8 3) Par (range_i ∷ range_j ∷ []) ws (all_of (inside_portion body ∷ []))

-- what is met in the statement of the inner variant
abbrev pub walked_with : Walked
walked_with = whole_with (quotient_i ∷ quotient_j ∷ []) (inside_with (quotient_k ∷ []) call_with)

inside_is : portion products_map ≡ inside_portion (inside_with (quotient_k ∷ []) call_with)
inside_is =
    portion_map (at 9 5) Seq (range_k ∷ []) (s.Call product_call ∷ [])
    ∙ ap (λ (p : Portion). stmt_step (Stmt-F.Map (at 9 5) Seq (range_k ∷ []) (p ∷ []))) (portion_call product_call)
    ∙ ap inside_portion (map_is (at 9 5) Seq (range_k ∷ [])
    (all_of (call_portion (λ frame names site numbers. call_steps frame names site numbers product_call) ∷ []))
    ∙ ap (λ w. inside_with (w ∷ []) (λ frame names site numbers. call_steps frame names site numbers product_call))
    is_quotient_k
    ∙ ap (inside_with (quotient_k ∷ [])) call_is)

abbrev pub whole_portion : Walked → Portion
whole_portion steps = record {
  calls = 1;
  inside = 2;
  maps = record { calls = 1; maps = 2 } ∷ record { calls = 1; maps = 1 } ∷ [];
  steps = steps;
}

pub whole_is : portion blocks_map ≡ whole_portion walked_with
whole_is =
    portion_map (at 8 3) Par (range_i ∷ range_j ∷ []) (products_map ∷ [])
    ∙ ap (λ (p : Portion). stmt_step (Stmt-F.Map (at 8 3) Par (range_i ∷ range_j ∷ []) (p ∷ []))) inside_is
    ∙ ap whole_portion (map_is (at 8 3) Par (range_i ∷ range_j ∷ [])
    (all_of (inside_portion (inside_with (quotient_k ∷ []) call_with) ∷ []))
    ∙ ap (λ w. whole_with (w ∷ worth bound_j ∷ []) (inside_with (quotient_k ∷ []) call_with)) is_quotient_i
    ∙ ap (λ w. whole_with (quotient_i ∷ w ∷ []) (inside_with (quotient_k ∷ []) call_with)) is_quotient_j)
