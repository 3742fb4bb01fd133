-- What the demo's program means doesn't trap, whatever its arrays hold.
use Rattle.std.proofs.Common.{◌≡◌, inl, inr, ℕ, zero, suc, ◌<◌, ◌≤◌, pos, Bool, List, [], ◌∷◌, map, codes, Option, Some, None, Result, Ok, Err, refl, sym, ◌∙◌, ap, subst, arith}
use Rattle.std.proofs.Math.Path.{fun_ext}
use Rattle.std.proofs.Math.Nat.{eq-or-lt_of_le}
use Rattle.sq_num.specs.declared.Elem.{Elem}
use Rattle.sq_num.specs.declared.Elem.TheVariants.{Int}
use Rattle.sq_text.specs.declared.place.Place.{Place}
use Rattle.sq_ast.specs.declared.stmt.Call.{Call as CallStmt}
use Rattle.sq_ast.specs.declared.stmt.MapKind.{MapKind}
use Rattle.sq_ast.specs.declared.stmt.MapKind.TheVariants.{Par, Seq}
use Rattle.sq_ast.specs.declared.stmt.Range.{Range}
use Rattle.sq_ast.specs.declared.stmt.Stmt.{Stmt}
use Rattle.sq_ast.specs.declared.stmt.Stmt.TheVariants as s
use Rattle.sq_ast.specs.declared.stmt.Stmt.TheOpen.{Stmt-F}
use Rattle.sq_ast.specs.declared.stmt.Stmt.TheFolds.{fold-Stmt, fold-roll-Stmt}
use Rattle.sq_blocks.specs.Names.{Numbers}
use Rattle.sq_blocks.specs.Constants.{Worth, worth, fits}
use Rattle.sq_blocks.specs.declared.argument.Argument.{Argument}
use Rattle.sq_leaf.specs.Source.{Arrays}
use Rattle.sq_leaf.specs.declared.trap.Trap.{Trap}
use Rattle.sq_forms.specs.declared.form.Found.{Found}
use Rattle.sq_forms.specs.Faults.{Value, value_or}
use Rattle.sq_forms.specs.Steps.{Forms, key_number}
use Rattle.sq_forms.specs.Args.{Names}
use Rattle.sq_forms.specs.Worlds.{Frame, Callee, callee_of}
use Rattle.sq_forms.specs.Calls.{CallSite, call_of}
use Rattle.sq_forms.specs.Stmts.{times_of, in_iteration, within}
use Rattle.sq_forms.specs.Decls.{Scope, empty_scope}
use Rattle.sq_forms.specs.Resolving.{start}
use Rattle.sq_spec_laws.specs.Spec.Statements.{number_or, loop_kind_of}
use Rattle.sq_spec_laws.specs.Spec.Works.{Share, Working, all_of, map_work, reached_work, call_work, stmt_step, declared_work, form_work, work_of, flat, found_in}
use Rattle.sq_work.specs.Work.{Work, Nothing, Then, Each, AtOnce, Call, Leaf}
use Rattle.sq_work.specs.Meaning.{Outcome, and_then, with_turn, in_turn, apart, with_writes, writes, leaf_outcome, at_entry, at_return, meaning, Trapped}
use Rattle.sq_demo_laws.specs.Texts.{at}
use Rattle.sq_demo_laws.specs.Tree.{bound_j, product_call, products_map, blocks_map, inner_variant, leaf_variant, demo_tree}
use Rattle.sq_demo_laws.specs.FormsFound.{entry_found, chip_found, core_found, demo_found}
use Rattle.sq_demo_laws.specs.Machine.{tunings_by, demo_mapped}
use Rattle.sq_demo_laws.specs.Laws.{ProgramIsTrapless}
use Rattle.sq_demo_laws.proofs.Walked.{bounds_with, bounds_are, worths_of, range_i, range_j, range_k, quotient_i, quotient_j, quotient_k, is_quotient_i, is_quotient_j, is_quotient_k, arguments_with, arguments_are}
use Rattle.sq_demo_laws.proofs.Resolved.{declared_with, declared_is, begun, top_frame, mid_frame, program_resolves}
use Rattle.sq_demo_laws.proofs.LeafEnds.{Ends, leaf_ends}

-- ---- works that end

pub record WorkEnds (w : Work) : Type 0 where
  pub from : (s : Arrays) → Ends (meaning w s)

then_ends : (r : Outcome) (f : Arrays → Outcome) → Ends r → ((s : Arrays) → Ends (f s)) → Ends (and_then r f)
then_ends (Ok s) f h k = k s
then_ends (Err x) f h k = absurd h

turn_ends : (t : ℕ) (r : Outcome) → Ends r → Ends (with_turn t r)
turn_ends t (Ok s) h = tt
turn_ends t (Err x) h = absurd h

pub nothing_ends : WorkEnds Nothing
nothing_ends = record { from = λ s. tt }

pub both_end : (a b : Work) → WorkEnds a → WorkEnds b → WorkEnds (Then a b)
both_end a b h k = record { from = λ s. then_ends (meaning a s) (meaning b) (h.from s) k.from }

in_turn_ends : (n : ℕ) (f : ℕ → Arrays → Outcome) → ((t : ℕ) → t < n → (s : Arrays) → Ends (f t s)) → (s : Arrays)
    → Ends (in_turn n f s)
in_turn_ends zero f h s = tt
in_turn_ends (suc n) f h s =
    then_ends (in_turn n f s) (λ before. with_turn n (f n before)) (in_turn_ends n f (λ t l. h t (omega (arith, l))) s)
    (λ before. turn_ends n (f n before) (h n (omega arith) before))

apart_ends : (n : ℕ) (join : ℕ → Arrays → Arrays → Arrays) (f : ℕ → Outcome) → ((t : ℕ) → t < n → Ends (f t))
    → (s : Arrays) → Ends (apart n join f s)
apart_ends zero join f h s = tt
apart_ends (suc n) join f h s =
    then_ends (apart n join f s) (λ below. and_then (with_turn n (f n)) (λ own. Ok (join n own below)))
    (apart_ends n join f (λ t l. h t (omega (arith, l))) s)
    (λ below. then_ends (with_turn n (f n)) (λ own. Ok (join n own below)) (turn_ends n (f n) (h n (omega arith)))
    (λ own. tt))

pub each_ends : (n : ℕ) (w : ℕ → Work) → ((t : ℕ) → t < n → WorkEnds (w t)) → WorkEnds (Each n w)
each_ends n w h = record { from = λ s. in_turn_ends n (λ t. meaning (w t)) (λ t l a. (h t l).from a) s }

pub at_once_ends : (place : Place) (n : ℕ) (w : ℕ → Work) → ((t : ℕ) → t < n → WorkEnds (w t))
    → WorkEnds (AtOnce place n w)
at_once_ends place n w h = record {
  from = λ s. apart_ends n (λ t. with_writes (writes (w t))) (λ t. meaning (w t) s)
      (λ t l. (h t l).from s) s;
}

pub call_ends : (form : ℕ) (lower : Bool) (args : List Argument) (w : Work) → WorkEnds w
    → WorkEnds (Call form lower args w)
call_ends form lower args w h =
    record {
      from = λ s. then_ends (meaning w (at_entry args s)) (λ inner. Ok (at_return 0 args inner s))
          (h.from (at_entry args s)) (λ inner. tt);
    }

leaf_outcome_ends : (r : Result Arrays Trap) → Ends r → Ends (leaf_outcome r)
leaf_outcome_ends (Ok s) h = tt
leaf_outcome_ends (Err t) h = absurd h

pub leaf_work_ends : (code : Arrays → Result Arrays Trap) → ((s : Arrays) → Ends (code s)) → WorkEnds (Leaf code)
leaf_work_ends code h = record { from = λ s. leaf_outcome_ends (code s) (h s) }

-- ---- all numbers below a count

abbrev pub AllBelow : (ℕ → Type 0) → ℕ → Type 0
AllBelow P zero = Unit {0}
AllBelow P (suc n) = AllBelow P n × P n

at_most : (t n : ℕ) → t < suc n → t ≤ n
at_most t n h = omega (arith, h)

pub each_below : (P : ℕ → Type 0) (n : ℕ) → AllBelow P n → (t : ℕ) → t < n → P t
each_below P zero all t h = absurd (omega (arith, h))
each_below P (suc n) all t h = elim (eq-or-lt_of_le (at_most t n h)) [
  | inl e ↦ subst P (sym e) all.1
  | inr l ↦ each_below P n all.0 t l
]

-- ---- the work of the inner variant, by functions that compute

abbrev pub three_ints : List Elem
three_ints = Int ∷ Int ∷ Int ∷ []

module _ (forms : Forms) (callee : ℕ → Found → Work) where
  abbrev pub share : Stmt → Share
  share = fold-Stmt Share (stmt_step forms callee three_ints)

  share_call : (c : CallStmt) → share (s.Call c) ≡ stmt_step forms callee three_ints (Stmt-F.Call c)
  share_call c = ap share (sym (s.rolls-Call c)) ∙ fold-roll-Stmt Share (stmt_step forms callee three_ints)
      (Stmt-F.Call c)

  share_map : (p : Place) (k : MapKind) (rs : List Range) (xs : List Stmt)
      → share (s.Map p k rs xs) ≡ stmt_step forms callee three_ints (Stmt-F.Map p k rs (map share xs))
  share_map p k rs xs = ap share (sym (s.rolls-Map p k rs xs))
      ∙ fold-roll-Stmt Share (stmt_step forms callee three_ints) (Stmt-F.Map p k rs xs)

  abbrev pub call_by : Frame → Names → CallSite → Numbers → Option Callee → Work
  call_by frame names site numbers None = Nothing
  call_by frame names site numbers (Some its) =
      reached_work forms callee three_ints frame its
      (call_of frame its site product_call (arguments_with names numbers site.reduced its.params))
      (arguments_with names numbers site.reduced its.params)

  call_by_is : (frame : Frame) (names : Names) (site : CallSite) (numbers : Numbers) (o : Option Callee)
      → call_work forms callee three_ints frame names site numbers product_call o ≡ call_by frame names site numbers o
  call_by_is frame names site numbers None = refl
  call_by_is frame names site numbers (Some its) =
      ap (λ xs. reached_work forms callee three_ints frame its (call_of frame its site product_call xs) xs)
      (arguments_are names numbers site.reduced its.params)

  abbrev pub call_share : Working → Share
  call_share work = record { calls = 1; work = work }

  abbrev pub called : Working
  called frame names site numbers = call_by frame names site numbers (callee_of frame (codes "matmul"))

  called_is : share (s.Call product_call) ≡ call_share called
  called_is =
      share_call product_call
      ∙ ap call_share (fun_ext (λ frame. fun_ext
      (λ names. fun_ext (λ site. fun_ext
      (λ numbers. call_by_is frame names site numbers (callee_of frame (codes "matmul")))))))

  abbrev pub mapped_by : Place → MapKind → List Range → List Worth → Working → Working
  mapped_by place kind ranges ws body frame names site numbers =
      let ns = bounds_with ws numbers names.lists in
      map_work (loop_kind_of three_ints names kind) place (times_of ns)
      (λ t. Then (body frame names (within site place kind t) (in_iteration ranges (value_or [] ns) t numbers)) Nothing)

  mapped_is : (place : Place) (kind : MapKind) (ranges : List Range) (body : Working)
      → stmt_step forms callee three_ints (Stmt-F.Map place kind ranges (call_share body ∷ [])) ≡ call_share
      (mapped_by place kind ranges (worths_of ranges) body)
  mapped_is place kind ranges body =
      ap call_share (fun_ext (λ frame. fun_ext (λ names. fun_ext (λ site. fun_ext (λ numbers.
      ap (λ ns. map_work (loop_kind_of three_ints names kind) place (times_of ns)
      (λ t. Then (body frame names (within site place kind t) (in_iteration ranges (value_or [] ns) t numbers))
      Nothing)) (bounds_are ranges numbers names.lists))))))

  abbrev pub inside_by : List Worth → Working
  inside_by ws = mapped_by (at 9 5) Seq (range_k ∷ []) ws called

  inside_is : share products_map ≡ call_share (inside_by (quotient_k ∷ []))
  inside_is =
      share_map (at 9 5) Seq (range_k ∷ []) (s.Call product_call ∷ [])
      ∙ ap (λ (x : Share). stmt_step forms callee three_ints (Stmt-F.Map (at 9 5) Seq (range_k ∷ []) (x ∷ [])))
      called_is
      ∙ mapped_is (at 9 5) Seq (range_k ∷ []) called
      ∙ ap (λ w. call_share (inside_by (w ∷ []))) is_quotient_k

  abbrev pub whole_by : List Worth → Working
  whole_by ws = mapped_by (at 8 3) Par (range_i ∷ range_j ∷ []) ws (inside_by (quotient_k ∷ []))

  pub whole_is : share blocks_map ≡ call_share (whole_by (quotient_i ∷ quotient_j ∷ []))
  whole_is =
      share_map (at 8 3) Par (range_i ∷ range_j ∷ []) (products_map ∷ [])
      ∙ ap (λ (x : Share). stmt_step forms callee three_ints
      (Stmt-F.Map (at 8 3) Par (range_i ∷ range_j ∷ []) (x ∷ []))) inside_is
      ∙ mapped_is (at 8 3) Par (range_i ∷ range_j ∷ []) (inside_by (quotient_k ∷ []))
      ∙ ap (λ w. call_share (whole_by (w ∷ worth bound_j ∷ []))) is_quotient_i
      ∙ ap (λ w. call_share (whole_by (quotient_i ∷ w ∷ []))) is_quotient_j

-- ---- the forms

scope_in : Value Scope → Scope
scope_in v = value_or empty_scope v

abbrev pub callee_from : ℕ → ℕ → Found → Work
callee_from n = form_work demo_tree.tasks demo_mapped.instances demo_found n

low_ends : WorkEnds (callee_from 1 2 core_found)
low_ends = leaf_work_ends _ leaf_ends

-- ---- the form of mid

abbrev pub mid_scope : Scope
mid_scope = value_or empty_scope (declared_with (tunings_by 8) (begun 32))

abbrev pub mid_numbers : (t k : ℕ) → Numbers
mid_numbers t k = in_iteration (range_k ∷ []) (pos 4 ∷ []) k
    (in_iteration (range_i ∷ range_j ∷ []) (pos 4 ∷ pos 4 ∷ []) t mid_scope.numbers)

abbrev pub mid_site : (t k : ℕ) → CallSite
mid_site t k = within (within start (at 8 3) Par t) (at 9 5) Seq k

-- the number of the form that is called there, and the form
abbrev pub mid_reached : (t k : ℕ) → ℕ × Found
mid_reached t k =
    let its : Callee = record { instance = 2; level = 2; params = leaf_variant.params } in
    let c = call_of mid_frame its (mid_site t k) product_call
    (arguments_with mid_scope.names (mid_numbers t k) None its.params) in
    (number_or (key_number demo_found c.key), c.form)

mid_all_reached : AllBelow (λ t. AllBelow (λ k. mid_reached t k ≡ (2, core_found)) 4) 16
mid_all_reached = (
  (
    (
      (
        (
          (
            (
              (
                (
                  (
                    (
                      (
                        (
                          (
                            ((tt, ((((tt, refl), refl), refl), refl)), ((((tt, refl), refl), refl), refl)),
                            ((((tt, refl), refl), refl), refl),
                          ),
                          ((((tt, refl), refl), refl), refl),
                        ),
                        ((((tt, refl), refl), refl), refl),
                      ),
                      ((((tt, refl), refl), refl), refl),
                    ),
                    ((((tt, refl), refl), refl), refl),
                  ),
                  ((((tt, refl), refl), refl), refl),
                ),
                ((((tt, refl), refl), refl), refl),
              ),
              ((((tt, refl), refl), refl), refl),
            ),
            ((((tt, refl), refl), refl), refl),
          ),
          ((((tt, refl), refl), refl), refl),
        ),
        ((((tt, refl), refl), refl), refl),
      ),
      ((((tt, refl), refl), refl), refl),
    ),
    ((((tt, refl), refl), refl), refl),
  ),
  ((((tt, refl), refl), refl), refl),
)

mid_called_ends : (t k : ℕ) → t < 16 → k < 4
    → WorkEnds (called demo_found (callee_from 1) mid_frame mid_scope.names (mid_site t k) (mid_numbers t k))
mid_called_ends t k ht hk =
    let is = each_below (λ k. mid_reached t k ≡ (2, core_found)) 4
    (each_below (λ t. AllBelow (λ k. mid_reached t k ≡ (2, core_found)) 4) 16 mid_all_reached t ht) k hk in
    call_ends _ _ _ _ (subst (λ (p : ℕ × Found). WorkEnds (callee_from 1 p.0 p.1)) (sym is) low_ends)

mid_inside_ends : (t : ℕ) → t < 16
    → WorkEnds (inside_by demo_found (callee_from 1) (quotient_k ∷ []) mid_frame mid_scope.names
    (within start (at 8 3) Par t)
    (in_iteration (range_i ∷ range_j ∷ []) (pos 4 ∷ pos 4 ∷ []) t mid_scope.numbers))
unfolding fits
mid_inside_ends t ht = each_ends 4 _ (λ k hk. both_end _ Nothing (mid_called_ends t k ht hk) nothing_ends)

mid_whole_ends : WorkEnds (whole_by demo_found (callee_from 1) (quotient_i ∷ quotient_j ∷ []) mid_frame mid_scope.names
    start mid_scope.numbers)
unfolding fits
mid_whole_ends = at_once_ends (at 8 3) 16 _ (λ t ht. both_end _ Nothing (mid_inside_ends t ht) nothing_ends)

mid_body_ends : WorkEnds (all_of (share demo_found (callee_from 1) blocks_map ∷ []) mid_frame mid_scope.names start
    mid_scope.numbers)
mid_body_ends =
    subst (λ (x : Share). WorkEnds (all_of (x ∷ []) mid_frame mid_scope.names start mid_scope.numbers))
    (sym (whole_is demo_found (callee_from 1)))
    (both_end _ Nothing mid_whole_ends nothing_ends)

mid_ends : WorkEnds (callee_from 2 1 chip_found)
mid_ends =
    subst (λ (v : Value Scope). WorkEnds
    (declared_work demo_found (callee_from 1) mid_frame inner_variant chip_found v))
    (sym (declared_is (tunings_by 8) (begun 32))) mid_body_ends

-- ---- the form of top

abbrev pub top_scope : Scope
top_scope = value_or empty_scope (declared_with (tunings_by 32) (begun 128))

abbrev pub top_numbers : (t k : ℕ) → Numbers
top_numbers t k = in_iteration (range_k ∷ []) (pos 4 ∷ []) k
    (in_iteration (range_i ∷ range_j ∷ []) (pos 4 ∷ pos 4 ∷ []) t top_scope.numbers)

abbrev pub top_site : (t k : ℕ) → CallSite
top_site t k = within (within start (at 8 3) Par t) (at 9 5) Seq k

-- the number of the form that is called there, and the form
abbrev pub top_reached : (t k : ℕ) → ℕ × Found
top_reached t k =
    let its : Callee = record { instance = 1; level = 1; params = inner_variant.params } in
    let c = call_of top_frame its (top_site t k) product_call
    (arguments_with top_scope.names (top_numbers t k) None its.params) in
    (number_or (key_number demo_found c.key), c.form)

top_all_reached : AllBelow (λ t. AllBelow (λ k. top_reached t k ≡ (1, chip_found)) 4) 16
top_all_reached = (
  (
    (
      (
        (
          (
            (
              (
                (
                  (
                    (
                      (
                        (
                          (
                            ((tt, ((((tt, refl), refl), refl), refl)), ((((tt, refl), refl), refl), refl)),
                            ((((tt, refl), refl), refl), refl),
                          ),
                          ((((tt, refl), refl), refl), refl),
                        ),
                        ((((tt, refl), refl), refl), refl),
                      ),
                      ((((tt, refl), refl), refl), refl),
                    ),
                    ((((tt, refl), refl), refl), refl),
                  ),
                  ((((tt, refl), refl), refl), refl),
                ),
                ((((tt, refl), refl), refl), refl),
              ),
              ((((tt, refl), refl), refl), refl),
            ),
            ((((tt, refl), refl), refl), refl),
          ),
          ((((tt, refl), refl), refl), refl),
        ),
        ((((tt, refl), refl), refl), refl),
      ),
      ((((tt, refl), refl), refl), refl),
    ),
    ((((tt, refl), refl), refl), refl),
  ),
  ((((tt, refl), refl), refl), refl),
)

top_called_ends : (t k : ℕ) → t < 16 → k < 4
    → WorkEnds (called demo_found (callee_from 2) top_frame top_scope.names (top_site t k) (top_numbers t k))
top_called_ends t k ht hk =
    let is = each_below (λ k. top_reached t k ≡ (1, chip_found)) 4
    (each_below (λ t. AllBelow (λ k. top_reached t k ≡ (1, chip_found)) 4) 16 top_all_reached t ht) k hk in
    call_ends _ _ _ _ (subst (λ (p : ℕ × Found). WorkEnds (callee_from 2 p.0 p.1)) (sym is) mid_ends)

top_inside_ends : (t : ℕ) → t < 16
    → WorkEnds (inside_by demo_found (callee_from 2) (quotient_k ∷ []) top_frame top_scope.names
    (within start (at 8 3) Par t)
    (in_iteration (range_i ∷ range_j ∷ []) (pos 4 ∷ pos 4 ∷ []) t top_scope.numbers))
unfolding fits
top_inside_ends t ht = each_ends 4 _ (λ k hk. both_end _ Nothing (top_called_ends t k ht hk) nothing_ends)

top_whole_ends : WorkEnds (whole_by demo_found (callee_from 2) (quotient_i ∷ quotient_j ∷ []) top_frame top_scope.names
    start top_scope.numbers)
unfolding fits
top_whole_ends = at_once_ends (at 8 3) 16 _ (λ t ht. both_end _ Nothing (top_inside_ends t ht) nothing_ends)

top_body_ends : WorkEnds (all_of (share demo_found (callee_from 2) blocks_map ∷ []) top_frame top_scope.names start
    top_scope.numbers)
top_body_ends =
    subst (λ (x : Share). WorkEnds (all_of (x ∷ []) top_frame top_scope.names start top_scope.numbers))
    (sym (whole_is demo_found (callee_from 2)))
    (both_end _ Nothing top_whole_ends nothing_ends)

top_ends : WorkEnds (callee_from 3 0 entry_found)
top_ends =
    subst (λ (v : Value Scope). WorkEnds
    (declared_work demo_found (callee_from 2) top_frame inner_variant entry_found v))
    (sym (declared_is (tunings_by 32) (begun 128))) top_body_ends

-- ---- the program

work_ends : WorkEnds (work_of demo_tree.tasks demo_mapped demo_found)
work_ends = call_ends _ _ _ _ top_ends

pub program_ends : (s : Arrays) → Ends (flat demo_tree demo_mapped s)
program_ends s =
    subst (λ v. Ends (meaning (work_of demo_tree.tasks demo_mapped (found_in v)) s)) (sym program_resolves)
    (work_ends.from s)

ends_well : (r : Outcome) → Ends r → (x : Trapped) → r ≡ Err x → ⊥
ends_well (Ok s) h x e = cc
ends_well (Err y) h x e = h

pub program_is_trapless : ProgramIsTrapless
program_is_trapless s x e = ends_well (flat demo_tree demo_mapped s) (program_ends s) x e
