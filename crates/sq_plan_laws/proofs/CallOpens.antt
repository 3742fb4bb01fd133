-- The scopes round the events of a call.
use Rattle.std.proofs.Common.{◌≡◌, ℕ, zero, suc, List, [], ◌∷◌, ◌++◌, map}
use Rattle.std.proofs.Common.{Some, refl, sym, ap, ◌∙◌, subst, arith}
use Rattle.std.specs.Prelude.{slice_get}
use Rattle.std.specs.List.{Contains}
use Rattle.sq_leaf.specs.declared.shape.Shape.{Shape}
use Rattle.sq_ir.specs.Scopes.{Scope}
use Rattle.sq_ir.specs.Events.{Leaves}
use Rattle.sq_ir.specs.Written.{Setting, PlanTree}
use Rattle.sq_placed.specs.declared.home.Home.{Home}
use Rattle.sq_placed.specs.declared.home.Home.TheVariants.{InPlace, Own, Held, Twin}
use Rattle.sq_placed.specs.Placed.{Placed, PlacedArg, PlacedCall}
use Rattle.sq_placed.specs.Seats.{Seat, SeatedArg, seated_args, local_seat}
use Rattle.sq_placed.specs.Trees.{seq_all, par_all, bring, give_back, buffer_of}
use Rattle.sq_placed.specs.Trees.{call_buffers, callee_tree, call_tree}
use Rattle.sq_cells.specs.Tree.{Cause}
use Rattle.sq_cells.specs.Lowered.{Layout}
use Rattle.sq_plan_laws.specs.Calling.{PassedFits}
use Rattle.sq_plan_laws.specs.Seated.{IsSeated, CallSits}
use Rattle.sq_plan_laws.specs.Around.{IsAround}
use Rattle.sq_plan_laws.specs.Buffers.{CallOwns}
use Rattle.sq_plan_laws.proofs.Grown.{Aside, seq_first, seq_next, aside_first, aside_next, scope_list, in_scoped}
use Rattle.sq_plan_laws.proofs.Grown.{aside_scoped}
use Rattle.sq_plan_laws.proofs.ArrayCells.{IsRound, aside_callee}
use Rattle.sq_plan_laws.proofs.Live.{some_same, mapped}
use Rattle.sq_plan_laws.proofs.Live.{bring_event, in_par_all, IsNamed, named_in}
use Rattle.sq_plan_laws.proofs.Live.{has_rows}

module _ (s : Setting) (leaves : Leaves Cause) (outer : List Shape) (seats : List Seat) (at : Layout)
    (seated : IsSeated outer seats at) (c : PlacedCall) (sits : CallSits outer c)
    (inside : ℕ) (w : Placed) (held : List ℕ) (owns : CallOwns s held c w) (body : PlanTree) where
  abbrev ls : List SeatedArg
  ls = seated_args s inside seats c.args

  abbrev ks : List Seat
  ks = map (local_seat s inside) c.locals

  abbrev pub its_tree : PlanTree
  its_tree = call_tree inside c ls ks body

  abbrev pub args_scope : List Scope
  args_scope = scope_list inside (call_buffers c.args)

  fits : (k : ℕ) (p : PlacedArg) → slice_get c.args k ≡ Some p → PassedFits outer p
  fits k p e = sits.args.each k p e

  -- ---- events

  of_args : (l : List Scope) → IsAround (par_all (map bring ls)) l → IsAround its_tree (args_scope ++ l)
  of_args l h = in_scoped inside (call_buffers c.args) _ l
      (seq_first (par_all (map bring ls))
      (seq_all (callee_tree inside c.locals ks body ∷ par_all (map give_back ls) ∷ [])) l h)

  of_callee : (l : List Scope) → IsAround (callee_tree inside c.locals ks body) l → IsAround its_tree (args_scope ++ l)
  of_callee l h =
      in_scoped inside (call_buffers c.args) _ l
      (seq_next (par_all (map bring ls))
      (seq_all (callee_tree inside c.locals ks body ∷ par_all (map give_back ls) ∷ [])) l
      (seq_first (callee_tree inside c.locals ks body) (seq_all (par_all (map give_back ls) ∷ [])) l h))

  of_arg : (i : ℕ) (p : PlacedArg) (b : ℕ) → slice_get c.args i ≡ Some p → p.home ≡ Own b
      → IsAround its_tree (args_scope ++ [])
  of_arg i p b e home =
      let r = has_rows s outer seats at seated inside c.args fits i p e in
      of_args [] (in_par_all (map bring ls) i (bring r.arg) [] (mapped bring ls i r.arg r.there)
      (bring_event b r.arg (ap (λ (q : PlacedArg). q.home) r.passed ∙ home) r.some))

  -- ---- buffers

  call_names : (args : List PlacedArg) (i : ℕ) (p : PlacedArg) (b : ℕ) → slice_get args i ≡ Some p → p.home ≡ Own b
      → Contains (call_buffers args) b
  call_names [] i p b e h = absurd (cc e)
  call_names (q ∷ args) zero p b e h =
      let z : q ≡ p = some_same e in
      subst (λ x. Contains (buffer_of x (call_buffers args)) b) (sym (ap (λ (y : PlacedArg). y.home) z ∙ h))
      (0, omega arith, refl)
  call_names (q ∷ args) (suc i) p b e h = more q.home (call_names args i p b e h)
    where
      more : (x : Home) → Contains (call_buffers args) b → Contains (buffer_of x (call_buffers args)) b
      more InPlace r = r
      more (Own y) r = (suc r.0, let l = r.1 in omega (arith, l), r.2)
      more (Held y n) r = r
      more (Twin y z) r = r

  named_arg : (i : ℕ) (p : PlacedArg) (b : ℕ) → slice_get c.args i ≡ Some p → p.home ≡ Own b
      → IsNamed args_scope inside b
  named_arg i p b e h = named_in inside (call_buffers c.args) b (call_names c.args i p b e h)

  pub call_round : IsRound s leaves outer seats at seated c sits inside w held owns its_tree args_scope body
  call_round = record { named = named_arg; of_arg = of_arg; of_callee = of_callee }

  pub aside_body : Aside its_tree → Aside body
  aside_body h =
      aside_callee s leaves outer seats at seated c sits inside w held owns body
      (aside_first (callee_tree inside c.locals ks body) (seq_all (par_all (map give_back ls) ∷ []))
      (aside_next (par_all (map bring ls))
      (seq_all (callee_tree inside c.locals ks body ∷ par_all (map give_back ls) ∷ []))
      (aside_scoped inside (call_buffers c.args) _ h)))
