-- A draft of tables and homes can be placed where its numbers have their values.
use Rattle.std.proofs.Common.{◌≡◌, ℕ, suc, ◌+◌, ◌<◌, Bool, true, false, List, [], length, None, refl, sym, ap, ap₂}
use Rattle.std.proofs.Common.{subst, ◌∙◌, arith}
use Rattle.std.specs.Prelude.{if◌then◌else◌, nat_lt}
use Rattle.std.proofs.lemmas.Bool.{ltb-true, ltb-false}
use Rattle.std.proofs.lemmas.Option.{slice_get-get_or}
use Rattle.sq_ir.specs.Machines.{AreNodes}
use Rattle.sq_ir.specs.Written.{at_root, written, scoped}
use Rattle.sq_ir.specs.Plans.{node_at, placed}
use Rattle.sq_ir.specs.declared.term.Term.{Term}
use Rattle.sq_ir.specs.declared.plan.Buffer.{Buffer}
use Rattle.sq_ir.specs.declared.plan.Draft.{Draft}
use Rattle.sq_ir.specs.declared.plan.PlanNode.{PlanNode}
use Rattle.sq_ir.proofs.Equations.{written_within}
use Rattle.sq_blocks.specs.declared.argument.Argument.{Argument}
use Rattle.sq_spec.specs.declared.body.FormBody.{FormBody}
use Rattle.sq_placed.specs.declared.home.Homes.{Homes}
use Rattle.sq_term.specs.Laws.{entry_seats}
use Rattle.sq_placed.specs.Trees.{tree}
use Rattle.sq_placed.specs.Tables.{placed_of, entry_placed}
use Rattle.sq_term.specs.Terms.{entry_term}
use Rattle.sq_term.proofs.Whole.{entry_is_tree}
use Rattle.sq_nests.specs.Nests.{Open, named_in}
use Rattle.sq_nests.specs.Stacks.{of_level, HaveBefore, AreAside}
use Rattle.sq_nests.specs.Under.{IsForest}
use Rattle.sq_nests.specs.Drafts.{whole, IsPlaceable}
use Rattle.sq_nests.proofs.Equations.{named_within}
use Rattle.sq_nests.proofs.Machines.{some-there, child-there, root-there, layered}
use Rattle.sq_nests.proofs.Aside.{aside-scoped, a_forest}
use Rattle.sq_term_laws.specs.Rooms.{IsSpreadWell}
use Rattle.sq_term_laws.specs.Callers.{home_buffers, Numbering, outer, before}
use Rattle.sq_term_laws.specs.Lowered.{IsLowered, HasNumbers, LoweredIsPlaceable}
use Rattle.sq_term_laws.proofs.Sides.{have_sides}
use Rattle.sq_term_laws.proofs.Spread.{spread_well}
use Rattle.sq_term_laws.proofs.Behind.{entry_behind}
use Rattle.sq_term_laws.proofs.Called.{numbered_are_ordered}

-- ---- the depth of a node; one that isn't there is below all

abbrev pub far : ℕ → List PlanNode → ℕ → ℕ
far levels ns n = if nat_lt n (length ns) then (node_at ns n).level else levels

pub far_there : (levels : ℕ) (ns : List PlanNode) (n : ℕ) → n < length ns → far levels ns n ≡ (node_at ns n).level
far_there levels ns n h = by (nat_lt n (length ns)) refl
  where
    by : (v : Bool) → nat_lt n (length ns) ≡ v → (if v then (node_at ns n).level else levels) ≡ (node_at ns n).level
    by true e = refl
    by false e = let z = ltb-false n (length ns) e in absurd (omega (arith, h, z))

pub far_forest : (levels : ℕ) (buffers : List Buffer) (ns : List PlanNode) (offset : ℕ → ℕ) → AreNodes ns
    → IsForest (placed buffers ns offset) (far levels ns)
far_forest levels buffers ns offset are =
    let f = a_forest buffers ns offset are in
    record {
      below = λ n c l. far_there levels ns ((node_at ns n).first_child + c) (child-there ns n c are l) ∙ f.below n c l
          ∙ ap suc (sym (far_there levels ns n (some-there ns n c l)));
      parent = f.parent;
      number = f.number;
    }

-- a node above the last level has children
pub have_children : (buffers : List Buffer) (ns : List PlanNode) (offset : ℕ → ℕ) (are : AreNodes ns) (n : ℕ)
    → suc (far are.levels ns n) < are.levels → 0 < (node_at ns n).children
have_children buffers ns offset are n h = by (nat_lt n (length ns)) refl h
  where
    by : (v : Bool) → nat_lt n (length ns) ≡ v → suc (if v then (node_at ns n).level else are.levels) < are.levels → 0
        < (node_at ns n).children
    by true e l =
        let here = slice_get-get_or ns n (record { level = 0; capacity = 0; first_child = 0; children = 0 })
        (ltb-true n (length ns) e) in
        let s = (are.each n (node_at ns n) here).some l in
        omega (arith, s)
    by false e l = absurd (omega (arith, l))

-- ---- the draft

module _ (d : Draft) (nodes : List PlanNode) (bodies : ℕ → FormBody) (homes : ℕ → Homes) (n : ℕ) (args : List Argument)
    (level : ℕ → ℕ) (k : Numbering) (is : IsLowered d nodes bodies homes n args level k) where
  term_is : d.term ≡ entry_term bodies homes n args
  term_is = is.term

  abbrev levels : ℕ
  levels = is.machine.levels

  spread : IsSpreadWell levels 0 (entry_placed bodies homes n args)
  spread = (
    (λ q. absurd (let z = q in cc)),
    subst (λ (l : ℕ). IsSpreadWell levels l (placed_of bodies homes n 0))
        is.root
        (spread_well bodies homes level levels is.overlaps.entry is.few (is.leveled (λ b. 0)).calls n 0),
  )

  aside : (offset : ℕ → ℕ) → AreAside (written (placed d.buffers nodes offset) (whole d) at_root)
  aside offset =
      let s = placed d.buffers nodes offset in
      let forest = far_forest levels d.buffers nodes offset is.machine in
      let children = have_children d.buffers nodes offset is.machine in
      let root : far levels nodes 0 ≡ 0 = far_there levels nodes 0 (root-there nodes is.machine)
      ∙ (layered d.buffers nodes offset is.machine).root in
      let x = entry_placed bodies homes n args in
      let seats = entry_seats s (bodies 0).arrays (homes 0).params in
      subst AreAside (sym (ap (λ g. g at_root) (written_within s None d.entry d.term)
      ∙ ap (λ (t : Term). scoped 0 d.entry (written s t at_root)) is.term
      ∙ ap (scoped 0 d.entry) (entry_is_tree s bodies homes level (is.leveled offset) is.pipes is.root is.first n args)))
      (aside-scoped 0 d.entry (tree s x 0 0 seats [])
      (have_sides s (far levels nodes) forest levels children x 0 0 0 seats [] root
      (λ l. children 0 (omega (arith, l, root))) spread).whole.aside)

  pub are_stacked : (at : ℕ) → HaveBefore (of_level d.buffers at) (before d.buffers bodies homes k) [] (named_in (whole d))
  are_stacked at =
      let here = of_level d.buffers at in
      let b = before d.buffers bodies homes k in
      let o = outer d.buffers bodies homes k here in
      let ordered = numbered_are_ordered d.buffers bodies homes k is.numbered is.overlaps at args in
      subst (HaveBefore here b []) (sym (named_within None d.entry d.term
      ∙ ap₂ (λ (e : List ℕ) (t : Term). Open e (named_in t)) is.entry is.term))
      (entry_behind here b o bodies homes is.overlaps ordered.forms n args (home_buffers (homes 0).params) ordered.entry
      ordered.locals ordered.round)

  placeable : HasNumbers d nodes → IsPlaceable d nodes
  placeable h = record {
    machine = is.machine;
    term = h;
    aside = aside;
    before = before d.buffers bodies homes k;
    stacks = are_stacked;
  }

pub lowered_is_placeable : LoweredIsPlaceable
lowered_is_placeable d nodes bodies homes n args level k is h = placeable d nodes bodies homes n args level k is h
