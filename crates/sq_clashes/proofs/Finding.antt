-- The first two events that clash by what they touch are the first that clash in the plan.
use Rattle.std.proofs.Common.{◌≡◌, ℕ, suc, ◌<◌, ◌≤◌, Option, Some, None, List, length, slice_get, sym, ap, ◌∙◌, subst, ◌⊎◌, inl, inr, arith}
use Rattle.sq_ir.specs.Events.{Event, Leaves, AreIndependent}
use Rattle.sq_ir.specs.DraftLeaves.{leaves_of}
use Rattle.sq_ir.specs.declared.plan.Plan.{Plan}
use Rattle.sq_leaf.specs.declared.trap.Trap.{Trap}
use Rattle.sq_check_laws.specs.Whole.{whole_of}
use Rattle.sq_check_laws.specs.Flaws.{Clashes}
use Rattle.sq_check_laws.specs.Orders.{Item, items, ClashIn}
use Rattle.sq_check_laws.proofs.Good.{trees_are_fresh}
use Rattle.sq_check_laws.proofs.Orders.{clashes_are_listed}
use Rattle.sq_touches.specs.Acts.{Depend}
use Rattle.sq_touches.specs.declared.act.Act.{Act}
use Rattle.sq_touches.proofs.Dependence.{acts_tell_dependence}
use Rattle.sq_plan_check.specs.Walked.{seen_deed, seen_entry}
use Rattle.sq_plan_check.specs.Entered.{AreOfPlan}
use Rattle.sq_plan_check.specs.Pairs.{ClashAt, AllNear, IsFirstPair}
use Rattle.sq_plan_check.specs.Acted.{AreActs}
use Rattle.sq_plan_check.specs.declared.entry.Entry.{Entry}
use Rattle.sq_plan_check.specs.declared.pairs.Pair.{Pair}
use Rattle.sq_plan_check.specs.declared.reach.Row.{Row}
use Rattle.sq_clashes.specs.Reached.{MayBeCompared, AreRows, IsFirstOf}
use Rattle.sq_clashes.specs.EventFlaws.{AreSmall, flaw_of, IsFirstEventFlaw}
use Rattle.sq_clashes.proofs.Items.{at_most_or, inside, there, get_map, map_get}

-- the later of two numbers, or the same and then the earlier ones, where nothing else can be
unless : (earlier later i j : ℕ) → (((later < j) ⊎ ((later ≡ j) × (earlier ≤ i)) → ⊥) → ⊥) → (later < j) ⊎ ((later ≡ j) × (earlier ≤ i))
unless earlier later i j h = by (at_most_or (suc later) j) (at_most_or later j) (at_most_or earlier i)
  where
    by : (suc later ≤ j) ⊎ (j < suc later) → (later ≤ j) ⊎ (j < later) → (earlier ≤ i) ⊎ (i < earlier) → (later < j) ⊎ ((later ≡ j) × (earlier ≤ i))
    by (inl l) m k = inl (omega (arith, l))
    by (inr l) (inl m) (inl k) = inr (omega (arith, l, m), k)
    by (inr l) (inl m) (inr k) = absurd (h (λ z. other z))
      where
        other : (later < j) ⊎ ((later ≡ j) × (earlier ≤ i)) → ⊥
        other (inl x) = omega (arith, x, l)
        other (inr x) = let y = x.1 in omega (arith, y, k)
    by (inr l) (inr m) k = absurd (h (λ z. other z))
      where
        other : (later < j) ⊎ ((later ≡ j) × (earlier ≤ i)) → ⊥
        other (inl x) = omega (arith, x, m)
        other (inr x) = let y = x.0 in omega (arith, y, m)

-- all acts are near
pub all_near : (plan : Plan) (entries : List Entry) (acts : List Act) → MayBeCompared entries → AreActs plan entries acts → AllNear acts
all_near plan entries acts may are =
    record {
      near = λ i a at.
          let l = inside acts i a at in
          let k = are.all in
          let e = there entries i (omega (arith, l, k)) in
          are.near i a e.0 at e.1 (may.words i e.0 e.1);
    }

module _ (plan : Plan) (entries : List Entry) (acts : List Act) (rows : List Row) (are_acts : AreActs plan entries acts) (are_rows : AreRows entries acts rows) where
  pub pair_below : (found : Option Pair) → length entries ≤ 65536 → IsFirstPair rows acts found → AreSmall found
  pair_below None few h = tt
  pair_below (Some p) few h =
      let l = inside rows p.later h.0.y h.0.y_is in
      let k = are_rows.all in
      let b = h.0.before in
      (omega (arith, l, k, b, few), omega (arith, l, k, few))

  module _ (of : AreOfPlan plan (Some entries)) where
    abbrev leaves : Leaves Trap
    leaves = leaves_of plan.draft

    -- two events by their entries, acts and rows
    item-of : (i : ℕ) (e : Entry) → slice_get entries i ≡ Some e → slice_get (items (whole_of plan)) i ≡ Some (seen_entry e)
    item-of i e at = ap (λ l. slice_get l i) (sym of.1) ∙ get_map seen_entry entries i e at

    tells : (i j : ℕ) (a b : Act) (e f : Entry) → slice_get acts i ≡ Some a → slice_get acts j ≡ Some b → slice_get entries i ≡ Some e → slice_get entries j ≡ Some f
        → (Depend a b → ¬ AreIndependent leaves (seen_deed e.deed) (seen_deed f.deed)) × (¬ Depend a b → AreIndependent leaves (seen_deed e.deed) (seen_deed f.deed))
    tells i j a b e f ai bj ei fj = acts_tell_dependence Trap leaves a b (seen_deed e.deed) (seen_deed f.deed) (are_acts.shows i a e ai ei) (are_acts.shows j b f bj fj)

    to-list : (i j : ℕ) → ClashAt rows acts i j → ClashIn leaves (items (whole_of plan)) i j
    to-list i j c =
        let m = inside rows i c.x c.x_is in
        let n = inside rows j c.y c.y_is in
        let k = are_rows.all in
        let e = there entries i (omega (arith, m, k)) in
        let f = there entries j (omega (arith, n, k)) in
        let d = c.depend in
        let r = (are_rows.each i e.0 d.a c.x e.1 d.a_is c.x_is).end in
        let s = (are_rows.each j f.0 d.b c.y f.1 d.b_is c.y_is).first in
        let v = c.inverted in
        record {
          x = seen_entry e.0;
          y = seen_entry f.0;
          x_is = item-of i e.0 e.1;
          y_is = item-of j f.0 f.1;
          before = c.before;
          inverted = omega (arith, r, s, v);
          dependent = (tells i j d.a d.b e.0 f.0 d.a_is d.b_is e.1 f.1).0 d.depend;
        }

    from-list : (i j : ℕ) → ClashIn leaves (items (whole_of plan)) i j → (ClashAt rows acts i j → ⊥) → ⊥
    from-list i j c none =
        let e = map_get seen_entry entries i c.x (ap (λ l. slice_get l i) of.1 ∙ c.x_is) in
        let f = map_get seen_entry entries j c.y (ap (λ l. slice_get l j) of.1 ∙ c.y_is) in
        let m = inside entries i e.0 e.1 in
        let n = inside entries j f.0 f.1 in
        let k = are_rows.all in
        let l = are_acts.all in
        let a = there acts i (omega (arith, m, l)) in
        let b = there acts j (omega (arith, n, l)) in
        let x = there rows i (omega (arith, m, k)) in
        let y = there rows j (omega (arith, n, k)) in
        let r = (are_rows.each i e.0 a.0 x.0 e.1 a.1 x.1).end in
        let s = (are_rows.each j f.0 b.0 y.0 f.1 b.1 y.1).first in
        let p : c.x.second ≡ e.0.second = ap (λ (z : Item Event). z.second) e.2 in
        let q : c.y.second ≡ f.0.second = ap (λ (z : Item Event). z.second) f.2 in
        let v = c.inverted in
        let no : ¬ Depend a.0 b.0 = λ d. none (record {
          x = x.0;
          y = y.0;
          x_is = x.1;
          y_is = y.1;
          before = c.before;
          inverted = omega (arith, p, q, r, s, v);
          depend = record { a = a.0; b = b.0; a_is = a.1; b_is = b.1; depend = d };
        }) in
        let independent = (tells i j a.0 b.0 e.0 f.0 a.1 b.1 e.1 f.1).1 no in
        c.dependent (subst (λ (z : Item Event). AreIndependent leaves z.event c.y.event) (sym e.2) (subst (λ (z : Item Event). AreIndependent leaves (seen_deed e.0.deed) z.event) (sym f.2) independent))

    listed : (i j : ℕ) → (Clashes leaves (whole_of plan) i j → ClashIn leaves (items (whole_of plan)) i j) × (ClashIn leaves (items (whole_of plan)) i j → Clashes leaves (whole_of plan) i j)
    listed = clashes_are_listed Trap leaves (whole_of plan) (trees_are_fresh plan)

    pub flaw_is : (found : Option Pair) → IsFirstPair rows acts found → IsFirstEventFlaw (leaves_of plan.draft) plan (flaw_of found)
    flaw_is None h = (of.0, λ i j c. from-list i j ((listed i j).0 c) (h i j))
    flaw_is (Some p) h = (
      of.0,
      record {
        clash = (listed p.earlier p.later).1 (to-list p.earlier p.later h.0);
        first = λ i j c. unless p.earlier p.later i j (λ n. from-list i j ((listed i j).0 c) (λ k. n (h.1 i j k)));
      },
    )

pub first_below : (plan : Plan) (entries : List Entry) (found : Option Pair) → MayBeCompared entries → IsFirstOf plan entries found → AreSmall found
first_below plan entries found may h = pair_below plan entries h.acts h.rows h.are_acts h.are_rows found may.few h.first

pub first_flaw : (plan : Plan) (entries : List Entry) (found : Option Pair) → AreOfPlan plan (Some entries) → IsFirstOf plan entries found → IsFirstEventFlaw (leaves_of plan.draft) plan (flaw_of found)
first_flaw plan entries found of h = flaw_is plan entries h.acts h.rows h.are_acts h.are_rows of found h.first
