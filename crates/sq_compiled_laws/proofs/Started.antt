-- Where each form but the entry is started by one before it, each buffer is brought to a node at which its form runs.
use Rattle.std.proofs.Common.{◌≡◌, ℕ, zero, suc, ◌+◌, ◌<◌, ◌≤◌, ◌==◌, Bool, true, false, if◌then◌else◌, List, [], ◌∷◌, ◌++◌, length, slice_get, Some, refl, sym, ap, subst, arith, le_trans}
use Rattle.std.specs.List.{Contains}
use Rattle.std.proofs.lemmas.Bool.{eq-eqb}
use Rattle.sq_blocks.specs.declared.argument.Argument.{Argument}
use Rattle.sq_ir.specs.Written.{Setting}
use Rattle.sq_ir.specs.Plans.{placed}
use Rattle.sq_ir.specs.declared.plan.Buffer.{Buffer}
use Rattle.sq_ir.specs.declared.plan.Draft.{Draft}
use Rattle.sq_nests.specs.Stacks.{total}
use Rattle.sq_spec.specs.declared.body.FormBody.{FormBody}
use Rattle.sq_spec.specs.declared.resolved.Resolved.{Resolved}
use Rattle.sq_spec_laws.specs.Needs.{RunsAt}
use Rattle.sq_spec_laws.specs.Needs as needs
use Rattle.sq_text.specs.declared.spread.SpreadRule.{SpreadRule}
use Rattle.sq_meant.specs.PlanGood.DraftLaws.Choosing.{Walked, MayBeChosen}
use Rattle.sq_meant.specs.PlanGood.Homes.Chosen.declared.choice.Choice.{Choice}
use Rattle.sq_meant.specs.PlanGood.Homes.Chosen.Forms.{bodies_of, choice_in}
use Rattle.sq_meant.specs.PlanGood.Homes.Drafts.{homes_of, buffers_of, entry_of, IsDraftOf}
use Rattle.sq_meant.specs.PlanGood.Homes.Chosen.Arrays.{standing}
use Rattle.sq_meant.specs.PlanGood.Loops.{Starts, starts_of, brought_by, starts_worth, stand_sum}
use Rattle.sq_meant.specs.PlanGood.Planned.{memories_of}
use Rattle.sq_meant.specs.PlanGood.Sums.{greatest, here}
use Rattle.sq_meant.specs.PlanGood.Term.Placed.declared.home.Homes.{Homes}
use Rattle.sq_meant.specs.PlanGood.Term.Placed.Tables.{locals_of}
use Rattle.sq_meant.specs.PlanGood.Term.Placed.Trees.{local_buffers}
use Rattle.sq_meant.specs.PlanGood.Term.Terms.{body_in, homes_in}
use Rattle.sq_meant.proofs.PlanGood.DraftLaws.Entry.{entries_have_buffers}
use Rattle.sq_meant.proofs.PlanGood.DraftLaws.Numbers.{first_of}
use Rattle.sq_compiled_laws.proofs.BufferEnds.{brings, AreBrought}
use Rattle.sq_compiled_laws.proofs.BufferRoom.{one, seen}
use Rattle.sq_compiled_laws.proofs.Standing.{FormHas, form_of, is_brought, is_entrys}

-- ---- sums

weighs_one : (b : ℕ) (bs : List ℕ) → Contains bs b → 1 ≤ total (one b) bs
weighs_one b [] (k, l, e) = absurd (omega (arith, l))
weighs_one b (c ∷ bs) (zero, l, e) = by (c == b) (eq-eqb c b e)
  where
    by : (v : Bool) → v ≡ true → 1 ≤ (if v then 1 else 0) + total (one b) bs
    by true q = omega arith
    by false q = absurd (cc q)
weighs_one b (c ∷ bs) (suc k, l, e) = let more = weighs_one b bs (k, omega (arith, l), e) in omega (arith, more)

here_same : (y n : ℕ) → here y y n ≡ n
here_same y n = by (y == y) (eq-eqb y y refl)
  where
    by : (v : Bool) → v ≡ true → (if v then n else 0) ≡ n
    by true q = refl
    by false q = absurd (cc q)

pub greatest_at : {A : Type 0} (f : A → ℕ) (xs : List A) (i : ℕ) (x : A) → slice_get xs i ≡ Some x → f x ≤ greatest f xs
greatest_at f [] i x e = absurd (cc e)
greatest_at f (y ∷ xs) zero x e =
    let is : y ≡ x = cc e in
    let same = ap f is in
    omega (arith, same)
greatest_at f (y ∷ xs) (suc i) x e = let more = greatest_at f xs i x e in omega (arith, more)

below : {A : Type 0} (xs : List A) (i : ℕ) (x : A) → slice_get xs i ≡ Some x → i < length xs
below [] i x e = absurd (cc e)
below (y ∷ xs) zero x e = omega arith
below (y ∷ xs) (suc i) x e = let l = below xs i x e in omega (arith, l)

-- ---- forms that are started

abbrev pub Runs : Resolved → ℕ → ℕ → Type 0
Runs r = RunsAt r.typed.now.tasks r.mapping.now.instances r.machine.now.nodes r.forms

-- What the form k begins at a node leads to the form j: with it stand there all buffers of j, and what j begins.
pub record Leads (r : Resolved) (choices : List Choice) (offset : ℕ → ℕ) (j y : ℕ) (rule : SpreadRule) (z : Starts) : Type 0 where
  pub to : ℕ
  pub runs : Runs r j to
  pub args : List Argument
  pub long : length args ≡ length (homes_in (homes_of r choices) j).params
  pub brings_ : (b x : ℕ) (inside : ℕ → ℕ → ℕ)
      → here to x (total (one b) (brought_by (body_in (bodies_of r)) (homes_in (homes_of r choices)) (homes_in (homes_of r choices) j).overlaps j args)) + inside j to
      ≤ starts_worth (seen (placed (buffers_of r choices) (memories_of r) offset) b) (body_in (bodies_of r)) (homes_in (homes_of r choices)) x inside rule y z

pub record IsStarted (r : Resolved) (choices : List Choice) (offset : ℕ → ℕ) (j : ℕ) : Type 0 where
  pub caller : ℕ
  pub less : caller < j
  pub index : ℕ
  pub start : Starts
  pub there : slice_get (starts_of (homes_in (homes_of r choices)) (body_in (bodies_of r) caller).body) index ≡ Some start
  pub leads : (y : ℕ) → Runs r caller y → Leads r choices offset j y (homes_in (homes_of r choices) caller).rule start

-- each form but the entry is started by one before it
pub record AreStarted (r : Resolved) (choices : List Choice) : Type 0 where
  pub each : (offset : ℕ → ℕ) (j : ℕ) → 0 < j → j < length (bodies_of r) → IsStarted r choices offset j

module _ (r : Resolved) (w : Walked r) (choices : List Choice) (may : MayBeChosen r choices) (started : AreStarted r choices) (offset : ℕ → ℕ) (b : ℕ) where
  abbrev bodies : ℕ → FormBody
  bodies = body_in (bodies_of r)

  abbrev homes : ℕ → Homes
  homes = homes_in (homes_of r choices)

  abbrev s : Setting
  s = placed (buffers_of r choices) (memories_of r) offset

  abbrev n : ℕ
  n = length (bodies_of r)

  -- the buffer is one of the form's
  abbrev IsOf : ℕ → Type 0
  IsOf j = (h : FormHas r w choices may b) × (h.form ≡ j)

  -- what the form begins at this node is among what the entry brings
  record IsReached (j : ℕ) : Type 0 where
    node : ℕ
    fuel : ℕ
    many : n ≤ fuel + j
    runs : Runs r j node
    inside : (x : ℕ) → stand_sum (seen s b) bodies homes x fuel j node ≤ brings r choices s b x
    brought : IsOf j → 1 ≤ brings r choices s b node

  first_reached : IsReached 0
  first_reached = record {
    node = 0;
    fuel = n;
    many = omega arith;
    runs = needs.entry;
    inside = λ x. omega arith;
    brought = λ h.
        let f = h.0 in
        let is : f.form ≡ 0 = h.1 in
        let there = entry_there f is in
        let some = weighs_one b (entry_of r choices ++ local_buffers (locals_of (bodies 0) (homes 0))) there in
        let same = here_same 0 (total (one b) (entry_of r choices ++ local_buffers (locals_of (bodies 0) (homes 0)))) in
        omega (arith, some, same);
  }
    where
      entry_there : (f : FormHas r w choices may b) → f.form ≡ 0 → Contains (entry_of r choices ++ local_buffers (locals_of (bodies 0) (homes 0))) b
      entry_there f is = by f.form f.body f.there f.low f.high is
        where
          by : (k : ℕ) (x : FormBody) → slice_get (bodies_of r) k ≡ Some x → first_of r choices k ≤ b
              → b < first_of r choices k + length (standing x (choice_in choices k))
              → k ≡ 0 → Contains (entry_of r choices ++ local_buffers (locals_of (bodies 0) (homes 0))) b
          by zero x at low high e = is_entrys r w choices may 0 x at (entries_have_buffers r w choices may) b low high
          by (suc k) x at low high e = absurd (omega (arith, e))

  next_reached : (j : ℕ) → j < n → (z : IsStarted r choices offset j) → IsReached z.caller → IsReached j
  next_reached j less z up = by up.fuel refl
    where
      its : Leads r choices offset j up.node (homes z.caller).rule z.start
      its = z.leads up.node up.runs

      by : (fuel : ℕ) → up.fuel ≡ fuel → IsReached j
      by zero e = absurd (let m = up.many in let l = z.less in omega (arith, m, l, less, e))
      by (suc m) e =
          let all : (x : ℕ) → here its.to x (total (one b) (brought_by bodies homes (homes j).overlaps j its.args)) + stand_sum (seen s b) bodies homes x m j its.to ≤ brings r choices s b x =
          λ x.
          let a = its.brings_ b x (stand_sum (seen s b) bodies homes x m) in
          let c = greatest_at (starts_worth (seen s b) bodies homes x (stand_sum (seen s b) bodies homes x m) (homes z.caller).rule up.node)
          (starts_of homes (bodies z.caller).body) z.index z.start z.there in
          let d = subst (λ (q : ℕ). stand_sum (seen s b) bodies homes x q z.caller up.node ≤ brings r choices s b x) e (up.inside x) in
          le_trans a (le_trans c d) in
          record {
            node = its.to;
            fuel = m;
            many = let k = up.many in let l = z.less in omega (arith, k, l, e);
            runs = its.runs;
            inside = λ x. let a = all x in omega (arith, a);
            brought = λ h. there its.args its.long its.to (all its.to) h;
          }
        where
          there : (args : List Argument) → length args ≡ length (homes j).params → (to : ℕ)
              → here to to (total (one b) (brought_by bodies homes (homes j).overlaps j args)) + stand_sum (seen s b) bodies homes to m j to ≤ brings r choices s b to
              → IsOf j → 1 ≤ brings r choices s b to
          there args long to fits h =
              let f = h.0 in
              let in_it = subst (λ (k : ℕ). length args ≡ length (homes k).params → Contains (brought_by bodies homes (homes k).overlaps k args) b) h.1
              (λ l. is_brought r w choices may f.form f.body f.there b f.low f.high args l) long in
              let some = weighs_one b (brought_by bodies homes (homes j).overlaps j args) in_it in
              let same = here_same to (total (one b) (brought_by bodies homes (homes j).overlaps j args)) in
              omega (arith, some, same, fits)

  reached : (bound j : ℕ) → j < bound → j < n → IsReached j
  reached zero j l less = absurd (omega (arith, l))
  reached (suc m) zero l less = first_reached
  reached (suc m) (suc j) l less =
      let z = started.each offset (suc j) (omega arith) less in
      let before = z.less in
      next_reached (suc j) less z (reached m z.caller (omega (arith, before, l)) (omega (arith, before, less)))

  pub buffer_brought : b < length (buffers_of r choices) → (node : ℕ) × (1 ≤ brings r choices s b node)
  buffer_brought lt =
      let f = form_of r w choices may b lt in
      let less = below (bodies_of r) f.form f.body f.there in
      let z = reached (suc f.form) f.form (omega arith) less in
      (z.node, z.brought (f, refl))

pub are_brought : (r : Resolved) → Walked r → (choices : List Choice) → MayBeChosen r choices → AreStarted r choices → (d : Draft) → IsDraftOf r choices d
    → AreBrought r choices d
are_brought r w choices may started d its = record {
  each = λ offset b lt.
      subst (λ (bs : List Buffer). b < length bs → (node : ℕ) × (1 ≤ brings r choices (placed bs (memories_of r) offset) b node)) (sym its.buffers)
      (λ l. buffer_brought r w choices may started offset b l) lt;
}
