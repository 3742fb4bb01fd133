-- Tables and a machine that are as asked: a `mapseq` of two lower calls, whose first argument leaves it, at a root with
-- two children.
use Rattle.std.proofs.Common.{◌≡◌, ℕ, zero, suc, ◌+◌, ◌<◌, true, [], ◌∷◌, ◌≤◌, get_or, slice_get}
use Rattle.std.proofs.Common.{Some, sym, ap, ◌∙◌, subst, arith, inr}
use Rattle.sq_text.specs.declared.place.Place.{Place}
use Rattle.sq_ir.specs.Written.{Setting}
use Rattle.sq_spec.specs.declared.statement.LoopKind.TheVariants as loop_kind
use Rattle.sq_spec.specs.declared.statement.CallInstance.{CallInstance}
use Rattle.sq_spec.specs.declared.statement.Statement.TheVariants as b
use Rattle.sq_term_laws.specs.Fits.{Bounds, IsMachine, NodeAt, AskedOfStatement, Tabled}
use Rattle.sq_term_laws.specs.Leaves.{Left, HasTurns, RowLeaves, AskedInLoops, Leaves}
use Rattle.sq_term_laws.proofs.Chains.{tabled_call, tabled_map, leaves_call, leaves_map}

abbrev most : Bounds
most = record { uses = 1048576; children = 64 }

numbered : (k t : ℕ) → k < 1 → t < get_or (2 ∷ []) k 0 → get_or (0 ∷ []) k 0 + t < 2
numbered zero t l m = omega (arith, m)
numbered (suc k) t l m = absurd (omega (arith, l))

started : (k t : ℕ) → k < 1 → t < get_or (2 ∷ []) k 0 → k < 1
started k t l m = l

-- begun once, it begins its call twice
tabled : (place : Place) (r : CallInstance)
    → Tabled most 1 0 (b.Map place loop_kind.Sequential (2 ∷ []) (0 ∷ []) (b.Call true (r ∷ r ∷ []) ∷ [])) 1
tabled place r = subst (λ (f : AskedOfStatement). f 1)
    (sym (tabled_map most 1 0 place loop_kind.Sequential (2 ∷ []) (0 ∷ []) (b.Call true (r ∷ r ∷ []) ∷ []))) (
      inr (omega arith),
      started,
      2,
      omega arith,
      numbered,
      (
        subst (λ (f : AskedOfStatement). f 2) (sym (tabled_call most 1 0 true (r ∷ r ∷ [])))
            (omega arith, omega arith, λ e. omega arith),
        tt,
      ),
    )

-- of the loop it leaves one
abbrev first_leaves : Left
first_leaves f zero = 1
first_leaves f (suc i) = 0

leaves : (place : Place) (r : CallInstance)
    → Leaves first_leaves (b.Map place loop_kind.Sequential (2 ∷ []) (0 ∷ []) (b.Call true (r ∷ r ∷ []) ∷ [])) []
leaves place r = subst (λ (f : AskedInLoops). f [])
    (sym (leaves_map first_leaves place loop_kind.Sequential (2 ∷ []) (0 ∷ []) (b.Call true (r ∷ r ∷ []) ∷ [])))
    (subst (λ (f : AskedInLoops). f ((2 ∷ []) ∷ [])) (sym (leaves_call first_leaves true (r ∷ r ∷ []))) rows, tt)
  where
    form_is : (k : ℕ) (q : CallInstance) → slice_get (r ∷ r ∷ []) k ≡ Some q → q.form ≡ r.form
    form_is zero q e = let is : r ≡ q = cc e in ap (λ (x : CallInstance). x.form) (sym is)
    form_is (suc zero) q e = let is : r ≡ q = cc e in ap (λ (x : CallInstance). x.form) (sym is)
    form_is (suc (suc k)) q e = absurd (cc e)

    each : (k : ℕ) → k < 1 → 1 ≤ get_or (2 ∷ []) k 0
    each zero l = omega arith
    each (suc k) l = absurd (omega (arith, l))

    turns : (f i j : ℕ) → j < first_leaves f i → HasTurns (get_or ((2 ∷ []) ∷ []) j [])
    turns f zero zero l = record { some = omega arith; each = each }
    turns f zero (suc j) l = absurd (omega (arith, l))
    turns f (suc i) j l = absurd (omega (arith, l))

    rows : (k : ℕ) (q : CallInstance) → slice_get (r ∷ r ∷ []) k ≡ Some q
        → RowLeaves first_leaves ((2 ∷ []) ∷ []) (r ∷ r ∷ []) q
    rows k q e = record {
      turns = turns q.form;
      one = λ i l m x d. form_is m x d ∙ sym (form_is k q e);
    }

abbrev level_of : ℕ → ℕ
level_of zero = 0
level_of (suc n) = 1

abbrev children : ℕ → ℕ
children zero = 2
children (suc n) = 0

abbrev machine : Setting
machine = record {
  children = children;
  child = λ n c. suc c;
  capacity = λ n. 8;
  buffers = 0;
  level = λ b. 0;
  size
      = λ b. 0;
  offset = λ b. 0;
}

is_machine : IsMachine machine most 1 (NodeAt 3 level_of)
is_machine = record { below = below; some = some; few = few }
  where
    below : (l n c : ℕ) → NodeAt 3 level_of l n → c < children n → NodeAt 3 level_of (suc l) (suc c)
    below l zero c h lt = let e : 0 ≡ l = h.1 in (omega (arith, lt), omega (arith, e))
    below l (suc n) c h lt = absurd (omega (arith, lt))

    some : (l n : ℕ) → NodeAt 3 level_of l n → l < 1 → 1 ≤ children n
    some l zero h lt = omega arith
    some l (suc n) h lt = let e : 1 ≡ l = h.1 in absurd (omega (arith, e, lt))

    few : (l n : ℕ) → NodeAt 3 level_of l n → children n ≤ 64
    few l zero h = omega arith
    few l (suc n) h = omega arith
