-- From what a walk did to a part to what it did to the whole.
use Rattle.std.proofs.Common.{◌≡◌, ℕ, ◌+◌, ◌<◌, ◌≤◌, Bool, true, false, List, length, Some, refl, sym, ap, ◌∙◌, subst, arith, inl, inr}
use Rattle.std.specs.Prelude.{if◌then◌else◌, slice_set, not, nat_eq}
use Rattle.std.proofs.lemmas.Bool.{eqb-true}
use Rattle.sq_ir.specs.Tree.{event_at, ready}
use Rattle.sq_ir.specs.Scopes.{Scope}
use Rattle.sq_ir.specs.Events.{Event}
use Rattle.sq_sched.specs.declared.event.Event as rust
use Rattle.sq_sched.specs.declared.frame.Frame.{Frame}
use Rattle.sq_sched.specs.declared.perform.How.{How}
use Rattle.sq_sched.specs.Shapes.{Shape, frame_in, rest_of, IsKept, HasStepped}
use Rattle.sq_sched.specs.Ends.{tells, traps, ends, SameCounts, differ, Advanced}
use Rattle.sq_ir.specs.declared.term.Action.{Action}
use Rattle.sq_ir.specs.declared.term.Term.TheVariants as t
use Rattle.sq_ir.specs.declared.plan.Plan.{Plan}
use Rattle.sq_sched.specs.Seen.{seen}
use Rattle.sq_sched.specs.Words.{Env, event}
use Rattle.sq_sched.specs.Forms.{made}
use Rattle.sq_sched.specs.Parts.{ended}
use Rattle.sq_sched.proofs.Strands.{if-true, if-false}
use Rattle.sq_sched.proofs.Steps.{set-here, set-there}
use Rattle.sq_sched.proofs.Performs.{act_event, act_steps}

pub differ_not : (old now : Frame) → differ old now ≡ false → SameCounts old now
differ_not old now h = by (nat_eq now.ready old.ready) refl old.done now.done refl refl h
  where
    by : (u : Bool) → nat_eq now.ready old.ready ≡ u → (v w : Bool) → old.done ≡ v → now.done ≡ w
        → (if u then (if w then not v else v) else true) ≡ false → SameCounts old now
    by false e v w p q z = absurd (cc)
    by true e true true p q z = record { ready = eqb-true now.ready old.ready e; done = q ∙ sym p }
    by true e false false p q z = record { ready = eqb-true now.ready old.ready e; done = q ∙ sym p }
    by true e true false p q z = absurd (cc)
    by true e false true p q z = absurd (cc)

-- the counts of the part stay as they were
pub part_quiet : (x y : Shape Event Scope) (es fs : List Frame) (o p k j : ℕ) (how : How) (told : rust.Event) (m : Bool)
    → event_at (rest_of x (frame_in es) o) k ≡ event_at (rest_of y (frame_in es) p) j → m ≡ false → Advanced y es fs p j how told m
    → frame_in fs o ≡ frame_in es o
    → (HasStepped y (frame_in es) (frame_in fs) p j (traps how) → SameCounts (frame_in es p) (frame_in fs p) → HasStepped x (frame_in es) (frame_in fs) o k (traps how))
    → Advanced x es fs o k how told false
part_quiet x y es fs o p k j how told m e same a kept whole = record {
  told = λ t. e ∙ a.told t;
  ended = λ f. absurd (cc);
  stays = λ z. a.stays (ap (ends how) (sym e) ∙ z);
  stepped = λ z. whole (a.stepped (ap (ends how) (sym e) ∙ z)) (a.counts same);
  counts = λ f. record { ready = ap (λ g. g.ready) kept; done = ap (λ g. g.done) kept };
}

-- they change
pub part_changes : (x y : Shape Event Scope) (es fs hs : List Frame) (o p k j : ℕ) (how : How) (told : rust.Event) (m : Bool) (was : Frame)
    → event_at (rest_of x (frame_in es) o) k ≡ event_at (rest_of y (frame_in es) p) j → m ≡ true → Advanced y es fs p j how told m
    → was ≡ frame_in es o → (HasStepped y (frame_in es) (frame_in fs) p j (traps how) → HasStepped x (frame_in es) (frame_in hs) o k (traps how))
    → Advanced x es hs o k how told (differ was (frame_in hs o))
part_changes x y es fs hs o p k j how told m was e goes a is whole =
    let ends_there = a.ended goes in
    let ends_here = ap (ends how) e ∙ ends_there in
    record {
      told = λ t. e ∙ a.told t;
      ended = λ f. ends_here;
      stays = λ z. let y = sym ends_here ∙ z in absurd (cc);
      stepped = λ z. whole (a.stepped ends_there);
      counts = λ f. subst (λ g. SameCounts g (frame_in hs o)) is (differ_not was (frame_in hs o) f);
    }

-- frames of a part lie among those of the whole
pub within_kept : (es fs : List Frame) (o p v w : ℕ) → o ≤ p → p + v ≤ o + w → IsKept es fs p v → IsKept es fs o w
within_kept es fs o p v w lo le kept i (inl x) = kept i (inl (omega arith))
within_kept es fs o p v w lo le kept i (inr x) = kept i (inr (omega arith))

-- an action
module _ (plan : Plan) (env : Env) (a : Action) (es fs : List Frame) (o k : ℕ) (how : How) (told : rust.Event) (m : Bool) where
  pub act_advances : o < length es → k < ready (rest_of ((made plan (t.Act a)).form env) (frame_in es) o) → m ≡ ends how (Some (event plan a env))
      → (tells how ≡ true → seen told ≡ event plan a env) → fs ≡ (if m then slice_set es o (ended es o (traps how)) else es)
      → Advanced ((made plan (t.Act a)).form env) es fs o k how told m
  act_advances lo there em et ef =
      let e = act_event plan env a (frame_in es) o k (event plan a env) there refl in
      let is : m ≡ ends how (event_at (rest_of ((made plan (t.Act a)).form env) (frame_in es) o) k) = em ∙ ap (ends how) (sym e) in
      let same : m ≡ false → fs ≡ es = λ z. ef ∙ if-false m (slice_set es o (ended es o (traps how))) es z in
      record {
        told = λ y. e ∙ ap Some (sym (et y));
        ended = λ z. sym is ∙ z;
        stays = λ z. same (is ∙ z);
        stepped = λ z. subst (λ gs. HasStepped ((made plan (t.Act a)).form env) (frame_in es) (frame_in gs) o k (traps how)) (sym (ef ∙ if-true m (slice_set es o (ended es o (traps how))) es (is ∙ z))) (act_steps plan env a es es o k (frame_in es o).turn (traps how) lo there);
        counts = λ z. let q = same z in record { ready = ap (λ gs. (frame_in gs o).ready) q; done = ap (λ gs. (frame_in gs o).done) q };
      }

pub act_kept : (es fs : List Frame) (o w : ℕ) (v m : Bool) → 0 < w → fs ≡ (if m then slice_set es o (ended es o v) else es) → IsKept es fs o w
act_kept es fs o w v true pos e i (inl x) = ap (λ gs. frame_in gs i) e ∙ set-there es o i (ended es o v) (omega arith)
act_kept es fs o w v true pos e i (inr x) = ap (λ gs. frame_in gs i) e ∙ set-there es o i (ended es o v) (omega arith)
act_kept es fs o w v false pos e i side = ap (λ gs. frame_in gs i) e

pub act_turn : (es fs : List Frame) (o : ℕ) (v m : Bool) → o < length es → fs ≡ (if m then slice_set es o (ended es o v) else es)
    → (frame_in fs o).turn ≡ (frame_in es o).turn
act_turn es fs o v true lo e = ap (λ gs. (frame_in gs o).turn) e ∙ ap (λ f. f.turn) (set-here es o (ended es o v) lo) ∙ same v
  where
    same : (v : Bool) → (ended es o v).turn ≡ (frame_in es o).turn
    same true = refl
    same false = refl
act_turn es fs o v false lo e = ap (λ gs. (frame_in gs o).turn) e
