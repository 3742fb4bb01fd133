-- Of leaves the shapes and what they write are all that a plan's conditions ask.
use Rattle.std.proofs.Common.{◌≡◌, ℕ, zero, suc, List, [], ◌∷◌, Some, slice_get, inl, inr, ◌⊎◌, refl, sym, ap, ◌∙◌, subst}
use Rattle.std.specs.Option.{option_map}
use Rattle.sq_ir.specs.Leaf.declared.trap.Trap.{Trap}
use Rattle.sq_ir.specs.Events as events
use Rattle.sq_ir.specs.Events.{Spot, Event, Leaves, chosen, in_views, writes, footprint, AreTogether, AreIndependent}
use Rattle.sq_ir.specs.Footprints.{Apart}
use Rattle.sq_ir.specs.Written.{Setting, Env, event_of}
use Rattle.sq_ir.specs.Plans.{AreApart, MayBePerformed, IsAllowed}
use Rattle.sq_ir.specs.DraftLeaves.{shapes_of, leaves_of}
use Rattle.sq_ir.specs.declared.term.Action.{Action}
use Rattle.sq_ir.specs.declared.plan.Draft.{Draft}
use Rattle.sq_ir.specs.declared.plan.Leaf.{Leaf}
use Rattle.sq_written_laws.specs.Moved.{AreMoved}
use Rattle.sq_written_laws.proofs.Moved.{flags_at}
use Rattle.sq_written_laws.proofs.Worths.{shapes_same}

-- the same shapes, and the same of them are written
pub record LookAlike (l k : Leaves Trap) : Type 0 where
  pub shapes : (code : ℕ) → l.shapes code ≡ k.shapes code
  pub written : (code : ℕ) → l.written code ≡ k.written code

-- ---- leaves whose texts stand elsewhere

shapes_at : (ls ks : List Leaf) → AreMoved ls ks → (code : ℕ)
    → option_map shapes_of (option_map (λ (l : Leaf). l.code) (slice_get ls code))
    ≡ option_map shapes_of (option_map (λ (l : Leaf). l.code) (slice_get ks code))
shapes_at [] [] h code = refl
shapes_at [] (k ∷ ks) h code = absurd h
shapes_at (l ∷ ls) [] h code = absurd h
shapes_at (l ∷ ls) (k ∷ ks) h zero =
    ap Some (shapes_same l.code.numbers l.code.variant k.code.variant h.0.variant
    ∙ ap (λ ns. shapes_of (record { variant = k.code.variant; numbers = ns })) h.0.numbers)
shapes_at (l ∷ ls) (k ∷ ks) h (suc code) = shapes_at ls ks h.1 code

pub moved_look : (d e : Draft) → AreMoved d.leaves e.leaves → LookAlike (leaves_of d) (leaves_of e)
moved_look d e h = record {
  shapes = λ code. shapes_at d.leaves e.leaves h code;
  written = λ code. flags_at d.leaves e.leaves h code;
}

module _ (l k : Leaves Trap) (same : LookAlike l k) where
  -- ---- what is asked of events

  performed : (capacity : ℕ → ℕ) (e : Event) → MayBePerformed l capacity e → MayBePerformed k capacity e
  performed capacity (events.Copy from to bytes) h = h
  performed capacity (events.Fill to elem count v) h = h
  performed capacity (events.Accumulate op elem from to count) h = h
  performed capacity (events.Leaf node code views path) h = record {
    shapes = sym (same.shapes code) ∙ h.shapes;
    strides = h.strides;
    some = h.some;
    inside = h.inside;
    apart = subst (λ ws. AreApart ws views) (same.written code) h.apart;
    few = h.few;
    near = h.near;
    short = h.short;
    words = h.words;
  }

  pub allowed : (s : Setting) (env : Env) (bs : List ℕ) (a : Action) → IsAllowed l s env bs a → IsAllowed k s env bs a
  allowed s env bs a h = record { inside = h.inside; event = performed s.capacity (event_of s env a) h.event }

  -- ---- independence

  writes_same : (e : Event) (a : Spot) → writes l e a ≡ writes k e a
  writes_same (events.Copy from to bytes) a = refl
  writes_same (events.Fill to elem count v) a = refl
  writes_same (events.Accumulate op elem from to count) a = refl
  writes_same (events.Leaf node code views path) a = ap (λ ws. in_views node (chosen ws views) a) (same.written code)

  pub independent : (e f : Event) → AreIndependent l e f → AreIndependent k e f
  independent e f h = record { apart = by h.apart; paths = h.paths }
    where
      by : Apart (footprint l) e f ⊎ AreTogether e f → Apart (footprint k) e f ⊎ AreTogether e f
      by (inl x) = inl (record {
        first_read = λ a w. x.first_read a (writes_same e a ∙ w);
        second_read = λ a w. x.second_read a (writes_same f a ∙ w);
        written = λ a w. sym (writes_same f a) ∙ x.written a (writes_same e a ∙ w);
      })
      by (inr x) = inr x
