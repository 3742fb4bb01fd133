-- How a walk to a ready event ends.
use Rattle.std.specs.Prelude.{◌≡◌, ℕ, Bool, true, false, not, nat_eq, Option, Some, None, List, if◌then◌else◌}
use Rattle.sq_ir.specs.Tree.{Tree, event_at, rest_at}
use Rattle.sq_ir.specs.Scopes.{Scope}
use Rattle.sq_ir.specs.Events.{Event, Copy, Fill, Accumulate, Leaf}
use Rattle.sq_sched.specs.declared.event.Event as rust
use Rattle.sq_sched.specs.declared.frame.Frame.{Frame}
use Rattle.sq_sched.specs.declared.perform.How.{How}
use Rattle.sq_sched.specs.declared.perform.How.TheVariants.{Step, Finish, Trap}
use Rattle.sq_sched.specs.Seen.{seen}
use Rattle.sq_sched.specs.Shapes.{Shape, frame_in, rest_of, HasStepped}

-- a leaf call
abbrev pub is_call : Event → Bool
is_call (Copy from to bytes) = false
is_call (Fill to elem count value) = false
is_call (Accumulate op elem from to count) = false
is_call (Leaf node code views path) = true

-- the event is told
abbrev pub tells : How → Bool
tells Step = true
tells Finish = false
tells Trap = false

abbrev pub traps : How → Bool
traps Step = false
traps Finish = false
traps Trap = true

-- the event is finished, or has trapped: all but a leaf call that is only told
abbrev pub ends : How → Option Event → Bool
ends Step None = true
ends Step (Some e) = not (is_call e)
ends Finish e = true
ends Trap e = true

-- what is left of a tree
abbrev pub left_after : How → Tree Event Scope → ℕ → Tree Event Scope
left_after how x k = if ends how (event_at x k) then rest_at x k (traps how) else x

-- the numbers of ready events are the same, and so is whether anything is left
pub record SameCounts (old now : Frame) : Type 0 where
  pub ready : now.ready ≡ old.ready
  pub done : now.done ≡ old.done

abbrev pub differ : (old now : Frame) → Bool
differ old now = if nat_eq now.ready old.ready then (if now.done then not old.done else old.done) else true

-- The walk has told the event, and where it ended the event the frames say so. Unless the first frame's counts change,
-- they are as they were.
pub record Advanced (s : Shape Event Scope) (es fs : List Frame) (o k : ℕ) (how : How) (said : rust.Event) (changes : Bool) : Type 0 where
  pub told : tells how ≡ true → event_at (rest_of s (frame_in es) o) k ≡ Some (seen said)
  pub ended : changes ≡ true → ends how (event_at (rest_of s (frame_in es) o) k) ≡ true
  pub stays : ends how (event_at (rest_of s (frame_in es) o) k) ≡ false → fs ≡ es
  pub stepped : ends how (event_at (rest_of s (frame_in es) o) k) ≡ true → HasStepped s (frame_in es) (frame_in fs) o k (traps how)
  pub counts : changes ≡ false → SameCounts (frame_in es o) (frame_in fs o)
