-- What is seen of a bank that keeps the list of its events.
use Rattle.std.specs.Prelude.{◌≡◌, ℕ, ◌<◌, ◌≤◌, List, [], ◌∷◌, ◌++◌, length, map, Option, Some, None, if◌then◌else◌}
use Rattle.std.specs.Prelude.{vec_capacity}
use Rattle.sq_ir.specs.Events.{Event}
use Rattle.sq_sched.specs.Seen.{seen}
use Rattle.sq_tree.specs.declared.log.Log.{Log}
use Rattle.sq_tree.specs.declared.log.LogBank.{LogBank}
use Rattle.sq_tree.specs.Bank.{BankSeen}
use Rattle.sq_tree.specs.Raw.{raw_seen}

-- its events, while there was room for all of them
abbrev pub log_told : Log → Option (List Event)
log_told l = if l.is_whole then Some (map seen l.events.items) else None

-- the same bank, with what it tells of its events
abbrev pub telling : Option (List Event) → BankSeen → BankSeen
telling told b =
    record { openings = b.openings; plan = b.plan; nodes = b.nodes; events = told; counts = b.counts; edges = b.edges }

abbrev pub log_seen : LogBank → BankSeen
log_seen b = telling (log_told b.log) (raw_seen b.bank)

-- where the list is told it was told before, and has this event more
pub record Adds (old now : Option (List Event)) (e : Event) : Type 0 where
  pub last : (told : List Event) → now ≡ Some told → (before : List Event) × (old ≡ Some before)
      × (told ≡ before ++ e ∷ [])

-- how many events it has room for
abbrev pub log_room : Log → ℕ
log_room l = vec_capacity l.events

abbrev pub room_of : LogBank → ℕ
room_of b = log_room b.log

-- with one event more the list stays told while it has room, and not after that
pub record Keeps (old now : Option (List Event)) (room : ℕ) (e : Event) : Type 0 where
  pub told : (before : List Event) → old ≡ Some before → length before < room → now ≡ Some (before ++ e ∷ [])
  pub full : (before : List Event) → old ≡ Some before → room ≤ length before → now ≡ None
  pub gone : old ≡ None → now ≡ None
