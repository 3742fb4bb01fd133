-- The events of a part of a plan, each with its number in the second order.
use Rattle.std.specs.Prelude.{◌≡◌, ℕ, ◌+◌, nat_le, if◌then◌else◌, Option, Some, None, List, [], ◌∷◌, ◌++◌, map}
use Rattle.sq_ir.specs.Tree.{Tree, Skip, Act, Stuck, Seq, Par, Within, waiting}
use Rattle.sq_ir.specs.Events as events
use Rattle.sq_check_laws.specs.Flaws.{most_events}
use Rattle.sq_check_laws.specs.Orders.{Item}
use Rattle.sq_sched.specs.Seen.{seen_spot}
use Rattle.sq_plan_check.specs.declared.entry.Deed.{Deed}
use Rattle.sq_plan_check.specs.declared.entry.Deed.TheVariants.{Copy, Fill, Acc, Call}
use Rattle.sq_plan_check.specs.declared.entry.Entry.{Entry}

-- a number of events that a plan may have
abbrev pub few : ℕ → Option ℕ
few n = if nat_le n most_events then Some n else None

-- some events, and as many more as the second number says
pub record IsSum (first : ℕ) (second sum : Option ℕ) : Type 0 where
  pub is : (n : ℕ) → second ≡ few n → sum ≡ few (first + n)

-- the events from left to right; in the second order the first of them has this number
abbrev pub numbered : {E S : Type 0} → ℕ → Tree E S → List (Item E)
numbered n Skip = []
numbered n (Act e) = record { event = e; second = n } ∷ []
numbered n (Stuck e) = []
numbered n (Seq a b) = numbered n a ++ numbered (n + waiting a) b
numbered n (Par a b) = numbered (n + waiting b) a ++ numbered n b
numbered n (Within s a) = numbered n a

abbrev pub seen_deed : Deed → events.Event
seen_deed (Copy from to bytes) = events.Copy (seen_spot from) (seen_spot to) bytes
seen_deed (Fill to elem count value) = events.Fill (seen_spot to) elem count value
seen_deed (Acc op elem from to count) = events.Accumulate op elem (seen_spot from) (seen_spot to) count
seen_deed (Call node code views path) = events.Leaf node code views path

abbrev pub seen_entry : Entry → Item events.Event
seen_entry e = record { event = seen_deed e.deed; second = e.second }

abbrev pub seen_entries : List Entry → List (Item events.Event)
seen_entries es = map seen_entry es
