-- How many events a tree has and what its chain weighs, as words, and the chain that is chosen by them.
use Rattle.std.specs.Prelude.{◌≡◌, ◌<◌, ◌≤◌, ℕ, ◌+◌, ◌-◌, ◌^◌, min, nat_lt, nat_eq, Bool, true, false, if◌then◌else◌, Option, Some, None, List, [], ◌∷◌, ◌++◌}
use Rattle.sq_ir.specs.Tree.{Tree, Skip, Act, Stuck, Seq, Par, Within}
use Rattle.sq_sched.specs.Shapes.{par_of}
use Rattle.sq_span.specs.declared.heft.Heft.{Heft}
use Rattle.sq_span.specs.Chains.{most_events}

-- the greatest number of 128 bits
abbrev pub most_weight : ℕ
most_weight = 2 ^ 128 - 1

abbrev pub nothing : Heft
nothing = record { events = 0; weight = 0 }

-- of two parts in turn, or else beside one another; none of more events than a plan may have
abbrev pub joined : (in_turn : Bool) → Heft → Heft → Option Heft
joined in_turn x y =
    if nat_lt most_events (x.events + y.events) then None else Some (record {
      events = x.events + y.events;
      weight = if in_turn then min (x.weight + y.weight) most_weight else (if nat_lt x.weight y.weight then y.weight else x.weight);
    })

abbrev pub both : (in_turn : Bool) → Option Heft → Option Heft → Option Heft
both in_turn None y = None
both in_turn (Some x) None = None
both in_turn (Some x) (Some y) = joined in_turn x y

abbrev pub heft : {E S : Type 0} → (weight : E → ℕ) → Tree E S → Option Heft
heft weight Skip = Some nothing
heft weight (Act e) = Some (record { events = 1; weight = min (weight e) most_weight })
heft weight (Stuck e) = Some (record { events = 1; weight = min (weight e) most_weight })
heft weight (Seq a b) = both true (heft weight a) (heft weight b)
heft weight (Par a b) = both false (heft weight a) (heft weight b)
heft weight (Within s a) = heft weight a

-- what has too many events has one too many
abbrev pub known : Option Heft → Heft
known None = record { events = 65537; weight = 0 }
known (Some x) = x

-- of two parts beside one another the second one is chosen: the first has no event, or the second has some and weighs
-- more
abbrev pub is_lighter : Heft → Heft → Bool
is_lighter x y = if nat_eq x.events 0 then true else (if nat_eq y.events 0 then false else nat_lt x.weight y.weight)

-- the chain that is chosen so
abbrev pub picked : {E S : Type 0} → (weight : E → ℕ) → Tree E S → List E
picked weight Skip = []
picked weight (Act e) = e ∷ []
picked weight (Stuck e) = e ∷ []
picked weight (Seq a b) = picked weight a ++ picked weight b
picked weight (Par a b) = if is_lighter (known (heft weight a)) (known (heft weight b)) then picked weight b else picked weight a
picked weight (Within s a) = picked weight a

-- of parts beside one another the one of number b is chosen; where they have no event it may be none
pub record Chooses {E S : Type 0} (weight : E → ℕ) (n : ℕ) (part : ℕ → Tree E S) (b : ℕ) : Type 0 where
  pub none : n ≤ b → picked weight (par_of n part 0) ≡ []
  pub some : b < n → picked weight (par_of n part 0) ≡ picked weight (part b)
