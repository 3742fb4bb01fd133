-- Arrays in the root's memory of a bank.
use Rattle.std.specs.Prelude.{◌≡◌, ◌≢◌, ◌⊎◌, ℕ, ◌+◌, ◌<◌, ◌≤◌, List, [], ◌∷◌, length, map, take, drop, get_or}
use Rattle.std.specs.List.{All}
use Rattle.std.proofs.Common.{refl, ◌∙◌, subst}
use Rattle.sq_tree.specs.Bank.{BankSeen, bytes_at}
use Rattle.sq_root.specs.declared.place.Place.{Place}

-- ---- places

-- an array's bytes
abbrev pub part : Place → List ℕ → List ℕ
part p root = take p.size (drop p.at root)

abbrev pub parts : List Place → List ℕ → List (List ℕ)
parts places root = map (λ p. part p root) places

-- the place lies in a memory of n bytes
abbrev pub IsWithin : (n : ℕ) → Place → Type 0
IsWithin n p = p.at + p.size ≤ n

-- one of two places ends before the other begins
abbrev pub IsClear : Place → Place → Type 0
IsClear p q = (p.at + p.size ≤ q.at) ⊎ (q.at + q.size ≤ p.at)

abbrev pub AreApart : List Place → Type 0
AreApart [] = Unit {0}
AreApart (p ∷ ps) = All (IsClear p) ps × AreApart ps

-- all lie in a memory of n bytes, one beside another
pub record Fits (places : List Place) (n : ℕ) : Type 0 where
  pub within : All (IsWithin n) places
  pub apart : AreApart places

-- the place has no byte of that number
abbrev pub IsOutside : (i : ℕ) → Place → Type 0
IsOutside i p = (i < p.at) ⊎ (p.at + p.size ≤ i)

-- ---- banks

-- nothing has changed but bytes of these places of the root
pub record KeepsOutside (places : List Place) (old now : BankSeen) : Type 0 where
  pub openings : now.openings ≡ old.openings
  pub plan : now.plan ≡ old.plan
  pub events : now.events ≡ old.events
  pub counts : now.counts ≡ old.counts
  pub edges : now.edges ≡ old.edges
  pub sizes : map length now.nodes ≡ map length old.nodes
  pub others : (node : ℕ) → node ≢ 0 → bytes_at now.nodes node ≡ bytes_at old.nodes node
  pub outside : (i : ℕ) → All (IsOutside i) places
      → get_or (bytes_at now.nodes 0) i 0 ≡ get_or (bytes_at old.nodes 0) i 0

pub keeps_itself : (places : List Place) (seen : BankSeen) → KeepsOutside places seen seen
keeps_itself places seen =
    record {
      openings = refl;
      plan = refl;
      events = refl;
      counts = refl;
      edges = refl;
      sizes = refl;
      others = λ node other. refl;
      outside = λ i out. refl;
    }

keeps_further : (places : List Place) (old mid now : BankSeen) → KeepsOutside places old mid
    → KeepsOutside places mid now → KeepsOutside places old now
keeps_further places old mid now first second =
    record {
      openings = second.openings ∙ first.openings;
      plan = second.plan ∙ first.plan;
      events = second.events ∙ first.events;
      counts = second.counts ∙ first.counts;
      edges = second.edges ∙ first.edges;
      sizes = second.sizes ∙ first.sizes;
      others = λ node other. second.others node other ∙ first.others node other;
      outside = λ i out. second.outside i out ∙ first.outside i out;
    }

pub keeps_on : (places mid_places : List Place) (old mid now : BankSeen) → mid_places ≡ places
    → KeepsOutside places old mid → KeepsOutside mid_places mid now → KeepsOutside places old now
keeps_on places mid_places old mid now same first second =
    keeps_further places old mid now first (subst (λ (ps : List Place). KeepsOutside ps mid now) same second)
