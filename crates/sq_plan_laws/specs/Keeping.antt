-- What else is asked of a placed source so that its tree follows it: where arrays stand, and which are written.
use Rattle.std.specs.Prelude.{◌≡◌, ◌≢◌, ℕ, suc, ◌<◌, ◌++◌, Bool, true, false, List, [], get_or, Option, Some, None}
use Rattle.std.specs.Prelude.{slice_get}
use Rattle.sq_leaf.specs.Leaf.{written_of}
use Rattle.sq_ast.specs.Modes.{is_written}
use Rattle.sq_text.specs.declared.place.Place as text
use Rattle.sq_text.specs.declared.spread.SpreadRule.{SpreadRule}
use Rattle.sq_placed.specs.FormLaws.Laws.{Apart, SharesElement}
use Rattle.sq_placed.specs.Placed.{Placed, PlacedArg, PlacedCall, arguments, Nothing, Then, Each, AtOnce, Gathers, Call}
use Rattle.sq_placed.specs.Placed.{Hold, Piped, Leaf}
use Rattle.sq_cells.specs.Work.{Buffer, Held}
use Rattle.sq_cells.specs.Lowered.{stays, held, in_place}
use Rattle.sq_plan_laws.specs.Calling.{place_of}

-- may: which of the caller's arrays may be written
pub record CallBase (c : PlacedCall) (may : ℕ → Bool) : Type 0 where
  -- an argument that has no buffer of the call's own shares no element with another, or neither is written
  pub apart : (k : ℕ) (p : PlacedArg) → slice_get c.args k ≡ Some p → stays (place_of p.home) ≡ true
      → Apart (arguments c.args) k
  pub permitted : (k : ℕ) (p : PlacedArg) → slice_get c.args k ≡ Some p → is_written p.argument.mode ≡ true
      → may p.argument.array ≡ true
  -- what is reduced into has a buffer
  pub sum_home : (k : ℕ) (p : PlacedArg) → slice_get c.args k ≡ Some p → p.gathers ≢ None → place_of p.home ≡ Buffer

-- a call with no loop round it that holds arguments
pub record CallKeeps (c : PlacedCall) (may : ℕ → Bool) : Type 0 where
  pub base : CallBase c may
  pub not_held : (k : ℕ) (p : PlacedArg) → slice_get c.args k ≡ Some p → held (place_of p.home) ≡ false

-- a call in loops that hold these arguments
pub record CallHolds (c : PlacedCall) (may : ℕ → Bool) (H : List PlacedArg) : Type 0 where
  pub base : CallBase c may
  pub lower : c.lower ≡ true
  pub held_in : (k : ℕ) (p : PlacedArg) → slice_get c.args k ≡ Some p → place_of p.home ≡ Held → (j : ℕ)
      × (slice_get H j ≡ Some p)

abbrev pub CallIn : (nest : Bool) → PlacedCall → (may : ℕ → Bool) → (H : List PlacedArg) → Type 0
CallIn false c may H = CallKeeps c may
CallIn true c may H = CallHolds c may H

abbrev pub NoNest : Bool → Type 0
NoNest false = Unit {0}
NoNest true = ⊥

-- each call in it has this argument
abbrev pub AllCalls : PlacedArg → Placed → Type 0
AllCalls h Nothing = Unit {0}
AllCalls h (Then a b) = AllCalls h a × AllCalls h b
AllCalls h (Each n w) = (t : ℕ) → t < n → AllCalls h (w t)
AllCalls h (AtOnce place spread n w) = ⊥
AllCalls h (Gathers r place spread n w) = ⊥
AllCalls h (Call c w) = (i : ℕ) × (slice_get c.args i ≡ Some h)
AllCalls h (Hold args w) = AllCalls h w
AllCalls h (Piped None n calls w) = (t : ℕ) → t < n → (i : ℕ) × (slice_get (calls t).args i ≡ Some h)
AllCalls h (Piped (Some q) n calls w) = ⊥
AllCalls h (Leaf number leaf shapes) = ⊥

-- and there is one
abbrev pub OneCall : PlacedArg → Placed → Type 0
OneCall h Nothing = ⊥
OneCall h (Then a b) = OneCall h a
OneCall h (Each n w) = (0 < n) × OneCall h (w 0)
OneCall h (AtOnce place spread n w) = ⊥
OneCall h (Gathers r place spread n w) = ⊥
OneCall h (Call c w) = (i : ℕ) × (slice_get c.args i ≡ Some h)
OneCall h (Hold args w) = OneCall h w
OneCall h (Piped None n calls w) = (0 < n) × (i : ℕ) × (slice_get (calls 0).args i ≡ Some h)
OneCall h (Piped (Some q) n calls w) = ⊥
OneCall h (Leaf number leaf shapes) = ⊥

-- a loop that these arguments leave, in loops that the arguments H leave
pub record HoldKeeps (args H : List PlacedArg) (w : Placed) : Type 0 where
  pub homes : (j : ℕ) (h : PlacedArg) → slice_get args j ≡ Some h → place_of h.home ≡ Held
  pub plain : (j : ℕ) (h : PlacedArg) → slice_get args j ≡ Some h → h.gathers ≡ None
  pub all : (j : ℕ) (h : PlacedArg) → slice_get args j ≡ Some h → AllCalls h w
  pub one : (j : ℕ) (h : PlacedArg) → slice_get args j ≡ Some h → OneCall h w
  -- two of them share no element, or neither is written
  pub apart : (i j : ℕ) (x y : PlacedArg) → i ≢ j → slice_get (args ++ H) i ≡ Some x → slice_get (args ++ H) j ≡ Some y
      → SharesElement x.argument y.argument
      → (is_written x.argument.mode ≡ false) × (is_written y.argument.mode ≡ false)

-- parameters that are not `in`, and locals
abbrev pub may_by : Option PlacedArg → Bool
may_by None = true
may_by (Some p) = is_written p.argument.mode

abbrev pub may_of : PlacedCall → ℕ → Bool
may_of c i = may_by (slice_get c.args i)

-- a taken loop, held arguments left aside: what an iteration writes shares nothing with the next one, and nothing with
-- the one after the next
pub record LoopKeeps (n : ℕ) (calls : ℕ → PlacedCall) : Type 0 where
  pub ahead : (t i j : ℕ) (x y : PlacedArg) → suc t < n → slice_get (calls t).args i ≡ Some x
      → slice_get (calls (suc t)).args j ≡ Some y → place_of x.home ≡ Buffer → place_of y.home ≡ Buffer
      → is_written x.argument.mode ≡ true → SharesElement x.argument y.argument → ⊥
  pub ahead_two : (t i j : ℕ) (x y : PlacedArg) → suc (suc t) < n → slice_get (calls t).args i ≡ Some x
      → slice_get (calls (suc (suc t))).args j ≡ Some y → place_of x.home ≡ Buffer → place_of y.home ≡ Buffer
      → is_written x.argument.mode ≡ true → SharesElement x.argument y.argument → ⊥

-- of a spread map's lists sq_spec's freedom from races gives as much
abbrev pub TakenKeeps : Option (text.Place × SpreadRule) → (n : ℕ) → (ℕ → PlacedCall) → Type 0
TakenKeeps None n calls = LoopKeeps n calls
TakenKeeps (Some q) n calls = Unit {0}

pub record HasBuffers (c : PlacedCall) : Type 0 where
  pub each : (k : ℕ) (p : PlacedArg) → slice_get c.args k ≡ Some p → place_of p.home ≡ Buffer

-- a taken loop in loops that hold arguments: a held one is the same in all iterations
pub record PipedHolds (n : ℕ) (calls : ℕ → PlacedCall) (may : ℕ → Bool) (H : List PlacedArg) : Type 0 where
  pub each : (t : ℕ) → t < n → CallHolds (calls t) may H
  pub moved : (t i : ℕ) (p : PlacedArg) → t < n → slice_get (calls t).args i ≡ Some p → in_place (place_of p.home)
      ≡ false
  pub same : (t u i : ℕ) (p : PlacedArg) → t < n → u < n → slice_get (calls t).args i ≡ Some p → place_of p.home ≡ Held
      → slice_get (calls u).args i ≡ Some p
  pub loop : LoopKeeps n calls

abbrev pub PipedIn : (nest : Bool) → Option (text.Place × SpreadRule) → (n : ℕ) → (ℕ → PlacedCall) → (may : ℕ → Bool)
    → (H : List PlacedArg) → Type 0
PipedIn false spread n calls may H = TakenKeeps spread n calls
    × ((t : ℕ) → t < n → HasBuffers (calls t) × CallKeeps (calls t) may)
PipedIn true None n calls may H = PipedHolds n calls may H
PipedIn true (Some q) n calls may H = ⊥

-- nest: whether it stands in loops that hold arguments, which are H
abbrev pub Keep : Placed → (nest : Bool) → (H : List PlacedArg) → (may : ℕ → Bool) → Type 0
Keep Nothing nest H may = Unit {0}
Keep (Then a b) nest H may = Keep a nest H may × Keep b nest H may
Keep (Each n w) nest H may = (t : ℕ) → t < n → Keep (w t) nest H may
Keep (AtOnce place spread n w) nest H may = NoNest nest × ((t : ℕ) → t < n → Keep (w t) false [] may)
Keep (Gathers r place spread n w) nest H may = NoNest nest × ((t : ℕ) → t < n → Keep (w t) false [] may)
Keep (Call c w) nest H may = CallIn nest c may H × Keep w false [] (may_of c)
Keep (Hold args w) nest H may = HoldKeeps args H w × Keep w true (args ++ H) may
Keep (Piped spread n calls w) nest H may = PipedIn nest spread n calls may H
    × ((t : ℕ) → t < n → Keep (w t) false [] (may_of (calls t)))
Keep (Leaf number leaf shapes) nest H may = NoNest nest
    × ((i : ℕ) → get_or (written_of leaf.variant) i false ≡ true → may i ≡ true)

abbrev pub Keeping : Placed → (may : ℕ → Bool) → Type 0
Keeping p may = Keep p false [] may
