-- What a window holds of a file, and how a run of bytes is passed.
use Rattle.std.specs.Prelude.{◌≡◌, ℕ, ◌-◌, ◌<◌, Bool, true, false, List, [], ◌∷◌, ◌++◌, length, take, drop, Option, Some, None}
use Rattle.std.specs.List.{fold}
use Rattle.sq_port.specs.Ports.{Content}
use Rattle.sq_text.specs.declared.place.Place.{Place}
use Rattle.sq_arrays.specs.declared.window.Window.{Window}
use Rattle.sq_arrays.specs.declared.window.Ahead.{Ahead}
use Rattle.sq_arrays.specs.declared.window.Ahead.TheVariants.{Bytes, End, Past}
use Rattle.sq_arrays.specs.Words.{is_in, along, within}

-- it is told that the file of that name has these bytes
pub record IsTold (told : Option Content) (name bytes : List ℕ) : Type 0 where
  pub content : Content
  pub is : told ≡ Some content
  pub there : content name ≡ Some bytes

-- where it is told which names are there, that one is
pub record IsThere (told : Option Content) (name : List ℕ) : Type 0 where
  pub there : (c : Content) → told ≡ Some c → (bytes : List ℕ) × (c name ≡ Some bytes)

-- where it is told which names are there, that one isn't
pub record IsMissing (told : Option Content) (name : List ℕ) : Type 0 where
  pub missing : (c : Content) → told ≡ Some c → c name ≡ None

-- the bytes in the window
abbrev pub held : Window → List ℕ
held w = take (w.spot.end - w.spot.start) (drop w.spot.start w.bytes)

-- what is left of the bytes that count
abbrev pub left : Window → List ℕ → List ℕ
left w bytes = drop w.spot.at (within bytes)

-- the window holds the bytes that stand at its position
pub record Stands (told : Option Content) (name : List ℕ) (w : Window) : Type 0 where
  pub front : (bytes : List ℕ) → IsTold told name bytes → (more : List ℕ) × (left w bytes ≡ held w ++ more)
  pub there : 0 < length (held w) → IsThere told name

-- a byte of the other kind is next, or none
abbrev pub Stops : Bool → List ℕ → Type 0
Stops blank [] = Unit {0}
Stops blank (b ∷ bs) = is_in blank b ≡ false

abbrev pub AreIn : Bool → List ℕ → Type 0
AreIn blank [] = Unit {0}
AreIn blank (b ∷ bs) = (is_in blank b ≡ true) × AreIn blank bs

-- from one place in a text to a later one, over bytes of one kind, all of which were judged
pub record Passed {J : Type 0} (next : J → ℕ → J) (blank : Bool) (from to : Place) (text now_text : List ℕ) (before after : J) : Type 0 where
  pub done : List ℕ
  pub whole : text ≡ done ++ now_text
  pub each : AreIn blank done
  pub place : to ≡ along from done
  pub observer : after ≡ fold next before done

-- where it is told what the file has: what is ahead
abbrev pub IsAhead : Ahead → List ℕ → Bool → Type 0
IsAhead Bytes text over = 0 < length text
IsAhead End text over = (text ≡ []) × (over ≡ false)
IsAhead Past text over = (text ≡ []) × (over ≡ true)

-- a whole run was passed, up to what is ahead
pub record PassedRun {J : Type 0} (next : J → ℕ → J) (blank : Bool) (from to : Place) (text now_text : List ℕ) (before after : J) (next_is : Ahead) (over : Bool) : Type 0 where
  pub passed : Passed next blank from to text now_text before after
  pub stops : Stops blank now_text
  pub ahead : IsAhead next_is now_text over
