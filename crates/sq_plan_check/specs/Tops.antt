-- What is known of the greatest numbers that reached each key.
use Rattle.std.specs.Prelude.{◌≡◌, ℕ, Bool, true, false, ◌<◌, ◌≤◌, ◌⊎◌, max, nat_lt, ◌==◌, if◌then◌else◌}
use Rattle.sq_plan_check.specs.declared.top.Top.{Top}
use Rattle.sq_plan_check.specs.declared.tops.Tops.{Tops}
use Rattle.sq_plan_check.specs.declared.tops.Tops.TheVariants.{One, Cut'}

abbrev pub none : Top
none = record { first = 0; color = 0; other = 0 }

-- the greatest number of what has another color
abbrev pub beside : Top → (color : ℕ) → ℕ
beside t color = if color == t.color then t.other else t.first

-- with one more number of a color
abbrev pub raised : Top → (number color : ℕ) → Top
raised t number color =
    if color == t.color then record { first = max t.first number; color = color; other = t.other }
    else (if nat_lt t.first number then record { first = max number t.other; color = color; other = max t.first t.other }
    else record { first = t.first; color = t.color; other = max t.other number })

-- one of two statements
abbrev pub Choose : Bool → Type 0 → Type 0 → Type 0
Choose true A B = A
Choose false A B = B

-- who looks for other colors than this one at the key meets a number of at least n, wherever the range is cut
abbrev pub Holds : Tops → (key color n : ℕ) → Type 0
Holds (One t) key color n = n ≤ beside t color
Holds (Cut' m p low q high) key color n =
    (n ≤ beside m.all color) × ((n ≤ beside m.cover color) ⊎ Choose (nat_lt key m.cut) (Holds low key color n) (Holds high key color n))

-- the number is at least each that holds at one of these keys
pub record Finds (tops : Tops) (lo hi color found : ℕ) : Type 0 where
  pub each : (key n : ℕ) → lo ≤ key → key < hi → Holds tops key color n → n ≤ found

-- What held holds, and the number of a color holds at these keys for the other colors.
pub record IsRaised (lo hi number color : ℕ) (old new : Tops) : Type 0 where
  pub kept : (key other n : ℕ) → Holds old key other n → Holds new key other n
  pub joined : (key other : ℕ) → lo ≤ key → key < hi → (other ≡ color → ⊥) → Holds new key other number
