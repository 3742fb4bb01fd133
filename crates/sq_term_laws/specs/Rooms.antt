-- Placed sources whose scopes stand aside.
use Rattle.std.specs.Prelude.{◌≡◌, ℕ, suc, ◌<◌, true, if◌then◌else◌, None}
use Rattle.sq_placed.specs.Placed.{Placed, Nothing, Then, Each, AtOnce, Gathers, Call, Hold, Piped, Leaf}

-- of a form's statements: no call at the form's own level, and no spread map
abbrev pub OnlyLower : Placed → Type 0
OnlyLower Nothing = Unit {0}
OnlyLower (Then a b) = OnlyLower a × OnlyLower b
OnlyLower (Each count w) = (t : ℕ) → OnlyLower (w t)
OnlyLower (AtOnce place spread count w) = (spread ≡ None) × ((t : ℕ) → OnlyLower (w t))
OnlyLower (Gathers r place spread count w) = (spread ≡ None) × ((t : ℕ) → OnlyLower (w t))
OnlyLower (Call c w) = c.lower ≡ true
OnlyLower (Hold args w) = OnlyLower w
OnlyLower (Piped spread count calls w) = spread ≡ None
OnlyLower (Leaf code leaf shapes) = Unit {0}

-- Of a form of this level, of so many: lower calls stand above the last level, and in spread maps are only such.
abbrev pub IsSpreadWell : (levels level : ℕ) → Placed → Type 0
IsSpreadWell levels level Nothing = Unit {0}
IsSpreadWell levels level (Then a b) = IsSpreadWell levels level a × IsSpreadWell levels level b
IsSpreadWell levels level (Each count w) = (t : ℕ) → IsSpreadWell levels level (w t)
IsSpreadWell levels level (AtOnce place spread count w) = (t : ℕ) → IsSpreadWell levels level (w t)
    × ((spread ≡ None → ⊥) → OnlyLower (w t))
IsSpreadWell levels level (Gathers r place spread count w) = (t : ℕ) → IsSpreadWell levels level (w t)
    × ((spread ≡ None → ⊥) → OnlyLower (w t))
IsSpreadWell levels level (Call c w) = (c.lower ≡ true → suc level < levels)
    × IsSpreadWell levels (if c.lower then suc level else level) w
IsSpreadWell levels level (Hold args w) = (suc level < levels) × IsSpreadWell levels level w
IsSpreadWell levels level (Piped spread count calls w) = (suc level < levels)
    × ((t : ℕ) → IsSpreadWell levels (suc level) (w t))
IsSpreadWell levels level (Leaf code leaf shapes) = Unit {0}
