-- Tables of the names that are given.
use Rattle.std.specs.Prelude.{◌≡◌, ℕ, ◌≤◌, true, List, length, is_some}
use Rattle.sq_text.specs.Names.{Bytes, item_of}

-- no name of the table is longer
abbrev pub AreWithin : List (Bytes × ℕ) → ℕ → Type 0
AreWithin table longest = (n : Bytes) → is_some (item_of table n) ≡ true → length n ≤ longest
