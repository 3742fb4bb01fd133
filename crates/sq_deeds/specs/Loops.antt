-- Loops over the turns of a block whose turns are all of one form.
use Rattle.std.specs.Prelude.{◌≡◌, ℕ, zero, suc, ◌+◌, ◌<◌, length, get_or, slice_set, Bool, true, false, List, ◌∷◌, [], Some, None, ℤ, pos, if◌then◌else◌}
use Rattle.sq_num.specs.declared.Elem.{Elem}
use Rattle.sq_ast.specs.declared.leaf.AssignOp.{AssignOp}
use Rattle.sq_ast.specs.declared.expr.BinOp.TheVariants.{Add}
use Rattle.sq_leaf.specs.Numbers.{is_zero}
use Rattle.sq_leaf.specs.Source.{assigned}
use Rattle.sq_leaf.specs.Spots.{load, store}
use Rattle.sq_deeds.specs.declared.rise.Rise.{Rise}
use Rattle.sq_deeds.specs.declared.deeds.Numbers.{Numbers}
use Rattle.sq_deeds.specs.declared.deeds.Tested.{Tested}
use Rattle.sq_deeds.specs.declared.deeds.Link.{Link}
use Rattle.sq_deeds.specs.declared.deeds.Link.TheVariants.{Unary, Onto, Under, Least, Most, Itself}
use Rattle.sq_deeds.specs.declared.deeds.Put.{Put}
use Rattle.sq_deeds.specs.declared.deeds.Deed.{Deed}
use Rattle.sq_deeds.specs.declared.deeds.Deed.TheVariants.{Choice}
use Rattle.sq_deeds.specs.Deeds.{number_at, byte_at, along_links, column, HasColumn}

-- n turns from turn j on, each of which does this to the bytes
abbrev pub in_turn : (ℕ → List ℕ → List ℕ) → ℕ → ℕ → List ℕ → List ℕ
in_turn f zero j c = c
in_turn f (suc n) j c = in_turn f n (suc j) (f j c)

-- the second number where the test is 0, else the first
abbrev pub chosen : ℤ → ℤ → ℤ → ℤ
chosen test x y = if is_zero test then y else x

-- the same where it is told at which test the first one counts
abbrev pub picked : Bool → ℤ → ℤ → ℤ → ℤ
picked true test x y = chosen test y x
picked false test x y = chosen test x y

-- a turn puts what operators make of an element as it meets it
abbrev pub carry_turn : List ℤ → Elem → AssignOp → Rise → Elem → Rise → List Link → ℕ → List ℕ → List ℕ
carry_turn columns e op to from read links j c =
    store (record { elem = e; at = byte_at to j })
    (assigned op (load (record { elem = e; at = byte_at to j }) c)
    (along_links columns links j (load (record { elem = from; at = byte_at read j }) c))) c

-- the same where the element is the next one of those that are read
abbrev pub next_turn : List ℤ → Elem → Rise → List Link → ℕ → List ℕ → List ℕ
next_turn columns e r links j c =
    store (record { elem = e; at = byte_at r (j + 1) }) (along_links columns links j (load (record { elem = e; at = byte_at r j }) c)) c

-- an operator, and a column that is added behind it
abbrev pub and_column : Link → ℕ → List Link
and_column first from = first ∷ Onto Add (column from) ∷ []

-- a turn puts its number, or leaves the element as it was
abbrev pub where_turn : List ℤ → Elem → Rise → Tested → ℕ → List ℕ → List ℕ
where_turn columns e to t j c =
    store (record { elem = e; at = byte_at to j })
    (picked t.at_zero (number_at columns t.test j)
    (assigned t.op (load (record { elem = e; at = byte_at to j }) c) (number_at columns t.x j))
    (load (record { elem = e; at = byte_at to j }) c)) c

-- the numbers lie in columns of so many
pub record AreTested (most : ℕ) (t : Tested) : Type 0 where
  pub test : HasColumn most t.test
  pub number : HasColumn most t.x

-- what is put for turn j from this place of the columns on changes none of these numbers at a later turn
pub record IsReadFirst (at : ℕ) (x : Numbers) : Type 0 where
  pub stays : (columns : List ℤ) (v : ℤ) (i j : ℕ) → j < i → i < 256 → number_at (slice_set columns (at + j) v) x i ≡ number_at columns x i

-- numbers lie in so many of columns, and are read before those that are chosen are put in the place of the test's
pub record MayChoose (most : ℕ) (t x y : Numbers) : Type 0 where
  pub test : HasColumn most t
  pub left : HasColumn most x
  pub right : HasColumn most y
  pub left_first : IsReadFirst t.from x
  pub right_first : IsReadFirst t.from y

-- so the columns are then
pub record AreChosen (n : ℕ) (t x y : Numbers) (old new : List ℤ) : Type 0 where
  pub size : length new ≡ length old
  pub each : (j : ℕ) → j < n → get_or new (t.from + j) (pos 0) ≡ chosen (number_at old t j) (number_at old x j) (number_at old y j)

-- an assignment where the test is 0, or where it isn't, and nothing else
abbrev pub only_where : Bool → Numbers → Put → Deed
only_where true test p = Choice test None (Some p)
only_where false test p = Choice test (Some p) None

abbrev pub IsLinkFirst : ℕ → Link → Type 0
IsLinkFirst at (Unary op) = Unit
IsLinkFirst at (Onto op y) = IsReadFirst at y
IsLinkFirst at (Under op y) = IsReadFirst at y
IsLinkFirst at (Least y) = IsReadFirst at y
IsLinkFirst at (Most y) = IsReadFirst at y
IsLinkFirst at (Itself op) = Unit

abbrev pub AreLinksFirst : ℕ → List Link → Type 0
AreLinksFirst at [] = Unit
AreLinksFirst at (l ∷ ls) = IsLinkFirst at l × AreLinksFirst at ls
