-- What the statements of a loop's body do at the turns of a block.
use Rattle.std.specs.Prelude.{◌≡◌, ℕ, zero, suc, ◌+◌, ◌*◌, ◌^◌, ◌<◌, ◌≤◌, List, [], ◌∷◌, length, drop, get_or, Option, Some, None, ℤ, pos, if◌then◌else◌}
use Rattle.std.specs.Int.{int_min, int_max}
use Rattle.std.specs.List.{All}
use Rattle.sq_num.specs.declared.Elem.{Elem}
use Rattle.sq_num.specs.Elements.{width}
use Rattle.sq_columns.specs.declared.line.Line.TheVariants.{Column}
use Rattle.sq_columns.specs.Lines.{line_at}
use Rattle.sq_leaf.specs.Numbers.{is_zero, unary, binary}
use Rattle.sq_leaf.specs.Source.{assigned}
use Rattle.sq_leaf.specs.Spots.{load, store}
use Rattle.sq_deeds.specs.declared.rise.Rise.{Rise}
use Rattle.sq_deeds.specs.declared.deeds.Numbers.{Numbers}
use Rattle.sq_deeds.specs.declared.deeds.Link.{Link}
use Rattle.sq_deeds.specs.declared.deeds.Link.TheVariants.{Unary, Onto, Under, Least, Most, Itself}
use Rattle.sq_deeds.specs.declared.deeds.Value.{Value}
use Rattle.sq_deeds.specs.declared.deeds.Value.TheVariants as value
use Rattle.sq_deeds.specs.declared.deeds.Put.{Put}
use Rattle.sq_deeds.specs.declared.deeds.Deed.{Deed}
use Rattle.sq_deeds.specs.declared.deeds.Deed.TheVariants.{Always, Choice}

-- ---- numbers of turns

abbrev pub number_at : List ℤ → Numbers → ℕ → ℤ
number_at columns x j = line_at x.line (drop x.from columns) j

-- those of the column that begins with this number of all columns
abbrev pub column : ℕ → Numbers
column from = record { line = Column; from = from }

-- the first byte of a turn's element
abbrev pub byte_at : Rise → ℕ → ℕ
byte_at r j = r.at + r.step * j

-- what an operator makes of a number, where operators began with the first
abbrev pub linked : List ℤ → Link → ℕ → ℤ → ℤ → ℤ
linked columns (Unary op) j first x = unary op x
linked columns (Onto op y) j first x = binary op x (number_at columns y j)
linked columns (Under op y) j first x = binary op (number_at columns y j) x
linked columns (Least y) j first x = int_min x (number_at columns y j)
linked columns (Most y) j first x = int_max x (number_at columns y j)
linked columns (Itself op) j first x = binary op x first

abbrev pub along_from : List ℤ → List Link → ℕ → ℤ → ℤ → ℤ
along_from columns [] j first x = x
along_from columns (l ∷ ls) j first x = along_from columns ls j first (linked columns l j first x)

-- what they make of the first
abbrev pub along_links : List ℤ → List Link → ℕ → ℤ → ℤ
along_links columns ls j first = along_from columns ls j first first

-- the number that turn j puts, by the bytes that it meets
abbrev pub value_at : List ℤ → Value → ℕ → List ℕ → ℤ
value_at columns (value.Known x) j c = number_at columns x j
value_at columns (value.Carried r) j c = along_links columns r.links.items j (load (record { elem = r.elem; at = byte_at r.read j }) c)

-- ---- what a turn does to the bytes

abbrev pub put_at_turn : List ℤ → Put → ℕ → List ℕ → List ℕ
put_at_turn columns p j c =
    store (record { elem = p.elem; at = byte_at p.to j })
    (assigned p.op (load (record { elem = p.elem; at = byte_at p.to j }) c) (value_at columns p.value j c)) c

abbrev pub put_or_not : List ℤ → Option Put → ℕ → List ℕ → List ℕ
put_or_not columns (Some p) j c = put_at_turn columns p j c
put_or_not columns None j c = c

abbrev pub done : List ℤ → Deed → ℕ → List ℕ → List ℕ
done columns (Always p) j c = put_at_turn columns p j c
done columns (Choice test taken other) j c =
    if is_zero (number_at columns test j) then put_or_not columns other j c else put_or_not columns taken j c

abbrev pub all_done : List ℤ → List Deed → ℕ → List ℕ → List ℕ
all_done columns [] j c = c
all_done columns (d ∷ ds) j c = all_done columns ds j (done columns d j c)

-- n turns from turn j on
abbrev pub turns_done : List ℤ → List Deed → ℕ → ℕ → List ℕ → List ℕ
turns_done columns ds zero j c = c
turns_done columns ds (suc n) j c = turns_done columns ds n (suc j) (all_done columns ds j c)

-- ---- what lies inside: n turns, columns of so many numbers, a memory of so many bytes

abbrev pub HasColumn : ℕ → Numbers → Type 0
HasColumn most x = x.from + 256 ≤ most

-- an element of each turn
pub record IsRoomy (n size : ℕ) (e : Elem) (r : Rise) : Type 0 where
  pub near : r.at < 2 ^ 62
  pub slow : r.step ≤ 2 ^ 32
  pub room : (j : ℕ) → j < n → byte_at r j + width e ≤ size

abbrev pub LinkFits : ℕ → Link → Type 0
LinkFits most (Unary op) = Unit
LinkFits most (Onto op y) = HasColumn most y
LinkFits most (Under op y) = HasColumn most y
LinkFits most (Least y) = HasColumn most y
LinkFits most (Most y) = HasColumn most y
LinkFits most (Itself op) = Unit

abbrev pub ValueFits : ℕ → ℕ → ℕ → Value → Type 0
ValueFits n most size (value.Known x) = HasColumn most x
ValueFits n most size (value.Carried r) = IsRoomy n size r.elem r.read × All (LinkFits most) r.links.items

pub record PutFits (n most size : ℕ) (p : Put) : Type 0 where
  pub to : IsRoomy n size p.elem p.to
  pub value : ValueFits n most size p.value

abbrev pub MayFit : ℕ → ℕ → ℕ → Option Put → Type 0
MayFit n most size (Some p) = PutFits n most size p
MayFit n most size None = Unit

abbrev pub DeedFits : ℕ → ℕ → ℕ → Deed → Type 0
DeedFits n most size (Always p) = PutFits n most size p
DeedFits n most size (Choice test taken other) = HasColumn most test × (MayFit n most size taken × MayFit n most size other)

-- ---- columns that stay

-- the numbers before this one are the same
pub record AreKept (k : ℕ) (old new : List ℤ) : Type 0 where
  pub size : length new ≡ length old
  pub same : (i : ℕ) → i < k → get_or new i (pos 0) ≡ get_or old i (pos 0)
