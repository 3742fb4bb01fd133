-- Deeds that touch no byte of one another.
use Rattle.std.specs.Prelude.{◌⊎◌, ℕ, ◌+◌, ◌<◌, ◌≤◌, List, [], ◌∷◌, Option, Some, None}
use Rattle.sq_num.specs.declared.Elem.{Elem}
use Rattle.sq_num.specs.Elements.{width}
use Rattle.sq_deeds.specs.declared.rise.Rise.{Rise}
use Rattle.sq_deeds.specs.declared.deeds.Value.{Value}
use Rattle.sq_deeds.specs.declared.deeds.Value.TheVariants.{Known, Carried}
use Rattle.sq_deeds.specs.declared.deeds.Put.{Put}
use Rattle.sq_deeds.specs.declared.deeds.Deed.{Deed}
use Rattle.sq_deeds.specs.declared.deeds.Deed.TheVariants.{Always, Choice}
use Rattle.sq_deeds.specs.Deeds.{byte_at}

-- the element of each of n turns lies between two bytes
pub record RiseLies (n : ℕ) (e : Elem) (r : Rise) (low high : ℕ) : Type 0 where
  pub begins : (j : ℕ) → j < n → low ≤ byte_at r j
  pub ends : (j : ℕ) → j < n → byte_at r j + width e ≤ high

abbrev pub ValueLies : ℕ → Value → ℕ → ℕ → Type 0
ValueLies n (Known x) low high = Unit
ValueLies n (Carried r) low high = RiseLies n r.elem r.read low high

-- all that an assignment reads and writes in n turns
pub record PutLies (n : ℕ) (p : Put) (low high : ℕ) : Type 0 where
  pub to : RiseLies n p.elem p.to low high
  pub value : ValueLies n p.value low high

abbrev pub MayLie : ℕ → Option Put → ℕ → ℕ → Type 0
MayLie n (Some p) low high = PutLies n p low high
MayLie n None low high = Unit

abbrev pub DeedLies : ℕ → Deed → ℕ → ℕ → Type 0
DeedLies n (Always p) low high = PutLies n p low high
DeedLies n (Choice test taken other) low high = MayLie n taken low high × MayLie n other low high

-- all that a deed reads and writes in n turns lies below these bytes, or behind them
pub record IsApart (n low high : ℕ) (d : Deed) : Type 0 where
  pub from : ℕ
  pub to : ℕ
  pub lies : DeedLies n d from to
  pub apart : (high ≤ from) ⊎ (to ≤ low)

abbrev pub AreApart : ℕ → ℕ → ℕ → List Deed → Type 0
AreApart n low high [] = Unit
AreApart n low high (d ∷ ds) = IsApart n low high d × AreApart n low high ds

-- it touches no byte that the others touch
pub record IsAlone (n : ℕ) (d : Deed) (ds : List Deed) : Type 0 where
  pub low : ℕ
  pub high : ℕ
  pub lies : DeedLies n d low high
  pub apart : AreApart n low high ds

-- they touch no byte of one another
pub record ArePutsApart (n : ℕ) (p q : Put) : Type 0 where
  pub low : ℕ
  pub high : ℕ
  pub from : ℕ
  pub to : ℕ
  pub first : PutLies n p low high
  pub second : PutLies n q from to
  pub apart : (high ≤ from) ⊎ (to ≤ low)

pub record AreTargetsApart (n : ℕ) (p q : Put) : Type 0 where
  pub low : ℕ
  pub high : ℕ
  pub from : ℕ
  pub to : ℕ
  pub first : RiseLies n p.elem p.to low high
  pub second : RiseLies n q.elem q.to from to
  pub apart : (high ≤ from) ⊎ (to ≤ low)
