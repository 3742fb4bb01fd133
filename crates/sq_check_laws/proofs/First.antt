-- A plan has one first flaw at most.
use Rattle.std.proofs.Common.{◌≡◌, ℕ, ◌<◌, ◌≤◌, ◌⊎◌, inl, inr, Option, Some, None, refl, ap, ◌∙◌, arith}
use Rattle.sq_ir.specs.Events.{Leaves}
use Rattle.sq_ir.specs.Plans.{setting_of}
use Rattle.sq_ir.specs.declared.plan.Plan.{Plan}
use Rattle.sq_check_laws.specs.Whole.{whole_of}
use Rattle.sq_check_laws.specs.Flaws.{IsFirstClash, IsFirstLack}
use Rattle.sq_check_laws.specs.First.{IsFirstFlaw}
use Rattle.sq_check_laws.specs.PlanLaws.{FirstFlawsAreOne}
use Rattle.sq_check_laws.specs.declared.flaw.Flaw.{Flaw}
use Rattle.sq_check_laws.specs.declared.flaw.Flaw.TheVariants.{TooManyEvents, Clash, NoRoom}

abbrev Before : (a b c d : ℕ) → Type 0
Before a b c d = (b < d) ⊎ ((b ≡ d) × (a ≤ c))

one_pair : (a b c d : ℕ) → Before a b c d → Before c d a b → (a ≡ c) × (b ≡ d)
one_pair a b c d (inl l) (inl k) = absurd (omega (arith, l, k))
one_pair a b c d (inl l) (inr k) = absurd (omega (arith, l, k.0))
one_pair a b c d (inr l) (inl k) = absurd (omega (arith, l.0, k))
one_pair a b c d (inr l) (inr k) = (omega (arith, l.1, k.1), l.0)

abbrev Ahead : (n a b m c d : ℕ) → Type 0
Ahead n a b m c d = (n < m) ⊎ ((n ≡ m) × Before a b c d)

one_triple : (n a b m c d : ℕ) → Ahead n a b m c d → Ahead m c d n a b → (n ≡ m) × (a ≡ c) × (b ≡ d)
one_triple n a b m c d (inl l) (inl k) = absurd (omega (arith, l, k))
one_triple n a b m c d (inl l) (inr k) = absurd (omega (arith, l, k.0))
one_triple n a b m c d (inr l) (inl k) = absurd (omega (arith, l.0, k))
one_triple n a b m c d (inr l) (inr k) = let p = one_pair a b c d l.1 k.1 in (l.0, p.0, p.1)

module _ {C : Type 0} (leaves : Leaves C) (p : Plan) where
  same_clash : (a b c d : ℕ) → IsFirstClash leaves (whole_of p) a b → IsFirstClash leaves (whole_of p) c d → Some (Clash a b) ≡ Some (Clash c d)
  same_clash a b c d h g =
      let e = one_pair a b c d (h.first c d g.clash) (g.first a b h.clash) in
      ap (λ z. Some (Clash z b)) e.0 ∙ ap (λ z. Some (Clash c z)) e.1

  same_lack : (n a b m c d : ℕ) → IsFirstLack (setting_of p) (whole_of p) n a b → IsFirstLack (setting_of p) (whole_of p) m c d → Some (NoRoom n a b) ≡ Some (NoRoom m c d)
  same_lack n a b m c d h g =
      let e = one_triple n a b m c d (h.first m c d g.lack) (g.first n a b h.lack) in
      ap (λ z. Some (NoRoom z a b)) e.0 ∙ ap (λ z. Some (NoRoom m z b)) e.1 ∙ ap (λ z. Some (NoRoom m c z)) e.2

  one_flaw : (x y : Option Flaw) → IsFirstFlaw leaves p x → IsFirstFlaw leaves p y → x ≡ y
  one_flaw None None h g = refl
  one_flaw None (Some TooManyEvents) h g = absurd (h.0 g)
  one_flaw None (Some (Clash a b)) h g = absurd (h.1 a b g.1.clash)
  one_flaw None (Some (NoRoom n a b)) h g = absurd (h.2 n a b g.2.lack)
  one_flaw (Some TooManyEvents) None h g = absurd (g.0 h)
  one_flaw (Some TooManyEvents) (Some TooManyEvents) h g = refl
  one_flaw (Some TooManyEvents) (Some (Clash a b)) h g = absurd (g.0 h)
  one_flaw (Some TooManyEvents) (Some (NoRoom n a b)) h g = absurd (g.0 h)
  one_flaw (Some (Clash a b)) None h g = absurd (g.1 a b h.1.clash)
  one_flaw (Some (Clash a b)) (Some TooManyEvents) h g = absurd (h.0 g)
  one_flaw (Some (Clash a b)) (Some (Clash c d)) h g = same_clash a b c d h.1 g.1
  one_flaw (Some (Clash a b)) (Some (NoRoom n c d)) h g = absurd (g.1 a b h.1.clash)
  one_flaw (Some (NoRoom n a b)) None h g = absurd (g.2 n a b h.2.lack)
  one_flaw (Some (NoRoom n a b)) (Some TooManyEvents) h g = absurd (h.0 g)
  one_flaw (Some (NoRoom n a b)) (Some (Clash c d)) h g = absurd (h.1 c d g.1.clash)
  one_flaw (Some (NoRoom n a b)) (Some (NoRoom m c d)) h g = same_lack n a b m c d h.2 g.2

pub first_flaws_are_one : (C : Type 0) → FirstFlawsAreOne C
first_flaws_are_one C leaves p x y h g = one_flaw leaves p x y h g
