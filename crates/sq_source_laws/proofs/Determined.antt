-- Where a phase's faults are told by their places and numbers, its first fault is one.
use Rattle.std.proofs.Common.{◌≡◌, ℕ, inl, inr, Bool, true, false, List, [], ◌∷◌, Option, Some, None, sym, ◌∙◌, ap, subst, arith}
use Rattle.std.specs.List.{AllByRecursion}
use Rattle.sq_text.specs.declared.place.Place.{Place}
use Rattle.sq_text.specs.declared.code.Phase.{Phase}
use Rattle.sq_text.specs.declared.code.Code.{Code}
use Rattle.sq_text.specs.declared.fault.Arg.{Arg}
use Rattle.sq_text.specs.declared.fault.Arg.TheVariants.{Word as AWord, Number}
use Rattle.sq_text.specs.declared.fault.Fault.{Fault}
use Rattle.sq_text.specs.declared.word.Word.{Word}
use Rattle.sq_text.specs.declared.word.Numeral.{Numeral}
use Rattle.sq_text.specs.Places.{IsBefore}
use Rattle.sq_text.specs.Codes.{number}
use Rattle.sq_text.specs.First.{AtOrBefore}
use Rattle.sq_text.specs.Faults.{fault_place, fault_number}
use Rattle.sq_text.specs.Found.{Breach, breach, fault_by, at_word, at_numeral, at_lack, at_place, BreaksIn}

-- ---- two firsts

-- each stands at or before the other
pub record Tied (f g : Fault) : Type 0 where
  pub here : AtOrBefore fault_place fault_number f g
  pub there : AtOrBefore fault_place fault_number g f

no_circle : (p q : Place) → IsBefore p q → IsBefore q p → ⊥
no_circle p q (inl a) (inl b) = absurd (omega (arith, a, b))
no_circle p q (inl a) (inr b) = absurd (omega (arith, a, b.0))
no_circle p q (inr a) (inl b) = absurd (omega (arith, a.0, b))
no_circle p q (inr a) (inr b) = absurd (omega (arith, a.1, b.1))

never_itself : (p q : Place) → IsBefore p q → q ≡ p → ⊥
never_itself p q before same = let itself : IsBefore p p = subst (λ r. IsBefore p r) same before in no_circle p p itself itself

one_order : (f g : Fault) → AtOrBefore fault_place fault_number f g → AtOrBefore fault_place fault_number g f → (fault_place f ≡ fault_place g) × (fault_number f ≡ fault_number g)
one_order f g (inl a) (inl b) = absurd (no_circle (fault_place f) (fault_place g) a b)
one_order f g (inl a) (inr b) = absurd (never_itself (fault_place f) (fault_place g) a b.0)
one_order f g (inr a) (inl b) = absurd (never_itself (fault_place g) (fault_place f) b a.0)
one_order f g (inr a) (inr b) = (a.0, omega (arith, a.1, b.1))

-- the fault at a place, of a number
abbrev pub Table : Type 0
Table = Place → ℕ → Fault

abbrev pub IsTold : Table → Fault → Type 0
IsTold table f = f ≡ table (fault_place f) (fault_number f)

pub told_one : (table : Table) (f g : Fault) → IsTold table f → IsTold table g → Tied f g → f ≡ g
told_one table f g a b tied =
    let order = one_order f g tied.here tied.there in
    a ∙ ap (λ p. table p (fault_number f)) order.0 ∙ ap (table (fault_place g)) order.1 ∙ sym b

-- the name that is missing
abbrev pub lacking : Option (List ℕ) → List Arg
lacking None = []
lacking (Some name) = AWord name ∷ []

-- ---- the table of a phase's rules, from the codes of its numbers and from what each code names at a place

module _ (phase : Phase) (code_of : ℕ → Code) (args_of : Code → Place → List Arg) where
  abbrev pub fault_of : Code → Place → Fault
  fault_of code place = fault_by phase (breach code place (args_of code place))

  abbrev pub told : Table
  told place n = fault_of (code_of n) place

  abbrev pub IsCode : Code → Type 0
  IsCode code = code_of (number phase code) ≡ code

  -- the rule's breach, where it is broken, is the one that the table tells
  abbrev pub Fits : Option Breach → Type 0
  Fits None = Unit {0}
  Fits (Some b) = IsCode b.code × (args_of b.code b.place ≡ b.args)

  pub fits_word : (code : Code) (word : Word) (broken : Bool) → IsCode code → args_of code word.place ≡ AWord word.name ∷ [] → Fits (at_word code word broken)
  fits_word code word true is args = (is, args)
  fits_word code word false is args = tt

  pub fits_numeral : (code : Code) (numeral : Numeral) (broken : Bool) → IsCode code → args_of code numeral.place ≡ Number numeral.value ∷ []
      → Fits (at_numeral code numeral broken)
  fits_numeral code numeral true is args = (is, args)
  fits_numeral code numeral false is args = tt

  pub fits_lack : (code : Code) (word : Word) (lack : Option (List ℕ)) → IsCode code → args_of code word.place ≡ lacking lack → Fits (at_lack code word lack)
  fits_lack code word None is args = tt
  fits_lack code word (Some name) is args = (is, args)

  pub fits_place : (code : Code) (place : Place) (broken : Bool) → IsCode code → args_of code place ≡ [] → Fits (at_place code place broken)
  fits_place code place true is args = (is, args)
  fits_place code place false is args = tt

  pub breach_told : (b : Breach) → Fits (Some b) → IsTold told (fault_by phase b)
  breach_told b h = ap (λ args. fault_by phase (breach b.code b.place args)) (sym h.1) ∙ ap (λ code. fault_of code b.place) (sym h.0)

  -- where every rule fits, so does the fault of each that is broken
  pub told_in : (rules : List (Option Breach)) → AllByRecursion Fits rules → (f : Fault) → BreaksIn (λ rule. rule) phase rules f → IsTold told f
  told_in [] fit f h = absurd h
  told_in (None ∷ rules) fit f (inl is) = absurd (cc)
  told_in (Some b ∷ rules) fit f (inl is) = let same : fault_by phase b ≡ f = cc in subst (IsTold told) same (breach_told b fit.0)
  told_in (rule ∷ rules) fit f (inr h) = told_in rules fit.1 f h
