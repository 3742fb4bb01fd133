-- What was found among the events and scopes of a term.
use Rattle.std.specs.Prelude.{◌≡◌, ℕ, Option, List}
use Rattle.sq_text.specs.declared.place.Place.{Place}
use Rattle.sq_plantext.specs.declared.text.EventText.{EventText}
use Rattle.sq_plantext.specs.declared.text.TermText.{TermText}
use Rattle.sq_plantext.specs.declared.text.PlanText.{PlanText}
use Rattle.sq_planfile.specs.Sound.{each_part, IsEventText, IsScope, AreEvents}
use Rattle.sq_planfile.specs.Faults.{some_part, IsBadIn}
use Rattle.sq_planevents.specs.First.{Judges}
use Rattle.sq_planevents.specs.Standing.{env_of, HaveSame}
use Rattle.sq_planevents.specs.declared.standing.Standing.{Standing}

-- something at one place
abbrev pub JudgesOne : (Good : Type 0) → Place → (old new : Option Place) → Type 0
JudgesOne Good place = Judges Good (λ p. (Good → ⊥) × (p ≡ place))

abbrev pub JudgesEvent : PlanText → (nodes scopes : List ℕ) → EventText → Place → (old new : Option Place) → Type 0
JudgesEvent x nodes scopes e = JudgesOne (IsEventText x (env_of nodes) scopes e)

abbrev pub JudgesScope : PlanText → (nodes : List ℕ) → (node : ℕ) → (buffers : List ℕ) → Place → (old new : Option Place) → Type 0
JudgesScope x nodes node buffers = JudgesOne (IsScope x (env_of nodes) node buffers)

-- wherever the same buffers are in scope
pub record JudgesTerm (x : PlanText) (t : TermText) (at : Standing) (old new : Option Place) : Type 0 where
  pub judged : (bs : List ℕ) → HaveSame at.scopes bs → Judges (AreEvents x t (env_of at.nodes) bs) (IsBadIn x t (env_of at.nodes) bs) old new

pub record JudgesTerms (x : PlanText) (ts : List TermText) (at : Standing) (old new : Option Place) : Type 0 where
  pub judged : (bs : List ℕ) → HaveSame at.scopes bs → Judges (each_part (AreEvents x) ts (env_of at.nodes) bs) (some_part (IsBadIn x) ts (env_of at.nodes) bs) old new
