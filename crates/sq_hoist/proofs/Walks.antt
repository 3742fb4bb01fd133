-- What is found on the way, with what a statement is itself, is what stands in it.
use Rattle.std.proofs.Common.{◌≡◌, ℕ, Bool, List, [], ◌∷◌, ◌++◌, Option, Some, None, refl, sym, ◌∙◌, ap}
use Rattle.std.proofs.lemmas.List.{append-nil}
use Rattle.sq_text.specs.declared.place.Place.{Place}
use Rattle.sq_hoist.specs.declared.sites.Site.{Site}
use Rattle.sq_spec.specs.declared.statement.CallInstance.{CallInstance}
use Rattle.sq_spec.specs.declared.statement.Statement.TheVariants as s
use Rattle.sq_hoist.specs.Loops.{Nest, seen, sites_by, looped_by}
use Rattle.sq_hoist.specs.Counts.{found_by, own_site}
use Rattle.sq_hoist.proofs.Opened.{inner_call}

pub found_and_own : (caller : ℕ) (o : Option Nest) (inner : List Site)
    → found_by o inner ++ own_site caller o ≡ sites_by caller o inner
found_and_own caller None inner = append-nil inner
found_and_own caller (Some n) inner = refl

-- what a loop's body is, the loop is
pub found_alone : (caller : ℕ) (place : Place) (counts : List ℕ) (o : Option Nest) (inner : List Site)
    → found_by o inner ≡ found_by (looped_by place counts o) (sites_by caller o inner ++ [])
found_alone caller place counts None inner = sym (append-nil inner)
found_alone caller place counts (Some n) inner = refl

found_none : (o : Option Nest) → found_by o [] ≡ []
found_none None = refl
found_none (Some n) = refl

-- in a call nothing stands
pub nothing_found : (caller : ℕ) (lower : Bool) (rows : List CallInstance) (o : Option Nest) (out : List Site)
    → out ≡ out ++ found_by o (seen caller (s.Call lower rows)).inner
nothing_found caller lower rows o out =
    sym (ap (λ (xs : List Site). out ++ found_by o xs) (inner_call caller lower rows)
    ∙ ap (λ (xs : List Site). out ++ xs) (found_none o) ∙ append-nil out)
